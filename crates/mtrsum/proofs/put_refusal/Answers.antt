-- The line of a refusal has at most 21 bytes, so that all of it stands in the text.
use Rattle.std.proofs.Common.{◌≡◌, ℕ, [], ◌∷◌, length, take, ap, ◌∙◌, arith}
use Rattle.text.specs.Decimal.{line_of, next, written}
use Rattle.text.proofs.Lines.{line_one}
use Rattle.text.proofs.Writing.{put}
use Rattle.program.proofs.Writing.{front}
use Rattle.mtrsum.proofs.put_refusal.Goals as goal

pub returns : goal.returns
returns c =
    let o = c.args.out.now in
    let x = line_of (c.args.refusal ∷ []) in
    let out = c.put_line.new.area in
    let line : line_of (c.from.result ∷ []) ≡ x = ap (λ (n : ℕ). line_of (n ∷ [])) c.from.ensures in
    let w = put o 0 x 21 out c.put_line.result (line_one c.args.refusal (omega (arith, c.ranges.refusal.fits))) (omega (arith, c.requires))
    (c.put_line.ensures.value ∙ ap (next o 0) line) (c.put_line.ensures.area_after ∙ ap (written o 0) line) in
    let size : c.put_line.result ≡ length x = omega (arith, w.ends) in
    record {
      within = omega (arith, w.within, c.put_line.auto.area, c.requires);
      line = ap (λ (n : ℕ). take n out) size ∙ ap (take (length x)) w.text ∙ front o x;
    }
