-- What was read is run, the area has room, and the summary is handed on where all the bytes came and none of their blocks is refused.
use Rattle.std.proofs.Common.{◌≡◌, ℕ, ◌+◌, ◌*◌, ◌/◌, ◌≤◌, List, length, take, ap, subst, ◌∙◌, refl, sym, arith, rules, take_all}
use lib.Seq.{length-take-le}
use Rattle.sector.specs.Places.{blocks_in}
use Rattle.usage.proofs.Pieces.{ran_is, front_is}
use Rattle.std.specs.Prelude.{Some, IsSome}
use Rattle.block.specs.Block.{refusal_of}
use Rattle.usage.specs.declared.Usage.{Usage}
use Rattle.usage.specs.declared.Ran.{Ran}
use Rattle.usage.specs.Writer.{used_to, first_in, first_refused, run, run_of, area_after}
use Rattle.usage.proofs.Firsts.{first_number}
use Rattle.mtrsum.specs.declared.Piece.{Piece}
use Rattle.mtrsum.specs.Promise.{whole_of, Whole}
use Rattle.mtrsum.proofs.Pieces.{whole_is, partly_sent}
use Rattle.mtrsum.proofs.sum_some.Given.{Over}
use Rattle.mtrsum.proofs.sum_some.Goals as goal
use Rattle.mtrsum.proofs.sum_some.Goals.{After-is_done}

room_is : (bytes out : List ℕ) (got : ℕ) → length bytes ≡ got → got ≤ 16384 → length out ≡ 32768 → 1024 * blocks_in bytes ≤ length out
unfolding blocks_in
room_is bytes out got s h e = omega (arith, s, h, e)

used_is : (bytes : List ℕ) (got : ℕ) → length bytes ≡ got → 1024 * ((got + 511) / 512) ≡ 1024 * blocks_in bytes
unfolding blocks_in
used_is bytes got s = omega (arith, s)

told_is : (bytes : List ℕ) (u : Usage) (x : Ran) (code : ℕ)
    → Some x ≡ Some (run (first_refused (blocks_in bytes) bytes u.replay.place) (used_to (blocks_in bytes) bytes u))
    → code ≡ refusal_of x.refused
    → (code ≡ first_in (blocks_in bytes) bytes u.replay.place) × (x.usage ≡ used_to (blocks_in bytes) bytes u)
told_is bytes u x code e n =
    let same : x ≡ run (first_refused (blocks_in bytes) bytes u.replay.place) (used_to (blocks_in bytes) bytes u) = cc in (
      n ∙ ap (λ (y : Ran). refusal_of y.refused) same ∙ first_number (blocks_in bytes) bytes u.replay.place,
      ap (λ (y : Ran). y.usage) same,
    )

pub unwrap-ran-requires : goal.unwrap-ran-requires
unwrap-ran-requires g c =
    let area = c.fill-filled.new.input in
    let got = c.count-got.result in
    let few : got ≤ length area = omega (arith, c.fill-filled.ensures.most, c.count-got.ensures) in
    let long : length area ≤ 16384 = omega (arith, c.fill-filled.auto.input, c.requires.0) in
    let room = room_is (take got area) c.args.out.now got (length-take-le got area few) (omega (arith, few, long)) c.requires.1 in
    subst IsSome (sym (c.run.ensures.value ∙ ran_is (take got area) c.args.out.now c.args.usage room)) refl

pub returns-then-not-is_whole : goal.returns-then-not-is_whole
returns-then-not-is_whole g c =
    let area = c.fill-filled.new.input in
    let f = c.fill-filled.result in
    let got = c.count-got.result in
    let bytes = take got area in
    let few : got ≤ length area = omega (arith, c.fill-filled.ensures.most, c.count-got.ensures) in
    let size : length bytes ≡ got = length-take-le got area few in
    let long : length area ≤ 16384 = omega (arith, c.fill-filled.auto.input, c.requires.0) in
    let room = room_is bytes c.args.out.now got size (omega (arith, few, long)) c.requires.1 in
    let whole-run = sym c.unwrap-ran.ensures ∙ (c.run.ensures.value ∙ ran_is bytes c.args.out.now c.args.usage room) in
    let is = told_is bytes c.args.usage c.unwrap-ran.result (refusal_of c.unwrap-ran.result.refused) whole-run refl in
    record {
      filled = c.fill-filled.ensures;
      other =
          ap (λ (n : ℕ). whole_of (first_in (blocks_in (take n area)) (take n area) c.args.usage.replay.place) n (length area))
          (sym c.count-got.ensures)
          ∙ ap (λ (n : ℕ). whole_of n got (length area)) (sym is.0)
          ∙ sym c.is_whole.ensures ∙ c.if-not-is_whole.true;
      unsent = search rules;
    }

-- the summary of a piece that is what it was
module _ (g : Over) (c : After-is_done g) where
  abbrev area : List ℕ
  area = c.fill-filled.new.input

  abbrev got : ℕ
  got = c.count-got.result

  abbrev out : List ℕ
  out = c.run.new.out

  z : (refusal_of c.unwrap-ran.result.refused ≡ 0) × (got ≡ length area)
  z = whole_is (refusal_of c.unwrap-ran.result.refused) got (length area) (sym c.is_whole.ensures ∙ c.if-not-is_whole.false)

  abbrev piece : Piece
  piece = record { usage = c.unwrap-ran.result.usage; written = c.write.result; filled = c.fill-filled.result }

  whole : Whole area c.args.usage out piece
  whole =
      let counts_long : length c.args.usage.counts ≡ 64 = search rules in
      let all : take got area ≡ area = take_all got area (omega (arith, z.1)) in
      let long : length area ≤ 16384 = omega (arith, c.fill-filled.auto.input, c.requires.0) in
      let room : 1024 * blocks_in area ≤ length c.args.out.now = room_is area c.args.out.now (length area) refl long c.requires.1 in
      let after : out ≡ area_after area c.args.out.now c.args.usage =
      c.run.ensures.out_after ∙ ap (λ (l : List ℕ). area_after l c.args.out.now c.args.usage) all in
      let whole-run =
      sym c.unwrap-ran.ensures
      ∙ (c.run.ensures.value ∙ ap (λ (l : List ℕ). run_of l c.args.out.now c.args.usage) all
      ∙ ran_is area c.args.out.now c.args.usage room) in
      let is = told_is area c.args.usage c.unwrap-ran.result (refusal_of c.unwrap-ran.result.refused) whole-run refl in
      let used : 1024 * ((got + 511) / 512) ≡ 1024 * blocks_in area = used_is area got (sym z.1) in
      let handed : c.write.result.handed ≡ 1024 * blocks_in area =
      c.write.ensures ∙ length-take-le (1024 * ((got + 511) / 512)) out (omega (arith, used, room, c.run.auto.out)) ∙ used in
      record {
        filled = c.fill-filled.ensures;
        came = sym c.count-got.ensures ∙ z.1;
        none = sym is.0 ∙ z.0;
        after = is.1;
        handed = handed;
        text =
            ap (λ (k : ℕ). take k out) handed
            ∙ front_is area c.args.out.now out c.args.usage counts_long room (sym is.0 ∙ z.0) after;
      }

pub returns-then-not-is_done : goal.returns-then-not-is_done
returns-then-not-is_done g c =
    let k = (goal.at.returns-then-not-is_done g c).After-is_done in
    partly_sent (area g k) c.args.usage (out g k) (piece g k) (whole g k) (sym c.is_done.ensures ∙ c.if-not-is_done.true)

pub returns : goal.returns
returns g c = (whole g (goal.at.returns g c).After-is_done, sym c.is_done.ensures ∙ c.if-not-is_done.false)
