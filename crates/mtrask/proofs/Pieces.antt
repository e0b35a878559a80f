-- Pieces of a summary, one after the other: what is held between them is the pass over all the bytes so far, and at the end the text is the
-- lines of the answers from all the bytes.
use Prim.Native.Nat.{ℕ, ◌+◌, ◌*◌, ◌/◌, ◌%◌, ◌≤◌, ◌<◌}
use mathlib.Core.Path.{◌≡◌, refl, sym, ap, ◌∙◌}
use mathlib.Core.List.{List, [], ◌++◌}
use mathlib.Core.Bool.{Bool, false, cond}
use native.Mathlib.Omega.{arith}
use lib.ListN.{length, take, length-append, length-map}
use lib.Seq.{length-take-le, take_at}
use Rattle.text.specs.Inner.{Wrote}
use Rattle.text.proofs.Area.{over-length}
use Rattle.sector.specs.Places.{blocks_in}
use Rattle.sector.proofs.Places.{whole-blocks}
use Rattle.summary.specs.declared.questions.Question.{Question}
use Rattle.summary.specs.declared.questions.Pass.{Pass}
use Rattle.summary.specs.Questions.{Answer, answer_of, answers_of}
use Rattle.summary.specs.Pass.{unread, passed_to, settled_all, table_of}
use Rattle.summary.proofs.Passes.{pass-whole, whole-pass}
use Rattle.std.specs.Prelude.{Some, None}
use Rattle.std.specs.declared.io.Error.{Error}
use Rattle.program.specs.declared.Extent.{Extent}
use Rattle.program.specs.Pieces.{is_unread, failure, Pieces}
use Rattle.program.proofs.Reading.{failed_is, unfailed_is}
use Rattle.program.proofs.Writing.{front}
use Rattle.mtrask.specs.declared.questions.Questions.{Questions}
use Rattle.mtrask.specs.declared.Outcome.{Outcome}
use Rattle.mtrask.specs.Promise.{answer_text, asked_in, Passed, Looked, Handed}

begun : (qs : List Question) → unread ≡ passed_to (blocks_in []) [] qs unread
unfolding blocks_in passed_to
begun qs = refl

pub passed_none : (qs : List Question) (p : Pass) → p ≡ unread → Passed qs 0 p
passed_none qs p e = record { bytes = []; size = refl; passed = e ∙ begun qs }

-- one piece more
pub passed_more : (qs : List Question) (read : ℕ) (p r : Pass) (b : List ℕ) → Passed qs read p → read % 512 ≡ 0
    → r ≡ passed_to (blocks_in b) b qs p → Passed qs (read + length b) r
passed_more qs read p r b w whole g =
    let a = w.bytes in
    let j = read / 512 in
    let e : length a ≡ 512 * j = omega (arith, w.size, whole) in
    record {
      bytes = a ++ b;
      size = length-append a b ∙ omega (arith, w.size);
      passed =
          g
          ∙ ap (passed_to (blocks_in b) b qs) (w.passed ∙ ap (λ (n : ℕ). passed_to n a qs unread) (whole-blocks a j e))
          ∙ sym (pass-whole j a b qs unread e);
    }

-- The end.

blocks_most : (a : List ℕ) → length a < 18446744073709551616 → blocks_in a ≤ 18446744073709551615
unfolding blocks_in
blocks_most a h = omega (arith, h)

as_many : (bytes : List ℕ) (qs : List Question) → length (answers_of bytes qs) ≡ length qs
unfolding answers_of
as_many bytes qs = length-map qs (answer_of bytes)

table-front : (xs : List Answer) (count : ℕ) → length xs ≡ count → take count (table_of xs) ≡ xs
unfolding table_of
table-front xs count e = take_at xs _ count e

module _ (q : Questions) (pass : Pass) (extent : Extent) (table : List Answer) (out₀ out : List ℕ) (used : ℕ) where
  pub looked_is : length q.all ≡ 64 → q.count ≤ 64 → extent.read < 18446744073709551616 → Passed (asked_in q) extent.read pass
      → Pieces extent.read extent.last false
      → table ≡ table_of (settled_all pass.place (asked_in q) pass.seen)
      → length out₀ ≡ 2688
      → Wrote out₀ 0 (answer_text (take q.count table)) 2688 out used
      → Looked (asked_in q) out (record { used = used; extent = extent })
  looked_is long few small w pieces e room put =
      let qs = asked_in q in
      let x = answer_text (take q.count table) in
      let size : length qs ≡ q.count = length-take-le q.count q.all (omega (arith, long, few)) in
      let answers : table ≡ table_of (answers_of w.bytes qs) =
      e ∙ ap (λ (p : Pass). table_of (settled_all p.place qs p.seen)) w.passed
      ∙ ap table_of
      (whole-pass w.bytes qs (omega (arith, size, few)) (blocks_most w.bytes (omega (arith, w.size, small)))) in
      let first : take q.count table ≡ answers_of w.bytes qs =
      ap (take q.count) answers ∙ table-front (answers_of w.bytes qs) q.count (as_many w.bytes qs ∙ size) in
      let ends : used ≡ length x = omega (arith, put.ends) in
      let kept : length out ≡ length out₀ = ap length put.text ∙ over-length out₀ 0 x (omega (arith, ends, put.within, room)) in
      record {
        bytes = w.bytes;
        size = w.size;
        pieces = pieces;
        within = omega (arith, kept, put.within, room);
        lines =
            ap (λ (n : ℕ). take n out) ends ∙ ap (take (length x)) put.text ∙ front out₀ x ∙ ap answer_text first;
      }

-- What is handed to the write.
module _ (q : Questions) (out : List ℕ) (x : Outcome) (w : Looked (asked_in q) out x) (handed : ℕ) where
  abbrev text : List ℕ
  text = answer_text (answers_of w.bytes (asked_in q))

  abbrev counted : Bool → ℕ
  counted b = cond b (cond (is_unread x.extent) 2 0) (length text)

  pub handed_text : failure x.extent.last ≡ None → handed ≡ length (take x.used out) → Handed q handed
  handed_text e h = record {
    text = out;
    outcome = x;
    looked = w;
    sent = h ∙ ap length w.lines ∙ sym (ap counted (unfailed_is x.extent.last e));
  }

  pub handed_failed : (error : Error) → failure x.extent.last ≡ Some error → handed ≡ cond (is_unread x.extent) 2 0 → Handed q handed
  handed_failed error e h = record {
    text = out;
    outcome = x;
    looked = w;
    sent = h ∙ sym (ap counted (failed_is x.extent.last error e));
  }
