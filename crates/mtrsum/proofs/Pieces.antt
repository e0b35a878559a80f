-- Pieces of a journal, one after the other. At the first reading what is known after them is the first refusal of all the bytes so far; at
-- the second, what is carried on is that of all the bytes whose summary was written.
use Prim.Native.Nat.{ℕ, ◌+◌, ◌*◌, ◌/◌, ◌%◌, min, ◌≤◌}
use mathlib.Core.Path.{◌≡◌, refl, sym, ap, ◌∙◌}
use mathlib.Core.List.{List, [], ◌++◌}
use mathlib.Core.Bool.{Bool, true, false, not, cond, ◌&&◌}
use native.Mathlib.Omega.{arith}
use lib.ListN.{length, length-append}
use lib.Dec.{eqb}
use borrow.Author.Tests.{eqb-true}
use Rattle.base.proofs.Bools.{clash}
use Rattle.sector.specs.declared.refusal.Refusal.{Refusal}
use Rattle.sector.specs.declared.refusal.Refusal.TheVariants.{Length, Check, Form}
use Rattle.sector.specs.Places.{blocks_in}
use Rattle.block.specs.Block.{refusal_of}
use Rattle.sector.proofs.Places.{whole-blocks}
use Rattle.program.specs.declared.Written.{Written}
use Rattle.std.specs.Prelude.{Result, Ok, Err, is_ok, is_err}
use Rattle.events.specs.Replay.{left_by}
use Rattle.events.specs.Events.{events_to, events}
use Rattle.usage.specs.Usage.{first_refusal}
use Rattle.usage.specs.declared.Usage.{Usage}
use Rattle.usage.specs.Writer.{charged_all, unused, used_to, first_in}
use Rattle.usage.specs.Inner.{earlier}
use Rattle.usage.proofs.Pieces.{piece_first, place-before, piece_used}
use Rattle.mtrsum.specs.declared.Piece.{Piece}
use Rattle.mtrsum.specs.declared.Other.{Other}
use Rattle.mtrsum.specs.declared.Cut.{Cut}
use Rattle.mtrsum.specs.declared.Cut.TheVariants.{Changed, Unwritten}
use Rattle.mtrsum.specs.Promise.{whole_of, Sofar, Whole, Differs, Partly, Sent, Summed, all, changed, unwritten}

-- The first reading.

turned-true : (b : Bool) → not b ≡ false → b ≡ true
turned-true true e = refl
turned-true false e = sym e

none_first : 0 ≡ first_refusal (events [])
unfolding events blocks_in events_to first_refusal
none_first = refl

pub sofar_none : Sofar 0 0
sofar_none = record { bytes = []; size = refl; refusal-of = none_first }

earlier_zero : (x y : ℕ) → x ≡ 0 → earlier x y ≡ y
unfolding earlier
earlier_zero x y e = ap (λ (n : ℕ). cond (eqb n 0) y n) e

-- one piece more
pub sofar_more : (read refusal : ℕ) (b : List ℕ) (x : ℕ) → Sofar read refusal → not (eqb refusal 0) ≡ false → read % 512 ≡ 0
    → read ≤ 9223372036854775808 → x ≡ first_in (blocks_in b) b (read / 512) → Sofar (read + length b) x
sofar_more read refusal b x w z whole small g =
    let a = w.bytes in
    let e : length a ≡ 512 * (read / 512) = omega (arith, w.size, whole) in
    record {
      bytes = a ++ b;
      size = length-append a b ∙ omega (arith, w.size);
      refusal-of =
          g
          ∙ sym (piece_first (read / 512) a b e (omega (arith, small))
          ∙ earlier_zero (first_refusal (events a)) (first_in (blocks_in b) b (read / 512))
          (sym w.refusal-of ∙ eqb-true refusal 0 (turned-true (eqb refusal 0) z)));
    }

-- a piece that is whole has no refused block, and all the bytes that were wanted
pub whole_is : (refusal read want : ℕ) → whole_of refusal read want ≡ true → (refusal ≡ 0) × (read ≡ want)
whole_is refusal read want e = go (eqb refusal 0) refl e
  where
    go : (b : Bool) → eqb refusal 0 ≡ b → (b && eqb read want) ≡ true → (refusal ≡ 0) × (read ≡ want)
    go true t u = (eqb-true refusal 0 t, eqb-true read want u)
    go false t u = absurd (clash false u refl)

-- The second reading.

pub record Sent-sofar (sent : ℕ) (u : Usage) : Type 0 where
  pub bytes : List ℕ
  pub size : length bytes ≡ sent
  pub none : first_refusal (events bytes) ≡ 0
  pub after : u ≡ used_to (blocks_in bytes) bytes unused

begun : unused ≡ used_to (blocks_in []) [] unused
unfolding used_to blocks_in left_by events_to charged_all
begun = refl

pub sent_none : (n : ℕ) (u : Usage) → n ≡ 0 → u ≡ unused → Sent-sofar n u
sent_none n u z e = record { bytes = []; size = sym z; none = sym none_first; after = e ∙ begun }

pub sent_more : (sent next : ℕ) (u : Usage) (b out : List ℕ) (p : Piece) → Sent-sofar sent u → sent % 512 ≡ 0
    → sent ≤ 18446744073709551615 → next ≡ sent + length b → Whole b u out p → Sent-sofar next p.usage
sent_more sent next u b out p w whole small n g =
    let a = w.bytes in
    let j = sent / 512 in
    let e : length a ≡ 512 * j = omega (arith, w.size, whole) in
    let h : j ≤ 18446744073709551615 = omega (arith, small) in
    let before : u ≡ used_to j a unused = w.after ∙ ap (λ (n : ℕ). used_to n a unused) (whole-blocks a j e) in
    let place : u.replay.place ≡ j = ap (λ (v : Usage). v.replay.place) before ∙ place-before j a b e h in
    record {
      bytes = a ++ b;
      size = length-append a b ∙ omega (arith, w.size, n);
      none =
          piece_first j a b e h
          ∙ earlier_zero (first_refusal (events a)) (first_in (blocks_in b) b j) w.none
          ∙ ap (first_in (blocks_in b) b) (sym place) ∙ g.none;
      after = g.after ∙ ap (used_to (blocks_in b) b) before ∙ piece_used j a b e;
    }

pub sent-all : (size : ℕ) (u : Usage) → Sent-sofar size u → Summed size (record { sent = size; usage = u; end = Ok tt })
sent-all size u w = record {
  bytes = w.bytes;
  sent = w.size;
  most = omega arith;
  none = w.none;
  after = w.after;
  ended = all refl refl;
}

-- a piece of which not all was written
pub partly_sent : (area : List ℕ) (u : Usage) (out : List ℕ) (p : Piece) → Whole area u out p → p.written.done ≡ false
    → Partly area u out p.written
partly_sent area u out p g f = record { piece = p; whole = g; written = refl; undone = f }

-- why the second reading ends before its end
module _ (size sent left : ℕ) (u : Usage) (w : Sent-sofar sent u) (e : sent + left ≡ size) (area : List ℕ) (n : length area
    ≡ min 16384 left)
  where
    pub sent-changed : (o : Other) → Differs area u o → Summed size (record { sent = sent; usage = u; end = Err (Changed o) })
    sent-changed o g = record {
      bytes = w.bytes;
      sent = w.size;
      most = omega (arith, e);
      none = w.none;
      after = w.after;
      ended = changed area o (omega (arith, n, e)) g refl;
    }

    pub sent-unwritten : (out : List ℕ) (w : Written) → Partly area u out w
        → Summed size (record { sent = sent; usage = u; end = Err (Unwritten w) })
    sent-unwritten out x g = record {
      bytes = w.bytes;
      sent = w.size;
      most = omega (arith, e);
      none = w.none;
      after = w.after;
      ended =
          unwritten area out g.piece (omega (arith, n, e)) g.whole (ap (λ (y : Written). y.done) (sym g.written) ∙ g.undone)
          (ap (λ (y : Written). Err (Unwritten y)) g.written);
    }

    pub sent-cut : (out : List ℕ) (x : Cut) → Sent area u out (Err x) → Summed size (record { sent = sent; usage = u; end = Err x })
    sent-cut out (Changed o) g = sent-changed o g
    sent-cut out (Unwritten x) g = sent-unwritten out x g

-- A refusal and its number.

pub refused_err : (r : Result (Unit {0}) Refusal) → is_err r ≡ not (eqb (refusal_of r) 0)
refused_err (Ok u) = refl
refused_err (Err Length) = refl
refused_err (Err Check) = refl
refused_err (Err Form) = refl

pub refused_ok : (r : Result (Unit {0}) Refusal) → is_ok r ≡ eqb (refusal_of r) 0
refused_ok (Ok u) = refl
refused_ok (Err Length) = refl
refused_ok (Err Check) = refl
refused_ok (Err Form) = refl
