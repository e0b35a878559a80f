-- `quota_ok` meets its contract: each return by the tests that led there; the product is at most 1000 × 1000. Assumes nothing.
use Prim.Native.Nat.{ℕ, ◌*◌, ◌≤◌}
use mathlib.Core.Path.{◌≡◌, ap, ◌∙◌}
use mathlib.Core.Bool.{Bool}
use native.Mathlib.Nat.{mul-le-mul}
use native.Mathlib.Omega.{arith}
use lib.Dec.{leb}
use lib.IntN.{pos}
use lib.Signed.{lt_z}
use mir.Syntax.{w32}
use mir.Val.{to_z, of_z}
use Rattle.quota.specs.Quota.{nat_of}
use Rattle.base.proofs.Signed.{told}
use Rattle.quota.proofs.Word.{below_one, from_one, castable_one}
use Rattle.entry.proofs.Laws.{quota_over, quota_none, quota_fits}
use Rattle.soundness.proofs.quota_ok.Goals as goal
use Rattle.soundness.proofs.quota_ok.Goals.{Else-allotment-lt1, Start}

-- the test, of the allotment itself
below : {b : Bool} (s : Start) → lt_z (to_z w32 (of_z w32 s.args.allotment)) (to_z w32 (of_z w32 (pos 1))) ≡ b
    → lt_z s.args.allotment (pos 1) ≡ b
below s e = told w32 s.args.allotment (pos 1) s.ranges.allotment (record { sfits = omega arith }) e

some : (c : Else-allotment-lt1) → 1 ≤ nat_of c.args.allotment
some c = from_one _ (below c.before.before c.if-allotment-lt1.false)

pub returns-then-reservation-gt-WHOLE : goal.returns-then-reservation-gt-WHOLE
returns-then-reservation-gt-WHOLE c = quota_over _ _ _ c.if-reservation-gt-WHOLE.true

pub returns-then-allotment-lt1 : goal.returns-then-allotment-lt1
returns-then-allotment-lt1 c = quota_none _ _ _ (below_one _ (below (goal.at.returns-then-allotment-lt1 c).Start c.if-allotment-lt1.true))

pub overflow_cast-result : goal.overflow_cast-result
overflow_cast-result c = (castable_one _ c.ranges.allotment (some c)).cast

pub overflow_mul-result : goal.overflow_mul-result
overflow_mul-result c = omega (arith, mul-le-mul c.if-reservation-gt-WHOLE.false c.requires.1)

pub returns : goal.returns
returns c =
    let a = c.args in
    ap (λ (n : ℕ). leb n (a.reservation * a.m)) (castable_one a.allotment c.ranges.allotment (some c)).same
    ∙ quota_fits _ _ _ c.if-reservation-gt-WHOLE.false (some c)
