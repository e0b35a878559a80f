-- A refusal is the one of its number, and a result is refused exactly if its number is not 0.
use Prim.Native.Nat.{ℕ}
use mathlib.Core.Path.{◌≡◌, refl, subst, ◌∙◌}
use mathlib.Core.Bool.{Bool, true, false, cond}
use lib.Dec.{eqb}
use Rattle.std.specs.Prelude.{Result, Ok, Err, is_ok}
use Rattle.std.specs.Result.{result_and}
use Rattle.answers.specs.declared.Refusal.{Refusal}
use Rattle.answers.specs.declared.Refusal.TheVariants as refusal
use Rattle.answers.specs.Numbers.{refusal_number, refusal_named, refused_or, number_in}

-- a result is what its number says
pub refused : {A : Type 0} (a : A) (r : Refusal) → Err r ≡ refused_or (refusal_number r) a
unfolding refusal_named
refused a refusal.Settings = refl
refused a refusal.NoGroup = refl
refused a refusal.GroupNumber = refl
refused a refusal.Amount = refl
refused a refusal.NoRoom = refl
refused a refusal.GroupInUse = refl
refused a refusal.NoThread = refl
refused a refusal.AlreadyAdmitted = refl
refused a refusal.ThreadRunning = refl
refused a refusal.NotBlocked = refl
refused a refusal.NothingRunning = refl
refused a refusal.Busy = refl
refused a refusal.OverSlice = refl
refused a refusal.Reason = refl
refused a refusal.MeterFull = refl
refused a refusal.Unsound = refl
refused a refusal.UnknownKind = refl
refused a refusal.Halted = refl

pub answered : {A B : Type 0} (r : Result A Refusal) (b : B) → result_and r (Ok b) ≡ refused_or (number_in r) b
answered (Ok a) b = refl
answered (Err e) b = refused b e

pub passed : {A : Type 0} (r : Result A Refusal) → is_ok r ≡ eqb (number_in r) 0
passed (Ok a) = refl
passed (Err refusal.Settings) = refl
passed (Err refusal.NoGroup) = refl
passed (Err refusal.GroupNumber) = refl
passed (Err refusal.Amount) = refl
passed (Err refusal.NoRoom) = refl
passed (Err refusal.GroupInUse) = refl
passed (Err refusal.NoThread) = refl
passed (Err refusal.AlreadyAdmitted) = refl
passed (Err refusal.ThreadRunning) = refl
passed (Err refusal.NotBlocked) = refl
passed (Err refusal.NothingRunning) = refl
passed (Err refusal.Busy) = refl
passed (Err refusal.OverSlice) = refl
passed (Err refusal.Reason) = refl
passed (Err refusal.MeterFull) = refl
passed (Err refusal.Unsound) = refl
passed (Err refusal.UnknownKind) = refl
passed (Err refusal.Halted) = refl

-- 0, or a refusal's number
abbrev pub Named : ℕ → Type 0
Named k = number_in (refused_or k (tt {0})) ≡ k

pub either : (b : Bool) (m n : ℕ) → Named m → Named n → Named (cond b m n)
either true m n p q = p
either false m n p q = q

pub named : (k : ℕ) → Named k → eqb k 0 ≡ false → refusal_number (refusal_named k) ≡ k
named k n e = subst (λ (b : Bool). number_in (cond b (Ok (tt {0})) (Err (refusal_named k))) ≡ k) e n

-- a result's test is that of its number
pub tested : {A : Type 0} (r : Result A Refusal) (b : Bool) → b ≡ is_ok r → b ≡ eqb (number_in r) 0
tested r b e = e ∙ passed r
