-- RULE 6.5: the numbers of an answer: 0 or the refusal, the thread, its slice, the threads before it. An idle dispatch has thread 64.
use Rattle.std.specs.Prelude.{ℕ, cond, eqb, Result, Ok, Err}
use Rattle.answers.specs.declared.Outcome.{Outcome}
use Rattle.answers.specs.declared.Outcome.TheVariants.{Done, Idle, Run}
use Rattle.answers.specs.declared.Refusal.{Refusal}
use Rattle.answers.specs.declared.Refusal.TheVariants as refusal

-- RULE 6.9: the number of each refusal
abbrev pub refusal_number : Refusal → ℕ
refusal_number refusal.Settings = 1
refusal_number refusal.NoGroup = 2
refusal_number refusal.GroupNumber = 3
refusal_number refusal.Amount = 4
refusal_number refusal.NoRoom = 5
refusal_number refusal.GroupInUse = 6
refusal_number refusal.NoThread = 7
refusal_number refusal.AlreadyAdmitted = 8
refusal_number refusal.ThreadRunning = 9
refusal_number refusal.NotBlocked = 10
refusal_number refusal.NothingRunning = 11
refusal_number refusal.Busy = 12
refusal_number refusal.OverSlice = 13
refusal_number refusal.Reason = 14
refusal_number refusal.MeterFull = 15
refusal_number refusal.Unsound = 16
refusal_number refusal.UnknownKind = 19
refusal_number refusal.Halted = 20

-- and the refusal of a number; of one that is none, the last
unfoldable pub refusal_named : ℕ → Refusal
refusal_named k =
    cond (eqb k 1) refusal.Settings
    (cond (eqb k 2) refusal.NoGroup
    (cond (eqb k 3) refusal.GroupNumber
    (cond (eqb k 4) refusal.Amount
    (cond (eqb k 5) refusal.NoRoom
    (cond (eqb k 6) refusal.GroupInUse
    (cond (eqb k 7) refusal.NoThread
    (cond (eqb k 8) refusal.AlreadyAdmitted
    (cond (eqb k 9) refusal.ThreadRunning
    (cond (eqb k 10) refusal.NotBlocked
    (cond (eqb k 11) refusal.NothingRunning
    (cond (eqb k 12) refusal.Busy
    (cond (eqb k 13) refusal.OverSlice
    (cond (eqb k 14) refusal.Reason
    (cond (eqb k 15) refusal.MeterFull
    (cond (eqb k 16) refusal.Unsound
    (cond (eqb k 19) refusal.UnknownKind
    refusal.Halted))))))))))))))))

-- what a call answers
abbrev pub Answer : Type 0
Answer = Result Outcome Refusal

-- the result of checks: a value, or the refusal of their number, which is 0 for none
abbrev pub refused_or : {A : Type 0} → ℕ → A → Result A Refusal
refused_or k a = cond (eqb k 0) (Ok a) (Err (refusal_named k))

-- and the number of a result
abbrev pub number_in : {A : Type 0} → Result A Refusal → ℕ
number_in (Ok a) = 0
number_in (Err r) = refusal_number r

abbrev pub thread_of : Outcome → ℕ
thread_of Done = 0
thread_of (Idle n) = 64
thread_of (Run t a n) = t

abbrev pub slice_of : Outcome → ℕ
slice_of Done = 0
slice_of (Idle n) = 0
slice_of (Run t a n) = a

abbrev pub before_of : Outcome → ℕ
before_of Done = 0
before_of (Idle n) = n
before_of (Run t a n) = n
