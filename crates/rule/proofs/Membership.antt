-- Who comes into the list and who leaves it. RULE 2.3: an admitted thread stands at the rear, runnable, with a full allotment. RULE 2.7,
-- 2.9: a removed thread and one that ended are off the list, whatever their kind, and their entries are free.
use Prim.Native.Nat.{ℕ}
use mathlib.Core.Path.{◌≡◌, refl, sym, ap, subst}
use mathlib.Core.List.{List, [], ◌∷◌, ◌++◌}
use mathlib.Core.Bool.{not}
use native.Mathlib.Omega.{arith}
use lib.Dec.{T}
use lib.IntN.{pos}
use borrow.Author.Tests.{lt-ltb}
use Rattle.base.specs.Lists.{member, without}
use Rattle.base.proofs.Lists.{without-none, member_self}
use Rattle.entry.specs.declared.Thread.{Thread}
use Rattle.entry.specs.Entry.{no_thread, group_of}
use Rattle.entry.specs.Effects.{new_thread}
use Rattle.rule.specs.State.{State, thread_at, reserved_at, runnable_at, reservation_at, quantum, listed, with_thread, with_list, with_run}
use Rattle.rule.specs.Refusals.{admit, remove, report, refusal}
use Rattle.rule.specs.Effects.{rear, off_list, join, aside, exited, effect}
use Rattle.rule.proofs.Facts.{facts, in_threads, admitted_reserved, outside, unlisted}
use Rattle.rule.proofs.Changed.{fits, take-off, room, listed-join, thread-same}
use Rattle.rule.proofs.Passed.{passes, admit_ok, remove_passed, report_passed, kind_cases, list_cases, effort_cases, removed_cases}
use Rattle.base.proofs.Bools.{clash}
pub use Rattle.rule.specs.Words.{Off}

pub admitted-rear : (n g f : ℕ) (s : State) → refusal (admit n g f) s ≡ 0
    → (listed (effect (admit n g f) s) ≡ listed s ++ n ∷ [])
    × T (reserved_at (effect (admit n g f) s) n)
    × T (runnable_at (effect (admit n g f) s) n)
    × ((thread_at (effect (admit n g f) s) n).allotment ≡ pos (quantum s f))
    × (reservation_at (effect (admit n g f) s) n ≡ f)
    × (group_of (thread_at (effect (admit n g f) s) n) ≡ g)
unfolding effect join with_list with_thread new_thread reserved_at runnable_at reservation_at listed
admitted-rear n g f s e =
    let ok = passes (admit n g f) s e in
    let k = facts s ok.0 in
    let a = admit_ok s n g f ok.1 in
    let new = new_thread s.meter s.settings.thousandth g f in
    let q : thread_at (with_thread s n new) n ≡ new = thread-same s n new (omega (arith, k.threads64, a.small)) in (
      listed-join (with_thread s n new) (omega (arith, room s k n a.small (unlisted s k n a.fresh), k.order64)) n,
      rw (q, lt-ltb 0 f a.positive) tt,
      rw q tt,
      ap (λ (t : Thread). t.allotment) q,
      ap (λ (t : Thread). t.reservation) q,
      ap (λ (t : Thread). group_of t) q,
    )

off : (n : ℕ) (s s' : State) → listed s' ≡ without n (listed s) → thread_at s' n ≡ no_thread → Off n s s'
off n s s' l t = (l, subst (λ (z : List ℕ). T (not (member n z))) (sym l) (member_self n (listed s)), t)

pub removed-off : (n : ℕ) (s : State) → refusal (remove n) s ≡ 0 → Off n s (effect (remove n) s)
unfolding effect off_list with_list with_thread listed rear
removed-off n s e =
    let ok = passes (remove n) s e in
    let k = facts s ok.0 in
    let a = (remove_passed s n ok.1).0 in
    let free = thread-same s n no_thread (in_threads s k n a) in
    removed_cases (Off n s) n s
    (λ h. off n s (off_list n (with_thread s n no_thread))
    (take-off s.order s.count n (fits s k) k.once (k.thread n (admitted_reserved s n a h)).in_list) free)
    (λ h. off n s (with_thread s n no_thread) (sym (without-none n (listed s) (outside s k n h))) free)

pub exited-off : (used : ℕ) (s : State) → refusal (report 3 used) s ≡ 0 → Off s.running s (effect (report 3 used) s)
unfolding effect exited aside off_list with_list with_run with_thread listed rear
exited-off used s e =
    let ok = passes (report 3 used) s e in
    let k = facts s ok.0 in
    let r = s.running in
    let a = (k.run (report_passed s 3 used ok.1).0).admitted in
    let free = thread-same s r no_thread (in_threads s k r a) in
    kind_cases (Off r s) r 3 used s
    (λ h. list_cases (Off r s) r 3 used s
    (λ _. off r s (exited r used s)
    (take-off s.order s.count r (fits s k) k.once (k.thread r (admitted_reserved s r a h)).in_list) free)
    (λ z _. absurd (clash _ refl z))
    (λ z _. absurd (clash _ refl z)))
    (λ h. effort_cases (Off r s) r 3 used s
    (λ _. off r s (aside r used no_thread s) (sym (without-none r (listed s) (outside s k r h))) free)
    (λ z. absurd (clash _ refl z)))
