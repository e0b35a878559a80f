-- How far the meter and the virtual time go. RULE 2.14: no call makes the virtual time less: a dispatch sets it to the tag of a runnable
-- best-effort thread, which soundness keeps from below it. RULE 4.1: no call brings the meter above 10,000,001,000,998, one less than what
-- a sound state may have: a run begins below the limit, and one report charges at most 1,000,999.
use Prim.Native.Nat.{ℕ, ◌+◌, ◌≤◌}
use mathlib.Core.Path.{◌≡◌, refl}
use mathlib.Core.Bool.{false}
use native.Mathlib.Omega.{arith}
use native.Mathlib.Nat.{le_refl}
use lib.Dec.{eqb}
use borrow.Author.Tests.{eqb-true, eqb-false}
use Rattle.base.proofs.Bools.{cases, holds}
use Rattle.fair.proofs.Dispatch.{time_moves, time_stays}
use Rattle.rule.specs.State.{State, runnable_at, effort_at, tag_at, with_thread, with_group, with_list, with_run}
use Rattle.rule.specs.Refusals.{Call, open_group, close_group, admit, remove, wake, dispatch, report, change, admit_effort, refusal}
use Rattle.rule.specs.Effects.{chosen, off_list, join, to_rear, charged, exited, aside, time_with, effect}
use Rattle.rule.specs.Rule.{is_dispatch, step, accept, refuse}
use Rattle.rule.proofs.Facts.{facts}
use Rattle.rule.proofs.Passed.{passes, report_passed, removed_cases, reported_cases}
use Rattle.rule.proofs.Steps.{step-state, refused-state, chosen_runnable, charge_most_lem}
use Rattle.rule.proofs.EffortRule.{some_effort, time_kept}
pub use Rattle.rule.specs.Words.{meter_reached}

-- a number of the state that no accepted call makes less, or more than a bound, is so after every call
after_call : (P : State → State → Type 0) (c : Call) (s : State) → P s s → (refusal c s ≡ 0 → P s (effect c s)) → P s (step c s).state
unfolding accept refuse
after_call P c s same done =
    cases (eqb (refusal c s) 0)
    (λ q. rw (step-state c s (eqb-true (refusal c s) 0 q)) (done (eqb-true (refusal c s) 0 q)))
    (λ q. rw (refused-state c s (eqb-false (refusal c s) 0 q)) same)

dispatch_time : (s : State) → refusal dispatch s ≡ 0 → s.time ≤ (effect dispatch s).time
unfolding effect with_run time_with tag_at runnable_at
dispatch_time s e =
    let k = facts s (passes dispatch s e).0 in
    cases (effort_at s (chosen s))
    (λ q.
    let f = holds (effort_at s (chosen s)) q in
    let ready = (chosen_runnable s k (some_effort s k (chosen s) f)).1 in
    rw q (omega (arith, (k.effort (chosen s) f).ahead ready, time_moves (tag_at s (chosen s)) s.time)))
    (λ q. rw q (omega (arith, time_stays (tag_at s (chosen s)) s.time)))

pub time_rises : (c : Call) (s : State) → s.time ≤ (step c s).state.time
unfolding is_dispatch
time_rises c s = after_call (λ s s'. s.time ≤ s'.time) c s (le_refl s.time) (go c)
  where
    other : (c : Call) → is_dispatch c ≡ false → s.time ≤ (effect c s).time
    other c d = omega (arith, time_kept c s d)

    go : (c : Call) → refusal c s ≡ 0 → s.time ≤ (effect c s).time
    go (open_group n p d) e = other (open_group n p d) refl
    go (close_group n) e = other (close_group n) refl
    go (admit n g f) e = other (admit n g f) refl
    go (remove n) e = other (remove n) refl
    go (wake n) e = other (wake n) refl
    go dispatch e = dispatch_time s e
    go (report reason used) e = other (report reason used) refl
    go (change n f) e = other (change n f) refl
    go (admit_effort n w) e = other (admit_effort n w) refl

-- a report adds its ticks
reported_meter : (reason used : ℕ) (s : State) → (effect (report reason used) s).meter ≡ s.meter + used
unfolding effect with_thread with_list with_run off_list to_rear charged exited aside
reported_meter reason used s =
    reported_cases (λ s'. s'.meter ≡ s.meter + used) s.running reason used s (λ _. refl) (λ _ _. refl) (λ _ _. refl) (λ _. refl)
    (λ _. refl)

report_meter : (reason used : ℕ) (s : State) → refusal (report reason used) s ≡ 0 → (effect (report reason used) s).meter ≤ meter_reached
report_meter reason used s e =
    let ok = passes (report reason used) s e in
    let k = facts s ok.0 in
    let c = report_passed s reason used ok.1 in
    omega (arith, reported_meter reason used s, (k.run c.0).early, c.1, charge_most_lem s k)

pub meter_reach : (c : Call) (s : State) → s.meter ≤ meter_reached → (step c s).state.meter ≤ meter_reached
unfolding effect with_thread with_group with_list with_run off_list join
meter_reach c s low = after_call (λ _ s'. s'.meter ≤ meter_reached) c s low (go c)
  where
    go : (c : Call) → refusal c s ≡ 0 → (effect c s).meter ≤ meter_reached
    go (open_group n p d) e = low
    go (close_group n) e = low
    go (admit n g f) e = low
    go (remove n) e = removed_cases (λ s'. s'.meter ≤ meter_reached) n s (λ _. low) (λ _. low)
    go (wake n) e = low
    go dispatch e = low
    go (report reason used) e = report_meter reason used s e
    go (change n f) e = low
    go (admit_effort n w) e = low
