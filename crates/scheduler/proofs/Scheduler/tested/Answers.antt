-- `Scheduler::tested` meets its contract: each failure by the part that failed, and the last by the groups' test, where all else
-- passed. Assumes nothing.
use mathlib.Core.Path.{◌≡◌, refl, sym, subst, ◌∙◌}
use Rattle.std.specs.Prelude.{Option, None, is_some}
use mathlib.Core.Bool.{true, false, false≢true}
use mathlib.Core.List.{List}
use lib.ListN.{replicate}
use Prim.Native.Nat.{ℕ}
use Rattle.rule.specs.State.{State}
use Rattle.entry.specs.Entry.{settings_ok}
use Rattle.rule.specs.Sound.{sound}
use native.Mathlib.Omega.{arith}
use Rattle.base.proofs.Bools.{holds}
use Rattle.soundness.specs.Inner.{ThreadsPass, Tested, sums_in}
use Rattle.rule.proofs.Facts.{settings_facts}
use Rattle.soundness.proofs.Whole.{unsound, whole, settings_most, running_most}
use Rattle.scheduler.proofs.Shape.{shaped}
use Rattle.scheduler.specs.View.{view}
use Rattle.scheduler.proofs.Scheduler.tested.Goals as goal
use Rattle.scheduler.proofs.Scheduler.tested.Goals.{Else-not-ok, In_ok-used, After-groups_ok}

fails : (s : State) → false ≡ sound s → Tested s false (replicate 16 0)
fails s u = record { test = u; sums = λ z. absurd (false≢true z) }

set : (c : Else-not-ok) → settings_ok (view c.args.self).settings ≡ true
set c = sym c.ok.ensures ∙ c.if-not-ok.false

pub returns-then-not-ok : goal.returns-then-not-ok
returns-then-not-ok c =
    fails (view c.args.self)
    (unsound (view c.args.self) (λ k. false≢true (sym (c.if-not-ok.true) ∙ c.ok.ensures ∙ k.settings)))

pub returns-then-not-meter_ok : goal.returns-then-not-meter_ok
returns-then-not-meter_ok c =
    fails (view c.args.self)
    (unsound (view c.args.self) (λ k. false≢true (sym (c.if-not-meter_ok.true) ∙ c.meter_ok.ensures ∙ k.meter)))

pub returns-then-count-gt-THREADS : goal.returns-then-count-gt-THREADS
returns-then-count-gt-THREADS c =
    fails (view c.args.self)
    (unsound (view c.args.self) (λ k. omega (arith, k.few, c.if-count-gt-THREADS.true)))

pub returns-then-most-time : goal.returns-then-most-time
returns-then-most-time c =
    fails (view c.args.self)
    (unsound (view c.args.self) (λ k. omega (arith, k.time, c.if-most-time.true)))

pub overflow_add-limit : goal.overflow_add-limit
overflow_add-limit c =
    let z =
    settings_facts (view c.args.self).settings (holds _ (set (goal.at.overflow_add-limit c).Else-not-ok)) in
    omega (arith, z.1, z.3, z.4)

pub threads_pass-requires : goal.threads_pass-requires
threads_pass-requires c =
    let s = view c.args.self in (
      settings_most s.settings (set (goal.at.threads_pass-requires c).Else-not-ok),
      c.if-count-gt-THREADS.false,
      running_most s (sym c.meter_ok.ensures ∙ c.if-not-meter_ok.false),
    )

pub returns-in_err-used : goal.returns-in_err-used
returns-in_err-used c =
    let s = view c.args.self in
    let none : c.from_residual.result ≡ None = c.from_residual.ensures in
    let p : ThreadsPass s false (replicate 16 0) = c.in_err-used.ensures s (record { limited = refl; bounded = refl }) in
    subst (λ (z : Option (List ℕ)). Tested s (is_some z) (sums_in z)) (sym none)
    (fails s (unsound s (λ k. false≢true (p.test ∙ k.threads))))

-- what the pass over the list and the threads says of this state
passed : (c : In_ok-used) → ThreadsPass (view c.args.self) true c.in_ok-used.used
passed c = c.in_ok-used.ensures (view c.args.self) (record { limited = refl; bounded = refl })

pub groups_ok-requires : goal.groups_ok-requires
groups_ok-requires c = (passed (goal.at.groups_ok-requires c).In_ok-used).small refl

-- and the test of the groups what it says of the whole
tested : (c : After-groups_ok) → c.groups_ok.result ≡ sound (view c.args.self)
tested c =
    let s = view c.args.self in
    let p : ThreadsPass s true c.in_ok-used.used = c.in_ok-used.ensures s (record { limited = refl; bounded = refl }) in
    whole s (shaped c.args.self _ c.well_formed.0) c.groups_ok.result (c.groups_ok.ensures s (p.sums refl))
    (λ g. record {
      settings = sym c.ok.ensures ∙ c.if-not-ok.false;
      meter = sym c.meter_ok.ensures ∙ c.if-not-meter_ok.false;
      few = c.if-count-gt-THREADS.false;
      threads = sym p.test;
      groups = g;
      time = c.if-most-time.false;
    })

pub returns-then-not-groups_ok : goal.returns-then-not-groups_ok
returns-then-not-groups_ok c =
    fails (view c.args.self) (sym c.if-not-groups_ok.true ∙ tested (goal.at.returns-then-not-groups_ok c).After-groups_ok)

pub returns : goal.returns
returns c =
    let p = passed (goal.at.returns c).In_ok-used in
    record { test = sym c.if-not-groups_ok.false ∙ tested (goal.at.returns c).After-groups_ok; sums = λ _. p.sums refl }
