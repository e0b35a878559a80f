-- `threads_pass` meets its contract. The invariant is `ThreadsInv`; the measure is what is left of the table. Assumes nothing.
use Prim.Native.Nat.{ℕ, ◌<◌}
use mathlib.Core.Path.{◌≡◌, refl, sym, ap, subst, ◌∙◌}
use mathlib.Core.List.{List}
use mathlib.Core.Bool.{Bool, true, false, not}
use Rattle.std.specs.Prelude.{Option, None, is_some}
use Rattle.entry.specs.declared.Thread.{Thread}
use Rattle.entry.specs.Entry.{no_thread}
use Rattle.entry.proofs.Laws.{strict}
use lib.ListN.{get_or, replicate}
use Rattle.soundness.specs.Inner.{given, listed_ok, sums_in, ThreadsPass}
use Rattle.soundness.proofs.Threads.{numbers_of_lem, inv_list, inv_none, inv_skip, inv_stray}
use Rattle.soundness.proofs.Threads.{inv_bad, inv_add, sum_fits, inv_idle, inv_run, inv_stop}
use Rattle.soundness.proofs.threads_pass.Goals as goal

-- the group of a number in the list is below 16
low : (m meter : ℕ) (t : Thread) (b : Bool) → b ≡ listed_ok m meter t → b ≡ true → t.group_or_weight < 16
low m meter t b e h = (numbers_of_lem m meter t (sym e ∙ h)).low

pub loop-i-init : goal.loop-i-init
loop-i-init c = inv_none

pub returns-then-not-unlisted_ok : goal.returns-then-not-unlisted_ok
returns-then-not-unlisted_ok c =
    inv_stray c.loop-i.invariant c.loop-i-test.true c.if-not-seen-i.true c.unlisted_ok.ensures
    (ap not c.if-not-unlisted_ok.true) (record { pass = c.in_ok-seen.ensures })
    refl

pub loop-i-preserved-then-not-seen-i : goal.loop-i-preserved-then-not-seen-i
loop-i-preserved-then-not-seen-i c =
    inv_skip c.loop-i.invariant c.loop-i-test.true c.if-not-seen-i.true c.unlisted_ok.ensures
    c.if-not-unlisted_ok.false

pub returns-then-not-listed_ok : goal.returns-then-not-listed_ok
returns-then-not-listed_ok c =
    inv_bad c.loop-i.invariant c.loop-i-test.true c.if-not-seen-i.false c.listed_ok.ensures
    (ap not c.if-not-listed_ok.true) (record { pass = c.in_ok-seen.ensures })
    refl

pub bounds-used-g : goal.bounds-used-g
bounds-used-g c = low c.args.m c.args.meter (get_or c.args.threads c.loop-i.i no_thread) _ c.listed_ok.ensures c.if-not-listed_ok.false

pub overflow_add-used : goal.overflow_add-used
overflow_add-used c =
    sum_fits c.loop-i.invariant c.loop-i-test.true c.if-not-seen-i.false c.listed_ok.ensures c.if-not-listed_ok.false

pub bounds-used-g-in-loop-i : goal.bounds-used-g-in-loop-i
bounds-used-g-in-loop-i c =
    low c.args.m c.args.meter (get_or c.args.threads c.loop-i.i no_thread) _ c.listed_ok.ensures c.if-not-listed_ok.false

pub loop-i-preserved : goal.loop-i-preserved
loop-i-preserved c =
    inv_add c.loop-i.invariant c.loop-i-test.true c.if-not-seen-i.false c.listed_ok.ensures c.if-not-listed_ok.false

pub returns-then-running-eq-THREADS : goal.returns-then-running-eq-THREADS
returns-then-running-eq-THREADS c =
    inv_idle c.loop-i.invariant c.loop-i-test.false
    (record { pass = c.in_ok-seen.ensures })
    c.if-running-eq-THREADS.true

pub bounds-threads-running : goal.bounds-threads-running
bounds-threads-running c = strict c.requires.2 c.if-running-eq-THREADS.false

pub returns-in_err-seen : goal.returns-in_err-seen
returns-in_err-seen c = λ s q.
    let a = c.args in
    let x = given s a.threads a.order a.m a.meter a.time a.count a.running in
    let none : c.from_residual.result ≡ None = c.from_residual.ensures in
    subst (λ (z : Option (List ℕ)). ThreadsPass x (is_some z) (sums_in z)) (sym none)
    (inv_list {threads = a.threads} a.order c.in_err-seen.ensures refl s q)

pub returns-then-not-turn : goal.returns-then-not-turn
returns-then-not-turn c =
    inv_stop c.loop-i.invariant c.loop-i-test.false (record { pass = c.in_ok-seen.ensures })
    (inv_run c.loop-i.invariant c.loop-i-test.false (record { pass = c.in_ok-seen.ensures }) c.if-running-eq-THREADS.false false
    (sym c.if-not-turn.true)) (replicate 16 0)

pub returns : goal.returns
returns c =
    inv_run c.loop-i.invariant c.loop-i-test.false (record { pass = c.in_ok-seen.ensures }) c.if-running-eq-THREADS.false true
    (sym c.if-not-turn.false)
