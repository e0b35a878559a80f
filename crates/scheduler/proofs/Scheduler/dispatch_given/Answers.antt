-- `dispatch_given` meets its contract. The first loop's invariant: what is passed of the whole list is the entries passed so far and what
-- is passed of the rest; it ends at a runnable thread or at the list's end, where nothing is passed of the rest. The second loop's, where
-- no thread of the list was found: what the search among the best-effort threads has found so far.
use Prim.Native.Nat.{ℕ, ◌+◌, ◌%◌, min, ◌≤◌, ◌<◌}
use mathlib.Core.Path.{◌≡◌, sym, ap, subst, ◌∙◌}
use mathlib.Core.Bool.{Bool, true, false, cond}
use Rattle.answers.proofs.Refusals.{tested}
use Rattle.answers.specs.Numbers.{refused_or, number_in}
use native.Mathlib.Omega.{arith}
use lib.ListN.{length, get_or, take}
use lib.Dec.{ltb, eqb}
use borrow.Author.Tests.{eq-eqb, ne_eqb}
use Rattle.std.specs.Prelude.{Option, Some}
use Rattle.std.specs.Bool.{then_some}
use Rattle.std.specs.Option.{option_or}
use Rattle.std.proofs.lemmas.Option.{none-some, cond_some}
use Rattle.base.specs.Lists.{passed}
use Rattle.order.proofs.Queue.{stop, go, end}
use Rattle.fair.specs.Choice.{thread_of}
use Rattle.fair.proofs.Dispatch.{count_most}
use Rattle.rule.specs.State.{State, thread_at, runnable_at, with_run}
use Rattle.entry.specs.declared.effort.Efforts.{Efforts}
use Rattle.entry.specs.Entry.{no_thread}
use Rattle.entry.specs.Inner.{number_of}
use Rattle.rule.specs.Refusals.{dispatch, refusal}
use Rattle.entry.proofs.effort.Search.{Found, found-first, found-next, count_next, taken}
use Rattle.scheduler.specs.View.{view}
use Rattle.scheduler.proofs.threads.Dispatch.{dispatch_number, looking, look_small, look_most, dispatch_done}
use Rattle.scheduler.proofs.Scheduler.dispatch_given.Invariants.{beyond}
use Rattle.scheduler.proofs.Scheduler.dispatch_given.Goals as goal
use Rattle.scheduler.proofs.Scheduler.dispatch_given.Goals.{After-either-count, else-loop-before-test}
use Rattle.scheduler.proofs.Scheduler.dispatch_given.Goals.{then-loop-before-test+then-status-eq-RUNNABLE}

-- after the number and the list's part that is looked at
module _ (c : After-either-count) where
  abbrev S : State
  S = view c.args.self

  abbrev code : ℕ
  code = number_in c.dispatch_check-check.result

  ok : c.is_ok-accepted.result ≡ eqb code 0
  ok = tested c.dispatch_check-check.result c.is_ok-accepted.result c.is_ok-accepted.ensures.value

  abbrev count : ℕ
  count = c.either-count.result

  number : code ≡ refusal dispatch S
  number = c.dispatch_check-check.ensures ∙ dispatch_number S c.args.ok c.requires

  part : count ≡ cond (eqb code 0) S.count 0
  part = c.either-count.ensures ∙ rw ok

  most : count ≤ 64
  most = look_most S code number count part

  inside : (i : ℕ) → i < count → i < min count (length S.order)
  inside i h = omega (arith, (looking S code number count part (omega arith)).known.order64, most)

-- the first runnable thread of the list, or none
thread_of_listed : (listed : Option ℕ) (b : Bool) (n : ℕ) → listed ≡ then_some b n → thread_of listed ≡ cond b n 64
thread_of_listed listed true n e = ap thread_of e
thread_of_listed listed false n e = ap thread_of e

apart : (listed : Option ℕ) (b : Bool) (n : ℕ) → listed ≡ then_some b n → n < 64 → listed ≡ Some 64 → ⊥
apart listed true n e h z = omega (arith, (cond_some true n 64 (sym e ∙ z)).1)
apart listed false n e h z = none-some 64 (sym e ∙ z)

pub bounds-self-before : goal.bounds-self-before
bounds-self-before c = omega (arith, c.loop-before-test.true, most (goal.at.bounds-self-before c).After-either-count)

pub bounds-self-number : goal.bounds-self-number
bounds-self-number c =
    let t = (goal.at.bounds-self-number c).After-either-count in
    look_small (S t) (code t) (number t) (count t) (part t) c.loop-before.before c.loop-before-test.true

pub loop-before-preserved : goal.loop-before-preserved
unfolding runnable_at
loop-before-preserved c =
    let t = (goal.at.loop-before-preserved c).After-either-count in
    let s = S t in
    let i = c.loop-before.before in
    let here : i < count t = c.loop-before-test.true in
    let waits = ne_eqb (thread_at s (get_or s.order i 0)).status 1 (λ e. omega (arith, c.if-status-eq-RUNNABLE.false)) in
    let next = go (runnable_at s) s.order (count t) i (inside t i here) waits in
    (omega (arith, here), omega (arith, c.loop-before.invariant.1, next))

pub loop-i-init : goal.loop-i-init
loop-i-init c =
    found-first c.args.self.threads c.then_some-listed.result c.search_from-i.result c.default-efforts.result c.search_from-i.ensures
    c.default-efforts.ensures

pub loop-i-preserved : goal.loop-i-preserved
loop-i-preserved c =
    let threads = c.args.self.threads in
    let l = c.loop-i in
    let e = c.with-efforts.ensures in (
      omega (arith, c.loop-i-test.true),
      subst (λ (x : Efforts). x.count ≤ l.i + 1) (sym e)
          (count_next (get_or threads l.i no_thread) l.i l.efforts l.invariant.1),
      λ z. subst (Found threads (l.i + 1)) (sym e)
          (found-next threads l.i l.efforts (l.invariant.2 z) c.loop-i-test.true),
    )

pub overflow_cast-counted : goal.overflow_cast-counted
overflow_cast-counted c =
    let l = c.loop-i in
    omega (
      arith,
      c.choice-taken.ensures.1,
      count_most (option_or c.then_some-listed.result (number_of l.efforts.best)) c.loop-before.before l.efforts.count,
      c.loop-before.invariant.0,
      most (goal.at.overflow_cast-counted c).After-either-count,
      l.invariant.0,
      l.invariant.1,
    )

pub returns : goal.returns
unfolding with_run runnable_at
returns c =
    let t = (goal.at.returns c).After-either-count in
    let s = S t in
    let l = c.loop-i in
    let n = c.loop-before.before in
    let rest : beyond s (count t) n ≡ 0 =
    elim c.loop-before-test.branch [
      | else-loop-before-test w ↦
          let all : count t ≤ n = w.loop-before-test.false in end (runnable_at s) s.order (count t) n (omega arith)
      | then-loop-before-test+then-status-eq-RUNNABLE w ↦
          stop (runnable_at s) s.order (count t) n (inside t n w.loop-before-test.true)
          (eq-eqb (thread_at s (get_or s.order n 0)).status 1 (omega (arith, w.if-status-eq-RUNNABLE.true)))
    ] in
    let all : passed (runnable_at s) (take (count t) s.order) ≡ n = omega (arith, c.loop-before.invariant.1, rest) in
    let listed = c.then_some-listed.result in
    let first : ℕ = get_or s.order (n % 64) 0 % 64 in
    let h = c.choice-taken in
    let w =
    taken s.threads listed n l.i l.efforts
    (apart listed (ltb n (count t)) first c.then_some-listed.ensures (omega arith)) l.invariant.2 c.loop-i-test.false in
    dispatch_done s (code t) (number t) (count t) (part t) n c.loop-before.invariant.0 all
    (thread_of listed) (thread_of_listed listed (ltb n (count t)) first c.then_some-listed.ensures)
    c.unwrap_or-number.result (c.unwrap_or-number.ensures ∙ ap thread_of h.ensures.0 ∙ w.0)
    h.result.before (h.ensures.1 ∙ w.1) c.slice-slice.result c.slice-slice.ensures
    c.time_if.result (c.time_if.ensures ∙ rw (ok t)) c.either.result (c.either.ensures ∙ rw (ok t))
    c.answered.result (c.answered.ensures ∙ ap (refused_or (code t)) c.outcome.ensures)
