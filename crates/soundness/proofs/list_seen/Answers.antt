-- `list_seen` meets its contract. The invariant is `ListTo`; the measure is what is left of the list. Assumes nothing.
use Prim.Native.Nat.{◌≤◌}
use native.Mathlib.Omega.{arith}
use lib.ListN.{length}
use mathlib.Core.List.{[]}
use Rattle.soundness.proofs.List.{list_none, list_add, list_high, list_twice, list_end}
use Rattle.soundness.proofs.list_seen.Goals as goal
use Rattle.soundness.proofs.list_seen.Goals.{Start}

-- the list lies within the array
long : (c : Start) → c.args.count ≤ length c.args.order
long c = omega (arith, c.well_formed.0.1.0.1)

pub loop-i-init : goal.loop-i-init
loop-i-init c = list_none c.args.order c.args.count

pub bounds-order-i : goal.bounds-order-i
bounds-order-i c = omega arith

pub returns-then-t-ge-THREADS : goal.returns-then-t-ge-THREADS
returns-then-t-ge-THREADS c =
    let l = c.loop-i in
    let s = (goal.at.returns-then-t-ge-THREADS c).Start in
    list_high s.args.order s.args.count l.i l.seen l.invariant c.loop-i-test.true (long s) (omega arith) []

pub bounds-seen-t : goal.bounds-seen-t
bounds-seen-t c = omega arith

pub returns-then-seen-t : goal.returns-then-seen-t
returns-then-seen-t c =
    let l = c.loop-i in
    let s = (goal.at.returns-then-seen-t c).Start in
    list_twice s.args.order s.args.count l.i l.seen l.invariant c.loop-i-test.true (long s)
    (omega arith) c.if-seen-t.true []

pub bounds-seen-t-in-loop-i : goal.bounds-seen-t-in-loop-i
bounds-seen-t-in-loop-i c = omega arith

pub loop-i-preserved : goal.loop-i-preserved
loop-i-preserved c =
    let l = c.loop-i in
    let s = (goal.at.loop-i-preserved c).Start in
    list_add s.args.order s.args.count l.i l.seen l.invariant c.loop-i-test.true (long s) (omega arith)
    c.if-seen-t.false

pub returns : goal.returns
returns c =
    let l = c.loop-i in
    list_end c.args.order c.args.count l.i l.seen l.invariant c.loop-i-test.false
