-- `ceilings_in` meets its contract: the pass keeps `Summed`.
use native.Mathlib.Omega.{arith}
use Rattle.tree.proofs.Sums.{summed_none, summed_more, summed_end}
use Rattle.tree.proofs.ceilings_in.Goals as goal

pub loop-i-init : goal.loop-i-init
loop-i-init c = summed_none c.args.groups c.args.group

pub loop-i-preserved : goal.loop-i-preserved
loop-i-preserved c =
    let a = c in
    let l = c.loop-i in
    summed_more a.args.groups a.args.group l.i l.total l.invariant c.loop-i-test.true c.takes.result
    (omega arith) c.takes.ensures

pub returns : goal.returns
returns c =
    let a = c in
    let l = c.loop-i in
    summed_end a.args.groups a.args.group l.i l.total l.invariant c.loop-i-test.false
