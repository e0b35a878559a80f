-- `groups_ok` meets its contract. The invariant is `GroupsInv`. Assumes nothing.
use native.Mathlib.Omega.{arith}
use Rattle.soundness.proofs.Groups.{inv_none, inv_skip, inv_used, inv_high, inv_bad, sum_fits, inv_add, inv_end}
use Rattle.soundness.proofs.groups_ok.Goals as goal

pub loop-i-init : goal.loop-i-init
loop-i-init c = inv_none c.args.groups c.args.reserved c.well_formed.1.0.1.0.1 c.requires

pub returns-then-used-i-ne0 : goal.returns-then-used-i-ne0
returns-then-used-i-ne0 c =
    inv_used c.loop-i.invariant (omega (arith, c.loop-i-test.true)) c.if-opened-eq0.true c.if-used-i-ne0.true

pub loop-i-preserved-then-opened-eq0 : goal.loop-i-preserved-then-opened-eq0
loop-i-preserved-then-opened-eq0 c =
    inv_skip c.loop-i.invariant (omega (arith, c.loop-i-test.true)) c.if-opened-eq0.true c.if-used-i-ne0.false

pub returns-then-i-parent : goal.returns-then-i-parent
returns-then-i-parent c =
    inv_high c.loop-i.invariant (omega (arith, c.loop-i-test.true)) c.if-opened-eq0.false c.if-i-parent.true

pub returns-then-not-ok : goal.returns-then-not-ok
returns-then-not-ok c =
    inv_bad c.loop-i.invariant (omega (arith, c.loop-i-test.true)) c.if-opened-eq0.false c.if-not-ok.true

pub overflow_add-used : goal.overflow_add-used
overflow_add-used c =
    sum_fits c.loop-i.invariant (omega (arith, c.loop-i-test.true)) c.if-i-parent.false c.if-not-ok.false

pub loop-i-preserved : goal.loop-i-preserved
loop-i-preserved c =
    inv_add c.loop-i.invariant (omega (arith, c.loop-i-test.true)) c.if-i-parent.false c.if-not-ok.false

pub returns : goal.returns
returns c = inv_end c.loop-i.invariant (omega (arith, c.loop-i-test.false))
