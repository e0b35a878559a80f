-- `ahead` meets its contract: who is ahead in the list is ahead in what stands behind the entries passed.
use Rattle.std.proofs.Common.{sym, ◌∙◌}
use borrow.Author.Tests.{eq-eqb, ne_eqb}
use Rattle.order.proofs.Queue.{before-turn, before-none}
use Rattle.order.proofs.ahead.Goals as goal

pub returns-then-number-u : goal.returns-then-number-u
returns-then-number-u c =
    let turn = before-turn c.args.t c.args.u c.args.list.now c.loop-n.n-index c.loop-n-test.true in
    sym (c.loop-n.invariant ∙ turn ∙ rw (sym c.from-number.ensures, eq-eqb _ _ c.if-number-u.true))

pub returns-then-number-t : goal.returns-then-number-t
returns-then-number-t c =
    let turn = before-turn c.args.t c.args.u c.args.list.now c.loop-n.n-index c.loop-n-test.true in
    sym (c.loop-n.invariant ∙ turn ∙ rw (sym c.from-number.ensures, ne_eqb _ _ c.if-number-u.false, eq-eqb _ _ c.if-number-t.true))

pub loop-n-preserved : goal.loop-n-preserved
loop-n-preserved c =
    let turn = before-turn c.args.t c.args.u c.args.list.now c.loop-n.n-index c.loop-n-test.true in
    c.loop-n.invariant ∙ turn ∙ rw (sym c.from-number.ensures, ne_eqb _ _ c.if-number-u.false, ne_eqb _ _ c.if-number-t.false)

pub returns : goal.returns
returns c = sym (c.loop-n.invariant ∙ before-none c.args.t c.args.u c.args.list.now c.loop-n.n-index c.loop-n-test.false)
