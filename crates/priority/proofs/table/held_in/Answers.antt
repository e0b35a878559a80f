-- `held_in` meets its contract: with what is kept so far the rest of the rows gives what all of them give.
use mathlib.Core.Path.{sym, ◌∙◌}
use native.Mathlib.Omega.{arith}
use Rattle.priority.proofs.Held.{held}
use Rattle.priority.proofs.Rows.{joins, keeps, none-held}
use Rattle.priority.proofs.table.held_in.Goals as goal
use Rattle.priority.proofs.table.held_in.Goals.{then-stands_in, else-stands_in}

pub loop-row-init : goal.loop-row-init
loop-row-init c = held c.args.priority c.args.rows.now

pub loop-row-preserved : goal.loop-row-preserved
loop-row-preserved c =
    let at = c.loop-row in
    elim c.if-stands_in.branch [
      | then-stands_in w ↦
          joins c.args.rows.now _ at.row-index (omega arith) at.held c.args.priority _
          (sym c.stands_in.ensures ∙ w.if-stands_in.true) (w.held-is ∙ w.joined-held.ensures) ∙ at.invariant
      | else-stands_in w ↦
          keeps c.args.rows.now _ at.row-index (omega arith) at.held c.args.priority _
          (sym c.stands_in.ensures ∙ w.if-stands_in.false) w.held-is ∙ at.invariant
    ]

pub returns : goal.returns
returns c =
    let at = c.loop-row in
    sym (none-held c.args.rows.now at.row-index (omega arith) at.held c.args.priority) ∙ at.invariant
