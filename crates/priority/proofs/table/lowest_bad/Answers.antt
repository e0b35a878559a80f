-- `lowest_bad` meets its contract. The invariant: the priorities below are each in one row, and what is sought lies from here up.
use mathlib.Core.Path.{sym, ◌∙◌}
use native.Mathlib.Omega.{arith}
use Rattle.priority.proofs.Held.{one-held, held-one}
use Rattle.priority.proofs.Rows.{not_bad, lowest, lowest_none}
use Rattle.priority.proofs.table.lowest_bad.Goals as goal

pub returns-in_default : goal.returns-in_default
returns-in_default c =
    let p = c.loop-priority.priority in
    let ws = c.args.rows.now in
    lowest ws p c.loop-priority.invariant (omega arith) (λ e. c.in_default.not-One _ (c.held_in.ensures ∙ one-held p ws e))

pub loop-priority-preserved : goal.loop-priority-preserved
loop-priority-preserved c =
    let p = c.loop-priority.priority in
    let ws = c.args.rows.now in
    c.loop-priority.invariant
    ∙ not_bad ws p (omega arith) (held-one p c.in-One.field-0 ws (sym c.held_in.ensures ∙ c.in-One.is)).0

pub returns : goal.returns
returns c = lowest_none c.args.rows.now c.loop-priority.priority c.loop-priority.invariant (omega arith)
