-- `is_open_lem` meets its contract.
use Rattle.tree.proofs.Sums.{open_far, open_near}
use Rattle.tree.proofs.is_open.Goals as goal

pub returns-then-group-ge-GROUPS : goal.returns-then-group-ge-GROUPS
returns-then-group-ge-GROUPS c = λ s e. open_far s c.args.group c.if-group-ge-GROUPS.true

pub returns : goal.returns
returns c =
    let s2 = c.args in
    λ s e. open_near s2.groups s e s2.group c.if-group-ge-GROUPS.false
