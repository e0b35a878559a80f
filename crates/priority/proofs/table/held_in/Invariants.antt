use mathlib.Core.Path.{◌≡◌}
use lib.ListN.{drop}
use Rattle.priority.specs.Inner.{held_from, held_of}
use Rattle.priority.proofs.table.held_in.Given as goal

abbrev pub invariant-loop-row : goal.invariant-loop-row
invariant-loop-row l = held_from l.held l.priority (drop l.row-index l.rows) ≡ held_of l.priority l.rows
