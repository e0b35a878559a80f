use mathlib.Core.Path.{◌≡◌}
use Prim.Native.Nat.{◌-◌}
use Rattle.priority.specs.Table.{bad_from}
use Rattle.priority.proofs.table.lowest_bad.Given as goal

abbrev pub invariant-loop-priority : goal.invariant-loop-priority
invariant-loop-priority l = bad_from 10 1 l.rows ≡ bad_from (11 - l.priority) l.priority l.rows
