use Rattle.std.proofs.Common.{◌≤◌, ◌-◌, length}
use Rattle.program.proofs.fill.Given as goal

abbrev pub invariant-loop-got : goal.invariant-loop-got
invariant-loop-got g l = l.got ≤ length l.input

abbrev pub decreases-loop-got : goal.decreases-loop-got
decreases-loop-got g l = length l.input - l.got
