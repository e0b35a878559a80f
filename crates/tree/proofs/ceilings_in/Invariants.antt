use Rattle.tree.proofs.Sums.{Summed}
use Rattle.tree.proofs.ceilings_in.Given as goal

abbrev pub invariant-loop-i : goal.invariant-loop-i
invariant-loop-i l = Summed l.groups l.group l.i l.total
