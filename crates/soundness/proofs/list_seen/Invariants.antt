use Rattle.soundness.proofs.List.{ListTo}
use Rattle.soundness.proofs.list_seen.Given as goal

abbrev pub invariant-loop-i : goal.invariant-loop-i
invariant-loop-i l = ListTo l.order l.count l.i l.seen
