-- What is carried on is that of the bytes summed so far (`Sent-sofar`), whole blocks of them where some are left.
use Rattle.std.proofs.Common.{◌≡◌, ◌-◌, ◌%◌, ◌≤◌, ◌<◌}
use Rattle.mtrsum.proofs.Pieces.{Sent-sofar}
use Rattle.mtrsum.proofs.write_summary.Given as goal

abbrev pub invariant-loop-left : goal.invariant-loop-left
invariant-loop-left g l = Sent-sofar (l.size - l.left) l.usage × (l.left ≤ l.size) × (0 < l.left → (l.size - l.left) % 512 ≡ 0)

abbrev pub decreases-loop-left : goal.decreases-loop-left
decreases-loop-left g l = l.left
