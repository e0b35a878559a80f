-- The entries up to i have been moved one place to the front, and the first one stands behind them.
use Rattle.std.proofs.Common.{◌≡◌}
use lib.ListN.{get_or, set}
use Rattle.order.proofs.Queue.{shifted}
use Rattle.order.proofs.turn.Given as goal

abbrev pub invariant-loop-i : goal.invariant-loop-i
invariant-loop-i l = l.list ≡ set (shifted l.initial.list 0 l.i) l.i (get_or l.initial.list 0 0)
