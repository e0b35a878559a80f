-- Each call goes to a higher group number, so the measure is 16 less the number. The loop's invariant: the children before this one are
-- added up.
use Prim.Native.Nat.{◌-◌}
use Rattle.tree.proofs.Tree.{Below}
use Rattle.tree.proofs.+subtree.Given as goal

abbrev pub decreases-subtree : goal.decreases-subtree
decreases-subtree l = 16 - l.group

abbrev pub invariant-loop-child : goal.invariant-loop-child
invariant-loop-child l = Below l.groups l.reserved l.group l.child l.total
