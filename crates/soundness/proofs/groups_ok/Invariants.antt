use Prim.Native.Nat.{◌-◌}
use Rattle.soundness.proofs.Groups.{GroupsInv}
use Rattle.soundness.proofs.groups_ok.Given as goal

-- the loop's own i is one above the group that it is at
abbrev pub invariant-loop-i : goal.invariant-loop-i
invariant-loop-i l = GroupsInv l.groups l.initial.used (l.i - 1) l.used
