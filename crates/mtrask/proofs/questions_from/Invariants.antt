-- After i questions they are those of the first 3 * i numbers.
use Rattle.std.proofs.Common.{◌≡◌, ◌*◌, length, take}
use Rattle.mtrask.specs.Promise.{questions_of}
use Rattle.mtrask.proofs.questions_from.Given as goal

abbrev pub invariant-loop-i : goal.invariant-loop-i
invariant-loop-i l =
    (length l.questions ≡ 64) × (take l.i l.questions ≡ questions_of (take (3 * l.i) l.values))
