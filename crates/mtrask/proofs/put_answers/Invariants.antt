-- After some answers their lines are written.
use Rattle.std.proofs.Common.{◌≡◌, ◌*◌, length, take}
use Rattle.text.specs.Inner.{Wrote}
use Rattle.mtrask.specs.Promise.{answer_text}
use Rattle.mtrask.proofs.put_answers.Given as goal

abbrev pub invariant-loop-a : goal.invariant-loop-a
invariant-loop-a l =
    (length l.out ≡ 2688) × Wrote l.fn.out 0 (answer_text (take l.a-index l.answers)) (42 * l.a-index) l.out l.used
