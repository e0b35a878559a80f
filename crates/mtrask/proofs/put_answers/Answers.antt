-- One answer more.
use Rattle.std.proofs.Common.{◌∙◌, arith}
use Rattle.mtrask.proofs.Telling.{answers-none, answers-more}
use Rattle.mtrask.proofs.put_answers.Goals as goal

pub loop-a-init : goal.loop-a-init
loop-a-init c = (c.requires.1, answers-none c.args.out.now c.args.answers.now)

pub loop-a-preserved : goal.loop-a-preserved
loop-a-preserved c =
    let at = c.loop-a in
    let put = c.put_answer-used in (
      put.auto.out ∙ at.invariant.0,
      answers-more c.args.out.now c.args.answers.now at.a-index at.out at.used put.new.out put.result (omega arith)
          (omega (arith, c.requires.0, c.requires.1)) at.invariant.1 put.ensures,
    )
