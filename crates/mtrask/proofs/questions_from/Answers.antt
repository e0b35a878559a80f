-- One question more.
use Rattle.std.proofs.Common.{◌≡◌, ◌<◌, length, refl, ◌∙◌, arith, rules}
use lib.ListN.{length-set}
use Rattle.mtrask.proofs.Arguments.{asked-none, asked-more}
use Rattle.mtrask.proofs.questions_from.Goals as goal

pub loop-i-init : goal.loop-i-init
loop-i-init c = (refl, asked-none c.args.values)

pub loop-i-preserved : goal.loop-i-preserved
loop-i-preserved c =
    let at = c.loop-i in
    let inside : at.i < 64 = omega arith in
    let long : length c.args.values ≡ 192 = search rules in (
      length-set at.questions at.i _ ∙ at.invariant.0,
      asked-more at.i c.args.values at.questions (omega arith) (omega arith) (omega arith) (omega arith) (omega arith) at.invariant.1,
    )
