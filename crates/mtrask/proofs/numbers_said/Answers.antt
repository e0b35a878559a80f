-- One argument more, or one that spells no number.
use Rattle.std.proofs.Common.{refl, ◌∙◌, arith}
use lib.ListN.{length-set}
use Rattle.mtrask.proofs.Arguments.{said-none, said_more, said_bad}
use Rattle.mtrask.proofs.numbers_said.Goals as goal

pub loop-i-init : goal.loop-i-init
loop-i-init g c = (refl, said-none _)

pub returns-in_err-values : goal.returns-in_err-values
returns-in_err-values g c =
    let at = c.loop-i in
    said_bad at.i c.args.count at.values c.number.result c.from_residual.result at.invariant.1 (omega arith) c.number.ensures
    c.in_err-values.was c.from_residual.ensures

pub loop-i-preserved : goal.loop-i-preserved
loop-i-preserved g c =
    let at = c.loop-i in
    let n = c.in_ok-values.field-0 in (
      length-set at.values at.i n ∙ at.invariant.0,
      said_more at.i at.values n c.number.result at.invariant.1 (omega arith) c.number.ensures c.in_ok-values.was,
    )
