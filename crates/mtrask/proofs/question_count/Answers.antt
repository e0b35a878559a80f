-- Each way out is a case of the definition.
use Rattle.std.proofs.Common.{arith}
use Rattle.mtrask.proofs.Arguments.{count_few, count_many, count_parts, count_is}
use Rattle.mtrask.proofs.question_count.Goals as goal

pub returns-then-all-lt5 : goal.returns-then-all-lt5
returns-then-all-lt5 c = count_few c.args.all (omega arith)

pub returns-then-all-gt194 : goal.returns-then-all-gt194
returns-then-all-gt194 c = count_many c.args.all (omega arith)

pub returns-then-rest-eq0 : goal.returns-then-rest-eq0
returns-then-rest-eq0 c = count_is c.args.all (omega arith) (omega arith) (omega arith)

pub returns-else-rest-eq0 : goal.returns-else-rest-eq0
returns-else-rest-eq0 c = count_parts c.args.all (λ e. omega (arith, e))
