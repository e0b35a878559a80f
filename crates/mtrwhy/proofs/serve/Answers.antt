use Rattle.mtrwhy.specs.Promise.{answered}
use Rattle.mtrwhy.proofs.serve.Goals as goal

pub returns : goal.returns
returns g c = answered c.in-Some.asked c.open.result c.in-Some.is c.answer_for.ensures
