use Rattle.mtrask.specs.Promise.{answered}
use Rattle.mtrask.proofs.serve.Goals as goal

pub returns : goal.returns
returns g c = answered c.in-Some.questions c.open.result c.in-Some.is c.answer_for.ensures
