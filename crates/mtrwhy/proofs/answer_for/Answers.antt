use Rattle.mtrwhy.specs.Promise.{told}
use Rattle.mtrwhy.proofs.answer_for.Goals as goal

pub returns : goal.returns
returns g c = told c.in-Some.file c.in-Some.is c.tell.ensures
