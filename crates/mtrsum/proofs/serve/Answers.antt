-- By what was opened.
use Rattle.mtrsum.specs.Promise.{served}
use Rattle.mtrsum.proofs.serve.Goals as goal

pub returns : goal.returns
returns g c = served c.in-Some.file c.is_ok-rewound.result c.in-Some.is c.summarize.ensures
