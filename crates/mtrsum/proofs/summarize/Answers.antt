-- Where the file's start was gone to, it is judged and concluded.
use Rattle.mtrsum.specs.Promise.{judged}
use Rattle.mtrsum.proofs.summarize.Goals as goal

pub returns-then-rewound : goal.returns-then-rewound
returns-then-rewound g c = judged c.judge-verdict.result c.if-rewound.true c.judge-verdict.ensures c.conclude.ensures
