-- `tag_ok` meets its contract: the last test is the bound without its division.
use Rattle.std.proofs.Common.{false, refl}
use Rattle.fair.proofs.Pass.{tag_near}
use Rattle.fair.proofs.tag_ok.Goals as goal

pub returns : goal.returns
returns c =
    let a = c.args in
    rw (c.from.ensures, c.from-top.ensures)
    (tag_near a.limit a.time a.most a.weight a.ready false a.tag c.if-weight-lt-WEIGHT_LEAST.false c.if-weight-gt-WEIGHT_MOST.false
    c.if-most-tag.false refl c.if-tag-time.false)
