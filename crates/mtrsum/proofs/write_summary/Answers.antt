-- One piece more, or the last.
use Rattle.std.proofs.Common.{◌≡◌, ◌-◌, ◌≤◌, length, min, ◌∙◌, arith}
use lib.Seq.{length-take-le}
use Rattle.mtrsum.proofs.Pieces.{sent_none, sent_more, sent-cut}
use Rattle.mtrsum.proofs.write_summary.Goals as goal

pub loop-left-init : goal.loop-left-init
loop-left-init g c = (sent_none _ c.new-usage.result (omega arith) c.new-usage.ensures, omega arith, λ _. omega arith)

pub returns-in-Err : goal.returns-in-Err
returns-in-Err g c =
    let at = c.loop-left in
    let want = c.wanted-want.result in
    let size : length c.sum_some.new.input ≡ min 16384 at.left =
    c.sum_some.auto.input ∙ length-take-le want at.input (omega (arith, c.wanted-want.ensures)) ∙ c.wanted-want.ensures in
    sent-cut c.args.size _ at.left at.usage at.invariant.0 (omega (arith, at.invariant.1)) _ size _ c.in-Err.cut c.in-Err.ensures

pub loop-left-preserved : goal.loop-left-preserved
loop-left-preserved g c =
    let at = c.loop-left in
    let want = c.wanted-want.result in
    let below : c.args.size ≤ 18446744073709551615 = omega (arith, c.ranges.size.fits) in
    let whole = at.invariant.2 (omega arith) in
    let size : length c.sum_some.new.input ≡ want =
    c.sum_some.auto.input ∙ length-take-le want at.input (omega (arith, c.wanted-want.ensures)) in (
      sent_more (c.args.size - at.left) _ at.usage _ _ c.in-Ok.piece at.invariant.0 whole (omega (arith, below))
          (omega (arith, size, at.invariant.1, c.wanted-want.ensures)) c.in-Ok.ensures.0,
      omega (arith, at.invariant.1),
      (λ h. omega (arith, h, whole, c.wanted-want.ensures, at.invariant.1)),
    )
