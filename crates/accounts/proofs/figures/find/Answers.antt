-- `find` meets its contract: its tests are those of the definition, in their order.
use mathlib.Core.Path.{sym, ◌∙◌}
use borrow.Author.Tests.{le-ltb}
use Rattle.scheduler.specs.View.{view}
use Rattle.accounts.specs.Figures.{found_at}
use Rattle.accounts.proofs.Accounts.{admitted_no, admitted_yes}
use Rattle.accounts.proofs.figures.find.Goals as goal

pub returns-then-t-eq0 : goal.returns-then-t-eq0
unfolding found_at
returns-then-t-eq0 c =
    let s = view c.args.s in
    rw (
      sym c.sound.ensures ∙ c.if-not-sound.false,
      le-ltb 63 c.args.number c.if-number-gt63.false,
      admitted_no s c.args.number c.if-t-eq0.true,
    )

pub returns : goal.returns
unfolding found_at
returns c =
    let s = view c.args.s in
    rw (
      sym c.sound.ensures ∙ c.if-not-sound.false,
      le-ltb 63 c.args.number c.if-number-gt63.false,
      admitted_yes s c.args.number c.if-t-eq0.false,
    )
