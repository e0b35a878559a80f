-- `share` meets its contract: a thread that is found is within its bounds.
use mathlib.Core.Path.{sym, ◌∙◌}
use Rattle.scheduler.specs.View.{view}
use Rattle.accounts.proofs.Accounts.{found_bounded}
use Rattle.accounts.proofs.figures.share.Goals as goal

pub share_of-requires : goal.share_of-requires
share_of-requires c = found_bounded (view c.args.s) c.args.number _ (sym c.find.ensures ∙ c.in_ok-t.was)
