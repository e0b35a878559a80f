-- `lag` meets its contract: a thread that is found is within its bounds.
use mathlib.Core.Path.{sym, ◌∙◌}
use Rattle.scheduler.specs.View.{view}
use Rattle.accounts.proofs.Accounts.{found_bounded}
use Rattle.accounts.proofs.figures.lag.Goals as goal

pub lag_of-requires : goal.lag_of-requires
lag_of-requires c = found_bounded (view c.args.s) c.args.number _ (sym c.find.ensures ∙ c.in_ok-t.was)
