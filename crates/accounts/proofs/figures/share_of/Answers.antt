-- `accounts::figures::share_of` meets its contract: what `nearest` promises is the share, and a share is at most 1000.
use native.Mathlib.Omega.{arith}
use Rattle.rule.specs.Accounts.{share_of}
use Rattle.accounts.proofs.Signed.{share_most}
use Rattle.accounts.proofs.figures.share_of.Goals as goal

pub overflow_cast-result : goal.overflow_cast-result
unfolding share_of
overflow_cast-result c = record { fits = omega (arith, c.nearest-share.ensures, share_most c.args.meter c.args.t c.requires) }
