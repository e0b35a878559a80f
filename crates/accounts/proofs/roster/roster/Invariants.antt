-- The first i records are stored.
use Rattle.std.proofs.Common.{◌≡◌}
use Rattle.scheduler.specs.View.{view}
use Rattle.accounts.specs.Roster.{roster_of}
use Rattle.accounts.proofs.Overlay.{overlaid}
use Rattle.accounts.proofs.roster.roster.Given as goal

abbrev pub invariant-loop-i : goal.invariant-loop-i
invariant-loop-i l = l.table ≡ overlaid (roster_of (view l.s)) l.i l.initial.table
