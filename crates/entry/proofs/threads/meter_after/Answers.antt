-- `meter_after` meets its contract.
use Rattle.entry.proofs.threads.meter_after.Goals as goal

pub charge-requires : goal.charge-requires
charge-requires c = c.requires c.if-accepted.true

pub returns-then-accepted : goal.returns-then-accepted
returns-then-accepted c = rw (c.if-accepted.true, c.charge.ensures)
