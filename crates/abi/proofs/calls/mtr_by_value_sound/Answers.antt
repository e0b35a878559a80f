-- `mtr_by_value_sound` meets its contract: 1 or 0, as the test says.
use mathlib.Core.Path.{sym, ap, ◌∙◌}
use Rattle.abi.specs.Calls.{flag_out}
use Rattle.abi.proofs.calls.mtr_by_value_sound.Goals as goal

pub returns-then-sound : goal.returns-then-sound
returns-then-sound c = ap flag_out (sym c.if-sound.true ∙ c.sound.ensures)

pub returns-else-sound : goal.returns-else-sound
returns-else-sound c = ap flag_out (sym c.if-sound.false ∙ c.sound.ensures)
