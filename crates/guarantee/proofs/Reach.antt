-- How far the meter and the virtual time go over a stretch: the virtual time never falls, and from a start, or any state that is not past
-- it, no list of calls brings the meter above 10,000,001,000,998. A dispatch just below the limit and a report of the longest slice with
-- the largest overrun bring it there.
use Prim.Native.Nat.{ℕ, ◌≤◌}
use mathlib.Core.Path.{◌≡◌, refl}
use mathlib.Core.List.{List, [], ◌∷◌}
use native.Mathlib.Omega.{arith}
use native.Mathlib.Nat.{le_refl}
use lib.Dec.{T}
use Rattle.rule.specs.State.{State}
use Rattle.rule.specs.Sound.{sound}
use Rattle.rule.specs.Refusals.{Call, dispatch, report}
use Rattle.rule.specs.Effects.{started}
use Rattle.rule.specs.Rule.{step}
use Rattle.rule.proofs.Limits.{meter_reached, meter_reach, time_rises}
use Rattle.guarantee.specs.Stretch.{final}
use Rattle.guarantee.specs.Examples.{brim}
use Rattle.guarantee.proofs.Computes.{stretching}

pub time_forward : (cs : List Call) (s : State) → s.time ≤ (final s cs).time
unfolding final
time_forward [] s = le_refl s.time
time_forward (c ∷ cs) s = omega (arith, time_rises c s, time_forward cs (step c s).state)

pub most_meter : (cs : List Call) (s : State) → s.meter ≤ meter_reached → (final s cs).meter ≤ meter_reached
unfolding final
most_meter [] s low = low
most_meter (c ∷ cs) s low = most_meter cs (step c s).state (meter_reach c s low)

pub most_started : (m p o : ℕ) (cs : List Call) → (final (started m p o) cs).meter ≤ meter_reached
unfolding started
most_started m p o cs = most_meter cs (started m p o) (omega arith)

pub most_attained : T (sound brim) × ((final brim (dispatch ∷ report 0 1000999 ∷ [])).meter ≡ meter_reached)
unfolding stretching brim
most_attained = (tt, refl)
