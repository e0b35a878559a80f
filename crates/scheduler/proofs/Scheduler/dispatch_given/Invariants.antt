use Prim.Native.Nat.{ℕ, ◌+◌, ◌-◌, ◌≤◌}
use mathlib.Core.Path.{◌≡◌}
use lib.ListN.{take, drop}
use Rattle.std.specs.Prelude.{None}
use Rattle.base.specs.Lists.{passed}
use Rattle.rule.specs.State.{State, runnable_at}
use Rattle.entry.proofs.effort.Search.{Found}
use Rattle.scheduler.specs.View.{view}
use Rattle.scheduler.proofs.Scheduler.dispatch_given.Given as goal

-- what is passed of the list from entry i on
abbrev pub beyond : State → ℕ → ℕ → ℕ
beyond s count i = passed (runnable_at s) (drop i (take count s.order))

abbrev pub invariant-loop-before : goal.invariant-loop-before
invariant-loop-before l =
    (l.before ≤ l.count)
    × (passed (runnable_at (view l.self)) (take l.count l.self.order) ≡ l.before + beyond (view l.self) l.count l.before)

abbrev pub decreases-loop-before : goal.decreases-loop-before
decreases-loop-before l = l.count - l.before

abbrev pub invariant-loop-i : goal.invariant-loop-i
invariant-loop-i l = (l.i ≤ 64) × (l.efforts.count ≤ l.i) × (l.listed ≡ None → Found l.self.threads l.i l.efforts)
