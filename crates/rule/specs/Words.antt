-- The words of the theorems about the rule.
use Rattle.std.specs.Prelude.{ℕ, cond, not, ◌≡◌, T}
use Rattle.rule.specs.State.{State, reserved_at, thread_at, listed}
use Rattle.rule.specs.Refusals.{Call, open_group, close_group, admit, remove, wake, dispatch, report, change, admit_effort}
use Rattle.base.specs.Lists.{sum_below, member, without}
use Rattle.entry.specs.Entry.{no_thread}

-- the thread that a call puts into the list, takes off it or may move, or 64
unfoldable pub mover : Call → State → ℕ
mover (open_group n p c) s = 64
mover (close_group n) s = 64
mover (admit n g f) s = n
mover (remove n) s = n
mover (wake n) s = 64
mover dispatch s = 64
mover (report reason used) s = s.running
mover (change n f) s = 64
mover (admit_effort n w) s = 64

-- how many reserved threads there are
abbrev pub reserved_count : State → ℕ
reserved_count s = sum_below (λ n. cond (reserved_at s n) 1 0) 64

-- the greatest meter that calls reach
abbrev pub meter_reached : ℕ
meter_reached = 10000001000998

-- off the list, the others in their order, and free
abbrev pub Off : ℕ → State → State → Type 0
Off n s s' = (listed s' ≡ without n (listed s)) × T (not (member n (listed s'))) × (thread_at s' n ≡ no_thread)
