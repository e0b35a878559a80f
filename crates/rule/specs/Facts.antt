-- Soundness as facts: what the test says of a sound state (`facts`, `sound_of`).
use Rattle.std.specs.Prelude.{ℕ, ◌-◌, ◌*◌, ◌≤◌, ◌<◌, ◌≡◌, Bool, ◌&&◌, length, T, ltb, eqb}
use Rattle.base.specs.Lists.{member, distinct, every_of}
use Rattle.entry.specs.declared.Thread.{Thread}
use Rattle.rule.specs.State.{State, thread_at, group_at, admitted_at, runnable_at, reserved_at, effort_at, open_at, listed}
use Rattle.entry.specs.Entry.{is_runnable, group_of, weight_of, limit_of, meter_limit, meter_most, settings_ok}
use Rattle.quota.specs.Quota.{nat_of}
use Rattle.fair.specs.Tags.{tag_unit}
use Rattle.fair.specs.Words.{Tagged}
use Rattle.rule.specs.Sound.{load}

-- a reserved thread's own numbers
pub record Fit (t : Thread) (m : ℕ) : Type 0 where
  pub positive : 1 ≤ t.reservation
  pub at_most : t.reservation ≤ 1000
  pub some : 1 ≤ nat_of t.allotment
  pub bounded : nat_of t.allotment ≤ t.reservation * m

-- an admitted thread's account
pub record Account (t : Thread) (meter : ℕ) : Type 0 where
  pub anchored : t.admission ≤ t.anchor
  pub past : t.anchor ≤ meter
  pub charged : t.ticks ≤ meter - t.admission
  pub since : t.since ≤ meter - t.anchor

-- a best-effort thread's weight and tag, against P + O, the virtual time and the meter
abbrev pub TagFacts : Thread → ℕ → ℕ → ℕ → Bool → Type 0
TagFacts t limit time meter running = Tagged limit time meter (weight_of t) (is_runnable t) running t.tag

-- a reserved thread
pub record ThreadFacts (s : State) (n : ℕ) : Type 0 where
  pub small : n < 64
  pub in_list : T (member n (listed s))
  pub in_group : T (open_at s (group_of (thread_at s n)))
  pub fit : Fit (thread_at s n) s.settings.thousandth

-- an open group
pub record GroupFacts (s : State) (g : ℕ) : Type 0 where
  pub positive : 1 ≤ (group_at s g).ceiling
  pub at_most : (group_at s g).ceiling ≤ 1000
  pub parent : (g ≡ 0 → ⊥) → ((group_at s g).parent < g) × T (open_at s (group_at s g).parent)
  pub carries : load s g ≤ (group_at s g).ceiling

-- the running thread
pub record RunFacts (s : State) : Type 0 where
  pub small : s.running < 64
  pub admitted : T (admitted_at s s.running)
  pub runnable : T (runnable_at s s.running)
  pub early : s.meter < meter_limit

pub record Facts (s : State) : Type 0 where
  pub threads64 : length s.threads ≡ 64
  pub groups16 : length s.groups ≡ 16
  pub order64 : length s.order ≡ 64
  pub settings : T (settings_ok s.settings)
  pub root : T (open_at s 0)
  pub whole : (group_at s 0).ceiling ≡ 1000
  pub flag : (g : ℕ) → g < 16 → (group_at s g).opened ≤ 1
  pub group : (g : ℕ) → g < 16 → T (open_at s g) → GroupFacts s g
  pub status : (n : ℕ) → n < 64 → (thread_at s n).status ≤ 2
  pub small : (n : ℕ) → T (admitted_at s n) → n < 64
  pub account : (n : ℕ) → T (admitted_at s n) → Account (thread_at s n) s.meter
  pub thread : (n : ℕ) → T (reserved_at s n) → ThreadFacts s n
  pub effort : (n : ℕ) → T (effort_at s n) → TagFacts (thread_at s n) (limit_of s.settings) s.time s.meter (eqb s.running n)
  pub count64 : s.count ≤ 64
  pub members : T (every_of (λ n. ltb n 64 && reserved_at s n) (listed s))
  pub once : T (distinct (listed s))
  pub run : (s.running ≡ 64 → ⊥) → RunFacts s
  pub meter : s.meter ≤ meter_most
  pub time : s.time ≤ tag_unit * s.meter
