-- The words of the theorems about best-effort threads.
use Rattle.std.specs.Prelude.{ℕ, ◌≤◌, ◌<◌, ◌+◌, ◌*◌, ◌≡◌, Bool, T}
use Rattle.fair.specs.Tags.{tag_unit, cost}

-- best is the choice among the ready ones below k
pub record Best (ready : ℕ → Bool) (tag : ℕ → ℕ) (k best : ℕ) : Type 0 where
  pub none : best ≡ 64 → (n : ℕ) → n < k → T (ready n) → ⊥
  pub below : (best ≡ 64 → ⊥) → best < k
  pub chosen : (best ≡ 64 → ⊥) → T (ready best)
  pub least : (best ≡ 64 → ⊥) → (n : ℕ) → n < k → T (ready n) → tag best ≤ tag n
  pub lowest : (best ≡ 64 → ⊥) → (n : ℕ) → n < best → T (ready n) → tag best < tag n

-- a thread's weight and tag, against P + O, the virtual time and the meter; `ready` and `running` say what it is
pub record Tagged (limit time meter weight : ℕ) (ready running : Bool) (tag : ℕ) : Type 0 where
  pub low : 1 ≤ weight
  pub high : weight ≤ 16
  pub near : tag ≤ time + cost weight limit
  pub ahead : T ready → time ≤ tag
  pub at : T running → tag ≡ time
  pub paid : tag ≤ tag_unit * meter
