-- The words of the theorems about rounding.
use Rattle.std.specs.Prelude.{ℕ, ◌+◌, ◌-◌, ◌*◌, ◌%◌, ◌≤◌, ◌≡◌}

-- the larger less the smaller: the other difference is 0
abbrev pub distance : ℕ → ℕ → ℕ
distance a b = (a - b) + (b - a)

-- twice the distance between s × d and n is at most d, and where it is d, s is even
pub record Nearest (n d s : ℕ) : Type 0 where
  pub close : 2 * distance (s * d) n ≤ d
  pub even : 2 * distance (s * d) n ≡ d → s % 2 ≡ 0
