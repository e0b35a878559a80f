-- What functions that write a text line after line promise one another; nothing of the rule rests on it.
use Rattle.std.specs.Prelude.{ℕ, ◌+◌, ◌≤◌, ◌≡◌, List, length}
use Rattle.text.specs.Decimal.{over}

-- the text x was written over the area o from `at` on, in at most `most` bytes, and ends at `used`
pub record Wrote (o : List ℕ) (at : ℕ) (x : List ℕ) (most : ℕ) (out : List ℕ) (used : ℕ) : Type 0 where
  pub ends : used ≡ at + length x
  pub within : used ≤ at + most
  pub text : out ≡ over o at x
