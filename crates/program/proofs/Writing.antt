-- A text at the front of an area, of which as many bytes as it has are handed to the write.
use Prim.Native.Nat.{ℕ, ◌+◌}
use mathlib.Core.Path.{◌≡◌, refl}
use mathlib.Core.List.{List}
use lib.ListN.{length, take, drop}
use lib.Seq.{take_at}
use Rattle.text.specs.Decimal.{over}

pub front : (o t : List ℕ) → take (length t) (over o 0 t) ≡ t
unfolding over
front o t = take_at t (drop (0 + length t) o) (length t) refl
