-- The words of the theorems about the accounts and the roster.
use Rattle.std.specs.Prelude.{ℕ, ◌-◌, ◌*◌, ◌^◌, ◌<◌, ◌≤◌, ◌≡◌, true, List, map, ◌⊎◌, nat_abs, pos}
use Rattle.std.specs.Int.Signed.{lt_z}
use Rattle.rule.specs.State.{State, thread_at}
use Rattle.entry.specs.Entry.{meter_most}
use Rattle.rule.specs.Accounts.{lag_of, share_of}
use Rattle.accounts.specs.declared.Entry.{Entry}
use Rattle.accounts.specs.Order.{counted_at}

-- a has the larger lag, or the same and counts as less, or both are the same and it has the lower number
abbrev pub Above : State → Entry → Entry → Type 0
Above s a b =
    (lt_z b.lag a.lag ≡ true)
    ⊎ ((a.lag ≡ b.lag)
    × ((counted_at s a.number < counted_at s b.number)
    ⊎ ((counted_at s a.number ≡ counted_at s b.number) × (a.number < b.number))))

-- no product of a lag or a share is too large for its field, and the results fit theirs
pub record Exact (s : State) (n : ℕ) : Type 0 where
  pub due : (thread_at s n).reservation * (s.meter - (thread_at s n).anchor) < 2 ^ 63
  pub had : 1000 * (thread_at s n).since < 2 ^ 63
  pub lag : nat_abs (lag_of s.meter (thread_at s n)) ≤ 1000 * meter_most
  pub ticks : 1000 * (thread_at s n).ticks < 2 ^ 63
  pub share : share_of s.meter (thread_at s n) ≤ 1000

-- the numbers, in the roster's order
unfoldable pub thread_numbers : List Entry → List ℕ
thread_numbers l = map (λ e. e.number) l

-- all zeros
abbrev pub no_entry : Entry
no_entry = record { number = 0; state = 0; allotment = pos 0; share = 0; lag = pos 0 }
