-- A file that is read piece by piece: what every program that reads one promises of it. A contract can't speak of the file, but of values:
-- how many bytes a piece has, and how the reading of it ended: with all that was wanted, with a read that gave no bytes, or with one that
-- failed. That `given_by` is asked of what each read answered is read off `fill`, and that the bytes are the file's no contract can say.
use Rattle.std.specs.Prelude.{ℕ, ◌+◌, ◌*◌, ◌/◌, ◌≤◌, ◌≡◌, Bool, true, false, cond, ◌||◌, ◌&&◌, T, eqb, ltb, leb}
use Rattle.std.specs.Prelude.{Option, Some, None, Result, Ok, Err}
use Rattle.std.specs.declared.io.Error.{Error}
use Rattle.program.specs.declared.Ended.{Ended}
use Rattle.program.specs.declared.Ended.TheVariants.{Full, AtEnd, Failed}
use Rattle.program.specs.declared.Filled.{Filled}
use Rattle.program.specs.declared.Extent.{Extent}

-- what a read that answered this gave: some bytes, or the end of the file, or a failure
abbrev pub given_of : Result ℕ Error → Result ℕ Ended
given_of (Ok n) = cond (eqb n 0) (Err AtEnd) (Ok n)
given_of (Err e) = Err (Failed e)

-- whether reading is over: the last read gave no bytes
abbrev pub is_end : Ended → Bool
is_end Full = false
is_end AtEnd = true
is_end (Failed e) = true

abbrev pub is_over : Filled → Bool
is_over r = is_end r.end

-- why the last read failed, where it did, and whether it did
abbrev pub failure_at : Ended → Option Error
failure_at Full = None
failure_at AtEnd = None
failure_at (Failed e) = Some e

abbrev pub failure : Filled → Option Error
failure r = failure_at r.end

abbrev pub is_failure : Ended → Bool
is_failure Full = false
is_failure AtEnd = false
is_failure (Failed e) = true

abbrev pub has_failed : Filled → Bool
has_failed r = is_failure r.end

-- A piece of which `size` bytes are wanted. It has fewer exactly where the last read gave none
pub record Fetched (size : ℕ) (r : Filled) : Type 0 where
  pub most : r.got ≤ size
  pub short : ltb r.got size ≡ is_over r

-- The bytes of a piece that are judged: all of them, or the whole blocks after a read that failed, since what would have followed is not
-- known
abbrev pub judged_of : Filled → ℕ
judged_of r = cond (has_failed r) (r.got / 512 * 512) r.got

-- Pieces one after the other, of which `read` bytes are judged: full ones, of 16384 bytes, and then the last. They were read on until the
-- program needed no more (`enough`), or the last read gave no bytes. (Or all of 2^49 pieces were full: a proved loop has to end, and
-- nothing says that the file does.)
pub record Pieces (read : ℕ) (last : Filled) (enough : Bool) : Type 0 where
  pub full : ℕ
  pub counted : read ≡ 16384 * full + judged_of last
  pub ended : T (enough || (is_over last || leb 9223372036854775808 read))

-- whether nothing of the file was read
abbrev pub is_unread : Extent → Bool
is_unread r = eqb r.read 0 && eqb r.last.got 0
