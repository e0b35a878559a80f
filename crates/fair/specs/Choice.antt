-- RULE 2.15 as the code chooses: a number, or none. `thread_of` joins it to the numbers of the rule and of the state, where 64 is none.
use Rattle.std.specs.Prelude.{ℕ, ◌+◌, Bool, true, ltb, Option, Some, None, unwrap_or}

-- the number of the thread, or 64
abbrev pub thread_of : Option ℕ → ℕ
thread_of number = unwrap_or number 64

-- a tag is smaller than that of the best so far, or there is none
unfoldable pub goes_first : ℕ → Option ℕ → Bool
goes_first tag None = true
goes_first tag (Some least) = ltb tag least

-- how many threads a dispatch that takes this one answers: those passed over in the list and, of idle, the best-effort ones too
unfoldable pub count_before : Option ℕ → ℕ → ℕ → ℕ
count_before None passed efforts = passed + efforts
count_before (Some n) passed efforts = passed
