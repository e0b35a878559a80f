-- What `mtrwhy` promises (RULE 8.10, 8.12). Of each piece: the bytes that are judged are searched. After each piece: what is held is the
-- search over the bytes that were judged, by the definition of a search, or the answer for them. Of the whole run: the answer is `why` of
-- some bytes of the number judged, and reading went on until the record's place was among them or the last read gave no bytes; as many
-- bytes as the answer's text has are handed to the write. Which bytes the journal has, which stand in the output, and what the arguments
-- are, no contract can say.
use Rattle.std.specs.Prelude.{ℕ, ◌+◌, ◌-◌, ◌*◌, ◌/◌, min, ◌≤◌, ◌≡◌, List, Bool, true, false, not, cond, ◌&&◌, length, take}
use Rattle.std.specs.Prelude.{Option, Some, None, Result, Ok, Err}
use Rattle.std.specs.declared.io.Error.{Error}
use Rattle.std.specs.declared.fs.File.{File}
use Rattle.text.specs.Decimal.{lines_of, number_refusal}
use Rattle.sector.specs.Places.{blocks_in}
use Rattle.events.specs.Why.{why}
use Rattle.why.specs.declared.Search.{Search}
use Rattle.why.specs.Search.{searching, searched_by, is_in, looked, look_of, area_after}
use Rattle.program.specs.declared.Filled.{Filled}
use Rattle.program.specs.Program.{opened_refusal}
use Rattle.program.specs.Pieces.{has_failed, is_unread, Pieces}
use Rattle.mtrwhy.specs.declared.Answer.{Answer}

-- the bytes that are wanted from a place on: a piece of 16384, or what there is up to the end of the record's block
abbrev pub wanted_at : ℕ → ℕ → ℕ
wanted_at asked place = min 16384 (512 * (asked / 31 + 1 - place))

-- whether the record's place is among the bytes so far, and then how many bytes the answer has
abbrev pub is_found : Option ℕ → Bool
is_found (Some n) = true
is_found None = false

abbrev pub used_in : Option ℕ → ℕ
used_in (Some n) = n
used_in None = 0

-- a piece: its bytes, by the search before them, and the area before and after it
pub record Judged (bytes : List ℕ) (asked : ℕ) (q : Search) (o out : List ℕ) (after : Search) (used : Option ℕ) : Type 0 where
  pub search : look_of bytes asked o q ≡ Some (looked used after)
  pub area : out ≡ area_after bytes asked o q

-- after some pieces: some bytes, as many as were judged and none past the record's block. None of their blocks is the record's, and the
-- search is that over them; or one is, and the answer for them is at the front of the text
pub record Sofar (asked read : ℕ) (q : Search) (found : Bool) (out : List ℕ) (used : ℕ) : Type 0 where
  pub bytes : List ℕ
  pub size : length bytes ≡ read
  pub needed : read ≤ 512 * (asked / 31 + 1)
  pub place : is_in asked 0 (blocks_in bytes) ≡ found
  pub none : found ≡ false → q ≡ searched_by bytes searching
  pub told : found ≡ true → (used ≤ length out) × (take used out ≡ lines_of (why bytes asked))

-- some bytes, as many as were judged and none past the record's block. `reached` says whether the record's place is among them; until then,
-- or until the last read gave no bytes, the pieces went on
pub record Read (asked read : ℕ) (last : Filled) (reached : Bool) : Type 0 where
  pub bytes : List ℕ
  pub size : length bytes ≡ read
  pub needed : read ≤ 512 * (asked / 31 + 1)
  pub place : is_in asked 0 (blocks_in bytes) ≡ reached
  pub pieces : Pieces read last reached

-- whether there is no answer, and the bytes that it has
abbrev pub is_cut : Result ℕ Error → Bool
is_cut (Ok n) = false
is_cut (Err e) = true

abbrev pub told_in : Result ℕ Error → ℕ
told_in (Ok n) = n
told_in (Err e) = 0

-- the whole run: the answer for the bytes read, unless a read failed before the record was reached
pub record Told (asked : ℕ) (r : Answer) : Type 0 where
  pub reached : Bool
  pub read : Read asked r.extent.read r.extent.last reached
  pub failed : is_cut r.used ≡ (not reached && has_failed r.extent.last)
  pub within : told_in r.used ≤ length r.text
  pub answer : is_cut r.used ≡ false → take (told_in r.used) r.text ≡ lines_of (why read.bytes asked)

-- what is handed to the write: the answer's text; or, where a read failed, the two bytes of the answer 4 if nothing of the file was read,
-- and else none
pub record Wrote (asked handed : ℕ) : Type 0 where
  pub answer : Answer
  pub told : Told asked answer
  pub count : handed ≡ cond (is_cut answer.used) (cond (is_unread answer.extent) 2 0) (length (lines_of (why told.read.bytes asked)))

-- for what was opened: the two bytes of the answer 4 where that is its number, else the answer
pub data Answered (asked : ℕ) (opened : Option File) (handed : ℕ) : Type 0 where
  unopened : opened_refusal opened ≡ 4 → handed ≡ 2 → Answered asked opened handed
  told : (file : File) → opened ≡ Some file → Wrote asked handed → Answered asked opened handed

-- for the number that an argument spells: the same where it is none, else the answer for this number, of what was opened
pub data Served (number : Option ℕ) (handed : ℕ) : Type 0 where
  refused : number_refusal number ≡ 4 → handed ≡ 2 → Served number handed
  answered : (asked : ℕ) (opened : Option File) → number ≡ Some asked → Answered asked opened handed → Served number handed
