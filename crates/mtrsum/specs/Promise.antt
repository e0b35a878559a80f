-- What `mtrsum` promises (RULE 8.15). Of each piece of the first reading: the first refusal among its blocks. Of the whole of it: the
-- refusal is the first of some bytes of the number judged, and the pieces went on until a block was refused or the last read gave no
-- bytes. Of each piece of the second: where it is what it was, its part of the summary stands at the front of the area, and as many bytes
-- as that has are handed to the write. Of the whole: a line where a block is refused or the file is bad, else the summary, up to a piece
-- that is not what it was or a write that failed. Which bytes the journal has at each reading, and which stand in the output, no contract
-- can say.
use Rattle.std.specs.Prelude.{ℕ, ◌*◌, ◌-◌, min, ◌≤◌, ◌≡◌, List, [], ◌∷◌, Bool, true, false, not, cond, ◌&&◌, eqb, length, take}
use Rattle.sector.specs.declared.refusal.Refusal.{Refusal}
use Rattle.sector.specs.Places.{blocks_in}
use Rattle.sector.specs.Refusals.{number_of}
use Rattle.block.specs.Block.{refusal_of}
use Rattle.text.specs.Decimal.{line_of}
use Rattle.events.specs.Events.{events}
use Rattle.usage.specs.declared.Usage.{Usage}
use Rattle.usage.specs.Usage.{first_refusal}
use Rattle.usage.specs.Writer.{unused, used_to, pairs_to, first_in}
use Rattle.program.specs.Program.{opened_refusal}
use Rattle.program.specs.Pieces.{Fetched, has_failed, is_unread, Pieces}
use Rattle.std.specs.declared.fs.File.{File}
use Rattle.std.specs.Prelude.{Option, Some, None, Result, Ok, Err}
use Rattle.program.specs.declared.Written.{Written}
use Rattle.mtrsum.specs.declared.Other.{Other}
use Rattle.mtrsum.specs.declared.Cut.{Cut}
use Rattle.mtrsum.specs.declared.Cut.TheVariants.{Changed, Unwritten}
use Rattle.mtrsum.specs.declared.Verdict.{Verdict}
use Rattle.mtrsum.specs.declared.Piece.{Piece}
use Rattle.mtrsum.specs.declared.Sum.{Sum}
use Rattle.mtrsum.specs.declared.Done.{Done}

-- whether a piece is whole: no block of it is refused, and all the bytes that are wanted were read
abbrev pub whole_of : ℕ → ℕ → ℕ → Bool
whole_of refusal read want = eqb refusal 0 && eqb read want

-- a piece of the first reading, the first of whose blocks stands at this place: the first refusal among its blocks
abbrev pub Judged : List ℕ → ℕ → ℕ → Type 0
Judged bytes place refusal = refusal ≡ first_in (blocks_in bytes) bytes place

-- after some pieces of it: some bytes, as many as were judged, and the first refusal among their blocks
pub record Sofar (read refusal : ℕ) : Type 0 where
  pub bytes : List ℕ
  pub size : length bytes ≡ read
  pub refusal-of : refusal ≡ first_refusal (events bytes)

-- the whole of it
pub record Reviewed (r : Verdict) : Type 0 where
  pub sofar : Sofar r.extent.read (refusal_of r.refused)
  pub pieces : Pieces r.extent.read r.extent.last (not (eqb (refusal_of r.refused) 0))

-- A piece of the second reading, all of whose bytes came, with the usage before it and the area after it: no block of it is refused, and
-- its part of the summary stands at the front of the area and is handed to the write
pub record Whole (bytes : List ℕ) (u : Usage) (out : List ℕ) (p : Piece) : Type 0 where
  pub filled : Fetched (length bytes) p.filled
  pub came : p.filled.got ≡ length bytes
  pub none : first_in (blocks_in bytes) bytes u.replay.place ≡ 0
  pub after : p.usage ≡ used_to (blocks_in bytes) bytes u
  pub handed : p.written.handed ≡ 1024 * blocks_in bytes
  pub text : take p.written.handed out ≡ pairs_to (blocks_in bytes) bytes u

-- one that is not what it was, by its area: not all the bytes came that are wanted, or a block of those that came is refused; and nothing
-- is handed to the write
pub record Differs (area : List ℕ) (u : Usage) (o : Other) : Type 0 where
  pub filled : Fetched (length area) o.filled
  pub other : whole_of (first_in (blocks_in (take o.filled.got area)) (take o.filled.got area) u.replay.place) o.filled.got (length area)
      ≡ false
  pub unsent : o.written.handed ≡ 0

-- one of which not all of the summary was written
pub record Partly (area : List ℕ) (u : Usage) (out : List ℕ) (w : Written) : Type 0 where
  pub piece : Piece
  pub whole : Whole area u out piece
  pub written : w ≡ piece.written
  pub undone : w.done ≡ false

-- The next piece is read only where all of its summary was written
abbrev pub Sent : List ℕ → Usage → List ℕ → Result Piece Cut → Type 0
Sent area u out (Ok p) = Whole area u out p × (p.written.done ≡ true)
Sent area u out (Err (Changed o)) = Differs area u o
Sent area u out (Err (Unwritten w)) = Partly area u out w

-- why it ended: all is summed, or the piece that came next was not the same or was not written whole
pub data Ended (size : ℕ) (r : Sum) : Type 0 where
  all : r.end ≡ Ok tt → r.sent ≡ size → Ended size r
  changed : (area : List ℕ) (o : Other) → length area ≡ min 16384 (size - r.sent) → Differs area r.usage o → r.end ≡ Err (Changed o)
      → Ended size r
  unwritten : (bytes out : List ℕ) (p : Piece) → length bytes ≡ min 16384 (size - r.sent) → Whole bytes r.usage out p
      → p.written.done ≡ false → r.end ≡ Err (Unwritten p.written) → Ended size r

-- the whole of it, for a file of this size: some bytes, as many as have their summary written and none of their blocks refused, and what is
-- carried on is theirs. So the pairs of the pieces, one after the other, are the summary of these bytes (`piece_writes`). They are all the
-- bytes, unless the next piece was not the same or its write failed
pub record Summed (size : ℕ) (r : Sum) : Type 0 where
  pub bytes : List ℕ
  pub sent : length bytes ≡ r.sent
  pub most : r.sent ≤ size
  pub none : first_refusal (events bytes) ≡ 0
  pub after : r.usage ≡ used_to (blocks_in bytes) bytes unused
  pub ended : Ended size r

-- the line of a refusal, at the front of a text
pub record Lined (refusal : ℕ) (text : List ℕ) (used : ℕ) : Type 0 where
  pub within : used ≤ length text
  pub line : take used text ≡ line_of (refusal ∷ [])

-- after the first reading: the refusal's line; where a read failed, the two bytes of the answer 4 if nothing of the file was read, and else
-- none; where the file's start can't be gone back to, nothing; and else the summary
pub data Concluded (v : Verdict) (r : Done) : Type 0 where
  refused : (e : Refusal) → v.refused ≡ Err e → r.line.handed ≡ length (line_of (number_of e ∷ [])) → r.sum ≡ None → Concluded v r
  failed : v.refused ≡ Ok tt → has_failed v.extent.last ≡ true → r.line.handed ≡ cond (is_unread v.extent) 2 0
      → r.sum ≡ None → Concluded v r
  stuck : v.refused ≡ Ok tt → has_failed v.extent.last ≡ false → r.line.handed ≡ 0 → r.sum ≡ None → Concluded v r
  summed : (s : Sum) → v.refused ≡ Ok tt → has_failed v.extent.last ≡ false → r.line.handed ≡ 0 → r.sum ≡ Some s → Summed v.extent.read s
      → Concluded v r

-- by whether the file's start can be gone to: the two bytes of the answer 4 where it can't
pub data Summarized (rewound : Bool) (r : Done) : Type 0 where
  unread : rewound ≡ false → r.line.handed ≡ 2 → r.sum ≡ None → Summarized rewound r
  judged : (v : Verdict) → rewound ≡ true → Reviewed v → Concluded v r → Summarized rewound r

-- for what was opened: the same answer where that is its number
pub data Served (opened : Option File) (r : Done) : Type 0 where
  unopened : opened_refusal opened ≡ 4 → r.line.handed ≡ 2 → r.sum ≡ None → Served opened r
  served : (file : File) (rewound : Bool) → opened ≡ Some file → Summarized rewound r → Served opened r
