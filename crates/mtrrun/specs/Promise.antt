-- What `mtrrun` promises (RULE 8.2, 8.9). Of each piece: the bytes that are judged are replayed, what they print stands at the front of the
-- area, and as many bytes as that has are handed to the write. Of the whole run: it is the replay left by some bytes of the number judged,
-- in the order in which the pieces were read, and the pieces went on until the last read gave no bytes or a write failed. Which bytes the
-- input has, and which stand in the output, no contract can say.
use Rattle.std.specs.Prelude.{ℕ, ◌≡◌, List, not, length, take}
use Rattle.replay.specs.View.{seen}
use Rattle.sector.specs.Places.{blocks_in}
use Rattle.events.specs.Replay.{Progress, printed_to, left_by, beginning}
use Rattle.program.specs.Pieces.{Pieces}
use Rattle.mtrrun.specs.declared.Piece.{Piece}
use Rattle.mtrrun.specs.declared.Done.{Done}

-- a piece: its bytes that are judged, on the replay before them, and the area after it
pub record Replayed (bytes : List ℕ) (p : Progress) (out : List ℕ) (r : Piece) : Type 0 where
  pub left : seen r.replay ≡ left_by (blocks_in bytes) bytes p
  pub handed : r.written.handed ≡ length (printed_to (blocks_in bytes) bytes p)
  pub text : take r.written.handed out ≡ printed_to (blocks_in bytes) bytes p

-- after some pieces: some bytes, as many as were judged, from the beginning on
pub record Sofar (read : ℕ) (p : Progress) : Type 0 where
  pub bytes : List ℕ
  pub size : length bytes ≡ read
  pub left : p ≡ left_by (blocks_in bytes) bytes beginning

-- the whole run
pub record Held (r : Done) : Type 0 where
  pub pieces : Pieces r.extent.read r.extent.last (not r.written.done)
  pub sofar : Sofar r.extent.read (seen r.replay)
