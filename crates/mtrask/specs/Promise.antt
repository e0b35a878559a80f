-- What `mtrask` promises (RULE 8.16, 8.17). Of the arguments: the questions are what some texts spell, three by three. Of each piece: the
-- bytes that are judged are passed over. Of the whole run: the answers are those of some bytes, as many as were judged, and reading went on
-- until the last read gave no bytes; as many bytes as the lines of the answers have are handed to the write. Which texts the
-- arguments are, which bytes the summary has, and which stand in the output, no contract can say.
use Rattle.std.specs.Prelude.{ℕ, ◌-◌, ◌*◌, ◌/◌, ◌%◌, ◌≤◌, ◌≡◌, List, [], ◌∷◌, map, length, take}
use Rattle.std.specs.Prelude.{false, cond, ◌&&◌, leb, eqb, Option, Some, None, Ok, Err}
use Rattle.std.specs.declared.fs.File.{File}
use Rattle.text.specs.Decimal.{lines_of, number_of}
use Rattle.sector.specs.Places.{blocks_in}
use Rattle.summary.specs.declared.questions.Question.{Question}
use Rattle.summary.specs.declared.questions.Pass.{Pass}
use Rattle.summary.specs.Questions as question
use Rattle.summary.specs.Questions.{Answer, answers_of}
use Rattle.summary.specs.Pass.{unread, passed_to}
use Rattle.program.specs.Program.{opened_refusal}
use Rattle.program.specs.Pieces.{has_failed, is_unread, Pieces}
use Rattle.mtrask.specs.declared.questions.Questions.{Questions}
use Rattle.mtrask.specs.declared.Outcome.{Outcome}

-- The arguments.

-- how many questions so many arguments ask, the program's own name among them: three for each after the file's name, and 1 to 64 of them;
-- none for any other number of arguments
unfoldable pub question_count : ℕ → Option ℕ
question_count all = cond (leb 5 all && (leb all 194 && eqb ((all - 2) % 3) 0)) (Some ((all - 2) / 3)) None

-- the numbers that texts spell; none where a text spells none
abbrev pub joined : Option ℕ → Option (List ℕ) → Option (List ℕ)
joined (Some n) (Some l) = Some (n ∷ l)
joined (Some n) None = None
joined None l = None

unfoldable pub numbers_spelt : List (List ℕ) → Option (List ℕ)
numbers_spelt [] = Some []
numbers_spelt (t ∷ ts) = joined (number_of t) (numbers_spelt ts)

-- numbers three by three: thread, first block, second block
unfoldable pub questions_of : List ℕ → List Question
questions_of [] = []
questions_of (t ∷ []) = []
questions_of (t ∷ a ∷ []) = []
questions_of (t ∷ a ∷ b ∷ l) = record { thread = t; first = a; second = b } ∷ questions_of l

-- the first so many numbers of an array, where there is one
abbrev pub front_of : ℕ → Option (List ℕ) → Option (List ℕ)
front_of count (Some l) = Some (take count l)
front_of count None = None

-- the numbers that so many arguments spell, in their order
pub record Said (count : ℕ) (r : Option (List ℕ)) : Type 0 where
  pub texts : List (List ℕ)
  pub size : length texts ≡ count
  pub values : front_of count r ≡ numbers_spelt texts

-- the questions that are asked
abbrev pub asked_in : Questions → List Question
asked_in q = take q.count q.all

abbrev pub asked_by : Option (List ℕ) → Option (List Question)
asked_by (Some l) = Some (questions_of l)
asked_by None = None

abbrev pub all_asked : Option Questions → Option (List Question)
all_asked (Some q) = Some (asked_in q)
all_asked None = None

-- all the arguments, `all` with the program's own name: none where they ask no question, or one of them spells no number
pub data Parsed (r : Option Questions) : Type 0 where
  uncounted : (all : ℕ) → question_count all ≡ None → r ≡ None → Parsed r
  counted : (all count : ℕ) (texts : List (List ℕ)) → question_count all ≡ Some count → length texts ≡ 3 * count
      → all_asked r ≡ asked_by (numbers_spelt texts) → ((q : Questions) → r ≡ Some q → q.count ≡ count) → Parsed r

-- The answers.

-- the line of an answer: 0 and the ticks, or the refusal
unfoldable pub numbers_of : Answer → List ℕ
numbers_of (Ok ticks) = 0 ∷ ticks ∷ []
numbers_of (Err why) = question.number_of why ∷ []

unfoldable pub answer_text : List Answer → List ℕ
answer_text answers = lines_of (map numbers_of answers)

-- a piece: its bytes, by the pass before them
abbrev pub Judged : List ℕ → List Question → Pass → Pass → Type 0
Judged bytes qs p r = r ≡ passed_to (blocks_in bytes) bytes qs p

-- after some pieces: the pass over some bytes, as many as were judged
pub record Passed (qs : List Question) (read : ℕ) (pass : Pass) : Type 0 where
  pub bytes : List ℕ
  pub size : length bytes ≡ read
  pub passed : pass ≡ passed_to (blocks_in bytes) bytes qs unread

-- the whole run: at the front of the text stand the lines of the answers from such bytes, a line for each question in their order
pub record Looked (qs : List Question) (text : List ℕ) (r : Outcome) : Type 0 where
  pub bytes : List ℕ
  pub size : length bytes ≡ r.extent.read
  pub pieces : Pieces r.extent.read r.extent.last false
  pub within : r.used ≤ length text
  pub lines : take r.used text ≡ answer_text (answers_of bytes qs)

-- what is handed to the write for the questions: that text; or, where a read failed, the two bytes of the answer 4 if nothing of the file
-- was read, and else none
pub record Handed (q : Questions) (handed : ℕ) : Type 0 where
  pub text : List ℕ
  pub outcome : Outcome
  pub looked : Looked (asked_in q) text outcome
  pub sent : handed ≡ cond (has_failed outcome.extent.last) (cond (is_unread outcome.extent) 2 0)
      (length (answer_text (answers_of looked.bytes (asked_in q))))

-- for what was opened: the two bytes of the answer 4 where that is its number, else the answers
pub data Answered (q : Questions) (opened : Option File) (handed : ℕ) : Type 0 where
  unopened : opened_refusal opened ≡ 4 → handed ≡ 2 → Answered q opened handed
  told : (file : File) → opened ≡ Some file → Handed q handed → Answered q opened handed

-- for the questions asked: the same where the arguments are bad, else the answers to these questions, from what was opened
pub data Served (asked : Option Questions) (handed : ℕ) : Type 0 where
  refused : asked ≡ None → handed ≡ 2 → Served asked handed
  answered : (q : Questions) (opened : Option File) → asked ≡ Some q → Answered q opened handed → Served asked handed

-- the program
pub record Ran (handed : ℕ) : Type 0 where
  pub asked : Option Questions
  pub parsed : Parsed asked
  pub served : Served asked handed
