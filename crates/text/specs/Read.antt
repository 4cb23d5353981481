-- What the reader answers and leaves in the lent table, for every text and room.
use Rattle.std.specs.Prelude.{◌≡◌, Bool, cond, ◌||◌, ℕ, ◌/◌, List, length, ltb, Result, Ok, Err}
use Rattle.thread.specs.declared.Refusal.{Refusal}
use Rattle.thread.specs.declared.Refusal.TheVariants as R
use Rattle.thread.specs.Sizes.{most_lines, line_width}
use Rattle.thread.specs.Numbers.{zeros, filled}
use Rattle.thread.specs.Refusal.{number_of, place_of}
use Rattle.text.specs.Written.{Text, table_of}
use Rattle.text.specs.Reading.{Judgement, bad_line, whole, text_lines, read_text}

-- "text over 4,096 bytes"
abbrev pub most_bytes : ℕ
most_bytes = 4096

-- model and line count, or why there are none
abbrev pub Reading : Type 0
Reading = Result (ℕ × ℕ) Refusal

-- an answer, and what the lent table holds afterwards
pub record ReadResult : Type 0 where
  pub answer : Reading
  pub table : List ℕ

-- "A refusal zeroes every table lent for writing"
unfoldable pub refused : ℕ → Refusal → ReadResult
refused room r = record { answer = Err r; table = zeros room }

-- "Accepted tables hold their contents followed by zeros to the end of the lent room"
unfoldable pub accepted : ℕ → Text → ReadResult
unfolding filled table_of
accepted room t = record { answer = Ok (t.model, length t.lines); table = filled room (table_of t.lines) }

-- "more lines after the model line than 64 or than the lent table holds"
abbrev pub too_many : ℕ → ℕ → Bool
too_many room n = ltb most_lines n || ltb (room / line_width) n

unfoldable pub judged : ℕ → Judgement Text → ReadResult
unfolding refused accepted
judged room (bad_line n) = refused room (R.BadText n)
judged room (whole t) = cond (too_many room (length t.lines)) (refused room R.TooManyLines) (accepted room t)

-- "The reader gives 1, then 4"; "0 for the length, checked first; else first such text line from 1"
unfoldable pub read : ℕ → List ℕ → ReadResult
unfolding refused judged read_text text_lines
read room text = cond (ltb most_bytes (length text)) (refused room (R.BadText 0)) (judged room (read_text (text_lines text)))

-- the same for a text whose lines are all good
pub record JudgedOk (room : ℕ) (t : Text) (answer : Reading) (table : List ℕ) : Type 0 where
  pub answered : answer ≡ (judged room (whole t)).answer
  pub left : table ≡ (judged room (whole t)).table

-- what is promised of an answer and the lent table
pub record ReadOk (room : ℕ) (text : List ℕ) (answer : Reading) (table : List ℕ) : Type 0 where
  pub answered : answer ≡ (read room text).answer
  pub left : table ≡ (read room text).table

-- the paper's numbers and values of each answer; "both 0 on a refusal"
pub record ReadAnswer : Type 0 where
  pub number : ℕ
  pub place : ℕ
  pub model : ℕ
  pub lines : ℕ

unfoldable pub read_answer : Reading → ReadAnswer
unfolding number_of place_of
read_answer (Ok (model, lines)) = record { number = 0; place = 0; model = model; lines = lines }
read_answer (Err r) = record { number = number_of r; place = place_of r; model = 0; lines = 0 }
