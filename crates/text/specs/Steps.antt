-- What the functions inside the reader answer: how far to a byte, a judgement of lines.
use Rattle.std.specs.Prelude.{ℕ, ◌+◌, List, [], length, eqb, Result, Ok, Err}
use Rattle.std.specs.List.{position_or_len}
use Rattle.thread.specs.declared.Refusal.{Refusal}
use Rattle.thread.specs.declared.Refusal.TheVariants as R
use Rattle.text.specs.Written.{Entry}
use Rattle.text.specs.Reading.{Judgement, bad_line, whole}

-- how many bytes stand before the first s
unfoldable pub run : ℕ → List ℕ → ℕ
run s l = position_or_len (λ b. eqb b s) l

-- how many lines there are, behind n that are good, or the first bad line
unfoldable pub judgement : ℕ → Judgement (List Entry) → Result ℕ Refusal
judgement n (bad_line m) = Err (R.BadText m)
judgement n (whole es) = Ok (n + length es)

abbrev pub lines_in : Judgement (List Entry) → List Entry
lines_in (bad_line m) = []
lines_in (whole es) = es
