-- What the reader accepts and refuses, said by what is written.
use Rattle.std.specs.Prelude.{◌≡◌, ◌⊎◌, ◌↔◌, ℕ, zero, suc, ◌/◌, ◌≤◌, ◌<◌, max, List, [], ◌∷◌, ◌++◌, length, get_or}
use Rattle.lists.specs.Lists.{All, Lowest}
use Rattle.thread.specs.declared.Refusal.TheVariants as R
use Rattle.thread.specs.Sizes.{most_lines, line_width}
use Rattle.text.specs.Written.{Entry, Proper, Text, ProperText, feed, models, line_text, model_text, written}
use Rattle.text.specs.Reading.{text_lines}
use Rattle.text.specs.Read.{most_bytes, refused, accepted, read}

-- "a line the text form forbids": line 0 is no model's writing, any other line no instruction's
abbrev pub Forbidden : ℕ → List ℕ → Type 0
Forbidden zero l = (m : ℕ) → m < models → l ≡ model_text m → ⊥
Forbidden (suc k) l = (e : Entry) → Proper e → l ≡ line_text e → ⊥

-- line k of a text, from 0, with its line feed if it has one; an empty text has an empty line 0
abbrev pub line_at : List ℕ → ℕ → List ℕ
line_at text k = get_or (text_lines text) k []

abbrev pub line_count : List ℕ → ℕ
line_count text = max 1 (length (text_lines text))

-- "first such text line"
abbrev pub FirstBad : List ℕ → ℕ → Type 0
FirstBad text k = Lowest (λ j. Forbidden j (line_at text j)) (line_count text) k

-- lines with a line feed at their end and nowhere else, and a last one that may lack it, are the lines of what they are joined to
abbrev pub NoFeed : List ℕ → Type 0
NoFeed l = All (λ b. b ≡ feed → ⊥) l

pub record Ended (l : List ℕ) : Type 0 where
  pub bytes : List ℕ
  pub free : NoFeed bytes
  pub ended : l ≡ bytes ++ (feed ∷ [])

abbrev pub Lines : List (List ℕ) → Type 0
Lines [] = Unit {0}
Lines (l ∷ []) = Ended l ⊎ (NoFeed l × (0 < length l))
Lines (l ∷ m ∷ ls) = Ended l × Lines (m ∷ ls)

unfoldable pub joined : List (List ℕ) → List ℕ
joined [] = []
joined (l ∷ ls) = l ++ joined ls

-- "more lines after the model line than 64 or than the lent table holds"
abbrev pub Fits : ℕ → Text → Type 0
Fits room t = (length t.lines ≤ most_lines) × (length t.lines ≤ room / line_width)

abbrev pub TooMany : ℕ → Text → Type 0
TooMany room t = (most_lines < length t.lines) ⊎ (room / line_width < length t.lines)

-- the text is what is written of t, and it is not too long
pub record WrittenOf (text : List ℕ) (t : Text) : Type 0 where
  pub proper : ProperText t
  pub same : text ≡ written t
  pub short : length text ≤ most_bytes

-- each answer, exactly when it is given
pub record TextForm (room : ℕ) (text : List ℕ) : Type 0 where
  pub lines : Lines (text_lines text) × (joined (text_lines text) ≡ text)
  pub accepts : (t : Text) → ProperText t → (read room text ≡ accepted room t) ↔ (WrittenOf text t × Fits room t)
  pub too_long : (read room text ≡ refused room (R.BadText 0)) ↔ (most_bytes < length text)
  pub bad_line : (k : ℕ) → (read room text ≡ refused room (R.BadText (suc k))) ↔ ((length text ≤ most_bytes) × FirstBad text k)
  pub too_many : (read room text ≡ refused room R.TooManyLines) ↔ ((t : Text) × WrittenOf text t × TooMany room t)

-- no two models with lines are written alike
abbrev pub WrittenApart : Type 0
WrittenApart = (t u : Text) → ProperText t → ProperText u → written t ≡ written u → t ≡ u
