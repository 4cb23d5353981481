-- "Text form": fields, lines and texts as bytes.
use Rattle.std.specs.Prelude.{ℕ, zero, suc, List, [], ◌∷◌, ◌++◌}
use Rattle.thread.specs.Numbers.{◌!◌}
use Rattle.bytes_out.specs.Page.{tab, line_feed}

-- a field's bytes; a line's fields
abbrev pub Field : Type 0
Field = List ℕ

abbrev pub Line : Type 0
Line = List Field

-- fields behind others
unfoldable pub tabbed : Line → List ℕ
tabbed [] = []
tabbed (f ∷ l) = tab ∷ (f ++ tabbed l)

-- "Fields are parted by one tab, each line ends in a line feed"
unfoldable pub line_text : Line → List ℕ
unfolding tabbed
line_text [] = line_feed ∷ []
line_text (f ∷ l) = f ++ (tabbed l ++ (line_feed ∷ []))

unfoldable pub lines_text : List Line → List ℕ
unfolding line_text
lines_text [] = []
lines_text (l ∷ ls) = line_text l ++ lines_text ls

-- n numbers from k on
unfoldable pub up_from : ℕ → ℕ → List ℕ
up_from k zero = []
up_from k (suc n) = k ∷ up_from (suc k) n

-- what a table holds at n places from place i on
unfoldable pub numbers_from : List ℕ → ℕ → ℕ → List ℕ
numbers_from t i zero = []
numbers_from t i (suc n) = (t ! i) ∷ numbers_from t (suc i) n
