-- A lent area as a page: bytes are put on it one after the other, as many as there is room for.
use Rattle.std.specs.Prelude.{cond, ℕ, ◌+◌, ◌-◌, List, [], ◌∷◌, ◌++◌, length, take, set, ltb}
use Rattle.thread.specs.Numbers.{zeros}

-- "parted by one tab, each line ends in a line feed"
abbrev pub tab : ℕ
tab = 9

abbrev pub line_feed : ℕ
line_feed = 10

-- the area, and the next place: one more than the area is long once a byte was lost
pub record Page : Type 0 where
  pub area : List ℕ
  pub at : ℕ

abbrev pub page : List ℕ → ℕ → Page
page area at = record { area = area; at = at }

unfoldable pub put : Page → ℕ → Page
put p b = cond (ltb p.at (length p.area)) (page (set p.area p.at b) (p.at + 1)) (page p.area (length p.area + 1))

unfoldable pub puts : Page → List ℕ → Page
unfolding put
puts p [] = p
puts p (b ∷ l) = puts (put p b) l

-- zeros from a place on
unfoldable pub cleared : List ℕ → ℕ → List ℕ
cleared a from = take from a ++ zeros (length a - from)
