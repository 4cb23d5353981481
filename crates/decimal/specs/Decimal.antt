-- Decimal numbers as bytes: how a number is written, and what a list of digits says.
use Rattle.std.specs.Prelude.{Bool, true, false, cond, not, ◌&&◌, ℕ, zero, suc, ◌+◌, ◌-◌, ◌*◌, ◌/◌, ◌%◌, List, [], ◌∷◌, ◌++◌, eqb, leb, ltb}
use Rattle.std.proofs.Math.Option.{Option, none, some}

-- the bytes of the digits 0 to 9 are 48 to 57
abbrev pub digit : ℕ → ℕ
digit d = 48 + d

-- the digits of a number, highest first; the fuel is never used up (proofs/Decimal.antt, `decimal-small` and `decimal-large`)
unfoldable pub digits : ℕ → ℕ → List ℕ
digits zero n = []
digits (suc fuel) n = elim (ltb n 10) [ true ↦ digit n ∷ [] | false ↦ digits fuel (n / 10) ++ (digit (n % 10) ∷ []) ]

unfoldable pub decimal : ℕ → List ℕ
unfolding digits
decimal n = digits (suc n) n

-- what digits say, behind a number already read
unfoldable pub value_from : ℕ → List ℕ → ℕ
value_from a [] = a
value_from a (d ∷ l) = value_from (a * 10 + (d - 48)) l

abbrev pub value : List ℕ → ℕ
value l = value_from 0 l

abbrev pub is_digit : ℕ → Bool
is_digit d = leb 48 d && leb d 57

unfoldable pub all_digits : List ℕ → Bool
all_digits [] = true
all_digits (d ∷ l) = is_digit d && all_digits l

-- "without leading zeros (0 itself is `0`)"
unfoldable pub numeral : List ℕ → Bool
unfolding all_digits
numeral [] = false
numeral (d ∷ []) = all_digits (d ∷ [])
numeral (d ∷ e ∷ l) = not (eqb d 48) && all_digits (d ∷ e ∷ l)

-- "Numbers are decimal up to 4294967295"
abbrev pub most : ℕ
most = 4294967295

-- the number that digits say, behind a number already read, if they are digits and it is not too large
unfoldable pub read_from : ℕ → List ℕ → Option ℕ
unfolding all_digits value_from
read_from a l = cond (all_digits l && leb (value_from a l) most) (some (value_from a l)) none

-- the number that bytes are, if they are one
unfoldable pub read_number : List ℕ → Option ℕ
unfolding numeral read_from
read_number l = cond (numeral l) (read_from 0 l) none
