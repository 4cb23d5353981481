-- "The thread": a table holds five numbers a line, kind, then four fields.
use Rattle.std.specs.Prelude.{ℕ, ◌+◌, ◌*◌, ◌/◌, Bool, true, false, List, [], ◌∷◌, length, ◌==◌, slice_index_or}
use Rattle.std.proofs.Math.Option
use Rattle.std.proofs.Math.Option.{Option, none, some, Option-elim}
use Rattle.thread.specs.declared.Line.{Line}
use Rattle.thread.specs.declared.Instr.{Instr}
use Rattle.thread.specs.declared.Instr.TheVariants as I
use Rattle.thread.specs.Sizes.{line_width}
use Rattle.thread.specs.Numbers.{◌!◌}

abbrev pub line : ℕ → Line
line n = record { 0 = n }

-- line numbers are compared with line numbers alone
abbrev pub same_line : Line → Line → Bool
same_line a b = a.0 == b.0

abbrev pub next : Line → Line
next l = line (l.0 + 1)

-- a program: the instruction at each line
abbrev pub Prog : Type 0
Prog = Line → Instr

-- the twelve kinds, 0 to 11, with their fields
unfoldable pub instr_of : ℕ → ℕ → ℕ → ℕ → ℕ → Instr
instr_of kind a b c d =
    slice_index_or
    (I.Set a b
    ∷ I.Copy a b
    ∷ I.Add a b c
    ∷ I.Sub a b c
    ∷ I.Load a b
    ∷ I.StoreR a b
    ∷ I.StoreC a b
    ∷ I.Fence
    ∷ I.Cas a b c d
    ∷ I.Branch a (line b)
    ∷ I.Jump (line a)
    ∷ I.Return
    ∷ [])
    kind I.Return

-- number i of line l: 0 is its kind, 1 to 4 are its fields
abbrev pub number_at : List ℕ → Line → ℕ → ℕ
number_at table l i = table ! (line_width * l.0 + i)

abbrev pub kind_at : List ℕ → Line → ℕ
kind_at table l = number_at table l 0

unfoldable pub instr_at : List ℕ → Prog
unfolding instr_of
instr_at table l = instr_of (kind_at table l) (number_at table l 1) (number_at table l 2) (number_at table l 3) (number_at table l 4)

-- how many lines a table holds
abbrev pub lines_of : List ℕ → ℕ
lines_of table = length table / line_width

-- what a field holds
pub data Field : Type 0 where
  register variable value target : Field

-- the fields that a kind uses, in order
unfoldable pub fields_of : ℕ → List Field
fields_of kind =
    slice_index_or
    ((register ∷ value ∷ [])
    ∷ (register ∷ register ∷ [])
    ∷ (register ∷ register ∷ register ∷ [])
    ∷ (register ∷ register ∷ register ∷ [])
    ∷ (register ∷ variable ∷ [])
    ∷ (variable ∷ register ∷ [])
    ∷ (variable ∷ value ∷ [])
    ∷ []
    ∷ (register ∷ variable ∷ register ∷ register ∷ [])
    ∷ (register ∷ target ∷ [])
    ∷ (target ∷ [])
    ∷ []
    ∷ [])
    kind []

-- "Every store line l (kind 5 or 6)": the variable that an instruction stores to
unfoldable pub stores : Instr → Option ℕ
stores (I.Set a v) = none
stores (I.Copy a b) = none
stores (I.Add a b c) = none
stores (I.Sub a b c) = none
stores (I.Load a x) = none
stores (I.StoreR x a) = some x
stores (I.StoreC x v) = some x
stores I.Fence = none
stores (I.Cas a x b c) = none
stores (I.Branch a to) = none
stores (I.Jump to) = none
stores I.Return = none

unfoldable pub is_store : Instr → Bool
unfolding stores Option-elim
is_store i = Option-elim (stores i) false (λ x. true)

-- the variable of the store line l
unfoldable pub var_at : Prog → Line → ℕ
unfolding stores
var_at prog l = Option.get_or (stores (prog l)) 0
