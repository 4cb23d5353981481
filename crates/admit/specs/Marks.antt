-- Marks on lines, and the lines that can be reached from marked ones. The private functions of the loop check cite these.
use Rattle.std.specs.Prelude.{◌≡◌, Bool, true, false, not, ◌&&◌, ℕ, ◌≤◌, ◌<◌, List, [], ◌∷◌, get_or, set, replicate, T}
use mathlib.Core.List.{Memᴰ}
use Rattle.thread.specs.declared.Line.{Line}
use Rattle.thread.specs.Sizes.{most_lines}
use Rattle.thread.specs.Table.{Prog, instr_at, lines_of}
use Rattle.checks.specs.Lines.{follows, passes, Leads}

-- line l is marked
abbrev pub marked : List Bool → Line → Bool
marked m l = get_or m l.0 false

abbrev pub no_marks : List Bool
no_marks = replicate most_lines false

-- the marks, with more lines marked
unfoldable pub mark_all : List Bool → List Line → List Bool
mark_all m [] = m
mark_all m (l ∷ ls) = mark_all (set m l.0 true) ls

-- the lines that may come after a line: all, or only those that it passes to with neither fence nor cas
unfoldable pub ways : Bool → Prog → Line → List Line
unfolding follows passes
ways true prog = follows prog
ways false prog = passes prog

-- line k is marked and not done
unfoldable pub is_open : List Bool → List Bool → ℕ → Bool
is_open m d k = get_or m k false && not (get_or d k false)

-- l can be reached from a marked line
pub record From (out : Line → List Line) (m : List Bool) (l : Line) : Type 0 where
  pub from : Line
  pub start : T (marked m from)
  pub way : Leads out from l

-- r marks exactly the lines that can be reached from those that m marks
pub record Spread (out : Line → List Line) (m r : List Bool) : Type 0 where
  pub sound : (l : Line) → T (marked r l) → From out m l
  pub complete : (l : Line) → From out m l → T (marked r l)

-- n is how many lines a table holds, of 64 at the most
pub record Lined (t : List ℕ) (n : ℕ) : Type 0 where
  pub lines : n ≡ lines_of t
  pub some_lines : 0 < n
  pub few_lines : n ≤ most_lines

-- and its lines lead to each other alone
pub record Closed (t : List ℕ) (n : ℕ) : Type 0 where
  pub lined : Lined t n
  pub stays : (l k : Line) → l.0 < n → Memᴰ k (follows (instr_at t) l) → k.0 < n

-- marks on lines below n alone
abbrev pub Inside : ℕ → List Bool → Type 0
Inside n m = (l : Line) → T (marked m l) → l.0 < n
