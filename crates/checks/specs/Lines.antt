-- "10 UnfencedLoop": lines that follow one another, and loops with a store but neither fence nor cas.
use Rattle.std.specs.Prelude.{Bool, true, false, cond, ◌&&◌, ◌≡◌, ℕ, T}
use mathlib.Core.List.{List, [], ◌∷◌, map, Memᴰ}
use Rattle.lists.specs.Lists.{All, any}
use Rattle.explore.specs.Explore.{Arc, System, Outcome, done, too_many, Reached, explore}
use Rattle.thread.specs.declared.Line.{Line}
use Rattle.thread.specs.declared.Instr.{Instr}
use Rattle.thread.specs.declared.Instr.TheVariants as I
use Rattle.thread.specs.Table.{line, same_line, next, Prog, is_store}

-- the lines that may come after line l, "both ways of a branch"
unfoldable pub after : Line → Instr → List Line
after l (I.Set a v) = next l ∷ []
after l (I.Copy a b) = next l ∷ []
after l (I.Add a b c) = next l ∷ []
after l (I.Sub a b c) = next l ∷ []
after l (I.Load a x) = next l ∷ []
after l (I.StoreR x a) = next l ∷ []
after l (I.StoreC x v) = next l ∷ []
after l I.Fence = next l ∷ []
after l (I.Cas a x b c) = next l ∷ []
after l (I.Branch a to) = to ∷ next l ∷ []
after l (I.Jump to) = to ∷ []
after l I.Return = []

-- fence or cas: it passes only when nothing waits
unfoldable pub drains : Instr → Bool
drains (I.Set a v) = false
drains (I.Copy a b) = false
drains (I.Add a b c) = false
drains (I.Sub a b c) = false
drains (I.Load a x) = false
drains (I.StoreR x a) = false
drains (I.StoreC x v) = false
drains I.Fence = true
drains (I.Cas a x b c) = true
drains (I.Branch a to) = false
drains (I.Jump to) = false
drains I.Return = false

unfoldable pub follows : Prog → Line → List Line
unfolding after
follows prog l = after l (prog l)

-- the same, where neither fence nor cas stands at l
unfoldable pub passes : Prog → Line → List Line
unfolding after drains
passes prog l = cond (drains (prog l)) [] (after l (prog l))

abbrev pub to_line : Line → Arc Line (Unit {0})
to_line l = record { label = tt; target = l }

-- line l can be reached from line k, by steps of `out`
abbrev pub Leads : (Line → List Line) → Line → Line → Type 0
Leads out = Reached (λ l. map to_line (out l))

-- l is "a store line, reachable from 0", that "can be left and reached again with no fence or cas on the way"
pub record Unfenced (prog : Prog) (l : Line) : Type 0 where
  pub is_stored : T (is_store (prog l))
  pub reached : Leads (follows prog) (line 0) l
  pub way : Line
  pub left : Memᴰ way (follows prog l)
  pub again : Leads (passes prog) way l

-- the same as a test, for a thread of n lines
abbrev pub line_system : (Line → List Line) → ℕ → Line → System Line (Unit {0})
line_system out n k = record { same = same_line; succ = λ l. map to_line (out l); start = k; cap = n }

unfoldable pub lines_found : Outcome Line (Unit {0}) → List Line
lines_found (done g) = g.nodes
lines_found too_many = []

unfoldable pub leads : (Line → List Line) → ℕ → Line → Line → Bool
unfolding explore lines_found any
leads out n k l = any (same_line l) (lines_found (explore (line_system out n k)))

unfoldable pub unfenced : Prog → ℕ → Line → Bool
unfolding is_store leads follows passes any
unfenced prog n l = is_store (prog l) && leads (follows prog) n (line 0) l && any (λ k. leads (passes prog) n k l) (follows prog l)

-- Demand 2's words: a reachable cycle of lines that holds a store but neither fence nor cas.

-- a walk from line l to line k, along the lines that it leaves
pub data Walk (prog : Prog) : Line → List Line → Line → Type 0 where
  one : {l k : Line} → Memᴰ k (follows prog l) → Walk prog l (l ∷ []) k
  more : {l j k : Line} {ls : List Line} → Memᴰ j (follows prog l) → Walk prog j ls k → Walk prog l (l ∷ ls) k

pub record Cycle (prog : Prog) (store : Line) : Type 0 where
  pub at : Line
  pub lines : List Line
  pub cycle : Walk prog at lines at
  pub reached : Leads (follows prog) (line 0) at
  pub holds : Memᴰ store lines
  pub is_stored : T (is_store (prog store))
  pub free : All (λ l. drains (prog l) ≡ false) lines
