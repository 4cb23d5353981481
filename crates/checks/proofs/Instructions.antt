-- What a good line's instruction keeps: its registers and variables are in range.
use mathlib.Core.Path.{◌≡◌}
use Prim.Native.Nat.{ℕ, zero, suc, ◌*◌, ◌≤◌, ◌<◌}
use native.Mathlib.Omega.{arith}
use mathlib.Core.List.{List, [], ◌∷◌}
use mathlib.Core.Option.{get_or}
use lib.ListN.{length, get_or-eq_default}
use lib.Dec.{T, leb, ltb, ltb→lt, leb→le}
use Rattle.lists.proofs.Tests.{both}
use Rattle.thread.specs.declared.Line.{Line}
use Rattle.thread.specs.declared.Instr.{Instr}
use Rattle.thread.specs.declared.Instr.TheVariants as I
use Rattle.thread.specs.Sizes.{line_width, registers, variables}
use Rattle.thread.specs.Table.{Prog, number_at, kind_at, instr_of, instr_at, Field, register, variable, value, target, fields_of, stores, var_at}
use Rattle.checks.specs.Checks.{good_fields, good_line}

abbrev pub GoodInstr : Instr → Type 0
GoodInstr (I.Set a v) = a < registers
GoodInstr (I.Copy a b) = (a < registers) × (b < registers)
GoodInstr (I.Add a b c) = (a < registers) × (b < registers) × (c < registers)
GoodInstr (I.Sub a b c) = (a < registers) × (b < registers) × (c < registers)
GoodInstr (I.Load a x) = (a < registers) × (x < variables)
GoodInstr (I.StoreR x a) = (x < variables) × (a < registers)
GoodInstr (I.StoreC x v) = x < variables
GoodInstr I.Fence = Unit {0}
GoodInstr (I.Cas a x b c) = (a < registers) × (x < variables) × (b < registers) × (c < registers)
GoodInstr (I.Branch a to) = a < registers
GoodInstr (I.Jump to) = Unit {0}
GoodInstr I.Return = Unit {0}

-- what the fields' test says of registers and variables
abbrev Fits : List Field → List ℕ → Type 0
Fits [] ns = Unit {0}
Fits (f ∷ fs) [] = ⊥
Fits (register ∷ fs) (n ∷ ns) = (n < registers) × Fits fs ns
Fits (variable ∷ fs) (n ∷ ns) = (n < variables) × Fits fs ns
Fits (value ∷ fs) (n ∷ ns) = Fits fs ns
Fits (target ∷ fs) (n ∷ ns) = Fits fs ns

fits : (fs : List Field) (ns : List ℕ) → T (good_fields fs ns) → Fits fs ns
unfolding good_fields
fits [] ns t = tt
fits (f ∷ fs) [] t = t
fits (register ∷ fs) (n ∷ ns) t = let h = both (ltb n registers) (good_fields fs ns) t in (ltb→lt n registers h.0, fits fs ns h.1)
fits (variable ∷ fs) (n ∷ ns) t = let h = both (ltb n variables) (good_fields fs ns) t in (ltb→lt n variables h.0, fits fs ns h.1)
fits (value ∷ fs) (n ∷ ns) t = fits fs ns t
fits (target ∷ fs) (n ∷ ns) t = fits fs ns t

-- P of each number below n, one after the other
abbrev Each : (ℕ → Type 0) → ℕ → Type 0
Each P zero = Unit {0}
Each P (suc n) = P zero × Each (λ k. P (suc k)) n

each_at : (P : ℕ → Type 0) (n k : ℕ) → Each P n → k < n → P k
each_at P zero k h l = absurd (omega arith)
each_at P (suc n) zero h l = h.0
each_at P (suc n) (suc k) h l = each_at (λ k. P (suc k)) n k h.1 (omega arith)

-- a pair; nested ones need no brackets
infixr 30 ◌&◌
pub ◌&◌ : {A B : Type 0} → A → B → A × B
a & b = (a, b)

module _ (a b c d : ℕ) where
  abbrev Kept : ℕ → Type 0
  Kept k = Fits (fields_of k) (a ∷ b ∷ c ∷ d ∷ []) → GoodInstr (instr_of k a b c d)

  -- kind by kind
  each-kind : Each Kept 12
  unfolding fields_of instr_of
  each-kind =
      (λ h. h.0)
      & (λ h. (h.0, h.1.0))
      & (λ h. (h.0, h.1.0, h.1.1.0))
      & (λ h. (h.0, h.1.0, h.1.1.0))
      & (λ h. (h.0, h.1.0))
      & (λ h. (h.0, h.1.0))
      & (λ h. h.0)
      & (λ h. tt)
      & (λ h. (h.0, h.1.0, h.1.1.0, h.1.1.1.0))
      & (λ h. h.0)
      & (λ h. tt)
      & (λ h. tt)
      & tt

module _ (t : List ℕ) (l : Line) where
  pub good-instr : T (good_line t l) → GoodInstr (instr_at t l)
  unfolding good_line instr_at
  good-instr g =
      let ns : List ℕ = number_at t l 1 ∷ number_at t l 2 ∷ number_at t l 3 ∷ number_at t l 4 ∷ [] in
      let h = both (leb (kind_at t l) 11) (good_fields (fields_of (kind_at t l)) ns) g in
      let kept = each-kind (number_at t l 1) (number_at t l 2) (number_at t l 3) (number_at t l 4) in
      each_at (Kept (number_at t l 1) (number_at t l 2) (number_at t l 3) (number_at t l 4)) 12 (kind_at t l) kept (omega (arith, leb→le (kind_at t l) 11 h.0)) (fits (fields_of (kind_at t l)) ns h.1)

  -- past the end all numbers are 0, and stand for `set 0 0`
  pub beyond : length t ≤ line_width * l.0 → GoodInstr (instr_at t l)
  unfolding instr_at instr_of
  beyond h = rw (zero-at 0, zero-at 1) (omega arith)
    where
      zero-at : (i : ℕ) → number_at t l i ≡ 0
      zero-at i = get_or-eq_default t 0 (omega arith)

pub good-var : (prog : Prog) (l : Line) → GoodInstr (prog l) → var_at prog l < variables
unfolding var_at stores
good-var prog l = go (prog l)
  where
    go : (i : Instr) → GoodInstr i → get_or (stores i) 0 < variables
    go (I.Set a v) g = omega arith
    go (I.Copy a b) g = omega arith
    go (I.Add a b c) g = omega arith
    go (I.Sub a b c) g = omega arith
    go (I.Load a x) g = omega arith
    go (I.StoreR x a) g = g.0
    go (I.StoreC x v) g = g
    go I.Fence g = omega arith
    go (I.Cas a x b c) g = omega arith
    go (I.Branch a to) g = omega arith
    go (I.Jump to) g = omega arith
    go I.Return g = omega arith
