-- A state is written part by part, from its beginning.
use mathlib.Core.Path.{◌≡◌, refl, sym, ap, ◌∙◌}
use mathlib.Core.List.{List, [], ◌∷◌, ◌++◌, append_assoc, append-nil}
use Prim.Native.Nat.{ℕ, suc, ◌+◌, ◌<◌}
use native.Mathlib.Numerals.{add-one}
use native.Mathlib.Omega.{arith}
use lib.ListN.{length, get_or, set, take}
use lib.Seq.{take-suc, take-suc-set, take_all}
use Rattle.thread.specs.Numbers.{◌!◌}
use Rattle.thread.specs.Table.{line}
use Rattle.graphs.specs.Records.{flat}
use Rattle.shown.specs.declared.ThreadState.{ThreadState}
use Rattle.shown.specs.declared.Ran.{Ran}
use Rattle.nardiplex.specs.State.{thread_numbers, state_numbers}

-- one number more
pub one_more : (s t l : List ℕ) (at i : ℕ) → take (at + i) s ≡ take at t ++ take i l → at + i < length s → i < length l
    → take (at + (i + 1)) (set s (at + i) (l ! i)) ≡ take at t ++ take (i + 1) l
one_more s t l at i e h g =
    let a : at + (i + 1) ≡ suc (at + i) = omega arith in
    let b : take (i + 1) l ≡ take i l ++ (l ! i ∷ []) = ap (λ (n : ℕ). take n l) (add-one i) ∙ take-suc l i 0 g in
    rw (a, b, take-suc-set s (at + i) (l ! i) h, e) (append_assoc (take at t) (take i l) (l ! i ∷ []))

-- a part behind another
behind : (s t u a b : List ℕ) (p q r r' : ℕ) → take q t ≡ take p s ++ a → take r u ≡ take q t ++ b → r ≡ r' → take r' u ≡ take p s ++ (a ++ b)
behind s t u a b p q r r' e f h = ap (λ (n : ℕ). take n u) (sym h) ∙ f ∙ ap (λ (l : List ℕ). l ++ b) e ∙ append_assoc (take p s) a b

-- the parts of a thread
pub thread-parts : (at : ℕ) (s₀ s₁ s₂ s₃ s₄ s₅ : List ℕ) (s : ThreadState) → take (at + 1) s₁ ≡ take at s₀ ++ s.line.0 ∷ []
    → take (at + 1 + 16) s₂ ≡ take (at + 1) s₁ ++ s.registers → take (at + 17 + 1) s₃ ≡ take (at + 17) s₂ ++ s.count ∷ []
    → take (at + 18 + 16) s₄ ≡ take (at + 18) s₃ ++ s.names → take (at + 34 + 16) s₅ ≡ take (at + 34) s₄ ++ s.values
    → take (at + 50) s₅ ≡ take at s₀ ++ thread_numbers s
unfolding thread_numbers
thread-parts at s₀ s₁ s₂ s₃ s₄ s₅ s a b c d e =
    let ab = behind s₀ s₁ s₂ _ _ at (at + 1) (at + 1 + 16) (at + 17) a b (omega arith) in
    let abc = behind s₀ s₂ s₃ _ _ at (at + 17) (at + 17 + 1) (at + 18) ab c (omega arith) in
    let abcd = behind s₀ s₃ s₄ _ _ at (at + 18) (at + 18 + 16) (at + 34) abc d (omega arith) in
    behind s₀ s₄ s₅ _ _ at (at + 34) (at + 34 + 16) (at + 50) abcd e (omega arith) ∙ ap (λ (l : List ℕ). take at s₀ ++ l) (simp append_assoc)

flat-four : {A : Type 0} (f : A → List ℕ) (l : List A) (d : A) → length l ≡ 4 → flat f l ≡ f (get_or l 0 d) ++ f (get_or l 1 d) ++ f (get_or l 2 d) ++ f (get_or l 3 d)
unfolding flat
flat-four f [] d h = absurd (omega arith)
flat-four f (a ∷ []) d h = absurd (omega arith)
flat-four f (a ∷ b ∷ []) d h = absurd (omega arith)
flat-four f (a ∷ b ∷ c ∷ []) d h = absurd (omega arith)
flat-four f (a ∷ b ∷ c ∷ e ∷ []) d h = simp (append-nil, append_assoc)
flat-four f (a ∷ b ∷ c ∷ e ∷ x ∷ l) d h = absurd (omega arith)

joined : (m a b c d : List ℕ) → m ++ a ++ b ++ c ++ d ≡ m ++ (a ++ b ++ c ++ d)
joined m a b c d = simp append_assoc

-- what stands past the end of a list of threads
abbrev no_thread : ThreadState
no_thread = record { line = line 0; registers = []; names = []; values = []; count = 0 }

abbrev pub numbers_at : Ran → ℕ → List ℕ
numbers_at r t = thread_numbers (get_or r.threads t no_thread)

-- memory and the parts of four threads are all
pub state-parts : (s₀ s₁ s₂ s₃ s₄ s₅ : List ℕ) (r : Ran) → length r.threads ≡ 4 → length s₅ ≡ 216 → take 16 s₁ ≡ take 0 s₀ ++ r.memory
    → take 66 s₂ ≡ take 16 s₁ ++ numbers_at r 0 → take 116 s₃ ≡ take 66 s₂ ++ numbers_at r 1
    → take 166 s₄ ≡ take 116 s₃ ++ numbers_at r 2 → take 216 s₅ ≡ take 166 s₄ ++ numbers_at r 3
    → s₅ ≡ state_numbers r
unfolding state_numbers
state-parts s₀ s₁ s₂ s₃ s₄ s₅ r four full a b c e f =
    let ab = behind s₀ s₁ s₂ _ _ 0 16 66 66 a b refl in
    let abc = behind s₀ s₂ s₃ _ _ 0 66 116 116 ab c refl in
    let abce = behind s₀ s₃ s₄ _ _ 0 116 166 166 abc e refl in
    let all = behind s₀ s₄ s₅ _ _ 0 166 216 216 abce f refl in
    sym (take_all 216 s₅ (omega arith)) ∙ all ∙ rw (flat-four thread_numbers r.threads no_thread four) (joined r.memory _ _ _ _)
