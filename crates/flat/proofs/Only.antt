-- Nothing is left open: two results that keep the promise of a turn are equal, answer, memory and all three arrays.
use mathlib.Core.Path.{◌≡◌, refl, sym, ap, ◌∙◌}
use mathlib.Core.Bool.{Bool}
use mathlib.Core.Option.{Option}
use Prim.Native.Nat.{ℕ, ◌+◌}
use native.Mathlib.Omega.{arith}
use mathlib.Core.List.{List, [], ◌∷◌, ◌++◌}
use lib.ListN.{length, get_or, take, drop, length-drop, take-append-drop}
use lib.Seq.{take_all, drop-drop}
use Rattle.thread.specs.Numbers.{◌!◌}
use Rattle.runs.specs.Run.{World}
use Rattle.runs.proofs.Only.{only-turned}
use Rattle.generated.specs.declared.Generated.{Generated}
use Rattle.shown.specs.Ran.{world}
use Rattle.flat.specs.Flat.{thread_at, flat, TurnedIn}

-- A list of four equal parts is told by its parts.
module _ (w : ℕ) where
  abbrev part : List ℕ → ℕ → List ℕ
  part l b = take w (drop b l)

  four-parts : (l : List ℕ) → length l ≡ w + (w + (w + w)) → l ≡ part l 0 ++ (part l w ++ (part l (w + w) ++ part l (w + (w + w))))
  four-parts l h =
      let a : l ≡ take w l ++ drop w l = sym (take-append-drop w l) in
      let b : drop w l ≡ part l w ++ drop (w + w) l = sym (take-append-drop w (drop w l)) ∙ ap (λ (k : List ℕ). part l w ++ k) (drop-drop w w l) in
      let c : drop (w + w) l ≡ part l (w + w) ++ drop (w + w + w) l = sym (take-append-drop w (drop (w + w) l)) ∙ ap (λ (k : List ℕ). part l (w + w) ++ k) (drop-drop w (w + w) l) in
      let e : w + w + w ≡ w + (w + w) = omega arith in
      let d : drop (w + (w + w)) l ≡ part l (w + (w + w)) = sym (take_all w (drop (w + (w + w)) l) (rw length-drop (omega arith))) in
      a ∙ ap (λ (k : List ℕ). take w l ++ k) (b ∙ ap (λ (k : List ℕ). part l w ++ k) (c ∙ ap (λ (k : List ℕ). part l (w + w) ++ k) (ap (λ (k : ℕ). drop k l) e ∙ d)))

  same_parts : (l k : List ℕ) → length l ≡ w + (w + (w + w)) → length k ≡ w + (w + (w + w)) → part l 0 ≡ part k 0 → part l w ≡ part k w → part l (w + w) ≡ part k (w + w)
      → part l (w + (w + w)) ≡ part k (w + (w + w)) → l ≡ k
  same_parts l k h g a b c d = four-parts l h ∙ (λ i. a i ++ (b i ++ (c i ++ d i))) ∙ sym (four-parts k g)

four-numbers : (l : List ℕ) → length l ≡ 4 → l ≡ l ! 0 ∷ l ! 1 ∷ l ! 2 ∷ l ! 3 ∷ []
four-numbers (a ∷ b ∷ c ∷ d ∷ []) h = refl
four-numbers [] h = absurd (omega (arith, h))
four-numbers (a ∷ []) h = absurd (omega (arith, h))
four-numbers (a ∷ b ∷ []) h = absurd (omega (arith, h))
four-numbers (a ∷ b ∷ c ∷ []) h = absurd (omega (arith, h))
four-numbers (a ∷ b ∷ c ∷ d ∷ e ∷ l) h = absurd (omega (arith, h))

-- Flat threads that are equal are held in equal arrays.
module _ (N R A N₂ R₂ A₂ : List ℕ) (same : flat N R A ≡ flat N₂ R₂ A₂) where
  thread-same : (t : ℕ) → get_or (flat N R A) t (thread_at N R A 0) ≡ get_or (flat N₂ R₂ A₂) t (thread_at N R A 0)
  thread-same t = ap (λ (l : List Generated). get_or l t (thread_at N R A 0)) same

  same_nodes : length N ≡ 4 → length N₂ ≡ 4 → N ≡ N₂
  same_nodes h g =
      let number : Generated → ℕ = λ o. o.node.0 in
      four-numbers N h ∙ (λ i. ap number (thread-same 0) i ∷ ap number (thread-same 1) i ∷ ap number (thread-same 2) i ∷ ap number (thread-same 3) i ∷ []) ∙ sym (four-numbers N₂ g)

  same-registers : length R ≡ 64 → length R₂ ≡ 64 → R ≡ R₂
  same-registers h g =
      let own : Generated → List ℕ = λ o. o.registers in
      same_parts 16 R R₂ h g (ap own (thread-same 0)) (ap own (thread-same 1)) (ap own (thread-same 2)) (ap own (thread-same 3))

  same-auxiliaries : length A ≡ 256 → length A₂ ≡ 256 → A ≡ A₂
  same-auxiliaries h g =
      let own : Generated → List ℕ = λ o. o.auxiliaries in
      same_parts 64 A A₂ h g (ap own (thread-same 0)) (ap own (thread-same 1)) (ap own (thread-same 2)) (ap own (thread-same 3))

module _ (count : ℕ) (o : Option (World Generated)) (M : List ℕ) (ts : List Generated) (r r₂ : Bool) (M' M₂ N N₂ R R₂ A A₂ : List ℕ) where
  pub only : length N ≡ 4 → length N₂ ≡ 4 → length R ≡ 64 → length R₂ ≡ 64 → length A ≡ 256 → length A₂ ≡ 256 → TurnedIn count o M ts r M' (flat N R A) → TurnedIn count o M ts r₂ M₂ (flat N₂ R₂ A₂)
      → (r ≡ r₂) × (M' ≡ M₂) × (N ≡ N₂) × (R ≡ R₂) × (A ≡ A₂)
  only n n₂ e e₂ a a₂ p q =
      let s = only-turned o (world count M ts) r r₂ (world count M' (flat N R A)) (world count M₂ (flat N₂ R₂ A₂)) p.turned q.turned in
      let front : take count (flat N R A) ≡ take count (flat N₂ R₂ A₂) = ap (λ (w : World Generated). w.threads) s.1 in
      let back : drop count (flat N R A) ≡ drop count (flat N₂ R₂ A₂) = p.others ∙ sym q.others in
      let same : flat N R A ≡ flat N₂ R₂ A₂ = sym (take-append-drop count (flat N R A)) ∙ (λ i. front i ++ back i) ∙ take-append-drop count (flat N₂ R₂ A₂) in (
        s.0,
        ap (λ (w : World Generated). w.memory) s.1,
        same_nodes N R A N₂ R₂ A₂ same n n₂,
        same-registers N R A N₂ R₂ A₂ same e e₂,
        same-auxiliaries N R A N₂ R₂ A₂ same a a₂,
      )
