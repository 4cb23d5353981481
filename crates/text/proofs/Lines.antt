-- Laws of cutting: a text into lines, a line into parts, a line from its line feed.
use mathlib.Core.Path.{◌≡◌, refl, ap, ◌∙◌}
use mathlib.Core.Logic.{◌⊎◌, inl, inr, ⊎_elim}
use mathlib.Core.Bool.{Bool, true, false, cond}
use mathlib.Core.Option.{Option, none, some, map}
use Prim.Native.Nat.{ℕ, suc, ◌<◌}
use native.Mathlib.Omega.{arith}
use mathlib.Core.List.{List, [], ◌∷◌, ◌++◌}
use lib.ListN.{length, take, drop}
use lib.Dec.{eqb}
use borrow.Author.Tests.{eq-eqb}
use Rattle.lists.proofs.Tests.{eq-false, true-eq, false-eq}
use Rattle.lists.proofs.Lists.{not_some}
use Rattle.text.specs.Written.{tab, feed}
use Rattle.text.specs.Reading.{line_onto, text_lines, body, part_onto, parts}
use Rattle.text.specs.Steps.{run}
use Rattle.text.proofs.Bytes.{run-hit, run-miss}

pub equal? : (m n : ℕ) → (m ≡ n) ⊎ ((m ≡ n) → ⊥)
equal? m n = go (eqb m n) refl
  where
    go : (t : Bool) → eqb m n ≡ t → (m ≡ n) ⊎ ((m ≡ n) → ⊥)
    go true e = inl (true-eq m n e)
    go false e = inr (false-eq m n e)

-- a byte in front
pub line-hit : (b : ℕ) (l : List ℕ) → b ≡ feed → text_lines (b ∷ l) ≡ (feed ∷ []) ∷ text_lines l
unfolding text_lines line_onto
line-hit b l e = rw (eq-eqb b feed e, e)

pub line-miss : (b : ℕ) (l : List ℕ) → (b ≡ feed → ⊥) → text_lines (b ∷ l) ≡ line_onto false b (text_lines l)
unfolding text_lines
line-miss b l n = rw (eq-false b feed n)

pub part-hit : (b : ℕ) (l : List ℕ) → b ≡ tab → parts (b ∷ l) ≡ [] ∷ parts l
unfolding parts part_onto
part-hit b l e = rw (eq-eqb b tab e)

pub part-miss : (b : ℕ) (l : List ℕ) → (b ≡ tab → ⊥) → parts (b ∷ l) ≡ part_onto false b (parts l)
unfolding parts
part-miss b l n = rw (eq-false b tab n)

-- the first line, up to its line feed
pub lines_cut : (l : List ℕ) → run feed l < length l → text_lines l ≡ (take (run feed l) l ++ (feed ∷ [])) ∷ text_lines (drop (suc (run feed l)) l)
unfolding line_onto
lines_cut [] h = absurd (omega arith)
lines_cut (b ∷ l) h =
    ⊎_elim
    (λ (e : b ≡ feed). rw (run-hit feed b l e) (line-hit b l e))
    (λ (n : b ≡ feed → ⊥).
    let r = run-miss feed b l n in
    rw r (line-miss b l n ∙ ap (line_onto false b) (lines_cut l (omega arith))))
    (equal? b feed)

-- a last line that lacks it
pub lines_end : (l : List ℕ) → run feed l ≡ length l → 0 < length l → text_lines l ≡ l ∷ []
unfolding line_onto text_lines
lines_end [] e h = absurd (omega arith)
lines_end (b ∷ []) e h =
    ⊎_elim (λ (q : b ≡ feed). absurd (omega (arith, run-hit feed b [] q))) (λ (n : b ≡ feed → ⊥). line-miss b [] n) (equal? b feed)
lines_end (b ∷ c ∷ l) e h =
    ⊎_elim
    (λ (q : b ≡ feed). absurd (omega (arith, run-hit feed b (c ∷ l) q)))
    (λ (n : b ≡ feed → ⊥). line-miss b (c ∷ l) n ∙ ap (line_onto false b) (lines_end (c ∷ l) (omega (arith, run-miss feed b (c ∷ l) n)) (omega arith)))
    (equal? b feed)

pub body_ended : (l : List ℕ) → body (l ++ (feed ∷ [])) ≡ some l
unfolding body
body_ended [] = refl
body_ended (b ∷ []) = refl
body_ended (b ∷ c ∷ l) = ap (map (λ k. b ∷ k)) (body_ended (c ∷ l))

pub body-lacks : (l : List ℕ) → run feed l ≡ length l → body l ≡ none
unfolding body
body-lacks [] e = refl
body-lacks (b ∷ []) e =
    ⊎_elim (λ (q : b ≡ feed). absurd (omega (arith, run-hit feed b [] q))) (λ (n : b ≡ feed → ⊥). rw (eq-false b feed n)) (equal? b feed)
body-lacks (b ∷ c ∷ l) e =
    ⊎_elim
    (λ (q : b ≡ feed). absurd (omega (arith, run-hit feed b (c ∷ l) q)))
    (λ (n : b ≡ feed → ⊥). ap (map (λ k. b ∷ k)) (body-lacks (c ∷ l) (omega (arith, run-miss feed b (c ∷ l) n))))
    (equal? b feed)

pub body-other : (l : List ℕ) (b : ℕ) → (b ≡ feed → ⊥) → body (l ++ (b ∷ [])) ≡ none
unfolding body
body-other [] b n = rw (eq-false b feed n)
body-other (c ∷ []) b n = ap (map (λ k. c ∷ k)) (body-other [] b n)
body-other (c ∷ d ∷ l) b n = ap (map (λ k. c ∷ k)) (body-other (d ∷ l) b n)

pub body_is : (l k : List ℕ) → body l ≡ some k → l ≡ k ++ (feed ∷ [])
unfolding body
body_is [] k e = absurd (not_some e)
body_is (b ∷ []) k e = go (eqb b feed) refl e
  where
    go : (t : Bool) → eqb b feed ≡ t → cond t (some []) none ≡ some k → b ∷ [] ≡ k ++ (feed ∷ [])
    go true u e = let p : b ≡ feed = true-eq b feed u in let q : [] ≡ k = cc in rw (← q, p)
    go false u e = absurd (not_some e)
body_is (b ∷ c ∷ l) k e = go (body (c ∷ l)) (body_is (c ∷ l)) e refl
  where
    go : (o : Option (List ℕ)) → ((j : List ℕ) → body (c ∷ l) ≡ some j → c ∷ l ≡ j ++ (feed ∷ [])) → map (λ k. b ∷ k) o ≡ some k → body (c ∷ l) ≡ o → b ∷ c ∷ l ≡ k ++ (feed ∷ [])
    go none ih e u = absurd (not_some e)
    go (some j) ih e u = let q : b ∷ j ≡ k = cc in rw (← q) (ap (λ (x : List ℕ). b ∷ x) (ih j u))
