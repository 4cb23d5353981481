-- Four threads whose numbers stand in flat lists, w for each: a part that is written back is that thread's, and the others keep theirs.
use mathlib.Core.Path.{◌≡◌, refl, sym, ap, ◌∙◌}
use mathlib.Core.Logic.{◌≢◌}
use Prim.Native.Nat.{ℕ, zero, suc, ◌+◌, ◌*◌, ◌-◌, ◌≤◌, ◌<◌}
use native.Mathlib.Nat.{mul-suc, mul-le-mul_left}
use native.Mathlib.Omega.{arith}
use native.Mathlib.Decide.{dec_lt}
use mathlib.Core.List.{List, [], ◌∷◌, ◌++◌}
use lib.ListN.{length, get_or, take, drop, set, length-drop, take-append-drop}
use lib.Seq.{length-take-le, take-append-le, drop-append-le, take_at, drop_at, drop-drop}
use borrow.Rule.Slice.PartMut.{put_mid, drop_put}
use Rattle.shown.specs.Ran.{four}

-- the w numbers from b on, of a list that begins with p
within : (w b : ℕ) (p q : List ℕ) → b + w ≤ length p → take w (drop b (p ++ q)) ≡ take w (drop b p)
within w b p q h = ap (take w) (drop-append-le b p q (omega arith)) ∙ take-append-le w (drop b p) q (rw length-drop (omega arith))

-- ys in the place of the w numbers from a on
module _ (w a : ℕ) (l ys : List ℕ) (n : length ys ≡ w) (inside : a + w ≤ length l) where
  front : length (take a l) ≡ a
  front = length-take-le a l (omega arith)

  pub part-own : take w (drop a (put_mid a w l ys)) ≡ ys
  part-own = ap (take w) (drop_at (take a l) (ys ++ drop w (drop a l)) a front) ∙ take_at ys (drop w (drop a l)) w n

  part-before : (b : ℕ) → b + w ≤ a → take w (drop b (put_mid a w l ys)) ≡ take w (drop b l)
  part-before b h =
      within w b (take a l) (ys ++ drop w (drop a l)) (omega (arith, front))
      ∙ sym (within w b (take a l) (drop a l) (omega (arith, front)))
      ∙ ap (λ (k : List ℕ). take w (drop b k)) (take-append-drop a l)

  part-after : (b : ℕ) → a + w ≤ b → take w (drop b (put_mid a w l ys)) ≡ take w (drop b l)
  part-after b h =
      let e : a + w - a ≡ w = omega arith in
      let k : a + w + (b - (a + w)) ≡ b = omega arith in
      let d : drop (a + w) (put_mid a w l ys) ≡ drop (a + w) l = rw e at (drop_put a (a + w) l ys (omega arith) inside (omega (arith, n))) in
      let f : (m : List ℕ) → drop (b - (a + w)) (drop (a + w) m) ≡ drop b m = λ m. drop-drop (b - (a + w)) (a + w) m ∙ ap (λ (j : ℕ). drop j m) k in
      ap (take w) (sym (f (put_mid a w l ys)) ∙ ap (drop (b - (a + w))) d ∙ f l)

-- what was lent and comes back has the width of the part
pub lent_length : (w b k : ℕ) (l ys : List ℕ) → k ≡ w → b + w ≤ length l → length ys ≡ length (take k (drop b l)) → length ys ≡ w
lent_length w b k l ys e h f = f ∙ ap (λ (m : ℕ). length (take m (drop b l))) e ∙ length-take-le w (drop b l) (rw length-drop (omega arith))

-- a lower thread's part ends where a higher one's begins, or before
apart : (w u t : ℕ) → u < t → w * u + w ≤ w * t
apart w u t h = rw mul-suc at (mul-le-mul_left {m = suc u} {n = t} w h)

-- thread u keeps its part where that of thread t is written back
pub part-other : (w t : ℕ) (l ys : List ℕ) → length ys ≡ w → w * t + w ≤ length l → (u : ℕ) → u ≢ t → take w (drop (w * u) (put_mid (w * t) w l ys)) ≡ take w (drop (w * u) l)
part-other w t l ys n inside u d = go (dec_lt u t)
  where
    go : Dec (u < t) → take w (drop (w * u) (put_mid (w * t) w l ys)) ≡ take w (drop (w * u) l)
    go (yes g) = part-before w (w * t) l ys n inside (w * u) (apart w u t g)
    go (no g) = part-after w (w * t) l ys n inside (w * u) (apart w t u (omega arith))

-- one of four
pub four-at : {T : Type 0} (f : ℕ → T) (t : ℕ) (d : T) → t < 4 → get_or (four f) t d ≡ f t
four-at f zero d h = refl
four-at f (suc zero) d h = refl
four-at f (suc (suc zero)) d h = refl
four-at f (suc (suc (suc zero))) d h = refl
four-at f (suc (suc (suc (suc t)))) d h = absurd (omega arith)

-- one of four is another
pub set-four : {T : Type 0} (f g : ℕ → T) (t : ℕ) (x : T) → t < 4 → g t ≡ x → ((u : ℕ) → u ≢ t → g u ≡ f u) → four g ≡ set (four f) t x
set-four f g zero x h e o = λ i. e i ∷ o 1 (λ p. omega arith) i ∷ o 2 (λ p. omega arith) i ∷ o 3 (λ p. omega arith) i ∷ []
set-four f g (suc zero) x h e o = λ i. o 0 (λ p. omega arith) i ∷ e i ∷ o 2 (λ p. omega arith) i ∷ o 3 (λ p. omega arith) i ∷ []
set-four f g (suc (suc zero)) x h e o = λ i. o 0 (λ p. omega arith) i ∷ o 1 (λ p. omega arith) i ∷ e i ∷ o 3 (λ p. omega arith) i ∷ []
set-four f g (suc (suc (suc zero))) x h e o = λ i. o 0 (λ p. omega arith) i ∷ o 1 (λ p. omega arith) i ∷ o 2 (λ p. omega arith) i ∷ e i ∷ []
set-four f g (suc (suc (suc (suc t)))) x h e o = absurd (omega arith)
