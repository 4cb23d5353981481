-- A text is read back in one way only: fields end at the first tab or line feed, lines at their line feed.
use mathlib.Core.Path.{◌≡◌, refl, sym, ap, ◌∙◌, subst}
use Prim.Native.Nat.{ℕ, ◌≤◌, ◌<◌}
use native.Mathlib.Omega.{arith}
use mathlib.Core.List.{List, [], ◌∷◌, ◌++◌, append_assoc}
use lib.ListN.{length, length-append}
use Rattle.lists.specs.Lists.{All}
use Rattle.bytes_out.specs.Page.{line_feed}
use Rattle.printed.specs.Text.{Field, Line, tabbed, line_text, lines_text}

-- the first element, if there is one
abbrev pub Starts : {A : Type 0} → (A → Type 0) → List A → Type 0
Starts Q [] = Unit {0}
Starts Q (a ∷ l) = Q a

-- what is P up to the first that is Q can be split off in one way
module _ {A : Type 0} (P Q : A → Type 0) (never : (a : A) → P a → Q a → ⊥) where
  shifted : (a : A) (l x : List A) → P a → Starts Q x → x ≡ a ∷ l → ⊥
  shifted a l [] p q e = let z : ◌≡◌ {A = ℕ} 0 1 = cc in omega arith
  shifted a l (b ∷ x) p q e = let s : b ≡ a = cc in never a p (subst Q s q)

  pub split : (f g x y : List A) → All P f → All P g → Starts Q x → Starts Q y → f ++ x ≡ g ++ y → (f ≡ g) × (x ≡ y)
  split [] [] x y p q r s e = (refl, e)
  split [] (b ∷ g) x y p q r s e = absurd (shifted b (g ++ y) x q.0 r e)
  split (a ∷ f) [] x y p q r s e = absurd (shifted a (f ++ x) y p.0 s (sym e))
  split (a ∷ f) (b ∷ g) x y p q r s e =
      let h : a ≡ b = cc in
      let t : f ++ x ≡ g ++ y = cc in
      let i = split f g x y p.1 q.1 r s t in
      (ap (λ (c : A). c ∷ f) h ∙ ap (λ (l : List A). b ∷ l) i.0, i.1)

-- fields hold digits and letters, which are above tab and line feed
abbrev pub Above : ℕ → Type 0
Above b = 48 ≤ b

abbrev Below : ℕ → Type 0
Below b = b < 48

abbrev pub Clean : Field → Type 0
Clean f = All Above f

below : (l : Line) (x : List ℕ) → Starts Below (tabbed l ++ (line_feed ∷ x))
unfolding tabbed
below [] x = omega arith
below (f ∷ l) x = omega arith

fields-unique : (l k : Line) (x y : List ℕ) → All Clean l → All Clean k → tabbed l ++ (line_feed ∷ x) ≡ tabbed k ++ (line_feed ∷ y) → (l ≡ k) × (x ≡ y)
unfolding tabbed
fields-unique [] [] x y p q e = (refl, cc)
fields-unique [] (g ∷ k) x y p q e = let z : ◌≡◌ {A = ℕ} 10 9 = cc in absurd (omega arith)
fields-unique (f ∷ l) [] x y p q e = let z : ◌≡◌ {A = ℕ} 9 10 = cc in absurd (omega arith)
fields-unique (f ∷ l) (g ∷ k) x y p q e =
    let t : (f ++ tabbed l) ++ (line_feed ∷ x) ≡ (g ++ tabbed k) ++ (line_feed ∷ y) = cc in
    let s = split Above Below (λ b h i. omega arith) f g (tabbed l ++ (line_feed ∷ x)) (tabbed k ++ (line_feed ∷ y)) p.0 q.0 (below l x) (below k y)
    (sym (append_assoc f (tabbed l) (line_feed ∷ x)) ∙ t ∙ append_assoc g (tabbed k) (line_feed ∷ y)) in
    let i = fields-unique l k x y p.1 q.1 s.1 in
    (ap (λ (c : Field). c ∷ l) s.0 ∙ ap (λ (c : Line). g ∷ c) i.0, i.1)

-- a line of one field or more, all clean
abbrev pub Readable : Line → Type 0
Readable [] = ⊥
Readable (f ∷ l) = All Clean (f ∷ l)

line-shape : (f : Field) (l : Line) (x : List ℕ) → line_text (f ∷ l) ++ x ≡ f ++ (tabbed l ++ (line_feed ∷ x))
unfolding line_text
line-shape f l x = append_assoc f (tabbed l ++ (line_feed ∷ [])) x ∙ ap (λ (k : List ℕ). f ++ k) (append_assoc (tabbed l) (line_feed ∷ []) x)

line-unique : (l k : Line) (x y : List ℕ) → Readable l → Readable k → line_text l ++ x ≡ line_text k ++ y → (l ≡ k) × (x ≡ y)
line-unique [] k x y p q e = absurd p
line-unique (f ∷ l) [] x y p q e = absurd q
line-unique (f ∷ l) (g ∷ k) x y p q e =
    let s = split Above Below (λ b h i. omega arith) f g (tabbed l ++ (line_feed ∷ x)) (tabbed k ++ (line_feed ∷ y)) p.0 q.0 (below l x) (below k y)
    (sym (line-shape f l x) ∙ e ∙ line-shape g k y) in
    let i = fields-unique l k x y p.1 q.1 s.1 in
    (ap (λ (c : Field). c ∷ l) s.0 ∙ ap (λ (c : Line). g ∷ c) i.0, i.1)

some_bytes : (l : Line) (x : List ℕ) → Readable l → [] ≡ line_text l ++ x → ⊥
some_bytes [] x p e = absurd p
some_bytes (f ∷ l) x p e =
    let n = ap length (e ∙ line-shape f l x) in
    omega (arith, n, length-append f (tabbed l ++ (line_feed ∷ x)), length-append (tabbed l) (line_feed ∷ x))

pub lines-unique : (l k : List Line) → All Readable l → All Readable k → lines_text l ≡ lines_text k → l ≡ k
unfolding lines_text
lines-unique [] [] p q e = refl
lines-unique [] (b ∷ k) p q e = absurd (some_bytes b (lines_text k) q.0 e)
lines-unique (a ∷ l) [] p q e = absurd (some_bytes a (lines_text l) p.0 (sym e))
lines-unique (a ∷ l) (b ∷ k) p q e =
    let s = line-unique a b (lines_text l) (lines_text k) p.0 q.0 e in
    ap (λ (c : Line). c ∷ l) s.0 ∙ ap (λ (c : List Line). b ∷ c) (lines-unique l k p.1 q.1 s.1)
