-- Laws of a page: what is put on it in two goes, in one go, and how it ends.
use mathlib.Core.Path.{◌≡◌, refl, sym, ap, ◌∙◌}
use mathlib.Core.Bool.{Bool, true, false, cond}
use Prim.Native.Nat.{ℕ, suc, ◌+◌, ◌-◌, ◌/◌, ◌%◌, ◌≤◌, ◌<◌}
use native.Mathlib.Numerals.{add-one}
use native.Mathlib.Nat.{add-zero}
use native.Mathlib.Decide.{dec_lt}
use native.Mathlib.Omega.{arith}
use mathlib.Core.List.{List, [], ◌∷◌, ◌++◌, append-nil}
use lib.ListN.{length, get_or, take, drop, set, length-set, length-take, length-drop, drop_of_length-le}
use lib.Seq.{drop-cons, sets, sets-eq, take_all}
use lib.Dec.{ltb}
use borrow.Rule.Slice.PartMut.{put_mid}
use Rattle.lists.proofs.Tests.{lt-true, lt-false}
use Rattle.decimal.specs.Decimal.{decimal, digit}
use Rattle.decimal.proofs.Decimal.{decimal-small, decimal-large}
use Rattle.thread.specs.Numbers.{zeros}
use Rattle.bytes_out.specs.Page.{Page, page, put, puts, cleared}

pub put-room : (a : List ℕ) (at b : ℕ) → at < length a → put (page a at) b ≡ page (set a at b) (at + 1)
unfolding put
put-room a at b h = rw (lt-true at (length a) h)

pub put-lost : (a : List ℕ) (at b : ℕ) → length a ≤ at → put (page a at) b ≡ page a (length a + 1)
unfolding put
put-lost a at b h = rw (lt-false at (length a) h)

pub puts-append : (p : Page) (x y : List ℕ) → puts p (x ++ y) ≡ puts (puts p x) y
unfolding puts
puts-append p [] y = refl
puts-append p (b ∷ x) y = puts-append (put p b) x y

-- one byte, and one byte behind others
pub puts_one : (p : Page) (b : ℕ) → puts p (b ∷ []) ≡ put p b
unfolding puts
puts_one p b = refl

pub puts_first : (p : Page) (b : ℕ) (l : List ℕ) → puts p (b ∷ l) ≡ puts (put p b) l
unfolding puts
puts_first p b l = refl

pub puts_none : (p : Page) → puts p [] ≡ p
unfolding puts
puts_none p = refl

pub puts_rest : (p : Page) (l : List ℕ) (i : ℕ) → i < length l → puts p (drop i l) ≡ puts (put p (get_or l i 0)) (drop (i + 1) l)
puts_rest p l i h = rw (add-one, drop-cons l i 0 h) (puts_first p (get_or l i 0) (drop (suc i) l))

pub puts_end : (p : Page) (l : List ℕ) (i : ℕ) → length l ≤ i → puts p (drop i l) ≡ p
puts_end p l i h = rw (drop_of_length-le l h) (puts_none p)

-- the digits of a number
pub puts_small : (p : Page) (n : ℕ) → n < 10 → puts p (decimal n) ≡ put p (48 + n)
puts_small p n h = rw (decimal-small n h) (puts_one p (digit n))

pub puts_large : (p : Page) (n : ℕ) → 10 ≤ n → puts p (decimal n) ≡ put (puts p (decimal (n / 10))) (48 + n % 10)
puts_large p n h = rw (decimal-large n h, puts-append) (puts_one (puts p (decimal (n / 10))) (digit (n % 10)))

-- a page keeps its length
pub put-length : (p : Page) (b : ℕ) → length (put p b).area ≡ length p.area
unfolding put
put-length p b = go (ltb p.at (length p.area))
  where
    go : (t : Bool) → length (cond t (page (set p.area p.at b) (p.at + 1)) (page p.area (length p.area + 1))).area ≡ length p.area
    go true = length-set p.area p.at b
    go false = refl

pub puts-length : (p : Page) (l : List ℕ) → length (puts p l).area ≡ length p.area
unfolding puts
puts-length p [] = refl
puts-length p (b ∷ l) = puts-length (put p b) l ∙ put-length p b

-- all that is put fits
puts-sets : (a : List ℕ) (at : ℕ) (l : List ℕ) → at + length l ≤ length a → puts (page a at) l ≡ page (sets a at l) (at + length l)
unfolding puts
puts-sets a at [] h = ap (λ (k : ℕ). page a k) (sym (add-zero at))
puts-sets a at (b ∷ l) h =
    let e : at + 1 ≡ suc at = add-one at in
    let s : suc at + length l ≡ at + suc (length l) = omega arith in
    ap (λ (p : Page). puts p l) (put-room a at b (omega arith))
    ∙ ap (λ (k : ℕ). puts (page (set a at b) k) l) e
    ∙ puts-sets (set a at b) (suc at) l (simp length-set (omega arith))
    ∙ ap (λ (k : ℕ). page (sets (set a at b) (suc at) l) k) s

-- a page that lost a byte stays so
puts-lost : (a l : List ℕ) → puts (page a (length a + 1)) l ≡ page a (length a + 1)
unfolding puts
puts-lost a [] = refl
puts-lost a (b ∷ l) = ap (λ (p : Page). puts p l) (put-lost a (length a + 1) b (omega arith)) ∙ puts-lost a l

puts-over : (a : List ℕ) (at : ℕ) (l : List ℕ) → at ≤ length a → length a < at + length l → (puts (page a at) l).at ≡ length a + 1
unfolding puts
puts-over a at [] g h = absurd (omega arith)
puts-over a at (b ∷ l) g h = go (dec_lt at (length a)) (puts-over (set a at b) (suc at) l)
  where
    go : Dec (at < length a) → (suc at ≤ length (set a at b) → length (set a at b) < suc at + length l → (puts (page (set a at b) (suc at)) l).at ≡ length (set a at b) + 1)
        → (puts (put (page a at) b) l).at ≡ length a + 1
    go (yes s) ih =
        let e : at + 1 ≡ suc at = add-one at in
        ap (λ (p : Page). (puts p l).at) (put-room a at b s)
        ∙ ap (λ (k : ℕ). (puts (page (set a at b) k) l).at) e
        ∙ ih (simp length-set (omega arith)) (simp length-set (omega arith))
        ∙ ap (λ (k : ℕ). k + 1) (length-set a at b)
    go (no s) ih = ap (λ (p : Page). (puts p l).at) (put-lost a at b (omega arith)) ∙ ap (λ (p : Page). p.at) (puts-lost a l)

-- an area that a text fits: it ends with the text, and then what was there before
pub text-fits : (a l : List ℕ) → length l ≤ length a → puts (page a 0) l ≡ page (l ++ drop (length l) a) (length l)
text-fits a l h =
    puts-sets a 0 l (omega arith)
    ∙ ap (λ (k : List ℕ). page k (0 + length l)) (sets-eq l a 0 (omega arith))
    ∙ ap (λ (k : ℕ). page (l ++ drop k a) k) (let e : 0 + length l ≡ length l = omega arith in e)

pub text-over : (a l : List ℕ) → length a < length l → (puts (page a 0) l).at ≡ length a + 1
text-over a l h = puts-over a 0 l (omega arith) (omega arith)

-- zeros from a place on
pub clear_rest : (a z : List ℕ) (at : ℕ) → at < length a → z ≡ zeros (length (take (length a - at) (drop at a))) → put_mid at (length a - at) a z ≡ cleared a at
unfolding cleared
clear_rest a z at h e =
    let l : length (take (length a - at) (drop at a)) ≡ length a - at = simp (length-take, length-drop) (omega arith) in
    let d : length (drop at a) ≤ length a - at = simp length-drop (omega arith) in
    rw (e, l, drop_of_length-le (drop at a) d, append-nil) refl

pub clear_end : (a : List ℕ) (i : ℕ) → length a ≤ i → cleared a i ≡ a
unfolding cleared
clear_end a i h = let e : length a - i ≡ 0 = omega arith in rw (e, take_all i a h) (append-nil a)
