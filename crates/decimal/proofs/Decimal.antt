-- Laws of decimal numbers: what is written of a number reads back as it, and a list of digits is what is written of the number it says.
use mathlib.Core.Path.{◌≡◌, refl, sym, ap, ◌∙◌}
use mathlib.Core.Logic.{◌↔◌}
use mathlib.Core.Bool.{not}
use Prim.Native.Nat.{ℕ, zero, suc, ◌+◌, ◌-◌, ◌*◌, ◌/◌, ◌%◌, ◌^◌, ◌≤◌, ◌<◌}
use native.Mathlib.Nat.{pow-suc}
use native.Mathlib.Decide.{dec_lt}
use native.Mathlib.Omega.{arith}
use mathlib.Core.List.{List, [], ◌∷◌, ◌++◌, append_assoc, append-nil}
use lib.ListN.{length, length-append}
use lib.Dec.{T, eqb, leb, not_T, T_not, eqb→eq}
use Rattle.lists.specs.Lists.{All}
use Rattle.lists.proofs.Lists.{all_append}
use Rattle.lists.proofs.Tests.{lt-true, lt-false, le-true, true-T, is_true, true-le, both, and_T}
use Rattle.decimal.specs.Decimal.{digit, digits, decimal, value_from, value, is_digit, all_digits, numeral}

-- one digit, and one digit more
digits-small : (f n : ℕ) → n < 10 → digits (suc f) n ≡ digit n ∷ []
unfolding digits
digits-small f n h = rw (lt-true n 10 h, digits)

digits-large : (f n : ℕ) → 10 ≤ n → digits (suc f) n ≡ digits f (n / 10) ++ (digit (n % 10) ∷ [])
unfolding digits
digits-large f n h = rw (lt-false n 10 h, digits)

-- fuel above the number is enough
same-fuel : (f g n : ℕ) → n < f → n ≤ g → digits f n ≡ digits (suc g) n
same-fuel zero g n h k = absurd (omega arith)
same-fuel (suc f) g n h k = go g (λ g. same-fuel f g (n / 10)) (dec_lt n 10) k
  where
    go : (g : ℕ) → ((g : ℕ) → n / 10 < f → n / 10 ≤ g → digits f (n / 10) ≡ digits (suc g) (n / 10)) → Dec (n < 10) → n ≤ g → digits (suc f) n ≡ digits (suc g) n
    go g ih (yes s) k = digits-small f n s ∙ sym (digits-small g n s)
    go zero ih (no s) k = absurd (omega arith)
    go (suc g) ih (no s) k =
        digits-large f n (omega arith)
        ∙ ap (λ (l : List ℕ). l ++ (digit (n % 10) ∷ [])) (ih g (omega arith) (omega arith))
        ∙ sym (digits-large (suc g) n (omega arith))

enough : (f n : ℕ) → n < f → digits f n ≡ decimal n
unfolding decimal
enough f n h = same-fuel f n n h (omega arith)

-- the two equations that a reader expects: nothing after them looks at the fuel
pub decimal-small : (n : ℕ) → n < 10 → decimal n ≡ digit n ∷ []
unfolding decimal
decimal-small n h = digits-small n n h

pub decimal-large : (n : ℕ) → 10 ≤ n → decimal n ≡ decimal (n / 10) ++ (digit (n % 10) ∷ [])
unfolding decimal
decimal-large n h = start ∙ ap (λ (l : List ℕ). l ++ (digit (n % 10) ∷ [])) (enough n (n / 10) (omega arith))
  where
    start : decimal n ≡ digits n (n / 10) ++ (digit (n % 10) ∷ [])
    start = digits-large n n h

-- by the digits of a number
module _ (P : ℕ → Type 0) (small : (n : ℕ) → n < 10 → P n) (large : (n : ℕ) → 10 ≤ n → P (n / 10) → P n) where
  below-ind : (f n : ℕ) → n < f → P n
  below-ind zero n h = absurd (omega arith)
  below-ind (suc f) n h = go (below-ind f (n / 10)) (dec_lt n 10)
    where
      go : (n / 10 < f → P (n / 10)) → Dec (n < 10) → P n
      go ih (yes s) = small n s
      go ih (no s) = large n (omega arith) (ih (omega arith))

  pub decimal-ind : (n : ℕ) → P n
  decimal-ind n = below-ind (suc n) n (omega arith)

value-snoc : (a : ℕ) (l : List ℕ) (d : ℕ) → value_from a (l ++ (d ∷ [])) ≡ value_from a l * 10 + (d - 48)
unfolding value_from
value-snoc a [] d = refl
value-snoc a (x ∷ l) d = value-snoc (a * 10 + (x - 48)) l d

-- "reading it back gives the number"
pub value-decimal : (n : ℕ) → value (decimal n) ≡ n
unfolding value_from
value-decimal = decimal-ind (λ n. value (decimal n) ≡ n) small large
  where
    small : (n : ℕ) → n < 10 → value (decimal n) ≡ n
    small n h = rw (decimal-small n h) (omega arith)

    large : (n : ℕ) → 10 ≤ n → value (decimal (n / 10)) ≡ n / 10 → value (decimal n) ≡ n
    large n h e = rw (decimal-large n h, value-snoc, e) (omega arith)

-- no two numbers are written alike
pub decimal_injective : (m n : ℕ) → decimal m ≡ decimal n → m ≡ n
decimal_injective m n e = sym (value-decimal m) ∙ ap value e ∙ value-decimal n

-- the digits of a number are digits
abbrev pub Digit : ℕ → Type 0
Digit d = (48 ≤ d) × (d < 58)

pub decimal-digits : (n : ℕ) → All Digit (decimal n)
decimal-digits = decimal-ind (λ n. All Digit (decimal n)) small large
  where
    small : (n : ℕ) → n < 10 → All Digit (decimal n)
    small n h = rw (decimal-small n h) ((omega arith, omega arith), tt)

    large : (n : ℕ) → 10 ≤ n → All Digit (decimal (n / 10)) → All Digit (decimal n)
    large n h a = rw (decimal-large n h) (all_append Digit (decimal (n / 10)) (digit (n % 10) ∷ []) a ((omega arith, omega arith), tt))

pub digit-test : (d : ℕ) → Digit d → T (is_digit d)
digit-test d h = and_T (leb 48 d) (leb d 57) (true-T (le-true 48 d h.0)) (true-T (le-true d 57 (omega arith)))

pub test-digit : (d : ℕ) → T (is_digit d) → Digit d
test-digit d t =
    let b = both (leb 48 d) (leb d 57) t in
    let g : 48 ≤ d = true-le 48 d (is_true _ b.0) in
    let h : d ≤ 57 = true-le d 57 (is_true _ b.1) in
    (g, omega arith)

pub all-test : (l : List ℕ) → All Digit l → T (all_digits l)
unfolding all_digits
all-test [] h = tt
all-test (d ∷ l) h = and_T (is_digit d) (all_digits l) (digit-test d h.0) (all-test l h.1)

pub test-all : (l : List ℕ) → T (all_digits l) → All Digit l
unfolding all_digits
test-all [] t = tt
test-all (d ∷ l) t = let b = both (is_digit d) (all_digits l) t in (test-digit d b.0, test-all l b.1)

-- digits behind the digits of a number
grown : (a d : ℕ) → 0 < a → Digit d → decimal (a * 10 + (d - 48)) ≡ decimal a ++ (d ∷ [])
grown a d p h =
    let n : (a * 10 + (d - 48)) / 10 ≡ a = omega arith in
    let e : digit ((a * 10 + (d - 48)) % 10) ≡ d = omega arith in
    decimal-large (a * 10 + (d - 48)) (omega arith)
    ∙ ap (λ (k : ℕ). decimal k ++ (digit ((a * 10 + (d - 48)) % 10) ∷ [])) n
    ∙ ap (λ (k : ℕ). decimal a ++ (k ∷ [])) e

decimal-behind : (a : ℕ) (l : List ℕ) → 0 < a → All Digit l → decimal (value_from a l) ≡ decimal a ++ l
unfolding value_from
decimal-behind a [] p h = sym (append-nil (decimal a))
decimal-behind a (d ∷ l) p h =
    decimal-behind (a * 10 + (d - 48)) l (omega (arith, h.0.0)) h.1
    ∙ ap (λ (k : List ℕ). k ++ l) (grown a d p h.0)
    ∙ append_assoc (decimal a) (d ∷ []) l

-- a list of digits without a leading zero is what is written of the number it says
pub numeral-decimal : (l : List ℕ) → T (numeral l) → decimal (value l) ≡ l
unfolding numeral value_from
numeral-decimal [] t = absurd t
numeral-decimal (d ∷ []) t =
    let h : Digit d = (test-all (d ∷ []) t).0 in
    let e : 48 + (0 * 10 + (d - 48)) ≡ d = omega arith in
    decimal-small (0 * 10 + (d - 48)) (omega arith) ∙ ap (λ (k : ℕ). k ∷ []) e
numeral-decimal (d ∷ e ∷ l) t =
    let b = both (not (eqb d 48)) (all_digits (d ∷ e ∷ l)) t in
    let h : All Digit (d ∷ e ∷ l) = test-all (d ∷ e ∷ l) b.1 in
    let n : (d ≡ 48) → ⊥ = λ q. T_not (eqb d 48) b.0 (rw q tt) in
    let p : 0 < 0 * 10 + (d - 48) = positive d n h.0 in
    let q : 48 + (0 * 10 + (d - 48)) ≡ d = omega (arith, h.0.0) in
    decimal-behind (0 * 10 + (d - 48)) (e ∷ l) p h.1
    ∙ ap (λ (k : List ℕ). k ++ (e ∷ l)) (decimal-small (0 * 10 + (d - 48)) (omega (arith, h.0.1)) ∙ ap (λ (k : ℕ). k ∷ []) q)
  where
    positive : (d : ℕ) → ((d ≡ 48) → ⊥) → Digit d → 0 < 0 * 10 + (d - 48)
    positive d n h = omega arith

-- what is written of a number is such a list
abbrev Leads : List ℕ → Type 0
Leads [] = ⊥
Leads (d ∷ l) = (d ≡ 48) → ⊥

leads-append : (l k : List ℕ) → Leads l → Leads (l ++ k)
leads-append [] k h = absurd h
leads-append (d ∷ l) k h = h

leads : (n : ℕ) → 0 < n → Leads (decimal n)
leads = decimal-ind (λ n. 0 < n → Leads (decimal n)) small large
  where
    small : (n : ℕ) → n < 10 → 0 < n → Leads (decimal n)
    small n h p = rw (decimal-small n h) (λ (q : digit n ≡ 48). omega arith)

    large : (n : ℕ) → 10 ≤ n → (0 < n / 10 → Leads (decimal (n / 10))) → 0 < n → Leads (decimal n)
    large n h ih p = rw (decimal-large n h) (leads-append (decimal (n / 10)) (digit (n % 10) ∷ []) (ih (omega arith)))

led : (l : List ℕ) → Leads l → All Digit l → T (numeral l)
unfolding numeral
led [] h a = absurd h
led (d ∷ []) h a = all-test (d ∷ []) a
led (d ∷ e ∷ l) h a = and_T (not (eqb d 48)) (all_digits (d ∷ e ∷ l)) (not_T (eqb d 48) (λ t. h (eqb→eq d 48 t))) (all-test (d ∷ e ∷ l) a)

pub decimal-numeral : (n : ℕ) → T (numeral (decimal n))
unfolding numeral
decimal-numeral n = go (dec_lt 0 n)
  where
    go : Dec (0 < n) → T (numeral (decimal n))
    go (yes p) = led (decimal n) (leads n p) (decimal-digits n)
    go (no p) = let e : n ≡ 0 = omega arith in rw (decimal-small n (omega arith), e) (all-test (48 ∷ []) ((omega arith, omega arith), tt))

-- a number below 10 ^ k has at most k digits
pub decimal-length : (k n : ℕ) → n < 10 ^ suc k → length (decimal n) ≤ suc k
decimal-length zero n h = rw (decimal-small n (omega arith)) (omega arith)
decimal-length (suc k) n h = go (decimal-length k (n / 10)) (dec_lt n 10)
  where
    go : (n / 10 < 10 ^ suc k → length (decimal (n / 10)) ≤ suc k) → Dec (n < 10) → length (decimal n) ≤ suc (suc k)
    go ih (yes s) = rw (decimal-small n s) (omega arith)
    go ih (no s) = rw (decimal-large n (omega arith), length-append) (omega (arith, ih (omega (arith, pow-suc 10 (suc k)))))

-- bytes are what is written of some number exactly if they are such a list
pub written-exactly : (l : List ℕ) → T (numeral l) ↔ ((n : ℕ) × (l ≡ decimal n))
written-exactly l = (λ t. (value l, sym (numeral-decimal l t)), λ w. rw w.1 (decimal-numeral w.0))
