-- The search for the lines that can be reached: what holds on the way, and what it finds.
use mathlib.Core.Path.{◌≡◌, sym, ap, ◌∙◌}
use mathlib.Core.Logic.{⊎_elim}
use mathlib.Core.Bool.{Bool, true, false}
use Prim.Native.Nat.{ℕ, ◌≤◌, ◌<◌}
use native.Mathlib.Omega.{arith}
use mathlib.Core.List.{List, Memᴰ}
use lib.ListN.{length, set, length-set, length-replicate}
use lib.Dec.{T}
use Rattle.std.specs.Prelude as held
use Rattle.std.specs.Prelude.{Some}
use Rattle.lists.specs.Lists.{All, any, lowest}
use Rattle.lists.specs.Options.{option_of}
use Rattle.lists.proofs.Lists.{all-imp, all-at, any_at, any_some}
use Rattle.lists.proofs.Tests.{is_true, is_false}
use Rattle.explore.specs.Explore.{reach_start, reach_step}
use Rattle.thread.specs.declared.Line.{Line}
use Rattle.thread.specs.Sizes.{most_lines}
use Rattle.thread.specs.Table.{line}
use Rattle.checks.specs.Lines.{Leads, leads}
use Rattle.checks.proofs.Loops.{leads-step, arc-mem, Stays, leads-iff}
use Rattle.admit.specs.Marks.{marked, no_marks, mark_all, is_open, From, Spread, Inside}
use Rattle.admit.proofs.Marked.{set_cases, mark-length, mark-keeps, mark-marks, mark-cases, none-marked}
use Rattle.admit.proofs.Open.{none_open}

-- all of these lines are below n
abbrev pub Below : ℕ → List Line → Type 0
Below n ls = All (λ (k : Line). k.0 < n) ls

-- n lines, of 64 at the most, that lead to each other alone
pub record Kept (out : Line → List Line) (n : ℕ) : Type 0 where
  pub few_lines : n ≤ most_lines
  pub stays : Stays out n

-- on the way: m₀ was marked at the start, m is marked now, d is done
pub record Partly (out : Line → List Line) (n : ℕ) (m₀ m d : List Bool) : Type 0 where
  pub size : length m ≡ most_lines
  pub done-size : length d ≡ most_lines
  pub inside : Inside n m
  pub sound : (l : Line) → T (marked m l) → From out m₀ l
  pub kept : (l : Line) → T (marked m₀ l) → T (marked m l)
  pub followed : (l : Line) → T (marked d l) → All (λ k. T (marked m k)) (out l)

module _ (out : Line → List Line) (n : ℕ) where
  pub partly-start : (m : List Bool) → length m ≡ most_lines → Inside n m → Partly out n m m no_marks
  partly-start m e h = record {
    size = e;
    done-size = length-replicate most_lines false;
    inside = h;
    sound = λ l t. record { from = l; start = t; way = reach_start };
    kept = λ l t. t;
    followed = λ l t. absurd (none-marked most_lines l.0 t);
  }

  -- no line is left to do
  pub partly-end : {m₀ m d : List Bool} {r : held.Option ℕ} → r ≡ option_of (lowest (is_open m d) n) → ((l : ℕ) → r ≡ Some l → ⊥) → Partly out n m₀ m d → Spread out m₀ m
  partly-end {m₀} {m} {d} f e p = record { sound = p.sound; complete = λ k f. reached (p.kept f.from f.start) f.way }
    where
      done : (k : Line) → T (marked m k) → T (marked d k)
      done k t = none_open m d n f e k.0 (p.inside k t) t

      reached : {k l : Line} → T (marked m k) → Leads out k l → T (marked m l)
      reached t reach_start = t
      reached t (reach_step {a} r i) = all-at (λ j. T (marked m j)) (arc-mem (out a) i) (p.followed a (done a (reached t r)))

-- a marked line l is done: the lines after it are marked
pub partly-step : {out : Line → List Line} {n : ℕ} {m₀ m d : List Bool} → Kept out n → (l : Line) → l.0 < n → T (marked m l) → Partly out n m₀ m d → Partly out n m₀ (mark_all m (out l)) (set d l.0 true)
partly-step {out} {n} {m₀} {m} {d} ok l h t p = record {
  size = mark-length m ls ∙ p.size;
  done-size = length-set d l.0 true ∙ p.done-size;
  inside = λ k u. ⊎_elim (λ (i : Memᴰ k ls). all-at (λ (k : Line). k.0 < n) i below) (p.inside k) (mark-cases m ls k u);
  sound = λ k u. ⊎_elim (next k) (p.sound k) (mark-cases m ls k u);
  kept = λ k u. mark-keeps m ls k (p.kept k u);
  followed = λ k u. ⊎_elim (here k) (before k) (set_cases d l.0 k.0 u);
}
  where
    ls : List Line
    ls = out l

    below : Below n ls
    below = ok.stays l h

    next : (k : Line) → Memᴰ k ls → From out m₀ k
    next k i = let f = p.sound l t in record { from = f.from; start = f.start; way = leads-step out f.way i }

    here : (k : Line) → k.0 ≡ l.0 → All (λ j. T (marked (mark_all m ls) j)) (out k)
    here k e =
        let q : k ≡ l = ap line e in
        rw q (mark-marks m ls (all-imp (λ (k : Line). k.0 < n) (λ (k : Line). k.0 < length m) (λ k g. omega (arith, p.size, ok.few_lines)) ls below))

    before : (k : Line) → T (marked d k) → All (λ j. T (marked (mark_all m ls) j)) (out k)
    before k v = all-imp (λ j. T (marked m j)) (λ j. T (marked (mark_all m ls) j)) (mark-keeps m ls) (out k) (p.followed k v)

-- a search from the lines ls
pub start-inside : {n : ℕ} (ls : List Line) → Below n ls → Inside n (mark_all no_marks ls)
start-inside {n} ls below l t =
    ⊎_elim
    (λ (i : Memᴰ l ls). all-at (λ (k : Line). k.0 < n) i below)
    (λ (u : T (marked no_marks l)). absurd (none-marked most_lines l.0 u))
    (mark-cases no_marks ls l t)

-- two tests that say the same
same_test : (a b : Bool) → (T a → T b) → (T b → T a) → a ≡ b
same_test true b f g = sym (is_true b (f tt))
same_test false b f g = sym (is_false b g)

-- it marks l where some of them leads to l
module _ {out : Line → List Line} {n : ℕ} (ok : Kept out n) (ls : List Line) (below : Below n ls) (r : List Bool) (s : Spread out (mark_all no_marks ls) r) (l : Line) where
  abbrev leads_here : Line → Bool
  leads_here k = leads out n k l

  leads-here : {k : Line} → Memᴰ k ls → (Leads out k l → T (leads_here k)) × (T (leads_here k) → Leads out k l)
  leads-here {k} i = let w = leads-iff out n ok.stays k l (all-at (λ (k : Line). k.0 < n) i below) in (w.1, w.0)

  start-marked : All (λ k. T (marked (mark_all no_marks ls) k)) ls
  start-marked =
      mark-marks no_marks ls (all-imp (λ (k : Line). k.0 < n) (λ (k : Line). k.0 < length no_marks) (λ k g. omega (arith, length-replicate most_lines false, ok.few_lines)) ls below)

  pub spread-is : marked r l ≡ any leads_here ls
  spread-is = same_test (marked r l) (any leads_here ls) to back
    where
      to : T (marked r l) → T (any leads_here ls)
      to t =
          let f = s.sound l t in
          ⊎_elim
          (λ (i : Memᴰ f.from ls). any_at leads_here i ((leads-here i).0 f.way))
          (λ (u : T (marked no_marks f.from)). absurd (none-marked most_lines f.from.0 u))
          (mark-cases no_marks ls f.from f.start)

      back : T (any leads_here ls) → T (marked r l)
      back t =
          let x = any_some leads_here ls t in
          s.complete l (record { from = x.0; start = all-at (λ k. T (marked (mark_all no_marks ls) k)) x.1 start-marked; way = (leads-here x.1).1 x.2 })
