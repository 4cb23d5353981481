-- The law of a turn in place: it sets the thread that moves, and the other threads keep what is theirs.
use mathlib.Core.Path.{◌≡◌, refl, sym, ap, ◌∙◌}
use mathlib.Core.Logic.{◌≢◌}
use mathlib.Core.Bool.{Bool, true, false}
use mathlib.Core.Option.{none, some}
use Prim.Native.Nat.{ℕ, ◌*◌, ◌≤◌, ◌<◌}
use native.Mathlib.Omega.{arith}
use mathlib.Core.List.{List, [], ◌++◌}
use lib.ListN.{length, get_or, take, drop, set, take-append-drop}
use lib.Seq.{get_or-set_same, get_or-set_other, set-get_or, drop-set-lt}
use borrow.Rule.Slice.PartMut.{put_mid}
use Rattle.std.specs.Prelude as code
use Rattle.std.specs.Prelude.{Some, None, is_some}
use Rattle.thread.specs.declared.Node.{Node}
use Rattle.thread.specs.Numbers.{◌!◌}
use Rattle.graphs.specs.Records.{node}
use Rattle.runs.specs.Run.{takes}
use Rattle.runs.specs.Machine.{Turned}
use Rattle.generated.specs.declared.Generated.{Generated}
use Rattle.step.specs.declared.Moved.{Moved}
use Rattle.step.specs.Step.{moved_to, searched, left, left_by}
use Rattle.step.proofs.Laws.{left-some, left_none}
use Rattle.shown.specs.Ran.{world}
use Rattle.shown.proofs.Parts.{part-own, part-other, lent_length, four-at, set-four}
use Rattle.shown.proofs.Turns.{takes-absent, takes-past, takes_none, takes-some}
use Rattle.flat.specs.Flat.{thread_at, flat, taken, sought_step, TurnedIn, Done}

-- Thread t goes to node v, and its registers and auxiliary values become ys and zs.
module _ (N R A : List ℕ) (t : ℕ) (lt : t < 4) (four-nodes : length N ≡ 4) (all-registers : length R ≡ 64) (all-auxiliaries : length A ≡ 256)
    (v : ℕ) (ys zs : List ℕ) (sixteen : length ys ≡ 16) (sixty-four : length zs ≡ 64) where
  abbrev N' : List ℕ
  N' = set N t v

  abbrev R' : List ℕ
  R' = put_mid (16 * t) 16 R ys

  abbrev A' : List ℕ
  A' = put_mid (64 * t) 64 A zs

  abbrev new : Generated
  new = record { node = node v; registers = ys; auxiliaries = zs }

  own : thread_at N' R' A' t ≡ new
  own =
      let p : N' ! t ≡ v = get_or-set_same N t v 0 (omega arith) in
      let q = part-own 16 (16 * t) R ys sixteen (omega arith) in
      let r = part-own 64 (64 * t) A zs sixty-four (omega arith) in
      λ i. record { node = node (p i); registers = q i; auxiliaries = r i }

  others : (u : ℕ) → u ≢ t → thread_at N' R' A' u ≡ thread_at N R A u
  others u d =
      let p : N' ! u ≡ N ! u = get_or-set_other N t u v 0 d in
      let q = part-other 16 t R ys sixteen (omega arith) u d in
      let r = part-other 64 t A zs sixty-four (omega arith) u d in
      λ i. record { node = node (p i); registers = q i; auxiliaries = r i }

-- a part that is written back as it was
unchanged : (a k : ℕ) (l : List ℕ) → put_mid a k l (take k (drop a l)) ≡ l
unchanged a k l = ap (λ (m : List ℕ). take a l ++ m) (take-append-drop k (drop a l)) ∙ take-append-drop a l

-- the code's way to `Done`: j and k are the widths of the parts that were lent, and the step in place leaves M', ys and zs
module _ (N R A : List ℕ) (t : ℕ) (lt : t < 4) (n : length N ≡ 4) (r : length R ≡ 64) (a : length A ≡ 256) (j k : ℕ) (ej : j ≡ 16) (ek : k ≡ 64) (table : List ℕ) (c : ℕ) (M M' ys zs : List ℕ) where
  abbrev own-part : List ℕ
  own-part = take j (drop (16 * t) R)

  abbrev aux-part : List ℕ
  aux-part = take k (drop (64 * t) A)

  abbrev reached : code.Option Moved
  reached = searched table c M (record { node = node (N ! t); registers = own-part; auxiliaries = aux-part })

  abbrev Ends : Bool → List ℕ → Type 0
  Ends b N' = Done (searched table c M (thread_at N R A t)) t M (flat N R A) b M' (flat N' (put_mid (16 * t) j R ys) (put_mid (64 * t) k A zs))

  pub done_still : left None M' ys zs ≡ left_by reached M own-part aux-part → Ends false N
  done_still e =
      let l = left_none M own-part aux-part M' ys zs reached e in
      let s : searched table c M (thread_at N R A t) ≡ None = rw (ej, ek) at l.0 in
      let p : put_mid (16 * t) j R ys ≡ R = ap (put_mid (16 * t) j R) l.2 ∙ unchanged (16 * t) j R in
      let q : put_mid (64 * t) k A zs ≡ A = ap (put_mid (64 * t) k A) l.3 ∙ unchanged (64 * t) k A in
      rw s (record { ok = refl; memory = l.1; threads = λ i. flat N (p i) (q i) })

  pub done-in-place : (to : Node) → length ys ≡ length own-part → length zs ≡ length aux-part → left (Some to) M' ys zs ≡ left_by reached M own-part aux-part → Ends true (set N t to.0)
  done-in-place to y z e =
      let p : length ys ≡ 16 = lent_length 16 (16 * t) j R ys ej (omega arith) y in
      let q : length zs ≡ 64 = lent_length 64 (64 * t) k A zs ek (omega arith) z in
      let s : searched table c M (thread_at N R A t) ≡ Some (moved_to M' to ys zs) = rw (ej, ek) at (left-some M own-part aux-part M' ys zs to reached e) in
      rw (ej, ek, s)
      (record {
        ok = refl;
        memory = refl;
        threads = set-four (thread_at N R A) (thread_at (set N t to.0) (put_mid (16 * t) 16 R ys) (put_mid (64 * t) 64 A zs)) t (record { node = to; registers = ys; auxiliaries = zs }) lt
            (own N R A t lt n r a to.0 ys zs p q) (others N R A t lt n r a to.0 ys zs p q);
      })

-- A turn of thread t, of those that are present.
module _ (tables : List (List ℕ)) (count t c : ℕ) (M N R A : List ℕ) where
  abbrev ts : List Generated
  ts = flat N R A

  abbrev Turns : Bool → List ℕ → List Generated → Type 0
  Turns r M' ts' = Turned (takes (sought_step tables) (world count M ts) t c) (world count M ts) r (world count M' ts')

  abbrev TurnsIn : Bool → List ℕ → List Generated → Type 0
  TurnsIn = TurnedIn count (takes (sought_step tables) (world count M ts) t c) M ts

  pub turn-absent : count ≤ t → TurnsIn false M ts
  turn-absent h = record { turned = (takes-absent (sought_step tables) count M ts t c h, refl); others = refl }

  pub turn-past : 4 ≤ t → TurnsIn false M ts
  turn-past h = record { turned = (takes-past (sought_step tables) count M ts t c h, refl); others = refl }

  module _ (present : t < count) (lt : t < 4) where
    abbrev moved : code.Option Moved
    moved = searched (get_or tables t []) c M (thread_at N R A t)

    at-four : get_or ts t (thread_at N R A t) ≡ thread_at N R A t
    at-four = four-at (thread_at N R A) t (thread_at N R A t) lt

    stepped : sought_step tables t c (record { memory = M; own = get_or ts t (thread_at N R A t) }) ≡ taken moved
    unfolding sought_step
    stepped = ap (λ (o : Generated). taken (searched (get_or tables t []) c M o)) at-four

    turn-world : (m : code.Option Moved) → moved ≡ m → (r : Bool) (M' : List ℕ) (ts' : List Generated) → Done m t M ts r M' ts' → Turns r M' ts'
    unfolding taken
    turn-world (Some m) e r M' ts' d =
        let s : sought_step tables t c (record { memory = M; own = get_or ts t (thread_at N R A t) }) ≡ some (record { memory = m.memory; own = m.own }) = stepped ∙ ap taken e in
        rw d.ok
        (takes-some (sought_step tables) count M ts t c (thread_at N R A t) present (omega arith) (record { memory = m.memory; own = m.own }) s ∙ (λ i. some (world count (sym d.memory i) (sym d.threads i))))
    turn-world None e r M' ts' d =
        let s : sought_step tables t c (record { memory = M; own = get_or ts t (thread_at N R A t) }) ≡ none = stepped ∙ ap taken e in
        rw d.ok (takes_none (sought_step tables) count M ts t c (thread_at N R A t) present (omega arith) s, λ i. world count (d.memory i) (d.threads i))

    others-stay : (m : code.Option Moved) (r : Bool) (M' : List ℕ) (ts' : List Generated) → Done m t M ts r M' ts' → drop count ts' ≡ drop count ts
    others-stay (Some m) r M' ts' d = ap (drop count) d.threads ∙ drop-set-lt count ts t m.own present
    others-stay None r M' ts' d = ap (drop count) d.threads

    pub turn-taken : (r : Bool) (M' : List ℕ) (ts' : List Generated) → Done moved t M ts r M' ts' → TurnsIn r M' ts'
    turn-taken r M' ts' d = record { turned = turn-world moved refl r M' ts' d; others = others-stay moved r M' ts' d }
