-- A thread that is alive is shown as the definition says: its node's record is within the table, and sixteen places are enough.
use mathlib.Core.Path.{◌≡◌, refl, sym, ap, subst, ◌∙◌}
use Prim.Native.Nat.{ℕ, zero, suc, ◌+◌, ◌*◌, ◌-◌, ◌≤◌, ◌<◌}
use native.Mathlib.Omega.{arith}
use native.Mathlib.Decide.{dec_lt}
use mathlib.Core.List.{List, [], ◌∷◌, ◌++◌, map}
use lib.ListN.{length, get_or, take, drop, replicate, length-append, length-drop, length-map, get_or-append}
use lib.Seq.{length-take-le, get_or-take, get_or-drop, ext_get_or, get_or-append-add}
use Rattle.lists.specs.Lists.{each, All}
use Rattle.lists.proofs.Lists.{mem-get_or, all-at}
use Rattle.lists.proofs.Tests.{lt-true, lt-false}
use Rattle.thread.specs.Sizes.{node_width, most_waiting}
use Rattle.thread.specs.Numbers.{◌!◌, zeros, filled}
use Rattle.thread.specs.Table.{line}
use Rattle.graphs.specs.Graph.{Standing, begin}
use Rattle.graphs.specs.Records.{node_record, flat, node_at}
use Rattle.graphs.specs.Build.{accepted, build}
use Rattle.graphs.proofs.Given.{Accepted, accepted-when}
use Rattle.graphs.proofs.Tables.{fit, when-accepted}
use Rattle.graphs.proofs.Records.{flat-length, at-record, all-nodes, node-width, length-filled}
use Rattle.runs.specs.Shown.{ShownThread, name_of, value_of, nobody, shown_thread}
use Rattle.runs.proofs.Worlds.{Each}
use Rattle.generated.specs.declared.Generated.{Generated}
use Rattle.generated.specs.RunGenerated.{line_shown, shown_at, shown_generated}
use Rattle.agree.proofs.Threads.{Alive, nodes-are}
use Rattle.shown.specs.Ran.{thread_state}
use Rattle.states.specs.States.{name_at, value_at, sixteen, names, values, state_at, state_of, four_states, Readable}
use Rattle.states.proofs.Sixteen.{sixteen-length, sixteen-at}

-- sixteen places that hold a list, then zeros
pub holds-filled : (f : ℕ → ℕ) (l : List ℕ) → length l ≤ 16 → ((i : ℕ) → i < length l → f i ≡ l ! i) → ((i : ℕ) → length l ≤ i → f i ≡ 0) → sixteen f ≡ filled 16 l
unfolding filled
holds-filled f l h p q =
    ext_get_or 0 (sixteen f) (filled 16 l) (sixteen-length f ∙ sym (length-filled 16 l h)) (λ i k. let j : i < 16 = rw (sixteen-length f) at k in sixteen-at f i j ∙ held i (dec_lt i (length l)))
  where
    zero-at : (n i : ℕ) → zeros n ! i ≡ 0
    zero-at zero i = refl
    zero-at (suc n) zero = refl
    zero-at (suc n) (suc i) = zero-at n i

    past : (i : ℕ) → length l ≤ i → (l ++ zeros (16 - length l)) ! i ≡ 0
    past i g =
        let e : length l + (i - length l) ≡ i = omega arith in
        subst (λ (k : ℕ). (l ++ zeros (16 - length l)) ! k ≡ 0) e (get_or-append-add l (zeros (16 - length l)) (i - length l) 0 ∙ zero-at (16 - length l) (i - length l))

    held : (i : ℕ) → Dec (i < length l) → f i ≡ (l ++ zeros (16 - length l)) ! i
    held i (yes k) = p i k ∙ sym (get_or-append l (zeros (16 - length l)) 0 i k)
    held i (no k) = let g : length l ≤ i = omega arith in q i g ∙ sym (past i g)

-- the names and values of store lines that stand in a record
names-are : (A l : List ℕ) → map name_of (map (line_shown A) (map line l)) ≡ l
names-are A [] = refl
names-are A (n ∷ l) = ap (λ (r : List ℕ). n ∷ r) (names-are A l)

values-are : (A l : List ℕ) → map value_of (map (line_shown A) (map line l)) ≡ map (λ (n : ℕ). A ! n) l
values-are A [] = refl
values-are A (n ∷ l) = ap (λ (r : List ℕ). A ! n ∷ r) (values-are A l)

count_is : (A l : List ℕ) → length (map (line_shown A) (map line l)) ≡ length l
count_is A l = length-map (map line l) (line_shown A) ∙ length-map l line

map_at : (g : ℕ → ℕ) (l : List ℕ) (i : ℕ) → i < length l → map g l ! i ≡ g (l ! i)
map_at g [] i h = absurd (omega arith)
map_at g (n ∷ l) zero h = refl
map_at g (n ∷ l) (suc i) h = map_at g l i (omega arith)

module _ (nodes : List ℕ) (own : Generated) (r : Readable nodes own) where
  abbrev start : ℕ
  start = node_width * own.node.0 + 2

  abbrev count : ℕ
  count = nodes ! (node_width * own.node.0 + 1)

  abbrev lines : List ℕ
  lines = take count (drop start nodes)

  lines-length : length lines ≡ count
  lines-length = length-take-le count (drop start nodes) (rw length-drop (omega (arith, r.within, r.few)))

  line_at : (i : ℕ) → i < count → lines ! i ≡ nodes ! (start + i)
  line_at i h = get_or-take count (drop start nodes) i 0 h ∙ get_or-drop start nodes i 0

  names-shown : names nodes start count ≡ filled 16 lines
  unfolding names
  names-shown =
      holds-filled (name_at nodes start count) lines (rw lines-length r.few)
      (λ i h. let j : i < count = rw lines-length at h in rw (lt-true i count j) (sym (line_at i j)))
      (λ i h. let j : count ≤ i = rw lines-length at h in rw (lt-false i count j))

  values-shown : values own.auxiliaries nodes start count ≡ filled 16 (map (λ (n : ℕ). own.auxiliaries ! n) lines)
  unfolding values
  values-shown =
      let A = own.auxiliaries in
      let n : length (map (λ (n : ℕ). A ! n) lines) ≡ count = length-map lines (λ (n : ℕ). A ! n) ∙ lines-length in
      holds-filled (value_at A nodes start count) (map (λ (n : ℕ). A ! n) lines) (omega (arith, r.few))
      (λ i h. let j : i < count = omega arith in rw (lt-true i count j) (ap (λ (k : ℕ). A ! k) (sym (line_at i j)) ∙ sym (map_at (λ (n : ℕ). A ! n) lines i (rw lines-length j))))
      (λ i h. let j : count ≤ i = omega arith in rw (lt-false i count j))

  pub state-is : state_at nodes own ≡ thread_state (shown_generated nodes own)
  unfolding state_at shown_generated shown_at shown_thread node_at
  state-is =
      let A = own.auxiliaries in
      let xs : names nodes start count ≡ filled 16 (map name_of (map (line_shown A) (map line lines))) = names-shown ∙ ap (filled 16) (sym (names-are A lines)) in
      let vs : values A nodes start count ≡ filled 16 (map value_of (map (line_shown A) (map line lines))) = values-shown ∙ ap (filled 16) (sym (values-are A lines)) in
      let n : count ≡ length (map (line_shown A) (map line lines)) = sym (count_is A lines ∙ lines-length) in
      λ i. record { line = line (nodes ! (node_width * own.node.0)); registers = own.registers; names = xs i; values = vs i; count = n i }

-- a thread that is alive stands at a node of its graph
pub alive-readable : (m : ℕ) (t : List ℕ) (node_room edge_room : ℕ) (a : Generated) → Alive m t node_room edge_room a → Readable (build m t node_room edge_room).nodes a
unfolding accepted filled node_record
alive-readable m t node_room edge_room a g =
    let ac : Accepted m t node_room edge_room = accepted-when m t node_room edge_room g.free in
    let ns : List Standing = ac.graph.nodes in
    let k : ℕ = a.node.0 in
    let few : All (λ (s : Standing). length s.waiting ≤ most_waiting) ns = (fit m t node_room edge_room ac).few in
    let lt : k < length ns = subst (λ (l : List Standing). k < length l) (nodes-are m t node_room edge_room ac) g.known in
    let n : length (flat node_record ns) ≡ 18 * length ns = flat-length node_record 18 ns (all-nodes ns few) in
    let w : length (get_or ns k begin).waiting ≤ most_waiting = all-at (λ (s : Standing). length s.waiting ≤ most_waiting) (mem-get_or ns k begin lt) few in
    let c : (flat node_record ns ++ zeros (node_room - length (flat node_record ns))) ! (18 * k + 1) ≡ length (get_or ns k begin).waiting =
    at-record node_record 18 ns (zeros (node_room - length (flat node_record ns))) begin (all-nodes ns few) k 1 lt (rw (node-width (get_or ns k begin) w) (omega arith)) in
    rw (when-accepted m t node_room edge_room ac g.free) (record { within = rw length-append (omega arith); few = rw c w })

-- all four
module _ (nodes : ℕ → List ℕ) (shown : ℕ → Generated → ShownThread) (G : ℕ → Generated → Type 0) (same : (t : ℕ) (a : Generated) → G t a → state_at (nodes t) a ≡ thread_state (shown t a)) where
  pub four-shown : (ts : List Generated) → length ts ≤ 4 → Each G ts → four_states (length ts) nodes ts ≡ map thread_state (each shown ts ++ replicate (4 - length (each shown ts)) nobody)
  unfolding state_of each
  four-shown [] h g = refl
  four-shown (a ∷ []) h g = rw (same 0 a g.0)
  four-shown (a ∷ b ∷ []) h g = rw (same 0 a g.0, same 1 b g.1.0)
  four-shown (a ∷ b ∷ c ∷ []) h g = rw (same 0 a g.0, same 1 b g.1.0, same 2 c g.1.1.0)
  four-shown (a ∷ b ∷ c ∷ d ∷ []) h g = rw (same 0 a g.0, same 1 b g.1.0, same 2 c g.1.1.0, same 3 d g.1.1.1.0)
  four-shown (a ∷ b ∷ c ∷ d ∷ e ∷ ts) h g = absurd (omega arith)
