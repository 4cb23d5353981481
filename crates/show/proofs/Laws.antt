-- From what reading, building and printing promise to what is shown.
use Rattle.std.specs.Prelude.{Ok, Err}
use mathlib.Core.Path.{◌≡◌, sym, ap, ◌∙◌}
use Prim.Native.Nat.{ℕ, ◌*◌, ◌≤◌, min}
use native.Mathlib.Omega.{arith}
use native.Mathlib.Decide.{dec_le}
use mathlib.Core.List.{List}
use lib.ListN.{length, take}
use lib.Seq.{take_all}
use Rattle.thread.specs.declared.Refusal.{Refusal}
use Rattle.thread.specs.Sizes.{line_width}
use Rattle.thread.specs.Numbers.{zeros}
use Rattle.text.specs.Read.{Reading, ReadOk}
use Rattle.graphs.specs.Build.{counted, Answer as GraphAnswer, build}
use Rattle.builder.specs.Result.{Leaves}
use Rattle.printed.specs.Printed.{Answer, print', printed}
use Rattle.show.specs.Show.{shown_refusal, shown_built, shown_result, shown_table, shown_reading, shown_text, TableShown, TextShown}

module _ {m : ℕ} {t : List ℕ} {node_room edge_room room : ℕ} {a : GraphAnswer} {nodes edges area : List ℕ} {p : Answer} (l : Leaves (build m t node_room edge_room) a nodes edges) where
  result : print' p area ≡ shown_built m room a nodes edges → TableShown m t node_room edge_room room p nodes edges area
  unfolding shown_table shown_result
  result e =
      let q : print' p area ≡ shown_built m room (build m t node_room edge_room).answer (build m t node_room edge_room).nodes (build m t node_room edge_room).edges = rw (← l.answer, ← l.nodes, ← l.edges) e in
      record { screen = λ i. record { print = q i; nodes = l.nodes i; edges = l.edges i } }

  pub table-refused : (r : Refusal) → a ≡ Err r → print' p area ≡ shown_refusal r room → TableShown m t node_room edge_room room p nodes edges area
  unfolding shown_built
  table-refused r e f = result (f ∙ ap (λ (x : GraphAnswer). shown_built m room x nodes edges) (sym e))

  pub table-graph : (n k : ℕ) → a ≡ Ok (counted n k) → print' p area ≡ printed m n k nodes edges room → TableShown m t node_room edge_room room p nodes edges area
  unfolding shown_built
  table-graph n k e f = result (f ∙ ap (λ (x : GraphAnswer). shown_built m room x nodes edges) (sym e))

-- a part that goes to the end goes no further
pub take-least : {A : Type 0} (n : ℕ) (l : List A) → take (min n (length l)) l ≡ take n l
take-least n l = go (dec_le n (length l))
  where
    go : Dec (n ≤ length l) → take (min n (length l)) l ≡ take n l
    go (yes h) = let e : min n (length l) ≡ n = omega arith in rw e
    go (no h) = let e : min n (length l) ≡ length l = omega arith in rw (e, take_all (length l) l (omega arith), take_all n l (omega arith))

module _ {text : List ℕ} {table_room node_room edge_room room : ℕ} {a : Reading} {table nodes edges area : List ℕ} {p : Answer} (l : ReadOk table_room text a table) where
  pub text-refused : (r : Refusal) → a ≡ Err r → nodes ≡ zeros node_room → edges ≡ zeros edge_room → print' p area ≡ shown_refusal r room
      → TextShown text table_room node_room edge_room room p table nodes edges area
  unfolding shown_text shown_reading
  text-refused r e ns es f =
      record {
        left = l.left;
        screen = (λ i. record { print = f i; nodes = ns i; edges = es i }) ∙ ap (λ (x : Reading). shown_reading x table node_room edge_room room) (sym e) ∙ rw (l.answered, l.left);
      }

  pub text-read : (m lines : ℕ) → a ≡ Ok (m, lines) → TableShown m (take (min (line_width * lines) (length table)) table) node_room edge_room room p nodes edges area
      → TextShown text table_room node_room edge_room room p table nodes edges area
  unfolding shown_text shown_reading
  text-read m lines e f =
      record {
        left = l.left;
        screen = f.screen
            ∙ ap (λ (x : List ℕ). shown_table m x node_room edge_room room) (take-least (line_width * lines) table)
            ∙ ap (λ (x : Reading). shown_reading x table node_room edge_room room) (sym e)
            ∙ rw (l.answered, l.left);
      }
