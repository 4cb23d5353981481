-- What is promised of a built graph that is printed: it is written, whatever the thread.
use Rattle.std.specs.Prelude.{◌≡◌, ℕ, ◌≤◌, List, length, Ok}
use Rattle.std.proofs.Math.Option.{none}
use Rattle.thread.specs.Numbers.{◌!◌, filled}
use Rattle.decimal.specs.Decimal.{most}
use Rattle.graphs.specs.Build.{counted, refusal, build}
use Rattle.printed.specs.Graph.{graph_text}
use Rattle.printed.specs.IsGraph.{IsGraph}
use Rattle.printed.specs.Printed.{print', printed}
use Rattle.printed.specs.SameGraph.{SameRecords}
use Rattle.printed.specs.Room.{node_room, edge_room, room_text}

-- what the builder leaves when it answers a graph is a graph that can be printed
abbrev pub BuiltIsGraph : Type 0
BuiltIsGraph =
    (model : ℕ) (t : List ℕ) (a b n m : ℕ)
    → refusal model t a b ≡ none
    → (build model t a b).answer ≡ Ok (counted n m)
    → IsGraph model n m (build model t a b).nodes (build model t a b).edges

-- in the printing program's rooms it is always written: neither of the printer's own two answers can happen
abbrev pub AlwaysWritten : Type 0
AlwaysWritten =
    (model : ℕ) (t : List ℕ) (n m room : ℕ)
    → let built = build model t node_room edge_room in
    let text = graph_text model n m built.nodes built.edges in
    refusal model t node_room edge_room ≡ none
    → built.answer ≡ Ok (counted n m)
    → ((i : ℕ) → built.nodes ! i ≤ most)
    → ((i : ℕ) → built.edges ! i ≤ most)
    → room_text ≤ room
    → printed model n m built.nodes built.edges room ≡ print' (Ok (length text)) (filled room text)

-- "reading the printed text back .. gives the same graph": two built graphs that print alike have the same model, counts and records
abbrev pub BuiltReadBack : Type 0
BuiltReadBack =
    (model : ℕ) (t : List ℕ) (a b n m : ℕ) (model' : ℕ) (t' : List ℕ) (a' b' n' m' : ℕ)
    → let built = build model t a b in
    let built' = build model' t' a' b' in
    refusal model t a b ≡ none
    → refusal model' t' a' b' ≡ none
    → built.answer ≡ Ok (counted n m)
    → built'.answer ≡ Ok (counted n' m')
    → graph_text model n m built.nodes built.edges ≡ graph_text model' n' m' built'.nodes built'.edges
    → (model ≡ model') × (n ≡ n') × (m ≡ m') × SameRecords n m built.nodes built.edges built'.nodes built'.edges
