-- "Known answers": what is asked and what must be answered, as numbers, on tables of numbers. proofs/Known.antt computes them all.
use Rattle.std.specs.Prelude.{ℕ, ◌*◌, List, [], ◌∷◌, ◌++◌, get_or, take, drop}
use Rattle.thread.specs.Sizes.{node_width, edge_width, registers, variables}
use Rattle.thread.specs.Numbers.{zeros}
use Rattle.graphs.specs.Build.{BuildAnswer, build, build_answer}
use Rattle.runs.specs.Run.{Ended, run_answer}
use Rattle.runs.specs.Start.{Start}
use Rattle.runs.specs.Shown.{ShownThread, Shown, nobody}
use Rattle.buffered.specs.RunBuffered.{run_buffered}
use Rattle.generated.specs.RunGenerated.{Rooms, run_generated}

-- lines of a table
abbrev set : ℕ → ℕ → List ℕ
set r v = 0 ∷ r ∷ v ∷ 0 ∷ 0 ∷ []

abbrev sub : ℕ → ℕ → ℕ → List ℕ
sub r s t = 3 ∷ r ∷ s ∷ t ∷ 0 ∷ []

abbrev load : ℕ → ℕ → List ℕ
load r x = 4 ∷ r ∷ x ∷ 0 ∷ 0 ∷ []

abbrev storer : ℕ → ℕ → List ℕ
storer x r = 5 ∷ x ∷ r ∷ 0 ∷ 0 ∷ []

abbrev storec : ℕ → ℕ → List ℕ
storec x v = 6 ∷ x ∷ v ∷ 0 ∷ 0 ∷ []

abbrev fence : List ℕ
fence = 7 ∷ 0 ∷ 0 ∷ 0 ∷ 0 ∷ []

abbrev cas : ℕ → ℕ → ℕ → ℕ → List ℕ
cas r x s t = 8 ∷ r ∷ x ∷ s ∷ t ∷ []

abbrev branch : ℕ → ℕ → List ℕ
branch r l = 9 ∷ r ∷ l ∷ 0 ∷ 0 ∷ []

abbrev jump : ℕ → List ℕ
jump l = 10 ∷ l ∷ 0 ∷ 0 ∷ 0 ∷ []

abbrev return : List ℕ
return = 11 ∷ 0 ∷ 0 ∷ 0 ∷ 0 ∷ []

pub data Question : Type 0 where
  -- number, place, nodes and edges of a thread's graph, with room for 20 nodes and 40 edges
  size : ℕ → List ℕ → Question
  -- record k of its nodes or of its edges
  node_record_of : ℕ → List ℕ → ℕ → Question
  edge_record_of : ℕ → List ℕ → ℕ → Question
  -- a run from all zeros with two threads: number, place, thread, steps; memory 0 and 1; registers 0, 1 and 2 of both threads; by the buffered run and then by the generated one
  run_of : ℕ → List ℕ → List ℕ → List ℕ → Question

abbrev pub node_room_of : ℕ
node_room_of = 20 * node_width

abbrev pub edge_room_of : ℕ
edge_room_of = 40 * edge_width

unfoldable pub start_of : ℕ → List ℕ → List ℕ → List ℕ → Start
start_of m t u schedule =
    record {
      model = m;
      count = 2;
      tables = t ∷ u ∷ [] ∷ [] ∷ [];
      memory = zeros variables;
      registers = zeros registers ∷ zeros registers ∷ zeros registers ∷ zeros registers ∷ [];
      schedule = schedule;
    }

unfoldable pub rooms_of : Rooms
rooms_of = record { nodes = node_room_of ∷ node_room_of ∷ 0 ∷ 0 ∷ []; edges = edge_room_of ∷ edge_room_of ∷ 0 ∷ 0 ∷ [] }

unfoldable pub seen_in : Ended → Shown → List ℕ
unfolding run_answer
seen_in e s =
    let a = run_answer e in
    let t0 : ShownThread = get_or s.threads 0 nobody in
    let t1 : ShownThread = get_or s.threads 1 nobody in
    a.number ∷ a.place ∷ a.thread ∷ a.steps ∷ take 2 s.memory ++ take 3 t0.registers ++ take 3 t1.registers

unfoldable pub answer : Question → List ℕ
unfolding build build_answer run_buffered run_generated start_of rooms_of seen_in
answer (size m t) = let a : BuildAnswer = build_answer (build m t node_room_of edge_room_of).answer in a.number ∷ a.place ∷ a.nodes ∷ a.edges ∷ []
answer (node_record_of m t k) = take node_width (drop (node_width * k) (build m t node_room_of edge_room_of).nodes)
answer (edge_record_of m t k) = take edge_width (drop (edge_width * k) (build m t node_room_of edge_room_of).edges)
answer (run_of m t u schedule) =
    let b = run_buffered (start_of m t u schedule) in
    let g = run_generated (start_of m t u schedule) rooms_of in
    seen_in b.ended b.state ++ seen_in g.ended g.state

pub record Case : Type 0 where
  pub question : Question
  pub right : List ℕ

abbrev is : Question → List ℕ → Case
is q n = record { question = q; right = n }

-- under both models
abbrev both : (ℕ → Question) → List ℕ → List Case
both q n = is (q 0) n ∷ is (q 1) n ∷ []

-- the same from both runs
abbrev twice : List ℕ → List ℕ
twice l = l ++ l

abbrev p1 : List ℕ
p1 = storec 0 1 ++ load 0 1 ++ return

abbrev p3 : List ℕ
p3 = storec 0 7 ++ storec 1 1 ++ return

abbrev p5 : List ℕ
p5 = storec 0 1 ++ load 0 0 ++ return

abbrev p8 : List ℕ
p8 = storec 0 1 ++ load 0 1 ++ branch 0 1 ++ return

abbrev p10 : List ℕ
p10 = load 0 1 ++ load 1 0 ++ return

-- P1 to P11
abbrev pub known : List Case
known =
    both (λ m. size m p1) (0 ∷ 0 ∷ 5 ∷ 5 ∷ [])
    ++ both (λ m. size m (storec 0 1 ++ return)) (0 ∷ 0 ∷ 3 ∷ 2 ∷ [])
    ++ is (size 0 p3) (0 ∷ 0 ∷ 6 ∷ 6 ∷ [])
    ∷ is (size 1 p3) (0 ∷ 0 ∷ 7 ∷ 8 ∷ [])
    ∷ both (λ m. size m p5) (0 ∷ 0 ∷ 5 ∷ 5 ∷ [])
    -- at node 1 the load is `take 0 0`
    ++ both (λ m. edge_record_of m p5 1) (1 ∷ 2 ∷ 5 ∷ 0 ∷ 0 ∷ 0 ∷ 0 ∷ [])
    ++ both (λ m. size m (storec 0 1 ++ fence ++ jump 0)) (0 ∷ 0 ∷ 4 ∷ 4 ∷ [])
    ++ both (λ m. size m (storec 0 1 ++ jump 0)) (10 ∷ 0 ∷ 0 ∷ 0 ∷ [])
    ++ is (size 0 p8) (0 ∷ 0 ∷ 7 ∷ 10 ∷ [])
    ∷ both (λ m. run_of m p1 (storec 1 1 ++ load 0 0 ++ return) (0 ∷ 0 ∷ 1 ∷ 0 ∷ 0 ∷ 0 ∷ 1 ∷ 0 ∷ [])) (twice (0 ∷ 0 ∷ 0 ∷ 4 ∷ 0 ∷ 0 ∷ 0 ∷ 0 ∷ 0 ∷ 0 ∷ 0 ∷ 0 ∷ []))
    ++ is (run_of 1 p3 p10 (0 ∷ 0 ∷ 0 ∷ 0 ∷ 0 ∷ 2 ∷ 1 ∷ 0 ∷ 1 ∷ 0 ∷ [])) (twice (0 ∷ 0 ∷ 0 ∷ 5 ∷ 0 ∷ 1 ∷ 0 ∷ 0 ∷ 0 ∷ 1 ∷ 0 ∷ 0 ∷ []))
    ∷ is (run_of 0 p3 p10 (0 ∷ 0 ∷ 0 ∷ 0 ∷ 0 ∷ 2 ∷ 1 ∷ 0 ∷ 1 ∷ 0 ∷ [])) (twice (15 ∷ 2 ∷ 0 ∷ 2 ∷ 0 ∷ 0 ∷ 0 ∷ 0 ∷ 0 ∷ 0 ∷ 0 ∷ 0 ∷ []))
    ∷ []

-- What the list above cannot tell apart, and "Slips to shut out".
abbrev pub slips : List Case
slips =
    -- PSO lists by variable: stores to 1 and then to 0
    is (node_record_of 1 (storec 1 1 ++ storec 0 1 ++ return) 2) (2 ∷ 2 ∷ 1 ∷ 0 ∷ zeros 14)
    ∷ is (node_record_of 0 (storec 1 1 ++ storec 0 1 ++ return) 2) (2 ∷ 2 ∷ 0 ∷ 1 ∷ zeros 14)
    -- a branch to its own next line: two edges to one node
    ∷ both (λ m. size m (branch 0 1 ++ return)) (0 ∷ 0 ∷ 2 ∷ 2 ∷ [])
    -- cas with equal numbers, from zeros: it succeeds, and writes memory from the register as it was
    ++ both (λ m. run_of m (cas 0 0 0 0 ++ return) return (0 ∷ 0 ∷ [])) (twice (0 ∷ 0 ∷ 0 ∷ 1 ∷ 0 ∷ 0 ∷ 1 ∷ 0 ∷ 0 ∷ 0 ∷ 0 ∷ 0 ∷ []))
    -- a difference with equal registers, and one below zero
    ++ both (λ m. run_of m (set 1 7 ++ sub 2 0 1 ++ sub 1 1 1 ++ return) return (0 ∷ 0 ∷ 0 ∷ 0 ∷ 0 ∷ 0 ∷ [])) (twice (0 ∷ 0 ∷ 0 ∷ 3 ∷ 0 ∷ 0 ∷ 0 ∷ 0 ∷ 4294967289 ∷ 0 ∷ 0 ∷ 0 ∷ []))
    -- the old value is put, not the register as it is then
    ++ both (λ m. run_of m (set 0 3 ++ storer 0 0 ++ set 0 5 ++ return) return (0 ∷ 0 ∷ 0 ∷ 0 ∷ 0 ∷ 0 ∷ 0 ∷ 1 ∷ [])) (twice (0 ∷ 0 ∷ 0 ∷ 4 ∷ 3 ∷ 0 ∷ 5 ∷ 0 ∷ 0 ∷ 0 ∷ 0 ∷ 0 ∷ []))
    -- the newest waiting value, not the oldest
    ++ both (λ m. run_of m (storec 0 1 ++ storec 0 2 ++ load 1 0 ++ return) return (0 ∷ 0 ∷ 0 ∷ 0 ∷ 0 ∷ 0 ∷ [])) (twice (0 ∷ 0 ∷ 0 ∷ 3 ∷ 0 ∷ 0 ∷ 0 ∷ 2 ∷ 0 ∷ 0 ∷ 0 ∷ 0 ∷ []))
    -- a failing cas needs the drain too
    ++ both (λ m. run_of m (set 1 9 ++ storec 0 1 ++ cas 0 1 1 1 ++ return) return (0 ∷ 0 ∷ 0 ∷ 0 ∷ 0 ∷ 0 ∷ [])) (twice (15 ∷ 2 ∷ 0 ∷ 2 ∷ 0 ∷ 0 ∷ 0 ∷ 9 ∷ 0 ∷ 0 ∷ 0 ∷ 0 ∷ []))
    ++ both (λ m. run_of m (set 1 9 ++ storec 0 1 ++ cas 0 1 1 1 ++ return) return (0 ∷ 0 ∷ 0 ∷ 0 ∷ 0 ∷ 1 ∷ 0 ∷ 0 ∷ [])) (twice (0 ∷ 0 ∷ 0 ∷ 4 ∷ 1 ∷ 0 ∷ 0 ∷ 9 ∷ 0 ∷ 0 ∷ 0 ∷ 0 ∷ []))
    -- a fence in one arm of a branch
    ++ both (λ m. size m (storec 0 1 ++ branch 0 3 ++ jump 0 ++ fence ++ jump 0)) (10 ∷ 0 ∷ 0 ∷ 0 ∷ [])
    -- a lone last number names no choice
    ++ both (λ m. run_of m p1 return (0 ∷ 0 ∷ 0 ∷ [])) (twice (15 ∷ 1 ∷ 0 ∷ 1 ∷ 0 ∷ 0 ∷ 0 ∷ 0 ∷ 0 ∷ 0 ∷ 0 ∷ 0 ∷ []))

abbrev pub question_of : Case → Question
question_of c = c.question

abbrev pub right_of : Case → List ℕ
right_of c = c.right
