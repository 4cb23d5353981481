-- What the code shows of a generated thread, for every node table, any numbers.
use Rattle.runs.specs.Run.{Ended}
use Rattle.std.specs.Prelude.{cond, ℕ, ◌+◌, ◌*◌, ◌≤◌, List, [], length, get_or, ltb}
use Rattle.std.proofs.Math.Option.{some}
use Rattle.lists.specs.Lists.{collect}
use Rattle.thread.specs.Sizes.{node_width, most_waiting}
use Rattle.thread.specs.Numbers.{◌!◌}
use Rattle.thread.specs.Table.{line}
use Rattle.graphs.specs.Records.{node}
use Rattle.generated.specs.declared.Generated.{Generated}
use Rattle.shown.specs.declared.ThreadState.{ThreadState}
use Rattle.shown.specs.declared.Ran.{Ran}
use Rattle.shown.specs.Ran.{four, nobody_state}

-- store line i of the `count` that stand from a place on; 0 past those
abbrev pub name_at : List ℕ → ℕ → ℕ → ℕ → ℕ
name_at nodes start count i = cond (ltb i count) (nodes ! (start + i)) 0

-- the auxiliary value of that store line
abbrev pub value_at : List ℕ → List ℕ → ℕ → ℕ → ℕ → ℕ
value_at A nodes start count i = cond (ltb i count) (A ! (nodes ! (start + i))) 0

abbrev pub sixteen : (ℕ → ℕ) → List ℕ
sixteen f = collect (λ i. some (f i)) 0 most_waiting

unfoldable pub names : List ℕ → ℕ → ℕ → List ℕ
names nodes start count = sixteen (name_at nodes start count)

unfoldable pub values : List ℕ → List ℕ → ℕ → ℕ → List ℕ
values A nodes start count = sixteen (value_at A nodes start count)

-- line, count and store lines are read from the record of the thread's node
unfoldable pub state_at : List ℕ → Generated → ThreadState
unfolding names values
state_at nodes own =
    let at = node_width * own.node.0 in
    let count = nodes ! (at + 1) in
    record {
      line = line (nodes ! at);
      registers = own.registers;
      names = names nodes (at + 2) count;
      values = values own.auxiliaries nodes (at + 2) count;
      count = count;
    }

-- thread t, if it is present
unfoldable pub state_of : ℕ → ℕ → List ℕ → Generated → ThreadState
unfolding state_at
state_of threads t nodes own = cond (ltb t threads) (state_at nodes own) nobody_state

-- what stands past the end of a list of threads
abbrev pub no_thread : Generated
no_thread = record { node = node 0; registers = []; auxiliaries = [] }

-- the four threads, by the node table of each
abbrev pub four_states : ℕ → (ℕ → List ℕ) → List Generated → List ThreadState
four_states count nodes ts = four (λ t. state_of count t (nodes t) (get_or ts t no_thread))

abbrev pub ran_at : ℕ → (ℕ → List ℕ) → Ended → List ℕ → List Generated → Ran
ran_at count nodes ended memory ts = record { ended = ended; memory = memory; threads = four_states count nodes ts }

-- a record that is within the table, with no more store lines than it has places
pub record Readable (nodes : List ℕ) (own : Generated) : Type 0 where
  pub within : node_width * own.node.0 + node_width ≤ length nodes
  pub few : nodes ! (node_width * own.node.0 + 1) ≤ most_waiting
