-- What printing answers, and what it leaves in the lent area.
use Rattle.std.specs.Prelude.{cond, ℕ, List, length, leb, Result, Ok, Err}
use Rattle.thread.specs.Numbers.{zeros, filled}
use Rattle.printed.specs.declared.PrintError.{PrintError}
use Rattle.printed.specs.declared.PrintError.TheVariants as P
use Rattle.printed.specs.Graph.{graph_text, refusal_text}
use Rattle.printed.specs.IsGraph.{is_graph}

-- the length of the text, or why there is none
abbrev pub Answer : Type 0
Answer = Result ℕ PrintError

pub record Print : Type 0 where
  pub answer : Answer
  pub area : List ℕ

abbrev pub print' : Answer → List ℕ → Print
print' answer area = record { answer = answer; area = area }

-- the area is the text and then zeros, or all zeros where it is too small for the text
unfoldable pub fitted : ℕ → List ℕ → Print
unfolding filled
fitted room text = cond (leb (length text) room) (print' (Ok (length text)) (filled room text)) (print' (Err P.TooSmall) (zeros room))

unfoldable pub printed : ℕ → ℕ → ℕ → List ℕ → List ℕ → ℕ → Print
unfolding fitted graph_text is_graph
printed model n m nt et room = cond (is_graph model n m nt et) (fitted room (graph_text model n m nt et)) (print' (Err P.NotAGraph) (zeros room))

unfoldable pub printed_refusal : ℕ → ℕ → ℕ → Print
unfolding fitted refusal_text
printed_refusal number place room = fitted room (refusal_text number place)
