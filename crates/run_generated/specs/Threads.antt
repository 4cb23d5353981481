-- The start of four generated threads.
use Rattle.std.specs.Prelude.{ℕ, List}
use Rattle.thread.specs.Sizes.{most_lines}
use Rattle.thread.specs.Numbers.{zeros}
use Rattle.graphs.specs.Records.{node}
use Rattle.generated.specs.declared.Generated.{Generated}
use Rattle.shown.specs.Ran.{four, cut}

-- "Every store line l owns one auxiliary value, 0 at start"
abbrev pub start_one : List ℕ → ℕ → Generated
start_one all t = record { node = node 0; registers = cut all t; auxiliaries = zeros most_lines }

abbrev pub start_four : List ℕ → List Generated
start_four all = four (start_one all)
