-- What lent slices hold.
use denote.Ref.{Bor}
use Rattle.std.specs.Prelude.{ℕ, List, map}

abbrev pub contents : List (Bor (List ℕ)) → List (List ℕ)
contents slices = map (λ s. s.now) slices
