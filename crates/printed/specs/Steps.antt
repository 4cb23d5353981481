-- What the functions that print do on the way: the edges of one node in one go, and the end of a page.
use Rattle.std.specs.Prelude.{cond, ℕ, suc, List, [], ◌∷◌, length, eqb, ltb, Ok, Err}
use Rattle.thread.specs.Numbers.{zeros}
use Rattle.bytes_out.specs.Page.{Page, cleared}
use Rattle.printed.specs.declared.PrintError.TheVariants as P
use Rattle.printed.specs.Graph.{from_of}
use Rattle.printed.specs.Printed.{Print, print'}

-- how many of the edges js, one after the other, leave node k
unfoldable pub run_length : List ℕ → ℕ → List ℕ → ℕ
run_length t k [] = 0
run_length t k (j ∷ js) = cond (eqb (from_of t j) k) (suc (run_length t k js)) 0

-- a page that lost a byte is too small
unfoldable pub finished : Page → Print
unfolding cleared
finished p = cond (ltb (length p.area) p.at) (print' (Err P.TooSmall) (zeros (length p.area))) (print' (Ok p.at) (cleared p.area p.at))
