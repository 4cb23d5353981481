-- `show` reads each thread by the table at its place.
use mathlib.Core.Path.{◌≡◌, refl}
use mathlib.Core.List.{[]}
use Prim.Native.Nat.{ℕ}
use lib.ListN.{get_or}
use Rattle.lists.specs.Slices.{contents}
use Rattle.lists.proofs.Slices.{content-at}
use Rattle.states.proofs.show.Goals as goal

pub returns : goal.returns
returns c =
    let at : (t : ℕ) → (get_or c.args.tables.now t (record { ref_ptr = (0, 0); now = [] })).now ≡ get_or (contents c.args.tables.now) t [] = λ t. content-at c.args.tables.now t (record { ref_ptr = (0, 0); now = [] }) refl in
    rw (← at 0, ← at 1, ← at 2, ← at 3, ← c.state_of-first.ensures, ← c.state_of-second.ensures, ← c.state_of-third.ensures, ← c.state_of-fourth.ensures) refl
