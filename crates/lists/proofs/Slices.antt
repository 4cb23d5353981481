-- Each of some lent slices holds what stands at its place of their contents.
use mathlib.Core.Path.{◌≡◌, refl}
use mathlib.Core.List.{List, [], ◌∷◌}
use Prim.Native.Nat.{ℕ, zero, suc}
use lib.ListN.{get_or}
use denote.Ref.{Bor}
use Rattle.lists.specs.Slices.{contents}

pub content-at : (slices : List (Bor (List ℕ))) (t : ℕ) (none : Bor (List ℕ)) → none.now ≡ [] → (get_or slices t none).now ≡ get_or (contents slices) t []
content-at [] t none e = e
content-at (s ∷ ss) zero none e = refl
content-at (s ∷ ss) (suc t) none e = content-at ss t none e
