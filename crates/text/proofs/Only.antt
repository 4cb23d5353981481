-- The promise settles everything: any two results that satisfy it are equal.
use mathlib.Core.Path.{◌≡◌, sym, ◌∙◌}
use Prim.Native.Nat.{ℕ}
use mathlib.Core.List.{List}
use Rattle.text.specs.Read.{Reading, ReadOk}

pub only : (room : ℕ) (text : List ℕ) (r s : Reading) (t u : List ℕ) → ReadOk room text r t → ReadOk room text s u → (r ≡ s) × (t ≡ u)
only room text r s t u a b = (a.answered ∙ sym b.answered, a.left ∙ sym b.left)
