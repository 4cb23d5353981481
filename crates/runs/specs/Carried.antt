-- "can carry it out": where items lead that are carried out one after the other, for items of any kind.
use Rattle.std.specs.Prelude.{◌≡◌, List, [], ◌∷◌}
use Rattle.std.proofs.Math.Option.{Option, some}

module _ {I W : Type 0} (move : I → W → Option W) where
  -- the items can be carried out in this order from w on, and lead to e
  abbrev pub CarriedOut : List I → W → W → Type 0
  CarriedOut [] w e = w ≡ e
  CarriedOut (k ∷ ks) w e = (x : W) × (move k w ≡ some x) × CarriedOut ks x e

  -- some items lead from w to e
  abbrev pub Reaches : W → W → Type 0
  Reaches w e = (ks : List I) × CarriedOut ks w e
