-- Nothing is left open: two results that keep the promise are equal, what is printed and every table.
use mathlib.Core.Path.{◌≡◌, ap}
use mathlib.Core.List.{List}
use Prim.Native.Nat.{ℕ}
use Rattle.lists.proofs.Only.{only as equals}
use Rattle.printed.specs.Printed.{Answer, print'}
use Rattle.show.specs.Show.{Screen, TextShown}

module _ (text : List ℕ) (table_room node_room edge_room room : ℕ) where
  pub only : (r r₂ : Answer) (t t₂ n n₂ e e₂ a a₂ : List ℕ) → TextShown text table_room node_room edge_room room r t n e a → TextShown text table_room node_room edge_room room r₂ t₂ n₂ e₂ a₂
      → (r ≡ r₂) × (t ≡ t₂) × (n ≡ n₂) × (e ≡ e₂) × (a ≡ a₂)
  only r r₂ t t₂ n n₂ e e₂ a a₂ p q =
      let first : Screen = record { print = print' r a; nodes = n; edges = e } in
      let second : Screen = record { print = print' r₂ a₂; nodes = n₂; edges = e₂ } in
      let same : first ≡ second = equals first second p.screen q.screen in (
        ap (λ (s : Screen). s.print.answer) same,
        equals t t₂ p.left q.left,
        ap (λ (s : Screen). s.nodes) same,
        ap (λ (s : Screen). s.edges) same,
        ap (λ (s : Screen). s.print.area) same,
      )
