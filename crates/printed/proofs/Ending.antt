-- How a page ends: the text and then zeros, or nothing but zeros.
use mathlib.Core.Path.{◌≡◌, sym, ap, ◌∙◌}
use mathlib.Core.Bool.{true, false}
use Prim.Native.Nat.{ℕ, ◌+◌, ◌≤◌, ◌<◌}
use native.Mathlib.Decide.{dec_lt}
use native.Mathlib.Omega.{arith}
use mathlib.Core.List.{List, ◌++◌}
use lib.ListN.{length, drop, length-append, length-drop}
use lib.Seq.{take-append_seam}
use Rattle.lists.proofs.Tests.{lt-true, lt-false, le-true, le-false}
use Rattle.thread.specs.Numbers.{zeros, filled}
use Rattle.bytes_out.specs.Page.{Page, page, puts, cleared}
use Rattle.bytes_out.proofs.Pages.{text-fits, text-over, puts-length}
use Rattle.std.specs.Prelude.{Ok, Err}
use Rattle.printed.specs.declared.PrintError.TheVariants as P
use Rattle.printed.specs.Printed.{print', fitted, printed}
use Rattle.printed.specs.Graph.{graph_text}
use Rattle.printed.specs.IsGraph.{is_graph}
use Rattle.printed.specs.Steps.{finished}

pub finish_over : (a : List ℕ) (at : ℕ) → length a < at → finished (page a at) ≡ print' (Err P.TooSmall) (zeros (length a))
unfolding finished
finish_over a at h = rw (lt-true (length a) at h)

pub finish_room : (a : List ℕ) (at : ℕ) → at ≤ length a → finished (page a at) ≡ print' (Ok at) (cleared a at)
unfolding finished
finish_room a at h = rw (lt-false (length a) at h)

filling : (a text : List ℕ) → length (text ++ drop (length text) a) ≡ length a → cleared (text ++ drop (length text) a) (length text) ≡ filled (length a) text
unfolding cleared filled
filling a text l = rw (l, take-append_seam text (drop (length text) a))

-- a text put on an empty page
pub finish_text : (a text : List ℕ) → finished (puts (page a 0) text) ≡ fitted (length a) text
unfolding fitted
finish_text a text = go (dec_lt (length a) (length text))
  where
    go : Dec (length a < length text) → finished (puts (page a 0) text) ≡ fitted (length a) text
    go (yes h) =
        let p : Page = puts (page a 0) text in
        let l : length p.area ≡ length a = puts-length (page a 0) text in
        let t : p.at ≡ length a + 1 = text-over a text h in
        finish_over p.area p.at (omega arith)
        ∙ ap (λ (n : ℕ). print' (Err P.TooSmall) (zeros n)) l
        ∙ sym (rw (le-false (length text) (length a) h))
    go (no h) =
        let s : length text ≤ length a = omega arith in
        let l : length (text ++ drop (length text) a) ≡ length a = simp (length-append, length-drop) (omega arith) in
        ap finished (text-fits a text s)
        ∙ finish_room (text ++ drop (length text) a) (length text) (omega arith)
        ∙ ap (print' (Ok (length text))) (filling a text l)
        ∙ sym (rw (le-true (length text) (length a) s))

module _ (model n m : ℕ) (nt et : List ℕ) (room : ℕ) where
  pub printed_graph : is_graph model n m nt et ≡ true → printed model n m nt et room ≡ fitted room (graph_text model n m nt et)
  unfolding printed
  printed_graph e = rw e

  pub printed_none : is_graph model n m nt et ≡ false → printed model n m nt et room ≡ print' (Err P.NotAGraph) (zeros room)
  unfolding printed
  printed_none e = rw e
