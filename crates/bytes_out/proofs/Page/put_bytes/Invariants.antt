-- What is left to put, put on the page so far, makes the page that all bytes make.
use mathlib.Core.Path.{◌≡◌}
use lib.ListN.{drop}
use Rattle.bytes_out.specs.Page.{puts}
use Rattle.bytes_out.specs.Lent.{page_of}
use Rattle.bytes_out.proofs.Page.put_bytes.Given as goal

abbrev pub invariant-loop-byte : goal.invariant-loop-byte
invariant-loop-byte l =
    (l.self.area.ghost_name ≡ l.initial.self.area.ghost_name) × (puts (page_of l.self) (drop l.byte-index l.bytes) ≡ puts (page_of l.initial.self) l.bytes)
