-- `turn` meets its contract: the step of a thread that is there, by its own table.
use mathlib.Core.Path.{◌≡◌, sym}
use mathlib.Core.List.{List, []}
use Prim.Native.Nat.{ℕ}
use denote.Ref.{Bor}
use lib.ListN.{get_or-map}
use Rattle.lists.specs.Slices.{contents}
use Rattle.flat.specs.Flat.{threads_in}
use Rattle.flat.proofs.Laws.{turn-absent, turn-past, turn-taken}
use Rattle.flat.proofs.Flat.turn.Goals as goal

pub returns-then-threads-t : goal.returns-then-threads-t
returns-then-threads-t c =
    let f = c.args.self.now in
    turn-absent (contents c.args.tables.now) c.args.threads c.args.t c.args.choice f.memory f.nodes f.registers f.auxiliaries c.if-threads-t.true

pub returns-then-t-ge-MOST_THREADS : goal.returns-then-t-ge-MOST_THREADS
returns-then-t-ge-MOST_THREADS c =
    let f = c.args.self.now in
    turn-past (contents c.args.tables.now) c.args.threads c.args.t c.args.choice f.memory f.nodes f.registers f.auxiliaries c.if-t-ge-MOST_THREADS.true

pub returns : goal.returns
returns c =
    let f = c.args.self.now in
    let table = sym (get_or-map (λ (x : Bor (List ℕ)). x.now) c.args.tables.now c.args.t (record { ref_ptr = (0, 0); now = [] })) in
    turn-taken (contents c.args.tables.now) c.args.threads c.args.t c.args.choice f.memory f.nodes f.registers f.auxiliaries c.if-threads-t.false c.if-t-ge-MOST_THREADS.false _ _ _ (rw table at c.turn_at.ensures)
