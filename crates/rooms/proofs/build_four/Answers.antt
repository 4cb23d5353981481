-- `build_four` builds in order, up to the first thread that is refused.
use mathlib.Core.Path.{sym, ◌∙◌}
use mathlib.Core.List.{List, [], ◌∷◌}
use Prim.Native.Nat.{ℕ}
use Rattle.lists.specs.Slices.{contents}
use Rattle.std.proofs.lemmas.Result.{err_from_is_err_and}
use Rattle.graphs.specs.Build.{Result}
use Rattle.generated.specs.RunGenerated.{Rooms}
use Rattle.rooms.specs.Graphs.{rooms_of, made_for, edge_count}
use Rattle.room.proofs.Laws.{same-four}
use Rattle.rooms.proofs.Rooms.{edges-ok, edges-err, stop-0, stop-1, stop-2, stop-3, no_stop, bad-count, threads-first}
use Rattle.rooms.proofs.build_four.Goals as goal

pub returns-then-bad_threads : goal.returns-then-bad_threads
returns-then-bad_threads c =
    let a = c.args in
    let tables : List (List ℕ) = contents a.tables.now in
    let rooms : Rooms = rooms_of (a.n0.now ∷ a.n1.now ∷ a.n2.now ∷ a.n3.now ∷ []) (a.e0.now ∷ a.e1.now ∷ a.e2.now ∷ a.e3.now ∷ []) in
    bad-count a.model a.count tables rooms (sym c.bad_threads.ensures ∙ c.if-bad_threads.true)

pub returns-in_err-a : goal.returns-in_err-a
returns-in_err-a c =
    let a = c.args in
    let tables : List (List ℕ) = contents a.tables.now in
    let rooms : Rooms = rooms_of (a.n0.now ∷ a.n1.now ∷ a.n2.now ∷ a.n3.now ∷ []) (a.e0.now ∷ a.e1.now ∷ a.e2.now ∷ a.e3.now ∷ []) in
    let r : ℕ → Result = made_for a.model a.count tables rooms in
    let few = threads-first a.model a.count tables rooms (sym c.bad_threads.ensures ∙ c.if-bad_threads.false) in
    let p = err_from_is_err_and c.from_residual.result c.from_residual.ensures.1 in
    let q = edges-err 0 (r 0).answer c.in_err-a.field-0.0 c.in_err-a.ensures.answer in
    rw (p.1, p.2) (few ∙ stop-0 r q.0 q.1 ∙ q.2)

pub returns-in_err-b : goal.returns-in_err-b
returns-in_err-b c =
    let a = c.args in
    let tables : List (List ℕ) = contents a.tables.now in
    let rooms : Rooms = rooms_of (a.n0.now ∷ a.n1.now ∷ a.n2.now ∷ a.n3.now ∷ []) (a.e0.now ∷ a.e1.now ∷ a.e2.now ∷ a.e3.now ∷ []) in
    let r : ℕ → Result = made_for a.model a.count tables rooms in
    let few = threads-first a.model a.count tables rooms (sym c.bad_threads.ensures ∙ c.if-bad_threads.false) in
    let p = err_from_is_err_and c.from_residual-in_err-b.result c.from_residual-in_err-b.ensures.1 in
    let q = edges-err 1 (r 1).answer c.in_err-b.field-0.0 c.in_err-b.ensures.answer in
    rw (p.1, p.2) (few ∙ stop-1 r q.0 (edges-ok 0 (r 0).answer c.in_ok-a.a c.in_ok-a.ensures.answer).0 q.1 ∙ q.2)

pub returns-in_err-c : goal.returns-in_err-c
returns-in_err-c c =
    let a = c.args in
    let tables : List (List ℕ) = contents a.tables.now in
    let rooms : Rooms = rooms_of (a.n0.now ∷ a.n1.now ∷ a.n2.now ∷ a.n3.now ∷ []) (a.e0.now ∷ a.e1.now ∷ a.e2.now ∷ a.e3.now ∷ []) in
    let r : ℕ → Result = made_for a.model a.count tables rooms in
    let few = threads-first a.model a.count tables rooms (sym c.bad_threads.ensures ∙ c.if-bad_threads.false) in
    let p = err_from_is_err_and c.from_residual-in_err-c.result c.from_residual-in_err-c.ensures.1 in
    let q = edges-err 2 (r 2).answer c.in_err-c.field-0.0 c.in_err-c.ensures.answer in
    rw (p.1, p.2) (few ∙ stop-2 r q.0 (edges-ok 0 (r 0).answer c.in_ok-a.a c.in_ok-a.ensures.answer).0 (edges-ok 1 (r 1).answer c.in_ok-b.b c.in_ok-b.ensures.answer).0 q.1 ∙ q.2)

pub returns-in_err-d : goal.returns-in_err-d
returns-in_err-d c =
    let a = c.args in
    let tables : List (List ℕ) = contents a.tables.now in
    let rooms : Rooms = rooms_of (a.n0.now ∷ a.n1.now ∷ a.n2.now ∷ a.n3.now ∷ []) (a.e0.now ∷ a.e1.now ∷ a.e2.now ∷ a.e3.now ∷ []) in
    let r : ℕ → Result = made_for a.model a.count tables rooms in
    let few = threads-first a.model a.count tables rooms (sym c.bad_threads.ensures ∙ c.if-bad_threads.false) in
    let p = err_from_is_err_and c.from_residual-in_err-d.result c.from_residual-in_err-d.ensures.1 in
    let q = edges-err 3 (r 3).answer c.in_err-d.field-0.0 c.in_err-d.ensures.answer in
    rw (p.1, p.2) (few ∙ stop-3 r q.0 (edges-ok 0 (r 0).answer c.in_ok-a.a c.in_ok-a.ensures.answer).0 (edges-ok 1 (r 1).answer c.in_ok-b.b c.in_ok-b.ensures.answer).0 (edges-ok 2 (r 2).answer c.in_ok-c.c c.in_ok-c.ensures.answer).0 q.1 ∙ q.2)

pub returns : goal.returns
returns c =
    let a = c.args in
    let tables : List (List ℕ) = contents a.tables.now in
    let rooms : Rooms = rooms_of (a.n0.now ∷ a.n1.now ∷ a.n2.now ∷ a.n3.now ∷ []) (a.e0.now ∷ a.e1.now ∷ a.e2.now ∷ a.e3.now ∷ []) in
    let r : ℕ → Result = made_for a.model a.count tables rooms in
    let few = threads-first a.model a.count tables rooms (sym c.bad_threads.ensures ∙ c.if-bad_threads.false) in
    let made0 = edges-ok 0 (r 0).answer c.in_ok-a.a c.in_ok-a.ensures.answer in
    let made1 = edges-ok 1 (r 1).answer c.in_ok-b.b c.in_ok-b.ensures.answer in
    let made2 = edges-ok 2 (r 2).answer c.in_ok-c.c c.in_ok-c.ensures.answer in
    let made3 = edges-ok 3 (r 3).answer c.in_ok-d.d c.in_ok-d.ensures.answer in
    record {
      fine = few ∙ no_stop r made0.0 made1.0 made2.0 made3.0;
      nodes = same-four (λ t. (r t).nodes) c.build_thread.ensures.nodes c.build_thread-2.ensures.nodes c.build_thread-3.ensures.nodes c.build_thread-4.ensures.nodes;
      edges = same-four (λ t. (r t).edges) c.build_thread.ensures.edges c.build_thread-2.ensures.edges c.build_thread-3.ensures.edges c.build_thread-4.ensures.edges;
      counts = same-four (λ t. edge_count (r t)) made0.1 made1.1 made2.1 made3.1;
    }
