-- `show_thread` cuts a thread out of the flat lists.
use mathlib.Core.Path.{◌∙◌}
use native.Mathlib.Omega.{arith}
use Rattle.lists.proofs.Tests.{lt-true}
use Rattle.thread.specs.Numbers.{◌!◌}
use Rattle.thread.specs.Table.{line}
use Rattle.shown.proofs.Copying.{part_cut}
use Rattle.chosen.specs.Decide.{thread_of}
use Rattle.run_buffered.proofs.Flat.show_thread.Goals as goal

pub returns : goal.returns
returns c =
    let a = c.args in
    let f = a.self.now in
    let p = c.part.ensures ∙ part_cut f.registers a.t (omega arith) in
    let q = c.part-2.ensures ∙ part_cut f.names a.t (omega arith) in
    let r = c.part-3.ensures ∙ part_cut f.values a.t (omega arith) in
    rw (lt-true a.t a.threads c.if-threads-t.false) (λ i. thread_of (line (f.lines ! a.t)) (f.counts ! a.t) (p i) (q i) (r i))
