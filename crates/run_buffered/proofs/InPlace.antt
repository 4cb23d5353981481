-- The flat lists: a turn writes the numbers of one thread and leaves those of the others.
use mathlib.Core.Path.{◌≡◌, sym, ap, ◌∙◌}
use mathlib.Core.Logic.{◌≢◌}
use mathlib.Core.Bool.{true, false}
use mathlib.Core.Option
use mathlib.Core.Option.{none, some}
use Prim.Native.Nat.{ℕ, ◌*◌, ◌<◌}
use native.Mathlib.Omega.{arith}
use mathlib.Core.List.{List}
use lib.ListN.{length, set}
use lib.Seq.{get_or-set_same, get_or-set_other}
use borrow.Rule.Slice.PartMut.{put_mid, mid_of, put_same}
use Rattle.std.specs.Prelude as Std
use Rattle.std.specs.Prelude.{Some, None}
use Rattle.thread.specs.declared.Line.{Line}
use Rattle.thread.specs.declared.Model.{Model}
use Rattle.thread.specs.declared.Instr.{Instr}
use Rattle.thread.specs.Numbers.{◌!◌}
use Rattle.thread.specs.Table.{line}
use Rattle.shown.specs.declared.ThreadState.{ThreadState}
use Rattle.shown.proofs.Copying.{cut-length}
use Rattle.shown.proofs.Parts.{part-own, part-other, lent_length, set-four}
use Rattle.buffer.specs.declared.Moved.{Moved}
use Rattle.buffer.specs.declared.Turned.{Turned}
use Rattle.chosen.specs.Decide.{thread_of}
use Rattle.buffer.specs.States.{Left, left, left_by}
use Rattle.buffer.specs.Step.{stepped, turned}
use Rattle.buffer.proofs.Cases.{left-none, left-some, turned-step}
use Rattle.run_buffered.specs.declared.Flat.{Flat}
use Rattle.run_buffered.specs.Flat.{thread_in, threads_in, all_in, after_step, TurnIs}

-- room for four threads
pub record Sized (f : Flat) : Type 0 where
  pub lines : length f.lines ≡ 4
  pub counts : length f.counts ≡ 4
  pub registers : length f.registers ≡ 64
  pub names : length f.names ≡ 64
  pub values : length f.values ≡ 64

-- the flat lists after a turn of thread t, whose parts were lent k wide
abbrev pub turned_flat : ℕ → Flat → ℕ → List ℕ → ThreadState → Flat
turned_flat k f t M c =
    record {
      memory = M;
      lines = set f.lines t c.line.0;
      counts = set f.counts t c.count;
      registers = put_mid (16 * t) k f.registers c.registers;
      names = put_mid (16 * t) k f.names c.names;
      values = put_mid (16 * t) k f.values c.values;
    }

module _ (f : Flat) (z : Sized f) (t : ℕ) (h : t < 4) (M : List ℕ) (c : ThreadState)
    (rs : length c.registers ≡ 16) (xs : length c.names ≡ 16) (vs : length c.values ≡ 16) where
  own-turned : thread_in (turned_flat 16 f t M c) t ≡ c
  own-turned =
      let l = get_or-set_same f.lines t c.line.0 0 (omega (arith, z.lines)) in
      let n = get_or-set_same f.counts t c.count 0 (omega (arith, z.counts)) in
      let r = part-own 16 (16 * t) f.registers c.registers rs (omega (arith, z.registers)) in
      let x = part-own 16 (16 * t) f.names c.names xs (omega (arith, z.names)) in
      let v = part-own 16 (16 * t) f.values c.values vs (omega (arith, z.values)) in
      λ i. thread_of (line (l i)) (n i) (r i) (x i) (v i)

  others-turned : (u : ℕ) → u ≢ t → thread_in (turned_flat 16 f t M c) u ≡ thread_in f u
  others-turned u e =
      let l = get_or-set_other f.lines t u c.line.0 0 e in
      let n = get_or-set_other f.counts t u c.count 0 e in
      let r = part-other 16 t f.registers c.registers rs (omega (arith, z.registers)) u e in
      let x = part-other 16 t f.names c.names xs (omega (arith, z.names)) u e in
      let v = part-other 16 t f.values c.values vs (omega (arith, z.values)) u e in
      λ i. thread_of (line (l i)) (n i) (r i) (x i) (v i)

  -- a turn in place sets thread t and no other
  pub threads-turned : threads_in (turned_flat 16 f t M c) ≡ set (threads_in f) t c
  threads-turned = set-four (thread_in f) (thread_in (turned_flat 16 f t M c)) t c h own-turned others-turned

-- the numbers of thread t as they are lent, k wide
abbrev lent_thread : ℕ → Flat → ℕ → ThreadState
lent_thread k f t =
    thread_of (line (f.lines ! t)) (f.counts ! t) (mid_of (16 * t) k f.registers) (mid_of (16 * t) k f.names) (mid_of (16 * t) k f.values)

module _ (f : Flat) (z : Sized f) (t : ℕ) (h : t < 4) (k : ℕ) (sixteen : k ≡ 16) (m : Model) (i : Instr) (choice : ℕ) where
  abbrev M : List ℕ
  M = f.memory

  back-length : (l ys : List ℕ) → length l ≡ 64 → length ys ≡ length (mid_of (16 * t) k l) → length ys ≡ 16
  back-length l ys e g = lent_length 16 (16 * t) k l ys sixteen (omega arith) g

  -- the step of thread t, whose numbers are lent
  lent-step : stepped m i choice M (thread_in f t) ≡ turned m i choice M (lent_thread k f t)
  lent-step =
      turned-step m i choice M (thread_in f t) (cut-length f.names t (omega (arith, z.names))) (cut-length f.values t (omega (arith, z.values)))
      ∙ ap (λ (n : ℕ). turned m i choice M (lent_thread n f t)) (sym sixteen)

  module _ (M' regs names values : List ℕ) where
    -- the flat lists, to which the lent parts come back
    abbrev back : Line → ℕ → Flat
    back l n = turned_flat k f t M' (thread_of l n regs names values)

    -- a step in the lent parts is a turn in place
    turn-taken : (n : Turned) → left (Some n) M' regs names values ≡ left_by (turned m i choice M (lent_thread k f t)) M (lent_thread k f t)
        → length regs ≡ length (mid_of (16 * t) k f.registers)
        → length names ≡ length (mid_of (16 * t) k f.names)
        → length values ≡ length (mid_of (16 * t) k f.values)
        → TurnIs m i t choice f true (back n.line n.count)
    turn-taken n e rs xs vs =
        let own : ThreadState = thread_of n.line n.count regs names values in
        let is = lent-step ∙ left-some M (lent_thread k f t) M' regs names values (turned m i choice M (lent_thread k f t)) n e in
        let set_own : threads_in (turned_flat 16 f t M' own) ≡ set (threads_in f) t own =
        threads-turned f z t h M' own (back-length f.registers regs z.registers rs) (back-length f.names names z.names xs) (back-length f.values values z.values vs) in
        let all_own = ap (λ (n : ℕ). threads_in (turned_flat n f t M' own)) sixteen ∙ set_own in
        ap (Option.map (after_step f t)) is ∙ (λ j. some (record { memory = M'; threads = sym all_own j }))

    -- where there is no step the parts come back as they were lent
    pub turn-missing : left None M' regs names values ≡ left_by (turned m i choice M (lent_thread k f t)) M (lent_thread k f t)
        → TurnIs m i t choice f false (record f { memory = M'; registers = put_mid (16 * t) k f.registers regs; names = put_mid (16 * t) k f.names names; values = put_mid (16 * t) k f.values values })
    turn-missing e =
        let no = left-none M (lent_thread k f t) M' regs names values (turned m i choice M (lent_thread k f t)) e in
        let same = e ∙ ap (λ (o : Option.Option Moved). left_by o M (lent_thread k f t)) no in
        let put : List ℕ → List ℕ → List ℕ = put_mid (16 * t) k in
        let r = ap (λ (l : Left). put f.registers l.registers) same ∙ put_same (16 * t) k f.registers in
        let x = ap (λ (l : Left). put f.names l.names) same ∙ put_same (16 * t) k f.names in
        let v = ap (λ (l : Left). put f.values l.values) same ∙ put_same (16 * t) k f.values in
        (ap (Option.map (after_step f t)) (lent-step ∙ no), λ j. all_in (record f { memory = (same j).memory; registers = r j; names = x j; values = v j }))

    -- the flat lists after a turn, by its answer
    abbrev pub left_in : Std.Option Turned → Flat
    left_in None = record f { memory = M'; registers = put_mid (16 * t) k f.registers regs; names = put_mid (16 * t) k f.names names; values = put_mid (16 * t) k f.values values }
    left_in (Some n) = back n.line n.count

    -- a turn of the lent parts is a turn in place, whether it has a step or none
    pub turn-in-place : (r : Std.Option Turned) → left r M' regs names values ≡ left_by (turned m i choice M (lent_thread k f t)) M (lent_thread k f t)
        → length regs ≡ length (mid_of (16 * t) k f.registers)
        → length names ≡ length (mid_of (16 * t) k f.names)
        → length values ≡ length (mid_of (16 * t) k f.values)
        → TurnIs m i t choice f (Std.is_some r) (left_in r)
    turn-in-place None e rs xs vs = turn-missing e
    turn-in-place (Some n) e rs xs vs = turn-taken n e rs xs vs
