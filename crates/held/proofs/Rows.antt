-- The rows of registers and of a few edges, and a local's memory as what is lent of it: edges in an array, and a machine.
use mathlib.Core.Path.{◌≡◌}
use Prim.Native.Nat.{ℕ, ◌*◌, ◌<◌, ◌^◌}
use native.Mathlib.Omega.{arith}
use mathlib.Core.List.{[], ◌∷◌, List}
use seplogic.Ra.Ura.{Ura}
use base.Fraction.{full_share}
use mir.Syntax.{Ty, erased, imm, w32, ty_ref, ty_array}
use mir.Val.{Val}
use base.Logic.{ent, sep}
use base.Fml.{fsep, fat}
use types.Logic.{Logic, sem}
use types.Kit.{‵, ◌$◌, ◌∵◌, !, qed, use1, fsplit, fjoin, fpick, fpack, done}
use types.Share.{arr_parts}
use denote.RattleType.{RattleType}
use denote.Laws.{Is, Tells, shows}
use denote.Memory.{mem, pointee, cell_at, part_at, part_of, shares}
use denote.Array.{Array, array_vals, Array-Tells}
use denote.ArrayMemory.{Array-apart, Array-whole}
use denote.Plain.{uint_vals, uint_Tells}
use denote.Builtin.{u32}
use denote.Slice.{slice_ty}
use denote.Steps.{only}
use denote.Struct.Steps.{spelt}
use denote.Struct.Laws as LL
use Rattle.graphs.specs.declared.Edge.{Edge}
use Rattle.held.specs.declared.Machine.{Machine}
use Rattle.graphs.specs.contracts.Edge as E
use Rattle.graphs.proofs.Edge.TheLaws as E'
use Rattle.held.specs.contracts.Machine as M
use Rattle.held.proofs.Machine.TheLaws as M'

-- ---- registers
abbrev pub Registers : RattleType
Registers = Array u32 16

abbrev pub rvs : List ℕ → List Val
rvs = array_vals (uint_vals w32)

abbrev pub rv : List ℕ → Val
rv rs = only (rvs rs)

pub rtells : Tells Registers (Is Registers) rvs
rtells = Array-Tells u32 (uint_vals w32) (uint_Tells w32) 16

-- ---- eight edges
abbrev pub Few : RattleType
Few = Array E.the_row 8

abbrev pub evs : List Edge → List Val
evs = array_vals (LL.vals E.the_type E'.the_laws)

abbrev pub ev : List Edge → Val
ev ys = only (evs ys)

pub etells : Tells Few (Is Few) evs
etells = Array-Tells E.the_row (LL.vals E.the_type E'.the_laws) (LL.tells E.the_type E'.the_laws) 8

-- the type of a slice of edges, as MIR has it in a local
abbrev pub slice_t : Ty
slice_t = slice_ty (ty_ref erased imm (pointee (E.the_row).written))

-- an edge takes 28 bytes
pub few-room : (l : ℕ) → l ≡ 8 → (l < 2 ^ 64) × (l * 28 < 2 ^ 63)
few-room l e = (omega arith, omega arith)

-- ---- a machine
abbrev pub mv : Machine → Val
mv = LL.val M.the_type M'.the_laws

module _ {Ω : Type 1} {𝓤 : Ura Ω} (𝓛 : Logic 𝓤) (l : ℕ) where
  -- a local that holds eight edges is the edges in memory, and back
  open 𝓛 use {H}

  pub few-lie : (ys : List Edge) → ent 𝓤 (sep 𝓤 (H.at full_share (ty_array E'.mir 8) l 0 (ev ys)) (sem 𝓛 (Few.own_val ys (evs ys)))) (sem 𝓛 ((arr_parts (shares E.the_row) 8).part full_share ys l 0))
  unfolding part_of
  few-lie ys =
      qed 𝓛 (‵ (fat full_share (ty_array E'.mir 8) l 0 (ev ys)) ∷ ‵ (Few.own_val ys (evs ys)) ∷ []) ∵ use1 𝓛 (‵ (cell_at full_share Few.mir (evs ys) l 0)) (𝓛.laws.at_raw full_share (ty_array E'.mir 8) l 0 (ev ys)) $
      fjoin ! $ fpack ! (List Val) (λ vs. fsep (cell_at full_share Few.mir vs l 0) (Few.own_val ys vs)) (evs ys) $ use1 𝓛 (‵ ((arr_parts (shares E.the_row) 8).part full_share ys l 0)) (Array-apart 𝓛 E.the_row full_share tt 8 ys l 0) $ done !

  pub few-back : (ys : List Edge) → ent 𝓤 (sem 𝓛 ((arr_parts (shares E.the_row) 8).part full_share ys l 0)) (sep 𝓤 (H.at full_share (ty_array E'.mir 8) l 0 (ev ys)) (sem 𝓛 (Few.own_val ys (evs ys))))
  unfolding part_of
  few-back ys =
      qed 𝓛 (‵ ((arr_parts (shares E.the_row) 8).part full_share ys l 0) ∷ []) ∵ use1 𝓛 (‵ (part_at Few full_share ys l 0)) (Array-whole 𝓛 E.the_row full_share 8 ys l 0) $ fpick ! (λ vs. fsplit ! $
      spelt ! Few (Is Few) (shows 𝓛 Few) evs etells full_share ys vs l 0 $ use1 𝓛 (‵ (fat full_share (ty_array E'.mir 8) l 0 (ev ys))) (𝓛.laws.raw_at full_share (ty_array E'.mir 8) l 0 (ev ys)) $ done !)

  -- a local that holds a machine is the machine in memory, and back
  pub machine-lies : (h : Machine) → ent 𝓤 (sep 𝓤 (H.at full_share M'.mir l 0 (mv h)) (sem 𝓛 ((M.the_row).own_val h (mv h ∷ [])))) (sem 𝓛 ((mem M.the_row).own_at h l 0))
  unfolding part_of
  machine-lies h =
      qed 𝓛 (‵ (fat full_share M'.mir l 0 (mv h)) ∷ ‵ ((M.the_row).own_val h (mv h ∷ [])) ∷ []) ∵ use1 𝓛 (‵ (cell_at full_share (M.the_row).mir (mv h ∷ []) l 0)) (𝓛.laws.at_raw full_share M'.mir l 0 (mv h)) $
      fjoin ! $ fpack ! (List Val) (λ vs. fsep (cell_at full_share (M.the_row).mir vs l 0) ((M.the_row).own_val h vs)) (mv h ∷ []) $ done !

  pub machine-back : (h : Machine) → ent 𝓤 (sem 𝓛 ((mem M.the_row).own_at h l 0)) (sep 𝓤 (H.at full_share M'.mir l 0 (mv h)) (sem 𝓛 ((M.the_row).own_val h (mv h ∷ []))))
  unfolding part_of
  machine-back h =
      qed 𝓛 (‵ ((mem M.the_row).own_at h l 0) ∷ []) ∵ fpick ! (λ vs. fsplit ! $ spelt ! M.the_row (Is M.the_row) (shows 𝓛 M.the_row) (LL.vals M.the_type M'.the_laws) (LL.tells M.the_type M'.the_laws) full_share h vs l 0 $
      use1 𝓛 (‵ (fat full_share M'.mir l 0 (mv h))) (𝓛.laws.raw_at full_share M'.mir l 0 (mv h)) $ done !)
