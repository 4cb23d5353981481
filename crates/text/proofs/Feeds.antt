-- Laws of a text cut at its line feeds: the line that `split_inclusive` gives next, and what it still has ahead of it.
use mathlib.Core.Path.{◌≡◌, sym, ap, ◌∙◌}
use mathlib.Core.Bool.{Bool}
use mathlib.Core.List.{List, [], ◌∷◌, ◌++◌}
use Prim.Native.Nat.{ℕ, suc, ◌+◌, ◌<◌, min}
use native.Mathlib.Omega.{arith}
use native.Mathlib.Decide.{dec_lt}
use lib.Dec.{eqb}
use lib.ListN.{length, get_or, take, drop}
use borrow.Author.Tests.{eqb-true}
use Rattle.std.specs.List.{IsFirstMatchOrLen}
use Rattle.std.proofs.Math.Seq.{take-suc, drop-append_seam}
use Rattle.std.proofs.lemmas.Grind.{common_steps}
use Rattle.std.proofs.lemmas.List.{nil_from_length, append-nil, length-append}
use Rattle.std.proofs.lemmas.List.Sums.{position_or_len_is}
use Rattle.text.specs.Written.{feed}
use Rattle.text.specs.Reading.{text_lines}
use Rattle.text.specs.Steps.{run}
use Rattle.text.proofs.Lines.{lines_cut, lines_end}

abbrev pub at_feed : ℕ → Bool
at_feed b = eqb b feed

-- a line that is cut off in front, which ends behind the first line feed or where the text ends
module _ (text line rest : List ℕ) (is : text ≡ line ++ rest) (some : 0 < length text) where
  whole : length line ≡ length text → length rest ≡ 0
  whole e = omega (arith, ap length is, length-append line rest)

  pub next-line : (i : ℕ) → length line ≡ min (i + 1) (length text) → IsFirstMatchOrLen at_feed text i → text_lines text ≡ line ∷ text_lines rest
  unfolding run text_lines
  next-line i n h = go (dec_lt i (length text))
    where
      go : Dec (i < length text) → text_lines text ≡ line ∷ text_lines rest
      go (yes l) =
          let r : run feed text ≡ i = position_or_len_is at_feed text i 0 (omega arith) (λ k m. h.0 k 0 (omega arith) m) (λ m. h.1 m 0) in
          let s : length line ≡ suc i = omega arith in
          let b : get_or text i 0 ≡ feed = eqb-true (get_or text i 0) feed (h.1 l 0) in
          let d : drop (suc i) text ≡ rest = ap (λ (m : ℕ). drop m text) (sym s) ∙ ap (drop (length line)) is ∙ drop-append_seam line rest in
          let f : take (suc i) text ≡ line = grind (arith, common_steps) in
          let t : take i text ++ (feed ∷ []) ≡ line = ap (λ (c : ℕ). take i text ++ (c ∷ [])) (sym b) ∙ sym (take-suc text i 0 l) ∙ f in
          lines_cut text (omega arith) ∙ ap (λ (m : ℕ). (take m text ++ (feed ∷ [])) ∷ text_lines (drop (suc m) text)) r ∙ ap (λ (x : List ℕ). x ∷ text_lines (drop (suc i) text)) t ∙ ap (λ (x : List ℕ). line ∷ text_lines x) d
      go (no l) =
          let r : run feed text ≡ length text = position_or_len_is at_feed text (length text) 0 (omega arith) (λ k m. h.0 k 0 (omega arith) (omega arith)) (λ m. absurd (omega arith)) in
          let e : rest ≡ [] = nil_from_length rest (whole (omega arith)) in
          let x : text ≡ line = is ∙ ap (λ (m : List ℕ). line ++ m) e ∙ append-nil line in
          lines_end text r some ∙ ap (λ (m : List ℕ). m ∷ []) x ∙ ap (λ (m : List ℕ). line ∷ text_lines m) (sym e)
