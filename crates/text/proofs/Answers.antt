-- Laws of the reader's answers: too long, a bad first line, a bad line, too many lines, and all good.
use mathlib.Core.Path.{◌≡◌, refl, sym, ap, ◌∙◌}
use mathlib.Core.Bool.{true, false}
use mathlib.Core.Option.{none, some, bind}
use Prim.Native.Nat.{ℕ, suc, ◌+◌, ◌/◌, ◌≤◌, ◌<◌, min}
use native.Mathlib.Omega.{arith}
use native.Mathlib.Decide.{dec_lt}
use mathlib.Core.List.{List, [], ◌∷◌}
use lib.ListN.{length, take, drop}
use Rattle.lists.proofs.Tests.{lt-true, lt-false}
use Rattle.thread.specs.declared.Refusal.TheVariants as R
use Rattle.thread.specs.Numbers.{zeros, filled}
use Rattle.thread.specs.Names.{model_names}
use Rattle.std.specs.Prelude.{Result, Ok, Err}
use Rattle.thread.specs.declared.Refusal.{Refusal}
use Rattle.text.specs.Written.{Entry, Text, feed, table_of}
use Rattle.text.specs.Reading.{text_lines, name_at, read_model, Judgement, bad_line, whole, read_lines, model_then, read_text}
use Rattle.text.specs.Steps.{run, judgement, lines_in}
use Rattle.text.specs.Read.{Reading, ReadResult, refused, accepted, too_many, judged, JudgedOk, read, ReadOk}
use Rattle.text.proofs.Bytes.{run-le}
use Rattle.text.proofs.Lines.{lines_cut, lines_end, body_ended, body-lacks}
use Rattle.text.proofs.Judging.{lines-all}

-- "more lines after the model line than 64 or than the lent table holds"
pub many-64 : (room n : ℕ) → 64 < n → too_many room n ≡ true
many-64 room n h = rw (lt-true 64 n h)

pub many-room : (room n : ℕ) → n ≤ 64 → room / 5 < n → too_many room n ≡ true
many-room room n k h = rw (lt-false 64 n k, lt-true (room / 5) n h)

pub few_lines : (room n : ℕ) → n ≤ 64 → n ≤ room / 5 → too_many room n ≡ false
few_lines room n k h = rw (lt-false 64 n k, lt-false (room / 5) n h)

pub judged-many : (room : ℕ) (t : Text) → too_many room (length t.lines) ≡ true → judged room (whole t) ≡ refused room R.TooManyLines
unfolding judged
judged-many room t e = rw e

pub judged-few : (room : ℕ) (t : Text) → too_many room (length t.lines) ≡ false → judged room (whole t) ≡ accepted room t
unfolding judged
judged-few room t e = rw e

module _ (room : ℕ) (t : Text) (table : List ℕ) (n : ℕ) (l : length t.lines ≡ n) where
  many-ok : table ≡ zeros room → too_many room n ≡ true → JudgedOk room t (Err R.TooManyLines) table
  unfolding refused
  many-ok z e =
      let q : judged room (whole t) ≡ refused room R.TooManyLines = judged-many room t (ap (too_many room) l ∙ e) in
      record { answered = ap (λ (r : ReadResult). r.answer) (sym q); left = z ∙ ap (λ (r : ReadResult). r.table) (sym q) }

  pub over_min : table ≡ zeros room → min 64 (room / 5) < n → JudgedOk room t (Err R.TooManyLines) table
  over_min z h = many-ok z (go (dec_lt 64 n))
    where
      go : Dec (64 < n) → too_many room n ≡ true
      go (yes k) = many-64 room n k
      go (no k) = many-room room n (omega arith) (omega arith)

  pub fits-ok : table ≡ filled room (table_of t.lines) → n ≤ min 64 (room / 5) → JudgedOk room t (Ok (t.model, n)) table
  unfolding accepted
  fits-ok z h =
      let q : judged room (whole t) ≡ accepted room t = judged-few room t (ap (too_many room) l ∙ few_lines room n (omega arith) (omega arith)) in
      record { answered = ap (λ (k : ℕ). Ok (t.model, k)) (sym l) ∙ ap (λ (r : ReadResult). r.answer) (sym q); left = z ∙ ap (λ (r : ReadResult). r.table) (sym q) }

-- lines of which one is bad
pub record Bad (model : ℕ) (r : Judgement (List Entry)) (e : Refusal) : Type 0 where
  pub place : ℕ
  pub said : e ≡ R.BadText place
  pub found : model_then (some model) r ≡ bad_line place

bad-then : (model : ℕ) (r : Judgement (List Entry)) (e : Refusal) → judgement 0 r ≡ Err e → Bad model r e
unfolding judgement model_then
bad-then model (bad_line n) e j = let z : ◌≡◌ {A = Result ℕ Refusal} (Err (R.BadText n)) (Err e) = j in let q : R.BadText n ≡ e = cc in record { place = n; said = sym q; found = refl }
bad-then model (whole es) e j = let z : ◌≡◌ {A = Result ℕ Refusal} (Ok (0 + length es)) (Err e) = j in cc

-- the first line
module _ (text : List ℕ) (end : ℕ) (e : end ≡ run feed text) where
  pub first-lacks : end ≡ length text → read_text (text_lines text) ≡ bad_line 1
  unfolding text_lines read_text read_model model_then bind
  first-lacks q = go text refl
    where
      go : (l : List ℕ) → text ≡ l → read_text (text_lines text) ≡ bad_line 1
      go [] p = rw p
      go (b ∷ l) p =
          let r : run feed text ≡ length text = omega arith in
          rw (lines_end text r (omega (arith, ap length p))) (rw (body-lacks text r))

  first-cut : (end ≡ length text → ⊥) → read_text (text_lines text) ≡ model_then (name_at (take end text) model_names) (read_lines 2 (text_lines (drop (end + 1) text)))
  unfolding read_text read_model bind
  first-cut n =
      let d : end ≡ run feed text = omega arith in
      let s : end + 1 ≡ suc (run feed text) = omega arith in
      rw (lines_cut text (below n), s, d) (rw (body_ended (take (run feed text) text)))
    where
      below : (end ≡ length text → ⊥) → run feed text < length text
      below n = omega (arith, run-le feed text)

  module _ (n : end ≡ length text → ⊥) where
    pub no-model : name_at (take end text) model_names ≡ none → read_text (text_lines text) ≡ bad_line 1
    unfolding model_then
    no-model m = first-cut n ∙ rw m

    module _ (model : ℕ) (m : name_at (take end text) model_names ≡ some model) where
      pub with-model : read_text (text_lines text) ≡ model_then (some model) (read_lines 2 (text_lines (drop (end + 1) text)))
      with-model = first-cut n ∙ rw m

      pub all-good : (count : ℕ) → judgement 0 (read_lines 2 (text_lines (drop (end + 1) text))) ≡ Ok count
          → read_text (text_lines text) ≡ whole (record { model = model; lines = lines_in (read_lines 2 (text_lines (drop (end + 1) text))) })
      unfolding model_then
      all-good count j = with-model ∙ ap (model_then (some model)) (lines-all 0 count (read_lines 2 (text_lines (drop (end + 1) text))) j)

-- a text that is not too long is judged by its lines
pub judged-by : (room : ℕ) (text : List ℕ) → length text ≤ 4096 → read room text ≡ judged room (read_text (text_lines text))
unfolding read
judged-by room text h = rw (lt-false 4096 (length text) h)

pub read-long : (room : ℕ) (text : List ℕ) → 4096 < length text → read room text ≡ refused room (R.BadText 0)
unfolding read
read-long room text h = rw (lt-true 4096 (length text) h)

pub too-long : (room : ℕ) (text table : List ℕ) → 4096 < length text → table ≡ zeros room → ReadOk room text (Err (R.BadText 0)) table
unfolding refused
too-long room text table h z =
    let q : read room text ≡ refused room (R.BadText 0) = read-long room text h in
    record { answered = ap (λ (r : ReadResult). r.answer) (sym q); left = z ∙ ap (λ (r : ReadResult). r.table) (sym q) }

pub bad-ok : (room : ℕ) (text table : List ℕ) (n : ℕ) → length text ≤ 4096 → read_text (text_lines text) ≡ bad_line n → table ≡ zeros room → ReadOk room text (Err (R.BadText n)) table
unfolding judged refused
bad-ok room text table n h e z =
    let q : read room text ≡ refused room (R.BadText n) = judged-by room text h ∙ ap (judged room) e in
    record { answered = ap (λ (r : ReadResult). r.answer) (sym q); left = z ∙ ap (λ (r : ReadResult). r.table) (sym q) }

pub line-bad : (room : ℕ) (text table : List ℕ) (model : ℕ) (r : Judgement (List Entry)) (e : Refusal) → length text ≤ 4096
    → read_text (text_lines text) ≡ model_then (some model) r → judgement 0 r ≡ Err e → table ≡ zeros room → ReadOk room text (Err e) table
line-bad room text table model r e h s j z = let b = bad-then model r e j in rw b.said (bad-ok room text table b.place h (s ∙ b.found) z)

pub good-ok : (room : ℕ) (text table : List ℕ) (t : Text) (r : Reading) → length text ≤ 4096 → read_text (text_lines text) ≡ whole t → JudgedOk room t r table → ReadOk room text r table
good-ok room text table t r h e k =
    let q : read room text ≡ judged room (whole t) = judged-by room text h ∙ ap (judged room) e in
    record { answered = k.answered ∙ ap (λ (x : ReadResult). x.answer) (sym q); left = k.left ∙ ap (λ (x : ReadResult). x.table) (sym q) }
