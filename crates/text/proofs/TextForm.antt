-- Each answer of the reader, exactly when it is given.
use mathlib.Core.Path.{◌≡◌, refl, sym, ap, subst, ◌∙◌}
use mathlib.Core.Logic.{inl, inr, ⊎_elim, ◌↔◌}
use Prim.Native.Nat.{ℕ, suc, ◌/◌, ◌≤◌, ◌<◌}
use native.Mathlib.Omega.{arith}
use native.Mathlib.Decide.{dec_lt}
use mathlib.Core.List.{List}
use lib.ListN.{length}
use Rattle.thread.specs.declared.Refusal.{Refusal}
use Rattle.thread.specs.declared.Refusal.TheVariants as R
use Rattle.text.specs.Written.{Text, ProperText}
use Rattle.text.specs.Reading.{text_lines, Judgement, bad_line, whole, read_text}
use Rattle.std.specs.Prelude.{Ok, Err}
use Rattle.text.specs.Read.{Reading, ReadResult, most_bytes, refused, accepted, judged, read}
use Rattle.text.specs.TextForm.{Forbidden, line_at, line_count, FirstBad, Fits, TooMany, WrittenOf, TextForm, WrittenApart}
use Rattle.text.proofs.Answers.{many-64, many-room, few_lines, judged-many, judged-few, judged-by, read-long}
use Rattle.text.proofs.Whole.{joined-lines, are-lines, read-text, written_apart, lines-first, none-bad, first-only}
use Rattle.text.proofs.Apart.{accepted-apart}

-- the four answers
pub data Verdict (room : ℕ) (text : List ℕ) : Type 0 where
  long : most_bytes < length text → read room text ≡ refused room (R.BadText 0) → Verdict room text
  bad : length text ≤ most_bytes → (k : ℕ) → FirstBad text k → read room text ≡ refused room (R.BadText (suc k)) → Verdict room text
  many : (t : Text) → WrittenOf text t → TooMany room t → read room text ≡ refused room R.TooManyLines → Verdict room text
  good : (t : Text) → WrittenOf text t → Fits room t → read room text ≡ accepted room t → Verdict room text

judged-bad : (room n : ℕ) → judged room (bad_line n) ≡ refused room (R.BadText n)
unfolding judged
judged-bad room n = refl

module _ (room : ℕ) (text : List ℕ) (short : length text ≤ most_bytes) where
  by_lines : (o : Judgement Text) → read_text (text_lines text) ≡ o → Verdict room text
  by_lines (bad_line p) e =
      let f = lines-first (text_lines text) p e in
      bad short f.0 f.2 (judged-by room text short ∙ ap (judged room) e ∙ judged-bad room p ∙ ap (λ (n : ℕ). refused room (R.BadText n)) f.1)
  by_lines (whole t) e = go (dec_lt 64 (length t.lines)) (dec_lt (room / 5) (length t.lines))
    where
      w : WrittenOf text t
      w = let r = read-text text t e in record { proper = r.0; same = r.1; short = short }

      said : read room text ≡ judged room (whole t)
      said = judged-by room text short ∙ ap (judged room) e

      go : Dec (64 < length t.lines) → Dec (room / 5 < length t.lines) → Verdict room text
      go (yes h) d = many t w (inl h) (said ∙ judged-many room t (many-64 room (length t.lines) h))
      go (no h) (yes g) = many t w (inr g) (said ∙ judged-many room t (many-room room (length t.lines) (omega arith) g))
      go (no h) (no g) = good t w (omega arith, omega arith) (said ∙ judged-few room t (few_lines room (length t.lines) (omega arith) (omega arith)))

pub verdict : (room : ℕ) (text : List ℕ) → Verdict room text
verdict room text = go (dec_lt most_bytes (length text))
  where
    go : Dec (most_bytes < length text) → Verdict room text
    go (yes h) = long h (read-long room text h)
    go (no h) = by_lines room text (omega arith) (read_text (text_lines text)) refl

-- the answers are told apart
module _ (room : ℕ) where
  place_same : (m n : ℕ) → refused room (R.BadText m) ≡ refused room (R.BadText n) → m ≡ n
  unfolding refused
  place_same m n e = let a : ◌≡◌ {A = Reading} (Err (R.BadText m)) (Err (R.BadText n)) = ap (λ (r : ReadResult). r.answer) e in cc

  place-many : (n : ℕ) → refused room (R.BadText n) ≡ refused room R.TooManyLines → ⊥
  unfolding refused
  place-many n e = let a : ◌≡◌ {A = Reading} (Err (R.BadText n)) (Err R.TooManyLines) = ap (λ (r : ReadResult). r.answer) e in let z : ◌≡◌ {A = ℕ} 0 1 = cc in omega arith

  refused-good : (r : Refusal) (t : Text) → refused room r ≡ accepted room t → ⊥
  unfolding refused accepted
  refused-good r t e =
      let a : ◌≡◌ {A = Reading} (Err r) (Ok (t.model, length t.lines)) = ap (λ (x : ReadResult). x.answer) e in let z : ◌≡◌ {A = ℕ} 0 1 = cc in omega arith

-- a text is written of one text only, and has then no bad line
same_text : (text : List ℕ) (t u : Text) → WrittenOf text t → WrittenOf text u → t ≡ u
same_text text t u w v = written_apart t u w.proper v.proper (sym w.same ∙ v.same)

no-bad : (text : List ℕ) (t : Text) (k : ℕ) → WrittenOf text t → FirstBad text k → ⊥
no-bad text t k w f = none-bad t w.proper k (subst (λ (l : List ℕ). FirstBad l k) w.same f)

not-both : (room : ℕ) (t : Text) → Fits room t → TooMany room t → ⊥
not-both room t f m = ⊎_elim (λ (h : 64 < length t.lines). omega (arith, f.0)) (λ (h : room / 5 < length t.lines). omega (arith, f.1)) m

module _ (room : ℕ) (text : List ℕ) where
  accepts-when : (t : Text) → ProperText t → Verdict room text → (read room text ≡ accepted room t) ↔ (WrittenOf text t × Fits room t)
  accepts-when t p (long h e) = (λ q. absurd (refused-good room (R.BadText 0) t (sym e ∙ q)), λ w. absurd (omega (arith, w.0.short)))
  accepts-when t p (bad h k f e) = (λ q. absurd (refused-good room (R.BadText (suc k)) t (sym e ∙ q)), λ w. absurd (no-bad text t k w.0 f))
  accepts-when t p (many u v m e) =
      (λ q. absurd (refused-good room R.TooManyLines t (sym e ∙ q)), λ w. absurd (not-both room t w.1 (subst (TooMany room) (same_text text u t v w.0) m)))
  accepts-when t p (good u v f e) = (
    λ q. let s : u ≡ t = accepted-apart room u t v.proper p (sym e ∙ q) in (subst (WrittenOf text) s v, subst (Fits room) s f),
    λ w. e ∙ ap (accepted room) (same_text text u t v w.0),
  )

  long-when : Verdict room text → (read room text ≡ refused room (R.BadText 0)) ↔ (most_bytes < length text)
  long-when (long h e) = (λ q. h, λ w. e)
  long-when (bad h k f e) = (λ q. let z : suc k ≡ 0 = place_same room (suc k) 0 (sym e ∙ q) in absurd (omega arith), λ w. absurd (omega arith))
  long-when (many u v m e) = (λ q. absurd (place-many room 0 (sym q ∙ e)), λ w. absurd (omega (arith, v.short)))
  long-when (good u v f e) = (λ q. absurd (refused-good room (R.BadText 0) u (sym q ∙ e)), λ w. absurd (omega (arith, v.short)))

  bad-when : (k : ℕ) → Verdict room text → (read room text ≡ refused room (R.BadText (suc k))) ↔ ((length text ≤ most_bytes) × FirstBad text k)
  bad-when k (long h e) = (λ q. let z : 0 ≡ suc k = place_same room 0 (suc k) (sym e ∙ q) in absurd (omega arith), λ w. absurd (omega (arith, w.0)))
  bad-when k (bad h j f e) = (
    λ q. let z : suc j ≡ suc k = place_same room (suc j) (suc k) (sym e ∙ q) in let y : j ≡ k = omega arith in (h, subst (FirstBad text) y f),
    λ w. e ∙ ap (λ (n : ℕ). refused room (R.BadText (suc n))) (first-only (λ i. Forbidden i (line_at text i)) (line_count text) j k f w.1),
  )
  bad-when k (many u v m e) = (λ q. absurd (place-many room (suc k) (sym q ∙ e)), λ w. absurd (no-bad text u k v w.1))
  bad-when k (good u v f e) = (λ q. absurd (refused-good room (R.BadText (suc k)) u (sym q ∙ e)), λ w. absurd (no-bad text u k v w.1))

  many-when : Verdict room text → (read room text ≡ refused room R.TooManyLines) ↔ ((t : Text) × WrittenOf text t × TooMany room t)
  many-when (long h e) = (λ q. absurd (place-many room 0 (sym e ∙ q)), λ w. absurd (omega (arith, w.1.short)))
  many-when (bad h k f e) = (λ q. absurd (place-many room (suc k) (sym e ∙ q)), λ w. absurd (no-bad text w.0 k w.1 f))
  many-when (many u v m e) = (λ q. (u, v, m), λ w. e)
  many-when (good u v f e) =
      (λ q. absurd (refused-good room R.TooManyLines u (sym q ∙ e)), λ w. absurd (not-both room u f (subst (TooMany room) (same_text text w.0 u w.1 v) w.2)))

pub text-form : (room : ℕ) (text : List ℕ) → TextForm room text
text-form room text =
    record {
      lines = (are-lines text, joined-lines text);
      accepts = λ t p. accepts-when room text t p (verdict room text);
      too_long = long-when room text (verdict room text);
      bad_line = λ k. bad-when room text k (verdict room text);
      too_many = many-when room text (verdict room text);
    }

pub apart : WrittenApart
apart = written_apart
