-- Laws of tables: two tables of as many proper lines are equal only if the lines are.
use mathlib.Core.Path.{◌≡◌, refl, sym, ap, ◌∙◌}
use Prim.Native.Nat.{ℕ, ◌-◌, ◌*◌}
use native.Mathlib.Omega.{arith}
use mathlib.Core.List.{List, [], ◌∷◌, ◌++◌}
use lib.ListN.{length, length-append}
use Rattle.lists.specs.Lists.{All}
use Rattle.thread.specs.Numbers.{zeros, filled}
use Rattle.thread.specs.Table.{fields_of}
use Rattle.text.specs.Written.{Entry, Proper, Text, ProperText, numbers_of, table_of}
use Rattle.text.specs.Reading.{entry}
use Rattle.std.specs.Prelude.{Ok}
use Rattle.text.specs.Read.{Reading, ReadResult, accepted}
use Rattle.text.proofs.Bytes.{count-le}
use Rattle.text.proofs.Entries.{five-long}

append-same : (a b x y : List ℕ) → length a ≡ length b → a ++ x ≡ b ++ y → (a ≡ b) × (x ≡ y)
append-same [] [] x y l e = (refl, e)
append-same [] (b ∷ bs) x y l e = absurd (omega arith)
append-same (a ∷ as') [] x y l e = absurd (omega arith)
append-same (a ∷ as') (b ∷ bs) x y l e =
    let h : a ≡ b = cc in
    let t : as' ++ x ≡ bs ++ y = cc in
    let r = append-same as' bs x y (omega arith) t in
    let q : as' ≡ bs = r.0 in
    (cc, r.1)

proper-five : (e : Entry) → Proper e → length (numbers_of e) ≡ 5
proper-five e h = five-long e (omega (arith, h.used, count-le e.kind))

numbers_apart : (e f : Entry) → Proper e → Proper f → numbers_of e ≡ numbers_of f → e ≡ f
unfolding numbers_of filled
numbers_apart e f h k q =
    let p : e.kind ≡ f.kind = cc in
    let r : e.fields ++ zeros (5 - length (e.kind ∷ e.fields)) ≡ f.fields ++ zeros (5 - length (f.kind ∷ f.fields)) = cc in
    let l : length e.fields ≡ length f.fields = h.used ∙ ap (λ (n : ℕ). length (fields_of n)) p ∙ sym k.used in
    let s = append-same e.fields f.fields (zeros (5 - length (e.kind ∷ e.fields))) (zeros (5 - length (f.kind ∷ f.fields))) l r in
    ap (λ (n : ℕ). entry n e.fields) p ∙ ap (entry f.kind) s.0

table-apart : (es fs : List Entry) → All Proper es → All Proper fs → length es ≡ length fs → table_of es ≡ table_of fs → es ≡ fs
unfolding table_of
table-apart [] [] h k l q = refl
table-apart [] (f ∷ fs) h k l q = absurd (omega arith)
table-apart (e ∷ es) [] h k l q = absurd (omega arith)
table-apart (e ∷ es) (f ∷ fs) h k l q =
    let s = append-same (numbers_of e) (numbers_of f) (table_of es) (table_of fs) (proper-five e h.0 ∙ sym (proper-five f k.0)) q in
    let a : e ≡ f = numbers_apart e f h.0 k.0 s.0 in
    let b : es ≡ fs = table-apart es fs h.1 k.1 (omega arith) s.1 in
    cc

table-long : (es : List Entry) → All Proper es → length (table_of es) ≡ 5 * length es
unfolding table_of
table-long [] h = refl
table-long (e ∷ es) h = length-append (numbers_of e) (table_of es) ∙ omega (arith, proper-five e h.0, table-long es h.1)

-- one answer and one table for each text
pub accepted-apart : (room : ℕ) (t u : Text) → ProperText t → ProperText u → accepted room t ≡ accepted room u → t ≡ u
unfolding accepted filled
accepted-apart room t u h k q =
    let a : ◌≡◌ {A = Reading} (Ok (t.model, length t.lines)) (Ok (u.model, length u.lines)) = ap (λ (r : ReadResult). r.answer) q in
    let p : ◌≡◌ {A = ℕ × ℕ} (t.model, length t.lines) (u.model, length u.lines) = cc in
    let m : t.model ≡ u.model = ap (λ (x : ℕ × ℕ). x.0) p in
    let l : length t.lines ≡ length u.lines = ap (λ (x : ℕ × ℕ). x.1) p in
    let b : table_of t.lines ++ zeros (room - length (table_of t.lines)) ≡ table_of u.lines ++ zeros (room - length (table_of u.lines)) = ap (λ (r : ReadResult). r.table) q in
    let n : length (table_of t.lines) ≡ length (table_of u.lines) = omega (arith, table-long t.lines h.lines, table-long u.lines k.lines) in
    let s = append-same (table_of t.lines) (table_of u.lines) (zeros (room - length (table_of t.lines))) (zeros (room - length (table_of u.lines))) n b in
    let e : t.lines ≡ u.lines = table-apart t.lines u.lines h.lines k.lines l s.0 in
    ap (λ (x : ℕ). text x t.lines) m ∙ ap (text u.model) e
  where
    text : ℕ → List Entry → Text
    text m es = record { model = m; lines = es }
