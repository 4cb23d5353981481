-- Laws of writing one line: a line is read as an instruction exactly if it is what is written of it, and so for the models.
use mathlib.Core.Path.{◌≡◌, refl, sym, ap, ◌∙◌}
use mathlib.Core.Logic.{⊎_elim}
use mathlib.Core.Bool.{Bool, true, false}
use mathlib.Core.Option.{Option, none, some, bind}
use Prim.Native.Nat.{ℕ, zero, suc, ◌≤◌, ◌<◌}
use native.Mathlib.Omega.{arith}
use mathlib.Core.List.{List, [], ◌∷◌, ◌++◌, map, append-nil}
use lib.ListN.{length}
use lib.Dec.{eqb}
use Rattle.lists.specs.Lists.{All}
use Rattle.lists.proofs.Lists.{not_some, all-imp, all_append}
use Rattle.thread.specs.Word.{word}
use Rattle.thread.specs.Table.{fields_of}
use Rattle.thread.specs.Names.{instr_names, instr_name, model_names, model_name}
use Rattle.decimal.specs.Decimal.{decimal, read_number, most}
use Rattle.decimal.proofs.Decimal.{Digit, decimal-digits}
use Rattle.decimal.proofs.Reading.{read-written, written_read}
use Rattle.text.specs.Written.{Entry, Proper, tab, feed, kinds, models, tabbed, line_text, model_text}
use Rattle.text.specs.Reading.{name_at, body, part_onto, parts, field_then, read_fields, read_parts, read_line, read_model}
use Rattle.text.specs.TextForm.{NoFeed, Ended}
use Rattle.text.proofs.Bytes.{Named, named}
use Rattle.text.proofs.Lines.{equal?, part-hit, part-miss, body_ended, body_is}
use Rattle.text.proofs.Parts.{fields-length}
use Rattle.text.proofs.Entries.{parts-some, parts-are, is-entry}

-- bytes without tabs
abbrev pub NoTab : List ℕ → Type 0
NoTab l = All (λ b. b ≡ tab → ⊥) l

pub decimal-no-tab : (n : ℕ) → NoTab (decimal n)
decimal-no-tab n = all-imp Digit (λ b. b ≡ tab → ⊥) (λ b h q. omega (arith, h.0)) (decimal n) (decimal-digits n)

pub decimal-no-feed : (n : ℕ) → NoFeed (decimal n)
decimal-no-feed n = all-imp Digit (λ b. b ≡ feed → ⊥) (λ b h q. omega (arith, h.0)) (decimal n) (decimal-digits n)

-- parts that are joined by tabs come apart again
parts-one : (p : List ℕ) → NoTab p → parts p ≡ p ∷ []
unfolding parts part_onto
parts-one [] h = refl
parts-one (b ∷ p) h = part-miss b p h.0 ∙ ap (part_onto false b) (parts-one p h.1)

parts_more : (p l : List ℕ) → NoTab p → parts (p ++ (tab ∷ l)) ≡ p ∷ parts l
unfolding part_onto
parts_more [] l h = part-hit tab l refl
parts_more (b ∷ p) l h = part-miss b (p ++ (tab ∷ l)) h.0 ∙ ap (part_onto false b) (parts_more p l h.1)

pub parts-tabbed : (p : List ℕ) (ps : List (List ℕ)) → NoTab p → All NoTab ps → parts (p ++ tabbed ps) ≡ p ∷ ps
unfolding tabbed
parts-tabbed p [] h k = ap parts (append-nil p) ∙ parts-one p h
parts-tabbed p (q ∷ ps) h k = parts_more p (q ++ tabbed ps) h ∙ ap (λ (l : List (List ℕ)). p ∷ l) (parts-tabbed q ps k.0 k.1)

-- and parts that came apart are joined again
abbrev joined : List (List ℕ) → List ℕ
joined [] = []
joined (p ∷ ps) = p ++ tabbed ps

join-onto : (b : ℕ) (ps : List (List ℕ)) → joined (part_onto false b ps) ≡ b ∷ joined ps
unfolding part_onto tabbed
join-onto b [] = refl
join-onto b (p ∷ ps) = refl

-- there is always one
onto-one : (t : Bool) (b : ℕ) (ps : List (List ℕ)) → part_onto t b ps ≡ [] → ⊥
unfolding part_onto
onto-one true b ps e = let z : ◌≡◌ {A = List (List ℕ)} ([] ∷ ps) [] = e in let w : ◌≡◌ {A = ℕ} 0 1 = cc in omega arith
onto-one false b [] e = let z : ◌≡◌ {A = List (List ℕ)} ((b ∷ []) ∷ []) [] = e in let w : ◌≡◌ {A = ℕ} 0 1 = cc in omega arith
onto-one false b (p ∷ ps) e = let z : ◌≡◌ {A = List (List ℕ)} ((b ∷ p) ∷ ps) [] = e in let w : ◌≡◌ {A = ℕ} 0 1 = cc in omega arith

some-part : (l : List ℕ) → parts l ≡ [] → ⊥
unfolding parts
some-part [] e = let z : ◌≡◌ {A = List (List ℕ)} ([] ∷ []) [] = e in let w : ◌≡◌ {A = ℕ} 0 1 = cc in omega arith
some-part (b ∷ l) e = onto-one (eqb b tab) b (parts l) e

pub parts-joined : (l : List ℕ) → joined (parts l) ≡ l
unfolding parts tabbed
parts-joined [] = refl
parts-joined (b ∷ l) =
    ⊎_elim
    (λ (e : b ≡ tab). ap joined (part-hit b l e) ∙ hit e (parts l) (some-part l) ∙ ap (λ (k : List ℕ). b ∷ k) (parts-joined l))
    (λ (n : b ≡ tab → ⊥). ap joined (part-miss b l n) ∙ join-onto b (parts l) ∙ ap (λ (k : List ℕ). b ∷ k) (parts-joined l))
    (equal? b tab)
  where
    hit : b ≡ tab → (ps : List (List ℕ)) → (ps ≡ [] → ⊥) → joined ([] ∷ ps) ≡ b ∷ joined ps
    hit e [] n = absurd (n refl)
    hit e (p ∷ ps) n = ap (λ (c : ℕ). c ∷ (p ++ tabbed ps)) (sym e)

-- the kinds one by one
by-kind : (P : ℕ → Type 0) → P 0 → P 1 → P 2 → P 3 → P 4 → P 5 → P 6 → P 7 → P 8 → P 9 → P 10 → P 11 → (k : ℕ) → k < 12 → P k
by-kind P a b c d e f g h i j k l zero s = a
by-kind P a b c d e f g h i j k l (suc zero) s = b
by-kind P a b c d e f g h i j k l (suc (suc zero)) s = c
by-kind P a b c d e f g h i j k l (suc (suc (suc zero))) s = d
by-kind P a b c d e f g h i j k l (suc (suc (suc (suc zero)))) s = e
by-kind P a b c d e f g h i j k l (suc (suc (suc (suc (suc zero))))) s = f
by-kind P a b c d e f g h i j k l (suc (suc (suc (suc (suc (suc zero)))))) s = g
by-kind P a b c d e f g h i j k l (suc (suc (suc (suc (suc (suc (suc zero))))))) s = h
by-kind P a b c d e f g h i j k l (suc (suc (suc (suc (suc (suc (suc (suc zero)))))))) s = i
by-kind P a b c d e f g h i j k l (suc (suc (suc (suc (suc (suc (suc (suc (suc zero))))))))) s = j
by-kind P a b c d e f g h i j k l (suc (suc (suc (suc (suc (suc (suc (suc (suc (suc zero)))))))))) s = k
by-kind P a b c d e f g h i j k l (suc (suc (suc (suc (suc (suc (suc (suc (suc (suc (suc zero))))))))))) s = l
by-kind P a b c d e f g h i j k l (suc (suc (suc (suc (suc (suc (suc (suc (suc (suc (suc (suc n)))))))))))) s = absurd (omega arith)

-- no name is another, and none has a tab or a line feed
named-kind : (k : ℕ) → k < kinds → name_at (instr_name k) instr_names ≡ some k
unfolding name_at instr_name instr_names
named-kind = by-kind (λ k. name_at (instr_name k) instr_names ≡ some k) refl refl refl refl refl refl refl refl refl refl refl refl

named-model : (m : ℕ) → m < models → name_at (model_name m) model_names ≡ some m
unfolding name_at model_name model_names
named-model zero h = refl
named-model (suc zero) h = refl
named-model (suc (suc m)) h = absurd (omega arith)

-- a letter is no tab and no line feed
abbrev Letters : List ℕ → Type 0
Letters l = All (λ b. 97 ≤ b) l

letters : (k : ℕ) → k < kinds → Letters (instr_name k)
unfolding instr_name instr_names
letters = by-kind (λ k. Letters (instr_name k)) (omega arith) (omega arith) (omega arith) (omega arith) (omega arith) (omega arith) (omega arith) (omega arith) (omega arith) (omega arith) (omega arith) (omega arith)

model-letters : (m : ℕ) → m < models → Letters (model_name m)
unfolding model_name model_names
model-letters zero h = omega arith
model-letters (suc zero) h = omega arith
model-letters (suc (suc m)) h = absurd (omega arith)

letters-no-tab : (l : List ℕ) → Letters l → NoTab l
letters-no-tab l = all-imp (λ b. 97 ≤ b) (λ b. b ≡ tab → ⊥) (λ b h q. omega arith) l

letters-no-feed : (l : List ℕ) → Letters l → NoFeed l
letters-no-feed l = all-imp (λ b. 97 ≤ b) (λ b. b ≡ feed → ⊥) (λ b h q. omega arith) l

-- fields
abbrev Small : List ℕ → Type 0
Small fs = All (λ v. v < word) fs

fields-written : (fs : List ℕ) → Small fs → read_fields (length fs) (map decimal fs) ≡ some fs
unfolding read_fields field_then
fields-written [] h = refl
fields-written (v ∷ fs) h = rw (read-written v (omega (arith, h.0)), fields-written fs h.1)

written-fields : (n : ℕ) (ps : List (List ℕ)) (fs : List ℕ) → read_fields n ps ≡ some fs → (ps ≡ map decimal fs) × Small fs
unfolding read_fields field_then
written-fields zero [] fs e = let q : [] ≡ fs = cc in rw (← q) (refl, tt)
written-fields zero (p ∷ ps) fs e = absurd (not_some e)
written-fields (suc n) [] fs e = absurd (not_some e)
written-fields (suc n) (p ∷ ps) fs e = go (read_number p) refl (read_fields n ps) (written-fields n ps) refl e
  where
    go : (a : Option ℕ) → read_number p ≡ a → (b : Option (List ℕ)) → ((gs : List ℕ) → read_fields n ps ≡ some gs → (ps ≡ map decimal gs) × Small gs) → read_fields n ps ≡ b
        → field_then a b ≡ some fs → (p ∷ ps ≡ map decimal fs) × Small fs
    go none t b ih u e = absurd (not_some e)
    go (some v) t none ih u e = absurd (not_some e)
    go (some v) t (some gs) ih u e =
        let q : v ∷ gs ≡ fs = cc in
        let w : (p ≡ decimal v) × (v ≤ most) = written_read p v t in
        let r : (ps ≡ map decimal gs) × Small gs = ih gs u in
        let s : p ∷ ps ≡ decimal v ∷ map decimal gs = cc in
        rw (← q) (s, (omega arith, r.1))

decimals-no-tab : (fs : List ℕ) → All NoTab (map decimal fs)
decimals-no-tab [] = tt
decimals-no-tab (v ∷ fs) = (decimal-no-tab v, decimals-no-tab fs)

-- what is written of an instruction is read as it
pub line_read : (e : Entry) → Proper e → read_line (line_text e) ≡ some e
unfolding read_line bind line_text read_parts
line_read e h =
    let name = instr_name e.kind in
    let l = name ++ tabbed (map decimal e.fields) in
    let p : parts l ≡ name ∷ map decimal e.fields = parts-tabbed name (map decimal e.fields) (letters-no-tab name (letters e.kind h.known)) (decimals-no-tab e.fields) in
    rw (body_ended l) (rw p (rw (named-kind e.kind h.known) (is-entry e.kind (map decimal e.fields) e.fields h.known (rw (← h.used) (fields-written e.fields h.small)))))

-- what is read as an instruction is what is written of it
parts-written : (k : List ℕ) (ps : List (List ℕ)) (e : Entry) → joined ps ≡ k → read_parts ps ≡ some e → Proper e × (k ≡ instr_name e.kind ++ tabbed (map decimal e.fields))
unfolding instr_name instr_names
parts-written k [] e j q = absurd (parts-some e q)
parts-written k (name ∷ ps) e j q =
    let is = parts-are name ps e q in
    let n : Named name instr_names e.kind = named name instr_names e.kind is.known in
    let w = written-fields (length (fields_of e.kind)) ps e.fields is.fields in
    let u : length e.fields ≡ length (fields_of e.kind) = fields-length (length (fields_of e.kind)) ps e.fields is.fields in
    (record { known = n.below; used = u; small = w.1 }, sym j ∙ ap (λ (x : List ℕ). x ++ tabbed ps) (sym n.is) ∙ ap (λ (x : List (List ℕ)). instr_name e.kind ++ tabbed x) w.0)

pub read-line : (l : List ℕ) (e : Entry) → read_line l ≡ some e → Proper e × (l ≡ line_text e)
unfolding read_line bind line_text
read-line l e q = go (body l) refl q
  where
    go : (o : Option (List ℕ)) → body l ≡ o → bind o (λ k. read_parts (parts k)) ≡ some e → Proper e × (l ≡ line_text e)
    go none t q = absurd (not_some q)
    go (some k) t q =
        let w = parts-written k (parts k) e (parts-joined k) q in
        (w.0, body_is l k t ∙ ap (λ (x : List ℕ). x ++ (feed ∷ [])) w.1)

-- the same of a model
pub model-read : (m : ℕ) → m < models → read_model (model_text m) ≡ some m
unfolding read_model bind model_text
model-read m h = rw (body_ended (model_name m)) (named-model m h)

pub read-model : (l : List ℕ) (m : ℕ) → read_model l ≡ some m → (m < models) × (l ≡ model_text m)
unfolding read_model bind model_text model_name model_names
read-model l m q = go (body l) refl q
  where
    go : (o : Option (List ℕ)) → body l ≡ o → bind o (λ name. name_at name model_names) ≡ some m → (m < models) × (l ≡ model_text m)
    go none t q = absurd (not_some q)
    go (some k) t q = let w : Named k model_names m = named k model_names m q in (w.below, body_is l k t ∙ ap (λ (x : List ℕ). x ++ (feed ∷ [])) (sym w.is))

-- a line's bytes before its line feed hold none
tabbed-no-feed : (fs : List ℕ) → NoFeed (tabbed (map decimal fs))
unfolding tabbed
tabbed-no-feed [] = tt
tabbed-no-feed (v ∷ fs) = (λ q. omega arith, all_append (λ b. b ≡ feed → ⊥) (decimal v) (tabbed (map decimal fs)) (decimal-no-feed v) (tabbed-no-feed fs))

pub line-text : (e : Entry) → Proper e → Ended (line_text e)
unfolding line_text
line-text e h =
    let name = instr_name e.kind in
    record {
      bytes = name ++ tabbed (map decimal e.fields);
      free = all_append (λ b. b ≡ feed → ⊥) name (tabbed (map decimal e.fields)) (letters-no-feed name (letters e.kind h.known)) (tabbed-no-feed e.fields);
      ended = refl;
    }

pub model-text : (m : ℕ) → m < models → Ended (model_text m)
unfolding model_text
model-text m h = record { bytes = model_name m; free = letters-no-feed (model_name m) (model-letters m h); ended = refl }
