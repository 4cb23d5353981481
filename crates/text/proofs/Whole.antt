-- Laws of a whole text: its lines, what is written of a text read back, the first bad line.
use mathlib.Core.Path.{◌≡◌, refl, sym, ap, subst, ◌∙◌}
use mathlib.Core.Logic.{inl, inr, ⊎_elim}
use mathlib.Core.Bool.{false}
use mathlib.Core.Option.{Option, none, some, bind}
use Prim.Native.Nat.{ℕ, zero, suc, ◌+◌, ◌<◌, max}
use native.Mathlib.Omega.{arith}
use native.Mathlib.Decide.{dec_lt}
use mathlib.Core.List.{List, [], ◌∷◌, ◌++◌, map}
use lib.ListN.{length, get_or}
use Rattle.lists.specs.Lists.{All, Lowest}
use Rattle.lists.proofs.Lists.{not_some}
use Rattle.text.specs.Written.{Entry, Proper, Text, ProperText, feed, line_text, model_text, lines_text, written}
use Rattle.text.specs.Reading.{line_onto, text_lines, body, read_line, read_model, Judgement, bad_line, whole, line_then, read_lines, model_then, read_text}
use Rattle.text.specs.TextForm.{Forbidden, FirstBad, NoFeed, Ended, Lines, joined}
use Rattle.text.proofs.Lines.{equal?, line-hit, line-miss}
use Rattle.text.proofs.Writing.{line_read, read-line, model-read, read-model, line-text, model-text}

-- the lines of a text, joined, are the text
joined-onto : (b : ℕ) (ls : List (List ℕ)) → joined (line_onto false b ls) ≡ b ∷ joined ls
unfolding line_onto joined
joined-onto b [] = refl
joined-onto b (l ∷ ls) = refl

pub joined-lines : (l : List ℕ) → joined (text_lines l) ≡ l
unfolding joined text_lines
joined-lines [] = refl
joined-lines (b ∷ l) =
    ⊎_elim
    (λ (e : b ≡ feed). ap joined (line-hit b l e) ∙ ap (λ (k : List ℕ). feed ∷ k) (joined-lines l) ∙ ap (λ (c : ℕ). c ∷ l) (sym e))
    (λ (n : b ≡ feed → ⊥). ap joined (line-miss b l n) ∙ joined-onto b (text_lines l) ∙ ap (λ (k : List ℕ). b ∷ k) (joined-lines l))
    (equal? b feed)

-- and each ends in a line feed, but for a last one that has none
ended-cons : (b : ℕ) (l : List ℕ) → (b ≡ feed → ⊥) → Ended l → Ended (b ∷ l)
ended-cons b l n w = record { bytes = b ∷ w.bytes; free = (n, w.free); ended = ap (λ (k : List ℕ). b ∷ k) w.ended }

onto-lines : (b : ℕ) (ls : List (List ℕ)) → (b ≡ feed → ⊥) → Lines ls → Lines (line_onto false b ls)
unfolding line_onto
onto-lines b [] n h = inr ((n, tt), omega arith)
onto-lines b (l ∷ []) n h = ⊎_elim (λ (w : Ended l). inl (ended-cons b l n w)) (λ (w : NoFeed l × (0 < length l)). inr ((n, w.0), omega arith)) h
onto-lines b (l ∷ m ∷ ls) n h = (ended-cons b l n h.0, h.1)

feed-lines : (ls : List (List ℕ)) → Lines ls → Lines ((feed ∷ []) ∷ ls)
feed-lines [] h = inl (record { bytes = []; free = tt; ended = refl })
feed-lines (l ∷ ls) h = (record { bytes = []; free = tt; ended = refl }, h)

pub are-lines : (l : List ℕ) → Lines (text_lines l)
unfolding text_lines
are-lines [] = tt
are-lines (b ∷ l) =
    ⊎_elim
    (λ (e : b ≡ feed). subst Lines (sym (line-hit b l e)) (feed-lines (text_lines l) (are-lines l)))
    (λ (n : b ≡ feed → ⊥). subst Lines (sym (line-miss b l n)) (onto-lines b (text_lines l) n (are-lines l)))
    (equal? b feed)

-- a line in front
front : (k rest : List ℕ) → NoFeed k → text_lines (k ++ (feed ∷ []) ++ rest) ≡ (k ++ (feed ∷ [])) ∷ text_lines rest
unfolding line_onto
front [] rest h = line-hit feed rest refl
front (b ∷ k) rest h = line-miss b (k ++ (feed ∷ []) ++ rest) h.0 ∙ ap (line_onto false b) (front k rest h.1)

line-front : (l rest : List ℕ) → Ended l → text_lines (l ++ rest) ≡ l ∷ text_lines rest
line-front l rest w = rw w.ended (front w.bytes rest w.free)

-- what is written has these lines
lines-of : (es : List Entry) → All Proper es → text_lines (lines_text es) ≡ map line_text es
unfolding lines_text text_lines
lines-of [] h = refl
lines-of (e ∷ es) h = line-front (line_text e) (lines_text es) (line-text e h.0) ∙ ap (λ (ls : List (List ℕ)). line_text e ∷ ls) (lines-of es h.1)

pub text_of : (t : Text) → ProperText t → text_lines (written t) ≡ model_text t.model ∷ map line_text t.lines
unfolding written
text_of t h =
    line-front (model_text t.model) (lines_text t.lines) (model-text t.model h.known)
    ∙ ap (λ (ls : List (List ℕ)). model_text t.model ∷ ls) (lines-of t.lines h.lines)

-- so it is read as what it was written of
lines-read : (n : ℕ) (es : List Entry) → All Proper es → read_lines n (map line_text es) ≡ whole es
unfolding read_lines line_then
lines-read n [] h = refl
lines-read n (e ∷ es) h = rw (line_read e h.0, lines-read (suc n) es h.1)

pub text-read : (t : Text) → ProperText t → read_text (text_lines (written t)) ≡ whole t
unfolding read_text model_then
text-read t h = rw (text_of t h) (rw (model-read t.model h.known, lines-read 2 t.lines h.lines))

-- and what is read was written of it
read-lines : (n : ℕ) (ls : List (List ℕ)) (es : List Entry) → read_lines n ls ≡ whole es → All Proper es × (joined ls ≡ lines_text es)
unfolding read_lines line_then joined lines_text
read-lines n [] es q = let p : [] ≡ es = cc in rw (← p) (tt, refl)
read-lines n (l ∷ ls) es q = go (read_line l) refl (read_lines (suc n) ls) (read-lines (suc n) ls) refl q
  where
    go : (o : Option Entry) → read_line l ≡ o → (r : Judgement (List Entry)) → ((fs : List Entry) → read_lines (suc n) ls ≡ whole fs → All Proper fs × (joined ls ≡ lines_text fs))
        → read_lines (suc n) ls ≡ r → line_then n o r ≡ whole es → All Proper es × (l ++ joined ls ≡ lines_text es)
    go none t r ih u q = let z : ◌≡◌ {A = Judgement (List Entry)} (bad_line n) (whole es) = q in let w : ◌≡◌ {A = ℕ} 0 1 = cc in absurd (omega arith)
    go (some e) t (bad_line m) ih u q = let z : ◌≡◌ {A = Judgement (List Entry)} (bad_line m) (whole es) = q in let w : ◌≡◌ {A = ℕ} 0 1 = cc in absurd (omega arith)
    go (some e) t (whole fs) ih u q =
        let p : e ∷ fs ≡ es = cc in
        let a = read-line l e t in
        let b = ih fs u in
        rw (← p) ((a.0, b.0), rw (a.1, b.1))

read-joined : (text : List ℕ) (t : Text) (ls : List (List ℕ)) → joined ls ≡ text → read_text ls ≡ whole t → ProperText t × (text ≡ written t)
unfolding read_text model_then joined written
read-joined text t [] j q = let z : ◌≡◌ {A = Judgement Text} (bad_line 1) (whole t) = q in let w : ◌≡◌ {A = ℕ} 0 1 = cc in absurd (omega arith)
read-joined text t (l ∷ ls) j q = go (read_model l) refl (read_lines 2 ls) refl q
  where
    go : (o : Option ℕ) → read_model l ≡ o → (r : Judgement (List Entry)) → read_lines 2 ls ≡ r → model_then o r ≡ whole t → ProperText t × (text ≡ written t)
    go none a r b q = let z : ◌≡◌ {A = Judgement Text} (bad_line 1) (whole t) = q in let w : ◌≡◌ {A = ℕ} 0 1 = cc in absurd (omega arith)
    go (some m) a (bad_line n) b q = let z : ◌≡◌ {A = Judgement Text} (bad_line n) (whole t) = q in let w : ◌≡◌ {A = ℕ} 0 1 = cc in absurd (omega arith)
    go (some m) a (whole es) b q =
        let u : Text = record { model = m; lines = es } in
        let p : u ≡ t = cc in
        let c = read-model l m a in
        let d = read-lines 2 ls es b in
        let h : ProperText u = record { known = c.0; lines = d.0 } in
        let e : text ≡ model_text m ++ lines_text es = sym j ∙ ap (λ (k : List ℕ). k ++ joined ls) c.1 ∙ ap (λ (k : List ℕ). model_text m ++ k) d.1 in
        (subst ProperText p h, e ∙ ap written p)

pub read-text : (text : List ℕ) (t : Text) → read_text (text_lines text) ≡ whole t → ProperText t × (text ≡ written t)
read-text text t q = read-joined text t (text_lines text) (joined-lines text) q

-- no two are written alike
pub written_apart : (t u : Text) → ProperText t → ProperText u → written t ≡ written u → t ≡ u
written_apart t u h k e =
    let q : whole t ≡ whole u = sym (text-read t h) ∙ ap (λ (l : List ℕ). read_text (text_lines l)) e ∙ text-read u k in
    cc

-- a line that is read is not forbidden, one that is not read is
abbrev NoLine : List ℕ → Type 0
NoLine l = (e : Entry) → Proper e → l ≡ line_text e → ⊥

unread : (l : List ℕ) → read_line l ≡ none → NoLine l
unread l q e h p = not_some (sym q ∙ ap read_line p ∙ line_read e h)

no-model : (l : List ℕ) → read_model l ≡ none → Forbidden 0 l
no-model l q m h p = not_some (sym q ∙ ap read_model p ∙ model-read m h)

no-empty : read_model [] ≡ none
unfolding read_model body bind
no-empty = refl

-- the first bad line
pub record BadAt (n : ℕ) (ls : List (List ℕ)) (p : ℕ) : Type 0 where
  pub index : ℕ
  pub at : p ≡ n + index
  pub below : index < length ls
  pub holds : NoLine (get_or ls index [])
  pub before : (i : ℕ) → i < index → NoLine (get_or ls i []) → ⊥

lines-bad : (n : ℕ) (ls : List (List ℕ)) (p : ℕ) → read_lines n ls ≡ bad_line p → BadAt n ls p
unfolding read_lines line_then
lines-bad n [] p q = let z : ◌≡◌ {A = Judgement (List Entry)} (whole []) (bad_line p) = q in let w : ◌≡◌ {A = ℕ} 0 1 = cc in absurd (omega arith)
lines-bad n (l ∷ ls) p q = go (read_line l) refl (read_lines (suc n) ls) (lines-bad (suc n) ls) refl q
  where
    before' : (e : Entry) → read_line l ≡ some e → (w : BadAt (suc n) ls p) → (i : ℕ) → i < suc w.index → NoLine (get_or (l ∷ ls) i []) → ⊥
    before' e t w zero h f = f e (read-line l e t).0 (read-line l e t).1
    before' e t w (suc i) h f = w.before i (omega arith) f

    go : (o : Option Entry) → read_line l ≡ o → (r : Judgement (List Entry)) → ((p : ℕ) → read_lines (suc n) ls ≡ bad_line p → BadAt (suc n) ls p) → read_lines (suc n) ls ≡ r → line_then n o r ≡ bad_line p → BadAt n (l ∷ ls) p
    go none t r ih u q =
        let z : ◌≡◌ {A = Judgement (List Entry)} (bad_line n) (bad_line p) = q in
        let e : n ≡ p = cc in
        record { index = 0; at = omega arith; below = omega arith; holds = unread l t; before = λ i h f. omega arith }
    go (some e) t (bad_line m) ih u q =
        let z : ◌≡◌ {A = Judgement (List Entry)} (bad_line m) (bad_line p) = q in
        let w : BadAt (suc n) ls p = ih p (u ∙ z) in
        record { index = suc w.index; at = omega (arith, w.at); below = omega (arith, w.below); holds = w.holds; before = before' e t w }
    go (some e) t (whole fs) ih u q = let z : ◌≡◌ {A = Judgement (List Entry)} (whole (e ∷ fs)) (bad_line p) = q in let w : ◌≡◌ {A = ℕ} 0 1 = cc in absurd (omega arith)

-- number p, from 1, is that of the first forbidden line
abbrev FirstIn : List (List ℕ) → ℕ → Type 0
FirstIn ls k = Lowest (λ j. Forbidden j (get_or ls j [])) (max 1 (length ls)) k

pub lines-first : (ls : List (List ℕ)) (p : ℕ) → read_text ls ≡ bad_line p → (k : ℕ) × (p ≡ suc k) × FirstIn ls k
unfolding read_text model_then
lines-first [] p q =
    let z : ◌≡◌ {A = Judgement Text} (bad_line 1) (bad_line p) = q in
    let e : 1 ≡ p = cc in
    (0, sym e, record { below = omega arith; holds = no-model [] no-empty; before = λ i h f. omega arith })
lines-first (l ∷ ls) p q = go (read_model l) refl (read_lines 2 ls) refl q
  where
    before' : (m : ℕ) → read_model l ≡ some m → (w : BadAt 2 ls p) → (i : ℕ) → i < suc w.index → Forbidden i (get_or (l ∷ ls) i []) → ⊥
    before' m t w zero h f = f m (read-model l m t).0 (read-model l m t).1
    before' m t w (suc i) h f = w.before i (omega arith) f

    go : (o : Option ℕ) → read_model l ≡ o → (r : Judgement (List Entry)) → read_lines 2 ls ≡ r → model_then o r ≡ bad_line p → (k : ℕ) × (p ≡ suc k) × FirstIn (l ∷ ls) k
    go none t r u q =
        let z : ◌≡◌ {A = Judgement Text} (bad_line 1) (bad_line p) = q in
        let e : 1 ≡ p = cc in
        (0, sym e, record { below = omega arith; holds = no-model l t; before = λ i h f. omega arith })
    go (some m) t (bad_line n) u q =
        let z : ◌≡◌ {A = Judgement Text} (bad_line n) (bad_line p) = q in
        let e : n ≡ p = cc in
        let w : BadAt 2 ls p = lines-bad 2 ls p (u ∙ ap bad_line e) in
        (suc w.index, omega (arith, w.at), record { below = omega (arith, w.below); holds = w.holds; before = before' m t w })
    go (some m) t (whole es) u q = let z : ◌≡◌ {A = Judgement Text} (whole (record { model = m; lines = es })) (bad_line p) = q in let w : ◌≡◌ {A = ℕ} 0 1 = cc in absurd (omega arith)

-- what is written has no forbidden line
good-lines : (es : List Entry) (j : ℕ) → All Proper es → j < length (map line_text es) → NoLine (get_or (map line_text es) j []) → ⊥
good-lines [] j h b f = omega arith
good-lines (e ∷ es) zero h b f = f e h.0 refl
good-lines (e ∷ es) (suc j) h b f = good-lines es j h.1 (omega arith) f

none_in : (t : Text) → ProperText t → (ls : List (List ℕ)) → ls ≡ model_text t.model ∷ map line_text t.lines → (k : ℕ) → FirstIn ls k → ⊥
none_in t h ls e k w = go k (rw e at w.below) (rw e at w.holds)
  where
    go : (k : ℕ) → k < max 1 (suc (length (map line_text t.lines))) → Forbidden k (get_or (model_text t.model ∷ map line_text t.lines) k []) → ⊥
    go zero b f = f t.model h.known refl
    go (suc j) b f = good-lines t.lines j h.lines (omega arith) f

pub none-bad : (t : Text) → ProperText t → (k : ℕ) → FirstBad (written t) k → ⊥
none-bad t h k w = none_in t h (text_lines (written t)) (text_of t h) k w

-- the first is the only one
pub first-only : (P : ℕ → Type 0) (n k l : ℕ) → Lowest P n k → Lowest P n l → k ≡ l
first-only P n k l v w = go (dec_lt k l) (dec_lt l k)
  where
    go : Dec (k < l) → Dec (l < k) → k ≡ l
    go (yes h) d = absurd (w.before k h v.holds)
    go (no h) (yes g) = absurd (v.before l g w.holds)
    go (no h) (no g) = omega arith
