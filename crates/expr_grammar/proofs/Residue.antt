-- What may still come: the tokens that complete the open productions to a value.
use Rattle.std.proofs.Common.{◌≡◌, ◌⊎◌, inl, inr, not, ◌||◌, subst, ℕ, suc, ◌≤◌, Bool, true, false, ◌&&◌, List, [], ◌∷◌, ◌++◌, refl, sym, ap, arith, nat_le, nat_lt}
use Rattle.std.proofs.lemmas.Bool.{leb-true, ltb-true, and_parts, or_cases, and_left, and_right, not-true}
use Rattle.expr_grammar.specs.Keys.{open_brace}
use Rattle.expr_grammar.specs.TokenNames.{Token}
use Rattle.expr_keys.specs.Tokens.{binding_power, fits_key, fits_name}
use Rattle.expr_grammar.specs.Terms.{Language, Nonterminal, Class, Symbol, tok, maybe, many, Production}
use Rattle.expr_keys.specs.Classes.{fits}
use Rattle.expr_terms.specs.Productions.{body, head}
use Rattle.expr_grammar.specs.RawNames.{Raw}
use Rattle.expr_terms.specs.Raws.{build}
use Rattle.expr_grammar.specs.Grammar.{Derives, by, Seq, end, taken, next, without, with, stop, again, bare, given}
use Rattle.expr_grammar.specs.Machine.{Frame, doing}
use Rattle.expr_terms.specs.Choices.{open_next, named_open}
use Rattle.expr_grammar.specs.TokenNames as token
use Rattle.expr_grammar.specs.Terms as g
use Rattle.expr_grammar.proofs.Tables.{grip, first, last, rank, low, high, bound, ok, leads, all_fine, plain, shuts, grip_one, is_key, Within, within}

-- the value completes the frames to w
pub data Feeds (l : Language) (w : Raw) : List Frame → Raw → List Token → Type 0 where
  over : Feeds l w [] w []
  onto : {p : Production} {vs us : List Raw} {ss : List Symbol} {fs : List Frame} {v : Raw} {ts mid : List Token} → Seq l ss ts us mid → Feeds l w fs (build p ((vs ++ v ∷ []) ++ us)) mid → Feeds l w (doing p vs ss ∷ fs) v ts

-- what a production still wants, and then its frames
pub record Awaits (l : Language) (w : Raw) (p : Production) (vs : List Raw) (ss : List Symbol) (fs : List Frame) (ts : List Token) : Type 0 where
  pub values : List Raw
  pub mid : List Token
  pub first : Seq l ss ts values mid
  pub after : Feeds l w fs (build p (vs ++ values)) mid

-- a nonterminal, and then its frames
pub record Begin (l : Language) (w : Raw) (n : Nonterminal) (fs : List Frame) (ts : List Token) : Type 0 where
  pub value : Raw
  pub mid : List Token
  pub first : Derives l n ts value mid
  pub after : Feeds l w fs value mid

abbrev pub Rest : Language → Raw → List Frame → List Token → Type 0
Rest l w [] ts = ⊥
Rest l w (doing p vs ss ∷ fs) ts = Awaits l w p vs ss fs ts

-- the frames want what stands in for the nonterminal
abbrev pub Under : Nonterminal → List Frame → Type 0
Under n [] = Unit {0}
Under n (doing q us rs ∷ fs) = (bound (grip n) q rs ≡ true) × (ok q rs ≡ true) × Under (head q) fs

abbrev pub IsSound : List Frame → Type 0
IsSound [] = ⊥
IsSound (doing p vs ss ∷ fs) = (ok p ss ≡ true) × Under (head p) fs

pub leads_body : (p : Production) → leads p (body p) ≡ true
leads_body p = (and_parts (leads p (body p)) (ok p (body p)) (all_fine p)).0

pub ok_body : (p : Production) → ok p (body p) ≡ true
ok_body p = (and_parts (leads p (body p)) (ok p (body p)) (all_fine p)).1

never : {P : Type 0} → false ≡ true → P
never e = cc

pub leads_token : (p : Production) (c : Class) (ss : List Symbol) → leads p (tok c ∷ ss) ≡ true → (nat_le (first (head p)) (low c) ≡ true) × (nat_le (high c) (last (head p)) ≡ true) × (not (fits c (token.key open_brace)) ≡ true) × ((nat_lt (first (head p)) 1 || (plain c || shuts ss)) ≡ true)
leads_token p c ss h =
    let halves = and_parts (nat_le (first (head p)) (low c) && nat_le (high c) (last (head p))) (not (fits c (token.key open_brace)) && (nat_lt (first (head p)) 1 || (plain c || shuts ss))) h in
    let left = and_parts (nat_le (first (head p)) (low c)) (nat_le (high c) (last (head p))) halves.0 in
    let right = and_parts (not (fits c (token.key open_brace))) (nat_lt (first (head p)) 1 || (plain c || shuts ss)) halves.1 in
    (left.0, left.1, right.0, right.1)

calm_class : (p : Production) (c : Class) (ss : List Symbol) → leads p (tok c ∷ ss) ≡ true → 1 ≤ first (head p) → (plain c || shuts ss) ≡ true
calm_class p c ss h g = go (or_cases _ _ (leads_token p c ss h).3)
  where
    go : (nat_lt (first (head p)) 1 ≡ true) ⊎ ((plain c || shuts ss) ≡ true) → (plain c || shuts ss) ≡ true
    go (inl x) = let y = ltb-true _ _ x in absurd (omega arith)
    go (inr y) = y

-- what may be left out: what is after it
pub ok_maybe : (p : Production) (n : Nonterminal) (ss : List Symbol) → ok p (maybe n ∷ ss) ≡ true → (bound (grip n) p ss ≡ true) × (ok p ss ≡ true) × (bound (suc (last n)) p ss ≡ true)
ok_maybe p n ss k =
    let parts = and_parts (bound (grip n) p ss) (bound (suc (last n)) p ss && ok p ss) k in
    let more = and_parts (bound (suc (last n)) p ss) (ok p ss) parts.1 in
    (parts.0, more.1, more.0)

pub ok_many : (p : Production) (n : Nonterminal) (ss : List Symbol) → ok p (many n ∷ ss) ≡ true → (bound (grip n) p (many n ∷ ss) ≡ true) × (ok p ss ≡ true) × (bound (suc (last n)) p ss ≡ true)
ok_many p n ss k =
    let parts = and_parts (bound (grip n) p (many n ∷ ss)) (bound (suc (last n)) p ss && ok p ss) k in
    let more = and_parts (bound (suc (last n)) p ss) (ok p ss) parts.1 in
    (parts.0, more.1, more.0)

abbrev pub Starts : Nonterminal → List Token → Type 0
Starts n [] = ⊥
Starts n (t ∷ ts) = Within (first n) (last n) t

starts_wider : (n m : Nonterminal) (ts : List Token) → first m ≤ first n → last n ≤ last m → Starts n ts → Starts m ts
starts_wider n m [] a b s = s
starts_wider n m (t ∷ ts) a b s = (omega arith, omega arith)

-- each nonterminal takes a token, of a place that it may begin with
mutual
  pub starts : {l : Language} {n : Nonterminal} {ts mid : List Token} {v : Raw} → Derives l n ts v mid → Starts n ts
  starts (by p s e q) = rw e at (leads_start p (leads_body p) q)

  leads_start : {l : Language} (p : Production) {ss : List Symbol} {ts mid : List Token} {vs : List Raw} → leads p ss ≡ true → Seq l ss ts vs mid → Starts (head p) ts
  leads_start p h end = never h
  leads_start p h (taken {c = c} {ss = ss} {t = t} f s) =
      let parts = leads_token p c ss h in
      let a = leb-true _ _ parts.0 in
      let b = leb-true _ _ parts.1 in
      let w = within c t f in
      (omega arith, omega arith)
  leads_start p h (next {n = n} {ts = ts} d s) =
      let parts = and_parts (nat_lt (rank n) (rank (head p))) _ h in
      let more = and_parts (nat_le (first (head p)) (first n)) (nat_le (last n) (last (head p))) parts.1 in
      starts_wider n (head p) ts (leb-true _ _ more.0) (leb-true _ _ more.1) (starts d)
  leads_start p h (without s) = never h
  leads_start p h (with d s) = never h
  leads_start p h (stop s) = never h
  leads_start p h (again d s) = never h
  leads_start p h (bare e s) = never h
  leads_start p h (given e d s) = never h

-- none begins with '{'
unbraced : (c : Class) (t : Token) → not (fits c (token.key open_brace)) ≡ true → fits c t ≡ true → fits_key open_brace t ≡ false
unbraced c t h f = go (fits_key open_brace t) refl
  where
    go : (b : Bool) → fits_key open_brace t ≡ b → b ≡ false
    go true e =
        let same = is_key open_brace t e in
        let f2 : fits c (token.key open_brace) ≡ true = subst (λ x. fits c x ≡ true) (sym same) f in
        let f3 = not-true _ h in
        cc
    go false e = refl

mutual
  no_brace : {l : Language} {n : Nonterminal} {ts mid : List Token} {v : Raw} → Derives l n ts v mid → open_next ts ≡ false
  no_brace (by p s e q) = lead_brace p (leads_body p) q

  lead_brace : {l : Language} (p : Production) {ss : List Symbol} {ts mid : List Token} {vs : List Raw} → leads p ss ≡ true → Seq l ss ts vs mid → open_next ts ≡ false
  lead_brace p h end = never h
  lead_brace p h (taken {c = c} {ss = ss} {t = t} f s) = unbraced c t (leads_token p c ss h).2 f
  lead_brace p h (next d s) = no_brace d
  lead_brace p h (without s) = never h
  lead_brace p h (with d s) = never h
  lead_brace p h (stop s) = never h
  lead_brace p h (again d s) = never h
  lead_brace p h (bare e s) = never h
  lead_brace p h (given e d s) = never h

seq_brace : {l : Language} {ss : List Symbol} {ts mid : List Token} {vs : List Raw} → shuts ss ≡ true → Seq l ss ts vs mid → open_next mid ≡ false → open_next ts ≡ false
seq_brace h end a = a
seq_brace h (taken {c = c} {t = t} f s) a = unbraced c t h f
seq_brace h (next d s) a = no_brace d
seq_brace h (without s) a = seq_brace h s a
seq_brace h (with d s) a = no_brace d
seq_brace h (stop s) a = seq_brace h s a
seq_brace h (again d s) a = no_brace d
seq_brace h (bare e s) a = seq_brace h s a
seq_brace h (given e d s) a = no_brace d

-- what comes has at least the place, and is not a name with '{' after it
abbrev pub Ahead : ℕ → List Token → Type 0
Ahead g [] = Unit {0}
Ahead g (t ∷ ts) = (g ≤ binding_power t) × (named_open t ts ≡ false)

pub ahead_less : (g h : ℕ) (ts : List Token) → g ≤ h → Ahead h ts → Ahead g ts
ahead_less g h [] e a = tt
ahead_less g h (t ∷ ts) e a = (omega arith, a.1)

ahead_brace : (ts : List Token) (g : ℕ) → 1 ≤ g → Ahead g ts → open_next ts ≡ false
ahead_brace [] g h a = refl
ahead_brace (t ∷ ts) g h a = go (fits_key open_brace t) refl
  where
    go : (b : Bool) → fits_key open_brace t ≡ b → b ≡ false
    go true e =
        let same = ap binding_power (is_key open_brace t e) in
        let far = a.0 in
        absurd (omega arith)
    go false e = refl

plain_name : (c : Class) (t : Token) → plain c ≡ true → fits c t ≡ true → fits_name t ≡ false
plain_name (g.key k) t h f = subst (λ x. fits_name x ≡ false) (is_key k t f) (not-true _ h)
plain_name g.child_tag_open (token.child_tag_open p m) h f = refl
plain_name g.child_tag_open _ h f = never f
plain_name g.start_tag_open (token.start_tag_open p m) h f = refl
plain_name g.start_tag_open _ h f = never f
plain_name g.end_tag (token.end_tag p m) h f = refl
plain_name g.end_tag _ h f = never f
plain_name g.attribute (token.attribute p m) h f = refl
plain_name g.attribute _ h f = never f
plain_name g.attribute_end token.attribute_end h f = refl
plain_name g.attribute_end _ h f = never f
plain_name g.tag_end token.tag_end h f = refl
plain_name g.tag_end _ h f = never f
plain_name g.empty_end token.empty_end h f = refl
plain_name g.empty_end _ h f = never f
plain_name g.chars (token.chars m b) h f = refl
plain_name g.chars _ h f = never f
plain_name g.enclosed_open token.enclosed_open h f = refl
plain_name g.enclosed_open _ h f = never f
plain_name _ t h f = never h

abbrev Calm : List Token → Type 0
Calm [] = Unit {0}
Calm (t ∷ ts) = named_open t ts ≡ false

ahead_from : (n : Nonterminal) (g : ℕ) (ts : List Token) → g ≤ first n → Starts n ts → Calm ts → Ahead g ts
ahead_from n g [] e s c = tt
ahead_from n g (t ∷ ts) e s c = let a = s.0 in (omega arith, c)

-- a token of the class, with what is after it
token_calm : {l : Language} (p : Production) (c : Class) {ss : List Symbol} (t : Token) {ts mid : List Token} {us : List Raw} → (plain c || shuts ss) ≡ true → fits c t ≡ true → Seq l ss ts us mid → Ahead (grip (head p)) mid → named_open t ts ≡ false
token_calm p c {ss = ss} t {ts = ts} {mid = mid} h f s a = go (or_cases _ _ h)
  where
    go : (plain c ≡ true) ⊎ (shuts ss ≡ true) → named_open t ts ≡ false
    go (inl x) = and_left _ _ (plain_name c t x f)
    go (inr y) = and_right _ _ (seq_brace y s (ahead_brace mid (grip (head p)) (grip_one (head p)) a))

-- what comes next at the symbols has at least the place that they promise
mutual
  calms : {l : Language} {n : Nonterminal} {ts mid : List Token} {v : Raw} → 1 ≤ first n → Derives l n ts v mid → Ahead (grip n) mid → Calm ts
  calms h (by p s e q) a = lead_calm p (leads_body p) (ok_body p) (rw e h) q (rw e a)

  lead_calm : {l : Language} (p : Production) {ss : List Symbol} {ts mid : List Token} {vs : List Raw} → leads p ss ≡ true → ok p ss ≡ true → 1 ≤ first (head p) → Seq l ss ts vs mid → Ahead (grip (head p)) mid → Calm ts
  lead_calm p h k g end a = never h
  lead_calm p h k g (taken {c = c} {ss = ss} {t = t} {ts = ts} f s) a = token_calm p c t (calm_class p c ss h g) f s a
  lead_calm p h k g (next {n = n} {ss = ss} d s) a =
      let parts = and_parts (nat_lt (rank n) (rank (head p))) _ h in
      let more = and_parts (nat_le (first (head p)) (first n)) (nat_le (last n) (last (head p))) parts.1 in
      let low_first = leb-true _ _ more.0 in
      let rest = and_parts (bound (grip n) p ss) (ok p ss) k in
      calms (omega arith) d (seq_ahead (grip n) p (grip_one n) rest.0 rest.1 s a)
  lead_calm p h k g (without s) a = never h
  lead_calm p h k g (with d s) a = never h
  lead_calm p h k g (stop s) a = never h
  lead_calm p h k g (again d s) a = never h
  lead_calm p h k g (bare e s) a = never h
  lead_calm p h k g (given e d s) a = never h

  pub seq_ahead : {l : Language} (g : ℕ) (p : Production) {ss : List Symbol} {ts mid : List Token} {vs : List Raw} → 1 ≤ g → bound g p ss ≡ true → ok p ss ≡ true → Seq l ss ts vs mid → Ahead (grip (head p)) mid → Ahead g ts
  seq_ahead g p z b k (end {ts = ts}) a = ahead_less g (grip (head p)) ts (leb-true _ _ b) a
  seq_ahead g p z b k (taken {c = c} {ss = ss} {t = t} f s) a =
      let parts = and_parts (nat_le g (low c)) (plain c || shuts ss) b in
      let w = within c t f in
      let h = leb-true _ _ parts.0 in
      (omega arith, token_calm p c t parts.1 f s a)
  seq_ahead g p z b k (next {n = n} {ss = ss} {ts = ts} d s) a =
      let rest = and_parts (bound (grip n) p ss) (ok p ss) k in
      let h = leb-true _ _ b in
      ahead_from n g ts h (starts d) (calms (omega arith) d (seq_ahead (grip n) p (grip_one n) rest.0 rest.1 s a))
  seq_ahead g p z b k (without {n = n} {ss = ss} s) a = seq_ahead g p z (and_parts (nat_le g (first n)) _ b).1 (ok_maybe p n ss k).1 s a
  seq_ahead g p z b k (with {n = n} {ss = ss} {ts = ts} d s) a =
      let rest = ok_maybe p n ss k in
      let h = leb-true _ _ (and_parts (nat_le g (first n)) _ b).0 in
      ahead_from n g ts h (starts d) (calms (omega arith) d (seq_ahead (grip n) p (grip_one n) rest.0 rest.1 s a))
  seq_ahead g p z b k (stop {n = n} {ss = ss} s) a = seq_ahead g p z (and_parts (nat_le g (first n)) _ b).1 (ok_many p n ss k).1 s a
  seq_ahead g p z b k (again {n = n} {ss = ss} {ts = ts} d s) a =
      let h = leb-true _ _ (and_parts (nat_le g (first n)) _ b).0 in
      ahead_from n g ts h (starts d) (calms (omega arith) d (seq_ahead (grip n) p (grip_one n) (ok_many p n ss k).0 k s a))
  seq_ahead g p z b k (bare {n = n} {ss = ss} e s) a = seq_ahead g p z (and_parts (nat_le g (first n)) _ b).1 (and_parts (bound (grip n) p ss) (ok p ss) k).1 s a
  seq_ahead g p z b k (given {n = n} {ss = ss} {ts = ts} e d s) a =
      let rest = and_parts (bound (grip n) p ss) (ok p ss) k in
      let h = leb-true _ _ (and_parts (nat_le g (first n)) _ b).0 in
      ahead_from n g ts h (starts d) (calms (omega arith) d (seq_ahead (grip n) p (grip_one n) rest.0 rest.1 s a))

pub feeds_ahead : {l : Language} {w : Raw} (n : Nonterminal) {fs : List Frame} {v : Raw} {ts : List Token} → Under n fs → Feeds l w fs v ts → Ahead (grip n) ts
feeds_ahead n u over = tt
feeds_ahead n u (onto {p = p} s k) = seq_ahead (grip n) p (grip_one n) u.0 u.1 s (feeds_ahead (head p) u.2 k)

-- what a production wants, in the form of its value
pub fed : {l : Language} {w : Raw} {p : Production} {vs : List Raw} {ss : List Symbol} {fs : List Frame} {v : Raw} {ts : List Token} → Feeds l w (doing p vs ss ∷ fs) v ts → Awaits l w p (vs ++ v ∷ []) ss fs ts
fed (onto s k) = record { values = _; mid = _; first = s; after = k }

pub feed : {l : Language} {w : Raw} {p : Production} {vs : List Raw} {ss : List Symbol} {fs : List Frame} {v : Raw} {ts : List Token} → Awaits l w p (vs ++ v ∷ []) ss fs ts → Feeds l w (doing p vs ss ∷ fs) v ts
feed a = onto a.first a.after
