-- Each step keeps the values that the tokens can still complete.
use Rattle.std.proofs.Common.{◌≡◌, ◌⊎◌, inl, inr, ℕ, zero, suc, ◌<◌, ◌≤◌, Bool, true, false, cond, List, [], ◌∷◌, ◌++◌, append_assoc, append-nil, refl, sym, ◌∙◌, subst, arith, nat_le, nat_lt, Option, Some, None}
use Rattle.std.proofs.lemmas.Bool.{leb-true, ltb-true, and_parts}
use Rattle.std.proofs.lemmas.Option.{none-some, same_Some}
use Rattle.expr_grammar.specs.TokenNames.{Token}
use Rattle.expr_grammar.specs.Terms.{Language, Nonterminal, Class, Symbol, tok, one, maybe, many, longest, Production, level, or_level}
use Rattle.expr_keys.specs.Classes.{fits, begins}
use Rattle.expr_terms.specs.Productions.{body, head, speaks, keeps}
use Rattle.expr_grammar.specs.Grammar.{Derives, by, Seq, end, taken, next, without, with, stop, again, bare, given}
use Rattle.expr_grammar.specs.RawNames.{Raw, leaf}
use Rattle.expr_terms.specs.Raws.{keep, build}
use Rattle.expr_grammar.specs.Machine.{Frame, doing, entered, picked, descend, deep, Way, stuck, moved, through, or_else, along, outcome, climb, advance}
use Rattle.expr_terms.specs.Choices.{choose, second_of}
use Rattle.expr_grammar.proofs.Tables.{grip, first, last, rank, bound, ok, leads, Within, within}
use Rattle.expr_grammar.proofs.Residue.{Feeds, onto, Awaits, Begin, Rest, Under, IsSound, leads_body, ok_body, seq_ahead, feeds_ahead, leads_token, ok_maybe, ok_many, fed, feed}
use Rattle.expr_grammar.proofs.Choice.{IsOf, of_choose, made}

no : {b : Bool} {P : Type 0} → b ≡ true → b ≡ false → P
no a b = cc

-- the front of a production that was opened
abbrev Enters : Language → Raw → Production → List Frame → Token → List Token → List Symbol → Option (List Frame) → Type 0
Enters l w p fs t ts ss None = Awaits l w p [] ss fs (t ∷ ts) → ⊥
Enters l w p fs t ts ss (Some gs) = (Awaits l w p [] ss fs (t ∷ ts) → Rest l w gs ts) × (Rest l w gs ts → Awaits l w p [] ss fs (t ∷ ts)) × IsSound gs × Within (first (head p)) (last (head p)) t

abbrev Descends : Language → Raw → Nonterminal → List Frame → Token → List Token → Option (List Frame) → Type 0
Descends l w n fs t ts None = Begin l w n fs (t ∷ ts) → ⊥
Descends l w n fs t ts (Some gs) = (Begin l w n fs (t ∷ ts) → Rest l w gs ts) × (Rest l w gs ts → Begin l w n fs (t ∷ ts)) × IsSound gs × Within (first n) (last n) t

-- a token that is wanted
kept : (c : Class) (t : Token) (vs us : List Raw) → (vs ++ keep c t []) ++ us ≡ vs ++ keep c t us
kept c t vs us = go (keeps c)
  where
    go : (b : Bool) → (vs ++ cond b (leaf t ∷ []) []) ++ us ≡ vs ++ cond b (leaf t ∷ us) us
    go true = append_assoc vs (leaf t ∷ []) us
    go false = append_assoc vs [] us

untaken : {l : Language} {w : Raw} {p : Production} {vs : List Raw} {fs : List Frame} {t : Token} {ts : List Token} {c : Class} {ss : List Symbol} → Awaits l w p vs (tok c ∷ ss) fs (t ∷ ts) → (fits c t ≡ true) × Awaits l w p (vs ++ keep c t []) ss fs ts
untaken {l = l} {w = w} {p = p} {vs = vs} {fs = fs} {t = t} a = go a.first a.after
  where
    go : {c : Class} {ss : List Symbol} {ts mid : List Token} {us : List Raw} → Seq l (tok c ∷ ss) (t ∷ ts) us mid → Feeds l w fs (build p (vs ++ us)) mid → (fits c t ≡ true) × Awaits l w p (vs ++ keep c t []) ss fs ts
    go {c = c} {mid = mid} (taken {vs = us} f s) k = (f, record { values = us; mid = mid; first = s; after = subst (λ x. Feeds l w fs (build p x) mid) (sym (kept c t vs us)) k })

retaken : {l : Language} {w : Raw} {p : Production} {vs : List Raw} {fs : List Frame} {t : Token} {ts : List Token} {c : Class} {ss : List Symbol} → fits c t ≡ true → Awaits l w p (vs ++ keep c t []) ss fs ts → Awaits l w p vs (tok c ∷ ss) fs (t ∷ ts)
retaken {l = l} {w = w} {p = p} {vs = vs} {fs = fs} {t = t} {c = c} f a = record { values = keep c t a.values; mid = a.mid; first = taken f a.first; after = subst (λ x. Feeds l w fs (build p x) a.mid) (kept c t vs a.values) a.after }

-- a nonterminal that is wanted
begun : {l : Language} {w : Raw} {p : Production} {vs us : List Raw} {fs : List Frame} {ts mid rest : List Token} {n : Nonterminal} {ss : List Symbol} {v : Raw} → Derives l n ts v mid → Seq l ss mid us rest → Feeds l w fs (build p (vs ++ v ∷ us)) rest → Begin l w n (doing p vs ss ∷ fs) ts
begun d s k = record { value = _; mid = _; first = d; after = onto s (rw append_assoc k) }

wanted : {l : Language} {w : Raw} {p : Production} {vs : List Raw} {fs : List Frame} {ts : List Token} {n : Nonterminal} {ss : List Symbol} → Awaits l w p vs (one n ∷ ss) fs ts → Begin l w n (doing p vs ss ∷ fs) ts
wanted {l = l} {w = w} {p = p} {vs = vs} {fs = fs} a = go a.first a.after
  where
    go : {n : Nonterminal} {ss : List Symbol} {ts mid : List Token} {us : List Raw} → Seq l (one n ∷ ss) ts us mid → Feeds l w fs (build p (vs ++ us)) mid → Begin l w n (doing p vs ss ∷ fs) ts
    go (next d s) k = begun d s k

-- .. and what is wanted from what stands in for it
refill : {l : Language} {w : Raw} {p : Production} {vs : List Raw} {fs : List Frame} {ts : List Token} {n : Nonterminal} {ss all : List Symbol} → ((mid rest : List Token) (v : Raw) (us : List Raw) → Derives l n ts v mid → Seq l ss mid us rest → Seq l all ts (v ∷ us) rest) → Begin l w n (doing p vs ss ∷ fs) ts → Awaits l w p vs all fs ts
refill {l = l} {w = w} {p = p} {vs = vs} {fs = fs} {ts = ts} {n = n} {ss = ss} {all = all} make b = go b.first b.after
  where
    go : {mid : List Token} {v : Raw} → Derives l n ts v mid → Feeds l w (doing p vs ss ∷ fs) v mid → Awaits l w p vs all fs ts
    go d (onto s k) = record { values = _; mid = _; first = make _ _ _ _ d s; after = rw append_assoc at k }

starts_less : (n m : Nonterminal) (t : Token) → first m ≤ first n → last n ≤ last m → Within (first n) (last n) t → Within (first m) (last m) t
starts_less n m t a b s = (omega arith, omega arith)

below_deep : (n : Nonterminal) → rank n < deep
unfolding deep
below_deep (level or_level) = omega arith
below_deep _ = omega arith

module _ (l : Language) (w : Raw) (t : Token) (ts : List Token) where
  enters_token : (p : Production) (fs : List Frame) (c : Class) (ss : List Symbol) (b : Bool) → fits c t ≡ b → leads p (tok c ∷ ss) ≡ true → ok p ss ≡ true → Under (head p) fs → Enters l w p fs t ts (tok c ∷ ss) (cond b (Some (doing p (keep c t []) ss ∷ fs)) None)
  enters_token p fs c ss true e h k u =
      let parts = leads_token p c ss h in
      let a = leb-true _ _ parts.0 in
      let b = leb-true _ _ parts.1 in
      let in_class = within c t e in
      let in_head : Within (first (head p)) (last (head p)) t = (omega arith, omega arith) in
      ((λ a. (untaken a).1), (λ a. retaken e a), (k, u), in_head)
  enters_token p fs c ss false e h k u = λ a. no (untaken a).0 e

  enters_one : (p : Production) (fs : List Frame) (n : Nonterminal) (ss : List Symbol) (o : Option (List Frame)) → leads p (one n ∷ ss) ≡ true → Descends l w n (doing p [] ss ∷ fs) t ts o → Enters l w p fs t ts (one n ∷ ss) o
  enters_one p fs n ss None h d = λ a. d (wanted a)
  enters_one p fs n ss (Some gs) h d =
      let parts = and_parts (nat_lt (rank n) (rank (head p))) _ h in
      let more = and_parts (nat_le (first (head p)) (first n)) (nat_le (last n) (last (head p))) parts.1 in
      ((λ a. d.0 (wanted a)), (λ r. refill (λ mid rest v us x s. next x s) (d.1 r)), d.2, starts_less n (head p) t (leb-true _ _ more.0) (leb-true _ _ more.1) d.3)

  enters : (go : Nonterminal → List Frame → Option (List Frame)) (p : Production) (fs : List Frame) (ss : List Symbol) → leads p ss ≡ true → ok p ss ≡ true → Under (head p) fs → ((n : Nonterminal) (gs : List Frame) → rank n < rank (head p) → Under n gs → Descends l w n gs t ts (go n gs)) → Enters l w p fs t ts ss (entered go t p ss fs)
  enters go p fs [] h k u rec = no h refl
  enters go p fs (tok c ∷ ss) h k u rec = enters_token p fs c ss (fits c t) refl h k u
  enters go p fs (one n ∷ ss) h k u rec =
      let parts = and_parts (nat_lt (rank n) (rank (head p))) _ h in
      let low_rank = ltb-true _ _ parts.0 in
      let more = and_parts (bound (grip n) p ss) (ok p ss) k in
      enters_one p fs n ss _ h (rec n (doing p [] ss ∷ fs) low_rank (more.0, more.1, u))
  enters go p fs (maybe n ∷ ss) h k u rec = no h refl
  enters go p fs (many n ∷ ss) h k u rec = no h refl
  enters go p fs (longest n ∷ ss) h k u rec = no h refl

  -- a nonterminal is what its production is
  opened : {n : Nonterminal} {p : Production} {fs : List Frame} → Under n fs → choose n t (second_of ts) ≡ Some p → Begin l w n fs (t ∷ ts) → (speaks l p ≡ true) × Awaits l w p [] (body p) fs (t ∷ ts)
  opened {n = n} {p = p} {fs = fs} u e b =
      let m = made b.first (feeds_ahead n u b.after) in
      let same : m.production ≡ p = same_Some _ _ (sym m.choice ∙ e) in
      let got : (speaks l m.production ≡ true) × Awaits l w m.production [] (body m.production) fs (t ∷ ts) = (m.spoken, record { values = m.values; mid = b.mid; first = m.parts; after = rw m.value b.after }) in
      subst (λ x. (speaks l x ≡ true) × Awaits l w x [] (body x) fs (t ∷ ts)) same got

  unopened : {n : Nonterminal} {p : Production} {fs : List Frame} → speaks l p ≡ true → head p ≡ n → Awaits l w p [] (body p) fs (t ∷ ts) → Begin l w n fs (t ∷ ts)
  unopened {p = p} s e a = record { value = _; mid = a.mid; first = by p s e a.first; after = a.after }

  relay : {n : Nonterminal} {p : Production} (fs : List Frame) (o : Option (List Frame)) → Under n fs → choose n t (second_of ts) ≡ Some p → speaks l p ≡ true → head p ≡ n → Enters l w p fs t ts (body p) o → Descends l w n fs t ts o
  relay fs None u e s h k = λ b. k (opened u e b).1
  relay {n = n} {p = p} fs (Some gs) u e s h k =
      let inside : Within (first n) (last n) t = rw h at k.3 in
      ((λ b. k.0 (opened u e b).1), (λ r. unopened s h (k.1 r)), k.2, inside)

  spoken_steps : (go : Nonterminal → List Frame → Option (List Frame)) (n : Nonterminal) (p : Production) (fs : List Frame) (b : Bool) → speaks l p ≡ b → Under n fs → choose n t (second_of ts) ≡ Some p → head p ≡ n → ((m : Nonterminal) (gs : List Frame) → rank m < rank n → Under m gs → Descends l w m gs t ts (go m gs)) → Descends l w n fs t ts (cond b (entered go t p (body p) fs) None)
  spoken_steps go n p fs true s u e h rec = relay fs _ u e s h (enters go p fs (body p) (leads_body p) (ok_body p) (rw h u) (λ m gs r v. rec m gs (rw h at r) v))
  spoken_steps go n p fs false s u e h rec = λ b. no (opened u e b).0 s

  picks : (go : Nonterminal → List Frame → Option (List Frame)) (n : Nonterminal) (fs : List Frame) (o : Option Production) → choose n t (second_of ts) ≡ o → IsOf n o → Under n fs → ((m : Nonterminal) (gs : List Frame) → rank m < rank n → Under m gs → Descends l w m gs t ts (go m gs)) → Descends l w n fs t ts (picked go l t fs o)
  picks go n fs None e h u rec = λ b. let m = made b.first (feeds_ahead n u b.after) in none-some _ (sym e ∙ m.choice)
  picks go n fs (Some p) e h u rec = spoken_steps go n p fs (speaks l p) refl u e h rec

  pub descends : (d : ℕ) (n : Nonterminal) (fs : List Frame) → rank n < d → Under n fs → Descends l w n fs t ts (descend l d n t (second_of ts) fs)
  descends zero n fs h u = absurd (omega arith)
  descends (suc d) n fs h u = picks (λ m gs. descend l d m t (second_of ts) gs) n fs (choose n t (second_of ts)) refl (of_choose n t ts) u (λ m gs r v. descends d m gs (omega arith) v)

  -- how far the token leads into what a production wants
  abbrev Alongs : Production → List Raw → List Frame → List Symbol → Way → Type 0
  Alongs p vs fs ss stuck = Awaits l w p vs ss fs (t ∷ ts) → ⊥
  Alongs p vs fs ss (moved gs) = (Awaits l w p vs ss fs (t ∷ ts) → Rest l w gs ts) × (Rest l w gs ts → Awaits l w p vs ss fs (t ∷ ts)) × IsSound gs
  Alongs p vs fs ss through = (Awaits l w p vs ss fs (t ∷ ts) → Feeds l w fs (build p vs) (t ∷ ts)) × (Feeds l w fs (build p vs) (t ∷ ts) → Awaits l w p vs ss fs (t ∷ ts))

  ends_here : {p : Production} {vs : List Raw} {fs : List Frame} → Awaits l w p vs [] fs (t ∷ ts) → Feeds l w fs (build p vs) (t ∷ ts)
  ends_here {p = p} {vs = vs} {fs = fs} a = go a.first a.after
    where
      go : {us : List Raw} {xs mid : List Token} → Seq l [] xs us mid → Feeds l w fs (build p (vs ++ us)) mid → Feeds l w fs (build p vs) xs
      go end k = rw append-nil at k

  ended_here : {p : Production} {vs : List Raw} {fs : List Frame} → Feeds l w fs (build p vs) (t ∷ ts) → Awaits l w p vs [] fs (t ∷ ts)
  ended_here k = record { values = []; mid = _; first = end; after = rw append-nil k }

  token_along : (p : Production) (vs : List Raw) (fs : List Frame) (c : Class) (ss : List Symbol) (b : Bool) → fits c t ≡ b → ok p ss ≡ true → Under (head p) fs → Alongs p vs fs (tok c ∷ ss) (cond b (moved (doing p (vs ++ keep c t []) ss ∷ fs)) stuck)
  token_along p vs fs c ss true e k u = ((λ a. (untaken a).1), (λ a. retaken e a), (k, u))
  token_along p vs fs c ss false e k u = λ a. no (untaken a).0 e

  one_along : (p : Production) (vs : List Raw) (fs : List Frame) (n : Nonterminal) (ss : List Symbol) (o : Option (List Frame)) → Descends l w n (doing p vs ss ∷ fs) t ts o → Alongs p vs fs (one n ∷ ss) (or_else o stuck)
  one_along p vs fs n ss None d = λ a. d (wanted a)
  one_along p vs fs n ss (Some gs) d = ((λ a. d.0 (wanted a)), (λ r. refill (λ mid rest v us x s. next x s) (d.1 r)), d.2)

  -- what may be left out: the token that begins it may not follow it
  apart : (p : Production) (vs : List Raw) (fs : List Frame) (n : Nonterminal) (ss : List Symbol) → bound (suc (last n)) p ss ≡ true → ok p ss ≡ true → Under (head p) fs → Within (first n) (last n) t → Awaits l w p vs ss fs (t ∷ ts) → ⊥
  apart p vs fs n ss h k u f a =
      let ahead = seq_ahead (suc (last n)) p (omega arith) h k a.first (feeds_ahead (head p) u a.after) in
      let far = ahead.0 in
      let near = f.1 in
      omega arith

  optional : (p : Production) (vs : List Raw) (fs : List Frame) (n : Nonterminal) (all ss hs : List Symbol) (o : Option (List Frame)) (way : Way) → (Awaits l w p vs all fs (t ∷ ts) → Begin l w n (doing p vs hs ∷ fs) (t ∷ ts) ⊎ Awaits l w p vs ss fs (t ∷ ts)) → (Begin l w n (doing p vs hs ∷ fs) (t ∷ ts) → Awaits l w p vs all fs (t ∷ ts)) → (Awaits l w p vs ss fs (t ∷ ts) → Awaits l w p vs all fs (t ∷ ts)) → (Within (first n) (last n) t → Awaits l w p vs ss fs (t ∷ ts) → ⊥) → Descends l w n (doing p vs hs ∷ fs) t ts o → Alongs p vs fs ss way → Alongs p vs fs all (or_else o way)
  optional p vs fs n all ss hs (Some gs) way split left right clash d k = ((λ a. go (split a)), (λ r. left (d.1 r)), d.2)
    where
      go : Begin l w n (doing p vs hs ∷ fs) (t ∷ ts) ⊎ Awaits l w p vs ss fs (t ∷ ts) → Rest l w gs ts
      go (inl b) = d.0 b
      go (inr a) = absurd (clash d.3 a)
  optional p vs fs n all ss hs None stuck split left right clash d k = λ a. go (split a)
    where
      go : Begin l w n (doing p vs hs ∷ fs) (t ∷ ts) ⊎ Awaits l w p vs ss fs (t ∷ ts) → ⊥
      go (inl b) = d b
      go (inr a) = k a
  optional p vs fs n all ss hs None (moved gs) split left right clash d k = ((λ a. go (split a)), (λ r. right (k.1 r)), k.2)
    where
      go : Begin l w n (doing p vs hs ∷ fs) (t ∷ ts) ⊎ Awaits l w p vs ss fs (t ∷ ts) → Rest l w gs ts
      go (inl b) = absurd (d b)
      go (inr a) = k.0 a
  optional p vs fs n all ss hs None through split left right clash d k = ((λ a. go (split a)), (λ r. right (k.1 r)))
    where
      go : Begin l w n (doing p vs hs ∷ fs) (t ∷ ts) ⊎ Awaits l w p vs ss fs (t ∷ ts) → Feeds l w fs (build p vs) (t ∷ ts)
      go (inl b) = absurd (d b)
      go (inr a) = k.0 a

  maybe_split : {p : Production} {vs : List Raw} {fs : List Frame} {n : Nonterminal} {ss : List Symbol} → Awaits l w p vs (maybe n ∷ ss) fs (t ∷ ts) → Begin l w n (doing p vs ss ∷ fs) (t ∷ ts) ⊎ Awaits l w p vs ss fs (t ∷ ts)
  maybe_split {p = p} {vs = vs} {fs = fs} a = go a.first a.after
    where
      go : {n : Nonterminal} {ss : List Symbol} {us : List Raw} {xs mid : List Token} → Seq l (maybe n ∷ ss) xs us mid → Feeds l w fs (build p (vs ++ us)) mid → Begin l w n (doing p vs ss ∷ fs) xs ⊎ Awaits l w p vs ss fs xs
      go (with d s) k = inl (begun d s k)
      go (without s) k = inr (record { values = _; mid = _; first = s; after = k })

  many_split : {p : Production} {vs : List Raw} {fs : List Frame} {n : Nonterminal} {ss : List Symbol} → Awaits l w p vs (many n ∷ ss) fs (t ∷ ts) → Begin l w n (doing p vs (many n ∷ ss) ∷ fs) (t ∷ ts) ⊎ Awaits l w p vs ss fs (t ∷ ts)
  many_split {p = p} {vs = vs} {fs = fs} a = go a.first a.after
    where
      go : {n : Nonterminal} {ss : List Symbol} {us : List Raw} {xs mid : List Token} → Seq l (many n ∷ ss) xs us mid → Feeds l w fs (build p (vs ++ us)) mid → Begin l w n (doing p vs (many n ∷ ss) ∷ fs) xs ⊎ Awaits l w p vs ss fs xs
      go (again d s) k = inl (begun d s k)
      go (stop s) k = inr (record { values = _; mid = _; first = s; after = k })

  longest_given : {p : Production} {vs : List Raw} {fs : List Frame} {n : Nonterminal} {ss : List Symbol} → begins n t ≡ true → Awaits l w p vs (longest n ∷ ss) fs (t ∷ ts) → Begin l w n (doing p vs ss ∷ fs) (t ∷ ts)
  longest_given {p = p} {vs = vs} {fs = fs} e a = go e a.first a.after
    where
      go : {n : Nonterminal} {ss : List Symbol} {us : List Raw} {mid : List Token} → begins n t ≡ true → Seq l (longest n ∷ ss) (t ∷ ts) us mid → Feeds l w fs (build p (vs ++ us)) mid → Begin l w n (doing p vs ss ∷ fs) (t ∷ ts)
      go e (given f d s) k = begun d s k
      go e (bare f s) k = no e f

  longest_bare : {p : Production} {vs : List Raw} {fs : List Frame} {n : Nonterminal} {ss : List Symbol} → begins n t ≡ false → Awaits l w p vs (longest n ∷ ss) fs (t ∷ ts) → Awaits l w p vs ss fs (t ∷ ts)
  longest_bare {p = p} {vs = vs} {fs = fs} e a = go e a.first a.after
    where
      go : {n : Nonterminal} {ss : List Symbol} {us : List Raw} {mid : List Token} → begins n t ≡ false → Seq l (longest n ∷ ss) (t ∷ ts) us mid → Feeds l w fs (build p (vs ++ us)) mid → Awaits l w p vs ss fs (t ∷ ts)
      go e (given f d s) k = no f e
      go e (bare f s) k = record { values = _; mid = _; first = s; after = k }

  given_along : (p : Production) (vs : List Raw) (fs : List Frame) (n : Nonterminal) (ss : List Symbol) (o : Option (List Frame)) → begins n t ≡ true → Descends l w n (doing p vs ss ∷ fs) t ts o → Alongs p vs fs (longest n ∷ ss) (or_else o stuck)
  given_along p vs fs n ss None e d = λ a. d (longest_given e a)
  given_along p vs fs n ss (Some gs) e d = ((λ a. d.0 (longest_given e a)), (λ r. refill (λ mid rest v us x s. given e x s) (d.1 r)), d.2)

  bare_along : (p : Production) (vs : List Raw) (fs : List Frame) (n : Nonterminal) (ss : List Symbol) (way : Way) → begins n t ≡ false → Alongs p vs fs ss way → Alongs p vs fs (longest n ∷ ss) way
  bare_along p vs fs n ss stuck e k = λ a. k (longest_bare e a)
  bare_along p vs fs n ss (moved gs) e k = ((λ a. k.0 (longest_bare e a)), (λ r. let a = k.1 r in record { values = a.values; mid = a.mid; first = bare e a.first; after = a.after }), k.2)
  bare_along p vs fs n ss through e k = ((λ a. k.0 (longest_bare e a)), (λ r. let a = k.1 r in record { values = a.values; mid = a.mid; first = bare e a.first; after = a.after }))

  longest_along : (p : Production) (vs : List Raw) (fs : List Frame) (n : Nonterminal) (ss : List Symbol) (b : Bool) (o : Option (List Frame)) (way : Way) → begins n t ≡ b → Descends l w n (doing p vs ss ∷ fs) t ts o → Alongs p vs fs ss way → Alongs p vs fs (longest n ∷ ss) (cond b (or_else o stuck) way)
  longest_along p vs fs n ss true o way e d k = given_along p vs fs n ss o e d
  longest_along p vs fs n ss false o way e d k = bare_along p vs fs n ss way e k

  alongs : (p : Production) (vs : List Raw) (fs : List Frame) (ss : List Symbol) → ok p ss ≡ true → Under (head p) fs → Alongs p vs fs ss (along l t (second_of ts) p vs fs ss)
  alongs p vs fs [] k u = ((λ a. ends_here a), (λ f. ended_here f))
  alongs p vs fs (tok c ∷ ss) k u = token_along p vs fs c ss (fits c t) refl k u
  alongs p vs fs (one n ∷ ss) k u =
      let parts = and_parts (bound (grip n) p ss) (ok p ss) k in
      one_along p vs fs n ss _ (descends deep n (doing p vs ss ∷ fs) (below_deep n) (parts.0, parts.1, u))
  alongs p vs fs (maybe n ∷ ss) k u =
      let parts = ok_maybe p n ss k in
      optional p vs fs n (maybe n ∷ ss) ss ss _ _ (λ a. maybe_split a) (λ b. refill (λ mid rest v us x s. with x s) b) (λ a. record { values = a.values; mid = a.mid; first = without a.first; after = a.after }) (λ f a. apart p vs fs n ss parts.2 parts.1 u f a) (descends deep n (doing p vs ss ∷ fs) (below_deep n) (parts.0, parts.1, u)) (alongs p vs fs ss parts.1 u)
  alongs p vs fs (many n ∷ ss) k u =
      let parts = ok_many p n ss k in
      optional p vs fs n (many n ∷ ss) ss (many n ∷ ss) _ _ (λ a. many_split a) (λ b. refill (λ mid rest v us x s. again x s) b) (λ a. record { values = a.values; mid = a.mid; first = stop a.first; after = a.after }) (λ f a. apart p vs fs n ss parts.2 parts.1 u f a) (descends deep n (doing p vs (many n ∷ ss) ∷ fs) (below_deep n) (parts.0, k, u)) (alongs p vs fs ss parts.1 u)
  alongs p vs fs (longest n ∷ ss) k u =
      let parts = and_parts (bound (grip n) p ss) (ok p ss) k in
      longest_along p vs fs n ss (begins n t) _ _ refl (descends deep n (doing p vs ss ∷ fs) (below_deep n) (parts.0, parts.1, u)) (alongs p vs fs ss parts.1 u)

  -- The frames go on to the next exactly where their rest does, or nothing follows.
  abbrev pub Steps : List Frame → Option (List Frame) → Type 0
  Steps fs None = Rest l w fs (t ∷ ts) → ⊥
  Steps fs (Some gs) = (Rest l w fs (t ∷ ts) → Rest l w gs ts) × (Rest l w gs ts → Rest l w fs (t ∷ ts)) × IsSound gs

  abbrev Onward : List Frame → Raw → Option (List Frame) → Type 0
  Onward fs v None = Feeds l w fs v (t ∷ ts) → ⊥
  Onward fs v (Some gs) = (Feeds l w fs v (t ∷ ts) → Rest l w gs ts) × (Rest l w gs ts → Feeds l w fs v (t ∷ ts)) × IsSound gs

  join : (p : Production) (vs : List Raw) (ss : List Symbol) (fs : List Frame) (way : Way) (o : Option (List Frame)) → Alongs p vs fs ss way → Onward fs (build p vs) o → Steps (doing p vs ss ∷ fs) (outcome way o)
  join p vs ss fs stuck o a b = a
  join p vs ss fs (moved gs) o a b = a
  join p vs ss fs through None a b = λ r. b (a.0 r)
  join p vs ss fs through (Some gs) a b = ((λ r. b.0 (a.0 r)), (λ r. a.1 (b.1 r)), b.2)

  not_over : {v : Raw} → Feeds l w [] v (t ∷ ts) → ⊥
  not_over k = elim k [ ]

  onward : (p : Production) (us : List Raw) (v : Raw) (ss : List Symbol) (fs : List Frame) (o : Option (List Frame)) → Steps (doing p (us ++ v ∷ []) ss ∷ fs) o → Onward (doing p us ss ∷ fs) v o
  onward p us v ss fs None s = λ f. s (fed f)
  onward p us v ss fs (Some gs) s = ((λ f. s.0 (fed f)), (λ r. feed (s.1 r)), s.2)

  climbs : (fs : List Frame) (p : Production) (vs : List Raw) (ss : List Symbol) → ok p ss ≡ true → Under (head p) fs → Steps (doing p vs ss ∷ fs) (climb l t (second_of ts) fs p vs ss)
  climbs [] p vs ss k u = join p vs ss [] _ None (alongs p vs [] ss k u) (λ f. not_over f)
  climbs (doing q us rs ∷ fs) p vs ss k u = join p vs ss (doing q us rs ∷ fs) _ _ (alongs p vs (doing q us rs ∷ fs) ss k u) (onward q us (build p vs) rs fs _ (climbs fs q (us ++ build p vs ∷ []) rs u.1 u.2))

  pub steps : (fs : List Frame) → IsSound fs → Steps fs (advance l t (second_of ts) fs)
  steps [] s = absurd s
  steps (doing p vs ss ∷ fs) s = climbs fs p vs ss s.0 s.1
