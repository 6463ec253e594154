-- The steps in an attribute.
use Rattle.std.proofs.Common.{◌≡◌, ℕ, List, [], ◌∷◌, ◌++◌, refl, sym, subst, Bool, true, false, cond, Some, None, ◌==◌}
use Rattle.std.proofs.lemmas.Bool.{eqb-true}
use Rattle.xt_tree.specs.declared.trees.Tree.{Tree}
use Rattle.doc_grammar.specs.Characters.{is_value, as_value}
use Rattle.doc_grammar.specs.RawNames.{RawName, RawTag, with_attribute}
use Rattle.doc_grammar.specs.Lexemes.{Spaces}
use Rattle.doc_grammar.specs.Lexemes as lexemes
use Rattle.doc_grammar.specs.Document.{Rules, Spaced, Valued}
use Rattle.doc_grammar.specs.Document as doc
use Rattle.doc_grammar.specs.Lexing.{Ref, RefStep, ref_step, ampersand}
use Rattle.doc_grammar.specs.Lexing as lexing
use Rattle.doc_grammar.specs.Machine.{Stack, NameState, reading, NameStep, on, behind_name, fails, name_step, tagged, assigned, valued, value_refers, behind_spaced, in_attribute, in_equals, in_value_reference}
use Rattle.doc_grammar.proofs.CharacterFacts.{equals_space, space_starts, ampersand_quote, quote_value, ampersand_value}
use Rattle.doc_grammar.proofs.ReferenceSteps.{RefGoes, references_go}
use Rattle.doc_grammar.proofs.Rests.{Opening, InTag, InSpaced, ValueRest, next_char, next_reference, at_quote, InValue, InValueReference, InAssigned, InEquals, InAttribute}
use Rattle.doc_grammar.proofs.Goes.{Goes, choose, through, at}
use Rattle.doc_grammar.proofs.NameSteps.{NameGoes, names_go, qname_begins, qname_from}
use Rattle.doc_grammar.proofs.TagSteps.{end_is_no_space, end_starts_none, opening_at_end, end_steps}
use Rattle.xt_names.specs.Characters.{is_space, is_quote, starts_name}
use Rattle.xt_names.proofs.BoolLemmas.{no}
use Rattle.xt_names.proofs.CharacterLemmas.{space_quote, itself}

-- values

-- a quote begins no reference
pub quote_ampersand : (quote : ℕ) → is_quote quote ≡ true → (38 == quote) ≡ false
quote_ampersand quote q = go (38 == quote) refl where
  go : (b : Bool) → (38 == quote) ≡ b → (38 == quote) ≡ false
  go true e = let P : ℕ → Type 0 = λ x. is_quote x ≡ true in no (subst P (sym (eqb-true 38 quote e)) q) ampersand_quote
  go false e = e

value_rest : {quote : ℕ} {read ts value rest : List ℕ} → (38 == quote) ≡ false → Valued quote read ts value rest → ValueRest quote read ts value rest
value_rest q (doc.more p v) = next_char p (value_rest q v)
value_rest q (doc.refers r v) = next_reference q r (value_rest q v)
value_rest q doc.whole = at_quote

rest_value : {quote : ℕ} {read ts value rest : List ℕ} → ValueRest quote read ts value rest → Valued quote read ts value rest
rest_value (next_char p v) = doc.more p (rest_value v)
rest_value (next_reference q r v) = doc.refers r (rest_value v)
rest_value at_quote = doc.whole

value_end : {rules : Rules} {w : Tree} {t : RawTag} {name : RawName} {quote c : ℕ} {read : List ℕ} {st : Stack} {ts : List ℕ} → (c == quote) ≡ true → InValue rules w t name quote read st (c ∷ ts) → InTag rules w (with_attribute t name read) st ts
value_end {rules = rules} {w = w} {t = t} {name = name} {quote = quote} {c = c} {read = read} {st = st} {ts = ts} e b = go e b.valued b.behind where
  go : {d : ℕ} {value after : List ℕ} → (d == quote) ≡ true → ValueRest quote read (d ∷ ts) value after → InTag rules w (with_attribute t name value) st after → InTag rules w (with_attribute t name read) st ts
  go {d = d} e (next_char p v) k = let is : is_value quote quote ≡ true = rw (eqb-true d quote e) at p in no is (quote_value quote)
  go e (next_reference q r v) k = no e q
  go e at_quote k = k

value_back : {rules : Rules} {w : Tree} {t : RawTag} {name : RawName} {quote c : ℕ} {read : List ℕ} {st : Stack} {ts : List ℕ} → (c == quote) ≡ true → InTag rules w (with_attribute t name read) st ts → InValue rules w t name quote read st (c ∷ ts)
value_back {rules = rules} {w = w} {t = t} {name = name} {quote = quote} {c = c} {read = read} {st = st} {ts = ts} e b =
    let P : ℕ → Type 0 = λ x. InValue rules w t name quote read st (x ∷ ts) in
    subst P (sym (eqb-true c quote e)) (record { value = read; after = ts; valued = at_quote; behind = b })

value_reference : {rules : Rules} {w : Tree} {t : RawTag} {name : RawName} {quote : ℕ} {read : List ℕ} {st : Stack} {ts : List ℕ} → (38 == quote) ≡ false → InValue rules w t name quote read st (38 ∷ ts) → InValueReference rules w t name quote read ampersand st ts
value_reference {rules = rules} {w = w} {t = t} {name = name} {quote = quote} {read = read} {st = st} {ts = ts} q b = go refl q b.valued b.behind where
  go : {c : ℕ} {value after : List ℕ} → c ≡ 38 → (c == quote) ≡ false → ValueRest quote read (c ∷ ts) value after → InTag rules w (with_attribute t name value) st after → InValueReference rules w t name quote read ampersand st ts
  go e q (next_char p v) k = let is : is_value quote 38 ≡ true = rw e at p in no is (ampersand_value quote)
  go e q (next_reference x r v) k = record { stands_for = _; mid = _; reference = r; behind = record { value = _; after = _; valued = v; behind = k } }
  go {c = c} e q at_quote k = no (itself c) q

reference_back : {rules : Rules} {w : Tree} {t : RawTag} {name : RawName} {quote : ℕ} {read : List ℕ} {st : Stack} {ts : List ℕ} → (38 == quote) ≡ false → InValueReference rules w t name quote read ampersand st ts → InValue rules w t name quote read st (38 ∷ ts)
reference_back q b = record { value = b.behind.value; after = b.behind.after; valued = next_reference q b.reference b.behind.valued; behind = b.behind.behind }

value_on : {quote c : ℕ} {read ts value after : List ℕ} → (c == quote) ≡ false → (c == 38) ≡ false → ValueRest quote read (c ∷ ts) value after → (is_value quote c ≡ true) × ValueRest quote (read ++ as_value c ∷ []) ts value after
value_on e a (next_char p v) = (p, v)
value_on e a (next_reference q r v) = absurd (cc)
value_on {c = c} e a at_quote = no (itself c) e

pub valued_steps : (rules : Rules) (w : Tree) (t : RawTag) (name : RawName) (quote : ℕ) (read : List ℕ) (st : Stack) (c : ℕ) (ts : List ℕ) → Goes rules w (InValue rules w t name quote read st (c ∷ ts)) ts (cond (c == quote) (Some (tagged (with_attribute t name read) st)) (cond (c == 38) (Some (value_refers t name quote read ampersand st)) (cond (is_value quote c) (Some (valued t name quote (read ++ as_value c ∷ []) st)) None)))
valued_steps rules w t name quote read st c ts =
    choose rules w (InValue rules w t name quote read st (c ∷ ts)) ts (c == quote) _ _
    (λ e. ((λ b. value_end e b), (λ b. value_back e b)))
    (λ e. choose rules w (InValue rules w t name quote read st (c ∷ ts)) ts (c == 38) _ _
    (λ a. let q : (38 == quote) ≡ false = rw (← eqb-true c 38 a) e in
    at rules w (InValue rules w t name quote read st) c 38 ts (Some (value_refers t name quote read ampersand st)) a ((λ b. value_reference q b), (λ b. reference_back q b)))
    (λ a. choose rules w (InValue rules w t name quote read st (c ∷ ts)) ts (is_value quote c) _ _
    (λ p. (
      (λ b. record { value = b.value; after = b.after; valued = (value_on e a b.valued).1; behind = b.behind }),
      (λ b. record { value = b.value; after = b.after; valued = next_char p b.valued; behind = b.behind }),
    ))
    (λ p b. no (value_on e a b.valued).0 p)))

pub value_reference_steps : (rules : Rules) (w : Tree) (t : RawTag) (name : RawName) (quote : ℕ) (read : List ℕ) (r : Ref) (st : Stack) (c : ℕ) (ts : List ℕ) → Goes rules w (InValueReference rules w t name quote read r st (c ∷ ts)) ts (in_value_reference t name quote read st (ref_step r c))
value_reference_steps rules w t name quote read r st c ts = go (ref_step r c) (references_go r c ts) where
  go : (o : RefStep) → RefGoes r c ts o → Goes rules w (InValueReference rules w t name quote read r st (c ∷ ts)) ts (in_value_reference t name quote read st o)
  go (lexing.on r') k = (
    (λ b. record { stands_for = b.stands_for; mid = b.mid; reference = (k b.stands_for b.mid).0 b.reference; behind = b.behind }),
    (λ b. record { stands_for = b.stands_for; mid = b.mid; reference = (k b.stands_for b.mid).1 b.reference; behind = b.behind }),
  )
  go (lexing.stands_for v) k = (
    (λ b. let e = k.0 b.stands_for b.mid b.reference in rw (e.0, e.1) at b.behind),
    (λ b. record { stands_for = v; mid = ts; reference = k.1; behind = b }),
  )
  go lexing.fails k = λ b. k b.stands_for b.mid b.reference

-- after `=`

space_more : {c d : ℕ} {ts rest : List ℕ} → (is_space d ≡ true → ⊥) → is_space c ≡ true → Spaces (c ∷ ts) (d ∷ rest) → Spaces ts (d ∷ rest)
space_more n s lexemes.no_space = absurd (n s)
space_more n s (lexemes.a_space p k) = k

space_none : {c d : ℕ} {ts rest : List ℕ} → is_space c ≡ false → Spaces (c ∷ ts) (d ∷ rest) → (c ≡ d) × (ts ≡ rest)
space_none s lexemes.no_space = (refl, refl)
space_none s (lexemes.a_space p k) = no p s

no_quote_space : (c : ℕ) → is_quote c ≡ true → is_space c ≡ true → ⊥
no_quote_space c q s = no q (space_quote c s)

no_equals_space : (c : ℕ) → c ≡ 61 → is_space c ≡ true → ⊥
no_equals_space c e s = let is : is_space 61 ≡ true = rw e at s in no is equals_space

assigned_quote : {rules : Rules} {w : Tree} {t : RawTag} {name : RawName} {st : Stack} {c : ℕ} {ts : List ℕ} → is_space c ≡ false → InAssigned rules w t name st (c ∷ ts) → (is_quote c ≡ true) × InValue rules w t name c [] st ts
assigned_quote {rules = rules} {w = w} {t = t} {name = name} {st = st} {c = c} {ts = ts} s b =
    let e = space_none s b.space in
    let P : ℕ → Type 0 = λ x. (is_quote x ≡ true) × InValue rules w t name x [] st ts in
    let R : List ℕ → Type 0 = λ x. InValue rules w t name b.quote [] st x in
    subst P (sym e.0) (b.quoted, subst R (sym e.1) b.behind)

pub assigned_steps : (rules : Rules) (w : Tree) (t : RawTag) (name : RawName) (st : Stack) (c : ℕ) (ts : List ℕ) → Goes rules w (InAssigned rules w t name st (c ∷ ts)) ts (cond (is_space c) (Some (assigned t name st)) (cond (is_quote c) (Some (valued t name c [] st)) None))
assigned_steps rules w t name st c ts =
    choose rules w (InAssigned rules w t name st (c ∷ ts)) ts (is_space c) _ _
    (λ s. (
      (λ b. record { quote = b.quote; mid = b.mid; space = space_more (no_quote_space b.quote b.quoted) s b.space; quoted = b.quoted; behind = b.behind }),
      (λ b. record { quote = b.quote; mid = b.mid; space = lexemes.a_space s b.space; quoted = b.quoted; behind = b.behind }),
    ))
    (λ s. choose rules w (InAssigned rules w t name st (c ∷ ts)) ts (is_quote c) _ _
    (λ q. (
      (λ b. (assigned_quote s b).1),
      (λ b. record { quote = c; mid = ts; space = lexemes.no_space; quoted = q; behind = b }),
    ))
    (λ q b. no (assigned_quote s b).0 q))

-- after the name of an attribute

equals_on : {rules : Rules} {w : Tree} {t : RawTag} {name : RawName} {st : Stack} {c : ℕ} {ts : List ℕ} → (c == 61) ≡ true → InEquals rules w t name st (c ∷ ts) → InAssigned rules w t name st ts
equals_on {rules = rules} {w = w} {t = t} {name = name} {st = st} {c = c} {ts = ts} e b = go e b.space b.behind where
  go : {d : ℕ} {mid : List ℕ} → (d == 61) ≡ true → Spaces (d ∷ ts) (61 ∷ mid) → InAssigned rules w t name st mid → InAssigned rules w t name st ts
  go e lexemes.no_space k = k
  go {d = d} e (lexemes.a_space p s) k = absurd (no_equals_space d (eqb-true d 61 e) p)

equals_space_on : {c : ℕ} {ts mid : List ℕ} → (c == 61) ≡ false → Spaces (c ∷ ts) (61 ∷ mid) → (is_space c ≡ true) × Spaces ts (61 ∷ mid)
equals_space_on e lexemes.no_space = absurd (cc)
equals_space_on e (lexemes.a_space p s) = (p, s)

pub equals_steps : (rules : Rules) (w : Tree) (t : RawTag) (name : RawName) (st : Stack) (c : ℕ) (ts : List ℕ) → Goes rules w (InEquals rules w t name st (c ∷ ts)) ts (in_equals t name st c)
equals_steps rules w t name st c ts =
    choose rules w (InEquals rules w t name st (c ∷ ts)) ts (c == 61) _ _
    (λ e. (
      (λ b. equals_on e b),
      (λ b. let P : ℕ → Type 0 = λ x. InEquals rules w t name st (x ∷ ts) in subst P (sym (eqb-true c 61 e)) (record { mid = ts; space = lexemes.no_space; behind = b })),
    ))
    (λ e. choose rules w (InEquals rules w t name st (c ∷ ts)) ts (is_space c) _ _
    (λ s. (
      (λ b. record { mid = b.mid; space = (equals_space_on e b.space).1; behind = b.behind }),
      (λ b. record { mid = b.mid; space = lexemes.a_space s b.space; behind = b.behind }),
    ))
    (λ s b. no (equals_space_on e b.space).0 s))

pub attribute_steps : (rules : Rules) (w : Tree) (t : RawTag) (n : NameState) (st : Stack) (c : ℕ) (ts : List ℕ) → Goes rules w (InAttribute rules w t n st (c ∷ ts)) ts (in_attribute t st c (name_step n c))
attribute_steps rules w t n st c ts = go (name_step n c) (names_go n c ts) where
  go : (r : NameStep) → NameGoes n c ts r → Goes rules w (InAttribute rules w t n st (c ∷ ts)) ts (in_attribute t st c r)
  go (on n') k = (
    (λ b. record { name = b.name; mid = b.mid; named = (k b.name b.mid).0 b.named; behind = b.behind }),
    (λ b. record { name = b.name; mid = b.mid; named = (k b.name b.mid).1 b.named; behind = b.behind }),
  )
  go (behind_name name) k =
      through rules w _ (InEquals rules w t name st (c ∷ ts)) ts _
      (λ b. let e = k.0 b.name b.mid b.named in rw (e.0, e.1) at b.behind)
      (λ b. record { name = name; mid = c ∷ ts; named = k.1; behind = b })
      (equals_steps rules w t name st c ts)
  go fails k = λ b. k b.name b.mid b.named

-- after white space

spaced_space : {rules : Rules} {w : Tree} {t : RawTag} {st : Stack} {c : ℕ} {ts : List ℕ} → is_space c ≡ true → InSpaced rules w t st (c ∷ ts) → InSpaced rules w t st ts
spaced_space {rules = rules} {w = w} {t = t} {st = st} {c = c} {ts = ts} s b = go b.attributes b.opening where
  go : {whole : RawTag} {rest : List ℕ} → Spaced t (c ∷ ts) whole rest → Opening rules w whole st rest → InSpaced rules w t st ts
  go (doc.no_more e) k = end_is_no_space e s
  go (doc.again p a) k = record { whole = _; rest = _; attributes = a; opening = k }
  go (doc.attribute d e q v a) k = no (qname_begins d).0 (space_starts c s)

spaced_name : {rules : Rules} {w : Tree} {t : RawTag} {st : Stack} {c : ℕ} {ts : List ℕ} → is_space c ≡ false → starts_name c ≡ true → InSpaced rules w t st (c ∷ ts) → InAttribute rules w t (reading None (c ∷ [])) st ts
spaced_name {rules = rules} {w = w} {t = t} {st = st} {c = c} {ts = ts} s n b = go b.attributes b.opening where
  go : {whole : RawTag} {rest : List ℕ} → Spaced t (c ∷ ts) whole rest → Opening rules w whole st rest → InAttribute rules w t (reading None (c ∷ [])) st ts
  go (doc.no_more e) k = end_starts_none e n
  go (doc.again p a) k = no p s
  go (doc.attribute {quote = quote} d (doc.equals x y) q v a) k =
      let value : InValue rules w t _ quote [] st _ = record { value = _; after = _; valued = value_rest (quote_ampersand quote q) v; behind = record { whole = _; rest = _; attributes = a; opening = k } } in
      record { name = _; mid = _; named = (qname_begins d).1; behind = record { mid = _; space = x; behind = record { quote = quote; mid = _; space = y; quoted = q; behind = value } } }

name_back : {rules : Rules} {w : Tree} {t : RawTag} {st : Stack} {c : ℕ} {ts : List ℕ} → starts_name c ≡ true → InAttribute rules w t (reading None (c ∷ [])) st ts → InSpaced rules w t st (c ∷ ts)
name_back n b =
    let assigned = b.behind.behind in
    let value = assigned.behind in
    let tag = value.behind in
    record { whole = tag.whole; rest = tag.rest; attributes = doc.attribute (qname_from n b.named) (doc.equals b.behind.space assigned.space) assigned.quoted (rest_value value.valued) tag.attributes; opening = tag.opening }

spaced_end : {rules : Rules} {w : Tree} {t : RawTag} {st : Stack} {c : ℕ} {ts : List ℕ} → is_space c ≡ false → starts_name c ≡ false → InSpaced rules w t st (c ∷ ts) → Opening rules w t st (c ∷ ts)
spaced_end {rules = rules} {w = w} {t = t} {st = st} {c = c} {ts = ts} s n b = go b.attributes b.opening where
  go : {whole : RawTag} {rest : List ℕ} → Spaced t (c ∷ ts) whole rest → Opening rules w whole st rest → Opening rules w t st (c ∷ ts)
  go (doc.no_more e) k = k
  go (doc.again p a) k = no p s
  go (doc.attribute d e q v a) k = no (qname_begins d).0 n

pub spaced_steps : (rules : Rules) (w : Tree) (t : RawTag) (st : Stack) (c : ℕ) (ts : List ℕ) → Goes rules w (InSpaced rules w t st (c ∷ ts)) ts (behind_spaced rules t st c)
spaced_steps rules w t st c ts =
    choose rules w (InSpaced rules w t st (c ∷ ts)) ts (is_space c) _ _
    (λ s. ((λ b. spaced_space s b), (λ b. record { whole = b.whole; rest = b.rest; attributes = doc.again s b.attributes; opening = b.opening })))
    (λ s. choose rules w (InSpaced rules w t st (c ∷ ts)) ts (starts_name c) _ _
    (λ n. ((λ b. spaced_name s n b), (λ b. name_back n b)))
    (λ n. through rules w _ (Opening rules w t st (c ∷ ts)) ts _ (λ b. spaced_end s n b) (λ k. record { whole = t; rest = c ∷ ts; attributes = doc.no_more (opening_at_end k); opening = k }) (end_steps rules w t st c ts)))
