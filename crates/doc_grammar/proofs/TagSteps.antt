-- The steps in a start tag and in an end tag, but for its attributes.
use Rattle.std.proofs.Common.{◌≡◌, ℕ, List, [], ◌∷◌, refl, sym, ◌∙◌, subst, true, false, cond, Option, Some, None, ◌==◌, eq-eqb}
use Rattle.std.proofs.lemmas.Option.{none-some, same_Some}
use Rattle.xt_tree.specs.declared.trees.Tree.{Tree}
use Rattle.doc_grammar.specs.RawNames.{RawName, RawTag, tag_named}
use Rattle.doc_grammar.specs.Scopes.{Opened, declarations}
use Rattle.doc_grammar.specs.Lexemes as lexemes
use Rattle.doc_grammar.specs.Document.{Rules, AtEnd, Attributes, Spaced, element_of}
use Rattle.doc_grammar.specs.Document as doc
use Rattle.doc_grammar.specs.Machine.{Stack, ground, element, NameState, NameStep, on, behind_name, fails, name_step, slashed, ending, scope_of, with_child, opens, closes, at_end, behind_tagged, in_naming, closed, in_ended, behind_ending}
use Rattle.doc_grammar.proofs.CharacterFacts.{slash_starts, close_starts, slash_space, close_space}
use Rattle.doc_grammar.proofs.Residue.{alike_child, alike_declared, declared_alike, elements, moved}
use Rattle.doc_grammar.proofs.Rests.{Between, Opening, InTag, InSpaced, NameRest, InName, InAttribute, InEnding, in_ending as the_ending, InEnded, in_ended as the_ended}
use Rattle.doc_grammar.proofs.Rests as rests
use Rattle.doc_grammar.proofs.Goes.{Goes, choose, through, at}
use Rattle.doc_grammar.proofs.NameSteps.{NameGoes, names_go}
use Rattle.xt_names.specs.Characters.{is_space, starts_name}
use Rattle.xt_names.proofs.BoolLemmas.{no}

-- the end of a start tag

not_at_end : {c : ℕ} {ts : List ℕ} {P : Type 0} → AtEnd (c ∷ ts) → (c == 62) ≡ false → (c == 47) ≡ false → P
not_at_end doc.close x y = cc
not_at_end doc.slash x y = cc

pub end_is_no_space : {c : ℕ} {ts : List ℕ} {P : Type 0} → AtEnd (c ∷ ts) → is_space c ≡ true → P
end_is_no_space doc.close s = no s close_space
end_is_no_space doc.slash s = no s slash_space

pub end_starts_none : {c : ℕ} {ts : List ℕ} {P : Type 0} → AtEnd (c ∷ ts) → starts_name c ≡ true → P
end_starts_none doc.close s = no s close_starts
end_starts_none doc.slash s = no s slash_starts

pub opening_at_end : {rules : Rules} {w : Tree} {t : RawTag} {st : Stack} {ts : List ℕ} → Opening rules w t st ts → AtEnd ts
opening_at_end (rests.opens e k) = doc.close
opening_at_end (rests.closes e u) = doc.slash

opening_one : {rules : Rules} {w : Tree} {t : RawTag} {st : Stack} {ts : List ℕ} {o : Opened} → rules (scope_of st) t ≡ Some o → Opening rules w t st (62 ∷ ts) → Between rules w (element t.name o [] st) ts
opening_one {rules = rules} {w = w} {t = t} {st = st} {ts = ts} {o = o} e (rests.opens {o = o'} d k) =
    let P : Opened → Type 0 = λ x. Between rules w (element t.name x [] st) ts in
    let same : o' ≡ o = same_Some _ _ (sym d ∙ e) in subst P same k

opens_steps : (rules : Rules) (w : Tree) (t : RawTag) (st : Stack) (ts : List ℕ) (r : Option Opened) → rules (scope_of st) t ≡ r → Goes rules w (Opening rules w t st (62 ∷ ts)) ts (opens t st r)
opens_steps rules w t st ts None e = refused where
  refused : Opening rules w t st (62 ∷ ts) → ⊥
  refused (rests.opens d k) = none-some _ (sym e ∙ d)
opens_steps rules w t st ts (Some o) e = (
  (λ k. moved (opening_one e k) (elements (alike_declared (declarations t.attributes) st))),
  (λ k. rests.opens e (moved k (elements (declared_alike (declarations t.attributes) st)))),
)

pub end_steps : (rules : Rules) (w : Tree) (t : RawTag) (st : Stack) (c : ℕ) (ts : List ℕ) → Goes rules w (Opening rules w t st (c ∷ ts)) ts (at_end rules t st c)
end_steps rules w t st c ts =
    choose rules w (Opening rules w t st (c ∷ ts)) ts (c == 62) _ _
    (λ e. at rules w (Opening rules w t st) c 62 ts (opens t st (rules (scope_of st) t)) e (opens_steps rules w t st ts (rules (scope_of st) t) refl))
    (λ x. choose rules w (Opening rules w t st (c ∷ ts)) ts (c == 47) _ _
    (λ e. at rules w (Opening rules w t st) c 47 ts (Some (slashed t st)) e ((λ k. k), (λ k. k)))
    (λ y k. not_at_end (opening_at_end k) x y))

-- after a name or an attribute

tag_space : {rules : Rules} {w : Tree} {t : RawTag} {st : Stack} {c : ℕ} {ts : List ℕ} → is_space c ≡ true → InTag rules w t st (c ∷ ts) → InSpaced rules w t st ts
tag_space {rules = rules} {w = w} {t = t} {st = st} {c = c} {ts = ts} s b = go b.attributes b.opening where
  go : {whole : RawTag} {rest : List ℕ} → Attributes t (c ∷ ts) whole rest → Opening rules w whole st rest → InSpaced rules w t st ts
  go (doc.none e) k = end_is_no_space e s
  go (doc.space p a) k = record { whole = _; rest = _; attributes = a; opening = k }

tag_no_space : {rules : Rules} {w : Tree} {t : RawTag} {st : Stack} {c : ℕ} {ts : List ℕ} → is_space c ≡ false → InTag rules w t st (c ∷ ts) → Opening rules w t st (c ∷ ts)
tag_no_space {rules = rules} {w = w} {t = t} {st = st} {c = c} {ts = ts} s b = go b.attributes b.opening where
  go : {whole : RawTag} {rest : List ℕ} → Attributes t (c ∷ ts) whole rest → Opening rules w whole st rest → Opening rules w t st (c ∷ ts)
  go (doc.none e) k = k
  go (doc.space p a) k = no p s

pub tagged_steps : (rules : Rules) (w : Tree) (t : RawTag) (st : Stack) (c : ℕ) (ts : List ℕ) → Goes rules w (InTag rules w t st (c ∷ ts)) ts (behind_tagged rules t st c)
tagged_steps rules w t st c ts =
    choose rules w (InTag rules w t st (c ∷ ts)) ts (is_space c) _ _
    (λ s. ((λ b. tag_space s b), (λ b. record { whole = b.whole; rest = b.rest; attributes = doc.space s b.attributes; opening = b.opening })))
    (λ s. through rules w _ (Opening rules w t st (c ∷ ts)) ts _ (λ b. tag_no_space s b) (λ k. record { whole = t; rest = c ∷ ts; attributes = doc.none (opening_at_end k); opening = k }) (end_steps rules w t st c ts))

-- after the `/` of an empty-element tag

closing_one : {rules : Rules} {w : Tree} {t : RawTag} {st : Stack} {ts : List ℕ} {o : Opened} → rules (scope_of st) t ≡ Some o → Opening rules w t st (47 ∷ 62 ∷ ts) → Between rules w (with_child (element_of o []) st) ts
closing_one {rules = rules} {w = w} {t = t} {st = st} {ts = ts} {o = o} e (rests.closes {o = o'} d u) =
    let P : Opened → Type 0 = λ x. Between rules w (with_child (element_of x []) st) ts in
    let same : o' ≡ o = same_Some _ _ (sym d ∙ e) in subst P same u

closes_steps : (rules : Rules) (w : Tree) (t : RawTag) (st : Stack) (ts : List ℕ) (r : Option Opened) → rules (scope_of st) t ≡ r → Goes rules w (Opening rules w t st (47 ∷ 62 ∷ ts)) ts (closes t st r)
closes_steps rules w t st ts None e = refused where
  refused : Opening rules w t st (47 ∷ 62 ∷ ts) → ⊥
  refused (rests.closes d u) = none-some _ (sym e ∙ d)
closes_steps rules w t st ts (Some o) e = (
  (λ k. moved (closing_one e k) (alike_child _ (alike_declared (declarations t.attributes) st))),
  (λ k. rests.closes e (moved k (alike_child _ (declared_alike (declarations t.attributes) st)))),
)

no_slash : {rules : Rules} {w : Tree} {t : RawTag} {st : Stack} {c : ℕ} {ts : List ℕ} → (c == 62) ≡ false → Opening rules w t st (47 ∷ c ∷ ts) → ⊥
no_slash e (rests.closes d u) = cc

pub slashed_steps : (rules : Rules) (w : Tree) (t : RawTag) (st : Stack) (c : ℕ) (ts : List ℕ) → Goes rules w (Opening rules w t st (47 ∷ c ∷ ts)) ts (cond (c == 62) (closes t st (rules (scope_of st) t)) None)
slashed_steps rules w t st c ts =
    choose rules w (Opening rules w t st (47 ∷ c ∷ ts)) ts (c == 62) _ _
    (λ e. at rules w (λ cs. Opening rules w t st (47 ∷ cs)) c 62 ts (closes t st (rules (scope_of st) t)) e (closes_steps rules w t st ts (rules (scope_of st) t) refl))
    (λ e k. no_slash e k)

-- in the name of a start tag

pub naming_steps : (rules : Rules) (w : Tree) (n : NameState) (st : Stack) (c : ℕ) (ts : List ℕ) → Goes rules w (InName rules w n st (c ∷ ts)) ts (in_naming rules st c (name_step n c))
naming_steps rules w n st c ts = go (name_step n c) (names_go n c ts) where
  go : (r : NameStep) → NameGoes n c ts r → Goes rules w (InName rules w n st (c ∷ ts)) ts (in_naming rules st c r)
  go (on n') k = (
    (λ b. record { name = b.name; mid = b.mid; named = (k b.name b.mid).0 b.named; behind = b.behind }),
    (λ b. record { name = b.name; mid = b.mid; named = (k b.name b.mid).1 b.named; behind = b.behind }),
  )
  go (behind_name name) k =
      through rules w _ (InTag rules w (tag_named name) st (c ∷ ts)) ts _
      (λ b. let e = k.0 b.name b.mid b.named in rw (e.0, e.1) at b.behind)
      (λ b. record { name = name; mid = c ∷ ts; named = k.1; behind = b })
      (tagged_steps rules w (tag_named name) st c ts)
  go fails k = λ b. k b.name b.mid b.named

-- in an end tag

ended_close : {rules : Rules} {w : Tree} {name : RawName} {ts : List ℕ} {o : Opened} {kids : List Tree} {st : Stack} → InEnded rules w (element name o kids st) (62 ∷ ts) → Between rules w (with_child (element_of o kids) st) ts
ended_close (the_ended lexemes.no_space u) = u
ended_close (the_ended (lexemes.a_space p s) u) = no p close_space

close_steps : (rules : Rules) (w : Tree) (st : Stack) (ts : List ℕ) → Goes rules w (InEnded rules w st (62 ∷ ts)) ts (closed st)
close_steps rules w (ground l kids ds) ts = λ k. elim k [ ]
close_steps rules w (element name o kids st) ts = ((λ k. ended_close k), (λ k. the_ended lexemes.no_space k))

ended_space : {rules : Rules} {w : Tree} {c : ℕ} {ts : List ℕ} {st : Stack} → (c == 62) ≡ false → InEnded rules w st (c ∷ ts) → (is_space c ≡ true) × InEnded rules w st ts
ended_space e (the_ended lexemes.no_space u) = absurd (cc)
ended_space e (the_ended (lexemes.a_space p s) u) = (p, the_ended s u)

back_space : {rules : Rules} {w : Tree} {c : ℕ} {ts : List ℕ} {st : Stack} → is_space c ≡ true → InEnded rules w st ts → InEnded rules w st (c ∷ ts)
back_space p (the_ended s u) = the_ended (lexemes.a_space p s) u

pub ended_steps : (rules : Rules) (w : Tree) (st : Stack) (c : ℕ) (ts : List ℕ) → Goes rules w (InEnded rules w st (c ∷ ts)) ts (in_ended st c)
ended_steps rules w st c ts =
    choose rules w (InEnded rules w st (c ∷ ts)) ts (c == 62) _ _
    (λ e. at rules w (InEnded rules w st) c 62 ts (closed st) e (close_steps rules w st ts))
    (λ e. choose rules w (InEnded rules w st (c ∷ ts)) ts (is_space c) _ _
    (λ p. ((λ k. (ended_space e k).1), (λ k. back_space p k)))
    (λ p k. no (ended_space e k).0 p))

ending_same : {rules : Rules} {w : Tree} {c d : ℕ} {left ts : List ℕ} {st : Stack} → InEnding rules w (d ∷ left) st (c ∷ ts) → (c ≡ d) × InEnding rules w left st ts
ending_same (the_ending (doc.same t) u) = (refl, the_ending t u)

back_same : {rules : Rules} {w : Tree} {c : ℕ} {left ts : List ℕ} {st : Stack} → InEnding rules w left st ts → InEnding rules w (c ∷ left) st (c ∷ ts)
back_same (the_ending t u) = the_ending (doc.same t) u

whole_name : {rules : Rules} {w : Tree} {ts : List ℕ} {st : Stack} → InEnding rules w [] st ts → InEnded rules w st ts
whole_name (the_ending (doc.closing s) u) = the_ended s u

back_name : {rules : Rules} {w : Tree} {ts : List ℕ} {st : Stack} → InEnded rules w st ts → InEnding rules w [] st ts
back_name (the_ended s u) = the_ending (doc.closing s) u

pub ending_steps : (rules : Rules) (w : Tree) (left : List ℕ) (st : Stack) (c : ℕ) (ts : List ℕ) → Goes rules w (InEnding rules w left st (c ∷ ts)) ts (behind_ending left st c)
ending_steps rules w [] st c ts = through rules w _ (InEnded rules w st (c ∷ ts)) ts _ (λ k. whole_name k) (λ k. back_name k) (ended_steps rules w st c ts)
ending_steps rules w (d ∷ left) st c ts =
    choose rules w (InEnding rules w (d ∷ left) st (c ∷ ts)) ts (c == d) _ _
    (λ e. at rules w (InEnding rules w (d ∷ left) st) c d ts (Some (ending left st)) e ((λ k. (ending_same k).1), (λ k. back_same k)))
    (λ e k. no (eq-eqb c d (ending_same k).0) e)
