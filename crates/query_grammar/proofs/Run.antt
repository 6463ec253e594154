-- All of the tokens: what is spelled is read, what is read is spelled, and there is at most one
-- query.
use Rattle.std.proofs.Common.{◌≡◌, Bool, true, false, cond, List, [], ◌∷◌, refl, sym, ◌∙◌, ap}
use Rattle.std.proofs.Common.{subst}
use Rattle.std.proofs.Common.{Option, Some, None, option_map, option_and_then}
use Rattle.std.proofs.lemmas.Option.{none-some, same_Some}
use Rattle.expr_keys.specs.declared.keys.Key.TheVariants as key
use Rattle.expr_keys.specs.declared.tokens.Token.{Token}
use Rattle.expr_keys.specs.declared.tokens.Token.TheVariants as token
use Rattle.expr_terms.specs.declared.raws.Raw.{Raw}
use Rattle.expr_terms.specs.declared.choices.Second.{Second}
use Rattle.expr_terms.specs.declared.choices.Second.TheVariants as second
use Rattle.expr_keys.specs.declared.productions.Language.TheVariants.{Xquery as xquery}
use Rattle.expr_keys.specs.declared.productions.Production.TheVariants.{WholeExpr as whole_expr}
use Rattle.expr_terms.specs.Choices.{second_of}
use Rattle.expr_grammar.specs.Machine.{advance, finish, start}
use Rattle.expr_grammar.proofs.Run.{run_finds, run_found, spells_runs, runs_spells}
use Rattle.query_grammar.specs.declared.declared.Declared.{Declared}
use Rattle.query_grammar.specs.declared.declared.RawQuery.{RawQuery}
use Rattle.query_grammar.specs.Prolog.{Cut, here, there, IsDeclaration, IsQuery, body, declares}
use Rattle.query_grammar.specs.Prolog.{is_ordered, SpellsQuery, ordered}
use Rattle.query_grammar.specs.Machine as machine
use Rattle.query_grammar.specs.Machine.{Mode, Turn, step, ended, of_body, behind, turned, run}
use Rattle.query_grammar.specs.Machine.{if_ordered, read_query}
use Rattle.query_grammar.proofs.Residue.{sound, Declares, Rest, Valid}
use Rattle.query_grammar.proofs.Steps.{Steps, steps}

-- at the end of the tokens
no_cut : {t : Token} {more us : List Token} → Cut t more [] us → ⊥
no_cut c = elim c [ ]

no_more : {P : List Token → Declared → Type 0} {ds : List Declared} {v : Raw}
    → Declares P [] ds v → ⊥
no_more r = no_cut r.cut

-- the value of a mode at the end
record AtEnd (m : Mode) (ds : List Declared) (v : Raw) : Type 0 where
  none : ds ≡ []
  value : ended m ≡ Some v

front_end : {ds : List Declared} {v : Raw} → IsQuery [] ds v → ⊥
front_end (body {v = v} s) = none-some v (spells_runs s)
front_end (declares c i q) = no_cut c

one_cut : {a : Token} {more us : List Token} {d : Declared}
    → Cut (token.Key key.Semicolon) more (a ∷ []) us → IsDeclaration us d → ⊥
one_cut here i = elim i [ ]
one_cut (there c) i = no_cut c

held_end : (a : Token) (r : Second) {ds : List Declared} {v : Raw} → r ≡ second.Alone
    → IsQuery (a ∷ []) ds v → AtEnd (machine.held a r) ds v
held_end a r e (body {v = v} s) =
    record {
      none = refl;
      value =
          ap (λ x. option_and_then finish (advance xquery a x (start whole_expr))) e ∙ spells_runs s;
    }
held_end a r e (declares c i q) = absurd (one_cut c i)

finds : (m : Mode) (ds : List Declared) (v : Raw) → Valid m [] → Rest m [] ds v → AtEnd m ds v
finds machine.front ds v x r = absurd (front_end r)
finds (machine.held a r) ds v x q = held_end a r x.0 q
finds (machine.head o us) ds v x r = absurd (no_more r)
finds (machine.body fs) ds v x r =
    record { none = r.0; value = run_finds xquery v [] fs (sound x) r.1 }
finds (machine.value n fs) ds v x r = absurd (no_more r)
finds (machine.inner q fs) ds v x r = absurd (no_more r)
finds (machine.closed d) ds v x r = absurd (no_more r)

found : (m : Mode) (v : Raw) → Valid m [] → ended m ≡ Some v → Rest m [] [] v
found machine.front v x e = absurd (none-some _ e)
found (machine.held a r) v x e =
    body (runs_spells (ap (λ y. option_and_then finish (advance xquery a y (start whole_expr))) (sym x.0)
    ∙ e))
found (machine.head o us) v x e = absurd (none-some _ e)
found (machine.body fs) v x e = (refl, run_found xquery v [] fs (sound x) e)
found (machine.value n fs) v x e = absurd (none-some _ e)
found (machine.inner q fs) v x e = absurd (none-some _ e)
found (machine.closed d) v x e = absurd (none-some _ e)

-- all of the tokens
abbrev whole : List Declared → Raw → RawQuery
whole ds v = record { declared = ds; body = v }

run_finds_on : (ts : List Token) (m : Mode) (u : Turn) (t : Token) (ds : List Declared) (v : Raw)
    → Steps m t ts u → Rest m (t ∷ ts) ds v
    → ((n : Mode) (es : List Declared) → Valid n ts → Rest n ts es v → run ts n ≡ Some
    (whole es v))
    → turned (run ts) u ≡ Some (whole ds v)
run_finds_on ts m machine.refused t ds v s r rec = absurd (s ds v r)
run_finds_on ts m (machine.onto n) t ds v s r rec = rec n ds s.2 (s.0 ds v r)
run_finds_on ts m (machine.ends d) t ds v s r rec =
    let x = s.0 ds v r in
    ap (option_map (behind d)) (rec machine.front x.rest tt x.query)
    ∙ ap (λ y. Some (whole y v)) (sym x.are)

pub query_finds : (ts : List Token) (m : Mode) (ds : List Declared) (v : Raw) → Valid m ts
    → Rest m ts ds v → run ts m ≡ Some (whole ds v)
query_finds [] m ds v x r =
    let a = finds m ds v x r in
    ap (option_map of_body) a.value ∙ ap (λ y. Some (whole y v)) (sym a.none)
query_finds (t ∷ ts) m ds v x r =
    run_finds_on ts m (step m t (second_of ts)) t ds v (steps m t ts x) r
    (λ n es y q. query_finds ts n es v y q)

body_of : (m : Mode) (o : Option Raw) (q : RawQuery) → Valid m [] → ended m ≡ o
    → option_map of_body o ≡ Some q → Rest m [] q.declared q.body
body_of m None q x e f = absurd (none-some _ f)
body_of m (Some v) q x e f =
    subst (λ y. Rest m [] y.declared y.body) (same_Some _ _ f) (found m v x e)

behind_of : (m : Mode) (t : Token) (ts : List Token) (d : Declared) (o : Option RawQuery)
    (q : RawQuery) → Steps m t ts (machine.ends d) → option_map (behind d) o ≡ Some q
    → ((p : RawQuery) → o ≡ Some p → Rest machine.front ts p.declared p.body)
    → Rest m (t ∷ ts) q.declared q.body
behind_of m t ts d None q s e rec = absurd (none-some _ e)
behind_of m t ts d (Some p) q s e rec =
    subst (λ y. Rest m (t ∷ ts) y.declared y.body) (same_Some _ _ e)
    (s.1 (d ∷ p.declared) p.body
    (record { rest = p.declared; are = refl; query = rec p refl }))

run_found_on : (ts : List Token) (m : Mode) (u : Turn) (t : Token) (q : RawQuery)
    → Steps m t ts u → turned (run ts) u ≡ Some q
    → ((n : Mode) (p : RawQuery) → Valid n ts → run ts n ≡ Some p → Rest n ts p.declared p.body)
    → Rest m (t ∷ ts) q.declared q.body
run_found_on ts m machine.refused t q s e rec = absurd (none-some _ e)
run_found_on ts m (machine.onto n) t q s e rec = s.1 q.declared q.body (rec n q s.2 e)
run_found_on ts m (machine.ends d) t q s e rec =
    behind_of m t ts d (run ts machine.front) q s e (λ p f. rec machine.front p tt f)

pub query_found : (ts : List Token) (m : Mode) (q : RawQuery) → Valid m ts
    → run ts m ≡ Some q → Rest m ts q.declared q.body
query_found [] m q x e = body_of m (ended m) q x refl e
query_found (t ∷ ts) m q x e =
    run_found_on ts m (step m t (second_of ts)) t q (steps m t ts x) e
    (λ n p y f. query_found ts n p y f)

-- .. and the order of the declarations
pub spells_reads : {ts : List Token} {q : RawQuery} → SpellsQuery ts q → read_query ts ≡ Some q
spells_reads (ordered {ts = ts} {ds = ds} {v = v} e q) =
    let f = query_finds ts machine.front ds v tt q in rw (f, e) refl

kept : (b : Bool) (p q : RawQuery) → cond b (Some p) None ≡ Some q → (b ≡ true) × (p ≡ q)
kept true p q e = (refl, same_Some _ _ e)
kept false p q e = absurd (none-some _ e)

reads_by : (ts : List Token) (o : Option RawQuery) (q : RawQuery) → run ts machine.front ≡ o
    → option_and_then if_ordered o ≡ Some q → SpellsQuery ts q
reads_by ts None q e f = absurd (none-some _ f)
reads_by ts (Some p) q e f =
    let k = kept (is_ordered p.declared) p q f in
    subst (λ x. SpellsQuery ts x) k.1 (ordered k.0 (query_found ts machine.front p tt e))

pub reads_spells : {ts : List Token} {q : RawQuery} → read_query ts ≡ Some q → SpellsQuery ts q
reads_spells {ts = ts} {q = q} e = reads_by ts (run ts machine.front) q refl e

pub query_one : {ts : List Token} {a b : RawQuery} → SpellsQuery ts a → SpellsQuery ts b → a ≡ b
query_one x y = same_Some _ _ (sym (spells_reads x) ∙ spells_reads y)

pub query_refused : {ts : List Token} → read_query ts ≡ None → (q : RawQuery)
    → SpellsQuery ts q → ⊥
query_refused e q s = none-some q (sym e ∙ spells_reads s)
