-- The tokens of quantifiers and FLWOR expressions end.
use Rattle.std.proofs.Common.{◌≡◌, List, [], ◌∷◌, Bool, true, false, ◌&&◌, ◌||◌, not, cond}
use Rattle.std.proofs.Common.{refl, ◌∙◌, ap, Option, Some, None}
use Rattle.std.proofs.lemmas.Bool.{and_parts}
use Rattle.xt_names.specs.declared.names.ExprName.{ExprName}
use Rattle.xt_types.specs.declared.types.SeqType.{SeqType}
use Rattle.xt_syntax.specs.declared.prefixes.Prefixes.{Prefixes}
use Rattle.expr_keys.specs.declared.keys.Key.{Key}
use Rattle.expr_keys.specs.declared.keys.Key.TheVariants as key
use Rattle.expr_keys.specs.declared.tokens.Token.{Token}
use Rattle.expr_keys.specs.declared.tokens.Token.TheVariants as token
use Rattle.expr_raws.specs.PathRaws.Forms.{Form, single, said}
use Rattle.expr_raws.specs.ControlRaws.Bindings.{typing, placing, may, has_some, BindForm, bind_can}
use Rattle.expr_raws.specs.ControlRaws.Bindings.{typing_tokens, placing_tokens, bind_tokens, binds_tokens}
use Rattle.expr_raws.specs.ControlRaws.Bindings.{quantifier, binds_can, quantified, ClauseForm, for_clause}
use Rattle.expr_raws.specs.ControlRaws.Bindings.{let_clause, clause_tokens, clauses_tokens, clauses_can}
use Rattle.expr_raws.specs.ControlRaws.Bindings.{where_tokens, OrderForm, orders_can, way_tokens}
use Rattle.expr_raws.specs.ControlRaws.Bindings.{keys_tokens, stable_tokens, order_tokens, flowing}
use Rattle.token_laws.proofs.EndedTokens.Ends.{Ends, Fills, Ended, both, said_ends}
use Rattle.token_laws.proofs.EndedTokens.Parts.{name_ends, sequence_ends}

-- what may be left out
abbrev pub MayEnd : Option Form → Type 0
MayEnd None = Unit {0}
MayEnd (Some f) = Ended f

pub typing_may : (p : Prefixes) (t : Option SeqType) → may (typing p t) ≡ true
    → MayEnd (typing p t)
typing_may p None c = tt
typing_may p (Some t) c = sequence_ends p t c

placing_may : (p : Prefixes) (n : Option ExprName) → may (placing p n) ≡ true
    → MayEnd (placing p n)
placing_may p None c = tt
placing_may p (Some n) c = name_ends p n c

-- what a binding is made of
pub record BindEnds (b : BindForm) : Type 0 where
  pub name : b.name.can ≡ true → Ended b.name
  pub kind : may b.kind ≡ true → MayEnd b.kind
  pub source : b.source.can ≡ true → Ended b.source

typed_ends : (o : Option Form) → MayEnd o → Ends (λ rest. typing_tokens o rest)
typed_ends None s ts rest = refl
typed_ends (Some f) s ts rest = ap (λ x. token.Key key.AsWord ∷ x) (s.ends ts rest)

placed_ends : (o : Option Form) → MayEnd o → Ends (λ rest. placing_tokens o rest)
placed_ends None s ts rest = refl
placed_ends (Some f) s ts rest =
    ap (λ x. token.Key key.AtWord ∷ token.Key key.Dollar ∷ x) (s.ends ts rest)

source_ends : (k : Key) (f : Form) → Ended f → Ends (λ rest. token.Key k ∷ said single f rest)
source_ends k f s ts rest = ap (λ x. token.Key k ∷ x) (said_ends single f s.ends ts rest)

bind_ends : (o : Option Form) → MayEnd o → (k : Key) (b : BindForm) → BindEnds b
    → bind_can b ≡ true → Ends (λ rest. bind_tokens o k b rest)
bind_ends o m k b s c =
    let u = and_parts b.name.can (may b.kind && b.source.can) c in
    let v = and_parts (may b.kind) b.source.can u.1 in
    let last : List Token → List Token = λ r. token.Key k ∷ said single b.source r in
    λ ts rest. ap (λ x. token.Key key.Dollar ∷ x)
    (both b.name.tokens (λ r. typing_tokens b.kind (placing_tokens o (last r)))
    (s.name u.0).ends (both (λ r. typing_tokens b.kind r) (λ r. placing_tokens o (last r))
    (typed_ends b.kind (s.kind v.0)) (both (λ r. placing_tokens o r) last (placed_ends o m)
    (source_ends k b.source (s.source v.1)))) ts rest)

abbrev pub AllBinds : List BindForm → Type 0
AllBinds [] = Unit {0}
AllBinds (b ∷ bs) = BindEnds b × AllBinds bs

binds_end : (bs : List BindForm) → AllBinds bs → binds_can bs ≡ true
    → Ends (λ rest. binds_tokens bs rest)
binds_end [] s c ts rest = refl
binds_end (b ∷ []) s c ts rest =
    bind_ends None tt key.InWord b s.0 (and_parts (bind_can b) true c).0 ts rest
binds_end (b ∷ d ∷ bs) s c ts rest =
    let u = and_parts (bind_can b) (binds_can (d ∷ bs)) c in
    ap (λ x. bind_tokens None key.InWord b (token.Key key.Comma ∷ x))
    (binds_end (d ∷ bs) s.1 u.1 ts rest)
    ∙ bind_ends None tt key.InWord b s.0 u.0 (token.Key key.Comma ∷ binds_tokens (d ∷ bs) ts) rest

pub quantified_ends : (every : Bool) (bs : List BindForm) (a : Form) → AllBinds bs
    → (a.can ≡ true → Ended a) → (quantified every bs a).can ≡ true
    → Ended (quantified every bs a)
quantified_ends every bs a s t c =
    let u = and_parts (has_some bs) (binds_can bs && a.can) c in
    let v = and_parts (binds_can bs) a.can u.1 in
    record {
      ends = λ ts rest. ap (λ x. token.Key (quantifier every) ∷ x)
          (both (λ r. binds_tokens bs r) (λ r. token.Key key.SatisfiesWord ∷ said single a r)
          (binds_end bs s v.0) (source_ends key.SatisfiesWord a (t v.1)) ts rest);
      fills = λ ts. refl;
    }

-- clauses

pub for_ends : (p : Prefixes) (b : BindForm) (n : Option ExprName) → BindEnds b
    → (for_clause b (placing p n)).can ≡ true → Ends (for_clause b (placing p n)).tokens
for_ends p b n s c =
    let u = and_parts (bind_can b) (may (placing p n)) c in
    bind_ends (placing p n) (placing_may p n u.1) key.InWord b s u.0

pub let_ends : (b : BindForm) → BindEnds b → (let_clause b).can ≡ true
    → Ends (let_clause b).tokens
let_ends b s c = bind_ends None tt key.Assign b s c

abbrev pub AllClauses : List ClauseForm → Type 0
AllClauses [] = Unit {0}
AllClauses (c ∷ cs) = (c.can ≡ true → Ends c.tokens) × AllClauses cs

clause_ends : (loops : Bool) (f : ClauseForm) → Ends f.tokens
    → Ends (λ rest. clause_tokens loops f rest)
clause_ends loops f s = go f.loops loops
  where
    go : (b l : Bool) → Ends (λ rest. cond b (cond l (token.Key key.Comma ∷ f.tokens rest)
        (token.Key key.ForWord ∷ f.tokens rest)) (token.Key key.LetWord ∷ f.tokens rest))
    go true true ts rest = ap (λ x. token.Key key.Comma ∷ x) (s ts rest)
    go true false ts rest = ap (λ x. token.Key key.ForWord ∷ x) (s ts rest)
    go false l ts rest = ap (λ x. token.Key key.LetWord ∷ x) (s ts rest)

clause_fills : (f : ClauseForm) → Fills (λ rest. clause_tokens false f rest)
clause_fills f = go f.loops
  where
    go : (b : Bool) → Fills (λ rest. cond b (token.Key key.ForWord ∷ f.tokens rest)
        (token.Key key.LetWord ∷ f.tokens rest))
    go true ts = refl
    go false ts = refl

clauses_end : (loops : Bool) (fs : List ClauseForm) → AllClauses fs → clauses_can fs ≡ true
    → Ends (λ rest. clauses_tokens loops fs rest)
clauses_end loops [] s c ts rest = refl
clauses_end loops (f ∷ fs) s c ts rest =
    let u = and_parts f.can (clauses_can fs) c in
    ap (λ x. clause_tokens loops f x) (clauses_end f.loops fs s.1 u.1 ts rest)
    ∙ clause_ends loops f (s.0 u.0) (clauses_tokens f.loops fs ts) rest

clauses_fill : (fs : List ClauseForm) → has_some fs ≡ true
    → Fills (λ rest. clauses_tokens false fs rest)
clauses_fill [] c ts = absurd (cc)
clauses_fill (f ∷ fs) c ts = clause_fills f (clauses_tokens f.loops fs ts)

where_ends : (o : Option Form) → MayEnd o → Ends (λ rest. where_tokens o rest)
where_ends None s ts rest = refl
where_ends (Some f) s ts rest = source_ends key.WhereWord f s ts rest

abbrev pub AllOrders : List OrderForm → Type 0
AllOrders [] = Unit {0}
AllOrders (o ∷ os) = (o.key.can ≡ true → Ended o.key) × AllOrders os

way_ends : (b : Bool) → Ends (λ rest. way_tokens b rest)
way_ends true ts rest = refl
way_ends false ts rest = refl

key_ends : (o : OrderForm) → Ended o.key
    → Ends (λ rest. said single o.key (way_tokens o.descending rest))
key_ends o s = both (λ r. said single o.key r) (λ r. way_tokens o.descending r)
    (said_ends single o.key s.ends) (way_ends o.descending)

keys_end : (os : List OrderForm) → AllOrders os → orders_can os ≡ true
    → Ends (λ rest. keys_tokens os rest)
keys_end [] s c ts rest = refl
keys_end (o ∷ []) s c ts rest = key_ends o (s.0 (and_parts o.key.can true c).0) ts rest
keys_end (o ∷ q ∷ os) s c ts rest =
    let u = and_parts o.key.can (orders_can (q ∷ os)) c in
    ap (λ x. said single o.key (way_tokens o.descending (token.Key key.Comma ∷ x)))
    (keys_end (q ∷ os) s.1 u.1 ts rest)
    ∙ key_ends o (s.0 u.0) (token.Key key.Comma ∷ keys_tokens (q ∷ os) ts) rest

stable_ends : (b : Bool) → Ends (λ rest. stable_tokens b rest)
stable_ends true ts rest = refl
stable_ends false ts rest = refl

order_ends : (stable : Bool) (os : List OrderForm) → AllOrders os → orders_can os ≡ true
    → Ends (λ rest. order_tokens stable os rest)
order_ends stable [] s c ts rest = refl
order_ends stable (o ∷ os) s c ts rest =
    ap (λ x. stable_tokens stable (token.Key key.OrderWord ∷ token.Key key.ByWord ∷ x))
    (keys_end (o ∷ os) s c ts rest)
    ∙ stable_ends stable
    (token.Key key.OrderWord ∷ token.Key key.ByWord ∷ keys_tokens (o ∷ os) ts) rest

pub flowing_ends : (fs : List ClauseForm) (o : Option Form) (os : List OrderForm)
    (stable : Bool) (a : Form) → AllClauses fs → (may o ≡ true → MayEnd o) → AllOrders os
    → (a.can ≡ true → Ended a) → (flowing fs o os stable a).can ≡ true
    → Ended (flowing fs o os stable a)
flowing_ends fs o os stable a sf so sq sa c =
    let last : Bool = (not stable || has_some os) && a.can in
    let u = and_parts (has_some fs) (clauses_can fs && (may o && (orders_can os && last))) c in
    let v = and_parts (clauses_can fs) (may o && (orders_can os && last)) u.1 in
    let w = and_parts (may o) (orders_can os && last) v.1 in
    let q = and_parts (orders_can os) last w.1 in
    let r = and_parts (not stable || has_some os) a.can q.1 in
    let first : List Token → List Token = λ x. token.Key key.ReturnWord ∷ said single a x in
    let second : List Token → List Token = λ x. order_tokens stable os (first x) in
    record {
      ends = both (λ x. clauses_tokens false fs x) (λ x. where_tokens o (second x))
          (clauses_end false fs sf v.0) (both (λ x. where_tokens o x) second (where_ends o (so w.0))
          (both (λ x. order_tokens stable os x) first (order_ends stable os sq q.0)
          (source_ends key.ReturnWord a (sa r.1))));
      fills = λ ts. clauses_fill fs u.0 (where_tokens o (second ts));
    }
