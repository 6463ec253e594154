-- The tokens of quantifiers and FLWOR expressions are fit.
use Rattle.std.proofs.Common.{◌≡◌, List, [], ◌∷◌, Bool, true, false, ◌&&◌, ◌||◌, not, cond}
use Rattle.std.proofs.Common.{Option, Some, None}
use Rattle.std.proofs.lemmas.Bool.{and_parts}
use Rattle.xt_names.specs.declared.names.ExprName.{ExprName}
use Rattle.xt_types.specs.declared.types.SeqType.{SeqType}
use Rattle.xt_syntax.specs.declared.prefixes.Prefixes.{Prefixes}
use Rattle.closed_queries.specs.Texts.{is_sound_expr_name, is_sound_kind}
use Rattle.closed_queries.specs.ExprTexts.{is_sound_place}
use Rattle.expr_keys.specs.declared.keys.Key.{Key}
use Rattle.expr_keys.specs.declared.keys.Key.TheVariants as key
use Rattle.expr_keys.specs.declared.tokens.Token.{Token}
use Rattle.expr_keys.specs.declared.tokens.Token.TheVariants as token
use Rattle.expr_raws.specs.PathRaws.Forms.{Form, single, said}
use Rattle.expr_raws.specs.ControlRaws.Bindings.{typing, placing, may, has_some, BindForm, bind_can}
use Rattle.expr_raws.specs.ControlRaws.Bindings.{typing_tokens, placing_tokens, bind_tokens, binds_tokens}
use Rattle.expr_raws.specs.ControlRaws.Bindings.{binds_can, quantified, ClauseForm, for_clause}
use Rattle.expr_raws.specs.ControlRaws.Bindings.{let_clause, clause_tokens, clauses_tokens, clauses_can}
use Rattle.expr_raws.specs.ControlRaws.Bindings.{where_tokens, OrderForm, orders_can, way_tokens}
use Rattle.expr_raws.specs.ControlRaws.Bindings.{keys_tokens, stable_tokens, order_tokens, flowing}
use Rattle.token_laws.specs.FitTokens.Keeps.{are_prefixes}
use Rattle.token_laws.proofs.FitTokens.Fits.{Fits, said_fits}
use Rattle.token_laws.proofs.FitTokens.Parts.{name_fits, sequence_fits}
use Rattle.xt_names.specs.ExprNames.{same_name}

-- what may be left out
abbrev pub MayFit : Option Form → Type 0
MayFit None = Unit {0}
MayFit (Some f) = Fits f.tokens

module _ (p : Prefixes) (ps : are_prefixes p.bound ≡ true) where
  pub typing_fits : (t : Option SeqType) → is_sound_kind t ≡ true → may (typing p t) ≡ true
      → MayFit (typing p t)
  unfolding is_sound_kind
  typing_fits None s c = tt
  typing_fits (Some t) s c = sequence_fits p ps t s c

  placing_fits : (v : ExprName) (n : Option ExprName) → is_sound_place v n ≡ true
      → may (placing p n) ≡ true → MayFit (placing p n)
  unfolding is_sound_place
  placing_fits v None s c = tt
  placing_fits v (Some n) s c =
      name_fits p ps n (and_parts (is_sound_expr_name n) (not (same_name v n)) s).0 c

-- what a binding is made of
pub record BindFits (b : BindForm) : Type 0 where
  pub name : b.name.can ≡ true → Fits b.name.tokens
  pub kind : may b.kind ≡ true → MayFit b.kind
  pub source : b.source.can ≡ true → Fits b.source.tokens

typed_fit : (o : Option Form) → MayFit o → Fits (λ rest. typing_tokens o rest)
typed_fit None s rest g h = h g
typed_fit (Some f) s rest g h = s rest g h

placed_fit : (o : Option Form) → MayFit o → Fits (λ rest. placing_tokens o rest)
placed_fit None s rest g h = h g
placed_fit (Some f) s rest g h = s rest g h

bind_fits : (o : Option Form) → MayFit o → (k : Key) (b : BindForm) → BindFits b
    → bind_can b ≡ true → Fits (λ rest. bind_tokens o k b rest)
bind_fits o m k b s c rest g h =
    let u = and_parts b.name.can (may b.kind && b.source.can) c in
    let v = and_parts (may b.kind) b.source.can u.1 in
    let first : List Token = token.Key k ∷ said single b.source rest in
    let second : List Token = placing_tokens o first in
    s.name u.0 (typing_tokens b.kind second) g
    (λ x. typed_fit b.kind (s.kind v.0) second x (λ y. placed_fit o m first y
    (λ z. said_fits single b.source (s.source v.1) rest z h)))

abbrev pub AllBinds : List BindForm → Type 0
AllBinds [] = Unit {0}
AllBinds (b ∷ bs) = BindFits b × AllBinds bs

binds_fit : (bs : List BindForm) → AllBinds bs → binds_can bs ≡ true
    → Fits (λ rest. binds_tokens bs rest)
binds_fit [] s c rest g h = h g
binds_fit (b ∷ []) s c rest g h =
    bind_fits None tt key.InWord b s.0 (and_parts (bind_can b) true c).0 rest g h
binds_fit (b ∷ d ∷ bs) s c rest g h =
    let u = and_parts (bind_can b) (binds_can (d ∷ bs)) c in
    bind_fits None tt key.InWord b s.0 u.0 (token.Key key.Comma ∷ binds_tokens (d ∷ bs) rest) g
    (λ y. binds_fit (d ∷ bs) s.1 u.1 rest y h)

pub quantified_fits : (every : Bool) (bs : List BindForm) (a : Form) → AllBinds bs
    → (a.can ≡ true → Fits a.tokens) → (quantified every bs a).can ≡ true
    → Fits (quantified every bs a).tokens
quantified_fits every bs a s t c rest g h =
    let u = and_parts (has_some bs) (binds_can bs && a.can) c in
    let v = and_parts (binds_can bs) a.can u.1 in
    binds_fit bs s v.0 (token.Key key.SatisfiesWord ∷ said single a rest) g
    (λ z. said_fits single a (t v.1) rest z h)

-- clauses

pub for_fits : (p : Prefixes) → are_prefixes p.bound ≡ true → (b : BindForm) (v : ExprName)
    (n : Option ExprName) → is_sound_place v n ≡ true → BindFits b
    → (for_clause b (placing p n)).can ≡ true → Fits (for_clause b (placing p n)).tokens
for_fits p ps b v n i s c =
    let u = and_parts (bind_can b) (may (placing p n)) c in
    bind_fits (placing p n) (placing_fits p ps v n i u.1) key.InWord b s u.0

pub let_fits : (b : BindForm) → BindFits b → (let_clause b).can ≡ true
    → Fits (let_clause b).tokens
let_fits b s c = bind_fits None tt key.Assign b s c

abbrev pub AllClauses : List ClauseForm → Type 0
AllClauses [] = Unit {0}
AllClauses (c ∷ cs) = (c.can ≡ true → Fits c.tokens) × AllClauses cs

clause_fits : (loops : Bool) (f : ClauseForm) → Fits f.tokens
    → Fits (λ rest. clause_tokens loops f rest)
clause_fits loops f s = go f.loops loops
  where
    go : (b l : Bool) → Fits (λ rest. cond b (cond l (token.Key key.Comma ∷ f.tokens rest)
        (token.Key key.ForWord ∷ f.tokens rest)) (token.Key key.LetWord ∷ f.tokens rest))
    go true true rest g h = s rest g h
    go true false rest g h = s rest g h
    go false l rest g h = s rest g h

clauses_fit : (loops : Bool) (fs : List ClauseForm) → AllClauses fs → clauses_can fs ≡ true
    → Fits (λ rest. clauses_tokens loops fs rest)
clauses_fit loops [] s c rest g h = h g
clauses_fit loops (f ∷ fs) s c rest g h =
    let u = and_parts f.can (clauses_can fs) c in
    clause_fits loops f (s.0 u.0) (clauses_tokens f.loops fs rest) g
    (λ x. clauses_fit f.loops fs s.1 u.1 rest x h)

where_fits : (o : Option Form) → MayFit o → Fits (λ rest. where_tokens o rest)
where_fits None s rest g h = h g
where_fits (Some f) s rest g h = said_fits single f s rest g h

abbrev pub AllOrders : List OrderForm → Type 0
AllOrders [] = Unit {0}
AllOrders (o ∷ os) = (o.key.can ≡ true → Fits o.key.tokens) × AllOrders os

way_fits : (b : Bool) → Fits (λ rest. way_tokens b rest)
way_fits true rest g h = h g
way_fits false rest g h = h g

keys_fit : (os : List OrderForm) → AllOrders os → orders_can os ≡ true
    → Fits (λ rest. keys_tokens os rest)
keys_fit [] s c rest g h = h g
keys_fit (o ∷ []) s c rest g h =
    said_fits single o.key (s.0 (and_parts o.key.can true c).0) (way_tokens o.descending rest) g
    (λ x. way_fits o.descending rest x h)
keys_fit (o ∷ q ∷ os) s c rest g h =
    let u = and_parts o.key.can (orders_can (q ∷ os)) c in
    let more : List Token = token.Key key.Comma ∷ keys_tokens (q ∷ os) rest in
    said_fits single o.key (s.0 u.0) (way_tokens o.descending more) g
    (λ x. way_fits o.descending more x (λ y. keys_fit (q ∷ os) s.1 u.1 rest y h))

stable_fits : (b : Bool) → Fits (λ rest. stable_tokens b rest)
stable_fits true rest g h = h g
stable_fits false rest g h = h g

order_fits : (stable : Bool) (os : List OrderForm) → AllOrders os → orders_can os ≡ true
    → Fits (λ rest. order_tokens stable os rest)
order_fits stable [] s c rest g h = h g
order_fits stable (o ∷ os) s c rest g h = stable_fits stable
    (token.Key key.OrderWord ∷ token.Key key.ByWord ∷ keys_tokens (o ∷ os) rest) g
    (λ x. keys_fit (o ∷ os) s c rest x h)

pub flowing_fits : (fs : List ClauseForm) (o : Option Form) (os : List OrderForm)
    (stable : Bool) (a : Form) → AllClauses fs → (may o ≡ true → MayFit o) → AllOrders os
    → (a.can ≡ true → Fits a.tokens) → (flowing fs o os stable a).can ≡ true
    → Fits (flowing fs o os stable a).tokens
flowing_fits fs o os stable a sf so sq sa c rest g h =
    let last : Bool = (not stable || has_some os) && a.can in
    let u = and_parts (has_some fs) (clauses_can fs && (may o && (orders_can os && last))) c in
    let v = and_parts (clauses_can fs) (may o && (orders_can os && last)) u.1 in
    let w = and_parts (may o) (orders_can os && last) v.1 in
    let q = and_parts (orders_can os) last w.1 in
    let r = and_parts (not stable || has_some os) a.can q.1 in
    let first : List Token = token.Key key.ReturnWord ∷ said single a rest in
    let second : List Token = order_tokens stable os first in
    clauses_fit false fs sf v.0 (where_tokens o second) g (λ x. where_fits o (so w.0) second x
    (λ y. order_fits stable os sq q.0 first y (λ z. said_fits single a (sa r.1) rest z h)))
