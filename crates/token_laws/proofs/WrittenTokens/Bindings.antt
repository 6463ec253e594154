-- The tokens of quantifiers and FLWOR expressions can be written.
use Rattle.std.proofs.Common.{◌≡◌, List, [], ◌∷◌, Bool, true, false, ◌&&◌, ◌||◌, not, cond, refl}
use Rattle.std.proofs.Common.{Option, Some, None}
use Rattle.std.proofs.lemmas.Bool.{and_parts}
use Rattle.xt_names.specs.declared.names.ExprName.{ExprName}
use Rattle.xt_types.specs.declared.types.SeqType.{SeqType}
use Rattle.xt_syntax.specs.declared.prefixes.Prefixes.{Prefixes}
use Rattle.expr_keys.specs.declared.keys.Key.{Key}
use Rattle.expr_keys.specs.declared.keys.Key.TheVariants as key
use Rattle.expr_keys.specs.declared.tokens.Token.{Token}
use Rattle.expr_keys.specs.declared.tokens.Token.TheVariants as token
use Rattle.expr_keys.specs.declared.productions.Production.TheVariants as production
use Rattle.query_pieces.specs.declared.contexts.Change.TheVariants as change
use Rattle.query_pieces.specs.Points.{change_of_key}
use Rattle.expr_raws.specs.PathRaws.Forms.{Form, single, said}
use Rattle.expr_raws.specs.ControlRaws.Bindings.{typing, placing, may, has_some, BindForm, bind_can}
use Rattle.expr_raws.specs.ControlRaws.Bindings.{typing_tokens, placing_tokens, bind_tokens, binds_tokens}
use Rattle.expr_raws.specs.ControlRaws.Bindings.{quantifier, binds_can, quantified, ClauseForm, for_clause}
use Rattle.expr_raws.specs.ControlRaws.Bindings.{let_clause, clause_tokens, clauses_tokens, clauses_can}
use Rattle.expr_raws.specs.ControlRaws.Bindings.{where_tokens, OrderForm, orders_can, way_tokens}
use Rattle.expr_raws.specs.ControlRaws.Bindings.{keys_tokens, stable_tokens, order_tokens, flowing}
use Rattle.token_laws.proofs.WrittenTokens.Says.{Says, key_says, said_says, Written, plain}
use Rattle.token_laws.proofs.WrittenTokens.Paths.{name_says, sequence_says}

-- what may be left out
abbrev pub MaySay : Option Form → Type 0
MaySay None = Unit {0}
MaySay (Some f) = Says f.tokens

pub typing_may : (p : Prefixes) (t : Option SeqType) → may (typing p t) ≡ true
    → MaySay (typing p t)
typing_may p None c = tt
typing_may p (Some t) c = sequence_says p t c

pub placing_may : (p : Prefixes) (n : Option ExprName) → may (placing p n) ≡ true
    → MaySay (placing p n)
placing_may p None c = tt
placing_may p (Some n) c = name_says p n c

-- what a binding is made of
pub record BindSays (b : BindForm) : Type 0 where
  pub name : b.name.can ≡ true → Says b.name.tokens
  pub kind : may b.kind ≡ true → MaySay b.kind
  pub source : b.source.can ≡ true → Says b.source.tokens

typing_says : (o : Option Form) → MaySay o → Says (λ rest. typing_tokens o rest)
typing_says None s cs i rest g h = h g
typing_says (Some f) s cs i rest g h = key_says key.AsWord refl cs i _ g
    (λ a. s cs i rest a h)

placing_says : (o : Option Form) → MaySay o → Says (λ rest. placing_tokens o rest)
placing_says None s cs i rest g h = h g
placing_says (Some f) s cs i rest g h = key_says key.AtWord refl cs i (token.Key key.Dollar
    ∷ f.tokens rest) g
    (λ a. key_says key.Dollar refl cs i _ a (λ b. s cs i rest b h))

bind_says : (o : Option Form) → MaySay o → (k : Key) → change_of_key k ≡ change.Stays
    → (b : BindForm) → BindSays b → bind_can b ≡ true → Says (λ rest. bind_tokens o k b rest)
bind_says o m k e b s c cs i rest g h =
    let u = and_parts b.name.can (may b.kind && b.source.can) c in
    let v = and_parts (may b.kind) b.source.can u.1 in
    let first : List Token = said single b.source rest in
    let second : List Token = placing_tokens o (token.Key k ∷ first) in
    let third : List Token = typing_tokens b.kind second in
    key_says key.Dollar refl cs i (b.name.tokens third) g (λ x1. s.name u.0 cs i third x1
    (λ x2. typing_says b.kind (s.kind v.0) cs i second x2
    (λ x3. placing_says o m cs i (token.Key k ∷ first) x3 (λ x4. key_says k e cs i first x4
    (λ x5. said_says single b.source (s.source v.1) cs i rest x5 h)))))

abbrev pub AllBinds : List BindForm → Type 0
AllBinds [] = Unit {0}
AllBinds (b ∷ bs) = BindSays b × AllBinds bs

binds_say : (bs : List BindForm) → AllBinds bs → binds_can bs ≡ true
    → Says (λ rest. binds_tokens bs rest)
binds_say [] s c cs i rest g h = h g
binds_say (b ∷ []) s c cs i rest g h =
    bind_says None tt key.InWord refl b s.0 (and_parts (bind_can b) true c).0 cs i rest g h
binds_say (b ∷ d ∷ bs) s c cs i rest g h =
    let u = and_parts (bind_can b) (binds_can (d ∷ bs)) c in
    bind_says None tt key.InWord refl b s.0 u.0 cs i
    (token.Key key.Comma ∷ binds_tokens (d ∷ bs) rest) g
    (λ x. key_says key.Comma refl cs i (binds_tokens (d ∷ bs) rest) x
    (λ y. binds_say (d ∷ bs) s.1 u.1 cs i rest y h))

quantifier_calm : (b : Bool) → change_of_key (quantifier b) ≡ change.Stays
quantifier_calm true = refl
quantifier_calm false = refl

pub quantified_written : (every : Bool) (bs : List BindForm) (a : Form) → AllBinds bs
    → (a.can ≡ true → Says a.tokens) → (quantified every bs a).can ≡ true
    → Written (quantified every bs a)
quantified_written every bs a s t c =
    let u = and_parts (has_some bs) (binds_can bs && a.can) c in
    let v = and_parts (binds_can bs) a.can u.1 in
    plain _ production.QuantifiedExpr _ refl refl (λ cs i rest g h.
    let last : List Token = said single a rest in
    let more : List Token = token.Key key.SatisfiesWord ∷ last in
    key_says (quantifier every) (quantifier_calm every) cs i (binds_tokens bs more) g
    (λ x. binds_say bs s v.0 cs i more x (λ y. key_says key.SatisfiesWord refl cs i last y
    (λ z. said_says single a (t v.1) cs i rest z h))))

-- clauses

pub for_says : (p : Prefixes) (b : BindForm) (n : Option ExprName) → BindSays b
    → (for_clause b (placing p n)).can ≡ true → Says (for_clause b (placing p n)).tokens
for_says p b n s c =
    let u = and_parts (bind_can b) (may (placing p n)) c in
    bind_says (placing p n) (placing_may p n u.1) key.InWord refl b s u.0

pub let_says : (b : BindForm) → BindSays b → (let_clause b).can ≡ true
    → Says (let_clause b).tokens
let_says b s c = bind_says None tt key.Assign refl b s c

abbrev pub AllClauses : List ClauseForm → Type 0
AllClauses [] = Unit {0}
AllClauses (c ∷ cs) = (c.can ≡ true → Says c.tokens) × AllClauses cs

clause_says : (loops : Bool) (f : ClauseForm) → Says f.tokens
    → Says (λ rest. clause_tokens loops f rest)
clause_says loops f s = go f.loops loops
  where
    go : (b l : Bool) → Says (λ rest. cond b (cond l (token.Key key.Comma ∷ f.tokens rest)
        (token.Key key.ForWord ∷ f.tokens rest)) (token.Key key.LetWord ∷ f.tokens rest))
    go true true cs i rest g h = key_says key.Comma refl cs i _ g (λ x. s cs i rest x h)
    go true false cs i rest g h = key_says key.ForWord refl cs i _ g (λ x. s cs i rest x h)
    go false l cs i rest g h = key_says key.LetWord refl cs i _ g (λ x. s cs i rest x h)

clauses_say : (loops : Bool) (fs : List ClauseForm) → AllClauses fs → clauses_can fs ≡ true
    → Says (λ rest. clauses_tokens loops fs rest)
clauses_say loops [] s c cs i rest g h = h g
clauses_say loops (f ∷ fs) s c cs i rest g h =
    let u = and_parts f.can (clauses_can fs) c in
    clause_says loops f (s.0 u.0) cs i (clauses_tokens f.loops fs rest) g
    (λ x. clauses_say f.loops fs s.1 u.1 cs i rest x h)

where_says : (o : Option Form) → MaySay o → Says (λ rest. where_tokens o rest)
where_says None s cs i rest g h = h g
where_says (Some f) s cs i rest g h = key_says key.WhereWord refl cs i _ g
    (λ a. said_says single f s cs i rest a h)

abbrev pub AllOrders : List OrderForm → Type 0
AllOrders [] = Unit {0}
AllOrders (o ∷ os) = (o.key.can ≡ true → Says o.key.tokens) × AllOrders os

way_says : (b : Bool) → Says (λ rest. way_tokens b rest)
way_says true cs i rest g h = key_says key.DescendingWord refl cs i rest g h
way_says false cs i rest g h = h g

keys_say : (os : List OrderForm) → AllOrders os → orders_can os ≡ true
    → Says (λ rest. keys_tokens os rest)
keys_say [] s c cs i rest g h = h g
keys_say (o ∷ []) s c cs i rest g h =
    said_says single o.key (s.0 (and_parts o.key.can true c).0) cs i _ g
    (λ x. way_says o.descending cs i rest x h)
keys_say (o ∷ q ∷ os) s c cs i rest g h =
    let u = and_parts o.key.can (orders_can (q ∷ os)) c in
    said_says single o.key (s.0 u.0) cs i _ g (λ x. way_says o.descending cs i _ x
    (λ y. key_says key.Comma refl cs i _ y
    (λ z. keys_say (q ∷ os) s.1 u.1 cs i rest z h)))

stable_says : (b : Bool) → Says (λ rest. stable_tokens b rest)
stable_says true cs i rest g h = key_says key.StableWord refl cs i rest g h
stable_says false cs i rest g h = h g

order_says : (stable : Bool) (os : List OrderForm) → AllOrders os → orders_can os ≡ true
    → Says (λ rest. order_tokens stable os rest)
order_says stable [] s c cs i rest g h = h g
order_says stable (o ∷ os) s c cs i rest g h = stable_says stable cs i
    (token.Key key.OrderWord ∷ token.Key key.ByWord ∷ keys_tokens (o ∷ os) rest) g
    (λ x. key_says key.OrderWord refl cs i (token.Key key.ByWord ∷ keys_tokens (o ∷ os) rest) x
    (λ y. key_says key.ByWord refl cs i _ y
    (λ z. keys_say (o ∷ os) s c cs i rest z h)))

pub flowing_written : (fs : List ClauseForm) (o : Option Form) (os : List OrderForm)
    (stable : Bool) (a : Form) → AllClauses fs → (may o ≡ true → MaySay o) → AllOrders os
    → (a.can ≡ true → Says a.tokens) → (flowing fs o os stable a).can ≡ true
    → Written (flowing fs o os stable a)
flowing_written fs o os stable a sf so sq sa c =
    let last : Bool = (not stable || has_some os) && a.can in
    let u = and_parts (has_some fs) (clauses_can fs && (may o && (orders_can os && last))) c in
    let v = and_parts (clauses_can fs) (may o && (orders_can os && last)) u.1 in
    let w = and_parts (may o) (orders_can os && last) v.1 in
    let q = and_parts (orders_can os) last w.1 in
    let r = and_parts (not stable || has_some os) a.can q.1 in
    plain _ production.FlworExpr _ refl refl (λ cs i rest g h.
    let first : List Token = said single a rest in
    let second : List Token = order_tokens stable os (token.Key key.ReturnWord ∷ first) in
    clauses_say false fs sf v.0 cs i (where_tokens o second) g
    (λ x1. where_says o (so w.0) cs i second x1
    (λ x2. order_says stable os sq q.0 cs i (token.Key key.ReturnWord ∷ first) x2
    (λ x3. key_says key.ReturnWord refl cs i first x3
    (λ x4. said_says single a (sa r.1) cs i rest x4 h)))))
