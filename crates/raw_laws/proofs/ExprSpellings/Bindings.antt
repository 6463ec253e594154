-- The tokens of quantifiers and FLWOR expressions spell them.
use Rattle.std.proofs.Common.{◌≡◌, ℕ, List, [], ◌∷◌, ◌++◌, map, Bool, true, false, ◌&&◌, ◌||◌, not}
use Rattle.std.proofs.Common.{cond, refl, sym, ◌∙◌, ap, subst, append_assoc, Option, Some, None}
use Rattle.std.proofs.lemmas.Bool.{and_parts}
use Rattle.xt_names.specs.declared.names.ExprName.{ExprName}
use Rattle.xt_types.specs.declared.types.SeqType.{SeqType}
use Rattle.xt_syntax.specs.declared.prefixes.Prefixes.{Prefixes}
use Rattle.expr_keys.specs.Classes.{fits}
use Rattle.expr_terms.specs.Raws.{build}
use Rattle.expr_keys.specs.declared.keys.Key.{Key}
use Rattle.expr_keys.specs.declared.keys.Key.TheVariants as key
use Rattle.expr_keys.specs.declared.tokens.Token.{Token}
use Rattle.expr_keys.specs.declared.tokens.Token.TheVariants as token
use Rattle.expr_keys.specs.declared.productions.Class.TheVariants as class
use Rattle.expr_keys.specs.declared.productions.Symbol.{Symbol}
use Rattle.expr_keys.specs.declared.productions.Symbol.TheVariants.{Tok as tok, One as one}
use Rattle.expr_keys.specs.declared.productions.Symbol.TheVariants.{Maybe as maybe, Many as many}
use Rattle.expr_keys.specs.declared.productions.Nonterminal.{Nonterminal}
use Rattle.expr_keys.specs.declared.productions.Nonterminal.TheVariants as place
use Rattle.expr_keys.specs.declared.productions.Production.{Production}
use Rattle.expr_keys.specs.declared.productions.Production.TheVariants as production
use Rattle.expr_terms.specs.declared.raws.Raw.{Raw}
use Rattle.expr_terms.specs.declared.raws.Raw.TheVariants.{Leaf as leaf, Node as node}
use Rattle.expr_grammar.specs.Grammar.{Derives, by, Seq, end, taken, next, with, without, stop}
use Rattle.expr_grammar.specs.Grammar.{again}
use Rattle.expr_raws.specs.PathRaws.Forms.{Form, single, at, said, ends_unmarked, key_leaf}
use Rattle.expr_raws.specs.PathRaws.Names.{token_in}
use Rattle.expr_raws.specs.PathRaws.Paths.{with_token, leaf_test}
use Rattle.expr_raws.specs.ControlRaws.Bindings.{variable_name, typing, placing, may, has_some, typed}
use Rattle.expr_raws.specs.ControlRaws.Bindings.{placed, BindForm, bind_can, bound_by, typing_tokens}
use Rattle.expr_raws.specs.ControlRaws.Bindings.{placing_tokens, bind_tokens, binds_tokens, quantifier}
use Rattle.expr_raws.specs.ControlRaws.Bindings.{quant_bind, binds_can, quantified, ClauseForm, for_clause}
use Rattle.expr_raws.specs.ControlRaws.Bindings.{let_clause, Group, looping, letting, with_for, groups}
use Rattle.expr_raws.specs.ControlRaws.Bindings.{with_clause, group_raw, clause_tokens, clauses_tokens}
use Rattle.expr_raws.specs.ControlRaws.Bindings.{clauses_can, wheres, where_tokens, OrderForm, ways}
use Rattle.expr_raws.specs.ControlRaws.Bindings.{order_raw, orders_can, ordering, ordered, way_tokens}
use Rattle.expr_raws.specs.ControlRaws.Bindings.{keys_tokens, stable_tokens, order_tokens, flowing}
use Rattle.raw_laws.proofs.ExprSpellings.Climb.{X}
use Rattle.raw_laws.proofs.ExprSpellings.Spelled.{Calm, CalmIf, Spelled, closed, no_parens}
use Rattle.raw_laws.proofs.ExprSpellings.Paths.{All, Always, token_fits}
use Rattle.raw_laws.proofs.ExprSpellings.Types.{IsSequence, sequence_spelled}

-- the name of a variable is one token
abbrev IsName : Form → Type 0
IsName f = (t : Token) × (fits class.Name t ≡ true) × (f.raw ≡ leaf t)
    × ((rest : List Token) → f.tokens rest ≡ t ∷ rest)

pub name_spelled : (p : Prefixes) (n : ExprName) → (variable_name p n).can ≡ true
    → IsName (variable_name p n)
name_spelled p n = go (token_in class.Name p.bound [] n) refl
  where
    go : (o : Option Token) → token_in class.Name p.bound [] n ≡ o
        → (with_token o leaf_test).can ≡ true → IsName (with_token o leaf_test)
    go None e c = absurd (cc)
    go (Some t) e c = (t, token_fits class.Name p.bound [] n t e, refl, λ rest. refl)

abbrev pub MayBeTyped : Option Form → Type 0
MayBeTyped None = Unit {0}
MayBeTyped (Some f) = IsSequence f

pub typing_spelled : (p : Prefixes) (t : Option SeqType) → may (typing p t) ≡ true
    → MayBeTyped (typing p t)
typing_spelled p None c = tt
typing_spelled p (Some t) c = sequence_spelled p t c

abbrev MayBePlaced : Option Form → Type 0
MayBePlaced None = Unit {0}
MayBePlaced (Some f) = IsName f

pub placing_spelled : (p : Prefixes) (n : Option ExprName) → may (placing p n) ≡ true
    → MayBePlaced (placing p n)
placing_spelled p None c = tt
placing_spelled p (Some n) c = name_spelled p n c

-- what a binding is made of
pub record BindSpelled (b : BindForm) : Type 0 where
  pub name : b.name.can ≡ true → IsName b.name
  pub kind : may b.kind ≡ true → MayBeTyped b.kind
  pub source : b.source.can ≡ true → Always single b.source

-- .. and all of it
record Bound (b : BindForm) : Type 0 where
  name : IsName b.name
  kind : MayBeTyped b.kind
  source : Always single b.source

bound : (b : BindForm) → BindSpelled b → bind_can b ≡ true → Bound b
bound b s c =
    let h = and_parts b.name.can (may b.kind && b.source.can) c in
    let i = and_parts (may b.kind) b.source.can h.1 in
    record { name = s.name h.0; kind = s.kind i.0; source = s.source i.1 }

-- $v as T
typed_seq : (o : Option Form) → MayBeTyped o → {ss : List Symbol} {mid rest : List Token}
    {vs : List Raw} → Calm mid → Seq X ss mid vs rest
    → Seq X (maybe place.TypeDeclaration ∷ ss) (typing_tokens o mid) (typed o ++ vs) rest
typed_seq None t c s = without s
typed_seq (Some f) t {mid = mid} c s =
    with (by production.AsType refl refl (taken refl (next (t mid (λ h. c)) end))) s

named_seq : (f : Form) → IsName f → {ss : List Symbol} {mid rest : List Token} {vs : List Raw}
    → Seq X ss mid vs rest
    → Seq X (tok class.Name ∷ ss) (f.tokens mid) (f.raw ∷ vs) rest
named_seq f n {ss} {mid} {rest} {vs} s =
    subst (λ ts. Seq X (tok class.Name ∷ ss) ts (f.raw ∷ vs) rest) (sym (n.3 mid))
    (subst (λ v. Seq X (tok class.Name ∷ ss) (n.0 ∷ mid) (v ∷ vs) rest) (sym n.2) (taken n.1 s))

placed_seq : (o : Option Form) → MayBePlaced o → {ss : List Symbol} {mid rest : List Token}
    {vs : List Raw} → Seq X ss mid vs rest
    → Seq X (maybe place.PositionalVar ∷ ss) (placing_tokens o mid) (placed o ++ vs) rest
placed_seq None n s = without s
placed_seq (Some f) n s =
    with (by production.AtVariable refl refl (taken refl (taken refl (named_seq f n end)))) s

-- a variable, bound
quant_seq : (b : BindForm) → Bound b → (rest : List Token)
    → CalmIf (ends_unmarked single b.source) rest
    → Derives X place.QuantifiedBinding (bind_tokens None key.InWord b rest) (quant_bind b) rest
quant_seq b s rest c =
    subst (λ v. Derives X place.QuantifiedBinding (bind_tokens None key.InWord b rest) v rest)
    (kept b.kind)
    (by production.QuantifiedIn refl refl (taken refl (named_seq b.name s.name
    (typed_seq b.kind s.kind refl (taken refl (next (s.source rest c) end))))))
  where
    kept : (o : Option Form) → build production.QuantifiedIn
        (b.name.raw ∷ (typed o ++ ([] ++ at single b.source ∷ [])))
        ≡ node production.QuantifiedIn (b.name.raw ∷ (typed o ++ ([] ++ at single b.source ∷ [])))
    kept None = refl
    kept (Some f) = refl

let_seq : (b : BindForm) → Bound b → (rest : List Token)
    → CalmIf (ends_unmarked single b.source) rest
    → Derives X place.LetBinding (bind_tokens None key.Assign b rest)
    (bound_by production.LetAssign [] b) rest
let_seq b s rest c =
    subst (λ v. Derives X place.LetBinding (bind_tokens None key.Assign b rest) v rest)
    (kept b.kind)
    (by production.LetAssign refl refl (taken refl (named_seq b.name s.name
    (typed_seq b.kind s.kind refl (taken refl (next (s.source rest c) end))))))
  where
    kept : (o : Option Form) → build production.LetAssign
        (b.name.raw ∷ (typed o ++ ([] ++ at single b.source ∷ [])))
        ≡ node production.LetAssign (b.name.raw ∷ (typed o ++ ([] ++ at single b.source ∷ [])))
    kept None = refl
    kept (Some f) = refl

placing_calm : (o : Option Form) (rest : List Token) → Calm rest → Calm (placing_tokens o rest)
placing_calm None rest c = c
placing_calm (Some f) rest c = refl

for_seq : (b : BindForm) (o : Option Form) → Bound b → MayBePlaced o → (rest : List Token)
    → CalmIf (ends_unmarked single b.source) rest
    → Derives X place.ForBinding (bind_tokens o key.InWord b rest)
    (bound_by production.ForIn (placed o) b) rest
for_seq b o s n rest c =
    subst (λ v. Derives X place.ForBinding (bind_tokens o key.InWord b rest) v rest)
    (kept b.kind o)
    (by production.ForIn refl refl (taken refl (named_seq b.name s.name
    (typed_seq b.kind s.kind (placing_calm o _ refl) (placed_seq o n
    (taken refl (next (s.source rest c) end)))))))
  where
    kept : (k : Option Form) (o : Option Form) → build production.ForIn
        (b.name.raw ∷ (typed k ++ (placed o ++ at single b.source ∷ [])))
        ≡ node production.ForIn (b.name.raw ∷ (typed k ++ (placed o ++ at single b.source ∷ [])))
    kept None None = refl
    kept None (Some g) = refl
    kept (Some f) None = refl
    kept (Some f) (Some g) = refl

-- quantifiers

abbrev AllBound : List BindForm → Type 0
AllBound [] = Unit {0}
AllBound (b ∷ bs) = Bound b × AllBound bs

abbrev pub AllBinds : List BindForm → Type 0
AllBinds [] = Unit {0}
AllBinds (b ∷ bs) = BindSpelled b × AllBinds bs

binds_seq : (b : BindForm) (bs : List BindForm) → Bound b → AllBound bs → {ss : List Symbol}
    {mid rest : List Token} {vs : List Raw} → Calm mid → Seq X ss mid vs rest
    → Seq X (one place.QuantifiedBinding ∷ many place.CommaQuantifiedBinding ∷ ss) (binds_tokens (b ∷ bs) mid)
    (map (λ c. quant_bind c) (b ∷ bs) ++ vs) rest
binds_seq b [] s a {mid = mid} c q = next (quant_seq b s mid (λ h. c)) (stop q)
binds_seq b (d ∷ bs) s a {ss} {mid} {rest} {vs} c q =
    next (quant_seq b s (token.Key key.Comma ∷ binds_tokens (d ∷ bs) mid) (λ h. refl))
    (after (binds_seq d bs a.0 a.1 c q))
  where
    after : {ts : List Token} {us : List Raw}
        → Seq X (one place.QuantifiedBinding ∷ many place.CommaQuantifiedBinding ∷ ss) ts us rest
        → Seq X (many place.CommaQuantifiedBinding ∷ ss) (token.Key key.Comma ∷ ts) us rest
    after (next e s) = again (by production.NextQuantifiedBinding refl refl (taken refl (next e end))) s

all_bound : (bs : List BindForm) → AllBinds bs → binds_can bs ≡ true → AllBound bs
all_bound [] a c = tt
all_bound (b ∷ bs) a c =
    let h = and_parts (bind_can b) (binds_can bs) c in (bound b a.0 h.0, all_bound bs a.1 h.1)

quantifier_fits : (every : Bool) → fits class.Quantifier (token.Key (quantifier every)) ≡ true
quantifier_fits true = refl
quantifier_fits false = refl

pub quantified_spelled : (every : Bool) (bs : List BindForm) (f : Form) → AllBinds bs
    → (f.can ≡ true → Always single f) → (quantified every bs f).can ≡ true
    → Spelled (quantified every bs f)
quantified_spelled every [] f a s c = absurd (cc)
quantified_spelled every (b ∷ bs) f a s c =
    let h = and_parts (binds_can (b ∷ bs)) f.can c in
    let d : AllBound (b ∷ bs) = all_bound (b ∷ bs) a h.0 in
    let vs : List Raw = key_leaf (quantifier every)
    ∷ (map (λ e. quant_bind e) (b ∷ bs) ++ at single f ∷ []) in
    record {
      whole = λ rest u. by production.QuantifiedExpr refl refl (taken (quantifier_fits every)
          (binds_seq b bs d.0 d.1 refl (taken refl (next (s h.1 rest u) end))));
      inside = closed _ _ production.QuantifiedExpr vs refl;
      placed = refl;
      tightest = λ g. no_parens production.QuantifiedExpr vs refl g;
      ended = λ g. no_parens production.QuantifiedExpr vs refl g;
      at_step = refl;
    }

-- the variables of `for` and `let`

abbrev binding_place : Bool → Nonterminal
binding_place true = place.ForBinding
binding_place false = place.LetBinding

abbrev pub ClauseSpelled : ClauseForm → Type 0
ClauseSpelled c = c.can ≡ true → (rest : List Token) → Calm rest
    → Derives X (binding_place c.loops) (c.tokens rest) c.raw rest

pub for_spelled : (p : Prefixes) (b : BindForm) (n : Option ExprName) → BindSpelled b
    → ClauseSpelled (for_clause b (placing p n))
for_spelled p b n s c rest calm =
    let h = and_parts (bind_can b) (may (placing p n)) c in
    for_seq b (placing p n) (bound b s h.0) (placing_spelled p n h.1) rest (λ u. calm)

pub let_spelled : (b : BindForm) → BindSpelled b → ClauseSpelled (let_clause b)
let_spelled b s c rest calm = let_seq b (bound b s c) rest (λ u. calm)

-- the variables that go on with the `for` before them, and the groups after them
abbrev lead : List Group → List Raw
lead (looping vs ∷ gs) = vs
lead _ = []

abbrev after : List Group → List Group
after (looping vs ∷ gs) = gs
after gs = gs

with_for_is : (v : Raw) (gs : List Group) → with_for v gs ≡ looping (v ∷ lead gs) ∷ after gs
with_for_is v [] = refl
with_for_is v (looping vs ∷ gs) = refl
with_for_is v (letting w ∷ gs) = refl

calm_clauses : (loops : Bool) (cs : List ClauseForm) (rest : List Token) → Calm rest
    → Calm (clauses_tokens loops cs rest)
calm_clauses loops [] rest c = c
calm_clauses loops (x ∷ cs) rest c = go x.loops loops
  where
    go : (b d : Bool) → Calm (cond b (cond d (token.Key key.Comma
        ∷ x.tokens (clauses_tokens x.loops cs rest))
        (token.Key key.ForWord ∷ x.tokens (clauses_tokens x.loops cs rest)))
        (token.Key key.LetWord ∷ x.tokens (clauses_tokens x.loops cs rest)))
    go true true = refl
    go true false = refl
    go false d = refl

abbrev Raws : List Group → List Raw
Raws gs = map (λ g. group_raw g) gs

-- the tokens of clauses, one after the other
data Groups : List Token → List Group → List Token → Type 0 where
  none : {ts : List Token} → Groups ts [] ts
  more : {ts mid rest : List Token} {g : Group} {gs : List Group}
      → Derives X place.Clause ts (group_raw g) mid → Groups mid gs rest → Groups ts (g ∷ gs) rest

-- the tokens of clauses where a `for` comes before them
abbrev Going : List Token → List Group → List Token → Type 0
Going ts gs rest = (mid : List Token) × Seq X (many place.CommaForBinding ∷ []) ts (lead gs) mid
    × Groups mid (after gs) rest

abbrev Both : List ClauseForm → List Token → Type 0
Both cs rest = Groups (clauses_tokens false cs rest) (groups cs) rest
    × Going (clauses_tokens true cs rest) (groups cs) rest

-- .. after a first clause, that is of `for` or not
abbrev BothOf : Bool → ClauseForm → List ClauseForm → List Group → List Token → Type 0
BothOf l x cs gs rest =
    Groups (cond l (token.Key key.ForWord ∷ x.tokens (clauses_tokens l cs rest))
    (token.Key key.LetWord ∷ x.tokens (clauses_tokens l cs rest))) gs rest
    × Going (cond l (token.Key key.Comma ∷ x.tokens (clauses_tokens l cs rest))
    (token.Key key.LetWord ∷ x.tokens (clauses_tokens l cs rest))) gs rest

for_kept : (v : Raw) (vs : List Raw)
    → build production.ForClause (v ∷ vs) ≡ node production.ForClause (v ∷ vs)
for_kept v [] = refl
for_kept v (w ∷ vs) = refl

for_group : (gs : List Group) {ts mid rest : List Token} {v : Raw}
    → Derives X place.ForBinding ts v mid → Going mid gs rest
    → Groups (token.Key key.ForWord ∷ ts) (looping (v ∷ lead gs) ∷ after gs) rest
for_group gs {ts = ts} {v = v} d g =
    let f : Derives X place.Clause (token.Key key.ForWord ∷ ts)
    (node production.ForClause (v ∷ lead gs)) g.0 =
    subst (λ w. Derives X place.Clause (token.Key key.ForWord ∷ ts) w g.0)
    (for_kept v (lead gs)) (by production.ForClause refl refl (taken refl (next d g.1))) in
    more f g.2

let_group : {ts mid rest : List Token} {v : Raw} {gs : List Group}
    → Derives X place.LetBinding ts v mid → Groups mid gs rest
    → Groups (token.Key key.LetWord ∷ ts) (letting v ∷ gs) rest
let_group d g = more (by production.LetClause refl refl (taken refl (next d (stop end)))) g

going_on : (gs : List Group) {ts mid rest : List Token} {v : Raw}
    → Derives X place.ForBinding ts v mid → Going mid gs rest
    → Going (token.Key key.Comma ∷ ts) (looping (v ∷ lead gs) ∷ after gs) rest
going_on gs d g =
    (g.0, again (by production.NextForBinding refl refl (taken refl (next d end))) g.1, g.2)

abbrev pub AllClauses : List ClauseForm → Type 0
AllClauses [] = Unit {0}
AllClauses (c ∷ cs) = ClauseSpelled c × AllClauses cs

both : (cs : List ClauseForm) → AllClauses cs → clauses_can cs ≡ true → (rest : List Token)
    → Calm rest → Both cs rest
both [] a c rest calm = (none, (rest, stop end, none))
both (x ∷ cs) a c rest calm =
    let h = and_parts x.can (clauses_can cs) c in
    go x.loops refl (a.0 h.0 (clauses_tokens x.loops cs rest) (calm_clauses x.loops cs rest calm))
    (both cs a.1 h.1 rest calm)
  where
    go : (b : Bool) → x.loops ≡ b
        → Derives X (binding_place x.loops) (x.tokens (clauses_tokens x.loops cs rest)) x.raw
        (clauses_tokens x.loops cs rest) → Both cs rest → Both (x ∷ cs) rest
    go true e d m =
        let f : Derives X place.ForBinding (x.tokens (clauses_tokens true cs rest)) x.raw
        (clauses_tokens true cs rest) = subst (λ l. Derives X (binding_place l)
        (x.tokens (clauses_tokens l cs rest)) x.raw (clauses_tokens l cs rest)) e d in
        subst (λ l. BothOf l x cs (cond l (with_for x.raw (groups cs))
        (letting x.raw ∷ groups cs)) rest) (sym e)
        (subst (λ gs. BothOf true x cs gs rest) (sym (with_for_is x.raw (groups cs)))
        (for_group (groups cs) f m.1, going_on (groups cs) f m.1))
    go false e d m =
        let f : Derives X place.LetBinding (x.tokens (clauses_tokens false cs rest)) x.raw
        (clauses_tokens false cs rest) = subst (λ l. Derives X (binding_place l)
        (x.tokens (clauses_tokens l cs rest)) x.raw (clauses_tokens l cs rest)) e d in
        subst (λ l. BothOf l x cs (cond l (with_for x.raw (groups cs))
        (letting x.raw ∷ groups cs)) rest) (sym e) (
          let_group f m.0,
          (
            token.Key key.LetWord ∷ x.tokens (clauses_tokens false cs rest),
            stop end,
            let_group f m.0,
          ),
        )

-- where, order by and return

abbrev pub MayBeSaid : Option Form → Type 0
MayBeSaid None = Unit {0}
MayBeSaid (Some f) = Always single f

abbrev AllKeys : List OrderForm → Type 0
AllKeys [] = Unit {0}
AllKeys (o ∷ os) = Always single o.key × AllKeys os

abbrev pub AllOrders : List OrderForm → Type 0
AllOrders [] = Unit {0}
AllOrders (o ∷ os) = (o.key.can ≡ true → Always single o.key) × AllOrders os

where_seq : (o : Option Form) → MayBeSaid o → {ss : List Symbol} {mid rest : List Token}
    {vs : List Raw} → Calm mid → Seq X ss mid vs rest
    → Seq X (maybe place.WhereClause ∷ ss) (where_tokens o mid) (wheres o ++ vs) rest
where_seq None a c s = without s
where_seq (Some f) a {mid = mid} c s =
    with (by production.WhereTest refl refl (taken refl (next (a mid (λ h. c)) end))) s

way_calm : (b : Bool) (rest : List Token) → Calm rest → Calm (way_tokens b rest)
way_calm true rest c = refl
way_calm false rest c = c

spec_kept : (v : Raw) (b : Bool)
    → build production.OrderKey (v ∷ ways b) ≡ node production.OrderKey (v ∷ ways b)
spec_kept v true = refl
spec_kept v false = refl

spec_seq : (o : OrderForm) → Always single o.key → (rest : List Token) → Calm rest
    → Derives X place.OrderSpec (said single o.key (way_tokens o.descending rest)) (order_raw o) rest
spec_seq o a rest c = subst (λ v. Derives X place.OrderSpec
    (said single o.key (way_tokens o.descending rest)) v rest)
    (spec_kept (at single o.key) o.descending) (by production.OrderKey refl refl
    (next (a (way_tokens o.descending rest) (λ h. way_calm o.descending rest c))
    (way o.descending)))
  where
    way : (b : Bool) → Seq X (maybe place.Direction ∷ maybe place.EmptyPart ∷ [])
        (way_tokens b rest) (ways b) rest
    way true = with (by production.OrderDirection refl refl (taken refl end)) (without end)
    way false = without (without end)

specs_seq : (o : OrderForm) (os : List OrderForm) → Always single o.key → AllKeys os
    → (rest : List Token) → Calm rest
    → Seq X (one place.OrderSpec ∷ many place.CommaOrderSpec ∷ []) (keys_tokens (o ∷ os) rest)
    (map (λ x. order_raw x) (o ∷ os)) rest
specs_seq o [] a b rest c = next (spec_seq o a rest c) (stop end)
specs_seq o (q ∷ os) a b rest c =
    next (spec_seq o a (token.Key key.Comma ∷ keys_tokens (q ∷ os) rest) refl)
    (behind (specs_seq q os b.0 b.1 rest c))
  where
    behind : {ts : List Token} {us : List Raw}
        → Seq X (one place.OrderSpec ∷ many place.CommaOrderSpec ∷ []) ts us rest
        → Seq X (many place.CommaOrderSpec ∷ []) (token.Key key.Comma ∷ ts) us rest
    behind (next e s) = again (by production.NextOrderSpec refl refl (taken refl (next e end))) s

order_kept : (v : Raw) (vs : List Raw)
    → build production.OrderBy (v ∷ vs) ≡ node production.OrderBy (v ∷ vs)
order_kept v [] = refl
order_kept v (w ∷ vs) = refl

stable_kept : (v : Raw) (vs : List Raw)
    → build production.StableOrderBy (v ∷ vs) ≡ node production.StableOrderBy (v ∷ vs)
stable_kept v [] = refl
stable_kept v (w ∷ vs) = refl

order_seq : (stable : Bool) (os : List OrderForm) → AllKeys os → {ss : List Symbol}
    {mid rest : List Token} {vs : List Raw} → Calm mid → Seq X ss mid vs rest
    → Seq X (maybe place.OrderByClause ∷ ss) (order_tokens stable os mid) (ordered stable os ++ vs) rest
order_seq stable [] a c s = without s
order_seq true (o ∷ os) a {mid = mid} c s =
    with (subst (λ v. Derives X place.OrderByClause (order_tokens true (o ∷ os) mid) v mid)
    (stable_kept (order_raw o) (map (λ x. order_raw x) os)) (by production.StableOrderBy refl refl
    (taken refl (taken refl (taken refl (specs_seq o os a.0 a.1 mid c)))))) s
order_seq false (o ∷ os) a {mid = mid} c s =
    with (subst (λ v. Derives X place.OrderByClause (order_tokens false (o ∷ os) mid) v mid)
    (order_kept (order_raw o) (map (λ x. order_raw x) os)) (by production.OrderBy refl refl
    (taken refl (taken refl (specs_seq o os a.0 a.1 mid c))))) s

order_calm : (stable : Bool) (os : List OrderForm) (rest : List Token) → Calm rest
    → Calm (order_tokens stable os rest)
order_calm stable [] rest c = c
order_calm true (o ∷ os) rest c = refl
order_calm false (o ∷ os) rest c = refl

where_calm : (o : Option Form) (rest : List Token) → Calm rest → Calm (where_tokens o rest)
where_calm None rest c = c
where_calm (Some f) rest c = refl

clauses_seq : {gs : List Group} {ts mid rest : List Token} {ss : List Symbol} {vs : List Raw}
    → Groups ts gs mid → Seq X ss mid vs rest
    → Seq X (many place.NextClause ∷ ss) ts (Raws gs ++ vs) rest
clauses_seq none s = stop s
clauses_seq (more d q) s =
    again (by production.FollowingClause refl refl (next d end)) (clauses_seq q s)

-- the first clause stands by itself
first_clause : {gs : List Group} {ts mid rest : List Token} {ss : List Symbol} {vs : List Raw}
    → has_some gs ≡ true → Groups ts gs mid → Seq X ss mid vs rest
    → Seq X (one place.Clause ∷ many place.NextClause ∷ ss) ts (Raws gs ++ vs) rest
first_clause h none s = absurd (cc)
first_clause h (more d q) s = next d (clauses_seq q s)

some_groups : (cs : List ClauseForm) → has_some cs ≡ true → has_some (groups cs) ≡ true
some_groups [] h = absurd (cc)
some_groups (c ∷ cs) h = go c.loops
  where
    go : (b : Bool) → has_some (cond b (with_for c.raw (groups cs))
        (letting c.raw ∷ groups cs)) ≡ true
    go true = ap has_some (with_for_is c.raw (groups cs))
    go false = refl

flwor_kept : (gs : List Group) (us : List Raw) (v : Raw) → has_some gs ≡ true
    → build production.FlworExpr (Raws gs ++ (us ++ v ∷ []))
    ≡ node production.FlworExpr (Raws gs ++ (us ++ v ∷ []))
flwor_kept [] us v h = absurd (cc)
flwor_kept (g ∷ []) [] v h = refl
flwor_kept (g ∷ []) (u ∷ us) v h = refl
flwor_kept (g ∷ k ∷ gs) us v h = refl

all_keys : (os : List OrderForm) → AllOrders os → orders_can os ≡ true → AllKeys os
all_keys [] a c = tt
all_keys (o ∷ os) a c =
    let h = and_parts o.key.can (orders_can os) c in (a.0 h.0, all_keys os a.1 h.1)

pub flowing_spelled : (cs : List ClauseForm) (t : Option Form) (os : List OrderForm)
    (stable : Bool) (f : Form) → AllClauses cs → (may t ≡ true → MayBeSaid t) → AllOrders os
    → (f.can ≡ true → Always single f) → (flowing cs t os stable f).can ≡ true
    → Spelled (flowing cs t os stable f)
flowing_spelled cs t os stable f a w o s c =
    let ends : Bool = (not stable || has_some os) && f.can in
    let h = and_parts (has_some cs) (clauses_can cs && (may t && (orders_can os && ends))) c in
    let i = and_parts (clauses_can cs) (may t && (orders_can os && ends)) h.1 in
    let j = and_parts (may t) (orders_can os && ends) i.1 in
    let k = and_parts (orders_can os) ends j.1 in
    let l = and_parts (not stable || has_some os) f.can k.1 in
    let vs : List Raw = Raws (groups cs) ++ (wheres t ++ (ordered stable os ++ at single f ∷ [])) in
    record {
      whole = λ rest u. whole_flwor h.0 i.0 (w j.0) (all_keys os o k.0) (s l.1) rest u;
      inside = closed _ _ production.FlworExpr vs refl;
      placed = refl;
      tightest = λ g. no_parens production.FlworExpr vs refl g;
      ended = λ g. no_parens production.FlworExpr vs refl g;
      at_step = refl;
    }
  where
    whole_flwor : has_some cs ≡ true → clauses_can cs ≡ true → MayBeSaid t → AllKeys os
        → Always single f → (rest : List Token) → CalmIf (ends_unmarked single f) rest
        → Derives X place.ExprSingle ((flowing cs t os stable f).tokens rest)
        (flowing cs t os stable f).raw rest
    whole_flwor some can said_t keys body rest u =
        let returns : List Token = token.Key key.ReturnWord ∷ said single f rest in
        let orders : List Token = order_tokens stable os returns in
        let tests : List Token = where_tokens t orders in
        let calm : Calm orders = order_calm stable os returns refl in
        let q = both cs a can tests (where_calm t orders calm) in
        subst (λ v. Derives X place.ExprSingle (clauses_tokens false cs tests) v rest)
        (ap (λ us. build production.FlworExpr (Raws (groups cs) ++ us))
        (sym (append_assoc (wheres t) (ordered stable os) (at single f ∷ [])))
        ∙ flwor_kept (groups cs) (wheres t ++ ordered stable os) (at single f)
        (some_groups cs some)
        ∙ ap (λ us. node production.FlworExpr (Raws (groups cs) ++ us))
        (append_assoc (wheres t) (ordered stable os) (at single f ∷ [])))
        (by production.FlworExpr refl refl (first_clause {gs = groups cs} (some_groups cs some) q.0
        (where_seq t said_t calm (order_seq stable os keys refl
        (taken refl (next (body rest u) end))))))
