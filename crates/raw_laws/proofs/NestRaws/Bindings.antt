-- Quantifiers and FLWOR expressions that are printed nest no deeper than what they mean.
use Rattle.std.proofs.Common.{◌≡◌, ℕ, ◌+◌, ◌≤◌, max, List, [], ◌∷◌, ◌++◌, map, Bool, true, false}
use Rattle.std.proofs.Common.{cond, not, ◌&&◌, ◌||◌, refl, arith, Option, Some, None}
use Rattle.std.proofs.lemmas.Bool.{and_parts}
use Rattle.xt_names.specs.declared.names.ExprName.{ExprName}
use Rattle.xt_types.specs.declared.types.SeqType.{SeqType}
use Rattle.xt_syntax.specs.declared.prefixes.Prefixes.{Prefixes}
use Rattle.expr_keys.specs.declared.keys.Key.TheVariants as key
use Rattle.expr_keys.specs.declared.tokens.Token.TheVariants as token
use Rattle.expr_keys.specs.declared.productions.Production.{Production}
use Rattle.expr_keys.specs.declared.productions.Production.TheVariants as production
use Rattle.expr_terms.specs.declared.raws.Raw.{Raw}
use Rattle.expr_terms.specs.declared.raws.Raw.TheVariants.{Node as node}
use Rattle.expr_terms.specs.Nest.{raw_nest_of, is_left, before_parts, whole_nest}
use Rattle.expr_grammar.specs.ExprNest.Held.{held}
use Rattle.expr_raws.specs.PathRaws.Forms.{Form, single, at, key_leaf}
use Rattle.expr_raws.specs.PathRaws.Names.{name_token}
use Rattle.expr_raws.specs.ControlRaws.Types.{sequence_form}
use Rattle.expr_raws.specs.ControlRaws.Bindings.{variable_name, typing, placing, may, has_some, typed}
use Rattle.expr_raws.specs.ControlRaws.Bindings.{placed, BindForm, bind_can, bound_by, quantifier}
use Rattle.expr_raws.specs.ControlRaws.Bindings.{quant_bind, binds_can, quantified, ClauseForm, for_clause}
use Rattle.expr_raws.specs.ControlRaws.Bindings.{let_clause, Group, looping, letting, with_for, groups}
use Rattle.expr_raws.specs.ControlRaws.Bindings.{with_clause, group_raw, clauses_can, wheres, OrderForm}
use Rattle.expr_raws.specs.ControlRaws.Bindings.{ways, order_raw, orders_can, ordering, ordered, flowing}
use Rattle.raw_laws.proofs.NestRaws.Within.{Within, leaf_below, AllBelow, append_below, node_below}
use Rattle.raw_laws.proofs.NestRaws.Within.{level_within, at_within}
use Rattle.raw_laws.proofs.NestRaws.Paths.{leaf_form, sequence_none}

-- names of variables and types have no expression in them

pub name_none : (p : Prefixes) (n : ExprName) → (variable_name p n).can ≡ true
    → raw_nest_of (variable_name p n).raw ≤ 0
name_none p n c = leaf_form (name_token p.bound [] n) c

abbrev pub KindNone : Option Form → Type 0
KindNone None = Unit {0}
KindNone (Some f) = raw_nest_of f.raw ≤ 0

pub kind_none : (p : Prefixes) (t : Option SeqType) → may (typing p t) ≡ true
    → KindNone (typing p t)
kind_none p None c = tt
kind_none p (Some t) c = sequence_none p t c

pub place_none : (p : Prefixes) (o : Option ExprName) → may (placing p o) ≡ true
    → KindNone (placing p o)
place_none p None c = tt
place_none p (Some n) c = name_none p n c

typed_below : (n : ℕ) (o : Option Form) → KindNone o → AllBelow n (typed o)
typed_below n None k = tt
typed_below n (Some f) k =
    let h : raw_nest_of f.raw ≤ n = omega arith in
    (node_below production.AsType refl refl (λ a. refl) n (f.raw ∷ []) (h, tt), tt)

placed_below : (n : ℕ) (o : Option Form) → KindNone o → AllBelow n (placed o)
placed_below n None k = tt
placed_below n (Some f) k =
    let h : raw_nest_of f.raw ≤ n = omega arith in
    (node_below production.AtVariable refl refl (λ a. refl) n (f.raw ∷ []) (h, tt), tt)

-- what a binding is made of
pub record BindWithin (n : ℕ) (f : BindForm) : Type 0 where
  pub name : f.name.can ≡ true → raw_nest_of f.name.raw ≤ 0
  pub kind : may f.kind ≡ true → KindNone f.kind
  pub source : f.source.can ≡ true → Within n f.source.raw

bound_below : (q : Production) → is_left q ≡ false → before_parts q ≡ 0
    → ((a : ℕ) → whole_nest q a ≡ a) → (n : ℕ) (more : List Raw) (f : BindForm)
    → BindWithin n f → bind_can f ≡ true → AllBelow n more
    → raw_nest_of (bound_by q more f) ≤ n
bound_below q l z w n more f g c m =
    let h = and_parts f.name.can (may f.kind && f.source.can) c in
    let i = and_parts (may f.kind) f.source.can h.1 in
    let x : raw_nest_of f.name.raw ≤ 0 = g.name h.0 in
    let y : raw_nest_of f.name.raw ≤ n = omega arith in
    node_below q l z w n (f.name.raw ∷ (typed f.kind ++ (more ++ at single f.source ∷ []))) (
      y,
      append_below n (typed f.kind) (more ++ at single f.source ∷ [])
          (typed_below n f.kind (g.kind i.0))
          (append_below n more (at single f.source ∷ []) m
          ((at_within single f.source n (g.source i.1)).below, tt)),
    )

pub let_below : (n : ℕ) (f : BindForm) → BindWithin n f → (let_clause f).can ≡ true
    → raw_nest_of (let_clause f).raw ≤ n
let_below n f g c = bound_below production.LetAssign refl refl (λ a. refl) n [] f g c tt

pub for_below : (n : ℕ) (f : BindForm) (o : Option Form) → BindWithin n f
    → (may o ≡ true → KindNone o) → (for_clause f o).can ≡ true
    → raw_nest_of (for_clause f o).raw ≤ n
for_below n f o g k c =
    let h = and_parts (bind_can f) (may o) c in
    bound_below production.ForIn refl refl (λ a. refl) n (placed o) f g h.0
    (placed_below n o (k h.1))

-- quantifiers

abbrev pub AllBinds : ℕ → List BindForm → Type 0
AllBinds n [] = Unit {0}
AllBinds n (f ∷ fs) = BindWithin n f × AllBinds n fs

binds_below : (n : ℕ) (fs : List BindForm) → AllBinds n fs → binds_can fs ≡ true
    → AllBelow n (map (λ b. quant_bind b) fs)
binds_below n [] a c = tt
binds_below n (f ∷ fs) a c =
    let h = and_parts (bind_can f) (binds_can fs) c in (
      bound_below production.QuantifiedIn refl refl (λ x. refl) n [] f a.0 h.0 tt,
      binds_below n fs a.1 h.1,
    )

pub quantified_within : (every : Bool) (fs : List BindForm) (a : Form) (n : ℕ) → AllBinds n fs
    → (a.can ≡ true → Within n a.raw) → (quantified every fs a).can ≡ true
    → Within (1 + n) (quantified every fs a).raw
quantified_within every fs a n g t c =
    let h = and_parts (has_some fs) (binds_can fs && a.can) c in
    let i = and_parts (binds_can fs) a.can h.1 in
    level_within production.QuantifiedExpr refl refl refl (λ x. refl) n
    (key_leaf (quantifier every) ∷ (map (λ b. quant_bind b) fs ++ at single a ∷ [])) (
      leaf_below n (token.Key (quantifier every)),
      append_below n (map (λ b. quant_bind b) fs) (at single a ∷ []) (binds_below n fs g i.0)
          ((at_within single a n (t i.1)).below, tt),
    )

-- FLWOR expressions

abbrev pub AllClauses : ℕ → List ClauseForm → Type 0
AllClauses n [] = Unit {0}
AllClauses n (f ∷ fs) = (f.can ≡ true → raw_nest_of f.raw ≤ n) × AllClauses n fs

-- what the variables of one `for`, or that of one `let`, are bound to
abbrev GroupBelow : ℕ → Group → Type 0
GroupBelow n (looping vs) = AllBelow n vs
GroupBelow n (letting v) = raw_nest_of v ≤ n

abbrev Groups : ℕ → List Group → Type 0
Groups n [] = Unit {0}
Groups n (g ∷ gs) = GroupBelow n g × Groups n gs

with_for_below : (n : ℕ) (v : Raw) (gs : List Group) → raw_nest_of v ≤ n → Groups n gs
    → Groups n (with_for v gs)
with_for_below n v [] b a = ((b, tt), tt)
with_for_below n v (looping vs ∷ gs) b a = ((b, a.0), a.1)
with_for_below n v (letting w ∷ gs) b a = ((b, tt), a)

with_clause_below : (n : ℕ) (f : ClauseForm) (gs : List Group) → raw_nest_of f.raw ≤ n
    → Groups n gs → Groups n (with_clause f gs)
with_clause_below n f gs b a = go f.loops
  where
    go : (l : Bool) → Groups n (cond l (with_for f.raw gs) (letting f.raw ∷ gs))
    go true = with_for_below n f.raw gs b a
    go false = (b, a)

groups_below : (n : ℕ) (fs : List ClauseForm) → AllClauses n fs → clauses_can fs ≡ true
    → Groups n (groups fs)
groups_below n [] a c = tt
groups_below n (f ∷ fs) a c =
    let h = and_parts f.can (clauses_can fs) c in
    with_clause_below n f (groups fs) (a.0 h.0) (groups_below n fs a.1 h.1)

group_below : (n : ℕ) (g : Group) → GroupBelow n g → raw_nest_of (group_raw g) ≤ n
group_below n (looping vs) a = node_below production.ForClause refl refl (λ x. refl) n vs a
group_below n (letting v) a =
    node_below production.LetClause refl refl (λ x. refl) n (v ∷ []) (a, tt)

group_raws_below : (n : ℕ) (gs : List Group) → Groups n gs
    → AllBelow n (map (λ g. group_raw g) gs)
group_raws_below n [] a = tt
group_raws_below n (g ∷ gs) a = (group_below n g a.0, group_raws_below n gs a.1)

-- what may be left out
abbrev pub TestWithin : ℕ → Option Form → Type 0
TestWithin n None = Unit {0}
TestWithin n (Some f) = Within n f.raw

where_below : (n : ℕ) (o : Option Form) → TestWithin n o → AllBelow n (wheres o)
where_below n None w = tt
where_below n (Some f) w = (
  node_below production.WhereTest refl refl (λ x. refl) n (at single f ∷ [])
      ((at_within single f n w).below, tt),
  tt,
)

abbrev pub AllOrders : ℕ → List OrderForm → Type 0
AllOrders n [] = Unit {0}
AllOrders n (o ∷ os) = (o.key.can ≡ true → Within n o.key.raw) × AllOrders n os

ways_below : (n : ℕ) (b : Bool) → AllBelow n (ways b)
ways_below n true = (leaf_below n (token.Key key.DescendingWord), tt)
ways_below n false = tt

orders_below : (n : ℕ) (os : List OrderForm) → AllOrders n os → orders_can os ≡ true
    → AllBelow n (map (λ x. order_raw x) os)
orders_below n [] a c = tt
orders_below n (o ∷ os) a c =
    let h = and_parts o.key.can (orders_can os) c in (
      node_below production.OrderKey refl refl (λ x. refl) n (at single o.key ∷ ways o.descending)
          ((at_within single o.key n (a.0 h.0)).below, ways_below n o.descending),
      orders_below n os a.1 h.1,
    )

ordering_below : (n : ℕ) (stable : Bool) (vs : List Raw) → AllBelow n vs
    → raw_nest_of (node (ordering stable) vs) ≤ n
ordering_below n true vs a = node_below production.StableOrderBy refl refl (λ x. refl) n vs a
ordering_below n false vs a = node_below production.OrderBy refl refl (λ x. refl) n vs a

ordered_below : (n : ℕ) (stable : Bool) (os : List OrderForm) → AllOrders n os
    → orders_can os ≡ true → AllBelow n (ordered stable os)
ordered_below n stable [] a c = tt
ordered_below n stable (o ∷ os) a c = (
  ordering_below n stable (map (λ x. order_raw x) (o ∷ os)) (orders_below n (o ∷ os) a c),
  tt,
)

pub flowing_within : (fs : List ClauseForm) (o : Option Form) (os : List OrderForm)
    (stable : Bool) (a : Form) (n : ℕ) → AllClauses n fs → (may o ≡ true → TestWithin n o)
    → AllOrders n os → (a.can ≡ true → Within n a.raw) → (flowing fs o os stable a).can ≡ true
    → Within (1 + n) (flowing fs o os stable a).raw
flowing_within fs o os stable a n gf go gs ga c =
    let last : Bool = (not stable || has_some os) && a.can in
    let h = and_parts (has_some fs) (clauses_can fs && (may o && (orders_can os && last))) c in
    let i = and_parts (clauses_can fs) (may o && (orders_can os && last)) h.1 in
    let j = and_parts (may o) (orders_can os && last) i.1 in
    let k = and_parts (orders_can os) last j.1 in
    let l = and_parts (not stable || has_some os) a.can k.1 in
    let body : List Raw = at single a ∷ [] in
    level_within production.FlworExpr refl refl refl (λ x. refl) n
    (map (λ g. group_raw g) (groups fs) ++ (wheres o ++ (ordered stable os ++ body)))
    (append_below n (map (λ g. group_raw g) (groups fs))
    (wheres o ++ (ordered stable os ++ body))
    (group_raws_below n (groups fs) (groups_below n fs gf i.0))
    (append_below n (wheres o) (ordered stable os ++ body) (where_below n o (go j.0))
    (append_below n (ordered stable os) body (ordered_below n stable os gs k.0)
    ((at_within single a n (ga l.1)).below, tt))))
