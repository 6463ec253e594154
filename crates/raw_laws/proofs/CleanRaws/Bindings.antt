-- Quantifiers and FLWOR expressions that are printed break no rule.
use Rattle.std.proofs.Common.{◌≡◌, List, [], ◌∷◌, ◌++◌, map, Bool, true, false, cond, not, ◌&&◌}
use Rattle.std.proofs.Common.{◌||◌, refl, sym, ◌∙◌, ap, Option, Some, None}
use Rattle.std.specs.List.{list_any}
use Rattle.std.proofs.lemmas.Bool.{and_parts}
use Rattle.xt_names.specs.declared.codes.Code.{Code}
use Rattle.xt_names.specs.declared.codes.Code.TheVariants.{QueryStatic}
use Rattle.xt_names.specs.declared.codes.QueryStaticCode.TheVariants.{XQST0089}
use Rattle.xt_names.specs.declared.names.ExprName.{ExprName}
use Rattle.xt_types.specs.declared.types.SeqType.{SeqType}
use Rattle.expr_keys.specs.declared.keys.Key.TheVariants as key
use Rattle.expr_keys.specs.declared.tokens.Token.{Token}
use Rattle.expr_keys.specs.declared.tokens.Token.TheVariants as token
use Rattle.expr_keys.specs.declared.productions.Class.TheVariants as class
use Rattle.expr_keys.specs.declared.productions.Production.{Production}
use Rattle.expr_keys.specs.declared.productions.Production.TheVariants as production
use Rattle.expr_terms.specs.declared.raws.Raw.{Raw}
use Rattle.expr_terms.specs.declared.raws.Raw.TheVariants.{Node as node}
use Rattle.expr_rules.specs.declared.expr_meant.meant.Meant.{Meant}
use Rattle.expr_rules.specs.declared.expr_meant.meant.Meant.TheVariants as meant
use Rattle.expr_rules.specs.Known.{name_of}
use Rattle.expr_rules.specs.Rules.{own_broken, end_broken, is_place_of}
use Rattle.expr_control.specs.Table.{control_value}
use Rattle.expr_resolve.specs.declared.setting.Setting.{Setting}
use Rattle.expr_resolve.specs.Tables.{end, is_chain, is_tag, family_of, value_in}
use Rattle.expr_resolve.specs.Folds.{value_of}
use Rattle.expr_raws.specs.PathRaws.Forms.{Form, single, at, key_leaf}
use Rattle.expr_raws.specs.PathRaws.Names.{name_token}
use Rattle.expr_raws.specs.PathRaws.Paths.{with_token, leaf_test}
use Rattle.expr_raws.proofs.PathRaws.Values.{value_node, append_values}
use Rattle.expr_raws.specs.ControlRaws.Types.{sequence_form}
use Rattle.expr_raws.specs.ControlRaws.Bindings.{variable_name, typing, placing, may, has_some, typed}
use Rattle.expr_raws.specs.ControlRaws.Bindings.{placed, BindForm, bind_can, quantifier}
use Rattle.expr_raws.specs.ControlRaws.Bindings.{quant_bind, binds_can, quantified, ClauseForm, for_clause}
use Rattle.expr_raws.specs.ControlRaws.Bindings.{let_clause, Group, looping, letting, with_for, groups}
use Rattle.expr_raws.specs.ControlRaws.Bindings.{with_clause, group_raw, clauses_can, wheres, OrderForm}
use Rattle.expr_raws.specs.ControlRaws.Bindings.{ways, order_raw, orders_can, ordering, ordered, flowing}
use Rattle.expr_raws.proofs.ControlRaws.Bindings.{name_means}
use Rattle.raw_laws.specs.CleanRaws.Keeps.{is_other}
use Rattle.raw_laws.proofs.CleanRaws.Clean.{Clean, AllClean, append_clean, free_clean, free_parts}
use Rattle.raw_laws.proofs.CleanRaws.Clean.{leaf_clean, Told, told_clean, append_told, untold, Good}
use Rattle.raw_laws.proofs.CleanRaws.Clean.{good_told, at_clean, at_good}
use Rattle.raw_laws.proofs.CleanRaws.Names.{name_declared, Named, leaf_named}
use Rattle.raw_laws.proofs.CleanRaws.Types.{sequence_typed, typed_clean}
use Rattle.xt_names.proofs.BoolLemmas.{not_true}

module _ (s : Setting) where
  variable_found : (n : ExprName) (o : Option Token) → name_token s.prefixes.bound [] n ≡ o
      → (with_token o leaf_test).can ≡ true → Named s (with_token o leaf_test).raw
  variable_found n None o c = absurd (cc)
  variable_found n (Some t) o c =
      leaf_named s t (name_declared class.Name s.prefixes.bound [] n t o)

  -- the name of a variable
  pub variable_named : (n : ExprName) → (variable_name s.prefixes n).can ≡ true
      → Named s (variable_name s.prefixes n).raw
  variable_named n c = variable_found n _ refl c

  -- as T
  abbrev pub Kind : Option Form → Type 0
  Kind None = Unit {0}
  Kind (Some f) = Clean s (node production.AsType (f.raw ∷ []))

  pub kind_clean : (t : Option SeqType) → may (typing s.prefixes t) ≡ true
      → Kind (typing s.prefixes t)
  kind_clean None c = tt
  kind_clean (Some t) c =
      typed_clean s (sequence_form s.prefixes t).raw (sequence_typed s t c)

  kind_told : (p : Production) (o : Option Form) → Kind o → Told s p false (typed o)
  unfolding is_chain family_of value_in control_value
  kind_told p None c = tt
  kind_told p (Some f) c = (
    (
      c,
      untold s p false (node production.AsType (f.raw ∷ [])) _
          (value_node s production.AsType (f.raw ∷ [])) refl,
    ),
    tt,
  )

  -- at $p
  place_clean : (n : ExprName) → (variable_name s.prefixes n).can ≡ true
      → Clean s (node production.AtVariable ((variable_name s.prefixes n).raw ∷ []))
  unfolding own_broken end_broken is_tag is_chain
  place_clean n c = told_clean s production.AtVariable refl refl
      ((variable_name s.prefixes n).raw ∷ []) (variable_named n c, tt) refl

  place_means : (n : ExprName) → (variable_name s.prefixes n).can ≡ true
      → value_of s (node production.AtVariable ((variable_name s.prefixes n).raw ∷ []))
      ≡ meant.Place n
  unfolding is_chain family_of value_in control_value
  place_means n c = value_node s production.AtVariable ((variable_name s.prefixes n).raw ∷ [])
      ∙ ap (λ x. meant.Place x) (name_means s n c)

  place_told : (p : Production) (o : Option ExprName) → may (placing s.prefixes o) ≡ true
      → Told s p false (placed (placing s.prefixes o))
  place_told p None c = tt
  place_told p (Some n) c = (
    (
      place_clean n c,
      untold s p false
          (node production.AtVariable ((variable_name s.prefixes n).raw ∷ [])) (meant.Place n)
          (place_means n c) refl,
    ),
    tt,
  )

  -- what a binding is made of
  pub record BindGood (f : BindForm) (v : ExprName) : Type 0 where
    pub name : f.name.can ≡ true → Named s f.name.raw
    pub means : f.name.can ≡ true → name_of s.prefixes.bound [] (value_of s f.name.raw) ≡ v
    pub kind : may f.kind ≡ true → Kind f.kind
    pub source : f.source.can ≡ true → Good s f.source.raw

  abbrev pub behind : List Raw → BindForm → List Raw
  behind more f = typed f.kind ++ (more ++ at single f.source ∷ [])

  behind_told : (p : Production) (more : List Raw) (f : BindForm) (v : ExprName) → BindGood f v
      → bind_can f ≡ true → Told s p false more → Told s p false (behind more f)
  behind_told p more f v g c t =
      let h = and_parts f.name.can (may f.kind && f.source.can) c in
      let i = and_parts (may f.kind) f.source.can h.1 in
      append_told s p (typed f.kind) (more ++ at single f.source ∷ [])
      (kind_told p f.kind (g.kind i.0))
      (append_told s p more (at single f.source ∷ []) t
      (good_told s p false (at single f.source) (at_good s single f.source (g.source i.1)), tt))

  name_so : (f : BindForm) (v : ExprName) → BindGood f v → bind_can f ≡ true → Named s f.name.raw
  name_so f v g c = g.name (and_parts f.name.can (may f.kind && f.source.can) c).0

  -- a variable of `some` or `every`
  quant_clean : (f : BindForm) (v : ExprName) → BindGood f v → bind_can f ≡ true
      → Clean s (quant_bind f)
  unfolding own_broken end_broken is_tag is_chain
  quant_clean f v g c = told_clean s production.QuantifiedIn refl refl (f.name.raw ∷ behind [] f)
      (name_so f v g c, behind_told production.QuantifiedIn [] f v g c tt) refl

  -- .. of `let`
  pub let_clean : (f : BindForm) (v : ExprName) → BindGood f v → (let_clause f).can ≡ true
      → Clean s (let_clause f).raw
  unfolding own_broken end_broken is_tag is_chain
  let_clean f v g c = told_clean s production.LetAssign refl refl (f.name.raw ∷ behind [] f)
      (name_so f v g c, behind_told production.LetAssign [] f v g c tt) refl

  -- .. of `for`

  abbrev Misses : ExprName → Meant → Type 0
  Misses v m = is_place_of v m ≡ false

  any_append : (v : ExprName) (xs ys : List Meant) → list_any (is_place_of v) xs ≡ false
      → list_any (is_place_of v) ys ≡ false → list_any (is_place_of v) (xs ++ ys) ≡ false
  any_append v [] ys e f = f
  any_append v (x ∷ xs) ys e f = go (is_place_of v x) refl (λ h. any_append v xs ys h f)
    where
      go : (b : Bool) → is_place_of v x ≡ b → (list_any (is_place_of v) xs ≡ false
          → list_any (is_place_of v) (xs ++ ys) ≡ false)
          → list_any (is_place_of v) (x ∷ (xs ++ ys)) ≡ false
      go true w more = absurd (cc)
      go false w more = ap (λ b. b || list_any (is_place_of v) (xs ++ ys)) w
          ∙ more (ap (λ b. b || list_any (is_place_of v) xs) (sym w) ∙ e)

  one_misses : (v : ExprName) (w : Raw) (m : Meant) → value_of s w ≡ m → Misses v m
      → list_any (is_place_of v) (map (value_of s) (w ∷ [])) ≡ false
  one_misses v w m h e = ap (λ x. is_place_of v x || false) h ∙ ap (λ b. b || false) e

  kind_misses : (v : ExprName) (o : Option Form)
      → list_any (is_place_of v) (map (value_of s) (typed o)) ≡ false
  unfolding is_chain family_of value_in control_value is_place_of
  kind_misses v None = refl
  kind_misses v (Some f) = one_misses v (node production.AsType (f.raw ∷ [])) _
      (value_node s production.AsType (f.raw ∷ [])) refl

  place_misses : (v : ExprName) (o : Option ExprName) → may (placing s.prefixes o) ≡ true
      → is_other v o ≡ true
      → list_any (is_place_of v) (map (value_of s) (placed (placing s.prefixes o))) ≡ false
  unfolding is_place_of
  place_misses v None c e = refl
  place_misses v (Some n) c e = one_misses v
      (node production.AtVariable ((variable_name s.prefixes n).raw ∷ [])) (meant.Place n)
      (place_means n c) (not_true e)

  source_misses : (v : ExprName) (f : Form) → Good s f.raw
      → list_any (is_place_of v) (map (value_of s) (at single f ∷ [])) ≡ false
  unfolding is_place_of
  source_misses v f g =
      let a = at_good s single f g in
      one_misses v (at single f) (meant.Expr a.1.0) a.1.1 refl

  for_ends : (f : BindForm) (v : ExprName) (o : Option ExprName) → BindGood f v
      → bind_can f ≡ true → may (placing s.prefixes o) ≡ true → is_other v o ≡ true
      → end s production.ForIn
      (map (value_of s) (f.name.raw ∷ behind (placed (placing s.prefixes o)) f)) ≡ []
  unfolding end_broken
  for_ends f v o g c d e =
      let h = and_parts f.name.can (may f.kind && f.source.can) c in
      let i = and_parts (may f.kind) f.source.can h.1 in
      let more : List Raw = placed (placing s.prefixes o) in
      let ms : List Meant = map (value_of s) (behind more f) in
      let broken : List Code = QueryStatic XQST0089 ∷ [] in
      ap (λ x. cond (list_any (is_place_of x) ms) broken []) (g.means h.0)
      ∙ ap (λ xs. cond (list_any (is_place_of v) xs) broken [])
      (append_values s (typed f.kind) (more ++ at single f.source ∷ [])
      ∙ ap (λ ys. map (value_of s) (typed f.kind) ++ ys)
      (append_values s more (at single f.source ∷ [])))
      ∙ ap (λ b. cond b broken [])
      (any_append v (map (value_of s) (typed f.kind))
      (map (value_of s) more ++ map (value_of s) (at single f.source ∷ []))
      (kind_misses v f.kind)
      (any_append v (map (value_of s) more) (map (value_of s) (at single f.source ∷ []))
      (place_misses v o d e) (source_misses v f.source (g.source i.1))))

  pub for_clean : (f : BindForm) (v : ExprName) (o : Option ExprName) → BindGood f v
      → is_other v o ≡ true → (for_clause f (placing s.prefixes o)).can ≡ true
      → Clean s (for_clause f (placing s.prefixes o)).raw
  unfolding own_broken is_tag is_chain
  for_clean f v o g e c =
      let h = and_parts (bind_can f) (may (placing s.prefixes o)) c in
      let more : List Raw = placed (placing s.prefixes o) in
      told_clean s production.ForIn refl refl (f.name.raw ∷ behind more f) (
        name_so f v g h.0,
        behind_told production.ForIn more f v g h.0
            (place_told production.ForIn o h.1),
      ) (for_ends f v o g h.0 h.1 e)

  -- quantifiers

  abbrev pub AllBinds : List BindForm → Type 0
  AllBinds [] = Unit {0}
  AllBinds (f ∷ fs) = ((v : ExprName) × BindGood f v) × AllBinds fs

  binds_clean : (fs : List BindForm) → AllBinds fs → binds_can fs ≡ true
      → AllClean s (map (λ b. quant_bind b) fs)
  binds_clean [] a c = tt
  binds_clean (f ∷ fs) a c =
      let h = and_parts (bind_can f) (binds_can fs) c in
      (quant_clean f a.0.0 a.0.1 h.0, binds_clean fs a.1 h.1)

  pub quantified_clean : (every : Bool) (fs : List BindForm) (a : Form) → AllBinds fs
      → (a.can ≡ true → Clean s a.raw) → (quantified every fs a).can ≡ true
      → Clean s (quantified every fs a).raw
  quantified_clean every fs a g t c =
      let h = and_parts (has_some fs) (binds_can fs && a.can) c in
      let i = and_parts (binds_can fs) a.can h.1 in
      free_clean s production.QuantifiedExpr refl (key_leaf (quantifier every)
      ∷ (map (λ b. quant_bind b) fs ++ at single a ∷ [])) (
        leaf_clean s (token.Key (quantifier every)),
        append_clean s (map (λ b. quant_bind b) fs) (at single a ∷ []) (binds_clean fs g i.0)
            (at_clean s single a (t i.1), tt),
      )

  -- FLWOR expressions

  abbrev pub AllClauses : List ClauseForm → Type 0
  AllClauses [] = Unit {0}
  AllClauses (f ∷ fs) = (f.can ≡ true → Clean s f.raw) × AllClauses fs

  abbrev Groups : List Group → Type 0
  Groups gs = AllClean s (map (λ g. group_raw g) gs)

  with_for_clean : (v : Raw) (gs : List Group) → Clean s v → Groups gs → Groups (with_for v gs)
  with_for_clean v [] c a = (free_clean s production.ForClause refl (v ∷ []) (c, tt), tt)
  with_for_clean v (looping vs ∷ gs) c a = (
    free_clean s production.ForClause refl (v ∷ vs)
        (c, free_parts s production.ForClause refl vs a.0),
    a.1,
  )
  with_for_clean v (letting w ∷ gs) c a =
      (free_clean s production.ForClause refl (v ∷ []) (c, tt), a)

  with_clause_clean : (f : ClauseForm) (gs : List Group) → Clean s f.raw → Groups gs
      → Groups (with_clause f gs)
  with_clause_clean f gs c a = go f.loops
    where
      go : (b : Bool) → Groups (cond b (with_for f.raw gs) (letting f.raw ∷ gs))
      go true = with_for_clean f.raw gs c a
      go false = (free_clean s production.LetClause refl (f.raw ∷ []) (c, tt), a)

  groups_clean : (fs : List ClauseForm) → AllClauses fs → clauses_can fs ≡ true
      → Groups (groups fs)
  groups_clean [] a c = tt
  groups_clean (f ∷ fs) a c =
      let h = and_parts f.can (clauses_can fs) c in
      with_clause_clean f (groups fs) (a.0 h.0) (groups_clean fs a.1 h.1)

  -- what may be left out
  abbrev pub Test : Option Form → Type 0
  Test None = Unit {0}
  Test (Some f) = Clean s f.raw

  where_clean : (o : Option Form) → Test o → AllClean s (wheres o)
  where_clean None c = tt
  where_clean (Some f) c =
      (free_clean s production.WhereTest refl (at single f ∷ []) (at_clean s single f c, tt), tt)

  abbrev pub AllOrders : List OrderForm → Type 0
  AllOrders [] = Unit {0}
  AllOrders (o ∷ os) = (o.key.can ≡ true → Clean s o.key.raw) × AllOrders os

  ways_clean : (b : Bool) → AllClean s (ways b)
  ways_clean true = (leaf_clean s (token.Key key.DescendingWord), tt)
  ways_clean false = tt

  orders_clean : (os : List OrderForm) → AllOrders os → orders_can os ≡ true
      → AllClean s (map (λ x. order_raw x) os)
  orders_clean [] a c = tt
  orders_clean (o ∷ os) a c =
      let h = and_parts o.key.can (orders_can os) c in (
        free_clean s production.OrderKey refl (at single o.key ∷ ways o.descending)
            (at_clean s single o.key (a.0 h.0), ways_clean o.descending),
        orders_clean os a.1 h.1,
      )

  ordering_clean : (stable : Bool) (vs : List Raw) → AllClean s vs
      → Clean s (node (ordering stable) vs)
  ordering_clean true vs a = free_clean s production.StableOrderBy refl vs a
  ordering_clean false vs a = free_clean s production.OrderBy refl vs a

  ordered_clean : (stable : Bool) (os : List OrderForm) → AllOrders os → orders_can os ≡ true
      → AllClean s (ordered stable os)
  ordered_clean stable [] a c = tt
  ordered_clean stable (o ∷ os) a c = (
    ordering_clean stable (map (λ x. order_raw x) (o ∷ os)) (orders_clean (o ∷ os) a c),
    tt,
  )

  pub flowing_clean : (fs : List ClauseForm) (o : Option Form) (os : List OrderForm)
      (stable : Bool) (a : Form) → AllClauses fs → (may o ≡ true → Test o) → AllOrders os
      → (a.can ≡ true → Clean s a.raw) → (flowing fs o os stable a).can ≡ true
      → Clean s (flowing fs o os stable a).raw
  flowing_clean fs o os stable a gf go gs ga c =
      let last : Bool = (not stable || has_some os) && a.can in
      let h = and_parts (has_some fs) (clauses_can fs && (may o && (orders_can os && last))) c in
      let i = and_parts (clauses_can fs) (may o && (orders_can os && last)) h.1 in
      let j = and_parts (may o) (orders_can os && last) i.1 in
      let k = and_parts (orders_can os) last j.1 in
      let l = and_parts (not stable || has_some os) a.can k.1 in
      let body : List Raw = at single a ∷ [] in
      free_clean s production.FlworExpr refl (map (λ g. group_raw g) (groups fs)
      ++ (wheres o ++ (ordered stable os ++ body)))
      (append_clean s (map (λ g. group_raw g) (groups fs))
      (wheres o ++ (ordered stable os ++ body)) (groups_clean fs gf i.0)
      (append_clean s (wheres o) (ordered stable os ++ body) (where_clean o (go j.0))
      (append_clean s (ordered stable os) body (ordered_clean stable os gs k.0)
      (at_clean s single a (ga l.1), tt))))
