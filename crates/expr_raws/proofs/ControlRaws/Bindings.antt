-- Quantifiers and FLWOR expressions mean what they are printed for.
use Rattle.std.proofs.Common.{◌≡◌, List, [], ◌∷◌, ◌++◌, map, Bool, true, false, ◌&&◌, ◌||◌, not}
use Rattle.std.proofs.Common.{cond, Option, Some, None, refl, sym, ◌∙◌, ap, ap₂, append_assoc}
use Rattle.std.proofs.lemmas.Bool.{and_parts}
use Rattle.xt_names.specs.declared.names.ExprName.{ExprName}
use Rattle.xt_types.specs.declared.types.SeqType.{SeqType}
use Rattle.xt_syntax.specs.declared.exprs.Expr.{Expr}
use Rattle.xt_syntax.specs.declared.exprs.Expr.TheVariants as expr
use Rattle.xt_syntax.specs.declared.exprs.Bind.{Bind}
use Rattle.xt_syntax.specs.declared.exprs.Order.{Order}
use Rattle.xt_syntax.specs.declared.exprs.Clause.{Clause}
use Rattle.xt_syntax.specs.declared.exprs.Clause.TheVariants as clause
use Rattle.xt_syntax.specs.declared.exprs.Clause.TheViews.{out-Bind, out-Order, roll-Flwor}
use Rattle.expr_keys.specs.declared.keys.Key.{Key}
use Rattle.expr_keys.specs.declared.keys.Key.TheVariants as key
use Rattle.expr_keys.specs.declared.tokens.Token.{Token}
use Rattle.expr_keys.specs.declared.tokens.Token.TheVariants as token
use Rattle.expr_keys.specs.declared.productions.Class.TheVariants as class
use Rattle.expr_keys.specs.declared.productions.Production.TheVariants as production
use Rattle.expr_terms.specs.declared.raws.Raw.{Raw}
use Rattle.expr_terms.specs.declared.raws.Raw.TheVariants.{Leaf as leaf, Node as node}
use Rattle.expr_rules.specs.declared.expr_meant.meant.Meant.{Meant}
use Rattle.expr_rules.specs.declared.expr_meant.meant.Meant.TheVariants as meant
use Rattle.expr_rules.specs.ExprMeant.Parts.{expr_of, expr_or, expr_in, key_of, key_in}
use Rattle.expr_rules.specs.Known.{name_of}
use Rattle.expr_raws.specs.ExprControl.Types.{sequence_of}
use Rattle.expr_raws.specs.ExprControl.Lists as lists
use Rattle.expr_raws.specs.ExprControl.Lists.{is_every, bind_and}
use Rattle.expr_raws.specs.ExprControl.Bindings as bindings
use Rattle.expr_raws.specs.ExprControl.Bindings.{kind_or, place_or, clause_and, clauses_and, where_or}
use Rattle.expr_raws.specs.ExprControl.Bindings.{order_and, orders_or, stable_or, is_descending}
use Rattle.expr_raws.specs.ExprControl.Table.{control_value}
use Rattle.expr_resolve.specs.declared.setting.Setting.{Setting}
use Rattle.expr_resolve.specs.Tables.{is_chain, family_of, value_in}
use Rattle.expr_resolve.specs.Folds.{value_of}
use Rattle.expr_raws.specs.PathRaws.Forms.{Form, single, at, key_leaf}
use Rattle.expr_raws.specs.PathRaws.Names.{name_token}
use Rattle.expr_raws.specs.PathRaws.Paths.{with_token, leaf_test}
use Rattle.expr_raws.proofs.PathRaws.Values.{value_leaf, value_node, at_means, append_values}
use Rattle.expr_raws.proofs.PathRaws.Paths.{name_found}
use Rattle.expr_raws.specs.ControlRaws.Types.{sequence_form}
use Rattle.expr_raws.specs.ControlRaws.Bindings.{variable_name, typing, placing, may, has_some, typed}
use Rattle.expr_raws.specs.ControlRaws.Bindings.{placed, BindForm, bind_can, bound_by, quantifier}
use Rattle.expr_raws.specs.ControlRaws.Bindings.{quant_bind, binds_can, quantified, ClauseForm, for_clause}
use Rattle.expr_raws.specs.ControlRaws.Bindings.{let_clause, Group, looping, letting, with_for, groups}
use Rattle.expr_raws.specs.ControlRaws.Bindings.{with_clause, group_raw, clauses_can, wheres, OrderForm}
use Rattle.expr_raws.specs.ControlRaws.Bindings.{ways, order_raw, orders_can, ordering, ordered, flowing}
use Rattle.expr_raws.proofs.ControlRaws.Types.{sequence_means}

-- what comes after the name of a variable

abbrev pub kind_meant : Option SeqType → List Meant
kind_meant None = []
kind_meant (Some t) = meant.Sequence t ∷ []

abbrev pub place_meant : Option ExprName → List Meant
place_meant None = []
place_meant (Some n) = meant.Place n ∷ []

abbrev pub behind : Option SeqType → Option ExprName → Expr → List Meant
behind k o e = kind_meant k ++ (place_meant o ++ meant.Expr e ∷ [])

kind_is : (k : Option SeqType) (o : Option ExprName) (e : Expr)
    → bindings.kind_in (behind k o e) ≡ k
unfolding kind_or
kind_is None None e = refl
kind_is None (Some n) e = refl
kind_is (Some t) None e = refl
kind_is (Some t) (Some n) e = refl

place_is : (k : Option SeqType) (o : Option ExprName) (e : Expr)
    → bindings.place_in (behind k o e) ≡ o
unfolding place_or
place_is None None e = refl
place_is None (Some n) e = refl
place_is (Some t) None e = refl
place_is (Some t) (Some n) e = refl

source_is : (k : Option SeqType) (o : Option ExprName) (e : Expr) → expr_in (behind k o e) ≡ e
unfolding expr_or
source_is None None e = refl
source_is None (Some n) e = refl
source_is (Some t) None e = refl
source_is (Some t) (Some n) e = refl

abbrev pub bind : ExprName → Option SeqType → Expr → Bind
bind v k e = record { var = v; kind = k; source = e }

same_bind : (b : Bind) → bind (out-Bind b).var (out-Bind b).kind (out-Bind b).source ≡ b
same_bind b = refl

module _ (s : Setting) where
  variable_found : (n : ExprName) (o : Option Token) → name_token s.prefixes.bound [] n ≡ o
      → (with_token o leaf_test).can ≡ true
      → name_of s.prefixes.bound [] (value_of s (with_token o leaf_test).raw) ≡ n
  variable_found n None o c = absurd (cc)
  variable_found n (Some t) o c = ap (λ m. name_of s.prefixes.bound [] m) (value_leaf s t)
      ∙ name_found class.Name s.prefixes.bound [] n t o

  pub name_means : (n : ExprName) → (variable_name s.prefixes n).can ≡ true
      → name_of s.prefixes.bound [] (value_of s (variable_name s.prefixes n).raw) ≡ n
  name_means n c = variable_found n _ refl c

  -- as T
  pub typing_means : (k : Option SeqType) → may (typing s.prefixes k) ≡ true
      → map (value_of s) (typed (typing s.prefixes k)) ≡ kind_meant k
  unfolding is_chain family_of value_in control_value
  typing_means None c = refl
  typing_means (Some t) c = ap (λ m. m ∷ [])
      (value_node s production.AsType ((sequence_form s.prefixes t).raw ∷ [])
      ∙ ap (λ x. meant.Sequence x) (sequence_means s t c))

  -- at $p
  pub placing_means : (o : Option ExprName) → may (placing s.prefixes o) ≡ true
      → map (value_of s) (placed (placing s.prefixes o)) ≡ place_meant o
  unfolding is_chain family_of value_in control_value
  placing_means None c = refl
  placing_means (Some n) c = ap (λ m. m ∷ [])
      (value_node s production.AtVariable ((variable_name s.prefixes n).raw ∷ [])
      ∙ ap (λ x. meant.Place x) (name_means n c))

  -- what a variable means with what it is bound to
  pub record BindMeans (f : BindForm) (b : Bind) : Type 0 where
    pub name : f.name.can ≡ true
        → name_of s.prefixes.bound [] (value_of s f.name.raw) ≡ (out-Bind b).var
    pub kind : may f.kind ≡ true → map (value_of s) (typed f.kind) ≡ kind_meant (out-Bind b).kind
    pub source : f.source.can ≡ true
        → value_of s f.source.raw ≡ meant.Expr (out-Bind b).source

  -- .. by which the three parts are what they should be
  record Said (f : BindForm) (b : Bind) : Type 0 where
    name : name_of s.prefixes.bound [] (value_of s f.name.raw) ≡ (out-Bind b).var
    kind : map (value_of s) (typed f.kind) ≡ kind_meant (out-Bind b).kind
    source : value_of s f.source.raw ≡ meant.Expr (out-Bind b).source

  said : (f : BindForm) (b : Bind) → BindMeans f b → bind_can f ≡ true → Said f b
  said f b m c =
      let h = and_parts f.name.can (may f.kind && f.source.can) c in
      let i = and_parts (may f.kind) f.source.can h.1 in
      record { name = m.name h.0; kind = m.kind i.0; source = m.source i.1 }

  behind_means : (f : BindForm) (b : Bind) (more : List Raw) (o : Option ExprName) → Said f b
      → map (value_of s) more ≡ place_meant o
      → map (value_of s) (typed f.kind ++ (more ++ at single f.source ∷ []))
      ≡ behind (out-Bind b).kind o (out-Bind b).source
  behind_means f b more o d h =
      append_values s (typed f.kind) (more ++ at single f.source ∷ [])
      ∙ ap₂ (λ xs ys. xs ++ ys) d.kind (append_values s more (at single f.source ∷ [])
      ∙ ap₂ (λ xs ys. xs ++ ys) h
      (ap (λ m. m ∷ []) (at_means s single f.source (out-Bind b).source d.source)))

  bind_is : (m : Meant) (b : Bind) (o : Option ExprName)
      → name_of s.prefixes.bound [] m ≡ (out-Bind b).var
      → bindings.bind_of s.prefixes.bound m (behind (out-Bind b).kind o (out-Bind b).source) ≡ b
  bind_is m b o h =
      ap₂ (λ v k. bind v k (expr_in (behind (out-Bind b).kind o (out-Bind b).source))) h
      (kind_is (out-Bind b).kind o (out-Bind b).source)
      ∙ ap (λ e. bind (out-Bind b).var (out-Bind b).kind e)
      (source_is (out-Bind b).kind o (out-Bind b).source)

  quant_means : (f : BindForm) (b : Bind) → BindMeans f b → bind_can f ≡ true
      → value_of s (quant_bind f) ≡ meant.Bind b
  unfolding is_chain family_of value_in control_value
  quant_means f b m c =
      let d = said f b m c in
      value_node s production.QuantifiedIn (f.name.raw ∷ (typed f.kind ++ at single f.source ∷ []))
      ∙ ap (λ ms. bindings.quant_bind s.prefixes.bound (value_of s f.name.raw ∷ ms))
      (behind_means f b [] None d refl)
      ∙ ap (λ x. meant.Bind x) (bind_is (value_of s f.name.raw) b None d.name)

  -- what a variable of `for` or `let` means
  abbrev pub ClauseMeans : ClauseForm → Clause → Type 0
  ClauseMeans f c = f.can ≡ true → value_of s f.raw ≡ meant.Clause c

  pub let_means : (f : BindForm) (b : Bind) → BindMeans f b
      → ClauseMeans (let_clause f) (clause.Let b)
  unfolding is_chain family_of value_in control_value
  let_means f b m c =
      let d = said f b m c in
      value_node s production.LetAssign (f.name.raw ∷ (typed f.kind ++ at single f.source ∷ []))
      ∙ ap (λ ms. bindings.let_bind s.prefixes.bound (value_of s f.name.raw ∷ ms))
      (behind_means f b [] None d refl)
      ∙ ap (λ x. meant.Clause (clause.Let x)) (bind_is (value_of s f.name.raw) b None d.name)

  pub for_means : (f : BindForm) (b : Bind) (o : Option ExprName) → BindMeans f b
      → ClauseMeans (for_clause f (placing s.prefixes o)) (clause.For b o)
  unfolding is_chain family_of value_in control_value
  for_means f b o m c =
      let h = and_parts (bind_can f) (may (placing s.prefixes o)) c in
      let d = said f b m h.0 in
      value_node s production.ForIn (f.name.raw
      ∷ (typed f.kind ++ (placed (placing s.prefixes o) ++ at single f.source ∷ [])))
      ∙ ap (λ ms. bindings.for_bind s.prefixes.bound (value_of s f.name.raw ∷ ms))
      (behind_means f b (placed (placing s.prefixes o)) o d (placing_means o h.1))
      ∙ ap₂ (λ x y. meant.Clause (clause.For x y)) (bind_is (value_of s f.name.raw) b o d.name)
      (place_is (out-Bind b).kind o (out-Bind b).source)

-- quantifiers

every_is : (b : Bool) → is_every (quantifier b) ≡ b
unfolding is_every
every_is true = refl
every_is false = refl

binds_are : (bs : List Bind) (e : Expr)
    → lists.binds_of (map (λ b. meant.Bind b) bs ++ meant.Expr e ∷ []) ≡ bs
unfolding bind_and
binds_are [] e = refl
binds_are (b ∷ bs) e = ap (λ xs. b ∷ xs) (binds_are bs e)

behind_binds : (bs : List Bind) (e : Expr)
    → expr_in (map (λ b. meant.Bind b) bs ++ meant.Expr e ∷ []) ≡ e
unfolding expr_or
behind_binds [] e = refl
behind_binds (b ∷ bs) e = behind_binds bs e

quantified_is : (every : Bool) (bs : List Bind) (e : Expr)
    → lists.quantified (meant.Token (token.Key (quantifier every))
    ∷ (map (λ b. meant.Bind b) bs ++ meant.Expr e ∷ [])) ≡ expr.Quant every bs e
unfolding key_of key_in bind_and expr_or
quantified_is every bs e =
    ap₂ (λ x xs. expr.Quant x xs (expr_in (map (λ b. meant.Bind b) bs ++ meant.Expr e ∷ [])))
    (every_is every) (binds_are bs e) ∙ ap (λ x. expr.Quant every bs x) (behind_binds bs e)

module _ (s : Setting) (Q : Bind → Type 0) (form : Bind → BindForm) (means : (b : Bind) → Q b
    → BindMeans s (form b) b) where
  abbrev pub theirs : List ((b : Bind) × Q b) → List BindForm
  theirs ys = map form (map (λ y. y.0) ys)

  binds_mean : (ys : List ((b : Bind) × Q b)) → binds_can (theirs ys) ≡ true
      → map (value_of s) (map (λ b. quant_bind b) (theirs ys))
      ≡ map (λ b. meant.Bind b) (map (λ y. y.0) ys)
  binds_mean [] c = refl
  binds_mean (y ∷ ys) c =
      let h = and_parts (bind_can (form y.0)) (binds_can (theirs ys)) c in
      ap₂ (λ m ms. m ∷ ms) (quant_means s (form y.0) y.0 (means y.0 y.1) h.0) (binds_mean ys h.1)

  pub quantified_means : (every : Bool) (ys : List ((b : Bind) × Q b)) (f : Form) (e : Expr)
      → (f.can ≡ true → value_of s f.raw ≡ meant.Expr e)
      → (quantified every (theirs ys) f).can ≡ true
      → value_of s (quantified every (theirs ys) f).raw
      ≡ meant.Expr (expr.Quant every (map (λ y. y.0) ys) e)
  unfolding is_chain family_of value_in control_value
  quantified_means every ys f e m c =
      let h = and_parts (has_some (theirs ys)) (binds_can (theirs ys) && f.can) c in
      let i = and_parts (binds_can (theirs ys)) f.can h.1 in
      value_node s production.QuantifiedExpr (key_leaf (quantifier every)
      ∷ (map (λ b. quant_bind b) (theirs ys) ++ at single f ∷ []))
      ∙ ap (λ ms. meant.Expr (lists.quantified ms))
      (ap₂ (λ x xs. x ∷ xs) (value_leaf s (token.Key (quantifier every)))
      (append_values s (map (λ b. quant_bind b) (theirs ys)) (at single f ∷ [])
      ∙ ap₂ (λ xs zs. xs ++ zs) (binds_mean ys i.0)
      (ap (λ x. x ∷ []) (at_means s single f e (m i.1)))))
      ∙ ap (λ x. meant.Expr x) (quantified_is every (map (λ y. y.0) ys) e)

abbrev pub orders_meant : Bool → List Order → List Meant
orders_meant stable [] = []
orders_meant stable (o ∷ os) = meant.Orders stable (o ∷ os) ∷ []

-- the variables of `for` and `let`

abbrev pub all_of : {A : Type 0} → List (List A) → List A
all_of [] = []
all_of (xs ∷ xss) = xs ++ all_of xss

module _ (s : Setting) where
  abbrev pub group_meant : Group → List Clause
  group_meant (looping vs) = bindings.clauses_in (map (value_of s) vs)
  group_meant (letting v) = bindings.clauses_in (value_of s v ∷ [])

  with_for_is : (v : Raw) (c : Clause) → value_of s v ≡ meant.Clause c → (gs : List Group)
      → all_of (map (λ g. group_meant g) (with_for v gs))
      ≡ c ∷ all_of (map (λ g. group_meant g) gs)
  unfolding clause_and
  with_for_is v c h [] = rw h refl
  with_for_is v c h (looping vs ∷ gs) = rw h refl
  with_for_is v c h (letting w ∷ gs) = rw h refl

  letting_is : (v : Raw) (c : Clause) → value_of s v ≡ meant.Clause c
      → group_meant (letting v) ≡ c ∷ []
  unfolding clause_and
  letting_is v c h = rw h refl

  with_clause_is : (f : ClauseForm) (c : Clause) → value_of s f.raw ≡ meant.Clause c
      → (gs : List Group) → all_of (map (λ g. group_meant g) (with_clause f gs))
      ≡ c ∷ all_of (map (λ g. group_meant g) gs)
  with_clause_is f c h gs = go f.loops
    where
      go : (b : Bool) → all_of (map (λ g. group_meant g)
          (cond b (with_for f.raw gs) (letting f.raw ∷ gs)))
          ≡ c ∷ all_of (map (λ g. group_meant g) gs)
      go true = with_for_is f.raw c h gs
      go false = ap (λ xs. xs ++ all_of (map (λ g. group_meant g) gs)) (letting_is f.raw c h)

  group_means : (g : Group) → value_of s (group_raw g) ≡ meant.Clauses (group_meant g)
  unfolding is_chain family_of value_in control_value
  group_means (looping vs) = value_node s production.ForClause vs
  group_means (letting v) = value_node s production.LetClause (v ∷ [])

  groups_mean : (gs : List Group) → map (value_of s) (map (λ g. group_raw g) gs)
      ≡ map (λ cs. meant.Clauses cs) (map (λ g. group_meant g) gs)
  groups_mean [] = refl
  groups_mean (g ∷ gs) = ap₂ (λ m ms. m ∷ ms) (group_means g) (groups_mean gs)

  module _ (Q : Clause → Type 0) (form : Clause → ClauseForm) (means : (c : Clause) → Q c
      → ClauseMeans s (form c) c) where
    pub clauses_mean : (ys : List ((c : Clause) × Q c))
        → clauses_can (map form (map (λ y. y.0) ys)) ≡ true
        → all_of (map (λ g. group_meant g) (groups (map form (map (λ y. y.0) ys))))
        ≡ map (λ y. y.0) ys
    clauses_mean [] c = refl
    clauses_mean (y ∷ ys) c =
        let h = and_parts (form y.0).can (clauses_can (map form (map (λ z. z.0) ys))) c in
        with_clause_is (form y.0) y.0 (means y.0 y.1 h.0)
        (groups (map form (map (λ z. z.0) ys)))
        ∙ ap (λ xs. y.0 ∷ xs) (clauses_mean ys h.1)

  -- keys of `order by`
  descends : (b : Bool) → bindings.descends (map (value_of s) (ways b)) ≡ b
  unfolding key_of key_in is_descending
  descends true = rw (value_leaf s (token.Key key.DescendingWord)) refl
  descends false = refl

  pub order_means : (f : OrderForm) (o : Order) → f.descending ≡ (out-Order o).descending
      → (f.key.can ≡ true → value_of s f.key.raw ≡ meant.Expr (out-Order o).key)
      → f.key.can ≡ true → value_of s (order_raw f) ≡ meant.Order o
  unfolding is_chain family_of value_in control_value expr_of
  order_means f o d m c =
      value_node s production.OrderKey (at single f.key ∷ ways f.descending)
      ∙ ap (λ x. bindings.key_spec (x ∷ map (value_of s) (ways f.descending)))
      (at_means s single f.key (out-Order o).key (m c))
      ∙ ap (λ b. meant.Order (record { key = (out-Order o).key; descending = b }))
      (descends f.descending ∙ d)

  module _ (Q : Order → Type 0) (form : Order → OrderForm) (means : (o : Order) → Q o
      → (form o).key.can ≡ true → value_of s (order_raw (form o)) ≡ meant.Order o) where
    orders_are : (ys : List ((o : Order) × Q o))
        → orders_can (map form (map (λ y. y.0) ys)) ≡ true
        → bindings.orders_in (map (value_of s) (map (λ o. order_raw o)
        (map form (map (λ y. y.0) ys)))) ≡ map (λ y. y.0) ys
    unfolding order_and
    orders_are [] c = refl
    orders_are (y ∷ ys) c =
        let h = and_parts (form y.0).key.can (orders_can (map form (map (λ z. z.0) ys))) c in
        rw (means y.0 y.1 h.0) (ap (λ xs. y.0 ∷ xs) (orders_are ys h.1))

    ordered_by : (stable : Bool) (vs : List Raw) → value_of s (node (ordering stable) vs)
        ≡ meant.Orders stable (bindings.orders_in (map (value_of s) vs))
    unfolding is_chain family_of value_in control_value
    ordered_by true vs = value_node s production.StableOrderBy vs
    ordered_by false vs = value_node s production.OrderBy vs

    pub ordered_means : (stable : Bool) (ys : List ((o : Order) × Q o))
        → orders_can (map form (map (λ y. y.0) ys)) ≡ true
        → map (value_of s) (ordered stable (map form (map (λ y. y.0) ys)))
        ≡ orders_meant stable (map (λ y. y.0) ys)
    ordered_means stable [] c = refl
    ordered_means stable (y ∷ ys) c = ap (λ m. m ∷ [])
        (ordered_by stable (map (λ o. order_raw o) (map form (map (λ z. z.0) (y ∷ ys))))
        ∙ ap (λ xs. meant.Orders stable xs) (orders_are (y ∷ ys) c))

-- FLWOR expressions

abbrev pub where_meant : Option Expr → List Meant
where_meant None = []
where_meant (Some e) = meant.Where e ∷ []

-- what comes after the clauses
abbrev pub tail : Option Expr → Bool → List Order → Expr → List Meant
tail t stable os e = where_meant t ++ (orders_meant stable os ++ meant.Expr e ∷ [])

tail_clauses : (t : Option Expr) (stable : Bool) (os : List Order) (e : Expr)
    → bindings.all_clauses (tail t stable os e) ≡ []
unfolding clauses_and
tail_clauses None stable [] e = refl
tail_clauses None stable (o ∷ os) e = refl
tail_clauses (Some x) stable [] e = refl
tail_clauses (Some x) stable (o ∷ os) e = refl

tail_where : (t : Option Expr) (stable : Bool) (os : List Order) (e : Expr)
    → bindings.where_in (tail t stable os e) ≡ t
unfolding where_or
tail_where None stable [] e = refl
tail_where None stable (o ∷ os) e = refl
tail_where (Some x) stable [] e = refl
tail_where (Some x) stable (o ∷ os) e = refl

tail_orders : (t : Option Expr) (stable : Bool) (os : List Order) (e : Expr)
    → bindings.all_orders (tail t stable os e) ≡ os
unfolding orders_or
tail_orders None stable [] e = refl
tail_orders None stable (o ∷ os) e = refl
tail_orders (Some x) stable [] e = refl
tail_orders (Some x) stable (o ∷ os) e = refl

tail_stable : (t : Option Expr) (stable : Bool) (os : List Order) (e : Expr)
    → (not stable || has_some os) ≡ true → bindings.is_stable (tail t stable os e) ≡ stable
unfolding stable_or
tail_stable None true [] e c = absurd (cc)
tail_stable None false [] e c = refl
tail_stable None stable (o ∷ os) e c = refl
tail_stable (Some x) true [] e c = absurd (cc)
tail_stable (Some x) false [] e c = refl
tail_stable (Some x) stable (o ∷ os) e c = refl

tail_body : (t : Option Expr) (stable : Bool) (os : List Order) (e : Expr)
    → expr_in (tail t stable os e) ≡ e
unfolding expr_or
tail_body None stable [] e = refl
tail_body None stable (o ∷ os) e = refl
tail_body (Some x) stable [] e = refl
tail_body (Some x) stable (o ∷ os) e = refl

abbrev pub front : List (List Clause) → List Meant → List Meant
front css ms = map (λ cs. meant.Clauses cs) css ++ ms

no_more : {A : Type 0} (xs : List A) → xs ++ [] ≡ xs
no_more [] = refl
no_more (x ∷ xs) = ap (λ ys. x ∷ ys) (no_more xs)

front_clauses : (css : List (List Clause)) (ms : List Meant)
    → bindings.all_clauses (front css ms) ≡ all_of css ++ bindings.all_clauses ms
unfolding clauses_and
front_clauses [] ms = refl
front_clauses (cs ∷ css) ms = ap (λ xs. cs ++ xs) (front_clauses css ms)
    ∙ sym (append_assoc cs (all_of css) (bindings.all_clauses ms))

front_where : (css : List (List Clause)) (ms : List Meant)
    → bindings.where_in (front css ms) ≡ bindings.where_in ms
unfolding where_or
front_where [] ms = refl
front_where (cs ∷ css) ms = front_where css ms

front_orders : (css : List (List Clause)) (ms : List Meant)
    → bindings.all_orders (front css ms) ≡ bindings.all_orders ms
unfolding orders_or
front_orders [] ms = refl
front_orders (cs ∷ css) ms = front_orders css ms

front_stable : (css : List (List Clause)) (ms : List Meant)
    → bindings.is_stable (front css ms) ≡ bindings.is_stable ms
unfolding stable_or
front_stable [] ms = refl
front_stable (cs ∷ css) ms = front_stable css ms

front_body : (css : List (List Clause)) (ms : List Meant)
    → expr_in (front css ms) ≡ expr_in ms
unfolding expr_or
front_body [] ms = refl
front_body (cs ∷ css) ms = front_body css ms

abbrev pub made : List Clause → Option Expr → List Order → Bool → Expr → Expr
made cs t os stable e = expr.Flwor (roll-Flwor (record {
  clauses = cs;
  test = t;
  orders = os;
  stable = stable;
  body = e;
}))

flwor_is : (css : List (List Clause)) (t : Option Expr) (stable : Bool) (os : List Order)
    (e : Expr) → (not stable || has_some os) ≡ true
    → bindings.flwor (front css (tail t stable os e)) ≡ made (all_of css) t os stable e
flwor_is css t stable os e c =
    let ms : List Meant = tail t stable os e in
    ap₂ (λ x y. made x y (bindings.all_orders (front css ms)) (bindings.is_stable (front css ms))
    (expr_in (front css ms)))
    (front_clauses css ms ∙ ap (λ x. all_of css ++ x) (tail_clauses t stable os e)
    ∙ no_more (all_of css))
    (front_where css ms ∙ tail_where t stable os e)
    ∙ ap₂ (λ x y. made (all_of css) t x y (expr_in (front css ms)))
    (front_orders css ms ∙ tail_orders t stable os e)
    (front_stable css ms ∙ tail_stable t stable os e c)
    ∙ ap (λ x. made (all_of css) t os stable x) (front_body css ms ∙ tail_body t stable os e)

pub same_some : {A B : Type 0} (f : A → B) (xs : List A) → has_some (map f xs) ≡ has_some xs
same_some f [] = refl
same_some f (x ∷ xs) = refl

module _ (s : Setting) where
  pub where_means : (f : Form) (e : Expr) → value_of s f.raw ≡ meant.Expr e
      → map (value_of s) (wheres (Some f)) ≡ where_meant (Some e)
  unfolding is_chain family_of value_in control_value expr_or
  where_means f e h = ap (λ m. m ∷ []) (value_node s production.WhereTest (at single f ∷ [])
      ∙ rw (at_means s single f e h) refl)

  pub flowing_means : (cs : List ClauseForm) (xs : List Clause)
      → (clauses_can cs ≡ true → all_of (map (λ g. group_meant s g) (groups cs)) ≡ xs)
      → (t : Option Form) (x : Option Expr)
      → (may t ≡ true → map (value_of s) (wheres t) ≡ where_meant x)
      → (os : List OrderForm) (zs : List Order) → has_some os ≡ has_some zs → (stable : Bool)
      → (orders_can os ≡ true → map (value_of s) (ordered stable os) ≡ orders_meant stable zs)
      → (f : Form) (e : Expr) → (f.can ≡ true → value_of s f.raw ≡ meant.Expr e)
      → (flowing cs t os stable f).can ≡ true
      → value_of s (flowing cs t os stable f).raw ≡ meant.Expr (made xs x zs stable e)
  unfolding is_chain family_of value_in control_value
  flowing_means cs xs clauses t x test os zs some stable orders f e body c =
      let ends : Bool = (not stable || has_some os) && f.can in
      let h = and_parts (has_some cs) (clauses_can cs && (may t && (orders_can os && ends))) c in
      let i = and_parts (clauses_can cs) (may t && (orders_can os && ends)) h.1 in
      let j = and_parts (may t) (orders_can os && ends) i.1 in
      let k = and_parts (orders_can os) ends j.1 in
      let l = and_parts (not stable || has_some os) f.can k.1 in
      let css : List (List Clause) = map (λ g. group_meant s g) (groups cs) in
      let last : List Raw = at single f ∷ [] in
      value_node s production.FlworExpr (map (λ g. group_raw g) (groups cs)
      ++ (wheres t ++ (ordered stable os ++ last)))
      ∙ ap (λ ms. meant.Expr (bindings.flwor ms))
      (append_values s (map (λ g. group_raw g) (groups cs))
      (wheres t ++ (ordered stable os ++ last))
      ∙ ap₂ (λ us vs. us ++ vs) (groups_mean s (groups cs))
      (append_values s (wheres t) (ordered stable os ++ last)
      ∙ ap₂ (λ us vs. us ++ vs) (test j.0) (append_values s (ordered stable os) last
      ∙ ap₂ (λ us vs. us ++ vs) (orders k.0)
      (ap (λ m. m ∷ []) (at_means s single f e (body l.1))))))
      ∙ ap (λ y. meant.Expr y) (flwor_is css x stable zs e
      (ap (λ b. not stable || b) (sym some) ∙ l.0)
      ∙ ap (λ ys. made ys x zs stable e) (clauses i.0))
