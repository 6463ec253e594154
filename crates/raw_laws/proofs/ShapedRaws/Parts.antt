-- Paths, types, operators and bindings that are printed are shaped.
use Rattle.std.proofs.Common.{◌≡◌, List, [], ◌∷◌, ◌++◌, map, reverse, Bool, true, false, cond}
use Rattle.std.proofs.Common.{◌&&◌, refl, sym, ◌∙◌, ap, Option, Some, None}
use Rattle.xt_names.specs.declared.names.ExprName.{ExprName}
use Rattle.xt_names.specs.declared.kinds.AtomType.{AtomType}
use Rattle.xt_types.specs.declared.axes.Axis.{Axis}
use Rattle.xt_types.specs.declared.axes.Axis.TheVariants as axis
use Rattle.xt_types.specs.declared.node_tests.Test.{Test}
use Rattle.xt_types.specs.declared.node_tests.Test.TheVariants as test
use Rattle.xt_types.specs.declared.types.Count.{Count}
use Rattle.xt_types.specs.declared.types.Count.TheVariants as count
use Rattle.xt_types.specs.declared.types.ItemType.{ItemType}
use Rattle.xt_types.specs.declared.types.ItemType.TheVariants as item
use Rattle.xt_types.specs.declared.types.SeqType.{SeqType}
use Rattle.xt_types.specs.declared.types.SeqType.TheVariants as sequence
use Rattle.xt_syntax.specs.declared.prefixes.Prefixes.{Prefixes}
use Rattle.expr_keys.specs.declared.keys.Key.{Key}
use Rattle.expr_keys.specs.declared.keys.Key.TheVariants as key
use Rattle.expr_keys.specs.declared.tokens.Token.{Token}
use Rattle.expr_keys.specs.declared.tokens.Token.TheVariants as token
use Rattle.expr_keys.specs.declared.productions.Class.TheVariants as class
use Rattle.expr_keys.specs.declared.productions.Level.{Level}
use Rattle.expr_keys.specs.declared.productions.Production.{Production}
use Rattle.expr_keys.specs.declared.productions.Production.TheVariants as production
use Rattle.expr_terms.specs.declared.raws.Raw.{Raw}
use Rattle.expr_terms.specs.declared.raws.Raw.TheVariants.{Leaf as leaf, Node as node, rolls-Node}
use Rattle.expr_terms.specs.declared.raws.Raw.TheViews.{out-Raw, roll-Raw, roll-out-Raw}
use Rattle.expr_terms.specs.declared.raws.Raw.TheOpen.{Raw-F, Leaf, Node}
use Rattle.expr_rules.specs.ExprShapes.Shapes.{is_shaped}
use Rattle.expr_raws.specs.PathRaws.Forms.{Form, primary, step, single, list, signs, below, at, all_at}
use Rattle.expr_raws.specs.PathRaws.Forms.{in_parentheses, key_leaf, nothing}
use Rattle.expr_raws.specs.PathRaws.Names.{name_token, function_token, test_token}
use Rattle.expr_raws.specs.PathRaws.Paths.{with_token, variable_with, variable, argued, call_with, call}
use Rattle.expr_raws.specs.PathRaws.Paths.{axis_key, leaf_test, named_test, test_form, stepped, step_after}
use Rattle.expr_raws.specs.PathRaws.Paths.{root, alone, behind_steps, is_rooted}
use Rattle.expr_raws.specs.PathRaws.Paths.{only_rooted, start_of, slash_raw, slashed, filtered, plain_kind}
use Rattle.expr_raws.specs.ControlRaws.Operators.{tail, once, is_chain_of, chain_parts, or_first, is_mark}
use Rattle.expr_raws.specs.ControlRaws.Operators.{operands, left, many, listed, signed, ArmForm, arm_parts}
use Rattle.expr_raws.specs.ControlRaws.Operators.{conditional}
use Rattle.expr_raws.specs.ControlRaws.Types.{type_token, kind_form, item_form, counted, sequence_form}
use Rattle.expr_raws.specs.ControlRaws.Types.{of_type, single_with, single_form}
use Rattle.expr_raws.specs.ControlRaws.Bindings.{variable_name, typing, placing, typed, placed, BindForm}
use Rattle.expr_raws.specs.ControlRaws.Bindings.{bound_by, quantifier, quant_bind, quantified, ClauseForm}
use Rattle.expr_raws.specs.ControlRaws.Bindings.{for_clause, let_clause, Group, looping, letting, with_for}
use Rattle.expr_raws.specs.ControlRaws.Bindings.{groups, with_clause, group_raw, wheres, OrderForm, ways}
use Rattle.expr_raws.specs.ControlRaws.Bindings.{order_raw, ordering, ordered, flowing}
use Rattle.raw_laws.proofs.ShapedRaws.Shaped.{Shaped, leaf_shaped, AllShaped, append_shaped, reverse_shaped}
use Rattle.raw_laws.proofs.ShapedRaws.Shaped.{parts_shaped, is_loose, loose, at_shaped, AllForms}
use Rattle.raw_laws.proofs.ShapedRaws.Shaped.{all_at_shaped}

nothing_shaped : Shaped nothing.raw
nothing_shaped = loose production.Context refl [] tt

pub found : (o : Option Token) (f : Token → Form) → ((t : Token) → Shaped (f t).raw)
    → Shaped (with_token o f).raw
found None f h = nothing_shaped
found (Some t) f h = h t

pub variable_shaped : (p : Prefixes) (n : ExprName) → Shaped (variable p n).raw
variable_shaped p n = found (name_token p.bound [] n) variable_with
    (λ t. loose production.Variable refl (leaf t ∷ []) (leaf_shaped t, tt))

argued_shaped : (fs : List Form) → AllForms fs → AllShaped (argued fs)
argued_shaped [] a = tt
argued_shaped (f ∷ fs) a = (
  loose production.ArgumentList refl (all_at single (f ∷ fs)) (all_at_shaped single (f ∷ fs) a),
  tt,
)

pub call_shaped : (p : Prefixes) (n : ExprName) (fs : List Form) → AllForms fs
    → Shaped (call p n fs).raw
call_shaped p n fs a = found (function_token p.bound p.function_default n) (call_with n fs)
    (λ t. loose production.Call refl (leaf t ∷ argued fs) (leaf_shaped t, argued_shaped fs a))

plain_kind_shaped : (k : Key) → Shaped (plain_kind k).raw
plain_kind_shaped k =
    loose production.PlainKind refl (key_leaf k ∷ []) (leaf_shaped (token.Key k), tt)

test_shaped : (p : Prefixes) (on : Axis) (t : Test) → Shaped (test_form p on t).raw
test_shaped p on (test.Named n) = found
    (test_token class.NameTest p.bound p.element_default on n) leaf_test (λ t. leaf_shaped t)
test_shaped p on test.Node = plain_kind_shaped key.NodeWord
test_shaped p on test.Text = plain_kind_shaped key.TextWord
test_shaped p on test.Comment = plain_kind_shaped key.CommentWord
test_shaped p on test.Doc = plain_kind_shaped key.DocumentNodeWord
test_shaped p on (test.Pi None) = loose production.PiKind refl [] tt
test_shaped p on (test.Pi (Some cs)) = loose production.PiKind refl
    (leaf (token.Quoted cs) ∷ []) (leaf_shaped (token.Quoted cs), tt)
test_shaped p on (test.Elem n) = found
    (test_token class.NameOrStar p.bound p.element_default axis.Child n)
    (named_test key.ElementWord) (λ t. loose production.NamedKind refl
    (key_leaf key.ElementWord ∷ leaf t ∷ [])
    (leaf_shaped (token.Key key.ElementWord), (leaf_shaped t, tt)))
test_shaped p on (test.Attr n) = found
    (test_token class.NameOrStar p.bound p.element_default axis.Attribute n)
    (named_test key.AttributeWord) (λ t. loose production.NamedKind refl
    (key_leaf key.AttributeWord ∷ leaf t ∷ [])
    (leaf_shaped (token.Key key.AttributeWord), (leaf_shaped t, tt)))

pub step_shaped : (p : Prefixes) (on : Axis) (t : Test) (fs : List Form) → AllForms fs
    → Shaped (stepped p on t fs).raw
step_shaped p on t fs a = loose production.AxisStep refl
    (key_leaf (axis_key on) ∷ (test_form p on t).raw ∷ all_at list fs)
    (leaf_shaped (token.Key (axis_key on)), (test_shaped p on t, all_at_shaped list fs a))

after_shaped : (b : Form) → Shaped b.raw → Shaped (step_after b)
after_shaped b c = loose production.StepAfter refl (at step b ∷ []) (at_shaped step b c, tt)

pub slashed_shaped : (a b : Form) → Shaped a.raw → Shaped b.raw → Shaped (slashed a b).raw
slashed_shaped a b ca cb = go (out-Raw a.raw) (roll-out-Raw a.raw)
  where
    is_alone : Shaped (slash_raw alone a b)
    is_alone = loose production.Steps refl (at step a ∷ step_after b ∷ [])
        (at_shaped step a ca, (after_shaped b cb, tt))

    parts : (p : Production) (vs : List Raw) → roll-Raw (Node p vs) ≡ a.raw → AllShaped vs
    parts p vs o = parts_shaped p vs (ap is_shaped (sym (rolls-Node p vs) ∙ o) ∙ ca)

    steps : (vs : List Raw) → AllShaped vs → Shaped (slash_raw (behind_steps vs) a b)
    steps [] c = is_alone
    steps (v ∷ vs) c = loose production.Steps refl ((v ∷ vs) ++ step_after b ∷ [])
        (append_shaped (v ∷ vs) (step_after b ∷ []) c (after_shaped b cb, tt))

    rooted : Shaped (slash_raw root a b)
    rooted = loose production.RootSteps refl (at step b ∷ []) (at_shaped step b cb, tt)

    parens : (vs : List Raw) → Shaped (slash_raw (only_rooted vs) a b)
    parens [] = is_alone
    parens (v ∷ []) = one (is_rooted (out-Raw v))
      where
        one : (r : Bool) → Shaped (slash_raw (cond r root alone) a b)
        one true = rooted
        one false = is_alone
    parens (v ∷ w ∷ vs) = is_alone

    go : (f : Raw-F Raw) → roll-Raw f ≡ a.raw → Shaped (slash_raw (start_of f) a b)
    go (Leaf t) o = is_alone
    go (Node production.Steps vs) o = steps vs (parts production.Steps vs o)
    go (Node production.RootSteps vs) o = loose production.RootSteps refl
        (vs ++ step_after b ∷ []) (append_shaped vs (step_after b ∷ [])
        (parts production.RootSteps vs o) (after_shaped b cb, tt))
    go (Node production.Parens vs) o = parens vs
    go (Node _ vs) o = is_alone

pub filtered_shaped : (a : Form) (fs : List Form) → Shaped a.raw → AllForms fs
    → Shaped (filtered a fs).raw
filtered_shaped a [] ca cs = nothing_shaped
filtered_shaped a (f ∷ fs) ca cs = loose production.FilterStep refl
    (at primary a ∷ all_at list (f ∷ fs)) (at_shaped primary a ca, all_at_shaped list (f ∷ fs) cs)

-- types

kind_shaped : (p : Prefixes) (t : Test) → Shaped (kind_form p t).raw
kind_shaped p (test.Named n) = nothing_shaped
kind_shaped p test.Node = test_shaped p axis.Child test.Node
kind_shaped p test.Text = test_shaped p axis.Child test.Text
kind_shaped p test.Comment = test_shaped p axis.Child test.Comment
kind_shaped p test.Doc = test_shaped p axis.Child test.Doc
kind_shaped p (test.Pi o) = test_shaped p axis.Child (test.Pi o)
kind_shaped p (test.Elem n) = test_shaped p axis.Child (test.Elem n)
kind_shaped p (test.Attr n) = test_shaped p axis.Child (test.Attr n)

item_shaped : (p : Prefixes) (i : ItemType) → Shaped (item_form p i).raw
item_shaped p item.Any = loose production.AnyItem refl [] tt
item_shaped p (item.Kind t) = kind_shaped p t
item_shaped p (item.Atomic k) = found (type_token p.bound k) leaf_test (λ t. leaf_shaped t)

marked_shaped : (v : Raw) (k : Key) → Shaped v
    → Shaped (node production.ItemsType (v ∷ key_leaf k ∷ []))
marked_shaped v k c = loose production.ItemsType refl (v ∷ key_leaf k ∷ [])
    (c, (leaf_shaped (token.Key k), tt))

counted_shaped : (c : Count) (v : Raw) → Shaped v → Shaped (counted c v)
counted_shaped count.One v h = h
counted_shaped count.Opt v h = marked_shaped v key.Question h
counted_shaped count.Many v h = marked_shaped v key.Star h
counted_shaped count.More v h = marked_shaped v key.Plus h

pub sequence_shaped : (p : Prefixes) (t : SeqType) → Shaped (sequence_form p t).raw
sequence_shaped p sequence.Empty = loose production.EmptyType refl [] tt
sequence_shaped p (sequence.Of i n) =
    counted_shaped n (item_form p i).raw (item_shaped p i)

single_with_shaped : (b : Bool) (t : Token) → Shaped (single_with b t).raw
single_with_shaped true t = loose production.SingleAtomicType refl
    (leaf t ∷ node production.QuestionMark [] ∷ [])
    (leaf_shaped t, (loose production.QuestionMark refl [] tt, tt))
single_with_shaped false t = loose production.SingleAtomicType refl (leaf t ∷ []) (leaf_shaped t, tt)

pub single_shaped : (p : Prefixes) (k : AtomType) (b : Bool) → Shaped (single_form p k b).raw
single_shaped p k b = found (type_token p.bound k) (single_with b) (single_with_shaped b)

pub of_type_shaped : (l : Level) (a t : Form) → Shaped a.raw → Shaped t.raw
    → Shaped (of_type l a t).raw
of_type_shaped l a t ca ct = loose (production.OperatorChain l) refl
    (at (below l) a ∷ node (production.OperatorTail l) (t.raw ∷ []) ∷ [])
    (at_shaped (below l) a ca, (loose (production.OperatorTail l) refl (t.raw ∷ []) (ct, tt), tt))

-- operators

tail_shaped : (l : Level) (k : Key) (b : Form) → Shaped b.raw → Shaped (tail l k b)
tail_shaped l k b c = loose (production.OperatorTail l) refl (key_leaf k ∷ at (below l) b ∷ [])
    (leaf_shaped (token.Key k), (at_shaped (below l) b c, tt))

pub once_shaped : (l : Level) (k : Key) (a b : Form) → Shaped a.raw → Shaped b.raw
    → Shaped (once l k a b).raw
once_shaped l k a b ca cb = loose (production.OperatorChain l) refl (at (below l) a ∷ tail l k b ∷ [])
    (at_shaped (below l) a ca, (tail_shaped l k b cb, tt))

operands_shaped : (l : Level) (k : Key) (a : Form) → Shaped a.raw → AllShaped (operands l k a)
operands_shaped l k a c = pick (is_mark k && a.unmarked)
  where
    first : (us : List Raw) → AllShaped us → AllShaped (or_first us (at (below l) a))
    first [] x = (at_shaped (below l) a c, tt)
    first (u ∷ us) x = x

    go : (f : Raw-F Raw) → roll-Raw f ≡ a.raw → AllShaped (chain_parts l f)
    go (Leaf t) o = tt
    go (Node p vs) o = parts (is_chain_of l p)
      where
        parts : (b : Bool) → AllShaped (cond b vs [])
        parts false = tt
        parts true = parts_shaped p vs (ap is_shaped (sym (rolls-Node p vs) ∙ o) ∙ c)

    pick : (m : Bool) → AllShaped (cond m (in_parentheses a ∷ [])
        (or_first (chain_parts l (out-Raw a.raw)) (at (below l) a)))
    pick true = (loose production.Parens refl (a.raw ∷ []) (c, tt), tt)
    pick false = first (chain_parts l (out-Raw a.raw)) (go (out-Raw a.raw) (roll-out-Raw a.raw))

pub left_shaped : (l : Level) (k : Key) (a b : Form) → Shaped a.raw → Shaped b.raw
    → Shaped (left l k a b).raw
left_shaped l k a b ca cb = loose (production.OperatorChain l) refl (operands l k a ++ tail l k b ∷ [])
    (append_shaped (operands l k a) (tail l k b ∷ []) (operands_shaped l k a ca)
    (tail_shaped l k b cb, tt))

tails_shaped : (l : Level) (k : Key) (fs : List Form) → AllForms fs
    → AllShaped (map (λ f. tail l k f) fs)
tails_shaped l k [] a = tt
tails_shaped l k (f ∷ fs) a = (tail_shaped l k f a.0, tails_shaped l k fs a.1)

pub many_shaped : (l : Level) (k : Key) (fs : List Form) → AllForms fs → Shaped (many l k fs).raw
many_shaped l k [] a = nothing_shaped
many_shaped l k (f ∷ []) a = nothing_shaped
many_shaped l k (f ∷ g ∷ fs) a = loose (production.OperatorChain l) refl
    (at (below l) f ∷ map (λ x. tail l k x) (g ∷ fs))
    (at_shaped (below l) f a.0, tails_shaped l k (g ∷ fs) a.1)

pub listed_shaped : (fs : List Form) → AllForms fs → Shaped (listed fs).raw
listed_shaped [] a = loose production.Parens refl [] tt
listed_shaped (f ∷ []) a = nothing_shaped
listed_shaped (f ∷ g ∷ fs) a = loose production.ExprList refl (all_at single (f ∷ g ∷ fs))
    (all_at_shaped single (f ∷ g ∷ fs) a)

pub signed_shaped : (k : Key) (a : Form) → Shaped a.raw → Shaped (signed k a).raw
signed_shaped k a c = loose production.Signed refl (key_leaf k ∷ at signs a ∷ [])
    (leaf_shaped (token.Key k), (at_shaped signs a c, tt))

-- conditionals

abbrev pub AllArms : List ArmForm → Type 0
AllArms [] = Unit {0}
AllArms (a ∷ arms) = (Shaped a.test.raw × Shaped a.first.raw) × AllArms arms

arms_shaped : (arms : List ArmForm) (v : Raw) → AllArms arms → Shaped v
    → AllShaped (arm_parts arms v)
arms_shaped [] v a c = (c, tt)
arms_shaped (f ∷ arms) v a c =
    (at_shaped list f.test a.0.0, (at_shaped single f.first a.0.1, arms_shaped arms v a.1 c))

pub if_shaped : (arms : List ArmForm) (e : Form) → AllArms arms → Shaped e.raw
    → Shaped (conditional arms e).raw
if_shaped arms e a c = loose production.IfExpr refl (reverse (arm_parts arms (at single e)))
    (reverse_shaped (arm_parts arms (at single e))
    (arms_shaped arms (at single e) a (at_shaped single e c)))

-- bindings

name_shaped : (p : Prefixes) (n : ExprName) → Shaped (variable_name p n).raw
name_shaped p n = found (name_token p.bound [] n) leaf_test (λ t. leaf_shaped t)

abbrev pub May : Option Form → Type 0
May None = Unit {0}
May (Some f) = Shaped f.raw

typing_shaped : (p : Prefixes) (t : Option SeqType) → May (typing p t)
typing_shaped p None = tt
typing_shaped p (Some t) = sequence_shaped p t

placing_shaped : (p : Prefixes) (n : Option ExprName) → May (placing p n)
placing_shaped p None = tt
placing_shaped p (Some n) = name_shaped p n

typed_shaped : (o : Option Form) → May o → AllShaped (typed o)
typed_shaped None c = tt
typed_shaped (Some f) c = (loose production.AsType refl (f.raw ∷ []) (c, tt), tt)

placed_shaped : (o : Option Form) → May o → AllShaped (placed o)
placed_shaped None c = tt
placed_shaped (Some f) c = (loose production.AtVariable refl (f.raw ∷ []) (c, tt), tt)

pub record BindShaped (f : BindForm) : Type 0 where
  pub name : Shaped f.name.raw
  pub kind : May f.kind
  pub source : Shaped f.source.raw

pub bind_made : (p : Prefixes) (n : ExprName) (t : Option SeqType) (a : Form) → Shaped a.raw
    → BindShaped (record { name = variable_name p n; kind = typing p t; source = a })
bind_made p n t a c = record {
  name = name_shaped p n;
  kind = typing_shaped p t;
  source = c;
}

bound_shaped : (q : Production) → is_loose q ≡ true → (more : List Raw) → AllShaped more
    → (f : BindForm) → BindShaped f → Shaped (bound_by q more f)
bound_shaped q l more a f b = loose q l
    (f.name.raw ∷ (typed f.kind ++ (more ++ at single f.source ∷ []))) (
      b.name,
      append_shaped (typed f.kind) (more ++ at single f.source ∷ [])
          (typed_shaped f.kind b.kind) (append_shaped more (at single f.source ∷ []) a
          (at_shaped single f.source b.source, tt)),
    )

abbrev pub AllBinds : List BindForm → Type 0
AllBinds [] = Unit {0}
AllBinds (f ∷ fs) = BindShaped f × AllBinds fs

binds_shaped : (fs : List BindForm) → AllBinds fs → AllShaped (map (λ b. quant_bind b) fs)
binds_shaped [] a = tt
binds_shaped (f ∷ fs) a =
    (bound_shaped production.QuantifiedIn refl [] tt f a.0, binds_shaped fs a.1)

pub quantified_shaped : (every : Bool) (fs : List BindForm) (a : Form) → AllBinds fs
    → Shaped a.raw → Shaped (quantified every fs a).raw
quantified_shaped every fs a b c = loose production.QuantifiedExpr refl
    (key_leaf (quantifier every) ∷ (map (λ x. quant_bind x) fs ++ at single a ∷ [])) (
      leaf_shaped (token.Key (quantifier every)),
      append_shaped (map (λ x. quant_bind x) fs) (at single a ∷ []) (binds_shaped fs b)
          (at_shaped single a c, tt),
    )

pub for_shaped : (p : Prefixes) (f : BindForm) (n : Option ExprName) → BindShaped f
    → Shaped (for_clause f (placing p n)).raw
for_shaped p f n b = bound_shaped production.ForIn refl (placed (placing p n))
    (placed_shaped (placing p n) (placing_shaped p n)) f b

pub let_shaped : (f : BindForm) → BindShaped f → Shaped (let_clause f).raw
let_shaped f b = bound_shaped production.LetAssign refl [] tt f b

abbrev pub AllClauses : List ClauseForm → Type 0
AllClauses [] = Unit {0}
AllClauses (f ∷ fs) = Shaped f.raw × AllClauses fs

abbrev Groups : List Group → Type 0
Groups gs = AllShaped (map (λ g. group_raw g) gs)

with_for_shaped : (v : Raw) (gs : List Group) → Shaped v → Groups gs → Groups (with_for v gs)
with_for_shaped v [] c a = (loose production.ForClause refl (v ∷ []) (c, tt), tt)
with_for_shaped v (looping vs ∷ gs) c a =
    (loose production.ForClause refl (v ∷ vs) (c, parts_shaped production.ForClause vs a.0), a.1)
with_for_shaped v (letting w ∷ gs) c a =
    (loose production.ForClause refl (v ∷ []) (c, tt), a)

with_clause_shaped : (f : ClauseForm) (gs : List Group) → Shaped f.raw → Groups gs
    → Groups (with_clause f gs)
with_clause_shaped f gs c a = go f.loops
  where
    go : (b : Bool) → Groups (cond b (with_for f.raw gs) (letting f.raw ∷ gs))
    go true = with_for_shaped f.raw gs c a
    go false = (loose production.LetClause refl (f.raw ∷ []) (c, tt), a)

groups_shaped : (fs : List ClauseForm) → AllClauses fs → Groups (groups fs)
groups_shaped [] a = tt
groups_shaped (f ∷ fs) a = with_clause_shaped f (groups fs) a.0 (groups_shaped fs a.1)

where_shaped : (o : Option Form) → May o → AllShaped (wheres o)
where_shaped None c = tt
where_shaped (Some f) c =
    (loose production.WhereTest refl (at single f ∷ []) (at_shaped single f c, tt), tt)

abbrev pub AllOrders : List OrderForm → Type 0
AllOrders [] = Unit {0}
AllOrders (o ∷ os) = Shaped o.key.raw × AllOrders os

ways_shaped : (b : Bool) → AllShaped (ways b)
ways_shaped true = (leaf_shaped (token.Key key.DescendingWord), tt)
ways_shaped false = tt

orders_shaped : (os : List OrderForm) → AllOrders os → AllShaped (map (λ x. order_raw x) os)
orders_shaped [] a = tt
orders_shaped (o ∷ os) a = (
  loose production.OrderKey refl (at single o.key ∷ ways o.descending)
      (at_shaped single o.key a.0, ways_shaped o.descending),
  orders_shaped os a.1,
)

ordering_shaped : (stable : Bool) (vs : List Raw) → AllShaped vs
    → Shaped (node (ordering stable) vs)
ordering_shaped true vs a = loose production.StableOrderBy refl vs a
ordering_shaped false vs a = loose production.OrderBy refl vs a

ordered_shaped : (stable : Bool) (os : List OrderForm) → AllOrders os
    → AllShaped (ordered stable os)
ordered_shaped stable [] a = tt
ordered_shaped stable (o ∷ os) a = (
  ordering_shaped stable (map (λ x. order_raw x) (o ∷ os)) (orders_shaped (o ∷ os) a),
  tt,
)

pub flowing_shaped : (fs : List ClauseForm) (o : Option Form) (os : List OrderForm)
    (stable : Bool) (a : Form) → AllClauses fs → May o → AllOrders os → Shaped a.raw
    → Shaped (flowing fs o os stable a).raw
flowing_shaped fs o os stable a gf go gs c =
    let last : List Raw = at single a ∷ [] in
    loose production.FlworExpr refl (map (λ g. group_raw g) (groups fs)
    ++ (wheres o ++ (ordered stable os ++ last)))
    (append_shaped (map (λ g. group_raw g) (groups fs)) (wheres o ++ (ordered stable os ++ last))
    (groups_shaped fs gf) (append_shaped (wheres o) (ordered stable os ++ last)
    (where_shaped o go) (append_shaped (ordered stable os) last (ordered_shaped stable os gs)
    (at_shaped single a c, tt))))
