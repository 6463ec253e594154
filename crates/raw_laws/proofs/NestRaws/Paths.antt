-- Names, types, steps and paths that are printed nest no deeper than what they mean.
use Rattle.std.proofs.Common.{◌≡◌, ℕ, ◌+◌, ◌≤◌, max, List, [], ◌∷◌, ◌++◌, Bool, true, false, cond}
use Rattle.std.proofs.Common.{refl, sym, ◌∙◌, ap, arith, Option, Some, None, not, is_some}
use Rattle.std.proofs.lemmas.Bool.{and_parts}
use Rattle.xt_names.specs.declared.names.ExprName.{ExprName}
use Rattle.xt_names.specs.declared.kinds.AtomType.{AtomType}
use Rattle.xt_types.specs.declared.axes.Axis.{Axis}
use Rattle.xt_types.specs.declared.axes.Axis.TheVariants as axis
use Rattle.xt_types.specs.declared.node_tests.Test.{Test}
use Rattle.xt_types.specs.declared.node_tests.Test.TheVariants as test
use Rattle.xt_types.specs.declared.types.Count.{Count}
use Rattle.xt_types.specs.declared.types.Count.TheVariants as count
use Rattle.xt_types.specs.declared.types.ItemType.{ItemType}
use Rattle.xt_types.specs.declared.types.ItemType.TheVariants as item
use Rattle.xt_types.specs.declared.types.SeqType.{SeqType}
use Rattle.xt_types.specs.declared.types.SeqType.TheVariants as sequence
use Rattle.xt_syntax.specs.declared.prefixes.Prefixes.{Prefixes}
use Rattle.expr_names.specs.Types.{type_named, call_type}
use Rattle.expr_keys.specs.declared.keys.Key.{Key}
use Rattle.expr_keys.specs.declared.keys.Key.TheVariants as key
use Rattle.expr_keys.specs.declared.tokens.Token.{Token}
use Rattle.expr_keys.specs.declared.tokens.Token.TheVariants as token
use Rattle.expr_keys.specs.declared.productions.Class.TheVariants as class
use Rattle.expr_keys.specs.declared.productions.Production.{Production}
use Rattle.expr_keys.specs.declared.productions.Production.TheVariants as production
use Rattle.expr_terms.specs.declared.raws.Raw.{Raw}
use Rattle.expr_terms.specs.declared.raws.Raw.TheVariants.{Leaf as leaf, Node as node, rolls-Node}
use Rattle.expr_terms.specs.declared.raws.Raw.TheViews.{out-Raw, roll-Raw, roll-out-Raw}
use Rattle.expr_terms.specs.declared.raws.Raw.TheOpen.{Raw-F, Leaf, Node}
use Rattle.expr_terms.specs.Nest.{raw_nest_of}
use Rattle.expr_grammar.specs.ExprNest.Held.{held}
use Rattle.expr_grammar.proofs.ExprNest.Levels.{nest-node}
use Rattle.expr_raws.specs.PathRaws.Forms.{Form, primary, step, single, list, at, all_at, all_can, key_leaf}
use Rattle.expr_raws.specs.PathRaws.Names.{name_token, function_token, test_token}
use Rattle.expr_raws.specs.PathRaws.Paths.{with_token, variable_with, variable, argued, call_with, call}
use Rattle.expr_raws.specs.PathRaws.Paths.{axis_key, leaf_test, named_test, test_form, stepped, step_after}
use Rattle.expr_raws.specs.PathRaws.Paths.{root, alone, behind_steps, is_rooted, only_rooted, start_of}
use Rattle.expr_raws.specs.PathRaws.Paths.{slash_raw, slashed, filtered, root_form}
use Rattle.expr_raws.specs.ControlRaws.Types.{type_token, kind_form, item_form, counted, sequence_form}
use Rattle.expr_raws.specs.ControlRaws.Types.{single_with, single_form}
use Rattle.raw_laws.proofs.NestRaws.Within.{Within, leaf_below, node_mark, AllBelow, all_wider}
use Rattle.raw_laws.proofs.NestRaws.Within.{node_below, level_within, chain_more, first_held}
use Rattle.raw_laws.proofs.NestRaws.Within.{parens_within, at_within, AllWithin, all_at_below}

-- primary expressions of one token

pub number_within : (t : Token) → Within 1 (node production.Number (leaf t ∷ []))
number_within t = level_within production.Number refl refl refl (λ a. refl) 0 (leaf t ∷ [])
    (leaf_below 0 t, tt)

pub literal_within : (t : Token) → Within 1 (node production.Literal (leaf t ∷ []))
literal_within t = level_within production.Literal refl refl refl (λ a. refl) 0 (leaf t ∷ [])
    (leaf_below 0 t, tt)

pub context_within : Within 1 (node production.Context [])
context_within = level_within production.Context refl refl refl (λ a. refl) 0 [] tt

pub root_within : Within 1 root_form.raw
root_within =
    let e : raw_nest_of (node production.Rooted []) ≡ 1 = nest-node production.Rooted [] in
    parens_within (node production.Rooted []) 1 (omega arith) (omega arith)

pub nothing_within : Within 1 (node production.Parens [])
nothing_within =
    let e : raw_nest_of (node production.Parens []) ≡ 1 = nest-node production.Parens [] in
    record {
      below = omega arith;
      plainly = node_mark production.Parens [];
      some = omega arith;
    }

-- $v
pub variable_within : (p : Prefixes) (n : ExprName) → (variable p n).can ≡ true
    → Within 1 (variable p n).raw
variable_within p n = go (name_token p.bound [] n)
  where
    go : (o : Option Token) → (with_token o variable_with).can ≡ true
        → Within 1 (with_token o variable_with).raw
    go None c = absurd (cc)
    go (Some t) c = level_within production.Variable refl refl refl (λ a. refl) 0 (leaf t ∷ [])
        (leaf_below 0 t, tt)

-- node tests and types have no expression in them

pub leaf_form : (o : Option Token) → (with_token o leaf_test).can ≡ true
    → raw_nest_of (with_token o leaf_test).raw ≤ 0
leaf_form None c = absurd (cc)
leaf_form (Some t) c = leaf_below 0 t

named_form : (k : Key) (o : Option Token) → (with_token o (named_test k)).can ≡ true
    → raw_nest_of (with_token o (named_test k)).raw ≤ 0
named_form k None c = absurd (cc)
named_form k (Some t) c = node_below production.NamedKind refl refl (λ a. refl) 0
    (key_leaf k ∷ leaf t ∷ []) (leaf_below 0 (token.Key k), (leaf_below 0 t, tt))

plain_kind_none : (k : Key) → raw_nest_of (node production.PlainKind (key_leaf k ∷ [])) ≤ 0
plain_kind_none k = node_below production.PlainKind refl refl (λ a. refl) 0 (key_leaf k ∷ [])
    (leaf_below 0 (token.Key k), tt)

pub test_none : (p : Prefixes) (on : Axis) (t : Test) → (test_form p on t).can ≡ true
    → raw_nest_of (test_form p on t).raw ≤ 0
test_none p on (test.Named n) c =
    leaf_form (test_token class.NameTest p.bound p.element_default on n) c
test_none p on test.Node c = plain_kind_none key.NodeWord
test_none p on test.Text c = plain_kind_none key.TextWord
test_none p on test.Comment c = plain_kind_none key.CommentWord
test_none p on test.Doc c = plain_kind_none key.DocumentNodeWord
test_none p on (test.Pi None) c = node_below production.PiKind refl refl (λ a. refl) 0 [] tt
test_none p on (test.Pi (Some cs)) c = node_below production.PiKind refl refl (λ a. refl) 0
    (leaf (token.Quoted cs) ∷ []) (leaf_below 0 (token.Quoted cs), tt)
test_none p on (test.Elem n) c = named_form key.ElementWord
    (test_token class.NameOrStar p.bound p.element_default axis.Child n) c
test_none p on (test.Attr n) c = named_form key.AttributeWord
    (test_token class.NameOrStar p.bound p.element_default axis.Attribute n) c

kind_none : (p : Prefixes) (t : Test) → (kind_form p t).can ≡ true
    → raw_nest_of (kind_form p t).raw ≤ 0
kind_none p (test.Named n) c = absurd (cc)
kind_none p test.Node c = test_none p axis.Child test.Node c
kind_none p test.Text c = test_none p axis.Child test.Text c
kind_none p test.Comment c = test_none p axis.Child test.Comment c
kind_none p test.Doc c = test_none p axis.Child test.Doc c
kind_none p (test.Pi o) c = test_none p axis.Child (test.Pi o) c
kind_none p (test.Elem n) c = test_none p axis.Child (test.Elem n) c
kind_none p (test.Attr n) c = test_none p axis.Child (test.Attr n) c

item_none : (p : Prefixes) (i : ItemType) → (item_form p i).can ≡ true
    → raw_nest_of (item_form p i).raw ≤ 0
item_none p item.Any c = node_below production.AnyItem refl refl (λ a. refl) 0 [] tt
item_none p (item.Kind t) c = kind_none p t c
item_none p (item.Atomic k) c = leaf_form (type_token p.bound k) c

marked_none : (v : Raw) (k : Key) → raw_nest_of v ≤ 0
    → raw_nest_of (node production.ItemsType (v ∷ key_leaf k ∷ [])) ≤ 0
marked_none v k h = node_below production.ItemsType refl refl (λ a. refl) 0 (v ∷ key_leaf k ∷ [])
    (h, (leaf_below 0 (token.Key k), tt))

counted_none : (c : Count) (v : Raw) → raw_nest_of v ≤ 0 → raw_nest_of (counted c v) ≤ 0
counted_none count.One v h = h
counted_none count.Opt v h = marked_none v key.Question h
counted_none count.Many v h = marked_none v key.Star h
counted_none count.More v h = marked_none v key.Plus h

pub sequence_none : (p : Prefixes) (t : SeqType) → (sequence_form p t).can ≡ true
    → raw_nest_of (sequence_form p t).raw ≤ 0
sequence_none p sequence.Empty c = node_below production.EmptyType refl refl (λ a. refl) 0 [] tt
sequence_none p (sequence.Of i n) c = counted_none n (item_form p i).raw (item_none p i c)

single_found : (b : Bool) (o : Option Token) → (with_token o (single_with b)).can ≡ true
    → raw_nest_of (with_token o (single_with b)).raw ≤ 0
single_found b None c = absurd (cc)
single_found true (Some t) c = node_below production.SingleAtomicType refl refl (λ a. refl) 0
    (leaf t ∷ node production.QuestionMark [] ∷ []) (
      leaf_below 0 t,
      (node_below production.QuestionMark refl refl (λ a. refl) 0 [] tt, tt),
    )
single_found false (Some t) c =
    node_below production.SingleAtomicType refl refl (λ a. refl) 0 (leaf t ∷ []) (leaf_below 0 t, tt)

pub single_none : (p : Prefixes) (k : AtomType) (b : Bool) → (single_form p k b).can ≡ true
    → raw_nest_of (single_form p k b).raw ≤ 0
single_none p k b c = single_found b (type_token p.bound k) c

-- axis::test[p]..
pub step_within : (p : Prefixes) (on : Axis) (t : Test) (fs : List Form) (n : ℕ)
    → (test_form p on t).can ≡ true → AllWithin n fs → Within (1 + n) (stepped p on t fs).raw
step_within p on t fs n c a =
    let v : Raw = (test_form p on t).raw in
    let h : raw_nest_of v ≤ 0 = test_none p on t c in
    let i : raw_nest_of v ≤ n = omega arith in
    level_within production.AxisStep refl refl refl (λ b. refl) n
    (key_leaf (axis_key on) ∷ v ∷ all_at list fs)
    (leaf_below n (token.Key (axis_key on)), (i, all_at_below list n fs a))

-- f(a, ..)
argued_below : (n : ℕ) (fs : List Form) → AllWithin n fs → AllBelow n (argued fs)
argued_below n [] a = tt
argued_below n (f ∷ fs) a = (
  node_below production.ArgumentList refl refl (λ b. refl) n (all_at single (f ∷ fs))
      (all_at_below single n (f ∷ fs) a),
  tt,
)

call_found : (n : ExprName) (fs : List Form) (m : ℕ) (o : Option Token)
    → (all_can fs ≡ true → AllWithin m fs) → (with_token o (call_with n fs)).can ≡ true
    → Within (1 + m) (with_token o (call_with n fs)).raw
call_found n fs m None a c = absurd (cc)
call_found n fs m (Some t) a c =
    let h = and_parts (not (is_some (call_type (type_named n)))) (all_can fs) c in
    level_within production.Call refl refl refl (λ b. refl) m (leaf t ∷ argued fs)
    (leaf_below m t, argued_below m fs (a h.1))

pub call_within : (p : Prefixes) (n : ExprName) (fs : List Form) (m : ℕ)
    → (all_can fs ≡ true → AllWithin m fs) → (call p n fs).can ≡ true
    → Within (1 + m) (call p n fs).raw
call_within p n fs m a c =
    call_found n fs m (function_token p.bound p.function_default n) a c

-- a/b
pub slashed_within : (a b : Form) (m n : ℕ) → Within m a.raw → Within n b.raw
    → Within (1 + max m n) (slashed a b).raw
slashed_within a b m n wa wb = go (out-Raw a.raw) (roll-out-Raw a.raw)
  where
    at_b : Within n (at step b)
    at_b = at_within step b n wb

    after : raw_nest_of (step_after b) ≤ n
    after = node_below production.StepAfter refl refl (λ x. refl) n (at step b ∷ [])
        (at_b.below, tt)

    is_alone : Within (1 + max m n) (slash_raw alone a b)
    is_alone = chain_more production.Steps refl (λ x. refl) refl (at step a ∷ []) m
        (first_held production.Steps refl (at step a) m (at_within step a m wa).below)
        (step_after b) (node_mark production.StepAfter (at step b ∷ [])) n after

    whole : (p : Production) (vs : List Raw) → roll-Raw (Node p vs) ≡ a.raw
        → raw_nest_of (node p vs) ≤ m
    whole p vs o =
        let e : raw_nest_of (node p vs) ≡ raw_nest_of a.raw =
        ap (λ v. raw_nest_of v) (sym (rolls-Node p vs) ∙ o) in
        let w : raw_nest_of a.raw ≤ m = wa.below in
        omega arith

    steps : (vs : List Raw) → raw_nest_of (node production.Steps vs) ≤ m
        → Within (1 + max m n) (slash_raw (behind_steps vs) a b)
    steps [] h = is_alone
    steps (v ∷ vs) h =
        let e : raw_nest_of (node production.Steps (v ∷ vs)) ≡ held production.Steps (v ∷ vs) =
        nest-node production.Steps (v ∷ vs) in
        chain_more production.Steps refl (λ x. refl) refl (v ∷ vs) m (omega arith)
        (step_after b) (node_mark production.StepAfter (at step b ∷ [])) n after

    from_root : (vs : List Raw) → raw_nest_of (node production.RootSteps vs) ≤ m
        → Within (1 + max m n) (node production.RootSteps (vs ++ step_after b ∷ []))
    from_root vs h =
        let e : raw_nest_of (node production.RootSteps vs) ≡ held production.RootSteps vs =
        nest-node production.RootSteps vs in
        chain_more production.RootSteps refl (λ x. refl) refl vs m (omega arith)
        (step_after b) (node_mark production.StepAfter (at step b ∷ [])) n after

    rooted : Within (1 + max m n) (slash_raw root a b)
    rooted = chain_more production.RootSteps refl (λ x. refl) refl [] m wa.some
        (at step b) at_b.plainly n at_b.below

    parens : (vs : List Raw) → Within (1 + max m n) (slash_raw (only_rooted vs) a b)
    parens [] = is_alone
    parens (v ∷ []) = one (is_rooted (out-Raw v))
      where
        one : (r : Bool) → Within (1 + max m n) (slash_raw (cond r root alone) a b)
        one true = rooted
        one false = is_alone
    parens (v ∷ w ∷ vs) = is_alone

    go : (f : Raw-F Raw) → roll-Raw f ≡ a.raw → Within (1 + max m n) (slash_raw (start_of f) a b)
    go (Leaf t) o = is_alone
    go (Node production.Steps vs) o = steps vs (whole production.Steps vs o)
    go (Node production.RootSteps vs) o = from_root vs (whole production.RootSteps vs o)
    go (Node production.Parens vs) o = parens vs
    go (Node _ vs) o = is_alone

-- a[p]..
pub filtered_within : (a : Form) (fs : List Form) (m n : ℕ) → Within m a.raw → AllWithin n fs
    → (filtered a fs).can ≡ true → Within (1 + max m n) (filtered a fs).raw
filtered_within a [] m n wa ws c = absurd (cc)
filtered_within a (f ∷ fs) m n wa ws c =
    let x : raw_nest_of (at primary a) ≤ m = (at_within primary a m wa).below in
    let y : raw_nest_of (at primary a) ≤ max m n = omega arith in
    let z : n ≤ max m n = omega arith in
    level_within production.FilterStep refl refl refl (λ b. refl) (max m n)
    (at primary a ∷ all_at list (f ∷ fs))
    (y, all_wider n (max m n) (all_at list (f ∷ fs)) z (all_at_below list n (f ∷ fs) ws))
