-- Whether a node has one of the values.
use Rattle.std.proofs.Common.{◌≡◌, ℕ, List, [], ◌∷◌, map, refl, sym, ap, subst, ◌∙◌}
use Rattle.std.specs.Prelude.{Bool, true, false, ◌||◌, if◌then◌else◌, codes, Result, Ok, Err, Some, None}
use Rattle.std.specs.List.{list_any}
use Rattle.xt_names.specs.declared.codes.Code.{Code}
use Rattle.xt_names.specs.declared.names.ExprName.{ExprName}
use Rattle.xt_tree.specs.Place.{Place}
use Rattle.xt_atoms.specs.Keys.{key_same}
use Rattle.xt_atoms.specs.declared.atoms.Atom.{Atom as AtomValue}
use Rattle.xt_syntax.specs.declared.exprs.Expr.{Expr}
use Rattle.xt_syntax.specs.declared.exprs.Clause.TheViews.{roll-Arm, roll-Bind}
use Rattle.xt_syntax.specs.declared.exprs.Clause.TheOpen.{If, Quant}
use Rattle.xdm_items.specs.declared.items.Item.{Item}
use Rattle.xdm_items.specs.declared.items.Item.TheVariants.{Node, Atom}
use Rattle.xdm_items.specs.FunctionArguments.Answers.{of_truth}
use Rattle.function_table.specs.declared.builtins.Builtin.TheVariants as function
use Rattle.item_functions.specs.NodeFunctions.Deep.{deep_equal}
use Rattle.xdm_items.specs.FunctionArguments.Arguments.{and_then as result_then}
use Rattle.order_group.specs.Groups.{has_key}
use Rattle.xt_sheets.specs.declared.sheets.KeyRule.{KeyRule}
use Rattle.key_index.specs.declared.indexes.KeyPair.{KeyPair}
use Rattle.doc_set.specs.Sets.{DocumentSet}
use Rattle.expr_meaning.specs.Outcomes.Outcome.{and_then}
use Rattle.expr_meaning.specs.Env.{Env, Meaning, Program, bind_all, look_up}
use Rattle.expr_meaning.specs.Logic.{Bound, chosen, quantified, quantifier_of, truth_at}
use Rattle.expr_meaning.specs.Meaning.{outcome}
use Rattle.expr_laws.proofs.Rolled.{rolled_arm, rolled_bind}
use Rattle.expr_laws.proofs.Texts.{ArmForm, BindForm}
use Rattle.meaning_laws.specs.SoundValues.Sound.{IsSound}
use Rattle.carried_exprs.specs.Sights.{key_name, nothing, the_item, variable_of}
use Rattle.carried_exprs.specs.Sights.{value_name}
use Rattle.transform_meaning.specs.Keys.{each_value, pairs_by}
use Rattle.query_helpers.specs.Forms.{if_of, some_in}
use Rattle.query_helpers.proofs.Gives.{Gives, Tells, gives_call_of_two, gives_if, gives_nothing}
use Rattle.query_helpers.proofs.Gives.{gives_variable, mean, tells_some, tells_truth}
use Rattle.query_helpers.proofs.LastGives.{deep_equal_called, deep_value}
use Rattle.key_functions.specs.KeyBody.{KeyParts, has_value, is_key_value, own_values}
use Rattle.key_functions.specs.KeyBody.{values_name}
use Rattle.key_functions.specs.Keys.{AreDeclared, IsFailure, IsKeyPlace, SameAs}
use Rattle.key_functions.proofs.Found.{if_any}
use Rattle.key_functions.proofs.Same.{failed_then}
use Rattle.key_functions.proofs.Values.{item_given, pair_item, values_same}
use Rattle.std.proofs.Math.Bool.{and-true}
use Rattle.xt_names.specs.ExprNames.{library_name}

abbrev is_value : Item → Item → Bool
is_value x v = deep_equal (x ∷ []) (v ∷ [])

any_value : (a : AtomValue) (vs : List AtomValue) →
    list_any (is_value (Atom a)) (map Atom vs) ≡ has_key a vs
any_value a [] = refl
any_value a (v ∷ vs) = λ i. and-true (key_same a v) i || any_value a vs i

abbrev pub keeps : List AtomValue → KeyPair → Bool
keeps vs p = has_key p.value vs

any_pair : (vs : List AtomValue) (ps : List KeyPair) →
    list_any (λ x. list_any (is_value x) (map Atom vs)) (map pair_item ps) ≡ list_any (keeps vs) ps
any_pair vs [] = refl
any_pair vs (p ∷ ps) = λ i. any_value p.value vs i || any_pair vs ps i

-- where a part fails
abbrev over : ExprName → Meaning → Bound
over v source = record { var = v; kind = None; source = source }

module _ (q : Program) where
  some_fails : (v : ExprName) (a b : Expr) (env : Env) (k : ℕ) → IsFailure (outcome q a env k) →
      IsFailure (truth_at (outcome q (some_in v a b)) env k)
  some_fails v a b env k h =
      let bound : BindForm = record { var = v; kind = None; source = a } in
      failed_then (outcome q (some_in v a b) env k) _
      (subst IsFailure (sym (mean q (Quant false (roll-Bind bound ∷ []) b) env k
      ∙ ap (λ c. quantifier_of false (c ∷ []) (outcome q b) env k) (rolled_bind q bound)))
      (failed_then (quantified true (over v (outcome q a) ∷ []) (outcome q b) env k) _
      (failed_then (outcome q a env k) _ h)))

  if_fails : (a b c : Expr) (env : Env) (k : ℕ) → IsFailure (truth_at (outcome q a) env k) →
      IsFailure (outcome q (if_of a b c) env k)
  if_fails a b c env k h =
      let arm : ArmForm = record { test = a; then = b } in
      subst IsFailure (sym (mean q (If (roll-Arm arm ∷ []) c) env k
      ∙ ap (λ (m : Meaning × Meaning). and_then (truth_at m.0 env k) (chosen m.1 (outcome q c) env))
      (rolled_arm q arm)))
      (failed_then (truth_at (outcome q a) env k) _ h)

  module _ (vs : List AtomValue) (env : Env)
      (values : look_up env.locals values_name ≡ Some (map Atom vs)) where
    -- one value of the node
    one_told : (x : Item) →
        Tells q (some_in value_name (variable_of values_name) is_key_value)
        (bind_all ((key_name, x ∷ []) ∷ []) env) (list_any (is_value x) (map Atom vs))
    unfolding look_up
    one_told x =
        tells_some q value_name (variable_of values_name) is_key_value
        (bind_all ((key_name, x ∷ []) ∷ []) env) (map Atom vs) (is_value x)
        (gives_variable q values_name (bind_all ((key_name, x ∷ []) ∷ []) env) (map Atom vs) values)
        (λ v. tells_truth q is_key_value (inner x v) (is_value x v)
        (gives_call_of_two q (library_name (codes "deep-equal")) function.DeepEqual
        (variable_of key_name) (variable_of value_name) (inner x v) (x ∷ []) (v ∷ [])
        (of_truth (is_value x v)) deep_equal_called
        (gives_variable q key_name (inner x v) (x ∷ []) refl)
        (gives_variable q value_name (inner x v) (v ∷ []) refl)
        (deep_value (x ∷ []) (v ∷ []))))
      where
        inner : Item → Item → Env
        inner x v = bind_all ((value_name, v ∷ []) ∷ []) (bind_all ((key_name, x ∷ []) ∷ []) env)

    pub node_same : (documents : DocumentSet) (ds : List KeyRule) (cs : List KeyParts) →
        AreDeclared q documents ds cs → (n : Place) → IsSound (Node n) → IsKeyPlace env n →
        (k : ℕ) →
        SameAs (result_then (each_value (pairs_by documents n) ds) (λ ps. Ok (if_any (keeps vs) n ps)))
        (outcome q (if_of (has_value cs) the_item nothing) env k) k
    node_same documents ds cs h n sound place k =
        by (each_value (pairs_by documents n) ds) (values_same q documents env n sound place ds cs h)
      where
        told : (ps : List KeyPair) → Gives q (own_values cs) env (map pair_item ps) →
            Tells q (has_value cs) env (list_any (keeps vs) ps)
        told ps g =
            subst (Tells q (has_value cs) env) (any_pair vs ps)
            (tells_some q key_name (own_values cs)
            (some_in value_name (variable_of values_name) is_key_value) env (map pair_item ps)
            (λ x. list_any (is_value x) (map Atom vs)) g one_told)

        by : (r : Result (List KeyPair) Code) → ((j : ℕ) →
            SameAs (result_then r (λ ps. Ok (map pair_item ps))) (outcome q (own_values cs) env j) j) →
            SameAs (result_then r (λ ps. Ok (if_any (keeps vs) n ps)))
            (outcome q (if_of (has_value cs) the_item nothing) env k) k
        by (Ok ps) g =
            gives_if q (has_value cs) the_item nothing env (list_any (keeps vs) ps)
            (if_any (keeps vs) n ps) (told ps g)
            (λ e. subst (λ b. Gives q the_item env (if b then Node n ∷ [] else [])) (sym e)
            (item_given q documents env n sound place))
            (λ e. subst (λ b. Gives q nothing env (if b then Node n ∷ [] else [])) (sym e)
            (gives_nothing q env)) k
        by (Err code) g =
            if_fails (has_value cs) the_item nothing env k
            (some_fails key_name (own_values cs)
            (some_in value_name (variable_of values_name) is_key_value) env k (g k))
