-- Templates that are applied and called: regular, and of so many levels at most.
use Rattle.std.proofs.Common.{◌≡◌, ◌≤◌, ℕ, suc, List, [], ◌∷◌, ◌++◌, refl, ap, arith}
use Rattle.std.specs.Prelude.{Bool, true, false, ◌&&◌, Option, Some, None, codes, if◌then◌else◌}
use Rattle.xt_types.specs.Regular.{is_regular_test, is_regular_type, is_regular_item, is_named, is_kind_name}
use Rattle.xt_types.specs.declared.axes.Axis.TheVariants.{Child}
use Rattle.xt_types.specs.declared.node_tests.Test.TheVariants.{Node}
use Rattle.xt_syntax.specs.declared.exprs.Clause.{Clause}
use Rattle.xt_syntax.specs.declared.exprs.Expr.{Expr}
use Rattle.xt_syntax.specs.declared.exprs.Clause.TheOpen.{Comma}
use Rattle.carried_exprs.specs.Sights.{Sight, named, focused, absent, item_name, size_name, variable_of, position_name}
use Rattle.carried_exprs.specs.Sights.{the_item, nothing, from_focus}
use Rattle.carried_exprs.proofs.RegularRolled.{regular_expr_rolled}
use Rattle.translated_forms.specs.Names.{items_name, count_name, local_name}
use Rattle.translated_forms.specs.Forms.{count_of, arm_of, if_of}
use Rattle.translated_forms.specs.Leaves.{if_leaf}
use Rattle.translated_forms.specs.Texts.{Carry}
use Rattle.translated_forms.specs.Places.{Param, Place, Table, sight_at}
use Rattle.translated_forms.specs.Params.{BoundAt, flag_of, value_of, given_of, truth, same_from}
use Rattle.translated_forms.specs.Params.{same_arguments, none_from, is_given}
use Rattle.translated_forms.specs.Params.{arguments_from, passed_arguments}
use Rattle.translated_forms.specs.Loops.{in_turn, the_items, items_let, string_of}
use Rattle.translated_forms.specs.Dispatch.{called, at_focus, count_let, in_its_place, applied, children}
use Rattle.translated_forms.specs.Dispatch.{selection, is_leaf as is_leaf_node, own_text, built_in}
use Rattle.translated_forms.specs.Dispatch.{rule_arms, first_that_matches, with_given}
use Rattle.translated_forms.specs.Params.{given_lets}
use Rattle.translated_forms.proofs.Fine.{Fine, FineArm, FineClause, Every, none, more, higher}
use Rattle.translated_forms.proofs.Fine.{fine_variable, fine_nothing, fine_step, fine_slash}
use Rattle.translated_forms.proofs.Fine.{fine_call, fine_or, fine_let, fine_arm, fine_text_node}
use Rattle.translated_forms.proofs.FineFlows.{fine_flow, fine_flow_or_body, fine_if_many, NoIf}
use Rattle.translated_forms.proofs.FineChains.{fine_chain}
use Rattle.translated_forms.proofs.FineTexts.{CarriesTo, fine_library, local_is_no_cast}
use Rattle.translated_forms.proofs.FineBodies.{fine_comma, joined_all}
use Rattle.translated_forms.proofs.FineMaking.{fine_kind}
use Rattle.translated_forms.proofs.FineLoops.{fine_in_turn, fine_the_items, fine_items_let, fine_count}
use Rattle.translated_forms.proofs.FineLoops.{fine_string}
use Rattle.translated_forms.proofs.FineGroups.{fine_nodes}

-- arguments are variables and calls without arguments
pub fine_truth : (b : Bool) → Fine 1 (truth b)
fine_truth true = fine_library 0 (codes "true") [] none
fine_truth false = fine_library 0 (codes "false") [] none

pub fine_same : (n : ℕ) (ps : List Param) → Every (Fine 1) (same_from n ps)
fine_same n [] = none
fine_same n (p ∷ ps) =
    more (fine_variable (flag_of n p)) (more (fine_variable (value_of n p)) (fine_same (suc n) ps))

pub fine_none : (ps : List Param) → Every (Fine 1) (none_from ps)
fine_none [] = none
fine_none (p ∷ ps) = more (fine_truth false) (more fine_nothing (fine_none ps))

choose : (c d : Bool) (x y z : Expr) → Fine 1 x → Fine 1 y → Fine 1 z →
    Fine 1 (if c then x else if d then y else z)
choose true d x y z h i j = h
choose false true x y z h i j = i
choose false false x y z h i j = j

fine_arguments_from : (n : ℕ) (given : List BoundAt) (has_tunnel : Bool) (ps : List Param) →
    Every (Fine 1) (arguments_from n given has_tunnel ps)
fine_arguments_from n given has_tunnel [] = none
fine_arguments_from n given has_tunnel (p ∷ ps) =
    more (choose (is_given given p) (p.tunnel && has_tunnel) _ _ _ (fine_truth true)
    (fine_variable (flag_of n p)) (fine_truth false))
    (more (choose (is_given given p) (p.tunnel && has_tunnel) _ _ _ (fine_variable (given_of n p))
    (fine_variable (value_of n p)) fine_nothing) (fine_arguments_from (suc n) given has_tunnel ps))

pub fine_arguments : (t : Table) (p : Place) (given : List BoundAt) →
    Every (Fine 1) (passed_arguments t p given)
fine_arguments t p given = fine_arguments_from 1 given p.has_tunnel t.params

-- calls of functions of the translation
pub fine_called : (local : List ℕ) (args : List Expr) → Every (Fine 1) args →
    Fine 2 (called (local_name local) args)
fine_called local args h = fine_call 1 (local_name local) args (local_is_no_cast local) h

fine_at_focus : (local : List ℕ) (args : List Expr) → Every (Fine 1) args →
    Fine 2 (at_focus (local_name local) args)
fine_at_focus local args h =
    fine_called local (the_item ∷ variable_of position_name ∷ variable_of size_name ∷ args)
    (more (fine_variable item_name) (more (fine_variable position_name) (more (fine_variable size_name) h)))

fine_in_place : (local : List ℕ) (args : List Expr) → Every (Fine 1) args →
    Fine 2 (in_its_place (local_name local) args)
fine_in_place local args h =
    fine_called local (the_item ∷ variable_of position_name ∷ variable_of count_name ∷ args)
    (more (fine_variable item_name) (more (fine_variable position_name) (more (fine_variable count_name) h)))

pub fine_applied : (n : ℕ) → 2 ≤ n → (items : Expr) (local : List ℕ) (lets : List Clause)
    (args : List Expr) → Fine n items → Every (FineClause n) lets → Every (Fine 1) args →
    Fine (suc n) (applied items (local_name local) lets args)
unfolding applied
fine_applied n l items local lets args h i j =
    fine_flow n (items_let items) (count_let ∷ (lets ++ in_turn the_items ∷ []))
    (in_its_place (local_name local) args)
    (more (fine_items_let n items h)
    (more (fine_let n count_name (count_of items_name) (higher n l (fine_count items_name)))
    (joined_all (FineClause n) lets (in_turn the_items ∷ []) i
    (more (fine_in_turn n the_items (fine_the_items n (omega arith))) none))))
    (higher n l (fine_in_place local args j))

-- what templates are applied to
fine_children : Fine 1 children
unfolding is_regular_test
fine_children = fine_step Child Node refl

pub fine_from : (s : Sight) (e : Expr) → Fine 1 e → Fine 2 (from_focus s e)
fine_from named e h = fine_slash 1 the_item e (fine_variable item_name) h
fine_from focused e h = higher 2 (omega arith) h
fine_from absent e h = higher 2 (omega arith) h

pub fine_selection : (b n : ℕ) → suc b ≤ n → 2 ≤ n → (carry : Carry) → CarriesTo b carry → (p : Place)
    (select : Option Expr) → if_leaf select ≡ true → Fine n (selection carry p select)
unfolding if_leaf
fine_selection b n l m carry carries p None h = higher n m (fine_from (sight_at p) children fine_children)
fine_selection b n l m carry carries p (Some e) h =
    higher n l (fine_nodes b (carry e) (carries e h))

pub fine_with_given : (n : ℕ) → 2 ≤ n → (t : Table) (p : Place) (given : List BoundAt) (local : List ℕ) →
    Every (FineClause n) (given_lets t p given) → Fine (suc n) (with_given t p given (local_name local))
fine_with_given n l t p given local h =
    fine_flow_or_body n (given_lets t p given) (at_focus (local_name local) (passed_arguments t p given)) h
    (higher n l (fine_at_focus local (passed_arguments t p given) (fine_arguments t p given)))

-- the rules that are built in, and those of the stylesheet
fine_leaf_node : Fine 3 is_leaf_node
unfolding is_regular_type is_regular_item is_regular_test is_named is_kind_name
fine_leaf_node =
    fine_or 2 _ _ [] (more (fine_kind the_item _ refl (fine_variable item_name))
    (more (fine_kind the_item _ refl (fine_variable item_name)) none))

pub no_if_nothing : NoIf nothing
no_if_nothing = ap (λ f. f.is_if) (regular_expr_rolled (Comma []))

fine_leaf_text : Fine 4 (if_of is_leaf_node own_text nothing)
fine_leaf_text =
    fine_if_many 3 (arm_of (is_leaf_node, own_text)) [] nothing
    (more (fine_arm 3 is_leaf_node own_text fine_leaf_node
    (fine_text_node 2 (string_of the_item) (fine_string 1 the_item (fine_variable item_name)))) none)
    (higher 3 (omega arith) fine_nothing) no_if_nothing

pub fine_built_in : (ps : List Param) (mode : ℕ) → Fine 5 (built_in ps mode)
fine_built_in ps mode =
    fine_comma 4 _
    (more (higher 4 (omega arith) (fine_applied 2 (omega arith) (from_focus named children) _ []
    (same_arguments ps) (fine_from named children fine_children) none (fine_same 1 ps)))
    (more fine_leaf_text none))

-- places of rules with their tests
pub data FineTests (n : ℕ) : List (ℕ × Expr) → Type 0 where
  no_tests : FineTests n []
  one_test : {r : ℕ × Expr} {rs : List (ℕ × Expr)} (test : Fine n r.1) (rest : FineTests n rs) →
      FineTests n (r ∷ rs)

fine_rule_arms : (n : ℕ) → 2 ≤ n → (ps : List Param) (mode : ℕ) (rs : List (ℕ × Expr)) →
    FineTests n rs → Every (FineArm n) (rule_arms ps mode rs)
fine_rule_arms n l ps mode [] no_tests = none
fine_rule_arms n l ps mode (r ∷ rs) (one_test h rest) =
    more (fine_arm n r.1 _ h (higher n l (fine_at_focus _ (same_arguments ps) (fine_same 1 ps))))
    (fine_rule_arms n l ps mode rs rest)

pub fine_first_that_matches : (n : ℕ) → 5 ≤ n → (ps : List Param) (mode : ℕ) (rs : List (ℕ × Expr)) →
    FineTests n rs → Fine (suc n) (first_that_matches ps mode rs)
fine_first_that_matches n l ps mode rs h =
    fine_chain n (rule_arms ps mode rs) (built_in ps mode)
    (fine_rule_arms n (omega arith) ps mode rs h) (higher n l (fine_built_in ps mode))
