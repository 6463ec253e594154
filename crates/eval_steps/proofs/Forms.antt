-- The equations of single forms, and of loops over their parts.
use Rattle.std.proofs.Common.{◌≡◌, ℕ, ◌+◌, ◌-◌, ◌<◌, ◌≤◌, refl, ap, sym, ◌∙◌, List, [], ◌∷◌, map}
use Rattle.std.proofs.Common.{take, drop, length, get_or, suc, zero, add-one, drop-cons, arith}
use Rattle.std.proofs.Common.{rules}
use Rattle.std.specs.Prelude.{Bool, true, false, Option, Result, Ok, Err}
use Rattle.std.specs.Prelude.{option_map}
use Rattle.std.specs.Bool.{beq}
use Rattle.xt_names.specs.declared.codes.Code.{Code}
use Rattle.xt_names.specs.declared.names.ExprName.{ExprName}
use Rattle.xt_syntax.specs.declared.exprs.Expr.{Expr}
use Rattle.xt_syntax.specs.declared.exprs.Arm.{Arm}
use Rattle.xt_syntax.specs.declared.exprs.Bind.{Bind}
use Rattle.xt_syntax.specs.declared.exprs.Order.{Order}
use Rattle.xt_syntax.specs.declared.exprs.DirectAttr.{DirectAttr}
use Rattle.xt_syntax.specs.declared.exprs.Flwor.{Flwor as FlworOf}
use Rattle.xt_syntax.specs.declared.exprs.Expr.TheVariants.{Var, Call, Flwor, rolls-Var, rolls-Call}
use Rattle.xt_syntax.specs.declared.exprs.Expr.TheVariants.{rolls-Flwor}
use Rattle.xt_syntax.specs.declared.exprs.Clause.TheVariants.{For, Let, rolls-For, rolls-Let}
use Rattle.xt_syntax.specs.declared.exprs.Clause.TheFolds.{fold-roll-Expr, fold-roll-Clause}
use Rattle.xt_syntax.specs.declared.exprs.Clause.TheViews.{out-Arm, out-Bind, out-Order}
use Rattle.xt_syntax.specs.declared.exprs.Clause.TheViews.{out-DirectAttr, out-Flwor, the_lemmas}
use Rattle.xt_syntax.specs.declared.exprs.Clause.TheFolds.{fold_out-Arm, fold_out-Bind}
use Rattle.xt_syntax.specs.declared.exprs.Clause.TheFolds.{fold_out-Order, fold_out-DirectAttr}
use Rattle.xt_syntax.specs.declared.exprs.Clause.TheFolds.{fold_out-Flwor}
use Rattle.xdm_items.specs.declared.items.Item.{Item}
use Rattle.expr_meaning.specs.Outcomes.Outcome.{Outcome, Ends, Fails, and_then, step_outcome}
use Rattle.expr_meaning.specs.Outcomes.Outcome.{Deep as NoCallLeft}
use Rattle.expr_meaning.specs.Env.{Binding, Env, Meaning, Program, bind, at_focus}
use Rattle.expr_meaning.specs.Logic.{Bound, truth_at, unless, first_of, choice_of, either_of}
use Rattle.expr_meaning.specs.Logic.{item_decides, quantified, typed}
use Rattle.expr_meaning.specs.Paths.{kept, kept_in_turn, kept_item, kept_at, alone_if}
use Rattle.expr_meaning.specs.Paths.{step_items, step_of}
use Rattle.eval_lates.specs.LazySeq.Orders.{in_document_order}
use Rattle.xt_types.specs.declared.axes.Axis.{Axis}
use Rattle.xt_types.specs.declared.types.SeqType.{SeqType}
use Rattle.xt_types.specs.declared.node_tests.Test.{Test}
use Rattle.expr_meaning.specs.Flow.{let_clause}
use Rattle.expr_meaning.specs.Making.{attribute_text, direct_attribute}
use Rattle.expr_meaning.specs.Making.{literal_node}
use Rattle.expr_meaning.specs.Meaning.{outcome, placed_clause}
use Rattle.expr_meaning.specs.Values.{variable, of_focus}
use Rattle.expr_meaning.specs.Calls.{call_of}
use Rattle.eval_lates.specs.EvalScopes.declared.faults.EvalFault.{EvalFault}
use Rattle.eval_lates.specs.EvalScopes.declared.faults.EvalFault.TheVariants as fault
use Rattle.eval_lates.specs.EvalScopes.Answers.{IsFaultOf}
use Rattle.eval_steps.specs.Parts.{arm_outcome, bind_outcome, order_outcome, attr_outcome}
use Rattle.eval_steps.specs.Parts.{part_outcome, clause_outcome, flwor_outcome}
use Rattle.eval_steps.specs.Sizes.{nodes, arm_nodes, bind_nodes, order_nodes, attr_nodes}
use Rattle.eval_steps.specs.Sizes.{part_nodes, clause_nodes, flwor_nodes, or_0}
use Rattle.eval_steps.specs.Lists.{first_bound}
use Rattle.eval_steps.specs.Steps.{alone, bound_outcome, key_of_tuple}
use Rattle.xt_tree.specs.declared.trees.Tree.TheVariants.{Attr}
use Rattle.xt_atoms.specs.Casts.{wrong_type}
use Rattle.order_group.specs.Rows.{Cell}
use Rattle.expr_meaning.specs.SortMeaning.Sorted.{Placed, key_cell}
use Rattle.eval_steps.proofs.Follow.{fault_first}
use Rattle.xt_names.specs.Lists.{total}

-- an element has no more nodes than its list
pub within : {A : Type 0} (f : A → ℕ) (xs : List A) (i : ℕ) (x d : A) → i < length xs →
    x ≡ get_or xs i d → f x ≤ total (map f xs)
within f [] i x d h e = absurd (omega arith)
within f (y ∷ ys) zero x d h e = let s : f x ≡ f y = ap f e in omega (arith, s)
within f (y ∷ ys) (suc i) x d h e = omega (arith, within f ys i x d (omega arith) e)

pub arm_count : (a : Arm) → arm_nodes a ≡ 1 + (nodes (out-Arm a).test + nodes (out-Arm a).then)
arm_count a = search (rules, the_lemmas, fold_out-Arm)

pub bind_count : (b : Bind) → bind_nodes b ≡ 1 + nodes (out-Bind b).source
bind_count b = search (rules, the_lemmas, fold_out-Bind)

pub order_count : (o : Order) → order_nodes o ≡ 1 + nodes (out-Order o).key
order_count o = search (rules, the_lemmas, fold_out-Order)

pub attr_count : (a : DirectAttr) →
    attr_nodes a ≡ 1 + total (map part_nodes (out-DirectAttr a).parts)
attr_count a = search (rules, the_lemmas, fold_out-DirectAttr)

pub flwor_count : (f : FlworOf) → flwor_nodes f
    ≡ 1 + (total (map clause_nodes (out-Flwor f).clauses)
    + (or_0 (option_map nodes (out-Flwor f).test)
    + (total (map order_nodes (out-Flwor f).orders) + nodes (out-Flwor f).body)))
flwor_count f = search (rules, the_lemmas, fold_out-Flwor)

pub for_count : (b : Bind) (at : Option ExprName) → clause_nodes (For b at) ≡ 1 + bind_nodes b
for_count b at =
    ap clause_nodes (sym (rolls-For b at))
    ∙ fold-roll-Clause _ _ _ _ _ _ _ _ _ _ _ _ _ _ _ _ _ _ _

pub let_count : (b : Bind) → clause_nodes (Let b) ≡ 1 + bind_nodes b
let_count b =
    ap clause_nodes (sym (rolls-Let b))
    ∙ fold-roll-Clause _ _ _ _ _ _ _ _ _ _ _ _ _ _ _ _ _ _ _

pub arm_means : (p : Program) (a : Arm) →
    arm_outcome p a ≡ (outcome p (out-Arm a).test, outcome p (out-Arm a).then)
arm_means p a = search (rules, the_lemmas, fold_out-Arm)

pub bind_means : (p : Program) (b : Bind) → bind_outcome p b ≡ record {
  var = (out-Bind b).var;
  kind = (out-Bind b).kind;
  source = outcome p (out-Bind b).source;
}
bind_means p b = search (rules, the_lemmas, fold_out-Bind)

pub order_means : (p : Program) (o : Order) →
    order_outcome p o ≡ (outcome p (out-Order o).key, (out-Order o).descending)
order_means p o = search (rules, the_lemmas, fold_out-Order)

pub attr_means : (p : Program) (a : DirectAttr) →
    attr_outcome p a ≡ ((out-DirectAttr a).name, map (part_outcome p) (out-DirectAttr a).parts)
attr_means p a = search (rules, the_lemmas, fold_out-DirectAttr)

pub no_items : {A : Type 0} (xs : List A) → length xs < 1 → xs ≡ []
no_items [] h = refl
no_items (x ∷ xs) h = absurd (omega arith)

take_whole : {A : Type 0} (xs : List A) → take (length xs) xs ≡ xs
take_whole [] = refl
take_whole (x ∷ xs) = ap (λ ys. x ∷ ys) (take_whole xs)

pub only_one : {A : Type 0} (xs : List A) (x d : A) → 1 ≤ length xs → length xs < 2 →
    x ≡ get_or xs 0 d → xs ≡ x ∷ []
only_one [] x d h l e = absurd (omega arith)
only_one (y ∷ []) x d h l e = ap (λ z. z ∷ []) (sym e)
only_one (y ∷ z ∷ zs) x d h l e = absurd (omega arith)

pub first_and_rest : {A : Type 0} (xs : List A) (x d : A) → 1 ≤ length xs → x ≡ get_or xs 0 d →
    xs ≡ x ∷ take (length xs - 1) (drop 1 xs)
first_and_rest [] x d h e = absurd (omega arith)
first_and_rest (y ∷ ys) x d h e =
    let m : suc (length ys) - 1 ≡ length ys = omega arith in
    rw (m, take_whole ys) (ap (λ z. z ∷ ys) (sym e))

-- one more truth value of `or` and `and`
module _ (p : Program) (decisive : Bool) (all : List Expr) (i : ℕ) (a d : Expr) (env : Env) (k : ℕ)
    (o : Outcome Bool) (lt : i < length all) (is : a ≡ get_or all i d)
    (inv : first_of decisive (map (outcome p) (drop i all)) env k ≡ o) where
  next_truth : first_of decisive (map (outcome p) (drop i all)) env k
      ≡ and_then (truth_at (outcome p a) env k)
      (unless decisive (first_of decisive (map (outcome p) (drop (i + 1) all)) env))
  next_truth = rw (drop-cons all i d lt, ← is, add-one) refl

  pub truth_fault : (g : EvalFault) → IsFaultOf g (truth_at (outcome p a) env k) → IsFaultOf g o
  truth_fault g h = rw (← inv, next_truth) (fault_first g (truth_at (outcome p a) env k) _ h)

  pub truth_decides : (t : Bool) (j : ℕ) → truth_at (outcome p a) env k ≡ Ends t j →
      beq t decisive ≡ true → o ≡ Ends t j
  truth_decides t j m h = rw (← inv, next_truth, m, h) refl

  pub truth_passes : (t : Bool) (j : ℕ) → truth_at (outcome p a) env k ≡ Ends t j →
      beq t decisive ≡ false →
      first_of decisive (map (outcome p) (drop (i + 1) all)) env j ≡ o
  truth_passes t j m h = rw (← inv, next_truth, m, h) refl

-- one more arm
module _ (p : Program) (arms : List Arm) (other : Meaning) (i : ℕ) (a d : Arm) (env : Env) (k : ℕ)
    (o : Outcome (List Item)) (lt : i < length arms) (is : a ≡ get_or arms i d)
    (inv : choice_of (map (arm_outcome p) (drop i arms)) other env k ≡ o) where
  next_arm : choice_of (map (arm_outcome p) (drop i arms)) other env k
      ≡ either_of (outcome p (out-Arm a).test) (outcome p (out-Arm a).then)
      (choice_of (map (arm_outcome p) (drop (i + 1) arms)) other) env k
  next_arm = rw (drop-cons arms i d lt, ← is, arm_means p a, add-one) refl

  pub arm_fault : (g : EvalFault) → IsFaultOf g (truth_at (outcome p (out-Arm a).test) env k) →
      IsFaultOf g o
  arm_fault g h =
      rw (← inv, next_arm) (fault_first g (truth_at (outcome p (out-Arm a).test) env k) _ h)

  pub arm_true : (j : ℕ) → truth_at (outcome p (out-Arm a).test) env k ≡ Ends true j →
      o ≡ outcome p (out-Arm a).then env j
  arm_true j m = rw (← inv, next_arm, m) refl

  pub arm_false : (j : ℕ) → truth_at (outcome p (out-Arm a).test) env k ≡ Ends false j →
      choice_of (map (arm_outcome p) (drop (i + 1) arms)) other env j ≡ o
  arm_false j m = rw (← inv, next_arm, m) refl

kind_is : (p : Program) (b : Bind) → (bind_outcome p b).kind ≡ (out-Bind b).kind
kind_is p b = ap (λ (m : Bound). m.kind) (bind_means p b)

var_is : (p : Program) (b : Bind) → (bind_outcome p b).var ≡ (out-Bind b).var
var_is p b = ap (λ (m : Bound). m.var) (bind_means p b)

source_is : (p : Program) (b : Bind) →
    (bind_outcome p b).source ≡ outcome p (out-Bind b).source
source_is p b = ap (λ (m : Bound). m.source) (bind_means p b)

-- what goes on from a value goes on from the variable that has it
from_value : {B : Type 0} (name : ExprName) (value : Result (List Item) Code) (k : ℕ)
    (go : Binding → ℕ → Outcome B) →
    and_then (step_outcome value k) (λ ys. go (name, ys))
    ≡ and_then (bound_outcome name value k) go
from_value name (Ok xs) k go = refl
from_value name (Err code) k go = refl

abbrev bound_at : Binding → Env → Env
bound_at b env = bind b.0 b.1 env

by_variable : {kind same_kind : Option SeqType} {var same_var : ExprName} → kind ≡ same_kind →
    var ≡ same_var → (rest : Env → ℕ → Outcome Bool) (go : Bool → ℕ → Outcome Bool) (x : Item)
    (env : Env) (k : ℕ) →
    and_then (step_outcome (typed kind (x ∷ [])) k) (λ ys j. and_then (rest (bind var ys env) j) go)
    ≡ and_then (bound_outcome same_var (typed same_kind (x ∷ [])) k)
    (λ b j. and_then (rest (bound_at b env) j) go)
by_variable {kind} {same_kind} {var} {same_var} e f rest go x env k =
    rw (e, f) (from_value same_var (typed same_kind (x ∷ [])) k
    (λ b j. and_then (rest (bound_at b env) j) go))

-- a value is no fault, unless memory ran out
not_ended : {A B : Type 0} (g : EvalFault) (v : A) (k : ℕ) (o : Outcome B) →
    IsFaultOf g (Ends v k) → IsFaultOf g o
not_ended (fault.Error code) v k o h = absurd cc
not_ended fault.Deep v k o h = absurd cc
not_ended (fault.Memory e) v k o h = tt

same_fault : {A B : Type 0} (f : A → B) (g : EvalFault) (o : Outcome A) →
    IsFaultOf g (and_then o (λ v j. Ends (f v) j)) → IsFaultOf g o
same_fault f (fault.Error code) (Ends v k) h = absurd cc
same_fault f (fault.Error code) (Fails other) h = cc
same_fault f (fault.Error code) NoCallLeft h = absurd cc
same_fault f fault.Deep (Ends v k) h = absurd cc
same_fault f fault.Deep (Fails other) h = absurd cc
same_fault f fault.Deep NoCallLeft h = refl
same_fault f (fault.Memory e) o h = tt

-- one more item of a quantifier's binding
module _ (p : Program) (decisive : Bool) (clause : Bind) (rest : Env → ℕ → Outcome Bool) (env : Env)
    (k : ℕ) (o : Outcome Bool) where
  abbrev bound : Item → ℕ → Outcome Binding
  bound x j = bound_outcome (out-Bind clause).var (typed (out-Bind clause).kind (x ∷ [])) j

  next_turn : (before after : List Item) (x : Item) → before ≡ x ∷ after →
      item_decides decisive (bind_outcome p clause) rest env before k
      ≡ and_then (bound x k) (λ b j. and_then (rest (bound_at b env) j)
      (unless decisive (item_decides decisive (bind_outcome p clause) rest env after)))
  next_turn before after x e =
      rw e (by_variable (kind_is p clause) (var_is p clause) rest
      (unless decisive (item_decides decisive (bind_outcome p clause) rest env after)) x env k)

  pub turn_value_fault : (before : List Item) (g : EvalFault) →
      item_decides decisive (bind_outcome p clause) rest env before k ≡ o →
      IsFaultOf g (first_bound bound before k) → IsFaultOf g o
  turn_value_fault [] g inv h = not_ended {A = List Binding} g [] k o h
  turn_value_fault (x ∷ xs) g inv h =
      rw (← inv, next_turn (x ∷ xs) xs x refl) (fault_first g (bound x k) _
      (same_fault (λ (b : Binding). b ∷ []) g (bound x k) h))

  module _ (before after : List Item) (x : Item) (b : Binding) (e : before ≡ x ∷ after)
      (inv : item_decides decisive (bind_outcome p clause) rest env before k ≡ o)
      (value : bound x k ≡ Ends b k) where
    pub turn_rest_fault : (g : EvalFault) → IsFaultOf g (rest (bound_at b env) k) → IsFaultOf g o
    turn_rest_fault g h =
        rw (← inv, next_turn before after x e, value) (fault_first g (rest (bound_at b env) k) _ h)

    pub turn_decided : (t : Bool) (j : ℕ) → rest (bound_at b env) k ≡ Ends t j →
        beq t decisive ≡ true → o ≡ Ends t j
    turn_decided t j m h = rw (← inv, next_turn before after x e, value, m, h) refl

    pub turn_passed : (t : Bool) (j : ℕ) → rest (bound_at b env) k ≡ Ends t j →
        beq t decisive ≡ false →
        item_decides decisive (bind_outcome p clause) rest env after j ≡ o
    turn_passed t j m h = rw (← inv, next_turn before after x e, value, m, h) refl

pub same_truth : (a b : Bool) → beq a b ≡ true → a ≡ b
same_truth true true h = refl
same_truth true false h = absurd cc
same_truth false true h = absurd cc
same_truth false false h = refl

-- one more predicate
module _ (p : Program) (tests : List Expr) (i : ℕ) (a d : Expr) (env : Env) (xs : List Item) (k : ℕ)
    (o : Outcome (List Item)) (lt : i < length tests) (is : a ≡ get_or tests i d)
    (inv : kept_in_turn (map (outcome p) (drop i tests)) env xs k ≡ o) where
  next_test : kept_in_turn (map (outcome p) (drop i tests)) env xs k
      ≡ and_then (kept (outcome p a) env xs k)
      (kept_in_turn (map (outcome p) (drop (i + 1) tests)) env)
  next_test = rw (drop-cons tests i d lt, ← is, add-one) refl

  pub test_fault : (g : EvalFault) → IsFaultOf g (kept (outcome p a) env xs k) → IsFaultOf g o
  test_fault g h = rw (← inv, next_test) (fault_first g (kept (outcome p a) env xs k) _ h)

  pub test_kept : (ys : List Item) (j : ℕ) → kept (outcome p a) env xs k ≡ Ends ys j →
      kept_in_turn (map (outcome p) (drop (i + 1) tests)) env ys j ≡ o
  test_kept ys j m = rw (← inv, next_test, m) refl

-- an attribute of a direct element
module _ (p : Program) (a : DirectAttr) (env : Env) (k : ℕ) where
  pub attribute_made : (text : List ℕ) (j : ℕ) →
      attribute_text (map (part_outcome p) (out-DirectAttr a).parts) env k ≡ Ends text j →
      direct_attribute env (attr_outcome p a) k
      ≡ Ends (literal_node (Attr (out-DirectAttr a).name text) ∷ []) j
  attribute_made text j h = rw (attr_means p a, h) refl

  pub attribute_fault : (g : EvalFault) →
      IsFaultOf g (attribute_text (map (part_outcome p) (out-DirectAttr a).parts) env k) →
      IsFaultOf g (direct_attribute env (attr_outcome p a) k)
  attribute_fault g h = rw (attr_means p a) (fault_first g _ _ h)

-- a key of a tuple
module _ (p : Program) (o : Order) (env : Env) (k : ℕ) where
  pub key_fault : (g : EvalFault) → IsFaultOf g (outcome p (out-Order o).key env k) →
      IsFaultOf g (key_of_tuple env (order_outcome p o) k)
  key_fault g h = rw (order_means p o) (fault_first g _ _ h)

  pub key_value_fault : (g : EvalFault) (xs : List Item) (j : ℕ) →
      outcome p (out-Order o).key env k ≡ Ends xs j →
      IsFaultOf g (step_outcome (key_cell wrong_type xs) j) →
      IsFaultOf g (key_of_tuple env (order_outcome p o) k)
  key_value_fault g xs j m h = rw (order_means p o, m) (fault_first g _ _ h)

  pub key_made : (xs : List Item) (j : ℕ) (cell : Cell) →
      outcome p (out-Order o).key env k ≡ Ends xs j →
      step_outcome (key_cell wrong_type xs) j ≡ Ends cell j →
      key_of_tuple env (order_outcome p o) k ≡ Ends (cell ∷ []) j
  key_made xs j cell m h = rw (order_means p o, m, h) refl

-- forms whose meaning is not found by unrolling alone
pub var_means : (p : Program) (name : ExprName) → outcome p (Var name) ≡ variable p name
var_means p name =
    ap (outcome p) (sym (rolls-Var name))
    ∙ fold-roll-Expr _ _ _ _ _ _ _ _ _ _ _ _ _ _ _ _ _ _ _

pub call_means : (p : Program) (name : ExprName) (args : List Expr) →
    outcome p (Call name args) ≡ call_of p name (map (outcome p) args)
call_means p name args =
    ap (outcome p) (sym (rolls-Call name args))
    ∙ fold-roll-Expr _ _ _ _ _ _ _ _ _ _ _ _ _ _ _ _ _ _ _

pub flow_means : (p : Program) (parts : FlworOf) →
    outcome p (Flwor parts) ≡ flwor_outcome p parts
flow_means p parts =
    ap (outcome p) (sym (rolls-Flwor parts))
    ∙ fold-roll-Expr _ _ _ _ _ _ _ _ _ _ _ _ _ _ _ _ _ _ _

pub for_means : (p : Program) (b : Bind) (at : Option ExprName) →
    clause_outcome p (For b at) ≡ placed_clause (bind_outcome p b) at
for_means p b at =
    ap (clause_outcome p) (sym (rolls-For b at))
    ∙ fold-roll-Clause _ _ _ _ _ _ _ _ _ _ _ _ _ _ _ _ _ _ _

pub let_means : (p : Program) (b : Bind) →
    clause_outcome p (Let b) ≡ let_clause (bind_outcome p b)
let_means p b =
    ap (clause_outcome p) (sym (rolls-Let b))
    ∙ fold-roll-Clause _ _ _ _ _ _ _ _ _ _ _ _ _ _ _ _ _ _ _

alone_ends : (x : Item) (t : Bool) (k : ℕ) → alone_if x t k ≡ Ends (alone x t) k
alone_ends x true k = refl
alone_ends x false k = refl

-- a predicate at an item
module _ (test : Meaning) (env : Env) (f : Placed Item) (k : ℕ) where
  pub kept_fault : (g : EvalFault) → IsFaultOf g (test (at_focus env f) k) →
      IsFaultOf g (kept_item test env f k)
  kept_fault g h = fault_first g (test (at_focus env f) k) _ h

  pub kept_value_fault : (g : EvalFault) (xs : List Item) (j : ℕ) →
      test (at_focus env f) k ≡ Ends xs j → IsFaultOf g (step_outcome (kept_at f.place xs) j) →
      IsFaultOf g (kept_item test env f k)
  kept_value_fault g xs j e h = rw e (fault_first g (step_outcome (kept_at f.place xs) j) _ h)

  pub kept_made : (xs : List Item) (j : ℕ) (t : Bool) (i : ℕ) →
      test (at_focus env f) k ≡ Ends xs j →
      step_outcome (kept_at f.place xs) j ≡ Ends t i →
      kept_item test env f k ≡ Ends (alone f.value t) i
  kept_made xs j t i e h = rw (e, h) (alone_ends f.value t i)

-- the bindings of a quantifier, the first outermost
pub first_bind : (p : Program) (decisive : Bool) (clause : Bind) (rest : List Bound)
    (test : Meaning)
    (env : Env) (k : ℕ) →
    quantified decisive (bind_outcome p clause ∷ rest) test env k
    ≡ and_then (outcome p (out-Bind clause).source env k)
    (item_decides decisive (bind_outcome p clause) (quantified decisive rest test) env)
first_bind p decisive clause rest test env k =
    ap (λ (m : Meaning). and_then (m env k)
    (item_decides decisive (bind_outcome p clause) (quantified decisive rest test) env))
    (source_is p clause)

-- a step, and then its predicates
module _ (axis : Axis) (wanted : Test) (tests : List Meaning) (env : Env) (k : ℕ) where
  abbrev from_here : Outcome (List Item)
  from_here = step_outcome (of_focus (λ f. step_items axis wanted f.value) env.focus) k

  pub step_fault : (g : EvalFault) → IsFaultOf g from_here →
      IsFaultOf g (step_of axis wanted tests env k)
  step_fault g h = fault_first g from_here _ h

  pub step_kept_fault : (g : EvalFault) (xs : List Item) (j : ℕ) → from_here ≡ Ends xs j →
      IsFaultOf g (kept_in_turn tests env xs j) → IsFaultOf g (step_of axis wanted tests env k)
  step_kept_fault g xs j e h = rw e (fault_first g (kept_in_turn tests env xs j) _ h)

  pub step_made : (xs : List Item) (j : ℕ) (ys : List Item) (i : ℕ) → from_here ≡ Ends xs j →
      kept_in_turn tests env xs j ≡ Ends ys i →
      step_of axis wanted tests env k ≡ Ends (in_document_order ys) i
  step_made xs j ys i e h = rw (e, h) refl
