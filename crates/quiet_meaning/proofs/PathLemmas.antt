-- What expressions give in quiet predicates, form by form.
use Rattle.std.proofs.Common.{◌≡◌, ℕ, ℤ, List, [], ◌∷◌, map, refl, sym, Bool, true, false, subst}
use Rattle.std.specs.Prelude.{if◌then◌else◌, not}
use Rattle.std.specs.List.{list_all}
use Rattle.xt_names.specs.declared.kinds.CompareOp.{CompareOp}
use Rattle.xt_types.specs.declared.axes.Axis.{Axis}
use Rattle.xt_types.specs.declared.node_tests.Test.{Test}
use Rattle.xt_syntax.specs.declared.exprs.Expr.{Expr}
use Rattle.xt_syntax.specs.declared.exprs.Arm.{Arm}
use Rattle.xt_syntax.specs.declared.exprs.Clause.{Clause}
use Rattle.xt_syntax.specs.declared.exprs.Flwor.{Flwor as FlworOf}
use Rattle.xt_syntax.specs.declared.exprs.Order.{Order}
use Rattle.xt_syntax.specs.declared.exprs.Bind.{Bind}
use Rattle.xt_syntax.specs.declared.exprs.NameSource.{NameSource}
use Rattle.xt_syntax.specs.declared.exprs.DirectAttr.{DirectAttr}
use Rattle.xt_syntax.specs.declared.exprs.Part.{Part}
use Rattle.xt_syntax.specs.declared.exprs.Clause.TheOpen.{Expr-F, Or, And, General, Slash, Step, Call}
use Rattle.xt_forms.specs.Quiet.{quiet_call}
use Rattle.xt_forms.specs.declared.quiet_calls.QuietCall.{QuietCall}
use Rattle.xt_forms.specs.declared.quiet_calls.QuietCall.TheVariants as call
use Rattle.node_axes.specs.StepWalks.Nodes.{Nodes, step_nodes}
use Rattle.node_axes.proofs.StepWalks.NodeLemmas.{Stays, slash_within, step_within}
use Rattle.quiet_meaning.specs.Quietly.{Quietly, integer, literal, position, last, attribute, step, path, condition, conjunction, other, quietly_of, holds_at, is_truth, is_predicate, any_of, all_of, holds_all, is_conjunction, is_attribute_name, stepped, slashed, with_step, compared, compared_with_integer, compared_with_literal, compared_with_last, negated, some_in, counted, called, called_with, call_gives}
use Rattle.quiet_meaning.proofs.FormLemmas.{gives_quietly, rolled_quietly, each_expr}
use Rattle.quiet_meaning.specs.Paths.{is_path_form, nodes_of_form}

abbrev pub Layer : Type 0
Layer = Expr-F Clause Expr NameSource Part Arm Bind DirectAttr FlworOf Order

-- no path leads out of the tree

stays_with : (g : Nodes) (a : Quietly) → Stays (nodes_of_form (with_step g a))
unfolding with_step nodes_of_form
stays_with g (attribute h) = λ n. slash_within h g n
stays_with g (step h) = λ n. slash_within h g n
stays_with g (path h) = λ n. slash_within h g n
stays_with g a = λ n. tt

stays_slashed : (a b : Quietly) → Stays (nodes_of_form (slashed a b))
unfolding slashed nodes_of_form
stays_slashed a (attribute g) = stays_with g a
stays_slashed a (step g) = stays_with g a
stays_slashed a b = λ n. tt

stays_if : (b : Bool) (x y : Quietly) → Stays (nodes_of_form x) → Stays (nodes_of_form y) → Stays (nodes_of_form (if b then x else y))
stays_if true x y s t = s
stays_if false x y s t = t

stays_stepped : (along : Axis) (wanted : Test) (qs : List Quietly) → Stays (nodes_of_form (stepped along wanted qs))
unfolding nodes_of_form
stays_stepped along wanted qs =
    stays_if (is_attribute_name along wanted qs) _ _ (λ n. step_within along wanted [] n)
    (stays_if (list_all is_predicate qs) (step (step_nodes along wanted (map holds_at qs))) other (λ n. step_within along wanted (map holds_at qs) n) (λ n. tt))

-- what is no path leads nowhere
pub no_nodes : (q : Quietly) → is_path_form q ≡ false → Stays (nodes_of_form q)
unfolding is_path_form nodes_of_form
no_nodes (attribute g) e = absurd cc
no_nodes (step g) e = absurd cc
no_nodes (path g) e = absurd cc
no_nodes q e = λ n. tt

if_no_path : (b : Bool) (x y : Quietly) → is_path_form x ≡ false → is_path_form y ≡ false → is_path_form (if b then x else y) ≡ false
if_no_path true x y e f = e
if_no_path false x y e f = f

pub any_no_path : (qs : List Quietly) → is_path_form (any_of qs) ≡ false
unfolding is_path_form
any_no_path qs = if_no_path (list_all is_truth qs) _ _ refl refl

pub all_no_path : (qs : List Quietly) → is_path_form (all_of qs) ≡ false
unfolding is_path_form
all_no_path qs = if_no_path (list_all is_truth qs) _ _ refl (if_no_path (is_conjunction qs) (conjunction (holds_all qs)) other refl refl)

integer_no_path : (op : CompareOp) (k : ℤ) (a : Quietly) → is_path_form (compared_with_integer op k a) ≡ false
unfolding compared_with_integer is_path_form
integer_no_path op k position = refl
integer_no_path op k a = refl

literal_no_path : (op : CompareOp) (t : List ℕ) (a : Quietly) → is_path_form (compared_with_literal op t a) ≡ false
unfolding compared_with_literal is_path_form
literal_no_path op t position = refl
literal_no_path op t a = refl

last_no_path : (op : CompareOp) (a : Quietly) → is_path_form (compared_with_last op a) ≡ false
unfolding compared_with_last is_path_form
last_no_path op position = refl
last_no_path op a = refl

pub compared_no_path : (op : CompareOp) (a b : Quietly) → is_path_form (compared op a b) ≡ false
unfolding compared is_path_form
compared_no_path op a (integer n) = integer_no_path op n a
compared_no_path op a (literal t) = literal_no_path op t a
compared_no_path op a last = last_no_path op a
compared_no_path op a b = refl

some_no_path : (exists : Bool) (a : Quietly) → is_path_form (some_in exists a) ≡ false
unfolding some_in is_path_form
some_no_path exists position = refl
some_no_path exists a = refl

count_no_path : (a : Quietly) → is_path_form (counted a) ≡ false
unfolding counted is_path_form
count_no_path position = refl
count_no_path a = refl

not_no_path : (a : Quietly) → is_path_form (negated a) ≡ false
unfolding is_path_form
not_no_path a = if_no_path (is_truth a) (condition (λ f. not (holds_at a f))) other refl refl

called_no_path : (f : QuietCall) (local : List ℕ) → is_path_form (called f local) ≡ false
unfolding called is_path_form
called_no_path call.Constant local = refl
called_no_path f local = refl

with_no_path : (f : QuietCall) (local : List ℕ) (a : Quietly) → is_path_form (called_with f local a) ≡ false
unfolding called_with is_path_form
with_no_path call.Not local a = not_no_path a
with_no_path call.Exists local a = some_no_path _ a
with_no_path call.Count local a = count_no_path a
with_no_path f local a = no_other
  where
    no_other : is_path_form other ≡ false
    no_other = refl

pub call_no_path : (f : QuietCall) (local : List ℕ) (qs : List Quietly) → is_path_form (call_gives f local qs) ≡ false
unfolding call_gives is_path_form
call_no_path f local [] = called_no_path f local
call_no_path f local (a ∷ []) = with_no_path f local a
call_no_path f local (a ∷ b ∷ more) = refl

-- by layers

stays_layer : (x : Layer) → Stays (nodes_of_form (gives_quietly x))
unfolding nodes_of_form
stays_layer (Or all) = no_nodes _ (any_no_path (map quietly_of all))
stays_layer (And all) = no_nodes _ (all_no_path (map quietly_of all))
stays_layer (General op a b) = no_nodes _ (compared_no_path op (quietly_of a) (quietly_of b))
stays_layer (Slash a b) = stays_slashed (quietly_of a) (quietly_of b)
stays_layer (Step along wanted tests) = stays_stepped along wanted (map quietly_of tests)
stays_layer (Call name args) = no_nodes _ (call_no_path (quiet_call name) name.local (map quietly_of args))
stays_layer x = λ n. tt

pub stays : (e : Expr) → Stays (nodes_of_form (quietly_of e))
stays = each_expr (λ e. Stays (nodes_of_form (quietly_of e))) (λ x. subst (λ q. Stays (nodes_of_form q)) (sym (rolled_quietly x)) (stays_layer x))
