-- The helper functions have the form that the grammar gives.
use Rattle.std.proofs.Common.{◌≡◌, true, ap}
use Rattle.xt_syntax.specs.declared.exprs.Clause.TheViews.{roll-Expr, roll-NameSource}
use Rattle.xt_types.specs.Regular.{is_regular_test, is_regular_type, is_regular_item}
use Rattle.xt_types.specs.Regular.{is_regular_name_test, is_kind_name, is_named}
use Rattle.xt_forms.specs.Regular.{expr_facts_of, is_bare_name, is_cast_name, is_regular_expr}
use Rattle.xt_forms.specs.Regular.{is_regular_kind, name_facts_of}
use Rattle.carried_exprs.proofs.RegularRolled.{regular_expr_rolled, regular_arm_rolled}
use Rattle.carried_exprs.proofs.RegularRolled.{regular_bind_rolled, regular_clause_rolled}
use Rattle.carried_exprs.proofs.RegularRolled.{regular_expr_value, regular_flwor_rolled}
use Rattle.carried_exprs.proofs.RegularRolled.{regular_name_rolled, regular_name_value}
use Rattle.query_helpers.specs.CopyBody.{copy_body}
use Rattle.query_helpers.specs.LastBody.{last_body}
use Rattle.query_helpers.specs.NodesBody.{nodes_function}
use Rattle.query_helpers.specs.SimpleBody.{simple_body}
use Rattle.expr_laws.proofs.Texts.{ExprForm, NameForm}

-- parts of what is known of a form
pub expr_regular : (x : ExprForm) →
    is_regular_expr (roll-Expr x) ≡ (regular_expr_value x).regular
expr_regular x = ap (λ f. f.regular) (regular_expr_rolled x)

pub expr_if : (x : ExprForm) → (expr_facts_of (roll-Expr x)).is_if ≡ (regular_expr_value x).is_if
expr_if x = ap (λ f. f.is_if) (regular_expr_rolled x)

name_regular : (x : NameForm) →
    (name_facts_of (roll-NameSource x)).regular ≡ (regular_name_value x).regular
name_regular x = ap (λ f. f.regular) (regular_name_rolled x)

name_bare : (x : NameForm) →
    (name_facts_of (roll-NameSource x)).is_bare ≡ (regular_name_value x).is_bare
name_bare x = ap (λ f. f.is_bare) (regular_name_rolled x)

ruleset rolled = (
  expr_regular,
  expr_if,
  name_regular,
  name_bare,
  regular_arm_rolled,
  regular_bind_rolled,
  regular_clause_rolled,
  regular_flwor_rolled,
)

pub nodes_regular : is_regular_expr nodes_function.body ≡ true
nodes_regular = simp rolled

pub copy_regular : is_regular_expr copy_body ≡ true
unfolding is_regular_test is_regular_type is_regular_item is_regular_name_test is_kind_name is_named
    is_cast_name is_bare_name is_regular_kind
copy_regular = simp rolled

pub last_regular : is_regular_expr last_body ≡ true
unfolding is_regular_test is_regular_type is_regular_item is_regular_name_test is_kind_name is_named
    is_cast_name is_regular_kind
last_regular = simp rolled

pub simple_regular : is_regular_expr simple_body ≡ true
unfolding is_regular_test is_regular_type is_regular_item is_regular_name_test is_kind_name is_named
    is_cast_name is_regular_kind
simple_regular = simp rolled
