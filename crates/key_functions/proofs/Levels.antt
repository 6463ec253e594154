-- The function of a key nests eight levels more than its parts.
use Rattle.std.proofs.Common.{◌≡◌, ◌+◌, ◌≤◌, ℕ, max, List, [], ◌∷◌, map, arith}
use Rattle.std.specs.Prelude.{codes}
use Rattle.xt_names.specs.declared.names.ExprName.{ExprName}
use Rattle.xt_forms.specs.Nest.{nest_of}
use Rattle.xt_syntax.specs.declared.exprs.Expr.{Expr}
use Rattle.xt_syntax.specs.declared.exprs.Clause.TheViews.{roll-Expr}
use Rattle.xt_syntax.specs.declared.exprs.Clause.TheOpen.{Comma, Slash}
use Rattle.carried_exprs.specs.Sights.{item_name, key_name, library_call, nothing, the_item}
use Rattle.carried_exprs.specs.Sights.{value_name}
use Rattle.carried_exprs.specs.Sights.{variable_of}
use Rattle.carried_exprs.proofs.NestRolled.{nest_expr_rolled, nest_arm_rolled, nest_bind_rolled}
use Rattle.carried_exprs.proofs.NestRolled.{nest_clause_rolled, nest_flwor_rolled}
use Rattle.query_helpers.specs.Forms.{for_in, if_of, some_in}
use Rattle.key_functions.specs.Bounds.{AreFitParts}
use Rattle.key_functions.specs.KeyBody.{KeyParts, has_value, is_key_value, key_body, listed}
use Rattle.key_functions.specs.KeyBody.{nodes_of_tree, own_values, values_by, values_name}
use Rattle.key_functions.specs.KeyBody.{with_attributes}
use Rattle.xt_names.specs.Lists.{greatest}

-- levels
ruleset nests = (
  nest_expr_rolled,
  nest_arm_rolled,
  nest_bind_rolled,
  nest_clause_rolled,
  nest_flwor_rolled,
)

for_nest : (v : ExprName) (a b : Expr) →
    nest_of (for_in v a b) ≡ 1 + max (max (nest_of a) 0) (max 0 (max 0 (nest_of b)))
for_nest v a b = simp nests

if_nest : (a b c : Expr) →
    nest_of (if_of a b c) ≡ 1 + max (max (max (nest_of a) (nest_of b)) 0) (nest_of c)
if_nest a b c = simp nests

some_nest : (v : ExprName) (a b : Expr) →
    nest_of (some_in v a b) ≡ 1 + max (max (nest_of a) 0) (nest_of b)
some_nest v a b = simp nests

data_nest : (e : Expr) →
    nest_of (roll-Expr (Slash the_item (library_call (codes "data") (e ∷ []))))
    ≡ 1 + max 1 (1 + max (nest_of e) 0)
data_nest e = simp nests

nothing_nest : nest_of nothing ≡ 1
nothing_nest = simp nests

item_nest : nest_of the_item ≡ 1
item_nest = simp nests

tree_nest : nest_of nodes_of_tree ≡ 3
tree_nest = simp nests

with_nest : nest_of with_attributes ≡ 3
with_nest = simp nests

abbrev compared : Expr
compared = some_in value_name (variable_of values_name) is_key_value

compare_nest : nest_of compared ≡ 3
compare_nest = simp nests

listed_nest : (es : List Expr) → nest_of (listed es) ≤ 1 + greatest (map nest_of es)
listed_nest [] = omega (arith, nothing_nest)
listed_nest (e ∷ []) = omega arith
listed_nest (e ∷ f ∷ more) = omega (arith, nest_expr_rolled (Comma (e ∷ f ∷ more)))

module _ (n : ℕ) where
  value_nest : (d : KeyParts) → nest_of d.test ≤ n → nest_of d.value ≤ n →
      nest_of (values_by d) ≤ n + 3
  value_nest d h g =
      omega (
        arith,
        if_nest d.test
            (roll-Expr (Slash the_item (library_call (codes "data") (d.value ∷ [])))) nothing,
        data_nest d.value,
        nothing_nest,
        h,
        g,
      )

  all_nest : (ds : List KeyParts) → AreFitParts n ds →
      greatest (map nest_of (map values_by ds)) ≤ n + 3
  all_nest [] h = omega arith
  all_nest (d ∷ ds) h =
      omega (arith, value_nest d h.0.0.nest h.0.1.nest, all_nest ds h.1)

  pub body_nest : (ds : List KeyParts) → AreFitParts n ds → nest_of (key_body ds) ≤ n + 8
  body_nest ds h =
      let test = if_of (has_value ds) the_item nothing in
      omega (
        arith,
        for_nest item_name nodes_of_tree (for_in item_name with_attributes test),
        for_nest item_name with_attributes test,
        if_nest (has_value ds) the_item nothing,
        some_nest key_name (own_values ds) compared,
        listed_nest (map values_by ds),
        all_nest ds h,
        compare_nest,
        tree_nest,
        with_nest,
        item_nest,
        nothing_nest,
      )
