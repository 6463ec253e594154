-- The function of a key names nothing but what its parts name and its own variables, and fits into a
-- query where its parts do.
use Rattle.std.proofs.Common.{◌≡◌, ◌++◌, ℕ, List, [], ◌∷◌, map, true, refl, ap, ◌∙◌}
use Rattle.xt_names.specs.Classes.{begins_name, is_in_ranges, is_ncname_text, is_xml_text}
use Rattle.xt_names.specs.declared.codes.Code.{Code}
use Rattle.xt_names.specs.declared.names.ExprName.{ExprName}
use Rattle.xt_types.specs.Regular.{is_named, is_regular_item, is_regular_test, is_regular_type}
use Rattle.xt_syntax.specs.declared.exprs.Expr.{Expr}
use Rattle.xt_syntax.specs.declared.exprs.Clause.TheOpen.{Comma}
use Rattle.function_table.specs.Find.{found, found_in, is_doc, is_in_fn, is_known}
use Rattle.function_table.specs.Table.{joined}
use Rattle.name_rules.specs.declared.functions.Signature.{Signature}
use Rattle.name_rules.specs.Broken.{all_in, function_in, names_broken_of, variable_in}
use Rattle.name_rules.specs.Scopes.{may_be_called}
use Rattle.closed_queries.specs.Closed.{is_good_expr, is_good_function, is_good_kind, is_good_param}
use Rattle.closed_queries.specs.Texts.{is_sound_expr_name, is_sound_item, is_sound_test}
use Rattle.closed_queries.specs.Texts.{is_sound_type}
use Rattle.carried_exprs.specs.Sights.{item_name}
use Rattle.query_helpers.proofs.NamesKept.{arm_names, bind_binds, bind_names, clause_binds}
use Rattle.query_helpers.proofs.NamesKept.{clause_names, expr_names, flwor_names}
use Rattle.key_functions.specs.Bounds.{AreFitParts, KeysFit}
use Rattle.key_functions.specs.KeyBody.{KeyParts, key_body, key_function, listed}
use Rattle.key_functions.specs.KeyBody.{values_by, values_name}
use Rattle.key_functions.proofs.FitForms.{body_regular, body_texts}
use Rattle.key_functions.proofs.Levels.{body_nest}

ruleset rolled = (
  expr_names,
  arm_names,
  flwor_names,
  clause_binds,
  clause_names,
  bind_binds,
  bind_names,
)

abbrev scope : List ExprName
scope = item_name ∷ values_name ∷ []

module _ (functions : List Signature) where
  abbrev NamesNothing : Expr → Type 0
  NamesNothing e = names_broken_of functions e scope ≡ []

  value_names : (d : KeyParts) → NamesNothing d.test → NamesNothing d.value →
      NamesNothing (values_by d)
  unfolding variable_in function_in may_be_called is_known found found_in joined is_doc is_in_fn
  value_names d h g = simp (rolled, h, g)

  abbrev all_names : List Expr → List Code
  all_names es = all_in (map (names_broken_of functions) es) scope

  both_none : (xs ys : List Code) → xs ≡ [] → ys ≡ [] → xs ++ ys ≡ []
  both_none xs ys h g = ap (λ z. z ++ ys) h ∙ g

  listed_names : (es : List Expr) → all_names es ≡ [] → NamesNothing (listed es)
  listed_names [] h = simp rolled
  listed_names (e ∷ []) h = front (names_broken_of functions e scope) h
    where
      front : (xs : List Code) → xs ++ [] ≡ [] → xs ≡ []
      front [] i = refl
      front (x ∷ xs) i = absurd cc
  listed_names (e ∷ f ∷ more) h = expr_names functions (Comma (e ∷ f ∷ more)) scope ∙ h

  all_kept : (n : ℕ) (ds : List KeyParts) → AreFitParts n ds → all_names (map values_by ds) ≡ []
  all_kept n [] h = refl
  all_kept n (d ∷ ds) h =
      both_none (names_broken_of functions (values_by d) scope) (all_names (map values_by ds))
      (value_names d (h.0.0.names functions) (h.0.1.names functions)) (all_kept n ds h.1)

  body_names : (n : ℕ) (ds : List KeyParts) → AreFitParts n ds → NamesNothing (key_body ds)
  unfolding variable_in function_in may_be_called is_known found found_in joined is_doc is_in_fn
  body_names n ds h = simp (rolled, listed_names (map values_by ds) (all_kept n ds h))

good : (local : List ℕ) → is_ncname_text local ≡ true → (n : ℕ) (ds : List KeyParts) →
    AreFitParts n ds → is_good_function (key_function local ds) ≡ true
unfolding is_good_function is_good_param is_good_kind is_good_expr is_sound_expr_name
    begins_name is_in_ranges is_xml_text is_regular_type is_regular_item is_regular_test is_named
    is_sound_type is_sound_item is_sound_test is_ncname_text
good local h n ds fit = rw (h, body_regular n ds fit, body_texts n ds fit) refl

pub keys_fit : KeysFit
keys_fit local h levels ds fit = record {
  good = good local h levels ds fit;
  nest = body_nest levels ds fit;
  names = λ functions. body_names functions levels ds fit;
}
