-- The function of a key has the form that the grammar gives, and texts and names that XML allows, where
-- its parts have.
use Rattle.std.proofs.Common.{◌≡◌, ℕ, List, [], ◌∷◌, map, length, true, refl, ap, ◌∙◌, arith}
use Rattle.std.proofs.lemmas.Bool.{and_from, ne_eqb}
use Rattle.std.specs.Prelude.{Bool, false, not, ◌&&◌, ◌==◌}
use Rattle.std.specs.List.{list_all}
use Rattle.xt_names.specs.Classes.{begins_name, is_in_ranges, is_ncname_text, is_xml_text}
use Rattle.xt_types.specs.Regular.{is_named, is_regular_item, is_regular_test, is_regular_type}
use Rattle.xt_forms.specs.Regular.{expr_facts_of, is_cast_name, is_regular_expr}
use Rattle.xt_forms.specs.Regular.{is_regular_kind}
use Rattle.xt_syntax.specs.declared.exprs.Expr.{Expr}
use Rattle.xt_syntax.specs.declared.exprs.Clause.TheOpen.{Comma}
use Rattle.closed_queries.specs.ExprTexts.{has_sound_texts, is_sound_place}
use Rattle.closed_queries.specs.Texts.{is_sound_expr_name, is_sound_item, is_sound_kind}
use Rattle.closed_queries.specs.Texts.{is_sound_test, is_sound_type}
use Rattle.carried_exprs.proofs.RegularRolled.{regular_arm_rolled, regular_bind_rolled}
use Rattle.carried_exprs.proofs.RegularRolled.{regular_clause_rolled, regular_flwor_rolled}
use Rattle.query_helpers.proofs.Regularity.{expr_if, expr_regular}
use Rattle.query_helpers.proofs.SoundTexts.{arm_sound, bind_sound, clause_sound, expr_sound}
use Rattle.query_helpers.proofs.SoundTexts.{flwor_sound}
use Rattle.key_functions.specs.Bounds.{AreFitParts}
use Rattle.key_functions.specs.KeyBody.{KeyParts, key_body, listed, values_by}
use Rattle.carried_exprs.proofs.Regularity.{all_regular}

ruleset forms = (
  expr_regular,
  expr_if,
  regular_arm_rolled,
  regular_bind_rolled,
  regular_clause_rolled,
  regular_flwor_rolled,
)

ruleset texts = (expr_sound, arm_sound, bind_sound, clause_sound, flwor_sound)

-- form
value_regular : (d : KeyParts) → is_regular_expr d.test ≡ true → is_regular_expr d.value ≡ true →
    is_regular_expr (values_by d) ≡ true
unfolding is_cast_name
value_regular d h g = simp (forms, h, g)

alone : (b : Bool) → (b && true) ≡ true → b ≡ true
alone true h = refl
alone false h = absurd cc

listed_regular : (es : List Expr) → all_regular es ≡ true → is_regular_expr (listed es) ≡ true
listed_regular [] h = simp forms
listed_regular (e ∷ []) h = alone (is_regular_expr e) h
listed_regular (e ∷ f ∷ more) h =
    expr_regular (Comma (e ∷ f ∷ more))
    ∙ and_from (not (length (map expr_facts_of (e ∷ f ∷ more)) == 1)) (all_regular (e ∷ f ∷ more))
    (ap not (ne_eqb (length (map expr_facts_of (e ∷ f ∷ more))) 1 (λ i. absurd (omega (arith, i))))) h

module _ (n : ℕ) where
  all_fit : (ds : List KeyParts) → AreFitParts n ds → all_regular (map values_by ds) ≡ true
  all_fit [] h = refl
  all_fit (d ∷ ds) h =
      and_from (is_regular_expr (values_by d)) (all_regular (map values_by ds))
      (value_regular d h.0.0.regular h.0.1.regular) (all_fit ds h.1)

  pub body_regular : (ds : List KeyParts) → AreFitParts n ds → is_regular_expr (key_body ds) ≡ true
  unfolding is_cast_name is_regular_kind is_regular_test is_regular_type is_regular_item is_named
  body_regular ds h = simp (forms, listed_regular (map values_by ds) (all_fit ds h))

-- texts and names
value_texts : (d : KeyParts) → has_sound_texts d.test ≡ true → has_sound_texts d.value ≡ true →
    has_sound_texts (values_by d) ≡ true
unfolding is_sound_expr_name is_ncname_text begins_name is_in_ranges is_xml_text
value_texts d h g = simp (texts, h, g)

abbrev all_sound : List Expr → Bool
all_sound es = list_all (λ b. b) (map has_sound_texts es)

listed_texts : (es : List Expr) → all_sound es ≡ true → has_sound_texts (listed es) ≡ true
listed_texts [] h = simp texts
listed_texts (e ∷ []) h = alone (has_sound_texts e) h
listed_texts (e ∷ f ∷ more) h = expr_sound (Comma (e ∷ f ∷ more)) ∙ h

module _ (n : ℕ) where
  all_texts : (ds : List KeyParts) → AreFitParts n ds → all_sound (map values_by ds) ≡ true
  all_texts [] h = refl
  all_texts (d ∷ ds) h =
      and_from (has_sound_texts (values_by d)) (all_sound (map values_by ds))
      (value_texts d h.0.0.texts h.0.1.texts) (all_texts ds h.1)

  pub body_texts : (ds : List KeyParts) → AreFitParts n ds → has_sound_texts (key_body ds) ≡ true
  unfolding is_sound_expr_name is_ncname_text begins_name is_in_ranges is_xml_text is_sound_kind
      is_sound_type is_sound_item is_sound_test is_sound_place
  body_texts ds h = simp (texts, listed_texts (map values_by ds) (all_texts ds h))
