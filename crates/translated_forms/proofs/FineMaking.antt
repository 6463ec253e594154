-- Instructions that make nodes: regular, and of so many levels at most.
use Rattle.std.proofs.Common.{◌≡◌, ◌≤◌, ◌+◌, ◌*◌, ℕ, suc, List, [], ◌∷◌, ◌++◌, map, refl, ap, arith}
use Rattle.std.proofs.lemmas.Bool.{and_parts}
use Rattle.std.specs.Prelude.{Bool, true, false, ◌&&◌, Option, Some, None, codes}
use Rattle.std.specs.List.{list_all}
use Rattle.xt_names.specs.declared.names.Binding.{Binding}
use Rattle.xt_names.specs.declared.names.Name.{Name}
use Rattle.xt_types.specs.Regular.{is_regular_type, is_regular_item, is_regular_test, is_named, is_kind_name}
use Rattle.xt_types.specs.declared.node_tests.Test.{Test}
use Rattle.xt_syntax.specs.declared.exprs.Expr.{Expr}
use Rattle.xt_syntax.specs.declared.exprs.NameSource.{NameSource}
use Rattle.xt_syntax.specs.declared.exprs.Clause.TheOpen.{Call, Comma, ElemC}
use Rattle.xt_syntax.specs.declared.exprs.Clause.TheViews.{roll-Expr}
use Rattle.xt_sheets.specs.declared.values.LiteralAttr.{LiteralAttr}
use Rattle.name_rules.specs.Scopes.{names_differ}
use Rattle.carried_exprs.specs.Sights.{item_name, variable_of, the_item, nothing}
use Rattle.carried_exprs.proofs.RegularRolled.{regular_expr_rolled}
use Rattle.translated_forms.specs.Names.{content_name, local_name, node_name as node_variable}
use Rattle.translated_forms.specs.Forms.{comma, let_clause, for_clause, for_in, is_of_kind, of_kind, arm_of, local_call}
use Rattle.translated_forms.specs.Leaves.{attribute_leaves}
use Rattle.translated_forms.specs.Texts.{Carry, template_text}
use Rattle.translated_forms.specs.NodeNames.{name_source}
use Rattle.translated_forms.specs.Bodies.{Body, items_of, body_expr}
use Rattle.translated_forms.specs.Making.{element_with, attribute_with, pi_with, last_of, kept_last}
use Rattle.translated_forms.specs.Making.{attribute_name, literal_attribute, literal_content}
use Rattle.translated_forms.specs.Making.{element_content, document_of, is_element, is_document}
use Rattle.translated_forms.specs.Making.{the_content, own_name, copied, copy_with_content}
use Rattle.translated_forms.specs.Making.{content_if_used, copy_of_item}
use Rattle.translated_forms.proofs.Fine.{Fine, Every, none, more, higher}
use Rattle.translated_forms.proofs.Fine.{fine_variable, fine_nothing, fine_or, fine_instance, fine_document}
use Rattle.translated_forms.proofs.Fine.{fine_element, fine_attribute, fine_pi, fine_computed, fine_let}
use Rattle.translated_forms.proofs.Fine.{fine_for, fine_arm}
use Rattle.translated_forms.proofs.FineFlows.{fine_flow, fine_if_many, NoIf}
use Rattle.translated_forms.proofs.FineTexts.{CarriesTo, fine_library, fine_local, fine_failing}
use Rattle.translated_forms.proofs.FineTexts.{fine_template}
use Rattle.translated_forms.proofs.FineNames.{IfFine, IfBare, fine_name_source}
use Rattle.translated_forms.proofs.FineBodies.{FineBody, fine_body_expr, fine_comma, joined_all}

-- constructors whose names may always be wrong
pub fine_element_with : (n : ℕ) (s : Option NameSource) (e : Expr) → IfFine n s → Fine n e →
    Fine (suc n) (element_with s e)
fine_element_with n None e h i = higher (suc n) (omega arith) fine_failing
fine_element_with n (Some s) e h i = fine_element n s e h i

pub fine_attribute_with : (n : ℕ) (s : Option NameSource) (e : Expr) → IfFine n s → Fine n e →
    Fine (suc n) (attribute_with s e)
fine_attribute_with n None e h i = higher (suc n) (omega arith) fine_failing
fine_attribute_with n (Some s) e h i = fine_attribute n s e h i

pub fine_pi_with : (n : ℕ) (s : Option NameSource) (e : Expr) → IfFine n s → IfBare s → Fine n e →
    Fine (suc n) (pi_with s e)
fine_pi_with n None e h b i = higher (suc n) (omega arith) fine_failing
fine_pi_with n (Some s) e h b i = fine_pi n s e h b i

pub source_higher : (n m : ℕ) → n ≤ m → (s : Option NameSource) → IfFine n s → IfFine m s
source_higher n m l None h = tt
source_higher n m l (Some s) h = higher m l h

-- the content of elements
fine_last : (n : ℕ) (e : Expr) → Fine n e → Fine (suc n) (last_of e)
fine_last n e h = fine_local n (codes "last") (e ∷ []) (more h none)

fine_kept : (n : ℕ) (kept : Bool) (e : Expr) → Fine n e → Fine (suc n) (kept_last kept e)
fine_kept n true e h = higher (suc n) (omega arith) h
fine_kept n false e h = fine_last n e h

pub fine_element_content : (m : ℕ) (b : Body) → FineBody m b → Fine (6 * m + 72) (element_content b)
fine_element_content m b h =
    higher (6 * m + 72) (omega arith)
    (fine_kept (6 * m + 71) b.are_nodes (body_expr b) (fine_body_expr m b h))

module _ (b : ℕ) (low : b ≤ 60) (carry : Carry) (carries : CarriesTo b carry) (prefixes : List Binding) where
  literal_attributes : (m : ℕ) (xs : List (LiteralAttr Expr)) → list_all attribute_leaves xs ≡ true →
      Every (Fine (6 * m + 70)) (map (literal_attribute prefixes carry) xs)
  literal_attributes m [] h = none
  literal_attributes m (a ∷ xs) h =
      let p = and_parts (attribute_leaves a) (list_all attribute_leaves xs) h in
      more (higher (6 * m + 70) (omega arith)
      (fine_attribute 63 (name_source prefixes a.name) (template_text carry a.value)
      (fine_name_source 63 (omega arith) prefixes a.name)
      (higher 63 (omega arith) (fine_template b carry carries 62 (omega arith) (omega arith) a.value p.0))))
      (literal_attributes m xs p.1)

  pub fine_literal : (m : ℕ) (name : Name) (xs : List (LiteralAttr Expr)) (body : Body) →
      list_all attribute_leaves xs ≡ true → FineBody m body →
      Fine (6 * m + 73) (roll-Expr (ElemC (name_source prefixes name) (literal_content prefixes carry xs body)))
  fine_literal m name xs body h i =
      higher (6 * m + 73) (omega arith)
      (fine_element (6 * m + 72) (name_source prefixes name) (literal_content prefixes carry xs body)
      (fine_name_source (6 * m + 72) (omega arith) prefixes name)
      (higher (6 * m + 72) (omega arith)
      (fine_kept (6 * m + 71) (names_differ (map attribute_name xs) && body.are_nodes)
      (comma (map (literal_attribute prefixes carry) xs ++ items_of body))
      (higher (6 * m + 71) (omega arith)
      (fine_comma (6 * m + 70) (map (literal_attribute prefixes carry) xs ++ items_of body)
      (joined_all (Fine (6 * m + 70)) (map (literal_attribute prefixes carry) xs) (items_of body)
      (literal_attributes m xs h) i.whole))))))

-- xsl:copy and xsl:copy-of
pub fine_kind : (v : Expr) (wanted : Test) → is_regular_type (of_kind wanted) ≡ true → Fine 1 v →
    Fine 2 (is_of_kind v wanted)
fine_kind v wanted h i = fine_instance 1 v (of_kind wanted) i h

fine_is_element : Fine 2 is_element
unfolding is_regular_type is_regular_item is_regular_test is_named is_kind_name
fine_is_element = fine_kind the_item _ refl (fine_variable item_name)

fine_is_document : Fine 2 is_document
unfolding is_regular_type is_regular_item is_regular_test is_named
fine_is_document = fine_kind the_item _ refl (fine_variable item_name)

pub fine_copied : (n : ℕ) (e : Expr) → Fine n e → Fine (suc n) (copied e)
fine_copied n e h = fine_local n (codes "copy") (e ∷ []) (more h none)

no_if_call : (local : List ℕ) (args : List Expr) → NoIf (local_call local args)
no_if_call local args = ap (λ f. f.is_if) (regular_expr_rolled (Call (local_name local) args))

fine_with_content : Fine 4 copy_with_content
fine_with_content =
    let c = fine_variable content_name in
    fine_if_many 3
    (arm_of (is_element, roll-Expr (ElemC own_name (last_of the_content))))
    (arm_of (is_document, document_of the_content) ∷ []) (copied the_item)
    (more (fine_arm 3 is_element _ (higher 3 (omega arith) fine_is_element)
    (fine_element 2 own_name (last_of the_content)
    (fine_computed 2 _ (fine_library 1 (codes "node-name") (the_item ∷ []) (more (fine_variable item_name) none)))
    (fine_last 1 the_content c)))
    (more (fine_arm 3 is_document _ (higher 3 (omega arith) fine_is_document)
    (higher 3 (omega arith) (fine_document 1 the_content c))) none))
    (higher 3 (omega arith) (fine_copied 1 the_item (fine_variable item_name)))
    (no_if_call (codes "copy") (the_item ∷ []))

no_if_nothing : NoIf nothing
no_if_nothing = ap (λ f. f.is_if) (regular_expr_rolled (Comma []))

fine_if_used : (n : ℕ) → 3 ≤ n → (e : Expr) → Fine n e → Fine (suc n) (content_if_used e)
fine_if_used n l e h =
    fine_if_many n (arm_of (_, e)) [] nothing
    (more (fine_arm n _ e (higher n l (fine_or 2 is_element is_document []
    (more fine_is_element (more fine_is_document none)))) h) none)
    (higher n (omega arith) fine_nothing) no_if_nothing

pub fine_copy : (n : ℕ) → 4 ≤ n → (has_focus : Bool) (e : Expr) → Fine n e →
    Fine (suc (suc n)) (copy_of_item has_focus e)
unfolding copy_of_item
fine_copy n l false e h = higher (suc (suc n)) (omega arith) fine_failing
fine_copy n l true e h =
    fine_flow (suc n) (let_clause content_name (content_if_used e)) [] copy_with_content
    (more (fine_let (suc n) content_name (content_if_used e) (fine_if_used n (omega arith) e h)) none)
    (higher (suc n) (omega arith) fine_with_content)

pub fine_copies : (n : ℕ) → 2 ≤ n → (e : Expr) → Fine n e →
    Fine (suc n) (for_in node_variable e (copied (variable_of node_variable)))
fine_copies n l e h =
    fine_flow n (for_clause node_variable e) [] (copied (variable_of node_variable))
    (more (fine_for n node_variable e h) none)
    (higher n l (fine_copied 1 (variable_of node_variable) (fine_variable node_variable)))
