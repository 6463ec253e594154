-- The helper functions are regular and nest few levels.
use Rattle.std.proofs.Common.{◌≡◌, ◌≤◌, ℕ, suc, List, [], ◌∷◌, map, refl, ap, arith}
use Rattle.std.proofs.lemmas.Bool.{and_from, le-leb}
use Rattle.std.specs.Prelude.{true, nat_le, pos, codes}
use Rattle.xt_names.specs.declared.kinds.ArithOp.TheVariants.{Sub}
use Rattle.xt_names.specs.declared.kinds.CompareOp.{CompareOp}
use Rattle.xt_names.specs.declared.kinds.CompareOp.TheVariants.{Eq}
use Rattle.xt_names.specs.declared.names.ExprName.{ExprName}
use Rattle.xt_types.specs.Regular.{is_regular_type, is_regular_item, is_regular_test, is_named, is_kind_name}
use Rattle.xt_types.specs.declared.axes.Axis.{Axis}
use Rattle.xt_types.specs.declared.axes.Axis.TheVariants.{Attribute, Child}
use Rattle.xt_types.specs.declared.node_tests.NameTest.TheVariants.{Any}
use Rattle.xt_types.specs.declared.node_tests.Test.{Test}
use Rattle.xt_types.specs.declared.node_tests.Test.TheVariants as test
use Rattle.xt_forms.specs.Nest.{nest_of}
use Rattle.xt_forms.specs.Regular.{is_regular_expr, every_regular, expr_facts_of}
use Rattle.xt_syntax.specs.declared.exprs.Expr.{Expr}
use Rattle.xt_syntax.specs.declared.exprs.Clause.TheOpen.{Int, Var, Str, And, Flwor, Value, Computed}
use Rattle.xt_syntax.specs.declared.exprs.Clause.TheViews.{roll-Expr}
use Rattle.carried_exprs.specs.Sights.{item_name, position_name, variable_of, the_item, nothing, library_call}
use Rattle.carried_exprs.proofs.NestRolled.{nest_expr_rolled}
use Rattle.carried_exprs.proofs.RegularRolled.{regular_expr_rolled, regular_name_rolled}
use Rattle.query_helpers.specs.Forms.{of_kind, is_of_kind, arm_of, if_of}
use Rattle.query_helpers.specs.LastBody.{items_name, names_name, later_name, near_name, is_attribute_in}
use Rattle.query_helpers.specs.LastBody.{is_node_in, node_name_in, all_names, those_behind, comes_again}
use Rattle.query_helpers.specs.LastBody.{those_near, words_near, kept_item_body, names_all_differ, last_body}
use Rattle.query_helpers.specs.SimpleBody.{separator_name, kept_name, before_name, is_text_in, string_in}
use Rattle.query_helpers.specs.SimpleBody.{some_text, kept_text, kept_texts, one_before, is_parted, with_gap}
use Rattle.query_helpers.specs.SimpleBody.{joined_kept, run_texts, plain_texts, simple_body}
use Rattle.query_helpers.specs.CopyBody.{all_along, all_content, own_name, own_string, copy_body}
use Rattle.translated_forms.specs.Forms.{bind_of, let_clause, for_clause, for_at_clause}
use Rattle.translated_forms.proofs.Fine.{Fine, FineArm, FineName, none, more, higher, fine_form}
use Rattle.translated_forms.proofs.Fine.{greatest_fine, all_regular, fine_text, fine_variable, fine_nothing}
use Rattle.translated_forms.proofs.Fine.{fine_items, fine_arith, fine_slash, fine_instance, fine_step}
use Rattle.translated_forms.proofs.Fine.{fine_document, fine_text_node, fine_comment, fine_element}
use Rattle.translated_forms.proofs.Fine.{fine_attribute, fine_pi, fine_computed, fine_bind, fine_let, fine_for}
use Rattle.translated_forms.proofs.Fine.{fine_for_at, fine_arm}
use Rattle.translated_forms.proofs.FineFlows.{fine_flow, fine_if_many, fine_some, NoIf}
use Rattle.translated_forms.proofs.FineTexts.{fine_library}
use Rattle.translated_forms.proofs.FineDispatch.{no_if_nothing}
use Rattle.translated_forms.proofs.FineGroups.{no_if_library}

fine_and : (n : ℕ) (a b : Expr) → Fine n a → Fine n b → Fine (suc n) (roll-Expr (And (a ∷ b ∷ [])))
fine_and n a b h i =
    let g = nest_expr_rolled (And (a ∷ b ∷ [])) in let both = more h (more i none) in
    let k = greatest_fine nest_of is_regular_expr n (a ∷ b ∷ []) both in
    fine_form (suc n) (And (a ∷ b ∷ [])) (omega arith)
    (and_from (nat_le 2 2) (every_regular (map expr_facts_of (a ∷ b ∷ []))) (le-leb 2 2 (omega arith))
    (all_regular n (a ∷ b ∷ []) both))

fine_value : (n : ℕ) (op : CompareOp) (a b : Expr) → Fine n a → Fine n b →
    Fine (suc n) (roll-Expr (Value op a b))
fine_value n op a b h i =
    let g = nest_expr_rolled (Value op a b) in let j = h.nests in let k = i.nests in
    fine_form (suc n) (Value op a b) (omega arith)
    (and_from (is_regular_expr a) (is_regular_expr b) h.is_regular i.is_regular)

fine_number : (n : ℕ) → (m : ℕ) → Fine 1 (roll-Expr (Int (pos m)))
fine_number n m = let g = nest_expr_rolled (Int (pos m)) in fine_form 1 (Int (pos m)) (omega arith) (le-leb 0 m (omega arith))

no_if_variable : (v : ExprName) → NoIf (variable_of v)
no_if_variable v = ap (λ f. f.is_if) (regular_expr_rolled (Var v))

no_if_text : (t : List ℕ) → NoIf (roll-Expr (Str t))
no_if_text t = ap (λ f. f.is_if) (regular_expr_rolled (Str t))

fine_kind : (v : Expr) (wanted : Test) → is_regular_type (of_kind wanted) ≡ true → Fine 1 v →
    Fine 2 (is_of_kind v wanted)
fine_kind v wanted h i = fine_instance 1 v (of_kind wanted) i h

attribute_type : is_regular_type (of_kind (test.Attr Any)) ≡ true
unfolding is_regular_type is_regular_item is_regular_test is_named is_kind_name
attribute_type = refl

node_type : is_regular_type (of_kind test.Node) ≡ true
unfolding is_regular_type is_regular_item is_regular_test is_named
node_type = refl

text_type : is_regular_type (of_kind test.Text) ≡ true
unfolding is_regular_type is_regular_item is_regular_test is_named
text_type = refl

fine_at_variable : (local : List ℕ) (v : ExprName) → Fine 2 (library_call local (variable_of v ∷ []))
fine_at_variable local v = fine_library 1 local (variable_of v ∷ []) (more (fine_variable v) none)

-- one condition
fine_if : (n : ℕ) (a b c : Expr) → Fine n a → Fine n b → Fine n c → NoIf c →
    Fine (suc n) (if_of a b c)
fine_if n a b c h i j plain = fine_if_many n (arm_of (a, b)) [] c (more (fine_arm n a b h i) none) j plain

-- last
fine_is_attribute : (v : ExprName) → Fine 2 (is_attribute_in v)
fine_is_attribute v = fine_kind (variable_of v) (test.Attr Any) attribute_type (fine_variable v)

fine_is_node : (v : ExprName) → Fine 2 (is_node_in v)
fine_is_node v = fine_kind (variable_of v) test.Node node_type (fine_variable v)

fine_all_names : Fine 4 all_names
fine_all_names =
    fine_flow 3 (for_clause item_name (variable_of items_name)) [] _
    (more (fine_for 3 item_name (variable_of items_name) (higher 3 (omega arith) (fine_variable items_name))) none)
    (fine_if 2 (is_attribute_in item_name) (node_name_in item_name) nothing (fine_is_attribute item_name)
    (fine_at_variable (codes "node-name") item_name) (higher 2 (omega arith) fine_nothing) no_if_nothing)

fine_those_behind : Fine 3 those_behind
fine_those_behind =
    fine_library 2 (codes "remove") _
    (more (fine_library 1 (codes "subsequence") (variable_of items_name ∷ variable_of position_name ∷ [])
    (more (fine_variable items_name) (more (fine_variable position_name) none)))
    (more (higher 2 (omega arith) (fine_number 1 1)) none))

fine_comes_again : Fine 5 comes_again
fine_comes_again =
    fine_some 4 (bind_of later_name those_behind) [] _
    (more (fine_bind 4 later_name those_behind (higher 4 (omega arith) fine_those_behind)) none)
    (fine_and 3 (is_attribute_in later_name) _ (higher 3 (omega arith) (fine_is_attribute later_name))
    (fine_value 2 Eq (node_name_in item_name) (node_name_in later_name)
    (fine_at_variable (codes "node-name") item_name) (fine_at_variable (codes "node-name") later_name)))

fine_those_near : Fine 3 those_near
fine_those_near =
    fine_library 2 (codes "subsequence") _
    (more (higher 2 (omega arith) (fine_variable items_name))
    (more (fine_arith 1 Sub (variable_of position_name) _ (fine_variable position_name) (fine_number 1 1))
    (more (higher 2 (omega arith) (fine_number 1 3)) none)))

fine_words_near : Fine 5 words_near
fine_words_near =
    fine_library 4 (codes "string-join") _
    (more (fine_flow 3 (for_clause near_name those_near) [] _
    (more (fine_for 3 near_name those_near fine_those_near) none)
    (fine_if 2 (is_node_in near_name) nothing _ (fine_is_node near_name)
    (higher 2 (omega arith) fine_nothing) (fine_at_variable (codes "string") near_name)
    (no_if_library (codes "string") _)))
    (more (higher 4 (omega arith) (fine_text (codes ","))) none))

fine_kept_item : Fine 7 kept_item_body
fine_kept_item =
    let v = fine_variable item_name in
    fine_if_many 6 (arm_of (is_attribute_in item_name, _)) _ nothing
    (more (fine_arm 6 (is_attribute_in item_name) _ (higher 6 (omega arith) (fine_is_attribute item_name))
    (fine_if 5 comes_again nothing (variable_of item_name) fine_comes_again (higher 5 (omega arith) fine_nothing)
    (higher 5 (omega arith) v) (no_if_variable item_name)))
    (more (fine_arm 6 (is_node_in item_name) (variable_of item_name)
    (higher 6 (omega arith) (fine_is_node item_name)) (higher 6 (omega arith) v))
    (more (fine_arm 6 words_near (variable_of item_name) (higher 6 (omega arith) fine_words_near)
    (higher 6 (omega arith) v)) none))) (higher 6 (omega arith) fine_nothing) no_if_nothing

fine_names_differ : Fine 3 names_all_differ
fine_names_differ =
    fine_library 2 (codes "deep-equal") _
    (more (higher 2 (omega arith) (fine_variable names_name))
    (more (fine_at_variable (codes "distinct-values") names_name) none))

pub fine_last_body : Fine 10 last_body
fine_last_body =
    fine_flow 9 (let_clause names_name all_names) [] _
    (more (fine_let 9 names_name all_names (higher 9 (omega arith) fine_all_names)) none)
    (fine_if 8 names_all_differ (variable_of items_name) _ (higher 8 (omega arith) fine_names_differ)
    (higher 8 (omega arith) (fine_variable items_name))
    (fine_flow 7 (for_at_clause item_name position_name (variable_of items_name)) [] kept_item_body
    (more (fine_for_at 7 item_name position_name (variable_of items_name)
    (higher 7 (omega arith) (fine_variable items_name))) none) fine_kept_item)
    (ap (λ f. f.is_if) (regular_expr_rolled (Flwor _))))

-- simple
fine_is_text : (v : ExprName) → Fine 2 (is_text_in v)
fine_is_text v = fine_kind (variable_of v) test.Text text_type (fine_variable v)

fine_string_in : (v : ExprName) → Fine 2 (string_in v)
fine_string_in v = fine_at_variable (codes "string") v

fine_some_text : Fine 3 some_text
fine_some_text =
    fine_some 2 (bind_of item_name (variable_of items_name)) [] (is_text_in item_name)
    (more (fine_bind 2 item_name (variable_of items_name) (higher 2 (omega arith) (fine_variable items_name))) none)
    (fine_is_text item_name)

fine_kept_text : Fine 4 kept_text
fine_kept_text =
    let v = fine_variable item_name in
    fine_if 3 (is_text_in item_name) _ (variable_of item_name) (higher 3 (omega arith) (fine_is_text item_name))
    (fine_if 2 (string_in item_name) (variable_of item_name) nothing (fine_string_in item_name)
    (higher 2 (omega arith) v) (higher 2 (omega arith) fine_nothing) no_if_nothing)
    (higher 3 (omega arith) v) (no_if_variable item_name)

fine_kept_texts : Fine 5 kept_texts
fine_kept_texts =
    fine_flow 4 (for_at_clause item_name position_name (variable_of items_name)) [] kept_text
    (more (fine_for_at 4 item_name position_name (variable_of items_name)
    (higher 4 (omega arith) (fine_variable items_name))) none) fine_kept_text

fine_one_before : Fine 3 one_before
fine_one_before =
    fine_library 2 (codes "subsequence") _
    (more (higher 2 (omega arith) (fine_variable kept_name))
    (more (fine_arith 1 Sub (variable_of position_name) _ (fine_variable position_name) (fine_number 1 1))
    (more (higher 2 (omega arith) (fine_number 1 1)) none)))

fine_is_parted : Fine 5 is_parted
fine_is_parted =
    fine_some 4 (bind_of before_name one_before) [] _
    (more (fine_bind 4 before_name one_before (higher 4 (omega arith) fine_one_before)) none)
    (fine_library 3 (codes "not") _
    (more (fine_and 2 (is_text_in item_name) (is_text_in before_name) (fine_is_text item_name)
    (fine_is_text before_name)) none))

fine_with_gap : Fine 7 with_gap
fine_with_gap =
    fine_library 6 (codes "concat") _
    (more (fine_if 5 is_parted (variable_of separator_name) _ fine_is_parted
    (higher 5 (omega arith) (fine_variable separator_name)) (higher 5 (omega arith) (fine_text []))
    (no_if_text [])) (more (higher 6 (omega arith) (fine_string_in item_name)) none))

fine_joined_kept : Fine 9 joined_kept
fine_joined_kept =
    fine_library 8 (codes "string-join") _
    (more (fine_flow 7 (for_at_clause item_name position_name (variable_of kept_name)) [] with_gap
    (more (fine_for_at 7 item_name position_name (variable_of kept_name)
    (higher 7 (omega arith) (fine_variable kept_name))) none) fine_with_gap)
    (more (higher 8 (omega arith) (fine_text [])) none))

fine_plain_texts : Fine 4 plain_texts
fine_plain_texts =
    fine_library 3 (codes "string-join") _
    (more (fine_flow 2 (for_clause item_name (variable_of items_name)) [] (string_in item_name)
    (more (fine_for 2 item_name (variable_of items_name) (higher 2 (omega arith) (fine_variable items_name))) none)
    (fine_string_in item_name)) (more (higher 3 (omega arith) (fine_variable separator_name)) none))

pub fine_simple_body : Fine 11 simple_body
fine_simple_body =
    fine_if 10 some_text run_texts plain_texts (higher 10 (omega arith) fine_some_text)
    (fine_flow 9 (let_clause kept_name kept_texts) [] joined_kept
    (more (fine_let 9 kept_name kept_texts (higher 9 (omega arith) fine_kept_texts)) none) fine_joined_kept)
    (higher 10 (omega arith) fine_plain_texts) (no_if_library (codes "string-join") _)

-- copy
fine_all_along : (axis : Axis) → Fine 2 (all_along axis)
unfolding is_regular_test
fine_all_along axis = fine_slash 1 the_item _ (fine_variable item_name) (fine_step axis test.Node refl)

fine_own_name : (n : ℕ) → 2 ≤ n → FineName n own_name
fine_own_name n l = fine_computed n _ (higher n l (fine_at_variable (codes "node-name") item_name))

copy_arm : (wanted : Test) (e : Expr) → is_regular_type (of_kind wanted) ≡ true → Fine 5 e →
    FineArm 5 (arm_of (is_of_kind the_item wanted, e))
copy_arm wanted e h i =
    fine_arm 5 (is_of_kind the_item wanted) e
    (higher 5 (omega arith) (fine_kind the_item wanted h (fine_variable item_name))) i

pub fine_copy_body : Fine 6 copy_body
unfolding is_regular_type is_regular_item is_regular_test is_named is_kind_name
fine_copy_body =
    let v = fine_variable item_name in let s = fine_at_variable (codes "string") item_name in
    fine_if_many 5 _ _ the_item
    (more (copy_arm _ _ refl (higher 5 (omega arith) (fine_document 1 the_item v)))
    (more (copy_arm _ _ refl (higher 5 (omega arith) (fine_element 3 own_name all_content
    (fine_own_name 3 (omega arith)) (fine_items 2 (all_along Attribute) (all_along Child) []
    (more (fine_all_along Attribute) (more (fine_all_along Child) none))))))
    (more (copy_arm _ _ refl (higher 5 (omega arith) (fine_attribute 2 own_name own_string (fine_own_name 2 (omega arith)) s)))
    (more (copy_arm _ _ refl (higher 5 (omega arith) (fine_text_node 2 own_string s)))
    (more (copy_arm _ _ refl (higher 5 (omega arith) (fine_comment 2 own_string s)))
    (more (copy_arm _ _ refl (higher 5 (omega arith) (fine_pi 2 own_name own_string (fine_own_name 2 (omega arith))
    (ap (λ f. f.is_bare) (regular_name_rolled (Computed _))) s))) none))))))
    (higher 5 (omega arith) v) (no_if_variable item_name)
