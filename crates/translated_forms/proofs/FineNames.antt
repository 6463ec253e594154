-- Names of nodes that are regular and nest so many levels at most.
use Rattle.std.proofs.Common.{◌≡◌, ◌≤◌, ℕ, suc, List, [], ◌∷◌, ◌++◌, ap, arith}
use Rattle.std.specs.Prelude.{Bool, true, false, Option, Some, None, Result, Ok, Err, option_map}
use Rattle.std.specs.Prelude.{codes, if◌then◌else◌}
use Rattle.std.specs.Result.{result_ok}
use Rattle.xt_names.specs.Allowed.{is_empty_text}
use Rattle.xt_names.specs.declared.codes.Code.{Code}
use Rattle.xt_names.specs.declared.names.Binding.{Binding}
use Rattle.xt_names.specs.declared.names.Name.{Name}
use Rattle.xt_atoms.specs.AtomTexts.{lexical_qname}
use Rattle.xt_forms.specs.Regular.{name_facts_of, is_bare_name}
use Rattle.xt_syntax.specs.declared.exprs.Arm.{Arm}
use Rattle.xt_syntax.specs.declared.exprs.Expr.{Expr}
use Rattle.xt_syntax.specs.declared.exprs.NameSource.{NameSource}
use Rattle.xt_syntax.specs.declared.exprs.Clause.TheOpen.{Str, Fixed, Computed}
use Rattle.xt_sheets.specs.declared.values.AvtName.{AvtName}
use Rattle.transform_meaning.specs.Names.{target_name}
use Rattle.carried_exprs.proofs.RegularRolled.{regular_expr_rolled, regular_name_rolled}
use Rattle.translated_forms.specs.Names.{text_name}
use Rattle.translated_forms.specs.Forms.{let_clause, if_many, text_literal, failing}
use Rattle.translated_forms.specs.Leaves.{template_leaves}
use Rattle.translated_forms.specs.Texts.{Carry, Template, fixed_text, template_text}
use Rattle.translated_forms.specs.NodeNames.{qname_call, is_fixed, name_source}
use Rattle.translated_forms.specs.NodeNames.{prefix_arm, other_prefix, prefix_arms}
use Rattle.translated_forms.specs.NodeNames.{name_of_text, of_text, of_spelled, element_source}
use Rattle.translated_forms.specs.NodeNames.{attribute_source, attribute_spelled, target_source, element_spelled}
use Rattle.translated_forms.specs.NodeNames.{target_spelled, the_text, fixed, computed, bare_name}
use Rattle.translated_forms.proofs.Fine.{Fine, FineArm, FineName, Every, none, more, higher}
use Rattle.translated_forms.proofs.Fine.{fine_text, fine_variable, fine_fixed, fine_computed, fine_let}
use Rattle.translated_forms.proofs.Fine.{fine_arm}
use Rattle.translated_forms.proofs.FineFlows.{fine_flow, fine_if_many, NoIf}
use Rattle.translated_forms.proofs.FineTexts.{CarriesTo, fine_library, fine_failing, fine_template}

pub fine_qname : (n : ℕ) (a b : Expr) → Fine n a → Fine n b → Fine (suc n) (qname_call a b)
fine_qname n a b h i = fine_library n (codes "QName") (a ∷ b ∷ []) (more h (more i none))

choice_of_source : (n : ℕ) → 2 ≤ n → (c : Bool) (name : Name) (e : Expr) → Fine 2 e →
    FineName n (if c then fixed name else computed e)
choice_of_source n l true name e h = fine_fixed n name
choice_of_source n l false name e h = fine_computed n e (higher n l h)

pub fine_name_source : (n : ℕ) → 2 ≤ n → (prefixes : List Binding) (name : Name) →
    FineName n (name_source prefixes name)
unfolding name_source
fine_name_source n l prefixes name =
    choice_of_source n l (is_fixed prefixes name) name
    (qname_call (text_literal name.uri) (text_literal (lexical_qname name.prefix name.local)))
    (fine_qname 1 _ _ (fine_text name.uri) (fine_text (lexical_qname name.prefix name.local)))

-- the arms of prefixes
uri_choice : (c : Bool) (uri : List ℕ) → Fine 1 (if c then failing else text_literal uri)
uri_choice true uri = fine_failing
uri_choice false uri = fine_text uri

fine_prefix_arm : (b : Binding) → FineArm 2 (prefix_arm b)
fine_prefix_arm b =
    fine_arm 2 _ _
    (fine_library 1 (codes "starts-with") (the_text ∷ text_literal (b.prefix ++ codes ":") ∷ [])
    (more (fine_variable text_name) (more (fine_text (b.prefix ++ codes ":")) none)))
    (higher 2 (omega arith) (uri_choice (is_empty_text b.uri) b.uri))

fine_other_prefix : FineArm 2 other_prefix
fine_other_prefix =
    fine_arm 2 _ _
    (fine_library 1 (codes "contains") (the_text ∷ text_literal (codes ":") ∷ [])
    (more (fine_variable text_name) (more (fine_text (codes ":")) none)))
    (higher 2 (omega arith) fine_failing)

-- whether a list of arms makes a condition
abbrev Makes : List Arm → Type 0
Makes arms = (other : Expr) → Fine 2 other → NoIf other → Every (FineArm 2) arms → Fine 3 (if_many arms other)

first_arm : (a : Arm) (arms : List Arm) → Makes (a ∷ arms)
first_arm a arms other h plain all = fine_if_many 2 a arms other all h plain

arms_choice : (c : Bool) (b : Binding) (arms : List Arm) → Makes arms →
    Makes (if c then arms else prefix_arm b ∷ arms)
arms_choice true b arms h = h
arms_choice false b arms h = first_arm (prefix_arm b) arms

makes_condition : (bs : List Binding) → Makes (prefix_arms bs)
makes_condition [] = first_arm other_prefix []
makes_condition (b ∷ bs) =
    arms_choice (is_empty_text b.prefix) b (prefix_arms bs) (makes_condition bs)

all_choice : (c : Bool) (b : Binding) (arms : List Arm) → Every (FineArm 2) arms →
    Every (FineArm 2) (if c then arms else prefix_arm b ∷ arms)
all_choice true b arms h = h
all_choice false b arms h = more (fine_prefix_arm b) h

all_prefix_arms : (bs : List Binding) → Every (FineArm 2) (prefix_arms bs)
all_prefix_arms [] = more fine_other_prefix none
all_prefix_arms (b ∷ bs) =
    all_choice (is_empty_text b.prefix) b (prefix_arms bs) (all_prefix_arms bs)

no_if_text : (t : List ℕ) → NoIf (text_literal t)
no_if_text t = ap (λ f. f.is_if) (regular_expr_rolled (Str t))

pub fine_name_of_text : (n : ℕ) → 4 ≤ n → (scope : List Binding) (default : List ℕ) (text : Expr) →
    Fine n text → Fine (suc n) (name_of_text scope default text)
unfolding name_of_text
fine_name_of_text n l scope default text h =
    fine_flow n (let_clause text_name text) []
    (qname_call (if_many (prefix_arms scope) (text_literal default)) the_text)
    (more (fine_let n text_name text h) none)
    (higher n l (fine_qname 3 _ _
    (makes_condition scope (text_literal default) (higher 2 (omega arith) (fine_text default))
    (no_if_text default) (all_prefix_arms scope))
    (higher 3 (omega arith) (fine_variable text_name))))

-- a source, if there is one
abbrev pub IfFine : ℕ → Option NameSource → Type 0
IfFine n None = Unit {0}
IfFine n (Some s) = FineName n s

fine_spelled : (n : ℕ) → 2 ≤ n → (prefixes : List Binding) (o : Option Name) →
    IfFine n (of_spelled prefixes o)
fine_spelled n l prefixes None = tt
fine_spelled n l prefixes (Some name) = fine_name_source n l prefixes name

fine_of_text : (n : ℕ) → 2 ≤ n → (prefixes : List Binding) (spells : List ℕ → Option Name)
    (computing : Expr) → Fine n computing → (t : Option (List ℕ)) →
    IfFine n (of_text prefixes spells computing t)
fine_of_text n l prefixes spells computing h (Some t) = fine_spelled n l prefixes (spells t)
fine_of_text n l prefixes spells computing h None = fine_computed n computing h

module _ (b : ℕ) (carry : Carry) (carries : CarriesTo b carry) where
  pub fine_element_source : (n : ℕ) → suc b ≤ n → 4 ≤ n → (prefixes : List Binding) (name : AvtName Expr) →
      template_leaves name.text ≡ true → IfFine (suc (suc n)) (element_source prefixes carry name)
  unfolding element_source
  fine_element_source n l m prefixes name h =
      fine_of_text (suc (suc n)) (omega arith) prefixes (element_spelled name.scope name.default_uri)
      (name_of_text name.scope name.default_uri (template_text carry name.text))
      (fine_name_of_text (suc n) (omega arith) name.scope name.default_uri
      (template_text carry name.text) (fine_template b carry carries n l (omega arith) name.text h))
      (fixed_text name.text)

  pub fine_attribute_source : (n : ℕ) → suc b ≤ n → 4 ≤ n → (prefixes : List Binding) (name : AvtName Expr) →
      template_leaves name.text ≡ true → IfFine (suc (suc n)) (attribute_source prefixes carry name)
  unfolding attribute_source
  fine_attribute_source n l m prefixes name h =
      fine_of_text (suc (suc n)) (omega arith) prefixes (attribute_spelled name.scope)
      (name_of_text name.scope [] (template_text carry name.text))
      (fine_name_of_text (suc n) (omega arith) name.scope []
      (template_text carry name.text) (fine_template b carry carries n l (omega arith) name.text h))
      (fixed_text name.text)

  pub fine_target_source : (n : ℕ) → suc b ≤ n → 2 ≤ n → (name : Template) →
      template_leaves name ≡ true → IfFine (suc n) (target_source carry name)
  unfolding target_source
  fine_target_source n l m name h =
      fine_of_text (suc n) (omega arith) [] target_spelled (template_text carry name)
      (fine_template b carry carries n l m name h) (fixed_text name)

-- a target has neither prefix nor uri
abbrev pub IfBare : Option NameSource → Type 0
IfBare None = Unit {0}
IfBare (Some s) = (name_facts_of s).is_bare ≡ true

bare_computed : (e : Expr) → IfBare (Some (computed e))
bare_computed e = ap (λ f. f.is_bare) (regular_name_rolled (Computed e))

bare_fixed : (text : List ℕ) → IfBare (Some (name_source [] (bare_name text)))
unfolding name_source is_empty_text is_bare_name
bare_fixed text = ap (λ f. f.is_bare) (regular_name_rolled (Fixed (bare_name text)))

bare_or_none : (r : Result (List ℕ) Code) → IfBare (of_spelled [] (option_map bare_name (result_ok r)))
bare_or_none (Ok text) = bare_fixed text
bare_or_none (Err c) = tt

bare_of_text : (carry : Carry) (name : Template) (t : Option (List ℕ)) →
    IfBare (of_text [] target_spelled (template_text carry name) t)
bare_of_text carry name None = bare_computed (template_text carry name)
bare_of_text carry name (Some t) =
    bare_or_none (target_name t)

pub bare_target : (carry : Carry) (name : Template) → IfBare (target_source carry name)
unfolding target_source
bare_target carry name = bare_of_text carry name (fixed_text name)
