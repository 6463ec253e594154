-- Computed names are carried where their texts are.
use Rattle.std.proofs.Common.{◌≡◌, ℕ, List, refl}
use Rattle.std.specs.Prelude.{Bool, true, false, codes, if◌then◌else◌, Ok, Err}
use Rattle.std.specs.Str.{bytes_eq, str_to_ascii_lowercase}
use Rattle.xt_names.specs.Classes.{is_ncname_text}
use Rattle.xt_names.specs.declared.codes.Code.TheVariants.{SheetDynamic}
use Rattle.xt_names.specs.declared.codes.SheetDynamicCode.TheVariants.{XTDE0890}
use Rattle.xt_names.specs.declared.names.Binding.{Binding as Namespace}
use Rattle.xt_names.specs.declared.names.Name.{Name}
use Rattle.xt_tree.specs.Sound.{is_xml_in_any_case}
use Rattle.closed_queries.specs.Texts.{is_free_uri}
use Rattle.expr_meaning.specs.Env.{Env}
use Rattle.expr_laws.specs.Carrier.{Carrier, IsAttributeName, IsName, IsTarget, IsText, OnValue}
use Rattle.expr_laws.proofs.Steps.{same_step}
use Rattle.transform_meaning.specs.Names.{NameMeaning, attribute_name, attribute_named, element_name}
use Rattle.transform_meaning.specs.Names.{element_named, target_name, target_named}
use Rattle.transform_meaning.specs.Texts.{TextMeaning}
use Rattle.transform_laws.specs.Meets.{AtPlaces, IsScope, SheetsMake}
use Rattle.transform_laws.proofs.Texts.{TextsMeet}

abbrev pub NamesMeet : Carrier → NameMeaning → NameMeaning → Type 0
NamesMeet c m n = (e f : Env) → AtPlaces c e f → (k : ℕ) → c.rel Name (IsName c) (m e k) (n f k)

abbrev pub AttributeNamesMeet : Carrier → NameMeaning → NameMeaning → Type 0
AttributeNamesMeet c m n =
    (e f : Env) → AtPlaces c e f → (k : ℕ) → c.rel Name (IsAttributeName c) (m e k) (n f k)

abbrev pub TargetsMeet : Carrier → TextMeaning → TextMeaning → Type 0
TargetsMeet c t u = (e f : Env) → AtPlaces c e f → (k : ℕ) → c.rel (List ℕ) IsTarget (t e k) (u f k)

-- a target is one that XML allows, or it is refused
target_known : (text : List ℕ) → OnValue IsTarget (target_name text)
unfolding target_name is_xml_in_any_case
target_known text =
    by (is_ncname_text text) refl (bytes_eq (str_to_ascii_lowercase text) (codes "xml")) refl
  where
    by : (b : Bool) → is_ncname_text text ≡ b → (d : Bool) →
        bytes_eq (str_to_ascii_lowercase text) (codes "xml") ≡ d → OnValue IsTarget
        (if b then (if d then Err (SheetDynamic XTDE0890) else Ok text)
        else Err (SheetDynamic XTDE0890))
    by true e true f = tt
    by true e false f = (e, f)
    by false e d f = tt

module _ (c : Carrier) (makes : SheetsMake c) where
  pub element_name_meets : (scope : List Namespace) → IsScope c scope → (default : List ℕ) →
      (c.strict → is_free_uri default ≡ true) → (t u : TextMeaning) → TextsMeet c t u →
      NamesMeet c (element_named scope default t) (element_named scope default u)
  element_name_meets scope a default d t u h e f s k =
      c.carries.next _ _ (IsText c) (IsName c) (t e k) (u f k) _ _ (h e f s k) (λ v j g.
      same_step c (IsName c) (element_name scope default v)
      (makes.element_name scope default v a d) j)

  pub attribute_name_meets : (scope : List Namespace) → IsScope c scope → (t u : TextMeaning) →
      TextsMeet c t u →
      AttributeNamesMeet c (attribute_named scope t) (attribute_named scope u)
  attribute_name_meets scope a t u h e f s k =
      c.carries.next _ _ (IsText c) (IsAttributeName c) (t e k) (u f k) _ _ (h e f s k) (λ v j g.
      same_step c (IsAttributeName c) (attribute_name scope v)
      (makes.attribute_name scope v a) j)

module _ (c : Carrier) where
  pub target_meets : (t u : TextMeaning) → TextsMeet c t u →
      TargetsMeet c (target_named t) (target_named u)
  target_meets t u h e f s k =
      c.carries.next _ _ (IsText c) IsTarget (t e k) (u f k) _ _ (h e f s k)
      (λ v j g. same_step c IsTarget (target_name v) (target_known v) j)
