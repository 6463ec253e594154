-- No value must be passed for a variable, nor for a parameter that is passed (XSLT 2.0, 9.1 and
-- 10.1.1).
use Rattle.std.proofs.Common.{◌≡◌, ℕ, List, [], ◌∷◌, Bool, true, false, cond, not, ◌&&◌, ◌||◌, Some}
use Rattle.std.proofs.Common.{refl, subst, codes}
use Rattle.std.proofs.lemmas.Bool.{and_parts}
use Rattle.std.proofs.lemmas.Slice.Eq.{bytes_eq-Decides}
use Rattle.std.specs.Str.{bytes_eq}
use Rattle.xt_names.specs.Allowed.{is_empty_text, xml_uri}
use Rattle.xt_names.specs.declared.codes.Code.{Code}
use Rattle.xt_names.specs.declared.codes.Code.TheVariants.{SheetStatic}
use Rattle.xt_names.specs.declared.codes.SheetStaticCode.TheVariants.{XTSE0090, XTUN0001}
use Rattle.xt_tree.specs.declared.attributes.Attribute.{Attribute}
use Rattle.sheet_heads.specs.Bindings.{is_yes, is_required}
use Rattle.sheet_table.specs.Attributes.{attribute, is_named}
use Rattle.sheet_table.specs.Rows.{Row, row_of}
use Rattle.sheet_table.specs.Rules.{each, name_faults, preserves_space, is_expected, unexpected}
use Rattle.sheet_table.specs.Rules.{attribute_faults}
use Rattle.sheet_table.specs.declared.elements.XslElement.{XslElement}
use Rattle.sheet_table.specs.declared.elements.XslElement.TheVariants as element
use Rattle.xt_names.specs.Names.{is_in_xslt}
use Rattle.xt_names.proofs.ListLemmas.{front_nil, back_nil}

abbrev required : List ℕ
required = codes "required"

-- what an attribute breaks
abbrev faults_of : Row → List ℕ → List ℕ → List ℕ → List Code
faults_of r uri local value =
    cond (bytes_eq uri (codes "http://www.w3.org/1999/XSL/Transform")) (SheetStatic XTSE0090 ∷ [])
    (cond (bytes_eq uri xml_uri && bytes_eq local (codes "space")
    && bytes_eq value (codes "preserve")) (SheetStatic XTUN0001 ∷ [])
    (cond (not (is_empty_text uri) || is_expected r local) []
    (SheetStatic (unexpected r local) ∷ [])))

no_text : (text : List ℕ) → is_empty_text text ≡ true → text ≡ []
unfolding is_empty_text
no_text [] h = refl
no_text (c ∷ cs) h = absurd cc

refused : (r : Row) (b : Bool) → b ≡ false
    → cond b [] (SheetStatic (unexpected r required) ∷ []) ≡ [] → ⊥
refused r true e h = cc
refused r false e h = cc

unexpected_here : (r : Row) (a : Attribute) → is_expected r required ≡ false
    → is_named required a ≡ true → name_faults r a ≡ [] → ⊥
unfolding name_faults is_in_xslt preserves_space is_empty_text
unexpected_here r a e n h =
    let k = and_parts (is_empty_text a.name.uri) (bytes_eq a.name.local required) n in
    let uri = no_text a.name.uri k.0 in
    let local = (bytes_eq-Decides a.name.local required).0 k.1 in
    let g : faults_of r [] a.name.local a.value ≡ [] =
    subst (λ u. faults_of r u a.name.local a.value ≡ []) uri h in
    let f : faults_of r [] required a.value ≡ [] =
    subst (λ l. faults_of r [] l a.value ≡ []) local g in
    refused r (is_expected r required) e f

not_required : (r : Row) (attributes : List Attribute) → is_expected r required ≡ false
    → each (name_faults r) attributes ≡ [] → is_required attributes ≡ false
unfolding is_yes
not_required r [] e h = refl
not_required r (a ∷ more) e h =
    go (is_named required a) refl
    (not_required r more e (back_nil (name_faults r a) (each (name_faults r) more) h))
  where
    go : (b : Bool) → is_named required a ≡ b → is_required more ≡ false
        → is_yes (cond b (Some a.value) (attribute more required)) ≡ false
    go true n others =
        absurd (unexpected_here r a e n (front_nil (name_faults r a) (each (name_faults r) more) h))
    go false n others = others

abbrev MayNot : XslElement → Type 0
MayNot e = is_expected (row_of e) required ≡ false

variable_not : MayNot element.Variable
unfolding is_expected
variable_not = refl

passed_not : MayNot element.WithParam
unfolding is_expected
passed_not = refl

never_required : (e : XslElement) → MayNot e → (attributes : List Attribute)
    → attribute_faults e attributes ≡ [] → is_required attributes ≡ false
unfolding attribute_faults
never_required e n attributes h =
    not_required (row_of e) attributes n (front_nil (each (name_faults (row_of e)) attributes) _ h)

pub variable_given : (attributes : List Attribute)
    → attribute_faults element.Variable attributes ≡ [] → is_required attributes ≡ false
variable_given attributes h = never_required element.Variable variable_not attributes h

pub passed_given : (attributes : List Attribute)
    → attribute_faults element.WithParam attributes ≡ [] → is_required attributes ≡ false
passed_given attributes h = never_required element.WithParam passed_not attributes h
