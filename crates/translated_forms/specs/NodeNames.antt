-- Names of elements, attributes and processing instructions (XSLT 2.0, 11.1, 11.2, 11.3 and 11.6).
use Rattle.std.specs.Prelude.{ℕ, List, [], ◌∷◌, ◌++◌, Bool, not, ◌&&◌, ◌||◌, codes}
use Rattle.std.specs.Prelude.{if◌then◌else◌, Option, Some, None, option_map}
use Rattle.std.specs.Result.{result_ok}
use Rattle.std.specs.Str.{bytes_eq}
use Rattle.xt_names.specs.Allowed.{is_empty_text}
use Rattle.xt_names.specs.declared.names.Binding.{Binding}
use Rattle.xt_names.specs.declared.names.Name.{Name}
use Rattle.xt_atoms.specs.AtomTexts.{lexical_qname}
use Rattle.xt_syntax.specs.declared.exprs.Arm.{Arm}
use Rattle.xt_syntax.specs.declared.exprs.Expr.{Expr}
use Rattle.xt_syntax.specs.declared.exprs.NameSource.{NameSource}
use Rattle.xt_syntax.specs.declared.exprs.Clause.TheViews.{roll-NameSource}
use Rattle.xt_syntax.specs.declared.exprs.Clause.TheOpen.{Fixed, Computed}
use Rattle.xt_sheets.specs.declared.values.AvtName.{AvtName}
use Rattle.transform_meaning.specs.Names.{attribute_name, element_name, target_name}
use Rattle.carried_exprs.specs.Sights.{variable_of, library_call}
use Rattle.translated_forms.specs.Names.{text_name}
use Rattle.translated_forms.specs.Forms.{text_literal, let_in, arm_of, if_many, failing}
use Rattle.translated_forms.specs.Texts.{Carry, Template, fixed_text, template_text}
use Rattle.xt_names.specs.ExprNames.{uri_of}

abbrev pub qname_call : Expr → Expr → Expr
qname_call uri text = library_call (codes "QName") (uri ∷ text ∷ [])

-- A name is written as it is where the query resolves it so, and is computed otherwise.
abbrev pub is_fixed : List Binding → Name → Bool
is_fixed prefixes n =
    is_empty_text n.uri
    || (not (is_empty_text n.prefix) && bytes_eq (uri_of prefixes n.prefix) n.uri)

abbrev pub fixed : Name → NameSource
fixed n = roll-NameSource (Fixed n)

abbrev pub computed : Expr → NameSource
computed e = roll-NameSource (Computed e)

unfoldable pub name_source : List Binding → Name → NameSource
name_source prefixes n =
    if is_fixed prefixes n then fixed n
    else computed (qname_call (text_literal n.uri) (text_literal (lexical_qname n.prefix n.local)))

-- The name of a text that is evaluated: its uri is that of the first prefix with which it begins, and
-- one without a prefix has the default. Where the text is no name, the library refuses it.
abbrev pub the_text : Expr
the_text = variable_of text_name

abbrev pub uri_or_failure : List ℕ → Expr
uri_or_failure uri = if is_empty_text uri then failing else text_literal uri

abbrev pub prefix_arm : Binding → Arm
prefix_arm b =
    arm_of (
      library_call (codes "starts-with")
          (the_text ∷ text_literal (b.prefix ++ codes ":") ∷ []),
      uri_or_failure b.uri,
    )

abbrev pub other_prefix : Arm
other_prefix =
    arm_of (library_call (codes "contains") (the_text ∷ text_literal (codes ":") ∷ []), failing)

abbrev pub arm_before : Binding → List Arm → List Arm
arm_before b arms = if is_empty_text b.prefix then arms else prefix_arm b ∷ arms

abbrev pub prefix_arms : List Binding → List Arm
prefix_arms [] = other_prefix ∷ []
prefix_arms (b ∷ bs) = arm_before b (prefix_arms bs)

unfoldable pub name_of_text : List Binding → List ℕ → Expr → Expr
name_of_text scope default text =
    let_in text_name text
    (qname_call (if_many (prefix_arms scope) (text_literal default)) the_text)

-- the source of a name; none where the text is fixed and spells no name
abbrev pub of_spelled : List Binding → Option Name → Option NameSource
of_spelled prefixes None = None
of_spelled prefixes (Some n) = Some (name_source prefixes n)

abbrev pub of_text : List Binding → (List ℕ → Option Name) → Expr → Option (List ℕ) →
    Option NameSource
of_text prefixes spells computing (Some text) = of_spelled prefixes (spells text)
of_text prefixes spells computing None = Some (computed computing)

-- the name that a text spells in a stylesheet, if it spells one
abbrev pub element_spelled : List Binding → List ℕ → List ℕ → Option Name
element_spelled scope default text = result_ok (element_name scope default text)

unfoldable pub element_source : List Binding → Carry → AvtName Expr → Option NameSource
element_source prefixes carry n =
    of_text prefixes (element_spelled n.scope n.default_uri)
    (name_of_text n.scope n.default_uri (template_text carry n.text)) (fixed_text n.text)

abbrev pub attribute_spelled : List Binding → List ℕ → Option Name
attribute_spelled scope text = result_ok (attribute_name scope text)

unfoldable pub attribute_source : List Binding → Carry → AvtName Expr → Option NameSource
attribute_source prefixes carry n =
    of_text prefixes (attribute_spelled n.scope)
    (name_of_text n.scope [] (template_text carry n.text)) (fixed_text n.text)

-- a target is a name without a prefix
abbrev pub bare_name : List ℕ → Name
bare_name text = record { prefix = []; uri = []; local = text }

abbrev pub target_spelled : List ℕ → Option Name
target_spelled text = option_map bare_name (result_ok (target_name text))

unfoldable pub target_source : Carry → Template → Option NameSource
target_source carry name =
    of_text [] target_spelled (template_text carry name) (fixed_text name)
