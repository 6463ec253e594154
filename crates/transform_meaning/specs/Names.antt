-- Names that are computed (XSLT 2.0, 11.2, 11.3 and 11.6).
use Rattle.std.specs.Prelude.{ℕ, List, [], ◌&&◌, codes, if◌then◌else◌}
use Rattle.std.specs.Prelude.{Option, Some, None, Result, Ok, Err}
use Rattle.std.specs.Str.{bytes_eq, str_to_ascii_lowercase}
use Rattle.xt_names.specs.Allowed.{is_empty_text}
use Rattle.xt_names.specs.Classes.{is_ncname_text}
use Rattle.xt_names.specs.declared.codes.Code.{Code}
use Rattle.xt_names.specs.declared.codes.Code.TheVariants.{SheetDynamic}
use Rattle.xt_names.specs.declared.codes.SheetDynamicCode.TheVariants.{XTDE0820, XTDE0830}
use Rattle.xt_names.specs.declared.codes.SheetDynamicCode.TheVariants.{XTDE0850, XTDE0855}
use Rattle.xt_names.specs.declared.codes.SheetDynamicCode.TheVariants.{XTDE0860, XTDE0890}
use Rattle.xt_names.specs.declared.names.Name.{Name}
use Rattle.xt_names.specs.declared.names.Binding.{Binding as Namespace}
use Rattle.fn_lib.specs.TextOperations.Searches.{text_before, text_after}
use Rattle.expr_meaning.specs.Outcomes.Outcome.{Outcome, and_then, step_outcome}
use Rattle.expr_meaning.specs.Env.{Env}
use Rattle.transform_meaning.specs.Texts.{TextMeaning}
use Rattle.xt_names.specs.ExprNames.{uri_of}

-- what gives a name
abbrev pub NameMeaning : Type 0
NameMeaning = Env → ℕ → Outcome Name

-- a name with a prefix, which is to be declared
abbrev pub declared_name : Code → List ℕ → List ℕ → List ℕ → Result Name Code
declared_name undeclared prefix uri local =
    if is_empty_text uri then Err undeclared
    else Ok (record { prefix = prefix; uri = uri; local = local })

abbrev pub prefixed_name : Code → Code → List Namespace → List ℕ → List ℕ → Result Name Code
prefixed_name no_name undeclared scope prefix local =
    if is_ncname_text prefix && is_ncname_text local
    then declared_name undeclared prefix (uri_of scope prefix) local
    else Err no_name

abbrev pub plain_name : Code → List ℕ → List ℕ → Result Name Code
plain_name no_name uri local =
    if is_ncname_text local then Ok (record { prefix = []; uri = uri; local = local })
    else Err no_name

-- with a colon in it a text spells a prefix and a local part; `uri` is that of a name without prefix
abbrev pub name_of_parts : Code → Code → List Namespace → List ℕ → List ℕ → Option (List ℕ) →
    Option (List ℕ) → Result Name Code
name_of_parts no_name undeclared scope uri text (Some prefix) (Some local) =
    prefixed_name no_name undeclared scope prefix local
name_of_parts no_name undeclared scope uri text (Some prefix) None = Err no_name
name_of_parts no_name undeclared scope uri text None local = plain_name no_name uri text

unfoldable pub spelled_name : Code → Code → List Namespace → List ℕ → List ℕ → Result Name Code
spelled_name no_name undeclared scope uri text =
    name_of_parts no_name undeclared scope uri text
    (text_before (codes ":") text) (text_after (codes ":") text)

-- the name of an element
abbrev pub element_name : List Namespace → List ℕ → List ℕ → Result Name Code
element_name scope default text =
    spelled_name (SheetDynamic XTDE0820) (SheetDynamic XTDE0830) scope default text

-- the name of an attribute, which has no uri without a prefix, and is not xmlns
abbrev pub attribute_name : List Namespace → List ℕ → Result Name Code
attribute_name scope text =
    if bytes_eq text (codes "xmlns") then Err (SheetDynamic XTDE0855)
    else spelled_name (SheetDynamic XTDE0850) (SheetDynamic XTDE0860) scope [] text

-- the target of a processing instruction: an NCName, and not `xml` in any case
unfoldable pub target_name : List ℕ → Result (List ℕ) Code
target_name text =
    if is_ncname_text text then
    (if bytes_eq (str_to_ascii_lowercase text) (codes "xml") then Err (SheetDynamic XTDE0890)
    else Ok text)
    else Err (SheetDynamic XTDE0890)

-- the text of a name, as it is evaluated, and the name that it spells
abbrev pub element_named : List Namespace → List ℕ → TextMeaning → NameMeaning
element_named scope default text env k =
    and_then (text env k) (λ t j. step_outcome (element_name scope default t) j)

abbrev pub attribute_named : List Namespace → TextMeaning → NameMeaning
attribute_named scope text env k =
    and_then (text env k) (λ t j. step_outcome (attribute_name scope t) j)

abbrev pub target_named : TextMeaning → TextMeaning
target_named text env k = and_then (text env k) (λ t j. step_outcome (target_name t) j)
