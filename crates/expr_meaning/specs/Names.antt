-- Names that are computed (XQuery 1.0, 3.7.3.1, 3.7.3.2 and 3.7.3.5).
use Rattle.std.specs.Prelude.{ℕ, List, [], ◌∷◌, ◌&&◌, codes}
use Rattle.std.specs.Prelude.{if◌then◌else◌, Option, Some, None, Result, Ok, Err}
use Rattle.std.specs.Str.{bytes_eq, str_to_ascii_lowercase}
use Rattle.xt_names.specs.Allowed.{is_empty_text, xml_uri}
use Rattle.xt_names.specs.Classes.{is_ncname_text}
use Rattle.xt_names.specs.declared.codes.Code.{Code}
use Rattle.xt_names.specs.declared.codes.Code.TheVariants.{QueryDynamic}
use Rattle.xt_names.specs.declared.codes.QueryDynamicCode.TheVariants.{XQDY0041, XQDY0044}
use Rattle.xt_names.specs.declared.codes.QueryDynamicCode.TheVariants.{XQDY0064, XQDY0074}
use Rattle.xt_names.specs.declared.names.Name.{Name}
use Rattle.xt_names.specs.declared.names.Binding.{Binding as Namespace}
use Rattle.xt_atoms.specs.declared.atoms.Atom.{Atom as AtomValue}
use Rattle.xt_atoms.specs.declared.atoms.Atom.TheVariants as atom
use Rattle.xt_atoms.specs.AtomTexts.{lexical_qname}
use Rattle.fn_lib.specs.TextOperations.Searches.{text_before, text_after}
use Rattle.xdm_items.specs.declared.items.Item.{Item}
use Rattle.xdm_items.specs.FunctionArguments.Arguments.{and_then as result_then}
use Rattle.expr_meaning.specs.Outcomes.Outcome.{Outcome, Ends, and_then, step_outcome}
use Rattle.operator_values.specs.Operands.{atom_of}
use Rattle.expr_meaning.specs.Env.{Program, Env, Meaning}

-- the namespaces that every query has
unfoldable pub predeclared : List ℕ → List ℕ
predeclared prefix =
    if bytes_eq prefix (codes "xml") then xml_uri
    else if bytes_eq prefix (codes "xs") then codes "http://www.w3.org/2001/XMLSchema"
    else if bytes_eq prefix (codes "xsi") then codes "http://www.w3.org/2001/XMLSchema-instance"
    else if bytes_eq prefix (codes "fn") then codes "http://www.w3.org/2005/xpath-functions"
    else if bytes_eq prefix (codes "local")
    then codes "http://www.w3.org/2005/xquery-local-functions"
    else []

-- the uri of the first binding of the prefix, or of what every query has; empty where there is none
abbrev pub namespace_of : List Namespace → List ℕ → List ℕ
namespace_of [] prefix = predeclared prefix
namespace_of (b ∷ bs) prefix =
    if bytes_eq b.prefix prefix then b.uri else namespace_of bs prefix

abbrev pub no_name : Code
no_name = QueryDynamic XQDY0074

-- the name with a prefix that is declared
abbrev pub in_namespace : List ℕ → List ℕ → List ℕ → Result Name Code
in_namespace prefix uri local =
    if is_ncname_text local && is_ncname_text prefix then
    (if is_empty_text uri then Err no_name
    else Ok (record { prefix = prefix; uri = uri; local = local }))
    else Err no_name

abbrev pub without_prefix : List ℕ → List ℕ → Result Name Code
without_prefix default text =
    if is_ncname_text text then Ok (record { prefix = []; uri = default; local = text })
    else Err no_name

-- with a colon in it a text spells a prefix and a local part
abbrev pub name_of_parts : List Namespace → List ℕ → List ℕ → Option (List ℕ) →
    Option (List ℕ) → Result Name Code
name_of_parts namespaces default text (Some prefix) (Some local) =
    in_namespace prefix (namespace_of namespaces prefix) local
name_of_parts namespaces default text (Some prefix) None = Err no_name
name_of_parts namespaces default text None local = without_prefix default text

-- the name that the text spells; `default` is the namespace of one without a prefix
unfoldable pub name_of_text : List Namespace → List ℕ → List ℕ → Result Name Code
name_of_text namespaces default text =
    name_of_parts namespaces default text
    (text_before (codes ":") text) (text_after (codes ":") text)

-- one atom that is a name or a text
abbrev pub name_of_atom : List Namespace → List ℕ → AtomValue → Result Name Code
name_of_atom namespaces default (atom.QName name) = Ok name
name_of_atom namespaces default (atom.Str text) = name_of_text namespaces default text
name_of_atom namespaces default (atom.Untyped text) = name_of_text namespaces default text
name_of_atom namespaces default (atom.Int n) = Err no_name
name_of_atom namespaces default (atom.Bool t) = Err no_name

abbrev pub name_of_items : List Namespace → List ℕ → List Item → Result Name Code
name_of_items namespaces default [] = Err no_name
name_of_items namespaces default (x ∷ []) = name_of_atom namespaces default (atom_of x)
name_of_items namespaces default (x ∷ y ∷ xs) = Err no_name

-- no attribute is named xmlns
abbrev pub attribute_name : Name → Result Name Code
attribute_name name =
    if is_empty_text name.uri && bytes_eq name.local (codes "xmlns") then Err (QueryDynamic XQDY0044)
    else Ok name

-- the target of a processing instruction is an NCName, and not `xml` in any case
abbrev pub target_of_text : List ℕ → Result (List ℕ) Code
target_of_text text =
    if is_ncname_text text then
    (if bytes_eq (str_to_ascii_lowercase text) (codes "xml") then Err (QueryDynamic XQDY0064)
    else Ok text)
    else Err (QueryDynamic XQDY0041)

abbrev pub target_of_atom : AtomValue → Result (List ℕ) Code
target_of_atom (atom.QName name) = target_of_text (lexical_qname name.prefix name.local)
target_of_atom (atom.Str text) = target_of_text text
target_of_atom (atom.Untyped text) = target_of_text text
target_of_atom (atom.Int n) = Err (QueryDynamic XQDY0041)
target_of_atom (atom.Bool t) = Err (QueryDynamic XQDY0041)

abbrev pub target_of_items : List Item → Result (List ℕ) Code
target_of_items [] = Err (QueryDynamic XQDY0041)
target_of_items (x ∷ []) = target_of_atom (atom_of x)
target_of_items (x ∷ y ∷ xs) = Err (QueryDynamic XQDY0041)

-- a name as it stands, or computed
pub data NameMeaning : Type 0 where
  fixed : Name → NameMeaning
  computed : Meaning → NameMeaning

-- a name of an element, of an attribute, and a target, in each case checked
abbrev pub element_name_at : Program → NameMeaning → Env → ℕ → Outcome Name
element_name_at program (fixed name) env k = Ends name k
element_name_at program (computed m) env k =
    and_then (m env k) (λ xs j.
    step_outcome (name_of_items program.namespaces program.element_default xs) j)

abbrev pub attribute_name_at : Program → NameMeaning → Env → ℕ → Outcome Name
attribute_name_at program (fixed name) env k = step_outcome (attribute_name name) k
attribute_name_at program (computed m) env k =
    and_then (m env k) (λ xs j.
    step_outcome (result_then (name_of_items program.namespaces [] xs) attribute_name) j)

abbrev pub target_at : NameMeaning → Env → ℕ → Outcome (List ℕ)
target_at (fixed name) env k = step_outcome (target_of_text name.local) k
target_at (computed m) env k =
    and_then (m env k) (λ xs j. step_outcome (target_of_items xs) j)
