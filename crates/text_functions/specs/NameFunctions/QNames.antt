-- QNames and their parts (XQuery 1.0 and XPath 2.0 Functions and Operators, 11.1.2 and 11.2.2 to
-- 11.2.4).
use Rattle.std.specs.Prelude.{ℕ, List, [], ◌∷◌, Option, Some, None, Ok, Err, codes, if◌then◌else◌}
use Rattle.xt_names.specs.Allowed.{is_allowed_name, is_empty_text}
use Rattle.xt_names.specs.Classes.{is_ncname_text}
use Rattle.xt_names.specs.declared.codes.Code.TheVariants.{Dynamic}
use Rattle.xt_names.specs.declared.codes.DynamicCode.TheVariants.{FOCA0002}
use Rattle.xt_names.specs.declared.names.Name.{Name}
use Rattle.xt_atoms.specs.declared.atoms.Atom.TheVariants.{QName}
use Rattle.xdm_items.specs.declared.items.Item.{Item}
use Rattle.xdm_items.specs.declared.items.Item.TheVariants.{Atom}
use Rattle.xdm_items.specs.FunctionArguments.Answers.{of_optional_text}
use Rattle.xdm_items.specs.FunctionArguments.Arguments.{and_then, optional_name_argument, text_argument, text_or_empty_argument}
use Rattle.text_operations.specs.Searches.{text_before, text_after}
use Rattle.text_functions.specs.NameFunctions.NodeNames.{Outcome}

-- the name, where XML and its namespaces allow it
abbrev pub allowed_name : List ℕ → List ℕ → List ℕ → Option Name
allowed_name prefix uri local =
    if is_allowed_name prefix uri local then Some (record { prefix = prefix; uri = uri; local = local }) else None

-- with a colon in it a text spells a prefix
abbrev pub prefixed_name : List ℕ → List ℕ → List ℕ → Option Name
prefixed_name prefix uri local =
    if is_ncname_text prefix then allowed_name prefix uri local else None

abbrev pub name_of_parts : List ℕ → List ℕ → Option (List ℕ) → Option (List ℕ) → Option Name
name_of_parts uri text (Some prefix) (Some local) = prefixed_name prefix uri local
name_of_parts uri text (Some prefix) None = None
name_of_parts uri text None local = allowed_name [] uri text

-- the name that a text spells in the namespace; the first colon parts the prefix from the local
-- part
unfoldable pub spelled_name : List ℕ → List ℕ → Option Name
spelled_name uri text =
    name_of_parts uri text (text_before (codes ":") text) (text_after (codes ":") text)

abbrev pub named : Option Name → Outcome
named (Some name) = Ok (Atom (QName name) ∷ [])
named None = Err (Dynamic FOCA0002)

-- QName (11.1.2)
unfoldable pub qname_of : List Item → List Item → Outcome
qname_of uri name =
    and_then (text_or_empty_argument uri) (λ u. and_then (text_argument name) (λ text. named (spelled_name u text)))

-- an empty prefix is none
abbrev pub own_prefix : Name → Option (List ℕ)
own_prefix n = if is_empty_text n.prefix then None else Some n.prefix

abbrev pub prefix_part : Option Name → Option (List ℕ)
prefix_part None = None
prefix_part (Some n) = own_prefix n

abbrev pub local_part : Option Name → Option (List ℕ)
local_part None = None
local_part (Some n) = Some n.local

abbrev pub uri_part : Option Name → Option (List ℕ)
uri_part None = None
uri_part (Some n) = Some n.uri

-- prefix-from-QName, local-name-from-QName and namespace-uri-from-QName (11.2.2 to 11.2.4)
unfoldable pub prefix_from_qname_of : List Item → Outcome
prefix_from_qname_of argument =
    and_then (optional_name_argument argument) (λ n. Ok (of_optional_text (prefix_part n)))

unfoldable pub local_name_from_qname_of : List Item → Outcome
local_name_from_qname_of argument =
    and_then (optional_name_argument argument) (λ n. Ok (of_optional_text (local_part n)))

unfoldable pub namespace_uri_from_qname_of : List Item → Outcome
namespace_uri_from_qname_of argument =
    and_then (optional_name_argument argument) (λ n. Ok (of_optional_text (uri_part n)))
