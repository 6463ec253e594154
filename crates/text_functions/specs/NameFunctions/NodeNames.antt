-- The names of nodes (XQuery 1.0 and XPath 2.0 Functions and Operators, 2.1 and 14.1 to 14.3;
-- XDM, 5.11).
use Rattle.std.specs.Prelude.{ℕ, List, [], ◌∷◌, Option, Some, None, option_and_then, Result, Ok}
use Rattle.xt_names.specs.declared.codes.Code.{Code}
use Rattle.xt_names.specs.declared.names.Name.{Name}
use Rattle.xt_tree.specs.Kinds.{name_of as name_of_tree, target_of}
use Rattle.xt_tree.specs.Place.{Place, subtree_of}
use Rattle.xt_atoms.specs.AtomTexts.{text_of}
use Rattle.xt_atoms.specs.declared.atoms.Atom.TheVariants.{QName}
use Rattle.xdm_items.specs.declared.items.Item.{Item}
use Rattle.xdm_items.specs.declared.items.Item.TheVariants.{Atom}
use Rattle.xdm_items.specs.FunctionArguments.Answers.{of_text}
use Rattle.xdm_items.specs.FunctionArguments.Arguments.{and_then, optional_node_argument}

-- the sequence that a call gives, or its error
abbrev pub Outcome : Type 0
Outcome = Result (List Item) Code

-- the target of a processing instruction is its local name, without a uri
abbrev pub target_name : List ℕ → Name
target_name target = record { prefix = []; uri = []; local = target }

abbrev pub name_or_target : Option Name → Option (List ℕ) → Option Name
name_or_target (Some name) target = Some name
name_or_target None (Some target) = Some (target_name target)
name_or_target None None = None

-- the name of a node: elements, attributes and processing instructions have one
unfoldable pub place_name : Place → Option Name
place_name n =
    name_or_target (option_and_then name_of_tree (subtree_of n)) (option_and_then target_of (subtree_of n))

-- the name of the node that the argument is, if there is one
unfoldable pub argument_name : List Item → Result (Option Name) Code
argument_name argument =
    and_then (optional_node_argument argument) (λ n. Ok (option_and_then place_name n))

-- `prefix:local`, or `local` where there is no prefix
abbrev pub lexical : Option Name → List ℕ
lexical None = []
lexical (Some n) = text_of (QName n)

abbrev pub local_text : Option Name → List ℕ
local_text None = []
local_text (Some n) = n.local

abbrev pub uri_text : Option Name → List ℕ
uri_text None = []
uri_text (Some n) = n.uri

abbrev pub of_optional_name : Option Name → List Item
of_optional_name None = []
of_optional_name (Some n) = Atom (QName n) ∷ []

-- name (14.1)
unfoldable pub name_of : List Item → Outcome
name_of argument = and_then (argument_name argument) (λ n. Ok (of_text (lexical n)))

-- local-name (14.2)
unfoldable pub local_name_of : List Item → Outcome
local_name_of argument = and_then (argument_name argument) (λ n. Ok (of_text (local_text n)))

-- namespace-uri (14.3)
unfoldable pub namespace_uri_of : List Item → Outcome
namespace_uri_of argument = and_then (argument_name argument) (λ n. Ok (of_text (uri_text n)))

-- node-name (2.1)
unfoldable pub node_name_of : List Item → Outcome
node_name_of argument = and_then (argument_name argument) (λ n. Ok (of_optional_name n))
