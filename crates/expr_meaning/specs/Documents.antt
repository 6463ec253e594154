-- What doc() finds (XQuery 1.0 and XPath 2.0 Functions and Operators, 15.5.4).
use Rattle.std.specs.Prelude.{ℕ, List, [], ◌∷◌, Option, Some, None, Result, Ok, Err}
use Rattle.xt_names.specs.declared.codes.Code.{Code}
use Rattle.xt_names.specs.declared.codes.Code.TheVariants.{Dynamic}
use Rattle.xt_names.specs.declared.codes.DynamicCode.TheVariants.{FODC0002}
use Rattle.xt_tree.specs.Place.{Place}
use Rattle.doc_set.specs.Sets.{DocumentSet, root_named}
use Rattle.xdm_items.specs.declared.items.Item.{Item}
use Rattle.xdm_items.specs.declared.items.Item.TheVariants.{Node}

abbrev pub found_root : Option Place → Result (List Item) Code
found_root None = Err (Dynamic FODC0002)
found_root (Some root) = Ok (Node root ∷ [])

-- the root of the document that the set has under the name
unfoldable pub document_in : DocumentSet → List ℕ → Result (List Item) Code
document_in documents name = found_root (root_named name documents)
