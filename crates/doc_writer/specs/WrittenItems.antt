-- The text of items (Serialization, 2): they are joined as the content of a document, which is written.
use Rattle.std.specs.Prelude.{ℕ, List, Option, Some, None, option_and_then}
use Rattle.xt_tree.specs.TreeView.{forest_of}
use Rattle.xt_tree.specs.declared.trees.Tree.{Tree}
use Rattle.xt_tree.specs.declared.trees.Tree.TheVariants.{Doc}
use Rattle.xdm_items.specs.declared.items.Item.{Item}
use Rattle.node_builder.specs.Complex.{complex_content}
use Rattle.node_builder.specs.Made.{Made, Gives, Fails}
use Rattle.node_builder.specs.declared.contents.Content.{Content}
use Rattle.node_builder.specs.declared.kinds.Duplicates.TheVariants.{Refuse}
use Rattle.node_builder.specs.declared.kinds.Holder.TheVariants.{Document}
use Rattle.doc_writer.specs.Written.{written_tree, written_bare}

abbrev pub document_with : Made Content → Option Tree
document_with (Gives content) = Some (Doc (forest_of content.kids))
document_with (Fails code) = None

-- the document, or none where there is an attribute; it has no limit of levels or size
abbrev pub joined_document : List Item → Option Tree
joined_document items = document_with (complex_content Refuse Document items)

abbrev pub written_items : List Item → Option (List ℕ)
written_items items = option_and_then written_tree (joined_document items)

-- the same without the XML declaration
abbrev pub written_items_bare : List Item → Option (List ℕ)
written_items_bare items = option_and_then written_bare (joined_document items)
