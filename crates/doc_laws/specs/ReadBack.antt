-- What it means that what is written is read back.
use Rattle.std.specs.Prelude.{◌≡◌, ℕ, List, ◌++◌, true, Option, Some}
use Rattle.xt_names.specs.Classes.{is_xml_text}
use Rattle.xt_names.specs.declared.names.Binding.{Binding}
use Rattle.xt_tree.specs.declared.trees.Tree.{Tree}
use Rattle.doc_grammar.specs.Document.{Rules, Content, IsDocument}
use Rattle.doc_writer.specs.Escapes.{escaped_text}
use Rattle.doc_writer.specs.Readable.{is_readable, as_written}

-- after the characters `front` of a text, what is written for a text says that text: whatever number of `]` it ends with,
-- what follows has the whole before it
abbrev pub TextsReadBack : Type 0
TextsReadBack =
    (rules : Rules) (k n : ℕ) (scope : List Binding) (front text ts rest : List ℕ) (kids : List Tree) → is_xml_text text ≡ true
    → ((m : ℕ) → Content rules k scope m (front ++ text) ts kids rest) → Content rules k scope n front (escaped_text text ++ ts) kids rest

-- the bytes that are written so for a readable tree are a document, which stands for the tree with the prefixes that are written
abbrev pub DocumentsReadBack : (Tree → Option (List ℕ)) → Type 0
DocumentsReadBack written = (t : Tree) (bytes : List ℕ) → is_readable t ≡ true → written t ≡ Some bytes → IsDocument bytes (as_written t)
