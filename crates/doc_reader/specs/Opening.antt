-- What the code makes of a start tag.
use Rattle.std.specs.Prelude.{◌≡◌, ◌-◌, List, length, take, Some}
use Rattle.xt_names.specs.declared.names.Binding.{Binding}
use Rattle.doc_reader.specs.declared.scopes.OpenedTag.{OpenedTag}
use Rattle.doc_grammar.specs.RawNames.{RawTag}
use Rattle.doc_grammar.specs.Scopes.{opened, declarations}

-- the tag opens an element with these names, and the bindings outside of it are a front of those inside
pub record OpensTag (outer : List Binding) (tag : RawTag) (t : OpenedTag) (inner : List Binding) : Type 0 where
  pub opens : opened outer tag ≡ Some (record { name = t.element; attributes = t.attributes; scope = inner })
  pub front : take (length inner - length t.declarations) inner ≡ outer
  pub declared : t.declarations ≡ declarations tag.attributes
