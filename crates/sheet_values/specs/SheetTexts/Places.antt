-- What is known where a text of a stylesheet stands.
use Rattle.std.specs.Prelude.{List, ◌++◌, true}
use Rattle.xt_names.specs.declared.names.Binding.{Binding}
use Rattle.sheet_values.specs.declared.sheet_texts.places.StaticContext.{StaticContext}

-- within an element with these declarations, which come before those around it
abbrev pub within : StaticContext → List Binding → StaticContext
within p own = record p { bound = own ++ p.bound }

-- within an xsl:for-each-group
abbrev pub grouped : StaticContext → StaticContext
grouped p = record p { in_group = true }
