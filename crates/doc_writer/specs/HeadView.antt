-- A start tag as a stack of bindings and a list of prefixes show it.
use Rattle.std.specs.Prelude.{ℕ, List, drop}
use Rattle.xt_names.specs.declared.names.Binding.{Binding}
use Rattle.doc_writer.specs.Heads.{Head}

-- the element's declarations stand from the place on
abbrev pub head_at : ℕ → List Binding → List (List ℕ) → Head
head_at place scope used = record { scope = scope; declared = drop place scope; used = used }
