-- Names of keys as texts (XSLT 2.0, 16.3).
use Rattle.std.specs.Prelude.{ℕ, List, []}
use Rattle.xt_names.specs.declared.names.ExprName.{ExprName}

-- a text as a name without uri
abbrev pub as_name : List ℕ → ExprName
as_name text = record { uri = []; local = text }
