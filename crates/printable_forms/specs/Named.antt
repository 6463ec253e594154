-- Names of constructors that can be printed: given, as tokens of a class, or computed.
use Rattle.std.specs.Prelude.{ℕ, Bool, List, is_some}
use Rattle.xt_names.specs.declared.names.Binding.{Binding}
use Rattle.expr_keys.specs.declared.productions.Class.{Class}
use Rattle.expr_raws.specs.ElementRaws.Makers.{NameForm, fixed, computed, node_token}

abbrev pub named_can : Class → List Binding → List ℕ → NameForm → Bool
named_can c bound default (fixed n) = is_some (node_token c bound default n)
named_can c bound default (computed f) = f.can
