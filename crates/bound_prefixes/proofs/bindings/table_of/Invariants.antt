use Rattle.std.proofs.Common.{◌≡◌, ℕ, List, drop}
use Rattle.std.specs.HashMap.{get}
use Rattle.std.specs.Str.{bytes_eq}
use Rattle.bound_prefixes.specs.First.{first_uri, or_later}
use Rattle.bound_prefixes.proofs.bindings.table_of.Given as goal

abbrev pub invariant-loop-binding : goal.invariant-loop-binding
invariant-loop-binding l = (prefix : List ℕ)
    → or_later (get bytes_eq l.table prefix) (first_uri (drop l.binding-index l.bindings) prefix)
    ≡ first_uri l.bindings prefix
