use Rattle.std.proofs.Common.{◌≡◌, ℕ, List, drop}
use Rattle.std.specs.HashMap.{get}
use Rattle.std.specs.Str.{bytes_eq}
use Rattle.bound_prefixes.specs.First.{or_later}
use Rattle.expr_drafts.specs.NamePrefixes.Firsts.{first_prefix, prefix_of}
use Rattle.expr_drafts.proofs.name_prefixes.tables.table_of.Given as goal

abbrev pub invariant-loop-binding : goal.invariant-loop-binding
invariant-loop-binding l = (uri : List ℕ)
    → or_later (get bytes_eq l.table uri)
    (first_prefix l.bound (drop l.binding-index l.bound) uri)
    ≡ prefix_of l.bound uri
