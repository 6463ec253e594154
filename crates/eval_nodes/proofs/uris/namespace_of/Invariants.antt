use Rattle.std.proofs.Common.{◌≡◌, drop}
use Rattle.std.specs.Str.{chars}
use Rattle.expr_meaning.specs.Names.{namespace_of}
use Rattle.eval_nodes.proofs.uris.namespace_of.Given as goal

abbrev pub invariant-loop-binding : goal.invariant-loop-binding
invariant-loop-binding l =
    namespace_of (drop l.binding-index l.namespaces) (chars l.prefix)
    ≡ namespace_of l.namespaces (chars l.prefix)
