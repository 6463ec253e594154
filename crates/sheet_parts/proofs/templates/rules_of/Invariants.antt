use Rattle.std.proofs.Common.{◌≡◌, ◌++◌, length}
use Rattle.sheet_parts.specs.Templates.{rules_of}
use Rattle.sheet_parts.proofs.templates.rules_of.Given as goal

abbrev pub invariant-loop-pattern : goal.invariant-loop-pattern
invariant-loop-pattern g l =
    l.made ++ rules_of (g.R.Reader.reads l.reader) l.modes l.priority l.left.items
    ≡ rules_of (g.R.Reader.reads l.reader) l.modes l.priority l.fn.patterns

abbrev pub decreases-loop-pattern : goal.decreases-loop-pattern
decreases-loop-pattern g l = length l.left.items
