use Rattle.std.proofs.Common.{◌≡◌, ◌++◌, drop, map}
use Rattle.raw_laws.specs.CleanRaws.Keeps.{attr_names, kept_attr}
use Rattle.kept_rules.proofs.attributes.names_of.Given as goal

abbrev pub invariant-loop-attr : goal.invariant-loop-attr
invariant-loop-attr l =
    l.names ++ attr_names (map kept_attr (drop l.attr-index l.attrs))
    ≡ attr_names (map kept_attr l.attrs)
