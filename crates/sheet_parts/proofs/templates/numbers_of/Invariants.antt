use Rattle.std.proofs.Common.{◌≡◌, ◌++◌, drop}
use Rattle.sheet_parts.specs.Templates.{numbers_of}
use Rattle.sheet_parts.proofs.templates.numbers_of.Given as goal

abbrev pub invariant-loop-name : goal.invariant-loop-name
invariant-loop-name l = l.made ++ numbers_of l.table (drop l.name-index l.names) ≡ numbers_of l.table l.names
