use Rattle.std.proofs.Common.{◌≡◌, drop}
use Rattle.loaded_sheets.specs.LoadedParts.Names.{with_levels_of, names_alone}
use Rattle.loaded_sheets.proofs.loaded_parts.names.collect_all.Given as goal

abbrev pub invariant-loop-level : goal.invariant-loop-level
invariant-loop-level l =
    with_levels_of l.modules (drop l.level-index l.levels) l.names
    ≡ with_levels_of l.modules l.levels names_alone
