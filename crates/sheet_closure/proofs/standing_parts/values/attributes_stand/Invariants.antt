use Rattle.std.proofs.Common.{◌≡◌, drop}
use Rattle.std.specs.List.{list_all}
use Rattle.sheet_closure.specs.StandingParts.Values.{attribute_stands}
use Rattle.sheet_closure.proofs.standing_parts.values.attributes_stand.Given as goal

abbrev pub invariant-loop-attr : goal.invariant-loop-attr
invariant-loop-attr l =
    list_all (attribute_stands l.grouped) (drop l.attr-index l.all)
    ≡ list_all (attribute_stands l.grouped) l.all
