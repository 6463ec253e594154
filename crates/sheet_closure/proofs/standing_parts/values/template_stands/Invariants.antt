use Rattle.std.proofs.Common.{◌≡◌, drop}
use Rattle.std.specs.List.{list_all}
use Rattle.sheet_closure.specs.StandingParts.Values.{part_stands}
use Rattle.sheet_closure.proofs.standing_parts.values.template_stands.Given as goal

abbrev pub invariant-loop-part : goal.invariant-loop-part
invariant-loop-part l =
    list_all (part_stands l.grouped) (drop l.part-index l.parts)
    ≡ list_all (part_stands l.grouped) l.parts
