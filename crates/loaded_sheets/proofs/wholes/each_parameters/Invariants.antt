use Rattle.std.proofs.Common.{◌≡◌, ◌++◌, drop, map}
use Rattle.loaded_sheets.specs.Wholes.{parameters_in}
use Rattle.loaded_sheets.proofs.wholes.each_parameters.Given as goal

abbrev pub invariant-loop-template : goal.invariant-loop-template
invariant-loop-template l =
    l.made ++ map parameters_in (drop l.template-index l.templates) ≡ map parameters_in l.templates
