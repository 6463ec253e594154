use Rattle.std.proofs.Common.{◌≡◌, ◌++◌, drop, map}
use Rattle.sheet_assembly.specs.Templates.{template_at}
use Rattle.sheet_assembly.proofs.templates.push_called.Given as goal

abbrev pub invariant-loop-place : goal.invariant-loop-place
invariant-loop-place l =
    l.made ++ map (template_at l.standing) (drop l.place-index l.places)
    ≡ l.initial.made ++ map (template_at l.standing) l.places
