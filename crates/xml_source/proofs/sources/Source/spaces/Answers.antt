use Rattle.std.proofs.Common.{sym, ◌∙◌}
use Rattle.xml_source.proofs.ScanLemmas.{begun, begun_spaces}
use Rattle.xml_source.proofs.sources.Source.spaces.Goals as goal
use Rattle.xt_names.specs.Characters.{is_space}

pub returns-in-Some-clause-spaces : goal.returns-in-Some-clause-spaces
returns-in-Some-clause-spaces c =
    let space = sym c.has.ensures ∙ c.if-has.true in
    begun_spaces c.in-Some.c _ _ _ space
    (begun is_space c.in-Some.c _ _ _ c.in-Some.ensures space c.take_run-spaces.ensures.run c.take_run-spaces.ensures.passes c.take_run-spaces.ensures.ends)
