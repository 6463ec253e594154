use Rattle.std.proofs.Common.{sym, ◌∙◌}
use Rattle.xml_source.proofs.ScanLemmas.{begun, begun_name}
use Rattle.xml_source.proofs.sources.Source.ncname.Goals as goal
use Rattle.xt_names.specs.Characters.{is_name_char}
use Rattle.xt_names.proofs.CharacterLemmas.{name_starts}

pub returns-in-Some-clause-name : goal.returns-in-Some-clause-name
returns-in-Some-clause-name c =
    let starts = sym c.starts_name.ensures ∙ c.if-starts_name.true in
    begun_name c.in-Some.c _ _ _ starts c.take_run.ensures.ends
    (begun is_name_char c.in-Some.c _ _ _ c.in-Some.ensures (name_starts c.in-Some.c starts) c.take_run.ensures.run c.take_run.ensures.passes c.take_run.ensures.ends)
