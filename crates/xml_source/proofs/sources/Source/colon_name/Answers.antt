use Rattle.std.proofs.Common.{◌∙◌, sym}
use Rattle.xml_source.proofs.SpellLemmas.{colon_name_taken, colon_name_stops, colon_name_over}
use Rattle.xml_source.proofs.sources.Source.colon_name.Goals as goal

pub returns-in-Some-clause-reads : goal.returns-in-Some-clause-reads
returns-in-Some-clause-reads c = colon_name_taken c.in-Some.c _ _ _ c.in-Some.ensures (sym c.starts_colon_name.ensures ∙ c.if-starts_colon_name.true) c.take_run-name.ensures.run c.take_run-name.ensures.passes c.take_run-name.ensures.ends

pub returns-in_default-clause-reads : goal.returns-in_default-clause-reads
returns-in_default-clause-reads c = colon_name_stops c.in-Some.c _ c.in-Some.ensures (sym c.if-starts_colon_name.ensures)

pub returns-in_default-2-clause-reads : goal.returns-in_default-2-clause-reads
returns-in_default-2-clause-reads c = colon_name_over _ c.in_default.ensures
