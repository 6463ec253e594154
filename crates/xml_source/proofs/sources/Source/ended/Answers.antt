use Rattle.std.proofs.Common.{sym, ◌∙◌}
use Rattle.xml_source.specs.References.{base_view}
use Rattle.xml_source.proofs.ReferenceLemmas.{number_ends, number_refused}
use Rattle.xml_source.proofs.sources.Source.ended.Goals as goal

pub returns-then-not-is_char-clause-reads : goal.returns-then-not-is_char-clause-reads
returns-then-not-is_char-clause-reads c = number_refused (base_view c.args.base) c.args.c _ c.requires (sym c.is_char.ensures ∙ c.if-not-is_char.true)

pub returns-clause-reads : goal.returns-clause-reads
returns-clause-reads c = number_ends (base_view c.args.base) c.args.c _ _ c.skip-end.result c.requires c.skip-end.ensures (sym c.is_char.ensures ∙ c.if-not-is_char.false)
