use Rattle.std.proofs.Common.{◌∙◌}
use Rattle.doc_grammar.specs.Forms.{doctype_end}
use Rattle.xml_source.proofs.SpellLemmas.{skip_then, last_then, last_stops, subset_next, no_subset}
use Rattle.xml_source.proofs.sources.Source.doctype_end.Goals as goal

pub returns-then-eat-clause-reads : goal.returns-then-eat-clause-reads
returns-then-eat-clause-reads c = skip_then _ _ _ _ c.spaces-space.ensures.spaces c.spaces-space.ensures.ends (last_then doctype_end _ c.if-eat.ensures)

pub returns-then-is_next-clause-reads : goal.returns-then-is_next-clause-reads
returns-then-is_next-clause-reads c =
    skip_then _ _ _ _ c.spaces-space.ensures.spaces c.spaces-space.ensures.ends (last_stops doctype_end _ _ c.if-eat.ensures ∙ subset_next _ c.if-is_next.ensures)

pub returns-clause-reads : goal.returns-clause-reads
returns-clause-reads c =
    skip_then _ _ _ _ c.spaces-space.ensures.spaces c.spaces-space.ensures.ends (last_stops doctype_end _ _ c.if-eat.ensures ∙ no_subset _ c.if-is_next.ensures)
