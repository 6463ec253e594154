use Rattle.std.proofs.Common.{◌∙◌}
use Rattle.xml_source.proofs.SpellLemmas.{unspaced_then, spaced_then, next_then, other_then}
use Rattle.xml_source.proofs.sources.Source.encoding_name.Goals as goal

pub returns-then-not-is_utf8_named-clause-reads : goal.returns-then-not-is_utf8_named-clause-reads
returns-then-not-is_utf8_named-clause-reads c = c.if-not-is_utf8_named.ensures.reads _ ∙ c.stop_in_encoding.ensures

pub returns-then-not-spaces-clause-reads : goal.returns-then-not-spaces-clause-reads
returns-then-not-spaces-clause-reads c = c.if-not-is_utf8_named.ensures.reads _ ∙ unspaced_then _ _ c.if-not-spaces.ensures.spaces c.if-not-spaces.ensures.ends c.declaration_end.ensures.reads

pub returns-then-is_next-clause-reads : goal.returns-then-is_next-clause-reads
returns-then-is_next-clause-reads c = c.if-not-is_utf8_named.ensures.reads _ ∙ spaced_then _ _ c.if-not-spaces.ensures.spaces c.if-not-spaces.ensures.ends (next_then _ _ _ _ c.if-is_next.ensures c.standalone.ensures.reads)

pub returns-clause-reads : goal.returns-clause-reads
returns-clause-reads c = c.if-not-is_utf8_named.ensures.reads _ ∙ spaced_then _ _ c.if-not-spaces.ensures.spaces c.if-not-spaces.ensures.ends (other_then _ _ _ _ c.if-is_next.ensures c.declaration_end-2.ensures.reads)
