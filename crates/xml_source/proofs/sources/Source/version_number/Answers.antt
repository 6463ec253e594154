use Rattle.std.proofs.Common.{refl}
use Rattle.doc_grammar.specs.Forms.{elsewhere}
use Rattle.xml_source.proofs.SpellLemmas.{literal_then, literal_stops, some_then, some_stops, eat_then, eat_stops, unspaced_then, spaced_then, next_then, other_then}
use Rattle.xml_source.proofs.sources.Source.version_number.Goals as goal

pub returns-then-not-eat_text-clause-reads : goal.returns-then-not-eat_text-clause-reads
returns-then-not-eat_text-clause-reads c = literal_stops elsewhere _ _ refl c.if-not-eat_text.ensures.eaten

pub returns-then-is_empty-clause-reads : goal.returns-then-is_empty-clause-reads
returns-then-is_empty-clause-reads c = literal_then elsewhere _ _ _ refl c.if-not-eat_text.ensures.eaten (some_stops _ _ _ c.take_run.result.now c.if-is_empty.ensures c.take_run.ensures.run c.take_run.ensures.ends)

pub returns-then-not-eat-clause-reads : goal.returns-then-not-eat-clause-reads
returns-then-not-eat-clause-reads c = literal_then elsewhere _ _ _ refl c.if-not-eat_text.ensures.eaten (some_then _ _ _ c.take_run.result.now _ c.if-is_empty.ensures c.take_run.utf8 c.take_run.ensures.run c.take_run.ensures.passes c.take_run.ensures.ends (eat_stops elsewhere _ _ _ c.if-not-eat.ensures))

pub returns-then-not-spaces-clause-reads : goal.returns-then-not-spaces-clause-reads
returns-then-not-spaces-clause-reads c = literal_then elsewhere _ _ _ refl c.if-not-eat_text.ensures.eaten (some_then _ _ _ c.take_run.result.now _ c.if-is_empty.ensures c.take_run.utf8 c.take_run.ensures.run c.take_run.ensures.passes c.take_run.ensures.ends (eat_then elsewhere _ _ c.if-not-eat.ensures (unspaced_then _ _ c.if-not-spaces.ensures.spaces c.if-not-spaces.ensures.ends c.declaration_end.ensures.reads)))

pub returns-then-is_next-clause-reads : goal.returns-then-is_next-clause-reads
returns-then-is_next-clause-reads c = literal_then elsewhere _ _ _ refl c.if-not-eat_text.ensures.eaten (some_then _ _ _ c.take_run.result.now _ c.if-is_empty.ensures c.take_run.utf8 c.take_run.ensures.run c.take_run.ensures.passes c.take_run.ensures.ends (eat_then elsewhere _ _ c.if-not-eat.ensures (spaced_then _ _ c.if-not-spaces.ensures.spaces c.if-not-spaces.ensures.ends (next_then _ _ _ _ c.if-is_next.ensures c.encoding_declaration.ensures.reads))))

pub returns-then-is_next-2-clause-reads : goal.returns-then-is_next-2-clause-reads
returns-then-is_next-2-clause-reads c = literal_then elsewhere _ _ _ refl c.if-not-eat_text.ensures.eaten (some_then _ _ _ c.take_run.result.now _ c.if-is_empty.ensures c.take_run.utf8 c.take_run.ensures.run c.take_run.ensures.passes c.take_run.ensures.ends (eat_then elsewhere _ _ c.if-not-eat.ensures (spaced_then _ _ c.if-not-spaces.ensures.spaces c.if-not-spaces.ensures.ends (other_then _ _ _ _ c.if-is_next.ensures (next_then _ _ _ _ c.if-is_next-2.ensures c.standalone.ensures.reads)))))

pub returns-clause-reads : goal.returns-clause-reads
returns-clause-reads c = literal_then elsewhere _ _ _ refl c.if-not-eat_text.ensures.eaten (some_then _ _ _ c.take_run.result.now _ c.if-is_empty.ensures c.take_run.utf8 c.take_run.ensures.run c.take_run.ensures.passes c.take_run.ensures.ends (eat_then elsewhere _ _ c.if-not-eat.ensures (spaced_then _ _ c.if-not-spaces.ensures.spaces c.if-not-spaces.ensures.ends (other_then _ _ _ _ c.if-is_next.ensures (other_then _ _ _ _ c.if-is_next-2.ensures c.declaration_end-2.ensures.reads)))))
