use Rattle.std.proofs.Common.{refl}
use Rattle.doc_grammar.specs.Lexing.{letter_a}
use Rattle.xml_source.proofs.ReferenceLemmas.{begins_name, some_left, rest_p, rest_os, letter_stops}
use Rattle.xml_source.proofs.sources.Source.entity_of_a.Goals as goal

pub spelled-requires : goal.spelled-requires
spelled-requires c = some_left _ _ _ rest_p

pub returns-then-eat-clause-reads : goal.returns-then-eat-clause-reads
returns-then-eat-clause-reads c = begins_name letter_a 109 38 _ _ _ _ _ _ c.spelled.result refl rest_p refl c.if-eat.ensures _ c.spelled.ensures.reads

pub spelled-requires-then-eat-2 : goal.spelled-requires-then-eat-2
spelled-requires-then-eat-2 c = some_left _ _ _ rest_os

pub returns-then-eat-2-clause-reads : goal.returns-then-eat-2-clause-reads
returns-then-eat-2-clause-reads c =
    begins_name letter_a 112 39 _ _ _ _ _ _ c.spelled-then-eat-2.result refl rest_os c.if-eat.ensures.0 c.if-eat-2.ensures _ c.spelled-then-eat-2.ensures.reads

pub returns-clause-reads : goal.returns-clause-reads
returns-clause-reads c = letter_stops _ _ _ _ c.if-eat.ensures c.if-eat-2.ensures c.stop_in_entity.ensures
