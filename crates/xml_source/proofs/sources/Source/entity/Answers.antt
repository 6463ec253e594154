use Rattle.std.proofs.Common.{refl, ◌∙◌}
use Rattle.doc_grammar.specs.Lexing.{ampersand}
use Rattle.xml_source.proofs.ReferenceLemmas.{result_from, begins_a, begins_name, some_left, rest_t, rest_uot, entity_stops}
use Rattle.xml_source.proofs.sources.Source.entity.Goals as goal

pub returns-then-eat-clause-reads : goal.returns-then-eat-clause-reads
returns-then-eat-clause-reads c = result_from _ _ _ c.entity_of_a.result (begins_a _ _ c.if-eat.ensures) c.entity_of_a.ensures.reads

pub spelled-requires : goal.spelled-requires
spelled-requires c = some_left _ _ _ rest_t

pub returns-then-eat-2-clause-reads : goal.returns-then-eat-2-clause-reads
returns-then-eat-2-clause-reads c =
    begins_name ampersand 108 60 _ _ _ _ _ _ c.spelled.result refl rest_t c.if-eat.ensures.0 c.if-eat-2.ensures _ c.spelled.ensures.reads

pub spelled-requires-then-eat-3 : goal.spelled-requires-then-eat-3
spelled-requires-then-eat-3 c = some_left _ _ _ rest_t

pub returns-then-eat-3-clause-reads : goal.returns-then-eat-3-clause-reads
returns-then-eat-3-clause-reads c =
    begins_name ampersand 103 62 _ _ _ _ _ _ c.spelled-then-eat-3.result refl rest_t (c.if-eat-2.ensures.0 ∙ c.if-eat.ensures.0) c.if-eat-3.ensures _ c.spelled-then-eat-3.ensures.reads

pub spelled-requires-then-eat-4 : goal.spelled-requires-then-eat-4
spelled-requires-then-eat-4 c = some_left _ _ _ rest_uot

pub returns-then-eat-4-clause-reads : goal.returns-then-eat-4-clause-reads
returns-then-eat-4-clause-reads c =
    begins_name ampersand 113 34 _ _ _ _ _ _ c.spelled-then-eat-4.result refl rest_uot (c.if-eat-3.ensures.0 ∙ c.if-eat-2.ensures.0 ∙ c.if-eat.ensures.0) c.if-eat-4.ensures _ c.spelled-then-eat-4.ensures.reads

pub returns-clause-reads : goal.returns-clause-reads
returns-clause-reads c =
    entity_stops _ _ _ _ _ _ c.requires c.if-eat.ensures c.if-eat-2.ensures c.if-eat-3.ensures c.if-eat-4.ensures c.stop_at_name.ensures
