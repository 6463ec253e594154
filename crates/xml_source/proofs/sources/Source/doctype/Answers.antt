use Rattle.std.proofs.Common.{refl, ◌∙◌}
use Rattle.doc_grammar.specs.Forms.{elsewhere}
use Rattle.doc_grammar.specs.Prolog.{doctype_declaration}
use Rattle.xml_source.proofs.SpellLemmas.{literal_then, literal_stops, space_then, space_stops, unspaced_then, spaced_then, next_then, other_then}
use Rattle.xml_source.proofs.sources.Source.doctype.Goals as goal

pub returns-then-not-eat_text-clause-reads : goal.returns-then-not-eat_text-clause-reads
unfolding doctype_declaration
returns-then-not-eat_text-clause-reads c = literal_stops elsewhere _ _ refl c.if-not-eat_text.ensures.eaten

pub returns-then-not-spaces-clause-reads : goal.returns-then-not-spaces-clause-reads
unfolding doctype_declaration
returns-then-not-spaces-clause-reads c = literal_then elsewhere _ _ _ refl c.if-not-eat_text.ensures.eaten (space_stops _ c.if-not-spaces.ensures.spaces c.if-not-spaces.ensures.ends)

pub returns-then-not-colon_name-clause-reads : goal.returns-then-not-colon_name-clause-reads
unfolding doctype_declaration
returns-then-not-colon_name-clause-reads c = literal_then elsewhere _ _ _ refl c.if-not-eat_text.ensures.eaten (space_then _ c.if-not-spaces.ensures.spaces c.if-not-spaces.ensures.ends (c.if-not-colon_name.ensures.reads _))

pub returns-then-not-spaces-2-clause-reads : goal.returns-then-not-spaces-2-clause-reads
unfolding doctype_declaration
returns-then-not-spaces-2-clause-reads c = literal_then elsewhere _ _ _ refl c.if-not-eat_text.ensures.eaten (space_then _ c.if-not-spaces.ensures.spaces c.if-not-spaces.ensures.ends (c.if-not-colon_name.ensures.reads _ ∙ unspaced_then _ _ c.if-not-spaces-2.ensures.spaces c.if-not-spaces-2.ensures.ends c.doctype_end.ensures.reads))

pub returns-then-is_next-clause-reads : goal.returns-then-is_next-clause-reads
unfolding doctype_declaration
returns-then-is_next-clause-reads c = literal_then elsewhere _ _ _ refl c.if-not-eat_text.ensures.eaten (space_then _ c.if-not-spaces.ensures.spaces c.if-not-spaces.ensures.ends (c.if-not-colon_name.ensures.reads _ ∙ spaced_then _ _ c.if-not-spaces-2.ensures.spaces c.if-not-spaces-2.ensures.ends (next_then _ _ _ _ c.if-is_next.ensures c.system_id.ensures.reads)))

pub returns-then-is_next-2-clause-reads : goal.returns-then-is_next-2-clause-reads
unfolding doctype_declaration
returns-then-is_next-2-clause-reads c = literal_then elsewhere _ _ _ refl c.if-not-eat_text.ensures.eaten (space_then _ c.if-not-spaces.ensures.spaces c.if-not-spaces.ensures.ends (c.if-not-colon_name.ensures.reads _ ∙ spaced_then _ _ c.if-not-spaces-2.ensures.spaces c.if-not-spaces-2.ensures.ends (other_then _ _ _ _ c.if-is_next.ensures (next_then _ _ _ _ c.if-is_next-2.ensures c.public_id.ensures.reads))))

pub returns-clause-reads : goal.returns-clause-reads
unfolding doctype_declaration
returns-clause-reads c = literal_then elsewhere _ _ _ refl c.if-not-eat_text.ensures.eaten (space_then _ c.if-not-spaces.ensures.spaces c.if-not-spaces.ensures.ends (c.if-not-colon_name.ensures.reads _ ∙ spaced_then _ _ c.if-not-spaces-2.ensures.spaces c.if-not-spaces-2.ensures.ends (other_then _ _ _ _ c.if-is_next.ensures (other_then _ _ _ _ c.if-is_next-2.ensures c.doctype_end-2.ensures.reads))))
