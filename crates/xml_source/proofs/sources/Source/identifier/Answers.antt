use Rattle.std.proofs.Common.{refl}
use Rattle.std.specs.Str.{chars}
use Rattle.doc_grammar.specs.Prolog.{is_in_system}
use Rattle.xml_source.proofs.SpellLemmas.{run_then, single_quote}
use Rattle.xml_source.proofs.sources.Source.identifier.Goals as goal

pub returns-then-quote-eq34-clause-reads : goal.returns-then-quote-eq34-clause-reads
returns-then-quote-eq34-clause-reads c = λ f. rw c.if-quote-eq34.true (run_then (is_in_system 34) f (chars c.take_run-identifier.result.now) _ c.take_run-identifier.ensures.run c.take_run-identifier.ensures.passes c.take_run-identifier.ensures.ends refl)

pub returns-else-quote-eq34-clause-reads : goal.returns-else-quote-eq34-clause-reads
returns-else-quote-eq34-clause-reads c = λ f.
    let run = c.take_run-identifier-else-quote-eq34 in
    rw (single_quote c.args.quote c.requires c.if-quote-eq34.false) (run_then (is_in_system 39) f (chars run.result.now) _ run.ensures.run run.ensures.passes run.ensures.ends refl)
