use Rattle.doc_grammar.specs.Scopes.{prefix_name}
use Rattle.doc_reader.proofs.ScopeLemmas.{mapped_preserved, mapped_all}
use Rattle.doc_reader.proofs.scopes.prefix_names.Goals as goal

pub loop-binding-preserved : goal.loop-binding-preserved
loop-binding-preserved c = mapped_preserved prefix_name _ _ c.binding-item.result _ _ _ c.loop-binding-test.true c.binding-item.is c.loop-binding.invariant _ c.in_ok-prefix_name.ensures c.in_ok-push.ensures.ok

pub returns : goal.returns
returns c = mapped_all prefix_name _ _ _ _ c.loop-binding-test.false c.loop-binding.invariant
