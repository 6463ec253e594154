use Rattle.meaning_laws.proofs.QuietLaws.LawLemmas.{literal_law}
use Rattle.meaning_laws.proofs.quiet_laws.a_comparison_with_a_literal_holds_for_some_node.Goals as goal

pub returns : goal.returns
returns c = literal_law
