use Rattle.std.proofs.Common.{ap, not}
use Rattle.xt_tree.specs.Sound.{is_xml_in_any_case}
use Rattle.xt_tree.proofs.SoundLemmas.{lowered_same}
use Rattle.doc_grammar.specs.Lexemes.{is_target}
use Rattle.doc_reader.proofs.readers.is_target.Goals as goal

pub returns : goal.returns
unfolding is_target is_xml_in_any_case
returns c = ap not (lowered_same c.eq_ignore_ascii_case.result c.args.target.now c.utf8.target c.eq_ignore_ascii_case.ensures.test)
