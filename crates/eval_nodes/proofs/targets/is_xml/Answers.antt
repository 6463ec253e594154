use Rattle.xt_tree.proofs.SoundLemmas.{lowered_same}
use Rattle.eval_nodes.proofs.targets.is_xml.Goals as goal

pub returns : goal.returns
returns c = lowered_same c.eq_ignore_ascii_case.result c.args.text.now c.utf8.text
    c.eq_ignore_ascii_case.ensures.test
