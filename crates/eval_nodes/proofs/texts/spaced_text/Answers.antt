use Rattle.eval_nodes.proofs.SpacedLemmas.{atoms_spaced}
use Rattle.eval_nodes.proofs.UriLemmas.{space_chars}
use Rattle.eval_nodes.proofs.texts.spaced_text.Goals as goal

pub returns : goal.returns
returns c = rw (← atoms_spaced c.args.items.now, ← c.in_ok-atoms.ensures, ← space_chars)
    c.simple.ensures
