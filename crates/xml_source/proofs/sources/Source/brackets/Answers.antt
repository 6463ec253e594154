use Rattle.std.proofs.Common.{[], sym, ap, length, arith, append-nil}
use Rattle.xml_source.proofs.AsideLemmas.{section_brackets_then}
use Rattle.xml_source.proofs.sources.Source.brackets.Goals as goal

pub brackets-init : goal.brackets-init
brackets-init c = record { more = []; text = sym (append-nil c.args.text.now); same = λ read. rw append-nil (section_brackets_then read c.if-not-eat.ensures); shorter = let less = ap length c.if-not-eat.ensures in omega (arith, less) }
