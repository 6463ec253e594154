use Rattle.std.proofs.Common.{sym, ap, ◌∙◌, map}
use Rattle.xt_names.proofs.MarkLemmas.{map_same}
use Rattle.std.proofs.lemmas.Iterator.{YieldsList-from_chars}
use Rattle.std.proofs.lemmas.Iterator.Consumers.{YieldsList-end}
use Rattle.text_functions.specs.TextFunctions.{as_integer}
use Rattle.text_functions.proofs.codepoints.codepoints.Goals as goal

pub returns : goal.returns
returns c =
    let t = YieldsList-end (YieldsList-from_chars c.as_str.result.now c.as_str.utf8 cc) c.loop-c.yielded _ c.loop-c.yielded_by _ _ c.in-None.is c.next.ensures.steps in
    c.loop-c.invariant ∙ ap (map as_integer) (sym (map_same c.loop-c.yielded) ∙ t.0 ∙ c.as_str.ensures.chars)
