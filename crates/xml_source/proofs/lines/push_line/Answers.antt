use Rattle.std.proofs.Common.{◌≡◌, ◌∷◌, [], refl}
use Rattle.xt_names.proofs.TextLemmas.{chars_pushed, chars-encode}
use Rattle.xml_source.specs.LineEnds.{line_of}
use Rattle.xml_source.proofs.LineLemmas.{plain_line, first_line}
use Rattle.xml_source.proofs.lines.push_line.Goals.{else-cr-via-then-cr+else-c-eq10, else-cr-via-else-cr}
use Rattle.xml_source.proofs.lines.push_line.Goals as goal

pub returns-then-c-eq13 : goal.returns-then-c-eq13
returns-then-c-eq13 c =
    let one : line_of c.args.cr c.args.c ≡ 10 ∷ [] = rw c.if-c-eq13.true refl in
    rw one (rw (chars-encode 10 refl) at (chars_pushed c.push.result c.args.lines.now _ _ _ c.push.ensures.bytes refl))

pub returns : goal.returns
returns c =
    let one : line_of c.args.cr c.args.c ≡ c.args.c ∷ [] = elim c.else-cr.branch [
      | else-cr-via-then-cr+else-c-eq10 w ↦ plain_line c.args.cr c.args.c c.if-c-eq13.false w.if-c-eq10.false
      | else-cr-via-else-cr w ↦ first_line c.args.cr c.args.c c.if-c-eq13.false w.if-cr.false
    ] in
    rw one (rw (chars-encode c.args.c c.ranges.c.0) at (chars_pushed c.push-2.result c.args.lines.now _ _ _ c.push-2.ensures.bytes refl))
