use Rattle.xml_source.proofs.LineLemmas.{no_lines}
use Rattle.xml_source.proofs.lines.with_line_feeds.Goals as goal

pub loop-c-init : goal.loop-c-init
loop-c-init c = no_lines _ c.new-source.result c.args.text.now c.new-lines.ensures.bytes c.new-source.ensures
