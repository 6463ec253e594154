use Rattle.std.proofs.Common.{arith}
use Rattle.xml_source.specs.References.{base_view}
use Rattle.xml_source.proofs.ReferenceLemmas.{skipped, shorter_one, next_some, next_past}
use Rattle.xml_source.proofs.sources.Source.add_digit.Goals as goal

pub returns-in-Some-clause-reads : goal.returns-in-Some-clause-reads
returns-in-Some-clause-reads c = next_some (base_view c.args.base) c.args.n c.args.d c.in-Some.more _ _ c.skip-digit.result c.requires.next c.skip-digit.ensures c.requires.no_end c.in-Some.ensures

pub returns-in-Some-clause-shorter : goal.returns-in-Some-clause-shorter
returns-in-Some-clause-shorter c =
    let k = skipped (base_view c.args.base) c.args.d _ _ c.skip-digit.result c.requires.next c.skip-digit.ensures in
    let less = shorter_one k.0 _ _ k.1 in omega arith

pub returns-in-Some-clause-falls : goal.returns-in-Some-clause-falls
returns-in-Some-clause-falls c =
    let k = skipped (base_view c.args.base) c.args.d _ _ c.skip-digit.result c.requires.next c.skip-digit.ensures in shorter_one k.0 _ _ k.1

pub returns-in-None-clause-reads : goal.returns-in-None-clause-reads
returns-in-None-clause-reads c = next_past (base_view c.args.base) c.args.n c.args.d _ c.requires.next c.requires.no_end c.in-None.ensures
