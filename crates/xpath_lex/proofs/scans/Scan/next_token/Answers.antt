use Rattle.std.proofs.Common.{refl}
use Rattle.xpath_lex.proofs.PlaceLemmas.{gap_fits, token_fits, token_found, fault_found}
use Rattle.xpath_lex.proofs.scans.Scan.next_token.Goals as goal

pub overflow_sub-from : goal.overflow_sub-from
overflow_sub-from c = gap_fits _ _ _ _ c.skip_gap-after.ensures.gap c.requires c.left.ensures

pub overflow_sub-result : goal.overflow_sub-result
overflow_sub-result c = token_fits _ _ _ _ _ _ c.skip_gap-after.ensures.gap refl c.in-Some.ensures c.requires c.left-in-Some.ensures

pub returns-in-Some-clause-token : goal.returns-in-Some-clause-token
returns-in-Some-clause-token c =
    token_found c.args.total _ _ _ _ _ _ _ c.skip_gap-after.ensures.gap c.skip_gap-after.ensures.stops c.fork-begun.ensures refl c.in-Some.ensures c.left.ensures c.left-in-Some.ensures c.requires c.text_to.ensures

pub returns-else-is_over-clause-fault : goal.returns-else-is_over-clause-fault
returns-else-is_over-clause-fault c =
    fault_found c.args.total _ _ _ _ c.skip_gap-after.ensures.gap c.skip_gap-after.ensures.stops c.fork-begun.ensures refl c.in-None.ensures c.if-is_over.ensures c.left.ensures c.requires
