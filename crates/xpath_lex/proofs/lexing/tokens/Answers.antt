use Rattle.xpath_lex.proofs.PlaceLemmas.{reads_start, reads_more, reads_over, reads_fault, token_shorter}
use Rattle.xpath_lex.proofs.lexing.tokens.Goals as goal

pub loop-token-init : goal.loop-token-init
loop-token-init c = reads_start _ _ _ c.utf8.text c.new-list.ensures c.new-scan.ensures

pub loop-token-smaller : goal.loop-token-smaller
loop-token-smaller c = token_shorter _ _ _ _ _ (rw c.in-Ok-Some.field-0-is at c.in-Ok-Some.ensures.token)

pub loop-token-preserved : goal.loop-token-preserved
loop-token-preserved c =
    reads_more _ _ _ _ _ _ _ _ c.in-Ok-Some.token c.loop-token.invariant (rw c.in-Ok-Some.field-0-is at c.in-Ok-Some.ensures.token) c.in_ok-push-in-Ok-Some.ensures.ok c.ends_in_digit-behind.ensures

pub returns-in-Ok-None-clause-tokens : goal.returns-in-Ok-None-clause-tokens
returns-in-Ok-None-clause-tokens c = reads_over _ _ _ _ _ c.loop-token.invariant (rw c.in-Ok-None.field-0-is at c.in-Ok-None.ensures.over)

pub returns-in-Err-clause-fault : goal.returns-in-Err-clause-fault
returns-in-Err-clause-fault c = reads_fault _ _ _ _ _ _ c.loop-token.invariant c.in-Err.ensures.fault
