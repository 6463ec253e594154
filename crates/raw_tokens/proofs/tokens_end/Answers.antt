use Rattle.raw_tokens.proofs.Before.{stands_before, derives_before}
use Rattle.raw_tokens.proofs.tokens_end.Goals as goal

pub returns-clause-stands : goal.returns-clause-stands
returns-clause-stands c = stands_before

pub returns-clause-derived : goal.returns-clause-derived
returns-clause-derived c = derives_before
