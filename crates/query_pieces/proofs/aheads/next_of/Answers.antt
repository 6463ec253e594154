use Rattle.std.proofs.Common.{refl}
use Rattle.std.proofs.lemmas.Str.{IsCharBoundary-start}
use Rattle.xpath_lex.specs.Readings.{placed}
use Rattle.query_pieces.proofs.AheadLemmas.{over_from_start, fault_from_start, token_parts}
use Rattle.query_pieces.proofs.AheadLemmas.{token_leads}
use Rattle.query_pieces.proofs.aheads.next_of.Goals as goal

pub token_at-requires : goal.token_at-requires
token_at-requires c = IsCharBoundary-start _ c.utf8.text

pub behind-requires : goal.behind-requires
behind-requires c = token_parts _ _ c.utf8.text (rw c.in-Ok-Some.field-0-is at
    c.in-Ok-Some.ensures.token)

pub returns-in-Ok-Some : goal.returns-in-Ok-Some
returns-in-Ok-Some c = (
  placed c.in-Ok-Some.next,
  token_leads _ _ _ c.utf8.text
      (rw c.in-Ok-Some.field-0-is at c.in-Ok-Some.ensures.token) c.behind.ensures,
  refl,
  refl,
)

pub returns-in-Ok-None : goal.returns-in-Ok-None
returns-in-Ok-None c = over_from_start _ (rw c.in-Ok-None.field-0-is at c.in-Ok-None.ensures.over)

pub returns-in-Err : goal.returns-in-Err
returns-in-Err c = (c.in-Err.field-0, fault_from_start _ _ c.utf8.text c.in-Err.ensures.fault)
