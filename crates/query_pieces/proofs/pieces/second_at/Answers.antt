use Rattle.std.proofs.Common.{sym, ◌∙◌}
use Rattle.query_pieces.proofs.SecondLemmas.{named_second, named_plain, other_second}
use Rattle.query_pieces.proofs.pieces.second_at.Goals.{
  else-is_name-via-then-is_name+else-opens_brace,
}
use Rattle.query_pieces.proofs.pieces.second_at.Goals.{else-is_name-via-else-is_name}
use Rattle.query_pieces.proofs.pieces.second_at.Goals as goal

pub returns-then-opens_brace : goal.returns-then-opens_brace
returns-then-opens_brace c = λ p u ts n k e split.
    named_second p u _ ts _ _ _ n k e (sym c.is_name.ensures
    ∙ c.if-is_name.true) c.opens_brace.ensures c.if-opens_brace.true split

pub returns-else-is_name : goal.returns-else-is_name
returns-else-is_name c = λ p u ts n k e split.
    elim c.else-is_name.branch [
      | else-is_name-via-then-is_name+else-opens_brace w ↦ c.second_by.ensures
          ∙ named_plain p u _ ts _ _ _ n k e (sym c.is_name.ensures
          ∙ w.if-is_name.true) w.opens_brace.ensures w.if-opens_brace.false split
      | else-is_name-via-else-is_name w ↦ c.second_by.ensures
          ∙ other_second p u _ ts _ _ n k e (sym c.is_name.ensures ∙ w.if-is_name.false) split
    ]
