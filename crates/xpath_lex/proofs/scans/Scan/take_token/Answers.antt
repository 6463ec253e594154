use Rattle.xpath_lex.specs.Classes.{is_digit}
use Rattle.xpath_lex.proofs.PartLemmas.{first_of, first_is, nothing_first, none_empty, none_behind}
use Rattle.xpath_lex.proofs.scans.Scan.take_token.Goals as goal
use Rattle.xt_names.specs.Characters.{starts_name}

pub returns-then-behind : goal.returns-then-behind
returns-then-behind c =
    rw c.if-behind.true (none_behind _ (first_is starts_name _ c.in-Some.c _ _ c.peek.ensures c.in-Some.is c.starts_name.ensures c.if-starts_name.true))

pub take_name-requires : goal.take_name-requires
take_name-requires c = first_is starts_name _ c.in-Some.c _ _ c.peek.ensures c.in-Some.is c.starts_name.ensures c.if-starts_name.true

pub take_number-requires : goal.take_number-requires
take_number-requires c = first_is is_digit _ c.in-Some.c _ _ c.peek.ensures c.in-Some.is c.is_digit.ensures c.if-is_digit.true

pub take_literal-requires-clause-first : goal.take_literal-requires-clause-first
take_literal-requires-clause-first c = first_of _ c.in-Some.c _ c.peek.ensures c.in-Some.is

pub take_mark-requires-clause-first : goal.take_mark-requires-clause-first
take_mark-requires-clause-first c = first_of _ c.in-Some.c _ c.peek.ensures c.in-Some.is

pub returns-in-None : goal.returns-in-None
returns-in-None c = none_empty c.args.behind _ (nothing_first _ _ c.peek.ensures c.in-None.is)
