use Rattle.std.specs.Str.{chars}
use Rattle.xquery_syntax.proofs.ParsedLemmas.{parsed_answer, parsed_deep}
use Rattle.xquery_syntax.proofs.parsing.parse_query.Goals as goal

pub returns-in-Ok-TooDeep : goal.returns-in-Ok-TooDeep
returns-in-Ok-TooDeep c =
    parsed_deep 400 (chars c.args.text.now) c.in-Ok-TooDeep.field-0 c.in-Ok-TooDeep.field-0-is
    c.in-Ok-TooDeep.ensures

pub returns-in-Ok-Value : goal.returns-in-Ok-Value
returns-in-Ok-Value c = parsed_answer 400 (chars c.args.text.now) c.in-Ok-Value.raw
    c.answer-found.result c.in-Ok-Value.field-0 c.in-Ok-Value.field-0-is c.in-Ok-Value.ensures
    c.answer-found.ensures
