use Rattle.query_options.proofs.WordLemmas.{empty_word, whole_word}
use Rattle.query_options.proofs.words.with_word.Goals as goal

pub returns-then-is_empty : goal.returns-then-is_empty
returns-then-is_empty c =
    empty_word c.args.words c.args.word c.in_ok-word.word _ c.in_ok-word.ensures c.is_empty.ensures
    c.if-is_empty.true

pub returns : goal.returns
returns c = whole_word c.args.words _ c.args.word c.in_ok-word.word _ c.in_ok-word.ensures
    c.is_empty.ensures c.if-is_empty.false c.in_ok-push.ensures.ok
