use Rattle.std.proofs.Common.{◌≡◌, ap, sym, ◌∙◌}
use Rattle.eval_scopes.specs.NodeWalks.Moves.{given}
use Rattle.eval_lates.proofs.CountLemmas.{count_is, exists_is, empty_is}
use Rattle.eval_lates.proofs.answers.late_answer.Goals as goal

pub returns-in-Count : goal.returns-in-Count
returns-in-Count c = rw (c.in-Count.is, count_is (given c.args.items.moves)) c.count.ensures

pub returns-in-Exists : goal.returns-in-Exists
returns-in-Exists c = rw (c.in-Exists.is, exists_is (given c.args.items.moves)) c.has_any.ensures

pub returns-in-Empty : goal.returns-in-Empty
returns-in-Empty c = rw (c.in-Empty.is, empty_is (given c.args.items.moves)) c.has_any-in-Empty.ensures
