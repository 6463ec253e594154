use Rattle.expr_reader.proofs.TrackLemmas.{finish_follows}
use Rattle.expr_reader.proofs.running.ExprParser.finish.Goals as goal

pub returns : goal.returns
returns c = finish_follows c.args.self c.finish.result c.finish.ensures
