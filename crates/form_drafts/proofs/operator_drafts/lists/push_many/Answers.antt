use Rattle.std.proofs.Common.{arith}
use Rattle.expr_raws.specs.Raws.{form_of}
use Rattle.form_drafts.proofs.OperatorDrafts.Singles.{one_of_many, many_made}
use Rattle.form_drafts.proofs.operator_drafts.lists.push_many.Goals as goal

pub returns-then-items-lt2 : goal.returns-then-items-lt2
returns-then-items-lt2 c =
    one_of_many (form_of c.args.prefixes.now) c.args.level c.args.key c.args.items.now
    c.args.draft.now (omega arith)

pub returns : goal.returns
returns c =
    many_made (form_of c.args.prefixes.now) c.args.level c.args.key c.args.items.now
    c.index-items-0.result _ c.args.draft.now _ _ (omega arith) c.index-items-0.is
    c.in_ok-push_tails.ensures c.tight.ensures c.in_ok-push_part.ensures
