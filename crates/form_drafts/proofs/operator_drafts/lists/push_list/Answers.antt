use Rattle.std.proofs.Common.{arith}
use Rattle.expr_raws.specs.Raws.{form_of}
use Rattle.form_drafts.proofs.OperatorDrafts.Singles.{one_listed}
use Rattle.form_drafts.proofs.operator_drafts.lists.push_list.Goals as goal

pub returns-in-len1 : goal.returns-in-len1
returns-in-len1 c =
    one_listed (form_of c.args.prefixes.now) c.args.items.now c.args.draft.now (omega arith)
    (omega arith)
