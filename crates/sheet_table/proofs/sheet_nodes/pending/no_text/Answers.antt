use Rattle.sheet_table.proofs.SheetNodes.Nothing.{nothing_put}
use Rattle.sheet_table.proofs.sheet_nodes.pending.no_text.Goals as goal

pub returns : goal.returns
returns c = nothing_put c.args.out.now c.args.keep
