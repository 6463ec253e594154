use Rattle.std.proofs.Common.{length}
use Rattle.query_pages.specs.Placed.{tokens_of}
use Rattle.query_pages.proofs.Layouts.{as_text}
use Rattle.query_pages.proofs.texts.written.Goals as goal

pub returns : goal.returns
returns c = as_text (length c.args.items.now) c.args.gaps.now (tokens_of c.args.items.now) _
    c.in_ok-text.ensures
