use Rattle.std.proofs.Common.{◌≡◌, None, sym, append-nil, slice_get}
use Rattle.sheet_rules.proofs.sheet_declarations.lists.push_span.Goals as goal
use Rattle.std.proofs.lemmas.Option.{slice_get_past}

pub returns-in-None : goal.returns-in-None
returns-in-None g c =
    let none : slice_get c.args.modules.now c.args.span.now.place ≡ None =
    slice_get_past c.args.modules.now c.args.span.now.place c.in-None.ensures.lookup.3 in
    rw none (sym (append-nil c.args.all.now))
