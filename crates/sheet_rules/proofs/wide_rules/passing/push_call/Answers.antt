use Rattle.std.proofs.Common.{◌≡◌, None, sym, append-nil, slice_get}
use Rattle.sheet_rules.proofs.wide_rules.passing.push_call.Goals as goal
use Rattle.std.proofs.lemmas.Option.{slice_get_past}

pub returns-in-None : goal.returns-in-None
returns-in-None c =
    let none : slice_get c.args.templates.now c.args.number ≡ None =
    slice_get_past c.args.templates.now c.args.number c.in-None.ensures.lookup.3 in
    rw none (sym (append-nil c.args.codes.now))
