use Rattle.std.proofs.Common.{◌≡◌, None, sym, append-nil, slice_get}
use Rattle.sheet_assembly.proofs.declared.push_at.Goals as goal
use Rattle.std.proofs.lemmas.Option.{slice_get_past}

pub returns-in-None : goal.returns-in-None
returns-in-None c =
    let none : slice_get c.args.globals.now c.args.place ≡ None =
    slice_get_past c.args.globals.now c.args.place c.in-None.ensures.lookup.3 in
    rw none (sym (append-nil c.args.made.now))
