use Rattle.std.proofs.Common.{◌≡◌, Some, None, refl, slice_get}
use Rattle.std.proofs.lemmas.Option.{slice_get_past}
use Rattle.loaded_sheets.proofs.LoadedParts.Made.{found, both_made}
use Rattle.loaded_sheets.proofs.loaded_parts.names.add_module.Goals as goal

pub returns-in-Some : goal.returns-in-Some
returns-in-Some c =
    let there : slice_get c.args.modules.now c.args.place ≡ Some c.in-Some.nodes.now =
    found c.args.modules.now c.args.place c.in-Some.nodes.now c.in-Some.ensures.lookup.0
    c.in-Some.ensures.lookup.1 in
    rw (there, ← c.as_slice.ensures) (both_made c.collect_names.result _ _ _ _ c.collect_names.ensures.modes
    c.collect_names.ensures.called)

pub returns-in-None : goal.returns-in-None
returns-in-None c =
    let none : slice_get c.args.modules.now c.args.place ≡ None =
    slice_get_past c.args.modules.now c.args.place c.in-None.ensures.lookup.3 in
    rw none refl
