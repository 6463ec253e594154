use Rattle.std.proofs.Common.{◌≡◌, ◌<◌, Some, length, slice_get, sym, ◌∙◌, ap, arith}
use Rattle.std.proofs.lemmas.Option.{slice_get-get_or}
use Rattle.order_group.specs.AtomKeys.Tables.{index_of, places_of}
use Rattle.order_group.proofs.AtomKeys.TableLemmas.{index_within, places_at, no_places}
use Rattle.order_group.proofs.atom_keys.tables.KeyTable.places.Goals as goal

pub index-requires : goal.index-requires
index-requires c =
    let at : index_of c.self.inside.entries.items c.args.key.now ≡ Some c.in-Some.index = ap (λ es. index_of es c.args.key.now) c.self.view_is ∙ sym c.in_ok-index.ensures ∙ c.in-Some.is in
    let below : c.in-Some.index < length c.self.inside.entries.items = index_within c.self.inside.entries.items c.args.key.now c.in-Some.index at in
    omega arith

pub returns-in-Some : goal.returns-in-Some
returns-in-Some c =
    let es = c.self.inside.entries.items in
    let at : index_of es c.args.key.now ≡ Some c.in-Some.index = ap (λ es. index_of es c.args.key.now) c.self.view_is ∙ sym c.in_ok-index.ensures ∙ c.in-Some.is in
    let below : c.in-Some.index < length es = index_within es c.args.key.now c.in-Some.index at in
    let here : slice_get es c.in-Some.index ≡ Some c.index.result.now = slice_get-get_or es c.in-Some.index c.index.result.now below ∙ ap Some (sym c.index.ensures) in
    let found = places_at es c.args.key.now c.in-Some.index c.index.result.now at here in
    let whole = c.self.view_is in
    c.as_slice.ensures ∙ (sym found ∙ ap (λ es. places_of es c.args.key.now) whole)

pub returns-in-None : goal.returns-in-None
returns-in-None c = sym (no_places c.args.self.now c.args.key.now (sym c.in_ok-index.ensures ∙ c.in-None.is))
