use Rattle.std.proofs.Common.{◌≡◌, ◌<◌, Some, length, slice_get, slice_set, sym, ◌∙◌, ap, arith}
use Rattle.std.proofs.lemmas.Option.{slice_get-get_or}
use Rattle.order_group.specs.AtomKeys.Tables.{index_of, with_place}
use Rattle.order_group.proofs.AtomKeys.TableLemmas.{index_within, placed_old, keys_stay}
use Rattle.order_group.proofs.atom_keys.tables.KeyTable.add.Goals as goal

pub index_mut-requires : goal.index_mut-requires
index_mut-requires c =
    let at : index_of c.self.inside.entries.items c.args.key.now ≡ Some c.in-Some.index = ap (λ es. index_of es c.args.key.now) c.self.view_is ∙ sym c.in_ok-index.ensures ∙ c.in-Some.is in
    let below : c.in-Some.index < length c.self.inside.entries.items = index_within c.self.inside.entries.items c.args.key.now c.in-Some.index at in
    omega arith

pub invariant_of-self : goal.invariant_of-self
invariant_of-self c =
    let es = c.self.inside.entries.items in
    let at : index_of es c.args.key.now ≡ Some c.in-Some.index = ap (λ es. index_of es c.args.key.now) c.self.view_is ∙ sym c.in_ok-index.ensures ∙ c.in-Some.is in
    let below : c.in-Some.index < length es = index_within es c.args.key.now c.in-Some.index at in
    let here : slice_get es c.in-Some.index ≡ Some c.index_mut.result.now = slice_get-get_or es c.in-Some.index c.index_mut.result.now below ∙ ap Some (sym c.index_mut.ensures.value) in
    c.self.invariant ∙ sym (keys_stay es c.in-Some.index c.index_mut.result.now c.push_once.new.places here)

pub invariant_of-self-in-Some : goal.invariant_of-self-in-Some
invariant_of-self-in-Some c =
    let es = c.self.inside.entries.items in
    let at : index_of es c.args.key.now ≡ Some c.in-Some.index = ap (λ es. index_of es c.args.key.now) c.self.view_is ∙ sym c.in_ok-index.ensures ∙ c.in-Some.is in
    let below : c.in-Some.index < length es = index_within es c.args.key.now c.in-Some.index at in
    let here : slice_get es c.in-Some.index ≡ Some c.index_mut.result.now = slice_get-get_or es c.in-Some.index c.index_mut.result.now below ∙ ap Some (sym c.index_mut.ensures.value) in
    c.self.invariant ∙ sym (keys_stay es c.in-Some.index c.index_mut.result.now c.push_once.new.places here)

pub returns-in_ok-push_once-in-Some-clause-ok : goal.returns-in_ok-push_once-in-Some-clause-ok
returns-in_ok-push_once-in-Some-clause-ok c =
    let es = c.self.inside.entries.items in
    let at : index_of es c.args.key.now ≡ Some c.in-Some.index = ap (λ es. index_of es c.args.key.now) c.self.view_is ∙ sym c.in_ok-index.ensures ∙ c.in-Some.is in
    let below : c.in-Some.index < length es = index_within es c.args.key.now c.in-Some.index at in
    let here : slice_get es c.in-Some.index ≡ Some c.index_mut.result.now = slice_get-get_or es c.in-Some.index c.index_mut.result.now below ∙ ap Some (sym c.index_mut.ensures.value) in
    let r = c.index_mut.result.now in
    ap (λ p. slice_set es c.in-Some.index (record { key = r.key; places = p })) c.in_ok-push_once-in-Some.ensures.ok
    ∙ sym (placed_old es c.args.key.now c.args.place c.in-Some.index r at here)
    ∙ ap (λ es. with_place es c.args.key.now c.args.place) c.self.view_is
