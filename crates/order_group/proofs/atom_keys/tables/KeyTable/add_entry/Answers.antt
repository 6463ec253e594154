use Rattle.std.proofs.Common.{◌≡◌, ◌++◌, ◌∷◌, [], None, if◌then◌else◌, sym, ◌∙◌, ap}
use Rattle.std.proofs.lemmas.List.{map-append}
use Rattle.std.specs.List.{list_any}
use Rattle.order_group.specs.AtomKeys.Keys.{key_of}
use Rattle.order_group.specs.AtomKeys.Tables.{index_of, with_place, keys_of, first_entry}
use Rattle.order_group.specs.declared.atom_keys.tables.KeyEntry.{KeyEntry}
use Rattle.order_group.proofs.AtomKeys.KeyLemmas.{key_eq, keys_agree}
use Rattle.order_group.proofs.AtomKeys.TableLemmas.{placed_new, key_is_new}
use Rattle.order_group.proofs.atom_keys.tables.KeyTable.add_entry.Goals as goal

pub invariant_of-self-in-Ok : goal.invariant_of-self-in-Ok
invariant_of-self-in-Ok c =
    let es = c.self.inside.entries.items in
    let k = key_of c.args.key.now in
    let new : index_of es c.args.key.now ≡ None = ap (λ es. index_of es c.args.key.now) c.self.view_is ∙ c.requires in
    c.in-Ok.ensures.ok
    ∙ ap (λ b. if b then c.self.inside.keys.keys else c.self.inside.keys.keys ++ k ∷ []) (ap (λ ks. list_any (key_eq k) ks) c.self.invariant ∙ key_is_new key_eq keys_agree es c.args.key.now new)
    ∙ ap (λ ks. ks ++ k ∷ []) c.self.invariant
    ∙ sym (map-append (λ (e : KeyEntry). key_of e.key) es (first_entry c.args.key.now c.args.place ∷ []))
    ∙ ap (λ e. keys_of (es ++ e ∷ [])) (sym c.in_ok-entry.ensures)
    ∙ ap keys_of (sym c.in_ok-push.ensures.items)

pub returns-in-Ok-clause-ok : goal.returns-in-Ok-clause-ok
returns-in-Ok-clause-ok c =
    let es = c.self.inside.entries.items in
    let new : index_of es c.args.key.now ≡ None = ap (λ es. index_of es c.args.key.now) c.self.view_is ∙ c.requires in
    c.in_ok-push.ensures.items
    ∙ ap (λ e. es ++ e ∷ []) c.in_ok-entry.ensures
    ∙ sym (placed_new es c.args.key.now c.args.place new)
    ∙ ap (λ es. with_place es c.args.key.now c.args.place) c.self.view_is
