use Rattle.std.proofs.Common.{◌≡◌, List, Some, IfOk, ap, sym, ◌∙◌, subst}
use Rattle.xdm_items.specs.declared.items.Item.{Item}
use Rattle.key_index.specs.Keys.{only_atom}
use Rattle.key_index.proofs.Tables.{one_key}
use Rattle.key_index.proofs.indexes.KeyIndex.look_up.Goals as goal

pub returns-in-Some : goal.returns-in-Some
returns-in-Some c =
    let only : only_atom c.args.values.now ≡ Some c.in-Some.value.now = ap only_atom (sym c.as_slice.ensures) ∙ sym c.in-Some.ensures in
    subst (λ (l : List Item). IfOk c.nodes_with.result (λ items. items ≡ l)) (one_key c.args.self.now c.args.values.now c.in-Some.value.now only) c.nodes_with.ensures
