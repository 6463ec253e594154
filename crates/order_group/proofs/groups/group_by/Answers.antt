use Rattle.std.proofs.Common.{◌≡◌, IfOk, [], map, ap, ◌∙◌, subst}
use Rattle.order_group.specs.Groups.{atoms_of}
use Rattle.order_group.specs.Steps.{entry_group, with_rows}
use Rattle.order_group.specs.declared.groups.Group.{Group}
use Rattle.std.specs.Prelude.{List}
use Rattle.order_group.proofs.KeyedGroups.{all_grouped}
use Rattle.order_group.proofs.groups.group_by.Goals as goal

pub returns : goal.returns
returns c =
    let made = ap (map entry_group) (c.into_entries.ensures ∙ c.in_ok-table.ensures) ∙ ap (λ keys. map entry_group (with_rows [] 0 (map atoms_of keys))) c.as_slice.ensures ∙ all_grouped c.args.keys.now in
    subst (λ (gs : List Group). IfOk c.groups_of.result (λ groups. groups ≡ gs)) made c.groups_of.ensures
