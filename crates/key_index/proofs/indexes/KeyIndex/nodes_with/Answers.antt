use Rattle.std.proofs.Common.{◌≡◌, List, [], filter, slice_get, IfOk, ap, ap₂, ◌∙◌, subst}
use Rattle.xt_atoms.specs.Keys.{key_same}
use Rattle.xdm_items.specs.declared.items.Item.{Item}
use Rattle.order_group.specs.AtomKeys.Tables.{places_of}
use Rattle.key_index.specs.Keys.{put_pairs, put_places}
use Rattle.key_index.proofs.Tables.{found_places}
use Rattle.key_index.specs.declared.indexes.KeyPair.{KeyPair}
use Rattle.key_index.proofs.indexes.KeyIndex.nodes_with.Goals as goal

pub returns : goal.returns
returns c =
    let v = c.args.value.now in
    let made =
    ap₂ (λ ps places. put_places (slice_get ps) [] places) c.as_slice.ensures (c.in_ok-places.ensures ∙ ap (λ t. places_of t v) c.self.invariant)
    ∙ found_places v c.self.inside.pairs
    ∙ ap (λ (ps : List KeyPair). put_pairs [] (filter (λ p. key_same v p.value) ps)) c.self.view_is in
    subst (λ (l : List Item). IfOk c.nodes_at.result (λ items. items ≡ l)) made c.nodes_at.ensures
