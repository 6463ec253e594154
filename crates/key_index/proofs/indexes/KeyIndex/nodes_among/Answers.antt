use Rattle.std.proofs.Common.{◌≡◌, List, [], filter, slice_get, IfOk, ap, ap₂, ◌∙◌, subst}
use Rattle.xdm_items.specs.declared.items.Item.{Item}
use Rattle.order_group.specs.Groups.{atoms_of, places_where}
use Rattle.order_group.specs.Steps.{with_row}
use Rattle.key_index.specs.Keys.{put_pairs, put_places, has_one}
use Rattle.key_index.proofs.Tables.{wanted_has, places_found}
use Rattle.key_index.specs.declared.indexes.KeyPair.{KeyPair}
use Rattle.key_index.proofs.indexes.KeyIndex.nodes_among.Goals as goal

pub returns : goal.returns
returns c =
    let keys = c.as_slice.ensures.value ∙ c.into_entries-wanted.ensures
    ∙ c.in_ok-wanted_of.ensures in
    let found = c.in_ok-places.ensures c.self.inside.pairs c.self.invariant in
    let made =
    ap₂ (λ ps places. put_places (slice_get ps) [] places) c.as_slice-2.ensures
    (c.as_slice-3.ensures.value ∙ found
    ∙ ap (λ ks. places_where (has_one ks) 0 c.self.inside.pairs) keys)
    ∙ places_found (has_one (with_row [] (atoms_of c.args.values.now) 0)) c.self.inside.pairs
    ∙ ap₂ (λ test (ps : List KeyPair). put_pairs [] (filter test ps))
    (λ i (p : KeyPair). wanted_has (atoms_of c.args.values.now) p i) c.self.view_is in
    subst (λ (l : List Item). IfOk c.nodes_at.result (λ items. items ≡ l)) made c.nodes_at.ensures
