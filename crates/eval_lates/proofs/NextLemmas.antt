-- The item that is taken out.
use Rattle.std.proofs.Common.{◌≡◌, refl, List, [], ◌∷◌, ◌++◌, Option, None, Some}
use Rattle.std.specs.Prelude.{Bool, true, false, is_some}
use Rattle.std.specs.Option.{option_to_list}
use Rattle.xdm_items.specs.declared.items.Item.{Item}
use Rattle.eval_scopes.specs.NodeWalks.Moves.{has_item}
use Rattle.eval_lates.specs.Late.{IsNext}

pub next_is : (item : Option Item) (before after : List Item) →
    before ≡ option_to_list item ++ after → is_some item ≡ has_item before →
    IsNext item before after
next_is None [] after e some = refl
next_is None (x ∷ xs) after e some = absurd cc
next_is (Some x) before after e some = e
