-- What the parts of one document share.
use Rattle.std.specs.Prelude.{◌≡◌, ℕ, List, [], Option, Some}
use Rattle.std.specs.Str.{chars}
use Rattle.xt_tree.specs.declared.attributes.Attribute.{Attribute}
use Rattle.xt_tree.specs.Forest.{Forest, end}

-- the empty text and lists, and a table that has the characters of each name by its bytes
pub record IsPool (empty : List ℕ) (attributes : List Attribute) (kids : Forest) (found : List ℕ → Option (List ℕ)) : Type 0 where
  pub no_text : empty ≡ []
  pub no_attributes : attributes ≡ []
  pub no_kids : kids ≡ end
  pub texts : (bytes text : List ℕ) → found bytes ≡ Some text → text ≡ chars bytes
