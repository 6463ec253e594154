-- Tables of attributes.
use Rattle.std.proofs.Common.{◌≡◌, ℕ, ◌+◌, ◌<◌, length, drop, get_or, cond, Bool, true, false, ◌&&◌, ◌||◌, List, [], ◌∷◌, refl, ap, ap₂, sym, ◌∙◌}
use Rattle.std.specs.List.{list_all, list_any}
use Rattle.std.specs.HashSet.{HashSet}
use Rattle.xt_names.proofs.ListLemmas.{drop_at}
use Rattle.xt_atoms.specs.Comparisons.{same_name}
use Rattle.xt_tree.specs.declared.attributes.Attribute.{Attribute}
use Rattle.item_functions.specs.NodeFunctions.AttributeTables.{key_of, same_key, has_key}
use Rattle.item_functions.specs.NodeFunctions.Deep.{same_attribute, has_attribute}
use Rattle.item_functions.specs.declared.node_functions.attribute_tables.AttributeKey.{AttributeKey}

same_as_keys : (a b : Attribute) → same_key (key_of a) (key_of b) ≡ same_attribute a b
unfolding same_attribute same_name
same_as_keys a b = refl

any_key : (others : List Attribute) (a : Attribute) → list_any (λ b. same_key (key_of b) (key_of a)) others ≡ has_attribute others a
any_key [] a = refl
any_key (b ∷ others) a = ap₂ (λ s t. s || t) (same_as_keys b a) (any_key others a)

pub all_keys : {S : Type 0} (table : HashSet AttributeKey S) (others attributes : List Attribute) → ((key : AttributeKey) → has_key table key ≡ list_any (λ b. same_key (key_of b) key) others)
    → list_all (λ a. has_key table (key_of a)) attributes ≡ list_all (has_attribute others) attributes
all_keys table others [] h = refl
all_keys table others (a ∷ attributes) h = ap₂ (λ s t. s && t) (h (key_of a) ∙ any_key others a) (all_keys table others attributes h)

shuffle : (s o r : Bool) → (cond s true o || r) ≡ (o || (s || r))
shuffle true true r = refl
shuffle true false r = refl
shuffle false true r = refl
shuffle false false r = refl

-- one more attribute in the table
pub table_more : {S : Type 0} (old new : HashSet AttributeKey S) (others : List Attribute) (i : ℕ) (a : Attribute) → i < length others → a ≡ get_or others i a
    → ((key : AttributeKey) → has_key new key ≡ cond (same_key (key_of a) key) true (has_key old key))
    → ((key : AttributeKey) → (has_key old key || list_any (λ b. same_key (key_of b) key) (drop i others)) ≡ list_any (λ b. same_key (key_of b) key) others)
    → (key : AttributeKey) → (has_key new key || list_any (λ b. same_key (key_of b) key) (drop (i + 1) others)) ≡ list_any (λ b. same_key (key_of b) key) others
table_more old new others i a h e more whole key =
    let rest = list_any (λ b. same_key (key_of b) key) (drop (i + 1) others) in
    ap (λ s. s || rest) (more key)
    ∙ shuffle (same_key (key_of a) key) (has_key old key) rest
    ∙ ap (λ l. has_key old key || list_any (λ b. same_key (key_of b) key) l) (sym (drop_at others i a h e))
    ∙ whole key
