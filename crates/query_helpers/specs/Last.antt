-- The items of a stylesheet's element as a query's element takes them: of attributes with one name
-- the last alone (XSLT 2.0, 5.7.1; XQuery 1.0, 3.7.1.3).
use Rattle.std.specs.Prelude.{◌≡◌, ℕ, List, [], ◌∷◌, Bool, true, false, not, ◌&&◌, Option, Some, None}
use Rattle.std.specs.Prelude.{if◌then◌else◌}
use Rattle.std.specs.List.{list_any}
use Rattle.xt_names.specs.Allowed.{is_empty_text}
use Rattle.xt_atoms.specs.AtomTexts.{text_of}
use Rattle.xt_tree.specs.Place.{subtree_of}
use Rattle.xt_tree.specs.Sound.{names_differ}
use Rattle.xt_tree.specs.TreeView.{trees}
use Rattle.xt_tree.specs.declared.attributes.Attribute.{Attribute}
use Rattle.xt_tree.specs.declared.trees.Tree.{Tree}
use Rattle.xt_tree.specs.declared.trees.Tree.TheVariants.{Doc, Elem, Text, Comment, Pi, Attr}
use Rattle.xdm_items.specs.declared.items.Item.{Item}
use Rattle.xdm_items.specs.declared.items.Item.TheVariants.{Node, Atom}
use Rattle.node_builder.specs.Complex.{is_attribute}
use Rattle.node_builder.specs.Made.{Made, Gives, Fails}
use Rattle.xt_names.specs.Names.{same_name}

-- the attribute that an item is
abbrev pub attribute_below : Option Tree → Option Attribute
attribute_below None = None
attribute_below (Some (Doc kids)) = None
attribute_below (Some (Elem name attributes kids)) = None
attribute_below (Some (Text t)) = None
attribute_below (Some (Comment t)) = None
attribute_below (Some (Pi target t)) = None
attribute_below (Some (Attr name t)) = Some (record { name = name; value = t })

abbrev pub attribute_of : Item → Option Attribute
attribute_of (Node n) = attribute_below (subtree_of n)
attribute_of (Atom a) = None

abbrev pub put_attribute : Option Attribute → List Attribute → List Attribute
put_attribute None more = more
put_attribute (Some a) more = a ∷ more

-- the attributes among the items
abbrev pub attributes_in : List Item → List Attribute
attributes_in [] = []
attributes_in (x ∷ xs) = put_attribute (attribute_of x) (attributes_in xs)

abbrev pub is_named_in : List Attribute → Attribute → Bool
is_named_in more a = list_any (λ b. same_name a.name b.name) more

abbrev pub is_word : Item → Bool
is_word (Node n) = false
is_word (Atom a) = true

abbrev pub is_word_before : Option Item → Bool
is_word_before None = false
is_word_before (Some x) = is_word x

abbrev pub begins_with_word : List Item → Bool
begins_with_word [] = false
begins_with_word (x ∷ xs) = is_word x

-- an atom without characters that is between no others gives nothing
abbrev pub is_lost : Option Item → List ℕ → List Item → Bool
is_lost before t xs = is_empty_text t && (not (is_word_before before) && not (begins_with_word xs))

-- what is kept of an item between the one before it and those after it
abbrev pub attribute_stays : Option Attribute → List Item → Bool
attribute_stays None xs = true
attribute_stays (Some a) xs = not (is_named_in (attributes_in xs) a)

abbrev pub stays : Option Item → Item → List Item → Bool
stays before (Node n) xs = attribute_stays (attribute_below (subtree_of n)) xs
stays before (Atom a) xs = not (is_lost before (text_of a) xs)

abbrev pub kept_behind : Option Item → List Item → List Item
kept_behind before [] = []
kept_behind before (x ∷ xs) =
    if stays before x xs then x ∷ kept_behind (Some x) xs else kept_behind (Some x) xs

-- where all names differ the items stay as they are
abbrev pub last_of : List Item → List Item
last_of xs = if names_differ (attributes_in xs) then xs else kept_behind None xs

-- an item of which every node is in a tree, and no document has an attribute as its child
abbrev pub HasPlainKids : Tree → Type 0
HasPlainKids (Doc kids) = list_any is_attribute (trees kids) ≡ false
HasPlainKids (Elem name attributes kids) = Unit {0}
HasPlainKids (Text t) = Unit {0}
HasPlainKids (Comment t) = Unit {0}
HasPlainKids (Pi target t) = Unit {0}
HasPlainKids (Attr name t) = Unit {0}

abbrev pub IsPlaced : Item → Type 0
IsPlaced (Node n) = (x : Tree) × (subtree_of n ≡ Some x) × HasPlainKids x
IsPlaced (Atom a) = Unit {0}

-- the same value, or an error on both sides
abbrev pub SameMade : {A : Type 0} → Made A → Made A → Type 0
SameMade (Gives a) (Gives b) = a ≡ b
SameMade (Gives a) (Fails d) = ⊥
SameMade (Fails c) (Gives b) = ⊥
SameMade (Fails c) (Fails d) = Unit {0}
