-- What one move in a tree gives.
use Rattle.std.specs.Prelude.{◌≡◌, ℕ, ◌+◌, ◌<◌, ◌≤◌, List, [], ◌∷◌, ◌++◌, length, take, Bool, true, false, Option}
use Rattle.xt_tree.specs.declared.trees.Tree.{Tree}
use Rattle.xt_tree.specs.Place.{Place, subtree_at, subtree_kids, subtree_attributes, has_attribute}
use Rattle.xt_tree.specs.TreeView.{tree_depth}
use Rattle.xt_tree.specs.Walk.{Spot}
use Rattle.xt_types.specs.declared.axes.Axis.{Axis}
use Rattle.node_axes.specs.Axes.{on_axis}
use Rattle.node_axes.specs.Course.{is_further}
use Rattle.node_axes.specs.Paths.{Stands, stands, is_before_all, is_earlier, has_path}

abbrev pub count_at : Tree → List ℕ → ℕ
count_at t p = length (subtree_kids (subtree_at t p))

abbrev pub attribute_count_at : Tree → List ℕ → ℕ
attribute_count_at t p = length (subtree_attributes (subtree_at t p))

-- to the first child
pub record Down (t : Tree) (old new : List ℕ) : Type 0 where
  pub to : new ≡ old ++ 0 ∷ []
  pub exists : has_path t new ≡ true

-- to the next child
pub record Right (t : Tree) (old new : List ℕ) : Type 0 where
  pub from : (front : List ℕ) × (i : ℕ) × (old ≡ front ++ i ∷ [])
  pub to : (front : List ℕ) (i : ℕ) → old ≡ front ++ i ∷ [] → new ≡ front ++ (i + 1) ∷ []
  pub exists : has_path t new ≡ true

-- there is no next child
abbrev pub NoRight : Tree → List ℕ → Type 0
NoRight t old = (front : List ℕ) (i : ℕ) → old ≡ front ++ i ∷ [] → count_at t front ≤ i + 1

-- to the child before
pub record Left (t : Tree) (old new : List ℕ) : Type 0 where
  pub from : (front : List ℕ) × (i : ℕ) × (old ≡ front ++ i ∷ [])
  pub to : (front : List ℕ) (i : ℕ) → old ≡ front ++ i ∷ [] → (j : ℕ) × (i ≡ j + 1) × (new ≡ front ++ j ∷ [])
  pub exists : has_path t new ≡ true

abbrev pub NoLeft : List ℕ → Type 0
NoLeft old = (front : List ℕ) (i : ℕ) → old ≡ front ++ i ∷ [] → i ≡ 0

-- to the node above
pub record Up (t : Tree) (old new : List ℕ) : Type 0 where
  pub to : (i : ℕ) × (old ≡ new ++ i ∷ [])
  pub exists : has_path t new ≡ true

-- to the first of the later nodes, whose way begins with the first steps of the old one and is longer
pub record Skips (later : Stands → Bool) (t : Tree) (base : ℕ) (old new : List ℕ) : Type 0 where
  pub exists : has_path t new ≡ true
  pub longer : base < length new
  pub within : take base new ≡ take base old
  pub passes : later (stands old new) ≡ true
  pub first : (m : List ℕ) → has_path t m ≡ true → later (stands old m) ≡ true → is_earlier (stands m new) ≡ false

-- all later nodes are after the node that the first steps lead to
abbrev pub AllBehind : (Stands → Bool) → Tree → ℕ → List ℕ → Type 0
AllBehind later t base old = (m : List ℕ) → has_path t m ≡ true → later (stands old m) ≡ true → is_before_all (stands (take base old) m) ≡ true

-- to the last of the earlier nodes that are before all of the start
pub record Backs (t : Tree) (start old new : List ℕ) : Type 0 where
  pub exists : has_path t new ≡ true
  pub clear : is_before_all (stands new start) ≡ true
  pub passes : is_earlier (stands new old) ≡ true
  pub last : (m : List ℕ) → has_path t m ≡ true → is_before_all (stands m start) ≡ true → is_earlier (stands m old) ≡ true → is_earlier (stands new m) ≡ false

abbrev pub NoneBack : Tree → List ℕ → List ℕ → Type 0
NoneBack t start old = (m : List ℕ) → has_path t m ≡ true → is_before_all (stands m start) ≡ true → is_earlier (stands m old) ≡ false

-- the tree has the spot
unfoldable pub has_spot : Tree → Spot → Bool
has_spot t s = has_attribute (subtree_at t s.0) s.1

-- the spot is the first on the axis of those that pass
pub record Lands (axis : Axis) (t : Tree) (n : Spot) (passing : Spot → Bool) (new : Spot) : Type 0 where
  pub exists : has_spot t new ≡ true
  pub on : on_axis axis n new ≡ true
  pub passes : passing new ≡ true
  pub first : (m : Spot) → has_spot t m ≡ true → on_axis axis n m ≡ true → passing m ≡ true → is_further axis m new ≡ false

-- none passes
abbrev pub Ends : Axis → Tree → Spot → (Spot → Bool) → Type 0
Ends axis t n passing = (m : Spot) → has_spot t m ≡ true → on_axis axis n m ≡ true → passing m ≡ false

-- Where a walk along an axis stands: before its first step at the start, and later on a node of the axis or past its end.
pub record IsSteady (axis : Axis) (n : Place) (begun here : Bool) (path : List ℕ) (attribute : Option ℕ) (room : ℕ) : Type 0 where
  pub start : has_spot n.tree (n.path, n.attribute) ≡ true
  pub room_is : tree_depth n.tree ≤ room
  pub ahead : begun ≡ false → here ≡ false
  pub path_is : begun ≡ false → path ≡ n.path
  pub attribute_is : begun ≡ false → attribute ≡ n.attribute
  pub exists : here ≡ true → has_spot n.tree (path, attribute) ≡ true
  pub on : here ≡ true → on_axis axis (n.path, n.attribute) (path, attribute) ≡ true

abbrev pub every : Spot → Bool
every s = true
