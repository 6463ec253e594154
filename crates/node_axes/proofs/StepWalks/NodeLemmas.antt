-- The nodes that steps and paths lead to, in whatever order and however often.
use Rattle.std.proofs.Common.{◌≡◌, ℕ, ◌+◌, List, [], ◌∷◌, ◌++◌, map, reverse, length, Bool, true, false, cond, inl, inr, refl, sym, ap, ap₂, subst, ◌∙◌}
use Rattle.std.specs.Prelude.{if◌then◌else◌, ◌||◌}
use Rattle.std.specs.List.{filter, list_any, Contains}
use Rattle.std.proofs.lemmas.List.Folds.{list_any-append}
use Rattle.std.proofs.lemmas.List.Sorted.{IsPermutation-reverse, IsPermutation-sym, Contains-permutation}
use Rattle.xt_tree.specs.Place.{Place}
use Rattle.xt_tree.specs.Walk.{Spot, spots_of}
use Rattle.xt_types.specs.declared.axes.Axis.{Axis}
use Rattle.xt_types.specs.declared.node_tests.Test.{Test}
use Rattle.node_tests.specs.Tests.{passes_at}
use Rattle.node_axes.specs.Axes.{is_itself, is_reverse, in_axis_order, on_axis, spot_of, place_at, axis_nodes}
use Rattle.node_axes.proofs.FilterLemmas.{In, In-from_Contains, Contains-from_In}
use Rattle.node_axes.specs.StepWalks.Nodes.{Focus, Nodes, kept_from, kept_by, kept_by_all, in_tree_order, step_nodes, nodes_of_each, slash_nodes}
use Rattle.node_axes.specs.StepWalks.Within.{IsWithin, AreWithin, SameNodes}
use Rattle.node_axes.proofs.StepWalks.OrderLemmas.{found, some_in, spot_within, from_filter, in_tree_order_from, in_tree_order_to, is_one_of_nodes}

pub are_within : (n : Place) (ms : List Place) → ((m : Place) → In m ms → IsWithin n m) → AreWithin n ms
are_within n [] h = tt
are_within n (m ∷ ms) h = (h m (inl refl), are_within n ms (λ x i. h x (inr i)))

pub within_chain : (n m k : Place) → IsWithin n m → IsWithin m k → IsWithin n k
within_chain n m k h g = record { number_is = g.number_is ∙ h.number_is; tree_is = g.tree_is ∙ h.tree_is; exists = g.exists }

-- what a list of one tree keeps in document order

pub tree_order_within : (n : Place) (xs : List Place) → AreWithin n (in_tree_order n xs)
unfolding in_tree_order
tree_order_within n xs = are_within n _ (λ m i. spot_within n m (from_filter (is_one_of_nodes xs) m (map (place_at n) (spots_of n.tree)) i).0)

any_in : (p : Place → Bool) (xs ys : List Place) → ((m : Place) → In m xs → In m ys) → list_any p xs ≡ true → list_any p ys ≡ true
any_in p xs ys h e = let f = found p xs e in some_in p f.node ys (h f.node f.is_in) f.passes

pub same_members : (xs ys : List Place) → ((m : Place) → In m xs → In m ys) → ((m : Place) → In m ys → In m xs) → SameNodes xs ys
same_members xs ys h g p = agree (list_any p xs) (list_any p ys) (any_in p xs ys h) (any_in p ys xs g)
  where
    agree : (a b : Bool) → (a ≡ true → b ≡ true) → (b ≡ true → a ≡ true) → a ≡ b
    agree true b f g = sym (f refl)
    agree false true f g = g refl
    agree false false f g = refl

pub same_in_order : (n : Place) (xs : List Place) → AreWithin n xs → SameNodes (in_tree_order n xs) xs
same_in_order n xs w = same_members (in_tree_order n xs) xs (λ m i. in_tree_order_from n m xs w i) (λ m i. in_tree_order_to n m xs w i)

filter_same : (p q : Place → Bool) (ms : List Place) → ((m : Place) → p m ≡ q m) → filter p ms ≡ filter q ms
filter_same p q [] h = refl
filter_same p q (m ∷ ms) h = ap₂ (λ (b : Bool) (rest : List Place). cond b (m ∷ rest) rest) (h m) (filter_same p q ms h)

pub order_of_same : (n : Place) (xs ys : List Place) → SameNodes xs ys → in_tree_order n xs ≡ in_tree_order n ys
unfolding in_tree_order
order_of_same n xs ys h = filter_same (is_one_of_nodes xs) (is_one_of_nodes ys) (map (place_at n) (spots_of n.tree)) (λ m. h (λ x. is_itself (spot_of x) (spot_of m)))

-- the nodes of an axis

in_reverse : (s : Spot) (ss : List Spot) → In s (reverse ss) → In s ss
in_reverse s ss i = In-from_Contains s ss (back (Contains-from_In s (reverse ss) i))
  where
    back : Contains (reverse ss) s → Contains ss s
    back c = Contains-permutation (reverse ss) ss s (IsPermutation-sym ss (reverse ss) (IsPermutation-reverse ss)) c

spot_from_filter : (q : Spot → Bool) (s : Spot) (ss : List Spot) → In s (filter q ss) → In s ss
spot_from_filter q s [] i = absurd i
spot_from_filter q s (t ∷ ts) i = by (q t) i (spot_from_filter q s ts)
  where
    by : (b : Bool) → In s (cond b (t ∷ filter q ts) (filter q ts)) → (In s (filter q ts) → In s ts) → In s (t ∷ ts)
    by true (inl e) more = inl e
    by true (inr j) more = inr (more j)
    by false j more = inr (more j)

from_axis_order : (axis : Axis) (s : Spot) (ss : List Spot) → In s (in_axis_order axis ss) → In s ss
unfolding in_axis_order
from_axis_order axis s ss i = by (is_reverse axis) i
  where
    by : (b : Bool) → In s (cond b (reverse ss) ss) → In s ss
    by true j = in_reverse s ss j
    by false j = j

in_map : (n : Place) (m : Place) (ss ts : List Spot) → ((s : Spot) → In s ss → In s ts) → In m (map (place_at n) ss) → In m (map (place_at n) ts)
in_map n m [] ts h i = absurd i
in_map n m (s ∷ ss) ts h (inl e) = subst (λ x. In x (map (place_at n) ts)) e (put s ts (h s (inl refl)))
  where
    put : (s : Spot) (ts : List Spot) → In s ts → In (place_at n s) (map (place_at n) ts)
    put s [] i = absurd i
    put s (t ∷ ts) (inl e) = inl (ap (place_at n) e)
    put s (t ∷ ts) (inr i) = inr (put s ts i)
in_map n m (s ∷ ss) ts h (inr i) = in_map n m ss ts (λ t j. h t (inr j)) i

pub axis_within : (axis : Axis) (n : Place) → AreWithin n (axis_nodes axis n)
unfolding axis_nodes
axis_within axis n = are_within n _ (λ m i. spot_within n m (in_map n m (in_axis_order axis (filter (on_axis axis (spot_of n)) (spots_of n.tree))) (spots_of n.tree) (λ s j. spot_from_filter (on_axis axis (spot_of n)) s (spots_of n.tree) (from_axis_order axis s _ j)) i))

pub filter_within : (n : Place) (p : Place → Bool) (ms : List Place) → AreWithin n ms → AreWithin n (filter p ms)
filter_within n p [] w = tt
filter_within n p (m ∷ ms) w = by (p m) (filter_within n p ms w.1)
  where
    by : (b : Bool) → AreWithin n (filter p ms) → AreWithin n (cond b (m ∷ filter p ms) (filter p ms))
    by true v = (w.0, v)
    by false v = v

kept_from_within : (n : Place) (holds : Focus → Bool) (size at : ℕ) (ms : List Place) → AreWithin n ms → AreWithin n (kept_from holds size at ms)
unfolding kept_from
kept_from_within n holds size at [] w = tt
kept_from_within n holds size at (m ∷ ms) w = by (holds (record { node = m; position = at; size = size })) (kept_from_within n holds size (at + 1) ms w.1)
  where
    by : (b : Bool) → AreWithin n (kept_from holds size (at + 1) ms) → AreWithin n (if b then m ∷ kept_from holds size (at + 1) ms else kept_from holds size (at + 1) ms)
    by true v = (w.0, v)
    by false v = v

pub kept_within : (n : Place) (tests : List (Focus → Bool)) (ms : List Place) → AreWithin n ms → AreWithin n (kept_by_all tests ms)
unfolding kept_by_all kept_by
kept_within n [] ms w = w
kept_within n (holds ∷ more) ms w = kept_within n more (kept_by holds ms) (kept_from_within n holds (length ms) 1 ms w)

-- the nodes of a step before they are put in document order
abbrev pub found_by_step : Axis → Test → List (Focus → Bool) → Nodes
found_by_step axis wanted tests n = kept_by_all tests (filter (passes_at axis wanted) (axis_nodes axis n))

pub step_found_within : (axis : Axis) (wanted : Test) (tests : List (Focus → Bool)) (n : Place) → AreWithin n (found_by_step axis wanted tests n)
step_found_within axis wanted tests n = kept_within n tests _ (filter_within n (passes_at axis wanted) _ (axis_within axis n))

pub step_same : (axis : Axis) (wanted : Test) (tests : List (Focus → Bool)) (n : Place) → SameNodes (step_nodes axis wanted tests n) (found_by_step axis wanted tests n)
unfolding step_nodes
step_same axis wanted tests n = same_in_order n (found_by_step axis wanted tests n) (step_found_within axis wanted tests n)

pub step_within : (axis : Axis) (wanted : Test) (tests : List (Focus → Bool)) (n : Place) → AreWithin n (step_nodes axis wanted tests n)
unfolding step_nodes
step_within axis wanted tests n = tree_order_within n _

-- a step further from each node

pub each_any : (p : Place → Bool) (next : Nodes) (ms : List Place) → list_any p (nodes_of_each next ms) ≡ list_any (λ m. list_any p (next m)) ms
unfolding nodes_of_each
each_any p next [] = refl
each_any p next (m ∷ ms) = list_any-append p (next m) (nodes_of_each next ms) ∙ ap (λ (b : Bool). list_any p (next m) || b) (each_any p next ms)

append_within : (n : Place) (xs ys : List Place) → AreWithin n xs → AreWithin n ys → AreWithin n (xs ++ ys)
append_within n [] ys w v = v
append_within n (x ∷ xs) ys w v = (w.0, append_within n xs ys w.1 v)

pub chain_within : (n m : Place) (ks : List Place) → IsWithin n m → AreWithin m ks → AreWithin n ks
chain_within n m [] h w = tt
chain_within n m (k ∷ ks) h w = (within_chain n m k h w.0, chain_within n m ks h w.1)

-- where a path leads, each node is of the tree that it began in
abbrev pub Stays : Nodes → Type 0
Stays g = (n : Place) → AreWithin n (g n)

pub each_within : (n : Place) (next : Nodes) (ms : List Place) → Stays next → AreWithin n ms → AreWithin n (nodes_of_each next ms)
unfolding nodes_of_each
each_within n next [] s w = tt
each_within n next (m ∷ ms) s w = append_within n (next m) (nodes_of_each next ms) (chain_within n m (next m) w.0 (s m)) (each_within n next ms s w.1)

pub slash_same : (path next : Nodes) (n : Place) → Stays path → Stays next → SameNodes (slash_nodes path next n) (nodes_of_each next (path n))
unfolding slash_nodes
slash_same path next n s t = same_in_order n (nodes_of_each next (path n)) (each_within n next (path n) t (s n))

pub slash_within : (path next : Nodes) (n : Place) → AreWithin n (slash_nodes path next n)
unfolding slash_nodes
slash_within path next n = tree_order_within n _

-- whether some node that a path leads to passes, from node to node
pub slash_any : (p : Place → Bool) (path next : Nodes) (n : Place) → Stays path → Stays next → list_any p (slash_nodes path next n) ≡ list_any (λ m. list_any p (next m)) (path n)
slash_any p path next n s t = slash_same path next n s t p ∙ each_any p next (path n)
