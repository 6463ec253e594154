-- A list of nodes of one tree, sorted and rid of doubles, is that list in document order.
use Rattle.std.proofs.Common.{◌≡◌, ℕ, List, [], ◌∷◌, map, Bool, true, false, cond, ◌||◌, inl, inr, Option, Some, None, refl, sym, ap, ap₂, subst, ◌∙◌, arith, eq-eqb}
use Rattle.std.specs.Prelude.{nat_eq}
use Rattle.std.specs.List.{filter, list_any, dedup, Contains, AllByRecursion}
use Rattle.std.specs.List.Sorted.{IsSorted, IsStrictlySortedBy, IsPermutation}
use Rattle.std.specs.Cmp.{IsTotalOrder, IsStrictWeakOrder}
use Rattle.std.specs.Cmp.Lexicographic.{slice_cmp}
use Rattle.std.specs.Option.{option_cmp}
use Rattle.std.specs.Ordering.{nat_cmp, ordering_then, eq_by_cmp, is_lt, is_eq}
use Rattle.std.specs.declared.cmp.Ordering.{Ordering}
use Rattle.std.specs.declared.cmp.Ordering.TheVariants.{Less, Equal, Greater}
use Rattle.std.proofs.lemmas.Bool.{and_parts}
use Rattle.std.proofs.lemmas.Bool.Decides.{nat_tests}
use Rattle.std.proofs.lemmas.Cmp.{nat_cmp_total, on_total, then_total, lists_total, ranked, eq_by_cmp_equiv, tied_itself}
use Rattle.std.proofs.lemmas.List.Kept.{IsStrictlySortedBy-dedup, IsStrictlySortedBy-filter, Contains-from_dedup, Any-dedup}
use Rattle.std.proofs.lemmas.List.Sorted.{ranks_by, Contains-permutation, IsPermutation-sym}
use Rattle.xt_tree.specs.declared.trees.Tree.{Tree}
use Rattle.xt_tree.specs.Place.{Place, steps, step_cmp, place_cmp, has_place}
use Rattle.xt_tree.specs.Walk.{Spot, spots_of, spot_cmp}
use Rattle.xt_tree.proofs.OrderLemmas.{slice_cmp-steps}
use Rattle.xt_tree.proofs.WalkLemmas.{walk_rises}
use Rattle.xt_tree.proofs.WalkPlaces.{walk_is_exact}
use Rattle.node_axes.specs.Axes.{is_itself, same_path, same_attribute, spot_of, place_at}
use Rattle.node_axes.proofs.FilterLemmas.{In, Rising, Leads, In-from_Contains, Contains-from_In, Rising-from_pairs}
use Rattle.node_axes.specs.StepWalks.Nodes.{in_tree_order}
use Rattle.node_axes.specs.StepWalks.Within.{IsWithin, AreWithin}

step_total : IsTotalOrder step_cmp
step_total = then_total (on_total (λ (s : ℕ × ℕ). s.0) nat_cmp_total) (on_total (λ (s : ℕ × ℕ). s.1) nat_cmp_total)

pub place_total : IsTotalOrder place_cmp
place_total = on_total (λ (n : Place). steps n.path n.attribute) (lists_total step_total)

pub place_ranks : IsStrictWeakOrder (λ (a b : Place). is_lt (place_cmp a b))
place_ranks = ranks_by place_total (λ (n : Place). n)

-- what the order does not tell apart

number_tied : (i j : ℕ) → nat_cmp i j ≡ Equal → i ≡ j
number_tied i j e = ranked i j Equal (sym e)

path_tied : (p q : List ℕ) → slice_cmp nat_cmp p q ≡ Equal → p ≡ q
path_tied [] [] e = refl
path_tied [] (j ∷ q) e = absurd cc
path_tied (i ∷ p) [] e = absurd cc
path_tied (i ∷ p) (j ∷ q) e = by (nat_cmp i j) refl e (path_tied p q)
  where
    by : (o : Ordering) → nat_cmp i j ≡ o → ordering_then o (slice_cmp nat_cmp p q) ≡ Equal → (slice_cmp nat_cmp p q ≡ Equal → p ≡ q) → i ∷ p ≡ j ∷ q
    by Less f h more = absurd cc
    by Equal f h more = ap₂ (λ (x : ℕ) (xs : List ℕ). x ∷ xs) (number_tied i j f) (more h)
    by Greater f h more = absurd cc

attribute_tied : (a b : Option ℕ) → option_cmp nat_cmp a b ≡ Equal → a ≡ b
attribute_tied None None e = refl
attribute_tied None (Some j) e = absurd cc
attribute_tied (Some i) None e = absurd cc
attribute_tied (Some i) (Some j) e = ap Some (number_tied i j e)

both_equal : (o r : Ordering) → ordering_then o r ≡ Equal → (o ≡ Equal) × (r ≡ Equal)
both_equal Less r e = absurd cc
both_equal Equal r e = (refl, e)
both_equal Greater r e = absurd cc

-- places with the same parts
same_place : (x y : Place) → x.number ≡ y.number → x.tree ≡ y.tree → x.path ≡ y.path → x.attribute ≡ y.attribute → x ≡ y
same_place x y a b e f =
    ap (λ (z : ℕ). (let r : Place = record { number = z; tree = x.tree; path = x.path; attribute = x.attribute } in r)) a
    ∙ ap (λ (z : Tree). (let r : Place = record { number = y.number; tree = z; path = x.path; attribute = x.attribute } in r)) b
    ∙ ap (λ (z : List ℕ). (let r : Place = record { number = y.number; tree = y.tree; path = z; attribute = x.attribute } in r)) e
    ∙ ap (λ (z : Option ℕ). (let r : Place = record { number = y.number; tree = y.tree; path = y.path; attribute = z } in r)) f

within_same : (n x y : Place) → IsWithin n x → IsWithin n y → x.path ≡ y.path → x.attribute ≡ y.attribute → x ≡ y
within_same n x y h g e f = same_place x y (h.number_is ∙ sym g.number_is) (h.tree_is ∙ sym g.tree_is) e f

pub within_tied : (n x y : Place) → IsWithin n x → IsWithin n y → place_cmp x y ≡ Equal → x ≡ y
within_tied n x y h g e =
    let f = both_equal (slice_cmp nat_cmp x.path y.path) (option_cmp nat_cmp x.attribute y.attribute) (sym (slice_cmp-steps x.path y.path x.attribute y.attribute) ∙ e) in
    within_same n x y h g (path_tied x.path y.path f.0) (attribute_tied x.attribute y.attribute f.1)

-- the same spot

same_number : (i j : ℕ) → nat_eq i j ≡ true → i ≡ j
same_number i j h = grind (arith, nat_tests)

path_is : (p q : List ℕ) → same_path p q ≡ true → p ≡ q
unfolding same_path
path_is [] [] h = refl
path_is [] (j ∷ q) h = absurd cc
path_is (i ∷ p) [] h = absurd cc
path_is (i ∷ p) (j ∷ q) h = let g = and_parts (nat_eq i j) (same_path p q) h in ap₂ (λ x xs. x ∷ xs) (same_number i j g.0) (path_is p q g.1)

path_itself : (p : List ℕ) → same_path p p ≡ true
unfolding same_path
path_itself [] = refl
path_itself (i ∷ p) = rw (eq-eqb i i refl, path_itself p) refl

pub attribute_is : (a b : Option ℕ) → same_attribute a b ≡ true → a ≡ b
unfolding same_attribute
attribute_is None None h = refl
attribute_is None (Some j) h = absurd cc
attribute_is (Some i) None h = absurd cc
attribute_is (Some i) (Some j) h = ap Some (same_number i j h)

attribute_itself : (a : Option ℕ) → same_attribute a a ≡ true
unfolding same_attribute
attribute_itself None = refl
attribute_itself (Some i) = eq-eqb i i refl

pub itself_is : (n x y : Place) → IsWithin n x → IsWithin n y → is_itself (spot_of x) (spot_of y) ≡ true → x ≡ y
unfolding is_itself
itself_is n x y h g e =
    let f = and_parts (same_path x.path y.path) (same_attribute x.attribute y.attribute) e in
    within_same n x y h g (path_is x.path y.path f.0) (attribute_is x.attribute y.attribute f.1)

pub itself : (x : Place) → is_itself (spot_of x) (spot_of x) ≡ true
unfolding is_itself
itself x = rw (path_itself x.path, attribute_itself x.attribute) refl

-- members

pub within_of : (n m : Place) (ms : List Place) → AreWithin n ms → In m ms → IsWithin n m
within_of n m [] h i = absurd i
within_of n m (x ∷ xs) h (inl e) = subst (IsWithin n) e h.0
within_of n m (x ∷ xs) h (inr i) = within_of n m xs h.1 i

pub some_in : (p : Place → Bool) (m : Place) (ms : List Place) → In m ms → p m ≡ true → list_any p ms ≡ true
some_in p m [] i h = absurd i
some_in p m (x ∷ xs) (inl e) h = let f : p x ≡ true = ap p e ∙ h in rw f refl
some_in p m (x ∷ xs) (inr i) h = rw (some_in p m xs i h) (either (p x))
  where
    either : (b : Bool) → (b || true) ≡ true
    either true = refl
    either false = refl

pub record Found (p : Place → Bool) (ms : List Place) : Type 0 where
  pub node : Place
  pub is_in : In node ms
  pub passes : p node ≡ true

pub found : (p : Place → Bool) (ms : List Place) → list_any p ms ≡ true → Found p ms
found p [] h = absurd cc
found p (x ∷ xs) h = by (p x) refl h (found p xs)
  where
    by : (b : Bool) → p x ≡ b → (b || list_any p xs) ≡ true → (list_any p xs ≡ true → Found p xs) → Found p (x ∷ xs)
    by true e g more = record { node = x; is_in = inl refl; passes = e }
    by false e g more = let f : Found p xs = more g in record { node = f.node; is_in = inr f.is_in; passes = f.passes }

pub in_filter : (q : Place → Bool) (m : Place) (ms : List Place) → In m ms → q m ≡ true → In m (filter q ms)
in_filter q m [] i h = absurd i
in_filter q m (x ∷ xs) (inl e) h = let f : q x ≡ true = ap q e ∙ h in rw f (inl e)
in_filter q m (x ∷ xs) (inr i) h = by (q x) (in_filter q m xs i h)
  where
    by : (b : Bool) → In m (filter q xs) → In m (cond b (x ∷ filter q xs) (filter q xs))
    by true j = inr j
    by false j = j

pub from_filter : (q : Place → Bool) (m : Place) (ms : List Place) → In m (filter q ms) → In m ms × (q m ≡ true)
from_filter q m [] i = absurd i
from_filter q m (x ∷ xs) i = by (q x) refl i (from_filter q m xs)
  where
    by : (b : Bool) → q x ≡ b → In m (cond b (x ∷ filter q xs) (filter q xs)) → (In m (filter q xs) → In m xs × (q m ≡ true)) → In m (x ∷ xs) × (q m ≡ true)
    by true e (inl f) more = (inl f, ap q (sym f) ∙ e)
    by true e (inr j) more = let g : In m xs × (q m ≡ true) = more j in (inr g.0, g.1)
    by false e j more = let g : In m xs × (q m ≡ true) = more j in (inr g.0, g.1)

spot_in_map : (n : Place) (s : Spot) (ss : List Spot) → In s ss → In (place_at n s) (map (place_at n) ss)
spot_in_map n s [] i = absurd i
spot_in_map n s (t ∷ ts) (inl e) = inl (ap (place_at n) e)
spot_in_map n s (t ∷ ts) (inr i) = inr (spot_in_map n s ts i)

pub record Mapped (n m : Place) (ss : List Spot) : Type 0 where
  pub spot : Spot
  pub is_in : In spot ss
  pub is : place_at n spot ≡ m

pub mapped : (n m : Place) (ss : List Spot) → In m (map (place_at n) ss) → Mapped n m ss
mapped n m [] i = absurd i
mapped n m (t ∷ ts) (inl e) = record { spot = t; is_in = inl refl; is = e }
mapped n m (t ∷ ts) (inr i) = let f = mapped n m ts i in record { spot = f.spot; is_in = inr f.is_in; is = f.is }

-- a node of the tree is one of its spots
pub at_spot : (n m : Place) → IsWithin n m → In m (map (place_at n) (spots_of n.tree))
at_spot n m h =
    let e : place_at n (spot_of m) ≡ m = same_place (place_at n (spot_of m)) m (sym h.number_is) (sym h.tree_is) refl refl in
    let t : has_place (place_at n (spot_of m)) ≡ true = subst (λ x. has_place x ≡ true) (sym e) h.exists in
    subst (λ x. In x (map (place_at n) (spots_of n.tree))) e (spot_in_map n (spot_of m) (spots_of n.tree) (In-from_Contains (spot_of m) (spots_of n.tree) ((walk_is_exact n.tree m.path m.attribute).1 t)))

pub spot_within : (n m : Place) → In m (map (place_at n) (spots_of n.tree)) → IsWithin n m
spot_within n m i =
    let f = mapped n m (spots_of n.tree) i in
    let t : has_place (place_at n f.spot) ≡ true = (walk_is_exact n.tree f.spot.0 f.spot.1).0 (Contains-from_In f.spot (spots_of n.tree) f.is_in) in
    subst (IsWithin n) f.is (record { number_is = refl; tree_is = refl; exists = t })

-- order

leads_mapped : (n : Place) (s : Spot) (ss : List Spot) → Leads (λ a b. is_lt (spot_cmp a b)) s ss → AllByRecursion (λ y. place_cmp (place_at n s) y ≡ Less) (map (place_at n) ss)
leads_mapped n s [] h = tt
leads_mapped n s (t ∷ ts) h = (less (spot_cmp s t) h.0, leads_mapped n s ts h.1)
  where
    less : (o : Ordering) → is_lt o ≡ true → o ≡ Less
    less Less e = refl
    less Equal e = absurd cc
    less Greater e = absurd cc

rising_mapped : (n : Place) (ss : List Spot) → Rising (λ a b. is_lt (spot_cmp a b)) ss → IsStrictlySortedBy place_cmp (map (place_at n) ss)
unfolding IsStrictlySortedBy
rising_mapped n [] h = tt
rising_mapped n (s ∷ ss) h = (leads_mapped n s ss h.0, rising_mapped n ss h.1)

pub spots_sorted : (n : Place) → IsStrictlySortedBy place_cmp (map (place_at n) (spots_of n.tree))
spots_sorted n = rising_mapped n (spots_of n.tree) (Rising-from_pairs (λ a b. is_lt (spot_cmp a b)) (spots_of n.tree) (λ i j d l m. ap is_lt (walk_rises n.tree i j d l m)))

before_all : (x m : Place) (ys : List Place) → AllByRecursion (λ y. place_cmp x y ≡ Less) ys → In m ys → place_cmp x m ≡ Less
before_all x m [] h i = absurd i
before_all x m (y ∷ ys) h (inl e) = subst (λ z. place_cmp x z ≡ Less) e h.0
before_all x m (y ∷ ys) h (inr i) = before_all x m ys h.1 i

not_both : (x y : Place) {G : Type 0} → place_cmp x y ≡ Less → place_cmp y x ≡ Less → G
not_both x y h g = let e = place_total.trans x y x h g in let f = tied_itself place_total x in absurd cc

-- two lists in strict order with the same members
pub one_sorted : (xs ys : List Place) → IsStrictlySortedBy place_cmp xs → IsStrictlySortedBy place_cmp ys → ((m : Place) → In m xs → In m ys) → ((m : Place) → In m ys → In m xs) → xs ≡ ys
unfolding IsStrictlySortedBy
one_sorted [] [] s t h g = refl
one_sorted [] (y ∷ ys) s t h g = absurd (g y (inl refl))
one_sorted (x ∷ xs) [] s t h g = absurd (h x (inl refl))
one_sorted (x ∷ xs) (y ∷ ys) s t h g =
    let same : x ≡ y = heads (h x (inl refl)) (g y (inl refl)) in
    ap₂ (λ z zs. z ∷ zs) same (one_sorted xs ys s.1 t.1 (λ m i. rest_in x y m xs ys same s.0 i (h m (inr i))) (λ m i. rest_in y x m ys xs (sym same) t.0 i (g m (inr i))))
  where
    heads : In x (y ∷ ys) → In y (x ∷ xs) → x ≡ y
    heads (inl e) j = sym e
    heads (inr i) (inl e) = e
    heads (inr i) (inr j) = not_both x y (before_all x y xs s.0 j) (before_all y x ys t.0 i)

    rest_in : (x y m : Place) (xs ys : List Place) → x ≡ y → AllByRecursion (λ z. place_cmp x z ≡ Less) xs → In m xs → In m (y ∷ ys) → In m ys
    rest_in x y m xs ys same b i (inl e) = let l = before_all x m xs b i in let k : x ≡ m = same ∙ e in let f = tied_itself place_total m in let l' : place_cmp m m ≡ Less = subst (λ z. place_cmp z m ≡ Less) k l in absurd cc
    rest_in x y m xs ys same b i (inr j) = j

-- the list in document order

abbrev pub is_one_of_nodes : List Place → Place → Bool
is_one_of_nodes nodes m = list_any (λ x. is_itself (spot_of x) (spot_of m)) nodes

pub tree_order_sorted : (n : Place) (nodes : List Place) → IsStrictlySortedBy place_cmp (in_tree_order n nodes)
unfolding in_tree_order
tree_order_sorted n nodes = IsStrictlySortedBy-filter place_cmp (is_one_of_nodes nodes) (map (place_at n) (spots_of n.tree)) (spots_sorted n)

pub in_tree_order_from : (n m : Place) (nodes : List Place) → AreWithin n nodes → In m (in_tree_order n nodes) → In m nodes
unfolding in_tree_order
in_tree_order_from n m nodes w i =
    let f = from_filter (is_one_of_nodes nodes) m (map (place_at n) (spots_of n.tree)) i in
    let g = found (λ x. is_itself (spot_of x) (spot_of m)) nodes f.1 in
    let e = itself_is n g.node m (within_of n g.node nodes w g.is_in) (spot_within n m f.0) g.passes in
    subst (λ x. In x nodes) e g.is_in

pub in_tree_order_to : (n m : Place) (nodes : List Place) → AreWithin n nodes → In m nodes → In m (in_tree_order n nodes)
unfolding in_tree_order
in_tree_order_to n m nodes w i =
    in_filter (is_one_of_nodes nodes) m (map (place_at n) (spots_of n.tree)) (at_spot n m (within_of n m nodes w i)) (some_in (λ x. is_itself (spot_of x) (spot_of m)) m nodes i (itself m))

-- sorted and rid of doubles
kept_in : (n m : Place) (nodes : List Place) → AreWithin n nodes → In m nodes → In m (dedup (eq_by_cmp place_cmp) nodes)
kept_in n m nodes w i =
    let (k, x, l, e, t) = Any-dedup (eq_by_cmp_equiv place_total) nodes m (Contains-from_In m nodes i) in
    let c : Contains (dedup (eq_by_cmp place_cmp) nodes) x = (k, l, e) in
    let j = In-from_Contains x nodes (Contains-from_dedup (eq_by_cmp place_cmp) nodes x c) in
    let same = within_tied n m x (within_of n m nodes w i) (within_of n x nodes w j) (equal (place_cmp m x) t) in
    subst (λ y. In y (dedup (eq_by_cmp place_cmp) nodes)) (sym same) (In-from_Contains x (dedup (eq_by_cmp place_cmp) nodes) c)
  where
    equal : (o : Ordering) → is_eq o ≡ true → o ≡ Equal
    equal Less h = absurd cc
    equal Equal h = refl
    equal Greater h = absurd cc

all_within : (n : Place) (xs ys : List Place) → AreWithin n xs → ((m : Place) → In m ys → In m xs) → AreWithin n ys
all_within n xs [] w h = tt
all_within n xs (y ∷ ys) w h = (within_of n y xs w (h y (inl refl)), all_within n xs ys w (λ m i. h m (inr i)))

pub sorted_once : (n : Place) (old sorted new : List Place) → AreWithin n old → IsSorted place_cmp sorted → IsPermutation old sorted → new ≡ dedup (eq_by_cmp place_cmp) sorted → new ≡ in_tree_order n old
sorted_once n old sorted new w s p e =
    let there : (m : Place) → In m old → In m sorted = λ m i. In-from_Contains m sorted (Contains-permutation old sorted m p (Contains-from_In m old i)) in
    let back : (m : Place) → In m sorted → In m old = λ m i. In-from_Contains m old (Contains-permutation sorted old m (IsPermutation-sym old sorted p) (Contains-from_In m sorted i)) in
    let v : AreWithin n sorted = all_within n old sorted w back in
    e ∙ one_sorted (dedup (eq_by_cmp place_cmp) sorted) (in_tree_order n old)
    (IsStrictlySortedBy-dedup place_total {E = eq_by_cmp place_cmp} (λ x y. refl) sorted s) (tree_order_sorted n old)
    (λ m i. in_tree_order_to n m old w (back m (In-from_Contains m sorted (Contains-from_dedup (eq_by_cmp place_cmp) sorted m (Contains-from_In m _ i)))))
    (λ m i. kept_in n m sorted v (there m (in_tree_order_from n m old w i)))
