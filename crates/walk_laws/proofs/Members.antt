-- Which nodes steps find.
use Rattle.std.proofs.Common.{◌≡◌, ℕ, ◌+◌, List, [], ◌∷◌, ◌++◌, map, Bool, true, false, cond, inl, inr, ◌⊎◌, refl, sym, ap, ◌∙◌, subst}
use Rattle.std.specs.Prelude.{if◌then◌else◌, reverse}
use Rattle.std.specs.List.{filter, list_all}
use Rattle.std.proofs.lemmas.Bool.{and_parts}
use Rattle.xt_types.specs.declared.axes.Axis.{Axis}
use Rattle.xt_tree.specs.Place.{Place}
use Rattle.xt_tree.specs.Walk.{Spot, spots_of}
use Rattle.xt_syntax.specs.declared.exprs.Expr.{Expr}
use Rattle.node_axes.specs.Axes.{axis_nodes, in_axis_order, is_reverse, on_axis, place_at, spot_of}
use Rattle.node_axes.proofs.FilterLemmas.{In}
use Rattle.node_axes.specs.StepWalks.Nodes.{Nodes, kept_from, kept_by, kept_by_all, nodes_of_each}
use Rattle.node_axes.proofs.StepWalks.OrderLemmas.{mapped}
use Rattle.quiet_meaning.specs.Quietly.{Quietly, quietly_of, holds_at}
use Rattle.quiet_eval.specs.QuietPlaces.Free.{IsSame, is_place_free_expr, focus}
use Rattle.quiet_eval.proofs.QuietPlaces.FreeLemmas.{free_is_same}

-- lists

pub in_append : {X : Type 0} (m : X) (xs ys : List X) → In m xs ⊎ In m ys → In m (xs ++ ys)
in_append m [] ys (inl i) = absurd i
in_append m [] ys (inr i) = i
in_append m (x ∷ xs) ys (inl (inl e)) = inl e
in_append m (x ∷ xs) ys (inl (inr i)) = inr (in_append m xs ys (inl i))
in_append m (x ∷ xs) ys (inr i) = inr (in_append m xs ys (inr i))

pub from_append : {X : Type 0} (m : X) (xs ys : List X) → In m (xs ++ ys) → In m xs ⊎ In m ys
from_append m [] ys i = inr i
from_append m (x ∷ xs) ys (inl e) = inl (inl e)
from_append m (x ∷ xs) ys (inr i) = by (from_append m xs ys i)
  where
    by : In m xs ⊎ In m ys → In m (x ∷ xs) ⊎ In m ys
    by (inl j) = inl (inr j)
    by (inr j) = inr j

pub record Further (m : Place) (next : Nodes) (ms : List Place) : Type 0 where
  pub from : Place
  pub is_in : In from ms
  pub leads : In m (next from)

pub from_each : (m : Place) (next : Nodes) (ms : List Place) → In m (nodes_of_each next ms) →
    Further m next ms
unfolding nodes_of_each
from_each m next [] i = absurd i
from_each m next (d ∷ ds) i =
    by (from_append m (next d) (nodes_of_each next ds) i) (λ j. from_each m next ds j)
  where
    by : In m (next d) ⊎ In m (nodes_of_each next ds) →
        (In m (nodes_of_each next ds) → Further m next ds) → Further m next (d ∷ ds)
    by (inl j) more = record { from = d; is_in = inl refl; leads = j }
    by (inr j) more =
        let f : Further m next ds = more j in
        record { from = f.from; is_in = inr f.is_in; leads = f.leads }

pub to_each : (m d : Place) (next : Nodes) (ms : List Place) → In d ms → In m (next d) →
    In m (nodes_of_each next ms)
unfolding nodes_of_each
to_each m d next [] i j = absurd i
to_each m d next (x ∷ xs) (inl e) j =
    in_append m (next x) (nodes_of_each next xs) (inl (subst (λ y. In m (next y)) (sym e) j))
to_each m d next (x ∷ xs) (inr i) j =
    in_append m (next x) (nodes_of_each next xs) (inr (to_each m d next xs i j))

-- an axis

spot_kept : (q : Spot → Bool) (s : Spot) (ss : List Spot) → In s ss → q s ≡ true → In s (filter q ss)
spot_kept q s [] i h = absurd i
spot_kept q s (t ∷ ts) (inl e) h = let g : q t ≡ true = ap q e ∙ h in rw g (inl e)
spot_kept q s (t ∷ ts) (inr i) h = by (q t) (spot_kept q s ts i h)
  where
    by : (b : Bool) → In s (filter q ts) → In s (cond b (t ∷ filter q ts) (filter q ts))
    by true j = inr j
    by false j = j

spot_from : (q : Spot → Bool) (s : Spot) (ss : List Spot) → In s (filter q ss) →
    In s ss × (q s ≡ true)
spot_from q s [] i = absurd i
spot_from q s (t ∷ ts) i = by (q t) refl i (spot_from q s ts)
  where
    by : (b : Bool) → q t ≡ b → In s (cond b (t ∷ filter q ts) (filter q ts)) →
        (In s (filter q ts) → In s ts × (q s ≡ true)) → In s (t ∷ ts) × (q s ≡ true)
    by true e (inl f) more = (inl f, ap q (sym f) ∙ e)
    by true e (inr j) more = let g : In s ts × (q s ≡ true) = more j in (inr g.0, g.1)
    by false e j more = let g : In s ts × (q s ≡ true) = more j in (inr g.0, g.1)

spot_mapped : (n : Place) (s : Spot) (ss : List Spot) → In s ss →
    In (place_at n s) (map (place_at n) ss)
spot_mapped n s [] i = absurd i
spot_mapped n s (t ∷ ts) (inl e) = inl (ap (place_at n) e)
spot_mapped n s (t ∷ ts) (inr i) = inr (spot_mapped n s ts i)

pub record OnAxis (along : Axis) (n m : Place) : Type 0 where
  pub spot : Spot
  pub exists : In spot (spots_of n.tree)
  pub is : place_at n spot ≡ m
  pub on : on_axis along (spot_of n) spot ≡ true

pub from_axis : (along : Axis) (n m : Place) → is_reverse along ≡ false → In m (axis_nodes along n) →
    OnAxis along n m
unfolding axis_nodes in_axis_order
from_axis along n m h i =
    let ss = filter (on_axis along (spot_of n)) (spots_of n.tree) in
    let j : In m (map (place_at n) ss) =
    subst (λ (b : Bool). In m (map (place_at n) (if b then reverse ss else ss))) h i in
    let f = mapped n m ss j in
    let g = spot_from (on_axis along (spot_of n)) f.spot (spots_of n.tree) f.is_in in
    record { spot = f.spot; exists = g.0; is = f.is; on = g.1 }

pub to_axis : (along : Axis) (n : Place) (s : Spot) → is_reverse along ≡ false →
    In s (spots_of n.tree) → on_axis along (spot_of n) s ≡ true → In (place_at n s) (axis_nodes along n)
unfolding axis_nodes in_axis_order
to_axis along n s h i o =
    rw h (spot_mapped n s (filter (on_axis along (spot_of n)) (spots_of n.tree))
    (spot_kept (on_axis along (spot_of n)) s (spots_of n.tree) i o))

-- predicates that look at no position

abbrev pub AllSame : List Quietly → Type 0
AllSame [] = Unit {0}
AllSame (q ∷ qs) = IsSame q × AllSame qs

pub each_same : (tests : List Expr) → list_all is_place_free_expr tests ≡ true →
    AllSame (map quietly_of tests)
each_same [] h = tt
each_same (e ∷ tests) h =
    let p = and_parts (is_place_free_expr e) (list_all is_place_free_expr tests) h in
    (free_is_same e p.0, each_same tests p.1)

abbrev holds_here : Quietly → Place → Bool
holds_here q m = holds_at q (focus m 1 1)

abbrev pub hold_here : List Quietly → Place → Bool
hold_here qs m = list_all (λ q. holds_here q m) qs

from_kept : (q : Quietly) → IsSame q → (m : Place) (size at : ℕ) (xs : List Place) →
    In m (kept_from (holds_at q) size at xs) → In m xs × (holds_here q m ≡ true)
unfolding kept_from
from_kept q same m size at [] i = absurd i
from_kept q same m size at (x ∷ xs) i =
    by (holds_at q (focus x at size)) refl i (from_kept q same m size (at + 1) xs)
  where
    by : (b : Bool) → holds_at q (focus x at size) ≡ b →
        In m (if b then x ∷ kept_from (holds_at q) size (at + 1) xs
        else kept_from (holds_at q) size (at + 1) xs) →
        (In m (kept_from (holds_at q) size (at + 1) xs) → In m xs × (holds_here q m ≡ true)) →
        In m (x ∷ xs) × (holds_here q m ≡ true)
    by true e (inl f) more =
        (inl f, ap (holds_here q) (sym f) ∙ same x 1 1 at size ∙ e)
    by true e (inr j) more = let g : In m xs × (holds_here q m ≡ true) = more j in (inr g.0, g.1)
    by false e j more = let g : In m xs × (holds_here q m ≡ true) = more j in (inr g.0, g.1)

to_kept : (q : Quietly) → IsSame q → (m : Place) (size at : ℕ) (xs : List Place) → In m xs →
    holds_here q m ≡ true → In m (kept_from (holds_at q) size at xs)
unfolding kept_from
to_kept q same m size at [] i h = absurd i
to_kept q same m size at (x ∷ xs) (inl e) h =
    let g : holds_at q (focus x at size) ≡ true =
    (same x at size 1 1 ∙ ap (holds_here q) e ∙ h) in
    rw g (inl e)
to_kept q same m size at (x ∷ xs) (inr i) h =
    by (holds_at q (focus x at size)) (to_kept q same m size (at + 1) xs i h)
  where
    by : (b : Bool) → In m (kept_from (holds_at q) size (at + 1) xs) →
        In m (if b then x ∷ kept_from (holds_at q) size (at + 1) xs
        else kept_from (holds_at q) size (at + 1) xs)
    by true j = inr j
    by false j = j

pub from_all : (qs : List Quietly) → AllSame qs → (m : Place) (xs : List Place) →
    In m (kept_by_all (map holds_at qs) xs) → In m xs × (hold_here qs m ≡ true)
unfolding kept_by_all kept_by
from_all [] same m xs i = (i, refl)
from_all (q ∷ qs) same m xs i =
    let f = from_all qs same.1 m (kept_by (holds_at q) xs) i in
    let g = from_kept q same.0 m _ 1 xs f.0 in
    (g.0, rw (g.1, f.1) refl)

pub to_all : (qs : List Quietly) → AllSame qs → (m : Place) (xs : List Place) → In m xs →
    hold_here qs m ≡ true → In m (kept_by_all (map holds_at qs) xs)
unfolding kept_by_all kept_by
to_all [] same m xs i h = i
to_all (q ∷ qs) same m xs i h =
    let p = and_parts (holds_here q m) (hold_here qs m) h in
    to_all qs same.1 m (kept_by (holds_at q) xs) (to_kept q same.0 m _ 1 xs i p.0) p.1
