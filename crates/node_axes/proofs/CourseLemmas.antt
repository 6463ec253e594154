-- What is still to come after a step.
use Rattle.std.proofs.Common.{◌≡◌, ℕ, List, [], ◌∷◌, ◌++◌, map, reverse, Bool, true, false, ◌&&◌, cond, Option, refl, sym, ap, ◌∙◌}
use Rattle.std.proofs.lemmas.List.{reverse-append}
use Rattle.std.proofs.lemmas.List.Elements.{filter_agree}
use Rattle.std.proofs.lemmas.Cmp.{nat_cmp_total}
use Rattle.std.specs.List.{filter}
use Rattle.std.specs.Option.{option_to_list}
use Rattle.std.specs.declared.cmp.Ordering.{Ordering}
use Rattle.std.specs.declared.cmp.Ordering.TheVariants.{Less, Equal, Greater}
use Rattle.std.specs.Ordering.{ordering_reverse}
use Rattle.std.specs.Cmp.{IsTotalOrder, on_total, then_total}
use Rattle.std.specs.Cmp.Lexicographic.{lists_total}
use Rattle.xt_tree.specs.declared.trees.Tree.{Tree}
use Rattle.xt_tree.specs.Place.{Place, steps, step_cmp}
use Rattle.xt_tree.specs.Walk.{Spot, spots_of, spot_cmp}
use Rattle.xt_tree.proofs.WalkLemmas.{walk_rises}
use Rattle.xt_tree.proofs.WalkPlaces.{walk_is_exact}
use Rattle.xt_types.specs.declared.axes.Axis.{Axis}
use Rattle.node_axes.specs.Axes.{is_less, is_before, is_reverse, in_axis_order, on_axis, spot_of, place_at, axis_nodes}
use Rattle.node_axes.specs.Course.{is_further, nodes_after, come_after, present_at}
use Rattle.node_axes.specs.Moves.{has_spot, Lands, Ends, every}
use Rattle.node_axes.proofs.FilterLemmas.{In, Rising, Contains-from_In, In-from_Contains, Rising-from_pairs, none_pass, first_passing, last_passing}
use Rattle.node_axes.proofs.UpLemmas.{not_before_itself}
use Rattle.xt_names.proofs.BoolLemmas.{never}

step_total : IsTotalOrder step_cmp
step_total = then_total (on_total (λ (s : ℕ × ℕ). s.0) nat_cmp_total) (on_total (λ (s : ℕ × ℕ). s.1) nat_cmp_total)

spot_total : IsTotalOrder spot_cmp
spot_total = on_total (λ (s : Spot). steps s.0 s.1) (lists_total step_total)

less_is : (o : Ordering) → is_less o ≡ true → o ≡ Less
unfolding is_less
less_is Less h = refl
less_is Equal h = never h
less_is Greater h = never h

before_less : (s t : Spot) → is_before s t ≡ true → spot_cmp s t ≡ Less
unfolding is_before
before_less s t h = less_is (spot_cmp s t) h

less_before : (s t : Spot) → spot_cmp s t ≡ Less → is_before s t ≡ true
unfolding is_before is_less
less_before s t h = ap is_less h

pub before_both : (s t : Spot) → is_before s t ≡ true → is_before t s ≡ false
unfolding is_before is_less
before_both s t h = ap is_less (spot_total.antisymm t s ∙ ap ordering_reverse (before_less s t h))

pub before_chain : (s t u : Spot) → is_before s t ≡ true → is_before t u ≡ true → is_before s u ≡ true
before_chain s t u h g = less_before s u (spot_total.trans s t u (before_less s t h) (before_less t u g))

spots_rise : (t : Tree) → Rising is_before (spots_of t)
spots_rise t = Rising-from_pairs is_before (spots_of t) (λ i j d l m. less_before _ _ (walk_rises t i j d l m))

spot_in : (t : Tree) (s : Spot) → has_spot t s ≡ true → In s (spots_of t)
unfolding has_spot
spot_in t s h = In-from_Contains s (spots_of t) ((walk_is_exact t s.0 s.1).1 h)

in_spot : (t : Tree) (s : Spot) → In s (spots_of t) → has_spot t s ≡ true
unfolding has_spot
in_spot t s i = (walk_is_exact t s.0 s.1).0 (Contains-from_In s (spots_of t) i)

-- the spots of the axis that pass, in the order of the axis
abbrev pub passing : Axis → Spot → (Spot → Bool) → Tree → List Spot
passing axis n b t = in_axis_order axis (filter (λ s. on_axis axis n s && b s) (spots_of t))

forward : (axis : Axis) (t : Tree) (n new : Spot) (b : Spot → Bool) → ((s u : Spot) → is_further axis s u ≡ is_before s u) → ((s : Spot) → is_further axis new s ≡ true → b s ≡ true) → Lands axis t n b new
    → filter (λ s. on_axis axis n s && b s) (spots_of t) ≡ new ∷ filter (λ s. on_axis axis n s && is_further axis new s) (spots_of t)
forward axis t n new b f up l =
    first_passing (on_axis axis n) b is_before new (spots_of t) (spots_rise t) (spot_in t new l.exists) l.on l.passes (not_before_itself new) (λ s h. before_both s new h)
    (λ s h. up s (f new s ∙ h)) (λ s i o g. sym (f s new) ∙ l.first s (in_spot t s i) o g)
    ∙ ap (λ (z : List Spot). new ∷ z) (sym (filter_agree (λ s. on_axis axis n s && is_further axis new s) (λ s. on_axis axis n s && is_before new s) (λ s. ap (λ b. on_axis axis n s && b) (f new s)) (spots_of t)))

backward : (axis : Axis) (t : Tree) (n new : Spot) (b : Spot → Bool) → ((s u : Spot) → is_further axis s u ≡ is_before u s) → ((s : Spot) → is_further axis new s ≡ true → b s ≡ true) → Lands axis t n b new
    → reverse (filter (λ s. on_axis axis n s && b s) (spots_of t)) ≡ new ∷ reverse (filter (λ s. on_axis axis n s && is_further axis new s) (spots_of t))
backward axis t n new b f up l =
    ap reverse (last_passing (on_axis axis n) b is_before new (spots_of t) (spots_rise t) (spot_in t new l.exists) l.on l.passes (not_before_itself new) (λ s h. before_both new s h)
    (λ s h. up s (f new s ∙ h)) (λ s i o g. sym (f s new) ∙ l.first s (in_spot t s i) o g))
    ∙ reverse-append (filter (λ s. on_axis axis n s && is_before s new) (spots_of t)) (new ∷ [])
    ∙ ap (λ (z : List Spot). new ∷ reverse z) (sym (filter_agree (λ s. on_axis axis n s && is_further axis new s) (λ s. on_axis axis n s && is_before s new) (λ s. ap (λ b. on_axis axis n s && b) (f new s)) (spots_of t)))

further_forward : (axis : Axis) (s u : Spot) → is_reverse axis ≡ false → is_further axis s u ≡ is_before s u
unfolding is_further
further_forward axis s u h = ap (λ r. cond r (is_before u s) (is_before s u)) h

further_backward : (axis : Axis) (s u : Spot) → is_reverse axis ≡ true → is_further axis s u ≡ is_before u s
unfolding is_further
further_backward axis s u h = ap (λ r. cond r (is_before u s) (is_before s u)) h

order_forward : (axis : Axis) (xs : List Spot) → is_reverse axis ≡ false → in_axis_order axis xs ≡ xs
unfolding in_axis_order
order_forward axis xs h = ap (λ r. cond r (reverse xs) xs) h

order_backward : (axis : Axis) (xs : List Spot) → is_reverse axis ≡ true → in_axis_order axis xs ≡ reverse xs
unfolding in_axis_order
order_backward axis xs h = ap (λ r. cond r (reverse xs) xs) h

land_cases : (r : Bool) (axis : Axis) (t : Tree) (n new : Spot) (b : Spot → Bool) → is_reverse axis ≡ r → ((s : Spot) → is_further axis new s ≡ true → b s ≡ true) → Lands axis t n b new
    → passing axis n b t ≡ new ∷ passing axis n (is_further axis new) t
land_cases false axis t n new b e up l =
    order_forward axis (filter (λ s. on_axis axis n s && b s) (spots_of t)) e
    ∙ forward axis t n new b (λ s u. further_forward axis s u e) up l
    ∙ ap (λ (z : List Spot). new ∷ z) (sym (order_forward axis (filter (λ s. on_axis axis n s && is_further axis new s) (spots_of t)) e))
land_cases true axis t n new b e up l =
    order_backward axis (filter (λ s. on_axis axis n s && b s) (spots_of t)) e
    ∙ backward axis t n new b (λ s u. further_backward axis s u e) up l
    ∙ ap (λ (z : List Spot). new ∷ z) (sym (order_backward axis (filter (λ s. on_axis axis n s && is_further axis new s) (spots_of t)) e))

pub landed : (axis : Axis) (t : Tree) (n new : Spot) (b : Spot → Bool) → ((s : Spot) → is_further axis new s ≡ true → b s ≡ true) → Lands axis t n b new
    → passing axis n b t ≡ new ∷ passing axis n (is_further axis new) t
landed axis t n new b up l = land_cases (is_reverse axis) axis t n new b refl up l

no_spots : (r : Bool) → cond r (reverse {A = Spot} []) [] ≡ []
no_spots true = refl
no_spots false = refl

order_none : (axis : Axis) → in_axis_order axis [] ≡ []
unfolding in_axis_order
order_none axis = no_spots (is_reverse axis)

pub ended : (axis : Axis) (t : Tree) (n : Spot) (b : Spot → Bool) → Ends axis t n b → passing axis n b t ≡ []
ended axis t n b e = ap (in_axis_order axis) (none_pass (on_axis axis n) b (spots_of t) (λ s i o. e s (in_spot t s i) o)) ∙ order_none axis

chain_cases : (r : Bool) (axis : Axis) (s t u : Spot) → is_reverse axis ≡ r → is_further axis s t ≡ true → is_further axis t u ≡ true → is_further axis s u ≡ true
chain_cases false axis s t u e h g =
    further_forward axis s u e ∙ before_chain s t u (sym (further_forward axis s t e) ∙ h) (sym (further_forward axis t u e) ∙ g)
chain_cases true axis s t u e h g =
    further_backward axis s u e ∙ before_chain u t s (sym (further_backward axis t u e) ∙ g) (sym (further_backward axis s t e) ∙ h)

further_chain : (axis : Axis) (s t u : Spot) → is_further axis s t ≡ true → is_further axis t u ≡ true → is_further axis s u ≡ true
further_chain axis s t u h g = chain_cases (is_reverse axis) axis s t u refl h g

and_true : (x : Bool) → x ≡ (x && true)
and_true true = refl
and_true false = refl

all_pass : (axis : Axis) (n : Spot) (t : Tree) → in_axis_order axis (filter (on_axis axis n) (spots_of t)) ≡ passing axis n every t
all_pass axis n t = ap (in_axis_order axis) (filter_agree (on_axis axis n) (λ s. on_axis axis n s && every s) (λ s. and_true (on_axis axis n s)) (spots_of t))

-- the first step
pub first_lands : (axis : Axis) (n : Place) (new : Spot) → Lands axis n.tree (spot_of n) every new → axis_nodes axis n ≡ place_at n new ∷ nodes_after axis n (place_at n new)
unfolding axis_nodes nodes_after spot_of place_at
first_lands axis n new l =
    ap (map (place_at n)) (all_pass axis (spot_of n) n.tree ∙ landed axis n.tree (spot_of n) new every (λ s h. refl) l)

pub first_ends : (axis : Axis) (n : Place) → Ends axis n.tree (spot_of n) every → axis_nodes axis n ≡ []
unfolding axis_nodes spot_of
first_ends axis n e = ap (map (place_at n)) (all_pass axis (spot_of n) n.tree ∙ ended axis n.tree (spot_of n) every e)

-- a later step
pub next_lands : (axis : Axis) (n m : Place) (new : Spot) → Lands axis n.tree (spot_of n) (is_further axis (spot_of m)) new → nodes_after axis n m ≡ place_at n new ∷ nodes_after axis n (place_at n new)
unfolding nodes_after spot_of place_at
next_lands axis n m new l =
    ap (map (place_at n)) (landed axis n.tree (spot_of n) new (is_further axis (spot_of m)) (λ s h. further_chain axis (spot_of m) new s l.passes h) l)

pub next_ends : (axis : Axis) (n m : Place) → Ends axis n.tree (spot_of n) (is_further axis (spot_of m)) → nodes_after axis n m ≡ []
unfolding nodes_after spot_of
next_ends axis n m e = ap (map (place_at n)) (ended axis n.tree (spot_of n) (is_further axis (spot_of m)) e)

-- what is to come at each step of a walk
pub walk_first_from : (axis : Axis) (n : Place) (p q : List ℕ) (a c : Option ℕ) → Lands axis n.tree (spot_of n) every (p, a)
    → come_after axis n false (present_at false n q c) ≡ option_to_list (present_at true n p a) ++ come_after axis n true (present_at true n p a)
unfolding come_after present_at
walk_first_from axis n p q a c l = first_lands axis n (p, a) l

pub walk_next : (axis : Axis) (n : Place) (q : List ℕ) (c : Option ℕ) (p : List ℕ) (a : Option ℕ) → Lands axis n.tree (spot_of n) (is_further axis (q, c)) (p, a)
    → come_after axis n true (present_at true n q c) ≡ option_to_list (present_at true n p a) ++ come_after axis n true (present_at true n p a)
unfolding come_after present_at
walk_next axis n q c p a l = next_lands axis n (place_at n (q, c)) (p, a) l

pub walk_none : (axis : Axis) (n : Place) (p q : List ℕ) (a c : Option ℕ) → Ends axis n.tree (spot_of n) every
    → come_after axis n false (present_at false n q c) ≡ option_to_list (present_at false n p a) ++ come_after axis n true (present_at false n p a)
unfolding come_after present_at
walk_none axis n p q a c e = first_ends axis n e

pub walk_end : (axis : Axis) (n : Place) (p q : List ℕ) (a c : Option ℕ) → Ends axis n.tree (spot_of n) (is_further axis (q, c))
    → come_after axis n true (present_at true n q c) ≡ option_to_list (present_at false n p a) ++ come_after axis n true (present_at false n p a)
unfolding come_after present_at
walk_end axis n p q a c e = next_ends axis n (place_at n (q, c)) e

pub walk_past : (axis : Axis) (n : Place) (p q : List ℕ) (a c : Option ℕ)
    → come_after axis n true (present_at false n q c) ≡ option_to_list (present_at false n p a) ++ come_after axis n true (present_at false n p a)
unfolding come_after present_at
walk_past axis n p q a c = refl

begun_of : (begun here : Bool) → (begun ≡ false → here ≡ false) → here ≡ true → begun ≡ true
begun_of true here f h = refl
begun_of false here f h = never (sym (f refl) ∙ h)

here_cases : (axis : Axis) (n : Place) (r : Bool) (q p : List ℕ) (c a : Option ℕ) → (r ≡ true → Lands axis n.tree (spot_of n) (is_further axis (q, c)) (p, a)) → (r ≡ false → Ends axis n.tree (spot_of n) (is_further axis (q, c)))
    → come_after axis n true (present_at true n q c) ≡ option_to_list (present_at r n p a) ++ come_after axis n true (present_at r n p a)
here_cases axis n true q p c a found none = walk_next axis n q c p a (found refl)
here_cases axis n false q p c a found none = walk_end axis n p q a c (none refl)

pub walk_here : (axis : Axis) (n : Place) (begun here r : Bool) (q p : List ℕ) (c a : Option ℕ) → (begun ≡ false → here ≡ false) → here ≡ true
    → (r ≡ true → Lands axis n.tree (spot_of n) (is_further axis (q, c)) (p, a)) → (r ≡ false → Ends axis n.tree (spot_of n) (is_further axis (q, c)))
    → come_after axis n begun (present_at here n q c) ≡ option_to_list (present_at r n p a) ++ come_after axis n true (present_at r n p a)
walk_here axis n begun here r q p c a f h found none =
    ap (λ z. come_after axis n z (present_at here n q c)) (begun_of begun here f h) ∙ ap (λ z. come_after axis n true (present_at z n q c)) h ∙ here_cases axis n r q p c a found none

pub walk_over : (axis : Axis) (n : Place) (begun here : Bool) (q : List ℕ) (c : Option ℕ) → begun ≡ true → here ≡ false
    → come_after axis n begun (present_at here n q c) ≡ option_to_list (present_at false n q c) ++ come_after axis n true (present_at false n q c)
walk_over axis n begun here q c g h =
    ap (λ z. come_after axis n z (present_at here n q c)) g ∙ ap (λ z. come_after axis n true (present_at z n q c)) h ∙ walk_past axis n q q c c

begin_cases : (axis : Axis) (n : Place) (r : Bool) (q p : List ℕ) (c a : Option ℕ) → (r ≡ true → Lands axis n.tree (spot_of n) every (p, a)) → (r ≡ false → Ends axis n.tree (spot_of n) every)
    → come_after axis n false (present_at false n q c) ≡ option_to_list (present_at r n p a) ++ come_after axis n true (present_at r n p a)
begin_cases axis n true q p c a found none = walk_first_from axis n p q a c (found refl)
begin_cases axis n false q p c a found none = walk_none axis n p q a c (none refl)

pub walk_begin : (axis : Axis) (n : Place) (begun here r : Bool) (q p : List ℕ) (c a : Option ℕ) → begun ≡ false → here ≡ false
    → (r ≡ true → Lands axis n.tree (spot_of n) every (p, a)) → (r ≡ false → Ends axis n.tree (spot_of n) every)
    → come_after axis n begun (present_at here n q c) ≡ option_to_list (present_at r n p a) ++ come_after axis n true (present_at r n p a)
walk_begin axis n begun here r q p c a g h found none =
    ap (λ z. come_after axis n z (present_at here n q c)) g ∙ ap (λ z. come_after axis n false (present_at z n q c)) h ∙ begin_cases axis n r q p c a found none
