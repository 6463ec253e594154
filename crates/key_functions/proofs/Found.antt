-- Of the pairs of nodes and values, node by node, those that are kept give each node once.
use Rattle.std.proofs.Common.{◌≡◌, ℕ, suc, ◌-◌, ◌<◌, List, [], ◌∷◌, ◌++◌, length, get_or, map, refl, ap, sym}
use Rattle.std.proofs.Common.{◌∙◌, append_assoc, arith}
use Rattle.std.proofs.lemmas.Cmp.{nat_cmp_total, on_total, then_total, lists_total}
use Rattle.std.proofs.lemmas.List.{append-nil}
use Rattle.std.proofs.lemmas.List.Elements.{filter-append}
use Rattle.std.specs.Prelude.{Bool, true, false, ◌||◌, if◌then◌else◌, Result, Ok, Err}
use Rattle.std.specs.List.{AllPairs, filter, list_any}
use Rattle.std.specs.Cmp.{IsTotalOrder, nat_cmp_is}
use Rattle.std.specs.Ordering.{is_eq, nat_cmp, ordering_reverse}
use Rattle.std.specs.declared.cmp.Ordering.{Ordering}
use Rattle.std.specs.declared.cmp.Ordering.TheVariants.{Less, Equal, Greater}
use Rattle.xt_names.specs.declared.codes.Code.{Code}
use Rattle.xt_tree.specs.Place.{Place, place_cmp, step_cmp, steps}
use Rattle.xt_tree.specs.Walk.{Spot, SpotLess, spots_of}
use Rattle.xt_tree.proofs.WalkLemmas.{walk_rises}
use Rattle.xdm_items.specs.declared.items.Item.{Item}
use Rattle.xdm_items.specs.declared.items.Item.TheVariants.{Node}
use Rattle.key_index.specs.Keys.{put_pairs}
use Rattle.key_index.specs.Nodes.{node_order, put_node, stands_last}
use Rattle.key_index.specs.declared.indexes.KeyPair.{KeyPair}
use Rattle.node_axes.specs.Axes.{place_at}
use Rattle.xdm_items.specs.FunctionArguments.Arguments.{and_then as result_then}
use Rattle.expr_meaning.specs.Outcomes.Outcome.{Every}
use Rattle.expr_laws.specs.Carrier.{OnValue}
use Rattle.transform_meaning.specs.Keys.{all_nodes, each_value}
use Rattle.key_index.proofs.AnswerLemmas.{order_total, last_is}

-- the order of nodes
step_total : IsTotalOrder step_cmp
step_total =
    then_total (on_total (λ (s : ℕ × ℕ). s.0) nat_cmp_total)
    (on_total (λ (s : ℕ × ℕ). s.1) nat_cmp_total)

place_total : IsTotalOrder place_cmp
place_total = on_total (λ (n : Place). steps n.path n.attribute) (lists_total step_total)

-- a node is at itself
at_itself : (n : Place) → is_eq (node_order n n) ≡ true
at_itself n = by (node_order n n) (order_total.antisymm n n)
  where
    by : (o : Ordering) → o ≡ ordering_reverse o → is_eq o ≡ true
    by Less h = absurd cc
    by Equal h = refl
    by Greater h = absurd cc

-- .. and the nodes of a tree are apart
number_same : (k : ℕ) → nat_cmp k k ≡ Equal
number_same k = sym (nat_cmp_is k k Equal refl)

spots_apart : (r : Place) (s t : Spot) → SpotLess s t →
    is_eq (node_order (place_at r s) (place_at r t)) ≡ false
spots_apart r s t h = rw (number_same r.number, h) refl

abbrev IsApart : Place → Place → Type 0
IsApart n m = is_eq (node_order n m) ≡ false

abbrev pub AreApart : List Place → Type 0
AreApart [] = Unit {0}
AreApart (n ∷ ns) = Every (IsApart n) ns × AreApart ns

each_at : {A : Type 0} (P : A → Type 0) (xs : List A) (d : A) →
    ((j : ℕ) → j < length xs → P (get_or xs j d)) → Every P xs
each_at P [] d h = tt
each_at P (x ∷ xs) d h = (h 0 (omega arith), each_at P xs d (λ j l. h (suc j) (omega (arith, l))))

all_apart : (r : Place) (s : Spot) (ss : List Spot) → Every (SpotLess s) ss →
    Every (IsApart (place_at r s)) (map (place_at r) ss)
all_apart r s [] h = tt
all_apart r s (t ∷ ss) h = (spots_apart r s t h.0, all_apart r s ss h.1)

places_apart : (r : Place) (ss : List Spot) → AllPairs SpotLess ss → AreApart (map (place_at r) ss)
places_apart r [] h = tt
places_apart r (s ∷ ss) h = (
  all_apart r s ss
      (each_at (SpotLess s) ss s (λ j l. h 0 (suc j) s (omega arith) (omega (arith, l)))),
  places_apart r ss (λ i j d l g. h (suc i) (suc j) d (omega (arith, l)) (omega (arith, g))),
)

pub nodes_apart : (r : Place) → AreApart (all_nodes r)
nodes_apart r = places_apart r (spots_of r.tree) (walk_rises r.tree)

abbrev IsNew : List Item → Place → Type 0
IsNew items n = stands_last items n ≡ false

abbrev pub AreOf : Place → List KeyPair → Type 0
AreOf n ps = Every (λ p. p.node ≡ n) ps

put_again : (front : List Item) (n : Place) (ps : List KeyPair) → AreOf n ps →
    put_pairs (front ++ Node n ∷ []) ps ≡ front ++ Node n ∷ []
put_again front n [] h = refl
put_again front n (p ∷ ps) h =
    ap (λ m. put_pairs (put_node (front ++ Node n ∷ []) m) ps) h.0
    ∙ ap (λ b. put_pairs
    (if b then front ++ Node n ∷ [] else (front ++ Node n ∷ []) ++ Node n ∷ []) ps)
    (last_is front n n ∙ at_itself n)
    ∙ put_again front n ps h.1

abbrev once : Place → List KeyPair → List Item
once n [] = []
once n (p ∷ ps) = Node n ∷ []

put_once : (items : List Item) (n : Place) (ps : List KeyPair) → IsNew items n → AreOf n ps →
    put_pairs items ps ≡ items ++ once n ps
put_once items n [] f h = sym (append-nil items)
put_once items n (p ∷ ps) f h =
    ap (λ m. put_pairs (put_node items m) ps) h.0
    ∙ ap (λ b. put_pairs (if b then items else items ++ Node n ∷ []) ps) f
    ∙ put_again items n ps h.1

put_append : (items : List Item) (ps zs : List KeyPair) →
    put_pairs items (ps ++ zs) ≡ put_pairs (put_pairs items ps) zs
put_append items [] zs = refl
put_append items (p ∷ ps) zs = put_append (put_node items p.node) ps zs

-- what stays of them
pub then_then : {A B C : Type 0} (r : Result A Code) (f : A → B) (g : B → C) →
    result_then (result_then r (λ v. Ok (f v))) (λ v. Ok (g v)) ≡ result_then r (λ v. Ok (g (f v)))
then_then (Ok v) f g = refl
then_then (Err code) f g = refl

pub then_as_well : {A B : Type 0} (r : Result A Code) (f g : A → B) → ((v : A) → f v ≡ g v) →
    result_then r (λ v. Ok (f v)) ≡ result_then r (λ v. Ok (g v))
then_as_well (Ok v) f g h = ap Ok (h v)
then_as_well (Err code) f g h = refl

abbrev pub if_any : (KeyPair → Bool) → Place → List KeyPair → List Item
if_any keeps n ps = if list_any keeps ps then Node n ∷ [] else []

module _ (keeps : KeyPair → Bool) where
  kept_of : (n : Place) (ps : List KeyPair) → AreOf n ps → AreOf n (filter keeps ps)
  kept_of n [] h = tt
  kept_of n (p ∷ ps) h = by (keeps p) (kept_of n ps h.1)
    where
      by : (b : Bool) → AreOf n (filter keeps ps) →
          AreOf n (if b then p ∷ filter keeps ps else filter keeps ps)
      by true g = (h.0, g)
      by false g = g

  once_kept : (n : Place) (ps : List KeyPair) → once n (filter keeps ps) ≡ if_any keeps n ps
  once_kept n [] = refl
  once_kept n (p ∷ ps) = by (keeps p) (once_kept n ps)
    where
      by : (b : Bool) → once n (filter keeps ps) ≡ if_any keeps n ps →
          once n (if b then p ∷ filter keeps ps else filter keeps ps)
          ≡ (if b || list_any keeps ps then Node n ∷ [] else [])
      by true e = refl
      by false e = e

  module _ (pairs : Place → Result (List KeyPair) Code)
      (own : (n : Place) → OnValue (AreOf n) (pairs n)) where
    abbrev pub node_kept : Place → Result (List Item) Code
    node_kept n = result_then (pairs n) (λ ps. Ok (if_any keeps n ps))

    still_new : (items : List Item) (n : Place) (ps : List KeyPair) (ms : List Place) →
        Every (IsApart n) ms → Every (IsNew items) ms →
        Every (IsNew (items ++ if_any keeps n ps)) ms
    still_new items n ps [] a f = tt
    still_new items n ps (m ∷ ms) a f =
        (by (list_any keeps ps), still_new items n ps ms a.1 f.1)
      where
        by : (b : Bool) → IsNew (items ++ (if b then Node n ∷ [] else [])) m
        by true = last_is items n m ∙ a.0
        by false = ap (λ z. stands_last z m) (append-nil items) ∙ f.0

    all_kept : (ns : List Place) → AreApart ns → (items : List Item) → Every (IsNew items) ns →
        result_then (each_value pairs ns) (λ ps. Ok (put_pairs items (filter keeps ps)))
        ≡ result_then (each_value node_kept ns) (λ xs. Ok (items ++ xs))
    all_kept [] a items f = ap Ok (sym (append-nil items))
    all_kept (n ∷ ns) a items f =
        by (pairs n) (own n)
        (λ ps. all_kept ns a.1 (items ++ if_any keeps n ps) (still_new items n ps ns a.0 f.1))
      where
        first : (ps : List KeyPair) → AreOf n ps → (zs : List KeyPair) →
            put_pairs items (filter keeps (ps ++ zs))
            ≡ put_pairs (items ++ if_any keeps n ps) (filter keeps zs)
        first ps h zs =
            ap (put_pairs items) (filter-append keeps ps zs)
            ∙ put_append items (filter keeps ps) (filter keeps zs)
            ∙ ap (λ z. put_pairs z (filter keeps zs))
            (put_once items n (filter keeps ps) f.0 (kept_of n ps h)
            ∙ ap (λ z. items ++ z) (once_kept n ps))

        by : (r : Result (List KeyPair) Code) → OnValue (AreOf n) r →
            ((ps : List KeyPair) → result_then (each_value pairs ns)
            (λ zs. Ok (put_pairs (items ++ if_any keeps n ps) (filter keeps zs)))
            ≡ result_then (each_value node_kept ns)
            (λ xs. Ok ((items ++ if_any keeps n ps) ++ xs))) →
            result_then (result_then r (λ ys. result_then (each_value pairs ns)
            (λ zs. Ok (ys ++ zs)))) (λ ps. Ok (put_pairs items (filter keeps ps)))
            ≡ result_then (result_then (result_then r (λ ps. Ok (if_any keeps n ps)))
            (λ ys. result_then (each_value node_kept ns) (λ zs. Ok (ys ++ zs))))
            (λ xs. Ok (items ++ xs))
        by (Ok ps) h rest =
            then_then (each_value pairs ns) (λ zs. ps ++ zs)
            (λ zs. put_pairs items (filter keeps zs))
            ∙ then_as_well (each_value pairs ns) _ _ (first ps h)
            ∙ rest ps
            ∙ then_as_well (each_value node_kept ns) _ _
            (λ xs. append_assoc items (if_any keeps n ps) xs)
            ∙ sym (then_then (each_value node_kept ns) (λ zs. if_any keeps n ps ++ zs)
            (λ zs. items ++ zs))
        by (Err code) h rest = refl

    none_before : (ns : List Place) → Every (IsNew []) ns
    none_before [] = tt
    none_before (n ∷ ns) = (refl, none_before ns)

    as_they_are : (r : Result (List Item) Code) → result_then r (λ xs. Ok xs) ≡ r
    as_they_are (Ok xs) = refl
    as_they_are (Err code) = refl

    pub found_is : (ns : List Place) → AreApart ns →
        result_then (each_value pairs ns) (λ ps. Ok (put_pairs [] (filter keeps ps)))
        ≡ each_value node_kept ns
    found_is ns a = all_kept ns a [] (none_before ns) ∙ as_they_are (each_value node_kept ns)
