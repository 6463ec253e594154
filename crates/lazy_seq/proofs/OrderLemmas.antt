-- The order of items is total.
use Rattle.std.proofs.Common.{◌≡◌, ℕ, List, [], ◌∷◌, length, get_or, ◌+◌, ◌<◌, refl, sym, ap, ◌∙◌}
use Rattle.std.specs.Prelude.{cond, if◌then◌else◌}
use Rattle.std.specs.Cmp.{IsTotalOrder, IsStrictWeakOrder}
use Rattle.std.specs.Ordering.{ordering_reverse, is_eq, is_lt, eq_by_cmp}
use Rattle.std.specs.List.{dedup, dedup_from}
use Rattle.std.specs.List.Sorted.{IsStrictlySortedBy, IsSortedBy, IsStableBy}
use Rattle.std.proofs.lemmas.List.Sorted.{ranks_by}
use Rattle.std.proofs.lemmas.Map.Keys.{sorted_from_all_adjacent}
use Rattle.std.specs.declared.cmp.Ordering.{Ordering}
use Rattle.std.specs.declared.cmp.Ordering.TheVariants.{Less, Greater}
use Rattle.std.proofs.lemmas.Cmp.{nat_cmp_total, on_total, then_total, lists_total}
use Rattle.xt_tree.specs.Place.{step_cmp}
use Rattle.xdm_items.specs.declared.items.Item.{Item}
use Rattle.lazy_seq.specs.Orders.{item_key, item_cmp, stands_before, in_document_order}
use Rattle.lazy_seq.proofs.StableLemmas.{is_stable_order}
use Rattle.xt_names.specs.Lists.{put_in, stable_order}

step_total : IsTotalOrder step_cmp
step_total = then_total (on_total (λ (s : ℕ × ℕ). s.0) nat_cmp_total)
    (on_total (λ (s : ℕ × ℕ). s.1) nat_cmp_total)

pub item_total : IsTotalOrder item_cmp
unfolding item_cmp
item_total = on_total item_key (lists_total step_total)

pub item_ranks : IsStrictWeakOrder stands_before
item_ranks = ranks_by item_total (λ (x : Item). x)

-- each before the next
pub rises_all : (xs : List Item)
    → ((k : ℕ) (d : Item) → k + 1 < length xs → item_cmp (get_or xs k d) (get_or xs (k + 1) d)
    ≡ Less) → IsStrictlySortedBy item_cmp xs
unfolding IsStrictlySortedBy
rises_all [] h = tt
rises_all (x ∷ xs) h = sorted_from_all_adjacent item_total (x ∷ xs) x (λ k l. h k x l)

-- the second comes after the first
turned : (x y : Item) → item_cmp x y ≡ Less → item_cmp y x ≡ Greater
turned x y e = item_total.antisymm y x ∙ ap ordering_reverse e

put_first : (x y : Item) (ys : List Item) → item_cmp x y ≡ Less → put_in stands_before x (y ∷ ys)
    ≡ x ∷ y ∷ ys
put_first x y ys e =
    ap (λ (o : Ordering). if is_lt o then y ∷ put_in stands_before x ys else x ∷ y ∷ ys)
    (turned x y e)

stays : (xs : List Item) → IsStrictlySortedBy item_cmp xs → stable_order stands_before xs ≡ xs
unfolding stable_order IsStrictlySortedBy
stays [] s = refl
stays (x ∷ []) s = refl
stays (x ∷ y ∷ ys) s = ap (put_in stands_before x) (stays (y ∷ ys) s.1) ∙ put_first x y ys s.0.0

all_differ : (x : Item) (xs : List Item) → IsStrictlySortedBy item_cmp (x ∷ xs)
    → dedup_from (eq_by_cmp item_cmp) x xs ≡ x ∷ xs
unfolding IsStrictlySortedBy
all_differ x [] s = refl
all_differ x (y ∷ ys) s =
    ap (λ (o : Ordering). cond (is_eq o) (dedup_from (eq_by_cmp item_cmp) x ys)
    (x ∷ dedup_from (eq_by_cmp item_cmp) y ys)) (turned x y s.0.0)
    ∙ ap (λ (zs : List Item). x ∷ zs) (all_differ y ys s.1)

no_double : (xs : List Item) → IsStrictlySortedBy item_cmp xs → dedup (eq_by_cmp item_cmp) xs ≡ xs
no_double [] s = refl
no_double (x ∷ xs) s = all_differ x xs s

-- a list in order is as it should be
pub already : (xs : List Item) → IsStrictlySortedBy item_cmp xs → xs ≡ in_document_order xs
already xs s = sym (ap (dedup (eq_by_cmp item_cmp)) (stays xs s) ∙ no_double xs s)

-- a list that is sorted and then rid of doubles
pub sorted_once : (old sorted new : List Item) → IsSortedBy stands_before sorted
    → IsStableBy stands_before old sorted → new ≡ dedup (eq_by_cmp item_cmp) sorted
    → new ≡ in_document_order old
sorted_once old sorted new s t e =
    e ∙ ap (dedup (eq_by_cmp item_cmp)) (is_stable_order stands_before item_ranks old sorted s t)
