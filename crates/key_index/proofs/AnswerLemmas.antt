-- Nodes that are put into a list in document order, each of them once.
use Rattle.std.proofs.Common.{◌≡◌, ℕ, ◌+◌, ◌-◌, List, [], ◌∷◌, ◌++◌, length, Bool, true, false, cond, refl, ap, sym}
use Rattle.std.proofs.Common.{◌∙◌, arith, length-append}
use Rattle.std.specs.Prelude.{◌&&◌, ◌||◌, Some, slice_get, if◌then◌else◌}
use Rattle.std.specs.List.{filter, list_any}
use Rattle.std.specs.Cmp.{IsTotalOrder}
use Rattle.std.specs.Ordering.{is_lt, is_le, is_eq}
use Rattle.std.specs.declared.cmp.Ordering.{Ordering}
use Rattle.std.specs.declared.cmp.Ordering.TheVariants.{Less, Equal, Greater}
use Rattle.std.proofs.lemmas.Cmp.{nat_cmp_total, on_total, then_total, lists_total}
use Rattle.std.proofs.lemmas.List.{append_assoc, append-nil}
use Rattle.xt_tree.specs.Place.{Place, place_cmp, step_cmp, steps}
use Rattle.xdm_items.specs.declared.items.Item.{Item}
use Rattle.xdm_items.specs.declared.items.Item.TheVariants as item
use Rattle.order_group.specs.Groups.{atoms_of, has_key}
use Rattle.key_index.specs.Answers.{IsFirst, StandInOrder, IsBefore, Rise, IsKeyAnswer}
use Rattle.key_index.specs.Keys.{key_nodes, put_pairs}
use Rattle.key_index.specs.Nodes.{is_at, node_order, stands_last}
use Rattle.key_index.specs.declared.indexes.KeyPair.{KeyPair}

step_total : IsTotalOrder step_cmp
step_total = then_total (on_total (λ (s : ℕ × ℕ). s.0) nat_cmp_total) (on_total (λ (s : ℕ × ℕ). s.1) nat_cmp_total)

place_total : IsTotalOrder place_cmp
place_total = on_total (λ (n : Place). steps n.path n.attribute) (lists_total step_total)

pub order_total : IsTotalOrder node_order
order_total = then_total (on_total (λ (n : Place). n.number) nat_cmp_total) place_total

-- the nodes of the pairs that are put after a node
abbrev behind : Place → List KeyPair → List Item
behind l [] = []
behind l (p ∷ ps) = if is_eq (node_order l p.node) then behind l ps else item.Node p.node ∷ behind p.node ps

pub at_end : (xs : List Item) (x : Item) → slice_get (xs ++ x ∷ []) (length xs) ≡ Some x
at_end [] x = refl
at_end (y ∷ ys) x = at_end ys x

pub last_is : (xs : List Item) (l n : Place) → stands_last (xs ++ item.Node l ∷ []) n ≡ is_eq (node_order l n)
last_is xs l n =
    let e : length (xs ++ item.Node l ∷ []) - 1 ≡ length xs = omega (arith, length-append xs (item.Node l ∷ [])) in
    rw (e, at_end xs (item.Node l)) refl

put_behind : (front : List Item) (l : Place) (ps : List KeyPair)
    → put_pairs (front ++ item.Node l ∷ []) ps ≡ (front ++ item.Node l ∷ []) ++ behind l ps
put_behind front l [] = sym (append-nil (front ++ item.Node l ∷ []))
put_behind front l (p ∷ ps) =
    ap (λ (b : Bool). put_pairs (if b then front ++ item.Node l ∷ [] else (front ++ item.Node l ∷ []) ++ item.Node p.node ∷ []) ps)
    (last_is front l p.node)
    ∙ by (is_eq (node_order l p.node)) (put_behind front l ps) (put_behind (front ++ item.Node l ∷ []) p.node ps)
  where
    by : (b : Bool) → put_pairs (front ++ item.Node l ∷ []) ps ≡ (front ++ item.Node l ∷ []) ++ behind l ps
        → put_pairs ((front ++ item.Node l ∷ []) ++ item.Node p.node ∷ []) ps
        ≡ ((front ++ item.Node l ∷ []) ++ item.Node p.node ∷ []) ++ behind p.node ps
        → put_pairs (if b then front ++ item.Node l ∷ [] else (front ++ item.Node l ∷ []) ++ item.Node p.node ∷ []) ps
        ≡ (front ++ item.Node l ∷ []) ++ (if b then behind l ps else item.Node p.node ∷ behind p.node ps)
    by true same more = same
    by false same more = more ∙ append_assoc (front ++ item.Node l ∷ []) (item.Node p.node ∷ []) (behind p.node ps)

-- in document order

before_further : (l p : Place) (xs : List Item) → node_order l p ≡ Less → IsBefore (item.Node p) xs → IsBefore (item.Node l) xs
before_further l p [] h g = tt
before_further l p (item.Atom a ∷ xs) h g = absurd cc
before_further l p (item.Node n ∷ xs) h g = (ap is_lt (order_total.trans l p n h (less (node_order p n) g.0)), before_further l p xs h g.1)
  where
    less : (o : Ordering) → is_lt o ≡ true → o ≡ Less
    less Less e = refl
    less Equal e = absurd cc
    less Greater e = absurd cc

behind_rises : (l : Place) (ps : List KeyPair) → IsFirst l ps → StandInOrder ps → IsBefore (item.Node l) (behind l ps) × Rise (behind l ps)
behind_rises l [] h g = (tt, tt)
behind_rises l (p ∷ ps) h g = by (node_order l p.node) refl h.0 (behind_rises l ps h.1 g.1) (behind_rises p.node ps g.0 g.1)
  where
    by : (o : Ordering) → node_order l p.node ≡ o → is_le o ≡ true → IsBefore (item.Node l) (behind l ps) × Rise (behind l ps)
        → IsBefore (item.Node p.node) (behind p.node ps) × Rise (behind p.node ps)
        → IsBefore (item.Node l) (if is_eq o then behind l ps else item.Node p.node ∷ behind p.node ps) × Rise
        (if is_eq o then behind l ps else item.Node p.node ∷ behind p.node ps)
    by Less e k same more = ((ap is_lt e, before_further l p.node (behind p.node ps) e more.0), (refl, more.0, more.1))
    by Equal e k same more = same
    by Greater e k same more = absurd cc

-- the same nodes

behind_has : (n l : Place) (ps : List KeyPair)
    → (is_eq (node_order l n) || list_any (λ x. is_at x n) (behind l ps))
    ≡ (is_eq (node_order l n) || list_any (λ p. is_eq (node_order p.node n)) ps)
behind_has n l [] = refl
behind_has n l (p ∷ ps) = by (node_order l p.node) refl (behind_has n l ps) (behind_has n p.node ps)
  where
    same : node_order l p.node ≡ Equal → is_eq (node_order l n) ≡ is_eq (node_order p.node n)
    same e = ap is_eq (order_total.congr l p.node n e)

    twice : (a b : Bool) → (a || b) ≡ (a || (a || b))
    twice true b = refl
    twice false b = refl

    by : (o : Ordering) → node_order l p.node ≡ o
        → (is_eq (node_order l n) || list_any (λ x. is_at x n) (behind l ps))
        ≡ (is_eq (node_order l n) || list_any (λ p. is_eq (node_order p.node n)) ps)
        → (is_eq (node_order p.node n) || list_any (λ x. is_at x n) (behind p.node ps))
        ≡ (is_eq (node_order p.node n) || list_any (λ p. is_eq (node_order p.node n)) ps)
        → (is_eq (node_order l n) || list_any (λ x. is_at x n) (if is_eq o then behind l ps else item.Node p.node ∷ behind p.node ps))
        ≡ (is_eq (node_order l n) || (is_eq (node_order p.node n) || list_any (λ p. is_eq (node_order p.node n)) ps))
    by Less e one more = ap (λ (z : Bool). is_eq (node_order l n) || z) more
    by Greater e one more = ap (λ (z : Bool). is_eq (node_order l n) || z) more
    by Equal e one more =
        one ∙ twice (is_eq (node_order l n)) (list_any (λ p. is_eq (node_order p.node n)) ps)
        ∙ ap (λ (z : Bool). is_eq (node_order l n) || (z || list_any (λ p. is_eq (node_order p.node n)) ps)) (same e)

any_filter : (p q : KeyPair → Bool) (ps : List KeyPair) → list_any p (filter q ps) ≡ list_any (λ x. q x && p x) ps
any_filter p q [] = refl
any_filter p q (x ∷ xs) = by (q x) (any_filter p q xs)
  where
    by : (b : Bool) → list_any p (filter q xs) ≡ list_any (λ x. q x && p x) xs
        → list_any p (cond b (x ∷ filter q xs) (filter q xs)) ≡ ((b && p x) || list_any (λ x. q x && p x) xs)
    by true e = ap (λ (z : Bool). p x || z) e
    by false e = e

put_has : (n : Place) (ps : List KeyPair) → list_any (λ x. is_at x n) (put_pairs [] ps) ≡ list_any (λ p. is_eq (node_order p.node n)) ps
put_has n [] = refl
put_has n (p ∷ ps) = ap (list_any (λ x. is_at x n)) (put_behind [] p.node ps) ∙ behind_has n p.node ps

put_rises : (ps : List KeyPair) → StandInOrder ps → Rise (put_pairs [] ps)
put_rises [] h = tt
put_rises (p ∷ ps) h = let r = behind_rises p.node ps h.0 h.1 in rw (put_behind [] p.node ps) (refl, r.0, r.1)

-- what is left of pairs in order is in order

first_kept : (q : KeyPair → Bool) (n : Place) (ps : List KeyPair) → IsFirst n ps → IsFirst n (filter q ps)
first_kept q n [] h = tt
first_kept q n (p ∷ ps) h = by (q p) (first_kept q n ps h.1)
  where
    by : (b : Bool) → IsFirst n (filter q ps) → IsFirst n (cond b (p ∷ filter q ps) (filter q ps))
    by true r = (h.0, r)
    by false r = r

order_kept : (q : KeyPair → Bool) (ps : List KeyPair) → StandInOrder ps → StandInOrder (filter q ps)
order_kept q [] h = tt
order_kept q (p ∷ ps) h = by (q p) (order_kept q ps h.1)
  where
    by : (b : Bool) → StandInOrder (filter q ps) → StandInOrder (cond b (p ∷ filter q ps) (filter q ps))
    by true r = (first_kept q p.node ps h.0, r)
    by false r = r

pub answer_is : (pairs : List KeyPair) (values : List Item) → StandInOrder pairs → IsKeyAnswer pairs values (key_nodes pairs values)
answer_is pairs values h =
    let q : KeyPair → Bool = λ p. has_key p.value (atoms_of values) in record {
      rise = put_rises (filter q pairs) (order_kept q pairs h);
      nodes = λ n. put_has n (filter q pairs) ∙ any_filter (λ p. is_eq (node_order p.node n)) q pairs;
    }
