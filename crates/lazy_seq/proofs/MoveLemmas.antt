-- Moves one after another, and moves without steps.
use Rattle.std.proofs.Common.{◌≡◌, ℕ, ◌+◌, List, [], ◌∷◌, ◌++◌, true, Option, Some, None, is_some}
use Rattle.std.proofs.Common.{Result, Ok, Err, IfOk, refl, sym, ap, ◌∙◌, arith}
use Rattle.std.specs.Option.{option_to_list}
use Rattle.std.specs.declared.alloc.AllocError.{AllocError}
use Rattle.xdm_items.specs.declared.items.Item.{Item}
use Rattle.node_walks.specs.Moves.{Moves, given, steps_before, all_steps, settled, standing}
use Rattle.node_walks.specs.Moves.{has_item, giving}
use Rattle.node_walks.specs.Quiet.{IsOn}
use Rattle.node_walks.proofs.MoveLemmas.{given_settled}
use Rattle.lazy_seq.specs.Flow.{giving_all}

pub given_all : (xs : List Item) → given (giving_all xs) ≡ xs
given_all [] = refl
given_all (x ∷ xs) = ap (λ (zs : List Item). x ∷ zs) (given_all xs)

pub settled_all : (xs : List Item) → settled (giving_all xs) ≡ giving_all xs
settled_all [] = refl
settled_all (x ∷ xs) = refl

pub no_steps_in_all : (xs : List Item) → all_steps (giving_all xs) ≡ 0
no_steps_in_all [] = refl
no_steps_in_all (x ∷ xs) = no_steps_in_all xs

-- the first of a list is given
pub one_given : (o : Option Item) (xs ys : List Item) → xs ≡ option_to_list o ++ ys
    → settled (giving_all xs) ≡ giving o ++ giving_all ys
one_given None xs ys e = settled_all xs ∙ ap giving_all e
one_given (Some x) xs ys e = settled_all xs ∙ ap giving_all e

pub one_if_ok : (r : Result (Option Item) AllocError) (xs ys : List Item)
    → IfOk r (λ o. xs ≡ option_to_list o ++ ys)
    → IfOk r (λ o. settled (giving_all xs) ≡ giving o ++ giving_all ys)
one_if_ok (Ok o) xs ys e = one_given o xs ys e
one_if_ok (Err e) xs ys f = tt

given_one : (o : Option Item) (m : Moves) → given (giving o ++ m) ≡ option_to_list o ++ given m
given_one None m = refl
given_one (Some x) m = refl

-- the items after the first
pub given_after : (o : Option Item) (m k : Moves) → settled m ≡ giving o ++ k
    → given m ≡ option_to_list o ++ given k
given_after o m k e = sym (given_settled m) ∙ ap given e ∙ given_one o k

pub ok_after : (r : Result (Option Item) AllocError) (m k : Moves)
    → IfOk r (λ o. settled m ≡ giving o ++ k) → IfOk r (λ o. given m ≡ option_to_list o ++ given k)
ok_after (Ok o) m k e = given_after o m k e
ok_after (Err e) m k f = tt

pub given_append : (m k : Moves) → given (m ++ k) ≡ given m ++ given k
given_append [] k = refl
given_append (None ∷ m) k = given_append m k
given_append (Some x ∷ m) k = ap (λ (zs : List Item). x ∷ zs) (given_append m k)

pub all_append : (m k : Moves) → all_steps (m ++ k) ≡ all_steps m + all_steps k
all_append [] k = omega arith
all_append (None ∷ m) k = let e = all_append m k in omega arith
all_append (Some x ∷ m) k = all_append m k

settled_append : (m k : Moves) → settled (m ++ k) ≡ settled (settled m ++ k)
settled_append [] k = refl
settled_append (None ∷ m) k = settled_append m k
settled_append (Some x ∷ m) k = refl

steps_append : (m k : Moves) → steps_before (m ++ k) ≡ steps_before m
    + steps_before (settled m ++ k)
steps_append [] k = omega arith
steps_append (None ∷ m) k = let e = steps_append m k in omega arith
steps_append (Some x ∷ m) k = refl

-- what comes behind stays behind
pub on_append : (a b : ℕ) (m k r : Moves) → IsOn a b m k → IsOn a b (m ++ r) (k ++ r)
on_append a b m k r o =
    let e = o.steps in
    let f = steps_append m r in
    let g = steps_append k r in
    let h = ap (λ (z : Moves). steps_before (z ++ r)) o.rest in
    record {
      rest = settled_append k r ∙ ap (λ (z : Moves). settled (z ++ r)) o.rest
          ∙ sym (settled_append m r);
      steps = omega arith;
    }

-- where nothing comes before it, what is behind is all
pub on_behind : (a b : ℕ) (m r : Moves) → settled m ≡ [] → b ≡ a + steps_before m
    → IsOn a b (m ++ r) r
on_behind a b m r e f =
    let g = steps_append m r in
    let h = ap (λ (z : Moves). steps_before (z ++ r)) e in
    record {
      rest = sym (settled_append m r ∙ ap (λ (z : Moves). settled (z ++ r)) e);
      steps = omega arith;
    }

pub on_same : (a b : ℕ) (m k : Moves) → k ≡ m → b ≡ a → IsOn a b m k
on_same a b m k e f =
    let g = ap steps_before e in record { rest = ap settled e; steps = omega arith }

pub on_to : (a b : ℕ) (m n k l : Moves) → m ≡ n → k ≡ l → IsOn a b n l → IsOn a b m k
on_to a b m n k l e f o = rw (e, f) o

-- where it stands on an item
pub stands_settled : (m : Moves) → is_some (standing m) ≡ true → settled m ≡ m
stands_settled [] h = refl
stands_settled (None ∷ m) h = absurd cc
stands_settled (Some x ∷ m) h = refl

pub stands_before : (m : Moves) → is_some (standing m) ≡ true → steps_before m ≡ 0
stands_before [] h = refl
stands_before (None ∷ m) h = absurd cc
stands_before (Some x ∷ m) h = refl

pub stands_front : (m k : Moves) → is_some (standing m) ≡ true → settled (m ++ k) ≡ settled m ++ k
stands_front [] k h = absurd cc
stands_front (None ∷ m) k h = absurd cc
stands_front (Some x ∷ m) k h = refl

pub stands_all : (m k : Moves) → is_some (standing m) ≡ true → is_some (standing (m ++ k)) ≡ true
stands_all [] k h = absurd cc
stands_all (None ∷ m) k h = absurd cc
stands_all (Some x ∷ m) k h = refl

pub stands_item : (m : Moves) → is_some (standing m) ≡ true → has_item (given m) ≡ true
stands_item [] h = absurd cc
stands_item (None ∷ m) h = absurd cc
stands_item (Some x ∷ m) h = refl

pub has_settled : (m : Moves) → has_item (given m) ≡ true → is_some (standing (settled m)) ≡ true
has_settled [] h = absurd cc
has_settled (None ∷ m) h = has_settled m h
has_settled (Some x ∷ m) h = refl

pub settled_steps : (m k : Moves) → k ≡ settled m → steps_before k ≡ 0
settled_steps [] k e = ap steps_before e
settled_steps (None ∷ m) k e = settled_steps m k e
settled_steps (Some x ∷ m) k e = ap steps_before e
