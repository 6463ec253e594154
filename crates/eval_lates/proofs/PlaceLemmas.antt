-- What a predicate that is an integer keeps.
use Rattle.std.proofs.Common.{◌≡◌, ℕ, zero, suc, ◌+◌, ◌<◌, ◌≤◌, refl, ap, sym, ◌∙◌, arith, List, [], ◌∷◌, ◌++◌}
use Rattle.std.proofs.Common.{length}
use Rattle.std.specs.Prelude.{◌^◌, Bool, true, false, nat_lt, ℤ, pos, negsuc, Option, Some, None}
use Rattle.std.specs.Prelude.{slice_get}
use Rattle.std.specs.Option.{option_to_list}
use Rattle.std.specs.Ordering.{int_eq}
use Rattle.std.proofs.lemmas.Bool.Decides.{Decides-int_eq}
use Rattle.xt_names.specs.declared.codes.Code.TheVariants.{Dynamic}
use Rattle.xt_names.specs.declared.codes.DynamicCode.TheVariants.{FOAR0002}
use Rattle.xdm_items.specs.declared.items.Item.{Item}
use Rattle.eval_scopes.specs.LazySeq.Flow.{item_at}
use Rattle.expr_meaning.specs.Outcomes.Outcome.{Outcome, Ends, Fails, for_each}
use Rattle.expr_meaning.specs.SortMeaning.Sorted.{placed_from}
use Rattle.expr_meaning.specs.Env.{Env}
use Rattle.expr_meaning.specs.Paths.{alone_if, kept, kept_item}
use Rattle.eval_lates.specs.Late.{literal}
use Rattle.std.proofs.lemmas.Bool.{false_from_ne_true}

abbrev alone : Item → Bool → List Item
alone x true = x ∷ []
alone x false = []

abbrev items_from : ℕ → ℤ → List Item → List Item
items_from i n [] = []
items_from i n (x ∷ xs) = alone x (int_eq (pos i) n) ++ items_from (suc i) n xs

alone_ends : (x : Item) (t : Bool) (k : ℕ) → alone_if x t k ≡ Ends (alone x t) k
alone_ends x true k = refl
alone_ends x false k = refl

visited : (n : ℤ) (env : Env) (i size : ℕ) (xs : List Item) (k : ℕ) →
    for_each (kept_item (literal n) env) (placed_from i size xs) k ≡ Ends (items_from i n xs) k
visited n env i size [] k = refl
visited n env i size (x ∷ xs) k =
    rw (alone_ends x (int_eq (pos i) n) k, visited n env (suc i) size xs k) refl

same_place : (a : ℕ) → int_eq (pos a) (pos a) ≡ true
same_place a = (Decides-int_eq (pos a) (pos a)).1 refl

abbrev nat_of : ℤ → ℕ
nat_of (pos n) = n
nat_of (negsuc n) = 0

other_place : (a b : ℕ) → (a ≡ b → ⊥) → int_eq (pos a) (pos b) ≡ false
other_place a b h =
    false_from_ne_true (int_eq (pos a) (pos b)) (λ e. h (ap nat_of ((Decides-int_eq (pos a) (pos b)).0 e)))

later_place : (a b : ℕ) → a < b → int_eq (pos b) (pos a) ≡ false
later_place a b h = other_place b a (λ e. absurd (omega (arith, h, e)))

sooner_place : (a b : ℕ) → a < b → int_eq (pos a) (pos b) ≡ false
sooner_place a b h = other_place a b (λ e. absurd (omega (arith, h, e)))

beyond : (i m : ℕ) (xs : List Item) → m < i → items_from i (pos m) xs ≡ []
beyond i m [] h = refl
beyond i m (x ∷ xs) h = rw (later_place m i h) (beyond (suc i) m xs (omega (arith, h)))

below_all : (i m : ℕ) (xs : List Item) → items_from i (negsuc m) xs ≡ []
below_all i m [] = refl
below_all i m (x ∷ xs) = below_all (suc i) m xs

found : (i m : ℕ) (xs : List Item) →
    items_from (suc i) (pos (suc i + m)) xs ≡ option_to_list (slice_get xs m)
found i m [] = refl
found i zero (x ∷ xs) =
    let z : suc i + 0 ≡ suc i = omega arith in
    rw (z, same_place (suc i), beyond (suc (suc i)) (suc i) xs (omega arith)) refl
found i (suc m) (x ∷ xs) =
    let z : suc i + suc m ≡ suc (suc i) + m = omega arith in
    rw (z, sooner_place (suc i) (suc (suc i) + m) (omega arith)) (found (suc i) m xs)

at_place : (n : ℤ) (xs : List Item) → items_from 1 n xs ≡ option_to_list (item_at n xs)
at_place (pos zero) xs = beyond 1 0 xs (omega arith)
at_place (pos (suc m)) xs =
    let z : suc m ≡ 1 + m = omega arith in
    ap (λ n. items_from 1 (pos n) xs) z ∙ found 0 m xs
at_place (negsuc m) xs = below_all 1 m xs

-- the item at the place, where the list can be counted
pub kept_there : (n : ℤ) (env : Env) (xs : List Item) (k : ℕ) →
    nat_lt (length xs) (2 ^ 63) ≡ true →
    kept (literal n) env xs k ≡ Ends (option_to_list (item_at n xs)) k
kept_there n env xs k h =
    rw h (visited n env 1 (length xs) xs k ∙ ap (λ ys. Ends ys k) (at_place n xs))

pub kept_nowhere : (n : ℤ) (env : Env) (xs : List Item) (k : ℕ) →
    nat_lt (length xs) (2 ^ 63) ≡ false → kept (literal n) env xs k ≡ Fails (Dynamic FOAR0002)
kept_nowhere n env xs k h = rw h refl
