-- What count(), exists() and empty() give of a list.
use Rattle.std.proofs.Common.{◌≡◌, ℕ, ◌<◌, refl, ap, sym, subst, ◌∙◌, arith, List, [], ◌∷◌, length}
use Rattle.std.specs.Prelude.{◌^◌, ◌==◌, Bool, true, false, not, nat_lt, ℤ, pos, Option, Some, None}
use Rattle.std.specs.Prelude.{Ok, Err}
use Rattle.std.specs.Bool.{beq}
use Rattle.std.specs.Option.{SomeIff}
use Rattle.std.proofs.lemmas.Bool.Decides.{nat_tests}
use Rattle.xt_names.specs.declared.codes.Code.TheVariants.{Dynamic}
use Rattle.xt_names.specs.declared.codes.DynamicCode.TheVariants.{FOAR0002}
use Rattle.xdm_items.specs.declared.items.Item.{Item}
use Rattle.function_table.specs.declared.builtins.Builtin.TheVariants.{Count, Exists, Empty}
use Rattle.xdm_items.specs.FunctionArguments.Answers.{of_truth, of_integer}
use Rattle.item_functions.specs.SequenceFunctions.Cardinality.{counted, has_no_item}
use Rattle.item_functions.specs.SequenceFunctions.Cardinality.{has_item as has_one}
use Rattle.item_functions.specs.OnSequences.{count_of, empty_of, exists_of}
use Rattle.eval_scopes.specs.FnLib.Functions.{function_value, value_of}
use Rattle.eval_scopes.specs.NodeWalks.Moves.{has_item}

in_range : (n : ℕ) → n < 2 ^ 63 → nat_lt n (2 ^ 63) ≡ true
in_range n h = grind (arith, nat_tests)

past_range : (n : ℕ) → (n < 2 ^ 63 → ⊥) → nat_lt n (2 ^ 63) ≡ false
past_range n h = grind (arith, nat_tests)

told_some : (xs : List Item) (n : ℤ) → SomeIff (Some n) (length xs < 2 ^ 63) (pos (length xs)) →
    count_of xs ≡ Ok (of_integer n)
unfolding count_of counted
told_some xs n h = rw (in_range (length xs) h.0, h.1) refl

pub counted_some : (xs : List Item) (count : Option ℤ) (n : ℤ) →
    SomeIff count (length xs < 2 ^ 63) (pos (length xs)) → count ≡ Some n →
    count_of xs ≡ Ok (of_integer n)
counted_some xs count n h e =
    told_some xs n (subst (λ o. SomeIff o (length xs < 2 ^ 63) (pos (length xs))) e h)

told_none : (xs : List Item) → SomeIff None (length xs < 2 ^ 63) (pos (length xs)) →
    count_of xs ≡ Err (Dynamic FOAR0002)
unfolding count_of counted
told_none xs h = rw (past_range (length xs) h) refl

pub counted_none : (xs : List Item) (count : Option ℤ) →
    SomeIff count (length xs < 2 ^ 63) (pos (length xs)) → count ≡ None →
    count_of xs ≡ Err (Dynamic FOAR0002)
counted_none xs count h e =
    told_none xs (subst (λ o. SomeIff o (length xs < 2 ^ 63) (pos (length xs))) e h)

pub count_is : (xs : List Item) → function_value Count (xs ∷ []) ≡ count_of xs
unfolding function_value value_of
count_is xs = refl

same_item : (xs : List Item) → has_one xs ≡ has_item xs
unfolding has_one
same_item [] = refl
same_item (x ∷ xs) = let e : (length (x ∷ xs) == 0) ≡ false = grind (arith, nat_tests) in rw e refl

no_item : (xs : List Item) → has_no_item xs ≡ not (has_item xs)
unfolding has_no_item
no_item [] = refl
no_item (x ∷ xs) = let e : (length (x ∷ xs) == 0) ≡ false = grind (arith, nat_tests) in rw e refl

is_true : (b : Bool) → beq b true ≡ b
is_true true = refl
is_true false = refl

is_false : (b : Bool) → beq b false ≡ not b
is_false true = refl
is_false false = refl

pub exists_is : (xs : List Item) →
    function_value Exists (xs ∷ []) ≡ Ok (of_truth (beq (has_item xs) true))
unfolding function_value value_of exists_of
exists_is xs = rw (same_item xs, is_true (has_item xs)) refl

pub empty_is : (xs : List Item) →
    function_value Empty (xs ∷ []) ≡ Ok (of_truth (beq (has_item xs) false))
unfolding function_value value_of empty_of
empty_is xs = rw (no_item xs, is_false (has_item xs)) refl
