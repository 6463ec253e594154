-- A list in the order of its keys: the one definition that `order by` and xsl:sort share
-- (XQuery 1.0, 3.8.3; XSLT 2.0, 13.1).
use Rattle.std.specs.Prelude.{ℕ, suc, ◌^◌, Bool, List, [], ◌∷◌, map, length, nat_lt}
use Rattle.std.specs.Prelude.{Option, Some, None, Result, Ok, Err, if◌then◌else◌}
use Rattle.xt_names.specs.declared.codes.Code.{Code}
use Rattle.xt_names.specs.declared.codes.Code.TheVariants.{Dynamic}
use Rattle.xt_names.specs.declared.codes.DynamicCode.TheVariants.{FOAR0002}
use Rattle.xdm_items.specs.declared.items.Item.{Item}
use Rattle.order_group.specs.Rows.{Cell, Row, Keyed, mixed_column, in_order}
use Rattle.expr_meaning.specs.Outcomes.Outcome.{Outcome, Ends, Fails, and_then, step_outcome, for_each}
use Rattle.operator_values.specs.Operands.{atom_of}

-- the key that a list is: at most one atom, or this error
abbrev pub key_cell : Code → List Item → Result Cell Code
key_cell many [] = Ok None
key_cell many (x ∷ []) = Ok (Some (atom_of x))
key_cell many (x ∷ y ∷ xs) = Err many

-- a sort column: the key that a value has, and whether the column descends
pub record Column (A : Type 0) : Type 0 where
  pub key : A → ℕ → Outcome Cell
  pub descending : Bool

-- the keys of a value, column by column
abbrev pub row_of : {A : Type 0} → List (Column A) → A → ℕ → Outcome Row
row_of [] x k = Ends [] k
row_of (c ∷ cs) x k = and_then (c.key x k) (λ cell j. and_then (row_of cs x j)
    (λ cells i. Ends (cell ∷ cells) i))

abbrev pub with_row : {A : Type 0} → List (Column A) → A → ℕ → Outcome (List (Keyed A))
with_row cs x k = and_then (row_of cs x k) (λ cells j. Ends
    (record { cells = cells; value = x } ∷ []) j)

abbrev pub directions : {A : Type 0} → List (Column A) → List Bool
directions cs = map (λ c. c.descending) cs

-- an error, unless every column has an order
abbrev pub unless_mixed : {A : Type 0} → Option ℕ → Code → A → ℕ → Outcome A
unless_mixed None mixed v k = Ends v k
unless_mixed (Some c) mixed v k = Fails mixed

-- the values in the one stable order of their keys
abbrev pub ordered : {A : Type 0} → Code → List Bool → List (Keyed A) → ℕ → Outcome (List A)
ordered mixed ds rows k = unless_mixed (mixed_column ds (map (λ row. row.cells) rows)) mixed
    (in_order ds rows) k

-- all keys, value by value, and then the order
abbrev pub sorted : {A : Type 0} → Code → List (Column A) → List A → ℕ → Outcome (List A)
sorted mixed cs xs k = and_then (for_each (with_row cs) xs k) (ordered mixed (directions cs))

-- a value with its place in a list, from 1, and the list's length
pub record Placed (A : Type 0) : Type 0 where
  pub value : A
  pub place : ℕ
  pub size : ℕ

abbrev pub placed_from : {A : Type 0} → ℕ → ℕ → List A → List (Placed A)
placed_from i n [] = []
placed_from i n (x ∷ xs) = record { value = x; place = i; size = n } ∷ placed_from (suc i) n xs

abbrev pub placed : {A : Type 0} → List A → List (Placed A)
placed xs = placed_from 1 (length xs) xs

-- places are counted up to 2^63 - 1
abbrev pub counted : {A B : Type 0} → List A → B → Result B Code
counted xs v = if nat_lt (length xs) (2 ^ 63) then Ok v else Err (Dynamic FOAR0002)

abbrev pub places : {A : Type 0} → List A → Result (List (Placed A)) Code
places xs = counted xs (placed xs)

abbrev pub values : {A : Type 0} → List (Placed A) → List A
values fs = map (λ f. f.value) fs

-- the values in the order of the keys that they have at their places, each at its new place
abbrev pub sorted_places : {A : Type 0} → Code → List (Column (Placed A)) → List A → ℕ → Outcome
    (List (Placed A))
sorted_places mixed cs xs k =
    and_then (step_outcome (places xs) k) (λ fs j. and_then (sorted mixed cs fs j)
    (λ gs i. Ends (placed (values gs)) i))

-- the body at each place in the order of the keys
abbrev pub visit : {A B : Type 0} → Code → List (Column (Placed A)) →
    (Placed A → ℕ → Outcome (List B)) → List A → ℕ → Outcome (List B)
visit mixed cs body xs k = and_then (sorted_places mixed cs xs k) (for_each body)

-- a column of what values are made of
abbrev pub moved : {A B : Type 0} → (A → B) → Column B → Column A
moved h c = record { key = λ x. c.key (h x); descending = c.descending }

abbrev pub all_moved : {A B : Type 0} → (A → B) → List (Column B) → List (Column A)
all_moved h cs = map (moved h) cs

-- a value that is made of another one, in its place
abbrev pub placed_as : {A B : Type 0} → (A → B) → Placed A → Placed B
placed_as h f = record { value = h f.value; place = f.place; size = f.size }
