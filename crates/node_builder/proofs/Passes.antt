-- A loop whose steps may fail, against its steps.
use Rattle.std.proofs.Common.{◌≡◌, ℕ, suc, ◌+◌, ◌<◌, ◌≤◌, List, ◌∷◌, length, drop, get_or, refl, ap, sym, ◌∙◌, add-one, drop-cons}
use Rattle.std.proofs.lemmas.List.{drop_all}
use Rattle.std.specs.Prelude.{Result, Ok, Err}
use Rattle.node_builder.specs.Made.{Made, Gives, made_then, made_each}
use Rattle.node_builder.specs.Answers.{IsFaultOf, Makes}
use Rattle.node_builder.specs.Building.{Built, empty, with_item, with_items, finished}
use Rattle.node_builder.specs.Complex.{complex_content}
use Rattle.node_builder.specs.declared.contents.Content.{Content}
use Rattle.node_builder.specs.declared.kinds.Duplicates.{Duplicates}
use Rattle.node_builder.specs.declared.kinds.Holder.{Holder}
use Rattle.xdm_items.specs.declared.items.Item.{Item}
use Rattle.node_builder.proofs.OnePass.{one_pass}
use Rattle.node_builder.specs.declared.faults.BuildFault.{BuildFault}
use Rattle.node_builder.specs.declared.faults.BuildFault.TheVariants.{Error, Memory}

-- a fault of the first part is one of the whole
pub fault_first : {A B : Type 0} (f : BuildFault) (o : Made A) (go : A → Made B) → IsFaultOf f o → IsFaultOf f (made_then o go)
fault_first (Error c) o go h = ap (λ p. made_then p go) h
fault_first (Memory e) o go h = tt

pub fault_along : {A : Type 0} (f : BuildFault) (o p : Made A) → o ≡ p → IsFaultOf f p → IsFaultOf f o
fault_along f o p e h = rw e h

-- what is left of a loop after i steps is the whole
pub record Passes {A X : Type 0} (step : A → X → Made A) (xs : List X) (b : A) (o : Made A) (i : ℕ) : Type 0 where
  pub left : made_each step b (drop i xs) ≡ o

drop_item : {X : Type 0} (xs : List X) (i : ℕ) (x d : X) → i < length xs → x ≡ get_or xs i d → drop i xs ≡ x ∷ drop (suc i) xs
drop_item xs i x d lt is = drop-cons xs i d lt ∙ ap (λ y. y ∷ drop (suc i) xs) (sym is)

pub passes_first : {A X : Type 0} (step : A → X → Made A) (xs : List X) (b : A) → Passes step xs b (made_each step b xs) 0
passes_first step xs b = record { left = refl }

pub passes_step : {A X : Type 0} (step : A → X → Made A) (xs : List X) (b c : A) (o : Made A) (i : ℕ) (x d : X) → Passes step xs b o i → i < length xs → x ≡ get_or xs i d → step b x ≡ Gives c
    → Passes step xs c o (i + 1)
passes_step step xs b c o i x d inv lt is e =
    let whole = ap (λ q. made_then q (λ y. made_each step y (drop (suc i) xs))) (sym e) ∙ ap (made_each step b) (sym (drop_item xs i x d lt is)) ∙ inv.left in
    record { left = rw add-one whole }

pub passes_exit : {A X : Type 0} (f : BuildFault) (step : A → X → Made A) (xs : List X) (b : A) (o : Made A) (i : ℕ) (x d : X) → Passes step xs b o i → i < length xs → x ≡ get_or xs i d → IsFaultOf f (step b x)
    → IsFaultOf f o
passes_exit f step xs b o i x d inv lt is h =
    let whole = sym inv.left ∙ ap (made_each step b) (drop_item xs i x d lt is) in fault_along f o _ whole (fault_first f (step b x) _ h)

pub passes_end : {A X : Type 0} (step : A → X → Made A) (xs : List X) (b : A) (o : Made A) (i : ℕ) → Passes step xs b o i → length xs ≤ i → o ≡ Gives b
passes_end step xs b o i inv le = sym inv.left ∙ ap (made_each step b) (drop_all i xs le)

-- the loop over the items of the content
abbrev pub Goes : Duplicates → Holder → List Item → List Item → Built → ℕ → Type 0
Goes side holder items ys b i = Passes (with_item side holder) ys b (with_items side holder empty items) i

pub content_starts : (side : Duplicates) (holder : Holder) (items ys : List Item) (b : Built) → b ≡ empty → ys ≡ items → Goes side holder items ys b 0
content_starts side holder items ys b e f = record { left = ap (λ s. with_items side holder s ys) e ∙ ap (with_items side holder empty) f }

pub content_stops : (f : BuildFault) (side : Duplicates) (holder : Holder) (items ys : List Item) (b : Built) (i : ℕ) (x d : Item) → Goes side holder items ys b i → i < length ys → x ≡ get_or ys i d → IsFaultOf f (with_item side holder b x)
    → IsFaultOf f (complex_content side holder items)
content_stops f side holder items ys b i x d inv lt is h =
    fault_along f _ _ (one_pass side holder items) (fault_first f (with_items side holder empty items) (finished side) (passes_exit f (with_item side holder) ys b _ i x d inv lt is h))

makes_along : (r : Result Content BuildFault) (o p : Made Content) → o ≡ p → Makes r p → Makes r o
makes_along (Ok x) o p e h = e ∙ h
makes_along (Err f) o p e h = fault_along f o p e h

pub content_ends : (side : Duplicates) (holder : Holder) (items ys : List Item) (b : Built) (i : ℕ) (r : Result Content BuildFault) → Goes side holder items ys b i → length ys ≤ i → Makes r (finished side b)
    → Makes r (complex_content side holder items)
content_ends side holder items ys b i r inv le h =
    makes_along r _ _ (one_pass side holder items ∙ ap (λ o. made_then o (finished side)) (passes_end (with_item side holder) ys b _ i inv le)) h
