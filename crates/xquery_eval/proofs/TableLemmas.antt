-- Functions found by a table.
use Rattle.std.proofs.Common.{◌≡◌, ℕ, zero, suc, ◌+◌, ◌-◌, ◌<◌, ◌≤◌, List, [], ◌∷◌, refl, ap, sym}
use Rattle.std.proofs.Common.{◌∙◌, arith, drop, length, get_or, slice_get}
use Rattle.std.proofs.Math.ListN.{drop_of_length-le}
use Rattle.std.specs.Prelude.{Bool, true, false, if◌then◌else◌, Option, Some, None}
use Rattle.indexmap.specs.IndexMap.{IndexMap, get}
use Rattle.name_rules.specs.Scopes.{same_signature, signature}
use Rattle.name_rules.specs.declared.functions.Signature.{Signature}
use Rattle.xt_names.specs.declared.names.ExprName.{ExprName}
use Rattle.xt_syntax.specs.declared.queries.QueryFunction.{QueryFunction}
use Rattle.expr_meaning.specs.Queries.{find_function}
use Rattle.xquery_eval.specs.Tables.{IsTableOf, first_place, has_signature, place_from}
use Rattle.xquery_eval.specs.Tables.{signature_of}

-- the table of the functions from a place on
abbrev pub IsTableFrom : {S : Type 0} → List QueryFunction → IndexMap Signature ℕ S → ℕ → Type 0
IsTableFrom fs places n =
    (s : Signature) → get same_signature places s ≡ place_from s n (drop n fs)

from_there : (fs : List QueryFunction) (i : ℕ) (f : QueryFunction) → i < length fs →
    f ≡ get_or fs i f → drop i fs ≡ f ∷ drop (suc i) fs
from_there [] i f h e = absurd (omega (arith, h))
from_there (g ∷ fs) zero f h e = ap (λ x. x ∷ fs) (sym e)
from_there (g ∷ fs) (suc i) f h e = from_there fs i f (omega (arith, h)) e

-- no functions are in an empty table
pub none_yet : {S : Type 0} (fs : List QueryFunction) (places : IndexMap Signature ℕ S) →
    ((s : Signature) → get same_signature places s ≡ None) → IsTableFrom fs places (length fs)
none_yet fs places empty s = empty s ∙ ap (place_from s (length fs)) (sym (drop_of_length-le fs (omega arith)))

-- a function put in front of those after it
pub one_before : {S T : Type 0} (fs : List QueryFunction) (old : IndexMap Signature ℕ S)
    (new : IndexMap Signature ℕ T) (n : ℕ) (f : QueryFunction) → 0 < n → n ≤ length fs →
    f ≡ get_or fs (n - 1) f → IsTableFrom fs old n →
    ((s : Signature) → get same_signature new s
    ≡ first_place (signature_of f) (n - 1) (get same_signature old s) s) →
    IsTableFrom fs new (n - 1)
one_before fs old new n f some within is table put s =
    let k : suc (n - 1) ≡ n = omega (arith, some) in
    put s
    ∙ ap (λ found. first_place (signature_of f) (n - 1) found s) (table s)
    ∙ ap (λ m. first_place (signature_of f) (n - 1) (place_from s m (drop m fs)) s) (sym k)
    ∙ ap (place_from s (n - 1))
    (sym (from_there fs (n - 1) f (omega (arith, some, within)) is))

pub whole_table : {S : Type 0} (fs : List QueryFunction) (places : IndexMap Signature ℕ S) (n : ℕ) →
    n ≤ 0 → IsTableFrom fs places n → IsTableOf fs places
whole_table fs places n none table s =
    let e : n ≡ 0 = omega (arith, none) in
    table s ∙ ap (λ m. place_from s m (drop m fs)) e

none_there : (n : ℕ) (f : QueryFunction) (fs : List QueryFunction) →
    drop {A = QueryFunction} n [] ≡ f ∷ fs → ⊥
none_there zero f fs e = absurd cc
none_there (suc n) f fs e = absurd cc

item_there : (whole : List QueryFunction) (n : ℕ) (f : QueryFunction) (fs : List QueryFunction) →
    drop n whole ≡ f ∷ fs → slice_get whole n ≡ Some f
item_there [] n f fs e = absurd (none_there n f fs e)
item_there (g ∷ whole) zero f fs e = ap (λ (l : List QueryFunction). slice_get l 0) e
item_there (g ∷ whole) (suc n) f fs e = item_there whole n f fs e

rest_there : (whole : List QueryFunction) (n : ℕ) (f : QueryFunction) (fs : List QueryFunction) →
    drop n whole ≡ f ∷ fs → drop (suc n) whole ≡ fs
rest_there [] n f fs e = absurd (none_there n f fs e)
rest_there (g ∷ whole) zero f fs e = ap (λ (l : List QueryFunction). drop 1 l) e
rest_there (g ∷ whole) (suc n) f fs e = rest_there whole n f fs e

module _ (whole : List QueryFunction) (name : ExprName) (arity : ℕ) where
  abbrev s : Signature
  s = signature name arity

  none_by : (f : QueryFunction) (fs : List QueryFunction) (n : ℕ) (b : Bool) →
      has_signature s f ≡ b → place_from s n (f ∷ fs) ≡ None →
      (place_from s (suc n) fs ≡ None → find_function fs name arity ≡ None) →
      find_function (f ∷ fs) name arity ≡ None
  none_by f fs n true h e more =
      let at : Some n ≡ None =
      ap (λ c. if c then Some n else place_from s (suc n) fs) (sym h) ∙ e in
      absurd cc
  none_by f fs n false h e more =
      ap (λ c. if c then Some f else find_function fs name arity) h
      ∙ more (ap (λ c. if c then Some n else place_from s (suc n) fs) (sym h) ∙ e)

  none_of : (fs : List QueryFunction) (n : ℕ) → place_from s n fs ≡ None →
      find_function fs name arity ≡ None
  none_of [] n e = refl
  none_of (f ∷ fs) n e = none_by f fs n (has_signature s f) refl e (none_of fs (suc n))

  one_by : (f : QueryFunction) (fs : List QueryFunction) (n i : ℕ) (b : Bool) →
      has_signature s f ≡ b → drop n whole ≡ f ∷ fs → place_from s n (f ∷ fs) ≡ Some i →
      (place_from s (suc n) fs ≡ Some i → find_function fs name arity ≡ slice_get whole i) →
      find_function (f ∷ fs) name arity ≡ slice_get whole i
  one_by f fs n i true h d e more =
      let at : Some n ≡ Some i =
      ap (λ c. if c then Some n else place_from s (suc n) fs) (sym h) ∙ e in
      let same : n ≡ i = cc in
      ap (λ c. if c then Some f else find_function fs name arity) h
      ∙ sym (item_there whole n f fs d) ∙ ap (slice_get whole) same
  one_by f fs n i false h d e more =
      ap (λ c. if c then Some f else find_function fs name arity) h
      ∙ more (ap (λ c. if c then Some n else place_from s (suc n) fs) (sym h) ∙ e)

  one_of : (fs : List QueryFunction) (n i : ℕ) → drop n whole ≡ fs → place_from s n fs ≡ Some i →
      find_function fs name arity ≡ slice_get whole i
  one_of [] n i d e = absurd cc
  one_of (f ∷ fs) n i d e =
      one_by f fs n i (has_signature s f) refl d e
      (one_of fs (suc n) i (rest_there whole n f fs d))

-- what the table says is what a search finds
module _ {S : Type 0} (fs : List QueryFunction) (places : IndexMap Signature ℕ S)
    (table : IsTableOf fs places) (name : ExprName) (arity : ℕ) where
  pub not_there : get same_signature places (signature name arity) ≡ None →
      None ≡ find_function fs name arity
  not_there e = sym (none_of fs name arity fs 0 (sym (table (signature name arity)) ∙ e))

  pub there : (i : ℕ) → get same_signature places (signature name arity) ≡ Some i →
      slice_get fs i ≡ find_function fs name arity
  there i e = sym (one_of fs name arity fs 0 i refl (sym (table (signature name arity)) ∙ e))
