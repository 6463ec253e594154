-- The tuples of a FLWOR expression, with their keys.
use Rattle.std.proofs.Common.{◌≡◌, ℕ, zero, suc, ◌+◌, ◌<◌, ◌≤◌, refl, ap, ◌∙◌, arith, List}
use Rattle.std.proofs.Common.{[], ◌∷◌, ◌++◌, length, map}
use Rattle.std.specs.Prelude.{Bool, Option, Some, None, slice_get}
use Rattle.std.specs.declared.vec.Vec.{Vec}
use Rattle.std.specs.declared.alloc.Global.{Global}
use Rattle.xt_atoms.specs.Casts.{wrong_type}
use Rattle.order_group.specs.declared.sorts.KeyRow.{KeyRow}
use Rattle.order_group.specs.Rows.{Keyed, in_order, stands_before, mixed_column}
use Rattle.order_group.specs.Sorts.{cells_of, numbered}
use Rattle.order_group.proofs.Natural.{natural}
use Rattle.expr_meaning.specs.Outcomes.Outcome.{Ends, and_then, step_outcome}
use Rattle.expr_meaning.specs.SortMeaning.Sorted.{ordered, unless_mixed}
use Rattle.eval_scopes.specs.declared.scopes.Variable.{Variable}
use Rattle.eval_scopes.specs.EvalValues.Orders.{places_in_order, unless_mixed as or_mixed}
use Rattle.flow_eval.specs.Rows.{tuple_of, tuple_at, with_tuple}
use Rattle.std.proofs.lemmas.List.{map-append}
use Rattle.xt_names.specs.Lists.{stable_order}

abbrev Tuple : Type 0
Tuple = Vec Variable Global

numbered_last : (i : ℕ) (ks : List KeyRow) (k : KeyRow) → numbered i (ks ++ k ∷ [])
    ≡ numbered i ks ++ record { cells = k.cells; value = i + length ks } ∷ []
numbered_last i [] k =
    ap (λ n. record { cells = k.cells; value = n } ∷ []) (omega arith)
numbered_last i (x ∷ ks) k =
    ap (λ es. record { cells = x.cells; value = i } ∷ es) (numbered_last (suc i) ks k
    ∙ ap (λ n. numbered (suc i) ks ++ record { cells = k.cells; value = n } ∷ []) (omega arith))

before_end : (ts : List Tuple) (t : Tuple) (i : ℕ) → i < length ts →
    slice_get (ts ++ t ∷ []) i ≡ slice_get ts i
before_end [] t i h = absurd (omega (arith, h))
before_end (x ∷ ts) t zero h = refl
before_end (x ∷ ts) t (suc i) h = before_end ts t i (omega (arith, h))

at_end : (ts : List Tuple) (t : Tuple) → slice_get (ts ++ t ∷ []) (length ts) ≡ Some t
at_end [] t = refl
at_end (x ∷ ts) t = at_end ts t

same_tuples : (ts : List Tuple) (t : Tuple) (i : ℕ) (ks : List KeyRow) →
    i + length ks ≤ length ts →
    map (with_tuple (ts ++ t ∷ [])) (numbered i ks) ≡ map (with_tuple ts) (numbered i ks)
same_tuples ts t i [] h = refl
same_tuples ts t i (x ∷ ks) h =
    let here = before_end ts t i (omega (arith, h)) in
    rw (here, same_tuples ts t (suc i) ks (omega (arith, h))) refl

-- a tuple that is put at the end is the last row
pub pushed_row : (ts : List Tuple) (ks : List KeyRow) (t : Tuple) (k : KeyRow) →
    length ts ≡ length ks →
    map (with_tuple (ts ++ t ∷ [])) (numbered 0 (ks ++ k ∷ []))
    ≡ map (with_tuple ts) (numbered 0 ks)
    ++ record { cells = k.cells; value = tuple_of t.items } ∷ []
pushed_row ts ks t k e =
    let last : slice_get (ts ++ t ∷ []) (0 + length ks) ≡ Some t =
    ap (λ n. slice_get (ts ++ t ∷ []) n) (omega (arith, e)) ∙ at_end ts t in
    rw (numbered_last 0 ks k, map-append, same_tuples ts t 0 ks (omega (arith, e)), last) refl

keys_stay : (ts : List Tuple) (i : ℕ) (ks : List KeyRow) →
    map (λ row. row.cells) (map (with_tuple ts) (numbered i ks)) ≡ cells_of ks
keys_stay ts i [] = refl
keys_stay ts i (k ∷ ks) = ap (λ cs. k.cells ∷ cs) (keys_stay ts (suc i) ks)

values_of : (ts : List Tuple) (es : List (Keyed ℕ)) →
    map (λ row. row.value) (map (with_tuple ts) es) ≡ map (tuple_at ts) (map (λ row. row.value) es)
values_of ts [] = refl
values_of ts (e ∷ es) = ap (λ vs. tuple_at ts e.value ∷ vs) (values_of ts es)

order_stays : (ds : List Bool) (ts : List Tuple) (ks : List KeyRow) →
    in_order ds (map (with_tuple ts) (numbered 0 ks))
    ≡ map (tuple_at ts) (in_order ds (numbered 0 ks))
order_stays ds ts ks =
    ap (λ rows. map (λ row. row.value) rows)
    (natural (stands_before ds) (with_tuple ts) (numbered 0 ks))
    ∙ values_of ts (stable_order (stands_before ds) (numbered 0 ks))

told : (o : Option ℕ) (ts : List Tuple) (places : List ℕ) (k : ℕ) →
    unless_mixed o wrong_type (map (tuple_at ts) places) k
    ≡ and_then (step_outcome (or_mixed o wrong_type places) k)
    (λ is j. Ends (map (tuple_at ts) is) j)
told None ts places k = refl
told (Some c) ts places k = refl

-- the tuples in order are those at the places in order
pub placed_tuples : (ds : List Bool) (ts : List Tuple) (ks : List KeyRow) (k : ℕ) →
    ordered wrong_type ds (map (with_tuple ts) (numbered 0 ks)) k
    ≡ and_then (step_outcome (places_in_order wrong_type ds ks) k)
    (λ is j. Ends (map (tuple_at ts) is) j)
placed_tuples ds ts ks k =
    rw (keys_stay ts 0 ks, order_stays ds ts ks)
    (told (mixed_column ds (cells_of ks)) ts (in_order ds (numbered 0 ks)) k)
