-- Sequence constructors whose expressions are regular: one nests six levels at most for each level of
-- its instructions.
use Rattle.std.proofs.Common.{◌≡◌, ◌≤◌, ◌+◌, ◌*◌, ℕ, zero, suc, List, [], ◌∷◌, ◌++◌, subst, arith}
use Rattle.std.specs.Prelude.{Bool, true, false}
use Rattle.xt_names.specs.declared.names.ExprName.{ExprName}
use Rattle.xt_syntax.specs.declared.exprs.Expr.{Expr}
use Rattle.closed_sheets.specs.SheetForms.InstrNest.{Nested, behind, most_behind, most_levels}
use Rattle.translated_forms.specs.Forms.{comma, let_clause}
use Rattle.translated_forms.specs.Bodies.{Part, binds, makes, Body, items_or_flow, items_of, part_before}
use Rattle.translated_forms.specs.Bodies.{empty_body, body_of, body_expr, sequence_of}
use Rattle.translated_forms.proofs.Fine.{Fine, FineClause, Every, none, more, higher, all_higher}
use Rattle.translated_forms.proofs.Fine.{fine_nothing, fine_items, fine_let}
use Rattle.translated_forms.proofs.FineFlows.{fine_flow}

pub fine_comma : (n : ℕ) (es : List Expr) → Every (Fine n) es → Fine (suc n) (comma es)
unfolding comma
fine_comma n [] none = higher (suc n) (omega arith) fine_nothing
fine_comma n (e ∷ []) (more h none) = higher (suc n) (omega arith) h
fine_comma n (e ∷ f ∷ es) h = fine_items n e f es h

pub joined_all : {A : Type 0} (P : A → Type 0) (xs ys : List A) → Every P xs → Every P ys →
    Every P (xs ++ ys)
joined_all P [] ys h i = i
joined_all P (x ∷ xs) ys (more h rest) i = more h (joined_all P xs ys rest i)

-- what an instruction of so many levels becomes
pub data PartFits (k : Nested) : Part → Type 0 where
  fits_binds : {v : ExprName} {e : Expr} (is : k.binds ≡ true) (some : 1 ≤ k.levels)
      (fine : Fine (6 * k.levels + 69) e) → PartFits k (binds v e)
  fits_makes : {b : Bool} {e : Expr} (is : k.binds ≡ false)
      (fine : Fine (6 * k.levels + 70) e) → PartFits k (makes b e)

pub data AllFit : List Nested → List Part → Type 0 where
  none_fit : AllFit [] []
  more_fit : {k : Nested} {ks : List Nested} {p : Part} {ps : List Part} (first : PartFits k p)
      (rest : AllFit ks ps) → AllFit (k ∷ ks) (p ∷ ps)

pub record FineBody (m : ℕ) (b : Body) : Type 0 where
  pub lets : Every (FineClause (6 * m + 69)) b.lets
  pub items : Every (Fine (6 * m + 70)) b.items
  pub whole : Every (Fine (6 * m + 70)) (items_of b)

-- with a part before it
with_item : (m : ℕ) (is_node : Bool) (e : Expr) (b : Body) → Fine (6 * m + 70) e → FineBody m b →
    FineBody m (part_before (makes is_node e) b)
unfolding part_before items_or_flow
with_item m is_node e b h i =
    record { lets = none; items = more h i.whole; whole = more h i.whole }

with_let : (m : ℕ) (v : ExprName) (e : Expr) (b : Body) → Fine (6 * suc m + 69) e → FineBody m b →
    FineBody (suc m) (part_before (binds v e) b)
unfolding part_before items_or_flow
with_let m v e b h i =
    let lets = more (fine_let (6 * suc m + 69) v e h) (all_higher (6 * suc m + 69) (omega arith) i.lets) in
    record {
      lets = lets;
      items = all_higher (6 * suc m + 70) (omega arith) i.items;
      whole = more (higher (6 * suc m + 70) (omega arith)
          (fine_flow (6 * suc m + 69) (let_clause v e) b.lets (comma b.items) lets
          (higher (6 * suc m + 69) (omega arith) (fine_comma (6 * m + 70) b.items i.items)))) none;
    }

-- after so many variables
first_level : (before m : ℕ) (k : Nested) (ks : List Nested) →
    most_behind before (k ∷ ks) ≤ before + m → k.levels ≤ m
first_level before m k ks l = omega arith

rest_made : (before m : ℕ) (k : Nested) (ks : List Nested) → k.binds ≡ false →
    most_behind before (k ∷ ks) ≤ before + m → most_behind before ks ≤ before + m
rest_made before m k ks is l =
    let r : most_behind (behind k.binds before) ks ≤ before + m = omega arith in
    subst (λ b. most_behind (behind b before) ks ≤ before + m) is r

rest_bound : (before m : ℕ) (k : Nested) (ks : List Nested) → k.binds ≡ true →
    most_behind before (k ∷ ks) ≤ before + suc m → most_behind (1 + before) ks ≤ (1 + before) + m
rest_bound before m k ks is l =
    let r : most_behind (behind k.binds before) ks ≤ before + suc m = omega arith in
    let s = subst (λ b. most_behind (behind b before) ks ≤ before + suc m) is r in omega arith

empty_fine : (m : ℕ) → FineBody m empty_body
unfolding items_or_flow
empty_fine m = record { lets = none; items = none; whole = none }

-- where so many levels are left
fine_from : (before m : ℕ) (ks : List Nested) (ps : List Part) → AllFit ks ps →
    most_behind before ks ≤ before + m → FineBody m (body_of ps)
fine_from before m [] [] none_fit l = empty_fine m
fine_from before m [] (p ∷ ps) h l = elim h [ ]
fine_from before m (k ∷ ks) [] h l = elim h [ ]
fine_from before m (k ∷ ks) (makes b e ∷ ps) (more_fit (fits_makes is fine) rest) l =
    let f = first_level before m k ks l in
    with_item m b e (body_of ps) (higher (6 * m + 70) (omega arith) fine)
    (fine_from before m ks ps rest (rest_made before m k ks is l))
fine_from before zero (k ∷ ks) (binds v e ∷ ps) (more_fit (fits_binds is some fine) rest) l =
    let f = first_level before 0 k ks l in absurd (omega arith)
fine_from before (suc m) (k ∷ ks) (binds v e ∷ ps) (more_fit (fits_binds is some fine) rest) l =
    let f = first_level before (suc m) k ks l in
    with_let m v e (body_of ps) (higher (6 * suc m + 69) (omega arith) fine)
    (fine_from (1 + before) m ks ps rest (rest_bound before m k ks is l))

pub fine_body : (m : ℕ) (ks : List Nested) (ps : List Part) → AllFit ks ps → most_levels ks ≤ m →
    FineBody m (body_of ps)
fine_body m ks ps h l = fine_from 0 m ks ps h (omega arith)

pub fine_body_expr : (m : ℕ) (b : Body) → FineBody m b → Fine (6 * m + 71) (body_expr b)
fine_body_expr m b h =
    higher (6 * m + 71) (omega arith) (fine_comma (6 * m + 70) (items_of b) h.whole)

pub fine_sequence : (m : ℕ) (ks : List Nested) (ps : List Part) → AllFit ks ps → most_levels ks ≤ m →
    Fine (6 * m + 71) (sequence_of ps)
unfolding sequence_of
fine_sequence m ks ps h l = fine_body_expr m (body_of ps) (fine_body m ks ps h l)
