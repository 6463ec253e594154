-- Sort keys of the stylesheet and keys of an order in the query, where the keys are related.
use Rattle.std.proofs.Common.{◌≡◌, ℕ, List, [], ◌∷◌, refl, ap, sym, map, subst}
use Rattle.std.specs.Prelude.{Bool, Option}
use Rattle.xt_names.specs.declared.codes.Code.{Code}
use Rattle.xt_atoms.specs.Casts.{wrong_type}
use Rattle.xt_syntax.specs.declared.exprs.Expr.{Expr}
use Rattle.xt_syntax.specs.Layers.{order_gives}
use Rattle.xt_sheets.specs.declared.values.Sort.{Sort}
use Rattle.order_group.specs.Rows.{Cell, Row}
use Rattle.expr_meaning.specs.Outcomes.Outcome.{and_then, step_outcome, Every, Anything}
use Rattle.expr_meaning.specs.Outcomes.Follow.{Relation, IsCarrying}
use Rattle.expr_meaning.specs.SortMeaning.Related.{ColumnsRelate}
use Rattle.expr_meaning.specs.SortMeaning.Sorted.{directions, key_cell, row_of}
use Rattle.expr_meaning.specs.Env.{Env, Program}
use Rattle.expr_meaning.specs.Flow.{OrderMeaning, columns_at}
use Rattle.expr_meaning.specs.Meaning.{meanings, steps, outcome}
use Rattle.expr_laws.proofs.Rolled.{rolled_order}
use Rattle.expr_laws.proofs.Texts.{OrderForm}
use Rattle.meaning_laws.specs.SoundValues.Sound.{IsSound}
use Rattle.transform_meaning.specs.Instrs.{sorts_mean}
use Rattle.transform_meaning.specs.Sorting.{sort_cell, sort_columns}
use Rattle.translated_forms.specs.Loops.{sort_orders, typed_key}
use Rattle.translated_forms.specs.Places.{Table}
use Rattle.translated_forms.specs.Texts.{Carry}
use Rattle.lockstep.specs.Spots.{Spot, IsAt}
use Rattle.lockstep.proofs.Frame.{Meets}
use Rattle.lockstep_loops.proofs.SortKeys.{typed_gives, cells_relate}

module _ (like : Code → Code → Type 0) (lax : (a b : Code) → like a b) (rel : Relation)
    (carries : IsCarrying like rel) (t : Table) (p q : Program) (carry : Carry) (x : Spot) where
  -- the key of each sort
  abbrev pub KeysMeet : List (Sort Expr) → Type 0
  KeysMeet sorts = Every (λ s. Meets like lax rel carries t x (outcome p s.key)
      (outcome q (carry s.key))) sorts

  key_relates : (number : Option Bool) (a : Expr) (e f : Env) → IsAt t x e f →
      Meets like lax rel carries t x (outcome p a) (outcome q (carry a)) → (k : ℕ) →
      rel Cell Anything
      (and_then (outcome p a e k) (λ xs j. step_outcome (sort_cell number xs) j))
      (and_then (outcome q (typed_key number (carry a)) f k)
      (λ xs j. step_outcome (key_cell wrong_type xs) j))
  key_relates number a e f at h k =
      subst (λ o. rel Cell Anything
      (and_then (outcome p a e k) (λ xs j. step_outcome (sort_cell number xs) j)) o)
      (sym (typed_gives q number (carry a) f k))
      (carries.next _ _ (Every IsSound) Anything (outcome p a e k) (outcome q (carry a) f k) _ _
      (h e f at k) (λ xs j good. cells_relate like lax rel carries number xs j))

  pub columns_relate : {A : Type 0} (P : A → Type 0) (m n : A → Env) →
      ((v : A) → P v → IsAt t x (m v) (n v)) → (sorts : List (Sort Expr)) → KeysMeet sorts →
      ColumnsRelate rel P (sort_columns m (sorts_mean p sorts))
      (columns_at n (map (order_gives meanings (steps q)) (sort_orders carry sorts)))
  columns_relate P m n at [] h = tt
  columns_relate P m n at (s ∷ sorts) h =
      let form : OrderForm = record { key = typed_key s.number (carry s.key); descending = s.descending } in
      rw (rolled_order q form) (
        (λ v k g. key_relates s.number s.key (m v) (n v) (at v g) h.0 k),
        refl,
        columns_relate P m n at sorts h.1,
      )

  -- the keys of one value, whatever they are read at
  pub rows_relate : (e f : Env) → IsAt t x e f → {A : Type 0} (m : A → Env) (v : A) → m v ≡ e →
      (sorts : List (Sort Expr)) → KeysMeet sorts → (k : ℕ) →
      rel Row Anything (row_of (sort_columns m (sorts_mean p sorts)) v k)
      (row_of (columns_at (λ (i : Env). i) (map (order_gives meanings (steps q)) (sort_orders carry sorts))) f k)
  rows_relate e f at m v is [] h k = carries.ends Row Anything [] k tt
  rows_relate e f at m v is (s ∷ sorts) h k =
      let form : OrderForm = record { key = typed_key s.number (carry s.key); descending = s.descending } in
      rw (rolled_order q form, is)
      (carries.next Cell Row Anything Anything _ _ _ _
      (key_relates s.number s.key e f at h.0 k) (λ cell j u.
      carries.next Row Row Anything Anything _ _ _ _
      (rows_relate e f at m v is sorts h.1 j)
      (λ cells i w. carries.ends Row Anything (cell ∷ cells) i tt)))

pub directions_are : {A : Type 0} (p q : Program) (carry : Carry) (m : A → Env) (sorts : List (Sort Expr)) →
    directions (sort_columns m (sorts_mean p sorts))
    ≡ map (λ (o : OrderMeaning). o.1) (map (order_gives meanings (steps q)) (sort_orders carry sorts))
directions_are p q carry m [] = refl
directions_are p q carry m (s ∷ sorts) =
    let form : OrderForm = record { key = typed_key s.number (carry s.key); descending = s.descending } in
    rw (rolled_order q form) (ap (λ ds. s.descending ∷ ds) (directions_are p q carry m sorts))
