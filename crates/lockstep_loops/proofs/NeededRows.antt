-- Bindings after a `for` whose tuples are put into order: those alone are written whose names the
-- keys mention, and the rows are the same.
use Rattle.std.proofs.Common.{◌≡◌, ℕ, List, [], ◌∷◌, refl, ap, sym, ◌∙◌, map, subst}
use Rattle.std.proofs.lemmas.Simd.{map-map}
use Rattle.std.specs.Prelude.{Bool, true, false, ◌||◌, Option, None, Some, if◌then◌else◌}
use Rattle.xt_names.specs.declared.codes.Code.{Code}
use Rattle.xt_names.specs.declared.names.ExprName.{ExprName}
use Rattle.xdm_items.specs.declared.items.Item.{Item}
use Rattle.xt_syntax.specs.declared.exprs.Clause.{Clause}
use Rattle.xt_syntax.specs.declared.exprs.Expr.{Expr}
use Rattle.xt_syntax.specs.declared.exprs.Order.{Order}
use Rattle.xt_syntax.specs.declared.exprs.Clause.TheOpen.{Let}
use Rattle.xt_syntax.specs.declared.exprs.Clause.TheViews.{roll-Bind}
use Rattle.xt_syntax.specs.Layers.{clause_gives, order_gives}
use Rattle.xt_sheets.specs.declared.values.Sort.{Sort}
use Rattle.order_group.specs.Rows.{Keyed, Row, in_order, mixed_column}
use Rattle.order_group.proofs.Natural.{rekeyed, in_order_map}
use Rattle.expr_meaning.specs.Outcomes.Outcome.{Outcome, Ends, Every, and_then}
use Rattle.expr_meaning.specs.Outcomes.Follow.{Relation, IsCarrying}
use Rattle.expr_meaning.proofs.OutcomesLemmas.Steps.{then_assoc, then_same, made}
use Rattle.expr_meaning.specs.SortMeaning.Sorted.{row_of, moved, ordered, unless_mixed}
use Rattle.expr_meaning.proofs.SortMeaning.Sorting.{row_moved}
use Rattle.expr_meaning.specs.Env.{Binding, Env, Program, bind, bind_all, look_up, with_bound}
use Rattle.expr_meaning.specs.Flow.{OrderMeaning, columns_at, flow_of, keyed, order_column, where_clause}
use Rattle.expr_meaning.specs.Meaning.{meanings, steps, outcome}
use Rattle.expr_laws.proofs.Texts.{BindForm}
use Rattle.translated_forms.specs.Groups.{Named, needed, in_orders_of}
use Rattle.translated_forms.specs.Loops.{sort_orders}
use Rattle.translated_forms.specs.Mentions.{mentions, in_clause, in_clauses, in_orders}
use Rattle.translated_forms.specs.Texts.{Carry}
use Rattle.lockstep.specs.Spots.{items_if}
use Rattle.lockstep.proofs.Lets.{Lets, let_of}
use Rattle.lockstep_loops.specs.Beside.{Beside}
use Rattle.lockstep_loops.proofs.Apart.{beside_behind}
use Rattle.lockstep_loops.proofs.LoopForms.{let_gives}
use Rattle.lockstep_loops.proofs.MentionsRolled.{bind_rolled, clause_rolled}
use Rattle.lockstep_loops.proofs.Needed.{AreGiven, behind_all, written, written_before, are_written}
use Rattle.lockstep_loops.proofs.Unmentioned.{no_first, no_second, unmentioned}
use Rattle.lockstep_loops.proofs.Unsized.{columns_same, hidden}
use Rattle.xt_names.specs.ExprNames.{same_name}

-- the keys at a place
abbrev pub cells_at : List OrderMeaning → Env → ℕ → Outcome Row
cells_at os env k = row_of (columns_at (λ (e : Env). e) os) env k

pub row_of_place : {A : Type 0} (m : A → Env) (os : List OrderMeaning) (x : A) (k : ℕ) →
    row_of (columns_at m os) x k ≡ cells_at os (m x) k
row_of_place m os x k =
    ap (λ cs. row_of cs x k) (sym (map-map (moved m) (order_column (λ (e : Env). e)) os))
    ∙ row_moved m (columns_at (λ (e : Env). e) os) x k

-- keys with a value
abbrev pub row_with : {A : Type 0} → A → Row → ℕ → Outcome (List (Keyed A))
row_with x cells k = Ends (record { cells = cells; value = x } ∷ []) k

module _ (q : Program) where
  -- bindings, and then the keys
  pub lets_cells : Lets q → List OrderMeaning → Env → ℕ → Outcome Row
  lets_cells [] os env k = cells_at os env k
  lets_cells (b ∷ bs) os env k =
      and_then (outcome q b.1 env k) (λ xs. lets_cells bs os (bind b.0 xs env))

  module _ (v : ExprName) where
    abbrev pub value_held : Env → List Binding → List Item
    value_held f b = items_if (look_up (with_bound b f.locals) v)

    abbrev pub AllOther : Lets q → Type 0
    AllOther [] = Unit {0}
    AllOther (b ∷ bs) = (same_name b.0 v ≡ false) × AllOther bs

    -- the list that a variable holds before the bindings is still held
    pub rows_of_lets : (bs : Lets q) → AllOther bs → (os : List OrderMeaning) (bound : List Binding)
        (f : Env) (k : ℕ) →
        and_then (flow_of (map (clause_gives meanings (steps q)) (map (let_of q) bs))
        (where_clause None (keyed os)) bound f k) (made (rekeyed (value_held f)))
        ≡ and_then (lets_cells bs os (bind_all bound f) k) (row_with (value_held f bound))
    unfolding lets_cells look_up
    rows_of_lets [] o os bound f k =
        then_assoc (row_of (columns_at (λ b. bind_all b f) os) bound k) _ _
        ∙ ap (λ o. and_then o (row_with (value_held f bound)))
        (row_of_place (λ b. bind_all b f) os bound k)
    rows_of_lets (b ∷ bs) o os bound f k =
        ap (λ c. and_then (c (flow_of (map (clause_gives meanings (steps q)) (map (let_of q) bs))
        (where_clause None (keyed os))) bound f k) (made (rekeyed (value_held f)))) (let_gives q b.0 b.1)
        ∙ then_assoc (outcome q b.1 (bind_all bound f) k) _ _
        ∙ then_same (outcome q b.1 (bind_all bound f) k) _ _ (λ xs j.
        rows_of_lets bs o.1 os ((b.0, xs) ∷ bound) f j
        ∙ ap (λ t. and_then (lets_cells bs os (bind_all ((b.0, xs) ∷ bound) f) j)
        (row_with (items_if (if t then Some xs else look_up (with_bound bound f.locals) v)))) o.0)
        ∙ sym (then_assoc (outcome q b.1 (bind_all bound f) k) _ _)

  -- a binding mentions what its value mentions
  let_free : (w : ExprName) (b : ExprName × Expr) → in_clause w (let_of q b) ≡ false →
      mentions w b.1 ≡ false
  let_free w b h =
      let form : BindForm = record { var = b.0; kind = None; source = b.1 } in
      no_second (same_name w b.0) (mentions w b.1)
      (sym (clause_rolled w (Let (roll-Bind form)) ∙ bind_rolled w form) ∙ h)

  module _ (carry : Carry) (sorts : List (Sort Expr)) where
    abbrev orders : List Order
    orders = sort_orders carry sorts

    abbrev pub keys_of_order : List OrderMeaning
    keys_of_order = map (order_gives meanings (steps q)) orders

    -- what nothing mentions does not matter
    cells_same : (w : ExprName) → in_orders w orders ≡ false → (bs : Lets q) →
        in_clauses w (map (let_of q) bs) ≡ false → (d e : Env) → Beside (w ∷ []) d e → (k : ℕ) →
        lets_cells bs keys_of_order d k ≡ lets_cells bs keys_of_order e k
    unfolding lets_cells
    cells_same w none [] h d e b k =
        sym (row_of_place (λ (u : Unit {0}). d) keys_of_order tt k)
        ∙ ap (λ cs. row_of cs tt k)
        (columns_same q w carry (λ (u : Unit {0}). d) (λ u. e) (λ u. b) sorts none)
        ∙ row_of_place (λ (u : Unit {0}). e) keys_of_order tt k
    cells_same w none (c ∷ bs) h d e b k =
        let here = in_clause w (let_of q c) in let there = in_clauses w (map (let_of q) bs) in
        ap (λ o. and_then o (λ xs. lets_cells bs keys_of_order (bind c.0 xs d)))
        (unmentioned w q c.1 (let_free w c (no_first here there h)) d e b k)
        ∙ then_same (outcome q c.1 e k) _ _ (λ xs j.
        cells_same w none bs (no_second here there h) (bind c.0 xs d) (bind c.0 xs e)
        (beside_behind (w ∷ []) d e b ((c.0, xs) ∷ [])) j)

    module _ (like : Code → Code → Type 0) (rel : Relation) (carries : IsCarrying like rel) where
      abbrev pub some_written : List Named → Lets q
      some_written bs = written like rel carries q bs (in_orders_of orders)

      -- bindings that give lists: all of them, and those that are written
      pub needed_cells : (P : Row → Type 0) (m : ℕ → Outcome Row) (bs : List Named)
          (rest : List (List Item)) (f : Env) → AreGiven like rel carries q bs rest f →
          ((k : ℕ) → rel Row P (m k)
          (cells_at keys_of_order (behind_all like rel carries q bs rest f) k)) → (k : ℕ) →
          rel Row P (m k) (lets_cells (some_written bs) keys_of_order f k)
      unfolding lets_cells
      needed_cells P m [] [] f g h k = h k
      needed_cells P m [] (xs ∷ rest) f g h k = absurd g
      needed_cells P m (b ∷ bs) [] f g h k = absurd g
      needed_cells P m (b ∷ bs) (xs ∷ rest) f g h k =
          by (in_clauses b.name cs || in_orders_of orders b.name) refl (λ ys j e.
          subst (λ zs. rel Row P (m j) (lets_cells (some_written bs) keys_of_order (bind b.name zs f) j))
          (sym e) (needed_cells P m bs rest (bind b.name xs f) g.1 h j))
        where
          cs : List Clause
          cs = needed bs (in_orders_of orders)

          by : (c : Bool) → (in_clauses b.name cs || in_orders_of orders b.name) ≡ c →
              ((ys : List Item) (j : ℕ) → ys ≡ xs → rel Row P (m j)
              (lets_cells (some_written bs) keys_of_order (bind b.name ys f) j)) →
              rel Row P (m k) (lets_cells (written_before like rel carries q b c (some_written bs))
              keys_of_order f k)
          by true e more =
              carries.next _ _ (λ ys. ys ≡ xs) P (Ends xs k) (outcome q b.value f k) (λ ys. m) _ (g.0 k)
              (λ ys j e. more ys j e)
          by false e more =
              subst (rel Row P (m k))
              (sym (cells_same b.name
              (no_second (in_clauses b.name cs) (in_orders_of orders b.name) e) (some_written bs)
              (ap (in_clauses b.name) (sym (are_written like rel carries q bs (in_orders_of orders)))
              ∙ no_first (in_clauses b.name cs) (in_orders_of orders b.name) e)
              f (bind b.name xs f) (hidden b.name xs f) k))
              (more xs k refl)

-- names of bindings that differ from this one
pub written_other : (like : Code → Code → Type 0) (rel : Relation) (carries : IsCarrying like rel)
    (q : Program) (v : ExprName) (used : ExprName → Bool) (bs : List Named) →
    Every (λ b. same_name b.name v ≡ false) bs → AllOther q v (written like rel carries q bs used)
written_other like rel carries q v used [] h = tt
written_other like rel carries q v used (b ∷ bs) h =
    by (in_clauses b.name (needed bs used) || used b.name)
    (written_other like rel carries q v used bs h.1)
  where
    by : (c : Bool) → AllOther q v (written like rel carries q bs used) →
        AllOther q v (written_before like rel carries q b c (written like rel carries q bs used))
    by true more = (h.0, more)
    by false more = more

-- the values of rows, each with what a variable holds
unless_made : {A B : Type 0} (h : A → B) (c : Option ℕ) (mixed : Code) (xs : List A) (ys : List B)
    (k : ℕ) → ys ≡ map h xs →
    unless_mixed c mixed ys k ≡ and_then (unless_mixed c mixed xs k) (made h)
unless_made h None mixed xs ys k e = ap (λ l. Ends l k) e
unless_made h (Some c) mixed xs ys k e = refl

pub order_made : {A B : Type 0} (h : A → B) (mixed : Code) (ds : List Bool) (rows : List (Keyed A))
    (k : ℕ) → ordered mixed ds (map (rekeyed h) rows) k ≡ and_then (ordered mixed ds rows k) (made h)
order_made h mixed ds rows k =
    ap (λ l. unless_mixed (mixed_column ds l) mixed (in_order ds (map (rekeyed h) rows)) k)
    (map-map (λ row. row.cells) (rekeyed h) rows)
    ∙ unless_made h (mixed_column ds (map (λ row. row.cells) rows)) mixed (in_order ds rows)
    (in_order ds (map (rekeyed h) rows)) k (in_order_map h ds rows)
