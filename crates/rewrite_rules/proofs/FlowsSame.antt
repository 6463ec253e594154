-- FLWOR expressions: by their parts, with boolean() left out of `where`, and with a `let` in place of a
-- `for` over one literal.
use Rattle.std.proofs.Common.{◌≡◌, ℕ, List, [], ◌∷◌, refl, sym, ap, ap₂, ◌∙◌, map, subst}
use Rattle.std.specs.Prelude.{Bool, true, false, if◌then◌else◌, Option, Some, None}
use mathlib.Core.Path.{fun_ext}
use Rattle.xt_names.specs.declared.names.ExprName.{ExprName}
use Rattle.xt_types.specs.declared.types.SeqType.{SeqType}
use Rattle.xt_atoms.specs.declared.atoms.Atom.TheVariants as atom
use Rattle.xdm_items.specs.declared.items.Item.{Item}
use Rattle.xdm_items.specs.declared.items.Item.TheVariants.{Atom}
use Rattle.xt_syntax.specs.declared.exprs.Expr.{Expr}
use Rattle.xt_syntax.specs.declared.exprs.Clause.{Clause}
use Rattle.xt_syntax.specs.declared.exprs.Order.{Order}
use Rattle.xt_syntax.specs.declared.exprs.Bind.{Bind}
use Rattle.xt_syntax.specs.declared.exprs.Clause.TheOpen.{Int, Str, Flwor, For, Let}
use Rattle.xt_syntax.specs.declared.exprs.Clause.TheViews.{out-Expr, roll-Expr, roll-out-Expr}
use Rattle.xt_syntax.specs.declared.exprs.Clause.TheViews.{out-Bind, roll-out-Bind}
use Rattle.xt_syntax.specs.declared.exprs.Clause.TheViews.{out-Clause, roll-Clause, roll-out-Clause}
use Rattle.xt_syntax.specs.declared.exprs.Clause.TheViews.{roll-Flwor}
use Rattle.xt_syntax.specs.Layers.{clause_gives, bind_gives, order_gives}
use Rattle.expr_meaning.specs.Outcomes.Outcome.{Ends, and_then}
use Rattle.expr_meaning.specs.Env.{Env, Meaning, Program, bind_all}
use Rattle.expr_meaning.specs.Meaning.{meanings, steps, outcome}
use Rattle.expr_meaning.specs.Logic.{Bound}
use Rattle.expr_meaning.specs.Flow.{ClauseMeaning, OrderMeaning, flwor_of, keyed}
use Rattle.expr_meaning.specs.Flow.{for_clause, let_clause, flow_of, finished}
use Rattle.expr_laws.proofs.Rolled.{rolled, rolled_flwor, rolled_bind, rolled_clause}
use Rattle.rewrite_rules.specs.Forms.{ExprForm, ClauseForm, FlworForm}
use Rattle.rewrite_rules.specs.Law.{Same}
use Rattle.rewrite_rules.specs.Loops.{is_literal_form, is_literal, is_untyped, is_single_bind}
use Rattle.rewrite_rules.specs.Loops.{is_single_form, is_single, let_of, as_let}
use Rattle.rewrite_rules.specs.Tests.{bare}
use Rattle.rewrite_rules.proofs.Outcomes.{then_none}
use Rattle.rewrite_rules.proofs.TestsSame.{where_bare}

abbrev pub flow_form : List Clause → Option Expr → List Order → Bool → Expr → FlworForm
flow_form clauses test orders stable body = record {
  clauses = clauses;
  test = test;
  orders = orders;
  stable = stable;
  body = body;
}

abbrev pub flow_expr : FlworForm → Expr
flow_expr f = roll-Expr (Flwor (roll-Flwor f))

module _ (p : Program) where
  abbrev pub clause_meaning : Clause → ClauseMeaning
  clause_meaning = clause_gives meanings (steps p)

  abbrev pub bind_meaning : Bind → Bound
  bind_meaning = bind_gives meanings (steps p)

  abbrev pub order_meaning : Order → OrderMeaning
  order_meaning = order_gives meanings (steps p)

  abbrev pub test_meaning : Option Expr → Option Meaning
  test_meaning None = None
  test_meaning (Some e) = Some (outcome p e)

  -- by its parts
  pub flow_means : (cs : List Clause) (test : Option Expr) (os : List Order) (s : Bool) (body : Expr) →
      outcome p (flow_expr (flow_form cs test os s body))
      ≡ flwor_of (map clause_meaning cs) (test_meaning test) (map order_meaning os) (outcome p body)
  flow_means cs None os s body =
      rolled p (Flwor (roll-Flwor (flow_form cs None os s body)))
      ∙ rolled_flwor p (flow_form cs None os s body)
  flow_means cs (Some e) os s body =
      rolled p (Flwor (roll-Flwor (flow_form cs (Some e) os s body)))
      ∙ rolled_flwor p (flow_form cs (Some e) os s body)

  pub bind_means : (b : Bind) → bind_meaning b
      ≡ record { var = (out-Bind b).var; kind = (out-Bind b).kind; source = outcome p (out-Bind b).source }
  bind_means b = ap bind_meaning (sym (roll-out-Bind b)) ∙ rolled_bind p (out-Bind b)

  -- a literal gives one item
  literal_form : (x : ExprForm) → is_literal_form x ≡ true →
      (i : Item) × ((env : Env) (k : ℕ) → outcome p (roll-Expr x) env k ≡ Ends (i ∷ []) k)
  literal_form (Int n) h = (Atom (atom.Int n), λ env k. ap (λ m. m env k) (rolled p (Int n)))
  literal_form (Str t) h = (Atom (atom.Str t), λ env k. ap (λ m. m env k) (rolled p (Str t)))
  literal_form x h = absurd cc

  pub literal_one : (e : Expr) → is_literal e ≡ true →
      (i : Item) × ((env : Env) (k : ℕ) → outcome p e env k ≡ Ends (i ∷ []) k)
  literal_one e h =
      subst (λ z. (i : Item) × ((env : Env) (k : ℕ) → outcome p z env k ≡ Ends (i ∷ []) k))
      (roll-out-Expr e) (literal_form (out-Expr e) h)

-- a `for` over one item is a `let`
one_item : (b : Bound) → b.kind ≡ None → (i : Item) →
    ((env : Env) (k : ℕ) → b.source env k ≡ Ends (i ∷ []) k) → for_clause b ≡ let_clause b
one_item b n i h = fun_ext (λ rest. fun_ext (λ bound. fun_ext (λ env. fun_ext (λ k.
    rw (h (bind_all bound env) k, n) (then_none (rest ((b.var, i ∷ []) ∷ bound) env k))))))

module _ (p : Program) where
  single_bind : (v : ExprName) (kind : Option SeqType) (e : Expr) → is_untyped kind e ≡ true →
      for_clause (record { var = v; kind = kind; source = outcome p e })
      ≡ let_clause (record { var = v; kind = kind; source = outcome p e })
  single_bind v None e h =
      one_item (record { var = v; kind = None; source = outcome p e }) refl
      (literal_one p e h).0 (literal_one p e h).1
  single_bind v (Some kind) e h = absurd cc

  single_means : (b : Bind) → is_single_bind b ≡ true →
      for_clause (bind_meaning p b) ≡ let_clause (bind_meaning p b)
  single_means b h =
      subst (λ m. for_clause m ≡ let_clause m) (sym (bind_means p b))
      (single_bind (out-Bind b).var (out-Bind b).kind (out-Bind b).source h)

  let_form : (c : Clause) (x : ClauseForm) → roll-Clause x ≡ c → is_single_form x ≡ true →
      clause_meaning p (let_of c x) ≡ clause_meaning p c
  let_form c (For b None) h s =
      rolled_clause p (Let b) ∙ sym (single_means b s) ∙ sym (rolled_clause p (For b None))
      ∙ ap (clause_meaning p) h
  let_form c (For b (Some place)) h s = absurd cc
  let_form c (Let b) h s = absurd cc

  as_let_same : (c : Clause) → clause_meaning p (as_let c) ≡ clause_meaning p c
  as_let_same c = by (is_single c) refl
    where
      by : (t : Bool) → is_single c ≡ t →
          clause_meaning p (if t then let_of c (out-Clause c) else c) ≡ clause_meaning p c
      by true h = let_form c (out-Clause c) (roll-out-Clause c) h
      by false h = refl

  as_lets_same : (cs : List Clause) → map (clause_meaning p) (map as_let cs) ≡ map (clause_meaning p) cs
  as_lets_same [] = refl
  as_lets_same (c ∷ cs) = ap₂ (λ a b. a ∷ b) (as_let_same c) (as_lets_same cs)

pub loops_same : (cs : List Clause) (test : Option Expr) (os : List Order) (s : Bool) (body : Expr) →
    Same (flow_expr (flow_form (map as_let cs) test os s body)) (flow_expr (flow_form cs test os s body))
loops_same cs test os s body p env k =
    ap (λ m. m env k) (flow_means p (map as_let cs) test os s body)
    ∙ ap (λ ms. flwor_of ms (test_meaning p test) (map (order_meaning p) os) (outcome p body) env k)
    (as_lets_same p cs)
    ∙ sym (ap (λ m. m env k) (flow_means p cs test os s body))

-- boolean() as `where`
pub where_same : (cs : List Clause) (e : Expr) (os : List Order) (s : Bool) (body : Expr) →
    Same (flow_expr (flow_form cs (Some (bare e)) os s body)) (flow_expr (flow_form cs (Some e) os s body))
where_same cs e os s body p env k =
    ap (λ m. m env k) (flow_means p cs (Some (bare e)) os s body)
    ∙ ap (λ w. and_then (flow_of (map (clause_meaning p) cs) (w (keyed (map (order_meaning p) os))) [] env k)
    (finished (map (order_meaning p) os) (outcome p body) env)) (where_bare p e)
    ∙ sym (ap (λ m. m env k) (flow_means p cs (Some e) os s body))
