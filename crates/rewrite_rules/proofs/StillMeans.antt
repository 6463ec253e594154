-- A still expression ends with one list, wherever the names that are local are bound.
use Rattle.std.proofs.Common.{◌≡◌, ℕ, List, [], ◌∷◌, ◌++◌, refl, sym, ap, ◌∙◌, subst, map, length}
use Rattle.std.specs.Prelude.{Bool, true, false, ◌||◌, Some}
use Rattle.xt_names.specs.declared.names.ExprName.{ExprName}
use Rattle.xt_atoms.specs.declared.atoms.Atom.TheVariants as atom
use Rattle.xdm_items.specs.declared.items.Item.{Item}
use Rattle.xdm_items.specs.declared.items.Item.TheVariants.{Atom}
use Rattle.function_table.specs.declared.builtins.Builtin.{Builtin}
use Rattle.function_table.specs.declared.builtins.Builtin.TheVariants as function
use Rattle.xdm_items.specs.FunctionArguments.Answers.{of_truth}
use Rattle.item_functions.specs.SequenceFunctions.Cardinality.{has_item, has_no_item}
use Rattle.fn_lib.specs.Functions.{function_value, value_of}
use Rattle.item_functions.specs.OnSequences.{empty_of, exists_of}
use Rattle.xt_syntax.specs.declared.exprs.Expr.{Expr}
use Rattle.xt_syntax.specs.declared.exprs.Arm.{Arm}
use Rattle.xt_syntax.specs.declared.exprs.Clause.{Clause}
use Rattle.xt_syntax.specs.declared.exprs.Order.{Order}
use Rattle.xt_syntax.specs.declared.exprs.Flwor.{Flwor as FlworOf}
use Rattle.xt_syntax.specs.declared.exprs.Bind.{Bind}
use Rattle.xt_syntax.specs.declared.exprs.NameSource.{NameSource}
use Rattle.xt_syntax.specs.declared.exprs.DirectAttr.{DirectAttr}
use Rattle.xt_syntax.specs.declared.exprs.Part.{Part}
use Rattle.xt_syntax.specs.declared.exprs.Clause.TheOpen.{Int, Str, Var, Comma, Call}
use Rattle.xt_syntax.specs.declared.exprs.Clause.TheViews.{roll-Expr}
use Rattle.xt_syntax.specs.declared.exprs.Clause.TheFolds.{ind-Expr, map-Expr}
use Rattle.xt_syntax.specs.Layers.{Kinds, ExprLayer}
use Rattle.expr_meaning.specs.Outcomes.Outcome.{Ends, and_then, step_outcome}
use Rattle.expr_meaning.specs.Env.{Env, Meaning, Program, look_up, or_global}
use Rattle.expr_meaning.specs.Meaning.{outcome}
use Rattle.expr_meaning.specs.Values.{comma_of}
use Rattle.expr_meaning.specs.Calls.{Called, library}
use Rattle.expr_meaning.specs.Calls.{called, call_of}
use Rattle.expr_laws.proofs.Rolled.{rolled}
use Rattle.rewrite_rules.specs.Forms.{ExprForm}
use Rattle.rewrite_rules.specs.Law.{Binds}
use Rattle.rewrite_rules.specs.Lets.{is_one_of, truths, every_one, is_constant, is_count, still_call}
use Rattle.rewrite_rules.specs.Lets.{still_form, still_steps, is_still}
use Rattle.rewrite_rules.proofs.Folded.{expr_layer, expr_rolled}
use Rattle.rewrite_rules.proofs.KnownMeans.{call_one}
use Rattle.xt_names.proofs.BoolLemmas.{and_first, and_second}
use Rattle.xt_names.specs.ExprNames.{same_name}
use Rattle.xt_names.proofs.NameLemmas.{same_names}

-- a local name has a list
pub local_found : (names : List ExprName) (env : Env) → Binds names env → (n : ExprName) →
    is_one_of names n ≡ true → (xs : List Item) × (look_up env.locals n ≡ Some xs)
local_found [] env b n h = absurd cc
local_found (m ∷ names) env b n h = by (same_name m n) refl h (local_found names env b.1 n)
  where
    by : (t : Bool) → same_name m n ≡ t → (t || is_one_of names n) ≡ true →
        (is_one_of names n ≡ true → (xs : List Item) × (look_up env.locals n ≡ Some xs)) →
        (xs : List Item) × (look_up env.locals n ≡ Some xs)
    by true q g later =
        (b.0.0, subst (λ z. look_up env.locals z ≡ Some b.0.0) (same_names m n q) b.0.1)
    by false q g later = later g

module _ (p : Program) (names : List ExprName) (env : Env) (binds : Binds names env) where
  abbrev pub Ending : Meaning → Type 0
  Ending m = (xs : List Item) × ((k : ℕ) → m env k ≡ Ends xs k)

  abbrev Stays : Expr → Type 0
  Stays e = is_still names e ≡ true → Ending (outcome p e)

  abbrev known : Kinds
  known = record {
    Clauses = Clause × Unit {0};
    Exprs = (x : Expr) × Stays x;
    Names = NameSource × Unit {0};
    Parts = Part × Unit {0};
    Arms = Arm × Unit {0};
    Binds = Bind × Unit {0};
    Attrs = DirectAttr × Unit {0};
    Flwors = FlworOf × Unit {0};
    Orders = Order × Unit {0};
  }

  abbrev plain : ExprLayer known → ExprForm
  plain = map-Expr known.Clauses known.Exprs known.Names known.Parts known.Arms known.Binds known.Attrs known.Flwors known.Orders
      Clause Expr NameSource Part Arm Bind DirectAttr FlworOf Order
      (λ y. y.0) (λ y. y.0) (λ y. y.0) (λ y. y.0) (λ y. y.0) (λ y. y.0) (λ y. y.0) (λ y. y.0)
      (λ y. y.0)

  list_ends : (ys : List known.Exprs) →
      every_one (map (is_still names) (map (λ y. y.0) ys)) ≡ true →
      Ending (comma_of (map (outcome p) (map (λ y. y.0) ys)))
  list_ends [] h = ([], λ k. refl)
  list_ends (y ∷ ys) h =
      let a = is_still names y.0 in let b = every_one (map (is_still names) (map (λ y. y.0) ys)) in
      let one : Ending (outcome p y.0) = y.1 (and_first a b h) in
      let more : Ending (comma_of (map (outcome p) (map (λ y. y.0) ys))) = list_ends ys (and_second a b h) in (
        one.0 ++ more.0,
        λ k.
            ap (λ o. and_then o (λ zs j. and_then (comma_of (map (outcome p) (map (λ y. y.0) ys)) env j)
            (λ us i. Ends (zs ++ us) i))) (one.1 k)
            ∙ ap (λ o. and_then o (λ us i. Ends (one.0 ++ us) i)) (more.1 k),
      )

  constant_ends : (name : ExprName) (f : Builtin) → called name 0 ≡ library f → is_constant f ≡ true →
      Ending (call_of p name [])
  unfolding function_value value_of
  constant_ends name function.True h t = (of_truth true, λ k. rw h refl)
  constant_ends name function.False h t = (of_truth false, λ k. rw h refl)
  constant_ends name f h t = absurd cc

  count_ends : (name : ExprName) (f : Builtin) (m : Meaning) (b : Bool) → called name 1 ≡ library f →
      (b ≡ true → Ending m) → is_count f b ≡ true → Ending (call_of p name (m ∷ []))
  unfolding function_value value_of empty_of exists_of
  count_ends name function.Empty m b h g t =
      (of_truth (has_no_item (g t).0), λ k. call_one p name m env k ∙ rw (h, (g t).1 k) refl)
  count_ends name function.Exists m b h g t =
      (of_truth (has_item (g t).0), λ k. call_one p name m env k ∙ rw (h, (g t).1 k) refl)
  count_ends name f m b h g t = absurd cc

  call_none : (name : ExprName) (d : Called) → called name 0 ≡ d → still_call d [] ≡ true →
      Ending (call_of p name [])
  call_none name (library f) h t = constant_ends name f h t
  call_none name d h t = absurd cc

  call_single : (name : ExprName) (d : Called) (m : Meaning) (b : Bool) → called name 1 ≡ d →
      (b ≡ true → Ending m) → still_call d (b ∷ []) ≡ true → Ending (call_of p name (m ∷ []))
  call_single name (library f) m b h g t = count_ends name f m b h g t
  call_single name d m b h g t = absurd cc

  call_more : (d : Called) (a b : Bool) (more : List Bool) → still_call d (a ∷ b ∷ more) ≡ true → ⊥
  call_more (library f) a b more t = absurd cc
  call_more d a b more t = absurd cc

  call_ends : (name : ExprName) (ys : List known.Exprs) →
      still_form names (expr_layer truths (still_steps names) (plain (Call name ys))) ≡ true →
      Ending (call_of p name (map (outcome p) (map (λ y. y.0) ys)))
  call_ends name [] h = call_none name (called name 0) refl h
  call_ends name (y ∷ []) h =
      call_single name (called name 1) (outcome p y.0) (is_still names y.0) refl y.1 h
  call_ends name (y ∷ z ∷ ys) h =
      absurd (call_more (called name (length (map (is_still names) (map (λ y. y.0) (y ∷ z ∷ ys)))))
      (is_still names y.0) (is_still names z.0) (map (is_still names) (map (λ y. y.0) ys)) h)

  form_ends : (y : ExprLayer known) →
      still_form names (expr_layer truths (still_steps names) (plain y)) ≡ true →
      Ending (outcome p (roll-Expr (plain y)))
  form_ends (Int n) h = (Atom (atom.Int n) ∷ [], λ k. ap (λ g. g env k) (rolled p (Int n)))
  form_ends (Str t) h = (Atom (atom.Str t) ∷ [], λ k. ap (λ g. g env k) (rolled p (Str t)))
  form_ends (Var n) h =
      let q = local_found names env binds n h in (
        q.0,
        λ k. ap (λ g. g env k) (rolled p (Var n))
            ∙ ap (λ o. step_outcome (or_global o (look_up p.globals n)) k) q.1,
      )
  form_ends (Comma ys) h =
      let q : Ending (comma_of (map (outcome p) (map (λ y. y.0) ys))) = list_ends ys h in
      (q.0, λ k. ap (λ g. g env k) (rolled p (Comma (map (λ y. y.0) ys))) ∙ q.1 k)
  form_ends (Call name ys) h =
      let q : Ending (call_of p name (map (outcome p) (map (λ y. y.0) ys))) = call_ends name ys h in
      (q.0, λ k. ap (λ g. g env k) (rolled p (Call name (map (λ y. y.0) ys))) ∙ q.1 k)
  form_ends y h = absurd cc

  expr_step : (x : ExprForm) (y : ExprLayer known) → plain y ≡ x → Stays (roll-Expr x)
  expr_step x y is h =
      subst (λ z. Ending (outcome p (roll-Expr z))) is
      (form_ends y (sym (expr_rolled truths (still_steps names) (plain y))
      ∙ ap (λ z. is_still names (roll-Expr z)) is ∙ h))

  pub still_ends : (e : Expr) → is_still names e ≡ true → Ending (outcome p e)
  still_ends = ind-Expr (λ x. Unit {0}) Stays (λ x. Unit {0}) (λ x. Unit {0}) (λ x. Unit {0})
      (λ x. Unit {0}) (λ x. Unit {0}) (λ x. Unit {0}) (λ x. Unit {0})
      (λ x y is. tt) expr_step (λ x y is. tt) (λ x y is. tt) (λ x y is. tt) (λ x y is. tt) (λ x y is. tt)
      (λ x y is. tt) (λ x y is. tt)
