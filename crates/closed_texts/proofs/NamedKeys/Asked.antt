-- What each form of expression uses is asked for, where what its parts use is.
use Rattle.std.proofs.Common.{◌≡◌, ℕ, List, [], ◌∷◌, ◌++◌, map, length, Bool, true, false, cond}
use Rattle.std.proofs.Common.{Some, None, refl, sym, ap, subst, ◌∙◌}
use Rattle.std.proofs.lemmas.List.Folds.{list_all-append}
use Rattle.std.specs.List.{list_all}
use Rattle.xt_names.specs.declared.names.ExprName.{ExprName}
use Rattle.xt_syntax.specs.declared.exprs.Expr.{Expr}
use Rattle.xt_syntax.specs.declared.exprs.Expr.TheVariants as expr
use Rattle.xt_syntax.specs.declared.exprs.Expr.TheVariants.{rolls-Str, rolls-Var, rolls-Call}
use Rattle.xt_syntax.specs.declared.exprs.Arm.{Arm}
use Rattle.xt_syntax.specs.declared.exprs.Bind.{Bind}
use Rattle.xt_syntax.specs.declared.exprs.Clause.{Clause}
use Rattle.xt_syntax.specs.declared.exprs.Clause.TheVariants.{rolls-For}
use Rattle.xt_syntax.specs.declared.exprs.Flwor.{Flwor as FlworOf}
use Rattle.xt_syntax.specs.declared.exprs.Clause.TheOpen.{Int, Str, Var, Context, Root, Comma}
use Rattle.xt_syntax.specs.declared.exprs.Clause.TheOpen.{Or, And}
use Rattle.xt_syntax.specs.declared.exprs.Clause.TheOpen.{If, Flwor, Quant, General, Value, Is}
use Rattle.xt_syntax.specs.declared.exprs.Clause.TheOpen.{Before}
use Rattle.xt_syntax.specs.declared.exprs.Clause.TheOpen.{After, Range, Arith, Minus, Plus, Union}
use Rattle.xt_syntax.specs.declared.exprs.Clause.TheOpen.{Intersect, Except, InstanceOf, Treat}
use Rattle.xt_syntax.specs.declared.exprs.Clause.TheOpen.{Castable, Cast, Slash, Step, Filter, Call}
use Rattle.xt_syntax.specs.declared.exprs.Clause.TheOpen.{For}
use Rattle.xt_syntax.specs.declared.exprs.Clause.TheViews.{roll-Expr, out-Arm, out-Bind}
use Rattle.name_rules.specs.Scopes.{has_name, with_names}
use Rattle.sheet_uses.specs.declared.uses.Use.{Use}
use Rattle.sheet_uses.specs.declared.uses.Use.TheVariants as use_of
use Rattle.sheet_uses.specs.Exprs as uses
use Rattle.sheet_uses.specs.Exprs.{Finds, Found, Binder, all_in, all_found, two, binders_in}
use Rattle.sheet_uses.specs.Exprs.{first_literal, variable_in, expr_uses, arm_uses, clause_binder}
use Rattle.sheet_uses.specs.Exprs.{bind_binder, flwor_uses}
use Rattle.xpath_laws.proofs.XpathForms.Rolled.{Exprs, expr_at, expr_rolled, clause_rolled, flwor_rolled}
use Rattle.xpath_laws.proofs.XpathForms.Rolled.{arm_outs, bind_outs}
use Rattle.xpath_laws.proofs.XpathForms.Fits.{Property, PartsHold, AllHold, ArmsHold, BindsHold, ForHolds}
use Rattle.xpath_laws.proofs.XpathForms.Fits.{ForsHold, FlworHolds, returned}

abbrev uses_at : Exprs → Found
uses_at x = expr_at uses.uses uses.use_steps x

uses_rolled : (x : Exprs) → expr_uses (roll-Expr x) ≡ uses_at x
uses_rolled x = expr_rolled uses.uses uses.use_steps x

-- the text of a literal
pub literal_uses : (t : List ℕ) → (expr_uses (expr.Str t)).literal ≡ Some t
literal_uses t =
    subst (λ e. (expr_uses e).literal ≡ Some t) (rolls-Str t)
    (ap (λ (u : Found). u.literal) (uses_rolled (Str t)))

module _ (asked : Use → Bool) where
  -- what is found is asked for
  abbrev pub Stand : Finds → Type 0
  Stand f = (scope : List ExprName) (found : List Use) → list_all asked found ≡ true
      → list_all asked (f scope found) ≡ true

  abbrev pub Stands : Expr → Type 0
  Stands e = Stand (expr_uses e).finds

  both_stand : (f g : Finds) → Stand f → Stand g → Stand (two f g)
  both_stand f g s t scope found h = t scope (f scope found) (s scope found h)

  all_stand : (es : List Expr) → AllHold Stands es → Stand (all_found (map expr_uses es))
  all_stand [] f scope found h = h
  all_stand (e ∷ es) f scope found h =
      all_stand es f.1 scope ((expr_uses e).finds scope found) (f.0 scope found h)

  arms_stand : (xs : List Arm) → ArmsHold Stands xs → Stand (all_in (map arm_uses xs))
  arms_stand [] f scope found h = h
  arms_stand (a ∷ xs) f scope found h =
      let one : Stand (arm_uses a) =
      subst Stand (sym (arm_outs uses.uses uses.use_steps a))
      (both_stand (expr_uses (out-Arm a).test).finds (expr_uses (out-Arm a).then).finds f.0.0
      f.0.1) in
      arms_stand xs f.1 scope (arm_uses a scope found) (one scope found h)

  bind_stands : (b : Bind) → Stands (out-Bind b).source → Stand (bind_binder b).source
  bind_stands b f =
      subst (λ (x : Binder). Stand x.source) (sym (bind_outs uses.uses uses.use_steps b)) f

  binds_stand : (bs : List Bind) → BindsHold Stands bs → Stand (binders_in (map bind_binder bs))
  binds_stand [] f scope found h = h
  binds_stand (b ∷ bs) f scope found h =
      binds_stand bs f.1 (with_names scope (bind_binder b).names)
      ((bind_binder b).source scope found) (bind_stands b f.0 scope found h)

  for_stands : (c : Clause) → ForHolds Stands c → Stand (clause_binder c).source
  for_stands c f =
      let rolled : clause_binder c ≡ bind_binder f.bind =
      ap clause_binder (f.is ∙ sym (rolls-For f.bind None))
      ∙ clause_rolled uses.uses uses.use_steps (For f.bind None) in
      subst (λ (x : Binder). Stand x.source) (sym rolled) (bind_stands f.bind f.holds)

  fors_stand : (cs : List Clause) → ForsHold Stands cs
      → Stand (binders_in (map clause_binder cs))
  fors_stand [] f scope found h = h
  fors_stand (c ∷ cs) f scope found h =
      fors_stand cs f.1 (with_names scope (clause_binder c).names)
      ((clause_binder c).source scope found) (for_stands c f.0 scope found h)

  flwor_stands : (x : FlworOf) → FlworHolds Stands x → Stand (flwor_uses x)
  flwor_stands x f =
      let rolled : flwor_uses x ≡ uses.use_steps.of_flwor (record {
        clauses = map clause_binder f.clauses;
        test = None;
        orders = [];
        stable = false;
        body = expr_uses f.body;
      }) = ap flwor_uses f.is ∙ flwor_rolled uses.uses uses.use_steps (returned f.clauses f.body) in
      subst Stand (sym rolled)
      (λ scope found h. f.of_body (uses.behind (map clause_binder f.clauses) scope)
      (binders_in (map clause_binder f.clauses) scope found)
      (fors_stand f.clauses f.of_clauses scope found h))

  pair_stands : (a b : Expr) → Stands a × Stands b
      → Stand (two (expr_uses a).finds (expr_uses b).finds)
  pair_stands a b f = both_stand (expr_uses a).finds (expr_uses b).finds f.0 f.1

  parts_stand : (x : Exprs) → PartsHold Stands x → Stand (uses_at x).finds
  parts_stand (Int n) f = λ scope found h. h
  parts_stand (Str t) f = λ scope found h. h
  parts_stand Context f = λ scope found h. h
  parts_stand Root f = λ scope found h. h
  parts_stand (Comma es) f = all_stand es f
  parts_stand (Or es) f = all_stand es f
  parts_stand (And es) f = all_stand es f
  parts_stand (If xs e) f =
      both_stand (all_in (map arm_uses xs)) (expr_uses e).finds (arms_stand xs f.0) f.1
  parts_stand (Flwor x) f = flwor_stands x f
  parts_stand (Quant q bs e) f = λ scope found h.
      f.1 (uses.behind (map bind_binder bs) scope) (binders_in (map bind_binder bs) scope found)
      (binds_stand bs f.0 scope found h)
  parts_stand (General op a b) f = pair_stands a b f
  parts_stand (Value op a b) f = pair_stands a b f
  parts_stand (Is a b) f = pair_stands a b f
  parts_stand (Before a b) f = pair_stands a b f
  parts_stand (After a b) f = pair_stands a b f
  parts_stand (Range a b) f = pair_stands a b f
  parts_stand (Arith op a b) f = pair_stands a b f
  parts_stand (Minus a) f = f
  parts_stand (Plus a) f = f
  parts_stand (Union a b) f = pair_stands a b f
  parts_stand (Intersect a b) f = pair_stands a b f
  parts_stand (Except a b) f = pair_stands a b f
  parts_stand (InstanceOf a k) f = f
  parts_stand (Treat a k) f = f
  parts_stand (Castable a k b) f = f
  parts_stand (Cast a k b) f = f
  parts_stand (Slash a b) f = pair_stands a b f
  parts_stand (Step on t es) f = all_stand es f
  parts_stand (Filter e es) f =
      both_stand (expr_uses e).finds (all_found (map expr_uses es)) f.0 (all_stand es f.1)
  parts_stand _ f = absurd f

  pub form_stands : (x : Exprs) → PartsHold Stands x → Stands (roll-Expr x)
  form_stands x f =
      subst (λ (u : Found). Stand u.finds) (sym (uses_rolled x)) (parts_stand x f)

  abbrev pub standing : Property
  standing = record { Holds = Stands; of_form = form_stands }

  one_more : (u : Use) (found : List Use) → asked u ≡ true → list_all asked found ≡ true
      → list_all asked (found ++ u ∷ []) ≡ true
  one_more u found a h = list_all-append asked found (u ∷ []) ∙ rw (h, a) refl

  pub variable_stands : (name : ExprName) → asked (use_of.Variable name) ≡ true
      → Stands (expr.Var name)
  unfolding variable_in
  variable_stands name a =
      let rolled : expr_uses (expr.Var name) ≡ uses_at (Var name) =
      ap expr_uses (sym (rolls-Var name)) ∙ uses_rolled (Var name) in
      subst (λ (u : Found). Stand u.finds) (sym rolled) found_in
    where
      found_in : Stand (variable_in name)
      found_in scope found h = go (has_name scope name)
        where
          go : (b : Bool)
              → list_all asked (cond b found (found ++ use_of.Variable name ∷ [])) ≡ true
          go true = h
          go false = one_more (use_of.Variable name) found a h

  pub call_stands : (name : ExprName) (es : List Expr) → AllHold Stands es
      → asked (use_of.Call name (length (map expr_uses es)) (first_literal (map expr_uses es)))
      ≡ true
      → Stands (expr.Call name es)
  call_stands name es f a =
      let call = use_of.Call name (length (map expr_uses es)) (first_literal (map expr_uses es)) in
      let rolled : expr_uses (expr.Call name es) ≡ uses_at (Call name es) =
      ap expr_uses (sym (rolls-Call name es)) ∙ uses_rolled (Call name es) in
      subst (λ (u : Found). Stand u.finds) (sym rolled)
      (λ scope found h. all_stand es f scope (found ++ call ∷ []) (one_more call found a h))
