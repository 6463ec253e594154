-- What makes each form of expression one of XPath, nest no deeper than a number, and use only what is
-- asked for: what makes its parts so.
use Rattle.std.proofs.Common.{◌≡◌, ℕ, ◌+◌, ◌≤◌, max, ℤ, List, [], ◌∷◌, map}
use Rattle.std.proofs.Common.{Bool, true, false, ◌&&◌, None, refl, sym}
use Rattle.std.proofs.Common.{ap, subst, ◌∙◌, arith}
use Rattle.std.proofs.lemmas.Bool.{and_from}
use Rattle.xt_names.specs.declared.names.ExprName.{ExprName}
use Rattle.xt_names.specs.declared.kinds.AtomType.{AtomType}
use Rattle.xt_names.specs.declared.kinds.CompareOp.{CompareOp}
use Rattle.xt_names.specs.declared.kinds.ArithOp.{ArithOp}
use Rattle.xt_types.specs.declared.axes.Axis.{Axis}
use Rattle.xt_types.specs.declared.node_tests.Test.{Test}
use Rattle.xt_types.specs.declared.types.SeqType.{SeqType}
use Rattle.xt_forms.specs.Regular.{every}
use Rattle.xt_forms.specs.Nest.{nests, nest_steps}
use Rattle.xt_forms.specs.Nest.{nest_of, arm_nest_of, clause_nest_of, bind_nest_of}
use Rattle.xt_forms.specs.Nest.{flwor_nest_of}
use Rattle.xt_syntax.specs.declared.exprs.Expr.{Expr}
use Rattle.xt_syntax.specs.declared.exprs.Expr.TheVariants as expr
use Rattle.xt_syntax.specs.declared.exprs.Expr.TheVariants.{rolls-Int, rolls-Str, rolls-Var}
use Rattle.xt_syntax.specs.declared.exprs.Expr.TheVariants.{rolls-Context, rolls-Root, rolls-Comma}
use Rattle.xt_syntax.specs.declared.exprs.Expr.TheVariants.{rolls-Or, rolls-And, rolls-If}
use Rattle.xt_syntax.specs.declared.exprs.Expr.TheVariants.{rolls-Flwor, rolls-Quant, rolls-General}
use Rattle.xt_syntax.specs.declared.exprs.Expr.TheVariants.{rolls-Value, rolls-Is, rolls-Before}
use Rattle.xt_syntax.specs.declared.exprs.Expr.TheVariants.{rolls-After, rolls-Range, rolls-Arith}
use Rattle.xt_syntax.specs.declared.exprs.Expr.TheVariants.{rolls-Minus, rolls-Plus, rolls-Union}
use Rattle.xt_syntax.specs.declared.exprs.Expr.TheVariants.{rolls-Intersect, rolls-Except}
use Rattle.xt_syntax.specs.declared.exprs.Expr.TheVariants.{rolls-InstanceOf, rolls-Treat, rolls-Cast}
use Rattle.xt_syntax.specs.declared.exprs.Expr.TheVariants.{rolls-Castable, rolls-Slash, rolls-Step}
use Rattle.xt_syntax.specs.declared.exprs.Expr.TheVariants.{rolls-Filter, rolls-Call}
use Rattle.xt_syntax.specs.declared.exprs.Clause.{Clause}
use Rattle.xt_syntax.specs.declared.exprs.Arm.{Arm}
use Rattle.xt_syntax.specs.declared.exprs.Bind.{Bind}
use Rattle.xt_syntax.specs.declared.exprs.Flwor.{Flwor as FlworOf}
use Rattle.xt_syntax.specs.declared.exprs.Clause.TheVariants as clause
use Rattle.xt_syntax.specs.declared.exprs.Clause.TheVariants.{rolls-For}
use Rattle.xt_syntax.specs.declared.exprs.Clause.TheOpen.{Int, Str, Var, Context, Root, Comma, Or, And}
use Rattle.xt_syntax.specs.declared.exprs.Clause.TheOpen.{If, Flwor, Quant, General, Value, Is, Before}
use Rattle.xt_syntax.specs.declared.exprs.Clause.TheOpen.{After, Range, Arith, Minus, Plus, Union}
use Rattle.xt_syntax.specs.declared.exprs.Clause.TheOpen.{Intersect, Except, InstanceOf, Treat}
use Rattle.xt_syntax.specs.declared.exprs.Clause.TheOpen.{Castable, Cast, Slash, Step, Filter, Call}
use Rattle.xt_syntax.specs.declared.exprs.Clause.TheOpen.{For}
use Rattle.xt_syntax.specs.declared.exprs.Clause.TheViews.{roll-Expr, roll-Flwor, out-Arm}
use Rattle.xt_syntax.specs.declared.exprs.Clause.TheViews.{out-Bind}
use Rattle.closed_sheets.specs.Forms as form
use Rattle.xpath_laws.proofs.XpathForms.Rolled.{Exprs, Flwors, expr_at, expr_rolled, clause_rolled}
use Rattle.xpath_laws.proofs.XpathForms.Rolled.{flwor_at, flwor_rolled, arm_outs, bind_outs}
use Rattle.xt_names.specs.Lists.{greatest}

abbrev nest_at : Exprs → ℕ
nest_at x = expr_at nests nest_steps x

abbrev form_at : Exprs → Bool
form_at x = expr_at form.forms form.form_steps x

-- a FLWOR of XPath
abbrev pub returned : List Clause → Expr → Flwors
returned cs e = record { clauses = cs; test = None; orders = []; stable = false; body = e }

-- what holds of the parts of a form; of a variable, a call and a constructor it is told otherwise
abbrev pub AllHold : (Expr → Type 0) → List Expr → Type 0
AllHold H [] = Unit {0}
AllHold H (e ∷ es) = H e × AllHold H es

abbrev pub ArmsHold : (Expr → Type 0) → List Arm → Type 0
ArmsHold H [] = Unit {0}
ArmsHold H (a ∷ xs) = (H (out-Arm a).test × H (out-Arm a).then) × ArmsHold H xs

abbrev pub BindsHold : (Expr → Type 0) → List Bind → Type 0
BindsHold H [] = Unit {0}
BindsHold H (b ∷ bs) = H (out-Bind b).source × BindsHold H bs

pub record ForHolds (H : Expr → Type 0) (c : Clause) : Type 0 where
  pub bind : Bind
  pub is : c ≡ clause.For bind None
  pub holds : H (out-Bind bind).source

abbrev pub ForsHold : (Expr → Type 0) → List Clause → Type 0
ForsHold H [] = Unit {0}
ForsHold H (c ∷ cs) = ForHolds H c × ForsHold H cs

pub record FlworHolds (H : Expr → Type 0) (f : FlworOf) : Type 0 where
  pub clauses : List Clause
  pub body : Expr
  pub is : f ≡ roll-Flwor (returned clauses body)
  pub of_clauses : ForsHold H clauses
  pub of_body : H body

abbrev pub PartsHold : (Expr → Type 0) → Exprs → Type 0
PartsHold H (Int n) = Unit {0}
PartsHold H (Str t) = Unit {0}
PartsHold H Context = Unit {0}
PartsHold H Root = Unit {0}
PartsHold H (Comma all) = AllHold H all
PartsHold H (Or all) = AllHold H all
PartsHold H (And all) = AllHold H all
PartsHold H (If arms other) = ArmsHold H arms × H other
PartsHold H (Flwor parts) = FlworHolds H parts
PartsHold H (Quant every_one binds test) = BindsHold H binds × H test
PartsHold H (General op a b) = H a × H b
PartsHold H (Value op a b) = H a × H b
PartsHold H (Is a b) = H a × H b
PartsHold H (Before a b) = H a × H b
PartsHold H (After a b) = H a × H b
PartsHold H (Range a b) = H a × H b
PartsHold H (Arith op a b) = H a × H b
PartsHold H (Minus a) = H a
PartsHold H (Plus a) = H a
PartsHold H (Union a b) = H a × H b
PartsHold H (Intersect a b) = H a × H b
PartsHold H (Except a b) = H a × H b
PartsHold H (InstanceOf a kind) = H a
PartsHold H (Treat a kind) = H a
PartsHold H (Castable a kind empty) = H a
PartsHold H (Cast a kind empty) = H a
PartsHold H (Slash a b) = H a × H b
PartsHold H (Step on wanted tests) = AllHold H tests
PartsHold H (Filter of tests) = H of × AllHold H tests
PartsHold H _ = ⊥

-- what holds of a form where it holds of its parts
pub record Property : Type 1 where
  pub Holds : Expr → Type 0
  pub of_form : (x : Exprs) → PartsHold Holds x → Holds (roll-Expr x)

module _ (asked : Property) where
  pub record Fit (n : ℕ) (e : Expr) : Type 0 where
    pub some : 1 ≤ n
    pub nests : nest_of e ≤ n
    pub forms : form.has_xpath_forms e ≡ true
    pub holds : asked.Holds e

  pub fit_more : (n m : ℕ) (e : Expr) → n ≤ m → Fit n e → Fit m e
  fit_more n m e h f =
      let g = f.nests in
      let i = f.some in
      record {
        some = omega (arith, i, h);
        nests = omega (arith, g, h);
        forms = f.forms;
        holds = f.holds;
      }

  abbrev pub AllFit : ℕ → List Expr → Type 0
  AllFit n [] = Unit {0}
  AllFit n (e ∷ es) = Fit n e × AllFit n es

  pub all_more : (n m : ℕ) (es : List Expr) → n ≤ m → AllFit n es → AllFit m es
  all_more n m [] h f = tt
  all_more n m (e ∷ es) h f = (fit_more n m e h f.0, all_more n m es h f.1)

  nests_of : (n : ℕ) (es : List Expr) → AllFit n es → greatest (map nest_of es) ≤ n
  nests_of n [] f = omega arith
  nests_of n (e ∷ es) f =
      let g = f.0.nests in let h = nests_of n es f.1 in omega (arith, g, h)

  forms_of : (n : ℕ) (es : List Expr) → AllFit n es
      → every (map form.has_xpath_forms es) ≡ true
  forms_of n [] f = refl
  forms_of n (e ∷ es) f = and_from (form.has_xpath_forms e) _ f.0.forms (forms_of n es f.1)

  pub holds_of : (n : ℕ) (es : List Expr) → AllFit n es → AllHold asked.Holds es
  holds_of n [] f = tt
  holds_of n (e ∷ es) f = (f.0.holds, holds_of n es f.1)

  rolled_with : (x : Exprs) (n : ℕ) → 1 ≤ n → nest_at x ≤ n → form_at x ≡ true
      → asked.Holds (roll-Expr x) → Fit n (roll-Expr x)
  rolled_with x n i h f s = record {
    some = i;
    nests = subst (λ k. k ≤ n) (sym (expr_rolled nests nest_steps x)) h;
    forms = expr_rolled form.forms form.form_steps x ∙ f;
    holds = s;
  }

  rolled : (x : Exprs) (n : ℕ) → 1 ≤ n → nest_at x ≤ n → form_at x ≡ true
      → PartsHold asked.Holds x → Fit n (roll-Expr x)
  rolled x n i h f s = rolled_with x n i h f (asked.of_form x s)

  -- leaves
  pub fit_int : (n : ℤ) → Fit 1 (expr.Int n)
  fit_int n = subst (Fit 1) (rolls-Int n) (rolled (Int n) 1 (omega arith) (omega arith) refl tt)

  pub fit_str : (t : List ℕ) → Fit 1 (expr.Str t)
  fit_str t = subst (Fit 1) (rolls-Str t) (rolled (Str t) 1 (omega arith) (omega arith) refl tt)

  pub fit_context : Fit 1 expr.Context
  fit_context = subst (Fit 1) rolls-Context (rolled Context 1 (omega arith) (omega arith) refl tt)

  pub fit_root : Fit 1 expr.Root
  fit_root = subst (Fit 1) rolls-Root (rolled Root 1 (omega arith) (omega arith) refl tt)

  pub fit_var : (name : ExprName) → asked.Holds (expr.Var name) → Fit 1 (expr.Var name)
  fit_var name a =
      subst (Fit 1) (rolls-Var name) (rolled_with (Var name) 1 (omega arith) (omega arith) refl
      (subst (λ e. asked.Holds e) (sym (rolls-Var name)) a))

  -- lists
  pub fit_comma : (n : ℕ) (es : List Expr) → AllFit n es → Fit (1 + n) (expr.Comma es)
  fit_comma n es f = let g = nests_of n es f in
      subst (Fit (1 + n)) (rolls-Comma es) (rolled (Comma es) (1 + n) (omega arith) (omega (arith, g))
      (forms_of n es f) (holds_of n es f))

  pub fit_or : (n : ℕ) (es : List Expr) → AllFit n es → Fit (1 + n) (expr.Or es)
  fit_or n es f = let g = nests_of n es f in
      subst (Fit (1 + n)) (rolls-Or es) (rolled (Or es) (1 + n) (omega arith) (omega (arith, g))
      (forms_of n es f) (holds_of n es f))

  pub fit_and : (n : ℕ) (es : List Expr) → AllFit n es → Fit (1 + n) (expr.And es)
  fit_and n es f = let g = nests_of n es f in
      subst (Fit (1 + n)) (rolls-And es) (rolled (And es) (1 + n) (omega arith) (omega (arith, g))
      (forms_of n es f) (holds_of n es f))

  -- two parts
  pair : (x : Exprs) (n : ℕ) (a b : Expr) → nest_at x ≡ 1 + max (nest_of a) (nest_of b)
      → form_at x ≡ (form.has_xpath_forms a && form.has_xpath_forms b)
      → PartsHold asked.Holds x → Fit n a → Fit n b → Fit (1 + n) (roll-Expr x)
  pair x n a b i j k f g =
      let v = f.nests in
      let w = g.nests in
      rolled x (1 + n) (omega arith) (omega (arith, i, v, w))
      (j ∙ and_from (form.has_xpath_forms a) _ f.forms g.forms) k

  pub fit_general : (n : ℕ) (op : CompareOp) (a b : Expr) → Fit n a → Fit n b
      → Fit (1 + n) (expr.General op a b)
  fit_general n op a b f g =
      subst (Fit (1 + n)) (rolls-General op a b) (pair (General op a b) n a b refl refl (f.holds, g.holds) f g)

  pub fit_value : (n : ℕ) (op : CompareOp) (a b : Expr) → Fit n a → Fit n b
      → Fit (1 + n) (expr.Value op a b)
  fit_value n op a b f g =
      subst (Fit (1 + n)) (rolls-Value op a b) (pair (Value op a b) n a b refl refl (f.holds, g.holds) f g)

  pub fit_is : (n : ℕ) (a b : Expr) → Fit n a → Fit n b → Fit (1 + n) (expr.Is a b)
  fit_is n a b f g =
      subst (Fit (1 + n)) (rolls-Is a b) (pair (Is a b) n a b refl refl (f.holds, g.holds) f g)

  pub fit_before : (n : ℕ) (a b : Expr) → Fit n a → Fit n b → Fit (1 + n) (expr.Before a b)
  fit_before n a b f g =
      subst (Fit (1 + n)) (rolls-Before a b) (pair (Before a b) n a b refl refl (f.holds, g.holds) f g)

  pub fit_after : (n : ℕ) (a b : Expr) → Fit n a → Fit n b → Fit (1 + n) (expr.After a b)
  fit_after n a b f g =
      subst (Fit (1 + n)) (rolls-After a b) (pair (After a b) n a b refl refl (f.holds, g.holds) f g)

  pub fit_range : (n : ℕ) (a b : Expr) → Fit n a → Fit n b → Fit (1 + n) (expr.Range a b)
  fit_range n a b f g =
      subst (Fit (1 + n)) (rolls-Range a b) (pair (Range a b) n a b refl refl (f.holds, g.holds) f g)

  pub fit_arith : (n : ℕ) (op : ArithOp) (a b : Expr) → Fit n a → Fit n b
      → Fit (1 + n) (expr.Arith op a b)
  fit_arith n op a b f g =
      subst (Fit (1 + n)) (rolls-Arith op a b) (pair (Arith op a b) n a b refl refl (f.holds, g.holds) f g)

  pub fit_union : (n : ℕ) (a b : Expr) → Fit n a → Fit n b → Fit (1 + n) (expr.Union a b)
  fit_union n a b f g =
      subst (Fit (1 + n)) (rolls-Union a b) (pair (Union a b) n a b refl refl (f.holds, g.holds) f g)

  pub fit_intersect : (n : ℕ) (a b : Expr) → Fit n a → Fit n b → Fit (1 + n) (expr.Intersect a b)
  fit_intersect n a b f g =
      subst (Fit (1 + n)) (rolls-Intersect a b) (pair (Intersect a b) n a b refl refl (f.holds, g.holds) f g)

  pub fit_except : (n : ℕ) (a b : Expr) → Fit n a → Fit n b → Fit (1 + n) (expr.Except a b)
  fit_except n a b f g =
      subst (Fit (1 + n)) (rolls-Except a b) (pair (Except a b) n a b refl refl (f.holds, g.holds) f g)

  pub fit_slash : (n : ℕ) (a b : Expr) → Fit n a → Fit n b → Fit (1 + n) (expr.Slash a b)
  fit_slash n a b f g =
      subst (Fit (1 + n)) (rolls-Slash a b) (pair (Slash a b) n a b refl refl (f.holds, g.holds) f g)

  -- one part
  single : (x : Exprs) (n : ℕ) (a : Expr) → nest_at x ≡ 1 + nest_of a
      → form_at x ≡ form.has_xpath_forms a → PartsHold asked.Holds x → Fit n a
      → Fit (1 + n) (roll-Expr x)
  single x n a i j k f =
      let v = f.nests in rolled x (1 + n) (omega arith) (omega (arith, i, v)) (j ∙ f.forms) k

  pub fit_minus : (n : ℕ) (a : Expr) → Fit n a → Fit (1 + n) (expr.Minus a)
  fit_minus n a f =
      subst (Fit (1 + n)) (rolls-Minus a) (single (Minus a) n a refl refl f.holds f)

  pub fit_plus : (n : ℕ) (a : Expr) → Fit n a → Fit (1 + n) (expr.Plus a)
  fit_plus n a f = subst (Fit (1 + n)) (rolls-Plus a) (single (Plus a) n a refl refl f.holds f)

  pub fit_instance : (n : ℕ) (a : Expr) (k : SeqType) → Fit n a → Fit (1 + n) (expr.InstanceOf a k)
  fit_instance n a k f =
      subst (Fit (1 + n)) (rolls-InstanceOf a k) (single (InstanceOf a k) n a refl refl f.holds f)

  pub fit_treat : (n : ℕ) (a : Expr) (k : SeqType) → Fit n a → Fit (1 + n) (expr.Treat a k)
  fit_treat n a k f =
      subst (Fit (1 + n)) (rolls-Treat a k) (single (Treat a k) n a refl refl f.holds f)

  pub fit_castable : (n : ℕ) (a : Expr) (k : AtomType) (b : Bool) → Fit n a
      → Fit (1 + n) (expr.Castable a k b)
  fit_castable n a k b f =
      subst (Fit (1 + n)) (rolls-Castable a k b) (single (Castable a k b) n a refl refl f.holds f)

  pub fit_cast : (n : ℕ) (a : Expr) (k : AtomType) (b : Bool) → Fit n a
      → Fit (1 + n) (expr.Cast a k b)
  fit_cast n a k b f =
      subst (Fit (1 + n)) (rolls-Cast a k b) (single (Cast a k b) n a refl refl f.holds f)

  -- steps, filters and calls
  pub fit_step : (n : ℕ) (on : Axis) (t : Test) (es : List Expr) → AllFit n es
      → Fit (1 + n) (expr.Step on t es)
  fit_step n on t es f = let g = nests_of n es f in
      subst (Fit (1 + n)) (rolls-Step on t es) (rolled (Step on t es) (1 + n) (omega arith) (omega (arith, g))
      (forms_of n es f) (holds_of n es f))

  pub fit_filter : (n : ℕ) (a : Expr) (es : List Expr) → Fit n a → AllFit n es
      → Fit (1 + n) (expr.Filter a es)
  fit_filter n a es f g =
      let v = f.nests in
      let w = nests_of n es g in
      subst (Fit (1 + n)) (rolls-Filter a es) (rolled (Filter a es) (1 + n) (omega arith) (omega (arith, v, w))
      (and_from (form.has_xpath_forms a) _ f.forms (forms_of n es g)) (f.holds, holds_of n es g))

  pub fit_call : (n : ℕ) (name : ExprName) (es : List Expr) → AllFit n es
      → asked.Holds (expr.Call name es) → Fit (1 + n) (expr.Call name es)
  fit_call n name es f a = let g = nests_of n es f in
      subst (Fit (1 + n)) (rolls-Call name es)
      (rolled_with (Call name es) (1 + n) (omega arith) (omega (arith, g)) (forms_of n es f)
      (subst (λ e. asked.Holds e) (sym (rolls-Call name es)) a))

  -- conditionals
  abbrev pub FitArm : ℕ → Arm → Type 0
  FitArm n a = Fit n (out-Arm a).test × Fit n (out-Arm a).then

  abbrev pub AllArms : ℕ → List Arm → Type 0
  AllArms n [] = Unit {0}
  AllArms n (a ∷ xs) = FitArm n a × AllArms n xs

  arm_nests : (n : ℕ) (a : Arm) → FitArm n a → arm_nest_of a ≤ n
  arm_nests n a f =
      let v = f.0.nests in
      let w = f.1.nests in
      let x : max (nest_of (out-Arm a).test) (nest_of (out-Arm a).then) ≤ n = omega (arith, v, w) in
      subst (λ k. k ≤ n) (sym (arm_outs nests nest_steps a)) x

  arms_nest : (n : ℕ) (xs : List Arm) → AllArms n xs → greatest (map arm_nest_of xs) ≤ n
  arms_nest n [] f = omega arith
  arms_nest n (a ∷ xs) f =
      let g = arm_nests n a f.0 in let h = arms_nest n xs f.1 in omega (arith, g, h)

  arms_form : (n : ℕ) (xs : List Arm) → AllArms n xs → every (map form.is_xpath_arm xs) ≡ true
  arms_form n [] f = refl
  arms_form n (a ∷ xs) f =
      and_from (form.is_xpath_arm a) _ (arm_outs form.forms form.form_steps a
      ∙ and_from (form.has_xpath_forms (out-Arm a).test) _ f.0.0.forms f.0.1.forms)
      (arms_form n xs f.1)

  arms_hold : (n : ℕ) (xs : List Arm) → AllArms n xs → ArmsHold asked.Holds xs
  arms_hold n [] f = tt
  arms_hold n (a ∷ xs) f = ((f.0.0.holds, f.0.1.holds), arms_hold n xs f.1)

  pub fit_if : (n : ℕ) (xs : List Arm) (e : Expr) → AllArms n xs → Fit n e
      → Fit (1 + n) (expr.If xs e)
  fit_if n xs e f g =
      let v = arms_nest n xs f in
      let w = g.nests in
      subst (Fit (1 + n)) (rolls-If xs e) (rolled (If xs e) (1 + n) (omega arith) (omega (arith, v, w))
      (and_from (every (map form.is_xpath_arm xs)) _ (arms_form n xs f) g.forms)
      (arms_hold n xs f, g.holds))

  -- what binds variables: without a type
  pub record FitBind (n : ℕ) (b : Bind) : Type 0 where
    pub kind : (out-Bind b).kind ≡ None
    pub source : Fit n (out-Bind b).source

  abbrev pub AllBinds : ℕ → List Bind → Type 0
  AllBinds n [] = Unit {0}
  AllBinds n (b ∷ bs) = FitBind n b × AllBinds n bs

  bind_nests : (n : ℕ) (b : Bind) → FitBind n b → bind_nest_of b ≤ n
  bind_nests n b f = subst (λ k. k ≤ n) (sym (bind_outs nests nest_steps b)) f.source.nests

  bind_form : (n : ℕ) (b : Bind) → FitBind n b → form.is_xpath_bind b ≡ true
  bind_form n b f = bind_outs form.forms form.form_steps b ∙ rw (f.kind, f.source.forms) refl

  binds_nest : (n : ℕ) (bs : List Bind) → AllBinds n bs → greatest (map bind_nest_of bs) ≤ n
  binds_nest n [] f = omega arith
  binds_nest n (b ∷ bs) f =
      let g = bind_nests n b f.0 in let h = binds_nest n bs f.1 in omega (arith, g, h)

  binds_form : (n : ℕ) (bs : List Bind) → AllBinds n bs → every (map form.is_xpath_bind bs) ≡ true
  binds_form n [] f = refl
  binds_form n (b ∷ bs) f =
      and_from (form.is_xpath_bind b) _ (bind_form n b f.0) (binds_form n bs f.1)

  binds_hold : (n : ℕ) (bs : List Bind) → AllBinds n bs → BindsHold asked.Holds bs
  binds_hold n [] f = tt
  binds_hold n (b ∷ bs) f = (f.0.source.holds, binds_hold n bs f.1)

  pub fit_quant : (n : ℕ) (q : Bool) (bs : List Bind) (e : Expr) → AllBinds n bs → Fit n e
      → Fit (1 + n) (expr.Quant q bs e)
  fit_quant n q bs e f g =
      let v = binds_nest n bs f in
      let w = g.nests in
      subst (Fit (1 + n)) (rolls-Quant q bs e) (rolled (Quant q bs e) (1 + n) (omega arith) (omega (arith, v, w))
      (and_from (every (map form.is_xpath_bind bs)) _ (binds_form n bs f) g.forms)
      (binds_hold n bs f, g.holds))

  -- clauses
  pub record FitClause (n : ℕ) (c : Clause) : Type 0 where
    pub nests : clause_nest_of c ≤ n
    pub forms : form.is_xpath_clause c ≡ true
    pub holds : ForHolds asked.Holds c

  pub fit_for : (n : ℕ) (b : Bind) → FitBind n b → FitClause n (clause.For b None)
  fit_for n b f =
      let rolled_nest : clause_nest_of (clause.For b None) ≡ bind_nest_of b =
      ap clause_nest_of (sym (rolls-For b None)) ∙ clause_rolled nests nest_steps (For b None) in
      let rolled_form : form.is_xpath_clause (clause.For b None) ≡ form.is_xpath_bind b =
      ap form.is_xpath_clause (sym (rolls-For b None))
      ∙ clause_rolled form.forms form.form_steps (For b None) in
      record {
        nests = subst (λ k. k ≤ n) (sym rolled_nest) (bind_nests n b f);
        forms = rolled_form ∙ bind_form n b f;
        holds = record { bind = b; is = refl; holds = f.source.holds };
      }

  abbrev pub AllClauses : ℕ → List Clause → Type 0
  AllClauses n [] = Unit {0}
  AllClauses n (c ∷ cs) = FitClause n c × AllClauses n cs

  clauses_nest : (n : ℕ) (cs : List Clause) → AllClauses n cs
      → greatest (map clause_nest_of cs) ≤ n
  clauses_nest n [] f = omega arith
  clauses_nest n (c ∷ cs) f =
      let g = f.0.nests in let h = clauses_nest n cs f.1 in omega (arith, g, h)

  clauses_form : (n : ℕ) (cs : List Clause) → AllClauses n cs
      → every (map form.is_xpath_clause cs) ≡ true
  clauses_form n [] f = refl
  clauses_form n (c ∷ cs) f =
      and_from (form.is_xpath_clause c) _ f.0.forms (clauses_form n cs f.1)

  clauses_hold : (n : ℕ) (cs : List Clause) → AllClauses n cs → ForsHold asked.Holds cs
  clauses_hold n [] f = tt
  clauses_hold n (c ∷ cs) f = (f.0.holds, clauses_hold n cs f.1)

  pub fit_flwor : (n : ℕ) (cs : List Clause) (e : Expr) → AllClauses n cs → Fit n e
      → Fit (1 + n) (expr.Flwor (roll-Flwor (returned cs e)))
  fit_flwor n cs e f g =
      let x = returned cs e in
      let v = clauses_nest n cs f in
      let w = g.nests in
      let deep : flwor_at nests nest_steps x ≤ n = omega (arith, v, w) in
      let nest : flwor_nest_of (roll-Flwor x) ≤ n =
      subst (λ k. k ≤ n) (sym (flwor_rolled nests nest_steps x)) deep in
      let shape : form.is_xpath_flwor (roll-Flwor x) ≡ true =
      flwor_rolled form.forms form.form_steps x ∙ rw (clauses_form n cs f, g.forms) refl in
      let parts : FlworHolds asked.Holds (roll-Flwor x) = record {
        clauses = cs;
        body = e;
        is = refl;
        of_clauses = clauses_hold n cs f;
        of_body = g.holds;
      } in
      subst (Fit (1 + n)) (rolls-Flwor (roll-Flwor x))
      (rolled (Flwor (roll-Flwor x)) (1 + n) (omega arith) (omega (arith, nest)) shape parts)
