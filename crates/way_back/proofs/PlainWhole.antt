-- A back form that is within the content of an element gives no attribute where its leaves give none.
use Rattle.std.proofs.Common.{◌≡◌, ℕ, List, [], ◌∷◌, refl, subst, map}
use Rattle.std.specs.Prelude.{zero, suc, pos, Bool, true, false, ◌&&◌, ◌||◌, not, Option, Some, None}
use Rattle.std.specs.Prelude.{flat_map, if◌then◌else◌}
use Rattle.std.specs.List.{list_all}
use Rattle.xt_names.specs.declared.names.Binding.{Binding as Namespace}
use Rattle.xt_syntax.specs.declared.exprs.Arm.{Arm}
use Rattle.xt_syntax.specs.declared.exprs.Clause.{Clause}
use Rattle.xt_syntax.specs.declared.exprs.Expr.{Expr}
use Rattle.xt_syntax.specs.declared.exprs.Order.{Order}
use Rattle.xt_syntax.specs.declared.exprs.Clause.TheOpen.{Int, Str, Var, Context, Root, Comma, Or}
use Rattle.xt_syntax.specs.declared.exprs.Clause.TheOpen.{And, If, Flwor, Quant, General, Value, Is}
use Rattle.xt_syntax.specs.declared.exprs.Clause.TheOpen.{Before, After, Range, Arith, Minus, Plus}
use Rattle.xt_syntax.specs.declared.exprs.Clause.TheOpen.{Union, Intersect, Except, InstanceOf}
use Rattle.xt_syntax.specs.declared.exprs.Clause.TheOpen.{Treat, Castable, Cast, Slash, Step}
use Rattle.xt_syntax.specs.declared.exprs.Clause.TheOpen.{Filter, Call, ElemC, AttrC, DocC, TextC}
use Rattle.xt_syntax.specs.declared.exprs.Clause.TheOpen.{CommentC, PiC, Direct, Fixed}
use Rattle.xt_syntax.specs.declared.exprs.Clause.TheOpen.{Computed}
use Rattle.xt_syntax.specs.declared.exprs.Clause.TheOpen.{For, Let}
use Rattle.xt_syntax.specs.declared.exprs.Clause.TheViews.{roll-Expr, out-Arm, out-Bind, out-Clause}
use Rattle.xt_syntax.specs.declared.exprs.Clause.TheViews.{out-Expr, out-Flwor, out-NameSource}
use Rattle.xt_syntax.specs.declared.queries.QueryFunction.{QueryFunction}
use Rattle.xt_sheets.specs.declared.sheets.Sheet.{Sheet}
use Rattle.xt_sheets.specs.declared.instrs.Instr.TheOpen as instr
use Rattle.expr_meaning.specs.Env.{Meaning, Program}
use Rattle.expr_meaning.specs.Logic.{choice_of}
use Rattle.expr_meaning.specs.Meaning.{outcome}
use Rattle.meaning_laws.specs.SoundValues.Sound.{IsSound}
use Rattle.transform_meaning.specs.Bindings.{nothing}
use Rattle.transform_meaning.specs.Dispatch.{Doors}
use Rattle.transform_meaning.specs.Instrs.{meanings as instr_meanings, steps as instr_steps}
use Rattle.transform_meaning.specs.Instrs.{body_does, when_does}
use Rattle.transform_laws.proofs.Rolled.{TheInstr, instr_rolled, when_rolled}
use Rattle.way_back.specs.Contents.{is_free_at, stands_at, form_stands, leaf_stands, within}
use Rattle.way_back.specs.Forms.{ExprForm, ClauseForm, FlworForm, NameForm, one, when_of, back_at}
use Rattle.way_back.specs.Forms.{is_back_at, form_fits, form_instr, flwor_fits, flwor_instr, rest_fits}
use Rattle.way_back.specs.Forms.{clauses_fit, clause_fits, clauses_instr, clause_instr, has_for, is_for}
use Rattle.way_back.specs.Forms.{orders_fit, arm_fits, text_instr, element_instr}
use Rattle.way_back.specs.Leaves.{is_leaf, is_leaf_at, is_missing, is_none_of, has_local}
use Rattle.way_back.specs.Places.{ProgramsSame}
use Rattle.way_back.specs.Same.{same}
use Rattle.way_back.proofs.Plain.{either_plain}
use Rattle.way_back.proofs.PlainBodies.{GivesNone, NoneIn, one_none, body_none, nothing_none, more_none}
use Rattle.way_back.proofs.PlainBodies.{leaf_none, text_none, element_none}
use Rattle.way_back.proofs.PlainFlows.{Plainly, where_plain, let_plain, loop_plain}
use Rattle.xt_names.proofs.BoolLemmas.{and_first as first, and_second as second}

module _ (sheet : Sheet) (doors : Doors) (q : Program)
    (programs : ProgramsSame same IsSound doors.program q) (scope : List Namespace)
    (functions : List QueryFunction)
    (leaves : (n : ℕ) (s : Bool) (e : Expr) → is_leaf_at e s ≡ true → is_free_at functions n e ≡ true →
    GivesNone s (outcome doors.program e)) where
  abbrev Gives : Bool → List TheInstr → Type 0
  Gives s body = Plainly sheet doors q programs scope s body

  text_form : (s : Bool) (x : ExprForm) → NoneIn sheet doors s (text_instr scope x)
  text_form s (Int n) = nothing_none sheet doors s
  text_form s (Str t) = text_none sheet doors s t
  text_form s (Var name) = nothing_none sheet doors s
  text_form s Context = nothing_none sheet doors s
  text_form s Root = nothing_none sheet doors s
  text_form s (Comma all) = nothing_none sheet doors s
  text_form s (Or all) = nothing_none sheet doors s
  text_form s (And all) = nothing_none sheet doors s
  text_form s (If arms other) = nothing_none sheet doors s
  text_form s (Flwor f) = nothing_none sheet doors s
  text_form s (Quant every binds test) = nothing_none sheet doors s
  text_form s (General op a b) = nothing_none sheet doors s
  text_form s (Value op a b) = nothing_none sheet doors s
  text_form s (Is a b) = nothing_none sheet doors s
  text_form s (Before a b) = nothing_none sheet doors s
  text_form s (After a b) = nothing_none sheet doors s
  text_form s (Range a b) = nothing_none sheet doors s
  text_form s (Arith op a b) = nothing_none sheet doors s
  text_form s (Minus a) = nothing_none sheet doors s
  text_form s (Plus a) = nothing_none sheet doors s
  text_form s (Union a b) = nothing_none sheet doors s
  text_form s (Intersect a b) = nothing_none sheet doors s
  text_form s (Except a b) = nothing_none sheet doors s
  text_form s (InstanceOf a kind) = nothing_none sheet doors s
  text_form s (Treat a kind) = nothing_none sheet doors s
  text_form s (Castable a kind empty) = nothing_none sheet doors s
  text_form s (Cast a kind empty) = nothing_none sheet doors s
  text_form s (Slash a b) = nothing_none sheet doors s
  text_form s (Step axis wanted tests) = nothing_none sheet doors s
  text_form s (Filter of tests) = nothing_none sheet doors s
  text_form s (Call name args) = nothing_none sheet doors s
  text_form s (ElemC name inner) = nothing_none sheet doors s
  text_form s (AttrC name value) = nothing_none sheet doors s
  text_form s (DocC inner) = nothing_none sheet doors s
  text_form s (TextC e) = nothing_none sheet doors s
  text_form s (CommentC inner) = nothing_none sheet doors s
  text_form s (PiC name inner) = nothing_none sheet doors s
  text_form s (Direct name attrs parts) = nothing_none sheet doors s

  element_form : (s : Bool) (x : NameForm) (body : List TheInstr) →
      NoneIn sheet doors s (element_instr scope x body)
  element_form s (Fixed name) body = element_none sheet doors s name body
  element_form s (Computed e) body = nothing_none sheet doors s

  bracket_none : (s : Bool) (body : List TheInstr) → Gives s body →
      NoneIn sheet doors s (one (instr.If (roll-Expr (Int (pos 1))) body))
  bracket_none s body h =
      one_none sheet doors s (instr.If (roll-Expr (Int (pos 1))) body) _
      (instr_rolled instr_meanings (instr_steps sheet doors) (instr.If (roll-Expr (Int (pos 1))) body))
      (λ a f at k. either_plain (outcome doors.program (roll-Expr (Int (pos 1)))) (body_does sheet doors body)
      nothing a k (λ j. h a f at j) (λ j. tt))

  -- clauses
  abbrev Fits : ClauseForm → List Clause → Bool → Type 0
  Fits x more s = clause_fits x more s (clauses_fit more s) ≡ true

  let_none : (s : Bool) (x : ClauseForm) (more : List Clause) (rest body : List TheInstr) →
      Fits x more s → (is_for x || has_for more) ≡ false →
      (clauses_fit more s ≡ true → has_for more ≡ false → Gives s rest) →
      Gives s (clause_instr scope x [] body rest)
  let_none s (For b place) more rest body fit none go = absurd cc
  let_none s (Let b) more rest body fit none go =
      let v = has_local (out-Bind b).var in let t = is_missing (out-Bind b).kind in
      let u = is_leaf_at (out-Bind b).source s in
      let w = first (v && (t && u)) (clauses_fit more s) fit in
      let_plain sheet doors q programs scope s (out-Bind b).var (first v (t && u) w) (out-Bind b).source
      (second t u (second v (t && u) w)) rest (go (second (v && (t && u)) (clauses_fit more s) fit) none)

  lets_none : (s : Bool) (test : Option Expr) (body : List TheInstr) → Gives s body → (cs : List Clause) →
      clauses_fit cs s ≡ true → has_for cs ≡ false → Gives s (clauses_instr scope cs test [] body)
  lets_none s test body h [] fit none = where_plain sheet doors q programs scope s test body h
  lets_none s test body h (c ∷ more) fit none =
      let_none s (out-Clause c) more (clauses_instr scope more test [] body) body fit none
      (lets_none s test body h more)

  loop_none : (s : Bool) (x : ClauseForm) (more : List Clause) (orders : List Order)
      (rest body : List TheInstr) → orders_fit orders true ≡ true → Gives true body → Fits x more s →
      (is_for x || has_for more) ≡ true →
      (clauses_fit more s ≡ true → has_for more ≡ true → Gives s rest) →
      Gives s (clause_instr scope x orders body rest)
  loop_none s (For b place) more orders rest body ordered h fit some go =
      let v = has_local (out-Bind b).var in let t = is_missing (out-Bind b).kind in
      let u = is_leaf_at (out-Bind b).source s in
      let w = second (is_missing place) (is_none_of more && (v && (t && u))) fit in
      let r = second (is_none_of more) (v && (t && u)) w in
      loop_plain sheet doors q programs scope s b (first v (t && u) r) (second t u (second v (t && u) r))
      orders ordered body h
  loop_none s (Let b) more orders rest body ordered h fit some go =
      let v = has_local (out-Bind b).var in let t = is_missing (out-Bind b).kind in
      let u = is_leaf_at (out-Bind b).source s in
      let w = first (v && (t && u)) (clauses_fit more s) fit in
      let_plain sheet doors q programs scope s (out-Bind b).var (first v (t && u) w) (out-Bind b).source
      (second t u (second v (t && u) w)) rest (go (second (v && (t && u)) (clauses_fit more s) fit) some)

  loops_none : (s : Bool) (orders : List Order) (body : List TheInstr) → orders_fit orders true ≡ true →
      Gives true body → (cs : List Clause) → clauses_fit cs s ≡ true → has_for cs ≡ true →
      Gives s (clauses_instr scope cs None orders body)
  loops_none s orders body ordered h [] fit some = absurd cc
  loops_none s orders body ordered h (c ∷ more) fit some =
      loop_none s (out-Clause c) more orders (clauses_instr scope more None orders body) body ordered h fit some
      (loops_none s orders body ordered h more)

  module _ (n : ℕ) (parts : (s : Bool) (e : Expr) → is_back_at n true s e ≡ true →
      stands_at functions n within e ≡ true → NoneIn sheet doors s (back_at scope n e)) where
    body_gives : (s : Bool) (e : Expr) → is_back_at n true s e ≡ true →
        stands_at functions n within e ≡ true → Gives s (back_at scope n e)
    body_gives s e h g = body_none sheet doors s (back_at scope n e) (parts s e h g)

    commas : (s : Bool) (all : List Expr) → list_all (is_back_at n true s) all ≡ true →
        list_all (stands_at functions n within) all ≡ true →
        NoneIn sheet doors s (flat_map (back_at scope n) all)
    commas s [] h g = nothing_none sheet doors s
    commas s (e ∷ more) h g =
        let a = is_back_at n true s e in let b = list_all (is_back_at n true s) more in
        let c = stands_at functions n within e in let l = list_all (stands_at functions n within) more in
        more_none sheet doors s (back_at scope n e) (flat_map (back_at scope n) more)
        (parts s e (first a b h) (first c l g)) (commas s more (second a b h) (second c l g))

    arms_none : (s : Bool) (arms : List Arm) (other : Meaning) → GivesNone s other →
        list_all (arm_fits (is_back_at n true s) s) arms ≡ true →
        list_all (λ a. stands_at functions n within (out-Arm a).then) arms ≡ true →
        GivesNone s (choice_of (map (when_does sheet doors) (map (when_of scope (back_at scope n)) arms)) other)
    arms_none s [] other d h g = d
    arms_none s (x ∷ more) other d h g = λ a f at k.
        let y = out-Arm x in
        let fit = first (arm_fits (is_back_at n true s) s x) (list_all (arm_fits (is_back_at n true s) s) more) h in
        let c = second (is_leaf_at y.test s) (is_back_at n true s y.then) fit in
        let l = list_all (λ a. stands_at functions n within (out-Arm a).then) more in
        rw (when_rolled instr_meanings (instr_steps sheet doors)
        (record { test = y.test; body = back_at scope n y.then }))
        (either_plain (outcome doors.program y.test) (body_does sheet doors (back_at scope n y.then))
        (choice_of (map (when_does sheet doors) (map (when_of scope (back_at scope n)) more)) other) a k
        (λ j. body_gives s y.then c (first (stands_at functions n within y.then) l g) a f at j)
        (λ j. arms_none s more other d
        (second (arm_fits (is_back_at n true s) s x) (list_all (arm_fits (is_back_at n true s) s) more) h)
        (second (stands_at functions n within y.then) l g) a f at j))

    free_or : (s : Bool) → (s || true) ≡ true
    free_or true = refl
    free_or false = refl

    flow_none : (s : Bool) (f : FlworForm) → clauses_fit f.clauses s ≡ true → (test : Option Expr)
        (orders : List Order) → (b : Bool) → has_for f.clauses ≡ b →
        rest_fits b (is_back_at n true) true s (record {
          clauses = f.clauses;
          test = test;
          orders = orders;
          stable = f.stable;
          body = f.body;
        }) ≡ true → stands_at functions n within f.body ≡ true →
        Gives s (clauses_instr scope f.clauses test orders (back_at scope n f.body))
    flow_none s f fit None orders true is rest g =
        let r = orders_fit orders (s || true) in let t = is_back_at n true (s || true) f.body in
        loops_none s orders (back_at scope n f.body)
        (subst (λ b. orders_fit orders b ≡ true) (free_or s) (first r t rest))
        (body_gives true f.body (subst (λ b. is_back_at n true b f.body ≡ true) (free_or s) (second r t rest)) g)
        f.clauses fit is
    flow_none s f fit (Some test) orders true is rest g = absurd cc
    flow_none s f fit None [] false is rest g =
        lets_none s None (back_at scope n f.body) (body_gives s f.body rest g) f.clauses fit is
    flow_none s f fit None (o ∷ orders) false is rest g = absurd cc
    flow_none s f fit (Some test) [] false is rest g =
        lets_none s (Some test) (back_at scope n f.body)
        (body_gives s f.body (second (is_leaf_at test s) (is_back_at n true s f.body) rest) g) f.clauses fit is
    flow_none s f fit (Some test) (o ∷ orders) false is rest g =
        absurd (let e : false ≡ true = second (is_leaf_at test s) false rest in cc)

    flwor_none : (s : Bool) (f : FlworForm) → flwor_fits (is_back_at n true) true s f ≡ true →
        stands_at functions n within f.body ≡ true → NoneIn sheet doors s (flwor_instr scope (back_at scope n) f)
    flwor_none s f h g =
        let a = not (is_none_of f.clauses) in let b = clauses_fit f.clauses s in
        let c = rest_fits (has_for f.clauses) (is_back_at n true) true s f in
        let r = second a (b && c) h in
        bracket_none s (clauses_instr scope f.clauses f.test f.orders (back_at scope n f.body))
        (flow_none s f (first b c r) f.test f.orders (has_for f.clauses) refl (second b c r) g)

    form_none : (s : Bool) (x : ExprForm) → form_fits (is_back_at n true) true s x ≡ true →
        form_stands functions (stands_at functions n) within x ≡ true →
        NoneIn sheet doors s (form_instr scope (back_at scope n) x)
    form_none s (Comma all) h g = commas s all h g
    form_none s (If arms other) h g =
        let a = list_all (arm_fits (is_back_at n true s) s) arms in let b = is_back_at n true s other in
        let c = list_all (λ a. stands_at functions n within (out-Arm a).then) arms in
        let l = stands_at functions n within other in
        one_none sheet doors s (instr.Choose (map (when_of scope (back_at scope n)) arms) (back_at scope n other)) _
        (instr_rolled instr_meanings (instr_steps sheet doors)
        (instr.Choose (map (when_of scope (back_at scope n)) arms) (back_at scope n other)))
        (arms_none s arms (body_does sheet doors (back_at scope n other))
        (body_gives s other (second a b h) (second c l g)) (first a b h) (first c l g))
    form_none s (Flwor f) h g = flwor_none s (out-Flwor f) h g
    form_none s (TextC e) h g = text_form s (out-Expr e)
    form_none s (ElemC name inner) h g = element_form s (out-NameSource name) (back_at scope n inner)
    form_none s (AttrC name value) h g = absurd cc
    form_none s (Int n) h g = nothing_none sheet doors s
    form_none s (Str t) h g = nothing_none sheet doors s
    form_none s (Var name) h g = nothing_none sheet doors s
    form_none s Context h g = nothing_none sheet doors s
    form_none s Root h g = nothing_none sheet doors s
    form_none s (Or all) h g = nothing_none sheet doors s
    form_none s (And all) h g = nothing_none sheet doors s
    form_none s (Quant every binds test) h g = nothing_none sheet doors s
    form_none s (General op a b) h g = nothing_none sheet doors s
    form_none s (Value op a b) h g = nothing_none sheet doors s
    form_none s (Is a b) h g = nothing_none sheet doors s
    form_none s (Before a b) h g = nothing_none sheet doors s
    form_none s (After a b) h g = nothing_none sheet doors s
    form_none s (Range a b) h g = nothing_none sheet doors s
    form_none s (Arith op a b) h g = nothing_none sheet doors s
    form_none s (Minus a) h g = nothing_none sheet doors s
    form_none s (Plus a) h g = nothing_none sheet doors s
    form_none s (Union a b) h g = nothing_none sheet doors s
    form_none s (Intersect a b) h g = nothing_none sheet doors s
    form_none s (Except a b) h g = nothing_none sheet doors s
    form_none s (InstanceOf a kind) h g = nothing_none sheet doors s
    form_none s (Treat a kind) h g = nothing_none sheet doors s
    form_none s (Castable a kind empty) h g = nothing_none sheet doors s
    form_none s (Cast a kind empty) h g = nothing_none sheet doors s
    form_none s (Slash a b) h g = nothing_none sheet doors s
    form_none s (Step axis wanted tests) h g = nothing_none sheet doors s
    form_none s (Filter of tests) h g = nothing_none sheet doors s
    form_none s (Call name args) h g = nothing_none sheet doors s
    form_none s (DocC inner) h g = nothing_none sheet doors s
    form_none s (CommentC inner) h g = nothing_none sheet doors s
    form_none s (PiC name inner) h g = nothing_none sheet doors s
    form_none s (Direct name attrs parts) h g = nothing_none sheet doors s

    level_none : (b s : Bool) (e : Expr) →
        (if b then is_leaf_at e s else form_fits (is_back_at n true) true s (out-Expr e)) ≡ true →
        (if b then leaf_stands functions within (is_free_at functions (suc n) e)
        else form_stands functions (stands_at functions n) within (out-Expr e)) ≡ true →
        NoneIn sheet doors s (if b then one (instr.Sequence e) else form_instr scope (back_at scope n) (out-Expr e))
    level_none true s e h g = leaf_none sheet doors s e (leaves (suc n) s e h g)
    level_none false s e h g = form_none s (out-Expr e) h g

  -- within the content of an element
  pub none_within : (n : ℕ) (s : Bool) (e : Expr) → is_back_at n true s e ≡ true →
      stands_at functions n within e ≡ true → NoneIn sheet doors s (back_at scope n e)
  unfolding is_back_at stands_at back_at
  none_within zero s e h g = absurd cc
  none_within (suc n) s e h g = level_none n (none_within n) (is_leaf e) s e h g
