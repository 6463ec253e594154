-- The instructions of a back form nest at most as deep as it counts.
use Rattle.std.proofs.Common.{◌≡◌, ◌+◌, ◌≤◌, ℕ, max, List, [], ◌∷◌, ◌++◌, refl, sym, ap, ◌∙◌, subst, map}
use Rattle.std.proofs.Common.{arith, append_assoc}
use Rattle.std.proofs.lemmas.List.{append-nil, map-append}
use Rattle.std.specs.Prelude.{zero, suc, pos, Bool, true, false, Option, Some, None, flat_map}
use Rattle.std.specs.Prelude.{if◌then◌else◌}
use Rattle.xt_names.specs.declared.names.Binding.{Binding as Namespace}
use Rattle.xt_names.specs.declared.names.ExprName.{ExprName}
use Rattle.xt_syntax.specs.declared.exprs.Expr.{Expr}
use Rattle.xt_syntax.specs.declared.exprs.Arm.{Arm}
use Rattle.xt_syntax.specs.declared.exprs.Clause.{Clause}
use Rattle.xt_syntax.specs.declared.exprs.Order.{Order}
use Rattle.xt_syntax.specs.declared.exprs.Clause.TheOpen.{Int, Str, Var, Context, Root, Comma, Or}
use Rattle.xt_syntax.specs.declared.exprs.Clause.TheOpen.{And, If, Flwor, Quant, General, Value, Is}
use Rattle.xt_syntax.specs.declared.exprs.Clause.TheOpen.{Before, After, Range, Arith, Minus, Plus}
use Rattle.xt_syntax.specs.declared.exprs.Clause.TheOpen.{Union, Intersect, Except, InstanceOf}
use Rattle.xt_syntax.specs.declared.exprs.Clause.TheOpen.{Treat, Castable, Cast, Slash, Step}
use Rattle.xt_syntax.specs.declared.exprs.Clause.TheOpen.{Filter, Call, ElemC, AttrC, DocC, TextC}
use Rattle.xt_syntax.specs.declared.exprs.Clause.TheOpen.{CommentC, PiC, Direct, For, Let, Fixed}
use Rattle.xt_syntax.specs.declared.exprs.Clause.TheOpen.{Computed}
use Rattle.xt_syntax.specs.declared.exprs.Clause.TheViews.{roll-Expr, out-Expr, out-Clause, out-Flwor}
use Rattle.xt_syntax.specs.declared.exprs.Clause.TheViews.{out-NameSource, out-Arm, out-Bind}
use Rattle.xt_syntax.specs.declared.patterns.Pattern.{Pattern}
use Rattle.xt_sheets.specs.declared.instrs.Instr.TheOpen as instr
use Rattle.xt_sheets.specs.declared.instrs.Instr.TheViews.{roll-Instr}
use Rattle.closed_sheets.specs.SheetForms.InstrNest.{Nested, nests, nest_steps, within, is_binding, most_behind}
use Rattle.closed_sheets.specs.SheetForms.InstrNest.{behind, nested_of, when_nest_of, body_nest_of}
use Rattle.transform_laws.proofs.Rolled.{TheInstr, InstrForm, instr_rolled, instr_mapped, when_rolled}
use Rattle.transform_laws.proofs.Rolled.{bound_rolled, value_rolled}
use Rattle.way_back.specs.Leaves.{is_leaf}
use Rattle.way_back.specs.Forms.{ExprForm, ClauseForm, FlworForm, NameForm, one, back_at, form_instr}
use Rattle.way_back.specs.Forms.{text_instr, element_instr, attribute_instr, when_of, where_instr, variable}
use Rattle.way_back.specs.Forms.{loop_instr, clause_instr, clauses_instr, flwor_instr, bracketed, dot, sort_of}
use Rattle.way_back.specs.Forms.{data_of}
use Rattle.way_back.specs.Rules.{count_at, form_count, flwor_count, let_count, for_count, sum_of, where_count}
use Rattle.xt_names.specs.Lists.{greatest}

abbrev levels_of : List TheInstr → List Nested
levels_of body = map nested_of body

-- whatever comes before and behind, so many levels more
abbrev Nests : List TheInstr → ℕ → Type 0
Nests body c =
    (before : ℕ) (rest : List Nested) →
    most_behind before (levels_of body ++ rest) ≤ max (before + c) (most_behind before rest)

nested_is : (x : InstrForm) → nested_of (roll-Instr Expr Pattern x)
    ≡ record { levels = 1 + within (instr_mapped nests nest_steps x); binds = is_binding (instr_mapped nests nest_steps x) }
nested_is x = instr_rolled nests nest_steps x

one_nests : (x : InstrForm) (c : ℕ) → is_binding (instr_mapped nests nest_steps x) ≡ false →
    1 + within (instr_mapped nests nest_steps x) ≤ c → Nests (one x) c
one_nests x c free h before rest = rw (nested_is x, free) (omega (arith, h))

nothing_nests : (c : ℕ) → Nests [] c
nothing_nests c before rest = omega arith

more_nests : (a b : List TheInstr) (c d : ℕ) → Nests a c → Nests b d → Nests (a ++ b) (max c d)
more_nests a b c d h g before rest =
    let x = h before (levels_of b ++ rest) in let y = g before rest in
    subst (λ l. most_behind before l ≤ max (before + max c d) (most_behind before rest))
    (sym (ap (λ l. l ++ rest) (map-append nested_of a b) ∙ append_assoc (levels_of a) (levels_of b) rest))
    (omega (arith, x, y))

body_nests : (body : List TheInstr) (c : ℕ) → Nests body c → body_nest_of body ≤ c
body_nests body c h =
    let x = h 0 [] in
    subst (λ l. most_behind 0 l ≤ c) (append-nil (levels_of body)) (omega (arith, x))

-- a variable before all
shifted_by : (v : Bool) (b l : ℕ) (xs : List Nested) →
    ((b : ℕ) → most_behind (1 + b) xs ≤ 1 + most_behind b xs) →
    max ((1 + b) + l) (most_behind (behind v (1 + b)) xs) ≤ 1 + max (b + l) (most_behind (behind v b) xs)
shifted_by true b l xs go = let h = go (1 + b) in omega (arith, h)
shifted_by false b l xs go = let h = go b in omega (arith, h)

shifted : (xs : List Nested) (b : ℕ) → most_behind (1 + b) xs ≤ 1 + most_behind b xs
shifted [] b = omega arith
shifted (x ∷ xs) b = shifted_by x.binds b x.levels xs (shifted xs)

variable_nests : (name : ExprName) (e : Expr) (rest : List TheInstr) (c : ℕ) → body_nest_of rest ≤ c →
    body_nest_of (variable name e ∷ rest) ≤ 1 + c
variable_nests name e rest c h =
    let s = shifted (levels_of rest) 0 in
    rw (nested_is (instr.Variable _), bound_rolled nests nest_steps _, value_rolled nests nest_steps _)
    (omega (arith, h, s))

module _ (scope : List Namespace) where
  text_nests : (x : ExprForm) → Nests (text_instr scope x) 1
  text_nests (Int n) = nothing_nests 1
  text_nests (Str t) = one_nests (instr.Chars t) 1 refl (omega arith)
  text_nests (Var name) = nothing_nests 1
  text_nests Context = nothing_nests 1
  text_nests Root = nothing_nests 1
  text_nests (Comma all) = nothing_nests 1
  text_nests (Or all) = nothing_nests 1
  text_nests (And all) = nothing_nests 1
  text_nests (If arms other) = nothing_nests 1
  text_nests (Flwor f) = nothing_nests 1
  text_nests (Quant every binds test) = nothing_nests 1
  text_nests (General op a b) = nothing_nests 1
  text_nests (Value op a b) = nothing_nests 1
  text_nests (Is a b) = nothing_nests 1
  text_nests (Before a b) = nothing_nests 1
  text_nests (After a b) = nothing_nests 1
  text_nests (Range a b) = nothing_nests 1
  text_nests (Arith op a b) = nothing_nests 1
  text_nests (Minus a) = nothing_nests 1
  text_nests (Plus a) = nothing_nests 1
  text_nests (Union a b) = nothing_nests 1
  text_nests (Intersect a b) = nothing_nests 1
  text_nests (Except a b) = nothing_nests 1
  text_nests (InstanceOf a kind) = nothing_nests 1
  text_nests (Treat a kind) = nothing_nests 1
  text_nests (Castable a kind empty) = nothing_nests 1
  text_nests (Cast a kind empty) = nothing_nests 1
  text_nests (Slash a b) = nothing_nests 1
  text_nests (Step axis wanted tests) = nothing_nests 1
  text_nests (Filter of tests) = nothing_nests 1
  text_nests (Call name args) = nothing_nests 1
  text_nests (ElemC name content) = nothing_nests 1
  text_nests (AttrC name value) = nothing_nests 1
  text_nests (DocC content) = nothing_nests 1
  text_nests (TextC e) = nothing_nests 1
  text_nests (CommentC content) = nothing_nests 1
  text_nests (PiC name content) = nothing_nests 1
  text_nests (Direct name attrs parts) = nothing_nests 1

  where_nests : (test : Option Expr) (body : List TheInstr) (c : ℕ) → body_nest_of body ≤ c →
      body_nest_of (where_instr scope test body) ≤ where_count test + c
  where_nests None body c h = omega (arith, h)
  where_nests (Some test) body c h =
      body_nests (one (instr.If test body)) (1 + c) (one_nests (instr.If test body) (1 + c) refl (omega (arith, h)))

  abbrev counted : List Clause → ℕ
  counted cs = sum_of (map (λ d. let_count (out-Clause d) + for_count (out-Clause d)) cs)

  clause_nests : (x : ClauseForm) (orders : List Order) (body rest : List TheInstr) (c m : ℕ) →
      body_nest_of body ≤ c → body_nest_of rest ≤ m + c →
      body_nest_of (clause_instr scope x orders body rest) ≤ (let_count x + for_count x) + (m + c)
  clause_nests (For b place) orders body rest c m h g =
      let v = variable_nests (out-Bind b).var dot body c h in
      body_nests (loop_instr scope (out-Bind b) orders body) (2 + (m + c))
      (one_nests (instr.ForEach (out-Bind b).source (map (sort_of (out-Bind b).var) orders)
      (variable (out-Bind b).var dot ∷ body)) (2 + (m + c)) refl (omega (arith, v)))
  clause_nests (Let b) orders body rest c m h g =
      variable_nests (out-Bind b).var (out-Bind b).source rest (m + c) g

  clauses_nest : (cs : List Clause) (test : Option Expr) (orders : List Order) (body : List TheInstr)
      (c : ℕ) → body_nest_of body ≤ c →
      body_nest_of (clauses_instr scope cs test orders body) ≤ (counted cs + where_count test) + c
  clauses_nest [] test orders body c h = let x = where_nests test body c h in omega (arith, x)
  clauses_nest (d ∷ more) test orders body c h =
      let x = clause_nests (out-Clause d) orders body (clauses_instr scope more test orders body) c
      (counted more + where_count test) h (clauses_nest more test orders body c h) in omega (arith, x)

  bracket_nests : (body : List TheInstr) (c : ℕ) → body_nest_of body ≤ c → Nests (bracketed body) (1 + c)
  bracket_nests body c h =
      one_nests (instr.If (roll-Expr (Int (pos 1))) body) (1 + c) refl (omega (arith, h))

  element_nests : (x : NameForm) (body : List TheInstr) (c : ℕ) → body_nest_of body ≤ c →
      Nests (element_instr scope x body) (1 + c)
  element_nests (Fixed name) body c h =
      one_nests (instr.Literal name [] body) (1 + c) refl (omega (arith, h))
  element_nests (Computed e) body c h = nothing_nests (1 + c)

  attribute_nests : (x : NameForm) (e : Expr) → Nests (attribute_instr scope x e) 1
  attribute_nests (Fixed name) e = one_nests (instr.Attribute _ (Some (data_of e)) [] None) 1 refl (omega arith)
  attribute_nests (Computed v) e = nothing_nests 1

  module _ (go : Expr → List TheInstr) (count : Expr → ℕ) (parts : (e : Expr) → Nests (go e) (count e)) where
    part_nests : (e : Expr) → body_nest_of (go e) ≤ count e
    part_nests e = body_nests (go e) (count e) (parts e)

    all_nest : (all : List Expr) → Nests (flat_map go all) (greatest (map count all))
    all_nest [] = nothing_nests 0
    all_nest (e ∷ more) =
        more_nests (go e) (flat_map go more) (count e) (greatest (map count more)) (parts e) (all_nest more)

    whens_nest : (arms : List Arm) → greatest (map when_nest_of (map (when_of scope go) arms))
        ≤ greatest (map (λ a. count (out-Arm a).then) arms)
    whens_nest [] = omega arith
    whens_nest (a ∷ more) =
        let h = part_nests (out-Arm a).then in let g = whens_nest more in
        rw (when_rolled nests nest_steps (record { test = (out-Arm a).test; body = go (out-Arm a).then }))
        (omega (arith, h, g))

    choice_nests : (arms : List Arm) (other : Expr) →
        Nests (one (instr.Choose (map (when_of scope go) arms) (go other)))
        (1 + max (greatest (map (λ a. count (out-Arm a).then) arms)) (count other))
    choice_nests arms other =
        let h = whens_nest arms in let g = part_nests other in
        one_nests (instr.Choose (map (when_of scope go) arms) (go other)) _ refl (omega (arith, h, g))

    flwor_nests : (f : FlworForm) → Nests (flwor_instr scope go f) (flwor_count count f)
    flwor_nests f before rest =
        let h = clauses_nest f.clauses f.test f.orders (go f.body) (count f.body) (part_nests f.body) in
        let g = bracket_nests (clauses_instr scope f.clauses f.test f.orders (go f.body))
        ((counted f.clauses + where_count f.test) + count f.body) h before rest in omega (arith, g)

    form_nests : (x : ExprForm) → Nests (form_instr scope go x) (form_count count x)
    form_nests (Comma all) = all_nest all
    form_nests (If arms other) = choice_nests arms other
    form_nests (Flwor f) = flwor_nests (out-Flwor f)
    form_nests (TextC e) = text_nests (out-Expr e)
    form_nests (ElemC name content) =
        element_nests (out-NameSource name) (go content) (count content) (part_nests content)
    form_nests (AttrC name value) = attribute_nests (out-NameSource name) value
    form_nests (Int n) = nothing_nests 1
    form_nests (Str t) = nothing_nests 1
    form_nests (Var name) = nothing_nests 1
    form_nests Context = nothing_nests 1
    form_nests Root = nothing_nests 1
    form_nests (Or all) = nothing_nests 1
    form_nests (And all) = nothing_nests 1
    form_nests (Quant every binds test) = nothing_nests 1
    form_nests (General op a b) = nothing_nests 1
    form_nests (Value op a b) = nothing_nests 1
    form_nests (Is a b) = nothing_nests 1
    form_nests (Before a b) = nothing_nests 1
    form_nests (After a b) = nothing_nests 1
    form_nests (Range a b) = nothing_nests 1
    form_nests (Arith op a b) = nothing_nests 1
    form_nests (Minus a) = nothing_nests 1
    form_nests (Plus a) = nothing_nests 1
    form_nests (Union a b) = nothing_nests 1
    form_nests (Intersect a b) = nothing_nests 1
    form_nests (Except a b) = nothing_nests 1
    form_nests (InstanceOf a kind) = nothing_nests 1
    form_nests (Treat a kind) = nothing_nests 1
    form_nests (Castable a kind empty) = nothing_nests 1
    form_nests (Cast a kind empty) = nothing_nests 1
    form_nests (Slash a b) = nothing_nests 1
    form_nests (Step axis wanted tests) = nothing_nests 1
    form_nests (Filter of tests) = nothing_nests 1
    form_nests (Call name args) = nothing_nests 1
    form_nests (DocC content) = nothing_nests 1
    form_nests (CommentC content) = nothing_nests 1
    form_nests (PiC name content) = nothing_nests 1
    form_nests (Direct name attrs parts) = nothing_nests 1

    level_nests : (b : Bool) (e : Expr) →
        Nests (if b then one (instr.Sequence e) else form_instr scope go (out-Expr e))
        (if b then 1 else form_count count (out-Expr e))
    level_nests true e = one_nests (instr.Sequence e) 1 refl (omega arith)
    level_nests false e = form_nests (out-Expr e)

  whole_nests : (n : ℕ) (e : Expr) → Nests (back_at scope n e) (count_at n e)
  unfolding back_at count_at
  whole_nests zero e = nothing_nests 0
  whole_nests (suc n) e = level_nests (back_at scope n) (count_at n) (whole_nests n) (is_leaf e) e

  -- the instructions nest at most as deep as the form counts
  pub nests_as_counted : (n : ℕ) (e : Expr) → body_nest_of (back_at scope n e) ≤ count_at n e
  nests_as_counted n e = body_nests (back_at scope n e) (count_at n e) (whole_nests n e)
