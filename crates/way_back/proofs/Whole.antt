-- Every back form becomes instructions that do the same.
use Rattle.std.proofs.Common.{◌≡◌, ℕ, List, [], ◌∷◌, refl, sym, ap, ◌∙◌, subst, map}
use Rattle.std.specs.Prelude.{zero, suc, Bool, true, false, not, ◌&&◌, ◌||◌, Option, Some, None}
use Rattle.std.specs.Prelude.{flat_map, if◌then◌else◌}
use Rattle.std.specs.List.{list_all}
use Rattle.xt_names.specs.Allowed.{is_empty_text}
use Rattle.xt_names.specs.Classes.{is_xml_text}
use Rattle.xt_names.specs.declared.names.Binding.{Binding as Namespace}
use Rattle.xt_tree.specs.Sound.{is_sound_name}
use Rattle.xt_syntax.specs.declared.exprs.Expr.{Expr}
use Rattle.xt_syntax.specs.declared.exprs.Clause.{Clause}
use Rattle.xt_syntax.specs.declared.exprs.Order.{Order}
use Rattle.xt_syntax.specs.declared.exprs.NameSource.{NameSource}
use Rattle.xt_syntax.specs.declared.exprs.Clause.TheOpen.{Int, Str, Var, Context, Root, Comma, Or}
use Rattle.xt_syntax.specs.declared.exprs.Clause.TheOpen.{And, If, Flwor, Quant, General, Value, Is}
use Rattle.xt_syntax.specs.declared.exprs.Clause.TheOpen.{Before, After, Range, Arith, Minus, Plus}
use Rattle.xt_syntax.specs.declared.exprs.Clause.TheOpen.{Union, Intersect, Except, InstanceOf}
use Rattle.xt_syntax.specs.declared.exprs.Clause.TheOpen.{Treat, Castable, Cast, Slash, Step}
use Rattle.xt_syntax.specs.declared.exprs.Clause.TheOpen.{Filter, Call, ElemC, AttrC, DocC, TextC}
use Rattle.xt_syntax.specs.declared.exprs.Clause.TheOpen.{CommentC, PiC, Direct, Fixed}
use Rattle.xt_syntax.specs.declared.exprs.Clause.TheOpen.{Computed}
use Rattle.xt_syntax.specs.declared.exprs.Clause.TheViews.{roll-Expr, out-Expr, roll-out-Expr}
use Rattle.xt_syntax.specs.declared.exprs.Clause.TheViews.{out-Arm, out-Flwor, out-NameSource}
use Rattle.xt_syntax.specs.declared.exprs.Clause.TheViews.{roll-out-NameSource, roll-NameSource}
use Rattle.xt_syntax.specs.Layers.{name_gives}
use Rattle.xt_sheets.specs.declared.sheets.Sheet.{Sheet}
use Rattle.xt_sheets.specs.declared.instrs.Instr.TheOpen.{Sequence}
use Rattle.expr_meaning.specs.Outcomes.Outcome.{Every}
use Rattle.expr_meaning.specs.Env.{Meaning, Program}
use Rattle.expr_meaning.specs.Making as query
use Rattle.expr_meaning.specs.Meaning.{meanings, steps, outcome}
use Rattle.expr_meaning.specs.Values.{comma_of}
use Rattle.expr_laws.proofs.Rolled.{means, rolled, rolled_flwor, rolled_name, flwor_value}
use Rattle.meaning_laws.proofs.SoundFunctions.Kept.{values_kept}
use Rattle.meaning_laws.specs.SoundValues.Sound.{IsSound}
use Rattle.transform_meaning.specs.Dispatch.{Doors}
use Rattle.transform_meaning.specs.Instrs.{body_does}
use Rattle.transform_laws.proofs.Rolled.{TheInstr}
use Rattle.way_back.specs.Same.{same}
use Rattle.way_back.specs.Leaves.{is_leaf, is_leaf_at, is_none_of}
use Rattle.way_back.specs.Forms.{ExprForm, FlworForm, NameForm, one, form_instr}
use Rattle.way_back.specs.Forms.{flwor_instr, flwor_fits, text_instr, element_instr, attribute_instr, clauses_instr}
use Rattle.way_back.specs.Forms.{back_at, is_back_at, counted_at, form_fits, clauses_fit}
use Rattle.way_back.specs.Forms.{has_for, rest_fits, orders_fit, is_text, is_fixed}
use Rattle.way_back.specs.Forms.{counted_clause, counted_form, counted_flwor}
use Rattle.way_back.specs.Forms.{arm_fits}
use Rattle.way_back.specs.Places.{ProgramsSame}
use Rattle.way_back.specs.Differ.{ContentsDiffer, FormDiffers, UnlessLeaf, Differ}
use Rattle.way_back.specs.Spelled.{names_are_spelled_at, form_spelled, element_spelled, attribute_spelled}
use Rattle.way_back.proofs.Bodies.{Meets, none_becomes, more_becomes, body_becomes}
use Rattle.way_back.proofs.Choices.{leaf_becomes, bracket_becomes, choice_becomes}
use Rattle.way_back.proofs.Constructors.{Made, text_becomes, element_becomes, attribute_becomes}
use Rattle.way_back.proofs.Clauses.{lets_do, loops_do}
use Rattle.xt_names.proofs.BoolLemmas.{and_first as first, and_second as second}

expr_is : (q : Program) (e : Expr) → outcome q e ≡ means q (out-Expr e)
expr_is q e = ap (outcome q) (sym (roll-out-Expr e)) ∙ rolled q (out-Expr e)

name_is : (q : Program) (n : NameSource) (x : NameForm) → out-NameSource n ≡ x →
    name_gives meanings (steps q) n ≡ name_gives meanings (steps q) (roll-NameSource x)
name_is q n x is = ap (name_gives meanings (steps q)) (sym (roll-out-NameSource n) ∙ ap roll-NameSource is)

module _ (sheet : Sheet) (doors : Doors) (q : Program)
    (programs : ProgramsSame same IsSound doors.program q) (scope : List Namespace) where
  abbrev Becomes : Bool → List TheInstr → Meaning → Type 0
  Becomes s body m = Made sheet doors q programs s body m

  text_case : (s : Bool) (x : ExprForm) → is_text x ≡ true →
      Becomes s (text_instr scope x) (query.text_made (means q x))
  text_case s (Int n) h = absurd cc
  text_case s (Str t) h = text_becomes sheet doors q programs s t (second (not (is_empty_text t)) (is_xml_text t) h)
  text_case s (Var name) h = absurd cc
  text_case s Context h = absurd cc
  text_case s Root h = absurd cc
  text_case s (Comma all) h = absurd cc
  text_case s (Or all) h = absurd cc
  text_case s (And all) h = absurd cc
  text_case s (If arms other) h = absurd cc
  text_case s (Flwor f) h = absurd cc
  text_case s (Quant every binds test) h = absurd cc
  text_case s (General op a b) h = absurd cc
  text_case s (Value op a b) h = absurd cc
  text_case s (Is a b) h = absurd cc
  text_case s (Before a b) h = absurd cc
  text_case s (After a b) h = absurd cc
  text_case s (Range a b) h = absurd cc
  text_case s (Arith op a b) h = absurd cc
  text_case s (Minus a) h = absurd cc
  text_case s (Plus a) h = absurd cc
  text_case s (Union a b) h = absurd cc
  text_case s (Intersect a b) h = absurd cc
  text_case s (Except a b) h = absurd cc
  text_case s (InstanceOf a kind) h = absurd cc
  text_case s (Treat a kind) h = absurd cc
  text_case s (Castable a kind empty) h = absurd cc
  text_case s (Cast a kind empty) h = absurd cc
  text_case s (Slash a b) h = absurd cc
  text_case s (Step axis wanted tests) h = absurd cc
  text_case s (Filter of tests) h = absurd cc
  text_case s (Call name args) h = absurd cc
  text_case s (ElemC name content) h = absurd cc
  text_case s (AttrC name value) h = absurd cc
  text_case s (DocC content) h = absurd cc
  text_case s (TextC e) h = absurd cc
  text_case s (CommentC content) h = absurd cc
  text_case s (PiC name content) h = absurd cc
  text_case s (Direct name attrs parts) h = absurd cc

  -- one level
  module _ (n : ℕ) (parts : (s : Bool) (e : Expr) → is_back_at n true s e ≡ true →
      names_are_spelled_at scope n e ≡ true → ContentsDiffer q n s e →
      Becomes s (back_at scope n e) (outcome q (counted_at n e))) where
    commas : (s : Bool) (all : List Expr) → list_all (is_back_at n true s) all ≡ true →
        list_all (names_are_spelled_at scope n) all ≡ true → Every (ContentsDiffer q n s) all →
        Becomes s (flat_map (back_at scope n) all) (comma_of (map (outcome q) (map (counted_at n) all)))
    commas s [] h g d = none_becomes IsSound values_kept sheet doors s
    commas s (e ∷ more) h g d =
        let a = is_back_at n true s e in let b = list_all (is_back_at n true s) more in
        let c = names_are_spelled_at scope n e in let l = list_all (names_are_spelled_at scope n) more in
        more_becomes IsSound values_kept sheet doors s (back_at scope n e)
        (flat_map (back_at scope n) more) (outcome q (counted_at n e)) (map (outcome q) (map (counted_at n) more))
        (parts s e (first a b h) (first c l g) d.0) (commas s more (second a b h) (second c l g) d.1)

    body_meets : (s : Bool) (e : Expr) → is_back_at n true s e ≡ true →
        names_are_spelled_at scope n e ≡ true → ContentsDiffer q n s e →
        Meets IsSound values_kept s (body_does sheet doors (back_at scope n e)) (outcome q (counted_at n e))
    body_meets s e h g d =
        body_becomes IsSound values_kept sheet doors s (back_at scope n e) (outcome q (counted_at n e))
        (parts s e h g d)

    -- a FLWOR by its parts
    abbrev form_of : List Clause → Option Expr → List Order → Bool → Expr → FlworForm
    form_of cs test orders stable body = record {
      clauses = cs;
      test = test;
      orders = orders;
      stable = stable;
      body = body;
    }

    not_free_or : (s : Bool) → (s || false) ≡ s
    not_free_or true = refl
    not_free_or false = refl

    free_or : (s : Bool) → (s || true) ≡ true
    free_or true = refl
    free_or false = refl

    flow_meets : (s : Bool) (cs : List Clause) (test : Option Expr) (orders : List Order) (stable : Bool)
        (body : Expr) → clauses_fit cs s ≡ true → (b : Bool) → has_for cs ≡ b →
        rest_fits b (is_back_at n true) true s (form_of cs test orders stable body) ≡ true →
        names_are_spelled_at scope n body ≡ true → ContentsDiffer q n (s || b) body →
        Meets IsSound values_kept s
        (body_does sheet doors (clauses_instr scope cs test orders (back_at scope n body)))
        (flwor_value q (form_of (map counted_clause cs) test orders stable (counted_at n body)))
    flow_meets s cs None orders stable body fit true is rest g d = λ e f at k.
        let r = orders_fit orders (s || true) in let t = is_back_at n true (s || true) body in
        loops_do sheet doors q programs scope s (back_at scope n body) (outcome q (counted_at n body))
        (body_meets true body (subst (λ b. is_back_at n true b body ≡ true) (free_or s) (second r t rest)) g
        (subst (λ b. ContentsDiffer q n b body) (free_or s) d))
        orders (subst (λ b. orders_fit orders b ≡ true) (free_or s) (first r t rest)) cs [] e f fit is at k
    flow_meets s cs (Some test) orders stable body fit true is rest g d = absurd cc
    flow_meets s cs None [] stable body fit false is rest g d = λ e f at k.
        lets_do sheet doors q programs scope s (back_at scope n body) (outcome q (counted_at n body))
        (body_meets s body rest g (subst (λ b. ContentsDiffer q n b body) (not_free_or s) d))
        None refl cs [] e f fit is at k
    flow_meets s cs None (o ∷ orders) stable body fit false is rest g d = absurd cc
    flow_meets s cs (Some test) [] stable body fit false is rest g d = λ e f at k.
        let l = is_leaf_at test s in let t = is_back_at n true s body in
        lets_do sheet doors q programs scope s (back_at scope n body) (outcome q (counted_at n body))
        (body_meets s body (second l t rest) g (subst (λ b. ContentsDiffer q n b body) (not_free_or s) d)) (Some test) (first l t rest) cs [] e f fit is at k
    flow_meets s cs (Some test) (o ∷ orders) stable body fit false is rest g d =
        absurd (let e : false ≡ true = second (is_leaf_at test s) false rest in cc)

    flwor_becomes : (s : Bool) (y : FlworForm) →
        flwor_fits (is_back_at n true) true s y ≡ true → names_are_spelled_at scope n y.body ≡ true →
        ContentsDiffer q n (s || has_for y.clauses) y.body →
        Becomes s (flwor_instr scope (back_at scope n) y)
        (outcome q (roll-Expr (Flwor (counted_flwor (counted_at n) y))))
    flwor_becomes s y h g d =
        let a = not (is_none_of y.clauses) in let b = clauses_fit y.clauses s in
        let c = rest_fits (has_for y.clauses) (is_back_at n true) true s y in
        let r = second a (b && c) h in
        subst (Becomes s (flwor_instr scope (back_at scope n) y))
        (sym (rolled q (Flwor (counted_flwor (counted_at n) y)) ∙ rolled_flwor q (form_of
        (map counted_clause y.clauses) y.test y.orders y.stable (counted_at n y.body))))
        (bracket_becomes IsSound values_kept sheet doors q programs (λ i. refl) (λ t xml. xml) s
        (clauses_instr scope y.clauses y.test y.orders (back_at scope n y.body)) _
        (flow_meets s y.clauses y.test y.orders y.stable y.body (first b c r) (has_for y.clauses) refl
        (second b c r) g d))

    element_case : (s : Bool) (name : NameSource) (inner : Expr) (x : NameForm) →
        out-NameSource name ≡ x → (is_fixed x && is_back_at n true s inner) ≡ true →
        (element_spelled scope x && names_are_spelled_at scope n inner) ≡ true →
        Differ q s (counted_at n inner) × ContentsDiffer q n s inner →
        Becomes s (element_instr scope x (back_at scope n inner))
        (outcome q (roll-Expr (ElemC name (counted_at n inner))))
    element_case s name inner (Fixed v) is h g d =
        subst (Becomes s (element_instr scope (Fixed v) (back_at scope n inner)))
        (sym (rolled q (ElemC name (counted_at n inner))
        ∙ ap (λ z. query.element_made q z (outcome q (counted_at n inner)))
        (name_is q name (Fixed v) is ∙ rolled_name q (Fixed v))))
        (element_becomes sheet doors q programs s v
        (first (is_sound_name v) (names_are_spelled_at scope n inner) g) (back_at scope n inner)
        (counted_at n inner)
        (body_meets s inner h (second (is_sound_name v) (names_are_spelled_at scope n inner) g) d.1) d.0)
    element_case s name inner (Computed v) is h g d = absurd cc

    attribute_case : (s : Bool) (name : NameSource) (value : Expr) (x : NameForm) →
        out-NameSource name ≡ x → (is_fixed x && is_leaf_at value s) ≡ true →
        attribute_spelled scope x ≡ true →
        Becomes s (attribute_instr scope x value) (outcome q (roll-Expr (AttrC name value)))
    attribute_case s name value (Fixed v) is h g =
        subst (Becomes s (attribute_instr scope (Fixed v) value))
        (sym (rolled q (AttrC name value)
        ∙ ap (λ z. query.attribute_made q z (outcome q value)) (name_is q name (Fixed v) is ∙ rolled_name q (Fixed v))))
        (attribute_becomes sheet doors q programs scope v value s g h)
    attribute_case s name value (Computed v) is h g = absurd cc

    form_becomes : (s : Bool) (x : ExprForm) → form_fits (is_back_at n true) true s x ≡ true →
        form_spelled scope (names_are_spelled_at scope n) x ≡ true →
        FormDiffers q (ContentsDiffer q n) (counted_at n) s x →
        Becomes s (form_instr scope (back_at scope n) x) (outcome q (counted_form (counted_at n) x))
    form_becomes s (Comma all) h g d =
        subst (Becomes s (flat_map (back_at scope n) all)) (sym (rolled q (Comma (map (counted_at n) all))))
        (commas s all h g d)
    form_becomes s (If arms other) h g d =
        let a = list_all (arm_fits (is_back_at n true s) s) arms in let b = is_back_at n true s other in
        let c = list_all (λ a. names_are_spelled_at scope n (out-Arm a).then) arms in
        let l = names_are_spelled_at scope n other in
        choice_becomes IsSound values_kept sheet doors q programs (λ i. refl) (λ t xml. xml) s
        (is_back_at n true s) (names_are_spelled_at scope n) (ContentsDiffer q n s) (back_at scope n)
        (counted_at n) (parts s) arms (first a b h) (first c l g) d.0 other (second a b h) (second c l g) d.1
    form_becomes s (Flwor f) h g d = flwor_becomes s (out-Flwor f) h g d
    form_becomes s (TextC e) h g d =
        subst (Becomes s (text_instr scope (out-Expr e)))
        (sym (rolled q (TextC e) ∙ ap query.text_made (expr_is q e))) (text_case s (out-Expr e) h)
    form_becomes s (ElemC name content) h g d =
        element_case s name content (out-NameSource name) refl h g d
    form_becomes s (AttrC name value) h g d = attribute_case s name value (out-NameSource name) refl h g
    form_becomes s (Int n) h g d = absurd cc
    form_becomes s (Str t) h g d = absurd cc
    form_becomes s (Var name) h g d = absurd cc
    form_becomes s Context h g d = absurd cc
    form_becomes s Root h g d = absurd cc
    form_becomes s (Or all) h g d = absurd cc
    form_becomes s (And all) h g d = absurd cc
    form_becomes s (Quant every binds test) h g d = absurd cc
    form_becomes s (General op a b) h g d = absurd cc
    form_becomes s (Value op a b) h g d = absurd cc
    form_becomes s (Is a b) h g d = absurd cc
    form_becomes s (Before a b) h g d = absurd cc
    form_becomes s (After a b) h g d = absurd cc
    form_becomes s (Range a b) h g d = absurd cc
    form_becomes s (Arith op a b) h g d = absurd cc
    form_becomes s (Minus a) h g d = absurd cc
    form_becomes s (Plus a) h g d = absurd cc
    form_becomes s (Union a b) h g d = absurd cc
    form_becomes s (Intersect a b) h g d = absurd cc
    form_becomes s (Except a b) h g d = absurd cc
    form_becomes s (InstanceOf a kind) h g d = absurd cc
    form_becomes s (Treat a kind) h g d = absurd cc
    form_becomes s (Castable a kind empty) h g d = absurd cc
    form_becomes s (Cast a kind empty) h g d = absurd cc
    form_becomes s (Slash a b) h g d = absurd cc
    form_becomes s (Step axis wanted tests) h g d = absurd cc
    form_becomes s (Filter of tests) h g d = absurd cc
    form_becomes s (Call name args) h g d = absurd cc
    form_becomes s (DocC content) h g d = absurd cc
    form_becomes s (CommentC content) h g d = absurd cc
    form_becomes s (PiC name content) h g d = absurd cc
    form_becomes s (Direct name attrs parts) h g d = absurd cc

    abbrev FitsSo : Bool → Bool → Expr → Bool
    FitsSo b s e = if b then is_leaf_at e s else form_fits (is_back_at n true) true s (out-Expr e)

    abbrev SpelledSo : Bool → Expr → Bool
    SpelledSo b e = if b then true else form_spelled scope (names_are_spelled_at scope n) (out-Expr e)

    level : (b s : Bool) (e : Expr) → FitsSo b s e ≡ true → SpelledSo b e ≡ true →
        UnlessLeaf q b (FormDiffers q (ContentsDiffer q n) (counted_at n) s (out-Expr e)) →
        Becomes s (if b then one (Sequence e) else form_instr scope (back_at scope n) (out-Expr e))
        (outcome q (if b then e else counted_form (counted_at n) (out-Expr e)))
    level true s e h g d =
        leaf_becomes IsSound values_kept sheet doors q programs (λ i. refl) (λ t xml. xml) s e h
    level false s e h g d = form_becomes s (out-Expr e) h g d

  pub whole : (n : ℕ) (s : Bool) (e : Expr) → is_back_at n true s e ≡ true →
      names_are_spelled_at scope n e ≡ true → ContentsDiffer q n s e →
      Becomes s (back_at scope n e) (outcome q (counted_at n e))
  unfolding is_back_at names_are_spelled_at ContentsDiffer back_at counted_at
  whole zero s e h g d = absurd cc
  whole (suc n) s e h g d = level n (whole n) (is_leaf e) s e h g d
