-- Stylesheets are carried from one number of calls to another.
use Rattle.std.proofs.Common.{◌≡◌, ℕ, List, [], ◌∷◌, length, map, refl, subst}
use Rattle.std.specs.Prelude.{Bool, true, false, ◌&&◌, zero, suc, if◌then◌else◌, Option, Some, None}
use Rattle.std.specs.Prelude.{option_and_then, option_map, slice_get, Result, Ok, Err}
use Rattle.std.specs.List.{list_all}
use Rattle.xt_names.specs.declared.codes.Code.{Code}
use Rattle.xt_names.specs.declared.codes.Code.TheVariants.{QueryStatic, SheetDynamic, SheetStatic}
use Rattle.xt_names.specs.declared.codes.QueryStaticCode.TheVariants.{XPST0017}
use Rattle.xt_names.specs.declared.codes.SheetDynamicCode.TheVariants.{XTDE0050}
use Rattle.xt_names.specs.declared.codes.SheetStaticCode.TheVariants.{XTSE0650}
use Rattle.xt_names.specs.declared.names.ExprName.{ExprName}
use Rattle.xt_tree.specs.declared.trees.Tree.{Tree}
use Rattle.xdm_items.specs.declared.items.Item.{Item}
use Rattle.xt_forms.specs.Regular.{every}
use Rattle.node_builder.specs.Made.{Made, Gives, Fails as Refuses}
use Rattle.node_builder.specs.Trees.{numbered, document_of}
use Rattle.node_builder.specs.declared.kinds.Duplicates.TheVariants.{KeepLast}
use Rattle.xt_sheets.specs.declared.sheets.Global.{Global}
use Rattle.xt_sheets.specs.declared.sheets.Rule.{Rule}
use Rattle.xt_sheets.specs.declared.sheets.Sheet.{Sheet}
use Rattle.xt_sheets.specs.declared.sheets.SheetFunction.{SheetFunction}
use Rattle.xt_sheets.specs.declared.sheets.Template.{Template}
use Rattle.closed_queries.specs.Closed.{is_good_kind}
use Rattle.closed_queries.specs.Texts.{is_sound_expr_name, is_sound_name_test}
use Rattle.closed_sheets.specs.Instrs.{is_good_body, is_good_bound}
use Rattle.closed_sheets.specs.Sheets.{are_sound_modes, has_good_parts, if_sound_name}
use Rattle.closed_sheets.specs.Sheets.{is_good_function, is_good_key, is_good_sheet_template}
use Rattle.closed_sheets.specs.Values.{is_good_pattern}
use Rattle.rule_order.specs.Rules.{rule_at}
use Rattle.xdm_items.specs.FunctionArguments.Arguments.{and_then as result_then}
use Rattle.expr_meaning.specs.Outcomes.Outcome.{OnEnds, Every, step_outcome}
use Rattle.expr_meaning.specs.SortMeaning.Sorted.{Placed}
use Rattle.expr_meaning.specs.Env.{Binding, Calls}
use Rattle.expr_meaning.specs.Making.{made_outcome}
use Rattle.expr_meaning.specs.Queries.{body_env, converted_to}
use Rattle.expr_laws.specs.Carrier.{AreGood, Carrier, IsMade, OnValue, ProgramsAgree}
use Rattle.expr_laws.proofs.Steps.{same_step}
use Rattle.transform_meaning.specs.Dispatch.{Doors, built_in_of}
use Rattle.transform_meaning.specs.Instrs.{body_does, bound_does}
use Rattle.transform_meaning.specs.Places.{alone, item_in, outset}
use Rattle.transform_meaning.specs.Sheets.{document_node, given_for, global_outcome, globals_from}
use Rattle.transform_meaning.specs.Sheets.{result_tree, sheet_outcome, tree_outcome, untyped}
use Rattle.transform_meaning.specs.Templates.{Run, bound_args, by_rule, called_function}
use Rattle.transform_meaning.specs.Templates.{calls_behind, doors_at, doors_before, entered}
use Rattle.transform_meaning.specs.Templates.{find_function, function_run, is_called}
use Rattle.transform_meaning.specs.Templates.{program_of, template_at, template_does, template_run}
use Rattle.transform_laws.specs.Meets.{AreSheetPlaces, AtPlaces, DoorsMeet, IsGoodFocus, IsGoodTree}
use Rattle.transform_laws.specs.Meets.{LeftMeets, MeaningsMeet, RunMeets, SheetsMake}
use Rattle.transform_laws.proofs.Bindings.{converted_meets, given_meets, template_meets}
use Rattle.transform_laws.proofs.Dispatch.{built_in_meets, entered_meets, one_good}
use Rattle.transform_laws.proofs.Keys.{keys_meet}
use Rattle.transform_laws.proofs.Values.{Asked, first, second}
use Rattle.transform_laws.proofs.Whole.{whole_body_meets, whole_bound_meets, whole_bounds_meet}

-- what is asked of a declaration, if there is one
abbrev IfAsked : {A : Type 0} → Carrier → (A → Bool) → Option A → Type 0
IfAsked c test None = Unit {0}
IfAsked c test (Some x) = Asked c (test x)

module _ (c : Carrier) where
  at_place : {A : Type 0} (test : A → Bool) (xs : List A) (i : ℕ) → Asked c (list_all test xs) →
      IfAsked c test (slice_get xs i)
  at_place test [] i h = tt
  at_place test (x ∷ xs) zero h = first c (test x) (list_all test xs) h
  at_place test (x ∷ xs) (suc i) h = at_place test xs i (second c (test x) (list_all test xs) h)

  called_asked : (fs : List SheetFunction) (name : ExprName) (arity : ℕ) →
      Asked c (list_all is_good_function fs) →
      IfAsked c is_good_function (find_function fs name arity)
  called_asked [] name arity h = tt
  called_asked (f ∷ fs) name arity h =
      by (is_called f name arity)
      (called_asked fs name arity (second c (is_good_function f) (list_all is_good_function fs) h))
    where
      by : (b : Bool) → IfAsked c is_good_function (find_function fs name arity) →
          IfAsked c is_good_function (if b then Some f else find_function fs name arity)
      by true g = first c (is_good_function f) (list_all is_good_function fs) h
      by false g = g

  -- the content of a function, and of a template with its parameters
  function_asked : (f : SheetFunction) → Asked c (is_good_function f) →
      Asked c (is_good_body f.body)
  unfolding is_good_function
  function_asked f h =
      let t = is_sound_expr_name f.name in let u = every (map is_good_bound f.params) in
      let v = is_good_kind f.kind in let w = is_good_body f.body in
      second c v w (second c u (v && w) (second c t (u && (v && w)) h))

  template_asked : (t : Template) → Asked c (is_good_sheet_template t) →
      Asked c (every (map is_good_bound t.params)) × Asked c (is_good_body t.body)
  unfolding is_good_sheet_template
  template_asked t h =
      let s = if_sound_name t.name in let u = every (map is_good_bound t.params) in
      let v = is_good_kind t.kind in let w = is_good_body t.body in
      let r = second c s (u && (v && w)) h in
      (first c u (v && w) r, second c v w (second c u (v && w) r))

record SheetAsked (c : Carrier) (sheet : Sheet) : Type 0 where
  globals : Asked c (every (map (λ g. is_good_bound g.bound) sheet.globals))
  templates : Asked c (list_all is_good_sheet_template sheet.templates)
  functions : Asked c (list_all is_good_function sheet.functions)

sheet_asked : (c : Carrier) (sheet : Sheet) → Asked c (has_good_parts sheet) → SheetAsked c sheet
unfolding has_good_parts
sheet_asked c sheet h =
    let t = every (map (λ g. is_good_bound g.bound) sheet.globals) in
    let u = list_all is_good_sheet_template sheet.templates in
    let v = list_all (λ r. is_good_pattern r.pattern) sheet.rules in
    let w = list_all is_good_function sheet.functions in
    let x = list_all is_good_key sheet.keys in
    let y = are_sound_modes sheet.modes in
    let z = list_all (λ r. is_sound_name_test r.test) sheet.space in
    let r = second c t (u && (v && (w && (x && (y && z))))) h in
    let s = second c u (v && (w && (x && (y && z)))) r in
    let o = second c v (w && (x && (y && z))) s in
    record {
      globals = first c t (u && (v && (w && (x && (y && z))))) h;
      templates = first c u (v && (w && (x && (y && z)))) r;
      functions = first c w (x && (y && z)) o;
    }

module _ (c : Carrier) (makes : IsMade c) (sheets : SheetsMake c)
    (places : AreSheetPlaces c) (run : Run) (meets : RunMeets c run) where
  asked : SheetAsked c run.sheet
  asked = sheet_asked c run.sheet meets.parts

  -- calls of functions
  bound_both : (name : ExprName) (r : Result (List Item) Code) (q : Result (List Binding) Code) →
      OnValue (Every c.good) r → OnValue (AreGood c.good) q →
      OnValue (AreGood c.good) (result_then r (λ ys. result_then q (λ bs. Ok ((name, ys) ∷ bs))))
  bound_both name (Ok ys) (Ok bs) h g = (h, g)
  bound_both name (Ok ys) (Err code) h g = tt
  bound_both name (Err code) q h g = tt

  args_known : (ps : List _) (args : List (List Item)) → Every (Every c.good) args →
      OnValue (AreGood c.good) (bound_args ps args)
  args_known [] args h = tt
  args_known (p ∷ ps) [] h = tt
  args_known (p ∷ ps) (xs ∷ args) h =
      bound_both p.name (converted_to p.kind xs) (bound_args ps args)
      (sheets.converted p.kind xs h.0) (args_known ps args h.1)

  function_meets : (f : SheetFunction) → Asked c (is_good_function f) → (bound : List Binding) →
      AreGood c.good bound → (d b : Doors) → DoorsMeet c d b → (k : ℕ) →
      c.rel (List Item) (Every c.good) (function_run run.sheet d f bound k)
      (function_run run.sheet b f bound k)
  function_meets f a bound g d b doors k =
      converted_meets c makes sheets f.kind (body_does run.sheet d f.body)
      (body_does run.sheet b f.body)
      (whole_body_meets c makes sheets places run.sheet d b doors f.body (function_asked c f a))
      (body_env bound) (body_env bound) (places.body bound g) k

  called_meets : (l r : Option Doors) → LeftMeets c l r → (o : Option SheetFunction) →
      IfAsked c is_good_function o → (args : List (List Item)) → Every (Every c.good) args →
      (k : ℕ) → c.rel (List Item) (Every c.good) (called_function run.sheet l o args k)
      (called_function run.sheet r o args k)
  called_meets l r left None a args g k = c.carries.fails _ _ (QueryStatic XPST0017)
  called_meets l r left (Some f) a args g k =
      c.carries.next _ _ (AreGood c.good) (Every c.good) (step_outcome (bound_args f.params args) k)
      (step_outcome (bound_args f.params args) k) _ _
      (same_step c (AreGood c.good) (bound_args f.params args) (args_known f.params args g) k)
      (λ bound j h. left (λ d. function_run run.sheet d f bound)
      (λ b. function_run run.sheet b f bound)
      (λ d b doors i. function_meets f a bound h d b doors i) j)

  calls_meet : (l r : Option Doors) → LeftMeets c l r → (name : ExprName)
      (args : List (List Item)) → Every (Every c.good) args → (k : ℕ) →
      c.rel (List Item) (Every c.good) (calls_behind run.sheet l name args k)
      (calls_behind run.sheet r name args k)
  calls_meet l r left name args g k =
      called_meets l r left (find_function run.sheet.functions name (length args))
      (called_asked c run.sheet.functions name (length args) asked.functions) args g k

  programs_agree : (globals : List Binding) → AreGood c.good globals → (p q : Calls) →
      ((name : ExprName) (args : List (List Item)) → Every (Every c.good) args → (k : ℕ) →
      c.rel (List Item) (Every c.good) (p name args k) (q name args k)) →
      ProgramsAgree c (program_of run globals p) (program_of run globals q)
  programs_agree globals g p q h = record {
    meet = record {
      calls = λ name o args g k. h name args g k;
      document = λ xs. refl;
      documents = meets.documents globals p;
      variables = λ s e f v name o. meets.same_variable globals p q s e f v name;
      variable = λ s e f v name o. meets.variable globals g p s e f v name;
    };
    keys = λ name values root n k. keys_meet c sheets run.document run.documents meets.trees
        run.sheet.keys name values root n k;
    namespaces = refl;
    element_default = refl;
    element_names = meets.names;
    attribute_names = meets.names;
  }

  -- templates and rules
  run_meets : (d b : Doors) → DoorsMeet c d b → (o : Option Template) →
      IfAsked c is_good_sheet_template o → (passed : List Binding) → AreGood c.good passed →
      MeaningsMeet c (template_run run.sheet d o passed) (template_run run.sheet b o passed)
  run_meets d b doors None a passed g e f s k = c.carries.fails _ _ (SheetStatic XTSE0650)
  run_meets d b doors (Some t) a passed g e f s k =
      let parts = template_asked c t a in
      template_meets c makes sheets places (template_does run.sheet d t)
      (template_does run.sheet b t) (record {
        params = whole_bounds_meet c makes sheets places run.sheet d b doors t.params parts.0;
        kind = refl;
        body = whole_body_meets c makes sheets places run.sheet d b doors t.body parts.1;
      }) passed g e f s k

  template_at_meets : (d b : Doors) → DoorsMeet c d b → (place : ℕ) (passed : List Binding) →
      AreGood c.good passed →
      MeaningsMeet c (template_at run.sheet d place passed) (template_at run.sheet b place passed)
  template_at_meets d b doors place passed g =
      run_meets d b doors (slice_get run.sheet.templates place)
      (at_place c is_good_sheet_template run.sheet.templates place asked.templates) passed g

  item_good : (o : Option (Placed Item)) → IsGoodFocus c.good o → (x : Item) →
      item_in o ≡ Some x → c.good x
  item_good None h x e = absurd cc
  item_good (Some p) h x e = let same : p.value ≡ x = cc in subst c.good same (h p refl)

  rule_meets : (d b : Doors) → DoorsMeet c d b → (o : Option Rule) (passed : List Binding) →
      AreGood c.good passed →
      MeaningsMeet c (by_rule run.sheet d o passed) (by_rule run.sheet b o passed)
  rule_meets d b doors None passed g e f s k =
      subst (λ w. c.rel (List Item) (Every c.good) (by_rule run.sheet d None passed e k)
      (built_in_of run.sheet.rules b passed (item_in w) f k))
      ((places.alike.focus c.inner).same e f s)
      (built_in_meets c places sheets d b doors makes run.sheet.rules passed g (item_in e.focus)
      (item_good e.focus ((places.alike.focus c.inner).item e f s)) e f s k)
  rule_meets d b doors (Some r) passed g e f s k =
      template_at_meets d b doors r.template passed g e f s k

  entered_whole : (d b : Doors) → DoorsMeet c d b → (passed : List Binding) →
      AreGood c.good passed →
      MeaningsMeet c (entered run.sheet d passed) (entered run.sheet b passed)
  entered_whole d b doors passed g e f s k =
      subst (λ w. c.rel (List Item) (Every c.good) (entered run.sheet d passed e k)
      (by_rule run.sheet b (option_and_then (rule_at run.sheet.rules) w.rule) passed f k))
      (places.alike.state c.inner e f s)
      (rule_meets d b doors (option_and_then (rule_at run.sheet.rules) e.state.rule) passed g e f s
      k)

  pub doors_meet : (globals : List Binding) → AreGood c.good globals → (l r : Option Doors) →
      LeftMeets c l r → DoorsMeet c (doors_before run globals l) (doors_before run globals r)
  doors_meet globals g l r left = record {
    programs = programs_agree globals g (calls_behind run.sheet l) (calls_behind run.sheet r)
        (calls_meet l r left);
    enter = λ passed h e f s k. left (λ d. entered run.sheet d passed e)
        (λ b. entered run.sheet b passed f)
        (λ d b doors i. entered_whole d b doors passed h e f s i) k;
    named = λ place passed h e f s k. left (λ d. template_at run.sheet d place passed e)
        (λ b. template_at run.sheet b place passed f)
        (λ d b doors i. template_at_meets d b doors place passed h e f s i) k;
  }

  -- globals and the whole run
  module _ (n m : ℕ) (all : (globals : List Binding) → AreGood c.good globals →
      DoorsMeet c (doors_at run globals n) (doors_at run globals m)) where
    known : c.good (document_node run)
    known = meets.trees 0 run.document refl

    outset_meets : AtPlaces c (outset (document_node run)) (outset (document_node run))
    outset_meets =
        places.entry (Some (alone (document_node run)))
        (one_good c places (alone (document_node run)) known) None 0 [] tt

    global_meets : (d b : Doors) → DoorsMeet c d b → (g : Global) →
        Asked c (is_good_bound g.bound) → (k : ℕ) →
        c.rel (List Item) (Every c.good) (global_outcome run d g k)
        (global_outcome run b g k)
    global_meets d b doors g a k =
        given_meets c makes sheets (SheetDynamic XTDE0050) (bound_does run.sheet d g.bound)
        (bound_does run.sheet b g.bound)
        (whole_bound_meets c makes sheets places run.sheet d b doors g.bound a)
        (option_map untyped (given_for run.given g.param g.bound.name))
        (meets.given g.param g.bound.name) (outset (document_node run))
        (outset (document_node run)) outset_meets k

    globals_meet : (gs : List Global) → Asked c (every (map (λ g. is_good_bound g.bound) gs)) →
        (globals : List Binding) → AreGood c.good globals → (k : ℕ) →
        c.rel (List Binding) (AreGood c.good) (globals_from run n gs globals k)
        (globals_from run m gs globals k)
    globals_meet [] a globals g k = c.carries.ends _ (AreGood c.good) globals k g
    globals_meet (x ∷ gs) a globals g k =
        let t = is_good_bound x.bound in let u = every (map (λ g. is_good_bound g.bound) gs) in
        c.carries.next _ _ (Every c.good) (AreGood c.good)
        (global_outcome run (doors_at run globals n) x k)
        (global_outcome run (doors_at run globals m) x k) _ _
        (global_meets (doors_at run globals n) (doors_at run globals m) (all globals g) x
        (first c t u a) k)
        (λ xs j h. globals_meet gs (second c t u a) ((x.bound.name, xs) ∷ globals) (h, g) j)

    result_meets : (xs : List Item) → Every c.good xs → (k : ℕ) →
        c.rel Tree (IsGoodTree c) (result_tree xs k) (result_tree xs k)
    result_meets xs g k =
        by (numbered k (document_of KeepLast xs)) (sheets.document xs g k)
      where
        by : (t : Made Tree) → OnEnds (Every c.good) (made_outcome k t) →
            c.rel Tree (IsGoodTree c) (tree_outcome k t) (tree_outcome k t)
        by (Gives t) h = c.carries.ends _ (IsGoodTree c) t _ (k, h.0)
        by (Refuses code) h = c.carries.fails _ _ code

    pub sheet_meets : (k : ℕ) →
        c.rel Tree (IsGoodTree c) (sheet_outcome run n k) (sheet_outcome run m k)
    sheet_meets k =
        c.carries.next _ _ (AreGood c.good) (IsGoodTree c)
        (globals_from run n run.sheet.globals [] k)
        (globals_from run m run.sheet.globals [] k) _ _
        (globals_meet run.sheet.globals asked.globals [] tt k) (λ globals j g.
        c.carries.next _ _ (Every c.good) (IsGoodTree c) _ _ _ _
        (entered_meets c places run.sheet.rules (doors_at run globals n) (doors_at run globals m)
        (all globals g) 0 (record { ordinary = []; tunnel = [] })
        (record { ordinary = tt; tunnel = tt }) (alone (document_node run)) j known)
        (λ xs i h. result_meets xs h i))
