-- In their order globals come after those on which they depend.
use Rattle.std.proofs.Common.{◌≡◌, ◌≤◌, ◌<◌, ℕ, zero, suc, ◌+◌, ◌-◌, List, [], ◌∷◌, ◌++◌, map, length}
use Rattle.std.proofs.Common.{take, Bool, true, false, cond, Some, get_or}
use Rattle.std.proofs.Common.{slice_get, nat_eq, nat_lt, refl, sym, ap, subst, ◌∙◌, arith, inl, inr}
use Rattle.std.proofs.Common.{length-append}
use Rattle.std.proofs.lemmas.Bool.{and_parts, and_from, or_cases, or_left, or_right, eqb-true, eq-eqb}
use Rattle.std.proofs.lemmas.Bool.{lt-ltb, le-ltb, cases_lt}
use Rattle.std.proofs.lemmas.List.{length-map}
use Rattle.std.proofs.lemmas.List.Folds.{list_any-append, list_all-append}
use Rattle.std.proofs.lemmas.Option.{same_Some, none-some}
use Rattle.std.specs.List.{list_all, position}
use Rattle.xt_names.specs.declared.names.ExprName.{ExprName}
use Rattle.xt_sheets.specs.declared.sheets.Global.{Global}
use Rattle.xt_sheets.specs.declared.sheets.Sheet.{Sheet}
use Rattle.name_rules.specs.declared.functions.Signature.{Signature}
use Rattle.name_rules.specs.Scopes.{names_differ, same_signature, signature}
use Rattle.global_order.specs.ReachedPlaces.Walks.{led_to, has, Reaches, itself, further, reached_from}
use Rattle.global_order.proofs.ReachedPlaces.WalkLemmas.{all_reached, all_inner, are_reached}
use Rattle.global_order.specs.GraphOrders.Needs.{target, targets, needs_of, needs_from}
use Rattle.global_order.specs.GraphOrders.Behind.{all_below, are_behind}
use Rattle.global_order.specs.Order.{InOrder, is_in, is_ready, Graph}
use Rattle.global_order.proofs.OrderLemmas.{order-in_order}
use Rattle.global_needs.specs.Shapes.{shape_of, variables_of}
use Rattle.global_needs.specs.Rows.{global_row, function_row, template_row, no_row}
use Rattle.global_needs.specs.Needs.{graph_of, all_needs, needs}
use Rattle.sheet_uses.specs.Bodies.{bound_uses, callee_uses}
use Rattle.sheet_assembly.specs.Named.{ordered}
use Rattle.sheet_assembly.specs.Sheets.{Parts, sheet_of}
use Rattle.assembly_laws.specs.SheetClosure.Declared.{global_name}
use Rattle.assembly_laws.specs.SheetClosure.Numbers.{has_order}
use Rattle.assembly_laws.proofs.Globals.{globals_differ}
use Rattle.assembly_laws.proofs.Rules.{rules_have}
use Rattle.declared_uses.specs.Orders.{places_in, put_in_order, AreAllInOrder, HasEachGlobal}
use Rattle.declared_uses.proofs.Orders.{no_longer, needs_each}
use Rattle.declared_uses.proofs.OrderedGlobals.Places.{at_place, stands_at, find_before, one_place}
use Rattle.declared_uses.proofs.OrderedGlobals.Tables.{table_whole, position_of, found_at_place, some_there}
use Rattle.declared_uses.proofs.OrderedGlobals.Tables.{ordered_length, ordered_at}
use Rattle.declared_uses.proofs.OrderedGlobals.Rows.{Reordered, moved, moved_global, moved_named, Alike}
use Rattle.declared_uses.proofs.OrderedGlobals.Rows.{AllFollow, Follows, leads_follow, more_follow, kind_behind}
use Rattle.declared_uses.proofs.OrderedGlobals.Rows.{nothing_follows, rules_alike}
use Rattle.declared_uses.proofs.OrderedGlobals.Names.{names_apart}

-- the row of a place
row_of : (k i : ℕ) (g : Graph) (at n : ℕ) → n < k
    → get_or (needs_from k i g at) n [] ≡ needs_of g at (i + n)
row_of zero i g at n less = absurd (omega (arith, less))
row_of (suc k) i g at zero less = ap (needs_of g at) (let e : i ≡ i + 0 = omega arith in e)
row_of (suc k) i g at (suc n) less =
    row_of k (suc i) g at n (omega (arith, less))
    ∙ ap (needs_of g at) (let e : suc i + n ≡ i + suc n = omega arith in e)

-- the targets among places
target_has : (at n : ℕ) → has (target at (at + n)) n ≡ true
target_has at n =
    ap (λ (b : Bool). has (cond b [] ((at + n - at) ∷ [])) n)
    (le-ltb (at + n) at (let e : at ≤ at + n = omega arith in e))
    ∙ or_left (nat_eq n (at + n - at)) false (eq-eqb n (at + n - at) (let e : n ≡ at + n - at = omega arith in e))

targets_have : (at n : ℕ) (ps : List ℕ) → has ps (at + n) ≡ true → has (targets at ps) n ≡ true
targets_have at n [] h = absurd cc
targets_have at n (p ∷ ps) h =
    list_any-append (nat_eq n) (target at p) (targets at ps)
    ∙ elim (or_cases (nat_eq (at + n) p) (has ps (at + n)) h) [
      | inl e ↦ or_left (has (target at p) n) _
          (subst (λ (q : ℕ). has (target at q) n ≡ true) (eqb-true (at + n) p e) (target_has at n))
      | inr k ↦ or_right (has (target at p) n) _ (targets_have at n ps k)
    ]

one_below : (at p most : ℕ) → (at ≤ p → p - at < most) → all_below most (target at p) ≡ true
one_below at p most f = elim (cases_lt p at) [
  | inl less ↦ ap (λ (b : Bool). all_below most (cond b [] ((p - at) ∷ []))) (lt-ltb p at less)
  | inr past ↦
      ap (λ (b : Bool). all_below most (cond b [] ((p - at) ∷ []))) (le-ltb p at past)
      ∙ and_from (nat_lt (p - at) most) true (lt-ltb (p - at) most (f past)) refl
]

self_has : (p : ℕ) (ps : List ℕ) → has (p ∷ ps) p ≡ true
self_has p ps = or_left (nat_eq p p) _ (eq-eqb p p refl)

targets_below : (at most : ℕ) (ps : List ℕ)
    → ((p : ℕ) → has ps p ≡ true → at ≤ p → p - at < most)
    → all_below most (targets at ps) ≡ true
targets_below at most [] f = refl
targets_below at most (p ∷ ps) f =
    list_all-append (λ n. nat_lt n most) (target at p) (targets at ps)
    ∙ and_from _ _ (one_below at p most (f p (self_has p ps)))
    (targets_below at most ps (λ q h. f q (or_right (nat_eq q p) _ h)))

-- what is needed is done
ready_done : (done needs : List ℕ) (n : ℕ) → is_ready done needs ≡ true → has needs n ≡ true
    → is_in done n ≡ true
unfolding is_ready
ready_done done [] n r h = absurd cc
ready_done done (m ∷ needs) n r h =
    let k = and_parts (is_in done m) _ r in
    elim (or_cases (nat_eq n m) (has needs n) h) [
      | inl e ↦ subst (λ (i : ℕ). is_in done i ≡ true) (sym (eqb-true n m e)) k.0
      | inr i ↦ ready_done done needs n k.1 i
    ]

-- all from a place on
behind_from : (k p : ℕ) (g : Graph) (at : ℕ)
    → ((q : ℕ) → p ≤ q → q < p + k → all_below q (needs_of g at q) ≡ true)
    → are_behind p (needs_from k p g at) ≡ true
behind_from zero p g at f = refl
behind_from (suc k) p g at f =
    and_from _ _ (f p (omega arith) (omega arith))
    (subst (λ (q : ℕ). are_behind q (needs_from k (suc p) g at) ≡ true)
    (let e : suc p ≡ p + 1 = omega arith in e)
    (behind_from k (suc p) g at (λ q from to. f q (omega (arith, from)) (omega (arith, to)))))

-- a stylesheet whose globals have different names, and an order that leaves out none
module _ (s : Sheet) (js : List ℕ) (names : names_differ (map global_name s.globals) ≡ true)
    (new_names : names_differ (map global_name (ordered s.globals js)) ≡ true)
    (templates : list_all (λ r. nat_lt r.template (length s.templates)) s.rules ≡ true)
    (in_order : InOrder (needs s) [] js) (whole : length js ≡ length s.globals) where
  abbrev globals : List Global
  globals = ordered s.globals js

  abbrev table : List Signature
  table = variables_of globals

  abbrev old : List Signature
  old = variables_of s.globals

  abbrev put : Sheet
  put = record s { globals = globals }

  within : (k : ℕ) → k < length js → at_place js k < length s.globals
  within k less =
      let low = (stands_at (needs s) [] js in_order k less).within in
      let same = needs_each s in
      omega (arith, low, same)

  many : length globals ≡ length s.globals
  many = ordered_length s.globals js within ∙ whole

  same_place : (n : ExprName) (k : ℕ) → k < length s.globals
      → position (same_signature (signature n 0)) table ≡ Some k
      → position (same_signature (signature n 0)) (variables_of s.globals) ≡ Some (at_place js k)
  same_place n k less e =
      let own = found_at_place globals n k
      (ap (position (same_signature (signature n 0))) (sym (table_whole globals new_names)) ∙ e) in
      ap (position (same_signature (signature n 0))) (table_whole s.globals names)
      ∙ position_of s.globals n (at_place js k) own.global names
      (sym (ordered_at s.globals js within k (omega (arith, less, whole))) ∙ own.there) own.named

  reordered : Reordered s table js
  reordered = record {
    first = refl;
    second = refl;
    third = refl;
    fourth = refl;
    fifth = refl;
    places = λ k less. within k (omega (arith, less, whole));
    same = same_place;
  }

  abbrev goes : ℕ → ℕ
  goes = moved s table js reordered

  -- the shape of the stylesheet in order
  same_shape : shape_of put ≡ (record (shape_of s) { variables = table })
  same_shape =
      ap (λ (n : ℕ). record (shape_of s) {
        variables = table;
        globals = n;
        functions_at = n;
        templates_at = n + length s.functions;
        rules_at = n + length s.functions + length s.templates;
        modes_at = n + length s.functions + length s.templates + length s.templates;
        globals_at =
            n + length s.functions + length s.templates + length s.templates + length s.modes;
      }) many

  -- the rows of the globals
  global_follows : (x : ℕ)
      → Follows s table js reordered
      (led_to (map (global_row (record (shape_of s) { variables = table })) globals) x)
      (led_to (map (global_row (shape_of s)) s.globals) (goes x))
  global_follows x y h = elim (cases_lt x (length globals)) [
    | inl less ↦
        let here = some_there globals x less in
        let old : slice_get s.globals (at_place js x) ≡ Some here.global =
        sym (ordered_at s.globals js within x (omega (arith, less, many, whole))) ∙ here.there in
        let place : goes x ≡ at_place js x = moved_global s table js reordered x (within_new less) in
        subst (λ (z : ℕ). has (led_to (map (global_row (shape_of s)) s.globals) z) (goes y) ≡ true)
        (sym place)
        (ap (λ (row : List ℕ). has row (goes y)) (row_at (global_row (shape_of s)) s.globals (at_place js x)
        here.global old)
        ∙ leads_follow s table js reordered false ((bound_uses here.global.bound).source [] []) y
        (sym (ap (λ (row : List ℕ). has row y)
        (row_at (global_row (record (shape_of s) { variables = table })) globals x here.global
        here.there)) ∙ h))
    | inr past ↦ absurd (let no : has [] y ≡ true =
        sym (ap (λ (row : List ℕ). has row y)
        (no_row_at (global_row (record (shape_of s) { variables = table })) globals x past)) ∙ h in cc)
  ]
    where
      within_new : x < length globals → x < length s.globals
      within_new less = omega (arith, less, many)

      row_at : (row : Global → List ℕ) (gs : List Global) (i : ℕ) (g : Global)
          → slice_get gs i ≡ Some g → led_to (map row gs) i ≡ row g
      row_at row [] i g e = absurd (none-some _ e)
      row_at row (f ∷ gs) zero g e = ap row (same_Some _ _ e)
      row_at row (f ∷ gs) (suc i) g e = row_at row gs i g e

      no_row_at : (row : Global → List ℕ) (gs : List Global) (i : ℕ) → length gs ≤ i
          → led_to (map row gs) i ≡ []
      no_row_at row [] zero past = refl
      no_row_at row [] (suc i) past = refl
      no_row_at row (f ∷ gs) zero past = absurd (omega (arith, past))
      no_row_at row (f ∷ gs) (suc i) past = no_row_at row gs i (omega (arith, past))

  -- the rows of each kind after those before
  abbrev l0 : List Signature → List Global → Graph
  l0 vs gs = map (global_row (record (shape_of s) { variables = vs })) gs

  abbrev l1 : List Signature → List Global → Graph
  l1 vs gs = l0 vs gs ++ map (function_row (record (shape_of s) { variables = vs })) s.functions

  abbrev l2 : List Signature → List Global → Graph
  l2 vs gs = l1 vs gs ++ map (template_row (record (shape_of s) { variables = vs }) false) s.templates

  abbrev l3 : List Signature → List Global → Graph
  l3 vs gs = l2 vs gs ++ map (template_row (record (shape_of s) { variables = vs }) true) s.templates

  abbrev l4 : List Signature → List Global → Graph
  l4 vs gs = l3 vs gs ++ map no_row s.modes

  abbrev l5 : List Signature → List Global → Graph
  l5 vs gs = l4 vs gs ++ map no_row gs

  module _ (vs : List Signature) (gs : List Global) (e : length gs ≡ length s.globals) where
    size0 : length (l0 vs gs) ≡ (shape_of s).functions_at
    size0 = length-map gs (global_row (record (shape_of s) { variables = vs })) ∙ e

    size1 : length (l1 vs gs) ≡ (shape_of s).templates_at
    size1 =
        length-append (l0 vs gs) (map (function_row (record (shape_of s) { variables = vs })) s.functions)
        ∙ ap (λ (n : ℕ). n + length (map (function_row (record (shape_of s) { variables = vs })) s.functions)) size0
        ∙ ap (λ (n : ℕ). length s.globals + n) (length-map s.functions (function_row (record (shape_of s) { variables = vs })))

    size2 : length (l2 vs gs) ≡ (shape_of s).rules_at
    size2 =
        length-append (l1 vs gs) (map (template_row (record (shape_of s) { variables = vs }) false) s.templates)
        ∙ ap (λ (n : ℕ). n + length (map (template_row (record (shape_of s) { variables = vs }) false) s.templates)) size1
        ∙ ap (λ (n : ℕ). (shape_of s).templates_at + n)
        (length-map s.templates (template_row (record (shape_of s) { variables = vs }) false))

    size3 : length (l3 vs gs) ≡ (shape_of s).modes_at
    size3 =
        length-append (l2 vs gs) (map (template_row (record (shape_of s) { variables = vs }) true) s.templates)
        ∙ ap (λ (n : ℕ). n + length (map (template_row (record (shape_of s) { variables = vs }) true) s.templates)) size2
        ∙ ap (λ (n : ℕ). (shape_of s).rules_at + n)
        (length-map s.templates (template_row (record (shape_of s) { variables = vs }) true))

    size4 : length (l4 vs gs) ≡ (shape_of s).globals_at
    size4 =
        length-append (l3 vs gs) (map no_row s.modes)
        ∙ ap (λ (n : ℕ). n + length (map (no_row {A = ExprName}) s.modes)) size3
        ∙ ap (λ (n : ℕ). (shape_of s).modes_at + n) (length-map s.modes no_row)

    size5 : length (l5 vs gs) ≡ (shape_of s).globals_at + (shape_of s).globals
    size5 =
        length-append (l4 vs gs) (map no_row gs)
        ∙ ap (λ (n : ℕ). n + length (map (no_row {A = Global}) gs)) size4
        ∙ ap (λ (n : ℕ). (shape_of s).globals_at + n) (length-map gs no_row ∙ e)

  -- the kinds come after the globals, and before the globals as they are named
  abbrev many_globals : ℕ
  many_globals = length s.globals

  abbrev many_functions : ℕ
  many_functions = length s.functions

  abbrev many_templates : ℕ
  many_templates = length s.templates

  abbrev many_modes : ℕ
  many_modes = length s.modes

  functions_fit : many_globals + many_functions
      ≤ many_globals + many_functions + many_templates + many_templates + many_modes
  functions_fit = omega arith

  called_behind : many_globals ≤ many_globals + many_functions
  called_behind = omega arith

  called_fit : many_globals + many_functions + many_templates
      ≤ many_globals + many_functions + many_templates + many_templates + many_modes
  called_fit = omega arith

  ruled_behind : many_globals ≤ many_globals + many_functions + many_templates
  ruled_behind = omega arith

  ruled_fit : many_globals + many_functions + many_templates + many_templates
      ≤ many_globals + many_functions + many_templates + many_templates + many_modes
  ruled_fit = omega arith

  none_before : many_globals ≤ many_globals
  none_before = omega arith

  abbrev TheyFollow : (List Signature → List Global → Graph) → Type 0
  TheyFollow l = AllFollow s table js reordered (l table globals) (l old s.globals)

  follow1 : TheyFollow l1
  follow1 =
      more_follow s table js reordered (l0 table globals) (l0 old s.globals)
      (map (function_row (record (shape_of s) { variables = table })) s.functions)
      (map (function_row (shape_of s)) s.functions) (shape_of s).functions_at
      (size0 table globals many) global_follows
      (kind_behind s table js reordered (function_row (record (shape_of s) { variables = table })) (function_row (shape_of s))
      (λ f. leads_follow s table js reordered false (callee_uses f.params f.body [] []))
      s.functions (l0 old s.globals) (shape_of s).functions_at (size0 old s.globals refl)
      none_before functions_fit)

  follow2 : TheyFollow l2
  follow2 =
      more_follow s table js reordered (l1 table globals) (l1 old s.globals)
      (map (template_row (record (shape_of s) { variables = table }) false) s.templates)
      (map (template_row (shape_of s) false) s.templates)
      (shape_of s).templates_at (size1 table globals many) follow1
      (kind_behind s table js reordered (template_row (record (shape_of s) { variables = table }) false) (template_row (shape_of s) false)
      (λ t. leads_follow s table js reordered false (callee_uses t.params t.body [] []))
      s.templates (l1 old s.globals) (shape_of s).templates_at (size1 old s.globals refl)
      called_behind called_fit)

  follow3 : TheyFollow l3
  follow3 =
      more_follow s table js reordered (l2 table globals) (l2 old s.globals)
      (map (template_row (record (shape_of s) { variables = table }) true) s.templates)
      (map (template_row (shape_of s) true) s.templates)
      (shape_of s).rules_at (size2 table globals many) follow2
      (kind_behind s table js reordered (template_row (record (shape_of s) { variables = table }) true) (template_row (shape_of s) true)
      (λ t. leads_follow s table js reordered true (callee_uses t.params t.body [] []))
      s.templates (l2 old s.globals) (shape_of s).rules_at (size2 old s.globals refl)
      ruled_behind ruled_fit)

  follow4 : TheyFollow l4
  follow4 =
      more_follow s table js reordered (l3 table globals) (l3 old s.globals)
      (map no_row s.modes) (map no_row s.modes) (shape_of s).modes_at (size3 table globals many) follow3
      (nothing_follows s table js reordered s.modes (l4 old s.globals) (shape_of s).modes_at)

  follow5 : TheyFollow l5
  follow5 =
      more_follow s table js reordered (l4 table globals) (l4 old s.globals)
      (map no_row globals) (map no_row s.globals) (shape_of s).globals_at (size4 table globals many) follow4
      (nothing_follows s table js reordered globals (l5 old s.globals) (shape_of s).globals_at)

  abbrev old_graph : Graph
  old_graph = graph_of (shape_of s) s

  abbrev new_graph : Graph
  new_graph = graph_of (record (shape_of s) { variables = table }) put

  alike : Alike s table js reordered new_graph old_graph
  alike =
      rules_alike s table js reordered (l5 table globals) (l5 old s.globals) s.rules templates
      (record {
        size = size5 table globals many;
        other_size = size5 old s.globals refl;
        follow = follow5;
      })

  -- what is reached
  carried : (x y : ℕ) → Reaches new_graph x y → Reaches old_graph (goes x) (goes y)
  carried x _ itself = itself
  carried x _ (further i j r h) =
      further (goes i) (goes j) (carried x i r) (alike.follow i j h)

  needed : (q k : ℕ) → q < length js → k < length js
      → Reaches old_graph (at_place js q) ((shape_of s).globals_at + at_place js k) → k < q
  needed q k there also r =
      let low = within q there in
      let other = within k also in
      let size = alike.other_size in
      let each : (shape_of s).globals ≡ length s.globals = refl in
      let found = (are_reached old_graph (at_place js q) (reached_from old_graph (at_place js q)) refl
      (omega (arith, low, size, each)) ((shape_of s).globals_at + at_place js k)
      (omega (arith, other, size, each))).1 r in
      let wanted : has (get_or (needs s) (at_place js q) []) (at_place js k) ≡ true =
      ap (λ (row : List ℕ). has row (at_place js k))
      (row_of (length s.globals) 0 old_graph (shape_of s).globals_at (at_place js q) low
      ∙ ap (needs_of old_graph (shape_of s).globals_at)
      (let e : 0 + at_place js q ≡ at_place js q = omega arith in e))
      ∙ targets_have (shape_of s).globals_at (at_place js k) (reached_from old_graph (at_place js q)) found in
      let b = find_before js q (at_place js k)
      (ready_done (take q js) (get_or (needs s) (at_place js q) []) (at_place js k)
      (stands_at (needs s) [] js in_order q there).ready wanted) in
      let same = one_place (needs s) js in_order b.place k b.there also b.is in
      let less = b.less in
      omega (arith, same, less)

  row_below : (q : ℕ) → q < length globals
      → all_below q (needs_of new_graph (shape_of s).globals_at q) ≡ true
  row_below q less =
      let size = alike.size in
      let each : (shape_of s).globals ≡ length s.globals = refl in
      let here : q < length new_graph = omega (arith, less, many, size, each) in
      targets_below (shape_of s).globals_at q (reached_from new_graph q)
      (λ p h past.
      let inner = all_inner new_graph q here p h in
      let k = p - (shape_of s).globals_at in
      let is : p ≡ (shape_of s).globals_at + k = omega (arith, past) in
      let r : Reaches old_graph (goes q) (goes p) =
      carried q p (all_reached new_graph q p h) in
      let from : goes q ≡ at_place js q =
      moved_global s table js reordered q (omega (arith, less, many, each)) in
      let to : goes p ≡ (shape_of s).globals_at + at_place js k =
      ap goes is ∙ moved_named s table js reordered k in
      needed q k (omega (arith, less, many, whole)) (omega (arith, inner, size, is, whole, each))
      (subst (λ (z : ℕ). Reaches old_graph (at_place js q) z) to
      (subst (λ (z : ℕ). Reaches old_graph z (goes p)) from r)))

  pub put_behind : are_behind 0 (needs put) ≡ true
  put_behind =
      subst (λ sh. are_behind 0 (all_needs sh put) ≡ true) (sym same_shape)
      (behind_from (length globals) 0 new_graph (shape_of s).globals_at
      (λ q from to. row_below q (omega (arith, to))))

pub globals_behind : (p : Parts) → HasEachGlobal p → AreAllInOrder (sheet_of p)
    → has_order (put_in_order (sheet_of p)) ≡ true
unfolding has_order
globals_behind p each_global long =
    let s = sheet_of p in
    let js = places_in s in
    let ds = p.declarations in
    let o = order-in_order (needs s) js refl in
    let most = no_longer (needs s) js o in
    let same = needs_each s in
    put_behind s js
    (subst (λ (gs : List Global). names_differ (map global_name gs) ≡ true) (sym each_global)
    (names_apart ds))
    (subst (λ (gs : List Global). names_differ (map global_name (ordered gs js)) ≡ true)
    (sym each_global) (globals_differ ds (needs s) js o))
    (rules_have p) o (omega (arith, long, most, same))
