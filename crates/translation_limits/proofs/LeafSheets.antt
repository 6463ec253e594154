-- Closed stylesheets have regular expressions that nest at most 40 levels, and so their queries keep the
-- limits.
use Rattle.std.proofs.Common.{◌≡◌, ◌≤◌, List, [], ◌∷◌, map, refl}
use Rattle.std.proofs.lemmas.Bool.{and_from, leb-true}
use Rattle.std.specs.Prelude.{true, false, not, ◌&&◌, ◌||◌, nat_le}
use Rattle.std.specs.List.{list_all}
use Rattle.xt_forms.specs.Regular.{every}
use Rattle.xt_sheets.specs.declared.sheets.Global.{Global}
use Rattle.xt_sheets.specs.declared.sheets.KeyRule.{KeyRule}
use Rattle.xt_sheets.specs.declared.sheets.Sheet.{Sheet}
use Rattle.xt_sheets.specs.declared.sheets.SheetFunction.{SheetFunction}
use Rattle.xt_sheets.specs.declared.sheets.Template.{Template}
use Rattle.name_rules.specs.Scopes.{names_differ}
use Rattle.sheet_expressions.specs.Uses.{is_key_use}
use Rattle.closed_sheets.specs.SheetForms.SheetNest.{sheet_nest_of}
use Rattle.closed_queries.specs.Closed.{is_good_kind}
use Rattle.closed_queries.specs.Texts.{is_sound_expr_name, is_sound_name_test}
use Rattle.closed_sheets.specs.Instrs.{is_good_bound, is_good_body, is_good_instr}
use Rattle.closed_sheets.specs.Sheets.{if_sound_name, is_good_sheet_template, is_good_function, is_good_key}
use Rattle.closed_sheets.specs.Sheets.{are_sound_modes, has_good_parts}
use Rattle.closed_sheets.specs.Values.{is_sheet_expr, is_good_pattern}
use Rattle.sheet_closure.specs.StandingParts.Bodies.{bound_names, bound_stands, body_stands, instr_stands}
use Rattle.sheet_closure.specs.StandingParts.Bodies.{params_stand, values_stand}
use Rattle.sheet_closure.specs.StandingParts.Calls.{expr_stands}
use Rattle.sheet_closure.specs.StandingParts.Patterns.{is_alternative}
use Rattle.sheet_closure.specs.StandingParts.Sheets.{global_stands, callee_stands, template_stands, function_stands}
use Rattle.sheet_closure.specs.StandingParts.Sheets.{key_stands, parts_stand}
use Rattle.translated_forms.specs.Leaves.{is_leaf, has_leaves, bound_has_leaves, body_has_leaves}
use Rattle.translated_forms.proofs.Rolled.{TheBound, TheInstr}
use Rattle.translation.specs.Limits.{callee_has_leaves, key_has_leaves, sheet_has_leaves}
use Rattle.translation.proofs.QueryLimits.{queries_keep}
use Rattle.translation_limits.specs.Closed.{ClosedKeepLimits}
use Rattle.translation_limits.proofs.LeafInstrs.{whole_bound_known, whole_instr_known, tested, two}
use Rattle.translation_limits.proofs.LeafPatterns.{tests_keep}
use Rattle.translation_limits.proofs.LeafValues.{leaf_known}

-- the parameters and the content of a template or a function
params_known : (bs : List TheBound) → every (map is_good_bound bs) ≡ true →
    values_stand (map bound_stands bs) false ≡ true → every (map (bound_has_leaves tested) bs) ≡ true
params_known [] h i = refl
params_known (b ∷ bs) h i =
    let a = two (is_good_bound b) (every (map is_good_bound bs)) h in
    let c = two ((bound_stands b).value.stands false) (values_stand (map bound_stands bs) false) i in
    and_from (bound_has_leaves tested b) (every (map (bound_has_leaves tested) bs))
    (whole_bound_known b a.0 false c.0) (params_known bs a.1 c.1)

body_known : (xs : List TheInstr) → is_good_body xs ≡ true → body_stands xs false ≡ true →
    body_has_leaves tested xs ≡ true
body_known [] h i = refl
body_known (x ∷ xs) h i =
    let a = two (is_good_instr x) (is_good_body xs) h in
    let c = two (instr_stands x false) (body_stands xs false) i in
    and_from (has_leaves tested x) (body_has_leaves tested xs) (whole_instr_known x a.0 false c.0)
    (body_known xs a.1 c.1)

callee_known : (bs : List TheBound) (xs : List TheInstr) → every (map is_good_bound bs) ≡ true →
    is_good_body xs ≡ true → callee_stands bs xs ≡ true → callee_has_leaves tested bs xs ≡ true
callee_known bs xs h i j =
    let a = two (params_stand bs false) (body_stands xs false) j in
    let c = two (names_differ (bound_names (map bound_stands bs))) (values_stand (map bound_stands bs) false) a.0 in
    and_from (every (map (bound_has_leaves tested) bs)) (body_has_leaves tested xs) (params_known bs h c.1)
    (body_known xs i a.1)

globals_known : (gs : List Global) → every (map (λ g. is_good_bound g.bound) gs) ≡ true →
    list_all global_stands gs ≡ true → list_all (λ g. bound_has_leaves tested g.bound) gs ≡ true
unfolding global_stands
globals_known [] h i = refl
globals_known (g ∷ gs) h i =
    let a = two (is_good_bound g.bound) (every (map (λ g. is_good_bound g.bound) gs)) h in
    let s = (bound_stands g.bound).value in
    let c = two ((g.param || not s.required) && s.stands false) (list_all global_stands gs) i in
    let d = two (g.param || not s.required) (s.stands false) c.0 in
    and_from (bound_has_leaves tested g.bound) (list_all (λ g. bound_has_leaves tested g.bound) gs)
    (whole_bound_known g.bound a.0 false d.1) (globals_known gs a.1 c.1)

templates_known : (ts : List Template) → list_all is_good_sheet_template ts ≡ true →
    list_all template_stands ts ≡ true → list_all (λ t. callee_has_leaves tested t.params t.body) ts ≡ true
unfolding is_good_sheet_template template_stands
templates_known [] h i = refl
templates_known (t ∷ ts) h i =
    let good = every (map is_good_bound t.params) && (is_good_kind t.kind && is_good_body t.body) in
    let a = two (if_sound_name t.name && good) (list_all is_good_sheet_template ts) h in
    let b = two (if_sound_name t.name) good a.0 in
    let c = two (every (map is_good_bound t.params)) (is_good_kind t.kind && is_good_body t.body) b.1 in
    let d = two (is_good_kind t.kind) (is_good_body t.body) c.1 in
    let e = two (callee_stands t.params t.body) (list_all template_stands ts) i in
    and_from (callee_has_leaves tested t.params t.body) (list_all (λ t. callee_has_leaves tested t.params t.body) ts)
    (callee_known t.params t.body c.0 d.1 e.0) (templates_known ts a.1 e.1)

functions_known : (fs : List SheetFunction) → list_all is_good_function fs ≡ true →
    list_all function_stands fs ≡ true → list_all (λ f. callee_has_leaves tested f.params f.body) fs ≡ true
unfolding is_good_function function_stands
functions_known [] h i = refl
functions_known (f ∷ fs) h i =
    let good = every (map is_good_bound f.params) && (is_good_kind f.kind && is_good_body f.body) in
    let a = two (is_sound_expr_name f.name && good) (list_all is_good_function fs) h in
    let b = two (is_sound_expr_name f.name) good a.0 in
    let c = two (every (map is_good_bound f.params)) (is_good_kind f.kind && is_good_body f.body) b.1 in
    let d = two (is_good_kind f.kind) (is_good_body f.body) c.1 in
    let e = two (callee_stands f.params f.body) (list_all function_stands fs) i in
    and_from (callee_has_leaves tested f.params f.body) (list_all (λ f. callee_has_leaves tested f.params f.body) fs)
    (callee_known f.params f.body c.0 d.1 e.0) (functions_known fs a.1 e.1)

keys_known : (ks : List KeyRule) → list_all is_good_key ks ≡ true → list_all key_stands ks ≡ true →
    list_all (key_has_leaves tested) ks ≡ true
unfolding is_good_key key_stands
keys_known [] h i = refl
keys_known (k ∷ ks) h i =
    let a = two (is_sound_expr_name k.name && (is_good_pattern k.pattern && is_sheet_expr k.key)) (list_all is_good_key ks) h in
    let b = two (is_sound_expr_name k.name) (is_good_pattern k.pattern && is_sheet_expr k.key) a.0 in
    let c = two (is_good_pattern k.pattern) (is_sheet_expr k.key) b.1 in
    let d = two (is_alternative k.pattern && (expr_stands false k.key && is_key_use k.key)) (list_all key_stands ks) i in
    let e = two (is_alternative k.pattern) (expr_stands false k.key && is_key_use k.key) d.0 in
    let f = two (expr_stands false k.key) (is_key_use k.key) e.1 in
    and_from (key_has_leaves tested k) (list_all (key_has_leaves tested) ks)
    (and_from (tested k.pattern) (is_leaf k.key) e.0 (leaf_known false k.key c.1 f.0)) (keys_known ks a.1 d.1)

sheet_known : (s : Sheet) → has_good_parts s ≡ true → parts_stand s ≡ true →
    (sheet_has_leaves tested s ≡ true) × (sheet_nest_of s ≤ 40)
unfolding has_good_parts parts_stand sheet_has_leaves
sheet_known s h i =
    let g1 = every (map (λ g. is_good_bound g.bound) s.globals) in
    let t1 = list_all is_good_sheet_template s.templates in
    let r1 = list_all (λ r. is_good_pattern r.pattern) s.rules in
    let f1 = list_all is_good_function s.functions in let k1 = list_all is_good_key s.keys in
    let m1 = are_sound_modes s.modes && list_all (λ r. is_sound_name_test r.test) s.space in
    let a = two g1 (t1 && (r1 && (f1 && (k1 && m1)))) h in
    let b = two t1 (r1 && (f1 && (k1 && m1))) a.1 in
    let c = two r1 (f1 && (k1 && m1)) b.1 in let d = two f1 (k1 && m1) c.1 in let e = two k1 m1 d.1 in
    let n2 = nat_le (sheet_nest_of s) 40 in let g2 = list_all global_stands s.globals in
    let t2 = list_all template_stands s.templates in
    let r2 = list_all (λ r. is_alternative r.pattern) s.rules in
    let f2 = list_all function_stands s.functions in let k2 = list_all key_stands s.keys in
    let v = two n2 (g2 && (t2 && (r2 && (f2 && k2)))) i in
    let w = two g2 (t2 && (r2 && (f2 && k2))) v.1 in let x = two t2 (r2 && (f2 && k2)) w.1 in
    let y = two r2 (f2 && k2) x.1 in let z = two f2 k2 y.1 in
    let fs = list_all (λ f. callee_has_leaves tested f.params f.body) s.functions in
    let ks = list_all (key_has_leaves tested) s.keys in
    let ts = list_all (λ t. callee_has_leaves tested t.params t.body) s.templates in (
      and_from (list_all (λ g. bound_has_leaves tested g.bound) s.globals) (ts && (r2 && (fs && ks)))
          (globals_known s.globals a.0 w.0)
          (and_from ts (r2 && (fs && ks)) (templates_known s.templates b.0 x.0)
          (and_from r2 (fs && ks) y.0
          (and_from fs ks (functions_known s.functions d.0 z.0) (keys_known s.keys e.0 z.1)))),
      leb-true (sheet_nest_of s) 40 v.0,
    )

pub closed_keep : ClosedKeepLimits
closed_keep s h i = let k = sheet_known s h i in queries_keep tested tests_keep s k.0 k.1
