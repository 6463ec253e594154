-- What can be printed of a query, part by part.
use Rattle.std.proofs.Common.{◌≡◌, Bool, true, false, ◌&&◌, List, [], ◌∷◌, ◌++◌, map, refl, sym}
use Rattle.std.proofs.Common.{ap, ap₂, ◌∙◌}
use Rattle.xt_names.specs.declared.names.Binding.{Binding}
use Rattle.xt_types.specs.declared.node_tests.SpaceRule.{SpaceRule}
use Rattle.xt_syntax.specs.declared.prefixes.Prefixes.{Prefixes}
use Rattle.xt_syntax.specs.declared.queries.Query.{Query}
use Rattle.xt_syntax.specs.declared.queries.QueryVar.{QueryVar}
use Rattle.xt_syntax.specs.declared.queries.QueryFunction.{QueryFunction}
use Rattle.printed_laws.specs.QueryRaws.Prologs.{DeclaredForm, namespace, preserved, space_option, omit_option}
use Rattle.printed_laws.specs.QueryRaws.Declarations.{variable, function, is_clean}
use Rattle.printed_laws.specs.QueryRaws.Queries.{prefixes_of, options, late, all_can, can_print}

and_same : (a b c d : Bool) → a ≡ b → c ≡ d → (a && c) ≡ (b && d)
and_same a b c d e f = ap₂ (λ x y. x && y) e f

and_more : (b x y z : Bool) → x ≡ (y && z) → (b && x) ≡ ((b && y) && z)
and_more true x y z e = e
and_more false x y z e = refl

all_append : (fs gs : List DeclaredForm) → all_can (fs ++ gs) ≡ (all_can fs && all_can gs)
all_append [] gs = refl
all_append (f ∷ fs) gs =
    and_more f.can (all_can (fs ++ gs)) (all_can fs) (all_can gs) (all_append fs gs)

-- in the order of the declarations
grouped : (n s o v f c : Bool)
    → ((n && ((s && o) && (v && f))) && c) ≡ (n && (s && (o && (v && (f && c)))))
grouped false s o v f c = refl
grouped true false o v f c = refl
grouped true true false v f c = refl
grouped true true true false f c = refl
grouped true true true true f c = refl

late_can : (q : Query) → all_can (late q)
    ≡ ((all_can (space_option (prefixes_of q) q.space)
    && all_can (omit_option (prefixes_of q) q.omit))
    && (all_can (map (λ v. variable (prefixes_of q) v) q.variables)
    && all_can (map (λ f. function (prefixes_of q) f) q.functions)))
late_can q =
    let p = prefixes_of q in
    all_append (options q)
    (map (λ v. variable p v) q.variables ++ map (λ f. function p f) q.functions)
    ∙ ap₂ (λ x y. x && y) (all_append (space_option p q.space) (omit_option p q.omit))
    (all_append (map (λ v. variable p v) q.variables) (map (λ f. function p f) q.functions))

parts_can : (q : Query) → can_print q ≡ (all_can (map (λ b. namespace b) q.prefixes)
    && (all_can (space_option (prefixes_of q) q.space)
    && (all_can (omit_option (prefixes_of q) q.omit)
    && (all_can (map (λ v. variable (prefixes_of q) v) q.variables)
    && (all_can (map (λ f. function (prefixes_of q) f) q.functions)
    && is_clean (prefixes_of q) q.body)))))
parts_can q =
    let p = prefixes_of q in
    let c = is_clean p q.body in
    let ns = map (λ b. namespace b) q.prefixes in
    ap (λ x. x && c) (all_append ns (preserved ∷ late q)
    ∙ ap (λ x. all_can ns && x) (late_can q))
    ∙ grouped (all_can ns) (all_can (space_option p q.space)) (all_can (omit_option p q.omit))
    (all_can (map (λ v. variable p v) q.variables))
    (all_can (map (λ f. function p f) q.functions)) c

-- .. whatever prefixes and lists are known to be those of the query
pub can_made : (q : Query) (p : Prefixes) (bs : List Binding) (rs : List SpaceRule)
    (vs : List QueryVar) (fs : List QueryFunction) (n s o v f c : Bool) → p ≡ prefixes_of q
    → bs ≡ q.prefixes → rs ≡ q.space → vs ≡ q.variables → fs ≡ q.functions
    → n ≡ all_can (map (λ b. namespace b) bs) → s ≡ all_can (space_option p rs)
    → o ≡ all_can (omit_option p q.omit) → v ≡ all_can (map (λ v. variable p v) vs)
    → f ≡ all_can (map (λ f. function p f) fs) → c ≡ is_clean p q.body
    → (n && (s && (o && (v && (f && c))))) ≡ can_print q
can_made q p bs rs vs fs n s o v f c e eb er ev ef hn hs ho hv hf hc =
    let gn = hn ∙ ap (λ (x : List Binding). all_can (map (λ b. namespace b) x)) eb in
    let gs = hs ∙ ap₂ (λ (x : Prefixes) (y : List SpaceRule). all_can (space_option x y)) e er in
    let go = ho ∙ ap (λ (x : Prefixes). all_can (omit_option x q.omit)) e in
    let gv = hv ∙ ap₂ (λ (x : Prefixes) (y : List QueryVar). all_can (map (λ v. variable x v) y))
    e ev in
    let gf = hf ∙ ap₂ (λ (x : Prefixes) (y : List QueryFunction).
    all_can (map (λ f. function x f) y)) e ef in
    let gc = hc ∙ ap (λ (x : Prefixes). is_clean x q.body) e in
    and_same _ _ _ _ gn (and_same _ _ _ _ gs (and_same _ _ _ _ go (and_same _ _ _ _ gv
    (and_same _ _ _ _ gf gc)))) ∙ sym (parts_can q)
