-- A query as it is printed means the query, and breaks no rule.
use Rattle.std.proofs.Common.{◌≡◌, ℕ, Bool, true, false, ◌&&◌, codes, List, [], ◌∷◌, ◌++◌, map}
use Rattle.std.proofs.Common.{refl, sym, ◌∙◌, ap, ap₂, subst, append_assoc, is_some}
use Rattle.std.proofs.lemmas.Bool.{and_parts}
use Rattle.xt_names.specs.Allowed.{is_empty_text}
use Rattle.xt_names.specs.declared.names.Binding.{Binding}
use Rattle.xt_names.specs.declared.names.ExprName.{ExprName}
use Rattle.xt_types.specs.declared.node_tests.NameTest.{NameTest}
use Rattle.xt_types.specs.declared.node_tests.NameTest.TheVariants as test
use Rattle.xt_types.specs.declared.node_tests.SpaceRule.{SpaceRule}
use Rattle.xt_syntax.specs.declared.exprs.Expr.{Expr}
use Rattle.xt_syntax.specs.declared.prefixes.Prefixes.{Prefixes}
use Rattle.xt_syntax.specs.declared.queries.Query.{Query}
use Rattle.xt_syntax.specs.declared.queries.QueryVar.{QueryVar}
use Rattle.xt_syntax.specs.declared.queries.QueryFunction.{QueryFunction}
use Rattle.expr_names.specs.Names.{undeclared_in}
use Rattle.expr_keys.specs.declared.tokens.Token.{Token}
use Rattle.expr_keys.specs.declared.productions.Class.TheVariants as class
use Rattle.expr_rules.specs.ExprMeant.Names.{written_in}
use Rattle.expr_resolve.specs.declared.setting.Setting.{Setting}
use Rattle.expr_resolve.specs.Folds.{expr_meant}
use Rattle.expr_raws.specs.PathRaws.Names.{no_codes, name_token, same_test}
use Rattle.raw_laws.proofs.CleanRaws.Names.{none}
use Rattle.closed_queries.specs.PrologRules.Declarations.{query_broken}
use Rattle.closed_queries.specs.PrologRules.Setters.{nothing_seen, setters_broken}
use Rattle.closed_queries.specs.declared.prolog_rules.declarations.Declaration.{Declaration}
use Rattle.closed_queries.specs.declared.prolog_rules.declarations.Declaration.TheVariants as declaration
use Rattle.query_grammar.specs.declared.declared.Declared.{Declared}
use Rattle.query_grammar.specs.declared.declared.Declared.TheVariants as declared
use Rattle.query_options.specs.Options.{effect_of, option_effect, no_options, effect_broken}
use Rattle.query_options.specs.Options.{with_effect}
use Rattle.query_options.specs.Spaces.{space_broken, space_meant}
use Rattle.query_options.specs.declared.effects.Effect.TheVariants as effect
use Rattle.query_options.specs.declared.options.Options.{Options}
use Rattle.query_resolve.specs.QueryPrologs.Prefixes.{declared_bindings}
use Rattle.query_resolve.specs.QueryPrologs.Setters.{setters_of}
use Rattle.query_resolve.specs.Late.{declaration_in, options_behind, late_broken, declarations_of}
use Rattle.query_resolve.specs.Late.{all_options, all_broken, late_meant}
use Rattle.query_resolve.specs.Queries.{variable_and, variables_in, function_and, functions_in}
use Rattle.query_resolve.specs.Queries.{rest_broken, rules_broken, query_meant}
use Rattle.query_resolve.specs.Meaning.{Meant}
use Rattle.query_resolve.proofs.MeaningLemmas.{meant_by}
use Rattle.printed_laws.specs.QueryRaws.Prologs.{DeclaredForm, token_or, namespace, preserved}
use Rattle.printed_laws.specs.QueryRaws.Prologs.{version, option_name, rules_text, same_truth, same_rule}
use Rattle.printed_laws.specs.QueryRaws.Prologs.{same_rules, means_rules, space_option, omit_option}
use Rattle.printed_laws.specs.QueryRaws.Declarations.{variable, function, is_clean}
use Rattle.printed_laws.specs.QueryRaws.Queries.{prefixes_of, options, late, declarations, raws, raw_query}
use Rattle.printed_laws.specs.QueryRaws.Queries.{all_can, can_print}
use Rattle.printed_laws.specs.PrintedQueries.Keeps.{declared_in, namespaces_in, has_own_prefixes}
use Rattle.printed_laws.specs.PrintedQueries.Keeps.{keeps_declarations, is_kept}
use Rattle.printed_laws.proofs.PrintedQueries.Prologs.{setting_in, setting_is, namespaces_are, first_part_so}
use Rattle.printed_laws.proofs.PrintedQueries.Declarations.{named_so, variable_means, variable_clean}
use Rattle.printed_laws.proofs.PrintedQueries.Declarations.{function_means, function_clean, body_means}
use Rattle.printed_laws.proofs.PrintedQueries.Declarations.{body_clean}
use Rattle.expr_raws.proofs.PathRaws.Paths.{same_tests}

-- what a list of declarations says: what it declares, the options after it and the rules it breaks
pub record Says (s : Setting) (o : Options) (ds : List Declared) (xs : List Declaration)
    (after : Options) : Type 0 where
  pub declared : declarations_of s ds ≡ xs
  pub options : all_options s o ds ≡ after
  pub clean : all_broken s o ds ≡ []

nothing_says : (s : Setting) (o : Options) → Says s o [] [] o
nothing_says s o = record { declared = refl; options = refl; clean = refl }

-- one declaration before others
one_says : (s : Setting) (o middle after : Options) (d : Declared) (ds : List Declared)
    (x xs : List Declaration) → declaration_in s d ≡ x → options_behind s o d ≡ middle
    → late_broken s o d ≡ [] → Says s middle ds xs after → Says s o (d ∷ ds) (x ++ xs) after
one_says s o middle after d ds x xs e f g h = record {
  declared = ap₂ (λ a b. a ++ b) e h.declared;
  options = ap (λ m. all_options s m ds) f ∙ h.options;
  clean = ap₂ (λ a m. a ++ all_broken s m ds) g f ∙ h.clean;
}

-- a namespace or a setter says nothing here
version_says : (s : Setting) (o after : Options) (t : List ℕ) (ds : List Declared)
    (xs : List Declaration) → Says s o ds xs after → Says s o (declared.Version t ∷ ds) xs after
unfolding declaration_in options_behind late_broken
version_says s o after t ds xs h =
    one_says s o o after (declared.Version t) ds [] xs refl refl refl h

namespace_says : (s : Setting) (o after : Options) (b : Binding) (ds : List Declared)
    (xs : List Declaration) → Says s o ds xs after → Says s o ((namespace b).raw ∷ ds) xs after
unfolding declaration_in options_behind late_broken
namespace_says s o after b ds xs h =
    one_says s o o after (namespace b).raw ds [] xs refl refl refl h

preserved_says : (s : Setting) (o after : Options) (ds : List Declared)
    (xs : List Declaration) → Says s o ds xs after → Says s o (preserved.raw ∷ ds) xs after
unfolding declaration_in options_behind late_broken
preserved_says s o after ds xs h = one_says s o o after preserved.raw ds [] xs refl refl refl h

namespaces_say : (s : Setting) (o after : Options) (bs : List Binding) (fs : List DeclaredForm)
    (xs : List Declaration) → Says s o (raws fs) xs after
    → Says s o (raws (map (λ b. namespace b) bs ++ fs)) xs after
namespaces_say s o after [] fs xs h = h
namespaces_say s o after (b ∷ bs) fs xs h =
    namespace_says s o after b (raws (map (λ y. namespace y) bs ++ fs)) xs
    (namespaces_say s o after bs fs xs h)

module _ (p : Prefixes) where
  abbrev s : Setting
  s = record { prefixes = p; strip = false }

  -- functions and variables

  functions_say : (o : Options) (fs : List QueryFunction)
      → all_can (map (λ f. function p f) fs) ≡ true
      → Says s o (raws (map (λ f. function p f) fs)) (map (λ f. declaration.Function f) fs) o
  unfolding declaration_in options_behind late_broken
  functions_say o [] c = nothing_says s o
  functions_say o (f ∷ fs) c =
      let h = and_parts (function p f).can (all_can (map (λ g. function p g) fs)) c in
      one_says s o o o (function p f).raw (raws (map (λ g. function p g) fs))
      (declaration.Function f ∷ []) (map (λ g. declaration.Function g) fs)
      (ap (λ x. declaration.Function x ∷ []) (function_means p f h.0)) refl
      (function_clean p f h.0) (functions_say o fs h.1)

  variables_say : (o : Options) (vs : List QueryVar) (fs : List DeclaredForm)
      (xs : List Declaration) → all_can (map (λ v. variable p v) vs) ≡ true
      → Says s o (raws fs) xs o
      → Says s o (raws (map (λ v. variable p v) vs ++ fs))
      (map (λ v. declaration.Variable v) vs ++ xs) o
  unfolding declaration_in options_behind late_broken
  variables_say o [] fs xs c m = m
  variables_say o (v ∷ vs) fs xs c m =
      let h = and_parts (variable p v).can (all_can (map (λ w. variable p w) vs)) c in
      one_says s o o o (variable p v).raw (raws (map (λ w. variable p w) vs ++ fs))
      (declaration.Variable v ∷ []) (map (λ w. declaration.Variable w) vs ++ xs)
      (ap (λ x. declaration.Variable x ∷ []) (variable_means p v h.0)) refl
      (variable_clean p v h.0) (variables_say o vs fs xs h.1 m)

  -- options

  option_name_so : (local : List ℕ) → is_some (name_token p.bound [] (option_name local)) ≡ true
      → (option_effect p.bound (token_or (name_token p.bound [] (option_name local)))
      ≡ effect_of (option_name local))
      × (undeclared_in p.bound (written_in (token_or (name_token p.bound []
      (option_name local)))) ≡ [])
  option_name_so local c =
      let h = named_so class.Name p.bound [] (option_name local) c in
      (ap effect_of h.0, h.1)

  space_effect : effect_of (option_name (codes "space")) ≡ effect.Space
  unfolding effect_of
  space_effect = refl

  omit_effect : effect_of (option_name (codes "declaration")) ≡ effect.Declaration
  unfolding effect_of
  omit_effect = refl

  truth : (a b : Bool) → same_truth a b ≡ true → a ≡ b
  truth true b e = sym e
  truth false true e = absurd (cc)
  truth false false e = refl

  abbrev rule : Bool → NameTest → SpaceRule
  rule b t = record { strip = b; test = t }

  same_rule_so : (a b : SpaceRule) → same_rule a b ≡ true → a ≡ b
  same_rule_so a b e =
      let h = and_parts (same_truth a.strip b.strip) (same_test a.test b.test) e in
      ap₂ rule (truth a.strip b.strip h.0) (same_tests a.test b.test h.1)

  rules_so : (xs ys : List SpaceRule) → same_rules xs ys ≡ true → xs ≡ ys
  rules_so [] [] e = refl
  rules_so (a ∷ xs) (b ∷ ys) e =
      let h = and_parts (same_rule a b) (same_rules xs ys) e in
      ap₂ (λ z zs. z ∷ zs) (same_rule_so a b h.0) (rules_so xs ys h.1)
  rules_so _ _ e = absurd (cc)

  abbrev made : List SpaceRule → Bool → Bool → Options
  made rules has omit = record { rules = rules; has_space = has; omit = omit }

  abbrev has_rules : List SpaceRule → Bool
  has_rules [] = false
  has_rules (r ∷ rs) = true

  omit_says : (rules : List SpaceRule) (has omit : Bool) (fs : List DeclaredForm)
      (xs : List Declaration) → all_can (omit_option p omit) ≡ true
      → ((o : Options) → Says s o (raws fs) xs o)
      → Says s (made rules has false) (raws (omit_option p omit ++ fs)) xs (made rules has omit)
  unfolding declaration_in options_behind late_broken effect_broken with_effect
  omit_says rules has false fs xs c m = m (made rules has false)
  omit_says rules has true fs xs c m =
      let name : ExprName = option_name (codes "declaration") in
      let t : Token = token_or (name_token p.bound [] name) in
      let o : Options = made rules has false in
      let h = and_parts (is_some (name_token p.bound [] name) && true) true c in
      let i = and_parts (is_some (name_token p.bound [] name)) true h.0 in
      let n = option_name_so (codes "declaration") i.0 in
      let e : option_effect p.bound t ≡ effect.Declaration = n.0 ∙ omit_effect in
      one_says s o (made rules has true) (made rules has true)
      (declared.Setting t (codes "omit")) (raws fs) [] xs refl
      (ap (λ x. with_effect p.bound o (codes "omit") x) e)
      (ap₂ (λ ys x. ys ++ effect_broken p.bound o (codes "omit") x) n.1 e)
      (m (made rules has true))

  space_says : (rs : List SpaceRule) (after : Bool → Options) (fs : List DeclaredForm)
      (xs : List Declaration) → all_can (space_option p rs) ≡ true
      → Says s (made rs (has_rules rs) false) (raws fs) xs (after (has_rules rs))
      → Says s no_options (raws (space_option p rs ++ fs)) xs (after (has_rules rs))
  unfolding declaration_in options_behind late_broken effect_broken with_effect
  space_says [] after fs xs c m = m
  space_says (r ∷ rs) after fs xs c m =
      let name : ExprName = option_name (codes "space") in
      let text : List ℕ = rules_text p (r ∷ rs) in
      let t : Token = token_or (name_token p.bound [] name) in
      let means : Bool = means_rules p.bound text (r ∷ rs) in
      let h = and_parts (is_some (name_token p.bound [] name) && means) true c in
      let i = and_parts (is_some (name_token p.bound [] name)) means h.0 in
      let j = and_parts (no_codes (space_broken p.bound text))
      (same_rules (space_meant p.bound text) (r ∷ rs)) i.1 in
      let n = option_name_so (codes "space") i.0 in
      let e : option_effect p.bound t ≡ effect.Space = n.0 ∙ space_effect in
      one_says s no_options (made (r ∷ rs) true false) (after true)
      (declared.Setting t text) (raws fs) [] xs refl
      (ap (λ x. with_effect p.bound no_options text x) e
      ∙ ap (λ x. made x true false) (rules_so (space_meant p.bound text) (r ∷ rs) j.1))
      (ap₂ (λ ys x. ys ++ effect_broken p.bound no_options text x) n.1 e
      ∙ none (space_broken p.bound text) j.0) m

all_parts : (fs gs : List DeclaredForm) → all_can (fs ++ gs) ≡ true
    → (all_can fs ≡ true) × (all_can gs ≡ true)
all_parts [] gs c = (refl, c)
all_parts (f ∷ fs) gs c =
    let h = and_parts f.can (all_can (fs ++ gs)) c in
    let i = all_parts fs gs h.1 in
    (ap₂ (λ a b. a && b) h.0 i.0, i.1)

abbrev behind : Query → Options
behind q = record { rules = q.space; has_space = has_rules (prefixes_of q) q.space; omit = q.omit }

late_says : (q : Query) → all_can (late q) ≡ true
    → Says (setting_in q) no_options (raws (late q)) (declared_in q) (behind q)
late_says q c =
    let p : Prefixes = prefixes_of q in
    let vs : List DeclaredForm = map (λ v. variable p v) q.variables in
    let fs : List DeclaredForm = map (λ f. function p f) q.functions in
    let h = all_parts (options q) (vs ++ fs) c in
    let i = all_parts (space_option p q.space) (omit_option p q.omit) h.0 in
    let j = all_parts vs fs h.1 in
    let more : List DeclaredForm = omit_option p q.omit ++ (vs ++ fs) in
    subst (λ gs. Says (setting_in q) no_options (raws gs) (declared_in q) (behind q))
    (sym (append_assoc (space_option p q.space) (omit_option p q.omit) (vs ++ fs)))
    (space_says p q.space (λ b. record { rules = q.space; has_space = b; omit = q.omit }) more
    (declared_in q) i.0 (omit_says p q.space (has_rules p q.space) q.omit (vs ++ fs)
    (declared_in q) i.1 (λ o. variables_say p o q.variables fs
    (map (λ f. declaration.Function f) q.functions) j.0 (functions_say p o q.functions j.1))))

all_say : (q : Query) → all_can (declarations q) ≡ true
    → Says (setting_in q) no_options (raw_query q).declared (declared_in q) (behind q)
all_say q c =
    let setters : List DeclaredForm = map (λ b. namespace b) q.prefixes in
    let h = all_parts (version ∷ setters) (preserved ∷ late q) c in
    version_says (setting_in q) no_options (behind q) (codes "1.0")
    (raws (setters ++ preserved ∷ late q)) (declared_in q)
    (namespaces_say (setting_in q) no_options (behind q) q.prefixes (preserved ∷ late q)
    (declared_in q) (preserved_says (setting_in q) no_options (behind q) (raws (late q))
    (declared_in q) (late_says q h.1)))

-- the variables and functions are those of the query

no_variables : (fs : List QueryFunction) → variables_in (map (λ f. declaration.Function f) fs) ≡ []
unfolding variable_and
no_variables [] = refl
no_variables (f ∷ fs) = no_variables fs

variables_are : (vs : List QueryVar) (fs : List QueryFunction)
    → variables_in (map (λ v. declaration.Variable v) vs ++ map (λ f. declaration.Function f) fs)
    ≡ vs
unfolding variable_and
variables_are [] fs = no_variables fs
variables_are (v ∷ vs) fs = ap (λ xs. v ∷ xs) (variables_are vs fs)

only_functions : (fs : List QueryFunction)
    → functions_in (map (λ f. declaration.Function f) fs) ≡ fs
unfolding function_and
only_functions [] = refl
only_functions (f ∷ fs) = ap (λ xs. f ∷ xs) (only_functions fs)

functions_are : (vs : List QueryVar) (fs : List QueryFunction)
    → functions_in (map (λ v. declaration.Variable v) vs ++ map (λ f. declaration.Function f) fs)
    ≡ fs
unfolding function_and
functions_are [] fs = only_functions fs
functions_are (v ∷ vs) fs = functions_are vs fs

-- the rules

rest_so : (q : Query) → can_print q ≡ true → keeps_declarations q ≡ true
    → rest_broken (setting_in q) (raw_query q) ≡ []
rest_so q c k =
    let h = and_parts (all_can (declarations q)) (is_clean (prefixes_of q) q.body) c in
    let m = all_say q h.0 in
    ap₂ (λ xs ys. xs ++ ys)
    (ap₂ (λ xs ys. xs ++ ys) m.clean (body_clean (prefixes_of q) q.body h.1))
    (ap₂ (λ ds e. query_broken ds e) m.declared (body_means (prefixes_of q) q.body h.1)
    ∙ none (query_broken (declared_in q) q.body) k)

unbroken : (q : Query) → can_print q ≡ true → has_own_prefixes q ≡ true
    → keeps_declarations q ≡ true → rules_broken (raw_query q) ≡ []
unbroken q c o k =
    let h = and_parts (all_can (declarations q)) (is_clean (prefixes_of q) q.body) c in
    ap₂ (λ xs ys. xs ++ ys)
    (first_part_so q h.0 (none (setters_broken nothing_seen (namespaces_in q)) o))
    (ap (λ s. rest_broken s (raw_query q)) (setting_is q h.0) ∙ rest_so q c k)

-- the query

abbrev query : List Binding → List ℕ → List QueryVar → List QueryFunction → Expr → List SpaceRule
    → Bool → Query
query bs default vs fs e rules omit = record {
  prefixes = bs;
  element_default = default;
  variables = vs;
  functions = fs;
  body = e;
  space = rules;
  omit = omit;
}

-- what is meant under a setting
abbrev meant_under : Query → Setting → Query
meant_under q s = query (declared_bindings (setters_of (raw_query q).declared))
    s.prefixes.element_default (variables_in (late_meant s (raw_query q).declared).declarations)
    (functions_in (late_meant s (raw_query q).declared).declarations)
    (expr_meant s (raw_query q).body) (late_meant s (raw_query q).declared).options.rules
    (late_meant s (raw_query q).declared).options.omit

empty_is : (cs : List ℕ) → is_empty_text cs ≡ true → [] ≡ cs
unfolding is_empty_text
empty_is [] e = refl
empty_is (c ∷ cs) e = absurd (cc)

means_it : (q : Query) → can_print q ≡ true → is_empty_text q.element_default ≡ true
    → query_meant (raw_query q) ≡ q
means_it q c d =
    let h = and_parts (all_can (declarations q)) (is_clean (prefixes_of q) q.body) c in
    let m = all_say q h.0 in
    ap (meant_under q) (setting_is q h.0)
    ∙ ap₂ (λ bs default. query bs default
    (variables_in (declarations_of (setting_in q) (raw_query q).declared))
    (functions_in (declarations_of (setting_in q) (raw_query q).declared))
    (expr_meant (setting_in q) (raw_query q).body)
    (all_options (setting_in q) no_options (raw_query q).declared).rules
    (all_options (setting_in q) no_options (raw_query q).declared).omit)
    (namespaces_are q h.0) (empty_is q.element_default d)
    ∙ ap₂ (λ vs fs. query q.prefixes q.element_default vs fs
    (expr_meant (setting_in q) (raw_query q).body)
    (all_options (setting_in q) no_options (raw_query q).declared).rules
    (all_options (setting_in q) no_options (raw_query q).declared).omit)
    (ap variables_in m.declared ∙ variables_are q.variables q.functions)
    (ap functions_in m.declared ∙ functions_are q.variables q.functions)
    ∙ ap₂ (λ e o. query q.prefixes q.element_default q.variables q.functions e o.rules o.omit)
    (body_means (prefixes_of q) q.body h.1) m.options

pub query_means : (q : Query) → is_kept q ≡ true → Meant (raw_query q) q
query_means q k =
    let h = and_parts (can_print q)
    (is_empty_text q.element_default && (has_own_prefixes q && keeps_declarations q)) k in
    let i = and_parts (is_empty_text q.element_default)
    (has_own_prefixes q && keeps_declarations q) h.1 in
    let j = and_parts (has_own_prefixes q) (keeps_declarations q) i.1 in
    subst (Meant (raw_query q)) (means_it q h.0 i.0)
    (meant_by (raw_query q) (unbroken q h.0 j.0 j.1))
