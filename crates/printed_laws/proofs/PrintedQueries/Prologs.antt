-- The first part of a prolog that is printed.
use Rattle.std.proofs.Common.{◌≡◌, ℕ, Bool, true, false, ◌||◌, codes, List, [], ◌∷◌}
use Rattle.std.proofs.Common.{◌++◌, map, refl, ◌∙◌, ap, ap₂}
use Rattle.std.proofs.lemmas.Bool.{and_parts}
use Rattle.std.proofs.lemmas.Slice.Eq.{bytes_eq-Decides}
use Rattle.std.specs.List.{list_any}
use Rattle.std.specs.Str.{bytes_eq}
use Rattle.xt_names.specs.declared.codes.QueryStaticCode.TheVariants.{XQST0031}
use Rattle.xt_names.specs.declared.names.Binding.{Binding}
use Rattle.xt_syntax.specs.declared.prefixes.Prefixes.{Prefixes}
use Rattle.xt_syntax.specs.declared.queries.Query.{Query}
use Rattle.expr_keys.specs.Tokens.{fits_word}
use Rattle.expr_keys.specs.declared.tokens.Token.{Token}
use Rattle.expr_tokens.specs.Terms.{word_term}
use Rattle.expr_rules.specs.ExprMeant.Names.{written_in}
use Rattle.expr_resolve.specs.declared.setting.Setting.{Setting}
use Rattle.closed_queries.specs.PrologRules.Setters.{nothing_seen, broken_if, setter_broken, seen_behind}
use Rattle.closed_queries.specs.PrologRules.Setters.{setters_broken}
use Rattle.closed_queries.specs.declared.prolog_rules.setters.Setter.{Setter}
use Rattle.closed_queries.specs.declared.prolog_rules.setters.Setter.TheVariants as setter
use Rattle.query_grammar.specs.Prolog.{is_late, all_late}
use Rattle.query_grammar.specs.declared.declared.Declared.{Declared}
use Rattle.query_grammar.specs.declared.declared.Declared.TheVariants as declared
use Rattle.query_resolve.specs.QueryPrologs.Prefixes.{binding_and, declared_bindings, predeclared, element_or}
use Rattle.query_resolve.specs.QueryPrologs.Prefixes.{element_default, function_or, function_default, strip_or}
use Rattle.query_resolve.specs.QueryPrologs.Prefixes.{is_stripped}
use Rattle.query_resolve.specs.QueryPrologs.Prefixes as prologs
use Rattle.query_resolve.specs.QueryPrologs.Setters.{setter_of, setters_of, is_other_version, version_broken}
use Rattle.query_resolve.specs.QueryPrologs.Setters.{first_part_broken}
use Rattle.query_resolve.specs.Queries.{setting_behind, setting_of}
use Rattle.printed_laws.specs.QueryRaws.Prologs.{DeclaredForm, prefixes_behind, namespace}
use Rattle.printed_laws.specs.QueryRaws.Prologs.{preserved}
use Rattle.printed_laws.specs.QueryRaws.Queries.{prefixes_of, late, declarations, raws, raw_query, all_can}
use Rattle.printed_laws.proofs.QueryRaws.Spell.{late_late}
use Rattle.raw_laws.proofs.CleanRaws.Clean.{no_parts}

-- what a prolog sets: namespaces, that boundary white space is preserved, and nothing else
abbrev pub set_by : List Binding → List Declared → List Setter
set_by bs ds = map (λ b. setter.Namespace b) bs
    ++ setter.BoundarySpace true ∷ map (λ d. setter.Other) ds

-- a variable, a function or an option
late_other : (d : Declared) → is_late d ≡ true → setter_of d ≡ setter.Other
unfolding setter_of
late_other (declared.Setting n t) e = refl
late_other (declared.Variable v w) e = refl
late_other (declared.Function n ps k w) e = refl
late_other _ e = absurd (cc)

lates_other : (ds : List Declared) → all_late ds ≡ true
    → setters_of ds ≡ map (λ d. setter.Other) ds
lates_other [] e = refl
lates_other (d ∷ ds) e =
    let h = and_parts (is_late d) (all_late ds) e in
    ap₂ (λ x xs. x ∷ xs) (late_other d h.0) (lates_other ds h.1)

namespace_sets : (b : Binding) → (namespace b).can ≡ true
    → setter_of (namespace b).raw ≡ setter.Namespace b
unfolding setter_of
namespace_sets b e =
    let t : Token = word_term b.prefix in
    let h = and_parts (fits_word t) (bytes_eq (written_in t).local b.prefix) e in
    ap (λ p. setter.Namespace (record { prefix = p; uri = b.uri }))
    ((bytes_eq-Decides (written_in t).local b.prefix).0 h.1)

behind_sets : (ds : List Declared) → all_late ds ≡ true
    → setters_of (preserved.raw ∷ ds)
    ≡ setter.BoundarySpace true ∷ map (λ d. setter.Other) ds
unfolding setter_of
behind_sets ds e = ap (λ ss. setter.BoundarySpace true ∷ ss) (lates_other ds e)

all_set : (bs : List Binding) (fs : List DeclaredForm)
    → all_can (map (λ b. namespace b) bs ++ preserved ∷ fs) ≡ true → all_late (raws fs) ≡ true
    → setters_of (raws (map (λ b. namespace b) bs ++ preserved ∷ fs)) ≡ set_by bs (raws fs)
all_set [] fs c e = behind_sets (raws fs) e
all_set (b ∷ bs) fs c e =
    let h = and_parts (namespace b).can
    (all_can (map (λ x. namespace x) bs ++ preserved ∷ fs)) c in
    ap₂ (λ x xs. x ∷ xs) (namespace_sets b h.0) (all_set bs fs h.1 e)

version_other : (t : List ℕ) → setter_of (declared.Version t) ≡ setter.Other
unfolding setter_of
version_other t = refl

pub setters_are : (q : Query) → all_can (declarations q) ≡ true
    → setters_of (raw_query q).declared ≡ setter.Other ∷ set_by q.prefixes (raws (late q))
setters_are q c = ap₂ (λ x xs. x ∷ xs) (version_other (codes "1.0"))
    (all_set q.prefixes (late q) c (late_late q))

-- the setting

abbrev others : List Declared → List Setter
others ds = map (λ d. setter.Other) ds

other_bindings : (ds : List Declared) → declared_bindings (others ds) ≡ []
unfolding binding_and
other_bindings [] = refl
other_bindings (d ∷ ds) = other_bindings ds

bindings_are : (bs : List Binding) (ds : List Declared) → declared_bindings (set_by bs ds) ≡ bs
unfolding binding_and
bindings_are [] ds = other_bindings ds
bindings_are (b ∷ bs) ds = ap (λ xs. b ∷ xs) (bindings_are bs ds)

other_default : (ds : List Declared) → element_default (others ds) ≡ []
unfolding element_or
other_default [] = refl
other_default (d ∷ ds) = other_default ds

default_is : (bs : List Binding) (ds : List Declared) → element_default (set_by bs ds) ≡ []
unfolding element_or
default_is [] ds = other_default ds
default_is (b ∷ bs) ds = default_is bs ds

abbrev fn_uri : List ℕ
fn_uri = codes "http://www.w3.org/2005/xpath-functions"

other_functions : (ds : List Declared) → function_default (others ds) ≡ fn_uri
unfolding function_or
other_functions [] = refl
other_functions (d ∷ ds) = other_functions ds

functions_are : (bs : List Binding) (ds : List Declared)
    → function_default (set_by bs ds) ≡ fn_uri
unfolding function_or
functions_are [] ds = other_functions ds
functions_are (b ∷ bs) ds = functions_are bs ds

kept_space : (bs : List Binding) (ds : List Declared) → is_stripped (set_by bs ds) ≡ false
unfolding strip_or
kept_space [] ds = refl
kept_space (b ∷ bs) ds = kept_space bs ds

-- the namespaces after one setter that sets none
unset_bindings : (ss : List Setter) → declared_bindings (setter.Other ∷ ss) ≡ declared_bindings ss
unfolding binding_and
unset_bindings ss = refl

unset_prefixes : (ss : List Setter)
    → prologs.prefixes_of (setter.Other ∷ ss) ≡ prologs.prefixes_of ss
unfolding binding_and element_or function_or
unset_prefixes ss = refl

unset_space : (ss : List Setter) → is_stripped (setter.Other ∷ ss) ≡ is_stripped ss
unfolding strip_or
unset_space ss = refl

abbrev made : List Binding → List ℕ → List ℕ → Prefixes
made bound default functions =
    record { bound = bound; element_default = default; function_default = functions }

prefixes_are : (bs : List Binding) (ds : List Declared)
    → prologs.prefixes_of (set_by bs ds) ≡ prefixes_behind bs
prefixes_are bs ds =
    ap₂ (λ xs d. made (xs ++ predeclared) d (function_default (set_by bs ds))) (bindings_are bs ds)
    (default_is bs ds)
    ∙ ap (λ f. made (bs ++ predeclared) [] f) (functions_are bs ds)

-- what is known where the expressions stand
abbrev pub setting_in : Query → Setting
setting_in q = record { prefixes = prefixes_of q; strip = false }

abbrev set : Prefixes → Bool → Setting
set p b = record { prefixes = p; strip = b }

pub setting_is : (q : Query) → all_can (declarations q) ≡ true
    → setting_of (raw_query q) ≡ setting_in q
setting_is q c =
    let ss : List Setter = set_by q.prefixes (raws (late q)) in
    ap setting_behind (setters_are q c)
    ∙ ap₂ set (unset_prefixes ss ∙ prefixes_are q.prefixes (raws (late q)))
    (unset_space ss ∙ kept_space q.prefixes (raws (late q)))

pub namespaces_are : (q : Query) → all_can (declarations q) ≡ true
    → declared_bindings (setters_of (raw_query q).declared) ≡ q.prefixes
namespaces_are q c =
    let ss : List Setter = set_by q.prefixes (raws (late q)) in
    ap declared_bindings (setters_are q c) ∙ unset_bindings ss
    ∙ bindings_are q.prefixes (raws (late q))

-- its rules

no_version : (d : Declared) → is_late d ≡ true → is_other_version d ≡ false
unfolding is_other_version
no_version (declared.Version t) e = absurd (cc)
no_version _ e = refl

no_versions : (ds : List Declared) → all_late ds ≡ true → list_any is_other_version ds ≡ false
no_versions [] e = refl
no_versions (d ∷ ds) e =
    let h = and_parts (is_late d) (all_late ds) e in
    ap (λ b. b || list_any is_other_version ds) (no_version d h.0) ∙ no_versions ds h.1

behind_version : (ds : List Declared) → all_late ds ≡ true
    → list_any is_other_version (preserved.raw ∷ ds) ≡ false
unfolding is_other_version
behind_version ds e = no_versions ds e

namespace_version : (b : Binding) → is_other_version (namespace b).raw ≡ false
unfolding is_other_version
namespace_version b = refl

versions_so : (bs : List Binding) (fs : List DeclaredForm) → all_late (raws fs) ≡ true
    → list_any is_other_version (raws (map (λ b. namespace b) bs ++ preserved ∷ fs)) ≡ false
versions_so [] fs e = behind_version (raws fs) e
versions_so (b ∷ bs) fs e =
    ap (λ x. x || list_any is_other_version (raws (map (λ y. namespace y) bs ++ preserved ∷ fs)))
    (namespace_version b) ∙ versions_so bs fs e

this_version : is_other_version (declared.Version (codes "1.0")) ≡ false
unfolding is_other_version
this_version = refl

version_so : (q : Query) → version_broken (raw_query q).declared ≡ []
unfolding broken_if
version_so q =
    let more : List Declared = raws (map (λ b. namespace b) q.prefixes ++ preserved ∷ late q) in
    ap₂ (λ a b. broken_if (a || b) XQST0031) this_version
    (versions_so q.prefixes (late q) (late_late q))

other_rules : (seen : _) (ds : List Declared) → setters_broken seen (others ds) ≡ []
unfolding setter_broken seen_behind
other_rules seen [] = refl
other_rules seen (d ∷ ds) = other_rules seen ds

space_rules : (seen : _) (ds : List Declared)
    → setter_broken seen (setter.BoundarySpace true) ≡ []
    → setters_broken seen (setter.BoundarySpace true ∷ others ds) ≡ []
space_rules seen ds e = ap₂ (λ xs ys. xs ++ ys) e
    (other_rules (seen_behind seen (setter.BoundarySpace true)) ds)

-- a namespace is no setter of boundary white space
space_unseen : (seen : _) (b : Binding) → setter_broken seen (setter.BoundarySpace true) ≡ []
    → setter_broken (seen_behind seen (setter.Namespace b)) (setter.BoundarySpace true) ≡ []
unfolding setter_broken seen_behind
space_unseen seen b e = e

namespace_rules : (bs : List Binding) (ds : List Declared) (seen : _)
    → setter_broken seen (setter.BoundarySpace true) ≡ []
    → setters_broken seen (map (λ b. setter.Namespace b) bs) ≡ []
    → setters_broken seen (set_by bs ds) ≡ []
namespace_rules [] ds seen e h = space_rules seen ds e
namespace_rules (b ∷ bs) ds seen e h =
    let i = no_parts (setter_broken seen (setter.Namespace b))
    (setters_broken (seen_behind seen (setter.Namespace b)) (map (λ x. setter.Namespace x) bs)) h in
    ap₂ (λ xs ys. xs ++ ys) i.0 (namespace_rules bs ds (seen_behind seen (setter.Namespace b))
    (space_unseen seen b e) i.1)

nothing_broken : setter_broken nothing_seen (setter.BoundarySpace true) ≡ []
unfolding setter_broken broken_if
nothing_broken = refl

unset_rules : (ss : List Setter) → setters_broken nothing_seen (setter.Other ∷ ss)
    ≡ setters_broken nothing_seen ss
unfolding setter_broken seen_behind
unset_rules ss = refl

pub first_part_so : (q : Query) → all_can (declarations q) ≡ true
    → setters_broken nothing_seen (map (λ b. setter.Namespace b) q.prefixes) ≡ []
    → first_part_broken (raw_query q).declared ≡ []
first_part_so q c h =
    let ss : List Setter = set_by q.prefixes (raws (late q)) in
    ap₂ (λ xs ys. xs ++ ys) (version_so q)
    (ap (λ xs. setters_broken nothing_seen xs) (setters_are q c) ∙ unset_rules ss
    ∙ namespace_rules q.prefixes (raws (late q)) nothing_seen nothing_broken h)
