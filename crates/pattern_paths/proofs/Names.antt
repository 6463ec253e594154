-- The test of a pattern names one variable, and calls functions of the library alone.
use Rattle.std.proofs.Common.{◌≡◌, ℕ, List, [], ◌∷◌, map, refl, ap, sym, ◌∙◌, true, false}
use Rattle.std.specs.Prelude.{None, codes}
use Rattle.std.proofs.lemmas.Bool.{and_parts}
use Rattle.xt_names.specs.declared.kinds.AtomType.TheVariants.{Int as IntegerType}
use Rattle.xt_names.specs.declared.names.ExprName.{ExprName}
use Rattle.xt_types.specs.declared.node_tests.Test.{Test}
use Rattle.function_table.specs.Find.{found, found_in, is_in_fn, is_known}
use Rattle.function_table.specs.Table.{joined}
use Rattle.xt_syntax.specs.declared.exprs.Expr.{Expr}
use Rattle.xt_syntax.specs.declared.exprs.Clause.TheViews.{roll-Expr, roll-Arm}
use Rattle.xt_syntax.specs.declared.exprs.Clause.TheFolds.{fold-roll-Arm, fold-roll-Bind}
use Rattle.xt_syntax.specs.declared.exprs.Clause.TheOpen.{Str, Var, Context, Or, And, If, Quant}
use Rattle.xt_syntax.specs.declared.exprs.Clause.TheOpen.{General}
use Rattle.xt_syntax.specs.declared.exprs.Clause.TheOpen.{Castable, Slash, Step, Filter, Intersect}
use Rattle.xt_syntax.specs.declared.exprs.Clause.TheOpen.{Call}
use Rattle.xt_syntax.specs.declared.patterns.Pattern.{Pattern}
use Rattle.xt_syntax.specs.declared.patterns.PatternStep.{PatternStep}
use Rattle.name_rules.specs.Broken.{Binder, Rule, all_in, arm_broken, behind, bind_binder}
use Rattle.name_rules.specs.Broken.{binders_in}
use Rattle.name_rules.specs.Broken.{function_in, names_broken_of, two, variable_in}
use Rattle.name_rules.specs.Scopes.{has_name, with_names}
use Rattle.name_rules.specs.declared.functions.Signature.{Signature}
use Rattle.quiet_meaning.specs.Quietly.{Quietly, integer, last, attribute, step, path, condition}
use Rattle.quiet_meaning.specs.Quietly.{numeric, conjunction}
use Rattle.quiet_meaning.specs.Quietly.{quietly_of, is_pattern_form}
use Rattle.quiet_meaning.specs.Paths.{are_allowed}
use Rattle.expr_meaning.specs.Outcomes.Outcome.{Every}
use Rattle.expr_laws.proofs.Texts.{ArmForm, BindForm}
use Rattle.carried_exprs.specs.Forms.{ExprForm}
use Rattle.carried_exprs.specs.Sights.{item_name, the_item, library_call}
use Rattle.match_patterns.specs.Patterns.{are_allowed_steps, has_allowed}
use Rattle.pattern_paths.specs.Matching.{any_match_test, bound_step, match_test}
use Rattle.pattern_paths.specs.Properties.{HasAllowed, NamesItem}
use Rattle.pattern_paths.specs.Built.{IsKept, HasParts}
use Rattle.pattern_paths.proofs.QuietNames.{has_form, known_in, nothing_both, quiet_nameless}
use Rattle.pattern_paths.proofs.QuietNames.{rule_rolled, rule_value}
use Rattle.pattern_paths.proofs.Parts.{pattern_kept, alternatives_kept}
use Rattle.xt_names.proofs.ListLemmas.{front_nil, back_nil}
use Rattle.xt_names.specs.ExprNames.{library_name}

abbrev pub AnyTest : Test → Type 0
AnyTest wanted = Unit {0}

by_form : (x : ExprForm) → ((fs : List Signature) (scope : List ExprName) →
    has_name scope item_name ≡ true →
    rule_value fs x scope ≡ []) → NamesItem (roll-Expr x)
by_form x h fs scope i = ap (λ (r : Rule). r scope) (rule_rolled fs x) ∙ h fs scope i

to_form : (x : ExprForm) → NamesItem (roll-Expr x) → (fs : List Signature) (scope : List ExprName)
    →
    has_name scope item_name ≡ true → rule_value fs x scope ≡ []
to_form x h fs scope i = sym (ap (λ (r : Rule). r scope) (rule_rolled fs x)) ∙ h fs scope i

all_of : (fs : List Signature) (scope : List ExprName) → has_name scope item_name ≡ true →
    (es : List Expr) →
    Every NamesItem es → all_in (map (names_broken_of fs) es) scope ≡ []
all_of fs scope i [] h = refl
all_of fs scope i (e ∷ es) h =
    nothing_both (names_broken_of fs e scope) (all_in (map (names_broken_of fs) es) scope)
    (h.0 fs scope i)
    (all_of fs scope i es h.1)

from_all : (es : List Expr) → ((fs : List Signature) (scope : List ExprName) →
    has_name scope item_name ≡ true →
    all_in (map (names_broken_of fs) es) scope ≡ []) → Every NamesItem es
from_all [] h = tt
from_all (e ∷ es) h = (
  λ fs scope i. front_nil (names_broken_of fs e scope)
      (all_in (map (names_broken_of fs) es) scope) (h fs scope i),
  from_all es (λ fs scope i.
      back_nil (names_broken_of fs e scope) (all_in (map (names_broken_of fs) es) scope)
      (h fs scope i)),
)

two_of : (a b : Expr) → NamesItem a → NamesItem b → (fs : List Signature) (scope : List ExprName) →
    has_name scope item_name ≡ true → two (names_broken_of fs a) (names_broken_of fs b) scope ≡ []
two_of a b h g fs scope i =
    nothing_both (names_broken_of fs a scope) (names_broken_of fs b scope) (h fs scope i)
    (g fs scope i)

-- calls

false_known : is_known (library_name (codes "false")) 0 ≡ true
unfolding is_known found found_in joined is_in_fn
false_known = refl

true_known : is_known (library_name (codes "true")) 0 ≡ true
unfolding is_known found found_in joined is_in_fn
true_known = refl

not_known : is_known (library_name (codes "not")) 1 ≡ true
unfolding is_known found found_in joined is_in_fn
not_known = refl

uri_known : is_known (library_name (codes "namespace-uri")) 0 ≡ true
unfolding is_known found found_in joined is_in_fn
uri_known = refl

local_known : is_known (library_name (codes "local-name")) 0 ≡ true
unfolding is_known found found_in joined is_in_fn
local_known = refl

bare_call : (local : List ℕ) → is_known (library_name local) 0 ≡ true →
    NamesItem (library_call local [])
bare_call local k =
    by_form (Call (library_name local) []) (λ fs scope i.
    nothing_both (function_in fs (library_name local) 0) [] (known_in fs (library_name local) 0 k)
    refl)

negated : (a : Expr) → NamesItem a → NamesItem (library_call (codes "not") (a ∷ []))
negated a h =
    by_form (Call (library_name (codes "not")) (a ∷ [])) (λ fs scope i.
    nothing_both (function_in fs (library_name (codes "not")) 1)
    (all_in (map (names_broken_of fs) (a ∷ [])) scope)
    (known_in fs (library_name (codes "not")) 1 not_known) (all_of fs scope i (a ∷ []) (h, tt)))

-- the variable

item_named : NamesItem the_item
unfolding variable_in
item_named = by_form (Var item_name) (λ fs scope i. rw i refl)

context_named : NamesItem (roll-Expr Context)
context_named = by_form Context (λ fs scope i. refl)

slashed : (a b : Expr) → NamesItem a → NamesItem b → NamesItem (roll-Expr (Slash a b))
slashed a b h g = by_form (Slash a b) (two_of a b h g)

arm_named : (a b : Expr) → NamesItem a → NamesItem b →
    (fs : List Signature) (scope : List ExprName) →
    has_name scope item_name ≡ true → arm_broken fs (roll-Arm (record { test = a; then = b }))
    scope ≡ []
arm_named a b h g fs scope i =
    ap (λ (r : Rule). r scope)
    (let x : ArmForm = record { test = a; then = b } in fold-roll-Arm _ _ _ _ _ _ _ _ _ _ _ _ _ _ _
    _ _ _ x)
    ∙ two_of a b h g fs scope i

chosen : (a b : Expr) → NamesItem a → NamesItem b →
    NamesItem (roll-Expr (If (roll-Arm (record { test = a; then = b }) ∷ []) (roll-Expr Context)))
chosen a b h g =
    by_form (If (roll-Arm (record { test = a; then = b }) ∷ []) (roll-Expr Context)) (λ fs scope i.
    rw (arm_named a b h g fs scope i, context_named fs scope i) refl)

filtered : (a : Expr) (tests : List Expr) → NamesItem a → Every NamesItem tests →
    NamesItem (roll-Expr (Filter a tests))
filtered a tests h g =
    by_form (Filter a tests) (λ fs scope i.
    nothing_both (names_broken_of fs a scope) (all_in (map (names_broken_of fs) tests) scope)
    (h fs scope i)
    (all_of fs scope i tests g))

-- bindings of the variable leave the scope as it is

abbrev item_binder : Rule → Binder
item_binder source = record { names = item_name ∷ []; source = source }

binder_is : (fs : List Signature) (e : Expr) →
    bind_binder fs (bound_step e) ≡ item_binder (names_broken_of fs (roll-Expr (Slash the_item e)))
binder_is fs e =
    (let x : BindForm = record {
      var = item_name;
      kind = None;
      source = roll-Expr
          (Slash the_item e);
    } in
    fold-roll-Bind _ _ _ _ _ _ _ _ _ _ _ _ _ _ _ _ _ _ x)

same_scope : (scope : List ExprName) → has_name scope item_name ≡ true →
    with_names scope (item_name ∷ []) ≡ scope
same_scope scope i = rw i refl

abbrev binders : List Signature → List Expr → List Binder
binders fs es = map (bind_binder fs) (map bound_step es)

sources_named : (fs : List Signature) (scope : List ExprName) → has_name scope item_name ≡ true →
    (es : List Expr) →
    Every NamesItem es → binders_in (binders fs es) scope ≡ []
sources_named fs scope i [] h = refl
sources_named fs scope i (e ∷ es) h =
    let source = names_broken_of fs (roll-Expr (Slash the_item e)) in
    ap (λ b. binders_in (b ∷ binders fs es) scope) (binder_is fs e)
    ∙ nothing_both (source scope) (binders_in (binders fs es) (with_names scope (item_name ∷ [])))
    (slashed the_item e item_named h.0 fs scope i)
    (ap (binders_in (binders fs es)) (same_scope scope i) ∙ sources_named fs scope i es h.1)

scope_behind : (fs : List Signature) (scope : List ExprName) → has_name scope item_name ≡ true →
    (es : List Expr) →
    behind (binders fs es) scope ≡ scope
scope_behind fs scope i [] = refl
scope_behind fs scope i (e ∷ es) =
    ap (λ b. behind (b ∷ binders fs es) scope) (binder_is fs e)
    ∙ ap (behind (binders fs es)) (same_scope scope i) ∙ scope_behind fs scope i es

bound : (es : List Expr) → Every NamesItem es →
    NamesItem (roll-Expr (Quant false (map bound_step es) (library_call (codes "true") [])))
bound es h =
    by_form (Quant false (map bound_step es) (library_call (codes "true") [])) (λ fs scope i.
    nothing_both (binders_in (binders fs es) scope)
    (names_broken_of fs (library_call (codes "true") []) (behind (binders fs es) scope))
    (sources_named fs scope i es h)
    (ap (names_broken_of fs (library_call (codes "true") [])) (scope_behind fs scope i es)
    ∙ bare_call (codes "true") true_known fs scope i))

names_kept : IsKept NamesItem AnyTest
names_kept = record {
  item = item_named;
  context = context_named;
  castable = by_form (Castable (roll-Expr Context) IntegerType false) context_named;
  never = bare_call (codes "false") false_known;
  negated = negated;
  uri_called = bare_call (codes "namespace-uri") uri_known;
  local_called = bare_call (codes "local-name") local_known;
  uri_text = λ uri t. by_form (Str uri) (λ fs scope i. refl);
  local_text = λ local t. by_form (Str local) (λ fs scope i. refl);
  attribute_uri = λ uri t. by_form (Str uri) (λ fs scope i. refl);
  attribute_local = λ local t. by_form (Str local) (λ fs scope i. refl);
  node = tt;
  document = tt;
  attribute = tt;
  attribute_named = λ name t. tt;
  stepped = λ along wanted tests t h.
      by_form (Step along wanted tests) (λ fs scope i. all_of fs scope i tests h);
  step_test = λ along wanted tests h. tt;
  slashed = slashed;
  either = λ a b more h. by_form (Or (a ∷ b ∷ more))
      (λ fs scope i. all_of fs scope i (a ∷ b ∷ more) h);
  chosen = chosen;
  filtered = λ a tests s h g. filtered a tests h g;
  intersected = λ a b h g. by_form (Intersect a b) (two_of a b h g);
  compared = λ op a b h g. by_form (General op a b) (two_of a b h g);
  compared_parts = λ op a b h. (
    λ fs scope i. front_nil (names_broken_of fs a scope) (names_broken_of fs b scope)
        (to_form (General op a b) h fs scope i),
    λ fs scope i. back_nil (names_broken_of fs a scope) (names_broken_of fs b scope)
        (to_form (General op a b) h fs scope i),
  );
  joined = λ all more h e g. by_form (And more) (λ fs scope i. all_of fs scope i more g);
  joined_parts = λ all h. from_all all (to_form (And all) h);
  bound = λ es s h. bound es h;
}

-- the predicates of a pattern

allowed_form : (q : Quietly) → is_pattern_form q ≡ true → has_form q ≡ true
unfolding is_pattern_form has_form
allowed_form (integer n) h = refl
allowed_form last h = refl
allowed_form (attribute g) h = refl
allowed_form (step g) h = refl
allowed_form (path g) h = refl
allowed_form (condition c) h = refl
allowed_form (numeric c) h = refl
allowed_form (conjunction c) h = refl
allowed_form q h = absurd cc

predicates_named : (es : List Expr) → are_allowed es ≡ true → Every NamesItem es
predicates_named [] h = tt
predicates_named (e ∷ es) h =
    let p = and_parts (is_pattern_form (quietly_of e)) (are_allowed es) h in (
      λ fs scope i. quiet_nameless fs e (allowed_form (quietly_of e) p.0) scope,
      predicates_named es
          p.1,
    )

steps_named : (steps : List PatternStep) → are_allowed_steps steps ≡ true →
    Every (λ (s : PatternStep). AnyTest s.test × Every NamesItem s.quiet) steps
steps_named [] h = tt
steps_named (s ∷ steps) h =
    let p = and_parts (has_allowed s) (are_allowed_steps steps) h in
    ((tt, predicates_named s.quiet p.0), steps_named steps p.1)

pub pattern_names : (p : Pattern) → are_allowed_steps p.steps ≡ true → NamesItem (match_test p)
pattern_names p h = pattern_kept NamesItem AnyTest names_kept p (steps_named p.steps h)

patterns_named : (ps : List Pattern) → Every HasAllowed ps →
    Every (HasParts NamesItem AnyTest) ps
patterns_named [] h = tt
patterns_named (p ∷ ps) h = (steps_named p.steps h.0, patterns_named ps h.1)

pub alternatives_names : (ps : List Pattern) → Every HasAllowed ps →
    NamesItem (any_match_test ps)
alternatives_names ps h = alternatives_kept NamesItem AnyTest names_kept ps (patterns_named ps h)
