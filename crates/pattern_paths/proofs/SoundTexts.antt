-- XML allows the texts and names of a pattern's test where it allows those of its tests and
-- predicates.
use Rattle.std.proofs.Common.{◌≡◌, ℕ, List, [], ◌∷◌, map, refl, ap, sym, ◌∙◌, Bool, true, false}
use Rattle.std.proofs.lemmas.Bool.{and_parts}
use Rattle.std.specs.Prelude.{◌&&◌, None, codes}
use Rattle.xt_names.specs.Classes.{begins_name, is_in_ranges, is_ncname_text, is_xml_text}
use Rattle.xt_names.specs.declared.kinds.AtomType.TheVariants.{Int as IntegerType}
use Rattle.xt_names.specs.declared.names.ExprName.{ExprName}
use Rattle.xt_types.specs.declared.axes.Axis.{Axis}
use Rattle.xt_types.specs.declared.node_tests.NameTest.TheVariants.{Any, Uri, Local, Exact}
use Rattle.xt_types.specs.declared.node_tests.Test.{Test}
use Rattle.xt_types.specs.declared.node_tests.Test.TheVariants as test
use Rattle.xt_forms.specs.Regular.{every}
use Rattle.xt_syntax.specs.declared.exprs.Expr.{Expr}
use Rattle.xt_syntax.specs.declared.exprs.Clause.TheViews.{roll-Expr, roll-Arm}
use Rattle.xt_syntax.specs.declared.exprs.Clause.TheOpen.{Str, Var, Context, Or, And, If, Quant}
use Rattle.xt_syntax.specs.declared.exprs.Clause.TheOpen.{General}
use Rattle.xt_syntax.specs.declared.exprs.Clause.TheOpen.{Castable, Slash, Step, Filter, Intersect}
use Rattle.xt_syntax.specs.declared.exprs.Clause.TheOpen.{Call}
use Rattle.closed_queries.specs.Texts.{is_sound_expr_name, is_sound_kind, is_sound_name_test}
use Rattle.closed_queries.specs.Texts.{is_sound_test}
use Rattle.closed_queries.specs.ExprTexts.{bound_of, every_bound, has_sound_texts, is_sound_arm}
use Rattle.expr_meaning.specs.Outcomes.Outcome.{Every}
use Rattle.expr_laws.proofs.Texts.{ArmForm, BindForm, ExprForm, arm_texts_rolled}
use Rattle.expr_laws.proofs.Texts.{bind_texts_rolled, texts_of, texts_rolled}
use Rattle.carried_exprs.specs.Sights.{item_name, the_item, library_call}
use Rattle.xt_syntax.specs.declared.patterns.Pattern.{Pattern}
use Rattle.pattern_paths.specs.Matching.{any_match_test, bound_step, match_test}
use Rattle.pattern_paths.proofs.Parts.{pattern_kept, alternatives_kept}
use Rattle.pattern_paths.specs.Properties.{HasSoundTexts, IsSoundTest}
use Rattle.pattern_paths.specs.Built.{HasParts, IsKept}
use Rattle.xt_names.proofs.BoolLemmas.{and_both as both}
use Rattle.xt_names.specs.ExprNames.{library_name}

by_form : (x : ExprForm) → texts_of x ≡ true → HasSoundTexts (roll-Expr x)
by_form x h = texts_rolled x ∙ h

to_form : (x : ExprForm) → HasSoundTexts (roll-Expr x) → texts_of x ≡ true
to_form x h = sym (texts_rolled x) ∙ h

abbrev all_sound : List Expr → Bool
all_sound es = every (map has_sound_texts es)

all_of : (es : List Expr) → Every HasSoundTexts es → all_sound es ≡ true
all_of [] h = refl
all_of (e ∷ es) h = both (has_sound_texts e) (all_sound es) h.0 (all_of es h.1)

from_all : (es : List Expr) → all_sound es ≡ true → Every HasSoundTexts es
from_all [] h = tt
from_all (e ∷ es) h = let p = and_parts (has_sound_texts e) (all_sound es) h in
    (p.0, from_all es p.1)

two_sound : (a b : Expr) → HasSoundTexts a → HasSoundTexts b →
    (has_sound_texts a && has_sound_texts b) ≡ true
two_sound a b h g = both (has_sound_texts a) (has_sound_texts b) h g

-- names that the translation writes

call_sound : (local : List ℕ) → is_sound_expr_name (library_name local) ≡ true →
    (args : List Expr) →
    Every HasSoundTexts args → HasSoundTexts (library_call local args)
call_sound local n args h =
    by_form (Call (library_name local) args)
    (both (is_sound_expr_name (library_name local)) (all_sound args) n (all_of args h))

item_name_sound : is_sound_expr_name item_name ≡ true
unfolding is_sound_expr_name is_ncname_text begins_name is_in_ranges is_xml_text
item_name_sound = refl

false_name_sound : is_sound_expr_name (library_name (codes "false")) ≡ true
unfolding is_sound_expr_name is_ncname_text begins_name is_in_ranges is_xml_text
false_name_sound = refl

true_name_sound : is_sound_expr_name (library_name (codes "true")) ≡ true
unfolding is_sound_expr_name is_ncname_text begins_name is_in_ranges is_xml_text
true_name_sound = refl

not_name_sound : is_sound_expr_name (library_name (codes "not")) ≡ true
unfolding is_sound_expr_name is_ncname_text begins_name is_in_ranges is_xml_text
not_name_sound = refl

uri_name_sound : is_sound_expr_name (library_name (codes "namespace-uri")) ≡ true
unfolding is_sound_expr_name is_ncname_text begins_name is_in_ranges is_xml_text
uri_name_sound = refl

local_name_sound : is_sound_expr_name (library_name (codes "local-name")) ≡ true
unfolding is_sound_expr_name is_ncname_text begins_name is_in_ranges is_xml_text
local_name_sound = refl

-- the forms

context_sound : HasSoundTexts (roll-Expr Context)
context_sound = by_form Context refl

item_sound : HasSoundTexts the_item
item_sound = by_form (Var item_name) item_name_sound

slash_sound : (a b : Expr) → HasSoundTexts a → HasSoundTexts b →
    HasSoundTexts (roll-Expr (Slash a b))
slash_sound a b h g = by_form (Slash a b) (two_sound a b h g)

step_sound : (along : Axis) (wanted : Test) (tests : List Expr) → IsSoundTest wanted →
    Every HasSoundTexts tests →
    HasSoundTexts (roll-Expr (Step along wanted tests))
step_sound along wanted tests t h =
    by_form (Step along wanted tests) (both (is_sound_test wanted) (all_sound tests) t
    (all_of tests h))

step_test : (along : Axis) (wanted : Test) (tests : List Expr) →
    HasSoundTexts (roll-Expr (Step along wanted tests)) →
    IsSoundTest wanted
step_test along wanted tests h =
    (and_parts (is_sound_test wanted) (all_sound tests) (to_form (Step along wanted tests) h)).0

arm_sound : (a b : Expr) → HasSoundTexts a → HasSoundTexts b →
    is_sound_arm (roll-Arm (record { test = a; then = b })) ≡ true
arm_sound a b h g =
    (let x : ArmForm = record { test = a; then = b } in arm_texts_rolled x) ∙ two_sound a b h g

chosen_sound : (a b : Expr) → HasSoundTexts a → HasSoundTexts b →
    HasSoundTexts (roll-Expr (If (roll-Arm (record { test = a; then = b }) ∷ [])
    (roll-Expr Context)))
chosen_sound a b h g =
    by_form (If (roll-Arm (record { test = a; then = b }) ∷ []) (roll-Expr Context))
    (rw (arm_sound a b h g, context_sound) refl)

filter_sound : (a : Expr) (tests : List Expr) → HasSoundTexts a → Every HasSoundTexts tests →
    HasSoundTexts (roll-Expr (Filter a tests))
filter_sound a tests h g = by_form (Filter a tests) (both (has_sound_texts a) (all_sound tests) h
    (all_of tests g))

text_sound : (t : List ℕ) → is_xml_text t ≡ true → HasSoundTexts (roll-Expr (Str t))
text_sound t h = by_form (Str t) h

bind_sound : (e : Expr) → HasSoundTexts e → (bound_of (bound_step e)).sound ≡ true
unfolding is_sound_kind
bind_sound e h =
    ap (λ b. b.sound)
    (let x : BindForm = record {
      var = item_name;
      kind = None;
      source = roll-Expr
          (Slash the_item e);
    } in
    bind_texts_rolled x)
    ∙ both (is_sound_expr_name item_name) (has_sound_texts (roll-Expr (Slash the_item e)))
    item_name_sound
    (slash_sound the_item e item_sound h)

binds_sound : (es : List Expr) → Every HasSoundTexts es →
    every_bound (map bound_of (map bound_step es)) ≡ true
binds_sound [] h = refl
binds_sound (e ∷ es) h =
    both (bound_of (bound_step e)).sound (every_bound (map bound_of (map bound_step es)))
    (bind_sound e h.0)
    (binds_sound es h.1)

bound_sound : (es : List Expr) → Every HasSoundTexts es →
    HasSoundTexts (roll-Expr (Quant false (map bound_step es) (library_call (codes "true") [])))
bound_sound es h =
    by_form (Quant false (map bound_step es) (library_call (codes "true") []))
    (both (every_bound (map bound_of (map bound_step es)))
    (has_sound_texts (library_call (codes "true") []))
    (binds_sound es h) (call_sound (codes "true") true_name_sound [] tt))

-- tests

uri_sound : (uri : List ℕ) → IsSoundTest (test.Named (Uri uri)) →
    HasSoundTexts (roll-Expr (Str uri))
unfolding is_sound_test is_sound_name_test
uri_sound uri h = text_sound uri h

local_sound : (local : List ℕ) → IsSoundTest (test.Named (Local local)) →
    HasSoundTexts (roll-Expr (Str local))
unfolding is_sound_test is_sound_name_test
local_sound local h = text_sound local h

attribute_uri_sound : (uri : List ℕ) → IsSoundTest (test.Attr (Uri uri)) →
    HasSoundTexts (roll-Expr (Str uri))
unfolding is_sound_test is_sound_name_test
attribute_uri_sound uri h = text_sound uri h

attribute_local_sound : (local : List ℕ) → IsSoundTest (test.Attr (Local local)) →
    HasSoundTexts (roll-Expr (Str local))
unfolding is_sound_test is_sound_name_test
attribute_local_sound local h = text_sound local h

node_sound : IsSoundTest test.Node
unfolding is_sound_test
node_sound = refl

document_sound : IsSoundTest test.Doc
unfolding is_sound_test
document_sound = refl

attribute_sound : IsSoundTest (test.Attr Any)
unfolding is_sound_test is_sound_name_test
attribute_sound = refl

named_sound : (name : ExprName) → IsSoundTest (test.Named (Exact name)) →
    IsSoundTest (test.Attr (Exact name))
unfolding is_sound_test
named_sound name h = h

pub sound_kept : IsKept HasSoundTexts IsSoundTest
sound_kept = record {
  item = item_sound;
  context = context_sound;
  castable = by_form (Castable (roll-Expr Context) IntegerType false) context_sound;
  never = call_sound (codes "false") false_name_sound [] tt;
  negated = λ a h. call_sound (codes "not") not_name_sound (a ∷ []) (h, tt);
  uri_called = call_sound (codes "namespace-uri") uri_name_sound [] tt;
  local_called = call_sound (codes "local-name") local_name_sound [] tt;
  uri_text = uri_sound;
  local_text = local_sound;
  attribute_uri = attribute_uri_sound;
  attribute_local = attribute_local_sound;
  node = node_sound;
  document = document_sound;
  attribute = attribute_sound;
  attribute_named = named_sound;
  stepped = step_sound;
  step_test = step_test;
  slashed = slash_sound;
  either = λ a b more h. by_form (Or (a ∷ b ∷ more)) (all_of (a ∷ b ∷ more) h);
  chosen = chosen_sound;
  filtered = λ a tests s h g. filter_sound a tests h g;
  intersected = λ a b h g. by_form (Intersect a b) (two_sound a b h g);
  compared = λ op a b h g. by_form (General op a b) (two_sound a b h g);
  compared_parts = λ op a b h. and_parts (has_sound_texts a) (has_sound_texts b)
      (to_form (General op a b) h);
  joined = λ es fs h e g. by_form (And fs) (all_of fs g);
  joined_parts = λ es h. from_all es (to_form (And es) h);
  bound = λ es s h. bound_sound es h;
}

pub pattern_sound : (p : Pattern) → HasParts HasSoundTexts IsSoundTest p →
    HasSoundTexts (match_test p)
pattern_sound p h = pattern_kept HasSoundTexts IsSoundTest sound_kept p h

pub alternatives_sound : (ps : List Pattern) → Every (HasParts HasSoundTexts IsSoundTest) ps →
    HasSoundTexts (any_match_test ps)
alternatives_sound ps h = alternatives_kept HasSoundTexts IsSoundTest sound_kept ps h
