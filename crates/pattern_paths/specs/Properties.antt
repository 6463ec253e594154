-- What is known of the test of a pattern besides its meaning.
use Rattle.std.specs.Prelude.{◌≡◌, List, [], true}
use Rattle.xt_names.specs.declared.names.ExprName.{ExprName}
use Rattle.xt_types.specs.Regular.{is_regular_test}
use Rattle.xt_types.specs.declared.node_tests.Test.{Test}
use Rattle.xt_forms.specs.Regular.{is_regular_expr}
use Rattle.xt_syntax.specs.declared.exprs.Expr.{Expr}
use Rattle.xt_syntax.specs.declared.patterns.Pattern.{Pattern}
use Rattle.name_rules.specs.Broken.{names_broken_of}
use Rattle.name_rules.specs.Scopes.{has_name}
use Rattle.name_rules.specs.declared.functions.Signature.{Signature}
use Rattle.closed_queries.specs.ExprTexts.{has_sound_texts}
use Rattle.closed_queries.specs.Texts.{is_sound_test}
use Rattle.match_patterns.specs.Patterns.{are_allowed_steps}
use Rattle.carried_exprs.specs.Sights.{item_name}
use Rattle.pattern_paths.specs.Matching.{is_whole_pattern}

-- a pattern that has steps, or begins with `/`, and whose predicates are such as patterns may have
pub record IsUsable (p : Pattern) : Type 0 where
  pub allowed : are_allowed_steps p.steps ≡ true
  pub whole : is_whole_pattern p ≡ true

abbrev pub HasAllowed : Pattern → Type 0
HasAllowed p = are_allowed_steps p.steps ≡ true

abbrev pub IsRegular : Expr → Type 0
IsRegular e = is_regular_expr e ≡ true

abbrev pub IsRegularTest : Test → Type 0
IsRegularTest wanted = is_regular_test wanted ≡ true

abbrev pub HasSoundTexts : Expr → Type 0
HasSoundTexts e = has_sound_texts e ≡ true

abbrev pub IsSoundTest : Test → Type 0
IsSoundTest wanted = is_sound_test wanted ≡ true

-- No rule on names is broken wherever `$x:item` is in scope, whatever functions are declared: so no
-- other variable is read that is not bound there, and functions of the library alone are called.
abbrev pub NamesItem : Expr → Type 0
NamesItem e =
    (fs : List Signature) (scope : List ExprName) → has_name scope item_name ≡ true →
    names_broken_of fs e scope ≡ []
