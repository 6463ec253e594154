-- Quiet predicates have a meaning of their own.
use Rattle.std.proofs.Common.{◌≡◌, List, [], ◌∷◌, map, refl, ap, ◌∙◌, true}
use Rattle.std.specs.List.{list_all}
use Rattle.std.proofs.lemmas.Bool.{and_parts}
use Rattle.xt_syntax.specs.declared.exprs.Expr.{Expr}
use Rattle.xt_forms.specs.Quiet as forms
use Rattle.xt_forms.specs.Quiet.{is_quiet_expr}
use Rattle.quiet_meaning.specs.Forms.{form_of}
use Rattle.quiet_meaning.specs.Quietly.{Quietly, integer, last, attribute, step, path, condition}
use Rattle.quiet_meaning.specs.Quietly.{quietly_of, is_predicate}
use Rattle.quiet_meaning.proofs.FormLemmas.{all_are_alike}
use Rattle.walk_laws.specs.QuietValues.Given.{has_quiet_form, have_quiet_forms}
use Rattle.walk_laws.proofs.QuietValues.Laws.{quiet_by_test}

by_form : (q : Quietly) → forms.is_predicate (form_of q) ≡ true → is_predicate q ≡ true
unfolding form_of forms.is_predicate is_predicate
by_form (integer n) h = refl
by_form last h = refl
by_form (attribute g) h = refl
by_form (step g) h = refl
by_form (path g) h = refl
by_form (condition c) h = refl
by_form q h = absurd cc

one_predicate : (e : Expr) → has_quiet_form e ≡ true → is_predicate (quietly_of e) ≡ true
one_predicate e h = by_form (quietly_of e) (ap forms.is_predicate (all_are_alike e) ∙ h)

pub all_predicates : (es : List Expr) → have_quiet_forms es ≡ true →
    list_all is_predicate (map quietly_of es) ≡ true
all_predicates [] h = refl
all_predicates (e ∷ es) h =
    let p = and_parts (has_quiet_form e) (have_quiet_forms es) h in
    rw (one_predicate e p.0, all_predicates es p.1) refl

pub all_quiet : (tests : List Expr) → list_all is_quiet_expr tests ≡ true → have_quiet_forms tests ≡ true
all_quiet [] h = refl
all_quiet (e ∷ tests) h =
    let p = and_parts (is_quiet_expr e) (list_all is_quiet_expr tests) h in
    rw (quiet_by_test e p.0, all_quiet tests p.1) refl
