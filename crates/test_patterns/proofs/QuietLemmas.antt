-- What is quiet has a meaning as a predicate.
use Rattle.std.proofs.Common.{◌≡◌, List, [], ◌∷◌, refl, true}
use Rattle.std.specs.List.{list_all}
use Rattle.std.proofs.lemmas.Bool.{and_parts}
use Rattle.xt_syntax.specs.declared.exprs.Expr.{Expr}
use Rattle.xt_syntax.specs.declared.patterns.PatternStep.{PatternStep}
use Rattle.xt_forms.specs.Quiet.{is_quiet_expr}
use Rattle.xt_forms.specs.Regular.{is_regular_expr}
use Rattle.quiet_meaning.specs.Quietly.{quietly_of, is_pattern_form}
use Rattle.quiet_meaning.specs.Paths.{are_allowed}
use Rattle.quiet_meaning.proofs.FormLemmas.{pattern_predicate}
use Rattle.match_patterns.specs.Patterns.{are_allowed_steps}

pub quiet_form : (e : Expr) → is_quiet_expr e ≡ true → is_pattern_form (quietly_of e) ≡ true
quiet_form e h =
    (and_parts (is_regular_expr e) (is_pattern_form (quietly_of e)) (pattern_predicate e h)).1

pub quiet_list : (tests : List Expr) → list_all is_quiet_expr tests ≡ true
    → are_allowed tests ≡ true
quiet_list [] h = refl
quiet_list (e ∷ tests) h = let p = and_parts (is_quiet_expr e) (list_all is_quiet_expr tests) h in
    rw (quiet_form e p.0, quiet_list tests p.1) refl

pub quiet_steps : (steps : List PatternStep) → list_all (λ s. list_all is_quiet_expr s.quiet) steps
    ≡ true → are_allowed_steps steps ≡ true
quiet_steps [] h = refl
quiet_steps (s ∷ steps) h =
    let p = and_parts (list_all is_quiet_expr s.quiet)
    (list_all (λ (s : PatternStep). list_all is_quiet_expr s.quiet) steps) h in
    rw (quiet_list s.quiet p.0, quiet_steps steps p.1) refl
