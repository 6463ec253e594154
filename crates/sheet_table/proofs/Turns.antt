-- One turn of the walk over the attributes that take few values.
use Rattle.std.proofs.Common.{◌≡◌, ◌∙◌, ap, sym, ℕ, ◌+◌, ◌<◌, List, ◌++◌, Option, Some, None, true, length, drop, get_or}
use Rattle.std.proofs.lemmas.Bool.{and_parts}
use Rattle.xt_names.specs.declared.codes.Code.{Code}
use Rattle.xt_tree.specs.declared.attributes.Attribute.{Attribute}
use Rattle.expr_names.specs.Answers.{first}
use Rattle.sheet_table.specs.declared.choices.Choice.{Choice}
use Rattle.sheet_table.specs.ChoicesOfCode.{choice_as, choices_as, is_ascii_choice, are_ascii_choices}
use Rattle.sheet_table.specs.Rules.{each, choice_faults}
use Rattle.sheet_table.proofs.Firsts.{first_some, first_none}
use Rattle.xt_names.proofs.ListLemmas.{drop_next}

abbrev pub faults_of : List Attribute → List Choice → List Code
faults_of attributes cs = each (choice_faults attributes) (choices_as cs)

turn : (attributes : List Attribute) (cs : List Choice) (i : ℕ) (d : Choice) → i < length cs
    → faults_of attributes (drop i cs) ≡ choice_faults attributes (choice_as (get_or cs i d)) ++ faults_of attributes (drop (i + 1) cs)
turn attributes cs i d less = ap (faults_of attributes) (drop_next cs i d less)

-- a choice that is broken is the first
pub found_turn : (attributes : List Attribute) (cs : List Choice) (i : ℕ) (d : Choice) (code : Code) (found : Option Code)
    → first (faults_of attributes cs) ≡ first (faults_of attributes (drop i cs)) → i < length cs
    → found ≡ first (choice_faults attributes (choice_as (get_or cs i d))) → found ≡ Some code → Some code ≡ first (faults_of attributes cs)
found_turn attributes cs i d code found same less h is =
    sym (same ∙ (ap first (turn attributes cs i d less) ∙ first_some (choice_faults attributes (choice_as (get_or cs i d))) (faults_of attributes (drop (i + 1) cs)) code (sym is ∙ h)))

-- after one that is not broken the first is the same
pub none_turn : (attributes : List Attribute) (cs : List Choice) (i : ℕ) (d : Choice) (found : Option Code)
    → first (faults_of attributes cs) ≡ first (faults_of attributes (drop i cs)) → i < length cs
    → found ≡ first (choice_faults attributes (choice_as (get_or cs i d))) → found ≡ None → first (faults_of attributes cs) ≡ first (faults_of attributes (drop (i + 1) cs))
none_turn attributes cs i d found same less h is =
    same ∙ (ap first (turn attributes cs i d less) ∙ first_none (choice_faults attributes (choice_as (get_or cs i d))) (faults_of attributes (drop (i + 1) cs)) (sym is ∙ h))

pub ascii_turn : (cs : List Choice) (i : ℕ) (d : Choice) → i < length cs → are_ascii_choices (drop i cs) ≡ true → are_ascii_choices (drop (i + 1) cs) ≡ true
ascii_turn cs i d less h =
    (and_parts (is_ascii_choice (get_or cs i d)) (are_ascii_choices (drop (i + 1) cs)) (sym (ap are_ascii_choices (drop_next cs i d less)) ∙ h)).1
