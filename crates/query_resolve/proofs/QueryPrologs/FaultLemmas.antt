-- The first broken rule, where there is one.
use Rattle.std.proofs.Common.{◌≡◌, List, [], ◌∷◌, Option, Some, None, refl}
use Rattle.std.proofs.lemmas.Option.{none-some}
use Rattle.xt_names.specs.declared.codes.Code.{Code}
use Rattle.name_rules.specs.Faults.{first}
use Rattle.expr_names.specs.Answers.{first as first_broken}

pub same_first : (codes : List Code) → first codes ≡ first_broken codes
unfolding first
same_first [] = refl
same_first (c ∷ cs) = refl

pub none_broken : (codes : List Code) → None ≡ first codes → codes ≡ []
unfolding first
none_broken [] e = refl
none_broken (c ∷ cs) e = absurd (none-some _ e)

pub some_broken : (codes : List Code) (c : Code) (found : Option Code) → found ≡ Some c
    → found ≡ first codes → first_broken codes ≡ Some c
unfolding first
some_broken [] c found i e = cc
some_broken (d ∷ cs) c found i e = cc
