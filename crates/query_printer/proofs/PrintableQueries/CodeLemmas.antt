-- Rules that are broken, and that none is.
use Rattle.std.proofs.Common.{◌≡◌, Bool, false, ◌&&◌, not, List, [], ◌∷◌, Some, refl}
use Rattle.std.specs.Prelude.{is_some}
use Rattle.xt_names.specs.declared.codes.Code.{Code}
use Rattle.name_rules.specs.Faults.{first}
use Rattle.expr_names.specs.Answers as answers
use Rattle.expr_raws.specs.PathRaws.Names.{no_codes}
use Rattle.std.proofs.Math.Bool.{and-true}

pub codes_are : (cs : List Code) → not (is_some (first cs)) ≡ no_codes cs
unfolding first
codes_are [] = refl
codes_are (c ∷ cs) = refl

pub ruleset codes = (codes_are)

pub none_broken : (b : Bool) (cs : List Code) → cs ≡ [] → b ≡ (no_codes cs && b)
none_broken b [] e = refl
none_broken b (c ∷ cs) e = absurd (cc)

pub some_broken : (b : Bool) (cs : List Code) (c : Code) → answers.first cs ≡ Some c
    → false ≡ (no_codes cs && b)
some_broken b [] c e = absurd (cc)
some_broken b (d ∷ cs) c e = refl

pub ruleset kept = (none_broken, some_broken)

-- one declaration alone
pub ruleset alone = (and-true)
