-- Rules that are broken, and that none is.
use Rattle.std.proofs.Common.{◌≡◌, Bool, true, false, ◌&&◌, List, [], ◌∷◌, Some}
use Rattle.std.proofs.Common.{refl}
use Rattle.xt_names.specs.declared.codes.Code.{Code}
use Rattle.expr_names.specs.Answers.{first}
use Rattle.expr_raws.specs.PathRaws.Names.{no_codes}

pub none_broken : (b : Bool) (cs : List Code) → cs ≡ [] → b ≡ (b && no_codes cs)
none_broken true [] e = refl
none_broken false [] e = refl
none_broken b (c ∷ cs) e = absurd (cc)

pub some_broken : (b : Bool) (cs : List Code) (c : Code) → first cs ≡ Some c
    → false ≡ (b && no_codes cs)
some_broken b [] c e = absurd (cc)
some_broken true (d ∷ cs) c e = refl
some_broken false (d ∷ cs) c e = refl

pub ruleset faults = (none_broken, some_broken)
