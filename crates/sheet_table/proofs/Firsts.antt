-- The first code of two lists of codes.
use Rattle.std.proofs.Common.{◌≡◌, List, [], ◌∷◌, ◌++◌, Some, None, refl}
use Rattle.xt_names.specs.declared.codes.Code.{Code}
use Rattle.expr_names.specs.Answers.{first}

pub first_some : (cs ds : List Code) (c : Code) → Some c ≡ first cs → first (cs ++ ds) ≡ Some c
first_some [] ds c h = cc
first_some (x ∷ cs) ds c h = cc

pub first_none : (cs ds : List Code) → None ≡ first cs → first (cs ++ ds) ≡ first ds
first_none [] ds h = refl
first_none (x ∷ cs) ds h = cc
