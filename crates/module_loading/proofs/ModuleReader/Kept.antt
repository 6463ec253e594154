-- What is kept of what was read.
use Rattle.std.proofs.Common.{◌≡◌, refl, List, [], ◌∷◌, Some, None}
use Rattle.xt_names.specs.declared.codes.Code.{Code}
use Rattle.expr_names.specs.Answers.{first}
use Rattle.module_loading.specs.ModuleReader.Mentions.{kept}

-- nothing, where a rule is broken
pub kept_none : {A : Type 0} (faults : List Code) (a : A) (c : Code) → first faults ≡ Some c → kept faults a ≡ None
kept_none [] a c h = cc
kept_none (d ∷ ds) a c h = refl
