-- How answers follow one another.
use Rattle.std.proofs.Common.{◌≡◌, List, [], ◌∷◌, ◌++◌, rules}
use Rattle.xt_names.specs.declared.codes.Code.{Code}
use Rattle.expr_names.specs.declared.fault.ResolveFault.{ResolveFault}
use Rattle.expr_names.specs.declared.fault.ResolveFault.TheVariants.{Static, Memory}
use Rattle.expr_names.specs.Answers.{IsFaultOf}

-- a fault of the first part is one of the whole
pub fault_first : (f : ResolveFault) (xs ys : List Code) → IsFaultOf f xs → IsFaultOf f (xs ++ ys)
fault_first (Static c) [] ys h = search rules
fault_first (Static c) (x ∷ xs) ys h = h
fault_first (Memory e) xs ys h = tt

-- a fault of what follows is one of the whole
pub fault_next : (f : ResolveFault) (xs ys : List Code) → xs ≡ [] → IsFaultOf f ys → IsFaultOf f (xs ++ ys)
fault_next f xs ys e h = rw e h
