-- What a call answers that resolves something.
use Rattle.std.specs.Prelude.{◌≡◌, List, [], ◌∷◌, Option, Some, None, Result, Ok, Err}
use Rattle.xt_names.specs.declared.codes.Code.{Code}
use Rattle.expr_names.specs.declared.fault.ResolveFault.{ResolveFault}
use Rattle.expr_names.specs.declared.fault.ResolveFault.TheVariants.{Static, Memory}

abbrev pub first : List Code → Option Code
first [] = None
first (c ∷ cs) = Some c

-- the code is that of the first broken rule, unless memory ran out
abbrev pub IsFaultOf : ResolveFault → List Code → Type 0
IsFaultOf (Static c) broken = first broken ≡ Some c
IsFaultOf (Memory e) broken = Unit {0}

-- the value where no rule is broken, and else the code of the first broken rule
abbrev pub Answers : {A : Type 0} → Result A ResolveFault → List Code → A → Type 0
Answers (Ok v) broken value = (broken ≡ []) × (v ≡ value)
Answers (Err f) broken value = IsFaultOf f broken
