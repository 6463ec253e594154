-- Names that texts spell, as values or errors.
use Rattle.std.proofs.Common.{◌≡◌, refl}
use Rattle.std.specs.Prelude.{Option, Some, None, Result, Ok, Err}
use Rattle.std.specs.Result.{result_ok}
use Rattle.xt_names.specs.declared.codes.Code.{Code}
use Rattle.xt_names.specs.declared.names.Name.{Name}

-- a name, or none, as a value or an error
abbrev pub IsThat : Result Name Code → Option Name → Type 0
IsThat (Ok n) (Some m) = n ≡ m
IsThat (Ok n) None = ⊥
IsThat (Err c) (Some m) = ⊥
IsThat (Err c) None = Unit {0}

-- a text that is fixed spells the same name in both
pub spelled_is : (r : Result Name Code) → IsThat r (result_ok r)
spelled_is (Ok n) = refl
spelled_is (Err c) = tt
