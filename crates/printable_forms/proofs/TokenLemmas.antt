-- What stands in the place of a token that may be missing can be printed where there is one.
use Rattle.std.proofs.Common.{◌≡◌, Bool, Option, Some, None, refl}
use Rattle.std.specs.Prelude.{is_some}
use Rattle.expr_keys.specs.declared.keys.Key.{Key}
use Rattle.expr_keys.specs.declared.tokens.Token.{Token}
use Rattle.expr_raws.specs.PathRaws.Paths.{with_token, variable_with, leaf_test, named_test}
use Rattle.expr_raws.specs.ControlRaws.Types.{single_with}

pub leaf_can : (o : Option Token) → (with_token o leaf_test).can ≡ is_some o
leaf_can None = refl
leaf_can (Some t) = refl

pub named_can : (k : Key) (o : Option Token) → (with_token o (named_test k)).can ≡ is_some o
named_can k None = refl
named_can k (Some t) = refl

pub variable_can : (o : Option Token) → (with_token o variable_with).can ≡ is_some o
variable_can None = refl
variable_can (Some t) = refl

pub single_can : (empty : Bool) (o : Option Token)
    → (with_token o (single_with empty)).can ≡ is_some o
single_can empty None = refl
single_can empty (Some t) = refl

pub ruleset tokens = (leaf_can, named_can, variable_can, single_can)
