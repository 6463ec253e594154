-- What lists, conditionals and quantifiers mean (XPath 2.0, 3.3.1, 3.6, 3.8 and 3.9).
use Rattle.std.specs.Prelude.{List, [], ◌∷◌, Bool, true, false}
use Rattle.xt_syntax.specs.declared.exprs.Expr.{Expr}
use Rattle.xt_syntax.specs.declared.exprs.Expr.TheVariants as expr
use Rattle.xt_syntax.specs.declared.exprs.Arm.{Arm}
use Rattle.xt_syntax.specs.declared.exprs.Bind.{Bind}
use Rattle.expr_keys.specs.declared.keys.Key.{Key}
use Rattle.expr_keys.specs.declared.keys.Key.TheVariants.{EveryWord as every_word}
use Rattle.expr_rules.specs.declared.expr_meant.meant.Meant.{Meant}
use Rattle.expr_rules.specs.declared.expr_meant.meant.Meant.TheVariants as meant
use Rattle.expr_rules.specs.ExprMeant.Parts.{expr_of, exprs_of, expr_in, key_of}

-- a, b, ..
abbrev pub listed : List Meant → Expr
listed ms = expr.Comma (exprs_of ms)

abbrev pub arm : Meant → Meant → Arm
arm test first = record { test = expr_of test; then = expr_of first }

-- of `if`, `then`, and so on in turn, and the last `else`
abbrev pub arms_of : List Meant → List Arm
arms_of [] = []
arms_of (a ∷ []) = []
arms_of (a ∷ b ∷ ms) = arm a b ∷ arms_of ms

abbrev pub other_of : List Meant → Expr
other_of [] = expr.Comma []
other_of (a ∷ []) = expr_of a
other_of (a ∷ b ∷ ms) = other_of ms

abbrev pub conditional : List Meant → Expr
conditional ms = expr.If (arms_of ms) (other_of ms)

unfoldable pub is_every : Key → Bool
is_every every_word = true
is_every _ = false

abbrev pub is_every_first : List Meant → Bool
is_every_first [] = false
is_every_first (m ∷ ms) = is_every (key_of m)

unfoldable pub bind_and : Meant → List Bind → List Bind
bind_and (meant.Bind b) bs = b ∷ bs
bind_and _ bs = bs

abbrev pub binds_of : List Meant → List Bind
binds_of [] = []
binds_of (m ∷ ms) = bind_and m (binds_of ms)

-- some $v in a satisfies b
abbrev pub quantified : List Meant → Expr
quantified ms = expr.Quant (is_every_first ms) (binds_of ms) (expr_in ms)
