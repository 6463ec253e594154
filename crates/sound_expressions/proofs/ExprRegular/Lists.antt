-- Lists of parts of one kind.
use Rattle.std.proofs.Common.{List, [], ◌∷◌, Bool}
use Rattle.expr_keys.specs.declared.productions.Nonterminal.{Nonterminal}
use Rattle.expr_keys.specs.declared.productions.Production.{Production}
use Rattle.expr_keys.specs.declared.productions.Symbol.TheVariants.{Many as many}
use Rattle.expr_rules.specs.declared.expr_meant.meant.Meant.{Meant}
use Rattle.expr_rules.specs.ExprMeant.Parts.{expr_of, exprs_of}
use Rattle.expr_resolve.specs.declared.setting.Setting.{Setting}
use Rattle.sound_expressions.proofs.SoundForms.FormLemmas.{Fine, AllFine, form_empty}
use Rattle.sound_expressions.proofs.ExprRegular.Claims.{IsExpr, expr_is, IsForm, form_is, IsTail, tail_operand}
use Rattle.sound_expressions.proofs.ExprRegular.Claims.{tail_type, tail_single, MeantBy, Filled, end}
use Rattle.sound_expressions.proofs.ExprRegular.Claims.{stop, again}

abbrev pub All : (Meant → Type 0) → List Meant → Type 0
All P [] = Unit {0}
All P (m ∷ ms) = P m × All P ms

pub many_are : {s : Setting} {p : Production} {b : Bool} {n : Nonterminal} {ms : List Meant}
    → Filled s p b (many n ∷ []) ms → All (λ m. MeantBy n m) ms
many_are (stop end) = tt
many_are (again g o q) = (g, many_are q)

pub expr_fine : (m : Meant) → IsExpr m → Fine (expr_of m)
unfolding expr_of
expr_fine _ (expr_is f) = f

pub exprs_fine : (ms : List Meant) → All IsExpr ms → AllFine (exprs_of ms)
exprs_fine [] a = tt
exprs_fine (m ∷ ms) a = (expr_fine m a.0, exprs_fine ms a.1)

pub tail_fine : (m : Meant) → IsTail m → Fine (expr_of m)
unfolding expr_of
tail_fine _ (tail_operand f) = f
tail_fine _ (tail_type g) = form_empty.fine
tail_fine _ (tail_single c) = form_empty.fine

pub tails_fine : (ms : List Meant) → All IsTail ms → AllFine (exprs_of ms)
tails_fine [] a = tt
tails_fine (m ∷ ms) a = (tail_fine m a.0, tails_fine ms a.1)

pub form_expr : (m : Meant) → IsForm m → IsExpr m
form_expr _ (form_is f) = expr_is f.fine
