use Rattle.std.proofs.Common.{sym, ap, ◌∙◌}
use Rattle.xt_names.specs.declared.kinds.ArithOp.{ArithOp}
use Rattle.expr_keys.specs.declared.keys.Key.TheVariants as key
use Rattle.expr_keys.specs.declared.productions.Level.TheVariants as level
use Rattle.expr_raws.specs.ControlRaws.Operators.{arithmetic}
use Rattle.expr_raws.specs.Raws.{form_of}
use Rattle.expr_drafts.proofs.ExprPlaces.Operands.{chained_tokens}
use Rattle.expr_drafts.proofs.expr_places.operators.arithmetic.Goals as goal

pub returns-in-Add : goal.returns-in-Add
returns-in-Add c = λ b ts.
    let p = c.args.prefixes.now in
    chained_tokens level.Additive key.Plus _ (form_of p c.args.a.now) (form_of p b) _ _ ts
    c.chained.ensures.left c.chained.ensures.key c.chained.ensures.right
    ∙ ap (λ (op : ArithOp). (arithmetic op (form_of p c.args.a.now) (form_of p b)).tokens ts)
    (sym c.in-Add.is)

pub returns-in-Sub : goal.returns-in-Sub
returns-in-Sub c = λ b ts.
    let p = c.args.prefixes.now in
    chained_tokens level.Additive key.Minus _ (form_of p c.args.a.now) (form_of p b) _ _ ts
    c.chained-in-Sub.ensures.left c.chained-in-Sub.ensures.key c.chained-in-Sub.ensures.right
    ∙ ap (λ (op : ArithOp). (arithmetic op (form_of p c.args.a.now) (form_of p b)).tokens ts)
    (sym c.in-Sub.is)

pub returns-in-Mul : goal.returns-in-Mul
returns-in-Mul c = λ b ts.
    let p = c.args.prefixes.now in
    chained_tokens level.Multiplicative key.Star _ (form_of p c.args.a.now) (form_of p b) _ _ ts
    c.chained-in-Mul.ensures.left c.chained-in-Mul.ensures.key c.chained-in-Mul.ensures.right
    ∙ ap (λ (op : ArithOp). (arithmetic op (form_of p c.args.a.now) (form_of p b)).tokens ts)
    (sym c.in-Mul.is)

pub returns-in-Idiv : goal.returns-in-Idiv
returns-in-Idiv c = λ b ts.
    let p = c.args.prefixes.now in
    chained_tokens level.Multiplicative key.IdivWord _ (form_of p c.args.a.now) (form_of p b) _ _ ts
    c.chained-in-Idiv.ensures.left c.chained-in-Idiv.ensures.key c.chained-in-Idiv.ensures.right
    ∙ ap (λ (op : ArithOp). (arithmetic op (form_of p c.args.a.now) (form_of p b)).tokens ts)
    (sym c.in-Idiv.is)

pub returns-in-Mod : goal.returns-in-Mod
returns-in-Mod c = λ b ts.
    let p = c.args.prefixes.now in
    chained_tokens level.Multiplicative key.ModWord _ (form_of p c.args.a.now) (form_of p b) _ _ ts
    c.chained-in-Mod.ensures.left c.chained-in-Mod.ensures.key c.chained-in-Mod.ensures.right
    ∙ ap (λ (op : ArithOp). (arithmetic op (form_of p c.args.a.now) (form_of p b)).tokens ts)
    (sym c.in-Mod.is)
