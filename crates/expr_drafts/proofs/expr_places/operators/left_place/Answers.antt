use Rattle.std.proofs.Common.{ℕ, sym, ap, ◌∙◌}
use Rattle.expr_raws.specs.PathRaws.Forms.{said}
use Rattle.expr_raws.specs.Raws.{form_of}
use Rattle.expr_drafts.proofs.ExprPlaces.Operands.{marked_operand, plain_operand}
use Rattle.expr_drafts.proofs.expr_places.operators.left_place.Goals as goal

pub returns-then-takes_mark : goal.returns-then-takes_mark
returns-then-takes_mark c = λ ts. marked_operand c.args.level c.args.key c.args.prefixes.now
    c.args.a.now ts (sym c.takes_mark.ensures ∙ c.if-takes_mark.true)

pub returns-else-takes_mark : goal.returns-else-takes_mark
returns-else-takes_mark c = λ ts.
    ap (λ (n : ℕ). said n (form_of c.args.prefixes.now c.args.a.now) ts) c.of_level.ensures
    ∙ plain_operand c.args.level c.args.key c.args.prefixes.now c.args.a.now ts
    (sym c.takes_mark.ensures ∙ c.if-takes_mark.false)
