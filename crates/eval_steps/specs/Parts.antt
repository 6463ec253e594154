-- What the parts of expressions mean.
use Rattle.xt_syntax.specs.declared.exprs.Arm.{Arm}
use Rattle.xt_syntax.specs.declared.exprs.Bind.{Bind}
use Rattle.xt_syntax.specs.declared.exprs.Clause.{Clause}
use Rattle.xt_syntax.specs.declared.exprs.Order.{Order}
use Rattle.xt_syntax.specs.declared.exprs.NameSource.{NameSource}
use Rattle.xt_syntax.specs.declared.exprs.DirectAttr.{DirectAttr}
use Rattle.xt_syntax.specs.declared.exprs.Part.{Part}
use Rattle.xt_syntax.specs.declared.exprs.Flwor.{Flwor}
use Rattle.xt_syntax.specs.Layers.{arm_gives, bind_gives, clause_gives, order_gives, name_gives}
use Rattle.xt_syntax.specs.Layers.{attr_gives, part_gives, flwor_gives}
use Rattle.expr_meaning.specs.Env.{Program, Meaning}
use Rattle.expr_meaning.specs.Logic.{Bound}
use Rattle.expr_meaning.specs.Flow.{ClauseMeaning, OrderMeaning}
use Rattle.expr_meaning.specs.Names.{NameMeaning}
use Rattle.expr_meaning.specs.Making.{AttributeMeaning, PartMeaning}
use Rattle.expr_meaning.specs.Meaning.{meanings, steps}

abbrev pub arm_outcome : Program → Arm → Meaning × Meaning
arm_outcome p = arm_gives meanings (steps p)

abbrev pub bind_outcome : Program → Bind → Bound
bind_outcome p = bind_gives meanings (steps p)

abbrev pub clause_outcome : Program → Clause → ClauseMeaning
clause_outcome p = clause_gives meanings (steps p)

abbrev pub order_outcome : Program → Order → OrderMeaning
order_outcome p = order_gives meanings (steps p)

abbrev pub name_outcome : Program → NameSource → NameMeaning
name_outcome p = name_gives meanings (steps p)

abbrev pub attr_outcome : Program → DirectAttr → AttributeMeaning
attr_outcome p = attr_gives meanings (steps p)

abbrev pub part_outcome : Program → Part → PartMeaning
part_outcome p = part_gives meanings (steps p)

abbrev pub flwor_outcome : Program → Flwor → Meaning
flwor_outcome p = flwor_gives meanings (steps p)
