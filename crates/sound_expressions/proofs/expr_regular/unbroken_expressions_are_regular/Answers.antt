use Rattle.sound_expressions.proofs.ExprRegular.Regular.{whole_good, single_good, type_regular, type_sound}
use Rattle.sound_expressions.proofs.expr_regular.unbroken_expressions_are_regular.Goals as goal

pub returns-clause-whole : goal.returns-clause-whole
returns-clause-whole c = λ s l ts v u a d h b. whole_good s u a d h b

pub returns-clause-single : goal.returns-clause-single
returns-clause-single c = λ s l ts v u a d h b. single_good s u a d h b

pub returns-clause-kind : goal.returns-clause-kind
returns-clause-kind c = λ s l ts v u a d b. type_regular s u a d b

pub returns-clause-sound_kind : goal.returns-clause-sound_kind
returns-clause-sound_kind c = λ s l ts v u a d b. type_sound s u a d b
