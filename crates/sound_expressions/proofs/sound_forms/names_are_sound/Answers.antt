use Rattle.sound_expressions.proofs.SoundForms.NameLemmas.{name_written, expr_name_good, node_name_good}
use Rattle.expr_rules.specs.ExprMeant.Names.{written_in}
use Rattle.sound_expressions.proofs.sound_forms.names_are_sound.Goals as goal

pub returns-clause-expr : goal.returns-clause-expr
returns-clause-expr c = λ b d t u v f s. expr_name_good b d (written_in t) u v (name_written t f s)

pub returns-clause-node : goal.returns-clause-node
returns-clause-node c = λ b d t u v x f s e.
    node_name_good b d (written_in t) u v x (name_written t f s) e
