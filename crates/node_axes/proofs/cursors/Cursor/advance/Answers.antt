use Rattle.std.proofs.Common.{sym, ap, ◌∙◌}
use Rattle.node_axes.specs.Course.{to_come}
use Rattle.node_axes.specs.contracts.cursors.Cursor.{the_view}
use Rattle.node_axes.proofs.CursorLemmas.{present_some, ends_walk}
use Rattle.node_axes.proofs.cursors.Cursor.advance.Goals as goal

pub returns-clause-found : goal.returns-clause-found
returns-clause-found g c = present_some c.move_on-self-inside.result c.self.inside.start c.move_on-self-inside.new.path.items c.move_on-self-inside.new.attribute

pub returns-clause-walk : goal.returns-clause-walk
unfolding to_come
returns-clause-walk g c = sym (ap to_come c.self.view_is) ∙ c.move_on-self-inside.ensures.walk

pub returns-clause-end : goal.returns-clause-end
returns-clause-end g c = λ e.
    ends_walk c.args.self.now (the_view c.self.inside) c.move_on-self-inside.result c.self.inside.axis c.self.inside.start c.move_on-self-inside.new.path.items c.move_on-self-inside.new.attribute
    c.self.view_is c.move_on-self-inside.ensures.walk e
