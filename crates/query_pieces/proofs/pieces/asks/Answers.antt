use Rattle.std.proofs.Common.{sym, ap, ◌∙◌, ◌&&◌}
use Rattle.std.specs.Str.{chars}
use Rattle.query_pieces.specs.Fronts.{begins}
use Rattle.query_pieces.proofs.AskLemmas.{same_outside, same_over, same_fault, same_found}
use Rattle.query_pieces.proofs.AskLemmas.{sees_at, same_as}
use Rattle.query_pieces.proofs.pieces.asks.Goals as goal
use Rattle.xt_names.specs.Characters.{starts_name}

pub returns-then-is_ascii_text : goal.returns-then-is_ascii_text
returns-then-is_ascii_text c = λ e p s.
    let t = sees_at p _ _ _ c.in-Some-Token.is (rw c.in-Some-Token.is at c.in-Some-Token.field-0-is) s in
    same_found _ _ _ (ap (λ b. b && begins starts_name (chars c.in-Some-Token.rest.now))
    (sym c.is_ascii_text.ensures ∙ c.if-is_ascii_text.true) ∙ sym c.begins_name.ensures ∙ e) p t.1

pub returns-else-is_ascii_text : goal.returns-else-is_ascii_text
returns-else-is_ascii_text c = λ e p s.
    let t = sees_at p _ _ _ c.in-Some-Token.is (rw c.in-Some-Token.is at c.in-Some-Token.field-0-is) s in
    same_found _ _ _ (ap (λ b. b && begins starts_name (chars c.in-Some-Token.rest.now))
    (sym c.is_ascii_text.ensures ∙ e)) p t.1

pub returns-in-Some-Over : goal.returns-in-Some-Over
returns-in-Some-Over c = λ e. same_as _ _ _ c.in-Some-Over.is (rw c.in-Some-Over.is at c.in-Some-Over.field-0-is) same_over

pub returns-in-Some-Fault : goal.returns-in-Some-Fault
returns-in-Some-Fault c = λ e. same_as _ _ _ c.in-Some-Fault.is (rw c.in-Some-Fault.is at c.in-Some-Fault.field-0-is) same_fault

pub returns-in-None : goal.returns-in-None
returns-in-None c = λ e. rw c.in-None.is same_outside
