use Rattle.std.proofs.Common.{subst, refl}
use Rattle.query_reader.specs.QuerySteps.Stands.{Stands}
use Rattle.query_reader.proofs.QuerySteps.StepLemmas.{at_want, tracks_now}
use Rattle.query_reader.proofs.query_steps.steps.wants.Goals as goal

pub returns-in-Front : goal.returns-in-Front
returns-in-Front c = λ k m ts st.
    (let g = subst (λ z. Stands k z m ts) c.in-Front.is st in at_want _ m _ g refl)

pub returns-in-Held : goal.returns-in-Held
returns-in-Held c = λ k m ts st.
    (let g = subst (λ z. Stands k z m ts) c.in-Held.is st in at_want _ m _ g.0 refl)

pub returns-in-Head : goal.returns-in-Head
returns-in-Head c = λ k m ts st.
    (let g = subst (λ z. Stands k z m ts) c.in-Head.is st in at_want _ m _ g refl)

pub returns-in-Closed : goal.returns-in-Closed
returns-in-Closed c = λ k m ts st.
    (let g = subst (λ z. Stands k z m ts) c.in-Closed.is st in at_want _ m _ g.mode refl)

pub returns-in-Body : goal.returns-in-Body
returns-in-Body c = λ k m ts st.
    (let g = subst (λ z. Stands k z m ts) c.in-Body.is st in
    at_want _ m _ g.mode (c.wants_operand.ensures g.frames ts (tracks_now g.holds)))

pub returns-in-Value : goal.returns-in-Value
returns-in-Value c = λ k m ts st.
    (let g = subst (λ z. Stands k z m ts) c.in-Value.is st in
    at_want _ m _ g.mode (c.wants_operand-in-Value.ensures g.frames ts (tracks_now g.holds)))

pub returns-in-Inner : goal.returns-in-Inner
returns-in-Inner c = λ k m ts st.
    (let g = subst (λ z. Stands k z m ts) c.in-Inner.is st in
    at_want _ m _ g.mode (c.wants_operand-in-Inner.ensures g.frames ts (tracks_now g.holds)))
