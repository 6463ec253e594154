use Rattle.std.proofs.Common.{subst, [], refl}
use Rattle.std.proofs.lemmas.Result.{IfOk-weaker}
use Rattle.query_reader.specs.QuerySteps.Stands.{Stands}
use Rattle.query_reader.proofs.QuerySteps.StepLemmas.{end_nothing, held_ends, body_ends}
use Rattle.query_reader.proofs.query_steps.steps.finish.Goals as goal

pub returns-in-Front : goal.returns-in-Front
returns-in-Front c = λ m st.
    (let g = subst (λ z. Stands c.args.limit z m []) c.in-Front.is st in
    end_nothing c.args.limit m _ g refl)

pub returns-in-Head : goal.returns-in-Head
returns-in-Head c = λ m st.
    (let g = subst (λ z. Stands c.args.limit z m []) c.in-Head.is st in
    end_nothing c.args.limit m _ g refl)

pub returns-in-Closed : goal.returns-in-Closed
returns-in-Closed c = λ m st.
    (let g = subst (λ z. Stands c.args.limit z m []) c.in-Closed.is st in
    end_nothing c.args.limit m _ g.mode refl)

pub returns-in-Value : goal.returns-in-Value
returns-in-Value c = λ m st.
    (let g = subst (λ z. Stands c.args.limit z m []) c.in-Value.is st in
    end_nothing c.args.limit m _ g.mode refl)

pub returns-in-Inner : goal.returns-in-Inner
returns-in-Inner c = λ m st.
    (let g = subst (λ z. Stands c.args.limit z m []) c.in-Inner.is st in
    end_nothing c.args.limit m _ g.mode refl)

pub returns-in-Held : goal.returns-in-Held
returns-in-Held c =
    IfOk-weaker c.held_end.result _ _
    (λ x h. λ m st.
    (let g = subst (λ z. Stands c.args.limit z m []) c.in-Held.is st in
    held_ends c.args.limit x m _ _ g.0 (h g.1)))
    c.held_end.ensures

pub returns-in-Body : goal.returns-in-Body
returns-in-Body c =
    IfOk-weaker c.finish.result _ _
    (λ x h. λ m st.
    (let g = subst (λ z. Stands c.args.limit z m []) c.in-Body.is st in
    body_ends c.args.limit x _ m g h))
    c.finish.ensures
