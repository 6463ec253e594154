use Rattle.std.proofs.Common.{subst, ◌∷◌}
use Rattle.std.proofs.lemmas.Result.{IfOk-weaker}
use Rattle.query_reader.specs.QuerySteps.Stands.{Stands}
use Rattle.query_reader.proofs.QuerySteps.StepLemmas.{in_mode}
use Rattle.query_reader.proofs.query_steps.steps.step.Goals as goal

pub returns-in-Front : goal.returns-in-Front
returns-in-Front c =
    IfOk-weaker c.front_step.result _ _
    (λ x h. λ m ts e st.
    (let g = subst (λ z. Stands c.args.limit z m (c.args.token ∷ ts)) c.in-Front.is st in
    in_mode c.args.limit x m _ c.args.token c.args.second ts g (h ts e)))
    c.front_step.ensures

pub returns-in-Held : goal.returns-in-Held
returns-in-Held c =
    IfOk-weaker c.held_step.result _ _
    (λ x h. λ m ts e st.
    (let g = subst (λ z. Stands c.args.limit z m (c.args.token ∷ ts)) c.in-Held.is st in
    in_mode c.args.limit x m _ c.args.token c.args.second ts g.0 (h ts g.1 e)))
    c.held_step.ensures

pub returns-in-Head : goal.returns-in-Head
returns-in-Head c =
    IfOk-weaker c.head_step.result _ _
    (λ x h. λ m ts e st.
    (let g = subst (λ z. Stands c.args.limit z m (c.args.token ∷ ts)) c.in-Head.is st in
    in_mode c.args.limit x m _ c.args.token c.args.second ts g (h ts)))
    c.head_step.ensures

pub returns-in-Body : goal.returns-in-Body
returns-in-Body c =
    IfOk-weaker c.body_step.result _ _
    (λ x h. λ m ts e st.
    (let g = subst (λ z. Stands c.args.limit z m (c.args.token ∷ ts)) c.in-Body.is st in
    in_mode c.args.limit x m _ c.args.token c.args.second ts g.mode
    (h c.args.limit g.frames ts e g.holds)))
    c.body_step.ensures

pub returns-in-Value : goal.returns-in-Value
returns-in-Value c =
    IfOk-weaker c.value_step.result _ _
    (λ x h. λ m ts e st.
    (let g = subst (λ z. Stands c.args.limit z m (c.args.token ∷ ts)) c.in-Value.is st in
    in_mode c.args.limit x m _ c.args.token c.args.second ts g.mode
    (h c.args.limit g.frames ts e g.holds)))
    c.value_step.ensures

pub returns-in-Inner : goal.returns-in-Inner
returns-in-Inner c =
    IfOk-weaker c.inner_step.result _ _
    (λ x h. λ m ts e st.
    (let g = subst (λ z. Stands c.args.limit z m (c.args.token ∷ ts)) c.in-Inner.is st in
    in_mode c.args.limit x m _ c.args.token c.args.second ts g.mode
    (h c.args.limit g.frames ts e g.holds)))
    c.inner_step.ensures

pub returns-in-Closed : goal.returns-in-Closed
returns-in-Closed c = λ m ts e st.
    c.closed_step.ensures c.args.limit m c.args.second ts
    (subst (λ z. Stands c.args.limit z m (c.args.token ∷ ts)) c.in-Closed.is st)
