use Rattle.std.proofs.Common.{refl, sym, ◌∙◌, subst}
use Rattle.std.proofs.lemmas.Result.{IfOk-weaker}
use Rattle.query_grammar.specs.Machine as machine
use Rattle.query_grammar.specs.Machine.{to_end, to_value, to_inner}
use Rattle.query_grammar.specs.Machine.{whole_of, value_start, inner_start}
use Rattle.query_reader.specs.QuerySteps.Stands.{Turned}
use Rattle.query_reader.proofs.QuerySteps.FrontLemmas.{head_on, head_whole, head_value, head_inner}
use Rattle.query_reader.proofs.QuerySteps.FrontLemmas.{head_refused}
use Rattle.query_reader.proofs.query_steps.fronts.head_step.Goals as goal

pub returns-then-is_head : goal.returns-then-is_head
returns-then-is_head c = λ ts.
    record {
      mode = machine.head c.args.opening c.push.new.self.items;
      onto =
          head_on c.args.opening c.args.tokens.items c.push.new.self.items c.args.token
          (sym c.is_head.ensures ∙ c.if-is_head.true) c.in_ok-push.ensures.items;
      stands = refl;
    }

pub returns-then-fits_key : goal.returns-then-fits_key
returns-then-fits_key c =
    IfOk-weaker c.whole_end.result _ _
    (λ x h. λ ts. head_whole c.args.limit x c.args.opening c.args.tokens.items ts c.args.token
    (sym c.is_head.ensures ∙ c.if-is_head.false) (sym c.fits_key.ensures ∙ c.if-fits_key.true)
    (subst (λ us. Turned c.args.limit x (to_end (whole_of c.args.opening us)) ts)
    c.as_slice.ensures.value (h c.args.limit ts)))
    c.whole_end.ensures

pub returns-then-fits_key-2 : goal.returns-then-fits_key-2
returns-then-fits_key-2 c =
    IfOk-weaker c.value_front.result _ _
    (λ x h. λ ts. head_value c.args.limit x c.args.opening c.args.tokens.items ts c.args.token
    (sym c.is_head.ensures ∙ c.if-is_head.false) (sym c.fits_key.ensures ∙ c.if-fits_key.false)
    (sym c.fits_key-else-fits_key.ensures ∙ c.if-fits_key-2.true)
    (subst (λ us. Turned c.args.limit x (to_value (value_start c.args.opening us)) ts)
    c.as_slice-then-fits_key-2.ensures.value (h ts)))
    c.value_front.ensures

pub returns-then-fits_key-3 : goal.returns-then-fits_key-3
returns-then-fits_key-3 c =
    IfOk-weaker c.inner_front.result _ _
    (λ x h. λ ts. head_inner c.args.limit x c.args.opening c.args.tokens.items ts c.args.token
    (sym c.is_head.ensures ∙ c.if-is_head.false) (sym c.fits_key.ensures ∙ c.if-fits_key.false)
    (sym c.fits_key-else-fits_key.ensures ∙ c.if-fits_key-2.false)
    (sym c.fits_key-else-fits_key-2.ensures ∙ c.if-fits_key-3.true)
    (subst (λ us. Turned c.args.limit x (to_inner (inner_start c.args.opening us)) ts)
    c.as_slice-then-fits_key-3.ensures.value (h ts)))
    c.inner_front.ensures

pub returns : goal.returns
returns c = λ ts.
    head_refused c.args.opening c.args.tokens.items c.args.token
    (sym c.is_head.ensures ∙ c.if-is_head.false) (sym c.fits_key.ensures ∙ c.if-fits_key.false)
    (sym c.fits_key-else-fits_key.ensures ∙ c.if-fits_key-2.false)
    (sym c.fits_key-else-fits_key-2.ensures ∙ c.if-fits_key-3.false)
