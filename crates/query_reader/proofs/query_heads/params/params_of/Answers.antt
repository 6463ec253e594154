use Rattle.std.proofs.Common.{sym, ◌∙◌, ◌+◌, subst}
use Rattle.query_reader.proofs.QueryHeads.SliceLemmas.{Filled, filled_on, filled_comma}
use Rattle.query_reader.proofs.query_heads.params.params_of.Goals.{then-fits_key+in_ok-typed_of+in-Some+in_ok-push-in-Some, else-fits_key}
use Rattle.query_reader.proofs.query_heads.params.params_of.Goals as goal

pub loop-i-preserved : goal.loop-i-preserved
loop-i-preserved c =
    elim c.if-fits_key.branch [
      | then-fits_key+in_ok-typed_of+in-Some+in_ok-push-in-Some w ↦
          let f = filled_comma c.args.tokens.now c.loop-i.from c.loop-i.i c.loop-i.params
          c.index-tokens-i.result w.in-Some.param c.loop-i.invariant c.loop-i-test.true
          c.index-tokens-i.is (sym c.fits_key.ensures ∙ w.if-fits_key.true)
          (sym w.in_ok-typed_of.ensures ∙ w.in-Some.is) in
          subst (λ x. Filled c.args.tokens.now x (c.loop-i.i + 1) c.if-fits_key.params) (sym w.from-is)
          (subst (λ x. Filled c.args.tokens.now (c.loop-i.i + 1) (c.loop-i.i + 1) x)
          (sym (w.params-is ∙ w.in_ok-push-in-Some.ensures.ok)) f)
      | else-fits_key w ↦
          let f = filled_on c.args.tokens.now c.loop-i.from c.loop-i.i c.loop-i.params
          c.index-tokens-i.result c.loop-i.invariant c.loop-i-test.true c.index-tokens-i.is
          (sym c.fits_key.ensures ∙ w.if-fits_key.false) in
          subst (λ x. Filled c.args.tokens.now x (c.loop-i.i + 1) c.if-fits_key.params) (sym w.from-is)
          (subst (λ x. Filled c.args.tokens.now c.loop-i.from (c.loop-i.i + 1) x) (sym w.params-is) f)
    ]
