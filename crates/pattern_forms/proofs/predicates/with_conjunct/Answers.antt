use Rattle.std.proofs.Common.{◌∙◌, sym}
use Rattle.pattern_forms.proofs.FormLemmas.{tally_numeric, tally_truth, tally_other}
use Rattle.pattern_forms.proofs.predicates.with_conjunct.Goals as goal

pub returns-then-is_numeric-clause-tally : goal.returns-then-is_numeric-clause-tally
returns-then-is_numeric-clause-tally c = λ qs q t g. tally_numeric qs q c.args.part _ _ _ (sym c.is_numeric.ensures ∙ c.if-is_numeric.true) t g

pub returns-then-is_truth-clause-tally : goal.returns-then-is_truth-clause-tally
returns-then-is_truth-clause-tally c = λ qs q t g. tally_truth qs q c.args.part _ _ _ (sym c.is_numeric.ensures ∙ c.if-is_numeric.false) (sym c.is_truth.ensures ∙ c.if-is_truth.true) t g

pub returns-clause-tally : goal.returns-clause-tally
returns-clause-tally c = λ qs q t g. tally_other qs q c.args.part _ _ _ (sym c.is_numeric.ensures ∙ c.if-is_numeric.false) (sym c.is_truth.ensures ∙ c.if-is_truth.false) t g
