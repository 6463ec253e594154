use Rattle.xpath_laws.proofs.XpathForms.Whole.{xpath_fits}
use Rattle.xpath_laws.proofs.xpath_forms.expressions_nest_no_deeper.Goals as goal

pub returns : goal.returns
returns c = λ s ts v d b. (xpath_fits s d b).nests
