use Rattle.xpath_laws.proofs.XpathForms.Shapes.{whole_shaped}
use Rattle.xpath_laws.proofs.xpath_forms.expressions_are_shaped.Goals as goal

pub returns : goal.returns
returns c = λ ts v d. whole_shaped d
