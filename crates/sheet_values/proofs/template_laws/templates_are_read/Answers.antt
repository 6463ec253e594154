use Rattle.sheet_values.proofs.TemplateLemmas.{fixed_parts, expressions}
use Rattle.sheet_values.proofs.template_laws.templates_are_read.Goals as goal

pub returns : goal.returns
returns c = record { fixed = fixed_parts; expressions = expressions }
