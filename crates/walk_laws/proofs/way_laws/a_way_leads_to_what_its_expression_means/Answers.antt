use Rattle.walk_laws.proofs.WayLaws.Nodes.{known, way_few}
use Rattle.walk_laws.proofs.WayLaws.Means.{way_law}
use Rattle.walk_laws.proofs.way_laws.a_way_leads_to_what_its_expression_means.Goals as goal

pub returns-clause-value : goal.returns-clause-value
returns-clause-value c = way_law

pub returns-clause-few : goal.returns-clause-few
returns-clause-few c = λ w walked there. way_few w (known w walked there)
