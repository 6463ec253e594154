use Rattle.way_back.proofs.Law.{makes_the_same}
use Rattle.way_back.proofs.what_a_query_makes_its_stylesheet_makes.Goals as goal

pub returns : goal.returns
returns c = makes_the_same
