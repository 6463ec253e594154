use Rattle.expr_keys.specs.Classes.{fits}
use Rattle.expr_raws.specs.PathRaws.Names.{names, spellings}
use Rattle.expr_raws.proofs.PathRaws.Paths.{fitting_sound, name_found}
use Rattle.expr_raws.proofs.path_raws.names_mean.Goals as goal

pub returns-clause-of_class : goal.returns-clause-of_class
returns-clause-of_class r c bound default n t e =
    (fitting_sound c (names bound default n) (spellings bound n.local) t e).0

pub returns-clause-means : goal.returns-clause-means
returns-clause-means r = name_found
