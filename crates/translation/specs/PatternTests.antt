-- The test of a pattern at the focus item: a path upwards from it, which is empty where the pattern
-- does not match.
use Rattle.xt_syntax.specs.declared.exprs.Expr.{Expr}
use Rattle.xt_syntax.specs.declared.patterns.Pattern.{Pattern}
use Rattle.pattern_paths.specs.Matching.{match_test as path_of}

abbrev pub match_test : Pattern → Expr
match_test p = path_of p
