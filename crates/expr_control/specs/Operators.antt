-- What operators mean (XPath 2.0, 3.3 to 3.5 and 3.10).
use Rattle.std.specs.Prelude.{List, [], ◌∷◌, Bool}
use Rattle.xt_names.specs.declared.names.Binding.{Binding}
use Rattle.xt_names.specs.declared.kinds.AtomType.{AtomType}
use Rattle.xt_names.specs.declared.kinds.CompareOp.TheVariants as compare
use Rattle.xt_names.specs.declared.kinds.ArithOp.TheVariants as arith
use Rattle.xt_types.specs.declared.types.SeqType.{SeqType}
use Rattle.xt_syntax.specs.declared.exprs.Expr.{Expr}
use Rattle.xt_syntax.specs.declared.exprs.Expr.TheVariants as expr
use Rattle.expr_keys.specs.declared.keys.Key.{Key}
use Rattle.expr_keys.specs.declared.keys.Key.TheVariants as key
use Rattle.expr_keys.specs.declared.productions.Level.{Level}
use Rattle.expr_keys.specs.declared.productions.Level.TheVariants as level
use Rattle.expr_rules.specs.declared.expr_meant.meant.Meant.{Meant}
use Rattle.expr_rules.specs.declared.expr_meant.meant.Meant.TheVariants as meant
use Rattle.expr_rules.specs.ExprMeant.Parts.{expr_of, exprs_of, key_of, expr_in}
use Rattle.expr_control.specs.Types.{typed}

-- comparisons
unfoldable pub compared : Key → Expr → Expr → Expr
compared key.Equal a b = expr.General compare.Eq a b
compared key.NotEqual a b = expr.General compare.Ne a b
compared key.Less a b = expr.General compare.Lt a b
compared key.LessEqual a b = expr.General compare.Le a b
compared key.Greater a b = expr.General compare.Gt a b
compared key.GreaterEqual a b = expr.General compare.Ge a b
compared key.EqWord a b = expr.Value compare.Eq a b
compared key.NeWord a b = expr.Value compare.Ne a b
compared key.LtWord a b = expr.Value compare.Lt a b
compared key.LeWord a b = expr.Value compare.Le a b
compared key.GtWord a b = expr.Value compare.Gt a b
compared key.GeWord a b = expr.Value compare.Ge a b
compared key.Before a b = expr.Before a b
compared key.After a b = expr.After a b
compared _ a b = expr.Is a b

-- the other operators between two operands
unfoldable pub combined : Key → Expr → Expr → Expr
combined key.Plus a b = expr.Arith arith.Add a b
combined key.Minus a b = expr.Arith arith.Sub a b
combined key.Star a b = expr.Arith arith.Mul a b
combined key.IdivWord a b = expr.Arith arith.Idiv a b
combined key.ModWord a b = expr.Arith arith.Mod a b
combined key.IntersectWord a b = expr.Intersect a b
combined key.ExceptWord a b = expr.Except a b
combined key.ToWord a b = expr.Range a b
combined _ a b = expr.Union a b

unfoldable pub operated_by : Level → Key → Expr → Expr → Expr
operated_by level.Comparison k a b = compared k a b
operated_by _ k a b = combined k a b

-- after the operand stands a type
unfoldable pub of_type : Level → Expr → SeqType → Expr
of_type level.Treat a kind = expr.Treat a kind
of_type _ a kind = expr.InstanceOf a kind

unfoldable pub of_single : Level → Expr → AtomType → Bool → Expr
of_single level.Cast a kind empty = expr.Cast a kind empty
of_single _ a kind empty = expr.Castable a kind empty

-- one more operator of the level
unfoldable pub joined : Level → Expr → Meant → Expr
joined l a (meant.Tail k b) = operated_by l k a b
joined l a (meant.Sequence kind) = of_type l a kind
joined l a (meant.Single kind empty) = of_single l a kind empty
joined l a _ = a

-- the operators of a level associate to the left
abbrev pub chain_from : Level → Expr → List Meant → Expr
chain_from l a [] = a
chain_from l a (m ∷ ms) = chain_from l (joined l a m) ms

abbrev pub left_chain : Level → List Meant → Expr
left_chain l [] = expr.Comma []
left_chain l (m ∷ ms) = chain_from l (expr_of m) ms

-- .. but `or` and `and` make lists
unfoldable pub chained : Level → List Meant → Expr
chained level.Or ms = expr.Or (exprs_of ms)
chained level.And ms = expr.And (exprs_of ms)
chained l ms = left_chain l ms

-- an operator with the operand at its right
abbrev pub tail : List Meant → Meant
tail [] = meant.Mark
tail (m ∷ ms) = meant.Tail (key_of m) (expr_in ms)

-- the type of a cast
unfoldable pub single_of : Meant → Meant
single_of (meant.Single kind empty) = meant.Single kind empty
single_of _ = meant.Mark

abbrev pub single_in : List Meant → Meant
single_in [] = meant.Mark
single_in (m ∷ ms) = single_of m

unfoldable pub operated : List Binding → Level → List Meant → Meant
operated bound level.InstanceOf ms = meant.Sequence (typed bound ms)
operated bound level.Treat ms = meant.Sequence (typed bound ms)
operated bound level.Castable ms = single_in ms
operated bound level.Cast ms = single_in ms
operated bound _ ms = tail ms

unfoldable pub signed_by : Key → Expr → Expr
signed_by key.Minus a = expr.Minus a
signed_by _ a = expr.Plus a

-- +a, -a
abbrev pub signed : List Meant → Expr
signed [] = expr.Comma []
signed (m ∷ ms) = signed_by (key_of m) (expr_in ms)
