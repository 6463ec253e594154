-- Where a value may stand: the nonterminals by number, and the production through which a value
-- is at a nonterminal of which it is no form itself.
use Rattle.std.specs.Prelude.{ℕ, ◌+◌, nat_eq, Bool, true, false, Option, Some, None}
use Rattle.std.specs.Prelude.{if◌then◌else◌}
use Rattle.expr_keys.specs.Classes.{tight, fits}
use Rattle.expr_terms.specs.Productions.{head}
use Rattle.expr_keys.specs.declared.productions.Class.TheVariants as class
use Rattle.expr_keys.specs.declared.productions.Nonterminal.{Nonterminal}
use Rattle.expr_keys.specs.declared.productions.Nonterminal.TheVariants as place
use Rattle.expr_keys.specs.declared.productions.Production.{Production}
use Rattle.expr_keys.specs.declared.productions.Production.TheVariants as production
use Rattle.expr_terms.specs.declared.raws.Raw.{Raw}
use Rattle.expr_terms.specs.declared.raws.Raw.TheOpen.{Raw-F, Leaf, Node}

-- the levels have the numbers 3 to 14
abbrev pub number : Nonterminal → ℕ
number (place.Level l) = tight l
number (place.Tail l) = 20 + tight l
number place.Whole = 40
number place.WholeType = 41
number place.Expr = 42
number place.CommaExprSingle = 43
number place.Arguments = 44
number place.ExprSingle = 45
number place.ElsePart = 46
number place.Clause = 47
number place.NextClause = 48
number place.ForBinding = 49
number place.CommaForBinding = 50
number place.LetBinding = 51
number place.CommaLetBinding = 52
number place.QuantifiedBinding = 53
number place.CommaQuantifiedBinding = 54
number place.TypeDeclaration = 55
number place.PositionalVar = 56
number place.WhereClause = 57
number place.OrderByClause = 58
number place.OrderSpec = 59
number place.CommaOrderSpec = 60
number place.Direction = 61
number place.EmptyPart = 62
number place.UnaryExpr = 63
number place.PathExpr = 64
number place.AfterRoot = 65
number place.RelativePathExpr = 66
number place.StepMore = 67
number place.StepExpr = 68
number place.Predicate = 69
number place.NodeTest = 70
number place.KindTest = 71
number place.PiArgument = 72
number place.NamedArgument = 73
number place.PrimaryExpr = 74
number place.SequenceType = 75
number place.ItemType = 76
number place.OccurrenceIndicator = 77
number place.SingleType = 78
number place.QuestionPart = 79
number place.DirElemConstructor = 80
number place.DirElemClosing = 81
number place.DirAttribute = 82
number place.AttrValueContent = 83
number place.DirElemContent = 84

abbrev pub same_place : Nonterminal → Nonterminal → Bool
same_place m n = nat_eq (number m) (number n)

abbrev pub is_leaf : Raw-F Raw → Bool
is_leaf (Leaf t) = true
is_leaf (Node p vs) = false

abbrev pub is_rooted : Production → Bool
is_rooted production.RootSteps = true
is_rooted _ = false

-- steps after the root
abbrev pub is_root : Raw-F Raw → Bool
is_root (Leaf t) = false
is_root (Node p vs) = is_rooted p

-- The production that adds nothing to the value where it is its only part: each nonterminal has
-- one at most for a value.
abbrev pub passing : Nonterminal → Raw-F Raw → Option Production
passing place.Whole f = Some production.WholeExpr
passing place.WholeType f = Some production.WholeSequenceType
passing place.Expr f = Some production.ExprList
passing place.CommaExprSingle f = Some production.NextExprSingle
passing place.ExprSingle f = Some production.OperatorExpr
passing place.NextClause f = Some production.FollowingClause
passing place.CommaForBinding f = Some production.NextForBinding
passing place.CommaLetBinding f = Some production.NextLetBinding
passing place.CommaQuantifiedBinding f = Some production.NextQuantifiedBinding
passing place.CommaOrderSpec f = Some production.NextOrderSpec
passing place.Direction f = Some production.OrderDirection
passing (place.Level l) f = Some (production.OperatorChain l)
passing place.UnaryExpr f = Some production.Unsigned
passing place.PathExpr f = Some (if is_root f then production.Rooted else production.Unrooted)
passing place.RelativePathExpr f = Some production.Steps
passing place.StepExpr f = Some production.FilterStep
passing place.Predicate f = Some production.Predicated
passing place.NodeTest f =
    Some (if is_leaf f then production.NameTested else production.KindTested)
passing place.PiArgument f = Some production.PiNamed
passing place.NamedArgument f = Some production.KindNamed
passing place.PrimaryExpr f = Some production.DirectConstructor
passing place.SequenceType f = Some production.ItemsType
passing place.ItemType f = Some (if is_leaf f then production.AtomicItem else production.KindItem)
passing place.OccurrenceIndicator f = Some production.OccurrenceMark
passing place.AttrValueContent f = Some production.PartChars
passing place.DirElemContent f = Some production.ItemChars
passing _ f = None

-- how a value is at a nonterminal: as a form of it, through a production that adds nothing,
-- or not at all
pub data Way : Type 0 where
  form : Way
  through : Production → Way
  nowhere : Way

abbrev pub way_of : Option Production → Way
way_of None = nowhere
way_of (Some p) = through p

abbrev pub way : Nonterminal → Raw-F Raw → Way
way n (Leaf t) = way_of (passing n (Leaf t))
way n (Node p vs) = if same_place (head p) n then form else way_of (passing n (Node p vs))

-- whether the part is of the nonterminal, where the parts of a production may also go on with
-- something else
abbrev pub leads : Nonterminal → Raw-F Raw → Bool
leads place.Direction f = is_leaf f
leads place.DirElemContent (Leaf t) = fits class.Chars t
leads n (Leaf t) = true
leads place.NextClause (Node p vs) = same_place (head p) place.Clause
leads place.CommaQuantifiedBinding (Node p vs) = same_place (head p) place.QuantifiedBinding
leads place.TypeDeclaration (Node p vs) = same_place (head p) place.TypeDeclaration
leads place.PositionalVar (Node p vs) = same_place (head p) place.PositionalVar
leads place.WhereClause (Node p vs) = same_place (head p) place.WhereClause
leads place.OrderByClause (Node p vs) = same_place (head p) place.OrderByClause
leads place.DirAttribute (Node p vs) = same_place (head p) place.DirAttribute
leads n (Node p vs) = true
