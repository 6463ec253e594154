-- Nonterminals are told apart by their numbers, and what hands a value on is of its nonterminal.
use Rattle.std.proofs.Common.{◌≡◌, ℕ, Bool, true, false, cond, Option, Some, None, refl, sym}
use Rattle.std.proofs.Common.{◌∙◌, ap, nat_lt}
use Rattle.std.proofs.lemmas.Bool.{eqb-true}
use Rattle.expr_terms.specs.Productions.{head, passes}
use Rattle.expr_keys.specs.declared.productions.Level.TheVariants as level
use Rattle.expr_keys.specs.declared.productions.Nonterminal.{Nonterminal}
use Rattle.expr_keys.specs.declared.productions.Nonterminal.TheVariants as place
use Rattle.expr_keys.specs.declared.productions.Production.{Production}
use Rattle.expr_keys.specs.declared.productions.Production.TheVariants as production
use Rattle.expr_terms.specs.declared.raws.Raw.{Raw}
use Rattle.expr_terms.specs.declared.raws.Raw.TheOpen.{Raw-F}
use Rattle.raw_tokens.specs.Places.{number, same_place, is_leaf, is_root, passing}

abbrev place_of : ℕ → Nonterminal
place_of n = (cond (nat_lt n 50) (cond (nat_lt n 28) (cond (nat_lt n 11) (cond (nat_lt n 7)
    (cond (nat_lt n 5) (cond (nat_lt n 4) (place.Level level.Cast) (place.Level
    level.Castable)) (cond (nat_lt n 6) (place.Level level.Treat) (place.Level
    level.InstanceOf))) (cond (nat_lt n 9) (cond (nat_lt n 8) (place.Level level.Intersect)
    (place.Level level.Union)) (cond (nat_lt n 10) (place.Level level.Multiplicative) (place.Level
    level.Additive)))) (cond (nat_lt n 23) (cond (nat_lt n 13) (cond (nat_lt n 12) (place.Level
    level.Range) (place.Level level.Comparison)) (cond (nat_lt n 14) (place.Level level.And)
    (place.Level level.Or))) (cond (nat_lt n 25) (cond (nat_lt n 24) (place.Tail level.Cast)
    (place.Tail level.Castable)) (cond (nat_lt n 26) (place.Tail level.Treat) (cond (nat_lt n
    27) (place.Tail level.InstanceOf) (place.Tail level.Intersect)))))) (cond (nat_lt n 41) (cond
    (nat_lt n 32) (cond (nat_lt n 30) (cond (nat_lt n 29) (place.Tail level.Union) (place.Tail
    level.Multiplicative)) (cond (nat_lt n 31) (place.Tail level.Additive) (place.Tail level.Range)))
    (cond (nat_lt n 34) (cond (nat_lt n 33) (place.Tail level.Comparison) (place.Tail level.And))
    (cond (nat_lt n 40) (place.Tail level.Or) place.Whole))) (cond (nat_lt n 45) (cond (nat_lt
    n 43) (cond (nat_lt n 42) place.WholeType place.Expr) (cond (nat_lt n 44) place.CommaExprSingle
    place.Arguments)) (cond (nat_lt n 47) (cond (nat_lt n 46) place.ExprSingle place.ElsePart) (cond
    (nat_lt n 48) place.Clause (cond (nat_lt n 49) place.NextClause place.ForBinding)))))) (cond
    (nat_lt n 67) (cond (nat_lt n 58) (cond (nat_lt n 54) (cond (nat_lt n 52) (cond (nat_lt n
    51) place.CommaForBinding place.LetBinding) (cond (nat_lt n 53) place.CommaLetBinding place.QuantifiedBinding))
    (cond (nat_lt n 56) (cond (nat_lt n 55) place.CommaQuantifiedBinding place.TypeDeclaration) (cond (nat_lt n 57)
    place.PositionalVar place.WhereClause))) (cond (nat_lt n 62) (cond (nat_lt n 60) (cond (nat_lt n 59)
    place.OrderByClause place.OrderSpec) (cond (nat_lt n 61) place.CommaOrderSpec place.Direction)) (cond
    (nat_lt n 64) (cond (nat_lt n 63) place.EmptyPart place.UnaryExpr) (cond (nat_lt n 65)
    place.PathExpr (cond (nat_lt n 66) place.AfterRoot place.RelativePathExpr))))) (cond (nat_lt n 76) (cond
    (nat_lt n 71) (cond (nat_lt n 69) (cond (nat_lt n 68) place.StepMore place.StepExpr) (cond
    (nat_lt n 70) place.Predicate place.NodeTest)) (cond (nat_lt n 73) (cond (nat_lt n 72)
    place.KindTest place.PiArgument) (cond (nat_lt n 74) place.NamedArgument (cond (nat_lt n 75)
    place.PrimaryExpr place.SequenceType)))) (cond (nat_lt n 80) (cond (nat_lt n 78) (cond (nat_lt n 77)
    place.ItemType place.OccurrenceIndicator) (cond (nat_lt n 79) place.SingleType place.QuestionPart))
    (cond (nat_lt n 82) (cond (nat_lt n 81) place.DirElemConstructor place.DirElemClosing) (cond (nat_lt n 83)
    place.DirAttribute (cond (nat_lt n 84) place.AttrValueContent place.DirElemContent)))))))

back : (n : Nonterminal) → place_of (number n) ≡ n
back (place.Level level.Cast) = refl
back (place.Level level.Castable) = refl
back (place.Level level.Treat) = refl
back (place.Level level.InstanceOf) = refl
back (place.Level level.Intersect) = refl
back (place.Level level.Union) = refl
back (place.Level level.Multiplicative) = refl
back (place.Level level.Additive) = refl
back (place.Level level.Range) = refl
back (place.Level level.Comparison) = refl
back (place.Level level.And) = refl
back (place.Level level.Or) = refl
back (place.Tail level.Cast) = refl
back (place.Tail level.Castable) = refl
back (place.Tail level.Treat) = refl
back (place.Tail level.InstanceOf) = refl
back (place.Tail level.Intersect) = refl
back (place.Tail level.Union) = refl
back (place.Tail level.Multiplicative) = refl
back (place.Tail level.Additive) = refl
back (place.Tail level.Range) = refl
back (place.Tail level.Comparison) = refl
back (place.Tail level.And) = refl
back (place.Tail level.Or) = refl
back place.Whole = refl
back _ = refl

pub same : (m n : Nonterminal) → same_place m n ≡ true → m ≡ n
same m n e = sym (back m) ∙ ap place_of (eqb-true (number m) (number n) e) ∙ back n

-- a production of the nonterminal that hands a value on
abbrev pub Passing : Nonterminal → Option Production → Type 0
Passing n None = Unit {0}
Passing n (Some p) = (head p ≡ n) × (passes p ≡ true)

pub passing_is : (n : Nonterminal) (f : Raw-F Raw) → Passing n (passing n f)
passing_is place.PathExpr f = go (is_root f)
  where
    go : (b : Bool)
        → Passing place.PathExpr (Some (cond b production.Rooted production.Unrooted))
    go true = (refl, refl)
    go false = (refl, refl)
passing_is place.NodeTest f = go (is_leaf f)
  where
    go : (b : Bool)
        → Passing place.NodeTest (Some (cond b production.NameTested production.KindTested))
    go true = (refl, refl)
    go false = (refl, refl)
passing_is place.ItemType f = go (is_leaf f)
  where
    go : (b : Bool)
        → Passing place.ItemType (Some (cond b production.AtomicItem production.KindItem))
    go true = (refl, refl)
    go false = (refl, refl)
passing_is place.Whole f = (refl, refl)
passing_is place.WholeType f = (refl, refl)
passing_is place.Expr f = (refl, refl)
passing_is place.CommaExprSingle f = (refl, refl)
passing_is place.ExprSingle f = (refl, refl)
passing_is place.NextClause f = (refl, refl)
passing_is place.CommaForBinding f = (refl, refl)
passing_is place.CommaLetBinding f = (refl, refl)
passing_is place.CommaQuantifiedBinding f = (refl, refl)
passing_is place.CommaOrderSpec f = (refl, refl)
passing_is place.Direction f = (refl, refl)
passing_is place.UnaryExpr f = (refl, refl)
passing_is place.RelativePathExpr f = (refl, refl)
passing_is place.StepExpr f = (refl, refl)
passing_is place.Predicate f = (refl, refl)
passing_is place.PiArgument f = (refl, refl)
passing_is place.NamedArgument f = (refl, refl)
passing_is place.PrimaryExpr f = (refl, refl)
passing_is place.SequenceType f = (refl, refl)
passing_is place.OccurrenceIndicator f = (refl, refl)
passing_is place.AttrValueContent f = (refl, refl)
passing_is place.DirElemContent f = (refl, refl)
passing_is (place.Level l) f = (refl, refl)
passing_is _ f = tt
