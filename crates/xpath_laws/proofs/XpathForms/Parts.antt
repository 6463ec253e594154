-- What the parts of productions of XPath mean and how deep they nest, by the nonterminals that they are
-- read as.
use Rattle.std.proofs.Common.{◌≡◌, ℕ, List, [], ◌∷◌, map, Bool, true, cond}
use Rattle.xt_types.specs.declared.types.SeqType.{SeqType}
use Rattle.xt_names.specs.declared.kinds.AtomType.{AtomType}
use Rattle.xt_syntax.specs.declared.exprs.Expr.{Expr}
use Rattle.xt_syntax.specs.declared.exprs.Bind.{Bind}
use Rattle.xt_syntax.specs.declared.exprs.Clause.{Clause}
use Rattle.expr_terms.specs.Nest.{Levels, Mark, plain, deep, mark_of, before_parts, with_parts}
use Rattle.expr_terms.specs.Nest.{whole_nest}
use Rattle.expr_keys.specs.Classes.{fits}
use Rattle.expr_terms.specs.Productions.{keeps}
use Rattle.expr_keys.specs.declared.keys.Key.{Key}
use Rattle.expr_keys.specs.declared.tokens.Token.{Token}
use Rattle.expr_keys.specs.declared.productions.Class.{Class}
use Rattle.expr_keys.specs.declared.productions.Level.TheVariants as level
use Rattle.expr_keys.specs.declared.productions.Nonterminal.{Nonterminal}
use Rattle.expr_keys.specs.declared.productions.Nonterminal.TheVariants as nonterminal
use Rattle.expr_keys.specs.declared.productions.Production.{Production}
use Rattle.expr_keys.specs.declared.productions.Symbol.{Symbol}
use Rattle.expr_keys.specs.declared.productions.Symbol.TheVariants.{Tok as tok, One as one}
use Rattle.expr_keys.specs.declared.productions.Symbol.TheVariants.{Maybe as maybe, Many as many}
use Rattle.expr_keys.specs.declared.productions.Symbol.TheVariants.{Longest as longest}
use Rattle.expr_rules.specs.declared.expr_meant.meant.Meant.{Meant}
use Rattle.expr_rules.specs.declared.expr_meant.meant.Meant.TheVariants as meant
use Rattle.expr_resolve.specs.declared.setting.Setting.{Setting}
use Rattle.expr_resolve.specs.Tables.{act}
use Rattle.xpath_laws.proofs.XpathForms.Fits.{Property, Fit, AllFit, FitBind, FitClause, AllClauses}

-- what is told of a part
pub record Told : Type 0 where
  pub levels : Levels
  pub value : Meant

abbrev pub told : ℕ → Mark → Meant → Told
told n m x = record { levels = record { nest = n; mark = m }; value = x }

abbrev pub leaf_told : Token → Told
leaf_told t = told 0 plain (meant.Token t)

abbrev pub levels_in : List Told → List Levels
levels_in xs = map (λ x. x.levels) xs

abbrev pub values_in : List Told → List Meant
values_in xs = map (λ x. x.value) xs

-- .. of a production, from what is told of its parts
abbrev pub made : Setting → Production → List Told → Told
made s p xs = record {
  levels = record {
    nest = whole_nest p (with_parts p (before_parts p) (levels_in xs));
    mark = mark_of p;
  };
  value = act s p (values_in xs);
}

module _ (asked : Property) where
  pub data IsExpr : Told → Type 0 where
    expr_is : {n : ℕ} {e : Expr} → Fit asked n e → IsExpr (told n plain (meant.Expr e))

  pub data AreArguments : Told → Type 0 where
    arguments_are : {n : ℕ} {es : List Expr} → AllFit asked n es
        → AreArguments (told n plain (meant.Arguments es))

  pub data AreClauses : Told → Type 0 where
    clauses_are : {n : ℕ} {cs : List Clause} → AllClauses asked n cs
        → AreClauses (told n plain (meant.Clauses cs))

  pub data IsClause : Told → Type 0 where
    clause_is : {n : ℕ} {c : Clause} → FitClause asked n c
        → IsClause (told n plain (meant.Clause c))

  pub data IsBind : Told → Type 0 where
    bind_is : {n : ℕ} {b : Bind} → FitBind asked n b → IsBind (told n plain (meant.Bind b))

  -- an operator with what is at its right
  pub data IsTail : Told → Type 0 where
    tail_operand : {n : ℕ} {k : Key} {e : Expr} → Fit asked n e
        → IsTail (told n plain (meant.Tail k e))
    tail_type : {n : ℕ} {k : SeqType} → IsTail (told n plain (meant.Sequence k))
    tail_single : {n : ℕ} {k : AtomType} {b : Bool} → IsTail (told n plain (meant.Single k b))
    tail_mark : {n : ℕ} → IsTail (told n plain meant.Mark)

  -- .. that is an expression
  pub data IsOperand : Told → Type 0 where
    operand_is : {n : ℕ} {k : Key} {e : Expr} → Fit asked n e
        → IsOperand (told n plain (meant.Tail k e))

  pub data IsMore : Told → Type 0 where
    more_step : {n : ℕ} {e : Expr} → Fit asked n e → IsMore (told n plain (meant.Expr e))
    more_deep : {n : ℕ} {e : Expr} → Fit asked n e → IsMore (told n deep (meant.Deep e))

  -- What a part is of each nonterminal: no type of a variable, position, `where` or order stands in
  -- XPath, and of types and tests nothing is asked.
  abbrev pub Table : Nonterminal → Told → Type 0
  Table nonterminal.WholeType x = Unit {0}
  Table nonterminal.Arguments x = AreArguments x
  Table nonterminal.ElsePart x = Unit {0}
  Table nonterminal.Clause x = AreClauses x
  Table nonterminal.NextClause x = ⊥
  Table nonterminal.ForBinding x = IsClause x
  Table nonterminal.CommaForBinding x = IsClause x
  Table nonterminal.LetBinding x = Unit {0}
  Table nonterminal.CommaLetBinding x = Unit {0}
  Table nonterminal.QuantifiedBinding x = IsBind x
  Table nonterminal.CommaQuantifiedBinding x = IsBind x
  Table nonterminal.TypeDeclaration x = ⊥
  Table nonterminal.PositionalVar x = ⊥
  Table nonterminal.WhereClause x = ⊥
  Table nonterminal.OrderByClause x = ⊥
  Table nonterminal.OrderSpec x = Unit {0}
  Table nonterminal.CommaOrderSpec x = Unit {0}
  Table nonterminal.Direction x = Unit {0}
  Table nonterminal.EmptyPart x = Unit {0}
  Table (nonterminal.Tail level.Or) x = IsOperand x
  Table (nonterminal.Tail level.And) x = IsOperand x
  Table (nonterminal.Tail _) x = IsTail x
  Table nonterminal.StepMore x = IsMore x
  Table nonterminal.NodeTest x = Unit {0}
  Table nonterminal.KindTest x = Unit {0}
  Table nonterminal.PiArgument x = Unit {0}
  Table nonterminal.NamedArgument x = Unit {0}
  Table nonterminal.SequenceType x = Unit {0}
  Table nonterminal.ItemType x = Unit {0}
  Table nonterminal.OccurrenceIndicator x = Unit {0}
  Table nonterminal.SingleType x = Unit {0}
  Table nonterminal.QuestionPart x = Unit {0}
  Table nonterminal.DirElemConstructor x = Unit {0}
  Table nonterminal.DirElemClosing x = Unit {0}
  Table nonterminal.DirAttribute x = Unit {0}
  Table nonterminal.AttrValueContent x = Unit {0}
  Table nonterminal.DirElemContent x = Unit {0}
  Table _ x = IsExpr x

  -- the parts of a production
  pub data Filled : List Symbol → List Told → Type 0 where
    end : Filled [] []
    taken : {c : Class} {ss : List Symbol} (t : Token) {xs : List Told} → fits c t ≡ true
        → Filled ss xs → Filled (tok c ∷ ss) (cond (keeps c) (leaf_told t ∷ xs) xs)
    next : {n : Nonterminal} {ss : List Symbol} {x : Told} {xs : List Told} → Table n x
        → Filled ss xs → Filled (one n ∷ ss) (x ∷ xs)
    without : {n : Nonterminal} {ss : List Symbol} {xs : List Told} → Filled ss xs
        → Filled (maybe n ∷ ss) xs
    with : {n : Nonterminal} {ss : List Symbol} {x : Told} {xs : List Told} → Table n x
        → Filled ss xs → Filled (maybe n ∷ ss) (x ∷ xs)
    stop : {n : Nonterminal} {ss : List Symbol} {xs : List Told} → Filled ss xs
        → Filled (many n ∷ ss) xs
    again : {n : Nonterminal} {ss : List Symbol} {x : Told} {xs : List Told} → Table n x
        → Filled (many n ∷ ss) xs → Filled (many n ∷ ss) (x ∷ xs)
    bare : {n : Nonterminal} {ss : List Symbol} {xs : List Told} → Filled ss xs
        → Filled (longest n ∷ ss) xs
    given : {n : Nonterminal} {ss : List Symbol} {x : Told} {xs : List Told} → Table n x
        → Filled ss xs → Filled (longest n ∷ ss) (x ∷ xs)

  -- all parts of one kind
  abbrev pub All : (Told → Type 0) → List Told → Type 0
  All A [] = Unit {0}
  All A (x ∷ xs) = A x × All A xs

  pub many_are : {n : Nonterminal} {xs : List Told} → Filled (many n ∷ []) xs → All (Table n) xs
  many_are (stop end) = tt
  many_are (again g q) = (g, many_are q)
