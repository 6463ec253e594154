-- Operators, lists and conditionals as raw values (XPath 2.0, 3.3 to 3.8).
use Rattle.std.specs.Prelude.{ℕ, Bool, true, false, ◌&&◌, List, [], ◌∷◌, ◌++◌, map}
use Rattle.std.specs.Prelude.{nat_eq, if◌then◌else◌, not, reverse, is_some}
use Rattle.expr_terms.specs.Raws.{as_inner_chain}
use Rattle.xt_names.specs.declared.kinds.CompareOp.{CompareOp}
use Rattle.xt_names.specs.declared.kinds.CompareOp.TheVariants as compare
use Rattle.xt_names.specs.declared.kinds.ArithOp.{ArithOp}
use Rattle.xt_names.specs.declared.kinds.ArithOp.TheVariants as arith
use Rattle.expr_keys.specs.Classes.{tight}
use Rattle.expr_keys.specs.declared.keys.Key.{Key}
use Rattle.expr_keys.specs.declared.keys.Key.TheVariants as key
use Rattle.expr_keys.specs.declared.tokens.Token.{Token}
use Rattle.expr_keys.specs.declared.tokens.Token.TheVariants as token
use Rattle.expr_keys.specs.declared.productions.Level.{Level}
use Rattle.expr_keys.specs.declared.productions.Level.TheVariants as level
use Rattle.expr_keys.specs.declared.productions.Production.{Production}
use Rattle.expr_keys.specs.declared.productions.Production.TheVariants as production
use Rattle.expr_terms.specs.declared.raws.Raw.{Raw}
use Rattle.expr_terms.specs.declared.raws.Raw.TheVariants.{Node as node}
use Rattle.expr_terms.specs.declared.raws.Raw.TheViews.{out-Raw}
use Rattle.expr_terms.specs.declared.raws.Raw.TheOpen.{Raw-F, Leaf, Node}
use Rattle.expr_raws.specs.PathRaws.Forms.{Form, primary, signs, of_level, below, single, list, at, all_at}
use Rattle.expr_raws.specs.PathRaws.Forms.{all_can, in_parentheses, ends_unmarked, key_leaf, nothing}
use Rattle.expr_raws.specs.PathRaws.Forms.{said, all_said, parenthesized}

-- an operator with the operand at its right
abbrev pub tail : Level → Key → Form → Raw
tail l k b = node (production.OperatorTail l) (key_leaf k ∷ at (below l) b ∷ [])

-- two operands, and no more of the level
abbrev pub once : Level → Key → Form → Form → Form
once l k a b = record {
  raw = node (production.OperatorChain l) (at (below l) a ∷ tail l k b ∷ []);
  tokens = λ rest. said (below l) a (token.Key k ∷ said (below l) b rest);
  place = of_level l;
  unmarked = ends_unmarked (below l) b;
  can = a.can && b.can;
}

abbrev pub is_chain_of : Level → Production → Bool
is_chain_of l (production.OperatorChain m) = nat_eq (tight m) (tight l)
is_chain_of l _ = false

-- the parts of operators of the level that follow one another
abbrev pub chain_parts : Level → Raw-F Raw → List Raw
chain_parts l (Leaf t) = []
chain_parts l (Node p vs) = if is_chain_of l p then vs else []

abbrev pub or_first : List Raw → Raw → List Raw
or_first [] v = v ∷ []
or_first (u ∷ us) v = u ∷ us

-- an operator that a type before it would take for its mark
abbrev pub is_mark : Key → Bool
is_mark key.Star = true
is_mark key.Plus = true
is_mark _ = false

-- the operand at the left with what follows it of the level
abbrev pub operands : Level → Key → Form → List Raw
operands l k a =
    if is_mark k && a.unmarked then in_parentheses a ∷ []
    else or_first (chain_parts l (out-Raw a.raw)) (at (below l) a)

abbrev pub front_tokens : List Raw → Level → Form → List Token → List Token
front_tokens [] l a rest = said (below l) a rest
front_tokens (u ∷ us) l a rest = a.tokens rest

abbrev pub operand_tokens : Level → Key → Form → List Token → List Token
operand_tokens l k a rest =
    if is_mark k && a.unmarked then parenthesized a rest
    else front_tokens (chain_parts l (out-Raw a.raw)) l a rest

-- two operands, where the left one may be of the level
abbrev pub left : Level → Key → Form → Form → Form
left l k a b = record {
  raw = node (production.OperatorChain l) (operands l k a ++ tail l k b ∷ []);
  tokens = λ rest. operand_tokens l k a (token.Key k ∷ said (below l) b rest);
  place = of_level l;
  unmarked = ends_unmarked (below l) b;
  can = a.can && b.can;
}

-- whether the last one ends in a type that a mark would join
abbrev pub last_unmarked : ℕ → List Form → Bool
last_unmarked n [] = false
last_unmarked n (f ∷ []) = ends_unmarked n f
last_unmarked n (f ∷ g ∷ fs) = last_unmarked n (g ∷ fs)

abbrev pub tails : Level → Key → List Form → List Token → List Token
tails l k [] rest = rest
tails l k (f ∷ fs) rest = token.Key k ∷ said (below l) f (tails l k fs rest)

-- `or` or `and` between two operands or more
abbrev pub many : Level → Key → List Form → Form
many l k (a ∷ b ∷ fs) = record {
  raw = node (production.OperatorChain l) (at (below l) a ∷ map (λ f. tail l k f) (b ∷ fs));
  tokens = λ rest. said (below l) a (tails l k (b ∷ fs) rest);
  place = of_level l;
  unmarked = last_unmarked (below l) (b ∷ fs);
  can = all_can (a ∷ b ∷ fs);
}
many l k _ = nothing

-- (), or a, b, ..
abbrev pub listed : List Form → Form
listed [] = record {
  raw = node production.Parens [];
  tokens = λ rest. token.Key key.OpenParen ∷ token.Key key.CloseParen ∷ rest;
  place = primary;
  unmarked = false;
  can = true;
}
listed (a ∷ []) = nothing
listed (a ∷ b ∷ fs) = record {
  raw = node production.ExprList (all_at single (a ∷ b ∷ fs));
  tokens = all_said single (a ∷ b ∷ fs);
  place = list;
  unmarked = last_unmarked single (b ∷ fs);
  can = all_can (a ∷ b ∷ fs);
}

abbrev pub signed : Key → Form → Form
signed k a = record {
  raw = node production.Signed (key_leaf k ∷ at signs a ∷ []);
  tokens = λ rest. token.Key k ∷ said signs a rest;
  place = signs;
  unmarked = ends_unmarked signs a;
  can = a.can;
}

abbrev pub compare_key : CompareOp → Key
compare_key compare.Eq = key.Equal
compare_key compare.Ne = key.NotEqual
compare_key compare.Lt = key.Less
compare_key compare.Le = key.LessEqual
compare_key compare.Gt = key.Greater
compare_key compare.Ge = key.GreaterEqual

abbrev pub value_key : CompareOp → Key
value_key compare.Eq = key.EqWord
value_key compare.Ne = key.NeWord
value_key compare.Lt = key.LtWord
value_key compare.Le = key.LeWord
value_key compare.Gt = key.GtWord
value_key compare.Ge = key.GeWord

abbrev pub arithmetic : ArithOp → Form → Form → Form
arithmetic arith.Add a b = left level.Additive key.Plus a b
arithmetic arith.Sub a b = left level.Additive key.Minus a b
arithmetic arith.Mul a b = left level.Multiplicative key.Star a b
arithmetic arith.Idiv a b = left level.Multiplicative key.IdivWord a b
arithmetic arith.Mod a b = left level.Multiplicative key.ModWord a b

-- `if (test) then first`
pub record ArmForm : Type 0 where
  pub test : Form
  pub first : Form

abbrev pub arm_parts : List ArmForm → Raw → List Raw
arm_parts [] v = v ∷ []
arm_parts (a ∷ arms) v = at list a.test ∷ at single a.first ∷ arm_parts arms v

abbrev pub arms_tokens : List ArmForm → List Token → List Token
arms_tokens [] rest = rest
arms_tokens (a ∷ arms) rest = token.Key key.IfWord ∷ token.Key key.OpenParen
    ∷ said list a.test (token.Key key.CloseParen ∷ token.Key key.ThenWord
    ∷ said single a.first (token.Key key.ElseWord ∷ arms_tokens arms rest))

abbrev pub arms_can : List ArmForm → Bool
arms_can [] = true
arms_can (a ∷ arms) = a.test.can && (a.first.can && arms_can arms)

abbrev pub has_arms : List ArmForm → Bool
has_arms [] = false
has_arms (a ∷ arms) = true

-- A conditional has its parts in reverse order; what comes after its last `else` is none.
abbrev pub conditional : List ArmForm → Form → Form
conditional arms e = record {
  raw = node production.IfExpr (reverse (arm_parts arms (at single e)));
  tokens = λ rest. arms_tokens arms (said single e rest);
  place = single;
  unmarked = ends_unmarked single e;
  can = has_arms arms && (arms_can arms
      && (e.can && not (is_some (as_inner_chain (out-Raw (at single e))))));
}
