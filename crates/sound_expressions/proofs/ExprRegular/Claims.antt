-- What is known of the parts of an expression that breaks no rule, by the nonterminals that they are
-- read as.
use Rattle.std.proofs.Common.{◌≡◌, List, [], ◌∷◌, Bool, true, false, cond, Option, Some, None}
use Rattle.xt_names.specs.declared.kinds.AtomType.{AtomType}
use Rattle.xt_names.specs.declared.names.ExprName.{ExprName}
use Rattle.xt_types.specs.Regular.{is_regular_test, is_regular_type, is_named}
use Rattle.xt_types.specs.declared.node_tests.Test.{Test}
use Rattle.xt_types.specs.declared.types.SeqType.{SeqType}
use Rattle.xt_forms.specs.Regular.{is_cast_type, part_facts_of}
use Rattle.xt_syntax.specs.declared.exprs.Expr.{Expr}
use Rattle.xt_syntax.specs.declared.exprs.Bind.{Bind}
use Rattle.xt_syntax.specs.declared.exprs.Clause.{Clause}
use Rattle.xt_syntax.specs.declared.exprs.DirectAttr.{DirectAttr}
use Rattle.xt_syntax.specs.declared.exprs.Order.{Order}
use Rattle.xt_syntax.specs.declared.exprs.Part.{Part}
use Rattle.closed_queries.specs.Texts.{is_sound_expr_name, is_sound_test, is_sound_type}
use Rattle.expr_keys.specs.declared.keys.Key.{Key}
use Rattle.expr_keys.specs.declared.tokens.Token.{Token}
use Rattle.expr_keys.specs.declared.productions.Class.{Class}
use Rattle.expr_keys.specs.declared.productions.Class.TheVariants as class
use Rattle.expr_keys.specs.declared.productions.Nonterminal.{Nonterminal}
use Rattle.expr_keys.specs.declared.productions.Nonterminal.TheVariants as nonterminal
use Rattle.expr_keys.specs.declared.productions.Production.{Production}
use Rattle.expr_keys.specs.declared.productions.Production.TheVariants as production
use Rattle.expr_keys.specs.declared.productions.Symbol.{Symbol}
use Rattle.expr_keys.specs.declared.productions.Symbol.TheVariants.{Tok as tok, One as one}
use Rattle.expr_keys.specs.declared.productions.Symbol.TheVariants.{Maybe as maybe, Many as many}
use Rattle.expr_keys.specs.declared.productions.Symbol.TheVariants.{Longest as longest}
use Rattle.expr_terms.specs.declared.raws.Raw.{Raw}
use Rattle.expr_terms.specs.declared.raws.Raw.TheViews.{out-Raw}
use Rattle.expr_terms.specs.declared.raws.Raw.TheOpen.{Node}
use Rattle.expr_keys.specs.Classes.{fits}
use Rattle.expr_terms.specs.Productions.{keeps}
use Rattle.expr_terms.specs.Raws.{keep, as_inner_chain}
use Rattle.expr_rules.specs.declared.expr_meant.meant.Meant.{Meant}
use Rattle.expr_rules.specs.declared.expr_meant.meant.Meant.TheVariants as meant
use Rattle.expr_resolve.specs.declared.setting.Setting.{Setting}
use Rattle.expr_resolve.specs.Tables.{own}
use Rattle.expr_resolve.specs.Folds.{broken_of, value_of}
use Rattle.expr_rules.specs.ExprShapes.Shapes.{is_shaped}
use Rattle.sound_expressions.specs.SoundForms.Sound.{is_sound_token}
use Rattle.sound_expressions.proofs.SoundForms.FormLemmas.{Fine, Form, AllFine, FineBind, FineClause, AllClauses}
use Rattle.sound_expressions.proofs.SoundForms.FormLemmas.{FineOrder, AllOrders, FineParts, FineAttr, FinePart}

-- an expression that is regular with sound texts; and one that is no `if`
pub data IsExpr : Meant → Type 0 where
  expr_is : {e : Expr} → Fine e → IsExpr (meant.Expr e)

pub data IsForm : Meant → Type 0 where
  form_is : {e : Expr} → Form e → IsForm (meant.Expr e)

-- the parts that are none
pub data AreArguments : Meant → Type 0 where
  arguments_are : {es : List Expr} → AllFine es → AreArguments (meant.Arguments es)

pub data AreClauses : Meant → Type 0 where
  clauses_are : {c : Clause} {cs : List Clause} → AllClauses (c ∷ cs)
      → AreClauses (meant.Clauses (c ∷ cs))

pub data IsClause : Meant → Type 0 where
  clause_is : {c : Clause} → FineClause c → IsClause (meant.Clause c)

pub data IsBind : Meant → Type 0 where
  bind_is : {b : Bind} → FineBind b → IsBind (meant.Bind b)

pub record GoodType (k : SeqType) : Type 0 where
  pub regular : is_regular_type k ≡ true
  pub sound : is_sound_type k ≡ true

pub data IsSequence : Meant → Type 0 where
  sequence_is : {k : SeqType} → GoodType k → IsSequence (meant.Sequence k)

pub data IsPlace : Meant → Type 0 where
  place_is : {n : ExprName} → is_sound_expr_name n ≡ true → IsPlace (meant.Place n)

pub data IsWhere : Meant → Type 0 where
  where_is : {e : Expr} → Fine e → IsWhere (meant.Where e)

pub data AreOrders : Meant → Type 0 where
  orders_are : {b : Bool} {o : Order} {os : List Order} → AllOrders (o ∷ os)
      → AreOrders (meant.Orders b (o ∷ os))

pub data IsOrder : Meant → Type 0 where
  order_is : {o : Order} → FineOrder o → IsOrder (meant.Order o)

-- an operator with what is at its right
pub data IsTail : Meant → Type 0 where
  tail_operand : {k : Key} {e : Expr} → Fine e → IsTail (meant.Tail k e)
  tail_type : {k : SeqType} → GoodType k → IsTail (meant.Sequence k)
  tail_single : {k : AtomType} {b : Bool} → is_cast_type k ≡ true → IsTail (meant.Single k b)

pub data IsMore : Meant → Type 0 where
  more_step : {e : Expr} → Fine e → IsMore (meant.Expr e)
  more_deep : {e : Expr} → Fine e → IsMore (meant.Deep e)

pub record GoodKind (t : Test) : Type 0 where
  pub regular : is_regular_test t ≡ true
  pub sound : is_sound_test t ≡ true
  pub kind : is_named t ≡ false

pub data IsKind : Meant → Type 0 where
  kind_is : {t : Test} → GoodKind t → IsKind (meant.Kind t)

pub data IsToken (c : Class) : Meant → Type 0 where
  token_is : {t : Token} → fits c t ≡ true → is_sound_token t ≡ true → IsToken c (meant.Token t)

pub data IsNodeTest : Meant → Type 0 where
  test_named : {t : Token} → fits class.NameTest t ≡ true → is_sound_token t ≡ true
      → IsNodeTest (meant.Token t)
  test_kind : {t : Test} → GoodKind t → IsNodeTest (meant.Kind t)

pub data IsItem : Meant → Type 0 where
  item_token : {t : Token} → IsItem (meant.Token t)
  item_kind : {t : Test} → GoodKind t → IsItem (meant.Kind t)
  item_any : IsItem meant.AnyItem

pub data IsType : Meant → Type 0 where
  type_sequence : {k : SeqType} → GoodType k → IsType (meant.Sequence k)
  type_item : {m : Meant} → IsItem m → IsType m

pub data IsSingle : Meant → Type 0 where
  single_is : {k : AtomType} {b : Bool} → is_cast_type k ≡ true → IsSingle (meant.Single k b)

pub data IsContent : Meant → Type 0 where
  content_is : {ps : List Part} → FineParts ps → IsContent (meant.Content ps)

pub data IsAttr : Meant → Type 0 where
  attr_is : {a : DirectAttr} → FineAttr a → IsAttr (meant.Attribute a)

-- a part of the content of an element; and one of an attribute, which has no elements
pub data IsPiece : Meant → Type 0 where
  piece_token : {t : Token} → is_sound_token t ≡ true → IsPiece (meant.Token t)
  piece_whole : {p : Part} → FinePart p → IsPiece (meant.Part p)

pub data IsAttrPiece : Meant → Type 0 where
  value_token : {t : Token} → is_sound_token t ≡ true → IsAttrPiece (meant.Token t)
  value_whole : {p : Part} → FinePart p → (part_facts_of p).is_child ≡ false
      → IsAttrPiece (meant.Part p)

-- what a part means of each nonterminal, where an expression is of the first
abbrev pub Table : (Meant → Type 0) → Nonterminal → Meant → Type 0
Table E nonterminal.WholeType m = IsType m
Table E nonterminal.Arguments m = AreArguments m
Table E nonterminal.ElsePart m = Unit {0}
Table E nonterminal.Clause m = AreClauses m
Table E nonterminal.NextClause m = AreClauses m
Table E nonterminal.ForBinding m = IsClause m
Table E nonterminal.CommaForBinding m = IsClause m
Table E nonterminal.LetBinding m = IsClause m
Table E nonterminal.CommaLetBinding m = IsClause m
Table E nonterminal.QuantifiedBinding m = IsBind m
Table E nonterminal.CommaQuantifiedBinding m = IsBind m
Table E nonterminal.TypeDeclaration m = IsSequence m
Table E nonterminal.PositionalVar m = IsPlace m
Table E nonterminal.WhereClause m = IsWhere m
Table E nonterminal.OrderByClause m = AreOrders m
Table E nonterminal.OrderSpec m = IsOrder m
Table E nonterminal.CommaOrderSpec m = IsOrder m
Table E nonterminal.Direction m = Unit {0}
Table E nonterminal.EmptyPart m = Unit {0}
Table E (nonterminal.Tail l) m = IsTail m
Table E nonterminal.StepMore m = IsMore m
Table E nonterminal.NodeTest m = IsNodeTest m
Table E nonterminal.KindTest m = IsKind m
Table E nonterminal.PiArgument m = IsToken class.Target m
Table E nonterminal.NamedArgument m = IsToken class.NameOrStar m
Table E nonterminal.SequenceType m = IsType m
Table E nonterminal.ItemType m = IsItem m
Table E nonterminal.OccurrenceIndicator m = Unit {0}
Table E nonterminal.SingleType m = IsSingle m
Table E nonterminal.QuestionPart m = Unit {0}
Table E nonterminal.DirElemClosing m = IsContent m
Table E nonterminal.DirAttribute m = IsAttr m
Table E nonterminal.AttrValueContent m = IsAttrPiece m
Table E nonterminal.DirElemContent m = IsPiece m
Table E _ m = E m

abbrev pub MeantBy : Nonterminal → Meant → Type 0
MeantBy n m = Table IsExpr n m

abbrev pub MadeBy : Nonterminal → Meant → Type 0
MadeBy n m = Table IsForm n m

-- no rule is broken, and direct elements end alike
pub record Kept (s : Setting) (v : Raw) : Type 0 where
  pub unbroken : broken_of s v ≡ []
  pub shaped : is_shaped v ≡ true

abbrev pub EachKept : Setting → List Raw → Type 0
EachKept s [] = Unit {0}
EachKept s (v ∷ vs) = Kept s v × EachKept s vs

-- .. where they stand in the production; the truth value says whether the first part is among them
abbrev pub OwnKept : Setting → Production → Bool → List Raw → Type 0
OwnKept s p first [] = Unit {0}
OwnKept s p first (v ∷ vs) =
    Kept s v × (own s p first (value_of s v) ≡ []) × OwnKept s p false vs

-- the parts of a chain of `if`s, the last one first
abbrev pub AreArms : Setting → List Raw → Type 0
AreArms s [] = Unit {0}
AreArms s (a ∷ []) = ⊥
AreArms s (a ∷ t ∷ vs) = IsExpr (value_of s a) × IsExpr (value_of s t) × AreArms s vs

abbrev pub IsChain : Setting → List Raw → Type 0
IsChain s [] = ⊥
IsChain s (v ∷ vs) = IsForm (value_of s v) × AreArms s vs

-- an `if`, in parentheses or not, has such parts
abbrev pub IfChain : Setting → Option (List Raw) → Type 0 → Type 0
IfChain s None A = A
IfChain s (Some vs) A = IsChain s vs

abbrev pub Claim : Setting → Nonterminal → Raw → Type 0
Claim s n v =
    MeantBy n (value_of s v) × IfChain s (as_inner_chain (out-Raw v)) (MadeBy n (value_of s v))

-- the last part of an `if`
pub record IsElse (s : Setting) (v : Raw) : Type 0 where
  pub parts : List Raw
  pub is : out-Raw v ≡ Node production.ElseExpr parts
  pub good : EachKept s parts → IsChain s parts

abbrev pub Good : Setting → Nonterminal → Raw → Type 0
Good s nonterminal.ElsePart v = IsElse s v
Good s n v = Kept s v → Claim s n v

-- the parts of a production, as they are read
pub data Parts (s : Setting) : List Symbol → List Raw → Type 0 where
  ended : Parts s [] []
  read : {c : Class} {ss : List Symbol} (t : Token) {vs : List Raw} → fits c t ≡ true
      → is_sound_token t ≡ true → Parts s ss vs → Parts s (tok c ∷ ss) (keep c t vs)
  part : {n : Nonterminal} {ss : List Symbol} {v : Raw} {vs : List Raw} → Good s n v
      → Parts s ss vs → Parts s (one n ∷ ss) (v ∷ vs)
  absent : {n : Nonterminal} {ss : List Symbol} {vs : List Raw} → Parts s ss vs
      → Parts s (maybe n ∷ ss) vs
  present : {n : Nonterminal} {ss : List Symbol} {v : Raw} {vs : List Raw} → Good s n v
      → Parts s ss vs → Parts s (maybe n ∷ ss) (v ∷ vs)
  over : {n : Nonterminal} {ss : List Symbol} {vs : List Raw} → Parts s ss vs
      → Parts s (many n ∷ ss) vs
  more : {n : Nonterminal} {ss : List Symbol} {v : Raw} {vs : List Raw} → Good s n v
      → Parts s (many n ∷ ss) vs → Parts s (many n ∷ ss) (v ∷ vs)
  alone : {n : Nonterminal} {ss : List Symbol} {vs : List Raw} → Parts s ss vs
      → Parts s (longest n ∷ ss) vs
  behind : {n : Nonterminal} {ss : List Symbol} {v : Raw} {vs : List Raw} → Good s n v
      → Parts s ss vs → Parts s (longest n ∷ ss) (v ∷ vs)

abbrev pub keep_meant : Class → Token → List Meant → List Meant
keep_meant c t ms = cond (keeps c) (meant.Token t ∷ ms) ms

abbrev pub If : Bool → Type 0 → Type 0
If true A = A
If false A = Unit {0}

abbrev pub IfKept : Class → Type 0 → Type 0
IfKept c A = If (keeps c) A

-- .. and what they mean where none breaks a rule of its own in the production
pub data Filled (s : Setting) (p : Production) : Bool → List Symbol → List Meant → Type 0 where
  end : {b : Bool} → Filled s p b [] []
  taken : {b : Bool} {c : Class} {ss : List Symbol} (t : Token) {ms : List Meant}
      → fits c t ≡ true → is_sound_token t ≡ true → IfKept c (own s p b (meant.Token t) ≡ [])
      → Filled s p (cond (keeps c) false b) ss ms → Filled s p b (tok c ∷ ss) (keep_meant c t ms)
  next : {b : Bool} {n : Nonterminal} {ss : List Symbol} {m : Meant} {ms : List Meant}
      → MeantBy n m → own s p b m ≡ [] → Filled s p false ss ms → Filled s p b (one n ∷ ss) (m ∷ ms)
  without : {b : Bool} {n : Nonterminal} {ss : List Symbol} {ms : List Meant} → Filled s p b ss ms
      → Filled s p b (maybe n ∷ ss) ms
  with : {b : Bool} {n : Nonterminal} {ss : List Symbol} {m : Meant} {ms : List Meant}
      → MeantBy n m → own s p b m ≡ [] → Filled s p false ss ms
      → Filled s p b (maybe n ∷ ss) (m ∷ ms)
  stop : {b : Bool} {n : Nonterminal} {ss : List Symbol} {ms : List Meant} → Filled s p b ss ms
      → Filled s p b (many n ∷ ss) ms
  again : {b : Bool} {n : Nonterminal} {ss : List Symbol} {m : Meant} {ms : List Meant}
      → MeantBy n m → own s p b m ≡ [] → Filled s p false (many n ∷ ss) ms
      → Filled s p b (many n ∷ ss) (m ∷ ms)
  bare : {b : Bool} {n : Nonterminal} {ss : List Symbol} {ms : List Meant} → Filled s p b ss ms
      → Filled s p b (longest n ∷ ss) ms
  given : {b : Bool} {n : Nonterminal} {ss : List Symbol} {m : Meant} {ms : List Meant}
      → MeantBy n m → own s p b m ≡ [] → Filled s p false ss ms
      → Filled s p b (longest n ∷ ss) (m ∷ ms)
