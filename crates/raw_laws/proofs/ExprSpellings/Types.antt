-- The tokens of types, and of the operators on them, spell them.
use Rattle.std.proofs.Common.{◌≡◌, ℕ, List, [], ◌∷◌, ◌++◌, Bool, true, false, ◌&&◌, refl, subst}
use Rattle.std.proofs.Common.{Option, Some, None}
use Rattle.std.proofs.lemmas.Bool.{and_parts}
use Rattle.xt_names.specs.declared.kinds.AtomType.{AtomType}
use Rattle.xt_types.specs.declared.axes.Axis.TheVariants as axis
use Rattle.xt_types.specs.declared.node_tests.Test.{Test}
use Rattle.xt_types.specs.declared.node_tests.Test.TheVariants as test
use Rattle.xt_types.specs.declared.types.Count.{Count}
use Rattle.xt_types.specs.declared.types.Count.TheVariants as count
use Rattle.xt_types.specs.declared.types.ItemType.{ItemType}
use Rattle.xt_types.specs.declared.types.ItemType.TheVariants as item
use Rattle.xt_types.specs.declared.types.SeqType.{SeqType}
use Rattle.xt_types.specs.declared.types.SeqType.TheVariants as sequence
use Rattle.xt_syntax.specs.declared.prefixes.Prefixes.{Prefixes}
use Rattle.expr_keys.specs.Classes.{fits}
use Rattle.expr_keys.specs.declared.keys.Key.{Key}
use Rattle.expr_keys.specs.declared.keys.Key.TheVariants as key
use Rattle.expr_keys.specs.declared.tokens.Token.{Token}
use Rattle.expr_keys.specs.declared.tokens.Token.TheVariants as token
use Rattle.expr_keys.specs.declared.productions.Class.TheVariants as class
use Rattle.expr_keys.specs.declared.productions.Level.{Level}
use Rattle.expr_keys.specs.declared.productions.Level.TheVariants as level
use Rattle.expr_keys.specs.declared.productions.Nonterminal.TheVariants as place
use Rattle.expr_keys.specs.declared.productions.Production.TheVariants as production
use Rattle.expr_terms.specs.declared.raws.Raw.TheVariants.{Leaf as leaf, Node as node}
use Rattle.expr_grammar.specs.Grammar.{Derives, by, end, taken, next, with, without, bare, given}
use Rattle.expr_raws.specs.PathRaws.Forms.{Form, below, at, said}
use Rattle.expr_raws.specs.PathRaws.Paths.{with_token, leaf_test, test_form}
use Rattle.expr_raws.proofs.PathRaws.Paths.{fitting_sound}
use Rattle.expr_raws.specs.ControlRaws.Types.{local_name, types, type_token, kind_form, item_form}
use Rattle.expr_raws.specs.ControlRaws.Types.{with_count, sequence_form, type_words, of_type, single_with}
use Rattle.expr_raws.specs.ControlRaws.Types.{single_form}
use Rattle.expr_raws.specs.PathRaws.Names.{qualified}
use Rattle.raw_laws.proofs.ExprSpellings.Climb.{X}
use Rattle.raw_laws.proofs.ExprSpellings.Spelled.{Calm, CalmIf, Spelled}
use Rattle.raw_laws.proofs.ExprSpellings.Paths.{Always, kind_spelled}
use Rattle.raw_laws.proofs.ExprSpellings.Operators.{facts, chain_spelled, operand}

type_fits : (p : Prefixes) (k : AtomType) (t : Token) → type_token p.bound k ≡ Some t
    → fits class.Name t ≡ true
type_fits p k t e =
    (fitting_sound class.Name (types p.bound k) (qualified p.bound (local_name k)) t e).0

abbrev IsItem : Form → Type 0
IsItem f = (rest : List Token) → Derives X place.ItemType (f.tokens rest) f.raw rest

kind_item : (p : Prefixes) (t : Test) → (kind_form p t).can ≡ true → IsItem (kind_form p t)
kind_item p (test.Named n) c = absurd (cc)
kind_item p test.Node c = λ rest. by production.KindItem refl refl
    (next (kind_spelled p axis.Child test.Node refl c rest) end)
kind_item p test.Text c = λ rest. by production.KindItem refl refl
    (next (kind_spelled p axis.Child test.Text refl c rest) end)
kind_item p test.Comment c = λ rest. by production.KindItem refl refl
    (next (kind_spelled p axis.Child test.Comment refl c rest) end)
kind_item p test.Doc c = λ rest. by production.KindItem refl refl
    (next (kind_spelled p axis.Child test.Doc refl c rest) end)
kind_item p (test.Pi o) c = λ rest. by production.KindItem refl refl
    (next (kind_spelled p axis.Child (test.Pi o) refl c rest) end)
kind_item p (test.Elem n) c = λ rest. by production.KindItem refl refl
    (next (kind_spelled p axis.Child (test.Elem n) refl c rest) end)
kind_item p (test.Attr n) c = λ rest. by production.KindItem refl refl
    (next (kind_spelled p axis.Child (test.Attr n) refl c rest) end)

item_spelled : (p : Prefixes) (i : ItemType) → (item_form p i).can ≡ true → IsItem (item_form p i)
item_spelled p item.Any c =
    λ rest. by production.AnyItem refl refl (taken refl (taken refl (taken refl end)))
item_spelled p (item.Kind t) c = kind_item p t c
item_spelled p (item.Atomic k) c = go (type_token p.bound k) refl c
  where
    go : (o : Option Token) → type_token p.bound k ≡ o → (with_token o leaf_test).can ≡ true
        → IsItem (with_token o leaf_test)
    go None e c = absurd (cc)
    go (Some t) e c = λ rest. by production.AtomicItem refl refl (taken (type_fits p k t e) end)

counted_spelled : (n : Count) (f : Form) → IsItem f → (rest : List Token)
    → CalmIf (with_count n f).unmarked rest
    → Derives X place.SequenceType ((with_count n f).tokens rest) (with_count n f).raw rest
counted_spelled count.One f i rest u =
    by production.ItemsType refl refl (next (i rest) (bare (u refl) end))
counted_spelled count.Opt f i rest u = by production.ItemsType refl refl
    (next (i (token.Key key.Question ∷ rest))
    (given refl (by production.OccurrenceMark refl refl (taken refl end)) end))
counted_spelled count.Many f i rest u = by production.ItemsType refl refl
    (next (i (token.Key key.Star ∷ rest))
    (given refl (by production.OccurrenceMark refl refl (taken refl end)) end))
counted_spelled count.More f i rest u = by production.ItemsType refl refl
    (next (i (token.Key key.Plus ∷ rest))
    (given refl (by production.OccurrenceMark refl refl (taken refl end)) end))

abbrev pub IsSequence : Form → Type 0
IsSequence f = (rest : List Token) → CalmIf f.unmarked rest
    → Derives X place.SequenceType (f.tokens rest) f.raw rest

pub sequence_spelled : (p : Prefixes) (t : SeqType) → (sequence_form p t).can ≡ true
    → IsSequence (sequence_form p t)
sequence_spelled p sequence.Empty c =
    λ rest u. by production.EmptyType refl refl (taken refl (taken refl (taken refl end)))
sequence_spelled p (sequence.Of i n) c = counted_spelled n (item_form p i) (item_spelled p i c)

abbrev pub IsSingle : Form → Type 0
IsSingle f = (rest : List Token) → Derives X place.SingleType (f.tokens rest) f.raw rest

pub single_spelled : (p : Prefixes) (k : AtomType) (empty : Bool)
    → (single_form p k empty).can ≡ true → IsSingle (single_form p k empty)
single_spelled p k empty = go (type_token p.bound k) refl empty
  where
    go : (o : Option Token) → type_token p.bound k ≡ o → (b : Bool)
        → (with_token o (single_with b)).can ≡ true → IsSingle (with_token o (single_with b))
    go None e b c = absurd (cc)
    go (Some t) e true c = λ rest. by production.SingleAtomicType refl refl (taken (type_fits p k t e)
        (with (by production.QuestionMark refl refl (taken refl end)) end))
    go (Some t) e false c =
        λ rest. by production.SingleAtomicType refl refl (taken (type_fits p k t e) (without end))

-- operators on types

pub instances_spelled : (f t : Form) → Always (below level.InstanceOf) f → IsSequence t
    → Spelled (of_type level.InstanceOf f t)
instances_spelled f t a i = chain_spelled level.InstanceOf (facts level.InstanceOf)
    (λ rest. said (below level.InstanceOf) f (type_words level.InstanceOf (t.tokens rest)))
    (at (below level.InstanceOf) f) (node (production.OperatorTail level.InstanceOf) (t.raw ∷ [])) [] _ _
    (λ rest u. next (operand level.InstanceOf (facts level.InstanceOf) f a _ (λ h. refl))
    (with (by (production.OperatorTail level.InstanceOf) refl refl
    (taken refl (taken refl (next (i rest u) end)))) end))

pub treats_spelled : (f t : Form) → Always (below level.Treat) f → IsSequence t
    → Spelled (of_type level.Treat f t)
treats_spelled f t a i = chain_spelled level.Treat (facts level.Treat)
    (λ rest. said (below level.Treat) f (type_words level.Treat (t.tokens rest)))
    (at (below level.Treat) f) (node (production.OperatorTail level.Treat) (t.raw ∷ [])) [] _ _
    (λ rest u. next (operand level.Treat (facts level.Treat) f a _ (λ h. refl))
    (with (by (production.OperatorTail level.Treat) refl refl
    (taken refl (taken refl (next (i rest u) end)))) end))

pub castables_spelled : (f t : Form) → Always (below level.Castable) f → IsSingle t
    → Spelled (of_type level.Castable f t)
castables_spelled f t a i = chain_spelled level.Castable (facts level.Castable)
    (λ rest. said (below level.Castable) f (type_words level.Castable (t.tokens rest)))
    (at (below level.Castable) f) (node (production.OperatorTail level.Castable) (t.raw ∷ [])) [] _ _
    (λ rest u. next (operand level.Castable (facts level.Castable) f a _ (λ h. refl))
    (with (by (production.OperatorTail level.Castable) refl refl
    (taken refl (taken refl (next (i rest) end)))) end))

pub casts_spelled : (f t : Form) → Always (below level.Cast) f → IsSingle t
    → Spelled (of_type level.Cast f t)
casts_spelled f t a i = chain_spelled level.Cast (facts level.Cast)
    (λ rest. said (below level.Cast) f (type_words level.Cast (t.tokens rest)))
    (at (below level.Cast) f) (node (production.OperatorTail level.Cast) (t.raw ∷ [])) [] _ _
    (λ rest u. next (operand level.Cast (facts level.Cast) f a _ (λ h. refl))
    (with (by (production.OperatorTail level.Cast) refl refl
    (taken refl (taken refl (next (i rest) end)))) end))
