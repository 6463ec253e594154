-- Types mean what they are printed for.
use Rattle.std.proofs.Common.{◌≡◌, List, [], ◌∷◌, map, Bool, true, false, refl, ◌∙◌, ap}
use Rattle.std.proofs.Common.{Option, Some, None}
use Rattle.xt_names.specs.declared.names.Binding.{Binding}
use Rattle.xt_names.specs.declared.kinds.AtomType.{AtomType}
use Rattle.xt_names.specs.declared.kinds.AtomType.TheVariants as atom
use Rattle.xt_types.specs.declared.axes.Axis.TheVariants as axis
use Rattle.xt_types.specs.declared.node_tests.Test.{Test}
use Rattle.xt_types.specs.declared.node_tests.Test.TheVariants as test
use Rattle.xt_types.specs.declared.types.Count.{Count}
use Rattle.xt_types.specs.declared.types.Count.TheVariants as count
use Rattle.xt_types.specs.declared.types.ItemType.{ItemType}
use Rattle.xt_types.specs.declared.types.ItemType.TheVariants as item
use Rattle.xt_types.specs.declared.types.SeqType.{SeqType}
use Rattle.xt_types.specs.declared.types.SeqType.TheVariants as sequence
use Rattle.xt_syntax.specs.declared.exprs.Expr.{Expr}
use Rattle.std.proofs.lemmas.Bool.{and_parts}
use Rattle.expr_rules.specs.ExprMeant.Names.{written_in}
use Rattle.expr_names.specs.Names.{undeclared_in}
use Rattle.expr_raws.specs.PathRaws.Names.{qualified, no_codes}
use Rattle.expr_names.specs.Types.{type_or_any}
use Rattle.expr_keys.specs.declared.keys.Key.{Key}
use Rattle.expr_keys.specs.declared.keys.Key.TheVariants as key
use Rattle.expr_keys.specs.declared.tokens.Token.{Token}
use Rattle.expr_keys.specs.declared.tokens.Token.TheVariants as token
use Rattle.expr_keys.specs.declared.productions.Class.TheVariants as class
use Rattle.expr_keys.specs.declared.productions.Level.{Level}
use Rattle.expr_keys.specs.declared.productions.Level.TheVariants as level
use Rattle.expr_keys.specs.declared.productions.Production.TheVariants as production
use Rattle.expr_terms.specs.declared.raws.Raw.{Raw}
use Rattle.expr_terms.specs.declared.raws.Raw.TheVariants.{Leaf as leaf, Node as node}
use Rattle.expr_rules.specs.declared.expr_meant.meant.Meant.{Meant}
use Rattle.expr_rules.specs.declared.expr_meant.meant.Meant.TheVariants as meant
use Rattle.expr_rules.specs.ExprMeant.Parts.{expr_of, key_of, key_in}
use Rattle.expr_rules.specs.Known.{named_type, type_of}
use Rattle.expr_raws.specs.ExprControl.Types.{item_of, sequence_of, count_in}
use Rattle.expr_raws.specs.ExprControl.Operators as operators
use Rattle.expr_raws.specs.ExprControl.Table.{control_value}
use Rattle.expr_resolve.specs.declared.setting.Setting.{Setting}
use Rattle.expr_resolve.specs.Tables.{is_chain, family_of, value_in}
use Rattle.expr_resolve.specs.Folds.{value_of}
use Rattle.expr_raws.specs.PathRaws.Forms.{Form, below, at}
use Rattle.expr_raws.specs.PathRaws.Forms.{key_leaf}
use Rattle.expr_raws.specs.PathRaws.Paths.{with_token, leaf_test}
use Rattle.expr_raws.specs.ControlRaws.Types.{local_name, same_atom, is_atom, types, type_token}
use Rattle.expr_raws.specs.ControlRaws.Types.{item_form, counted, sequence_form, of_type, single_with}
use Rattle.expr_raws.proofs.PathRaws.Values.{value_leaf, value_node, at_means}
use Rattle.expr_raws.proofs.ControlRaws.Chains.{Leftly, chain_means}
use Rattle.expr_raws.proofs.PathRaws.Paths.{fitting_sound, kind_means}

pub same_atoms : (a b : AtomType) → same_atom a b ≡ true → a ≡ b
same_atoms atom.Str atom.Str e = refl
same_atoms atom.Untyped atom.Untyped e = refl
same_atoms atom.Int atom.Int e = refl
same_atoms atom.Bool atom.Bool e = refl
same_atoms atom.QName atom.QName e = refl
same_atoms atom.Any atom.Any e = refl
same_atoms _ _ e = absurd (cc)

atom_is : (k : AtomType) (o : Option AtomType) → is_atom k o ≡ true → type_or_any o ≡ k
unfolding type_or_any
atom_is k None e = absurd (cc)
atom_is k (Some a) e = same_atoms a k e

type_found : (bound : List Binding) (k : AtomType) (t : Token) → type_token bound k ≡ Some t
    → type_of bound (meant.Token t) ≡ k
type_found bound k t e = atom_is k (named_type bound (meant.Token t))
    (and_parts (is_atom k (named_type bound (meant.Token t)))
    (no_codes (undeclared_in bound (written_in t)))
    (fitting_sound class.Name (types bound k) (qualified bound (local_name k)) t e).1).0

module _ (s : Setting) where
  -- as the type of an item, whatever is after it
  abbrev ItemMeans : ItemType → Raw → Type 0
  ItemMeans i v = (item_of s.prefixes.bound (value_of s v) ≡ i)
      × (sequence_of s.prefixes.bound (value_of s v) ≡ sequence.Of i count.One)

  of_meant : (m : Meant) (i : ItemType) (v : Raw) → value_of s v ≡ m
      → item_of s.prefixes.bound m ≡ i
      → sequence_of s.prefixes.bound m ≡ sequence.Of i count.One → ItemMeans i v
  of_meant m i v h a b = (
    ap (item_of s.prefixes.bound) h
        ∙ a,
    ap (sequence_of s.prefixes.bound) h ∙ b,
  )

  any_means : ItemMeans item.Any (node production.AnyItem [])
  unfolding is_chain family_of value_in control_value item_of sequence_of
  any_means = of_meant meant.AnyItem item.Any (node production.AnyItem [])
      (value_node s production.AnyItem []) refl refl

  kind_item : (t : Test) (v : Raw) → value_of s v ≡ meant.Kind t → ItemMeans (item.Kind t) v
  unfolding item_of sequence_of
  kind_item t v h = of_meant (meant.Kind t) (item.Kind t) v h refl refl

  atomic_means : (k : AtomType) (o : Option Token) → type_token s.prefixes.bound k ≡ o
      → (with_token o leaf_test).can ≡ true → ItemMeans (item.Atomic k) (with_token o leaf_test).raw
  unfolding item_of sequence_of
  atomic_means k None e c = absurd (cc)
  atomic_means k (Some t) e c =
      let same = type_found s.prefixes.bound k t e in
      of_meant (meant.Token t) (item.Atomic k) (leaf t) (value_leaf s t)
      (ap (λ x. item.Atomic x) same) (ap (λ x. sequence.Of (item.Atomic x) count.One) same)

  item_means : (i : ItemType) → (item_form s.prefixes i).can ≡ true
      → ItemMeans i (item_form s.prefixes i).raw
  item_means item.Any c = any_means
  item_means (item.Kind (test.Named n)) c = absurd (cc)
  item_means (item.Kind test.Node) c = kind_item test.Node _ (kind_means s axis.Child test.Node
      tt c)
  item_means (item.Kind test.Text) c = kind_item test.Text _ (kind_means s axis.Child test.Text
      tt c)
  item_means (item.Kind test.Comment) c =
      kind_item test.Comment _ (kind_means s axis.Child test.Comment tt c)
  item_means (item.Kind test.Doc) c = kind_item test.Doc _ (kind_means s axis.Child test.Doc tt c)
  item_means (item.Kind (test.Pi o)) c =
      kind_item (test.Pi o) _ (kind_means s axis.Child (test.Pi o) tt c)
  item_means (item.Kind (test.Elem n)) c =
      kind_item (test.Elem n) _ (kind_means s axis.Child (test.Elem n) tt c)
  item_means (item.Kind (test.Attr n)) c =
      kind_item (test.Attr n) _ (kind_means s axis.Child (test.Attr n) tt c)
  item_means (item.Atomic k) c = atomic_means k _ refl c

  marked_means : (i : ItemType) (v : Raw) (k : Key) → ItemMeans i v
      → sequence_of s.prefixes.bound (value_of s (node production.ItemsType (v ∷ key_leaf k ∷ [])))
      ≡ sequence.Of i (count_in k)
  unfolding is_chain family_of value_in control_value key_of key_in sequence_of
  marked_means i v k h = ap (sequence_of s.prefixes.bound)
      (value_node s production.ItemsType (v ∷ key_leaf k ∷ []))
      ∙ rw (value_leaf s (token.Key k)) (ap (λ x. sequence.Of x (count_in k)) h.0)

  counted_means : (i : ItemType) (c : Count) (v : Raw) → ItemMeans i v
      → sequence_of s.prefixes.bound (value_of s (counted c v)) ≡ sequence.Of i c
  unfolding count_in
  counted_means i count.One v h = h.1
  counted_means i count.Opt v h = marked_means i v key.Question h
  counted_means i count.Many v h = marked_means i v key.Star h
  counted_means i count.More v h = marked_means i v key.Plus h

  empty_means : sequence_of s.prefixes.bound (value_of s (node production.EmptyType []))
      ≡ sequence.Empty
  unfolding is_chain family_of value_in control_value sequence_of
  empty_means = ap (sequence_of s.prefixes.bound) (value_node s production.EmptyType [])

  pub sequence_means : (t : SeqType) → (sequence_form s.prefixes t).can ≡ true
      → sequence_of s.prefixes.bound (value_of s (sequence_form s.prefixes t).raw) ≡ t
  sequence_means sequence.Empty c = empty_means
  sequence_means (sequence.Of i n) c =
      counted_means i n (item_form s.prefixes i).raw (item_means i c)

  pub single_means : (k : AtomType) (empty : Bool) (o : Option Token)
      → type_token s.prefixes.bound k ≡ o → (with_token o (single_with empty)).can ≡ true
      → value_of s (with_token o (single_with empty)).raw ≡ meant.Single k empty
  unfolding is_chain family_of value_in control_value
  single_means k empty None e c = absurd (cc)
  single_means k true (Some t) e c =
      value_node s production.SingleAtomicType (leaf t ∷ node production.QuestionMark [] ∷ [])
      ∙ rw (value_leaf s t) (ap (λ x. meant.Single x true)
      (type_found s.prefixes.bound k t e))
  single_means k false (Some t) e c = value_node s production.SingleAtomicType (leaf t ∷ [])
      ∙ rw (value_leaf s t) (ap (λ x. meant.Single x false) (type_found s.prefixes.bound k t e))

  -- an operator on a type
  pub of_type_means : (l : Level) → Leftly s l → (a t : Form) (x y : Expr) (m : Meant)
      → value_of s a.raw ≡ meant.Expr x
      → value_of s (node (production.OperatorTail l) (t.raw ∷ [])) ≡ m → operators.joined l x m ≡ y
      → value_of s (of_type l a t).raw ≡ meant.Expr y
  unfolding expr_of
  of_type_means l leftly a t x y m h i j =
      chain_means s l (at (below l) a ∷ node (production.OperatorTail l) (t.raw ∷ []) ∷ [])
      ∙ ap (λ e. meant.Expr e) (leftly _)
      ∙ rw (at_means s (below l) a x h, i) (ap (λ e. meant.Expr e) j)

  pub instances_mean : (v : Raw) (t : SeqType)
      → sequence_of s.prefixes.bound (value_of s v) ≡ t
      → value_of s (node (production.OperatorTail level.InstanceOf) (v ∷ [])) ≡ meant.Sequence t
  unfolding is_chain family_of value_in control_value operators.operated
  instances_mean v t h = value_node s (production.OperatorTail level.InstanceOf) (v ∷ [])
      ∙ ap (λ x. meant.Sequence x) h

  pub treats_mean : (v : Raw) (t : SeqType)
      → sequence_of s.prefixes.bound (value_of s v) ≡ t
      → value_of s (node (production.OperatorTail level.Treat) (v ∷ [])) ≡ meant.Sequence t
  unfolding is_chain family_of value_in control_value operators.operated
  treats_mean v t h = value_node s (production.OperatorTail level.Treat) (v ∷ [])
      ∙ ap (λ x. meant.Sequence x) h

  pub castables_mean : (v : Raw) (k : AtomType) (empty : Bool)
      → value_of s v ≡ meant.Single k empty
      → value_of s (node (production.OperatorTail level.Castable) (v ∷ [])) ≡ meant.Single k empty
  unfolding is_chain family_of value_in control_value operators.operated operators.single_of
  castables_mean v k empty h =
      value_node s (production.OperatorTail level.Castable) (v ∷ []) ∙ rw h refl

  pub casts_mean : (v : Raw) (k : AtomType) (empty : Bool)
      → value_of s v ≡ meant.Single k empty
      → value_of s (node (production.OperatorTail level.Cast) (v ∷ [])) ≡ meant.Single k empty
  unfolding is_chain family_of value_in control_value operators.operated operators.single_of
  casts_mean v k empty h =
      value_node s (production.OperatorTail level.Cast) (v ∷ []) ∙ rw h refl
