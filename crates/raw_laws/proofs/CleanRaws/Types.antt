-- Types that are printed break no rule.
use Rattle.std.proofs.Common.{◌≡◌, List, [], ◌∷◌, ◌++◌, Bool, true, false, refl, ◌∙◌}
use Rattle.std.proofs.Common.{ap, ap₂, Option, Some, None}
use Rattle.std.proofs.lemmas.Bool.{and_parts}
use Rattle.xt_names.specs.declared.names.Binding.{Binding}
use Rattle.xt_names.specs.declared.kinds.AtomType.{AtomType}
use Rattle.xt_names.specs.declared.kinds.AtomType.TheVariants as atom
use Rattle.xt_types.specs.declared.axes.Axis.TheVariants as axis
use Rattle.xt_types.specs.declared.node_tests.Test.{Test}
use Rattle.xt_types.specs.declared.node_tests.Test.TheVariants as test
use Rattle.xt_types.specs.declared.types.Count.{Count}
use Rattle.xt_types.specs.declared.types.Count.TheVariants as count
use Rattle.xt_types.specs.declared.types.ItemType.{ItemType}
use Rattle.xt_types.specs.declared.types.ItemType.TheVariants as item
use Rattle.xt_types.specs.declared.types.SeqType.{SeqType}
use Rattle.xt_types.specs.declared.types.SeqType.TheVariants as sequence
use Rattle.expr_names.specs.Names.{undeclared_in}
use Rattle.expr_names.specs.Types.{known_broken, cast_broken}
use Rattle.expr_keys.specs.declared.keys.Key.{Key}
use Rattle.expr_keys.specs.declared.keys.Key.TheVariants as key
use Rattle.expr_keys.specs.declared.tokens.Token.{Token}
use Rattle.expr_keys.specs.declared.tokens.Token.TheVariants as token
use Rattle.expr_keys.specs.declared.productions.Class.TheVariants as class
use Rattle.expr_keys.specs.declared.productions.Level.{Level}
use Rattle.expr_keys.specs.declared.productions.Level.TheVariants as level
use Rattle.expr_keys.specs.declared.productions.Production.TheVariants as production
use Rattle.expr_terms.specs.declared.raws.Raw.{Raw}
use Rattle.expr_terms.specs.declared.raws.Raw.TheVariants.{Leaf as leaf, Node as node}
use Rattle.expr_rules.specs.ExprMeant.Names.{written_in, written_of}
use Rattle.expr_rules.specs.declared.expr_meant.meant.Meant.{Meant}
use Rattle.expr_rules.specs.declared.expr_meant.meant.Meant.TheVariants as meant
use Rattle.expr_rules.specs.Known.{named_type}
use Rattle.expr_rules.specs.Rules.{type_broken_of, cast_broken_of, operated_broken, own_broken}
use Rattle.expr_rules.specs.Rules.{end_broken}
use Rattle.expr_control.specs.Table.{control_value}
use Rattle.expr_resolve.specs.declared.setting.Setting.{Setting}
use Rattle.expr_resolve.specs.Tables.{is_chain, is_tag, family_of, value_in}
use Rattle.expr_resolve.specs.Folds.{value_of}
use Rattle.expr_raws.specs.PathRaws.Forms.{Form, below, at, key_leaf}
use Rattle.expr_raws.specs.PathRaws.Names.{qualified, no_codes}
use Rattle.expr_raws.specs.PathRaws.Paths.{with_token, leaf_test, test_form}
use Rattle.expr_raws.proofs.PathRaws.Values.{value_leaf, value_node}
use Rattle.expr_raws.proofs.PathRaws.Paths.{fitting_sound, IsKind, kind_means}
use Rattle.expr_raws.specs.ControlRaws.Types.{local_name, is_atom, types, type_token, kind_form}
use Rattle.expr_raws.specs.ControlRaws.Types.{item_form, counted, sequence_form, of_type, single_with}
use Rattle.expr_raws.specs.ControlRaws.Types.{single_form}
use Rattle.raw_laws.specs.CleanRaws.Keeps.{is_cast_type}
use Rattle.raw_laws.proofs.CleanRaws.Clean.{Clean, free_clean, leaf_clean, told_clean, untold, is_token}
use Rattle.raw_laws.proofs.CleanRaws.Clean.{untold_type, at_clean}
use Rattle.raw_laws.proofs.CleanRaws.Names.{none, test_clean}
use Rattle.expr_raws.proofs.ControlRaws.Types.{same_atoms}

atom_named : (k : AtomType) (o : Option AtomType) → is_atom k o ≡ true → o ≡ Some k
atom_named k None e = absurd (cc)
atom_named k (Some a) e = ap (λ x. Some x) (same_atoms a k e)

-- the token of an atomic type names it, and its prefix is declared
type_known : (bound : List Binding) (k : AtomType) (t : Token) → type_token bound k ≡ Some t
    → (undeclared_in bound (written_in t) ≡ [])
    × (named_type bound (meant.Token t) ≡ Some k)
type_known bound k t e =
    let h = and_parts (is_atom k (named_type bound (meant.Token t)))
    (no_codes (undeclared_in bound (written_in t)))
    (fitting_sound class.Name (types bound k) (qualified bound (local_name k)) t e).1 in (
      none (undeclared_in bound (written_in t)) h.1,
      atom_named k (named_type bound (meant.Token t)) h.0,
    )

module _ (s : Setting) where
  -- a raw value that is a type as well
  abbrev pub Typed : Raw → Type 0
  Typed v = Clean s v × (type_broken_of s.prefixes.bound (value_of s v) ≡ [])

  untold_typed : (v : Raw) (m : Meant) → Clean s v → value_of s v ≡ m → is_token m ≡ false → Typed v
  untold_typed v m c h e = (
    c,
    ap (λ x. type_broken_of s.prefixes.bound x) h
        ∙ untold_type s.prefixes.bound m e,
  )

  atomic_typed : (k : AtomType) (o : Option Token) → type_token s.prefixes.bound k ≡ o
      → (with_token o leaf_test).can ≡ true → Typed (with_token o leaf_test).raw
  unfolding type_broken_of written_of known_broken
  atomic_typed k None e c = absurd (cc)
  atomic_typed k (Some t) e c =
      let h = type_known s.prefixes.bound k t e in (
        leaf_clean s t,
        ap (λ m. type_broken_of s.prefixes.bound m) (value_leaf s t)
            ∙ ap₂ (λ xs o. xs ++ known_broken o) h.0 h.1,
      )

  known_kind : (t : Test) → IsKind s t → (test_form s.prefixes axis.Child t).can ≡ true
      → Typed (test_form s.prefixes axis.Child t).raw
  known_kind t i c = untold_typed (test_form s.prefixes axis.Child t).raw (meant.Kind t)
      (test_clean s axis.Child t c).0 (kind_means s axis.Child t i c) refl

  kind_typed : (t : Test) → (kind_form s.prefixes t).can ≡ true
      → Typed (kind_form s.prefixes t).raw
  kind_typed (test.Named n) c = absurd (cc)
  kind_typed test.Node c = known_kind test.Node tt c
  kind_typed test.Text c = known_kind test.Text tt c
  kind_typed test.Comment c = known_kind test.Comment tt c
  kind_typed test.Doc c = known_kind test.Doc tt c
  kind_typed (test.Pi o) c = known_kind (test.Pi o) tt c
  kind_typed (test.Elem n) c = known_kind (test.Elem n) tt c
  kind_typed (test.Attr n) c = known_kind (test.Attr n) tt c

  item_typed : (i : ItemType) → (item_form s.prefixes i).can ≡ true
      → Typed (item_form s.prefixes i).raw
  unfolding is_chain family_of value_in control_value
  item_typed item.Any c = untold_typed (node production.AnyItem []) _
      (free_clean s production.AnyItem refl [] tt) (value_node s production.AnyItem []) refl
  item_typed (item.Kind t) c = kind_typed t c
  item_typed (item.Atomic k) c = atomic_typed k _ refl c

  marked_typed : (v : Raw) (k : Key) → Typed v
      → Typed (node production.ItemsType (v ∷ key_leaf k ∷ []))
  unfolding is_chain is_tag family_of value_in control_value own_broken end_broken
  marked_typed v k h = untold_typed (node production.ItemsType (v ∷ key_leaf k ∷ [])) _
      (told_clean s production.ItemsType refl refl (v ∷ key_leaf k ∷ [])
      (h, ((leaf_clean s (token.Key k), refl), tt)) refl)
      (value_node s production.ItemsType (v ∷ key_leaf k ∷ [])) refl

  counted_typed : (c : Count) (v : Raw) → Typed v → Typed (counted c v)
  counted_typed count.One v h = h
  counted_typed count.Opt v h = marked_typed v key.Question h
  counted_typed count.Many v h = marked_typed v key.Star h
  counted_typed count.More v h = marked_typed v key.Plus h

  pub sequence_typed : (t : SeqType) → (sequence_form s.prefixes t).can ≡ true
      → Typed (sequence_form s.prefixes t).raw
  unfolding is_chain family_of value_in control_value
  sequence_typed sequence.Empty c = untold_typed (node production.EmptyType []) _
      (free_clean s production.EmptyType refl [] tt) (value_node s production.EmptyType []) refl
  sequence_typed (sequence.Of i n) c =
      counted_typed n (item_form s.prefixes i).raw (item_typed i c)

  -- as T
  pub typed_clean : (v : Raw) → Typed v → Clean s (node production.AsType (v ∷ []))
  unfolding own_broken end_broken is_tag is_chain
  typed_clean v h = told_clean s production.AsType refl refl (v ∷ []) (h, tt) refl

  -- the type of a cast

  cast_known : (k : AtomType) (t : Token) → type_token s.prefixes.bound k ≡ Some t
      → is_cast_type k ≡ true → cast_broken_of s.prefixes.bound (value_of s (leaf t)) ≡ []
  unfolding cast_broken_of written_of
  cast_known k t e c =
      let h = type_known s.prefixes.bound k t e in
      ap (λ m. cast_broken_of s.prefixes.bound m) (value_leaf s t)
      ∙ ap₂ (λ xs o. xs ++ cast_broken o) h.0 h.1 ∙ none (cast_broken (Some k)) c

  single_with_clean : (k : AtomType) (b : Bool) (t : Token)
      → type_token s.prefixes.bound k ≡ Some t → is_cast_type k ≡ true
      → Clean s (single_with b t).raw
  unfolding is_chain is_tag family_of value_in control_value own_broken end_broken
  single_with_clean k true t e c =
      told_clean s production.SingleAtomicType refl refl (leaf t ∷ node production.QuestionMark [] ∷ []) (
        (leaf_clean s t, cast_known k t e c),
        (
          (
            free_clean s production.QuestionMark refl [] tt,
            untold s production.SingleAtomicType false (node production.QuestionMark []) _
                (value_node s production.QuestionMark []) refl,
          ),
          tt,
        ),
      ) refl
  single_with_clean k false t e c = told_clean s production.SingleAtomicType refl refl (leaf t ∷ [])
      ((leaf_clean s t, cast_known k t e c), tt) refl

  single_found : (k : AtomType) (b : Bool) (o : Option Token)
      → type_token s.prefixes.bound k ≡ o → is_cast_type k ≡ true
      → (with_token o (single_with b)).can ≡ true → Clean s (with_token o (single_with b)).raw
  single_found k b None e i c = absurd (cc)
  single_found k b (Some t) e i c = single_with_clean k b t e i

  pub single_clean : (k : AtomType) (b : Bool) → is_cast_type k ≡ true
      → (single_form s.prefixes k b).can ≡ true → Clean s (single_form s.prefixes k b).raw
  single_clean k b i c = single_found k b _ refl i c

  -- an operator with a type at its right

  pub instances_clean : (v : Raw) → Typed v
      → Clean s (node (production.OperatorTail level.InstanceOf) (v ∷ []))
  unfolding own_broken operated_broken end_broken is_tag is_chain
  instances_clean v h =
      told_clean s (production.OperatorTail level.InstanceOf) refl refl (v ∷ []) (h, tt) refl

  pub treats_clean : (v : Raw) → Typed v
      → Clean s (node (production.OperatorTail level.Treat) (v ∷ []))
  unfolding own_broken operated_broken end_broken is_tag is_chain
  treats_clean v h =
      told_clean s (production.OperatorTail level.Treat) refl refl (v ∷ []) (h, tt) refl

  pub of_type_clean : (l : Level) (a t : Form) → Clean s a.raw
      → Clean s (node (production.OperatorTail l) (t.raw ∷ [])) → Clean s (of_type l a t).raw
  of_type_clean l a t ca ct = free_clean s (production.OperatorChain l) refl
      (at (below l) a ∷ node (production.OperatorTail l) (t.raw ∷ []) ∷ [])
      (at_clean s (below l) a ca, (ct, tt))
