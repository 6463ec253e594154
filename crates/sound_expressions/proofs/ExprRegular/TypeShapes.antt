-- Types have no direct elements.
use Rattle.std.proofs.Common.{◌≡◌, List, [], ◌∷◌, map, true, refl, ap, ◌∙◌}
use Rattle.std.specs.List.{list_all}
use Rattle.expr_terms.specs.Productions.{body, head}
use Rattle.expr_terms.specs.Raws.{build}
use Rattle.expr_keys.specs.declared.tokens.Token.{Token}
use Rattle.expr_keys.specs.declared.productions.Language.{Language}
use Rattle.expr_keys.specs.declared.productions.Nonterminal.TheVariants as nonterminal
use Rattle.expr_keys.specs.declared.productions.Production.{Production}
use Rattle.expr_keys.specs.declared.productions.Production.TheVariants as production
use Rattle.expr_terms.specs.declared.raws.Raw.{Raw}
use Rattle.expr_terms.specs.declared.raws.Raw.TheVariants.{Leaf as leaf, Node as node}
use Rattle.expr_grammar.specs.Grammar.{Derives, by, Seq, end, taken, next, without, with, bare, given}
use Rattle.expr_grammar.specs.Grammar.{SpellsType}
use Rattle.expr_rules.specs.ExprShapes.Shapes.{is_good, own_shape, shape_of, is_shaped}
use Rattle.sound_expressions.proofs.ExprRegular.Found.{shape_leaf, shape_node}

pub leaf_shaped : (t : Token) → is_shaped (leaf t) ≡ true
leaf_shaped t = ap (λ x. x.good) (shape_leaf t)

abbrev pub EachShaped : List Raw → Type 0
EachShaped [] = Unit {0}
EachShaped (v ∷ vs) = (is_shaped v ≡ true) × EachShaped vs

pub all_shaped : (vs : List Raw) → EachShaped vs → list_all is_good (map shape_of vs) ≡ true
all_shaped [] h = refl
all_shaped (v ∷ vs) h = rw (h.0, all_shaped vs h.1) refl

node_shaped : (p : Production) (vs : List Raw) → own_shape p (map shape_of vs) ≡ true
    → EachShaped vs → is_shaped (node p vs) ≡ true
node_shaped p vs o h = shape_node p vs ∙ rw (all_shaped vs h, o) refl

module _ (l : Language) where
  target_so : (p : Production) {ts rest : List Token} {vs : List Raw}
      → head p ≡ nonterminal.PiArgument → Seq l (body p) ts vs rest → is_shaped (build p vs) ≡ true
  target_so production.PiNamed e (taken {t = t} f end) = leaf_shaped t
  target_so _ e q = absurd cc

  target_shaped : {ts rest : List Token} {v : Raw} → Derives l nonterminal.PiArgument ts v rest
      → is_shaped v ≡ true
  target_shaped (by p o e q) = target_so p e q

  name_so : (p : Production) {ts rest : List Token} {vs : List Raw}
      → head p ≡ nonterminal.NamedArgument → Seq l (body p) ts vs rest
      → is_shaped (build p vs) ≡ true
  name_so production.KindNamed e (taken {t = t} f end) = leaf_shaped t
  name_so _ e q = absurd cc

  name_shaped : {ts rest : List Token} {v : Raw} → Derives l nonterminal.NamedArgument ts v rest
      → is_shaped v ≡ true
  name_shaped (by p o e q) = name_so p e q

  kind_so : (p : Production) {ts rest : List Token} {vs : List Raw}
      → head p ≡ nonterminal.KindTest → Seq l (body p) ts vs rest → is_shaped (build p vs) ≡ true
  unfolding own_shape
  kind_so production.PlainKind e (taken {t = t} f (taken g (taken h end))) =
      node_shaped production.PlainKind (leaf t ∷ []) refl (leaf_shaped t, tt)
  kind_so production.PiKind e (taken f (taken g (without (taken h end)))) =
      node_shaped production.PiKind [] refl tt
  kind_so production.PiKind e (taken f (taken g (with {v = v} d (taken h end)))) =
      node_shaped production.PiKind (v ∷ []) refl (target_shaped d, tt)
  kind_so production.NamedKind e (taken {t = t} f (taken g (without (taken h end)))) =
      node_shaped production.NamedKind (leaf t ∷ []) refl (leaf_shaped t, tt)
  kind_so production.NamedKind e (taken {t = t} f (taken g (with {v = v} d (taken h end)))) =
      node_shaped production.NamedKind (leaf t ∷ v ∷ []) refl (leaf_shaped t, (name_shaped d, tt))
  kind_so _ e q = absurd cc

  kind_shaped : {ts rest : List Token} {v : Raw} → Derives l nonterminal.KindTest ts v rest
      → is_shaped v ≡ true
  kind_shaped (by p o e q) = kind_so p e q

  item_so : (p : Production) {ts rest : List Token} {vs : List Raw}
      → head p ≡ nonterminal.ItemType → Seq l (body p) ts vs rest → is_shaped (build p vs) ≡ true
  unfolding own_shape
  item_so production.AnyItem e (taken f (taken g (taken h end))) =
      node_shaped production.AnyItem [] refl tt
  item_so production.KindItem e (next d end) = kind_shaped d
  item_so production.AtomicItem e (taken {t = t} f end) = leaf_shaped t
  item_so _ e q = absurd cc

  item_shaped : {ts rest : List Token} {v : Raw} → Derives l nonterminal.ItemType ts v rest
      → is_shaped v ≡ true
  item_shaped (by p o e q) = item_so p e q

  mark_so : (p : Production) {ts rest : List Token} {vs : List Raw}
      → head p ≡ nonterminal.OccurrenceIndicator → Seq l (body p) ts vs rest → is_shaped (build p vs) ≡ true
  mark_so production.OccurrenceMark e (taken {t = t} f end) = leaf_shaped t
  mark_so _ e q = absurd cc

  mark_shaped : {ts rest : List Token} {v : Raw} → Derives l nonterminal.OccurrenceIndicator ts v rest
      → is_shaped v ≡ true
  mark_shaped (by p o e q) = mark_so p e q

  sequence_so : (p : Production) {ts rest : List Token} {vs : List Raw}
      → head p ≡ nonterminal.SequenceType → Seq l (body p) ts vs rest → is_shaped (build p vs) ≡ true
  unfolding own_shape
  sequence_so production.EmptyType e (taken f (taken g (taken h end))) =
      node_shaped production.EmptyType [] refl tt
  sequence_so production.ItemsType e (next d (bare h end)) = item_shaped d
  sequence_so production.ItemsType e (next {v = v} d (given {v = w} h x end)) =
      node_shaped production.ItemsType (v ∷ w ∷ []) refl (item_shaped d, (mark_shaped x, tt))
  sequence_so _ e q = absurd cc

  sequence_shaped : {ts rest : List Token} {v : Raw} → Derives l nonterminal.SequenceType ts v rest
      → is_shaped v ≡ true
  sequence_shaped (by p o e q) = sequence_so p e q

  whole_so : (p : Production) {ts rest : List Token} {vs : List Raw}
      → head p ≡ nonterminal.WholeType → Seq l (body p) ts vs rest → is_shaped (build p vs) ≡ true
  whole_so production.WholeSequenceType e (next d end) = sequence_shaped d
  whole_so _ e q = absurd cc

  pub type_shaped : {ts : List Token} {v : Raw} → SpellsType l ts v → is_shaped v ≡ true
  type_shaped (by p o e q) = whole_so p e q
