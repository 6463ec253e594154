-- Sort keys, groups and computed names that break no rule.
use Rattle.std.proofs.Common.{◌≡◌, ℕ, List, [], ◌∷◌, ◌++◌, Bool, true, false, cond, not, refl}
use Rattle.std.proofs.Common.{codes}
use Rattle.std.proofs.lemmas.Bool.{and_parts, and_from}
use Rattle.std.specs.List.{list_all}
use Rattle.xt_names.specs.declared.codes.SheetStaticCode.TheVariants.{XTSE1080}
use Rattle.xt_syntax.specs.declared.exprs.Expr.{Expr}
use Rattle.xt_syntax.specs.declared.patterns.Pattern.{Pattern}
use Rattle.xt_tree.specs.declared.attributes.Attribute.{Attribute}
use Rattle.xt_sheets.specs.declared.values.Grouping.{Grouping}
use Rattle.xt_sheets.specs.declared.values.Sort.{Sort}
use Rattle.closed_queries.specs.Texts.{is_free_uri}
use Rattle.closed_sheets.specs.Values.{is_good_sort, is_good_grouping, is_good_name}
use Rattle.closed_sheets.specs.Values.{is_good_template, is_good_binding}
use Rattle.sheet_heads.specs.Groupings.{is_one, key_faults, key_value, grouping_faults}
use Rattle.sheet_heads.specs.Groupings.{grouping_value}
use Rattle.sheet_heads.specs.Parts.{computed_name}
use Rattle.sheet_heads.specs.Sorts.{sort_layer_faults, sort_layer_value, sort_node_faults}
use Rattle.sheet_heads.specs.Sorts.{sort_node_value, keys_faults, keys_value, key_text}
use Rattle.closed_texts.specs.SheetLanguage.Language.{sheet_reading as reading, expr_faults}
use Rattle.sheet_table.specs.SheetNodes.Parts.{is_sort, none_faults}
use Rattle.sheet_table.specs.declared.sheet_nodes.nodes.Node.{Node}
use Rattle.sheet_table.specs.declared.sheet_nodes.nodes.Node.TheViews.{out-Node}
use Rattle.sheet_table.specs.declared.sheet_nodes.nodes.Node.TheOpen.{Node-F, Elem, Chars}
use Rattle.sheet_table.specs.Attributes.{attribute, has}
use Rattle.sheet_table.specs.Rules.{attribute_faults}
use Rattle.sheet_table.specs.declared.elements.XslElement.TheVariants as element
use Rattle.sheet_values.specs.SheetTexts.Places.{within}
use Rattle.sheet_values.specs.SheetTexts.Templates.{template_faults}
use Rattle.sheet_values.specs.declared.sheet_texts.places.StaticContext.{StaticContext}
use Rattle.sheet_values.specs.Rules.{broken}
use Rattle.sheet_heads.specs.Attributes.{needed_faults}
use Rattle.sheet_closure.specs.StandingParts.Values.{sort_stands, grouping_stands, template_stands}
use Rattle.closed_parts.specs.SoundNodes.Sound.{is_sound_node, are_sound_nodes, are_sound_attributes}
use Rattle.closed_parts.proofs.ClosedHeads.Values.{GoodPlace, closed_text, needed_expr, needed_patterns}
use Rattle.closed_parts.proofs.ClosedHeads.Values.{needed_avt}
use Rattle.closed_parts.proofs.SoundNodes.Forms.{SoundForm, sound_form, sound_element}
use Rattle.closed_parts.proofs.ClosedHeads.Nodes.{good_within, attribute_text}
use Rattle.xt_names.proofs.ListLemmas.{front_nil, back_nil}

module _ (p : StaticContext) where
  record ClosedSort (s : Sort Expr) : Type 0 where
    good : is_good_sort s ≡ true
    stands : sort_stands p.in_group s ≡ true

  pub record ClosedSorts (ss : List (Sort Expr)) : Type 0 where
    pub good : list_all is_good_sort ss ≡ true
    pub stands : list_all (sort_stands p.in_group) ss ≡ true

  -- what puts items into groups
  pub record ClosedGrouping (x : Grouping Expr Pattern) : Type 0 where
    pub good : is_good_grouping x ≡ true
    pub stands : grouping_stands p.in_group x ≡ true

  -- a computed name
  pub record ClosedName (attributes : List Attribute) (uri : List ℕ) : Type 0 where
    pub good : is_good_name (computed_name reading p attributes uri) ≡ true
    pub stands : template_stands p.in_group (computed_name reading p attributes uri).text
        ≡ true

module _ (p : StaticContext) (g : GoodPlace p) where
  sort_closed : (n : Node) (f : Node-F Node) → SoundForm f
      → sort_layer_faults reading p n f ≡ []
      → ClosedSort p (sort_layer_value reading p f)
  unfolding is_good_sort
  sort_closed n (Elem own name attributes kids) h e =
      let k = sound_element own name attributes kids h in
      let inner : GoodPlace (within p own) = record { bound = good_within p own g.bound k.bound } in
      let rest = back_nil (attribute_faults element.Sort attributes) _ e in
      let key : expr_faults (within p own) (key_text attributes) ≡ [] =
      back_nil (none_faults kids) _ rest in
      let c = closed_text (within p own) inner (key_text attributes) key in
      record { good = c.good; stands = c.stands }
  sort_closed n (Chars t) h e = absurd cc

  and_sort : (s : Sort Expr) (ss : List (Sort Expr)) → ClosedSort p s → ClosedSorts p ss
      → ClosedSorts p (s ∷ ss)
  and_sort s ss a b = record {
    good = and_from (is_good_sort s) _ a.good b.good;
    stands = and_from (sort_stands p.in_group s) _ a.stands b.stands;
  }

  pub sorts_closed : (ns : List Node) → are_sound_nodes ns ≡ true
      → keys_faults reading p ns ≡ [] → ClosedSorts p (keys_value reading p ns)
  sorts_closed [] h e = record { good = refl; stands = refl }
  sorts_closed (n ∷ ns) h e =
      let k = and_parts (is_sound_node n) (are_sound_nodes ns) h in
      go (is_sort n) e (λ f. sort_closed n (out-Node n) (sound_form n k.0) f)
      (λ f. sorts_closed ns k.1 f)
    where
      go : (b : Bool) → cond b (sort_node_faults reading p n ++ keys_faults reading p ns)
          (keys_faults reading p ns) ≡ []
          → (sort_node_faults reading p n ≡ []
          → ClosedSort p (sort_node_value reading p n))
          → (keys_faults reading p ns ≡ [] → ClosedSorts p (keys_value reading p ns))
          → ClosedSorts p (cond b (sort_node_value reading p n ∷ keys_value reading p ns)
          (keys_value reading p ns))
      go true e first others =
          and_sort (sort_node_value reading p n) (keys_value reading p ns)
          (first (front_nil (sort_node_faults reading p n) (keys_faults reading p ns) e))
          (others (back_nil (sort_node_faults reading p n) (keys_faults reading p ns) e))
      go false e first others = others e

  pub grouping_closed : (attributes : List Attribute)
      → grouping_faults reading p attributes ≡ []
      → ClosedGrouping p (grouping_value reading p attributes)
  unfolding is_good_grouping grouping_stands
  grouping_closed attributes e =
      go (has attributes (codes "group-by")) (has attributes (codes "group-adjacent"))
      (back_nil (broken XTSE1080 (not (is_one (has attributes (codes "group-by"))
      (has attributes (codes "group-adjacent"))
      (has attributes (codes "group-starting-with"))))) _ e)
    where
      go : (a b : Bool) → key_faults reading p attributes a b ≡ []
          → ClosedGrouping p (key_value reading p attributes a b)
      go true b f =
          let c = needed_expr p g (attribute attributes (codes "group-by")) f in
          record { good = c.good; stands = c.stands }
      go false true f =
          let c = needed_expr p g (attribute attributes (codes "group-adjacent")) f in
          record { good = c.good; stands = c.stands }
      go false false f =
          let c = needed_patterns p g (attribute attributes (codes "group-starting-with")) f in
          record { good = c.good; stands = c.stands }

  pub name_closed : (attributes : List Attribute) (uri : List ℕ)
      → are_sound_attributes attributes ≡ true → is_free_uri uri ≡ true
      → needed_faults (template_faults reading p) (attribute attributes (codes "name")) ≡ []
      → ClosedName p attributes uri
  unfolding is_good_name
  name_closed attributes uri h u e =
      let name = attribute attributes (codes "name") in
      let c = needed_avt p g name (attribute_text attributes (codes "name") h) e in
      record {
        good = and_from (is_good_template (computed_name reading p attributes uri).text) _
            c.good (and_from (list_all is_good_binding p.bound) _ g.bound u);
        stands = c.stands;
      }
