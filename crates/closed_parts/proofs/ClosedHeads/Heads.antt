-- Heads of instructions that break no rule.
use Rattle.std.proofs.Common.{◌≡◌, ℕ, List, [], ◌∷◌, ◌++◌, Bool, true, false, cond, not, ◌&&◌}
use Rattle.std.proofs.Common.{Option, Some, None, refl, ap, subst, codes}
use Rattle.std.proofs.lemmas.Bool.{and_from}
use Rattle.std.specs.List.{list_all}
use Rattle.std.specs.Prelude.{is_some}
use Rattle.xt_names.specs.Classes.{is_xml_text}
use Rattle.xt_names.specs.declared.codes.SheetStaticCode.{SheetStaticCode}
use Rattle.xt_names.specs.declared.codes.SheetStaticCode.TheVariants.{XTSE0840, XTSE0870, XTSE0880}
use Rattle.xt_names.specs.declared.codes.SheetStaticCode.TheVariants.{XTSE0940, XTSE1040}
use Rattle.xt_names.specs.declared.names.Name.{Name}
use Rattle.xt_syntax.specs.declared.exprs.Expr.{Expr}
use Rattle.xt_syntax.specs.declared.patterns.Pattern.{Pattern}
use Rattle.xt_tree.specs.Sound.{is_sound_name as is_tree_name}
use Rattle.xt_tree.specs.declared.attributes.Attribute.{Attribute}
use Rattle.xt_sheets.specs.declared.values.LiteralAttr.{LiteralAttr}
use Rattle.closed_queries.specs.Texts.{is_sound_attribute_name, is_sound_name}
use Rattle.closed_sheets.specs.Values.{if_sheet_expr, is_good_name, is_good_attribute}
use Rattle.sheet_heads.specs.Attributes.{optional_value}
use Rattle.sheet_heads.specs.Bodied.{value_of_faults, value_of_value, element_faults, element_value}
use Rattle.sheet_heads.specs.Bodied.{attribute_head_faults, attribute_head_value, comment_faults}
use Rattle.sheet_heads.specs.Bodied.{comment_value, pi_faults, pi_value, if_faults, if_value}
use Rattle.sheet_heads.specs.Bodied.{for_each_faults, for_each_value, groups_faults, groups_value}
use Rattle.sheet_heads.specs.Bodied.{perform_faults, perform_value, own_faults, own_value}
use Rattle.sheet_heads.specs.Bodied.{head_faults, select_faults, needed_select_faults, name_faults}
use Rattle.sheet_heads.specs.Groupings.{grouping_faults}
use Rattle.sheet_heads.specs.Literals.{one_faults, one_value, values_faults, values_value}
use Rattle.sheet_heads.specs.Literals.{literal_faults, literal_value}
use Rattle.sheet_heads.specs.Parts.{both_broken, computed_name}
use Rattle.sheet_heads.specs.declared.bodied.Head.{Head}
use Rattle.closed_texts.specs.SheetLanguage.Language.{sheet_reading as reading, expr_value}
use Rattle.sheet_table.specs.declared.sheet_nodes.nodes.Node.{Node}
use Rattle.sheet_table.specs.Attributes.{attribute, has}
use Rattle.sheet_table.specs.Rules.{attribute_faults, literal_attribute_faults}
use Rattle.sheet_table.specs.declared.elements.XslElement.{XslElement}
use Rattle.sheet_table.specs.declared.elements.XslElement.TheVariants as element
use Rattle.sheet_values.specs.SheetTexts.Places.{grouped}
use Rattle.sheet_values.specs.declared.sheet_texts.places.StaticContext.{StaticContext}
use Rattle.sheet_values.specs.Rules.{broken}
use Rattle.sheet_closure.specs.StandingParts.Values.{if_expr_stands, template_stands, attribute_stands}
use Rattle.closed_texts.proofs.ClosedNames.Uris.{default_uri_free, no_default_free}
use Rattle.closed_parts.specs.ClosedHeads.Heads.{is_good_head, head_stands, has_one_source, is_alone}
use Rattle.closed_parts.specs.SoundNodes.Sound.{are_sound_nodes, are_sound_attributes}
use Rattle.closed_parts.proofs.ClosedHeads.Values.{GoodPlace, not_broken, has_text, needed_expr, optional_expr}
use Rattle.closed_parts.proofs.ClosedHeads.Values.{avt_closed, needed_avt, optional_avt}
use Rattle.closed_parts.proofs.ClosedHeads.Sorts.{sorts_closed, grouping_closed, name_closed}
use Rattle.closed_parts.proofs.ClosedHeads.Nodes.{attribute_text, sound_first, same_name}
use Rattle.xt_names.specs.ExprNames.{uri_of}
use Rattle.xt_names.specs.Names.{is_in_xslt}
use Rattle.xt_names.proofs.ListLemmas.{front_nil, back_nil}

-- `select` stands or content, and not both
alone_or : (p : StaticContext) (o : Option (List ℕ)) (content : Bool) → (is_some o && content) ≡ false
    → is_alone (optional_value (expr_value p) o) content ≡ true
alone_or p None content h = refl
alone_or p (Some text) content h = ap not h

pub alone : (p : StaticContext) (code : SheetStaticCode) (attributes : List Attribute) (content : Bool)
    → both_broken code attributes content ≡ []
    → is_alone (optional_value (expr_value p) (attribute attributes (codes "select"))) content
    ≡ true
alone p code attributes content e =
    let both = not_broken code (has attributes (codes "select") && content) e in
    alone_or p (attribute attributes (codes "select")) content
    (subst (λ b. (b && content) ≡ false) (has_text attributes (codes "select")) both)

module _ (p : StaticContext) where
  pub record ClosedHead (content : Bool) (h : Head Expr Pattern) : Type 0 where
    pub good : is_good_head h ≡ true
    pub stands : head_stands p.in_group h ≡ true
    pub one : has_one_source content h ≡ true

module _ (p : StaticContext) (g : GoodPlace p) (attributes : List Attribute)
    (a : are_sound_attributes attributes ≡ true) where
  abbrev select : Option (List ℕ)
  select = attribute attributes (codes "select")

  value_of_closed : (content : Bool) → value_of_faults reading p attributes content ≡ []
      → ClosedHead p content (value_of_value reading p attributes)
  value_of_closed content e =
      let both = both_broken XTSE0870 attributes content in
      let none = broken XTSE0870 (not (has attributes (codes "select")) && not content) in
      let f = back_nil none _ (back_nil both _ e) in
      let x = optional_expr p g select (front_nil (select_faults reading p attributes) _ f) in
      let y = optional_avt p g (attribute attributes (codes "separator"))
      (attribute_text attributes (codes "separator") a)
      (back_nil (select_faults reading p attributes) _ f) in
      record {
        good = and_from (if_sheet_expr (optional_value (expr_value p) select)) _ x.good y.good;
        stands = and_from (if_expr_stands p.in_group (optional_value (expr_value p) select)) _
            x.stands y.stands;
        one = alone p XTSE0870 attributes content (front_nil both _ e);
      }

  element_closed : (content : Bool) → element_faults reading p attributes ≡ []
      → ClosedHead p content (element_value reading p attributes)
  element_closed content e =
      let u = default_uri_free p.bound g.bound in
      let n = name_closed p g attributes (uri_of p.bound []) a u e in
      record { good = n.good; stands = n.stands; one = refl }

  attribute_closed : (content : Bool) → attribute_head_faults reading p attributes content ≡ []
      → ClosedHead p content (attribute_head_value reading p attributes)
  attribute_closed content e =
      let both = both_broken XTSE0840 attributes content in
      let f = back_nil both _ e in
      let k = back_nil (name_faults reading p attributes) _ f in
      let n = name_closed p g attributes [] a no_default_free
      (front_nil (name_faults reading p attributes) _ f) in
      let x = optional_expr p g select (front_nil (select_faults reading p attributes) _ k) in
      let y = optional_avt p g (attribute attributes (codes "separator"))
      (attribute_text attributes (codes "separator") a)
      (back_nil (select_faults reading p attributes) _ k) in
      record {
        good = and_from (is_good_name (computed_name reading p attributes [])) _ n.good
            (and_from (if_sheet_expr (optional_value (expr_value p) select)) _ x.good y.good);
        stands = and_from (template_stands p.in_group (computed_name reading p attributes []).text)
            _ n.stands
            (and_from (if_expr_stands p.in_group (optional_value (expr_value p) select)) _
            x.stands y.stands);
        one = alone p XTSE0840 attributes content (front_nil both _ e);
      }

  comment_closed : (content : Bool) → comment_faults reading p attributes content ≡ []
      → ClosedHead p content (comment_value reading p attributes)
  comment_closed content e =
      let both = both_broken XTSE0940 attributes content in
      let x = optional_expr p g select (back_nil both _ e) in
      record {
        good = x.good;
        stands = x.stands;
        one = alone p XTSE0940 attributes content (front_nil both _ e);
      }

  pi_closed : (content : Bool) → pi_faults reading p attributes content ≡ []
      → ClosedHead p content (pi_value reading p attributes)
  pi_closed content e =
      let both = both_broken XTSE0880 attributes content in
      let f = back_nil both _ e in
      let n = needed_avt p g (attribute attributes (codes "name"))
      (attribute_text attributes (codes "name") a)
      (front_nil (name_faults reading p attributes) _ f) in
      let x = optional_expr p g select (back_nil (name_faults reading p attributes) _ f) in
      record {
        good = and_from _ (if_sheet_expr (optional_value (expr_value p) select)) n.good x.good;
        stands = and_from _ (if_expr_stands p.in_group (optional_value (expr_value p) select))
            n.stands x.stands;
        one = alone p XTSE0880 attributes content (front_nil both _ e);
      }

  if_closed : (content : Bool) → if_faults reading p attributes ≡ []
      → ClosedHead p content (if_value reading p attributes)
  if_closed content e =
      let x = needed_expr p g (attribute attributes (codes "test")) e in
      record { good = x.good; stands = x.stands; one = refl }

  for_each_closed : (sorts : List Node) (content : Bool) → are_sound_nodes sorts ≡ true
      → for_each_faults reading p attributes sorts ≡ []
      → ClosedHead p content (for_each_value reading p attributes sorts)
  for_each_closed sorts content h e =
      let needed = needed_select_faults reading p attributes in
      let x = needed_expr p g select (front_nil needed _ e) in
      let y = sorts_closed p g sorts h (back_nil needed _ e) in
      record {
        good = and_from _ _ x.good y.good;
        stands = and_from _ _ x.stands y.stands;
        one = refl;
      }

  groups_closed : (sorts : List Node) (content : Bool) → are_sound_nodes sorts ≡ true
      → groups_faults reading p attributes sorts ≡ []
      → ClosedHead p content (groups_value reading p attributes sorts)
  groups_closed sorts content h e =
      let needed = needed_select_faults reading p attributes in
      let f = back_nil needed _ e in
      let x = needed_expr p g select (front_nil needed _ e) in
      let grouping = grouping_faults reading p attributes in
      let z = grouping_closed p g attributes (front_nil grouping _ f) in
      let inner : GoodPlace (grouped p) = record { bound = g.bound } in
      let y = sorts_closed (grouped p) inner sorts h (back_nil grouping _ f) in
      record {
        good = and_from _ _ x.good (and_from _ _ z.good y.good);
        stands = and_from _ _ x.stands (and_from _ _ z.stands y.stands);
        one = refl;
      }

  perform_closed : (sorts : List Node) (content : Bool) → are_sound_nodes sorts ≡ true
      → perform_faults reading p attributes sorts content ≡ []
      → ClosedHead p content (perform_value reading p attributes sorts)
  perform_closed sorts content h e =
      let both = both_broken XTSE1040 attributes content in
      let f = back_nil both _ e in
      let x = optional_expr p g select (front_nil (select_faults reading p attributes) _ f) in
      let y = sorts_closed p g sorts h (back_nil (select_faults reading p attributes) _ f) in
      record {
        good = and_from _ _ x.good y.good;
        stands = and_from _ _ x.stands y.stands;
        one = alone p XTSE1040 attributes content (front_nil both _ e);
      }

  own_closed : (e : XslElement) (sorts : List Node) (content : Bool)
      → are_sound_nodes sorts ≡ true → own_faults reading p e attributes sorts content ≡ []
      → ClosedHead p content (own_value reading p e attributes sorts)
  own_closed element.ValueOf sorts content h f = value_of_closed content f
  own_closed element.Element sorts content h f = element_closed content f
  own_closed element.Attribute sorts content h f = attribute_closed content f
  own_closed element.Comment sorts content h f = comment_closed content f
  own_closed element.ProcessingInstruction sorts content h f = pi_closed content f
  own_closed element.Document sorts content h f =
      record { good = refl; stands = refl; one = refl }
  own_closed element.Copy sorts content h f = record { good = refl; stands = refl; one = refl }
  own_closed element.If sorts content h f = if_closed content f
  own_closed element.ForEach sorts content h f = for_each_closed sorts content h f
  own_closed element.ForEachGroup sorts content h f = groups_closed sorts content h f
  own_closed element.PerformSort sorts content h f = perform_closed sorts content h f
  own_closed _ sorts content h f = absurd cc

  pub head_closed : (e : XslElement) (sorts : List Node) (content : Bool)
      → are_sound_nodes sorts ≡ true → head_faults reading p e attributes sorts content ≡ []
      → ClosedHead p content (own_value reading p e attributes sorts)
  head_closed e sorts content h f =
      own_closed e sorts content h (back_nil (attribute_faults e attributes) _ f)

-- literal result elements
module _ (p : StaticContext) where
  record ClosedAttributes (made : List (LiteralAttr Expr)) : Type 0 where
    good : list_all is_good_attribute made ≡ true
    stands : list_all (attribute_stands p.in_group) made ≡ true

module _ (p : StaticContext) (g : GoodPlace p) where
  attributes_closed : (attributes : List Attribute) → are_sound_attributes attributes ≡ true
      → values_faults reading p attributes ≡ []
      → ClosedAttributes p (values_value reading p attributes)
  unfolding is_good_attribute
  attributes_closed [] h e = record { good = refl; stands = refl }
  attributes_closed (a ∷ more) h e =
      let k = sound_first a more h in
      go (is_in_xslt a.name) k.named k.text (λ f. attributes_closed more k.others f) e
    where
      go : (b : Bool) → is_sound_attribute_name a.name ≡ true → is_xml_text a.value ≡ true
          → (values_faults reading p more ≡ [] → ClosedAttributes p (values_value reading p more))
          → cond b (values_faults reading p more)
          (one_faults reading p a ++ values_faults reading p more) ≡ []
          → ClosedAttributes p (cond b (values_value reading p more)
          (one_value reading p a ∷ values_value reading p more))
      go true n t others e = others e
      go false n t others e =
          let x = avt_closed p g a.value t (front_nil (one_faults reading p a) _ e) in
          let y = others (back_nil (one_faults reading p a) _ e) in
          record {
            good = and_from (is_good_attribute (one_value reading p a)) _
                (and_from (is_sound_attribute_name a.name) _ n x.good) y.good;
            stands = and_from (attribute_stands p.in_group (one_value reading p a)) _ x.stands
                y.stands;
          }

  pub literal_closed : (name : Name) (attributes : List Attribute) (content : Bool)
      → is_tree_name name ≡ true → are_sound_attributes attributes ≡ true
      → literal_faults reading p attributes ≡ []
      → ClosedHead p content (literal_value reading p name attributes)
  literal_closed name attributes content n h e =
      let x = attributes_closed attributes h (back_nil (literal_attribute_faults attributes) _ e) in
      record {
        good = and_from (is_sound_name name) _ (same_name name n) x.good;
        stands = x.stands;
        one = refl;
      }
