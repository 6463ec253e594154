-- Expressions, templates, names and sorts of instructions are carried from one program to another.
use Rattle.std.proofs.Common.{◌≡◌, List, map, refl}
use Rattle.std.proofs.lemmas.Bool.{and_parts}
use Rattle.std.specs.Prelude.{Bool, true, ◌&&◌, Option, Some, None}
use Rattle.std.specs.List.{list_all}
use Rattle.xt_names.specs.declared.names.Name.{Name}
use Rattle.xt_tree.specs.Sound.{is_sound_name, is_named_xmlns}
use Rattle.xt_forms.specs.Regular.{is_regular_expr}
use Rattle.xt_syntax.specs.declared.exprs.Expr.{Expr}
use Rattle.xt_syntax.specs.declared.patterns.Pattern.{Pattern}
use Rattle.xt_sheets.specs.declared.values.AvtPart.{AvtPart}
use Rattle.xt_sheets.specs.declared.values.AvtPart.TheVariants.{Chars, Code as Enclosed}
use Rattle.xt_sheets.specs.declared.values.AvtName.{AvtName}
use Rattle.xt_sheets.specs.declared.values.LiteralAttr.{LiteralAttr}
use Rattle.xt_sheets.specs.declared.values.Sort.{Sort}
use Rattle.xt_sheets.specs.declared.values.Grouping.{Grouping}
use Rattle.xt_sheets.specs.declared.values.Grouping.TheVariants.{By, Adjacent, Starting}
use Rattle.closed_queries.specs.Closed.{is_good_expr}
use Rattle.closed_queries.specs.ExprTexts.{has_sound_texts}
use Rattle.closed_queries.specs.Texts.{is_free_uri, is_sound_attribute_name}
use Rattle.closed_queries.specs.Texts.{is_sound_name as is_name}
use Rattle.closed_sheets.specs.Forms.{has_xpath_forms}
use Rattle.closed_sheets.specs.Values.{is_good_attribute, is_good_binding, is_good_grouping}
use Rattle.closed_sheets.specs.Values.{if_good_template, if_sheet_expr, is_good_name, is_good_part}
use Rattle.closed_sheets.specs.Values.{is_good_sort, is_good_template, is_sheet_expr}
use Rattle.expr_meaning.specs.Env.{Program}
use Rattle.expr_meaning.specs.Meaning.{outcome}
use Rattle.expr_laws.specs.Carrier.{AreAlike, Carrier, IsAttributeName, IsMade, IsName}
use Rattle.expr_laws.specs.Carrier.{ProgramsAgree}
use Rattle.expr_laws.proofs.Whole.{whole_meets}
use Rattle.transform_meaning.specs.Instrs.{attribute_means, attribute_name_means}
use Rattle.transform_meaning.specs.Instrs.{element_name_means, grouping_means, select_means}
use Rattle.transform_meaning.specs.Instrs.{separator_means, sort_means, sorts_mean}
use Rattle.transform_meaning.specs.Names.{target_named}
use Rattle.transform_meaning.specs.Texts.{part_means, template_means}
use Rattle.transform_laws.specs.Meets.{MeaningsMeet, SheetsMake}
use Rattle.transform_laws.proofs.Grouping.{GroupingMeets}
use Rattle.transform_laws.proofs.Lists.{IfBoth, Pairs, map_pairs}
use Rattle.transform_laws.proofs.Making.{AttributesMeet}
use Rattle.transform_laws.proofs.Names.{AttributeNamesMeet, NamesMeet, TargetsMeet}
use Rattle.transform_laws.proofs.Names.{attribute_name_meets, element_name_meets, target_meets}
use Rattle.transform_laws.proofs.Sorting.{SortMeets}
use Rattle.transform_laws.proofs.Texts.{PartsMeet, TextsMeet, template_meets}

module _ (c : Carrier) where
  -- what is asked where the relation is strict
  abbrev pub Asked : Bool → Type 0
  Asked b = c.strict → b ≡ true

  pub first : (a b : Bool) → Asked (a && b) → Asked a
  first a b h s = (and_parts a b (h s)).0

  pub second : (a b : Bool) → Asked (a && b) → Asked b
  second a b h s = (and_parts a b (h s)).1

  pub name_known : (n : Name) → Asked (is_name n) → IsName c n
  unfolding is_name is_sound_name
  name_known n h = h

  pub attribute_known : (n : Name) → Asked (is_sound_attribute_name n) → IsAttributeName c n
  unfolding is_sound_attribute_name is_name is_sound_name is_named_xmlns
  attribute_known n h = h

module _ (c : Carrier) (alike : AreAlike c) (makes : IsMade c) (sheets : SheetsMake c)
    (p q : Program) (agree : ProgramsAgree c p q) where
  pub expr_meets : (e : Expr) → Asked c (is_sheet_expr e) →
      MeaningsMeet c (outcome p e) (outcome q e)
  unfolding is_sheet_expr is_good_expr
  expr_meets e h =
      whole_meets c alike makes p q agree e (second c (is_regular_expr e) (has_sound_texts e)
      (first c (is_regular_expr e && has_sound_texts e) (has_xpath_forms e) h)) c.inner

  pub select_meets : (o : Option Expr) → Asked c (if_sheet_expr o) →
      IfBoth (MeaningsMeet c) (select_means p o) (select_means q o)
  unfolding if_sheet_expr
  select_meets None h = tt
  select_meets (Some e) h = expr_meets e h

  part_meets : (x : AvtPart Expr) → Asked c (is_good_part x) →
      PartsMeet c (part_means p x) (part_means q x)
  unfolding is_good_part
  part_meets (Chars text) h = (refl, h)
  part_meets (Enclosed e) h = expr_meets e h

  pub avt_meets : (xs : List (AvtPart Expr)) → Asked c (is_good_template xs) →
      TextsMeet c (template_means p xs) (template_means q xs)
  avt_meets xs h =
      template_meets c sheets (map (part_means p) xs) (map (part_means q) xs)
      (map_pairs (PartsMeet c) is_good_part c.strict (part_means p) (part_means q) part_meets xs h)

  pub separator_meets : (o : Option (List (AvtPart Expr))) → Asked c (if_good_template o) →
      IfBoth (TextsMeet c) (separator_means p o) (separator_means q o)
  unfolding if_good_template
  separator_meets None h = tt
  separator_meets (Some xs) h = avt_meets xs h

  pub element_name_means_meet : (n : AvtName Expr) → Asked c (is_good_name n) →
      NamesMeet c (element_name_means p n) (element_name_means q n)
  unfolding is_good_name
  element_name_means_meet n h =
      let t = is_good_template n.text in
      let u = list_all is_good_binding n.scope in
      let v = is_free_uri n.default_uri in
      let r = second c t (u && v) h in
      element_name_meets c sheets n.scope (first c u v r) n.default_uri (second c u v r)
      (template_means p n.text) (template_means q n.text) (avt_meets n.text (first c t (u && v) h))

  pub attribute_name_means_meet : (n : AvtName Expr) → Asked c (is_good_name n) →
      AttributeNamesMeet c (attribute_name_means p n) (attribute_name_means q n)
  unfolding is_good_name
  attribute_name_means_meet n h =
      let t = is_good_template n.text in
      let u = list_all is_good_binding n.scope in
      let v = is_free_uri n.default_uri in
      attribute_name_meets c sheets n.scope (first c u v (second c t (u && v) h))
      (template_means p n.text) (template_means q n.text) (avt_meets n.text (first c t (u && v) h))

  pub target_means_meet : (xs : List (AvtPart Expr)) → Asked c (is_good_template xs) →
      TargetsMeet c (target_named (template_means p xs)) (target_named (template_means q xs))
  target_means_meet xs h =
      target_meets c (template_means p xs) (template_means q xs) (avt_meets xs h)

  attribute_meets : (a : LiteralAttr Expr) → Asked c (is_good_attribute a) →
      AttributesMeet c (attribute_means p a) (attribute_means q a)
  unfolding is_good_attribute
  attribute_meets a h =
      let t = is_sound_attribute_name a.name in let u = is_good_template a.value in
      (refl, attribute_known c a.name (first c t u h), avt_meets a.value (second c t u h))

  pub attributes_meet : (xs : List (LiteralAttr Expr)) → Asked c (list_all is_good_attribute xs) →
      Pairs (AttributesMeet c) (map (attribute_means p) xs) (map (attribute_means q) xs)
  attributes_meet xs h =
      map_pairs (AttributesMeet c) is_good_attribute c.strict (attribute_means p)
      (attribute_means q) attribute_meets xs h

  sort_meets : (x : Sort Expr) → Asked c (is_good_sort x) →
      SortMeets c (sort_means p x) (sort_means q x)
  unfolding is_good_sort
  sort_meets x h = record { key = expr_meets x.key h; descending = refl; number = refl }

  pub sorts_meet : (xs : List (Sort Expr)) → Asked c (list_all is_good_sort xs) →
      Pairs (SortMeets c) (sorts_mean p xs) (sorts_mean q xs)
  sorts_meet xs h =
      map_pairs (SortMeets c) is_good_sort c.strict (sort_means p) (sort_means q) sort_meets xs h

  pub grouping_meets : (g : Grouping Expr Pattern) → Asked c (is_good_grouping g) →
      GroupingMeets c (grouping_means p g) (grouping_means q g)
  unfolding is_good_grouping
  grouping_meets (By e) h = expr_meets e h
  grouping_meets (Adjacent e) h = expr_meets e h
  grouping_meets (Starting patterns) h = refl
