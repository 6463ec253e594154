-- Values of closed stylesheets have regular expressions that nest at most 40 levels.
use Rattle.std.proofs.Common.{◌≡◌, List, [], ◌∷◌, refl}
use Rattle.std.proofs.lemmas.Bool.{and_from, and_parts}
use Rattle.std.specs.Prelude.{Bool, true, ◌&&◌, nat_le, Option, Some, None}
use Rattle.std.specs.List.{list_all}
use Rattle.xt_types.specs.Regular.{is_regular_type}
use Rattle.xt_types.specs.declared.types.SeqType.{SeqType}
use Rattle.xt_forms.specs.Nest.{nest_of}
use Rattle.xt_forms.specs.Regular.{is_regular_expr, is_regular_kind}
use Rattle.xt_syntax.specs.declared.exprs.Expr.{Expr}
use Rattle.xt_syntax.specs.declared.patterns.Pattern.{Pattern}
use Rattle.xt_sheets.specs.declared.values.AvtPart.{AvtPart}
use Rattle.xt_sheets.specs.declared.values.AvtPart.TheVariants.{Chars, Code}
use Rattle.xt_sheets.specs.declared.values.AvtName.{AvtName}
use Rattle.xt_sheets.specs.declared.values.Grouping.{Grouping}
use Rattle.xt_sheets.specs.declared.values.Grouping.TheVariants.{By, Adjacent, Starting}
use Rattle.xt_sheets.specs.declared.values.LiteralAttr.{LiteralAttr}
use Rattle.xt_sheets.specs.declared.values.Sort.{Sort}
use Rattle.closed_queries.specs.Closed.{is_good_expr, is_good_kind}
use Rattle.closed_queries.specs.ExprTexts.{has_sound_texts}
use Rattle.closed_queries.specs.Texts.{is_sound_attribute_name, is_free_uri, is_sound_type}
use Rattle.closed_sheets.specs.Forms.{has_xpath_forms}
use Rattle.closed_sheets.specs.Values.{is_sheet_expr, if_sheet_expr, is_good_part, is_good_template}
use Rattle.closed_sheets.specs.Values.{if_good_template, is_good_binding, is_good_name, is_good_attribute}
use Rattle.closed_sheets.specs.Values.{is_good_sort, is_good_grouping}
use Rattle.sheet_closure.specs.StandingParts.Calls.{calls_stand, expr_stands}
use Rattle.sheet_closure.specs.StandingParts.Patterns.{is_alternative}
use Rattle.sheet_closure.specs.StandingParts.Values.{if_expr_stands, part_stands, template_stands, if_template_stands}
use Rattle.sheet_closure.specs.StandingParts.Values.{attribute_stands, sort_stands, grouping_stands}
use Rattle.translated_forms.specs.Leaves.{is_leaf, if_leaf, part_leaf, template_leaves, separator_leaves}
use Rattle.translated_forms.specs.Leaves.{attribute_leaves, sort_leaf, grouping_leaves}

pub leaf_known : (g : Bool) (e : Expr) → is_sheet_expr e ≡ true → expr_stands g e ≡ true → is_leaf e ≡ true
unfolding is_sheet_expr is_good_expr expr_stands is_leaf
leaf_known g e h i =
    let a = and_parts (is_regular_expr e && has_sound_texts e) (has_xpath_forms e) h in
    let b = and_parts (is_regular_expr e) (has_sound_texts e) a.0 in
    let c = and_parts (nat_le (nest_of e) 40) (calls_stand g e) i in
    and_from (nat_le (nest_of e) 40) (is_regular_expr e) c.0 b.0

pub if_known : (g : Bool) (e : Option Expr) → if_sheet_expr e ≡ true → if_expr_stands g e ≡ true →
    if_leaf e ≡ true
unfolding if_sheet_expr if_expr_stands if_leaf
if_known g None h i = refl
if_known g (Some e) h i = leaf_known g e h i

pub kind_known : (k : Option SeqType) → is_good_kind k ≡ true → is_regular_kind k ≡ true
unfolding is_good_kind is_regular_kind
kind_known None h = refl
kind_known (Some k) h = (and_parts (is_regular_type k) (is_sound_type k) h).0

part_known : (g : Bool) (p : AvtPart Expr) → is_good_part p ≡ true → part_stands g p ≡ true → part_leaf p ≡ true
unfolding is_good_part part_stands part_leaf
part_known g (Chars t) h i = refl
part_known g (Code e) h i = leaf_known g e h i

pub template_known : (g : Bool) (ps : List (AvtPart Expr)) → is_good_template ps ≡ true →
    template_stands g ps ≡ true → template_leaves ps ≡ true
template_known g [] h i = refl
template_known g (p ∷ ps) h i =
    let a = and_parts (is_good_part p) (is_good_template ps) h in
    let b = and_parts (part_stands g p) (template_stands g ps) i in
    and_from (part_leaf p) (template_leaves ps) (part_known g p a.0 b.0) (template_known g ps a.1 b.1)

pub separator_known : (g : Bool) (s : Option (List (AvtPart Expr))) → if_good_template s ≡ true →
    if_template_stands g s ≡ true → separator_leaves s ≡ true
unfolding if_good_template if_template_stands separator_leaves
separator_known g None h i = refl
separator_known g (Some ps) h i = template_known g ps h i

pub name_known : (g : Bool) (n : AvtName Expr) → is_good_name n ≡ true → template_stands g n.text ≡ true →
    template_leaves n.text ≡ true
unfolding is_good_name
name_known g n h i =
    template_known g n.text
    ((and_parts (is_good_template n.text) (list_all is_good_binding n.scope && is_free_uri n.default_uri) h).0) i

pub attributes_known : (g : Bool) (xs : List (LiteralAttr Expr)) → list_all is_good_attribute xs ≡ true →
    list_all (attribute_stands g) xs ≡ true → list_all attribute_leaves xs ≡ true
unfolding is_good_attribute
attributes_known g [] h i = refl
attributes_known g (x ∷ xs) h i =
    let a = and_parts (is_sound_attribute_name x.name && is_good_template x.value) (list_all is_good_attribute xs) h in
    let b = and_parts (attribute_stands g x) (list_all (attribute_stands g) xs) i in
    let c = and_parts (is_sound_attribute_name x.name) (is_good_template x.value) a.0 in
    and_from (attribute_leaves x) (list_all attribute_leaves xs) (template_known g x.value c.1 b.0)
    (attributes_known g xs a.1 b.1)

pub sorts_known : (g : Bool) (xs : List (Sort Expr)) → list_all is_good_sort xs ≡ true →
    list_all (sort_stands g) xs ≡ true → list_all sort_leaf xs ≡ true
unfolding is_good_sort
sorts_known g [] h i = refl
sorts_known g (x ∷ xs) h i =
    let a = and_parts (is_sheet_expr x.key) (list_all is_good_sort xs) h in
    let b = and_parts (sort_stands g x) (list_all (sort_stands g) xs) i in
    and_from (sort_leaf x) (list_all sort_leaf xs) (leaf_known g x.key a.0 b.0) (sorts_known g xs a.1 b.1)

pub grouping_known : (g : Bool) (x : Grouping Expr Pattern) → is_good_grouping x ≡ true →
    grouping_stands g x ≡ true → grouping_leaves is_alternative x ≡ true
unfolding is_good_grouping grouping_stands grouping_leaves
grouping_known g (By e) h i = leaf_known g e h i
grouping_known g (Adjacent e) h i = leaf_known g e h i
grouping_known g (Starting ps) h i = i
