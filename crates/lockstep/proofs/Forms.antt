-- What is asked of the forms of instructions that have laws of their own: loops, groups, computed names,
-- literal elements and copies.
use Rattle.std.proofs.Common.{◌≡◌, ℕ, List, map}
use Rattle.std.specs.Prelude.{true, Option, Some, None}
use Rattle.std.specs.List.{list_all}
use Rattle.xt_names.specs.declared.codes.Code.{Code}
use Rattle.xt_names.specs.declared.names.Name.{Name}
use Rattle.xt_syntax.specs.declared.exprs.Expr.{Expr}
use Rattle.xt_syntax.specs.declared.exprs.NameSource.{NameSource}
use Rattle.xt_syntax.specs.declared.exprs.Clause.TheViews.{roll-Expr}
use Rattle.xt_syntax.specs.declared.exprs.Clause.TheOpen.{ElemC}
use Rattle.xt_syntax.specs.declared.patterns.Pattern.{Pattern}
use Rattle.xt_sheets.specs.declared.sheets.Sheet.{Sheet}
use Rattle.xt_sheets.specs.declared.values.AvtName.{AvtName}
use Rattle.xt_sheets.specs.declared.values.AvtPart.{AvtPart}
use Rattle.xt_sheets.specs.declared.values.Grouping.{Grouping}
use Rattle.xt_sheets.specs.declared.values.LiteralAttr.{LiteralAttr}
use Rattle.xt_sheets.specs.declared.values.ModeUse.{ModeUse}
use Rattle.xt_sheets.specs.declared.values.Sort.{Sort}
use Rattle.closed_queries.specs.Texts.{is_sound_name as is_name}
use Rattle.closed_sheets.specs.Values.{is_good_attribute, is_good_name, is_good_template}
use Rattle.expr_meaning.specs.Outcomes.Outcome.{Outcome, Fails}
use Rattle.expr_meaning.specs.Outcomes.Follow.{Relation, IsCarrying}
use Rattle.expr_meaning.specs.Env.{Env, Meaning, Program}
use Rattle.expr_meaning.specs.Meaning.{outcome}
use Rattle.transform_meaning.specs.Bindings.{BoundMeaning, Doing, body_of}
use Rattle.transform_meaning.specs.Dispatch.{Doors, apply_of}
use Rattle.transform_meaning.specs.Grouping.{each_group_of}
use Rattle.transform_meaning.specs.Instrs.{attribute_means, attribute_name_means, element_name_means}
use Rattle.transform_meaning.specs.Instrs.{grouping_means, select_means, sorts_mean}
use Rattle.transform_meaning.specs.Making.{copy_made, literal_made}
use Rattle.transform_meaning.specs.Names.{NameMeaning, target_named}
use Rattle.transform_meaning.specs.Sorting.{each_of, sorted_of}
use Rattle.transform_meaning.specs.Texts.{TextMeaning, template_means}
use Rattle.transform_laws.proofs.Lists.{Pairs}
use Rattle.translated_forms.specs.Bodies.{Part, body_of as body_of_parts}
use Rattle.translated_forms.specs.Dispatch.{templates_applied}
use Rattle.translated_forms.specs.Instrs.{grouped_at, orders_at}
use Rattle.translated_forms.specs.Loops.{each_in, sorted}
use Rattle.translated_forms.specs.Making.{copy_of_item, literal_content}
use Rattle.translated_forms.specs.NodeNames.{attribute_source, element_source, name_source, target_source}
use Rattle.translated_forms.specs.Params.{BoundAt}
use Rattle.translated_forms.specs.Places.{Table, carried_at, in_group, looped}
use Rattle.translation.specs.Stands.{attribute_fits, expr_fits, grouping_fits, if_fits, mode_fits}
use Rattle.translation.specs.Stands.{sort_fits, template_fits, looped as looped_stand}
use Rattle.translation.specs.Stands.{grouped as grouped_stand}
use Rattle.lockstep.specs.Numbers.{NumbersTell}
use Rattle.lockstep.specs.Spots.{Spot, grouped_spot, looped_spot, stand_at}
use Rattle.lockstep.proofs.Frame.{Meets}
use Rattle.lockstep.proofs.Making.{AttributeNamed, ElementNamed, TargetNamed}
use Rattle.lockstep.proofs.Parts.{PartMeets}
use Rattle.lockstep.proofs.Passed.{GivenMeets}

-- what fails wherever it is
abbrev pub AlwaysFails : {A : Type 0} → (Env → ℕ → Outcome A) → Type 0
AlwaysFails m = (e : Env) (k : ℕ) → (c : Code) × (m e k ≡ Fails c)

module _ (like : Code → Code → Type 0) (lax : (a b : Code) → like a b) (rel : Relation)
    (carries : IsCarrying like rel) (t : Table) (numbers : NumbersTell t.params) (sheet : Sheet)
    (d : Doors) (q : Program) where
  abbrev here : Spot → Meaning → Expr → Type 0
  here x m e = Meets like lax rel carries t x m (outcome q e)

  abbrev carry : Spot → Expr → Expr
  carry x e = carried_at t x.place e

  -- a name, or one that is always wrong
  abbrev pub ElementNameMeets : Spot → NameMeaning → Option NameSource → Type 0
  ElementNameMeets x m None = AlwaysFails m
  ElementNameMeets x m (Some n) = ElementNamed like lax rel carries t q x m n

  abbrev pub AttributeNameMeets : Spot → NameMeaning → Option NameSource → Type 0
  AttributeNameMeets x m None = AlwaysFails m
  AttributeNameMeets x m (Some n) = AttributeNamed like lax rel carries t q x m n

  abbrev pub TargetMeets : Spot → TextMeaning → Option NameSource → Type 0
  TargetMeets x m None = AlwaysFails m
  TargetMeets x m (Some n) = TargetNamed like lax rel carries t q x m n

  pub record FormsMeet : Type 0 where
    pub element_names : (x : Spot) (n : AvtName Expr) → template_fits (stand_at x) n.text ≡ true →
        is_good_name n ≡ true →
        ElementNameMeets x (element_name_means d.program n) (element_source t.prefixes (carry x) n)
    pub attribute_names : (x : Spot) (n : AvtName Expr) → template_fits (stand_at x) n.text ≡ true →
        is_good_name n ≡ true →
        AttributeNameMeets x (attribute_name_means d.program n) (attribute_source t.prefixes (carry x) n)
    pub targets : (x : Spot) (n : List (AvtPart Expr)) → template_fits (stand_at x) n ≡ true →
        is_good_template n ≡ true →
        TargetMeets x (target_named (template_means d.program n)) (target_source (carry x) n)
    pub literal : (x : Spot) (name : Name) (attributes : List (LiteralAttr Expr)) →
        list_all (attribute_fits (stand_at x)) attributes ≡ true → is_name name ≡ true →
        list_all is_good_attribute attributes ≡ true → (ds : List Doing) (ps : List Part) →
        Pairs (PartMeets like lax rel carries t q x) ds ps →
        here x (literal_made name (map (attribute_means d.program) attributes) (body_of ds))
        (roll-Expr (ElemC (name_source t.prefixes name)
        (literal_content t.prefixes (carry x) attributes (body_of_parts ps))))
    pub copy : (x : Spot) (m : Meaning) (e : Expr) → here x m e →
        here x (copy_made m) (copy_of_item x.place.has_focus e)
    pub each : (x : Spot) (select : Expr) → expr_fits (stand_at x) select ≡ true →
        (sorts : List (Sort Expr)) → list_all (sort_fits (looped_stand (stand_at x))) sorts ≡ true →
        (m : Meaning) (e : Expr) → here (looped_spot x) m e →
        here x (each_of (outcome d.program select) (sorts_mean d.program sorts) m)
        (each_in (carry x select) (orders_at t (looped x.place) sorts) e)
    pub group : (x : Spot) (select : Expr) → expr_fits (stand_at x) select ≡ true →
        (grouping : Grouping Expr Pattern) → grouping_fits (stand_at x) grouping ≡ true →
        (sorts : List (Sort Expr)) → list_all (sort_fits (grouped_stand (stand_at x))) sorts ≡ true →
        (m : Meaning) (e : Expr) → here (grouped_spot x) m e →
        here x (each_group_of (outcome d.program select) (grouping_means d.program grouping)
        (sorts_mean d.program sorts) m)
        (grouped_at t x.place (carry x select) grouping (orders_at t (in_group x.place) sorts) e)
    pub sorted_items : (x : Spot) (m : Meaning) (e : Expr) → here x m e → (sorts : List (Sort Expr)) →
        list_all (sort_fits (looped_stand (stand_at x))) sorts ≡ true →
        here x (sorted_of m (sorts_mean d.program sorts)) (sorted e (orders_at t (looped x.place) sorts))
    pub apply : (x : Spot) (select : Option Expr) → if_fits (stand_at x) select ≡ true →
        (mode : ModeUse) → mode_fits (stand_at x) mode ≡ true → (sorts : List (Sort Expr)) →
        list_all (sort_fits (looped_stand (stand_at x))) sorts ≡ true → (ms : List BoundMeaning)
        (bs : List BoundAt) → Pairs (GivenMeets like lax rel carries t numbers q x) ms bs →
        here x (apply_of sheet.rules d (select_means d.program select) mode
        (sorts_mean d.program sorts) ms)
        (templates_applied t (carry x) x.place select mode (orders_at t (looped x.place) sorts) bs)
