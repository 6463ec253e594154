-- Values of attributes that break no rule.
use Rattle.std.proofs.Common.{◌≡◌, ℕ, List, [], ◌∷◌, Bool, true, false, cond, not, ◌&&◌, ◌||◌}
use Rattle.std.proofs.Common.{Option, Some, None, refl, ap}
use Rattle.std.specs.List.{list_all}
use Rattle.std.specs.Prelude.{is_some}
use Rattle.xt_names.specs.Classes.{is_xml_text}
use Rattle.xt_names.specs.declared.codes.SheetStaticCode.{SheetStaticCode}
use Rattle.xt_syntax.specs.declared.exprs.Expr.{Expr}
use Rattle.xt_tree.specs.declared.attributes.Attribute.{Attribute}
use Rattle.xt_sheets.specs.declared.values.AvtPart.{AvtPart}
use Rattle.closed_queries.specs.Closed.{is_good_kind}
use Rattle.closed_sheets.specs.Values.{is_sheet_expr, if_sheet_expr, is_good_template}
use Rattle.closed_sheets.specs.Values.{if_good_template, is_good_binding}
use Rattle.sheet_heads.specs.Attributes.{optional_faults, optional_value, needed_faults}
use Rattle.sheet_heads.specs.Attributes.{needed_value}
use Rattle.closed_texts.specs.SheetLanguage.Language.{expr_faults, expr_value, patterns_faults, patterns_value}
use Rattle.closed_texts.specs.SheetLanguage.Language.{type_faults, type_value, sheet_reading}
use Rattle.sheet_table.specs.Attributes.{attribute, has, is_named}
use Rattle.sheet_values.specs.SheetTexts.Templates.{template_faults, template_value}
use Rattle.sheet_values.specs.declared.sheet_texts.places.StaticContext.{StaticContext}
use Rattle.sheet_values.specs.Rules.{broken}
use Rattle.closed_texts.proofs.SheetLaws.Types.{types_good}
use Rattle.sound_expressions.specs.SoundForms.Sound.{SoundBindings}
use Rattle.sheet_closure.specs.StandingParts.Calls.{expr_stands}
use Rattle.sheet_closure.specs.StandingParts.Values.{if_expr_stands, template_stands, if_template_stands}
use Rattle.xpath_laws.proofs.BindingLaws.Bindings.{bindings_sound}
use Rattle.closed_texts.proofs.ClosedExpressions.Expressions.{expr_closed}
use Rattle.closed_texts.proofs.ClosedExpressions.Templates.{template_closed}
use Rattle.closed_texts.proofs.ClosedPatterns.Texts.{patterns_closed}
use Rattle.closed_texts.proofs.ClosedPatterns.Patterns.{GoodPatterns}
use Rattle.closed_parts.proofs.ClosedHeads.Nodes.{IfText}

-- what is known where a text stands
pub record GoodPlace (p : StaticContext) : Type 0 where
  pub bound : list_all is_good_binding p.bound ≡ true

pub sound_place : (p : StaticContext) → GoodPlace p → SoundBindings p.bound
sound_place p g = bindings_sound p.bound g.bound

-- a rule that is not broken
pub not_broken : (code : SheetStaticCode) (b : Bool) → broken code b ≡ [] → b ≡ false
not_broken code true e = absurd cc
not_broken code false e = refl

-- .. such as that not both stand
pub one_alone : (a b : Bool) → (a && b) ≡ false → (not a || not b) ≡ true
one_alone true b h = ap not h
one_alone false b h = refl

module _ (p : StaticContext) where
  pub record ClosedExpr (e : Expr) : Type 0 where
    pub good : is_sheet_expr e ≡ true
    pub stands : expr_stands p.in_group e ≡ true

  pub record ClosedMaybe (e : Option Expr) : Type 0 where
    pub good : if_sheet_expr e ≡ true
    pub stands : if_expr_stands p.in_group e ≡ true

  pub record ClosedAvt (t : List (AvtPart Expr)) : Type 0 where
    pub good : is_good_template t ≡ true
    pub stands : template_stands p.in_group t ≡ true

  pub record ClosedMaybeAvt (t : Option (List (AvtPart Expr))) : Type 0 where
    pub good : if_good_template t ≡ true
    pub stands : if_template_stands p.in_group t ≡ true

module _ (p : StaticContext) (g : GoodPlace p) where
  pub closed_text : (text : List ℕ) → expr_faults p text ≡ [] → ClosedExpr p (expr_value p text)
  closed_text text f =
      let c = expr_closed p text (sound_place p g) f in
      record { good = c.good; stands = c.stands }

  pub needed_expr : (o : Option (List ℕ)) → needed_faults (expr_faults p) o ≡ []
      → ClosedExpr p (needed_value (expr_value p) o)
  needed_expr None f = absurd cc
  needed_expr (Some text) f = closed_text text f

  pub optional_expr : (o : Option (List ℕ)) → optional_faults (expr_faults p) o ≡ []
      → ClosedMaybe p (optional_value (expr_value p) o)
  unfolding if_sheet_expr if_expr_stands
  optional_expr None f = record { good = refl; stands = refl }
  optional_expr (Some text) f =
      let c = closed_text text f in record { good = c.good; stands = c.stands }

  pub avt_closed : (text : List ℕ) → is_xml_text text ≡ true
      → template_faults sheet_reading p text ≡ []
      → ClosedAvt p (template_value sheet_reading p text)
  avt_closed text h f =
      let c = template_closed p (sound_place p g) text h f in
      record { good = c.good; stands = c.stands }

  pub needed_avt : (o : Option (List ℕ)) → IfText o
      → needed_faults (template_faults sheet_reading p) o ≡ []
      → ClosedAvt p (needed_value (template_value sheet_reading p) o)
  needed_avt None h f = absurd cc
  needed_avt (Some text) h f = avt_closed text h f

  pub optional_avt : (o : Option (List ℕ)) → IfText o
      → optional_faults (template_faults sheet_reading p) o ≡ []
      → ClosedMaybeAvt p (optional_value (template_value sheet_reading p) o)
  unfolding if_good_template if_template_stands
  optional_avt None h f = record { good = refl; stands = refl }
  optional_avt (Some text) h f =
      let c = avt_closed text h f in record { good = c.good; stands = c.stands }

  pub optional_type : (o : Option (List ℕ)) → optional_faults (type_faults p) o ≡ []
      → is_good_kind (optional_value (type_value p) o) ≡ true
  unfolding is_good_kind
  optional_type None f = refl
  optional_type (Some text) f = types_good p text (sound_place p g) f

  pub needed_patterns : (o : Option (List ℕ)) → needed_faults (patterns_faults p) o ≡ []
      → GoodPatterns (needed_value (patterns_value p) o)
  needed_patterns None f = absurd cc
  needed_patterns (Some text) f = patterns_closed p text (sound_place p g) f

-- an attribute stands exactly where it has a text
pub has_text : (attributes : List Attribute) (local : List ℕ)
    → has attributes local ≡ is_some (attribute attributes local)
has_text [] local = refl
has_text (a ∷ more) local = go (is_named local a) (has_text more local)
  where
    go : (b : Bool) → has more local ≡ is_some (attribute more local)
        → (b || has more local) ≡ is_some (cond b (Some a.value) (attribute more local))
    go true h = refl
    go false h = h
