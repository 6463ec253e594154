-- The steps of a pattern as they are read: each of sound tokens that spell it alone (XSLT 2.0,
-- 5.5.2).
use Rattle.std.specs.Prelude.{◌≡◌, List, [], ◌∷◌, true}
use Rattle.expr_keys.specs.declared.productions.Language.TheVariants.{Xpath as xpath}
use Rattle.expr_keys.specs.declared.productions.Nonterminal.TheVariants as nonterminal
use Rattle.expr_terms.specs.declared.raws.Raw.{Raw}
use Rattle.expr_keys.specs.declared.tokens.Token.{Token}
use Rattle.expr_grammar.specs.Grammar.{Derives}
use Rattle.sound_expressions.specs.SoundForms.Sound.{are_sound}
use Rattle.pattern_forms.specs.PatternShapes.Shapes.{is_step, is_alternative, inner_step}
use Rattle.pattern_syntax.specs.Parts.{barless, steps_in}

-- a step, as it is read of sound tokens
pub record IsStep (v : Raw) : Type 0 where
  pub tokens : List Token
  pub sound : are_sound tokens ≡ true
  pub derived : Derives xpath nonterminal.StepExpr tokens v []
  pub shape : is_step v ≡ true

abbrev pub AreSteps : List Raw → Type 0
AreSteps [] = Unit {0}
AreSteps (v ∷ vs) = IsStep (inner_step v) × AreSteps vs

-- .. and an alternative
pub record IsAlternative (v : Raw) : Type 0 where
  pub shape : is_alternative v ≡ true
  pub steps : AreSteps (steps_in v)

abbrev pub AreAlternatives : List Raw → Type 0
AreAlternatives [] = Unit {0}
AreAlternatives (v ∷ vs) = IsAlternative (barless v) × AreAlternatives vs
