-- The steps and the alternatives of a value, by the production that it is of.
use Rattle.std.proofs.Common.{◌≡◌, List, [], ◌∷◌, Bool, true, false, cond, refl, sym, ap, subst}
use Rattle.std.proofs.Common.{◌∙◌}
use Rattle.std.proofs.lemmas.Bool.{and_parts}
use Rattle.expr_terms.specs.Productions.{passes}
use Rattle.expr_terms.specs.Raws.{build, build_chain, build_parens, is_parens, is_otherwise}
use Rattle.expr_terms.specs.Raws.{is_conditional, as_parens}
use Rattle.expr_keys.specs.declared.productions.Level.TheVariants as level
use Rattle.expr_keys.specs.declared.productions.Production.{Production}
use Rattle.expr_keys.specs.declared.productions.Production.TheVariants as production
use Rattle.expr_terms.specs.declared.raws.Raw.{Raw}
use Rattle.expr_terms.specs.declared.raws.Raw.TheVariants.{Node as node, outs-Node}
use Rattle.expr_terms.specs.declared.raws.Raw.TheViews.{out-Raw}
use Rattle.expr_terms.specs.declared.raws.Raw.TheOpen.{Raw-F, Leaf, Node}
use Rattle.pattern_forms.specs.PatternShapes.Shapes.{is_step, is_step_of, is_step_in, is_after, is_after_of}
use Rattle.pattern_forms.specs.PatternShapes.Shapes.{is_after_in, are_steps, is_alternative, is_alternative_of}
use Rattle.pattern_forms.specs.PatternShapes.Shapes.{is_alternative_in, is_barred, is_barred_in}
use Rattle.pattern_forms.specs.PatternShapes.Shapes.{are_alternatives, is_bar, is_pattern, is_pattern_of}
use Rattle.pattern_forms.specs.PatternShapes.Shapes.{is_pattern_in, inner_of, inner_in, inner_step}
use Rattle.pattern_syntax.specs.Parts.{barless, barless_of, barless_in, alternatives}
use Rattle.pattern_syntax.specs.Parts.{alternatives_of, alternatives_in, steps_in, steps_of}
use Rattle.pattern_syntax.specs.Parts.{steps_within}
use Rattle.xpath_laws.proofs.XpathForms.Good.{built}
use Rattle.closed_texts.specs.PatternCuts.Steps.{IsStep, AreSteps, IsAlternative, AreAlternatives}
use Rattle.xt_names.proofs.BoolLemmas.{never}

-- what is known of a value that is read
pub record Parts (v : Raw) : Type 0 where
  pub alternative : is_alternative v ≡ true → AreSteps (steps_in v)
  pub pattern : is_pattern v ≡ true → AreAlternatives (alternatives v)

-- .. and of one that may be a step
abbrev pub MaybeStep : Raw → Type 0
MaybeStep v = is_step v ≡ true → IsStep v

-- a value that is no part of a pattern
pub record NoPart (v : Raw) : Type 0 where
  pub step : is_step v ≡ false
  pub alternative : is_alternative v ≡ false
  pub pattern : is_pattern v ≡ false

pub none_parts : (v : Raw) → NoPart v → Parts v
none_parts v n = record {
  alternative = λ h. never (sym n.alternative ∙ h);
  pattern = λ h. never (sym n.pattern ∙ h);
}

record NoForm (p : Production) (vs : List Raw) : Type 0 where
  step : is_step_of p vs ≡ false
  alternative : is_alternative_of p vs ≡ false
  pattern : is_pattern_of p vs ≡ false

none_out : (v : Raw) (p : Production) (vs : List Raw) → out-Raw v ≡ Node p vs → NoForm p vs
    → NoPart v
none_out v p vs o n = record {
  step = ap is_step_in o ∙ n.step;
  alternative = ap is_alternative_in o ∙ n.alternative;
  pattern = ap is_pattern_in o ∙ n.pattern;
}

pub no_part : (p : Production) (vs : List Raw) → is_step_of p vs ≡ false
    → is_alternative_of p vs ≡ false → is_pattern_of p vs ≡ false → NoPart (node p vs)
no_part p vs a b c =
    none_out (node p vs) p vs (outs-Node p vs)
    (record { step = a; alternative = b; pattern = c })

pub built_no_part : (p : Production) (vs : List Raw) → is_parens p ≡ false
    → is_otherwise p ≡ false → is_conditional p ≡ false → passes p ≡ false
    → is_step_of p vs ≡ false → is_alternative_of p vs ≡ false → is_pattern_of p vs ≡ false
    → NoPart (build p vs)
built_no_part p vs a b c d e f g = subst NoPart (sym (built p vs a b c d)) (no_part p vs e f g)

-- forms that are none
pub no_parts : (p : Production) (vs : List Raw) → is_step_of p vs ≡ false
    → is_alternative_of p vs ≡ false → is_pattern_of p vs ≡ false → Parts (node p vs)
no_parts p vs a b c = none_parts (node p vs) (no_part p vs a b c)

pub built_no_parts : (p : Production) (vs : List Raw) → is_parens p ≡ false
    → is_otherwise p ≡ false → is_conditional p ≡ false → passes p ≡ false
    → is_step_of p vs ≡ false → is_alternative_of p vs ≡ false → is_pattern_of p vs ≡ false
    → Parts (build p vs)
built_no_parts p vs a b c d e f g =
    none_parts (build p vs) (built_no_part p vs a b c d e f g)

parens_none : (p : Production) (vs : List Raw) → is_parens p ≡ true → NoForm p vs
parens_none production.Parens vs e = record { step = refl; alternative = refl; pattern = refl }
parens_none _ vs e = never e

-- what is in parentheses
in_parens_none : (v : Raw) (f : Raw-F Raw) → out-Raw v ≡ f → as_parens f ≡ true → NoPart v
in_parens_none v (Leaf t) o e = never e
in_parens_none v (Node p vs) o e = none_out v p vs o (parens_none p vs e)

pub parens_no_part : (vs : List Raw) → NoPart (build_parens vs)
parens_no_part [] = no_part production.Parens [] refl refl refl
parens_no_part (v ∷ []) = go (as_parens (out-Raw v)) refl
  where
    go : (b : Bool) → as_parens (out-Raw v) ≡ b
        → NoPart (cond b v (node production.Parens (v ∷ [])))
    go true e = in_parens_none v (out-Raw v) refl e
    go false e = no_part production.Parens (v ∷ []) refl refl refl
parens_no_part (v ∷ w ∷ vs) = no_part production.Parens (v ∷ w ∷ vs) refl refl refl

pub conditional_parts : (vs : List Raw) → Parts (build_chain vs)
conditional_parts [] = no_parts production.IfExpr [] refl refl refl
conditional_parts (v ∷ []) = no_parts production.IfExpr (v ∷ []) refl refl refl
conditional_parts (v ∷ w ∷ []) = no_parts production.IfExpr (v ∷ w ∷ []) refl refl refl
conditional_parts (v ∷ w ∷ x ∷ []) = no_parts production.IfExpr _ refl refl refl
conditional_parts (v ∷ w ∷ x ∷ y ∷ vs) = no_parts production.IfExpr _ refl refl refl

-- one step
abbrev pub is_plain : Production → Bool
is_plain production.AxisStep = true
is_plain production.AttributeStep = true
is_plain production.TestStep = true
is_plain _ = false

pub record Alone (p : Production) (vs : List Raw) (v : Raw) : Type 0 where
  pub steps : steps_of p vs v ≡ v ∷ []
  pub inner : inner_of p vs v ≡ v
  pub parts : alternatives_of p vs v ≡ v ∷ []
  pub bare : barless_of p vs v ≡ v
  pub alternative : is_alternative_of p vs ≡ is_step_of p vs
  pub pattern : is_pattern_of p vs ≡ is_step_of p vs

pub alone : (p : Production) (vs : List Raw) (v : Raw) → is_plain p ≡ true → Alone p vs v
alone production.AxisStep vs v e = record {
  steps = refl;
  inner = refl;
  parts = refl;
  bare = refl;
  alternative = refl;
  pattern = refl;
}
alone production.AttributeStep vs v e = record {
  steps = refl;
  inner = refl;
  parts = refl;
  bare = refl;
  alternative = refl;
  pattern = refl;
}
alone production.TestStep vs v e = record {
  steps = refl;
  inner = refl;
  parts = refl;
  bare = refl;
  alternative = refl;
  pattern = refl;
}
alone _ vs v e = never e

-- an alternative that stands alone
alone_parts : (v : Raw) → alternatives v ≡ v ∷ [] → barless v ≡ v
    → is_pattern v ≡ is_alternative v → (is_alternative v ≡ true → AreSteps (steps_in v))
    → Parts v
alone_parts v a b c g = record {
  alternative = g;
  pattern = λ h. subst AreAlternatives (sym a) (
    subst IsAlternative (sym b)
        (record { shape = sym c ∙ h; steps = g (sym c ∙ h) }),
    tt,
  );
}

pub step_parts : (p : Production) (vs : List Raw) → is_plain p ≡ true → MaybeStep (node p vs)
    → Parts (node p vs)
step_parts p vs e i =
    let v = node p vs in
    let k = alone p vs v e in
    let o = outs-Node p vs in
    let steps : steps_in v ≡ v ∷ [] = ap (steps_within v) o ∙ k.steps in
    let inner : inner_step v ≡ v = ap (inner_in v) o ∙ k.inner in
    let step : is_step v ≡ is_alternative v =
    ap is_step_in o ∙ sym k.alternative ∙ sym (ap is_alternative_in o) in
    let same : is_pattern v ≡ is_alternative v =
    ap is_pattern_in o ∙ k.pattern ∙ sym k.alternative ∙ sym (ap is_alternative_in o) in
    alone_parts v (ap (alternatives_in v) o ∙ k.parts) (ap (barless_in v) o ∙ k.bare) same
    (λ h. subst AreSteps (sym steps) (subst IsStep (sym inner) (i (step ∙ h)), tt))

pub plain_step : (p : Production) (vs : List Raw) → is_plain p ≡ true → is_parens p ≡ false
    → is_otherwise p ≡ false → is_conditional p ≡ false → passes p ≡ false
    → MaybeStep (build p vs) → Parts (build p vs)
plain_step p vs e a b c d i =
    subst (λ w. MaybeStep w → Parts w) (sym (built p vs a b c d)) (step_parts p vs e) i

-- productions whose parts are the steps
pub record Joined (p : Production) (vs : List Raw) (v : Raw) : Type 0 where
  pub steps : steps_of p vs v ≡ vs
  pub parts : alternatives_of p vs v ≡ v ∷ []
  pub bare : barless_of p vs v ≡ v
  pub alternative : is_alternative_of p vs ≡ are_steps vs
  pub pattern : is_pattern_of p vs ≡ are_steps vs

pub joined_parts : (p : Production) (vs : List Raw) → Joined p vs (node p vs)
    → (are_steps vs ≡ true → AreSteps vs) → Parts (node p vs)
joined_parts p vs k g =
    let v = node p vs in
    let o = outs-Node p vs in
    let steps : steps_in v ≡ vs = ap (steps_within v) o ∙ k.steps in
    let same : is_pattern v ≡ is_alternative v =
    ap is_pattern_in o ∙ k.pattern ∙ sym k.alternative ∙ sym (ap is_alternative_in o) in
    alone_parts v (ap (alternatives_in v) o ∙ k.parts) (ap (barless_in v) o ∙ k.bare) same
    (λ h. subst AreSteps (sym steps) (g (sym k.alternative ∙ sym (ap is_alternative_in o) ∙ h)))

-- `/` alone
pub root_parts : Parts (node production.Rooted [])
root_parts =
    let v = node production.Rooted [] in
    let o = outs-Node production.Rooted [] in
    alone_parts v (ap (alternatives_in v) o) (ap (barless_in v) o)
    (ap is_pattern_in o ∙ sym (ap is_alternative_in o))
    (λ h. subst AreSteps (sym (ap (steps_within v) o)) tt)

-- a step behind `/` or `//`
abbrev pub MaybeAfter : Raw → Type 0
MaybeAfter w = is_after w ≡ true → IsStep (inner_step w)

pub behind_slash : (p : Production) (v : Raw) → is_after_of p (v ∷ []) ≡ is_step v
    → inner_of p (v ∷ []) (node p (v ∷ [])) ≡ v → MaybeStep v → MaybeAfter (node p (v ∷ []))
behind_slash p v a b i = λ h.
    let o = outs-Node p (v ∷ []) in
    subst IsStep (sym (ap (inner_in (node p (v ∷ []))) o ∙ b))
    (i (sym a ∙ sym (ap is_after_in o) ∙ h))

-- `|` and an alternative
abbrev pub MaybeBarred : Raw → Type 0
MaybeBarred w = is_barred w ≡ true → IsAlternative (barless w)

pub barred : (b w : Raw) → Parts w
    → MaybeBarred (node (production.OperatorTail level.Union) (b ∷ w ∷ []))
barred b w g = λ h.
    let p = production.OperatorTail level.Union in
    let o = outs-Node p (b ∷ w ∷ []) in
    let k = and_parts (is_bar (out-Raw b)) (is_alternative w) (sym (ap is_barred_in o) ∙ h) in
    subst IsAlternative (sym (ap (barless_in (node p (b ∷ w ∷ []))) o))
    (record { shape = k.1; steps = g.alternative k.1 })

pub unions_parts : (vs : List Raw) → (are_alternatives vs ≡ true → AreAlternatives vs)
    → Parts (node (production.OperatorChain level.Union) vs)
unions_parts vs g =
    let v = node (production.OperatorChain level.Union) vs in
    let o = outs-Node (production.OperatorChain level.Union) vs in
    record {
      alternative = λ h. never (sym (ap is_alternative_in o) ∙ h);
      pattern = λ h. subst AreAlternatives (sym (ap (alternatives_in v) o))
          (g (sym (ap is_pattern_in o) ∙ h));
    }
