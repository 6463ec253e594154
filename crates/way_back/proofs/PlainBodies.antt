-- Instructions that give no attribute, in a row.
use Rattle.std.proofs.Common.{◌≡◌, ℕ, List, [], ◌++◌, sym, ap, ◌∙◌, subst, map, append_assoc}
use Rattle.std.proofs.lemmas.List.{append-nil, map-append}
use Rattle.std.specs.Prelude.{Bool}
use Rattle.xt_names.specs.declared.names.Name.{Name}
use Rattle.xt_syntax.specs.declared.exprs.Expr.{Expr}
use Rattle.xt_syntax.specs.declared.patterns.Pattern.{Pattern}
use Rattle.xt_sheets.specs.declared.sheets.Sheet.{Sheet}
use Rattle.xt_sheets.specs.declared.instrs.Instr.TheOpen.{Sequence, Chars, Literal}
use Rattle.xt_sheets.specs.declared.instrs.Instr.TheViews.{roll-Instr}
use Rattle.expr_meaning.specs.Outcomes.Outcome.{OnEnds, Anything}
use Rattle.expr_meaning.proofs.OutcomesLemmas.Relations.{every_append, nothing_known}
use Rattle.expr_meaning.proofs.OutcomesLemmas.Steps.{then_on}
use Rattle.expr_meaning.specs.Env.{Env, Meaning}
use Rattle.expr_meaning.specs.Meaning.{outcome}
use Rattle.meaning_laws.specs.SoundValues.Sound.{IsSound}
use Rattle.transform_meaning.specs.Bindings.{Doing, Makes, body_of, one_then}
use Rattle.transform_meaning.specs.Dispatch.{Doors}
use Rattle.transform_meaning.specs.Instrs.{meanings as instr_meanings, steps as instr_steps}
use Rattle.transform_meaning.specs.Instrs.{instr_does, body_does}
use Rattle.transform_meaning.specs.Making as sheet_making
use Rattle.transform_laws.proofs.Rolled.{TheInstr, InstrForm, instr_rolled}
use Rattle.way_back.specs.Forms.{one}
use Rattle.way_back.specs.Places.{IsSame}
use Rattle.way_back.proofs.Plain.{AllPlain, IsPlain}
use Rattle.way_back.proofs.PlainNodes.{new_plain, text_plain}

-- wherever the stylesheet is looked at beside its query
abbrev pub GivesNone : Bool → Meaning → Type 0
GivesNone s m = (a f : Env) → IsSame IsSound s a f → (k : ℕ) → OnEnds AllPlain (m a k)

module _ (sheet : Sheet) (doors : Doors) where
  abbrev pub does : List TheInstr → List Doing
  does body = map (instr_does sheet doors) body

  -- whatever gives no attribute may follow
  abbrev pub NoneIn : Bool → List TheInstr → Type 0
  NoneIn s body = (rest : List Doing) → GivesNone s (body_of rest) → GivesNone s (body_of (does body ++ rest))

  pub one_none : (s : Bool) (x : InstrForm) (m : Meaning) →
      instr_does sheet doors (roll-Instr Expr Pattern x) ≡ Makes m → GivesNone s m → NoneIn s (one x)
  one_none s x m is h rest g =
      subst (λ d. GivesNone s (one_then d (body_of rest))) (sym is) (λ a f at k.
      then_on AllPlain AllPlain (m a k) _ (h a f at k) (λ xs j b.
      then_on AllPlain AllPlain (body_of rest a j) _ (g a f at j)
      (λ ys i c. every_append IsPlain xs ys b c)))

  pub body_none : (s : Bool) (body : List TheInstr) → NoneIn s body → GivesNone s (body_does sheet doors body)
  body_none s body h =
      subst (λ l. GivesNone s (body_of l)) (append-nil (does body)) (h [] (λ a f at k. tt))

  pub nothing_none : (s : Bool) → NoneIn s []
  nothing_none s rest g = g

  pub more_none : (s : Bool) (a b : List TheInstr) → NoneIn s a → NoneIn s b → NoneIn s (a ++ b)
  more_none s a b h g rest r =
      subst (λ l. GivesNone s (body_of l))
      (sym (ap (λ l. l ++ rest) (map-append (instr_does sheet doors) a b)
      ∙ append_assoc (does a) (does b) rest)) (h (does b ++ rest) (g rest r))

  pub leaf_none : (s : Bool) (e : Expr) → GivesNone s (outcome doors.program e) → NoneIn s (one (Sequence e))
  leaf_none s e h =
      one_none s (Sequence e) (outcome doors.program e)
      (instr_rolled instr_meanings (instr_steps sheet doors) (Sequence e)) h

  pub text_none : (s : Bool) (t : List ℕ) → NoneIn s (one (Chars t))
  text_none s t =
      one_none s (Chars t) (sheet_making.text_made t)
      (instr_rolled instr_meanings (instr_steps sheet doors) (Chars t)) (λ a f at k. text_plain t k)

  pub element_none : (s : Bool) (name : Name) (body : List TheInstr) → NoneIn s (one (Literal name [] body))
  element_none s name body =
      one_none s (Literal name [] body) (sheet_making.literal_made name [] (body_does sheet doors body))
      (instr_rolled instr_meanings (instr_steps sheet doors) (Literal name [] body)) (λ a f at k.
      then_on Anything AllPlain (body_does sheet doors body a k) _
      (nothing_known (body_does sheet doors body a k)) (λ xs j u. new_plain name xs j))
