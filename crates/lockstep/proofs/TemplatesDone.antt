-- The body of a template's function gives what the template gives.
use Rattle.std.proofs.Common.{◌≡◌, ℕ, List, [], ◌∷◌, refl, ap, map}
use Rattle.std.specs.Prelude.{Bool, true, Option, Some, None}
use Rattle.xt_forms.specs.Regular.{every}
use Rattle.xt_names.specs.declared.codes.Code.{Code}
use Rattle.xdm_items.specs.declared.items.Item.{Item}
use Rattle.xt_syntax.specs.declared.exprs.Expr.{Expr}
use Rattle.xt_sheets.specs.declared.sheets.Sheet.{Sheet}
use Rattle.xt_sheets.specs.declared.sheets.Template.{Template}
use Rattle.closed_sheets.specs.Instrs.{is_good_body, is_good_bound}
use Rattle.sheet_closure.specs.StandingParts.Bodies.{body_stands, bound_stands, values_stand}
use Rattle.expr_meaning.specs.Outcomes.Outcome.{and_then, step_outcome, Every}
use Rattle.expr_meaning.specs.Outcomes.Follow.{Relation, IsCarrying}
use Rattle.expr_meaning.specs.Env.{Env, Meaning, Program}
use Rattle.expr_meaning.specs.Meaning.{outcome}
use Rattle.expr_meaning.specs.Queries.{converted_to}
use Rattle.expr_laws.proofs.Steps.{same_step}
use Rattle.meaning_laws.specs.SoundValues.Sound.{IsSound}
use Rattle.transform_meaning.specs.Bindings.{template_of}
use Rattle.transform_meaning.specs.Dispatch.{Doors, Passed}
use Rattle.transform_meaning.specs.Instrs.{body_does, bound_does}
use Rattle.transform_meaning.specs.Templates.{template_does}
use Rattle.transform_laws.proofs.Lists.{Pairs}
use Rattle.transform_laws.proofs.Rolled.{TheBound}
use Rattle.translated_forms.specs.Instrs.{translated_body, translated_bound}
use Rattle.translated_forms.specs.Params.{param_of}
use Rattle.translated_forms.specs.Places.{Place, Table}
use Rattle.translation.specs.Stands.{body_fits, bound_fits, bounds_fit}
use Rattle.translation.specs.Templates.{param_let, param_lets, template_expr}
use Rattle.translated_forms.specs.Forms.{flow_or_body}
use Rattle.lockstep.specs.Doors.{ArePassed, DoorsCarry}
use Rattle.lockstep.specs.Numbers.{NumbersTell}
use Rattle.lockstep.specs.Spots.{Spot, IsAt, stand_at}
use Rattle.lockstep.proofs.Exprs.{HasLocalNames}
use Rattle.lockstep.proofs.Forms.{FormsMeet}
use Rattle.lockstep.proofs.Frame.{frame}
use Rattle.lockstep.proofs.Lets.{flow_or_body_lets, let_of}
use Rattle.lockstep.proofs.Makes.{sheets}
use Rattle.lockstep.proofs.Params.{AllSeen, IsListed, OwnValue, ParamMeets, param_bindings, params_done}
use Rattle.lockstep.proofs.Whole.{Bounded, ValueMeets, whole_body_done, whole_bound_done}
use Rattle.xt_names.proofs.BoolLemmas.{and_second, and_first}

-- the parameters of the template are in the table
abbrev pub AreListed : Table → List TheBound → Type 0
AreListed t [] = Unit {0}
AreListed t (b ∷ bs) = IsListed t.params (param_of (translated_bound t b)) × AreListed t bs

pub record TemplateFits (t : Table) (x : Spot) (template : Template) : Type 0 where
  pub params_fit : bounds_fit template.params (stand_at x) ≡ true
  pub params_good : every (map is_good_bound template.params) ≡ true
  pub params_stand : values_stand (map bound_stands template.params) x.place.has_group ≡ true
  pub listed : AreListed t template.params
  pub body_fit : body_fits template.body (stand_at x) ≡ true
  pub body_good : is_good_body template.body ≡ true
  pub body_stand : body_stands template.body x.place.has_group ≡ true

module _ (like : Code → Code → Type 0) (lax : (a b : Code) → like a b) (rel : Relation)
    (carries : IsCarrying like rel) (t : Table) (local : HasLocalNames t)
    (numbers : NumbersTell t.params) (sheet : Sheet) (d : Doors) (q : Program)
    (doors : DoorsCarry rel t sheet d q)
    (forms : FormsMeet like lax rel carries t numbers sheet d q) where
  own_of : (x : Spot) (needed : Bool) (o : Option Meaning) (e : Expr) →
      ValueMeets like lax rel carries t local numbers sheet d q doors forms needed x o e →
      OwnValue like lax rel carries t q x o e
  own_of x needed None e h = h.1
  own_of x needed (Some m) e h = h

  one_meets : (x : Spot) (b : TheBound) →
      Bounded like lax rel carries t local numbers sheet d q doors forms (bound_stands b).value.required x
      (bound_does sheet d b) (translated_bound t b) → IsListed t.params (param_of (translated_bound t b)) →
      ParamMeets like lax rel carries t q x (bound_does sheet d b) (translated_bound t b)
  one_meets x b h listed = record {
    same = h.0;
    kind = h.1;
    own = h.2;
    value = own_of x (bound_stands b).value.required (bound_does sheet d b).value
        ((translated_bound t b).value x.place) h.3;
    listed = listed;
  }

  all_meet : (x : Spot) (bs : List TheBound) → bounds_fit bs (stand_at x) ≡ true →
      every (map is_good_bound bs) ≡ true → values_stand (map bound_stands bs) x.place.has_group ≡ true →
      AreListed t bs → Pairs (ParamMeets like lax rel carries t q x) (map (bound_does sheet d) bs)
      (map (translated_bound t) bs)
  all_meet x [] f g s l = tt
  all_meet x (b ∷ bs) f g s l =
      let stands = (bound_stands b).value.stands x.place.has_group in
      let more = values_stand (map bound_stands bs) x.place.has_group in (
        one_meets x b (whole_bound_done like lax rel carries t local numbers sheet d q doors forms b x
            (and_first (bound_fits b (stand_at x)) (bounds_fit bs (stand_at x)) f)
            (and_first (is_good_bound b) (every (map is_good_bound bs)) g) (and_first stands more s)) l.0,
        all_meet x bs (and_second (bound_fits b (stand_at x)) (bounds_fit bs (stand_at x)) f)
            (and_second (is_good_bound b) (every (map is_good_bound bs)) g) (and_second stands more s) l.1,
      )

  lets_are : (p : Place) (bs : List TheBound) → param_lets t p bs
      ≡ map (let_of q) (param_bindings like lax rel carries t q p (map (translated_bound t) bs))
  lets_are p [] = refl
  lets_are p (b ∷ bs) = ap (λ cs. param_let t p (translated_bound t b) ∷ cs) (lets_are p bs)

  -- the function's body, converted to its type
  pub template_done : (x : Spot) (template : Template) → TemplateFits t x template → (passed : Passed) →
      ArePassed passed → (a f : Env) → IsAt t x a f → a.state.tunnel ≡ passed.tunnel →
      AllSeen f.locals passed 1 t.params → (k : ℕ) →
      rel (List Item) (Every IsSound)
      (template_of (template_does sheet d template) passed.ordinary a k)
      (and_then (outcome q (template_expr t x.place template) f k)
      (λ xs j. step_outcome (converted_to template.kind xs) j))
  unfolding template_expr
  template_done x template fits passed good a f at there seen k =
      rw (
        ap (λ cs. outcome q (flow_or_body cs (translated_body t template.body x.place)) f k)
            (lets_are x.place template.params),
        flow_or_body_lets q
            (param_bindings like lax rel carries t q x.place (map (translated_bound t) template.params))
            (translated_body t template.body x.place) f k,
      )
      (carries.next _ _ (Every IsSound) (Every IsSound) _ _ _ _
      (params_done like lax rel carries t q x (map (bound_does sheet d) template.params)
      (map (translated_bound t) template.params)
      (all_meet x template.params fits.params_fit fits.params_good fits.params_stand fits.listed)
      passed good (body_does sheet d template.body)
      (outcome q (translated_body t template.body x.place))
      (whole_body_done like lax rel carries t local numbers sheet d q doors forms x template.body
      fits.body_fit fits.body_good fits.body_stand) a f at there seen k)
      (λ xs j g. same_step (frame like lax rel carries t) (Every IsSound) (converted_to template.kind xs)
      ((sheets like lax rel carries t).converted template.kind xs g) j))
