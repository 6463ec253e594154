-- Targets of processing instructions, fixed or computed.
use Rattle.std.proofs.Common.{◌≡◌, ℕ, List, [], refl, sym, ap, subst}
use Rattle.std.specs.Prelude.{Bool, true, false, ◌&&◌, not, codes, if◌then◌else◌}
use Rattle.std.specs.Prelude.{Option, Some, None, Ok, Err}
use Rattle.std.specs.Str.{bytes_eq, str_to_ascii_lowercase}
use Rattle.std.specs.Prelude.{option_map}
use Rattle.std.specs.Result.{result_ok}
use Rattle.xt_names.specs.Classes.{is_ncname_text}
use Rattle.xt_tree.specs.Sound.{is_xml_in_any_case}
use Rattle.xt_names.specs.declared.codes.Code.{Code}
use Rattle.xt_names.specs.declared.codes.Code.TheVariants.{QueryDynamic, SheetDynamic}
use Rattle.xt_names.specs.declared.codes.QueryDynamicCode.TheVariants.{XQDY0041, XQDY0064}
use Rattle.xt_names.specs.declared.codes.SheetDynamicCode.TheVariants.{XTDE0890}
use Rattle.xt_names.specs.declared.names.Name.{Name}
use Rattle.xt_syntax.specs.declared.exprs.Expr.{Expr}
use Rattle.xt_syntax.specs.declared.exprs.NameSource.{NameSource}
use Rattle.xt_syntax.specs.declared.exprs.Clause.TheOpen.{Computed, Fixed}
use Rattle.xt_syntax.specs.Layers.{name_gives}
use Rattle.expr_meaning.specs.Outcomes.Outcome.{Ends, step_outcome}
use Rattle.expr_meaning.specs.Outcomes.Follow.{Relation, IsCarrying}
use Rattle.expr_meaning.specs.Env.{Env, Program}
use Rattle.expr_meaning.specs.Meaning.{meanings, steps, outcome}
use Rattle.expr_meaning.specs.Names.{target_at, target_of_text}
use Rattle.expr_laws.specs.Carrier.{IsTarget}
use Rattle.expr_laws.proofs.Rolled.{rolled_name}
use Rattle.meaning_laws.specs.SoundValues.Sound.{IsSound}
use Rattle.carry_laws.specs.Seen.{ProgramsCarry}
use Rattle.closed_sheets.specs.Values.{is_good_template}
use Rattle.transform_meaning.specs.Names.{target_name, target_named}
use Rattle.transform_meaning.specs.Texts.{TextMeaning, template_means}
use Rattle.translated_forms.specs.NodeNames.{bare_name}
use Rattle.translated_forms.specs.NodeNames.{computed, target_source, target_spelled, of_spelled}
use Rattle.translated_forms.specs.NodeNames.{name_source}
use Rattle.translated_forms.specs.NodeNames.{of_text as name_of_text}
use Rattle.translated_forms.specs.Places.{Table, carried_at, of_function, setting_at}
use Rattle.translated_forms.specs.Texts.{Template, fixed_text, template_text}
use Rattle.translation.specs.Stands.{template_fits}
use Rattle.lockstep.specs.Helpers.{HelpersCarry}
use Rattle.lockstep.specs.Spots.{Spot, stand_at}
use Rattle.lockstep.proofs.Exprs.{HasLocalNames}
use Rattle.lockstep.proofs.Forms.{AlwaysFails}
use Rattle.xt_names.specs.Allowed.{is_empty_text}
use Rattle.lockstep.proofs.Making.{TargetNamed}
use Rattle.lockstep.proofs.Templates.{fixed_is, template_done}
use Rattle.lockstep.proofs.Texts.{TextMeets, text_then}

module _ (like : Code → Code → Type 0) (lax : (a b : Code) → like a b) (rel : Relation)
    (carries : IsCarrying like rel) (t : Table) (q : Program) where
  -- a text as a target
  text_target : (v : List ℕ) (k : ℕ) → rel (List ℕ) IsTarget (step_outcome (target_name v) k)
      (step_outcome (target_of_text v) k)
  unfolding target_name is_xml_in_any_case
  text_target v k = by (is_ncname_text v) refl (bytes_eq (str_to_ascii_lowercase v) (codes "xml")) refl
    where
      by : (b : Bool) → is_ncname_text v ≡ b → (d : Bool) →
          bytes_eq (str_to_ascii_lowercase v) (codes "xml") ≡ d → rel (List ℕ) IsTarget
          (step_outcome (if b then (if d then Err (SheetDynamic XTDE0890) else Ok v)
          else Err (SheetDynamic XTDE0890)) k)
          (step_outcome (if b then (if d then Err (QueryDynamic XQDY0064) else Ok v)
          else Err (QueryDynamic XQDY0041)) k)
      by true e true f = carries.errors _ _ _ _ (lax _ _)
      by true e false f = carries.ends _ _ v k (e, f)
      by false e d f = carries.errors _ _ _ _ (lax _ _)

  pub computed_target : (x : Spot) (m : TextMeaning) (e : Expr) → TextMeets like lax rel carries t q x m e →
      TargetNamed like lax rel carries t q x (target_named m) (computed e)
  computed_target x m e h a b at k =
      subst (λ n. rel (List ℕ) IsTarget (target_named m a k) (target_at n b k))
      (sym (rolled_name q (Computed e)))
      (text_then like lax rel carries t q (List ℕ) IsTarget (m a k) (outcome q e b k) _ _ (h a b at k)
      (λ v j xml. text_target v j))

  -- a target that is fixed
  abbrev target_of : List ℕ → Name
  target_of v = record { prefix = []; uri = []; local = v }

  abbrev Fixed_target : Spot → TextMeaning → Option NameSource → Type 0
  Fixed_target x m None = AlwaysFails m
  Fixed_target x m (Some n) = TargetNamed like lax rel carries t q x m n

  written_target : (v : List ℕ) (f : Env) (k : ℕ) →
      target_at (name_gives meanings (steps q) (name_source [] (target_of v))) f k
      ≡ step_outcome (target_of_text v) k
  unfolding name_source is_empty_text
  written_target v f k = ap (λ n. target_at n f k) (rolled_name q (Fixed (target_of v)))

  pub fixed_target : (x : Spot) (m : TextMeaning) (v : List ℕ) → ((a : Env) (k : ℕ) → m a k ≡ Ends v k) →
      Fixed_target x (target_named m) (of_spelled [] (target_spelled v))
  unfolding target_name is_xml_in_any_case
  fixed_target x m v is =
      by (is_ncname_text v) refl (bytes_eq (str_to_ascii_lowercase v) (codes "xml")) refl
    where
      by : (b : Bool) → is_ncname_text v ≡ b → (d : Bool) →
          bytes_eq (str_to_ascii_lowercase v) (codes "xml") ≡ d →
          Fixed_target x (target_named m)
          (of_spelled [] (option_map bare_name (result_ok (if b then (if d then Err (SheetDynamic XTDE0890) else Ok v)
          else Err (SheetDynamic XTDE0890)))))
      by true e true f = λ a k. (SheetDynamic XTDE0890, rw (is a k, e, f) refl)
      by true e false f = λ a b at k. rw (is a k, written_target v b k) (text_target v k)
      by false e d f = λ a k. (SheetDynamic XTDE0890, rw (is a k, e) refl)

  module _ (local : HasLocalNames t) (p : Program)
      (programs : ProgramsCarry rel IsSound (setting_at t of_function) p q)
      (helpers : HelpersCarry rel q) where
    pub target_done : (x : Spot) (name : Template) → template_fits (stand_at x) name ≡ true →
        is_good_template name ≡ true →
        Fixed_target x (target_named (template_means p name)) (target_source (carried_at t x.place) name)
    unfolding target_source
    target_done x name fits good = by (fixed_text name) refl
      where
        by : (o : Option (List ℕ)) → fixed_text name ≡ o →
            Fixed_target x (target_named (template_means p name))
            (name_of_text [] target_spelled (template_text (carried_at t x.place) name) o)
        by (Some v) e =
            fixed_target x (template_means p name) v (fixed_is p name good v e).0
        by None e =
            computed_target x (template_means p name) (template_text (carried_at t x.place) name)
            (template_done like lax rel carries t local p q programs helpers x name fits good)
