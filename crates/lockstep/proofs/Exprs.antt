-- Expressions of an instruction do in the query what they do in the stylesheet.
use Rattle.std.proofs.Common.{◌≡◌, ℕ, List}
use Rattle.std.specs.Prelude.{true}
use Rattle.xt_names.specs.declared.codes.Code.{Code}
use Rattle.xt_syntax.specs.declared.exprs.Expr.{Expr}
use Rattle.expr_meaning.specs.Outcomes.Follow.{Relation, IsCarrying}
use Rattle.expr_meaning.specs.Env.{Program}
use Rattle.expr_meaning.specs.Meaning.{outcome}
use Rattle.meaning_laws.specs.SoundValues.Sound.{IsSound}
use Rattle.meaning_laws.proofs.SoundFunctions.Kept.{values_kept}
use Rattle.carried_exprs.specs.Sights.{local_uri, named}
use Rattle.carried_exprs.specs.Carried.{carried}
use Rattle.carry_laws.specs.Seen.{ProgramsCarry}
use Rattle.carry_laws.proofs.Whole.{whole_carried}
use Rattle.translated_forms.specs.Places.{Place, Table, setting_at, sight_at, carried_at, of_function}
use Rattle.translated_forms.specs.Places.{grouping_setting}
use Rattle.translation.specs.Stands.{expr_fits, key_fits}
use Rattle.lockstep.specs.Spots.{Spot, stand_at, looped_spot}
use Rattle.lockstep.proofs.Frame.{Meets}

-- the functions of keys are those of the translation
abbrev pub HasLocalNames : Table → Type 0
HasLocalNames t = (name : List ℕ) → (t.keys name).uri ≡ local_uri

module _ (like : Code → Code → Type 0) (lax : (a b : Code) → like a b) (rel : Relation)
    (carries : IsCarrying like rel) (t : Table) (local : HasLocalNames t) (p q : Program)
    (programs : ProgramsCarry rel IsSound (setting_at t of_function) p q) where
  programs_at : (x : Place) → ProgramsCarry rel IsSound (setting_at t x) p q
  programs_at x = record {
    calls = programs.calls;
    keys = programs.keys;
    no_item = programs.no_item;
    documents = programs.documents;
    documents_known = programs.documents_known;
    globals = programs.globals;
    globals_known = programs.globals_known;
  }

  -- .. where no function of the stylesheet is called
  grouping_programs : (x : Place) → ProgramsCarry rel IsSound (grouping_setting t x) p q
  grouping_programs x = record {
    calls = λ name own. absurd cc;
    keys = programs.keys;
    no_item = programs.no_item;
    documents = programs.documents;
    documents_known = programs.documents_known;
    globals = programs.globals;
    globals_known = programs.globals_known;
  }

  pub expr_done : (x : Spot) (e : Expr) → expr_fits (stand_at x) e ≡ true →
      Meets like lax rel carries t x (outcome p e) (outcome q (carried_at t x.place e))
  expr_done x e fits a b at k =
      whole_carried like lax rel carries IsSound values_kept (setting_at t x.place) p q
      (programs_at x.place) local (λ text h. h) e fits (sight_at x.place) a b at.seen k

  -- a grouping key, at an item
  pub key_done : (x : Spot) (e : Expr) → key_fits (stand_at (looped_spot x)) e ≡ true →
      Meets like lax rel carries t (looped_spot x) (outcome p e)
      (outcome q (carried (grouping_setting t (looped_spot x).place) e named))
  key_done x e fits a b at k =
      whole_carried like lax rel carries IsSound values_kept
      (grouping_setting t (looped_spot x).place) p q (grouping_programs (looped_spot x).place) local
      (λ text h. h) e fits named a b
      (record {
        locals = at.seen.locals;
        known = at.seen.known;
        focus = at.seen.focus;
        current = at.seen.current;
        group = at.seen.group;
      }) k
