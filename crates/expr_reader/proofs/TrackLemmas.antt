-- Reading token by token.
use Rattle.std.proofs.Common.{◌≡◌, ◌<◌, ℕ, Bool, true, false, List, [], ◌∷◌, refl, sym, ◌∙◌, ap}
use Rattle.std.proofs.Common.{subst, Option, Some, None, option_and_then, Result, Ok}
use Rattle.std.proofs.Common.{Err, IfOk}
use Rattle.expr_reader.specs.TokenNames.{Token}
use Rattle.expr_reader.specs.Terms.{Language}
use Rattle.expr_reader.specs.RawNames.{Raw}
use Rattle.expr_terms.specs.declared.choices.Second.{Second}
use Rattle.expr_terms.specs.Choices.{second_of}
use Rattle.expr_terms.specs.Nest.{raw_nest_of}
use Rattle.expr_grammar.specs.declared.expr_nest.measures.Measure.TheVariants.{Whole}
use Rattle.expr_grammar.specs.Machine.{Frame, advance, finish, run}
use Rattle.expr_reader.specs.declared.readings.Reading.{Reading}
use Rattle.expr_reader.specs.declared.running.ExprParser.{ExprParser}
use Rattle.expr_reader.specs.Outline.{outline, outlines}
use Rattle.expr_reader.specs.Answers.{within, Advanced, Finished}
use Rattle.expr_reader.specs.View.{frames_of}
use Rattle.expr_reader.specs.Tracks.{Follows, Tracks, Led}
use Rattle.expr_reader.proofs.Outline.{advance-outline, finish-outline}
use Rattle.expr_reader.proofs.ClimbLemmas.{reads_end, value_whole, none_outlined}

wrong : {P : Type 0} → true ≡ false → P
wrong e = cc

pub follows_begin : (k : ℕ) (l : Language) (now fs : List Frame) (ts : List Token) → now ≡ fs
    → Follows k l false now fs ts
follows_begin k l now fs ts e =
    record { outlined = ap outline (sym e); exact = λ d. sym e; sinks = λ d. wrong (sym d) }

-- where both lead to
record Found (k : ℕ) (l : Language) (deep : Bool) (new : List Frame) (o : Option (List Frame))
    (ts : List Token) : Type 0 where
  frames : List Frame
  led : o ≡ Some frames
  follows : Follows k l deep new frames ts

some_same : {x y : List Frame} → Some x ≡ Some y → x ≡ y
some_same e = cc

found_at : (k : ℕ) (l : Language) (was deep : Bool) (t : Token) (s : Second)
    (now new fs : List Frame) (ts : List Token) (o : Option (List Frame)) → second_of ts ≡ s
    → Advanced true Whole k was deep l t s now new → Follows k l was now fs (t ∷ ts)
    → advance l t s fs ≡ o → Found k l deep new o ts
found_at k l was deep t s now new fs ts None e a f g =
    absurd (nothing (sym (ap outlines g) ∙ (advance-outline l t s fs now f.outlined
    ∙ a.outlined)))
  where
    nothing : None ≡ Some (outline new) → ⊥
    nothing e = absurd cc
found_at k l was deep t s now new fs ts (Some gs) e a f g =
    record {
      frames = gs;
      led = refl;
      follows = record {
        outlined = some_same (sym (ap outlines g) ∙ (advance-outline l t s fs now f.outlined
            ∙ a.outlined));
        exact = exact was a f;
        sinks = sinks was a f;
      };
    }
  where
    exact : (b : Bool) → Advanced true Whole k b deep l t s now new → Follows k l b now fs (t ∷ ts)
        → deep ≡ false → gs ≡ new
    exact true a f d = wrong (sym (a.stays refl) ∙ d)
    exact false a f d =
        some_same (sym g ∙ (ap (advance l t s) (f.exact refl) ∙ a.exact d))

    along : (w : Raw) → run l ts gs ≡ Some w → run l (t ∷ ts) fs ≡ Some w
    along w r =
        ap (λ z. option_and_then (run l ts) (advance l t z fs)) e
        ∙ (ap (option_and_then (run l ts)) g ∙ r)

    sinks : (b : Bool) → Advanced true Whole k b deep l t s now new → Follows k l b now fs (t ∷ ts)
        → deep ≡ true → (w : Raw) → run l ts gs ≡ Some w → k < raw_nest_of w
    sinks true a f d w r = f.sinks refl w (along w r)
    sinks false a f d w r =
        a.sinks refl d ts w e (subst (λ z. run l (t ∷ ts) z ≡ Some w) (f.exact refl) (along w r))

pub follows_next : (went : Bool) (old new : ExprParser) (t : Token) (s : Second) (fs : List Frame)
    (ts : List Token) → new.limit ≡ old.limit → new.language ≡ old.language → second_of ts ≡ s
    → Advanced went Whole old.limit old.is_deep new.is_deep old.language t s
    (frames_of old.frames.items)
    (frames_of new.frames.items)
    → Tracks old fs (t ∷ ts) → Led went (advance old.language t s fs) new ts
follows_next false old new t s fs ts k l e a f =
    none_outlined _ (advance-outline old.language t s fs (frames_of old.frames.items) f.outlined
    ∙ ap outlines a.outlined)
follows_next true old new t s fs ts k l e a f =
    let x = found_at old.limit old.language old.is_deep new.is_deep t s
    (frames_of old.frames.items)
    (frames_of new.frames.items) fs ts (advance old.language t s fs) e a f refl in
    record {
      frames = x.frames;
      led = x.led;
      tracks =
          subst (λ z. Follows z new.language new.is_deep (frames_of new.frames.items) x.frames ts)
          (sym k)
          (subst (λ z. Follows old.limit z new.is_deep (frames_of new.frames.items) x.frames ts)
          (sym l)
          x.follows);
    }

pub follows_end : (k : ℕ) (l : Language) (deep : Bool) (now fs : List Frame) (x : Reading)
    → Follows k l deep now fs [] → Finished x Whole k deep now → x ≡ within k (finish fs)
follows_end k l deep now fs x f e =
    value_whole k (finish fs) x (reads_end Whole k l deep [] [] fs now x (record {
      outlined = finish-outline fs now f.outlined;
      exact = λ d. ap finish (f.exact d);
      sinks = f.sinks;
    }) refl e)

pub finish_follows : {E : Type 0} (self : ExprParser) (x : Result Reading E)
    → IfOk x (λ y. Finished y Whole self.limit self.is_deep (frames_of self.frames.items))
    → IfOk x (λ y. (fs : List Frame) → Tracks self fs [] → y ≡ within self.limit (finish fs))
finish_follows self (Ok y) e =
    λ fs t. follows_end self.limit self.language self.is_deep
    (frames_of self.frames.items) fs y t e
finish_follows self (Err z) e = tt

pub ruleset tracking = (follows_begin, follows_next, follows_end)
