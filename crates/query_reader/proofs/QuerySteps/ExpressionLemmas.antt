-- Expressions within a query, token by token.
use Rattle.std.proofs.Common.{◌≡◌, ◌<◌, ◌≤◌, ℕ, Bool, true, false, cond, List, [], ◌∷◌, refl, sym}
use Rattle.std.proofs.Common.{◌∙◌}
use Rattle.std.proofs.Common.{ap, subst, Option, Some, None, option_map, nat_le}
use Rattle.std.proofs.lemmas.Option.{same_Some}
use Rattle.std.proofs.lemmas.Bool.{leb-false, leb-true}
use Rattle.expr_keys.specs.declared.tokens.Token.{Token}
use Rattle.expr_terms.specs.declared.raws.Raw.{Raw}
use Rattle.expr_terms.specs.declared.choices.Second.{Second}
use Rattle.expr_keys.specs.declared.productions.Language.TheVariants.{Xquery as xquery}
use Rattle.expr_terms.specs.Choices.{second_of}
use Rattle.expr_terms.specs.Nest.{raw_nest_of}
use Rattle.expr_grammar.specs.Machine.{Frame, advance, finish}
use Rattle.expr_reader.specs.declared.running.ExprParser.{ExprParser}
use Rattle.expr_reader.specs.declared.readings.Reading.{Reading}
use Rattle.expr_reader.specs.declared.readings.Reading.TheVariants.{Value, Nothing, TooDeep}
use Rattle.expr_reader.specs.Answers.{within}
use Rattle.expr_reader.specs.Tracks.{Tracks, Leads, Led}
use Rattle.query_grammar.specs.declared.declared.Declared.{Declared}
use Rattle.query_grammar.specs.declared.declared.Declared.TheVariants as declared
use Rattle.query_grammar.specs.declared.declared.Typed.{Typed}
use Rattle.query_grammar.specs.declared.declared.Signature.{Signature}
use Rattle.query_grammar.specs.Prolog.{here, there}
use Rattle.query_grammar.specs.Machine as machine
use Rattle.query_grammar.specs.Machine.{Mode, to_mode, to_end, to_closed, function_of}
use Rattle.query_grammar.proofs.Residue.{second_semicolon, second_brace}
use Rattle.query_reader.specs.declared.query_steps.stages.ReaderState.TheVariants as stage
use Rattle.query_reader.specs.declared.query_steps.stages.StepResult.TheVariants as turn
use Rattle.query_reader.specs.QuerySteps.Stands.{Before, all, semicolon, brace, Holds, IsKept, Ends}
use Rattle.query_reader.specs.QuerySteps.Stands.{Goes, Turned, Held, semicolon_key, brace_key}

second_before : {seg ts : List Token} → Before seg ts → second_of seg ≡ second_of ts
second_before all = refl
second_before (semicolon c) = sym (second_semicolon c)
second_before (brace c) = sym (second_brace c)

before_token : {seg ts : List Token} (t : Token) → Before seg ts → Before (t ∷ seg) (t ∷ ts)
before_token t all = all
before_token t (semicolon c) = semicolon (there c)
before_token t (brace c) = brace (there c)

-- what the reader promises of one token
abbrev pub Advances : Bool → ExprParser → ExprParser → Token → Second → Type 0
Advances went old new t s =
    (fs : List Frame) (ts : List Token) → second_of ts ≡ s → Tracks old fs (t ∷ ts)
    → Led went (advance old.language t s fs) new ts

pub moves_none : (k : ℕ) (old new : ExprParser) (t : Token) (s : Second) (fs : List Frame)
    (ts : List Token) → Advances false old new t s → second_of ts ≡ s → Holds k old fs (t ∷ ts)
    → advance xquery t s fs ≡ None
moves_none k old new t s fs ts a e h =
    subst (λ z. advance z t s fs ≡ None) h.language (a fs ts e (h.tracks (t ∷ ts) all))

same_frames : (r : ExprParser) (seg : List Token) (gs : List Frame) (o : Option (List Frame))
    → o ≡ Some gs → Leads o r seg → Tracks r gs seg
same_frames r seg gs o e l =
    subst (λ z. Tracks r z seg) (same_Some _ _ (sym l.led ∙ e)) l.tracks

pub moves_some : (k : ℕ) (old new : ExprParser) (t : Token) (s : Second) (fs : List Frame)
    (ts : List Token) → Advances true old new t s → new.language ≡ old.language
    → new.limit ≡ old.limit → second_of ts ≡ s → Holds k old fs (t ∷ ts)
    → Held k new (advance xquery t s fs) ts
moves_some k old new t s fs ts a l m e h =
    let x = a fs ts e (h.tracks (t ∷ ts) all) in
    record {
      frames = x.frames;
      led = subst (λ z. advance z t s fs ≡ Some x.frames) h.language x.led;
      holds = record {
        language = l ∙ h.language;
        limit = m ∙ h.limit;
        tracks =
            λ seg b. same_frames new seg x.frames (advance old.language t s fs) x.led
            (a fs seg (second_before b ∙ e) (h.tracks (t ∷ seg) (before_token t b)));
      };
    }

pub frames_none : (k : ℕ) (m : List Frame → Mode) (o : Option (List Frame)) (ts : List Token)
    → o ≡ None → Turned k turn.Refused (to_mode m o) ts
frames_none k m o ts e = ap (to_mode m) e

pub frames_body : (k : ℕ) (r : ExprParser) (o : Option (List Frame)) (ts : List Token) → Held k r o ts
    → Goes k (stage.Body r) (to_mode machine.body o) ts
frames_body k r o ts h =
    record {
      mode = machine.body h.frames;
      onto = ap (to_mode machine.body) h.led;
      stands = record { frames = h.frames; mode = refl; holds = h.holds };
    }

pub frames_value : (k : ℕ) (n : Typed) (r : ExprParser) (o : Option (List Frame)) (ts : List Token)
    → Held k r o ts → Goes k (stage.Value n r) (to_mode (machine.value n) o) ts
frames_value k n r o ts h =
    record {
      mode = machine.value n h.frames;
      onto = ap (to_mode (machine.value n)) h.led;
      stands = record { frames = h.frames; mode = refl; holds = h.holds };
    }

pub frames_inner : (k : ℕ) (q : Signature) (r : ExprParser) (o : Option (List Frame))
    (ts : List Token) → Held k r o ts → Goes k (stage.Inner q r) (to_mode (machine.inner q) o) ts
frames_inner k q r o ts h =
    record {
      mode = machine.inner q h.frames;
      onto = ap (to_mode (machine.inner q)) h.led;
      stands = record { frames = h.frames; mode = refl; holds = h.holds };
    }

-- the end of an expression
abbrev pub Ended : Reading → ExprParser → Type 0
Ended x r = (fs : List Frame) → Tracks r fs [] → x ≡ within r.limit (finish fs)

pub nothing_of : (k : ℕ) (o : Option Raw) → Nothing ≡ within k o → o ≡ None
nothing_of k None e = refl
nothing_of k (Some w) e = go (nat_le (raw_nest_of w) k) e
  where
    go : (b : Bool) → Nothing ≡ cond b (Value w) TooDeep → Some w ≡ None
    go true e = absurd cc
    go false e = absurd cc

pub record Shallow (k : ℕ) (o : Option Raw) (v : Raw) : Type 0 where
  pub is : o ≡ Some v
  pub nests : raw_nest_of v ≤ k

pub value_of : (k : ℕ) (o : Option Raw) (v : Raw) → Value v ≡ within k o → Shallow k o v
value_of k None v e = absurd cc
value_of k (Some w) v e = go (nat_le (raw_nest_of w) k) refl e
  where
    same : {v w : Raw} → Value v ≡ Value w → w ≡ v
    same e = cc

    go : (b : Bool) → nat_le (raw_nest_of w) k ≡ b → Value v ≡ cond b (Value w) TooDeep
        → Shallow k (Some w) v
    go true f e = record {
      is = ap Some (same e);
      nests = subst (λ z. raw_nest_of z ≤ k) (same e) (leb-true _ _ f);
    }
    go false f e = absurd cc

pub record Deeper (k : ℕ) (o : Option Raw) : Type 0 where
  pub value : Raw
  pub is : o ≡ Some value
  pub nests : k < raw_nest_of value

pub deep_of : (k : ℕ) (o : Option Raw) → TooDeep ≡ within k o → Deeper k o
deep_of k None e = absurd cc
deep_of k (Some w) e = go (nat_le (raw_nest_of w) k) refl e
  where
    go : (b : Bool) → nat_le (raw_nest_of w) k ≡ b → TooDeep ≡ cond b (Value w) TooDeep
        → Deeper k (Some w)
    go true f e = absurd cc
    go false f e = record { value = w; is = refl; nests = leb-false _ _ f }

ends_at : {x : Reading} {k : ℕ} {r : ExprParser} {fs : List Frame} {ts : List Token} → Ended x r
    → Holds k r fs ts → Before [] ts → x ≡ within k (finish fs)
ends_at {x = x} {fs = fs} e h b =
    subst (λ z. x ≡ within z (finish fs)) h.limit (e fs (h.tracks [] b))

pub value_nothing : (k : ℕ) (r : ExprParser) (n : Typed) (fs : List Frame) (ts : List Token)
    → Ended Nothing r → Holds k r fs (semicolon_key ∷ ts)
    → to_end (option_map (λ w. declared.Variable n (Some w)) (finish fs)) ≡ machine.refused
value_nothing k r n fs ts e h =
    ap (λ z. to_end (option_map (λ w. declared.Variable n (Some w)) z))
    (nothing_of k (finish fs) (ends_at e h (semicolon here)))

pub value_value : (k : ℕ) (r : ExprParser) (n : Typed) (v : Raw) (fs : List Frame) (ts : List Token)
    → Ended (Value v) r → Holds k r fs (semicolon_key ∷ ts)
    → Ends k (Some (declared.Variable n (Some v)))
    (to_end (option_map (λ w. declared.Variable n (Some w)) (finish fs)))
value_value k r n v fs ts e h =
    let s = value_of k (finish fs) v (ends_at e h (semicolon here)) in
    record {
      declared = declared.Variable n (Some v);
      ends = ap (λ z. to_end (option_map (λ w. declared.Variable n (Some w)) z)) s.is;
      kept = (refl, s.nests);
    }

pub value_deep : (k : ℕ) (r : ExprParser) (n : Typed) (fs : List Frame) (ts : List Token)
    → Ended TooDeep r → Holds k r fs (semicolon_key ∷ ts)
    → Ends k None (to_end (option_map (λ w. declared.Variable n (Some w)) (finish fs)))
value_deep k r n fs ts e h =
    let d = deep_of k (finish fs) (ends_at e h (semicolon here)) in
    record {
      declared = declared.Variable n (Some d.value);
      ends = ap (λ z. to_end (option_map (λ w. declared.Variable n (Some w)) z)) d.is;
      kept = d.nests;
    }

pub inner_nothing : (k : ℕ) (r : ExprParser) (q : Signature) (fs : List Frame) (ts : List Token)
    → Ended Nothing r → Holds k r fs (brace_key ∷ ts)
    → to_closed (option_map (function_of q) (finish fs)) ≡ machine.refused
inner_nothing k r q fs ts e h =
    ap (λ z. to_closed (option_map (function_of q) z))
    (nothing_of k (finish fs) (ends_at e h (brace here)))

closes : (k : ℕ) (q : Signature) (w : Raw) (o : Option Raw) (x : Option Declared) (ts : List Token)
    → o ≡ Some w → IsKept k x (function_of q w)
    → Goes k (stage.Closed x) (to_closed (option_map (function_of q) o)) ts
closes k q w o x ts e f =
    record {
      mode = machine.closed (function_of q w);
      onto = ap (λ z. to_closed (option_map (function_of q) z)) e;
      stands = record { declared = function_of q w; mode = refl; kept = f };
    }

pub inner_value : (k : ℕ) (r : ExprParser) (q : Signature) (v : Raw) (fs : List Frame)
    (ts : List Token) → Ended (Value v) r → Holds k r fs (brace_key ∷ ts)
    → Goes k (stage.Closed (Some (function_of q v)))
    (to_closed (option_map (function_of q) (finish fs))) ts
inner_value k r q v fs ts e h =
    let s = value_of k (finish fs) v (ends_at e h (brace here)) in
    closes k q v (finish fs) (Some (function_of q v)) ts s.is (refl, s.nests)

pub inner_deep : (k : ℕ) (r : ExprParser) (q : Signature) (fs : List Frame) (ts : List Token)
    → Ended TooDeep r → Holds k r fs (brace_key ∷ ts)
    → Goes k (stage.Closed None) (to_closed (option_map (function_of q) (finish fs))) ts
inner_deep k r q fs ts e h =
    let d = deep_of k (finish fs) (ends_at e h (brace here)) in
    closes k q d.value (finish fs) None ts d.is d.nests

pub ruleset expressions = (
  moves_none,
  moves_some,
  frames_none,
  frames_body,
  frames_value,
  frames_inner,
  value_nothing,
  value_value,
  value_deep,
  inner_nothing,
  inner_value,
  inner_deep,
)
