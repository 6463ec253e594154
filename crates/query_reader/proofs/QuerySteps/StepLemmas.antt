-- One token of a query.
use Rattle.std.proofs.Common.{◌≡◌, ℕ, Bool, true, false, cond, List, [], ◌∷◌, refl}
use Rattle.std.proofs.Common.{sym, ◌∙◌, ap, subst, Option, Some, None, option_map, is_some}
use Rattle.expr_keys.specs.declared.keys.Key.{Key}
use Rattle.expr_keys.specs.declared.keys.Key.TheVariants as key
use Rattle.expr_keys.specs.declared.tokens.Token.{Token}
use Rattle.expr_keys.specs.declared.tokens.Token.TheVariants as token
use Rattle.expr_terms.specs.declared.choices.Second.{Second}
use Rattle.expr_terms.specs.declared.raws.Raw.{Raw}
use Rattle.expr_keys.specs.declared.productions.Language.TheVariants.{Xquery as xquery}
use Rattle.expr_keys.specs.Tokens.{fits_key}
use Rattle.expr_grammar.specs.Machine.{Frame, advance, finish}
use Rattle.expr_grammar.proofs.Keys.{same}
use Rattle.expr_reader.specs.declared.running.ExprParser.{ExprParser}
use Rattle.expr_reader.specs.declared.readings.Reading.{Reading}
use Rattle.expr_reader.specs.declared.readings.Reading.TheVariants.{Nothing}
use Rattle.expr_reader.specs.Answers.{within}
use Rattle.expr_reader.specs.Tracks.{Tracks}
use Rattle.query_grammar.proofs.QueryPlaces.Ends.{closed}
use Rattle.query_grammar.specs.declared.declared.Declared.{Declared}
use Rattle.query_grammar.specs.declared.declared.Declared.TheVariants as declared
use Rattle.query_grammar.specs.declared.declared.Typed.{Typed}
use Rattle.query_grammar.specs.declared.declared.Signature.{Signature}
use Rattle.query_grammar.specs.Machine as machine
use Rattle.query_grammar.specs.Machine.{Mode, step, to_mode, to_end, to_closed, inner_step}
use Rattle.query_grammar.specs.Machine.{function_of, wants, ended}
use Rattle.query_reader.specs.declared.query_steps.stages.StepResult.{StepResult}
use Rattle.query_reader.specs.QuerySteps.Stands.{all, Holds, Behind, InFrames, Ends, Turned}
use Rattle.query_reader.specs.QuerySteps.Stands.{brace_key}

pub key_is : (k : Key) (t : Token) → fits_key k t ≡ true → t ≡ token.Key k
key_is k (token.Key j) e = ap token.Key (sym (same k j e))
key_is k _ e = absurd cc

pub tracks_now : {k : ℕ} {r : ExprParser} {fs : List Frame} {ts : List Token} → Holds k r fs ts
    → Tracks r fs ts
tracks_now {ts = ts} h = h.tracks ts all

pub value_ends : (k : ℕ) (x : StepResult) (v : Typed) (fs : List Frame) (t : Token) (s : Second)
    (ts : List Token) → fits_key key.Semicolon t ≡ true
    → Turned k x (to_end (option_map (λ w. declared.Variable v (Some w)) (finish fs))) ts
    → Turned k x (step (machine.value v fs) t s) ts
value_ends k x v fs t s ts e h = rw e h

pub value_goes : (k : ℕ) (x : StepResult) (v : Typed) (fs : List Frame) (t : Token) (s : Second)
    (ts : List Token) → fits_key key.Semicolon t ≡ false
    → Turned k x (to_mode (machine.value v) (advance xquery t s fs)) ts
    → Turned k x (step (machine.value v fs) t s) ts
value_goes k x v fs t s ts e h = rw e h

pub at_key : (k : ℕ) (r : ExprParser) (fs : List Frame) (t : Token) (j : Key) (ts : List Token)
    → fits_key j t ≡ true → Holds k r fs (t ∷ ts) → Holds k r fs (token.Key j ∷ ts)
at_key k r fs t j ts e h = subst (λ z. Holds k r fs (z ∷ ts)) (key_is j t e) h

-- in the body of a function
inner_other : (q : Signature) (fs : List Frame) (t : Token) (o : Option (List Frame))
    → fits_key key.CloseBrace t ≡ false → inner_step q fs t o ≡ to_mode (machine.inner q) o
inner_other q fs t None e = rw e refl
inner_other q fs t (Some gs) e = refl

pub inner_goes : (k : ℕ) (x : StepResult) (q : Signature) (fs : List Frame) (t : Token) (s : Second)
    (ts : List Token) → fits_key key.CloseBrace t ≡ false
    → Turned k x (to_mode (machine.inner q) (advance xquery t s fs)) ts
    → Turned k x (step (machine.inner q fs) t s) ts
inner_goes k x q fs t s ts e h =
    subst (λ z. Turned k x z ts) (sym (inner_other q fs t (advance xquery t s fs) e)) h

inner_shut : (q : Signature) (fs : List Frame) (t : Token) (o : Option (List Frame))
    → finish fs ≡ None → inner_step q fs t o ≡ to_mode (machine.inner q) o
inner_shut q fs t None e =
    ap (λ z. cond (fits_key key.CloseBrace t) (to_closed (option_map (function_of q) z))
    machine.refused) e ∙ same_cond (fits_key key.CloseBrace t)
  where
    same_cond : (b : Bool) → cond b machine.refused machine.refused ≡ machine.refused
    same_cond true = refl
    same_cond false = refl
inner_shut q fs t (Some gs) e = refl

no_value : (o : Option Raw) → false ≡ is_some o → o ≡ None
no_value None e = refl
no_value (Some v) e = absurd cc

pub inner_within : (k : ℕ) (x : StepResult) (r : ExprParser) (q : Signature) (fs : List Frame) (t : Token)
    (s : Second) (ts : List Token) → false ≡ is_some (finish fs)
    → Turned k x (to_mode (machine.inner q) (advance xquery t s fs)) ts
    → Turned k x (step (machine.inner q fs) t s) ts
inner_within k x r q fs t s ts e h =
    subst (λ z. Turned k x z ts)
    (sym (inner_shut q fs t (advance xquery t s fs) (no_value (finish fs) e))) h

brace_ends : (q : Signature) (fs : List Frame) (t : Token) (s : Second) (o : Option Raw)
    → finish fs ≡ o → true ≡ is_some o → t ≡ brace_key
    → step (machine.inner q fs) t s ≡ to_closed (option_map (function_of q) (finish fs))
brace_ends q fs t s None f e g = absurd cc
brace_ends q fs t s (Some v) f e g =
    ap (λ z. inner_step q fs z (advance xquery z s fs)) g
    ∙ ap (inner_step q fs brace_key) (closed xquery s fs v f)

pub inner_ends : (k : ℕ) (x : StepResult) (q : Signature) (fs : List Frame) (t : Token) (s : Second)
    (ts : List Token) → fits_key key.CloseBrace t ≡ true → true ≡ is_some (finish fs)
    → Turned k x (to_closed (option_map (function_of q) (finish fs))) ts
    → Turned k x (step (machine.inner q fs) t s) ts
inner_ends k x q fs t s ts e f h =
    subst (λ z. Turned k x z ts)
    (sym (brace_ends q fs t s (finish fs) refl f (key_is key.CloseBrace t e))) h

-- after it
pub closed_ends : (k : ℕ) (o : Option Declared) (m : Mode) (t : Token) (s : Second)
    → fits_key key.Semicolon t ≡ true → Behind k o m → Ends k o (step m t s)
closed_ends k o m t s e b =
    record {
      declared = b.declared;
      ends = ap (λ z. step z t s) b.mode ∙ at b.declared;
      kept = b.kept;
    }
  where
    at : (d : Declared) → step (machine.closed d) t s ≡ machine.ends d
    at d = rw e refl

pub closed_stops : (k : ℕ) (o : Option Declared) (m : Mode) (t : Token) (s : Second)
    → fits_key key.Semicolon t ≡ false → Behind k o m → step m t s ≡ machine.refused
closed_stops k o m t s e b = ap (λ z. step z t s) b.mode ∙ at b.declared
  where
    at : (d : Declared) → step (machine.closed d) t s ≡ machine.refused
    at d = rw e refl

-- any stage
pub in_mode : (k : ℕ) (x : StepResult) (m n : Mode) (t : Token) (s : Second) (ts : List Token)
    → m ≡ n → Turned k x (step n t s) ts → Turned k x (step m t s) ts
in_mode k x m n t s ts e h = subst (λ z. Turned k x (step z t s) ts) (sym e) h

pub in_end : (k : ℕ) (x : Reading) (m n : Mode) → m ≡ n → x ≡ within k (ended n)
    → x ≡ within k (ended m)
in_end k x m n e f = f ∙ ap (λ z. within k (ended z)) (sym e)

pub read_end : (k : ℕ) (x : Reading) (r : ExprParser) (fs : List Frame) → Holds k r fs []
    → ((gs : List Frame) → Tracks r gs [] → x ≡ within r.limit (finish gs))
    → x ≡ within k (finish fs)
read_end k x r fs h f =
    f fs (tracks_now h) ∙ ap (λ z. within z (finish fs)) h.limit

pub end_nothing : (k : ℕ) (m n : Mode) → m ≡ n → ended n ≡ None → Nothing ≡ within k (ended m)
end_nothing k m n e f = ap (within k) (sym (ap ended e ∙ f))

pub held_ends : (k : ℕ) (x : Reading) (m : Mode) (a : Token) (r : Second) → m ≡ machine.held a r
    → x ≡ within k (ended (machine.held a r)) → x ≡ within k (ended m)
held_ends k x m a r e f = in_end k x m (machine.held a r) e f

pub body_ends : (k : ℕ) (x : Reading) (r : ExprParser) (m : Mode) → InFrames k m machine.body r []
    → ((gs : List Frame) → Tracks r gs [] → x ≡ within r.limit (finish gs))
    → x ≡ within k (ended m)
body_ends k x r m g f =
    in_end k x m (machine.body g.frames) g.mode (read_end k x r g.frames g.holds f)

pub at_want : (b : Bool) (m n : Mode) → m ≡ n → b ≡ wants n → b ≡ wants m
at_want b m n e f = f ∙ ap wants (sym e)

pub ruleset steps = (closed_ends, closed_stops, at_want)
