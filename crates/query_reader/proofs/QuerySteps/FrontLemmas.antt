-- The front of a declaration or of the body, and what comes before an expression.
use Rattle.std.proofs.Common.{◌≡◌, ℕ, Bool, true, false, cond, ◌&&◌, codes, List, [], ◌∷◌, ◌++◌}
use Rattle.std.proofs.Common.{refl}
use Rattle.std.proofs.Common.{sym, ◌∙◌, ap, subst, Option, Some, None, option_and_then, option_map}
use Rattle.std.proofs.Common.{arith}
use Rattle.std.proofs.lemmas.Option.{none-some, same_Some}
use Rattle.expr_keys.specs.declared.keys.Key.TheVariants as key
use Rattle.expr_keys.specs.declared.tokens.Token.{Token}
use Rattle.expr_terms.specs.declared.choices.Second.{Second}
use Rattle.expr_keys.specs.declared.productions.Language.TheVariants.{Xquery as xquery}
use Rattle.expr_keys.specs.declared.productions.Production.TheVariants.{WholeExpr as whole_expr}
use Rattle.expr_keys.specs.Tokens.{fits_key}
use Rattle.expr_terms.specs.Choices.{second_of}
use Rattle.expr_keys.specs.Classes.{fits_quoted}
use Rattle.expr_grammar.specs.Machine.{Frame, advance, finish, start}
use Rattle.expr_reader.specs.declared.running.ExprParser.{ExprParser}
use Rattle.expr_reader.specs.declared.readings.Reading.{Reading}
use Rattle.expr_reader.specs.declared.readings.Reading.TheVariants.{Nothing}
use Rattle.expr_reader.specs.Answers.{within}
use Rattle.expr_reader.specs.Tracks.{Tracks}
use Rattle.query_grammar.specs.QueryPlaces.Places.{start_single}
use Rattle.query_grammar.specs.declared.declared.Opening.{Opening}
use Rattle.query_grammar.specs.declared.declared.Opening.TheVariants as opening
use Rattle.query_grammar.specs.declared.declared.Declared.{Declared}
use Rattle.query_grammar.specs.declared.declared.Declared.TheVariants as declared
use Rattle.query_grammar.specs.declared.declared.Typed.{Typed}
use Rattle.query_grammar.specs.declared.declared.Signature.{Signature}
use Rattle.query_grammar.specs.Words.{is_named, text_of, may_open}
use Rattle.query_grammar.specs.Heads.{version_of, namespace_of, default_of, space_of}
use Rattle.query_grammar.specs.Heads.{ordering_of, copying_of, setting_of}
use Rattle.query_grammar.specs.Machine as machine
use Rattle.query_grammar.specs.Machine.{step, held_step, head_step, to_mode, to_end, to_value}
use Rattle.query_grammar.specs.Machine.{to_inner, is_head, whole_of, value_start, inner_start}
use Rattle.query_grammar.specs.Machine.{typed_of, is_outside, but_last, outside_of, ended}
use Rattle.query_reader.specs.declared.query_steps.stages.ReaderState.TheVariants as stage
use Rattle.query_reader.specs.declared.query_steps.stages.StepResult.{StepResult}
use Rattle.query_reader.specs.QuerySteps.Stands.{Holds, all, nest_in, Goes, Ends, Turned, Moves, Held}

-- before the first token of an expression
pub holds_at : (k : ℕ) (r : ExprParser) (fs : List Frame) (ts : List Token) → r.language ≡ xquery
    → r.limit ≡ k → ((us : List Token) → Tracks r fs us) → Holds k r fs ts
holds_at k r fs ts l e t = record { language = l; limit = e; tracks = λ seg b. t seg }

pub front_held : (k : ℕ) (t : Token) (s : Second) (ts : List Token) → may_open t ≡ true
    → second_of ts ≡ s → Goes k (stage.Held t s) (step machine.front t s) ts
front_held k t s ts e f =
    record { mode = machine.held t s; onto = rw e refl; stands = (refl, sym f) }

pub front_body : (k : ℕ) (x : StepResult) (t : Token) (s : Second) (ts : List Token)
    → may_open t ≡ false → Turned k x (to_mode machine.body (advance xquery t s (start whole_expr))) ts
    → Turned k x (step machine.front t s) ts
front_body k x t s ts e h = rw e h

-- both tokens in the body
pub both_none : (k : ℕ) (x : Option ExprParser) (a t : Token) (r s : Second) (ts : List Token)
    → x ≡ None → Moves k x (advance xquery a r (start whole_expr)) (t ∷ ts)
    → held_step a r t s None ≡ machine.refused
both_none k x a t r s ts e m =
    let n = subst (λ z. Moves k z (advance xquery a r (start whole_expr)) (t ∷ ts)) e m in
    ap (λ z. to_mode machine.body (option_and_then (advance xquery t s) z)) n

pub both_some : (k : ℕ) (x : Option ExprParser) (v : ExprParser) (y : StepResult) (a t : Token) (r s : Second)
    (ts : List Token) → x ≡ Some v → Moves k x (advance xquery a r (start whole_expr)) (t ∷ ts)
    → ((fs : List Frame) → Holds k v fs (t ∷ ts)
    → Turned k y (to_mode machine.body (advance xquery t s fs)) ts)
    → Turned k y (held_step a r t s None) ts
both_some k x v y a t r s ts e m f =
    let h : Held k v (advance xquery a r (start whole_expr)) (t ∷ ts) =
    subst (λ z. Moves k z (advance xquery a r (start whole_expr)) (t ∷ ts)) e m in
    subst (λ z. Turned k y (to_mode machine.body (option_and_then (advance xquery t s) z)) ts)
    (sym h.led) (f h.frames h.holds)

pub held_as : (k : ℕ) (x : StepResult) (a t : Token) (r s : Second) (o p : Option Opening)
    (ts : List Token) → o ≡ p → Turned k x (held_step a r t s p) ts
    → Turned k x (held_step a r t s o) ts
held_as k x a t r s o p ts e h = subst (λ z. Turned k x (held_step a r t s z) ts) (sym e) h

pub held_head : (a t : Token) (r s : Second) (o : Option Opening) (x : Opening)
    (us : List Token) → o ≡ Some x → us ≡ []
    → held_step a r t s o ≡ machine.onto (machine.head x us)
held_head a t r s o x us e f =
    ap (held_step a r t s) e ∙ ap (λ z. machine.onto (machine.head x z)) (sym f)

-- the end of the one token
pub end_none : (k : ℕ) (x : Option ExprParser) (a : Token) (r : Second) → x ≡ None
    → Moves k x (advance xquery a r (start whole_expr)) []
    → Nothing ≡ within k (ended (machine.held a r))
end_none k x a r e m =
    let n = subst (λ z. Moves k z (advance xquery a r (start whole_expr)) []) e m in
    ap (λ z. within k (option_and_then finish z)) (sym n)

pub end_some : (k : ℕ) (x : Option ExprParser) (v : ExprParser) (y : Reading) (a : Token) (r : Second)
    → x ≡ Some v → Moves k x (advance xquery a r (start whole_expr)) []
    → ((fs : List Frame) → Tracks v fs [] → y ≡ within v.limit (finish fs))
    → y ≡ within k (ended (machine.held a r))
end_some k x v y a r e m f =
    let h : Held k v (advance xquery a r (start whole_expr)) [] =
    subst (λ z. Moves k z (advance xquery a r (start whole_expr)) []) e m in
    f h.frames (h.holds.tracks [] all)
    ∙ (ap (λ z. within z (finish h.frames)) h.holds.limit
    ∙ ap (λ z. within k (option_and_then finish z)) (sym h.led))

-- declarations without an expression
abbrev IsFlat : Option Declared → Type 0
IsFlat o = (d : Declared) → o ≡ Some d → nest_in d ≡ 0

none_flat : IsFlat None
none_flat d e = absurd (none-some d e)

one_flat : (d : Declared) → nest_in d ≡ 0 → IsFlat (Some d)
one_flat d f e g = ap nest_in (sym (same_Some _ _ g)) ∙ f

cond_flat : (b : Bool) (x y : Option Declared) → IsFlat x → IsFlat y → IsFlat (cond b x y)
cond_flat true x y f g = f
cond_flat false x y f g = g

if_flat : (b : Bool) (d : Declared) → nest_in d ≡ 0 → IsFlat (cond b (Some d) None)
if_flat b d f = cond_flat b (Some d) None (one_flat d f) none_flat

version_flat : (us : List Token) → IsFlat (version_of us)
version_flat [] = none_flat
version_flat (v ∷ []) = if_flat (fits_quoted v) _ refl
version_flat (v ∷ e ∷ []) = none_flat
version_flat (v ∷ e ∷ u ∷ []) = if_flat _ _ refl
version_flat (v ∷ e ∷ u ∷ w ∷ us) = none_flat

namespace_flat : (us : List Token) → IsFlat (namespace_of us)
namespace_flat [] = none_flat
namespace_flat (v ∷ []) = none_flat
namespace_flat (v ∷ e ∷ []) = none_flat
namespace_flat (v ∷ e ∷ u ∷ []) = if_flat _ _ refl
namespace_flat (v ∷ e ∷ u ∷ w ∷ us) = none_flat

default_flat : (us : List Token) → IsFlat (default_of us)
default_flat [] = none_flat
default_flat (v ∷ []) = none_flat
default_flat (v ∷ e ∷ []) = none_flat
default_flat (v ∷ e ∷ u ∷ []) =
    cond_flat (fits_key key.NamespaceWord e && fits_quoted u) _ _
    (cond_flat (fits_key key.ElementWord v) (Some (declared.ElementDefault (text_of u))) _
    (one_flat (declared.ElementDefault (text_of u)) refl)
    (if_flat (is_named (codes "function") v) (declared.FunctionDefault (text_of u)) refl))
    (if_flat (fits_key key.OrderWord v && (fits_key key.EmptyWord e && fits_key key.LeastWord u))
    declared.Setter refl)
default_flat (v ∷ e ∷ u ∷ w ∷ us) = none_flat

space_flat : (us : List Token) → IsFlat (space_of us)
space_flat [] = none_flat
space_flat (v ∷ []) =
    cond_flat (is_named (codes "strip") v) (Some (declared.BoundarySpace false)) _
    (one_flat (declared.BoundarySpace false) refl)
    (if_flat (is_named (codes "preserve") v) (declared.BoundarySpace true) refl)
space_flat (v ∷ e ∷ us) = none_flat

ordering_flat : (us : List Token) → IsFlat (ordering_of us)
ordering_flat [] = none_flat
ordering_flat (v ∷ []) = if_flat _ _ refl
ordering_flat (v ∷ e ∷ us) = none_flat

copying_flat : (us : List Token) → IsFlat (copying_of us)
copying_flat [] = none_flat
copying_flat (v ∷ []) = none_flat
copying_flat (v ∷ e ∷ []) = none_flat
copying_flat (v ∷ e ∷ u ∷ []) = if_flat _ _ refl
copying_flat (v ∷ e ∷ u ∷ w ∷ us) = none_flat

setting_flat : (us : List Token) → IsFlat (setting_of us)
setting_flat [] = none_flat
setting_flat (v ∷ []) = none_flat
setting_flat (v ∷ e ∷ []) = if_flat _ _ refl
setting_flat (v ∷ e ∷ u ∷ us) = none_flat

external_flat : (o : Option Typed) → IsFlat (option_map (λ v. declared.Variable v None) o)
external_flat None = none_flat
external_flat (Some v) = one_flat _ refl

outside_flat : (us : List Token) → IsFlat (outside_of us)
outside_flat us = cond_flat (is_outside us) _ None (external_flat (typed_of (but_last us)))
    none_flat

whole_flat : (o : Opening) (us : List Token) → IsFlat (whole_of o us)
whole_flat opening.Version us = version_flat us
whole_flat opening.Namespace us = namespace_flat us
whole_flat opening.Default us = default_flat us
whole_flat opening.BoundarySpace us = space_flat us
whole_flat opening.Ordering us = ordering_flat us
whole_flat opening.CopyNamespaces us = copying_flat us
whole_flat opening.Setting us = setting_flat us
whole_flat opening.Variable us = outside_flat us
whole_flat opening.Function us = none_flat

pub whole_none : (o : Opening) (us : List Token) (x : Option Declared) → x ≡ whole_of o us
    → x ≡ None → to_end (whole_of o us) ≡ machine.refused
whole_none o us x e f = ap to_end (sym e ∙ f)

pub whole_some : (k : ℕ) (o : Opening) (us : List Token) (x : Option Declared) (d : Declared)
    → x ≡ whole_of o us → x ≡ Some d → Ends k (Some d) (to_end (whole_of o us))
whole_some k o us x d e f =
    let g : whole_of o us ≡ Some d = sym e ∙ f in
    let n = whole_flat o us d g in
    record { declared = d; ends = ap to_end g; kept = (refl, omega (arith, n)) }

-- before an expression
pub value_none : (o : Opening) (us : List Token) (x : Option Typed) → x ≡ value_start o us
    → x ≡ None → to_value (value_start o us) ≡ machine.refused
value_none o us x e f = ap to_value (sym e ∙ f)

pub value_some : (k : ℕ) (o : Opening) (us ts : List Token) (x : Option Typed) (v : Typed)
    (r : ExprParser) → x ≡ value_start o us → x ≡ Some v → r.language ≡ xquery → r.limit ≡ k
    → ((ts : List Token) → Tracks r start_single ts)
    → Goes k (stage.Value v r) (to_value (value_start o us)) ts
value_some k o us ts x v r e f l m t =
    record {
      mode = machine.value v start_single;
      onto = ap to_value (sym e ∙ f);
      stands = record {
        frames = start_single;
        mode = refl;
        holds = holds_at k r start_single ts l m t;
      };
    }

pub inner_none : (o : Opening) (us : List Token) (x : Option Signature) → x ≡ inner_start o us
    → x ≡ None → to_inner (inner_start o us) ≡ machine.refused
inner_none o us x e f = ap to_inner (sym e ∙ f)

pub inner_some : (k : ℕ) (o : Opening) (us ts : List Token) (x : Option Signature) (q : Signature)
    (r : ExprParser) → x ≡ inner_start o us → x ≡ Some q → r.language ≡ xquery → r.limit ≡ k
    → ((ts : List Token) → Tracks r (start whole_expr) ts)
    → Goes k (stage.Inner q r) (to_inner (inner_start o us)) ts
inner_some k o us ts x q r e f l m t =
    record {
      mode = machine.inner q (start whole_expr);
      onto = ap to_inner (sym e ∙ f);
      stands = record {
        frames = start whole_expr;
        mode = refl;
        holds = holds_at k r (start whole_expr) ts l m t;
      };
    }

-- a token of what stands before
pub head_whole : (k : ℕ) (x : StepResult) (o : Opening) (us ts : List Token) (t : Token)
    → is_head t ≡ false → fits_key key.Semicolon t ≡ true
    → Turned k x (to_end (whole_of o us)) ts → Turned k x (head_step o us t) ts
head_whole k x o us ts t a b h = rw (a, b) h

pub head_value : (k : ℕ) (x : StepResult) (o : Opening) (us ts : List Token) (t : Token)
    → is_head t ≡ false → fits_key key.Semicolon t ≡ false → fits_key key.Assign t ≡ true
    → Turned k x (to_value (value_start o us)) ts → Turned k x (head_step o us t) ts
head_value k x o us ts t a b c h = rw (a, b, c) h

pub head_inner : (k : ℕ) (x : StepResult) (o : Opening) (us ts : List Token) (t : Token)
    → is_head t ≡ false → fits_key key.Semicolon t ≡ false → fits_key key.Assign t ≡ false
    → fits_key key.OpenBrace t ≡ true
    → Turned k x (to_inner (inner_start o us)) ts → Turned k x (head_step o us t) ts
head_inner k x o us ts t a b c d h = rw (a, b, c, d) h

pub head_refused : (o : Opening) (us : List Token) (t : Token)
    → is_head t ≡ false → fits_key key.Semicolon t ≡ false → fits_key key.Assign t ≡ false
    → fits_key key.OpenBrace t ≡ false → head_step o us t ≡ machine.refused
head_refused o us t a b c d = rw (a, b, c, d) refl

head_more : (o : Opening) (us : List Token) (t : Token) → is_head t ≡ true
    → head_step o us t ≡ machine.onto (machine.head o (us ++ t ∷ []))
head_more o us t a = rw a refl

pub head_on : (o : Opening) (us vs : List Token) (t : Token) → is_head t ≡ true
    → vs ≡ us ++ t ∷ [] → head_step o us t ≡ machine.onto (machine.head o vs)
head_on o us vs t a e = head_more o us t a ∙ ap (λ z. machine.onto (machine.head o z)) (sym e)

pub ruleset fronts = (front_held)
