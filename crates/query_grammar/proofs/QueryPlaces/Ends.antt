-- A semicolon is part of no expression, and a closing brace of none that may end before it.
use Rattle.std.proofs.Common.{◌≡◌, Bool, true, false, cond, not, ◌||◌, List, [], ◌∷◌, ◌++◌}
use Rattle.std.proofs.Common.{refl, Option, Some, None}
use Rattle.std.proofs.lemmas.Bool.{and_parts}
use Rattle.std.proofs.lemmas.Option.{none-some}
use Rattle.expr_terms.specs.declared.choices.Second.{Second}
use Rattle.expr_terms.specs.declared.raws.Raw.{Raw}
use Rattle.expr_terms.specs.Raws.{build}
use Rattle.expr_keys.specs.Classes.{fits, begins}
use Rattle.query_grammar.specs.QueryPlaces.TokenNames.{semicolon, close_brace}
use Rattle.query_grammar.specs.QueryPlaces.TokenNames as token
use Rattle.query_grammar.specs.QueryPlaces.Terms.{Language, xpath, xquery, or_level, Nonterminal, level, tail}
use Rattle.query_grammar.specs.QueryPlaces.Terms.{after_root, Symbol, tok, one, maybe, many, longest}
use Rattle.query_grammar.specs.QueryPlaces.Terms.{Production}
use Rattle.expr_grammar.specs.Machine.{Frame, doing, descend, deep, Way, stuck, moved, through}
use Rattle.expr_grammar.specs.Machine.{along, outcome, climb, advance, skips, ended, finish}
use Rattle.query_grammar.specs.QueryPlaces.Places.{IsStart, Reached, awaits_step, begins_operand, wanted}
use Rattle.query_grammar.proofs.QueryPlaces.Apart.{apart, Settled, Formed, formed, is_slash, stops}
use Rattle.xt_names.proofs.BoolLemmas.{never, is_false}

-- a way that leads nowhere else
abbrev Passes : Way → Type 0
Passes stuck = Unit {0}
Passes (moved gs) = ⊥
Passes through = Unit {0}

abbrev Goes : Way → Type 0
Goes stuck = ⊥
Goes (moved gs) = ⊥
Goes through = Unit {0}

-- neither begins anything
semicolon_begins : (l : Language) (n : Nonterminal) (s : Second) (fs : List Frame)
    → descend l deep n (token.key semicolon) s fs ≡ None
unfolding deep
semicolon_begins xpath (level or_level) s fs = refl
semicolon_begins xpath (tail or_level) s fs = refl
semicolon_begins xpath _ s fs = refl
semicolon_begins xquery (level or_level) s fs = refl
semicolon_begins xquery (tail or_level) s fs = refl
semicolon_begins xquery _ s fs = refl

brace_begins : (l : Language) (n : Nonterminal) (s : Second) (fs : List Frame)
    → descend l deep n (token.key close_brace) s fs ≡ None
unfolding deep
brace_begins xpath (level or_level) s fs = refl
brace_begins xpath (tail or_level) s fs = refl
brace_begins xpath _ s fs = refl
brace_begins xquery (level or_level) s fs = refl
brace_begins xquery (tail or_level) s fs = refl
brace_begins xquery _ s fs = refl

semicolon_longest : (n : Nonterminal) → begins n (token.key semicolon) ≡ false
semicolon_longest after_root = refl
semicolon_longest _ = refl

brace_longest : (n : Nonterminal) → begins n (token.key close_brace) ≡ false
brace_longest after_root = refl
brace_longest _ = refl

module _ (l : Language) (s : Second) where
  semicolons : (p : Production) (vs : List Raw) (fs : List Frame) (ss : List Symbol)
      → apart ss ≡ true → Passes (along l (token.key semicolon) s p vs fs ss)
  semicolons p vs fs [] a = tt
  semicolons p vs fs (tok c ∷ ss) a =
      let parts = and_parts (is_slash c || not (awaits_step ss)) _ a in
      let more = and_parts (not (fits c (token.key semicolon))) (apart ss) parts.1 in
      let e = is_false _ more.0 in
      rw e tt
  semicolons p vs fs (one n ∷ ss) a =
      let e = semicolon_begins l n s (doing p vs ss ∷ fs) in rw e tt
  semicolons p vs fs (maybe n ∷ ss) a =
      let e = semicolon_begins l n s (doing p vs ss ∷ fs) in
      let parts = and_parts (not (begins_operand n) || stops ss) _ a in
      let more = and_parts (not (wanted ss false)) (apart ss) parts.1 in
      rw e (semicolons p vs fs ss more.1)
  semicolons p vs fs (many n ∷ ss) a =
      let e = semicolon_begins l n s (doing p vs (many n ∷ ss) ∷ fs) in
      let parts = and_parts (not (begins_operand n)) _ a in
      let more = and_parts (not (wanted ss false)) (apart ss) parts.1 in
      rw e (semicolons p vs fs ss more.1)
  semicolons p vs fs (longest n ∷ ss) a =
      let e = semicolon_longest n in
      let parts = and_parts (not (wanted ss false)) (apart ss) a in
      rw e (semicolons p vs fs ss parts.1)

  passed : (w : Way) (o : Option (List Frame)) → Passes w → o ≡ None → outcome w o ≡ None
  passed stuck o h e = refl
  passed (moved gs) o h e = absurd h
  passed through o h e = e

  climbs : (fs : List Frame) (p : Production) (vs : List Raw) (ss : List Symbol)
      → apart ss ≡ true → Settled fs → climb l (token.key semicolon) s fs p vs ss ≡ None
  climbs [] p vs ss a h = passed _ None (semicolons p vs [] ss a) refl
  climbs (doing q us rs ∷ fs) p vs ss a h =
      passed _ _ (semicolons p vs (doing q us rs ∷ fs) ss a)
      (climbs fs q (us ++ build p vs ∷ []) rs h.1 h.2)

  outside : (fs : List Frame) → Formed fs → advance l (token.key semicolon) s fs ≡ None
  outside [] f = absurd f
  outside (doing p vs ss ∷ fs) f = climbs fs p vs ss f.0 f.1

  braces : (p : Production) (vs : List Raw) (fs : List Frame) (ss : List Symbol)
      → skips ss ≡ true → Goes (along l (token.key close_brace) s p vs fs ss)
  braces p vs fs [] e = tt
  braces p vs fs (tok c ∷ ss) e = never e
  braces p vs fs (one n ∷ ss) e = never e
  braces p vs fs (maybe n ∷ ss) e =
      let f = brace_begins l n s (doing p vs ss ∷ fs) in rw f (braces p vs fs ss e)
  braces p vs fs (many n ∷ ss) e =
      let f = brace_begins l n s (doing p vs (many n ∷ ss) ∷ fs) in rw f (braces p vs fs ss e)
  braces p vs fs (longest n ∷ ss) e =
      let f = brace_longest n in rw f (braces p vs fs ss e)

  gone : (w : Way) (o : Option (List Frame)) → Goes w → o ≡ None → outcome w o ≡ None
  gone stuck o h e = absurd h
  gone (moved gs) o h e = absurd h
  gone through o h e = e

  skipped : (b : Bool) (o : Option Raw) (v : Raw) → cond b o None ≡ Some v → (b ≡ true) ×
      (o ≡ Some v)
  skipped true o v e = (refl, e)
  skipped false o v e = absurd (none-some _ e)

  closes : (fs : List Frame) (p : Production) (vs : List Raw) (ss : List Symbol) (v : Raw)
      → ended fs p vs ss ≡ Some v → climb l (token.key close_brace) s fs p vs ss ≡ None
  closes [] p vs ss v e =
      gone _ None (braces p vs [] ss (skipped (skips ss) _ v e).0) refl
  closes (doing q us rs ∷ fs) p vs ss v e =
      let k = skipped (skips ss) _ v e in
      gone _ _ (braces p vs (doing q us rs ∷ fs) ss k.0)
      (closes fs q (us ++ build p vs ∷ []) rs v k.1)

  pub closed : (fs : List Frame) (v : Raw) → finish fs ≡ Some v
      → advance l (token.key close_brace) s fs ≡ None
  closed [] v e = refl
  closed (doing p vs ss ∷ fs) v e = closes fs p vs ss v e

pub parted : {l : Language} {from : List Frame} (s : Second) (fs : List Frame) → IsStart from
    → Reached l from fs → advance l (token.key semicolon) s fs ≡ None
parted {l = l} s fs i r = outside l s fs (formed i r)
