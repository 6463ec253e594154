-- Wherever an operand may come next, `<` may not, since the parts of each production are apart.
use Rattle.std.proofs.Common.{◌≡◌, ◌⊎◌, inl, inr, ℕ, zero, suc, Bool, true, false, cond, not}
use Rattle.std.proofs.Common.{◌&&◌, ◌||◌, List, [], ◌∷◌, ◌++◌, refl, sym, ◌∙◌, ap, subst}
use Rattle.std.proofs.Common.{Option, Some, None, is_some}
use Rattle.std.proofs.lemmas.Bool.{and_parts, or_cases}
use Rattle.std.proofs.lemmas.Option.{none-some, same_Some}
use Rattle.expr_terms.specs.declared.choices.Second.{Second}
use Rattle.expr_terms.specs.declared.raws.Raw.{Raw}
use Rattle.expr_terms.specs.Raws.{keep, build}
use Rattle.expr_keys.specs.Classes.{fits, begins}
use Rattle.expr_terms.specs.Productions.{body, speaks}
use Rattle.expr_terms.specs.Choices.{choose, second_of}
use Rattle.query_grammar.specs.QueryPlaces.TokenNames.{Token, slash, less, semicolon}
use Rattle.query_grammar.specs.QueryPlaces.TokenNames as token
use Rattle.query_grammar.specs.QueryPlaces.Terms.{Language, xquery, or_level, Nonterminal, level, tail, Class, key}
use Rattle.query_grammar.specs.QueryPlaces.Terms.{start_tag_open}
use Rattle.query_grammar.specs.QueryPlaces.Terms.{after_root, Symbol, tok, one, maybe, many, longest}
use Rattle.query_grammar.specs.QueryPlaces.Terms.{Production}
use Rattle.query_grammar.specs.QueryPlaces.Terms.{operator_chain, operator_tail}
use Rattle.expr_grammar.specs.Machine.{Frame, doing, entered, picked, descend, deep}
use Rattle.expr_grammar.specs.Machine.{Way, stuck, moved, through, or_else, along, outcome}
use Rattle.expr_grammar.specs.Machine.{climb, advance}
use Rattle.expr_grammar.proofs.Tables.{is_key}
use Rattle.query_grammar.specs.QueryPlaces.Places.{begins_operand, is_outer, wanted, wants_operand}
use Rattle.query_grammar.specs.QueryPlaces.Places.{awaits_step}
use Rattle.query_grammar.specs.QueryPlaces.Places.{is_lone_slash, Reached, began, onward}
use Rattle.query_grammar.specs.QueryPlaces.Places.{IsStart, production, single_alone}
use Rattle.xt_names.proofs.BoolLemmas.{never, is_false}

abbrev pub is_slash : Class → Bool
is_slash (key slash) = true
is_slash _ = false

-- a token that is no `<` comes first
abbrev pub stops : List Symbol → Bool
stops (tok c ∷ ss) = not (fits c (token.key less))
stops _ = false

-- no operand may come after what is optional, or begin it, unless a token must follow, and no
-- part is a semicolon
abbrev pub apart : List Symbol → Bool
apart [] = true
apart (tok c ∷ ss) = (is_slash c || not (awaits_step ss)) &&
    (not (fits c (token.key semicolon)) && apart ss)
apart (one n ∷ ss) = not (wanted ss false) && apart ss
apart (maybe n ∷ ss) = (not (begins_operand n) || stops ss) && (not (wanted ss false) && apart ss)
apart (many n ∷ ss) = not (begins_operand n) && (not (wanted ss false) && apart ss)
apart (longest n ∷ ss) = not (wanted ss false) && apart ss

apart_body : (p : Production) → apart (body p) ≡ true
apart_body (operator_chain or_level) = refl
apart_body (operator_tail or_level) = refl
apart_body _ = refl

-- no operand comes next below the topmost production
abbrev pub Settled : List Frame → Type 0
Settled [] = Unit {0}
Settled (doing p vs ss ∷ fs) = (wanted ss false ≡ false) × (apart ss ≡ true) × Settled fs

abbrev pub Formed : List Frame → Type 0
Formed [] = ⊥
Formed (doing p vs ss ∷ fs) = (apart ss ≡ true) × Settled fs

settled : (fs : List Frame) → Settled fs → wants_operand fs ≡ false
settled [] s = refl
settled (doing p vs ss ∷ fs) s = ap (wanted ss) (settled fs s.2) ∙ s.0

-- where the token leads to
record Led (t : Token) (gs : List Frame) : Type 0 where
  formed : Formed gs
  slashed : is_lone_slash gs ≡ true → t ≡ token.key slash

abbrev LedTo : Token → Option (List Frame) → Type 0
LedTo t None = Unit {0}
LedTo t (Some gs) = Led t gs

abbrev LedAlong : Token → Way → Type 0
LedAlong t stuck = Unit {0}
LedAlong t (moved gs) = Led t gs
LedAlong t through = Unit {0}

slashed_by : (c : Class) (t : Token) → is_slash c ≡ true → fits c t ≡ true → t ≡ token.key slash
slashed_by (key slash) t e f = sym (is_key slash t f)
slashed_by (key _) t e f = never e
slashed_by _ t e f = never e

module _ (t : Token) where
  behind_token : (c : Class) (p : Production) (vs : List Raw) (ss : List Symbol) (fs : List Frame)
      → fits c t ≡ true → apart (tok c ∷ ss) ≡ true → Settled fs → Led t (doing p vs ss ∷ fs)
  behind_token c p vs ss fs f a s =
      let parts = and_parts (is_slash c || not (awaits_step ss)) _ a in
      let more = and_parts (not (fits c (token.key semicolon))) (apart ss) parts.1 in
      record { formed = (more.1, s); slashed = λ e. go (or_cases _ _ parts.0) e }
    where
      go : (is_slash c ≡ true) ⊎ (not (awaits_step ss) ≡ true) → awaits_step ss ≡ true
          → t ≡ token.key slash
      go (inl x) e = slashed_by c t x f
      go (inr x) e = never (sym (is_false _ x) ∙ e)

  token_led : (c : Class) (p : Production) (vs : List Raw) (ss : List Symbol) (fs : List Frame)
      (b : Bool) → fits c t ≡ b → apart (tok c ∷ ss) ≡ true → Settled fs
      → LedTo t (cond b (Some (doing p vs ss ∷ fs)) None)
  token_led c p vs ss fs true f a s = behind_token c p vs ss fs f a s
  token_led c p vs ss fs false f a s = tt

  below_one : (p : Production) (vs : List Raw) (n : Nonterminal) (ss : List Symbol)
      (fs : List Frame) → apart (one n ∷ ss) ≡ true → Settled fs → Settled (doing p vs ss ∷ fs)
  below_one p vs n ss fs a s =
      let parts = and_parts (not (wanted ss false)) (apart ss) a in
      (is_false _ parts.0, parts.1, s)

  enters : (go : Nonterminal → List Frame → Option (List Frame))
      → ((n : Nonterminal) (gs : List Frame) → Settled gs → LedTo t (go n gs))
      → (p : Production) (ss : List Symbol) (fs : List Frame) → apart ss ≡ true → Settled fs
      → LedTo t (entered go t p ss fs)
  enters go rec p [] fs a s = tt
  enters go rec p (tok c ∷ ss) fs a s = token_led c p (keep c t []) ss fs (fits c t) refl a s
  enters go rec p (one n ∷ ss) fs a s = rec n (doing p [] ss ∷ fs) (below_one p [] n ss fs a s)
  enters go rec p (maybe n ∷ ss) fs a s = tt
  enters go rec p (many n ∷ ss) fs a s = tt
  enters go rec p (longest n ∷ ss) fs a s = tt

  spoken : (b : Bool) (o : Option (List Frame)) → LedTo t o → LedTo t (cond b o None)
  spoken true o h = h
  spoken false o h = tt

  picks : (go : Nonterminal → List Frame → Option (List Frame))
      → ((n : Nonterminal) (gs : List Frame) → Settled gs → LedTo t (go n gs))
      → (l : Language) (fs : List Frame) (o : Option Production) → Settled fs
      → LedTo t (picked go l t fs o)
  picks go rec l fs None s = tt
  picks go rec l fs (Some p) s =
      spoken (speaks l p) _ (enters go rec p (body p) fs (apart_body p) s)

  descends : (l : Language) (d : ℕ) (n : Nonterminal) (r : Second) (fs : List Frame)
      → Settled fs → LedTo t (descend l d n t r fs)
  descends l zero n r fs s = tt
  descends l (suc d) n r fs s =
      picks (λ m gs. descend l d m t r gs) (λ m gs h. descends l d m r gs h) l fs
      (choose n t r) s

  or_led : (o : Option (List Frame)) (w : Way) → LedTo t o → LedAlong t w
      → LedAlong t (or_else o w)
  or_led None w h k = k
  or_led (Some gs) w h k = h

  token_along : (c : Class) (p : Production) (vs : List Raw) (ss : List Symbol) (fs : List Frame)
      (b : Bool) → fits c t ≡ b → apart (tok c ∷ ss) ≡ true → Settled fs
      → LedAlong t (cond b (moved (doing p vs ss ∷ fs)) stuck)
  token_along c p vs ss fs true f a s = behind_token c p vs ss fs f a s
  token_along c p vs ss fs false f a s = tt

  cond_led : (b : Bool) (w v : Way) → LedAlong t w → LedAlong t v → LedAlong t (cond b w v)
  cond_led true w v h k = h
  cond_led false w v h k = k

  alongs : (l : Language) (r : Second) (p : Production) (vs : List Raw) (fs : List Frame)
      (ss : List Symbol) → apart ss ≡ true → Settled fs → LedAlong t (along l t r p vs fs ss)
  alongs l r p vs fs [] a s = tt
  alongs l r p vs fs (tok c ∷ ss) a s = token_along c p _ ss fs (fits c t) refl a s
  alongs l r p vs fs (one n ∷ ss) a s =
      or_led _ stuck (descends l deep n r (doing p vs ss ∷ fs) (below_one p vs n ss fs a s)) tt
  alongs l r p vs fs (maybe n ∷ ss) a s =
      let parts = and_parts (not (begins_operand n) || stops ss) _ a in
      let more = and_parts (not (wanted ss false)) (apart ss) parts.1 in
      or_led _ _ (descends l deep n r (doing p vs ss ∷ fs) (is_false _ more.0, more.1, s))
      (alongs l r p vs fs ss more.1 s)
  alongs l r p vs fs (many n ∷ ss) a s =
      let parts = and_parts (not (begins_operand n)) _ a in
      let more = and_parts (not (wanted ss false)) (apart ss) parts.1 in
      let calm : wanted (many n ∷ ss) false ≡ false =
      rw (is_false _ parts.0, is_false _ more.0) refl in
      or_led _ _ (descends l deep n r (doing p vs (many n ∷ ss) ∷ fs) (calm, a, s))
      (alongs l r p vs fs ss more.1 s)
  alongs l r p vs fs (longest n ∷ ss) a s =
      let parts = and_parts (not (wanted ss false)) (apart ss) a in
      cond_led (begins n t) _ _
      (or_led _ stuck (descends l deep n r (doing p vs ss ∷ fs)
      (is_false _ parts.0, parts.1, s)) tt)
      (alongs l r p vs fs ss parts.1 s)

  joined : (w : Way) (o : Option (List Frame)) → LedAlong t w → LedTo t o → LedTo t (outcome w o)
  joined stuck o h k = tt
  joined (moved gs) o h k = h
  joined through o h k = k

  climbs : (l : Language) (r : Second) (fs : List Frame) (p : Production) (vs : List Raw)
      (ss : List Symbol) → apart ss ≡ true → Settled fs → LedTo t (climb l t r fs p vs ss)
  climbs l r [] p vs ss a s = joined _ None (alongs l r p vs [] ss a s) tt
  climbs l r (doing q us rs ∷ fs) p vs ss a s =
      joined _ _ (alongs l r p vs (doing q us rs ∷ fs) ss a s)
      (climbs l r fs q (us ++ build p vs ∷ []) rs s.1 s.2)

  leads : (l : Language) (r : Second) (fs : List Frame) → Formed fs → LedTo t (advance l t r fs)
  leads l r [] f = tt
  leads l r (doing p vs ss ∷ fs) f = climbs l r fs p vs ss f.0 f.1

led : (t : Token) (o : Option (List Frame)) (gs : List Frame) → o ≡ Some gs → LedTo t o → Led t gs
led t None gs e h = absurd (none-some _ e)
led t (Some fs) gs e h = subst (λ x. Led t x) (same_Some _ _ e) h

started : {from : List Frame} → IsStart from → Formed from
started (production p) = (apart_body p, tt)
started single_alone = (refl, tt)

pub formed : {l : Language} {from fs : List Frame} → IsStart from → Reached l from fs → Formed fs
formed i began = started i
formed {l = l} i (onward {fs = fs} {gs = gs} t ts r e) =
    (led t (advance l t (second_of ts) fs) gs e (leads t l (second_of ts) fs (formed i r))).formed

pub alone_behind : {l : Language} (t : Token) (ts : List Token)
    {from : List Frame} (fs gs : List Frame) → IsStart from → Reached l from fs → advance l t
    (second_of ts) fs ≡ Some gs
    → is_lone_slash gs ≡ true → t ≡ token.key slash
alone_behind {l = l} t ts fs gs i r e =
    (led t (advance l t (second_of ts) fs) gs e (leads t l (second_of ts) fs
    (formed i r))).slashed

-- an operand does not begin with `<`
unled : (n : Nonterminal) (s : Second) (fs : List Frame)
    → cond (begins_operand n) (not (is_some (descend xquery deep n (token.key less) s fs))) true
    ≡ true
unfolding deep
unled (level or_level) s fs = refl
unled (tail or_level) s fs = refl
unled _ s fs = refl

no_more : (o : Option (List Frame)) → not (is_some o) ≡ true → o ≡ None
no_more None e = refl
no_more (Some fs) e = never e

uncompared : (n : Nonterminal) (s : Second) (fs : List Frame) → begins_operand n ≡ true
    → descend xquery deep n (token.key less) s fs ≡ None
uncompared n s fs e = no_more _ (rw e at (unled n s fs))

outer_only : (c : Class) → is_outer c ≡ true → fits c (token.key less) ≡ false
outer_only start_tag_open e = refl
outer_only _ e = never e

unbegun : (n : Nonterminal) → begins n (token.key less) ≡ false
unbegun after_root = refl
unbegun _ = refl

or_left : (a b : Bool) → b ≡ false → (a || b) ≡ true → a ≡ true
or_left true b e f = refl
or_left false b e f = never (sym e ∙ f)

nothing_taken : (b : Bool) (gs : List Frame) (o : Option (List Frame)) → b ≡ false
    → outcome (cond b (moved gs) stuck) o ≡ None
nothing_taken true gs o e = never (sym e)
nothing_taken false gs o e = refl

stopped : (s : Second) (p : Production) (vs : List Raw) (fs : List Frame) (ss : List Symbol)
    → stops ss ≡ true → along xquery (token.key less) s p vs fs ss ≡ stuck
stopped s p vs fs [] e = never e
stopped s p vs fs (tok c ∷ ss) e = let f = is_false _ e in rw f refl
stopped s p vs fs (one n ∷ ss) e = never e
stopped s p vs fs (maybe n ∷ ss) e = never e
stopped s p vs fs (many n ∷ ss) e = never e
stopped s p vs fs (longest n ∷ ss) e = never e

-- where an operand may come next, the topmost production alone refuses `<`
refused : (s : Second) (p : Production) (vs : List Raw) (fs : List Frame) (ss : List Symbol)
    (o : Option (List Frame)) → apart ss ≡ true → awaits_step ss ≡ false → wanted ss false ≡ true
    → outcome (along xquery (token.key less) s p vs fs ss) o ≡ None
refused s p vs fs [] o a l w = never w
refused s p vs fs (tok c ∷ ss) o a l w = nothing_taken _ _ o (outer_only c w)
refused s p vs fs (one n ∷ ss) o a l w = let e = uncompared n s
    (doing p vs ss ∷ fs) w in rw e refl
refused s p vs fs (maybe n ∷ ss) o a l w = go (or_cases _ _ parts.0)
  where
    parts : ((not (begins_operand n) || stops ss) ≡ true)
        × ((not (wanted ss false) && apart ss) ≡ true)
    parts = and_parts (not (begins_operand n) || stops ss) _ a

    more : (not (wanted ss false) ≡ true) × (apart ss ≡ true)
    more = and_parts (not (wanted ss false)) (apart ss) parts.1

    begins_one : begins_operand n ≡ true
    begins_one = or_left (begins_operand n) (wanted ss false) (is_false _ more.0) w

    go : (not (begins_operand n) ≡ true) ⊎ (stops ss ≡ true)
        → outcome (along xquery (token.key less) s p vs fs (maybe n ∷ ss)) o ≡ None
    go (inl x) = never (sym (is_false _ x) ∙ begins_one)
    go (inr x) =
        let e = uncompared n s (doing p vs ss ∷ fs) begins_one in
        let f = stopped s p vs fs ss x in
        rw (e, f) refl
refused s p vs fs (many n ∷ ss) o a l w =
    let parts = and_parts (not (begins_operand n)) _ a in
    let more = and_parts (not (wanted ss false)) (apart ss) parts.1 in
    let b = or_left (begins_operand n) (wanted ss false) (is_false _ more.0) w in
    never (sym (is_false _ parts.0) ∙ b)
refused s p vs fs (longest n ∷ ss) o a l w =
    let parts = and_parts (not (wanted ss false)) (apart ss) a in
    let e : wanted (longest n ∷ ss) false ≡ wanted ss false = rw l refl in
    never (sym (is_false _ parts.0) ∙ (sym e ∙ w))

uncompared_at : (s : Second) (fs : List Frame) → Formed fs → wants_operand fs ≡ true
    → is_lone_slash fs ≡ false → advance xquery (token.key less) s fs ≡ None
uncompared_at s [] f w a = absurd f
uncompared_at s (doing p vs ss ∷ []) f w a = refused s p vs [] ss None f.0 a w
uncompared_at s (doing p vs ss ∷ doing q us rs ∷ fs) f w a =
    let below = settled (doing q us rs ∷ fs) f.1 in
    let own = sym (ap (wanted ss) below) ∙ w in
    refused s p vs (doing q us rs ∷ fs) ss _ f.0 a own

pub uncompared_where : (s : Second) {from : List Frame} (fs : List Frame)
    → IsStart from → Reached xquery from fs → wants_operand fs ≡ true → is_lone_slash fs ≡ false
    → advance xquery (token.key less) s fs ≡ None
uncompared_where s fs i r w a = uncompared_at s fs (formed i r) w a
