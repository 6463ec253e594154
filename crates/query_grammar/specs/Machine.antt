-- A reader of queries, token by token.
use Rattle.std.specs.Prelude.{◌≡◌, ℕ, zero, suc, Bool, true, false, ◌&&◌, not, codes}
use Rattle.std.specs.Prelude.{List, [], ◌∷◌, ◌++◌, Option, Some, None, if◌then◌else◌}
use Rattle.std.specs.Prelude.{option_map, option_and_then}
use Rattle.expr_keys.specs.declared.tokens.Token.{Token}
use Rattle.expr_keys.specs.declared.tokens.Token.TheVariants as token
use Rattle.expr_keys.specs.declared.keys.Key.{Key}
use Rattle.expr_keys.specs.declared.keys.Key.TheVariants as key
use Rattle.expr_terms.specs.declared.raws.Raw.{Raw}
use Rattle.expr_terms.specs.declared.choices.Second.{Second}
use Rattle.expr_keys.specs.declared.productions.Language.TheVariants.{Xquery as xquery}
use Rattle.expr_keys.specs.declared.productions.Production.TheVariants.{WholeExpr as whole_expr}
use Rattle.expr_keys.specs.Keys.{same_key}
use Rattle.expr_keys.specs.Tokens.{fits_key, fits_name, fits_function}
use Rattle.expr_terms.specs.Choices.{second_of}
use Rattle.expr_grammar.specs.Machine.{Frame, advance, finish, start, read_type}
use Rattle.query_grammar.specs.QueryPlaces.Places.{start_single, wants_operand, is_lone_slash}
use Rattle.query_grammar.specs.declared.declared.Opening.{Opening}
use Rattle.query_grammar.specs.declared.declared.Opening.TheVariants as opening
use Rattle.query_grammar.specs.declared.declared.Typed.{Typed}
use Rattle.query_grammar.specs.declared.declared.Declared.{Declared}
use Rattle.query_grammar.specs.declared.declared.Declared.TheVariants as declared
use Rattle.query_grammar.specs.declared.declared.RawQuery.{RawQuery}
use Rattle.query_grammar.specs.declared.declared.Signature.{Signature}
use Rattle.query_grammar.specs.Words.{is_named, opening_of, may_open}
use Rattle.query_grammar.specs.Heads.{short_of}
use Rattle.query_grammar.specs.Prolog.{named_so, is_ordered}

abbrev pub typing_of : List Token → Option (Option Raw)
typing_of [] = Some None
typing_of (a ∷ ts) =
    if fits_key key.AsWord a then option_map Some (read_type xquery ts) else None

abbrev pub typed_of : List Token → Option Typed
typed_of [] = None
typed_of (d ∷ []) = None
typed_of (d ∷ n ∷ ts) =
    if fits_key key.Dollar d && fits_name n then option_map (named_so n) (typing_of ts) else None

abbrev pub with_param : Option (List Typed) → Typed → Option (List Typed)
with_param None p = None
with_param (Some ps) p = Some (p ∷ ps)

-- the parameters, where `us` are the tokens of the first so far
abbrev pub params_in : List Token → List Token → Option (List Typed)
params_in us [] = option_map (λ p. p ∷ []) (typed_of us)
params_in us (t ∷ ts) =
    if fits_key key.Comma t
    then option_and_then (λ p. option_map (λ ps. p ∷ ps) (params_in [] ts)) (typed_of us)
    else params_in (us ++ t ∷ []) ts

abbrev pub params_of : List Token → Option (List Typed)
params_of [] = Some []
params_of (t ∷ ts) = params_in [] (t ∷ ts)

-- what is in parentheses, and what after them
abbrev pub inside : ℕ → List Token → List Token → Option (List Token × List Token)
inside depth us [] = None
inside zero us (t ∷ ts) =
    if fits_key key.CloseParen t then Some (us, ts)
    else if fits_key key.OpenParen t then inside 1 (us ++ t ∷ []) ts
    else inside zero (us ++ t ∷ []) ts
inside (suc d) us (t ∷ ts) =
    if fits_key key.CloseParen t then inside d (us ++ t ∷ []) ts
    else if fits_key key.OpenParen t then inside (suc (suc d)) (us ++ t ∷ []) ts
    else inside (suc d) (us ++ t ∷ []) ts

abbrev pub signature : Token → List Typed → Option Raw → Signature
signature q ps k = record { name = q; params = ps; kind = k }

abbrev pub signature_in : Token → List Token × List Token → Option Signature
signature_in q (us, ts) =
    option_and_then (λ ps. option_map (signature q ps) (typing_of ts)) (params_of us)

abbrev pub signature_of : List Token → Option Signature
signature_of [] = None
signature_of (q ∷ []) = None
signature_of (q ∷ o ∷ ts) =
    if fits_function q && fits_key key.OpenParen o
    then option_and_then (signature_in q) (inside 0 [] ts) else None

abbrev pub but_last : List Token → List Token
but_last [] = []
but_last (t ∷ []) = []
but_last (t ∷ u ∷ ts) = t ∷ but_last (u ∷ ts)

abbrev pub is_outside : List Token → Bool
is_outside [] = false
is_outside (t ∷ []) = is_named (codes "external") t
is_outside (t ∷ u ∷ ts) = is_outside (u ∷ ts)

abbrev pub outside_of : List Token → Option Declared
outside_of ts =
    if is_outside ts then option_map (λ v. declared.Variable v None)
    (typed_of (but_last ts)) else None

-- a declaration without an expression, after its two words
abbrev pub whole_of : Opening → List Token → Option Declared
whole_of opening.Variable ts = outside_of ts
whole_of o ts = short_of o ts

-- how far a query is read
pub data Mode : Type 0 where
  -- at the front of a declaration or of the body
  front : Mode
  -- after a word that may open a declaration
  held : Token → Second → Mode
  -- after the two words of a declaration and these tokens
  head : Opening → List Token → Mode
  -- in the body of the query
  body : List Frame → Mode
  -- in the value of a variable
  value : Typed → List Frame → Mode
  -- in the body of a function
  inner : Signature → List Frame → Mode
  -- after it
  closed : Declared → Mode

-- what a token leads to
pub data Turn : Type 0 where
  refused : Turn
  onto : Mode → Turn
  ends : Declared → Turn

abbrev pub to_mode : (List Frame → Mode) → Option (List Frame) → Turn
to_mode m None = refused
to_mode m (Some fs) = onto (m fs)

abbrev pub to_end : Option Declared → Turn
to_end None = refused
to_end (Some d) = ends d

abbrev pub held_step : Token → Second → Token → Second → Option Opening → Turn
held_step a r t s None =
    to_mode body (option_and_then (advance xquery t s) (advance xquery a r (start whole_expr)))
held_step a r t s (Some o) = onto (head o [])

-- a key that may come before the expression of a declaration
abbrev pub is_head_key : Key → Bool
is_head_key k =
    not (same_key key.Semicolon k) && (not (same_key key.Assign k)
    && (not (same_key key.OpenBrace k) && not (same_key key.Less k)))

abbrev pub is_head : Token → Bool
is_head (token.Key k) = is_head_key k
is_head (token.Name n) = true
is_head (token.Qname p n) = true
is_head (token.AnyLocal p) = true
is_head (token.AnyPrefix n) = true
is_head (token.Digits n) = true
is_head (token.Quoted cs) = true
is_head _ = false

abbrev pub value_start : Opening → List Token → Option Typed
value_start opening.Variable ts = typed_of ts
value_start _ ts = None

abbrev pub inner_start : Opening → List Token → Option Signature
inner_start opening.Function ts = signature_of ts
inner_start _ ts = None

abbrev pub to_value : Option Typed → Turn
to_value None = refused
to_value (Some v) = onto (value v start_single)

abbrev pub to_inner : Option Signature → Turn
to_inner None = refused
to_inner (Some q) = onto (inner q (start whole_expr))

abbrev pub head_step : Opening → List Token → Token → Turn
head_step o us t =
    if is_head t then onto (head o (us ++ t ∷ []))
    else if fits_key key.Semicolon t then to_end (whole_of o us)
    else if fits_key key.Assign t then to_value (value_start o us)
    else if fits_key key.OpenBrace t then to_inner (inner_start o us)
    else refused

abbrev pub function_of : Signature → Raw → Declared
function_of q w = declared.Function q.name q.params q.kind w

abbrev pub to_closed : Option Declared → Turn
to_closed None = refused
to_closed (Some d) = onto (closed d)

abbrev pub inner_step : Signature → List Frame → Token → Option (List Frame) → Turn
inner_step q fs t None =
    if fits_key key.CloseBrace t then to_closed (option_map (function_of q)
    (finish fs)) else refused
inner_step q fs t (Some gs) = onto (inner q gs)

abbrev pub step : Mode → Token → Second → Turn
step front t s =
    if may_open t then onto (held t s) else to_mode body (advance xquery t s (start whole_expr))
step (held a r) t s = held_step a r t s (opening_of a t)
step (head o us) t s = head_step o us t
step (body fs) t s = to_mode body (advance xquery t s fs)
step (value v fs) t s =
    if fits_key key.Semicolon t
    then to_end (option_map (λ w. declared.Variable v (Some w)) (finish fs))
    else to_mode (value v) (advance xquery t s fs)
step (inner q fs) t s = inner_step q fs t (advance xquery t s fs)
step (closed d) t s = if fits_key key.Semicolon t then ends d else refused

-- the value of the body, where the query may end here
abbrev pub ended : Mode → Option Raw
ended (held a r) = option_and_then finish (advance xquery a r (start whole_expr))
ended (body fs) = finish fs
ended _ = None

abbrev pub of_body : Raw → RawQuery
of_body v = record { declared = []; body = v }

abbrev pub behind : Declared → RawQuery → RawQuery
behind d q = record { declared = d ∷ q.declared; body = q.body }

abbrev pub turned : (Mode → Option RawQuery) → Turn → Option RawQuery
turned go refused = None
turned go (onto m) = go m
turned go (ends d) = option_map (behind d) (go front)

abbrev pub run : List Token → Mode → Option RawQuery
run [] m = option_map of_body (ended m)
run (t ∷ ts) m = turned (run ts) (step m t (second_of ts))

abbrev pub if_ordered : RawQuery → Option RawQuery
if_ordered q = if is_ordered q.declared then Some q else None

-- the query that the tokens spell, where they spell one
abbrev pub read_query : List Token → Option RawQuery
read_query ts = option_and_then if_ordered (run ts front)

-- whether an operand may come next
abbrev pub wants : Mode → Bool
wants front = true
wants (body fs) = wants_operand fs
wants (value n fs) = wants_operand fs
wants (inner q fs) = wants_operand fs
wants _ = false

-- whether the last token was a `/` that stands alone unless a step follows
abbrev pub is_lone : Mode → Bool
is_lone (body fs) = is_lone_slash fs
is_lone (value n fs) = is_lone_slash fs
is_lone (inner q fs) = is_lone_slash fs
is_lone _ = false

-- where the front of a query leads to, with these tokens to come
pub data Leads : Mode → List Token → Type 0 where
  began : (ts : List Token) → Leads front ts
  onward : {m n : Mode} {t : Token} {ts : List Token} → Leads m (t ∷ ts)
      → step m t (second_of ts) ≡ onto n → Leads n ts
  ended_by : {m : Mode} {t : Token} {ts : List Token} {d : Declared} → Leads m (t ∷ ts)
      → step m t (second_of ts) ≡ ends d → Leads front ts
