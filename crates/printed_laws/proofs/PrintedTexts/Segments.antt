-- Tokens of expressions that can be written before others that can.
use Rattle.std.proofs.Common.{◌≡◌, List, [], ◌∷◌, ◌++◌, Bool, true, false, cond, refl, sym}
use Rattle.std.proofs.Common.{subst, append_assoc}
use Rattle.std.proofs.lemmas.Bool.{and_parts, and_from}
use Rattle.xt_syntax.specs.declared.exprs.Expr.{Expr}
use Rattle.xt_syntax.specs.declared.prefixes.Prefixes.{Prefixes}
use Rattle.expr_keys.specs.Keys.{is_reserved, is_worded}
use Rattle.expr_keys.specs.Classes.{fits}
use Rattle.expr_keys.specs.declared.keys.Key.TheVariants as key
use Rattle.expr_keys.specs.declared.tokens.Token.{Token}
use Rattle.expr_keys.specs.declared.tokens.Token.TheVariants as token
use Rattle.expr_keys.specs.declared.productions.Class.TheVariants as class
use Rattle.query_pieces.specs.declared.contexts.Context.{Context}
use Rattle.query_pieces.specs.declared.contexts.Context.TheVariants as context
use Rattle.query_pieces.specs.Points.{in_expression}
use Rattle.expr_raws.specs.PathRaws.Forms.{single, said}
use Rattle.expr_raws.specs.Raws.{form_of, tokens_of, is_printable}
use Rattle.token_laws.specs.WrittenTokens.Fit.{is_fit, are_fit}
use Rattle.token_laws.proofs.WrittenTokens.Says.{W, Says, in_case, Stays, one_says, said_says}
use Rattle.token_laws.proofs.WrittenTokens.Forms.{printable_written}
use Rattle.token_laws.proofs.EndedTokens.Ends.{Ends, said_ends}
use Rattle.token_laws.proofs.EndedTokens.Forms.{printable_ends}
use Rattle.token_laws.proofs.FitTokens.Fits.{Fit}

pub fit_parts : (us vs : List Token) → Fit (us ++ vs) → Fit us × Fit vs
fit_parts [] vs e = (refl, e)
fit_parts (u ∷ us) vs e =
    let h = and_parts (is_fit u) (are_fit (us ++ vs)) e in
    let i = fit_parts us vs h.1 in
    (and_from (is_fit u) (are_fit us) h.0 i.0, i.1)

pub fit_both : (us vs : List Token) → Fit us → Fit vs → Fit (us ++ vs)
fit_both [] vs a b = b
fit_both (u ∷ us) vs a b =
    let h = and_parts (is_fit u) (are_fit us) a in
    and_from (is_fit u) (are_fit (us ++ vs)) h.0 (fit_both us vs h.1 b)

-- before others that can be written, where tokens of expressions stand
abbrev pub Segment : List Token → Type 0
Segment us = (cs : List Context) → in_expression cs ≡ true → (rest : List Token) → Fit us
    → Fit rest → W cs rest → W cs (us ++ rest)

pub no_segment : Segment []
no_segment cs i rest f g w = w

pub one_segment : (t : Token) (us : List Token) → Stays t → Segment us → Segment (t ∷ us)
one_segment t us s a cs i rest f g w =
    let h = and_parts (is_fit t) (are_fit us) f in
    one_says t s cs i (us ++ rest) (fit_both (t ∷ us) rest f g) (λ x. a cs i rest h.1 g w)

pub join_segments : (us vs : List Token) → Segment us → Segment vs → Segment (us ++ vs)
join_segments us vs a b cs i rest f g w =
    let h = fit_parts us vs f in
    subst (λ ts. W cs ts) (sym (append_assoc us vs rest))
    (a cs i (vs ++ rest) h.0 (fit_both vs rest h.1 g) (b cs i rest h.1 g w))

pub block_segment : (us : List Token) → Segment us
    → Segment (token.Key key.OpenBrace ∷ (us ++ token.Key key.CloseBrace ∷ []))
block_segment us a cs i rest f g w =
    let h = fit_parts us (token.Key key.CloseBrace ∷ []) f in
    let more : List Token = token.Key key.CloseBrace ∷ rest in
    in_case cs i (token.Key key.OpenBrace) ((us ++ token.Key key.CloseBrace ∷ []) ++ rest) refl
    (subst (λ ts. W (context.Enclosed ∷ cs) ts)
    (sym (append_assoc us (token.Key key.CloseBrace ∷ []) rest))
    (a (context.Enclosed ∷ cs) refl more h.0 g
    (in_case (context.Enclosed ∷ cs) refl (token.Key key.CloseBrace) rest refl w)))

-- tokens of a form
pub form_segment : (tokens : List Token → List Token) → Says tokens → Ends tokens
    → Segment (tokens [])
form_segment tokens s e cs i rest f g w =
    subst (λ ts. W cs ts) (e [] rest)
    (s cs i rest (subst (λ ts. Fit ts) (sym (e [] rest)) (fit_both (tokens []) rest f g)) (λ x. w))

pub whole_segment : (p : Prefixes) (e : Expr) → is_printable p e ≡ true → Segment (tokens_of p e)
whole_segment p e c = form_segment (form_of p e).tokens (printable_written p e c).whole
    (printable_ends p e c).ends

pub single_segment : (p : Prefixes) (e : Expr) → is_printable p e ≡ true
    → Segment (said single (form_of p e) [])
single_segment p e c = form_segment (λ rest. said single (form_of p e) rest)
    (said_says single (form_of p e) (printable_written p e c).whole)
    (said_ends single (form_of p e) (printable_ends p e c).ends)

-- the name of a function is a name
pub function_name : (t : Token) → fits class.Function t ≡ true → fits class.Name t ≡ true
function_name (token.Key k) e = go (is_reserved k) e
  where
    go : (b : Bool) → cond b false (is_worded k) ≡ true → is_worded k ≡ true
    go true h = absurd (cc)
    go false h = h
function_name (token.Name n) e = refl
function_name (token.Qname p n) e = refl
function_name _ e = absurd (cc)
