-- What comes before the expressions of declarations is read as the grammar has it.
use Rattle.std.proofs.Common.{◌≡◌, Bool, true, false, cond, not, ◌&&◌, codes}
use Rattle.std.proofs.Common.{List, [], ◌∷◌, ◌++◌, append_assoc, append-nil, refl, sym, ◌∙◌, ap}
use Rattle.std.proofs.Common.{subst}
use Rattle.std.proofs.Common.{Option, Some, None, option_map, option_and_then}
use Rattle.std.proofs.lemmas.Bool.{and_parts}
use Rattle.std.proofs.lemmas.Option.{none-some, same_Some}
use Rattle.expr_keys.specs.declared.keys.Key.TheVariants as key
use Rattle.expr_keys.specs.declared.tokens.Token.{Token}
use Rattle.expr_keys.specs.declared.tokens.Token.TheVariants as token
use Rattle.expr_terms.specs.declared.raws.Raw.{Raw}
use Rattle.expr_keys.specs.declared.productions.Language.TheVariants.{Xquery as xquery}
use Rattle.expr_keys.specs.Tokens.{fits_key, fits_name, fits_word, fits_function}
use Rattle.expr_keys.specs.Classes.{fits_quoted}
use Rattle.expr_grammar.specs.Machine.{read_type}
use Rattle.expr_grammar.proofs.Run.{spells_type_runs, runs_spells_type}
use Rattle.expr_grammar.proofs.Tables.{is_key}
use Rattle.query_grammar.specs.declared.declared.Opening.{Opening}
use Rattle.query_grammar.specs.declared.declared.Opening.TheVariants as opening
use Rattle.query_grammar.specs.declared.declared.Typed.{Typed}
use Rattle.query_grammar.specs.declared.declared.Declared.{Declared}
use Rattle.query_grammar.specs.declared.declared.Declared.TheVariants as declared
use Rattle.query_grammar.specs.Words.{is_named, text_of}
use Rattle.query_grammar.specs.Heads.{version_of, namespace_of, default_of, space_of}
use Rattle.query_grammar.specs.Heads.{ordering_of, copying_of, setting_of, short_of, is_utf8}
use Rattle.query_grammar.specs.Prolog.{Cut, here, there, IsTyping, untyped, as_type, named_so}
use Rattle.query_grammar.specs.Prolog.{IsTyped, typed, AreParams, last, before, MayBeParams, none}
use Rattle.query_grammar.specs.Prolog.{some, IsSignature, signed, IsBehind, outside}
use Rattle.query_grammar.specs.Machine.{is_head, typing_of, typed_of, params_in, params_of}
use Rattle.query_grammar.specs.Machine.{inside}
use Rattle.query_grammar.specs.declared.declared.Signature.{Signature}
use Rattle.query_grammar.specs.Machine.{signature, signature_in, signature_of}
use Rattle.query_grammar.specs.Machine.{but_last}
use Rattle.query_grammar.specs.Machine.{is_outside, outside_of}
use Rattle.query_grammar.proofs.Tokens.{heads, name_head, word_head, function_head}
use Rattle.query_grammar.proofs.Tokens.{quoted_head, named_head, key_head, key_type, name_type}
use Rattle.query_grammar.proofs.Neat.{Neat, done, plain, type_neat}
use Rattle.query_grammar.proofs.Cuts.{cut_at, neat_heads, no_comma, neat_calm}
use Rattle.query_grammar.proofs.Cuts.{heads_cut, Level, neat_level, level_cut, flat, inside_found}
use Rattle.query_grammar.proofs.Cuts.{inside_is, last_found, last_is}
use Rattle.xt_names.proofs.BoolLemmas.{never, is_false, and_both}

-- types
pub typing_found : {ts : List Token} {k : Option Raw} → IsTyping ts k → typing_of ts ≡ Some k
typing_found untyped = refl
typing_found (as_type e d) = let f = spells_type_runs d in rw (e, f) refl

typing_in : (b : Bool) (a : Token) (ts : List Token) (o : Option Raw) (k : Option Raw)
    → fits_key key.AsWord a ≡ b → read_type xquery ts ≡ o
    → cond b (option_map Some o) None ≡ Some k → IsTyping (a ∷ ts) k
typing_in true a ts (Some w) k e f g =
    subst (λ x. IsTyping (a ∷ ts) x) (same_Some _ _ g) (as_type e (runs_spells_type f))
typing_in true a ts None k e f g = absurd (none-some _ g)
typing_in false a ts o k e f g = absurd (none-some _ g)

pub typing_is : (ts : List Token) (k : Option Raw) → typing_of ts ≡ Some k → IsTyping ts k
typing_is [] k e = subst (λ x. IsTyping [] x) (same_Some _ _ e) untyped
typing_is (a ∷ ts) k e = typing_in (fits_key key.AsWord a) a ts
    (read_type xquery ts) k refl refl e

typing_neat : {ts : List Token} {k : Option Raw} → IsTyping ts k → Neat 0 ts []
typing_neat untyped = done
typing_neat (as_type {a = a} e d) = plain (key_type key.AsWord a refl e) (type_neat d)

-- a name with its type
pub typed_found : {ts : List Token} {p : Typed} → IsTyped ts p → typed_of ts ≡ Some p
typed_found (typed e f t) = let g = typing_found t in rw (e, f, g) refl

typed_in : (b : Bool) (d n : Token) (ts : List Token) (o : Option (Option Raw)) (p : Typed)
    → (fits_key key.Dollar d && fits_name n) ≡ b → typing_of ts ≡ o
    → cond b (option_map (named_so n) o) None ≡ Some p → IsTyped (d ∷ n ∷ ts) p
typed_in true d n ts (Some k) p e f g =
    let parts = and_parts (fits_key key.Dollar d) (fits_name n) e in
    subst (λ x. IsTyped (d ∷ n ∷ ts) x) (same_Some _ _ g) (typed parts.0 parts.1
    (typing_is ts k f))
typed_in true d n ts None p e f g = absurd (none-some _ g)
typed_in false d n ts o p e f g = absurd (none-some _ g)

pub typed_is : (ts : List Token) (p : Typed) → typed_of ts ≡ Some p → IsTyped ts p
typed_is [] p e = absurd (none-some _ e)
typed_is (d ∷ []) p e = absurd (none-some _ e)
typed_is (d ∷ n ∷ ts) p e =
    typed_in (fits_key key.Dollar d && fits_name n) d n ts (typing_of ts) p refl refl e

typed_neat : {ts : List Token} {p : Typed} → IsTyped ts p → Neat 0 ts []
typed_neat (typed {d = d} {n = n} e f t) =
    plain (key_type key.Dollar d refl e) (plain (name_type n f) (typing_neat t))

pub typed_heads : {ts : List Token} {p : Typed} → IsTyped ts p → heads ts ≡ true
typed_heads t = neat_heads (typed_neat t) refl

-- parameters
params_last : (acc us : List Token) → no_comma us ≡ true
    → params_in acc us ≡ option_map (λ p. p ∷ []) (typed_of (acc ++ us))
params_last acc [] e = ap (λ z. option_map (λ p. p ∷ []) (typed_of z)) (sym (append-nil acc))
params_last acc (t ∷ us) e =
    let parts = and_parts (not (fits_key key.Comma t)) (no_comma us) e in
    let f = is_false _ parts.0 in
    rw f (params_last (acc ++ t ∷ []) us parts.1
    ∙ ap (λ z. option_map (λ p. p ∷ []) (typed_of z)) (append_assoc acc (t ∷ []) us))

abbrev with_rest : List Token → Typed → Option (List Typed)
with_rest rest p = option_map (λ ps. p ∷ ps) (params_in [] rest)

params_cut : {rest all us : List Token} (acc : List Token) → Cut (token.Key key.Comma) rest all us
    → no_comma us ≡ true
    → params_in acc all ≡ option_and_then (with_rest rest) (typed_of (acc ++ us))
params_cut {rest = rest} acc here e =
    ap (λ z. option_and_then (with_rest rest) (typed_of z)) (sym (append-nil acc))
params_cut {rest = rest} acc (there {x = t} {us = us} c) e =
    let parts = and_parts (not (fits_key key.Comma t)) (no_comma us) e in
    let f = is_false _ parts.0 in
    rw f (params_cut (acc ++ t ∷ []) c parts.1
    ∙ ap (λ z. option_and_then (with_rest rest) (typed_of z)) (append_assoc acc (t ∷ []) us))

are_found : {us : List Token} {ps : List Typed} → AreParams us ps → params_in [] us ≡ Some ps
are_found (last {us = us} t) =
    params_last [] us (neat_calm (typed_neat t) refl)
    ∙ ap (option_map (λ p. p ∷ [])) (typed_found t)
are_found (before {rest = rest} {p = p} c t a) =
    params_cut [] c (neat_calm (typed_neat t) refl)
    ∙ (ap (option_and_then (with_rest rest)) (typed_found t)
    ∙ ap (option_map (λ ps. p ∷ ps)) (are_found a))

filled : (us : List Token) {ps : List Typed} → AreParams us ps → params_of us ≡ params_in [] us
filled (t ∷ us) a = refl
filled [] (last t) = elim t [ ]
filled [] (before c t a) = elim c [ ]

params_found : {us : List Token} {ps : List Typed} → MayBeParams us ps → params_of us ≡ Some ps
params_found none = refl
params_found (some {us = us} a) = filled us a ∙ are_found a

comma_in : (acc : List Token) (t : Token) (ts : List Token) (o : Option Typed)
    (r : Option (List Typed)) (ps : List Typed) → fits_key key.Comma t ≡ true → typed_of acc ≡ o
    → ((qs : List Typed) → r ≡ Some qs → AreParams ts qs)
    → option_and_then (λ p. option_map (λ qs. p ∷ qs) r) o ≡ Some ps → AreParams
    (acc ++ t ∷ ts) ps
comma_in acc t ts None r ps c f rec e = absurd (none-some _ e)
comma_in acc t ts (Some p) None ps c f rec e = absurd (none-some _ e)
comma_in acc t ts (Some p) (Some qs) ps c f rec e =
    let cut : Cut (token.Key key.Comma) ts (acc ++ token.Key key.Comma ∷ ts) acc =
    cut_at acc (token.Key key.Comma) ts in
    let same = subst (λ z. Cut (token.Key key.Comma) ts (acc ++ z ∷ ts) acc)
    (is_key key.Comma t c) cut in
    subst (λ z. AreParams (acc ++ t ∷ ts) z) (same_Some _ _ e)
    (before same (typed_is acc p f) (rec qs refl))

one_in : (us : List Token) (o : Option Typed) (ps : List Typed) → typed_of us ≡ o
    → option_map (λ p. p ∷ []) o ≡ Some ps → AreParams us ps
one_in us None ps f e = absurd (none-some _ e)
one_in us (Some p) ps f e = subst (λ z. AreParams us z) (same_Some _ _ e) (last (typed_is us p f))

params_step : (b : Bool) (acc : List Token) (t : Token) (ts : List Token) (ps : List Typed)
    → fits_key key.Comma t ≡ b
    → ((us : List Token) (qs : List Typed) → params_in us ts ≡ Some qs → AreParams (us ++ ts) qs)
    → cond b (option_and_then (λ p. option_map (λ qs. p ∷ qs) (params_in [] ts)) (typed_of acc))
    (params_in (acc ++ t ∷ []) ts) ≡ Some ps
    → AreParams (acc ++ t ∷ ts) ps
params_step true acc t ts ps c rec e =
    comma_in acc t ts (typed_of acc) (params_in [] ts) ps c refl (λ qs f. rec [] qs f) e
params_step false acc t ts ps c rec e =
    subst (λ z. AreParams z ps) (append_assoc acc (t ∷ []) ts) (rec (acc ++ t ∷ []) ps e)

are_is : (acc ts : List Token) (ps : List Typed) → params_in acc ts ≡ Some ps
    → AreParams (acc ++ ts) ps
are_is acc [] ps e =
    subst (λ z. AreParams z ps) (sym (append-nil acc)) (one_in acc (typed_of acc) ps refl e)
are_is acc (t ∷ ts) ps e =
    params_step (fits_key key.Comma t) acc t ts ps refl (λ us qs f. are_is us ts qs f) e

params_is : (us : List Token) (ps : List Typed) → params_of us ≡ Some ps → MayBeParams us ps
params_is [] ps e = subst (λ z. MayBeParams [] z) (same_Some _ _ e) none
params_is (t ∷ us) ps e = some (are_is [] (t ∷ us) ps e)

are_heads : {us : List Token} {ps : List Typed} → AreParams us ps → heads us ≡ true
are_heads (last t) = typed_heads t
are_heads (before c t a) = heads_cut c refl (typed_heads t) (are_heads a)

params_heads : {us : List Token} {ps : List Typed} → MayBeParams us ps → heads us ≡ true
params_heads none = refl
params_heads (some a) = are_heads a

are_level : {us : List Token} {ps : List Typed} → AreParams us ps → Level 0 us
are_level (last t) = neat_level (typed_neat t) flat
are_level (before c t a) = level_cut refl refl (neat_level (typed_neat t) flat) c (are_level a)

params_level : {us : List Token} {ps : List Typed} → MayBeParams us ps → Level 0 us
params_level none = flat
params_level (some a) = are_level a

-- the name, the parameters and the type of a function
pub signature_found : {hd : List Token} {q : Token} {ps : List Typed} {k : Option Raw}
    → IsSignature hd q ps k → signature_of hd ≡ Some (signature q ps k)
signature_found {q = q} (signed {inside = all} {us = us} {ts = ts} e f c p t) =
    let g = inside_found [] (params_level p) c in
    let h = params_found p in
    let i = typing_found t in
    rw (e, f, g, h, i) refl

signature_rest : (q o : Token) (all us ts : List Token) (g : Signature)
    (ps : Option (List Typed)) (k : Option (Option Raw)) → fits_function q ≡ true
    → fits_key key.OpenParen o ≡ true → Cut (token.Key key.CloseParen) ts all us
    → params_of us ≡ ps → typing_of ts ≡ k
    → option_and_then (λ qs. option_map (signature q qs) k) ps ≡ Some g
    → IsSignature (q ∷ o ∷ all) g.name g.params g.kind
signature_rest q o all us ts g None k e f c i j r = absurd (none-some _ r)
signature_rest q o all us ts g (Some ps) None e f c i j r = absurd (none-some _ r)
signature_rest q o all us ts g (Some ps) (Some k) e f c i j r =
    subst (λ x. IsSignature (q ∷ o ∷ all) x.name x.params x.kind) (same_Some _ _ r)
    (signed e f c (params_is us ps i) (typing_is ts k j))

signature_inside : (q o : Token) (all : List Token) (g : Signature)
    (x : Option (List Token × List Token)) → fits_function q ≡ true
    → fits_key key.OpenParen o ≡ true → inside 0 [] all ≡ x
    → option_and_then (signature_in q) x ≡ Some g → IsSignature
    (q ∷ o ∷ all) g.name g.params g.kind
signature_inside q o all g None e f i r = absurd (none-some _ r)
signature_inside q o all g (Some (us, ts)) e f i r =
    let found = inside_is 0 [] all us ts i in
    let cut : Cut (token.Key key.CloseParen) ts all us =
    subst (λ z. Cut (token.Key key.CloseParen) ts all z) (sym found.are) found.cut in
    signature_rest q o all us ts g (params_of us) (typing_of ts) e f cut refl refl r

signature_by : (b : Bool) (q o : Token) (all : List Token) (g : Signature)
    → (fits_function q && fits_key key.OpenParen o) ≡ b
    → cond b (option_and_then (signature_in q) (inside 0 [] all)) None ≡ Some g
    → IsSignature (q ∷ o ∷ all) g.name g.params g.kind
signature_by true q o all g e r =
    let parts = and_parts (fits_function q) (fits_key key.OpenParen o) e in
    signature_inside q o all g (inside 0 [] all) parts.0 parts.1 refl r
signature_by false q o all g e r = absurd (none-some _ r)

pub signature_is : (hd : List Token) (g : Signature) → signature_of hd ≡ Some g
    → IsSignature hd g.name g.params g.kind
signature_is [] g e = absurd (none-some _ e)
signature_is (q ∷ []) g e = absurd (none-some _ e)
signature_is (q ∷ o ∷ all) g e =
    signature_by (fits_function q && fits_key key.OpenParen o) q o all g refl e

pub signature_heads : {hd : List Token} {q : Token} {ps : List Typed} {k : Option Raw}
    → IsSignature hd q ps k → heads hd ≡ true
signature_heads (signed {q = q} {o = o} e f c p t) =
    and_both _ _ (function_head q e) (and_both _ _ (key_head key.OpenParen o refl f)
    (heads_cut c refl (params_heads p) (neat_heads (typing_neat t) refl)))

-- a variable of the outside
pub outside_found : {us hd : List Token} {x : Token} {v : Typed} → Cut x [] us hd → IsTyped hd v
    → is_named (codes "external") x ≡ true → outside_of us ≡ Some (declared.Variable v None)
outside_found c t e =
    let l = last_found c in
    let f = l.0 ∙ e in
    let g = l.1 in
    let h = typed_found t in
    rw (f, g, h) refl

outside_in : (b : Bool) (us : List Token) (o : Option Typed) (d : Declared) → is_outside us ≡ b
    → typed_of (but_last us) ≡ o
    → cond b (option_map (λ v. declared.Variable v None) o) None ≡ Some d
    → IsBehind opening.Variable us d
outside_in true us (Some v) d e f r =
    let l = last_is us e in
    subst (λ z. IsBehind opening.Variable us z) (same_Some _ _ r)
    (outside l.cut (typed_is (but_last us) v f) l.named)
outside_in true us None d e f r = absurd (none-some _ r)
outside_in false us o d e f r = absurd (none-some _ r)

pub outside_is : (us : List Token) (d : Declared) → outside_of us ≡ Some d
    → IsBehind opening.Variable us d
outside_is us d e = outside_in (is_outside us) us (typed_of (but_last us)) d refl refl e

pub outside_heads : {us hd : List Token} {x : Token} {v : Typed} → Cut x [] us hd → IsTyped hd v
    → is_named (codes "external") x ≡ true → heads us ≡ true
outside_heads {x = x} c t e = heads_cut c (named_head _ x e) (typed_heads t) refl

-- the declarations without expressions
held_true : {A : Type 0} (b : Bool) (x : A) (d : A) → cond b (Some x) None ≡ Some d → b ≡ true
held_true true x d e = refl
held_true false x d e = absurd (none-some _ e)

utf8_head : (t : Token) → is_utf8 t ≡ true → is_head t ≡ true
utf8_head (token.Quoted cs) e = refl
utf8_head _ e = never e

version_heads : (us : List Token) (d : Declared) → version_of us ≡ Some d → heads us ≡ true
version_heads [] d e = refl
version_heads (v ∷ []) d e =
    and_both _ _ (quoted_head v (held_true (fits_quoted v) _ d e)) refl
version_heads (v ∷ x ∷ []) d e = absurd (none-some _ e)
version_heads (v ∷ x ∷ u ∷ []) d e =
    let a = and_parts (fits_quoted v) _ (held_true _ _ d e) in
    let b = and_parts (is_named (codes "encoding") x) (is_utf8 u) a.1 in
    and_both _ _ (quoted_head v a.0)
    (and_both _ _ (named_head _ x b.0) (and_both _ _ (utf8_head u b.1) refl))
version_heads (v ∷ x ∷ u ∷ y ∷ us) d e = absurd (none-some _ e)

namespace_heads : (us : List Token) (d : Declared) → namespace_of us ≡ Some d → heads us ≡ true
namespace_heads [] d e = refl
namespace_heads (p ∷ []) d e = absurd (none-some _ e)
namespace_heads (p ∷ x ∷ []) d e = absurd (none-some _ e)
namespace_heads (p ∷ x ∷ u ∷ []) d e =
    let a = and_parts (fits_word p) _ (held_true _ _ d e) in
    let b = and_parts (fits_key key.Equal x) (fits_quoted u) a.1 in
    and_both _ _ (word_head p a.0)
    (and_both _ _ (key_head key.Equal x refl b.0) (and_both _ _ (quoted_head u b.1) refl))
namespace_heads (p ∷ x ∷ u ∷ y ∷ us) d e = absurd (none-some _ e)

default_in : (b c f g : Bool) (a n u : Token) (d : Declared)
    → (fits_key key.NamespaceWord n && fits_quoted u) ≡ b → fits_key key.ElementWord a ≡ c
    → is_named (codes "function") a ≡ f
    → (fits_key key.OrderWord a && (fits_key key.EmptyWord n && fits_key key.LeastWord u)) ≡ g
    → cond b (cond c (Some (declared.ElementDefault (text_of u)))
    (cond f (Some (declared.FunctionDefault (text_of u))) None))
    (cond g (Some declared.Setter) None) ≡ Some d
    → heads (a ∷ n ∷ u ∷ []) ≡ true
default_in true true f g a n u d e h i j r =
    let p = and_parts (fits_key key.NamespaceWord n) (fits_quoted u) e in
    and_both _ _ (key_head key.ElementWord a refl h)
    (and_both _ _ (key_head key.NamespaceWord n refl p.0) (and_both _ _ (quoted_head u p.1) refl))
default_in true false true g a n u d e h i j r =
    let p = and_parts (fits_key key.NamespaceWord n) (fits_quoted u) e in
    and_both _ _ (named_head _ a i)
    (and_both _ _ (key_head key.NamespaceWord n refl p.0) (and_both _ _ (quoted_head u p.1) refl))
default_in true false false g a n u d e h i j r = absurd (none-some _ r)
default_in false c f true a n u d e h i j r =
    let p = and_parts (fits_key key.OrderWord a) _ j in
    let q = and_parts (fits_key key.EmptyWord n) (fits_key key.LeastWord u) p.1 in
    and_both _ _ (key_head key.OrderWord a refl p.0)
    (and_both _ _ (key_head key.EmptyWord n refl q.0)
    (and_both _ _ (key_head key.LeastWord u refl q.1) refl))
default_in false c f false a n u d e h i j r = absurd (none-some _ r)

default_heads : (us : List Token) (d : Declared) → default_of us ≡ Some d → heads us ≡ true
default_heads [] d e = refl
default_heads (a ∷ []) d e = absurd (none-some _ e)
default_heads (a ∷ n ∷ []) d e = absurd (none-some _ e)
default_heads (a ∷ n ∷ u ∷ []) d e = default_in _ _ _ _ a n u d refl refl refl refl e
default_heads (a ∷ n ∷ u ∷ y ∷ us) d e = absurd (none-some _ e)

space_in : (b c : Bool) (t : Token) (d : Declared) → is_named (codes "strip") t ≡ b
    → is_named (codes "preserve") t ≡ c
    → cond b (Some (declared.BoundarySpace false)) (cond c
    (Some (declared.BoundarySpace true)) None)
    ≡ Some d → heads (t ∷ []) ≡ true
space_in true c t d e f r = and_both _ _ (named_head _ t e) refl
space_in false true t d e f r = and_both _ _ (named_head _ t f) refl
space_in false false t d e f r = absurd (none-some _ r)

space_heads : (us : List Token) (d : Declared) → space_of us ≡ Some d → heads us ≡ true
space_heads [] d e = refl
space_heads (t ∷ []) d e = space_in _ _ t d refl refl e
space_heads (t ∷ y ∷ us) d e = absurd (none-some _ e)

ordering_heads : (us : List Token) (d : Declared) → ordering_of us ≡ Some d → heads us ≡ true
ordering_heads [] d e = refl
ordering_heads (t ∷ []) d e = and_both _ _ (named_head _ t (held_true _ _ d e)) refl
ordering_heads (t ∷ y ∷ us) d e = absurd (none-some _ e)

copying_heads : (us : List Token) (d : Declared) → copying_of us ≡ Some d → heads us ≡ true
copying_heads [] d e = refl
copying_heads (a ∷ []) d e = absurd (none-some _ e)
copying_heads (a ∷ c ∷ []) d e = absurd (none-some _ e)
copying_heads (a ∷ c ∷ b ∷ []) d e =
    let p = and_parts (is_named (codes "no-preserve") a) _ (held_true _ _ d e) in
    let q = and_parts (fits_key key.Comma c) (is_named (codes "no-inherit") b) p.1 in
    and_both _ _ (named_head _ a p.0)
    (and_both _ _ (key_head key.Comma c refl q.0) (and_both _ _ (named_head _ b q.1) refl))
copying_heads (a ∷ c ∷ b ∷ y ∷ us) d e = absurd (none-some _ e)

setting_heads : (us : List Token) (d : Declared) → setting_of us ≡ Some d → heads us ≡ true
setting_heads [] d e = refl
setting_heads (n ∷ []) d e = absurd (none-some _ e)
setting_heads (n ∷ t ∷ []) d e =
    let p = and_parts (fits_name n) (fits_quoted t) (held_true _ _ d e) in
    and_both _ _ (name_head n p.0) (and_both _ _ (quoted_head t p.1) refl)
setting_heads (n ∷ t ∷ y ∷ us) d e = absurd (none-some _ e)

pub short_heads : (o : Opening) (us : List Token) (d : Declared) → short_of o us ≡ Some d
    → heads us ≡ true
short_heads opening.Version us d e = version_heads us d e
short_heads opening.Namespace us d e = namespace_heads us d e
short_heads opening.Default us d e = default_heads us d e
short_heads opening.BoundarySpace us d e = space_heads us d e
short_heads opening.Ordering us d e = ordering_heads us d e
short_heads opening.CopyNamespaces us d e = copying_heads us d e
short_heads opening.Setting us d e = setting_heads us d e
short_heads opening.Variable us d e = absurd (none-some _ e)
short_heads opening.Function us d e = absurd (none-some _ e)
