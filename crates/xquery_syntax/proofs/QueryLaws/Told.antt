-- What sound tokens tell of the declarations that they spell.
use Rattle.std.proofs.Common.{◌≡◌, ℕ, List, [], ◌∷◌, ◌++◌, map, Bool, true, false, cond, ◌&&◌, Option}
use Rattle.std.proofs.Common.{Some, None, codes, refl, sym, ap, subst, ◌∙◌, if◌then◌else◌}
use Rattle.std.proofs.lemmas.Bool.{and_parts}
use Rattle.std.proofs.lemmas.Option.{same_Some, none-some}
use Rattle.xt_names.specs.Classes.{is_xml_text}
use Rattle.expr_keys.specs.Tokens.{fits_key, fits_word, fits_name, fits_function}
use Rattle.expr_keys.specs.Classes.{fits_quoted}
use Rattle.expr_keys.specs.declared.keys.Key.TheVariants as key
use Rattle.expr_keys.specs.declared.productions.Language.TheVariants.{Xquery as xquery}
use Rattle.expr_keys.specs.declared.productions.Nonterminal.TheVariants.{ExprSingle as expr_single}
use Rattle.expr_terms.specs.declared.raws.Raw.{Raw}
use Rattle.expr_keys.specs.declared.tokens.Token.{Token}
use Rattle.expr_keys.specs.declared.tokens.Token.TheVariants as token
use Rattle.expr_grammar.specs.Grammar.{Derives, Spells, SpellsType}
use Rattle.query_grammar.specs.Heads.{is_utf8, version_of, namespace_of, in_default, default_of}
use Rattle.query_grammar.specs.Heads.{space_of, ordering_of, copying_of, setting_of, short_of}
use Rattle.query_grammar.specs.Prolog.{Cut, here, there, IsTyping, untyped, as_type, IsTyped, typed}
use Rattle.query_grammar.specs.Prolog.{AreParams, last, before, MayBeParams, none, some}
use Rattle.query_grammar.specs.Prolog.{IsSignature, signed, IsBehind, short, outside, valued}
use Rattle.query_grammar.specs.Prolog.{defined, IsDeclaration, opened, IsQuery, body, declares}
use Rattle.query_grammar.specs.Words.{is_named, text_of}
use Rattle.query_grammar.specs.declared.declared.Declared.{Declared}
use Rattle.query_grammar.specs.declared.declared.Declared.TheVariants as declared
use Rattle.query_grammar.specs.declared.declared.Opening.{Opening}
use Rattle.query_grammar.specs.declared.declared.Opening.TheVariants as opening
use Rattle.query_grammar.specs.declared.declared.Typed.{Typed}
use Rattle.query_reader.specs.QuerySteps.Stands.{nest_in}
use Rattle.sound_expressions.specs.SoundForms.Sound.{is_sound_token, are_sound}

-- sound tokens spell the type, the initialiser, the body
pub record IsKind (k : Raw) : Type 0 where
  pub tokens : List Token
  pub sound : are_sound tokens ≡ true
  pub spelled : SpellsType xquery tokens k

pub record IsInitial (w : Raw) : Type 0 where
  pub tokens : List Token
  pub sound : are_sound tokens ≡ true
  pub spelled : Derives xquery expr_single tokens w []

pub record IsBody (w : Raw) : Type 0 where
  pub tokens : List Token
  pub sound : are_sound tokens ≡ true
  pub spelled : Spells xquery tokens w

abbrev pub IfKind : Option Raw → Type 0
IfKind None = Unit {0}
IfKind (Some k) = IsKind k

abbrev pub IfInitial : Option Raw → Type 0
IfInitial None = Unit {0}
IfInitial (Some w) = IsInitial w

pub record ToldTyped (v : Typed) : Type 0 where
  pub fits : fits_name v.name ≡ true
  pub sound : is_sound_token v.name ≡ true
  pub kind : IfKind v.kind

abbrev pub AllTyped : List Typed → Type 0
AllTyped [] = Unit {0}
AllTyped (p ∷ ps) = ToldTyped p × AllTyped ps

abbrev pub Told : Declared → Type 0
Told (declared.Namespace p t) =
    (fits_word p ≡ true) × (is_sound_token p ≡ true) × (is_xml_text t ≡ true)
Told (declared.ElementDefault t) = is_xml_text t ≡ true
Told (declared.FunctionDefault t) = is_xml_text t ≡ true
Told (declared.Variable v w) = ToldTyped v × IfInitial w
Told (declared.Function n ps k w) =
    (fits_function n ≡ true) × (is_sound_token n ≡ true) × AllTyped ps × IfKind k × IsBody w
Told _ = Unit {0}

abbrev pub AllTold : List Declared → Type 0
AllTold [] = Unit {0}
AllTold (d ∷ ds) = Told d × AllTold ds

-- tokens that are parted
pub cut_sound : {t : Token} {rest all us : List Token} → Cut t rest all us → are_sound all ≡ true
    → (are_sound us ≡ true) × (are_sound rest ≡ true)
cut_sound {t = t} {rest = rest} here h = (refl, (and_parts (is_sound_token t) (are_sound rest) h).1)
cut_sound (there {x = x} {all = all} c) h =
    let a = and_parts (is_sound_token x) (are_sound all) h in
    let r = cut_sound c a.1 in
    (rw (a.0, r.0) refl, r.1)

text_sound : (t : Token) → is_sound_token t ≡ true → is_xml_text (text_of t) ≡ true
unfolding is_xml_text
text_sound (token.Quoted cs) h = h
text_sound _ h = refl

-- what stands without an expression
pub record IsShort (d : Declared) : Type 0 where
  pub told : Told d
  pub nest : nest_in d ≡ 0

chosen : {A : Type 0} (b : Bool) (x y : A) → (if b then Some x else None) ≡ Some y
    → (b ≡ true) × (x ≡ y)
chosen true x y e = (refl, same_Some _ _ e)
chosen false x y e = absurd (none-some _ e)

is_this : (x d : Declared) → x ≡ d → IsShort x → IsShort d
is_this x d e s = subst IsShort e s

version_short : (ts : List Token) (d : Declared) → version_of ts ≡ Some d → IsShort d
version_short [] d e = absurd (none-some _ e)
version_short (v ∷ []) d e =
    is_this _ d (chosen (fits_quoted v) (declared.Version (text_of v)) d e).1
    (record { told = tt; nest = refl })
version_short (v ∷ x ∷ []) d e = absurd (none-some _ e)
version_short (v ∷ x ∷ u ∷ []) d e =
    is_this _ d (chosen (fits_quoted v && (is_named (codes "encoding") x && is_utf8 u))
    (declared.Version (text_of v)) d e).1 (record { told = tt; nest = refl })
version_short (v ∷ x ∷ u ∷ y ∷ ts) d e = absurd (none-some _ e)

namespace_short : (ts : List Token) (d : Declared) → are_sound ts ≡ true
    → namespace_of ts ≡ Some d → IsShort d
namespace_short [] d h e = absurd (none-some _ e)
namespace_short (p ∷ []) d h e = absurd (none-some _ e)
namespace_short (p ∷ q ∷ []) d h e = absurd (none-some _ e)
namespace_short (p ∷ q ∷ u ∷ []) d h e =
    let c = chosen (fits_word p && (fits_key key.Equal q && fits_quoted u))
    (declared.Namespace p (text_of u)) d e in
    let a = and_parts (is_sound_token p) (are_sound (q ∷ u ∷ [])) h in
    let b = and_parts (is_sound_token q) (are_sound (u ∷ [])) a.1 in
    let g = and_parts (is_sound_token u) true b.1 in
    let f = and_parts (fits_word p) _ c.0 in
    is_this _ d c.1 (record { told = (f.0, a.0, text_sound u g.0); nest = refl })
namespace_short (p ∷ q ∷ u ∷ y ∷ ts) d h e = absurd (none-some _ e)

default_short : (a n u : Token) (d : Declared) → is_sound_token u ≡ true
    → in_default a n u ≡ Some d → IsShort d
default_short a n u d h e =
    go (fits_key key.NamespaceWord n && fits_quoted u) (fits_key key.ElementWord a)
    (is_named (codes "function") a)
    (fits_key key.OrderWord a && (fits_key key.EmptyWord n && fits_key key.LeastWord u)) e
  where
    go : (b c f o : Bool) → cond b (cond c (Some (declared.ElementDefault (text_of u)))
        (cond f (Some (declared.FunctionDefault (text_of u))) None))
        (cond o (Some declared.Setter) None) ≡ Some d → IsShort d
    go true true f o i =
        is_this _ d (same_Some _ _ i) (record { told = text_sound u h; nest = refl })
    go true false true o i =
        is_this _ d (same_Some _ _ i) (record { told = text_sound u h; nest = refl })
    go true false false o i = absurd (none-some _ i)
    go false c f true i = is_this _ d (same_Some _ _ i) (record { told = tt; nest = refl })
    go false c f false i = absurd (none-some _ i)

defaults_short : (ts : List Token) (d : Declared) → are_sound ts ≡ true
    → default_of ts ≡ Some d → IsShort d
defaults_short [] d h e = absurd (none-some _ e)
defaults_short (a ∷ []) d h e = absurd (none-some _ e)
defaults_short (a ∷ n ∷ []) d h e = absurd (none-some _ e)
defaults_short (a ∷ n ∷ u ∷ []) d h e =
    let x = and_parts (is_sound_token a) (are_sound (n ∷ u ∷ [])) h in
    let y = and_parts (is_sound_token n) (are_sound (u ∷ [])) x.1 in
    default_short a n u d (and_parts (is_sound_token u) true y.1).0 e
defaults_short (a ∷ n ∷ u ∷ y ∷ ts) d h e = absurd (none-some _ e)

space_short : (ts : List Token) (d : Declared) → space_of ts ≡ Some d → IsShort d
space_short [] d e = absurd (none-some _ e)
space_short (t ∷ []) d e = go (is_named (codes "strip") t) (is_named (codes "preserve") t) e
  where
    go : (b c : Bool) → cond b (Some (declared.BoundarySpace false))
        (cond c (Some (declared.BoundarySpace true)) None) ≡ Some d → IsShort d
    go true c i = is_this _ d (same_Some _ _ i) (record { told = tt; nest = refl })
    go false true i = is_this _ d (same_Some _ _ i) (record { told = tt; nest = refl })
    go false false i = absurd (none-some _ i)
space_short (t ∷ u ∷ ts) d e = absurd (none-some _ e)

ordering_short : (ts : List Token) (d : Declared) → ordering_of ts ≡ Some d → IsShort d
ordering_short [] d e = absurd (none-some _ e)
ordering_short (t ∷ []) d e =
    is_this _ d (chosen (is_named (codes "ordered") t) declared.Setter d e).1
    (record { told = tt; nest = refl })
ordering_short (t ∷ u ∷ ts) d e = absurd (none-some _ e)

copying_short : (ts : List Token) (d : Declared) → copying_of ts ≡ Some d → IsShort d
copying_short [] d e = absurd (none-some _ e)
copying_short (a ∷ []) d e = absurd (none-some _ e)
copying_short (a ∷ c ∷ []) d e = absurd (none-some _ e)
copying_short (a ∷ c ∷ b ∷ []) d e =
    is_this _ d (chosen (is_named (codes "no-preserve") a && (fits_key key.Comma c
    && is_named (codes "no-inherit") b)) declared.Setter d e).1 (record { told = tt; nest = refl })
copying_short (a ∷ c ∷ b ∷ y ∷ ts) d e = absurd (none-some _ e)

setting_short : (ts : List Token) (d : Declared) → setting_of ts ≡ Some d → IsShort d
setting_short [] d e = absurd (none-some _ e)
setting_short (n ∷ []) d e = absurd (none-some _ e)
setting_short (n ∷ t ∷ []) d e =
    is_this _ d (chosen (fits_name n && fits_quoted t) (declared.Setting n (text_of t)) d e).1
    (record { told = tt; nest = refl })
setting_short (n ∷ t ∷ u ∷ ts) d e = absurd (none-some _ e)

pub short_is : (o : Opening) (ts : List Token) (d : Declared) → are_sound ts ≡ true
    → short_of o ts ≡ Some d → IsShort d
short_is opening.Version ts d h e = version_short ts d e
short_is opening.Namespace ts d h e = namespace_short ts d h e
short_is opening.Default ts d h e = defaults_short ts d h e
short_is opening.BoundarySpace ts d h e = space_short ts d e
short_is opening.Ordering ts d h e = ordering_short ts d e
short_is opening.CopyNamespaces ts d h e = copying_short ts d e
short_is opening.Setting ts d h e = setting_short ts d e
short_is opening.Variable ts d h e = absurd (none-some _ e)
short_is opening.Function ts d h e = absurd (none-some _ e)

-- types and parameters
typing_told : {ts : List Token} {k : Option Raw} → IsTyping ts k → are_sound ts ≡ true → IfKind k
typing_told untyped h = tt
typing_told (as_type {a = a} {ts = ts} f s) h =
    record { tokens = ts; sound = (and_parts (is_sound_token a) (are_sound ts) h).1; spelled = s }

typed_told : {ts : List Token} {v : Typed} → IsTyped ts v → are_sound ts ≡ true → ToldTyped v
typed_told (typed {d = d} {n = n} {ts = ts} e f t) h =
    let a = and_parts (is_sound_token d) (are_sound (n ∷ ts)) h in
    let b = and_parts (is_sound_token n) (are_sound ts) a.1 in
    record { fits = f; sound = b.0; kind = typing_told t b.1 }

params_told : {ts : List Token} {ps : List Typed} → AreParams ts ps → are_sound ts ≡ true
    → AllTyped ps
params_told (last t) h = (typed_told t h, tt)
params_told (before c t q) h = let r = cut_sound c h in (typed_told t r.0, params_told q r.1)

may_be_told : {ts : List Token} {ps : List Typed} → MayBeParams ts ps → are_sound ts ≡ true
    → AllTyped ps
may_be_told none h = tt
may_be_told (some q) h = params_told q h

record ToldSignature (n : Token) (ps : List Typed) (k : Option Raw) : Type 0 where
  fits : fits_function n ≡ true
  sound : is_sound_token n ≡ true
  params : AllTyped ps
  kind : IfKind k

signature_told : {ts : List Token} {n : Token} {ps : List Typed} {k : Option Raw}
    → IsSignature ts n ps k → are_sound ts ≡ true → ToldSignature n ps k
signature_told (signed {q = q} {o = o} {inside = inside} f g c m t) h =
    let a = and_parts (is_sound_token q) (are_sound (o ∷ inside)) h in
    let b = and_parts (is_sound_token o) (are_sound inside) a.1 in
    let r = cut_sound c b.1 in
    record { fits = f; sound = a.0; params = may_be_told m r.0; kind = typing_told t r.1 }

behind_told : {o : Opening} {us : List Token} {d : Declared} → IsBehind o us d
    → are_sound us ≡ true → Told d
behind_told (short {o = o} {us = us} {d = d} e) h = (short_is o us d h e).told
behind_told (outside c t e) h = let r = cut_sound c h in (typed_told t r.0, tt)
behind_told (valued {ts = ts} c t d) h =
    let r = cut_sound c h in
    (typed_told t r.0, record { tokens = ts; sound = r.1; spelled = d })
behind_told (defined {ts = ts} c g e s) h =
    let r = cut_sound c h in
    let q = cut_sound e r.1 in
    let x = signature_told g r.0 in
    (x.fits, x.sound, x.params, x.kind, record { tokens = ts; sound = q.0; spelled = s })

declaration_told : {us : List Token} {d : Declared} → IsDeclaration us d → are_sound us ≡ true
    → Told d
declaration_told (opened {a = a} {b = b} {us = us} e q) h =
    let x = and_parts (is_sound_token a) (are_sound (b ∷ us)) h in
    behind_told q (and_parts (is_sound_token b) (are_sound us) x.1).1

pub query_told : {ts : List Token} {ds : List Declared} {v : Raw} → IsQuery ts ds v
    → are_sound ts ≡ true → AllTold ds × IsBody v
query_told (body {ts = ts} s) h = (tt, record { tokens = ts; sound = h; spelled = s })
query_told (declares c d q) h =
    let r = cut_sound c h in
    let more = query_told q r.1 in
    ((declaration_told d r.0, more.0), more.1)
