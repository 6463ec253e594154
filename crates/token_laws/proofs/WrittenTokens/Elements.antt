-- The tokens of constructors and the pieces of direct elements can be written.
use Rattle.std.proofs.Common.{◌≡◌, ℕ, List, [], ◌∷◌, ◌++◌, map, Bool, true, false, ◌&&◌, not, refl}
use Rattle.std.proofs.Common.{Some}
use Rattle.std.proofs.lemmas.Bool.{and_parts, and_from}
use Rattle.xt_names.specs.declared.names.Binding.{Binding}
use Rattle.xt_names.specs.declared.names.Name.{Name}
use Rattle.xt_syntax.specs.declared.prefixes.Prefixes.{Prefixes}
use Rattle.expr_keys.specs.Classes.{fits}
use Rattle.expr_keys.specs.declared.keys.Key.{Key}
use Rattle.expr_keys.specs.declared.keys.Key.TheVariants as key
use Rattle.expr_keys.specs.declared.tokens.Token.{Token}
use Rattle.expr_keys.specs.declared.tokens.Token.TheVariants as token
use Rattle.expr_keys.specs.declared.productions.Class.{Class}
use Rattle.expr_keys.specs.declared.productions.Class.TheVariants as class
use Rattle.expr_keys.specs.declared.productions.Production.TheVariants as production
use Rattle.expr_terms.specs.declared.raws.Raw.TheViews.{out-Raw}
use Rattle.query_pieces.specs.declared.contexts.Context.{Context}
use Rattle.query_pieces.specs.declared.contexts.Context.TheVariants as context
use Rattle.query_pieces.specs.declared.contexts.Change.TheVariants as change
use Rattle.query_pieces.specs.Points.{change_of_key}
use Rattle.query_pages.specs.TokenTexts.Written.{is_named, joins, is_written_in}
use Rattle.expr_raws.specs.PathRaws.Forms.{Form, list, said}
use Rattle.expr_raws.proofs.PathRaws.Paths.{fitting_sound}
use Rattle.expr_raws.specs.ElementRaws.Makers.{NameForm, fixed, computed, gives_name, node_spelling}
use Rattle.expr_raws.specs.ElementRaws.Makers.{node_token, braced, given, made, element, attribute}
use Rattle.expr_raws.specs.ElementRaws.Makers.{given_pi, instruction, enclosing}
use Rattle.expr_raws.specs.ElementRaws.Runs.{Run, runs, run_token}
use Rattle.expr_raws.specs.ElementRaws.Direct.{PartForm, characters, enclosed, child, value, content}
use Rattle.expr_raws.specs.ElementRaws.Direct.{is_element, is_characters, starts_characters, part_tokens}
use Rattle.expr_raws.specs.ElementRaws.Direct.{parts_tokens, part_can, parts_can, AttrForm, attr_token}
use Rattle.expr_raws.specs.ElementRaws.Direct.{attrs_tokens, attr_can, attrs_can, front_token}
use Rattle.expr_raws.specs.ElementRaws.Direct.{closing_tokens, direct}
use Rattle.token_laws.specs.WrittenTokens.Fit.{are_fit}
use Rattle.token_laws.proofs.WrittenTokens.Says.{W, Says, in_case, Stays, one_says, key_says}
use Rattle.token_laws.proofs.WrittenTokens.Says.{said_says, braced_says, Written, plain, found}
use Rattle.token_laws.proofs.WrittenTokens.Paths.{name_stays, word_stays}
use Rattle.token_laws.proofs.WrittenTokens.Runs.{spot, runs_in, can_parts}
use Rattle.token_laws.proofs.FitTokens.Fits.{Fit}

-- what a name is written by
abbrev pub NameSays : NameForm → Type 0
NameSays (fixed n) = Unit {0}
NameSays (computed f) = f.can ≡ true → Says f.tokens

pub node_fits : (c : Class) (bound : List Binding) (default : List ℕ) (n : Name) (t : Token)
    → node_token c bound default n ≡ Some t → fits c t ≡ true
node_fits c bound default n t e =
    (fitting_sound c (gives_name bound default n) (node_spelling n ∷ []) t e).0

given_written : (k : Key) → change_of_key k ≡ change.Stays → (c : Form)
    → (c.can ≡ true → Says c.tokens) → (t : Token) → Stays t → (given k c t).can ≡ true
    → Written (given k c t)
given_written k e c s t u h = plain _ production.Constructed _ refl refl (λ cs i rest g a.
    key_says k e cs i (t ∷ braced c rest) g (λ x. one_says t u cs i (braced c rest) x
    (λ y. braced_says c (s h) cs i rest y a)))

made_written : (k : Key) → change_of_key k ≡ change.Stays → (f c : Form)
    → (f.can ≡ true → Says f.tokens) → (c.can ≡ true → Says c.tokens)
    → (made k f c).can ≡ true → Written (made k f c)
made_written k e f c sf sc h =
    let u = and_parts f.can c.can h in
    plain _ production.Computed _ refl refl (λ cs i rest g a.
    key_says k e cs i (braced f (braced c rest)) g
    (λ x. braced_says f (sf u.0) cs i (braced c rest) x
    (λ y. braced_says c (sc u.1) cs i rest y a)))

given_pi_written : (c : Form) → (c.can ≡ true → Says c.tokens) → (t : Token) → Stays t
    → (given_pi c t).can ≡ true → Written (given_pi c t)
given_pi_written c s t u h = plain _ production.PiConstructed _ refl refl (λ cs i rest g a.
    key_says key.ProcessingInstructionWord refl cs i (t ∷ braced c rest) g
    (λ x. one_says t u cs i (braced c rest) x
    (λ y. braced_says c (s h) cs i rest y a)))

pub element_written : (p : Prefixes) (f : NameForm) (c : Form) → NameSays f
    → (c.can ≡ true → Says c.tokens) → (element p f c).can ≡ true → Written (element p f c)
element_written p (fixed n) c m s = found Written
    (node_token class.Name p.bound p.element_default n) (given key.ElementWord c)
    (λ t e. name_stays t (node_fits class.Name p.bound p.element_default n t e))
    (λ t u h. given_written key.ElementWord refl c s t u h)
element_written p (computed f) c m s = made_written key.ElementWord refl f c m s

pub attribute_written : (p : Prefixes) (f : NameForm) (c : Form) → NameSays f
    → (c.can ≡ true → Says c.tokens) → (attribute p f c).can ≡ true → Written (attribute p f c)
attribute_written p (fixed n) c m s = found Written
    (node_token class.Name p.bound [] n) (given key.AttributeWord c)
    (λ t e. name_stays t (node_fits class.Name p.bound [] n t e))
    (λ t u h. given_written key.AttributeWord refl c s t u h)
attribute_written p (computed f) c m s = made_written key.AttributeWord refl f c m s

pub instruction_written : (p : Prefixes) (f : NameForm) (c : Form) → NameSays f
    → (c.can ≡ true → Says c.tokens) → (instruction p f c).can ≡ true
    → Written (instruction p f c)
instruction_written p (fixed n) c m s = found Written
    (node_token class.Word p.bound [] n) (given_pi c)
    (λ t e. word_stays t (node_fits class.Word p.bound [] n t e))
    (λ t u h. given_pi_written c s t u h)
instruction_written p (computed f) c m s =
    made_written key.ProcessingInstructionWord refl f c m s

pub enclosing_written : (k : Key) → change_of_key k ≡ change.Stays → (f : Form)
    → Says f.tokens → Written (enclosing k f)
enclosing_written k e f s = plain _ production.Enclosing _ refl refl (λ cs i rest g a.
    key_says k e cs i (braced f rest) g (λ x. braced_says f s cs i rest x a))

-- direct elements

abbrev pub PartSays : PartForm → Type 0
PartSays (characters cs) = Unit {0}
PartSays (enclosed f) = f.can ≡ true → Written f
PartSays (child f) = f.can ≡ true → Written f

abbrev pub AllParts : List PartForm → Type 0
AllParts [] = Unit {0}
AllParts (q ∷ qs) = PartSays q × AllParts qs

rest_fit : (rs : List Run) (ts : List Token) → Fit (map (λ r. run_token r) rs ++ ts) → Fit ts
rest_fit [] ts g = g
rest_fit (r ∷ rs) ts g = rest_fit rs ts g

enter_in : (x : Bool) (cs : List Context) (ts : List Token)
    → W (context.Enclosed ∷ spot x ∷ cs) ts → W (spot x ∷ cs) (token.EnclosedOpen ∷ ts)
enter_in true cs ts w = w
enter_in false cs ts w = w

enclosed_in : (x : Bool) (f : Form) → Says f.tokens → (cs : List Context) (rest : List Token)
    → Fit (part_tokens x (enclosed f) rest) → (Fit rest → W (spot x ∷ cs) rest)
    → W (spot x ∷ cs) (part_tokens x (enclosed f) rest)
enclosed_in x f s cs rest g h =
    let close : List Token = token.Key key.CloseBrace ∷ rest in
    enter_in x cs (said list f close)
    (said_says list f s (context.Enclosed ∷ spot x ∷ cs) refl close g
    (λ a. in_case (context.Enclosed ∷ spot x ∷ cs) refl (token.Key key.CloseBrace) rest refl
    (h a)))

part_in : (x : Bool) (q : PartForm) → PartSays q → part_can x q ≡ true → (cs : List Context)
    (rest : List Token) → (is_characters q ≡ true → joins (spot x) rest ≡ false)
    → Fit (part_tokens x q rest) → (Fit rest → W (spot x ∷ cs) rest)
    → W (spot x ∷ cs) (part_tokens x q rest)
part_in x (characters ds) s c cs rest j g h =
    runs_in x cs ds rest (can_parts x ds c) (j refl) (h (rest_fit (runs x ds) rest g))
part_in x (enclosed f) s c cs rest j g h = enclosed_in x f (s c).whole cs rest g h
part_in true (child f) s c cs rest j g h = absurd (cc)
part_in false (child f) s c cs rest j g h =
    let u = and_parts f.can (is_element (out-Raw f.raw)) c in
    ((s u.0).child u.1).inside cs rest g h

-- parts that begin with no characters join none
parts_apart : (x : Bool) (qs : List PartForm) → AllParts qs → parts_can x qs ≡ true
    → starts_characters qs ≡ false → (rest : List Token) → joins (spot x) rest ≡ false
    → joins (spot x) (parts_tokens x qs rest) ≡ false
parts_apart x [] s c e rest j = j
parts_apart x (characters ds ∷ qs) s c e rest j = absurd (cc)
parts_apart x (enclosed f ∷ qs) s c e rest j = refl
parts_apart true (child f ∷ qs) s c e rest j = absurd (cc)
parts_apart false (child f ∷ qs) s c e rest j =
    let more : Bool = not (false && starts_characters qs) && parts_can false qs in
    let u = and_parts (part_can false (child f)) more c in
    let v = and_parts f.can (is_element (out-Raw f.raw)) u.0 in
    ((s.0 v.0).child v.1).apart (parts_tokens false qs rest)

not_both : (a b : Bool) → not (a && b) ≡ true → a ≡ true → b ≡ false
not_both true false h e = refl
not_both true true h e = absurd (cc)
not_both false b h e = absurd (cc)

parts_in : (x : Bool) (qs : List PartForm) → AllParts qs → parts_can x qs ≡ true
    → (cs : List Context) (rest : List Token) → joins (spot x) rest ≡ false
    → Fit (parts_tokens x qs rest) → (Fit rest → W (spot x ∷ cs) rest)
    → W (spot x ∷ cs) (parts_tokens x qs rest)
parts_in x [] s c cs rest j g h = h g
parts_in x (q ∷ qs) s c cs rest j g h =
    let apart : Bool = not (is_characters q && starts_characters qs) in
    let u = and_parts (part_can x q) (apart && parts_can x qs) c in
    let v = and_parts apart (parts_can x qs) u.1 in
    part_in x q s.0 u.0 cs (parts_tokens x qs rest)
    (λ e. parts_apart x qs s.1 v.1 (not_both (is_characters q) (starts_characters qs) v.0 e)
    rest j) g (λ a. parts_in x qs s.1 v.1 cs rest j a h)

abbrev pub AllAttrs : List AttrForm → Type 0
AllAttrs [] = Unit {0}
AllAttrs (a ∷ attrs) = AllParts a.parts × AllAttrs attrs

attrs_in : (p : Prefixes) (attrs : List AttrForm) → AllAttrs attrs → attrs_can p attrs ≡ true
    → (cs : List Context) (rest : List Token) → Fit (attrs_tokens attrs rest)
    → (Fit rest → W (context.Tag ∷ cs) rest) → W (context.Tag ∷ cs) (attrs_tokens attrs rest)
attrs_in p [] s c cs rest g h = h g
attrs_in p (a ∷ attrs) s c cs rest g h =
    let n : Name = a.name in
    let more : List Token = token.AttributeEnd ∷ attrs_tokens attrs rest in
    let ts : List Token = parts_tokens value a.parts more in
    let u = and_parts (attr_can p a) (attrs_can p attrs) c in
    let v = and_parts (gives_name p.bound [] n (attr_token n)) (parts_can value a.parts) u.0 in
    let f = and_parts (is_named n.prefix n.local) (are_fit ts) g in
    and_from (is_named n.prefix n.local) (is_written_in (spot value ∷ context.Tag ∷ cs) ts) f.0
    (parts_in value a.parts s.0 v.1 (context.Tag ∷ cs) more refl f.1
    (λ x. attrs_in p attrs s.1 u.1 cs rest x h))

closing_in : (n : Name) (ps : List PartForm) → AllParts ps → parts_can content ps ≡ true
    → (cs : List Context) (rest : List Token) → Fit (closing_tokens n ps rest)
    → (Fit rest → W cs rest) → W (context.Tag ∷ cs) (closing_tokens n ps rest)
closing_in n [] s c cs rest g h = h g
closing_in n (q ∷ qs) s c cs rest g h =
    parts_in content (q ∷ qs) s c cs (token.EndTag n.prefix n.local ∷ rest) refl g
    (λ x. let f = and_parts (is_named n.prefix n.local) (are_fit rest) x in
    and_from (is_named n.prefix n.local) (is_written_in cs rest) f.0 (h f.1))

-- what comes after the front of an element
abbrev behind_front : Name → List AttrForm → List PartForm → List Token → List Token
behind_front n attrs ps rest = attrs_tokens attrs (closing_tokens n ps rest)

pub direct_written : (p : Prefixes) (n : Name) (attrs : List AttrForm) (ps : List PartForm)
    → AllAttrs attrs → AllParts ps → (direct p n attrs ps).can ≡ true
    → Written (direct p n attrs ps)
direct_written p n attrs ps s t c =
    let u = and_parts (gives_name p.bound p.element_default n (front_token n))
    (attrs_can p attrs && parts_can content ps) c in
    let v = and_parts (attrs_can p attrs) (parts_can content ps) u.1 in
    record {
      whole = λ cs i rest g h.
          let f = and_parts (is_named n.prefix n.local) (are_fit
          (behind_front n attrs ps rest)) g in
          in_case cs i (front_token n) (behind_front n attrs ps rest) f.0
          (opened v.0 v.1 cs rest f.1 h);
      child = λ e. record {
        apart = λ rest. refl;
        inside = λ cs rest g h.
            let f = and_parts (is_named n.prefix n.local) (are_fit
            (behind_front n attrs ps rest)) g in
            and_from (is_named n.prefix n.local)
            (is_written_in (context.Tag ∷ context.Content ∷ cs) (behind_front n attrs ps rest)) f.0
            (opened v.0 v.1 (context.Content ∷ cs) rest f.1 h);
      };
    }
  where
    opened : attrs_can p attrs ≡ true → parts_can content ps ≡ true → (cs : List Context)
        (rest : List Token) → Fit (behind_front n attrs ps rest) → (Fit rest → W cs rest)
        → W (context.Tag ∷ cs) (behind_front n attrs ps rest)
    opened d e cs rest g h = attrs_in p attrs s d cs (closing_tokens n ps rest) g
        (λ x. closing_in n ps t e cs rest x h)
