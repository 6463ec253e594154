-- The tokens of constructors and the pieces of direct elements are fit.
use Rattle.std.proofs.Common.{◌≡◌, ℕ, List, [], ◌∷◌, ◌++◌, map, Bool, true, false, ◌&&◌, not, refl}
use Rattle.std.proofs.Common.{sym, ◌∙◌, Some}
use Rattle.std.proofs.lemmas.Bool.{and_parts, and_from}
use Rattle.xt_names.specs.declared.names.Binding.{Binding}
use Rattle.xt_names.specs.declared.names.Name.{Name}
use Rattle.xt_syntax.specs.declared.prefixes.Prefixes.{Prefixes}
use Rattle.closed_queries.specs.Texts.{is_sound_name}
use Rattle.expr_keys.specs.declared.keys.Key.{Key}
use Rattle.expr_keys.specs.declared.keys.Key.TheVariants as key
use Rattle.expr_keys.specs.declared.tokens.Token.{Token}
use Rattle.expr_keys.specs.declared.tokens.Token.TheVariants as token
use Rattle.expr_keys.specs.declared.productions.Class.{Class}
use Rattle.expr_keys.specs.declared.productions.Class.TheVariants as class
use Rattle.expr_terms.specs.declared.raws.Raw.TheViews.{out-Raw}
use Rattle.query_pages.specs.TokenTexts.Written.{is_named}
use Rattle.expr_raws.specs.PathRaws.Forms.{Form, list}
use Rattle.expr_raws.specs.PathRaws.Names.{fitting}
use Rattle.expr_raws.specs.ElementRaws.Makers.{NameForm, fixed, computed, gives_name, node_spelling}
use Rattle.expr_raws.specs.ElementRaws.Makers.{node_token, braced, given, made, element, attribute}
use Rattle.expr_raws.specs.ElementRaws.Makers.{given_pi, instruction, enclosing}
use Rattle.expr_raws.specs.ElementRaws.Runs.{Run, runs, run_token}
use Rattle.expr_raws.specs.ElementRaws.Direct.{PartForm, characters, enclosed, child, value, content}
use Rattle.expr_raws.specs.ElementRaws.Direct.{is_element, is_characters, starts_characters, part_tokens}
use Rattle.expr_raws.specs.ElementRaws.Direct.{parts_tokens, part_can, parts_can, AttrForm, attr_token}
use Rattle.expr_raws.specs.ElementRaws.Direct.{attrs_tokens, attr_can, attrs_can, front_token, child_tokens}
use Rattle.expr_raws.specs.ElementRaws.Direct.{closing_tokens, direct}
use Rattle.token_laws.specs.WrittenTokens.Fit.{are_fit}
use Rattle.token_laws.specs.FitTokens.Keeps.{are_kept}
use Rattle.token_laws.proofs.FitTokens.Fits.{Fit, Kept, Fits, May, one_fits, said_fits, braced_fits, found}
use Rattle.token_laws.proofs.FitTokens.Names.{first_may, node_may}

-- what a name is written by
abbrev pub NameFits : NameForm → Type 0
NameFits (fixed n) = is_sound_name n ≡ true
NameFits (computed f) = f.can ≡ true → Fits f.tokens

noded : (c : Class) (bound : List Binding) (default : List ℕ) (n : Name)
    → is_sound_name n ≡ true → (t : Token) → node_token c bound default n ≡ Some t → May t
noded c bound default n s t e = first_may (fitting c (gives_name bound default n))
    (node_spelling n ∷ []) t e (node_may n s)

given_fits : (k : Key) (c : Form) → (c.can ≡ true → Fits c.tokens) → (t : Token) → May t
    → (given k c t).can ≡ true → Fits (given k c t).tokens
given_fits k c s t m h rest g a =
    one_fits t m (braced c rest) g (λ y. braced_fits c (s h) rest y a)

made_fits : (k : Key) (f c : Form) → (f.can ≡ true → Fits f.tokens)
    → (c.can ≡ true → Fits c.tokens) → (made k f c).can ≡ true → Fits (made k f c).tokens
made_fits k f c sf sc h rest g a =
    let u = and_parts f.can c.can h in
    braced_fits f (sf u.0) (braced c rest) g (λ y. braced_fits c (sc u.1) rest y a)

pub element_fits : (p : Prefixes) (f : NameForm) (c : Form) → NameFits f
    → (c.can ≡ true → Fits c.tokens) → (element p f c).can ≡ true → Fits (element p f c).tokens
element_fits p (fixed n) c m s = found
    (node_token class.Name p.bound p.element_default n) (given key.ElementWord c)
    (noded class.Name p.bound p.element_default n m)
    (λ t u h. given_fits key.ElementWord c s t u h)
element_fits p (computed f) c m s = made_fits key.ElementWord f c m s

pub attribute_fits : (p : Prefixes) (f : NameForm) (c : Form) → NameFits f
    → (c.can ≡ true → Fits c.tokens) → (attribute p f c).can ≡ true
    → Fits (attribute p f c).tokens
attribute_fits p (fixed n) c m s = found
    (node_token class.Name p.bound [] n) (given key.AttributeWord c)
    (noded class.Name p.bound [] n m) (λ t u h. given_fits key.AttributeWord c s t u h)
attribute_fits p (computed f) c m s = made_fits key.AttributeWord f c m s

pub instruction_fits : (p : Prefixes) (f : NameForm) (c : Form) → NameFits f
    → (c.can ≡ true → Fits c.tokens) → (instruction p f c).can ≡ true
    → Fits (instruction p f c).tokens
instruction_fits p (fixed n) c m s = found (node_token class.Word p.bound [] n) (given_pi c)
    (noded class.Word p.bound [] n m) (λ t u h. λ rest g a.
    one_fits t u (braced c rest) g (λ y. braced_fits c (s h) rest y a))
instruction_fits p (computed f) c m s = made_fits key.ProcessingInstructionWord f c m s

pub enclosing_fits : (k : Key) (f : Form) → Fits f.tokens → Fits (enclosing k f).tokens
enclosing_fits k f s rest g a = braced_fits f s rest g a

-- direct elements

abbrev pub PartFits : PartForm → Type 0
PartFits (characters cs) = Unit {0}
PartFits (enclosed f) = f.can ≡ true → Fits f.tokens
PartFits (child f) = f.can ≡ true → Fits f.tokens

abbrev pub AllParts : List PartForm → Type 0
AllParts [] = Unit {0}
AllParts (q ∷ qs) = PartFits q × AllParts qs

runs_fit : (rs : List Run) (ts : List Token) → Kept (map (λ r. run_token r) rs ++ ts)
    → (Kept ts → Fit ts) → Fit (map (λ r. run_token r) rs ++ ts)
runs_fit [] ts g h = h g
runs_fit (r ∷ rs) ts g h = runs_fit rs ts g h

-- the front of an element is as fit within another one
child_fit : (ts : List Token) → are_fit (child_tokens ts) ≡ are_fit ts
child_fit [] = refl
child_fit (token.StartTagOpen p n ∷ ts) = refl
child_fit (_ ∷ ts) = refl

child_kept : (ts : List Token) → are_kept (child_tokens ts) ≡ are_kept ts
child_kept [] = refl
child_kept (token.StartTagOpen p n ∷ ts) = refl
child_kept (_ ∷ ts) = refl

part_fits : (x : Bool) (q : PartForm) → PartFits q → part_can x q ≡ true
    → Fits (λ rest. part_tokens x q rest)
part_fits x (characters ds) s c rest g h = runs_fit (runs x ds) rest g h
part_fits x (enclosed f) s c rest g h =
    said_fits list f (s c) (token.Key key.CloseBrace ∷ rest) g h
part_fits true (child f) s c rest g h = absurd (cc)
part_fits false (child f) s c rest g h =
    let u = and_parts f.can (is_element (out-Raw f.raw)) c in
    child_fit (f.tokens rest) ∙ s u.0 rest (sym (child_kept (f.tokens rest)) ∙ g) h

parts_fit : (x : Bool) (qs : List PartForm) → AllParts qs → parts_can x qs ≡ true
    → Fits (λ rest. parts_tokens x qs rest)
parts_fit x [] s c rest g h = h g
parts_fit x (q ∷ qs) s c rest g h =
    let apart : Bool = not (is_characters q && starts_characters qs) in
    let u = and_parts (part_can x q) (apart && parts_can x qs) c in
    let v = and_parts apart (parts_can x qs) u.1 in
    part_fits x q s.0 u.0 (parts_tokens x qs rest) g
    (λ a. parts_fit x qs s.1 v.1 rest a h)

pub record AttrFits (a : AttrForm) : Type 0 where
  pub name : is_named a.name.prefix a.name.local ≡ true
  pub parts : AllParts a.parts

abbrev pub AllAttrs : List AttrForm → Type 0
AllAttrs [] = Unit {0}
AllAttrs (a ∷ attrs) = AttrFits a × AllAttrs attrs

attrs_fit : (p : Prefixes) (attrs : List AttrForm) → AllAttrs attrs → attrs_can p attrs ≡ true
    → Fits (λ rest. attrs_tokens attrs rest)
attrs_fit p [] s c rest g h = h g
attrs_fit p (a ∷ attrs) s c rest g h =
    let more : List Token = token.AttributeEnd ∷ attrs_tokens attrs rest in
    let u = and_parts (attr_can p a) (attrs_can p attrs) c in
    let v = and_parts (gives_name p.bound [] a.name (attr_token a.name))
    (parts_can value a.parts) u.0 in
    and_from (is_named a.name.prefix a.name.local) (are_fit (parts_tokens value a.parts more))
    s.0.name (parts_fit value a.parts s.0.parts v.1 more g
    (λ x. attrs_fit p attrs s.1 u.1 rest x h))

closing_fits : (n : Name) → is_named n.prefix n.local ≡ true → (ps : List PartForm)
    → AllParts ps → parts_can content ps ≡ true → Fits (λ rest. closing_tokens n ps rest)
closing_fits n e [] s c rest g h = h g
closing_fits n e (q ∷ qs) s c rest g h =
    parts_fit content (q ∷ qs) s c (token.EndTag n.prefix n.local ∷ rest) g
    (λ x. and_from (is_named n.prefix n.local) (are_fit rest) e (h x))

pub direct_fits : (p : Prefixes) (n : Name) → is_named n.prefix n.local ≡ true
    → (attrs : List AttrForm) (ps : List PartForm) → AllAttrs attrs → AllParts ps
    → (direct p n attrs ps).can ≡ true → Fits (direct p n attrs ps).tokens
direct_fits p n e attrs ps s t c rest g h =
    let u = and_parts (gives_name p.bound p.element_default n (front_token n))
    (attrs_can p attrs && parts_can content ps) c in
    let v = and_parts (attrs_can p attrs) (parts_can content ps) u.1 in
    let more : List Token = closing_tokens n ps rest in
    and_from (is_named n.prefix n.local) (are_fit (attrs_tokens attrs more)) e
    (attrs_fit p attrs s v.0 more g (λ x. closing_fits n e ps t v.1 rest x h))
