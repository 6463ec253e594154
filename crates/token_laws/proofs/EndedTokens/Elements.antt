-- The tokens of constructors and the pieces of direct elements end.
use Rattle.std.proofs.Common.{◌≡◌, List, [], ◌∷◌, ◌++◌, Bool, true, false, ◌&&◌, not, refl, ◌∙◌, ap}
use Rattle.std.proofs.lemmas.Bool.{and_parts}
use Rattle.xt_names.specs.declared.names.Name.{Name}
use Rattle.xt_syntax.specs.declared.prefixes.Prefixes.{Prefixes}
use Rattle.expr_keys.specs.declared.keys.Key.{Key}
use Rattle.expr_keys.specs.declared.keys.Key.TheVariants as key
use Rattle.expr_keys.specs.declared.tokens.Token.{Token}
use Rattle.expr_keys.specs.declared.tokens.Token.TheVariants as token
use Rattle.expr_keys.specs.declared.productions.Class.TheVariants as class
use Rattle.expr_terms.specs.declared.raws.Raw.TheViews.{out-Raw}
use Rattle.expr_raws.specs.PathRaws.Forms.{Form, list}
use Rattle.expr_raws.specs.ElementRaws.Makers.{NameForm, fixed, computed, gives_name, node_token, braced}
use Rattle.expr_raws.specs.ElementRaws.Makers.{given, made, element, attribute, given_pi, instruction}
use Rattle.expr_raws.specs.ElementRaws.Makers.{enclosing}
use Rattle.expr_raws.specs.ElementRaws.Runs.{run_tokens}
use Rattle.expr_raws.specs.ElementRaws.Direct.{PartForm, characters, enclosed, child, value, content}
use Rattle.expr_raws.specs.ElementRaws.Direct.{is_element, is_characters, starts_characters, part_tokens}
use Rattle.expr_raws.specs.ElementRaws.Direct.{parts_tokens, part_can, parts_can, AttrForm, attr_token}
use Rattle.expr_raws.specs.ElementRaws.Direct.{attrs_tokens, attr_can, attrs_can, front_token}
use Rattle.expr_raws.specs.ElementRaws.Direct.{child_tokens, shut_token, closing_tokens, direct}
use Rattle.token_laws.proofs.EndedTokens.Ends.{Ends, is_nothing, Ended, both, these, said_ends}
use Rattle.token_laws.proofs.EndedTokens.Ends.{braced_ends, found}

-- what a name is written by
abbrev pub NameEnds : NameForm → Type 0
NameEnds (fixed n) = Unit {0}
NameEnds (computed f) = f.can ≡ true → Ended f

given_ends : (k : Key) (c : Form) → (c.can ≡ true → Ended c) → (t : Token)
    → (given k c t).can ≡ true → Ended (given k c t)
given_ends k c s t h = record {
  ends = λ ts rest. ap (λ x. token.Key k ∷ t ∷ x) (braced_ends c (s h).ends ts rest);
  fills = λ ts. refl;
}

made_ends : (k : Key) (f c : Form) → (f.can ≡ true → Ended f) → (c.can ≡ true → Ended c)
    → (made k f c).can ≡ true → Ended (made k f c)
made_ends k f c sf sc h =
    let u = and_parts f.can c.can h in
    record {
      ends = λ ts rest. ap (λ x. token.Key k ∷ x) (both (λ r. braced f r) (λ r. braced c r)
          (braced_ends f (sf u.0).ends) (braced_ends c (sc u.1).ends) ts rest);
      fills = λ ts. refl;
    }

pub element_ends : (p : Prefixes) (f : NameForm) (c : Form) → NameEnds f
    → (c.can ≡ true → Ended c) → (element p f c).can ≡ true → Ended (element p f c)
element_ends p (fixed n) c m s = found Ended
    (node_token class.Name p.bound p.element_default n) (given key.ElementWord c)
    (given_ends key.ElementWord c s)
element_ends p (computed f) c m s = made_ends key.ElementWord f c m s

pub attribute_ends : (p : Prefixes) (f : NameForm) (c : Form) → NameEnds f
    → (c.can ≡ true → Ended c) → (attribute p f c).can ≡ true → Ended (attribute p f c)
attribute_ends p (fixed n) c m s = found Ended (node_token class.Name p.bound [] n)
    (given key.AttributeWord c) (given_ends key.AttributeWord c s)
attribute_ends p (computed f) c m s = made_ends key.AttributeWord f c m s

pub instruction_ends : (p : Prefixes) (f : NameForm) (c : Form) → NameEnds f
    → (c.can ≡ true → Ended c) → (instruction p f c).can ≡ true → Ended (instruction p f c)
instruction_ends p (fixed n) c m s = found Ended (node_token class.Word p.bound [] n) (given_pi c)
    (λ t h. record {
      ends = λ ts rest. ap (λ x. token.Key key.ProcessingInstructionWord ∷ t ∷ x)
          (braced_ends c (s h).ends ts rest);
      fills = λ ts. refl;
    })
instruction_ends p (computed f) c m s = made_ends key.ProcessingInstructionWord f c m s

pub enclosing_ends : (k : Key) (f : Form) → Ended f → Ended (enclosing k f)
enclosing_ends k f s = record {
  ends = λ ts rest. ap (λ x. token.Key k ∷ x) (braced_ends f s.ends ts rest);
  fills = λ ts. refl;
}

-- direct elements

abbrev pub PartEnds : PartForm → Type 0
PartEnds (characters cs) = Unit {0}
PartEnds (enclosed f) = f.can ≡ true → Ended f
PartEnds (child f) = f.can ≡ true → Ended f

abbrev pub AllParts : List PartForm → Type 0
AllParts [] = Unit {0}
AllParts (q ∷ qs) = PartEnds q × AllParts qs

child_of : (us rest : List Token) → is_nothing us ≡ false
    → child_tokens (us ++ rest) ≡ child_tokens us ++ rest
child_of [] rest e = absurd (cc)
child_of (u ∷ us) rest e = refl

part_ends : (x : Bool) (q : PartForm) → PartEnds q → part_can x q ≡ true
    → Ends (λ rest. part_tokens x q rest)
part_ends x (characters cs) s c ts rest = these (run_tokens x cs) ts rest
part_ends x (enclosed f) s c ts rest = ap (λ y. token.EnclosedOpen ∷ y)
    (said_ends list f (s c).ends (token.Key key.CloseBrace ∷ ts) rest)
part_ends true (child f) s c ts rest = absurd (cc)
part_ends false (child f) s c ts rest =
    let u = and_parts f.can (is_element (out-Raw f.raw)) c in
    ap child_tokens ((s u.0).ends ts rest) ∙ child_of (f.tokens ts) rest ((s u.0).fills ts)

parts_end : (x : Bool) (qs : List PartForm) → AllParts qs → parts_can x qs ≡ true
    → Ends (λ rest. parts_tokens x qs rest)
parts_end x [] s c = λ ts rest. refl
parts_end x (q ∷ qs) s c =
    let apart : Bool = not (is_characters q && starts_characters qs) in
    let u = and_parts (part_can x q) (apart && parts_can x qs) c in
    let v = and_parts apart (parts_can x qs) u.1 in
    both (λ r. part_tokens x q r) (λ r. parts_tokens x qs r) (part_ends x q s.0 u.0)
    (parts_end x qs s.1 v.1)

abbrev pub AllAttrs : List AttrForm → Type 0
AllAttrs [] = Unit {0}
AllAttrs (a ∷ attrs) = AllParts a.parts × AllAttrs attrs

attrs_end : (p : Prefixes) (attrs : List AttrForm) → AllAttrs attrs → attrs_can p attrs ≡ true
    → Ends (λ rest. attrs_tokens attrs rest)
attrs_end p [] s c ts rest = refl
attrs_end p (a ∷ attrs) s c ts rest =
    let u = and_parts (attr_can p a) (attrs_can p attrs) c in
    let v = and_parts (gives_name p.bound [] a.name (attr_token a.name))
    (parts_can value a.parts) u.0 in
    ap (λ x. attr_token a.name ∷ x)
    (ap (λ x. parts_tokens value a.parts (token.AttributeEnd ∷ x)) (attrs_end p attrs s.1 u.1 ts rest)
    ∙ parts_end value a.parts s.0 v.1 (token.AttributeEnd ∷ attrs_tokens attrs ts) rest)

closing_ends : (n : Name) (ps : List PartForm) → AllParts ps → parts_can content ps ≡ true
    → Ends (λ rest. closing_tokens n ps rest)
closing_ends n [] s c ts rest = refl
closing_ends n (q ∷ qs) s c ts rest = ap (λ x. token.TagEnd ∷ x)
    (parts_end content (q ∷ qs) s c (shut_token n ∷ ts) rest)

pub direct_ends : (p : Prefixes) (n : Name) (attrs : List AttrForm) (ps : List PartForm)
    → AllAttrs attrs → AllParts ps → (direct p n attrs ps).can ≡ true
    → Ended (direct p n attrs ps)
direct_ends p n attrs ps s t c =
    let u = and_parts (gives_name p.bound p.element_default n (front_token n))
    (attrs_can p attrs && parts_can content ps) c in
    let v = and_parts (attrs_can p attrs) (parts_can content ps) u.1 in
    record {
      ends = λ ts rest. ap (λ x. front_token n ∷ x) (both (λ r. attrs_tokens attrs r)
          (λ r. closing_tokens n ps r) (attrs_end p attrs s v.0) (closing_ends n ps t v.1) ts rest);
      fills = λ ts. refl;
    }
