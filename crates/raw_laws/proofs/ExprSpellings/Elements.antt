-- The tokens of constructors and direct elements spell them.
use Rattle.std.proofs.Common.{◌≡◌, ℕ, List, [], ◌∷◌, ◌++◌, map, Bool, true, false, ◌&&◌, refl}
use Rattle.std.proofs.Common.{sym, ◌∙◌, ap, subst, append_assoc, append-nil, not, Option, Some}
use Rattle.std.proofs.Common.{None}
use Rattle.std.proofs.lemmas.Bool.{and_parts}
use Rattle.xt_names.specs.declared.names.Binding.{Binding}
use Rattle.xt_names.specs.declared.names.Name.{Name}
use Rattle.xt_syntax.specs.declared.prefixes.Prefixes.{Prefixes}
use Rattle.expr_keys.specs.Classes.{fits}
use Rattle.expr_terms.specs.Productions.{body}
use Rattle.expr_terms.specs.Raws.{build}
use Rattle.expr_keys.specs.declared.keys.Key.{Key}
use Rattle.expr_keys.specs.declared.keys.Key.TheVariants as key
use Rattle.expr_keys.specs.declared.tokens.Token.{Token}
use Rattle.expr_keys.specs.declared.tokens.Token.TheVariants as token
use Rattle.expr_keys.specs.declared.productions.Class.{Class}
use Rattle.expr_keys.specs.declared.productions.Class.TheVariants as class
use Rattle.expr_keys.specs.declared.productions.Symbol.{Symbol}
use Rattle.expr_keys.specs.declared.productions.Symbol.TheVariants.{Tok as tok, One as one}
use Rattle.expr_keys.specs.declared.productions.Symbol.TheVariants.{Maybe as maybe, Many as many}
use Rattle.expr_keys.specs.declared.productions.Nonterminal.{Nonterminal}
use Rattle.expr_keys.specs.declared.productions.Nonterminal.TheVariants as place
use Rattle.expr_keys.specs.declared.productions.Production.TheVariants as production
use Rattle.expr_terms.specs.declared.raws.Raw.{Raw}
use Rattle.expr_terms.specs.declared.raws.Raw.TheVariants.{Leaf as leaf, Node as node, outs-Leaf}
use Rattle.expr_terms.specs.declared.raws.Raw.TheVariants.{outs-Node}
use Rattle.expr_terms.specs.declared.raws.Raw.TheViews.{out-Raw}
use Rattle.expr_terms.specs.declared.raws.Raw.TheOpen.{Raw-F, Leaf, Node}
use Rattle.expr_grammar.specs.Grammar.{Derives, by, Seq, end, taken, next, with, without, stop}
use Rattle.expr_grammar.specs.Grammar.{again}
use Rattle.expr_raws.specs.PathRaws.Forms.{Form, primary, list, at, said, key_leaf}
use Rattle.expr_raws.specs.PathRaws.Paths.{with_token}
use Rattle.expr_raws.specs.ElementRaws.Makers.{NameForm, fixed, computed, gives_name}
use Rattle.expr_raws.specs.ElementRaws.Makers.{node_token, braced, given, made, element, attribute}
use Rattle.expr_raws.specs.ElementRaws.Makers.{given_pi, instruction, enclosing}
use Rattle.expr_raws.specs.ElementRaws.Runs.{Run, runs, run_token}
use Rattle.expr_raws.specs.ElementRaws.Direct.{PartForm, characters, enclosed, child, value, content, inner}
use Rattle.expr_raws.specs.ElementRaws.Direct.{enclosure}
use Rattle.expr_raws.specs.ElementRaws.Direct.{child_leaf, child_parts, child_raw, child_tokens, is_element}
use Rattle.expr_raws.specs.ElementRaws.Direct.{is_characters, starts_characters, part_raws, parts_raws}
use Rattle.expr_raws.specs.ElementRaws.Direct.{part_tokens, parts_tokens, part_can, parts_can, AttrForm}
use Rattle.expr_raws.specs.ElementRaws.Direct.{attr_token, attr_raw, attrs_tokens, attr_can, attrs_can}
use Rattle.expr_raws.specs.ElementRaws.Direct.{front_token, shut_token, closing, closing_tokens, direct}
use Rattle.raw_laws.proofs.ExprSpellings.Climb.{X}
use Rattle.raw_laws.proofs.ExprSpellings.Spelled.{Inside, Spelled, closed, no_parens}
use Rattle.raw_laws.proofs.ExprSpellings.Paths.{Always, always, as_primary}
use Rattle.token_laws.proofs.WrittenTokens.Elements.{node_fits}

-- { a }
braced_seq : (f : Form) → Always list f → {ss : List Symbol} {mid rest : List Token}
    {vs : List Raw} → Seq X ss mid vs rest
    → Seq X (tok (class.Key key.OpenBrace) ∷ one place.Expr ∷ tok (class.Key key.CloseBrace) ∷ ss)
    (braced f mid) (at list f ∷ vs) rest
braced_seq f a {mid = mid} s =
    taken refl (next (a (token.Key key.CloseBrace ∷ mid) (λ h. refl)) (taken refl s))

-- .. where it may be left out
may_braced_seq : (f : Form) → Always list f → (rest : List Token)
    → Seq X (tok (class.Key key.OpenBrace) ∷ maybe place.Expr ∷ tok (class.Key key.CloseBrace) ∷ [])
    (braced f rest) (at list f ∷ []) rest
may_braced_seq f a rest =
    taken refl (with (a (token.Key key.CloseBrace ∷ rest) (λ h. refl)) (taken refl end))

given_spelled : (k : Key) → fits class.NamedKind (token.Key k) ≡ true → (c : Form)
    → Always list c → (t : Token) → fits class.Name t ≡ true → Spelled (given k c t)
given_spelled k e c a t f = as_primary production.Constructed
    (key_leaf k ∷ leaf t ∷ at list c ∷ []) (λ rest. token.Key k ∷ t ∷ braced c rest) _ refl refl
    (λ rest. by production.Constructed refl refl
    (taken e (taken f (may_braced_seq c a rest))))

made_spelled : (k : Key) → fits class.Maker (token.Key k) ≡ true → (f c : Form)
    → Always list f → Always list c → Spelled (made k f c)
made_spelled k e f c a b = as_primary production.Computed
    (key_leaf k ∷ at list f ∷ at list c ∷ []) (λ rest. token.Key k ∷ braced f (braced c rest)) _
    refl refl (λ rest. by production.Computed refl refl
    (taken e (braced_seq f a (may_braced_seq c b rest))))

given_pi_spelled : (c : Form) → Always list c → (t : Token) → fits class.Word t ≡ true
    → Spelled (given_pi c t)
given_pi_spelled c a t f = as_primary production.PiConstructed (leaf t ∷ at list c ∷ [])
    (λ rest. token.Key key.ProcessingInstructionWord ∷ t ∷ braced c rest) _ refl refl
    (λ rest. by production.PiConstructed refl refl
    (taken refl (taken f (may_braced_seq c a rest))))

-- what a name is spelled by
abbrev pub NameSpelled : NameForm → Type 0
NameSpelled (fixed n) = Unit {0}
NameSpelled (computed f) = f.can ≡ true → Always list f

abbrev Content : Form → Type 0
Content c = c.can ≡ true → Always list c

by_token : (c : Class) (bound : List Binding) (default : List ℕ) (n : Name) (f : Token → Form)
    → ((t : Token) → fits c t ≡ true → (f t).can ≡ true → Spelled (f t))
    → (with_token (node_token c bound default n) f).can ≡ true
    → Spelled (with_token (node_token c bound default n) f)
by_token c bound default n f s = go (node_token c bound default n) refl
  where
    go : (o : Option Token) → node_token c bound default n ≡ o → (with_token o f).can ≡ true
        → Spelled (with_token o f)
    go None e h = absurd (cc)
    go (Some t) e h = s t (node_fits c bound default n t e) h

pub element_spelled : (p : Prefixes) (f : NameForm) (c : Form) → NameSpelled f → Content c
    → (element p f c).can ≡ true → Spelled (element p f c)
element_spelled p (fixed n) c m a = by_token class.Name p.bound p.element_default n
    (given key.ElementWord c) (λ t f h. given_spelled key.ElementWord refl c (a h) t f)
element_spelled p (computed f) c m a = λ h.
    let i = and_parts f.can c.can h in
    made_spelled key.ElementWord refl f c (m i.0) (a i.1)

pub attribute_spelled : (p : Prefixes) (f : NameForm) (c : Form) → NameSpelled f → Content c
    → (attribute p f c).can ≡ true → Spelled (attribute p f c)
attribute_spelled p (fixed n) c m a = by_token class.Name p.bound [] n
    (given key.AttributeWord c) (λ t f h. given_spelled key.AttributeWord refl c (a h) t f)
attribute_spelled p (computed f) c m a = λ h.
    let i = and_parts f.can c.can h in
    made_spelled key.AttributeWord refl f c (m i.0) (a i.1)

pub instruction_spelled : (p : Prefixes) (f : NameForm) (c : Form) → NameSpelled f → Content c
    → (instruction p f c).can ≡ true → Spelled (instruction p f c)
instruction_spelled p (fixed n) c m a = by_token class.Word p.bound [] n (given_pi c)
    (λ t f h. given_pi_spelled c (a h) t f)
instruction_spelled p (computed f) c m a = λ h.
    let i = and_parts f.can c.can h in
    made_spelled key.ProcessingInstructionWord refl f c (m i.0) (a i.1)

pub enclosing_spelled : (k : Key) → fits class.Encloser (token.Key k) ≡ true → (f : Form)
    → Always list f → Spelled (enclosing k f)
enclosing_spelled k e f a = as_primary production.Enclosing (key_leaf k ∷ at list f ∷ [])
    (λ rest. token.Key k ∷ braced f rest) _ refl refl
    (λ rest. by production.Enclosing refl refl (taken e (braced_seq f a end)))

-- direct elements

abbrev piece_place : Bool → Nonterminal
piece_place true = place.AttrValueContent
piece_place false = place.DirElemContent

abbrev pub PartSpelled : PartForm → Type 0
PartSpelled (characters cs) = Unit {0}
PartSpelled (enclosed f) = f.can ≡ true → Spelled f
PartSpelled (child f) = f.can ≡ true → Spelled f

abbrev pub AllParts : List PartForm → Type 0
AllParts [] = Unit {0}
AllParts (p ∷ ps) = PartSpelled p × AllParts ps

abbrev Pieces : Bool → List Symbol
Pieces x = many (piece_place x) ∷ []

run_spelled : (x : Bool) (r : Run) (rest : List Token)
    → Derives X (piece_place x) (run_token r ∷ rest) (leaf (run_token r)) rest
run_spelled true r rest = by production.PartChars refl refl (taken refl end)
run_spelled false r rest = by production.ItemChars refl refl (taken refl end)

runs_spelled : (x : Bool) (rs : List Run) {ss : List Symbol} {mid rest : List Token}
    {vs : List Raw} → Seq X (many (piece_place x) ∷ ss) mid vs rest
    → Seq X (many (piece_place x) ∷ ss) (map (λ r. run_token r) rs ++ mid)
    (map (λ t. leaf t) (map (λ r. run_token r) rs) ++ vs) rest
runs_spelled x [] s = s
runs_spelled x (r ∷ rs) s = again (run_spelled x r _) (runs_spelled x rs s)

enclosed_spelled : (x : Bool) (f : Form) → Always list f → (rest : List Token)
    → Derives X (piece_place x) (part_tokens x (enclosed f) rest) (node (enclosure x)
    (at list f ∷ [])) rest
enclosed_spelled true f a rest = by production.PartEnclosed refl refl
    (taken refl (next (a (token.Key key.CloseBrace ∷ rest) (λ h. refl)) (taken refl end)))
enclosed_spelled false f a rest = by production.ItemEnclosed refl refl
    (taken refl (next (a (token.Key key.CloseBrace ∷ rest) (λ h. refl)) (taken refl end)))

-- the first token of an element that is in another one
to_inner : {ts rest : List Token} {vs : List Raw} → Seq X (body production.DirectElement) ts vs rest
    → Seq X (body production.ChildElement) (child_tokens ts) (child_parts vs) rest
to_inner {rest = rest} (taken {t = t} {ts = ts} {vs = vs} f s) =
    subst (λ v. Seq X (body production.ChildElement) (inner t ∷ ts) (v ∷ vs) rest)
    (ap child_leaf (sym (outs-Leaf t))) (taken (inner_fits t f) s)
  where
    inner_fits : (t : Token) → fits class.StartTagOpen t ≡ true → fits class.ChildTagOpen (inner t) ≡ true
    inner_fits (token.StartTagOpen p n) e = refl
    inner_fits _ e = absurd (cc)

child_kept : (vs : List Raw) → build production.ChildElement vs ≡ node production.ChildElement vs
child_kept [] = refl
child_kept (v ∷ []) = refl
child_kept (v ∷ w ∷ vs) = refl

child_spelled : (f : Form) → Spelled f → is_element (out-Raw f.raw) ≡ true → (rest : List Token)
    → Derives X place.DirElemContent (child_tokens (f.tokens rest)) (child_raw (out-Raw f.raw)) rest
child_spelled f s e rest = go (out-Raw f.raw) s.inside e
  where
    go : (v : Raw-F Raw) → Inside f.tokens f.unmarked v → is_element v ≡ true
        → Derives X place.DirElemContent (child_tokens (f.tokens rest)) (child_raw v) rest
    go (Leaf t) i e = absurd (cc)
    go (Node production.DirectElement vs) i e =
        subst (λ w. Derives X place.DirElemContent (child_tokens (f.tokens rest)) w rest)
        (child_kept (child_parts vs))
        (by production.ChildElement refl refl (to_inner (i.2 refl rest)))
    go (Node _ vs) i e = absurd (cc)

part_spelled : (x : Bool) (p : PartForm) → PartSpelled p → part_can x p ≡ true
    → {ss : List Symbol} {mid rest : List Token} {vs : List Raw}
    → Seq X (many (piece_place x) ∷ ss) mid vs rest
    → Seq X (many (piece_place x) ∷ ss) (part_tokens x p mid) (part_raws x p ++ vs) rest
part_spelled x (characters cs) a c s = runs_spelled x (runs x cs) s
part_spelled x (enclosed f) a c {mid = mid} s =
    again (enclosed_spelled x f (always list f (a c)) mid) s
part_spelled true (child f) a c s = absurd (cc)
part_spelled false (child f) a c {mid = mid} s =
    let h = and_parts f.can (is_element (out-Raw f.raw)) c in
    again (child_spelled f (a h.0) h.1 mid) s

parts_spelled : (x : Bool) (ps : List PartForm) → AllParts ps → parts_can x ps ≡ true
    → {ss : List Symbol} {mid rest : List Token} {vs : List Raw} → Seq X ss mid vs rest
    → Seq X (many (piece_place x) ∷ ss) (parts_tokens x ps mid) (parts_raws x ps ++ vs) rest
parts_spelled x [] a c s = stop s
parts_spelled x (p ∷ ps) a c {ss} {mid} {rest} {vs} s =
    let apart : Bool = not (is_characters p && starts_characters ps) in
    let h = and_parts (part_can x p) (apart && parts_can x ps) c in
    let i = and_parts apart (parts_can x ps) h.1 in
    subst (λ us. Seq X (many (piece_place x) ∷ ss) (parts_tokens x (p ∷ ps) mid) us rest)
    (sym (append_assoc (part_raws x p) (parts_raws x ps) vs))
    (part_spelled x p a.0 h.0 (parts_spelled x ps a.1 i.1 s))

paired_kept : (v : Raw) (vs : List Raw)
    → build production.AttributeValue (v ∷ vs) ≡ node production.AttributeValue (v ∷ vs)
paired_kept v [] = refl
paired_kept v (w ∷ vs) = refl

abbrev pub AllAttrs : List AttrForm → Type 0
AllAttrs [] = Unit {0}
AllAttrs (a ∷ attrs) = AllParts a.parts × AllAttrs attrs

attr_spelled : (p : Prefixes) (a : AttrForm) → AllParts a.parts → attr_can p a ≡ true
    → (rest : List Token) → Derives X place.DirAttribute
    (attr_token a.name ∷ parts_tokens value a.parts (token.AttributeEnd ∷ rest)) (attr_raw a) rest
attr_spelled p a s c rest =
    let h = and_parts (gives_name p.bound [] a.name (attr_token a.name)) (parts_can value a.parts) c
    in
    subst (λ v. Derives X place.DirAttribute
    (attr_token a.name ∷ parts_tokens value a.parts (token.AttributeEnd ∷ rest)) v rest)
    (ap (λ vs. build production.AttributeValue (leaf (attr_token a.name) ∷ vs)) (append-nil _)
    ∙ paired_kept (leaf (attr_token a.name)) (parts_raws value a.parts))
    (by production.AttributeValue refl refl
    (taken refl (parts_spelled value a.parts s h.1 (taken refl end))))

attrs_spelled : (p : Prefixes) (attrs : List AttrForm) → AllAttrs attrs → attrs_can p attrs ≡ true
    → {ss : List Symbol} {mid rest : List Token} {vs : List Raw} → Seq X ss mid vs rest
    → Seq X (many place.DirAttribute ∷ ss) (attrs_tokens attrs mid) (map (λ a. attr_raw a) attrs ++ vs) rest
attrs_spelled p [] s c q = stop q
attrs_spelled p (a ∷ attrs) s c q =
    let h = and_parts (attr_can p a) (attrs_can p attrs) c in
    again (attr_spelled p a s.0 h.0 _) (attrs_spelled p attrs s.1 h.1 q)

full_kept : (vs : List Raw) → build production.ElementContent vs ≡ node production.ElementContent vs
full_kept [] = refl
full_kept (v ∷ []) = refl
full_kept (v ∷ w ∷ vs) = refl

closing_spelled : (n : Name) (ps : List PartForm) → AllParts ps
    → parts_can content ps ≡ true → (rest : List Token)
    → Derives X place.DirElemClosing (closing_tokens n ps rest) (closing n ps) rest
closing_spelled n [] a c rest = by production.EmptyElement refl refl (taken refl end)
closing_spelled n (p ∷ ps) a c rest =
    subst (λ v. Derives X place.DirElemClosing (closing_tokens n (p ∷ ps) rest) v rest)
    (full_kept (parts_raws content (p ∷ ps) ++ leaf (shut_token n) ∷ []))
    (by production.ElementContent refl refl (taken refl
    (parts_spelled content (p ∷ ps) a c (taken refl end))))

element_kept : (v : Raw) (us : List Raw) (w : Raw)
    → build production.DirectElement (v ∷ (us ++ w ∷ [])) ≡ node production.DirectElement (v ∷ (us ++ w ∷ []))
element_kept v [] w = refl
element_kept v (u ∷ us) w = refl

pub direct_spelled : (p : Prefixes) (n : Name) (attrs : List AttrForm) (ps : List PartForm)
    → AllAttrs attrs → AllParts ps → (direct p n attrs ps).can ≡ true
    → Spelled (direct p n attrs ps)
direct_spelled p n attrs ps s a c =
    let h = and_parts (gives_name p.bound p.element_default n (front_token n))
    (attrs_can p attrs && parts_can content ps) c in
    let i = and_parts (attrs_can p attrs) (parts_can content ps) h.1 in
    let vs : List Raw = leaf (front_token n) ∷ (map (λ x. attr_raw x) attrs ++ closing n ps ∷ []) in
    record {
      whole = λ rest u. by production.DirectConstructor refl refl (next (one_element i.0 i.1 rest) end);
      inside = subst (λ f. Inside (direct p n attrs ps).tokens false f)
          (sym (outs-Node production.DirectElement vs))
          (λ g. absurd (cc), λ g. absurd (cc), λ g. parts_of_element i.0 i.1);
      placed = refl;
      tightest = λ g. no_parens production.DirectElement vs refl g;
      ended = λ g. refl;
      at_step = refl;
    }
  where
    parts_of_element : attrs_can p attrs ≡ true → parts_can content ps ≡ true
        → (rest : List Token) → Seq X (body production.DirectElement) ((direct p n attrs ps).tokens rest)
        (leaf (front_token n) ∷ (map (λ x. attr_raw x) attrs ++ closing n ps ∷ [])) rest
    parts_of_element d e rest = taken refl (attrs_spelled p attrs s d
        (next (closing_spelled n ps a e rest) end))

    one_element : attrs_can p attrs ≡ true → parts_can content ps ≡ true
        → (rest : List Token) → Derives X place.DirElemConstructor ((direct p n attrs ps).tokens rest)
        (direct p n attrs ps).raw rest
    one_element d e rest = subst (λ v. Derives X place.DirElemConstructor
        ((direct p n attrs ps).tokens rest) v rest)
        (element_kept (leaf (front_token n)) (map (λ x. attr_raw x) attrs) (closing n ps))
        (by production.DirectElement refl refl (parts_of_element d e rest))
