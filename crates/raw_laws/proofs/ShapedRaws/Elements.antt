-- Constructors and direct elements that are printed are shaped.
use Rattle.std.proofs.Common.{◌≡◌, ℕ, List, [], ◌∷◌, ◌++◌, map, Bool, true, false, ◌&&◌, not, refl}
use Rattle.std.proofs.Common.{sym, ◌∙◌, ap, ap₂, Option, Some, None, codes}
use Rattle.std.proofs.lemmas.Bool.{and_parts, and_from}
use Rattle.std.proofs.lemmas.Slice.Eq.{bytes_eq-Decides}
use Rattle.std.specs.Str.{bytes_eq}
use Rattle.xt_names.specs.Allowed.{is_empty_text, is_allowed_name, is_prefix_of, keeps_xml}
use Rattle.xt_names.specs.Allowed.{keeps_xmlns, xmlns_uri}
use Rattle.xt_names.specs.Classes.{is_ncname_text, is_xml_text}
use Rattle.xt_names.specs.declared.names.Binding.{Binding}
use Rattle.xt_names.specs.declared.names.Name.{Name}
use Rattle.xt_syntax.specs.declared.prefixes.Prefixes.{Prefixes}
use Rattle.closed_queries.specs.Texts.{is_sound_name, is_sound_attribute_name}
use Rattle.expr_names.specs.Names.{uri_in, undeclared_in}
use Rattle.expr_keys.specs.declared.keys.Key.{Key}
use Rattle.expr_keys.specs.declared.keys.Key.TheVariants as key
use Rattle.expr_keys.specs.declared.tokens.Token.{Token}
use Rattle.expr_keys.specs.declared.tokens.Token.TheVariants as token
use Rattle.expr_keys.specs.declared.productions.Class.TheVariants as class
use Rattle.expr_keys.specs.declared.productions.Production.TheVariants as production
use Rattle.expr_terms.specs.declared.raws.Raw.{Raw}
use Rattle.expr_terms.specs.declared.raws.Raw.TheVariants.{Leaf as leaf, Node as node, rolls-Leaf}
use Rattle.expr_terms.specs.declared.raws.Raw.TheVariants.{rolls-Node}
use Rattle.expr_terms.specs.declared.raws.Raw.TheViews.{out-Raw, roll-Raw, roll-out-Raw}
use Rattle.expr_terms.specs.declared.raws.Raw.TheOpen.{Raw-F, Leaf, Node}
use Rattle.expr_rules.specs.ExprMeant.Names.{written_in}
use Rattle.expr_rules.specs.ExprShapes.Shapes.{tag_in, last_tag, first_tag, passed_tag, ends_alike}
use Rattle.expr_rules.specs.ExprShapes.Shapes.{declares_nothing, own_shape, shape_of, is_shaped}
use Rattle.expr_rules.specs.declared.expr_shapes.shapes.Tag.{Tag}
use Rattle.expr_rules.specs.declared.expr_shapes.shapes.Shape.{Shape}
use Rattle.expr_raws.specs.PathRaws.Forms.{Form, list, at, key_leaf}
use Rattle.expr_raws.specs.PathRaws.Names.{no_codes}
use Rattle.expr_raws.specs.ElementRaws.Makers.{NameForm, fixed, computed, gives_name, node_token, given}
use Rattle.expr_raws.specs.ElementRaws.Makers.{made}
use Rattle.expr_raws.specs.ElementRaws.Makers.{element, attribute, given_pi, instruction, enclosing}
use Rattle.expr_raws.specs.ElementRaws.Runs.{Run, runs, run_token}
use Rattle.expr_raws.specs.ElementRaws.Direct.{PartForm, characters, enclosed, child, value, content}
use Rattle.expr_raws.specs.ElementRaws.Direct.{enclosure, inner, child_leaf, child_parts, child_raw}
use Rattle.expr_raws.specs.ElementRaws.Direct.{is_outer_leaf, starts_outer, is_element, part_raws}
use Rattle.expr_raws.specs.ElementRaws.Direct.{parts_raws}
use Rattle.expr_raws.specs.ElementRaws.Direct.{is_characters, starts_characters, part_can, parts_can}
use Rattle.expr_raws.specs.ElementRaws.Direct.{AttrForm}
use Rattle.expr_raws.specs.ElementRaws.Direct.{attr_token, attr_raw, attr_can, attrs_can, front_token}
use Rattle.expr_raws.specs.ElementRaws.Direct.{shut_token, closing, direct}
use Rattle.raw_laws.proofs.ShapedRaws.Shaped.{shapes, leaf_shape, node_shape, Shaped, leaf_shaped}
use Rattle.raw_laws.proofs.ShapedRaws.Shaped.{AllShaped}
use Rattle.raw_laws.proofs.ShapedRaws.Shaped.{append_shaped, node_shaped, parts_shaped, own_of, loose}
use Rattle.raw_laws.proofs.ShapedRaws.Shaped.{at_shaped}
use Rattle.raw_laws.proofs.ShapedRaws.Parts.{found}

-- computed constructors

abbrev pub NameShaped : NameForm → Type 0
NameShaped (fixed n) = Unit {0}
NameShaped (computed f) = Shaped f.raw

given_shaped : (k : Key) (c : Form) → Shaped c.raw → (t : Token) → Shaped (given k c t).raw
given_shaped k c s t = loose production.Constructed refl (key_leaf k ∷ leaf t ∷ at list c ∷ [])
    (leaf_shaped (token.Key k), (leaf_shaped t, (at_shaped list c s, tt)))

made_shaped : (k : Key) (f c : Form) → Shaped f.raw → Shaped c.raw → Shaped (made k f c).raw
made_shaped k f c a s = loose production.Computed refl
    (key_leaf k ∷ at list f ∷ at list c ∷ [])
    (leaf_shaped (token.Key k), (at_shaped list f a, (at_shaped list c s, tt)))

pub element_shaped : (p : Prefixes) (f : NameForm) (c : Form) → NameShaped f → Shaped c.raw
    → Shaped (element p f c).raw
element_shaped p (fixed n) c a s = found
    (node_token class.Name p.bound p.element_default n) (given key.ElementWord c)
    (given_shaped key.ElementWord c s)
element_shaped p (computed f) c a s = made_shaped key.ElementWord f c a s

pub attribute_shaped : (p : Prefixes) (f : NameForm) (c : Form) → NameShaped f → Shaped c.raw
    → Shaped (attribute p f c).raw
attribute_shaped p (fixed n) c a s = found (node_token class.Name p.bound [] n)
    (given key.AttributeWord c) (given_shaped key.AttributeWord c s)
attribute_shaped p (computed f) c a s = made_shaped key.AttributeWord f c a s

pub instruction_shaped : (p : Prefixes) (f : NameForm) (c : Form) → NameShaped f → Shaped c.raw
    → Shaped (instruction p f c).raw
instruction_shaped p (fixed n) c a s = found (node_token class.Word p.bound [] n) (given_pi c)
    (λ t. loose production.PiConstructed refl (leaf t ∷ at list c ∷ [])
    (leaf_shaped t, (at_shaped list c s, tt)))
instruction_shaped p (computed f) c a s = made_shaped key.ProcessingInstructionWord f c a s

pub enclosing_shaped : (k : Key) (a : Form) → Shaped a.raw → Shaped (enclosing k a).raw
enclosing_shaped k a c = loose production.Enclosing refl (key_leaf k ∷ at list a ∷ [])
    (leaf_shaped (token.Key k), (at_shaped list a c, tt))

-- tags

pub last_of : (ss : List Shape) (s : Shape) → last_tag (ss ++ s ∷ []) ≡ s.tag
last_of [] s = refl
last_of (x ∷ []) s = refl
last_of (x ∷ y ∷ ss) s = last_of (y ∷ ss) s

shapes_end : (us : List Raw) (v : Raw) → shapes (us ++ v ∷ []) ≡ shapes us ++ shape_of v ∷ []
shapes_end [] v = refl
shapes_end (u ∷ us) v = ap (λ ss. shape_of u ∷ ss) (shapes_end us v)

abbrev tag : List ℕ → List ℕ → Option Tag
tag p n = Some (record { prefix = p; local = n })

alike : (p n : List ℕ) → ends_alike (tag p n) (tag p n) ≡ true
unfolding ends_alike
alike p n =
    and_from (bytes_eq p p) (bytes_eq n n) ((bytes_eq-Decides p p).1 refl)
    ((bytes_eq-Decides n n).1 refl)

no_end : (p n : List ℕ) → ends_alike (tag p n) None ≡ true
unfolding ends_alike
no_end p n = refl

-- an element within another one

same_tag : (t : Token) → tag_in (inner t) ≡ tag_in t
unfolding tag_in
same_tag (token.StartTagOpen p n) = refl
same_tag _ = refl

child_of : (t : Token) (vs : List Raw) → Shaped (node production.DirectElement (leaf t ∷ vs))
    → Shaped (node production.ChildElement (leaf (inner t) ∷ vs))
unfolding own_shape
child_of t vs c =
    let parts = parts_shaped production.DirectElement (leaf t ∷ vs) c in
    let tags : shape_of (leaf (inner t)) ≡ shape_of (leaf t) =
    leaf_shape (inner t)
    ∙ ap (λ o. record { good = true; tag = o }) (same_tag t)
    ∙ sym (leaf_shape t) in
    node_shaped production.ChildElement (leaf (inner t) ∷ vs) (leaf_shaped (inner t), parts.1)
    (ap (λ s. ends_alike (first_tag (s ∷ shapes vs)) (last_tag (s ∷ shapes vs))) tags
    ∙ own_of production.DirectElement (leaf t ∷ vs) c)

child_so : (v : Raw) → Shaped v → is_element (out-Raw v) ≡ true → Shaped (child_raw (out-Raw v))
child_so v c = go (out-Raw v) (roll-out-Raw v)
  where
    front : (u : Raw) (vs : List Raw) → Shaped (node production.DirectElement (u ∷ vs))
        → is_outer_leaf (out-Raw u) ≡ true
        → Shaped (node production.ChildElement (child_leaf (out-Raw u) ∷ vs))
    front u vs d = at_front (out-Raw u) (roll-out-Raw u)
      where
        at_front : (f : Raw-F Raw) → roll-Raw f ≡ u → is_outer_leaf f ≡ true
            → Shaped (node production.ChildElement (child_leaf f ∷ vs))
        at_front (Node p us) o i = absurd (cc)
        at_front (Leaf t) o i = child_of t vs
            (ap (λ w. is_shaped (node production.DirectElement (w ∷ vs))) (sym (rolls-Leaf t) ∙ o) ∙ d)

    parts : (vs : List Raw) → Shaped (node production.DirectElement vs) → starts_outer vs ≡ true
        → Shaped (node production.ChildElement (child_parts vs))
    parts [] d i = absurd (cc)
    parts (u ∷ vs) d i = front u vs d i

    go : (f : Raw-F Raw) → roll-Raw f ≡ v → is_element f ≡ true → Shaped (child_raw f)
    go (Leaf t) o i = absurd (cc)
    go (Node production.DirectElement vs) o i = parts vs
        (ap is_shaped (sym (rolls-Node production.DirectElement vs) ∙ o) ∙ c) i
    go (Node _ vs) o i = absurd (cc)

-- parts of content and of values

abbrev pub PartShaped : PartForm → Type 0
PartShaped (characters cs) = Unit {0}
PartShaped (enclosed f) = f.can ≡ true → Shaped f.raw
PartShaped (child f) = f.can ≡ true → Shaped f.raw

abbrev pub AllParts : List PartForm → Type 0
AllParts [] = Unit {0}
AllParts (q ∷ qs) = PartShaped q × AllParts qs

runs_shaped : (rs : List Run) → AllShaped (map (λ t. leaf t) (map (λ r. run_token r) rs))
runs_shaped [] = tt
runs_shaped (r ∷ rs) = (leaf_shaped (run_token r), runs_shaped rs)

enclosed_shaped : (x : Bool) (f : Form) → Shaped f.raw
    → Shaped (node (enclosure x) (at list f ∷ []))
enclosed_shaped true f c =
    loose production.PartEnclosed refl (at list f ∷ []) (at_shaped list f c, tt)
enclosed_shaped false f c =
    loose production.ItemEnclosed refl (at list f ∷ []) (at_shaped list f c, tt)

part_shaped : (x : Bool) (q : PartForm) → PartShaped q → part_can x q ≡ true
    → AllShaped (part_raws x q)
part_shaped x (characters cs) g c = runs_shaped (runs x cs)
part_shaped x (enclosed f) g c = (enclosed_shaped x f (g c), tt)
part_shaped true (child f) g c = absurd (cc)
part_shaped false (child f) g c =
    let h = and_parts f.can (is_element (out-Raw f.raw)) c in
    (child_so f.raw (g h.0) h.1, tt)

parts_so : (x : Bool) (qs : List PartForm) → AllParts qs → parts_can x qs ≡ true
    → AllShaped (parts_raws x qs)
parts_so x [] g c = tt
parts_so x (q ∷ qs) g c =
    let apart : Bool = not (is_characters q && starts_characters qs) in
    let h = and_parts (part_can x q) (apart && parts_can x qs) c in
    let i = and_parts apart (parts_can x qs) h.1 in
    append_shaped (part_raws x q) (parts_raws x qs) (part_shaped x q g.0 h.0)
    (parts_so x qs g.1 i.1)

-- attributes

pub record AttrShaped (a : AttrForm) : Type 0 where
  pub name : is_sound_attribute_name a.name ≡ true
  pub parts : AllParts a.parts

abbrev pub AllAttrs : List AttrForm → Type 0
AllAttrs [] = Unit {0}
AllAttrs (a ∷ attrs) = AttrShaped a × AllAttrs attrs

last_three : (a b c d : Bool) → (a && b && c && d) ≡ true → d ≡ true
last_three true true true d h = h
last_three true true false d h = absurd (cc)
last_three true false c d h = absurd (cc)
last_three false b c d h = absurd (cc)

-- the prefix of a name that XML allows is not xmlns
no_xmlns_prefix : (n : Name) → is_sound_name n ≡ true
    → not (bytes_eq n.prefix (codes "xmlns")) ≡ true
unfolding is_sound_name is_allowed_name keeps_xmlns
no_xmlns_prefix n e =
    let h = and_parts (is_allowed_name n.prefix n.uri n.local) (is_xml_text n.uri) e in
    (and_parts (not (bytes_eq n.prefix (codes "xmlns"))) (not (bytes_eq n.uri xmlns_uri))
    (last_three (is_ncname_text n.local) (is_prefix_of n.prefix n.uri)
    (keeps_xml n.prefix n.uri) (keeps_xmlns n.prefix n.uri) h.0)).0

-- an attribute without a prefix has no uri
no_uri : (bound : List Binding) (n : Name) → gives_name bound [] n (attr_token n) ≡ true
    → is_empty_text n.prefix ≡ true → is_empty_text n.uri ≡ true
unfolding written_in uri_in is_empty_text
no_uri bound n e h =
    let p : Bool = bytes_eq (written_in (attr_token n)).prefix n.prefix in
    let u : Bool = bytes_eq (uri_in bound [] (written_in (attr_token n))) n.uri in
    let l : Bool = bytes_eq (written_in (attr_token n)).local n.local in
    let i = and_parts (p && (u && l))
    (no_codes (undeclared_in bound (written_in (attr_token n)))) e in
    let j = and_parts u l (and_parts p (u && l) i.0).1 in
    let same : [] ≡ n.uri = rw h at ((bytes_eq-Decides
    (uri_in bound [] (written_in (attr_token n))) n.uri).0 j.0) in
    ap is_empty_text (sym same)

no_declaration : (a b c : Bool) → not (a && c) ≡ true → (b ≡ true → a ≡ true)
    → not (b && c) ≡ true
no_declaration a true c e h = ap (λ x. not (x && c)) (sym (h refl)) ∙ e
no_declaration a false c e h = refl

declares_none : (bound : List Binding) (n : Name) → is_sound_attribute_name n ≡ true
    → gives_name bound [] n (attr_token n) ≡ true
    → declares_nothing (tag n.prefix n.local) ≡ true
unfolding is_sound_attribute_name declares_nothing
declares_none bound n s e =
    let xmlns : Bool = bytes_eq n.local (codes "xmlns") in
    let h = and_parts (is_sound_name n) (not (is_empty_text n.uri && xmlns)) s in
    and_from (not (bytes_eq n.prefix (codes "xmlns"))) (not (is_empty_text n.prefix && xmlns))
    (no_xmlns_prefix n h.0)
    (no_declaration (is_empty_text n.uri) (is_empty_text n.prefix) xmlns h.1 (no_uri bound n e))

attr_tag : (n : Name) → tag_in (attr_token n) ≡ tag n.prefix n.local
unfolding tag_in
attr_tag n = refl

attr_shaped : (p : Prefixes) (a : AttrForm) → AttrShaped a → attr_can p a ≡ true
    → Shaped (attr_raw a)
unfolding own_shape
attr_shaped p a s c =
    let h = and_parts (gives_name p.bound [] a.name (attr_token a.name))
    (parts_can value a.parts) c in
    node_shaped production.AttributeValue (leaf (attr_token a.name) ∷ parts_raws value a.parts)
    (leaf_shaped (attr_token a.name), parts_so value a.parts s.parts h.1)
    (ap (λ x. declares_nothing x.tag) (leaf_shape (attr_token a.name))
    ∙ ap declares_nothing (attr_tag a.name) ∙ declares_none p.bound a.name s.name h.0)

attrs_shaped : (p : Prefixes) (attrs : List AttrForm) → AllAttrs attrs → attrs_can p attrs ≡ true
    → AllShaped (map (λ a. attr_raw a) attrs)
attrs_shaped p [] s c = tt
attrs_shaped p (a ∷ attrs) s c =
    let h = and_parts (attr_can p a) (attrs_can p attrs) c in
    (attr_shaped p a s.0 h.0, attrs_shaped p attrs s.1 h.1)

-- direct elements

closing_shaped : (n : Name) (ps : List PartForm) → AllParts ps → parts_can content ps ≡ true
    → Shaped (closing n ps)
closing_shaped n [] g c = loose production.EmptyElement refl [] tt
closing_shaped n (p ∷ ps) g c = loose production.ElementContent refl
    (parts_raws content (p ∷ ps) ++ leaf (shut_token n) ∷ [])
    (append_shaped (parts_raws content (p ∷ ps)) (leaf (shut_token n) ∷ [])
    (parts_so content (p ∷ ps) g c) (leaf_shaped (shut_token n), tt))

front_tag : (n : Name) → (shape_of (leaf (front_token n))).tag ≡ tag n.prefix n.local
unfolding tag_in
front_tag n = ap (λ s. s.tag) (leaf_shape (front_token n))

shut_tag : (n : Name) → (shape_of (leaf (shut_token n))).tag ≡ tag n.prefix n.local
unfolding tag_in
shut_tag n = ap (λ s. s.tag) (leaf_shape (shut_token n))

-- what closes an element ends with its name
closing_alike : (n : Name) (ps : List PartForm)
    → ends_alike (tag n.prefix n.local) (shape_of (closing n ps)).tag ≡ true
unfolding passed_tag
closing_alike n [] = ap (λ s. ends_alike (tag n.prefix n.local) s.tag)
    (node_shape production.EmptyElement []) ∙ no_end n.prefix n.local
closing_alike n (p ∷ ps) =
    let us : List Raw = parts_raws content (p ∷ ps) in
    ap (λ s. ends_alike (tag n.prefix n.local) s.tag)
    (node_shape production.ElementContent (us ++ leaf (shut_token n) ∷ []))
    ∙ ap (λ o. ends_alike (tag n.prefix n.local) o)
    (ap last_tag (shapes_end us (leaf (shut_token n)))
    ∙ last_of (shapes us) (shape_of (leaf (shut_token n))) ∙ shut_tag n)
    ∙ alike n.prefix n.local

pub direct_shaped : (p : Prefixes) (n : Name) (attrs : List AttrForm) (ps : List PartForm)
    → AllAttrs attrs → AllParts ps → (direct p n attrs ps).can ≡ true
    → Shaped (direct p n attrs ps).raw
unfolding own_shape
direct_shaped p n attrs ps s t c =
    let named : Bool = gives_name p.bound p.element_default n (front_token n) in
    let h = and_parts named (attrs_can p attrs && parts_can content ps) c in
    let i = and_parts (attrs_can p attrs) (parts_can content ps) h.1 in
    let us : List Raw = map (λ a. attr_raw a) attrs in
    let front : Raw = leaf (front_token n) in
    node_shaped production.DirectElement (front ∷ (us ++ closing n ps ∷ [])) (
      leaf_shaped (front_token n),
      append_shaped us (closing n ps ∷ [])
          (attrs_shaped p attrs s i.0) (closing_shaped n ps t i.1, tt),
    )
    (ap₂ ends_alike (front_tag n)
    (ap last_tag (shapes_end (front ∷ us) (closing n ps))
    ∙ last_of (shapes (front ∷ us)) (shape_of (closing n ps))) ∙ closing_alike n ps)
