-- Constructors and direct elements that are printed nest no deeper than what they mean.
use Rattle.std.proofs.Common.{◌≡◌, ℕ, ◌+◌, ◌≤◌, max, List, [], ◌∷◌, ◌++◌, map, Bool, true, false}
use Rattle.std.proofs.Common.{◌&&◌, not, refl, sym, ◌∙◌, ap, arith, Option, Some, None}
use Rattle.std.proofs.lemmas.Bool.{and_parts}
use Rattle.xt_names.specs.declared.names.Name.{Name}
use Rattle.xt_syntax.specs.declared.prefixes.Prefixes.{Prefixes}
use Rattle.expr_keys.specs.declared.keys.Key.{Key}
use Rattle.expr_keys.specs.declared.keys.Key.TheVariants as key
use Rattle.expr_keys.specs.declared.tokens.Token.{Token}
use Rattle.expr_keys.specs.declared.tokens.Token.TheVariants as token
use Rattle.expr_keys.specs.declared.productions.Class.TheVariants as class
use Rattle.expr_keys.specs.declared.productions.Production.{Production}
use Rattle.expr_keys.specs.declared.productions.Production.TheVariants as production
use Rattle.expr_terms.specs.declared.raws.Raw.{Raw}
use Rattle.expr_terms.specs.declared.raws.Raw.TheVariants.{Leaf as leaf, Node as node, rolls-Leaf}
use Rattle.expr_terms.specs.declared.raws.Raw.TheVariants.{rolls-Node}
use Rattle.expr_terms.specs.declared.raws.Raw.TheViews.{out-Raw, roll-Raw, roll-out-Raw}
use Rattle.expr_terms.specs.declared.raws.Raw.TheOpen.{Raw-F, Leaf, Node}
use Rattle.expr_terms.specs.Nest.{Levels, levels_of, raw_nest_of, with_parts}
use Rattle.expr_grammar.specs.ExprNest.Held.{held}
use Rattle.expr_grammar.proofs.ExprNest.Levels.{nest-node}
use Rattle.expr_raws.specs.PathRaws.Forms.{Form, list, at, key_leaf}
use Rattle.expr_raws.specs.PathRaws.Paths.{with_token}
use Rattle.expr_raws.specs.ElementRaws.Makers.{NameForm, fixed, computed, gives_name, node_token, given}
use Rattle.expr_raws.specs.ElementRaws.Makers.{made, element, attribute, given_pi, instruction, enclosing}
use Rattle.expr_raws.specs.ElementRaws.Runs.{Run, runs, run_token}
use Rattle.expr_raws.specs.ElementRaws.Direct.{PartForm, characters, enclosed, child, value, content}
use Rattle.expr_raws.specs.ElementRaws.Direct.{enclosure, inner, child_leaf, child_parts, child_raw}
use Rattle.expr_raws.specs.ElementRaws.Direct.{is_outer_leaf, starts_outer, is_element, part_raws}
use Rattle.expr_raws.specs.ElementRaws.Direct.{parts_raws, is_characters, starts_characters, part_can}
use Rattle.expr_raws.specs.ElementRaws.Direct.{parts_can, AttrForm, attr_token, attr_raw, attr_can}
use Rattle.expr_raws.specs.ElementRaws.Direct.{attrs_can, front_token, shut_token, closing, direct}
use Rattle.raw_laws.proofs.NestRaws.Within.{Within, leaf_none, leaf_below, node_mark, AllBelow}
use Rattle.raw_laws.proofs.NestRaws.Within.{append_below, node_below, level_within, at_within, wider}

-- computed constructors

-- what a name is written by
abbrev pub NameWithin : ℕ → NameForm → Type 0
NameWithin n (fixed m) = Unit {0}
NameWithin n (computed f) = f.can ≡ true → Within n f.raw

given_within : (k : Key) (c : Form) (t : Token) (n : ℕ) → Within n c.raw
    → Within (1 + n) (given k c t).raw
given_within k c t n w =
    let vs : List Raw = key_leaf k ∷ leaf t ∷ at list c ∷ [] in
    let a : raw_nest_of (key_leaf k) ≡ 0 = leaf_none (token.Key k) in
    let b : raw_nest_of (leaf t) ≡ 0 = leaf_none t in
    let d : raw_nest_of (at list c) ≤ n = (at_within list c n w).below in
    let s : 1 ≤ n = w.some in
    let e : raw_nest_of (node production.Constructed vs) ≡ 1 + max 1 (max (max
    (max 0 (raw_nest_of (key_leaf k))) (raw_nest_of (leaf t))) (raw_nest_of (at list c))) =
    nest-node production.Constructed vs in
    record {
      below = omega arith;
      plainly = node_mark production.Constructed vs;
      some = omega arith;
    }

pi_within : (c : Form) (t : Token) (n : ℕ) → Within n c.raw → Within (1 + n) (given_pi c t).raw
pi_within c t n w =
    let vs : List Raw = leaf t ∷ at list c ∷ [] in
    let b : raw_nest_of (leaf t) ≡ 0 = leaf_none t in
    let d : raw_nest_of (at list c) ≤ n = (at_within list c n w).below in
    let s : 1 ≤ n = w.some in
    let e : raw_nest_of (node production.PiConstructed vs) ≡ 1 + max 1 (max
    (max 0 (raw_nest_of (leaf t))) (raw_nest_of (at list c))) =
    nest-node production.PiConstructed vs in
    record {
      below = omega arith;
      plainly = node_mark production.PiConstructed vs;
      some = omega arith;
    }

given_found : (k : Key) (c : Form) (o : Option Token) (n : ℕ) → (c.can ≡ true → Within n c.raw)
    → (with_token o (given k c)).can ≡ true → Within (1 + n) (with_token o (given k c)).raw
given_found k c None n g e = absurd (cc)
given_found k c (Some t) n g e = given_within k c t n (g e)

pi_found : (c : Form) (o : Option Token) (n : ℕ) → (c.can ≡ true → Within n c.raw)
    → (with_token o (given_pi c)).can ≡ true → Within (1 + n) (with_token o (given_pi c)).raw
pi_found c None n g e = absurd (cc)
pi_found c (Some t) n g e = pi_within c t n (g e)

made_within : (k : Key) (f c : Form) (m n : ℕ) → (f.can ≡ true → Within m f.raw)
    → (c.can ≡ true → Within n c.raw) → (made k f c).can ≡ true
    → Within (1 + max m n) (made k f c).raw
made_within k f c m n a g e =
    let h = and_parts f.can c.can e in
    let x : raw_nest_of (at list f) ≤ m = (at_within list f m (a h.0)).below in
    let y : raw_nest_of (at list c) ≤ n = (at_within list c n (g h.1)).below in
    let v : raw_nest_of (at list f) ≤ max m n = omega arith in
    let w : raw_nest_of (at list c) ≤ max m n = omega arith in
    level_within production.Computed refl refl refl (λ b. refl) (max m n)
    (key_leaf k ∷ at list f ∷ at list c ∷ []) (leaf_below (max m n) (token.Key k), (v, (w, tt)))

-- a name that is given counts nothing
beside : (m n : ℕ) (v : Raw) → Within (1 + n) v → Within (1 + max m n) v
beside m n v w =
    let h : 1 + n ≤ 1 + max m n = omega arith in
    wider (1 + n) (1 + max m n) v h w

pub element_within : (p : Prefixes) (f : NameForm) (c : Form) (m n : ℕ) → NameWithin m f
    → (c.can ≡ true → Within n c.raw) → (element p f c).can ≡ true
    → Within (1 + max m n) (element p f c).raw
element_within p (fixed x) c m n a g e = beside m n (element p (fixed x) c).raw
    (given_found key.ElementWord c (node_token class.Name p.bound p.element_default x) n g e)
element_within p (computed f) c m n a g e = made_within key.ElementWord f c m n a g e

pub attribute_within : (p : Prefixes) (f : NameForm) (c : Form) (m n : ℕ) → NameWithin m f
    → (c.can ≡ true → Within n c.raw) → (attribute p f c).can ≡ true
    → Within (1 + max m n) (attribute p f c).raw
attribute_within p (fixed x) c m n a g e = beside m n (attribute p (fixed x) c).raw
    (given_found key.AttributeWord c (node_token class.Name p.bound [] x) n g e)
attribute_within p (computed f) c m n a g e = made_within key.AttributeWord f c m n a g e

pub instruction_within : (p : Prefixes) (f : NameForm) (c : Form) (m n : ℕ) → NameWithin m f
    → (c.can ≡ true → Within n c.raw) → (instruction p f c).can ≡ true
    → Within (1 + max m n) (instruction p f c).raw
instruction_within p (fixed x) c m n a g e = beside m n (instruction p (fixed x) c).raw
    (pi_found c (node_token class.Word p.bound [] x) n g e)
instruction_within p (computed f) c m n a g e =
    made_within key.ProcessingInstructionWord f c m n a g e

pub enclosing_within : (k : Key) (a : Form) (n : ℕ) → Within n a.raw
    → Within (1 + n) (enclosing k a).raw
enclosing_within k a n w = level_within production.Enclosing refl refl refl (λ b. refl) n
    (key_leaf k ∷ at list a ∷ []) (leaf_below n (token.Key k), ((at_within list a n w).below, tt))

-- an element within another one

same_parts : (a : ℕ) (vs : List Levels)
    → with_parts production.ChildElement a vs ≡ with_parts production.DirectElement a vs
same_parts a [] = refl
same_parts a (v ∷ vs) = same_parts (max a v.nest) vs

child_same : (t : Token) (vs : List Raw) → raw_nest_of (node production.ChildElement (leaf (inner t) ∷ vs))
    ≡ raw_nest_of (node production.DirectElement (leaf t ∷ vs))
child_same t vs = nest-node production.ChildElement (leaf (inner t) ∷ vs)
    ∙ ap (λ a. 1 + with_parts production.ChildElement (max 0 a) (map levels_of vs)) (leaf_none (inner t))
    ∙ ap (λ a. 1 + a) (same_parts (max 0 0) (map levels_of vs))
    ∙ ap (λ a. 1 + with_parts production.DirectElement (max 0 a) (map levels_of vs)) (sym (leaf_none t))
    ∙ sym (nest-node production.DirectElement (leaf t ∷ vs))

child_below : (v : Raw) (n : ℕ) → raw_nest_of v ≤ n → is_element (out-Raw v) ≡ true
    → raw_nest_of (child_raw (out-Raw v)) ≤ n
child_below v n b = go (out-Raw v) (roll-out-Raw v)
  where
    front : (u : Raw) (vs : List Raw) → raw_nest_of (node production.DirectElement (u ∷ vs)) ≤ n
        → is_outer_leaf (out-Raw u) ≡ true
        → raw_nest_of (node production.ChildElement (child_leaf (out-Raw u) ∷ vs)) ≤ n
    front u vs d = at_front (out-Raw u) (roll-out-Raw u)
      where
        at_front : (f : Raw-F Raw) → roll-Raw f ≡ u → is_outer_leaf f ≡ true
            → raw_nest_of (node production.ChildElement (child_leaf f ∷ vs)) ≤ n
        at_front (Node p us) o i = absurd (cc)
        at_front (Leaf t) o i =
            let e : raw_nest_of (node production.ChildElement (leaf (inner t) ∷ vs))
            ≡ raw_nest_of (node production.DirectElement (u ∷ vs)) = child_same t vs
            ∙ ap (λ w. raw_nest_of (node production.DirectElement (w ∷ vs))) (sym (rolls-Leaf t) ∙ o) in
            omega arith

    parts : (vs : List Raw) → raw_nest_of (node production.DirectElement vs) ≤ n
        → starts_outer vs ≡ true → raw_nest_of (node production.ChildElement (child_parts vs)) ≤ n
    parts [] d i = absurd (cc)
    parts (u ∷ vs) d i = front u vs d i

    go : (f : Raw-F Raw) → roll-Raw f ≡ v → is_element f ≡ true → raw_nest_of (child_raw f) ≤ n
    go (Leaf t) o i = absurd (cc)
    go (Node production.DirectElement vs) o i =
        let e : raw_nest_of (node production.DirectElement vs) ≡ raw_nest_of v =
        ap (λ w. raw_nest_of w) (sym (rolls-Node production.DirectElement vs) ∙ o) in
        let h : raw_nest_of (node production.DirectElement vs) ≤ n = omega arith in
        parts vs h i
    go (Node _ vs) o i = absurd (cc)

-- parts of content and of values

abbrev pub PartWithin : ℕ → PartForm → Type 0
PartWithin n (characters cs) = Unit {0}
PartWithin n (enclosed f) = f.can ≡ true → Within n f.raw
PartWithin n (child f) = f.can ≡ true → Within n f.raw

abbrev pub AllParts : ℕ → List PartForm → Type 0
AllParts n [] = Unit {0}
AllParts n (q ∷ qs) = PartWithin n q × AllParts n qs

runs_below : (n : ℕ) (rs : List Run)
    → AllBelow n (map (λ t. leaf t) (map (λ r. run_token r) rs))
runs_below n [] = tt
runs_below n (r ∷ rs) = (leaf_below n (run_token r), runs_below n rs)

enclosed_below : (x : Bool) (f : Form) (n : ℕ) → Within n f.raw
    → raw_nest_of (node (enclosure x) (at list f ∷ [])) ≤ n
enclosed_below true f n w = node_below production.PartEnclosed refl refl (λ a. refl) n
    (at list f ∷ []) ((at_within list f n w).below, tt)
enclosed_below false f n w = node_below production.ItemEnclosed refl refl (λ a. refl) n
    (at list f ∷ []) ((at_within list f n w).below, tt)

part_below : (x : Bool) (q : PartForm) (n : ℕ) → PartWithin n q → part_can x q ≡ true
    → AllBelow n (part_raws x q)
part_below x (characters cs) n g c = runs_below n (runs x cs)
part_below x (enclosed f) n g c = (enclosed_below x f n (g c), tt)
part_below true (child f) n g c = absurd (cc)
part_below false (child f) n g c =
    let h = and_parts f.can (is_element (out-Raw f.raw)) c in
    (child_below f.raw n (g h.0).below h.1, tt)

parts_below : (x : Bool) (qs : List PartForm) (n : ℕ) → AllParts n qs → parts_can x qs ≡ true
    → AllBelow n (parts_raws x qs)
parts_below x [] n g c = tt
parts_below x (q ∷ qs) n g c =
    let apart : Bool = not (is_characters q && starts_characters qs) in
    let h = and_parts (part_can x q) (apart && parts_can x qs) c in
    let i = and_parts apart (parts_can x qs) h.1 in
    append_below n (part_raws x q) (parts_raws x qs) (part_below x q n g.0 h.0)
    (parts_below x qs n g.1 i.1)

-- attributes

abbrev pub AllAttrs : ℕ → List AttrForm → Type 0
AllAttrs n [] = Unit {0}
AllAttrs n (a ∷ attrs) = AllParts n a.parts × AllAttrs n attrs

attr_below : (p : Prefixes) (a : AttrForm) (n : ℕ) → AllParts n a.parts → attr_can p a ≡ true
    → raw_nest_of (attr_raw a) ≤ n
attr_below p a n g c =
    let h = and_parts (gives_name p.bound [] a.name (attr_token a.name)) (parts_can value a.parts)
    c in
    node_below production.AttributeValue refl refl (λ x. refl) n
    (leaf (attr_token a.name) ∷ parts_raws value a.parts)
    (leaf_below n (attr_token a.name), parts_below value a.parts n g h.1)

attrs_below : (p : Prefixes) (attrs : List AttrForm) (n : ℕ) → AllAttrs n attrs
    → attrs_can p attrs ≡ true → AllBelow n (map (λ a. attr_raw a) attrs)
attrs_below p [] n g c = tt
attrs_below p (a ∷ attrs) n g c =
    let h = and_parts (attr_can p a) (attrs_can p attrs) c in
    (attr_below p a n g.0 h.0, attrs_below p attrs n g.1 h.1)

-- direct elements

closing_below : (x : Name) (ps : List PartForm) (n : ℕ) → AllParts n ps
    → parts_can content ps ≡ true → raw_nest_of (closing x ps) ≤ n
closing_below x [] n g c = node_below production.EmptyElement refl refl (λ a. refl) n [] tt
closing_below x (q ∷ qs) n g c = node_below production.ElementContent refl refl (λ a. refl) n
    (parts_raws content (q ∷ qs) ++ leaf (shut_token x) ∷ [])
    (append_below n (parts_raws content (q ∷ qs)) (leaf (shut_token x) ∷ [])
    (parts_below content (q ∷ qs) n g c) (leaf_below n (shut_token x), tt))

pub direct_within : (p : Prefixes) (x : Name) (attrs : List AttrForm) (ps : List PartForm) (n : ℕ)
    → AllAttrs n attrs → AllParts n ps → (direct p x attrs ps).can ≡ true
    → Within (1 + n) (direct p x attrs ps).raw
direct_within p x attrs ps n ga gp c =
    let h = and_parts (gives_name p.bound p.element_default x (front_token x))
    (attrs_can p attrs && parts_can content ps) c in
    let i = and_parts (attrs_can p attrs) (parts_can content ps) h.1 in
    level_within production.DirectElement refl refl refl (λ a. refl) n
    (leaf (front_token x) ∷ (map (λ a. attr_raw a) attrs ++ closing x ps ∷ [])) (
      leaf_below n (front_token x),
      append_below n (map (λ a. attr_raw a) attrs) (closing x ps ∷ [])
          (attrs_below p attrs n ga i.0) (closing_below x ps n gp i.1, tt),
    )
