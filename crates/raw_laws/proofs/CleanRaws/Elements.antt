-- Constructors and direct elements that are printed break no rule.
use Rattle.std.proofs.Common.{◌≡◌, ℕ, List, [], ◌∷◌, ◌++◌, map, Bool, true, false, cond, ◌&&◌, not}
use Rattle.std.proofs.Common.{refl, sym, ◌∙◌, ap, ap₂, append_assoc, append-nil, Option, Some, None}
use Rattle.std.proofs.lemmas.Bool.{and_parts}
use Rattle.std.specs.Str.{bytes_eq}
use Rattle.xt_names.specs.Allowed.{is_empty_text}
use Rattle.xt_names.specs.declared.codes.Code.{Code}
use Rattle.xt_names.specs.declared.codes.Code.TheVariants.{QueryStatic}
use Rattle.xt_names.specs.declared.codes.QueryStaticCode.TheVariants.{XQST0040}
use Rattle.xt_names.specs.declared.names.Binding.{Binding}
use Rattle.xt_names.specs.declared.names.Name.{Name}
use Rattle.xt_syntax.specs.declared.exprs.DirectAttr.{DirectAttr}
use Rattle.xt_syntax.specs.declared.exprs.Clause.TheViews.{out-DirectAttr}
use Rattle.expr_names.specs.Names.{uri_in, undeclared_in}
use Rattle.expr_names.specs.Doubles.{names_differ}
use Rattle.expr_keys.specs.declared.keys.Key.{Key}
use Rattle.expr_keys.specs.declared.keys.Key.TheVariants as key
use Rattle.expr_keys.specs.declared.tokens.Token.{Token}
use Rattle.expr_keys.specs.declared.tokens.Token.TheVariants as token
use Rattle.expr_keys.specs.declared.productions.Class.{Class}
use Rattle.expr_keys.specs.declared.productions.Class.TheVariants as class
use Rattle.expr_keys.specs.declared.productions.Production.{Production}
use Rattle.expr_keys.specs.declared.productions.Production.TheVariants as production
use Rattle.expr_terms.specs.declared.raws.Raw.{Raw}
use Rattle.expr_terms.specs.declared.raws.Raw.TheVariants.{Leaf as leaf, Node as node, rolls-Leaf}
use Rattle.expr_terms.specs.declared.raws.Raw.TheVariants.{rolls-Node}
use Rattle.expr_terms.specs.declared.raws.Raw.TheViews.{out-Raw, roll-Raw, roll-out-Raw}
use Rattle.expr_terms.specs.declared.raws.Raw.TheOpen.{Raw-F, Leaf, Node}
use Rattle.expr_rules.specs.ExprMeant.Names.{written_in, written_of}
use Rattle.expr_rules.specs.declared.expr_meant.meant.Meant.{Meant}
use Rattle.expr_rules.specs.declared.expr_meant.meant.Meant.TheVariants as meant
use Rattle.expr_rules.specs.Known.{node_name_of}
use Rattle.expr_rules.specs.Rules.{undeclared_of, own_broken, end_broken, doubles_broken, name_and}
use Rattle.expr_rules.specs.Rules.{attr_names}
use Rattle.expr_primaries.specs.ExprElements.Space.{parts_of}
use Rattle.expr_primaries.specs.ExprElements.Table.{element_value}
use Rattle.expr_resolve.specs.declared.setting.Setting.{Setting}
use Rattle.expr_resolve.specs.Tables.{is_chain, is_tag, before_last, family_of, value_in}
use Rattle.expr_resolve.specs.Folds.{Found, step_broken, steps_broken, found_of}
use Rattle.expr_resolve.specs.Folds.{value_of, broken_of}
use Rattle.expr_raws.specs.PathRaws.Forms.{Form, list, at, key_leaf}
use Rattle.expr_raws.specs.PathRaws.Names.{no_codes}
use Rattle.expr_raws.specs.PathRaws.Paths.{with_token}
use Rattle.expr_raws.proofs.PathRaws.Values.{value_leaf, value_node}
use Rattle.expr_raws.proofs.PathRaws.Paths.{fitting_sound}
use Rattle.expr_raws.specs.ElementRaws.Makers.{NameForm, fixed, computed, gives_name, node_spelling}
use Rattle.expr_raws.specs.ElementRaws.Makers.{node_token, given, made, element, attribute, given_pi}
use Rattle.expr_raws.specs.ElementRaws.Makers.{instruction, enclosing}
use Rattle.expr_raws.specs.ElementRaws.Runs.{Run, runs, run_token}
use Rattle.expr_raws.specs.ElementRaws.Direct.{PartForm, characters, enclosed, child, value, content}
use Rattle.expr_raws.specs.ElementRaws.Direct.{enclosure, inner, child_leaf, child_parts, child_raw}
use Rattle.expr_raws.specs.ElementRaws.Direct.{is_outer_leaf, starts_outer, is_element, part_raws}
use Rattle.expr_raws.specs.ElementRaws.Direct.{parts_raws}
use Rattle.expr_raws.specs.ElementRaws.Direct.{is_characters, starts_characters, part_can, parts_can}
use Rattle.expr_raws.specs.ElementRaws.Direct.{AttrForm}
use Rattle.expr_raws.specs.ElementRaws.Direct.{attr_token, attr_raw, attr_can, attrs_can, front_token}
use Rattle.expr_raws.specs.ElementRaws.Direct.{shut_token, closing, direct}
use Rattle.expr_raws.proofs.ElementRaws.Makers.{name_given}
use Rattle.raw_laws.proofs.CleanRaws.Clean.{Clean, AllClean, append_clean, free_clean, leaf_clean, founds}
use Rattle.raw_laws.proofs.CleanRaws.Clean.{broken_node, Own, Told, told_clean, append_told}
use Rattle.raw_laws.proofs.CleanRaws.Clean.{step_clean, untold, Good, good_told}
use Rattle.raw_laws.proofs.CleanRaws.Clean.{at_clean, at_good}
use Rattle.raw_laws.proofs.CleanRaws.Names.{none, Named, leaf_named, key_named}
use Rattle.xt_names.specs.Lists.{is_none}

-- the prefix of the name of a node is declared
given_declared : (bound : List Binding) (default : List ℕ) (n : Name) (t : Token)
    → gives_name bound default n t ≡ true → undeclared_in bound (written_in t) ≡ []
given_declared bound default n t e =
    let same : Bool = bytes_eq (written_in t).prefix n.prefix
    && (bytes_eq (uri_in bound default (written_in t)) n.uri
    && bytes_eq (written_in t).local n.local) in
    none (undeclared_in bound (written_in t))
    (and_parts same (no_codes (undeclared_in bound (written_in t))) e).1

node_declared : (c : Class) (bound : List Binding) (default : List ℕ) (n : Name) (t : Token)
    → node_token c bound default n ≡ Some t → undeclared_in bound (written_in t) ≡ []
node_declared c bound default n t e = given_declared bound default n t
    (fitting_sound c (gives_name bound default n) (node_spelling n ∷ []) t e).1

module _ (s : Setting) where
  -- computed constructors

  -- what a name is written by
  abbrev pub NameGood : NameForm → Type 0
  NameGood (fixed n) = Unit {0}
  NameGood (computed f) = f.can ≡ true → Clean s f.raw

  given_clean : (k : Key) (c : Form) (t : Token)
      → undeclared_in s.prefixes.bound (written_in t) ≡ []
      → Good s c.raw → Clean s (given k c t).raw
  unfolding own_broken end_broken is_tag is_chain
  given_clean k c t e g = told_clean s production.Constructed refl refl
      (key_leaf k ∷ leaf t ∷ at list c ∷ []) (
        key_named s k,
        (
          leaf_named s t e,
          (good_told s production.Constructed false (at list c) (at_good s list c g), tt),
        ),
      ) refl

  given_found : (k : Key) (c : Form) (o : Option Token)
      → ((t : Token) → o ≡ Some t → undeclared_in s.prefixes.bound (written_in t) ≡ [])
      → (c.can ≡ true → Good s c.raw) → (with_token o (given k c)).can ≡ true
      → Clean s (with_token o (given k c)).raw
  given_found k c None h g e = absurd (cc)
  given_found k c (Some t) h g e = given_clean k c t (h t refl) (g e)

  made_clean : (k : Key) (f c : Form) → (f.can ≡ true → Clean s f.raw)
      → (c.can ≡ true → Good s c.raw) → (made k f c).can ≡ true → Clean s (made k f c).raw
  made_clean k f c a g e =
      let h = and_parts f.can c.can e in
      free_clean s production.Computed refl (key_leaf k ∷ at list f ∷ at list c ∷ []) (
        leaf_clean s (token.Key k),
        (at_clean s list f (a h.0), (at_clean s list c (g h.1).0, tt)),
      )

  pub element_clean : (f : NameForm) (c : Form) → NameGood f → (c.can ≡ true → Good s c.raw)
      → (element s.prefixes f c).can ≡ true → Clean s (element s.prefixes f c).raw
  element_clean (fixed n) c a g e = given_found key.ElementWord c
      (node_token class.Name s.prefixes.bound s.prefixes.element_default n)
      (λ t. node_declared class.Name s.prefixes.bound s.prefixes.element_default n t) g e
  element_clean (computed f) c a g e = made_clean key.ElementWord f c a g e

  pub attribute_clean : (f : NameForm) (c : Form) → NameGood f → (c.can ≡ true → Good s c.raw)
      → (attribute s.prefixes f c).can ≡ true → Clean s (attribute s.prefixes f c).raw
  attribute_clean (fixed n) c a g e = given_found key.AttributeWord c
      (node_token class.Name s.prefixes.bound [] n)
      (λ t. node_declared class.Name s.prefixes.bound [] n t) g e
  attribute_clean (computed f) c a g e = made_clean key.AttributeWord f c a g e

  pi_found : (c : Form) (o : Option Token) → (c.can ≡ true → Good s c.raw)
      → (with_token o (given_pi c)).can ≡ true → Clean s (with_token o (given_pi c)).raw
  pi_found c None g e = absurd (cc)
  pi_found c (Some t) g e = free_clean s production.PiConstructed refl (leaf t ∷ at list c ∷ [])
      (leaf_clean s t, (at_clean s list c (g e).0, tt))

  pub instruction_clean : (f : NameForm) (c : Form) → NameGood f → (c.can ≡ true → Good s c.raw)
      → (instruction s.prefixes f c).can ≡ true → Clean s (instruction s.prefixes f c).raw
  instruction_clean (fixed n) c a g e =
      pi_found c (node_token class.Word s.prefixes.bound [] n) g e
  instruction_clean (computed f) c a g e = made_clean key.ProcessingInstructionWord f c a g e

  pub enclosing_clean : (k : Key) (a : Form) → Clean s a.raw → Clean s (enclosing k a).raw
  enclosing_clean k a c = free_clean s production.Enclosing refl (key_leaf k ∷ at list a ∷ [])
      (leaf_clean s (token.Key k), (at_clean s list a c, tt))

  -- an element within another one

  inner_named : (t : Token) → written_in (inner t) ≡ written_in t
  unfolding written_in
  inner_named (token.StartTagOpen p n) = refl
  inner_named _ = refl

  -- what the first part means tells nothing after the attributes
  same_doubles : (last : Bool) (t u : Token) (ms : List Meant)
      → before_last true last (meant.Token t ∷ ms) ≡ before_last true last (meant.Token u ∷ ms)
  unfolding before_last
  same_doubles true t u ms = refl
  same_doubles false t u ms = refl

  tags_alike : (t u : Token) (seen : List Meant) (fs : List Found)
      → steps_broken s production.ChildElement (meant.Token t ∷ seen) fs
      ≡ steps_broken s production.DirectElement (meant.Token u ∷ seen) fs
  unfolding is_tag own_broken
  tags_alike t u seen [] = refl
  tags_alike t u seen (f ∷ fs) =
      ap₂ (λ xs ys. (xs ++ (f.broken ++ undeclared_of s.prefixes.bound f.value)) ++ ys)
      (same_doubles (is_none fs) t u seen) (tags_alike t u (seen ++ f.value ∷ []) fs)

  -- the element with its first token
  front_codes : Production → Token → List Raw → List Code
  front_codes p t vs = step_broken s p (is_none (founds s vs)) [] (found_of s (leaf t))
      ++ steps_broken s p (value_of s (leaf t) ∷ []) (founds s vs)

  own_front : (t : Token) → undeclared_of s.prefixes.bound (value_of s (leaf (inner t)))
      ≡ undeclared_of s.prefixes.bound (value_of s (leaf t))
  unfolding written_of
  own_front t = ap (λ m. undeclared_of s.prefixes.bound m) (value_leaf s (inner t))
      ∙ ap (λ w. undeclared_in s.prefixes.bound w) (inner_named t)
      ∙ ap (λ m. undeclared_of s.prefixes.bound m) (sym (value_leaf s t))

  same_front : (t : Token) (vs : List Raw)
      → front_codes production.ChildElement (inner t) vs ≡ front_codes production.DirectElement t vs
  unfolding front_codes is_tag own_broken
  same_front t vs =
      let last : List Code = before_last true (is_none (founds s vs)) [] in
      ap₂ (λ xs ys. (last ++ xs) ++ ys)
      (ap₂ (λ xs ys. xs ++ ys) (leaf_clean s (inner t) ∙ sym (leaf_clean s t)) (own_front t))
      (ap (λ m. steps_broken s production.ChildElement (m ∷ []) (founds s vs)) (value_leaf s (inner t))
      ∙ tags_alike (inner t) t [] (founds s vs)
      ∙ ap (λ m. steps_broken s production.DirectElement (m ∷ []) (founds s vs)) (sym (value_leaf s t)))

  child_clean : (t : Token) (vs : List Raw) → Clean s (node production.DirectElement (leaf t ∷ vs))
      → Clean s (node production.ChildElement (leaf (inner t) ∷ vs))
  unfolding is_chain end_broken front_codes
  child_clean t vs c =
      let of_child : List Code = front_codes production.ChildElement (inner t) vs in
      let of_element : List Code = front_codes production.DirectElement t vs in
      broken_node s production.ChildElement (leaf (inner t) ∷ vs) ∙ append-nil of_child
      ∙ same_front t vs
      ∙ sym (append-nil of_element) ∙ sym (broken_node s production.DirectElement (leaf t ∷ vs)) ∙ c

  child_so : (v : Raw) → Clean s v → is_element (out-Raw v) ≡ true → Clean s (child_raw (out-Raw v))
  child_so v c = go (out-Raw v) (roll-out-Raw v)
    where
      front : (u : Raw) (vs : List Raw) → Clean s (node production.DirectElement (u ∷ vs))
          → is_outer_leaf (out-Raw u) ≡ true
          → Clean s (node production.ChildElement (child_leaf (out-Raw u) ∷ vs))
      front u vs d = at_front (out-Raw u) (roll-out-Raw u)
        where
          at_front : (f : Raw-F Raw) → roll-Raw f ≡ u → is_outer_leaf f ≡ true
              → Clean s (node production.ChildElement (child_leaf f ∷ vs))
          at_front (Node p us) o i = absurd (cc)
          at_front (Leaf t) o i = child_clean t vs
              (ap (λ w. broken_of s (node production.DirectElement (w ∷ vs))) (sym (rolls-Leaf t) ∙ o)
              ∙ d)

      parts : (vs : List Raw) → Clean s (node production.DirectElement vs) → starts_outer vs ≡ true
          → Clean s (node production.ChildElement (child_parts vs))
      parts [] d i = absurd (cc)
      parts (u ∷ vs) d i = front u vs d i

      go : (f : Raw-F Raw) → roll-Raw f ≡ v → is_element f ≡ true → Clean s (child_raw f)
      go (Leaf t) o i = absurd (cc)
      go (Node production.DirectElement vs) o i = parts vs
          (ap (λ w. broken_of s w) (sym (rolls-Node production.DirectElement vs) ∙ o) ∙ c) i
      go (Node _ vs) o i = absurd (cc)

  -- parts of content and of values

  abbrev pub PartGood : PartForm → Type 0
  PartGood (characters cs) = Unit {0}
  PartGood (enclosed f) = f.can ≡ true → Clean s f.raw
  PartGood (child f) = f.can ≡ true → Clean s f.raw

  abbrev pub AllParts : List PartForm → Type 0
  AllParts [] = Unit {0}
  AllParts (q ∷ qs) = PartGood q × AllParts qs

  chars_named : (r : Run) → Named s (leaf (run_token r))
  unfolding written_in undeclared_in is_empty_text
  chars_named r = leaf_named s (run_token r) refl

  runs_named : (rs : List Run)
      → Told s production.AttributeValue false (map (λ t. leaf t) (map (λ r. run_token r) rs))
  unfolding own_broken
  runs_named [] = tt
  runs_named (r ∷ rs) = (chars_named r, runs_named rs)

  runs_clean : (rs : List Run) → AllClean s (map (λ t. leaf t) (map (λ r. run_token r) rs))
  runs_clean [] = tt
  runs_clean (r ∷ rs) = (leaf_clean s (run_token r), runs_clean rs)

  enclosed_clean : (x : Bool) (f : Form) → Clean s f.raw
      → Clean s (node (enclosure x) (at list f ∷ []))
  enclosed_clean true f c =
      free_clean s production.PartEnclosed refl (at list f ∷ []) (at_clean s list f c, tt)
  enclosed_clean false f c =
      free_clean s production.ItemEnclosed refl (at list f ∷ []) (at_clean s list f c, tt)

  part_clean : (x : Bool) (q : PartForm) → PartGood q → part_can x q ≡ true
      → AllClean s (part_raws x q)
  part_clean x (characters cs) g c = runs_clean (runs x cs)
  part_clean x (enclosed f) g c = (enclosed_clean x f (g c), tt)
  part_clean true (child f) g c = absurd (cc)
  part_clean false (child f) g c =
      let h = and_parts f.can (is_element (out-Raw f.raw)) c in
      (child_so f.raw (g h.0) h.1, tt)

  parts_clean : (x : Bool) (qs : List PartForm) → AllParts qs → parts_can x qs ≡ true
      → AllClean s (parts_raws x qs)
  parts_clean x [] g c = tt
  parts_clean x (q ∷ qs) g c =
      let apart : Bool = not (is_characters q && starts_characters qs) in
      let h = and_parts (part_can x q) (apart && parts_can x qs) c in
      let i = and_parts apart (parts_can x qs) h.1 in
      append_clean s (part_raws x q) (parts_raws x qs) (part_clean x q g.0 h.0)
      (parts_clean x qs g.1 i.1)

  -- .. where they stand in an attribute
  part_told : (q : PartForm) → PartGood q → part_can value q ≡ true
      → Told s production.AttributeValue false (part_raws value q)
  unfolding is_chain family_of value_in element_value
  part_told (characters cs) g c = runs_named (runs value cs)
  part_told (enclosed f) g c = (
    (
      enclosed_clean true f (g c),
      untold s production.AttributeValue false (node production.PartEnclosed (at list f ∷ [])) _
          (value_node s production.PartEnclosed (at list f ∷ [])) refl,
    ),
    tt,
  )
  part_told (child f) g c = absurd (cc)

  parts_told : (qs : List PartForm) → AllParts qs → parts_can value qs ≡ true
      → Told s production.AttributeValue false (parts_raws value qs)
  parts_told [] g c = tt
  parts_told (q ∷ qs) g c =
      let apart : Bool = not (is_characters q && starts_characters qs) in
      let h = and_parts (part_can value q) (apart && parts_can value qs) c in
      let i = and_parts apart (parts_can value qs) h.1 in
      append_told s production.AttributeValue (part_raws value q) (parts_raws value qs)
      (part_told q g.0 h.0) (parts_told qs g.1 i.1)

  -- attributes

  abbrev pub AllAttrs : List AttrForm → Type 0
  AllAttrs [] = Unit {0}
  AllAttrs (a ∷ attrs) = AllParts a.parts × AllAttrs attrs

  abbrev named_attr : AttrForm → DirectAttr
  named_attr a = record {
    name = a.name;
    parts = parts_of s.strip (map (value_of s) (parts_raws value a.parts));
  }

  attr_clean : (a : AttrForm) → AllParts a.parts → attr_can s.prefixes a ≡ true
      → Clean s (attr_raw a)
  unfolding own_broken end_broken is_tag is_chain
  attr_clean a g c =
      let h = and_parts (gives_name s.prefixes.bound [] a.name (attr_token a.name))
      (parts_can value a.parts) c in
      told_clean s production.AttributeValue refl refl
      (leaf (attr_token a.name) ∷ parts_raws value a.parts) (
        leaf_named s (attr_token a.name)
            (given_declared s.prefixes.bound [] a.name (attr_token a.name) h.0),
        parts_told a.parts g h.1,
      ) refl

  attr_means : (a : AttrForm) → attr_can s.prefixes a ≡ true
      → (x : DirectAttr) × ((value_of s (attr_raw a) ≡ meant.Attribute x)
      × ((out-DirectAttr x).name ≡ a.name))
  unfolding is_chain family_of value_in element_value
  attr_means a c =
      let h = and_parts (gives_name s.prefixes.bound [] a.name (attr_token a.name))
      (parts_can value a.parts) c in (
        _,
        (
          value_node s production.AttributeValue (leaf (attr_token a.name) ∷ parts_raws value a.parts),
          ap (λ m. node_name_of s.prefixes.bound [] m) (value_leaf s (attr_token a.name))
              ∙ name_given s.prefixes.bound [] a.name (attr_token a.name) h.0,
        ),
      )

  attrs_told : (attrs : List AttrForm) → AllAttrs attrs → attrs_can s.prefixes attrs ≡ true
      → Told s production.DirectElement false (map (λ a. attr_raw a) attrs)
  attrs_told [] g c = tt
  attrs_told (a ∷ attrs) g c =
      let h = and_parts (attr_can s.prefixes a) (attrs_can s.prefixes attrs) c in
      let m = attr_means a h.0 in (
        (
          attr_clean a g.0 h.0,
          untold s production.DirectElement false (attr_raw a) (meant.Attribute m.0) m.1.0 refl,
        ),
        attrs_told attrs g.1 h.1,
      )

  attrs_named : (attrs : List AttrForm) → attrs_can s.prefixes attrs ≡ true
      → attr_names (map (value_of s) (map (λ a. attr_raw a) attrs)) ≡ map (λ a. a.name) attrs
  attrs_named [] c = refl
  attrs_named (a ∷ attrs) c =
      let h = and_parts (attr_can s.prefixes a) (attrs_can s.prefixes attrs) c in
      let m = attr_means a h.0 in
      ap (λ x. name_and x (attr_names (map (value_of s) (map (λ b. attr_raw b) attrs)))) m.1.0
      ∙ ap₂ (λ n ns. n ∷ ns) m.1.1 (attrs_named attrs h.1)

  -- direct elements

  no_content : Clean s (node production.EmptyElement [])
  no_content = free_clean s production.EmptyElement refl [] tt

  closing_clean : (n : Name) (ps : List PartForm) → AllParts ps → parts_can content ps ≡ true
      → Clean s (closing n ps)
  closing_clean n [] g c = no_content
  closing_clean n (p ∷ ps) g c = free_clean s production.ElementContent refl
      (parts_raws content (p ∷ ps) ++ leaf (shut_token n) ∷ [])
      (append_clean s (parts_raws content (p ∷ ps)) (leaf (shut_token n) ∷ [])
      (parts_clean content (p ∷ ps) g c) (leaf_clean s (shut_token n), tt))

  closing_own : (n : Name) (ps : List PartForm) → Own s production.DirectElement false (closing n ps)
  unfolding is_chain family_of value_in element_value
  closing_own n [] = untold s production.DirectElement false (node production.EmptyElement []) _
      (value_node s production.EmptyElement []) refl
  closing_own n (p ∷ ps) =
      let vs : List Raw = parts_raws content (p ∷ ps) ++ leaf (shut_token n) ∷ [] in
      untold s production.DirectElement false (node production.ElementContent vs) _
      (value_node s production.ElementContent vs) refl

  not_last : (us : List Raw) (v : Raw) → is_none (founds s (us ++ v ∷ [])) ≡ false
  not_last [] v = refl
  not_last (u ∷ us) v = refl

  middle : (last : Bool) (ms : List Meant) → last ≡ false → before_last true last ms ≡ []
  unfolding before_last
  middle true ms e = absurd (cc)
  middle false ms e = refl

  -- the attributes after those that mean `seen`, and what closes the element
  attrs_steps : (m : Meant) (seen : List Meant) (us : List Raw) (v : Raw)
      → Told s production.DirectElement false us → Clean s v → Own s production.DirectElement false v
      → doubles_broken ((m ∷ seen) ++ map (value_of s) us) ≡ []
      → steps_broken s production.DirectElement (m ∷ seen) (founds s (us ++ v ∷ [])) ≡ []
  unfolding is_tag before_last
  attrs_steps m seen [] v t c o e =
      ap₂ (λ xs ys. (xs ++ ys) ++ [])
      (ap doubles_broken (sym (append-nil (m ∷ seen))) ∙ e)
      (step_clean s production.DirectElement (m ∷ seen) false refl v c o)
  attrs_steps m seen (u ∷ us) v t c o e =
      ap₂ (λ xs ys. (xs ++ ys) ++ steps_broken s production.DirectElement
      (m ∷ (seen ++ value_of s u ∷ [])) (founds s (us ++ v ∷ [])))
      (middle (is_none (founds s (us ++ v ∷ []))) (m ∷ seen) (not_last us v))
      (step_clean s production.DirectElement (m ∷ seen) false refl u t.0.0 t.0.1)
      ∙ attrs_steps m (seen ++ value_of s u ∷ []) us v t.1 c o
      (ap doubles_broken (append_assoc (m ∷ seen) (value_of s u ∷ []) (map (value_of s) us)) ∙ e)

  no_doubles_in : (t : Token) (attrs : List AttrForm) → attrs_can s.prefixes attrs ≡ true
      → names_differ (map (λ a. a.name) attrs) ≡ true
      → doubles_broken (meant.Token t ∷ map (value_of s) (map (λ a. attr_raw a) attrs)) ≡ []
  no_doubles_in t attrs c d =
      ap (λ ns. cond (names_differ ns) [] (QueryStatic XQST0040 ∷ [])) (attrs_named attrs c)
      ∙ ap (λ b. cond b [] (QueryStatic XQST0040 ∷ [])) d

  pub direct_clean : (n : Name) (attrs : List AttrForm) (ps : List PartForm) → AllAttrs attrs
      → AllParts ps → names_differ (map (λ a. a.name) attrs) ≡ true
      → (direct s.prefixes n attrs ps).can ≡ true → Clean s (direct s.prefixes n attrs ps).raw
  unfolding is_chain is_tag own_broken end_broken front_codes
  direct_clean n attrs ps ga gp d c =
      let default : List ℕ = s.prefixes.element_default in
      let named : Bool = gives_name s.prefixes.bound default n (front_token n) in
      let h = and_parts named (attrs_can s.prefixes attrs && parts_can content ps) c in
      let i = and_parts (attrs_can s.prefixes attrs) (parts_can content ps) h.1 in
      let us : List Raw = map (λ a. attr_raw a) attrs in
      let vs : List Raw = us ++ closing n ps ∷ [] in
      let front : Raw = leaf (front_token n) in
      let same = leaf_named s (front_token n)
      (given_declared s.prefixes.bound default n (front_token n) h.0) in
      broken_node s production.DirectElement (front ∷ vs)
      ∙ append-nil (front_codes production.DirectElement (front_token n) vs)
      ∙ ap₂ (λ xs ys. (xs ++ ys)
      ++ steps_broken s production.DirectElement (value_of s front ∷ []) (founds s vs))
      (middle (is_none (founds s vs)) [] (not_last us (closing n ps)))
      (step_clean s production.DirectElement [] true refl front same.0 same.1)
      ∙ ap (λ m. steps_broken s production.DirectElement (m ∷ []) (founds s vs))
      (value_leaf s (front_token n))
      ∙ attrs_steps (meant.Token (front_token n)) [] us (closing n ps)
      (attrs_told attrs ga i.0) (closing_clean n ps gp i.1) (closing_own n ps)
      (no_doubles_in (front_token n) attrs i.0 d)
