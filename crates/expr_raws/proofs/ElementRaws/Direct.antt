-- Direct elements mean what they are printed for.
use Rattle.std.proofs.Common.{◌≡◌, ℕ, List, [], ◌∷◌, ◌++◌, map, Bool, true, false, cond, ◌&&◌}
use Rattle.std.proofs.Common.{not, refl, sym, ◌∙◌, ap, ap₂, append_assoc, append-nil}
use Rattle.std.proofs.lemmas.Bool.{and_parts}
use Rattle.xt_names.specs.Allowed.{is_empty_text}
use Rattle.xt_names.specs.declared.names.Name.{Name}
use Rattle.xt_syntax.specs.declared.exprs.Expr.{Expr}
use Rattle.xt_syntax.specs.declared.exprs.Expr.TheVariants as expr
use Rattle.xt_syntax.specs.declared.exprs.Part.{Part}
use Rattle.xt_syntax.specs.declared.exprs.Part.TheVariants as part
use Rattle.xt_syntax.specs.declared.exprs.DirectAttr.{DirectAttr}
use Rattle.xt_syntax.specs.declared.exprs.Clause.TheViews.{out-DirectAttr}
use Rattle.expr_keys.specs.declared.tokens.Token.{Token}
use Rattle.expr_keys.specs.declared.tokens.Token.TheVariants as token
use Rattle.expr_keys.specs.declared.productions.Production.{Production}
use Rattle.expr_keys.specs.declared.productions.Production.TheVariants as production
use Rattle.expr_terms.specs.declared.raws.Raw.{Raw}
use Rattle.expr_terms.specs.declared.raws.Raw.TheVariants.{Leaf as leaf, Node as node, rolls-Leaf}
use Rattle.expr_terms.specs.declared.raws.Raw.TheVariants.{rolls-Node}
use Rattle.expr_terms.specs.declared.raws.Raw.TheViews.{out-Raw, roll-Raw, roll-out-Raw}
use Rattle.expr_terms.specs.declared.raws.Raw.TheOpen.{Raw-F, Leaf, Node}
use Rattle.expr_rules.specs.declared.expr_meant.meant.Meant.{Meant}
use Rattle.expr_rules.specs.declared.expr_meant.meant.Meant.TheVariants as meant
use Rattle.expr_rules.specs.ExprMeant.Names.{written_in, written_of}
use Rattle.expr_rules.specs.ExprMeant.Parts.{expr_of, expr_or}
use Rattle.expr_names.specs.Names.{node_name}
use Rattle.expr_rules.specs.Known.{node_name_of}
use Rattle.expr_raws.specs.ExprPrimaries.ExprElements.Space.{run_part, joined_from, piece_in, piece_of, parts_of}
use Rattle.expr_raws.specs.ExprPrimaries.ExprElements.Space.{is_white_text}
use Rattle.expr_raws.specs.ExprPrimaries.ExprElements.Direct as elements
use Rattle.expr_raws.specs.ExprPrimaries.ExprElements.Direct.{attr_and, attrs_in, content_or, content_in}
use Rattle.expr_raws.specs.ExprPrimaries.ExprElements.Table.{element_value}
use Rattle.expr_raws.specs.ExprPrimaries.declared.expr_elements.space.Piece.{Piece}
use Rattle.expr_raws.specs.ExprPrimaries.declared.expr_elements.space.Piece.TheVariants.{Run as piece, Whole as whole}
use Rattle.expr_resolve.specs.declared.setting.Setting.{Setting}
use Rattle.expr_resolve.specs.Tables.{is_chain, family_of, value_in}
use Rattle.expr_resolve.specs.Folds.{value_of}
use Rattle.expr_raws.specs.PathRaws.Forms.{Form, list, at}
use Rattle.expr_raws.proofs.PathRaws.Values.{value_leaf, value_node, at_means, append_values}
use Rattle.expr_raws.specs.ElementRaws.Makers.{gives_name}
use Rattle.expr_raws.specs.ElementRaws.Runs.{Run, runs, run_token, run_tokens, can_run, pieces}
use Rattle.expr_raws.specs.ElementRaws.Direct.{PartForm, characters, enclosed, child, value, content}
use Rattle.expr_raws.specs.ElementRaws.Direct.{enclosure}
use Rattle.expr_raws.specs.ElementRaws.Direct.{inner, is_outer, child_leaf, child_parts, child_raw}
use Rattle.expr_raws.specs.ElementRaws.Direct.{is_outer_leaf, starts_outer, is_element, part_raws}
use Rattle.expr_raws.specs.ElementRaws.Direct.{parts_raws, is_characters, starts_characters, part_can}
use Rattle.expr_raws.specs.ElementRaws.Direct.{parts_can, AttrForm, attr_token, attr_raw, attr_can}
use Rattle.expr_raws.specs.ElementRaws.Direct.{attrs_can, front_token, shut_token, closing, direct}
use Rattle.expr_raws.proofs.ElementRaws.Makers.{name_given}
use Rattle.expr_raws.proofs.ElementRaws.Runs.{blind, runs_read}
use Rattle.xt_names.proofs.BoolLemmas.{not_true}

module _ (s : Setting) where
  -- the leaves of characters as pieces
  run_pieces : (rs : List Run)
      → map piece_of (map (value_of s) (map (λ t. leaf t) (map (λ r. run_token r) rs))) ≡ pieces rs
  unfolding piece_of piece_in
  run_pieces [] = refl
  run_pieces (r ∷ rs) =
      ap₂ (λ p ps. p ∷ ps) (ap piece_of (value_leaf s (run_token r))) (run_pieces rs)

  -- an element within another one
  inner_named : (t : Token) → written_in (inner t) ≡ written_in t
  unfolding written_in
  inner_named (token.StartTagOpen p n) = refl
  inner_named _ = refl

  inner_name : (default : List ℕ) (t : Token)
      → node_name_of s.prefixes.bound default (meant.Token (inner t))
      ≡ node_name_of s.prefixes.bound default (meant.Token t)
  unfolding written_of
  inner_name default t =
      ap (λ w. node_name s.prefixes.bound default w) (inner_named t)

  abbrev pub element_meant : List Raw → Expr
  element_meant vs =
      elements.element s.prefixes.bound s.prefixes.element_default (map (value_of s) vs)

  element_is : (vs : List Raw)
      → value_of s (node production.DirectElement vs) ≡ meant.Expr (element_meant vs)
  unfolding is_chain family_of value_in element_value
  element_is vs = value_node s production.DirectElement vs

  child_is : (vs : List Raw)
      → value_of s (node production.ChildElement vs) ≡ meant.Part (part.Child (element_meant vs))
  unfolding is_chain family_of value_in element_value
  child_is vs = value_node s production.ChildElement vs

  same_front : (v : Raw) (vs : List Raw) → is_outer_leaf (out-Raw v) ≡ true
      → element_meant (child_leaf (out-Raw v) ∷ vs) ≡ element_meant (v ∷ vs)
  same_front v vs = go (out-Raw v) (roll-out-Raw v)
    where
      go : (f : Raw-F Raw) → roll-Raw f ≡ v → is_outer_leaf f ≡ true
          → element_meant (child_leaf f ∷ vs) ≡ element_meant (v ∷ vs)
      go (Node p us) o e = absurd (cc)
      go (Leaf t) o e =
          let is : leaf t ≡ v = sym (rolls-Leaf t) ∙ o in
          ap (λ m. elements.element s.prefixes.bound s.prefixes.element_default
          (m ∷ map (value_of s) vs)) (value_leaf s (inner t))
          ∙ ap (λ n. expr.Direct n (attrs_in (map (value_of s) vs))
          (content_in (map (value_of s) vs))) (inner_name s.prefixes.element_default t)
          ∙ ap (λ m. elements.element s.prefixes.bound s.prefixes.element_default
          (m ∷ map (value_of s) vs)) (sym (value_leaf s t) ∙ ap (λ w. value_of s w) is)

  same_expr : (a b : Expr) → meant.Expr a ≡ meant.Expr b → a ≡ b
  unfolding expr_of
  same_expr a b e = ap expr_of e

  pub child_means : (v : Raw) (e : Expr) → value_of s v ≡ meant.Expr e
      → is_element (out-Raw v) ≡ true
      → value_of s (child_raw (out-Raw v)) ≡ meant.Part (part.Child e)
  child_means v e h = go (out-Raw v) (roll-out-Raw v)
    where
      element : (vs : List Raw) → roll-Raw (Node production.DirectElement vs) ≡ v
          → starts_outer vs ≡ true
          → value_of s (node production.ChildElement (child_parts vs)) ≡ meant.Part (part.Child e)
      element [] o i = absurd (cc)
      element (u ∷ us) o i =
          child_is (child_leaf (out-Raw u) ∷ us)
          ∙ ap (λ x. meant.Part (part.Child x)) (same_front u us i
          ∙ same_expr _ e (sym (element_is (u ∷ us))
          ∙ ap (λ w. value_of s w) (sym (rolls-Node production.DirectElement (u ∷ us)) ∙ o) ∙ h))

      go : (f : Raw-F Raw) → roll-Raw f ≡ v → is_element f ≡ true
          → value_of s (child_raw f) ≡ meant.Part (part.Child e)
      go (Leaf t) o i = absurd (cc)
      go (Node production.DirectElement vs) o i = element vs o i
      go (Node _ vs) o i = absurd (cc)

  -- what a part means
  abbrev pub PartMeans : PartForm → Part → Type 0
  PartMeans (characters cs) q = q ≡ part.Chars cs
  PartMeans (enclosed f) q = (e : Expr) × (q ≡ part.Enclosed e)
      × (f.can ≡ true → value_of s f.raw ≡ meant.Expr e)
  PartMeans (child f) q = (e : Expr) × (q ≡ part.Child e)
      × (f.can ≡ true → value_of s f.raw ≡ meant.Expr e)

  enclosed_is : (x : Bool) (f : Form) (e : Expr) → value_of s f.raw ≡ meant.Expr e
      → value_of s (node (enclosure x) (at list f ∷ [])) ≡ meant.Part (part.Enclosed e)
  unfolding is_chain family_of value_in element_value expr_or
  enclosed_is true f e h =
      value_node s production.PartEnclosed (at list f ∷ [])
      ∙ rw (at_means s list f e h) refl
  enclosed_is false f e h =
      value_node s production.ItemEnclosed (at list f ∷ []) ∙ rw (at_means s list f e h) refl

  -- pieces that end the content, as an end tag does
  abbrev pub Ends : List Piece → Type 0
  Ends zs = (text : List ℕ) (b : Bool)
      → joined_from false text b zs ≡ run_part false text true

  abbrev pub all_pieces : Bool → List PartForm → List Piece
  all_pieces x ps = map piece_of (map (value_of s) (parts_raws x ps))

  map_append : {A B : Type 0} (f : A → B) (xs ys : List A)
      → map f (xs ++ ys) ≡ map f xs ++ map f ys
  map_append f [] ys = refl
  map_append f (x ∷ xs) ys = ap (λ zs. f x ∷ zs) (map_append f xs ys)

  more_pieces : (x : Bool) (us : List Raw) (ps : List PartForm) (zs : List Piece)
      → map piece_of (map (value_of s) (us ++ parts_raws x ps)) ++ zs
      ≡ map piece_of (map (value_of s) us) ++ (all_pieces x ps ++ zs)
  more_pieces x us ps zs =
      ap (λ ms. map piece_of ms ++ zs) (append_values s us (parts_raws x ps))
      ∙ ap (λ qs. qs ++ zs) (map_append piece_of (map (value_of s) us)
      (map (value_of s) (parts_raws x ps)))
      ∙ append_assoc (map piece_of (map (value_of s) us)) (all_pieces x ps) zs

  -- a part that is a piece of its own
  whole_joined : (text : List ℕ) (b : Bool) (v : Raw) (q : Part) (ps : List Piece)
      → value_of s v ≡ meant.Part q
      → joined_from false text b (piece_of (value_of s v) ∷ ps)
      ≡ run_part false text b ++ q ∷ joined_from false [] true ps
  unfolding piece_of
  whole_joined text b v q ps h = rw h refl

  chars_part : (c : ℕ) (cs : List ℕ) (b : Bool)
      → run_part false (c ∷ cs) b ≡ part.Chars (c ∷ cs) ∷ []
  unfolding run_part is_empty_text
  chars_part c cs b = refl

  no_part : (b : Bool) → run_part false [] b ≡ []
  unfolding run_part is_empty_text
  no_part b = refl

  -- a run ends before a part that is no run, and at the end
  run_ends : (text : List ℕ) (b : Bool) (v : Raw) (q : Part) (ps : List Piece) (rest : List Part)
      → value_of s v ≡ meant.Part q → joined_from false [] true ps ≡ rest
      → joined_from false text b (piece_of (value_of s v) ∷ ps)
      ≡ run_part false text b ++ q ∷ rest
  run_ends text b v q ps rest h i =
      whole_joined text b v q ps h ∙ ap (λ x. run_part false text b ++ q ∷ x) i

  module _ (Q : Part → Type 0) (form : Part → PartForm) (means : (q : Part) → Q q
      → PartMeans (form q) q) where
    abbrev pub bare : List ((q : Part) × Q q) → List Part
    bare ys = map (λ y. y.0) ys

    abbrev pub theirs : List ((q : Part) × Q q) → List PartForm
    theirs ys = map form (bare ys)

    whole_means : (x : Bool) (f : PartForm) (q : Part) → PartMeans f q
        → part_can x f ≡ true → is_characters f ≡ false
        → (v : Raw) × (part_raws x f ≡ v ∷ []) × (value_of s v ≡ meant.Part q)
    whole_means x (characters cs) q m c n = absurd (cc)
    whole_means x (enclosed f) q m c n = (
      node (enclosure x) (at list f ∷ []),
      refl,
      enclosed_is x f m.0 (m.2 c)
          ∙ ap (λ y. meant.Part y) (sym m.1),
    )
    whole_means true (child f) q m c n = absurd (cc)
    whole_means false (child f) q m c n =
        let h = and_parts f.can (is_element (out-Raw f.raw)) c in (
          child_raw (out-Raw f.raw),
          refl,
          child_means f.raw m.0 (m.2 h.0) h.1
              ∙ ap (λ y. meant.Part y) (sym m.1),
        )

    -- the parts after a run, where characters do not stand first
    abbrev pub Joins : Bool → List Piece → List ((q : Part) × Q q) → Type 0
    Joins x zs ys = (text : List ℕ) (b : Bool) → starts_characters (theirs ys) ≡ false
        → joined_from false text b (all_pieces x (theirs ys) ++ zs)
        ≡ run_part false text b ++ bare ys

    -- .. and all of them
    abbrev pub Starts : Bool → List Piece → List ((q : Part) × Q q) → Type 0
    Starts x zs ys = joined_from false [] true (all_pieces x (theirs ys) ++ zs) ≡ bare ys

    abbrev Both : Bool → List Piece → List ((q : Part) × Q q) → Type 0
    Both x zs ys = Starts x zs ys × Joins x zs ys

    ends_joined : (text : List ℕ) (b : Bool) (zs : List Piece) → Ends zs
        → joined_from false text b zs ≡ run_part false text b ++ []
    ends_joined text b zs ends =
        ends text b ∙ blind text true b [] ∙ sym (append-nil (run_part false text b))

    whole_behind : (x : Bool) (f : PartForm) (q : Part) (ys : List ((q : Part) × Q q))
        (zs : List Piece) → PartMeans f q → part_can x f ≡ true → is_characters f ≡ false
        → Starts x zs ys → (text : List ℕ) (b : Bool)
        → joined_from false text b (all_pieces x (f ∷ theirs ys) ++ zs)
        ≡ run_part false text b ++ q ∷ bare ys
    whole_behind x f q ys zs m c n more text b =
        let w = whole_means x f q m c n in
        ap (λ ps. joined_from false text b ps) (more_pieces x (part_raws x f) (theirs ys) zs
        ∙ ap (λ vs. map piece_of (map (value_of s) vs) ++ (all_pieces x (theirs ys) ++ zs)) w.1)
        ∙ run_ends text b w.0 q (all_pieces x (theirs ys) ++ zs) (bare ys) w.2 more

    one_starts : (x : Bool) (f : PartForm) (q : Part) (ys : List ((q : Part) × Q q))
        (zs : List Piece) → PartMeans f q → part_can x f ≡ true
        → not (is_characters f && starts_characters (theirs ys)) ≡ true → Both x zs ys
        → joined_from false [] true (all_pieces x (f ∷ theirs ys) ++ zs) ≡ q ∷ bare ys
    one_starts x (characters []) q ys zs m c n more = absurd (cc)
    one_starts x (characters (d ∷ cs)) q ys zs m c n more =
        let rs : List Run = runs x (d ∷ cs) in
        ap (λ ps. joined_from false [] true ps)
        (more_pieces x (part_raws x (characters (d ∷ cs))) (theirs ys) zs
        ∙ ap (λ ps. ps ++ (all_pieces x (theirs ys) ++ zs)) (run_pieces rs))
        ∙ runs_read x (d ∷ cs) [] true (all_pieces x (theirs ys) ++ zs)
        ∙ more.1 (d ∷ cs) true (not_true n)
        ∙ ap (λ ps. ps ++ bare ys) (chars_part d cs true)
        ∙ ap (λ y. y ∷ bare ys) (sym m)
    one_starts x (enclosed f) q ys zs m c n more =
        whole_behind x (enclosed f) q ys zs m c refl more.0 [] true
        ∙ ap (λ ps. ps ++ q ∷ bare ys) (no_part true)
    one_starts x (child f) q ys zs m c n more =
        whole_behind x (child f) q ys zs m c refl more.0 [] true
        ∙ ap (λ ps. ps ++ q ∷ bare ys) (no_part true)

    both : (x : Bool) (zs : List Piece) → Ends zs → (ys : List ((q : Part) × Q q))
        → parts_can x (theirs ys) ≡ true → Both x zs ys
    both x zs ends [] c =
        (ends [] true ∙ no_part true, λ text b e. ends_joined text b zs ends)
    both x zs ends (y ∷ ys) c =
        let f : PartForm = form y.0 in
        let apart : Bool = not (is_characters f && starts_characters (theirs ys)) in
        let h = and_parts (part_can x f) (apart && parts_can x (theirs ys)) c in
        let i = and_parts apart (parts_can x (theirs ys)) h.1 in
        let more = both x zs ends ys i.1 in (
          one_starts x f y.0 ys zs (means y.0 y.1) h.0 i.0 more,
          λ text b e. whole_behind x f y.0 ys zs (means y.0 y.1) h.0 e more.0 text b,
        )

    no_more : {A : Type 0} (xs : List A) → xs ≡ xs ++ []
    no_more xs = sym (append-nil xs)

    nothing_ends : Ends []
    nothing_ends text b = blind text b true []

    shut_ends : (t : Token) → piece_in t ≡ piece [] true
        → Ends (piece_of (value_of s (leaf t)) ∷ [])
    unfolding piece_of
    shut_ends t e text b =
        let blank : Bool = b && (true && is_white_text []) in
        ap (λ p. joined_from false text b (p ∷ [])) (ap piece_of (value_leaf s t) ∙ e)
        ∙ ap (λ x. joined_from false x blank []) (append-nil text)
        ∙ blind text blank true []

    -- the parts of the value of an attribute
    pub value_parts : (ys : List ((q : Part) × Q q)) → parts_can value (theirs ys) ≡ true
        → parts_of false (map (value_of s) (parts_raws value (theirs ys))) ≡ bare ys
    value_parts ys c = ap (λ ps. joined_from false [] true ps)
        (no_more (all_pieces value (theirs ys))) ∙ (both value [] nothing_ends ys c).0

    -- the parts of content, after which the end tag stands
    content_parts : (n : Name) (ys : List ((q : Part) × Q q))
        → parts_can content (theirs ys) ≡ true
        → parts_of false (map (value_of s) (parts_raws content (theirs ys)
        ++ leaf (shut_token n) ∷ [])) ≡ bare ys
    unfolding piece_in
    content_parts n ys c =
        let zs : List Piece = piece_of (value_of s (leaf (shut_token n))) ∷ [] in
        ap (λ ps. joined_from false [] true ps)
        (ap (map piece_of) (append_values s (parts_raws content (theirs ys))
        (leaf (shut_token n) ∷ []))
        ∙ map_append piece_of (map (value_of s) (parts_raws content (theirs ys)))
        (value_of s (leaf (shut_token n)) ∷ []))
        ∙ (both content zs (shut_ends (shut_token n) refl) ys c).0

    pub closing_means : s.strip ≡ false → (n : Name) (ys : List ((q : Part) × Q q))
        → parts_can content (theirs ys) ≡ true
        → value_of s (closing n (theirs ys)) ≡ meant.Content (bare ys)
    unfolding is_chain family_of value_in element_value
    closing_means strip n [] c = value_node s production.EmptyElement []
    closing_means strip n (y ∷ ys) c =
        let vs : List Raw = parts_raws content (theirs (y ∷ ys)) ++ leaf (shut_token n) ∷ []
        in
        value_node s production.ElementContent vs
        ∙ ap (λ b. meant.Content (parts_of b (map (value_of s) vs))) strip
        ∙ ap (λ ps. meant.Content ps) (content_parts n (y ∷ ys) c)

  -- what an attribute means
  pub record AttrMeans (f : AttrForm) (a : DirectAttr) : Type 0 where
    pub name : f.name ≡ (out-DirectAttr a).name
    pub parts : parts_can value f.parts ≡ true
        → parts_of false (map (value_of s) (parts_raws value f.parts)) ≡ (out-DirectAttr a).parts

  abbrev attr : Name → List Part → DirectAttr
  attr n ps = record { name = n; parts = ps }

  same_attr : (a : DirectAttr) → attr (out-DirectAttr a).name (out-DirectAttr a).parts ≡ a
  same_attr a = refl

  attr_means : (f : AttrForm) (a : DirectAttr) → AttrMeans f a
      → attr_can s.prefixes f ≡ true → value_of s (attr_raw f) ≡ meant.Attribute a
  unfolding is_chain family_of value_in element_value
  attr_means f a m c =
      let h = and_parts (gives_name s.prefixes.bound [] f.name (attr_token f.name))
      (parts_can value f.parts) c in
      value_node s production.AttributeValue (leaf (attr_token f.name) ∷ parts_raws value f.parts)
      ∙ ap (λ x. meant.Attribute (attr (node_name_of s.prefixes.bound [] x)
      (parts_of false (map (value_of s) (parts_raws value f.parts)))))
      (value_leaf s (attr_token f.name))
      ∙ ap₂ (λ n ps. meant.Attribute (attr n ps))
      (name_given s.prefixes.bound [] f.name (attr_token f.name) h.0 ∙ m.name) (m.parts h.1)
      ∙ ap (λ x. meant.Attribute x) (same_attr a)

  attrs_are : (attrs : List DirectAttr) (ps : List Part)
      → attrs_in (map (λ a. meant.Attribute a) attrs ++ meant.Content ps ∷ []) ≡ attrs
  unfolding attr_and
  attrs_are [] ps = refl
  attrs_are (a ∷ attrs) ps = ap (λ xs. a ∷ xs) (attrs_are attrs ps)

  content_is : (attrs : List DirectAttr) (ps : List Part)
      → content_in (map (λ a. meant.Attribute a) attrs ++ meant.Content ps ∷ []) ≡ ps
  unfolding content_or
  content_is [] ps = refl
  content_is (a ∷ attrs) ps = content_is attrs ps

  module _ (R : DirectAttr → Type 0) (form : DirectAttr → AttrForm) (means : (a : DirectAttr)
      → R a → AttrMeans (form a) a) where
    attrs_mean : (ys : List ((a : DirectAttr) × R a))
        → attrs_can s.prefixes (map form (map (λ y. y.0) ys)) ≡ true
        → map (value_of s) (map (λ a. attr_raw a) (map form (map (λ y. y.0) ys)))
        ≡ map (λ a. meant.Attribute a) (map (λ y. y.0) ys)
    attrs_mean [] c = refl
    attrs_mean (y ∷ ys) c =
        let h = and_parts (attr_can s.prefixes (form y.0))
        (attrs_can s.prefixes (map form (map (λ z. z.0) ys))) c in
        ap₂ (λ m ms. m ∷ ms) (attr_means (form y.0) y.0 (means y.0 y.1) h.0) (attrs_mean ys h.1)

    pub direct_means : (n : Name) (ys : List ((a : DirectAttr) × R a)) (fs : List PartForm)
        (ps : List Part)
        → (parts_can content fs ≡ true → value_of s (closing n fs) ≡ meant.Content ps)
        → (direct s.prefixes n (map form (map (λ y. y.0) ys)) fs).can ≡ true
        → value_of s (direct s.prefixes n (map form (map (λ y. y.0) ys)) fs).raw
        ≡ meant.Expr (expr.Direct n (map (λ y. y.0) ys) ps)
    direct_means n ys fs ps closes c =
        let attrs : List AttrForm = map form (map (λ y. y.0) ys) in
        let bs : List DirectAttr = map (λ y. y.0) ys in
        let default : List ℕ = s.prefixes.element_default in
        let named : Bool = gives_name s.prefixes.bound default n (front_token n) in
        let h = and_parts named (attrs_can s.prefixes attrs && parts_can content fs) c in
        let i = and_parts (attrs_can s.prefixes attrs) (parts_can content fs) h.1 in
        element_is (leaf (front_token n) ∷ (map (λ a. attr_raw a) attrs ++ closing n fs ∷ []))
        ∙ ap₂ (λ m ms. meant.Expr (elements.element s.prefixes.bound default (m ∷ ms)))
        (value_leaf s (front_token n))
        (append_values s (map (λ a. attr_raw a) attrs) (closing n fs ∷ [])
        ∙ ap₂ (λ xs x. xs ++ x ∷ []) (attrs_mean ys i.0) (closes i.1))
        ∙ ap₂ (λ xs zs. meant.Expr (expr.Direct (node_name_of s.prefixes.bound default
        (meant.Token (front_token n))) xs zs)) (attrs_are bs ps) (content_is bs ps)
        ∙ ap (λ m. meant.Expr (expr.Direct m bs ps))
        (name_given s.prefixes.bound default n (front_token n) h.0)
