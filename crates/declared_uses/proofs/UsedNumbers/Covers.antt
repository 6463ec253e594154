-- The names that a node names are in the table that a walk over it gives.
use Rattle.std.proofs.Common.{◌≡◌, List, [], ◌∷◌, ◌++◌, map, Bool, true, false, cond, ◌&&◌, refl, sym}
use Rattle.std.proofs.Common.{subst, ap, ◌∙◌}
use Rattle.std.proofs.lemmas.Bool.{and_parts, and_from, or_left, or_right}
use Rattle.std.proofs.lemmas.List.Folds.{list_any-append}
use Rattle.std.proofs.lemmas.Slice.Eq.{bytes_eq-Decides}
use Rattle.std.specs.List.{list_all, list_any}
use Rattle.std.specs.Str.{bytes_eq}
use Rattle.xt_names.specs.declared.names.Binding.{Binding}
use Rattle.xt_names.specs.declared.names.Name.{Name}
use Rattle.xt_names.specs.declared.names.ExprName.{ExprName}
use Rattle.xt_tree.specs.declared.attributes.Attribute.{Attribute}
use Rattle.sheet_table.specs.Elements.{xsl_element}
use Rattle.sheet_table.specs.declared.sheet_nodes.nodes.Node.{Node}
use Rattle.sheet_table.specs.declared.sheet_nodes.nodes.Node.TheViews.{out-Node, roll-Node}
use Rattle.sheet_table.specs.declared.sheet_nodes.nodes.Node.TheFolds.{fold-Node, fold-roll-Node, fold_out-Node}
use Rattle.sheet_table.specs.declared.sheet_nodes.nodes.Node.TheFolds.{map-Node, ind-Node}
use Rattle.sheet_table.specs.declared.sheet_nodes.nodes.Node.TheOpen.{Node-F, Elem, Chars}
use Rattle.sheet_values.specs.Modes.{default_mode}
use Rattle.sheet_values.specs.SheetTexts.Names.{with_name}
use Rattle.module_loading.specs.ModuleReader.Mentions.{Walk, one_by_one, own_names, step, walk, with_names}
use Rattle.module_loading.specs.ModuleReader.Mentions.{is_declaration, top_walk}
use Rattle.module_loading.specs.declared.module_reader.mentions.Mention.{Mention}
use Rattle.xt_names.specs.ExprNames.{same_name}

abbrev pub in_table : List ExprName → ExprName → Bool
in_table table n = list_any (same_name n) table

-- one table has all names of another
abbrev pub Sub : List ExprName → List ExprName → Type 0
Sub s t = (n : ExprName) → in_table s n ≡ true → in_table t n ≡ true

-- whether the table has all that is named where these bindings are in force
abbrev pub Cover : Type 0
Cover = List Binding → Bool

abbrev pub all_by : List Cover → Cover
all_by [] bound = true
all_by (c ∷ cs) bound = c bound && all_by cs bound

abbrev pub cover_step : Mention → List ExprName → Node-F Cover → Cover
cover_step m table (Elem own name attributes kids) bound =
    list_all (in_table table) (own_names m (xsl_element name) (own ++ bound) attributes)
    && all_by kids (own ++ bound)
cover_step m table (Chars t) bound = true

abbrev pub covers : Mention → List ExprName → Node → Cover
covers m table = fold-Node Cover (cover_step m table)

abbrev pub all_covered : Mention → List ExprName → List Node → Cover
all_covered m table ns bound = list_all (λ n. covers m table n bound) ns

covers_all : (m : Mention) (table : List ExprName) (ns : List Node) (bound : List Binding)
    → all_by (map (covers m table) ns) bound ≡ all_covered m table ns bound
covers_all m table [] bound = refl
covers_all m table (n ∷ ns) bound =
    ap (λ (b : Bool). covers m table n bound && b) (covers_all m table ns bound)

-- tables that grow
same_here : (n : ExprName) → same_name n n ≡ true
same_here n = and_from _ _ (texts n.uri) (texts n.local)
  where
    texts : (t : List _) → bytes_eq t t ≡ true
    texts t = (bytes_eq-Decides t t).1 refl

put_grows : (table : List ExprName) (m : ExprName) → Sub table (with_name table m)
put_grows table m n h = go (list_any (same_name m) table)
  where
    go : (b : Bool) → list_any (same_name n) (cond b table (table ++ m ∷ [])) ≡ true
    go true = h
    go false = list_any-append (same_name n) table (m ∷ []) ∙ or_left (in_table table n) _ h

put_there : (table : List ExprName) (m : ExprName) → in_table (with_name table m) m ≡ true
put_there table m = go (list_any (same_name m) table) refl
  where
    go : (b : Bool) → list_any (same_name m) table ≡ b
        → list_any (same_name m) (cond b table (table ++ m ∷ [])) ≡ true
    go true e = e
    go false e =
        list_any-append (same_name m) table (m ∷ [])
        ∙ or_right (in_table table m) _ (or_left (same_name m m) _ (same_here m))

pub all_grow : (table names : List ExprName) → Sub table (with_names table names)
all_grow table [] n h = h
all_grow table (m ∷ names) n h = all_grow (with_name table m) names n (put_grows table m n h)

pub all_there : (table names whole : List ExprName) → Sub (with_names table names) whole
    → list_all (in_table whole) names ≡ true
all_there table [] whole s = refl
all_there table (m ∷ names) whole s =
    and_from (in_table whole m) _
    (s m (all_grow (with_name table m) names m (put_there table m)))
    (all_there (with_name table m) names whole s)

-- the default mode comes first
abbrev pub FirstIsDefault : List ExprName → Type 0
FirstIsDefault [] = ⊥
FirstIsDefault (d ∷ ms) = d ≡ default_mode

put_behind : (table : List ExprName) (m : ExprName) → FirstIsDefault table
    → FirstIsDefault (with_name table m)
put_behind [] m f = absurd f
put_behind (d ∷ ms) m f = go (list_any (same_name m) (d ∷ ms))
  where
    go : (b : Bool) → FirstIsDefault (cond b (d ∷ ms) (d ∷ (ms ++ m ∷ [])))
    go true = f
    go false = f

all_behind : (table names : List ExprName) → FirstIsDefault table
    → FirstIsDefault (with_names table names)
all_behind table [] f = f
all_behind table (m ∷ names) f = all_behind (with_name table m) names (put_behind table m f)

module _ (m : Mention) where
  -- the walk over a node keeps a table, and covers the node
  pub record Walked (n : Node) : Type 0 where
    pub grows : (bound : List Binding) (table : List ExprName) → Sub table (walk m n bound table)
    pub covered : (bound : List Binding) (table whole : List ExprName)
        → Sub (walk m n bound table) whole → covers m whole n bound ≡ true
    pub first : (bound : List Binding) (table : List ExprName) → FirstIsDefault table
        → FirstIsDefault (walk m n bound table)

  abbrev bare : List ((n : Node) × Walked n) → List Node
  bare ys = map (λ y. y.0) ys

  kids_grow : (ys : List ((n : Node) × Walked n)) (bound : List Binding) (table : List ExprName)
      → Sub table (one_by_one (map (walk m) (bare ys)) bound table)
  kids_grow [] bound table n h = h
  kids_grow (y ∷ ys) bound table n h =
      kids_grow ys bound (walk m y.0 bound table) n (y.1.grows bound table n h)

  kids_covered : (ys : List ((n : Node) × Walked n)) (bound : List Binding)
      (table whole : List ExprName)
      → Sub (one_by_one (map (walk m) (bare ys)) bound table) whole
      → all_by (map (covers m whole) (bare ys)) bound ≡ true
  kids_covered [] bound table whole s = refl
  kids_covered (y ∷ ys) bound table whole s =
      and_from (covers m whole y.0 bound) _
      (y.1.covered bound table whole
      (λ n h. s n (kids_grow ys bound (walk m y.0 bound table) n h)))
      (kids_covered ys bound (walk m y.0 bound table) whole s)

  kids_first : (ys : List ((n : Node) × Walked n)) (bound : List Binding) (table : List ExprName)
      → FirstIsDefault table → FirstIsDefault (one_by_one (map (walk m) (bare ys)) bound table)
  kids_first [] bound table f = f
  kids_first (y ∷ ys) bound table f =
      kids_first ys bound (walk m y.0 bound table) (y.1.first bound table f)

  walk_rolled : (x : Node-F Node)
      → walk m (roll-Node x) ≡ step m (map-Node Node Walk (walk m) x)
  walk_rolled x = fold-roll-Node _ _ x

  covers_rolled : (table : List ExprName) (x : Node-F Node)
      → covers m table (roll-Node x) ≡ cover_step m table (map-Node Node Cover (covers m table) x)
  covers_rolled table x = fold-roll-Node _ _ x

  abbrev plain : Node-F ((n : Node) × Walked n) → Node-F Node
  plain y = map-Node ((n : Node) × Walked n) Node (λ p. p.0) y

  layer_grows : (y : Node-F ((n : Node) × Walked n)) (bound : List Binding) (table : List ExprName)
      → Sub table (step m (map-Node Node Walk (walk m) (plain y)) bound table)
  layer_grows (Elem own name attributes ys) bound table n h =
      kids_grow ys (own ++ bound) _ n
      (all_grow table (own_names m (xsl_element name) (own ++ bound) attributes) n h)
  layer_grows (Chars t) bound table n h = h

  layer_first : (y : Node-F ((n : Node) × Walked n)) (bound : List Binding) (table : List ExprName)
      → FirstIsDefault table
      → FirstIsDefault (step m (map-Node Node Walk (walk m) (plain y)) bound table)
  layer_first (Elem own name attributes ys) bound table f =
      kids_first ys (own ++ bound) _
      (all_behind table (own_names m (xsl_element name) (own ++ bound) attributes) f)
  layer_first (Chars t) bound table f = f

  layer_covered : (y : Node-F ((n : Node) × Walked n)) (bound : List Binding)
      (table whole : List ExprName)
      → Sub (step m (map-Node Node Walk (walk m) (plain y)) bound table) whole
      → cover_step m whole (map-Node Node Cover (covers m whole) (plain y)) bound ≡ true
  layer_covered (Elem own name attributes ys) bound table whole s =
      let names = own_names m (xsl_element name) (own ++ bound) attributes in
      and_from (list_all (in_table whole) names) _
      (all_there table names whole
      (λ n h. s n (kids_grow ys (own ++ bound) (with_names table names) n h)))
      (kids_covered ys (own ++ bound) (with_names table names) whole s)
  layer_covered (Chars t) bound table whole s = refl

  node_step : (x : Node-F Node) (y : Node-F ((n : Node) × Walked n)) → plain y ≡ x
      → Walked (roll-Node x)
  node_step x y is =
      subst (λ z. Walked (roll-Node z)) is (record {
        grows = λ bound table n h.
            subst (λ (w : Walk). in_table (w bound table) n ≡ true) (sym (walk_rolled (plain y)))
            (layer_grows y bound table n h);
        covered = λ bound table whole s.
            ap (λ (c : Cover). c bound) (covers_rolled whole (plain y))
            ∙ layer_covered y bound table whole
            (λ n h. s n (subst (λ (w : Walk). in_table (w bound table) n ≡ true)
            (sym (walk_rolled (plain y))) h));
        first = λ bound table f.
            subst (λ (w : Walk). FirstIsDefault (w bound table)) (sym (walk_rolled (plain y)))
            (layer_first y bound table f);
      })

  pub walked : (n : Node) → Walked n
  walked = ind-Node Walked node_step

  -- what is known of an element that is covered
  pub record Covered (table : List ExprName) (bound own : List Binding) (name : Name)
      (attributes : List Attribute) (kids : List Node) : Type 0 where
    pub named : list_all (in_table table)
        (own_names m (xsl_element name) (own ++ bound) attributes) ≡ true
    pub content : all_covered m table kids (own ++ bound) ≡ true

  abbrev pub CoversForm : List ExprName → List Binding → Node-F Node → Type 0
  CoversForm table bound (Elem own name attributes kids) =
      Covered table bound own name attributes kids
  CoversForm table bound (Chars t) = Unit {0}

  from_layer : (table : List ExprName) (bound : List Binding) (x : Node-F Node)
      → cover_step m table (map-Node Node Cover (covers m table) x) bound ≡ true
      → CoversForm table bound x
  from_layer table bound (Elem own name attributes kids) h =
      let k = and_parts (list_all (in_table table)
      (own_names m (xsl_element name) (own ++ bound) attributes)) _ h in
      record { named = k.0; content = sym (covers_all m table kids (own ++ bound)) ∙ k.1 }
  from_layer table bound (Chars t) h = tt

  pub covers_form : (table : List ExprName) (bound : List Binding) (n : Node)
      → covers m table n bound ≡ true → CoversForm table bound (out-Node n)
  covers_form table bound n h =
      from_layer table bound (out-Node n)
      (ap (λ (c : Cover). c bound) (sym (fold_out-Node _ _ n)) ∙ h)

  -- declarations
  abbrev pub covers_top : List ExprName → List Binding → Node → Bool
  covers_top table bound n = cond (is_declaration n) (covers m table n bound) true

  pub top_grows : (ns : List Node) (bound : List Binding) (table : List ExprName)
      → Sub table (top_walk m ns bound table)
  top_grows [] bound table n h = h
  top_grows (k ∷ ns) bound table n h =
      top_grows ns bound _ n (go (is_declaration k))
    where
      go : (b : Bool) → in_table (cond b (walk m k bound table) table) n ≡ true
      go true = (walked k).grows bound table n h
      go false = h

  pub top_first : (ns : List Node) (bound : List Binding) (table : List ExprName)
      → FirstIsDefault table → FirstIsDefault (top_walk m ns bound table)
  top_first [] bound table f = f
  top_first (k ∷ ns) bound table f = top_first ns bound _ (go (is_declaration k))
    where
      go : (b : Bool) → FirstIsDefault (cond b (walk m k bound table) table)
      go true = (walked k).first bound table f
      go false = f

  pub tops_covered : (ns : List Node) (bound : List Binding) (table whole : List ExprName)
      → Sub (top_walk m ns bound table) whole
      → list_all (covers_top whole bound) ns ≡ true
  tops_covered [] bound table whole s = refl
  tops_covered (k ∷ ns) bound table whole s =
      and_from (covers_top whole bound k) _
      (go (is_declaration k) (λ n h. s n (top_grows ns bound _ n h)))
      (tops_covered ns bound _ whole s)
    where
      go : (b : Bool) → Sub (cond b (walk m k bound table) table) whole
          → cond b (covers m whole k bound) true ≡ true
      go true t = (walked k).covered bound table whole t
      go false t = refl
