-- The modes that the nodes of a module name are sound.
use Rattle.std.proofs.Common.{◌≡◌, List, [], ◌∷◌, ◌++◌, map, Bool, true, false, cond, sym, subst}
use Rattle.std.proofs.Common.{◌∙◌}
use Rattle.std.proofs.lemmas.Bool.{and_parts, and_from}
use Rattle.std.proofs.lemmas.List.Folds.{list_all-append}
use Rattle.std.specs.List.{list_all}
use Rattle.xt_names.specs.declared.names.Binding.{Binding}
use Rattle.xt_names.specs.declared.names.ExprName.{ExprName}
use Rattle.closed_sheets.specs.Values.{is_good_binding}
use Rattle.sheet_table.specs.Elements.{xsl_element}
use Rattle.sheet_table.specs.declared.sheet_nodes.nodes.Node.{Node}
use Rattle.sheet_table.specs.declared.sheet_nodes.nodes.Node.TheViews.{out-Node, roll-Node}
use Rattle.sheet_table.specs.declared.sheet_nodes.nodes.Node.TheFolds.{fold-roll-Node, map-Node, ind-Node}
use Rattle.sheet_table.specs.declared.sheet_nodes.nodes.Node.TheOpen.{Node-F, Elem, Chars}
use Rattle.xpath_laws.proofs.BindingLaws.Bindings.{bindings_sound}
use Rattle.closed_parts.specs.SoundNodes.Sound.{are_sound_nodes, is_sound_node}
use Rattle.closed_parts.proofs.SoundNodes.Forms.{SoundForm, rolled_form, sound_form, sound_element}
use Rattle.module_loading.specs.ModuleReader.Mentions.{Walk, is_declaration, one_by_one, own_names, step}
use Rattle.module_loading.specs.ModuleReader.Mentions.{top_walk, walk, with_names}
use Rattle.module_loading.specs.ModuleReader.Modules.{nodes_names, root_bound, root_names}
use Rattle.module_loading.specs.declared.module_reader.mentions.Mention.TheVariants as mention
use Rattle.import_tree.proofs.GoodStylesheets.Singles.{root_good}
use Rattle.import_tree.proofs.GoodStylesheets.Tables.{GoodTable, all_put, own_good}

abbrev GoodBound : List Binding → Type 0
GoodBound bound = list_all is_good_binding bound ≡ true

-- it puts sound modes alone at the end
abbrev WalkGood : Walk → Type 0
WalkGood w = (bound : List Binding) → GoodBound bound → (table : List ExprName) → GoodTable table
    → GoodTable (w bound table)

abbrev NodeGood : Node → Type 0
NodeGood n = is_sound_node n ≡ true → WalkGood (walk mention.Modes n)

both_bound : (own bound : List Binding) → GoodBound own → GoodBound bound → GoodBound (own ++ bound)
both_bound own bound h i =
    list_all-append is_good_binding own bound ∙ and_from (list_all is_good_binding own) _ h i

abbrev bare : List ((n : Node) × NodeGood n) → List Node
bare ys = map (λ y. y.0) ys

one_by_one_good : (ys : List ((n : Node) × NodeGood n)) → are_sound_nodes (bare ys) ≡ true
    → WalkGood (one_by_one (map (walk mention.Modes) (bare ys)))
one_by_one_good [] h bound b table t = t
one_by_one_good (y ∷ ys) h bound b table t =
    let k = and_parts (is_sound_node y.0) (are_sound_nodes (bare ys)) h in
    one_by_one_good ys k.1 bound b (walk mention.Modes y.0 bound table) (y.1 k.0 bound b table t)

layer_good : (y : Node-F ((n : Node) × NodeGood n))
    → SoundForm (map-Node ((n : Node) × NodeGood n) Node (λ p. p.0) y)
    → WalkGood (step mention.Modes (map-Node Node Walk (walk mention.Modes)
    (map-Node ((n : Node) × NodeGood n) Node (λ p. p.0) y)))
layer_good (Elem own name attributes ys) h bound b table t =
    let s = sound_element own name attributes (bare ys) h in
    let inner = both_bound own bound s.bound b in
    one_by_one_good ys s.content (own ++ bound) inner
    (with_names table (own_names mention.Modes (xsl_element name) (own ++ bound) attributes))
    (all_put table _ t
    (own_good (own ++ bound) (bindings_sound (own ++ bound) inner) (xsl_element name) attributes))
layer_good (Chars c) h bound b table t = t

walk_rolled : (x : Node-F Node) → walk mention.Modes (roll-Node x)
    ≡ step mention.Modes (map-Node Node Walk (walk mention.Modes) x)
walk_rolled x = fold-roll-Node _ _ x

node_good : (n : Node) → NodeGood n
node_good = ind-Node NodeGood (λ x y is h.
    subst WalkGood (sym (walk_rolled x))
    (subst (λ z. WalkGood (step mention.Modes (map-Node Node Walk (walk mention.Modes) z))) is
    (layer_good y (subst SoundForm (sym is) (rolled_form x h)))))

top_good : (ns : List Node) → are_sound_nodes ns ≡ true → WalkGood (top_walk mention.Modes ns)
top_good [] h bound b table t = t
top_good (n ∷ ns) h bound b table t =
    let k = and_parts (is_sound_node n) (are_sound_nodes ns) h in
    top_good ns k.1 bound b _ (go (is_declaration n) k.0)
  where
    go : (c : Bool) → is_sound_node n ≡ true
        → GoodTable (cond c (walk mention.Modes n bound table) table)
    go true s = node_good n s bound b table t
    go false s = t

root_named : (f : Node-F Node) → SoundForm f → (table : List ExprName) → GoodTable table
    → GoodTable (root_names mention.Modes f table)
root_named (Elem own name attributes kids) h table t =
    let s = sound_element own name attributes kids h in
    top_good kids s.content (root_bound own) (root_good own s.bound) table t
root_named (Chars c) h table t = t

pub nodes_named : (ns : List Node) → are_sound_nodes ns ≡ true → (table : List ExprName)
    → GoodTable table → GoodTable (nodes_names mention.Modes ns table)
nodes_named [] h table t = t
nodes_named (n ∷ ns) h table t =
    root_named (out-Node n)
    (sound_form n (and_parts (is_sound_node n) (are_sound_nodes ns) h).0) table t
