-- What a run makes of sound trees is sound, and no character of a text is lost.
use Rattle.std.proofs.Common.{◌≡◌, ℕ, zero, suc, List, [], ◌∷◌, ◌++◌, Bool, true, false, not, ◌&&◌, refl, ap, ◌∙◌, append_assoc}
use Rattle.std.proofs.lemmas.Bool.{and_parts}
use Rattle.std.specs.Prelude.{Option, Some, None, if◌then◌else◌, nat_le}
use Rattle.std.specs.Option.{option_or}
use Rattle.xt_names.specs.Allowed.{is_empty_text}
use Rattle.xt_names.specs.Classes.{is_xml_text}
use Rattle.xt_names.specs.declared.names.Name.{Name}
use Rattle.xt_names.specs.declared.codes.Code.{Code}
use Rattle.xt_names.specs.declared.codes.Code.TheVariants.{Dynamic}
use Rattle.xt_names.specs.declared.codes.DynamicCode.TheVariants.{XTLM0002}
use Rattle.xt_tree.specs.declared.attributes.Attribute.{Attribute}
use Rattle.xt_tree.specs.declared.trees.Tree.{Tree}
use Rattle.xt_tree.specs.declared.trees.Tree.TheVariants.{Doc, Elem, Text, Comment, Pi, Attr}
use Rattle.xt_tree.specs.Forest.{Forest, end, doc, elem, text, comment, pi, attr, texts}
use Rattle.xt_tree.specs.Sound.{is_sound_name, is_sound_attribute, are_sound_attributes, are_sound_behind, is_sound_root, is_sound_tree}
use Rattle.xt_tree.specs.TreeView.{forest_of, trees, kids_of, tree_height, tree_size}
use Rattle.xt_tree.specs.White.{is_white_text}
use Rattle.sheet_meaning.specs.Outcome.{Outcome, Ends, Fails, Deep, and_then, joined}
use Rattle.sheet_meaning.specs.Rules.{Template, pattern_matches, template_of, templates_among, root_content, templates_of, best_rule}
use Rattle.sheet_meaning.specs.Meaning.{put_text, complex_content, is_within_limits, limited, Calls, applied, constructed, built_in, ruled, entered, listed, element_of, document_of, transform_meaning}
use Rattle.xt_names.proofs.BoolLemmas.{and_both as both}
use Rattle.xt_names.proofs.ClassLemmas.{append_text}
use Rattle.xt_names.specs.Names.{is_in_xslt}

-- texts keep their characters
texts-put_text : (t : List ℕ) (items : List Tree) → texts (forest_of (put_text t items)) ≡ t ++ texts (forest_of items)
texts-put_text [] items = refl
texts-put_text (c ∷ cs) [] = refl
texts-put_text (c ∷ cs) (Text u ∷ items) = append_assoc (c ∷ cs) u (texts (forest_of items))
texts-put_text (c ∷ cs) (Doc kids ∷ items) = refl
texts-put_text (c ∷ cs) (Elem name attributes kids ∷ items) = refl
texts-put_text (c ∷ cs) (Comment u ∷ items) = refl
texts-put_text (c ∷ cs) (Pi target u ∷ items) = refl
texts-put_text (c ∷ cs) (Attr name u ∷ items) = refl

pub texts-complex_content : (items : List Tree) → texts (forest_of (complex_content items)) ≡ texts (forest_of items)
texts-complex_content [] = refl
texts-complex_content (Text t ∷ items) =
    texts-put_text t (complex_content items) ∙ ap (λ cs. t ++ cs) (texts-complex_content items)
texts-complex_content (Doc kids ∷ items) = ap (λ cs. texts kids ++ cs) (texts-complex_content items)
texts-complex_content (Elem name attributes kids ∷ items) = ap (λ cs. texts kids ++ cs) (texts-complex_content items)
texts-complex_content (Comment t ∷ items) = texts-complex_content items
texts-complex_content (Pi target t ∷ items) = texts-complex_content items
texts-complex_content (Attr name t ∷ items) = texts-complex_content items

-- a text, perhaps empty, or a sound element
abbrev is_sound_item : Tree → Bool
is_sound_item (Doc kids) = false
is_sound_item (Elem name attributes kids) = is_sound_name name && are_sound_attributes attributes && are_sound_behind false kids
is_sound_item (Text t) = is_xml_text t
is_sound_item (Comment t) = false
is_sound_item (Pi target t) = false
is_sound_item (Attr name t) = false

abbrev are_sound_items : List Tree → Bool
are_sound_items [] = true
are_sound_items (item ∷ items) = is_sound_item item && are_sound_items items

items-append : (xs ys : List Tree) → are_sound_items xs ≡ true → are_sound_items ys ≡ true → are_sound_items (xs ++ ys) ≡ true
items-append [] ys h k = k
items-append (x ∷ xs) ys h k =
    let p = and_parts (is_sound_item x) (are_sound_items xs) h in
    both (is_sound_item x) (are_sound_items (xs ++ ys)) p.0 (items-append xs ys p.1 k)

full : (c : ℕ) (cs : List ℕ) → not (is_empty_text (c ∷ cs)) ≡ true
unfolding is_empty_text
full c cs = refl

put_sound : (t : List ℕ) (items : List Tree) → is_xml_text t ≡ true → are_sound_behind false (forest_of items) ≡ true → are_sound_behind false (forest_of (put_text t items)) ≡ true
put_sound [] items h k = k
put_sound (c ∷ cs) [] h k = both _ _ (both _ _ (full c cs) h) refl
put_sound (c ∷ cs) (Text u ∷ items) h k =
    let p = and_parts _ _ k in
    let q = and_parts _ _ p.0 in
    both _ _ (both _ _ (full c (cs ++ u)) (append_text (c ∷ cs) u h q.1)) p.1
put_sound (c ∷ cs) (Elem name attributes kids ∷ items) h k = both _ _ (both _ _ (full c cs) h) k
put_sound (c ∷ cs) (Comment u ∷ items) h k = both _ _ (both _ _ (full c cs) h) k
put_sound (c ∷ cs) (Pi target u ∷ items) h k = both _ _ (both _ _ (full c cs) h) k
put_sound (c ∷ cs) (Doc kids ∷ items) h k = absurd cc
put_sound (c ∷ cs) (Attr name u ∷ items) h k = absurd cc

content_sound : (items : List Tree) → are_sound_items items ≡ true → are_sound_behind false (forest_of (complex_content items)) ≡ true
content_sound [] h = refl
content_sound (Text t ∷ items) h =
    let p = and_parts (is_xml_text t) (are_sound_items items) h in
    put_sound t (complex_content items) p.0 (content_sound items p.1)
content_sound (Elem name attributes kids ∷ items) h =
    let p = and_parts (is_sound_item (Elem name attributes kids)) (are_sound_items items) h in
    both _ _ p.0 (content_sound items p.1)
content_sound (Doc kids ∷ items) h = absurd cc
content_sound (Comment t ∷ items) h = absurd cc
content_sound (Pi target t ∷ items) h = absurd cc
content_sound (Attr name t ∷ items) h = absurd cc

-- what a run gives
abbrev AreSound : Outcome (List Tree) → Type 0
AreSound (Ends items) = are_sound_items items ≡ true
AreSound (Fails code) = Unit {0}
AreSound Deep = Unit {0}

abbrev IsSoundItem : Outcome Tree → Type 0
IsSoundItem (Ends item) = is_sound_item item ≡ true
IsSoundItem (Fails code) = Unit {0}
IsSoundItem Deep = Unit {0}

joined_sound : (o p : Outcome (List Tree)) → AreSound o → AreSound p → AreSound (joined o p)
joined_sound (Ends xs) (Ends ys) h k = items-append xs ys h k
joined_sound (Ends xs) (Fails code) h k = tt
joined_sound (Ends xs) Deep h k = tt
joined_sound (Fails code) p h k = tt
joined_sound Deep p h k = tt

listed_sound : (o : Outcome Tree) → IsSoundItem o → AreSound (listed o)
listed_sound (Ends item) h = both _ _ h refl
listed_sound (Fails code) h = tt
listed_sound Deep h = tt

if_sound : (b : Bool) (o p : Outcome (List Tree)) → AreSound o → AreSound p → AreSound (if b then o else p)
if_sound true o p h k = h
if_sound false o p h k = k

limited_by : (b : Bool) (t : Tree) (code : Code) → is_sound_item t ≡ true → IsSoundItem (if b then Ends t else Fails code)
limited_by true t code h = h
limited_by false t code h = tt

no_attributes : are_sound_attributes [] ≡ true
unfolding are_sound_attributes
no_attributes = refl

element_sound : (name : Name) (items : List Tree) → is_sound_name name ≡ true → are_sound_items items ≡ true → IsSoundItem (element_of name items)
unfolding element_of limited
element_sound name items n h =
    limited_by (is_within_limits (Elem name [] (forest_of (complex_content items)))) _ _ (both _ _ (both _ _ n no_attributes) (content_sound items h))

literal_sound : (name : Name) (o : Outcome (List Tree)) → is_sound_name name ≡ true → AreSound o → AreSound (and_then o (λ items. listed (element_of name items)))
literal_sound name (Ends items) n h = listed_sound (element_of name items) (element_sound name items n h)
literal_sound name (Fails code) n h = tt
literal_sound name Deep n h = tt

-- a node of a sound tree
abbrev is_sound_node : Tree → Bool
is_sound_node (Doc kids) = are_sound_behind false kids
is_sound_node (Elem name attributes kids) = are_sound_behind false kids
is_sound_node (Text t) = is_xml_text t
is_sound_node (Comment t) = true
is_sound_node (Pi target t) = true
is_sound_node (Attr name t) = is_xml_text t

abbrev are_sound_nodes : List Tree → Bool
are_sound_nodes [] = true
are_sound_nodes (node ∷ nodes) = is_sound_node node && are_sound_nodes nodes

kids_sound : (after : Bool) (kids : Forest) → are_sound_behind after kids ≡ true → are_sound_nodes (trees kids) ≡ true
kids_sound after end h = refl
kids_sound after (doc kids rest) h = absurd cc
kids_sound after (elem name attributes kids rest) h =
    let p = and_parts _ _ h in
    let q = and_parts _ _ p.0 in
    both _ _ q.1 (kids_sound false rest p.1)
kids_sound after (text t rest) h =
    let p = and_parts _ _ h in
    let q = and_parts _ _ p.0 in
    both _ _ q.1 (kids_sound true rest p.1)
kids_sound after (comment t rest) h = let p = and_parts _ _ h in kids_sound false rest p.1
kids_sound after (pi target t rest) h = let p = and_parts _ _ h in kids_sound false rest p.1
kids_sound after (attr name t rest) h = absurd cc

focus_sound : (node : Tree) → is_sound_node node ≡ true → are_sound_nodes (kids_of node) ≡ true
focus_sound (Doc kids) h = kids_sound false kids h
focus_sound (Elem name attributes kids) h = kids_sound false kids h
focus_sound (Text t) h = refl
focus_sound (Comment t) h = refl
focus_sound (Pi target t) h = refl
focus_sound (Attr name t) h = refl

abbrev CallsSound : Calls → Type 0
CallsSound enter = (node : Tree) → is_sound_node node ≡ true → AreSound (enter node)

applied_sound : (enter : Calls) → CallsSound enter → (nodes : List Tree) → are_sound_nodes nodes ≡ true → AreSound (applied enter nodes)
applied_sound enter c [] h = refl
applied_sound enter c (node ∷ nodes) h =
    let p = and_parts (is_sound_node node) (are_sound_nodes nodes) h in
    joined_sound (enter node) (applied enter nodes) (c node p.0) (applied_sound enter c nodes p.1)

text_sound : (b : Bool) (t : List ℕ) → is_xml_text t ≡ true → AreSound (if b then Ends [] else Ends (Text t ∷ []))
text_sound true t h = refl
text_sound false t h = both _ _ h refl

constructed_sound : (enter : Calls) → CallsSound enter → (kids : List Tree) → are_sound_nodes kids ≡ true → (after : Bool) (parts : Forest) → are_sound_behind after parts ≡ true → AreSound (constructed enter kids parts)
constructed_sound enter c kids k after end h = refl
constructed_sound enter c kids k after (doc inside rest) h = absurd cc
constructed_sound enter c kids k after (elem name attributes inside rest) h =
    let p = and_parts _ _ h in
    let q = and_parts _ _ p.0 in
    let n = and_parts _ _ q.0 in
    joined_sound _ (constructed enter kids rest)
    (if_sound (is_in_xslt name) (applied enter kids) _ (applied_sound enter c kids k)
    (literal_sound name (constructed enter kids inside) n.0 (constructed_sound enter c kids k false inside q.1)))
    (constructed_sound enter c kids k false rest p.1)
constructed_sound enter c kids k after (text t rest) h =
    let p = and_parts _ _ h in
    let q = and_parts _ _ p.0 in
    joined_sound _ (constructed enter kids rest) (text_sound (is_white_text t) t q.1) (constructed_sound enter c kids k true rest p.1)
constructed_sound enter c kids k after (comment t rest) h =
    let p = and_parts _ _ h in constructed_sound enter c kids k false rest p.1
constructed_sound enter c kids k after (pi target t rest) h =
    let p = and_parts _ _ h in constructed_sound enter c kids k false rest p.1
constructed_sound enter c kids k after (attr name t rest) h = absurd cc

built_in_sound : (enter : Calls) → CallsSound enter → (node : Tree) → is_sound_node node ≡ true → AreSound (built_in enter node)
built_in_sound enter c (Doc kids) h = applied_sound enter c (trees kids) (kids_sound false kids h)
built_in_sound enter c (Elem name attributes kids) h = applied_sound enter c (trees kids) (kids_sound false kids h)
built_in_sound enter c (Text t) h = both _ _ h refl
built_in_sound enter c (Comment t) h = refl
built_in_sound enter c (Pi target t) h = refl
built_in_sound enter c (Attr name t) h = both _ _ h refl

-- rules of a sound stylesheet
abbrev IsSoundRule : Option Forest → Type 0
IsSoundRule None = Unit {0}
IsSoundRule (Some content) = are_sound_behind false content ≡ true

abbrev are_sound_rules : List Template → Bool
are_sound_rules [] = true
are_sound_rules (t ∷ ts) = are_sound_behind false t.content && are_sound_rules ts

rules-append : (ts us : List Template) → are_sound_rules ts ≡ true → are_sound_rules us ≡ true → are_sound_rules (ts ++ us) ≡ true
rules-append [] us h k = k
rules-append (t ∷ ts) us h k =
    let p = and_parts (are_sound_behind false t.content) (are_sound_rules ts) h in
    both _ _ p.0 (rules-append ts us p.1 k)

template_sound : (attributes : List Attribute) (kids : Forest) → are_sound_behind false kids ≡ true → are_sound_rules (template_of attributes kids) ≡ true
template_sound [] kids h = refl
template_sound (a ∷ rest) kids h = both _ _ h refl

templates_sound : (after : Bool) (kids : Forest) → are_sound_behind after kids ≡ true → are_sound_rules (templates_among kids) ≡ true
templates_sound after end h = refl
templates_sound after (doc kids rest) h = absurd cc
templates_sound after (elem name attributes kids rest) h =
    let p = and_parts _ _ h in
    let q = and_parts _ _ p.0 in
    rules-append (template_of attributes kids) (templates_among rest) (template_sound attributes kids q.1) (templates_sound false rest p.1)
templates_sound after (text t rest) h = let p = and_parts _ _ h in templates_sound true rest p.1
templates_sound after (comment t rest) h = let p = and_parts _ _ h in templates_sound false rest p.1
templates_sound after (pi target t rest) h = let p = and_parts _ _ h in templates_sound false rest p.1
templates_sound after (attr name t rest) h = absurd cc

root_sound : (after : Bool) (kids : Forest) → are_sound_behind after kids ≡ true → are_sound_behind false (root_content kids) ≡ true
root_sound after end h = refl
root_sound after (doc kids rest) h = absurd cc
root_sound after (elem name attributes kids rest) h =
    let p = and_parts _ _ h in
    let q = and_parts _ _ p.0 in q.1
root_sound after (text t rest) h = let p = and_parts _ _ h in root_sound true rest p.1
root_sound after (comment t rest) h = let p = and_parts _ _ h in root_sound false rest p.1
root_sound after (pi target t rest) h = let p = and_parts _ _ h in root_sound false rest p.1
root_sound after (attr name t rest) h = absurd cc

sheet_sound : (sheet : Tree) → is_sound_root sheet ≡ true → are_sound_rules (templates_of sheet) ≡ true
sheet_sound (Doc kids) h = templates_sound false (root_content kids) (root_sound false kids h)
sheet_sound (Elem name attributes kids) h = refl
sheet_sound (Text t) h = refl
sheet_sound (Comment t) h = refl
sheet_sound (Pi target t) h = refl
sheet_sound (Attr name t) h = refl

or_sound : (x y : Option Forest) → IsSoundRule x → IsSoundRule y → IsSoundRule (option_or x y)
or_sound None y h k = k
or_sound (Some content) y h k = h

this_sound : (b : Bool) (content : Forest) → are_sound_behind false content ≡ true → IsSoundRule (if b then Some content else None)
this_sound true content h = h
this_sound false content h = tt

rule_sound : (ts : List Template) (node : Tree) → are_sound_rules ts ≡ true → IsSoundRule (best_rule ts node)
rule_sound [] node h = tt
rule_sound (t ∷ ts) node h =
    let p = and_parts (are_sound_behind false t.content) (are_sound_rules ts) h in
    or_sound (best_rule ts node) _ (rule_sound ts node p.1) (this_sound (pattern_matches t.pattern node) t.content p.0)

ruled_sound : (enter : Calls) → CallsSound enter → (best : Option Forest) (node : Tree) → IsSoundRule best → is_sound_node node ≡ true → AreSound (ruled enter best node)
ruled_sound enter c None node r h = built_in_sound enter c node h
ruled_sound enter c (Some content) node r h = constructed_sound enter c (kids_of node) (focus_sound node h) false content r

entered_sound : (ts : List Template) → are_sound_rules ts ≡ true → (n : ℕ) → CallsSound (entered (best_rule ts) n)
entered_sound ts r zero node h = tt
entered_sound ts r (suc n) node h =
    ruled_sound (entered (best_rule ts) n) (entered_sound ts r n) (best_rule ts node) node (rule_sound ts node r) h

attribute_text : (name : Name) (t : List ℕ) → is_sound_attribute name t ≡ true → is_xml_text t ≡ true
unfolding is_sound_attribute
attribute_text name t h = let p = and_parts _ _ h in p.1

node_sound : (t : Tree) → is_sound_root t ≡ true → is_sound_node t ≡ true
node_sound (Doc kids) h = h
node_sound (Elem name attributes kids) h = let p = and_parts _ _ h in p.1
node_sound (Text t) h = h
node_sound (Comment t) h = refl
node_sound (Pi target t) h = refl
node_sound (Attr name t) h = attribute_text name t h

document_by : (b : Bool) (t result : Tree) (code : Code) → (b ≡ true → is_sound_tree t ≡ true) → (if b then Ends t else Fails code) ≡ Ends result → is_sound_tree result ≡ true
document_by true t result code k e = let same : t ≡ result = cc in rw (← same) (k refl)
document_by false t result code k e = absurd cc

within_sound : (t : Tree) → is_sound_root t ≡ true → is_within_limits t ≡ true → is_sound_tree t ≡ true
within_sound t h w =
    let p = and_parts (nat_le (tree_height t) 2000) (nat_le (tree_size t) 0x7FFF_FFFF_FFFF_FFFF) w in
    both (is_sound_root t && nat_le (tree_height t) 2000) (nat_le (tree_size t) 0x7FFF_FFFF_FFFF_FFFF) (both (is_sound_root t) (nat_le (tree_height t) 2000) h p.0) p.1

document_sound : (items : List Tree) (result : Tree) → are_sound_items items ≡ true → document_of items ≡ Ends result → is_sound_tree result ≡ true
unfolding document_of limited
document_sound items result h e =
    let t = Doc (forest_of (complex_content items)) in
    document_by (is_within_limits t) t result (Dynamic XTLM0002) (within_sound t (content_sound items h)) e

made_sound : (o : Outcome (List Tree)) (result : Tree) → AreSound o → and_then o document_of ≡ Ends result → is_sound_tree result ≡ true
made_sound (Ends items) result h e = document_sound items result h e
made_sound (Fails code) result h e = absurd cc
made_sound Deep result h e = absurd cc

pub result_sound : (sheet document result : Tree) (n : ℕ) → is_sound_tree sheet ≡ true → is_sound_tree document ≡ true → transform_meaning sheet document n ≡ Ends result → is_sound_tree result ≡ true
result_sound sheet document result n s d e =
    let sheet_root = and_parts _ _ ((and_parts _ _ s).0) in
    let document_root = and_parts _ _ ((and_parts _ _ d).0) in
    made_sound (entered (best_rule (templates_of sheet)) n document) result
    (entered_sound (templates_of sheet) (sheet_sound sheet sheet_root.0) n document (node_sound document document_root.0)) e
