-- What a text stands for is a sound tree, no higher than the limit and no larger than the text.
use Rattle.std.proofs.Common.{◌≡◌, ℕ, suc, ◌+◌, ◌<◌, ◌≤◌, List, [], ◌∷◌, ◌++◌, length, max, refl, arith, Bool, true, false, length-append}
use Rattle.xt_names.specs.Allowed.{is_empty_text}
use Rattle.xt_names.specs.Classes.{is_xml_text}
use Rattle.xt_names.specs.declared.names.Binding.{Binding}
use Rattle.xt_tree.specs.declared.trees.Tree.{Tree}
use Rattle.xt_tree.specs.Forest.{Forest, forest_size, forest_height}
use Rattle.xt_tree.specs.TreeView.{put, forest_of, tree_size}
use Rattle.xt_tree.specs.Sound.{are_sound_attributes, are_sound_behind, is_sound_name}
use Rattle.xt_tree.proofs.TreeLemmas.{forest_size-put}
use Rattle.doc_grammar.specs.RawNames.{RawTag}
use Rattle.doc_grammar.specs.Scopes.{Opened, opened}
use Rattle.doc_grammar.specs.Lexemes.{Misc, Section}
use Rattle.doc_grammar.specs.Lexemes as lexemes
use Rattle.doc_grammar.specs.Document.{limit, element_of, text_nodes, Element, Content, Level, blank, fresh, typed, rooted, begun, Top, Attributes, QName}
use Rattle.doc_grammar.specs.Document as doc
use Rattle.doc_grammar.proofs.Sizes.{qname_size, reference_size, section_size, misc_size, attributes_size, end_size}
use Rattle.doc_grammar.proofs.SoundTexts.{xml_push, stands_char, reference_char, upto_chars, comment_sound, instruction_sound}
use Rattle.doc_grammar.proofs.SoundNames.{AreBindings, qname_raw, attributes_raw, IsOpened, opened_sound}
use Rattle.xt_names.proofs.ClassLemmas.{append_text, no_text}

-- A node, not a text, inside of k open elements: with it in front, what is sound and low stays so; and it is smaller than what is taken
-- for it, of so many characters before it and so many after.
pub record IsNode (k : ℕ) (n : Tree) (before behind : ℕ) : Type 0 where
  pub sound : (after : Bool) (f : Forest) → are_sound_behind false f ≡ true → are_sound_behind after (put n f) ≡ true
  pub low : (f : Forest) → k + forest_height f ≤ limit → k + forest_height (put n f) ≤ limit
  pub small : suc (tree_size n) + behind ≤ before

-- the children of an element
record AreKids (k : ℕ) (kids : List Tree) (before behind : ℕ) : Type 0 where
  sound : are_sound_behind false (forest_of kids) ≡ true
  low : k + forest_height (forest_of kids) ≤ limit
  small : forest_size (forest_of kids) + behind ≤ before

-- elements

element_sound : (o : Opened) (kids : List Tree) (after : Bool) (f : Forest) → is_sound_name o.name ≡ true → are_sound_attributes o.attributes ≡ true → are_sound_behind false (forest_of kids) ≡ true → are_sound_behind false f ≡ true → are_sound_behind after (put (element_of o kids) f) ≡ true
element_sound o kids after f n a s r = rw (n, a, s, r) refl

max_low : (a b k : ℕ) → k + a ≤ limit → k + b ≤ limit → k + max a b ≤ limit
max_low a b k x y = grind (arith)

element_node : (k : ℕ) (t : RawTag) (o : Opened) (kids : List Tree) (before inner end behind : ℕ) → IsOpened t o → AreKids (suc k) kids inner end → behind ≤ end → 2 + length t.attributes + inner ≤ before → IsNode k (element_of o kids) before behind
element_node k t o kids before inner end behind op ks low_end size = record {
  sound = λ after f r. element_sound o kids after f op.name op.attributes ks.sound r;
  low = λ f h. let low = ks.low in max_low (1 + forest_height (forest_of kids)) (forest_height f) k (omega arith) h;
  small = let count = op.count in let small = ks.small in omega arith;
}

no_kids : (k n : ℕ) → k < limit → AreKids (suc k) [] n n
no_kids k n h = record { sound = refl; low = omega arith; small = omega arith }

-- comments and instructions

pub misc_node : (k : ℕ) {ts rest : List ℕ} {n : Tree} → Misc ts n rest → IsNode k n (length ts) (length rest)
misc_node k (lexemes.comment t) = record {
  sound = λ after f r. rw (comment_sound t, r) refl;
  low = λ f h. h;
  small = let size = misc_size (lexemes.comment t) in omega arith;
}
misc_node k (lexemes.instruction i) = record {
  sound = λ after f r. rw (instruction_sound i, r) refl;
  low = λ f h. h;
  small = let size = misc_size (lexemes.instruction i) in omega arith;
}

-- content

text_size : (text : List ℕ) → forest_size (forest_of (text_nodes text)) ≤ length text
text_size [] = omega arith
text_size (c ∷ cs) = omega arith

text_sound : (text : List ℕ) → is_xml_text text ≡ true → are_sound_behind false (forest_of (text_nodes text)) ≡ true
unfolding is_empty_text
text_sound [] x = refl
text_sound (c ∷ cs) x = rw x refl

text_low : (text : List ℕ) → forest_height (forest_of (text_nodes text)) ≡ 0
text_low [] = refl
text_low (c ∷ cs) = refl

text_alone : (k : ℕ) (text : List ℕ) (behind : ℕ) → k ≤ limit → is_xml_text text ≡ true → AreKids k (text_nodes text) (length text + behind) behind
text_alone k text behind h x = record {
  sound = text_sound text x;
  low = let e = text_low text in omega arith;
  small = let low = text_size text in omega arith;
}

-- a node after a text
node_behind : (k : ℕ) (text : List ℕ) (n : Tree) (kids : List Tree) (before mid behind : ℕ) → is_xml_text text ≡ true → IsNode k n before mid → AreKids k kids mid behind → AreKids k (text_nodes text ++ n ∷ kids) (length text + before) behind
unfolding is_empty_text
node_behind k [] n kids before mid behind x node ks = record {
  sound = node.sound false (forest_of kids) ks.sound;
  low = node.low (forest_of kids) ks.low;
  small = let a = node.small in let b = ks.small in let e = forest_size-put n (forest_of kids) in omega arith;
}
node_behind k (c ∷ cs) n kids before mid behind x node ks = record {
  sound = rw (x, node.sound true (forest_of kids) ks.sound) refl;
  low = node.low (forest_of kids) ks.low;
  small = let a = node.small in let b = ks.small in let e = forest_size-put n (forest_of kids) in omega arith;
}

section_chars : {ts text rest : List ℕ} → Section ts text rest → is_xml_text text ≡ true
section_chars (lexemes.section t) = upto_chars t no_text

-- with the text so far grown, no more characters are before than were
fewer : {k before less behind : ℕ} {kids : List Tree} → AreKids k kids less behind → less ≤ before → AreKids k kids before behind
fewer ks h = record { sound = ks.sound; low = ks.low; small = let a = ks.small in omega arith }

mutual
  pub element_is_node : {k : ℕ} {scope : List Binding} {ts rest : List ℕ} {n : Tree} → Element opened k scope ts n rest → AreBindings scope → IsNode k n (length ts) (length rest)
  element_is_node {k = k} {scope = scope} (doc.empty {t = t} {o = o} {rest = rest} h d a e) all =
      let raw = attributes_raw a (qname_raw d) tt in
      let op = opened_sound scope t o all raw.0 raw.1 e in
      let x = qname_size d in
      let y = attributes_size a in
      element_node k t o [] _ (length rest) (length rest) (length rest) op (no_kids k (length rest) h) (omega arith) (omega arith)
  element_is_node {k = k} {scope = scope} (doc.full {t = t} {o = o} {inner = inner} {end = end} {rest = rest} {kids = kids} h d a e c f) all =
      let raw = attributes_raw a (qname_raw d) tt in
      let op = opened_sound scope t o all raw.0 raw.1 e in
      let x = qname_size d in
      let y = attributes_size a in
      let z = end_size f in
      element_node k t o kids _ (length inner) (suc (suc (length end))) (length rest) op (fewer (content_kids c op.bindings no_text h) (omega arith)) (omega arith) (omega arith)

  content_kids : {k n : ℕ} {scope : List Binding} {text ts rest : List ℕ} {kids : List Tree} → Content opened k scope n text ts kids rest → AreBindings scope → is_xml_text text ≡ true → k ≤ limit → AreKids k kids (length text + length ts) (length rest)
  content_kids {k = k} {text = text} (doc.at_end_tag {ts = ts}) all x h = text_alone k text (suc (suc (length ts))) h x
  content_kids {text = text} (doc.says {n = n} {c = c} p k) all x h =
      let more = length-append text (c ∷ []) in
      fewer (content_kids k all (xml_push text c x (stands_char n c p)) h) (omega arith)
  content_kids {text = text} (doc.refers {v = v} r k) all x h =
      let more = length-append text (v ∷ []) in
      let low = reference_size r in
      fewer (content_kids k all (xml_push text v x (reference_char r)) h) (omega arith)
  content_kids {text = text} (doc.quotes {more = words} s k) all x h =
      let more = length-append text words in
      let low = section_size s in
      fewer (content_kids k all (append_text text words x (section_chars s)) h) (omega arith)
  content_kids {k = k} {text = text} (doc.child {mid = mid} {tree = n} {kids = kids} e c) all x h =
      node_behind k text n kids _ (length mid) _ x (element_is_node e all) (fewer (content_kids c all no_text h) (omega arith))
  content_kids {k = k} {text = text} (doc.aside {mid = mid} {tree = n} {kids = kids} m c) all x h =
      node_behind k text n kids _ (length mid) _ x (misc_node k m) (fewer (content_kids c all no_text h) (omega arith))
