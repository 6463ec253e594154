-- A document is a sound tree, and no larger than its bytes.
use Rattle.std.proofs.Common.{◌≡◌, ℕ, zero, suc, ◌+◌, ◌*◌, ◌-◌, ◌≤◌, List, [], ◌∷◌, ◌++◌, length, refl, arith, Bool, true, false, cond, ◌&&◌, ◌==◌, append_assoc, append-nil}
use Rattle.std.specs.Str.{chars, chars_after, continuation_len, lead_bits}
use Rattle.std.proofs.lemmas.Bool.{le-leb}
use Rattle.xt_tree.specs.declared.trees.Tree.{Tree}
use Rattle.xt_tree.specs.declared.trees.Tree.TheVariants.{Doc}
use Rattle.xt_tree.specs.Forest.{forest_size, forest_height}
use Rattle.xt_tree.specs.TreeView.{forest_of, tree_size, tree_height}
use Rattle.xt_tree.specs.Sound.{are_sound_behind, is_sound_root, is_sound_tree}
use Rattle.xt_tree.proofs.TreeLemmas.{forest_size-put}
use Rattle.doc_grammar.specs.Scopes.{opened}
use Rattle.doc_grammar.specs.Lines.{lines_behind, mark, without_mark, text_of}
use Rattle.doc_grammar.specs.Document.{limit, Level, blank, fresh, typed, rooted, begun, Top, IsDocument}
use Rattle.doc_grammar.specs.Document as doc
use Rattle.doc_grammar.proofs.Sizes.{form_size}
use Rattle.doc_grammar.proofs.SoundNames.{top_bindings}
use Rattle.doc_grammar.proofs.SoundTrees.{IsNode, misc_node, element_is_node}

-- Children of a document: with them in front, what is sound and low stays so, and it grows by this size at most.
record AreChildren (kids : List Tree) (size : ℕ) : Type 0 where
  sound : (more : List Tree) → are_sound_behind false (forest_of more) ≡ true → are_sound_behind false (forest_of (kids ++ more)) ≡ true
  low : (more : List Tree) → forest_height (forest_of more) ≤ limit → forest_height (forest_of (kids ++ more)) ≤ limit
  small : (more : List Tree) → forest_size (forest_of (kids ++ more)) ≤ size + forest_size (forest_of more)

no_children : AreChildren [] 0
no_children = record { sound = λ more s. s; low = λ more h. h; small = λ more. omega arith }

one_child : (kids : List Tree) (size : ℕ) (n : Tree) (before behind : ℕ) → AreChildren kids size → IsNode 0 n before behind → AreChildren (kids ++ n ∷ []) (size + tree_size n)
one_child kids size n before behind ks node = record {
  sound = λ more s. rw (append_assoc kids (n ∷ []) more) (ks.sound (n ∷ more) (node.sound false (forest_of more) s));
  low = λ more h. rw (append_assoc kids (n ∷ []) more) (ks.low (n ∷ more) (lower (node.low (forest_of more) (higher h))));
  small = λ more. rw (append_assoc kids (n ∷ []) more) (let a = ks.small (n ∷ more) in let e = forest_size-put n (forest_of more) in omega arith);
}
  where
    lower : {a : ℕ} → 0 + a ≤ limit → a ≤ limit
    lower h = omega arith

    higher : {a : ℕ} → a ≤ limit → 0 + a ≤ limit
    higher h = omega arith

-- the document itself counts once its root is there, which takes more characters than nodes
abbrev extra : Level → ℕ
extra blank = 0
extra fresh = 0
extra typed = 0
extra rooted = 1

extra-begun : (l : Level) → extra (begun l) ≡ extra l
extra-begun blank = refl
extra-begun fresh = refl
extra-begun typed = refl
extra-begun rooted = refl

record IsSoundDocument (w : Tree) (size : ℕ) : Type 0 where
  root : is_sound_root w ≡ true
  low : tree_height w ≤ limit
  small : tree_size w ≤ size

smaller : {w : Tree} {less size : ℕ} → IsSoundDocument w less → less ≤ size → IsSoundDocument w size
smaller d h = record { root = d.root; low = d.low; small = let a = d.small in omega arith }

whole_document : (kids : List Tree) (size : ℕ) → AreChildren kids size → IsSoundDocument (Doc (forest_of kids)) (1 + size)
whole_document kids size ks =
    let sound = ks.sound [] refl in
    let low = ks.low [] (omega arith) in
    let small = ks.small [] in
    let same = append-nil kids in
    record {
      root = rw same at sound;
      low = let h : forest_height (forest_of kids) ≤ limit = rw same at low in grind (arith);
      small = let s : forest_size (forest_of kids) ≤ size + 0 = rw same at small in omega arith;
    }

top_sound : {l : Level} {kids : List Tree} {ts : List ℕ} {w : Tree} → Top opened l kids ts w → (size : ℕ) → AreChildren kids size → IsSoundDocument w (extra l + size + length ts)
top_sound (doc.declares f k) size ks = let low = form_size f in smaller (top_sound k size ks) (omega arith)
top_sound {l = l} (doc.space s k) size ks = let e = extra-begun l in smaller (top_sound k size ks) (omega arith)
top_sound {l = l} {kids = kids} (doc.aside {ts = ts} {mid = mid} {tree = n} m k) size ks =
    let node = misc_node 0 m in
    let small = node.small in
    let e = extra-begun l in
    smaller (top_sound k (size + tree_size n) (one_child kids size n (length ts) (length mid) ks node)) (omega arith)
top_sound (doc.types m f k) size ks = let low = form_size f in smaller (top_sound k size ks) (omega arith)
top_sound {kids = kids} (doc.root {ts = ts} {mid = mid} {tree = n} m el k) size ks =
    let node = element_is_node el top_bindings in
    let small = node.small in
    smaller (top_sound k (size + tree_size n) (one_child kids size n (length ts) (length mid) ks node)) (omega arith)
top_sound {kids = kids} doc.ends size ks = smaller (whole_document kids size ks) (omega arith)

-- the characters of a text are no more than its bytes

after_size : (n c : ℕ) (bytes : List ℕ) → length (chars_after n c bytes) ≤ 1 + length bytes
after_size zero c [] = omega arith
after_size zero c (b ∷ bytes) = let low = after_size (continuation_len b) (lead_bits b) bytes in omega arith
after_size (suc n) c [] = omega arith
after_size (suc n) c (b ∷ bytes) = let low = after_size n (c * 64 + (b - 128)) bytes in omega arith

chars_size : (bytes : List ℕ) → length (chars bytes) ≤ length bytes
unfolding chars
chars_size [] = omega arith
chars_size (b ∷ bytes) = let low = after_size (continuation_len b) (lead_bits b) bytes in omega arith

lines_size : (cr : Bool) (cs : List ℕ) → length (lines_behind cr cs) ≤ length cs
lines_size cr [] = omega arith
lines_size cr (c ∷ cs) = go (c == 13) (cr && c == 10) (lines_size true cs) (lines_size false cs) where
  go : (a b : Bool) → length (lines_behind true cs) ≤ length cs → length (lines_behind false cs) ≤ length cs → length (cond a (10 ∷ lines_behind true cs) (cond b (lines_behind false cs) (c ∷ lines_behind false cs))) ≤ length (c ∷ cs)
  go true b x y = omega arith
  go false true x y = omega arith
  go false false x y = omega arith

mark_size : (cs : List ℕ) → length (without_mark cs) ≤ length cs
mark_size [] = omega arith
mark_size (c ∷ cs) = go (c == mark) where
  go : (a : Bool) → length (cond a cs (c ∷ cs)) ≤ length (c ∷ cs)
  go true = omega arith
  go false = omega arith

pub text_size : (bytes : List ℕ) → length (text_of (chars bytes)) ≤ length bytes
text_size bytes =
    let a = lines_size false (without_mark (chars bytes)) in
    let b = mark_size (chars bytes) in
    let c = chars_size bytes in omega arith

in_bytes : (bytes : List ℕ) (t : Tree) → IsDocument bytes t → IsSoundDocument t (length bytes)
in_bytes bytes t d = let low = text_size bytes in smaller (top_sound d.1 0 no_children) (omega arith)

pub document_size : (bytes : List ℕ) (t : Tree) → IsDocument bytes t → tree_size t ≤ length bytes
document_size bytes t d = (in_bytes bytes t d).small

pub document_sound : (bytes : List ℕ) (t : Tree) → length bytes ≤ 0x7FFF_FFFF_FFFF_FFFF → IsDocument bytes t → is_sound_tree t ≡ true
document_sound bytes t h d =
    let s = in_bytes bytes t d in
    let small = s.small in
    let size : tree_size t ≤ 0x7FFF_FFFF_FFFF_FFFF = omega arith in
    rw (s.root, le-leb (tree_height t) 2000 s.low, le-leb (tree_size t) 0x7FFF_FFFF_FFFF_FFFF size) refl
