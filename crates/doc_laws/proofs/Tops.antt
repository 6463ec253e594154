-- A written document is read back.
use Rattle.std.proofs.Common.{◌≡◌, ℕ, List, [], ◌∷◌, ◌++◌, true, false, refl, sym, subst, arith, append_assoc, append-nil}
use Rattle.std.proofs.lemmas.Bool.{and_parts}
use Rattle.xt_names.specs.declared.names.Name.{Name}
use Rattle.xt_tree.specs.declared.attributes.Attribute.{Attribute}
use Rattle.xt_tree.specs.declared.trees.Tree.{Tree}
use Rattle.xt_tree.specs.declared.trees.Tree.TheVariants.{Doc, Elem, Comment, Pi}
use Rattle.xt_tree.specs.Forest.{Forest, end, doc, elem, text, comment, pi, attr}
use Rattle.xt_tree.specs.Sound.{is_sound_comment, is_sound_pi, are_sound_behind}
use Rattle.xt_tree.specs.TreeView.{forest_of, trees}
use Rattle.doc_grammar.specs.Lexemes.{Misc}
use Rattle.doc_grammar.specs.Lines.{without_mark}
use Rattle.doc_grammar.specs.Scopes.{opened, top_scope}
use Rattle.doc_grammar.specs.Document.{Element, Level, blank, fresh, typed, rooted, begun, may_root, Top}
use Rattle.doc_grammar.specs.Document as grammar
use Rattle.doc_writer.specs.Heads.{head_of}
use Rattle.doc_writer.specs.Readable.{renamed_attributes, as_written_forest, element_count, has_text}
use Rattle.doc_writer.specs.Scopes.{first_scope}
use Rattle.doc_writer.specs.Written.{later_prefixes, start_tag, is_end, element, written_comment, written_pi, written_forest}
use Rattle.doc_laws.proofs.Markup.{comment_back, pi_back}
use Rattle.doc_laws.proofs.Elements.{opens, KidsBack, element_back}
use Rattle.doc_laws.proofs.Contents.{Allows, element_parts, element_ready, kids_allowed, not_deep, less, content_back}

-- the rest of a document, after these children
abbrev TopBack : Level → List Tree → Forest → Type 0
TopBack l front f = Top opened l front (written_forest first_scope f) (Doc (forest_of (front ++ trees (as_written_forest first_scope f))))

aside_top : (l : Level) (front : List Tree) (written : List ℕ) (node : Tree) (f : Forest) → Misc (written ++ written_forest first_scope f) node (written_forest first_scope f) → TopBack (begun l) (front ++ node ∷ []) f
    → Top opened l front (written ++ written_forest first_scope f) (Doc (forest_of (front ++ node ∷ trees (as_written_forest first_scope f))))
aside_top l front written node f m k =
    let P : List Tree → Type 0 = λ ks. Top opened l front (written ++ written_forest first_scope f) (Doc (forest_of ks)) in
    subst P (append_assoc front (node ∷ []) (trees (as_written_forest first_scope f))) (grammar.aside m k)

root_top : (l : Level) (front : List Tree) (written : List ℕ) (node : Tree) (f : Forest) → may_root l ≡ true → Element opened 0 top_scope (written ++ written_forest first_scope f) node (written_forest first_scope f) → TopBack rooted (front ++ node ∷ []) f
    → Top opened l front (written ++ written_forest first_scope f) (Doc (forest_of (front ++ node ∷ trees (as_written_forest first_scope f))))
root_top l front written node f m e k =
    let P : List Tree → Type 0 = λ ks. Top opened l front (written ++ written_forest first_scope f) (Doc (forest_of ks)) in
    subst P (append_assoc front (node ∷ []) (trees (as_written_forest first_scope f))) (grammar.root m e k)

behind_root : (f : Forest) (front : List Tree) → are_sound_behind false f ≡ true → element_count f ≡ 0 → has_text f ≡ false → TopBack rooted front f
behind_root end front s n t = let P : List Tree → Type 0 = λ ks. Top opened rooted front [] (Doc (forest_of ks)) in subst P (sym (append-nil front)) grammar.ends
behind_root (doc kids f) front s n t = absurd (cc)
behind_root (elem name attributes kids f) front s n t = absurd (omega arith)
behind_root (text c f) front s n t = absurd (cc)
behind_root (comment c f) front s n t =
    let parts = and_parts (is_sound_comment c) (are_sound_behind false f) s in
    aside_top rooted front (written_comment c) (Comment c) f (comment_back c (written_forest first_scope f) parts.0) (behind_root f (front ++ Comment c ∷ []) parts.1 n t)
behind_root (pi target c f) front s n t =
    let parts = and_parts (is_sound_pi target c) (are_sound_behind false f) s in
    aside_top rooted front (written_pi target c) (Pi target c) f (pi_back target c (written_forest first_scope f) parts.0) (behind_root f (front ++ Pi target c ∷ []) parts.1 n t)
behind_root (attr name c f) front s n t = absurd (cc)

-- the element of a document
root_element : (name : Name) (attributes : List Attribute) (kids f : Forest) → Allows 0 [] (elem name attributes kids f) → are_sound_behind false (elem name attributes kids f) ≡ true
    → Element opened 0 top_scope (element (start_tag (head_of first_scope name attributes) name attributes) name (is_end kids) (written_forest (head_of first_scope name attributes).scope kids) ++ written_forest first_scope f)
    (Elem name (renamed_attributes (later_prefixes (head_of first_scope name attributes).used) attributes) (as_written_forest (head_of first_scope name attributes).scope kids)) (written_forest first_scope f)
root_element name attributes kids f all s =
    let h = head_of first_scope name attributes in
    let i = element_parts false name attributes kids f s in
    let o = opens [] name attributes (element_ready 0 [] name attributes kids f all i) in
    let inner : KidsBack 1 h.declared kids = content_back kids 1 h.declared false [] (kids_allowed 0 [] name attributes kids f all o) i.kids_sound refl 0 in
    element_back 0 [] name attributes h o kids (written_forest first_scope f) (not_deep 0 [] name attributes kids f all) inner

still_may : (l : Level) → may_root l ≡ true → may_root (begun l) ≡ true
still_may blank m = refl
still_may fresh m = refl
still_may typed m = refl
still_may rooted m = m

-- the whole document, with its declaration before it or without one
pub before_root : (l : Level) (f : Forest) (front : List Tree) → may_root l ≡ true → Allows 0 [] f → are_sound_behind false f ≡ true → element_count f ≡ 1 → has_text f ≡ false → TopBack l front f
before_root l end front m all s n t = absurd (omega arith)
before_root l (doc kids f) front m all s n t = absurd (cc)
before_root l (elem name attributes kids f) front m all s n t =
    let h = head_of first_scope name attributes in
    let i = element_parts false name attributes kids f s in
    let node : Tree = Elem name (renamed_attributes (later_prefixes h.used) attributes) (as_written_forest h.scope kids) in
    root_top l front (element (start_tag h name attributes) name (is_end kids) (written_forest h.scope kids)) node f m (root_element name attributes kids f all s) (behind_root f (front ++ node ∷ []) i.rest_sound (omega arith) t)
before_root l (text c f) front m all s n t = absurd (cc)
before_root l (comment c f) front m all s n t =
    let parts = and_parts (is_sound_comment c) (are_sound_behind false f) s in
    aside_top l front (written_comment c) (Comment c) f (comment_back c (written_forest first_scope f) parts.0)
    (before_root (begun l) f (front ++ Comment c ∷ []) (still_may l m) (less 0 [] (comment c f) f all refl refl refl) parts.1 n t)
before_root l (pi target c f) front m all s n t =
    let parts = and_parts (is_sound_pi target c) (are_sound_behind false f) s in
    aside_top l front (written_pi target c) (Pi target c) f (pi_back target c (written_forest first_scope f) parts.0)
    (before_root (begun l) f (front ++ Pi target c ∷ []) (still_may l m) (less 0 [] (pi target c f) f all refl refl refl) parts.1 n t)
before_root l (attr name c f) front m all s n t = absurd (cc)

-- what is written of a document begins with `<`, which is no byte order mark
pub unmarked : (f : Forest) → are_sound_behind false f ≡ true → element_count f ≡ 1 → has_text f ≡ false → without_mark (written_forest first_scope f) ≡ written_forest first_scope f
unfolding start_tag written_comment written_pi
unmarked end s n t = absurd (omega arith)
unmarked (doc kids f) s n t = absurd (cc)
unmarked (elem name attributes kids f) s n t = refl
unmarked (text c f) s n t = absurd (cc)
unmarked (comment c f) s n t = refl
unmarked (pi target c f) s n t = refl
unmarked (attr name c f) s n t = absurd (cc)
