-- One pass over the items gives the complex content.
use Rattle.std.proofs.Common.{◌≡◌, ℕ, List, [], ◌∷◌, ◌++◌, Bool, true, false, not, ◌||◌, Option, Some, None, refl, ap, sym, ◌∙◌, subst, cond, append_assoc}
use Rattle.std.proofs.lemmas.List.{append-nil}
use Rattle.std.proofs.lemmas.List.Folds.{list_any-append}
use Rattle.std.specs.List.{list_any}
use Rattle.std.specs.Prelude.{if◌then◌else◌}
use Rattle.xt_names.specs.Allowed.{is_empty_text}
use Rattle.xt_names.specs.declared.names.Name.{Name}
use Rattle.xt_names.specs.declared.codes.Code.{Code}
use Rattle.xt_atoms.specs.AtomTexts.{text_of}
use Rattle.xt_tree.specs.Place.{subtree_of}
use Rattle.xt_tree.specs.TreeView.{trees}
use Rattle.xt_tree.specs.declared.attributes.Attribute.{Attribute}
use Rattle.xt_tree.specs.declared.trees.Tree.{Tree}
use Rattle.xt_tree.specs.declared.trees.Tree.TheVariants.{Doc, Elem, Text, Comment, Pi, Attr}
use Rattle.xdm_items.specs.declared.items.Item.{Item}
use Rattle.xdm_items.specs.declared.items.Item.TheVariants.{Node, Atom}
use Rattle.node_builder.specs.Made.{Made, Gives, Fails, made_then}
use Rattle.node_builder.specs.Complex.{Piece, pieces_of, put_node, put_atom, is_attribute, leading_attributes, front, behind, misplaced, distinct, taken, complex_content}
use Rattle.node_builder.specs.Building.{Built, empty, flushed, all_of, with_text, with_space, with_kid, takes_attributes, with_attribute, with_tree, with_trees, with_opened, behind_node, with_node, with_gap, with_atom, with_item, with_items, finished}
use Rattle.node_builder.specs.declared.contents.Content.{Content}
use Rattle.node_builder.specs.declared.kinds.Duplicates.{Duplicates}
use Rattle.node_builder.specs.declared.kinds.Holder.{Holder}
use Rattle.node_builder.specs.declared.kinds.Holder.TheVariants.{Element, Document}
use Rattle.node_builder.proofs.ContentLemmas.{put_text, put_text-append, put_text-nil, put_text-doc, put_text-elem, put_text-comment, put_text-pi, put_text-attr, put_tree, put_trees, put_opened, nodes, nodes_behind, nodes_behind-nil, nodes_behind-node, nodes_behind-other, nodes_behind-atom}

pub made_then-same : {A B : Type 0} (o : Made A) (f g : A → Made B) → ((x : A) → o ≡ Gives x → f x ≡ g x) → made_then o f ≡ made_then o g
made_then-same (Gives x) f g h = h x refl
made_then-same (Fails c) f g h = refl

pub made_then-chain : {A B C : Type 0} (o : Made A) (f : A → Made B) (g : B → Made C) → made_then (made_then o f) g ≡ made_then o (λ x. made_then (f x) g)
made_then-chain (Gives x) f g = refl
made_then-chain (Fails c) f g = refl

-- the children alone
abbrev kids_with : List Tree → List ℕ → List Tree → List Tree
kids_with done pending xs = done ++ put_text pending xs

-- the content of what is made so far and of what is to come
abbrev with_rest : Duplicates → Holder → List Attribute → List Tree → Made Content
with_rest side holder attributes xs = taken side holder (attributes ++ front holder xs) (behind holder xs)

abbrev rest_of : Duplicates → Holder → Built → List Tree → Made Content
rest_of side holder b xs = with_rest side holder b.attributes (kids_with b.done b.pending xs)

-- whether there is any child
abbrev BegunIs : Bool → List Tree → Type 0
BegunIs true xs = xs ≡ [] → ⊥
BegunIs false xs = xs ≡ []

pub record IsRight (after : Bool) (b : Built) : Type 0 where
  pub plain : list_any is_attribute b.done ≡ false
  pub begun : BegunIs b.begun (all_of b)
  pub after_is : b.after_atom ≡ after

any_flushed : (t : List ℕ) → list_any is_attribute (flushed t) ≡ false
any_flushed [] = refl
any_flushed (c ∷ cs) = refl

or_false : (p q : Bool) → p ≡ false → q ≡ false → (p || q) ≡ false
or_false true q e f = absurd cc
or_false false q e f = f

any_all : (done : List Tree) (pending : List ℕ) → list_any is_attribute done ≡ false → list_any is_attribute (done ++ flushed pending) ≡ false
any_all done pending e = list_any-append is_attribute done (flushed pending) ∙ or_false _ _ e (any_flushed pending)

-- without attributes all are children
front_none : (holder : Holder) (xs : List Tree) → list_any is_attribute xs ≡ false → front holder xs ≡ []
front_none Document xs e = refl
front_none Element [] e = refl
front_none Element (Doc kids ∷ xs) e = refl
front_none Element (Elem name attributes kids ∷ xs) e = refl
front_none Element (Text t ∷ xs) e = refl
front_none Element (Comment t ∷ xs) e = refl
front_none Element (Pi target t ∷ xs) e = refl
front_none Element (Attr name t ∷ xs) e = absurd cc

behind_all : (holder : Holder) (xs : List Tree) → list_any is_attribute xs ≡ false → behind holder xs ≡ xs
behind_all Document xs e = refl
behind_all Element [] e = refl
behind_all Element (Doc kids ∷ xs) e = refl
behind_all Element (Elem name attributes kids ∷ xs) e = refl
behind_all Element (Text t ∷ xs) e = refl
behind_all Element (Comment t ∷ xs) e = refl
behind_all Element (Pi target t ∷ xs) e = refl
behind_all Element (Attr name t ∷ xs) e = absurd cc

taken_plain : (side : Duplicates) (holder : Holder) (attributes : List Attribute) (kids : List Tree) → list_any is_attribute kids ≡ false
    → taken side holder attributes kids ≡ made_then (distinct side attributes) (λ kept. Gives (record { attributes = kept; kids = kids }))
unfolding taken
taken_plain side holder attributes kids e = rw e refl

taken_misplaced : (side : Duplicates) (holder : Holder) (attributes : List Attribute) (kids : List Tree) → list_any is_attribute kids ≡ true → taken side holder attributes kids ≡ Fails (misplaced side holder)
unfolding taken
taken_misplaced side holder attributes kids e = rw e refl

rest_plain : (side : Duplicates) (holder : Holder) (attributes : List Attribute) (xs : List Tree) → list_any is_attribute xs ≡ false
    → with_rest side holder attributes xs ≡ made_then (distinct side attributes) (λ kept. Gives (record { attributes = kept; kids = xs }))
rest_plain side holder attributes xs e =
    ap (λ fs. taken side holder (attributes ++ fs) (behind holder xs)) (front_none holder xs e)
    ∙ ap (λ fs. taken side holder fs (behind holder xs)) (append-nil attributes)
    ∙ ap (taken side holder attributes) (behind_all holder xs e)
    ∙ taken_plain side holder attributes xs e

-- at the end of the items
at_end : (side : Duplicates) (holder : Holder) (after : Bool) (b : Built) → IsRight after b → rest_of side holder b [] ≡ finished side b
at_end side holder after b r =
    ap (λ t. with_rest side holder b.attributes (b.done ++ t)) (put_text-nil b.pending)
    ∙ rest_plain side holder b.attributes (b.done ++ flushed b.pending) (any_all b.done b.pending r.plain)

-- a text moves from what is to come to what is made
text_moves : (side : Duplicates) (holder : Holder) (attributes : List Attribute) (done : List Tree) (p t : List ℕ) (xs : List Tree)
    → with_rest side holder attributes (kids_with done p (put_text t xs)) ≡ with_rest side holder attributes (kids_with done (p ++ t) xs)
text_moves side holder attributes done p t xs = ap (λ ys. with_rest side holder attributes (done ++ ys)) (sym (put_text-append p t xs))

-- a child does
kid_list : (done : List Tree) (p : List ℕ) (x : Tree) (xs : List Tree) → put_text p (x ∷ xs) ≡ flushed p ++ x ∷ xs → kids_with done p (x ∷ xs) ≡ kids_with ((done ++ flushed p) ++ x ∷ []) [] xs
unfolding put_text
kid_list done p x xs e =
    ap (λ ys. done ++ ys) e ∙ sym (append_assoc done (flushed p) (x ∷ xs)) ∙ sym (append_assoc (done ++ flushed p) (x ∷ []) xs)

kid_moves : (side : Duplicates) (holder : Holder) (b : Built) (x : Tree) (xs : List Tree) → put_text b.pending (x ∷ xs) ≡ flushed b.pending ++ x ∷ xs
    → rest_of side holder b (x ∷ xs) ≡ rest_of side holder (with_kid b x) xs
kid_moves side holder b x xs e = ap (with_rest side holder b.attributes) (kid_list b.done b.pending x xs e)

any_behind : (done : List Tree) (p : List ℕ) (name : Name) (u : List ℕ) (xs : List Tree) → list_any is_attribute (kids_with done p (Attr name u ∷ xs)) ≡ true
any_behind [] p name u xs =
    ap (list_any is_attribute) (put_text-attr p name u xs) ∙ list_any-append is_attribute (flushed p) (Attr name u ∷ xs) ∙ ap (λ q. q || true) (any_flushed p)
any_behind (Doc kids ∷ done) p name u xs = any_behind done p name u xs
any_behind (Elem n attributes kids ∷ done) p name u xs = any_behind done p name u xs
any_behind (Text t ∷ done) p name u xs = any_behind done p name u xs
any_behind (Comment t ∷ done) p name u xs = any_behind done p name u xs
any_behind (Pi target t ∷ done) p name u xs = any_behind done p name u xs
any_behind (Attr n t ∷ done) p name u xs = refl

-- after a child an attribute is not at the front
not_at_front : (d : Tree) (ds ys : List Tree) → list_any is_attribute (d ∷ ds) ≡ false → behind Element (d ∷ ys) ≡ d ∷ ys
not_at_front (Doc kids) ds ys e = refl
not_at_front (Elem name attributes kids) ds ys e = refl
not_at_front (Text t) ds ys e = refl
not_at_front (Comment t) ds ys e = refl
not_at_front (Pi target t) ds ys e = refl
not_at_front (Attr name t) ds ys e = absurd cc

behind_kid : (done : List Tree) (p : List ℕ) (name : Name) (u : List ℕ) (xs : List Tree) → list_any is_attribute done ≡ false → (done ++ flushed p ≡ [] → ⊥)
    → behind Element (kids_with done p (Attr name u ∷ xs)) ≡ kids_with done p (Attr name u ∷ xs)
unfolding put_text
behind_kid [] [] name u xs e h = absurd (h refl)
behind_kid [] (c ∷ cs) name u xs e h = refl
behind_kid (d ∷ ds) p name u xs e h = not_at_front d ds (ds ++ put_text p (Attr name u ∷ xs)) e

element_refuses : (side : Duplicates) (attributes : List Attribute) (done : List Tree) (p : List ℕ) (name : Name) (u : List ℕ) (xs : List Tree) → list_any is_attribute done ≡ false → (done ++ flushed p ≡ [] → ⊥)
    → with_rest side Element attributes (kids_with done p (Attr name u ∷ xs)) ≡ Fails (misplaced side Element)
element_refuses side attributes done p name u xs e h =
    ap (taken side Element (attributes ++ leading_attributes (kids_with done p (Attr name u ∷ xs)))) (behind_kid done p name u xs e h)
    ∙ taken_misplaced side Element _ _ (any_behind done p name u xs)

element_takes : (side : Duplicates) (attributes : List Attribute) (done : List Tree) (p : List ℕ) (n : Name) (u : List ℕ) (xs : List Tree) → done ++ flushed p ≡ []
    → with_rest side Element attributes (kids_with done p (Attr n u ∷ xs)) ≡ with_rest side Element (attributes ++ record { name = n; value = u } ∷ []) (kids_with done p xs)
unfolding put_text
element_takes side attributes [] [] n u xs e =
    ap (λ fs. taken side Element fs (behind Element xs)) (sym (append_assoc attributes (record { name = n; value = u } ∷ []) (leading_attributes xs)))
element_takes side attributes [] (c ∷ cs) n u xs e = absurd cc
element_takes side attributes (d ∷ ds) p n u xs e = absurd cc

-- an attribute, where there is a child or not
abbrev with_test : Duplicates → Holder → Built → Name → List ℕ → Bool → Made Built
with_test side holder b n u begun =
    if not begun then Gives (record b { attributes = b.attributes ++ record { name = n; value = u } ∷ [] }) else Fails (misplaced side holder)

attribute_moves : (side : Duplicates) (holder : Holder) (b : Built) (begun : Bool) (name : Name) (u : List ℕ) (xs : List Tree) → list_any is_attribute b.done ≡ false → BegunIs begun (all_of b) → b.begun ≡ begun
    → rest_of side holder b (Attr name u ∷ xs) ≡ made_then (with_attribute side holder b name u) (λ c. rest_of side holder c xs)
unfolding with_attribute
attribute_moves side Document b begun name u xs p h e = taken_misplaced side Document _ _ (any_behind b.done b.pending name u xs)
attribute_moves side Element b true name u xs p h e =
    element_refuses side b.attributes b.done b.pending name u xs p h ∙ sym (ap (λ t. made_then (with_test side Element b name u t) (λ c. rest_of side Element c xs)) e)
attribute_moves side Element b false name u xs p h e =
    element_takes side b.attributes b.done b.pending name u xs h ∙ sym (ap (λ t. made_then (with_test side Element b name u t) (λ c. rest_of side Element c xs)) e)

tree_moves : (side : Duplicates) (holder : Holder) (after : Bool) (b : Built) (x : Tree) (xs : List Tree) → IsRight after b
    → rest_of side holder b (put_tree x xs) ≡ made_then (with_tree side holder b x) (λ c. rest_of side holder c xs)
tree_moves side holder after b (Doc kids) xs r = kid_moves side holder b (Doc kids) xs (put_text-doc b.pending kids xs)
tree_moves side holder after b (Elem name attributes kids) xs r = kid_moves side holder b (Elem name attributes kids) xs (put_text-elem b.pending name attributes kids xs)
tree_moves side holder after b (Text t) xs r = text_moves side holder b.attributes b.done b.pending t xs
tree_moves side holder after b (Comment t) xs r = kid_moves side holder b (Comment t) xs (put_text-comment b.pending t xs)
tree_moves side holder after b (Pi target t) xs r = kid_moves side holder b (Pi target t) xs (put_text-pi b.pending target t xs)
tree_moves side holder after b (Attr name t) xs r = attribute_moves side holder b b.begun name t xs r.plain r.begun refl

-- what is made stays right
still_begun : (begun : Bool) (done : List Tree) (p t : List ℕ) → BegunIs begun (done ++ flushed p) → BegunIs (begun || not (is_empty_text t)) (done ++ flushed (p ++ t))
unfolding is_empty_text
still_begun true [] [] t h = absurd (h refl)
still_begun true [] (c ∷ cs) t h = λ e. cc
still_begun true (d ∷ ds) p t h = λ e. cc
still_begun false [] [] [] h = refl
still_begun false [] [] (c ∷ cs) h = λ e. cc
still_begun false [] (d ∷ ds) t h = absurd cc
still_begun false (d ∷ ds) p t h = absurd cc

pub right_empty : IsRight false empty
right_empty = record { plain = refl; begun = refl; after_is = refl }

right_text : (after : Bool) (b : Built) (t : List ℕ) → IsRight after b → IsRight after (with_text b t)
right_text after b t r = record { plain = r.plain; begun = still_begun b.begun b.done b.pending t r.begun; after_is = r.after_is }

not_none : (xs ys : List Tree) (x : Tree) → (xs ++ x ∷ []) ++ ys ≡ [] → ⊥
not_none [] ys x e = cc
not_none (y ∷ xs) ys x e = cc

not_none_text : (xs : List Tree) (p : List ℕ) → xs ++ flushed (p ++ 32 ∷ []) ≡ [] → ⊥
not_none_text [] [] e = cc
not_none_text [] (c ∷ cs) e = cc
not_none_text (y ∷ xs) p e = cc

right_space : (after : Bool) (b : Built) → IsRight after b → IsRight after (with_space b)
right_space after b r = record { plain = r.plain; begun = not_none_text b.done b.pending; after_is = r.after_is }

any_push : (xs : List Tree) (x : Tree) → list_any is_attribute xs ≡ false → is_attribute x ≡ false → list_any is_attribute (xs ++ x ∷ []) ≡ false
any_push xs x e f = list_any-append is_attribute xs (x ∷ []) ∙ or_false _ _ e (or_false _ _ f refl)

right_kid : (after : Bool) (b : Built) (x : Tree) → is_attribute x ≡ false → IsRight after b → IsRight after (with_kid b x)
right_kid after b x f r = record {
  plain = any_push (all_of b) x (any_all b.done b.pending r.plain) f;
  begun = not_none (all_of b) [] x;
  after_is = r.after_is;
}

right_attribute : (side : Duplicates) (holder : Holder) (after : Bool) (b c : Built) (name : Name) (u : List ℕ) → IsRight after b → with_attribute side holder b name u ≡ Gives c → IsRight after c
unfolding with_attribute
right_attribute side holder after b c n u r e = right_by (takes_attributes holder b) (record b { attributes = b.attributes ++ record { name = n; value = u } ∷ [] }) c _ (record { plain = r.plain; begun = r.begun; after_is = r.after_is }) e where
  right_by : (test : Bool) (x y : Built) (code : Code) → IsRight after x → (if test then Gives x else Fails code) ≡ Gives y → IsRight after y
  right_by true x y code q e = let same : x ≡ y = cc in subst (IsRight after) same q
  right_by false x y code q e = absurd cc

given : (after : Bool) (x c : Built) → IsRight after x → Gives x ≡ Gives c → IsRight after c
given after x c q e = let same : x ≡ c = cc in subst (IsRight after) same q

right_tree : (side : Duplicates) (holder : Holder) (after : Bool) (b c : Built) (x : Tree) → IsRight after b → with_tree side holder b x ≡ Gives c → IsRight after c
right_tree side holder after b c (Doc kids) r e = given after _ c (right_kid after b (Doc kids) refl r) e
right_tree side holder after b c (Elem name attributes kids) r e = given after _ c (right_kid after b (Elem name attributes kids) refl r) e
right_tree side holder after b c (Text t) r e = given after _ c (right_text after b t r) e
right_tree side holder after b c (Comment t) r e = given after _ c (right_kid after b (Comment t) refl r) e
right_tree side holder after b c (Pi target t) r e = given after _ c (right_kid after b (Pi target t) refl r) e
right_tree side holder after b c (Attr name t) r e = right_attribute side holder after b c name t r e

-- the value after two steps
pub split_then : {A B : Type 0} (o : Made A) (f : A → Made B) (y : B) → made_then o f ≡ Gives y → (x : A) × (o ≡ Gives x) × (f x ≡ Gives y)
split_then (Gives x) f y e = (x, refl, e)
split_then (Fails c) f y e = absurd cc

right_trees : (side : Duplicates) (holder : Holder) (after : Bool) (xs : List Tree) (b c : Built) → IsRight after b → with_trees side holder b xs ≡ Gives c → IsRight after c
right_trees side holder after [] b c r e = given after b c r e
right_trees side holder after (x ∷ xs) b c r e =
    let s = split_then (with_tree side holder b x) (λ d. with_trees side holder d xs) c e in
    right_trees side holder after xs s.0 c (right_tree side holder after b s.0 x r s.1) s.2

trees_move : (side : Duplicates) (holder : Holder) (after : Bool) (ys xs : List Tree) (b : Built) → IsRight after b
    → rest_of side holder b (put_trees ys xs) ≡ made_then (with_trees side holder b ys) (λ c. rest_of side holder c xs)
trees_move side holder after [] xs b r = refl
trees_move side holder after (y ∷ ys) xs b r =
    tree_moves side holder after b y (put_trees ys xs) r
    ∙ made_then-same (with_tree side holder b y) _ _ (λ d e. trees_move side holder after ys xs d (right_tree side holder after b d y r e))
    ∙ sym (made_then-chain (with_tree side holder b y) (λ d. with_trees side holder d ys) (λ c. rest_of side holder c xs))

opened_moves : (side : Duplicates) (holder : Holder) (after : Bool) (b : Built) (x : Tree) (xs : List Tree) → IsRight after b
    → rest_of side holder b (put_opened x xs) ≡ made_then (with_opened side holder b x) (λ c. rest_of side holder c xs)
opened_moves side holder after b (Doc kids) xs r = trees_move side holder after (trees kids) xs b r
opened_moves side holder after b (Elem name attributes kids) xs r = tree_moves side holder after b (Elem name attributes kids) xs r
opened_moves side holder after b (Text t) xs r = tree_moves side holder after b (Text t) xs r
opened_moves side holder after b (Comment t) xs r = tree_moves side holder after b (Comment t) xs r
opened_moves side holder after b (Pi target t) xs r = tree_moves side holder after b (Pi target t) xs r
opened_moves side holder after b (Attr name t) xs r = tree_moves side holder after b (Attr name t) xs r

right_opened : (side : Duplicates) (holder : Holder) (after : Bool) (b c : Built) (x : Tree) → IsRight after b → with_opened side holder b x ≡ Gives c → IsRight after c
right_opened side holder after b c (Doc kids) r e = right_trees side holder after (trees kids) b c r e
right_opened side holder after b c (Elem name attributes kids) r e = right_tree side holder after b c (Elem name attributes kids) r e
right_opened side holder after b c (Text t) r e = right_tree side holder after b c (Text t) r e
right_opened side holder after b c (Comment t) r e = right_tree side holder after b c (Comment t) r e
right_opened side holder after b c (Pi target t) r e = right_tree side holder after b c (Pi target t) r e
right_opened side holder after b c (Attr name t) r e = right_tree side holder after b c (Attr name t) r e

right_behind : (after : Bool) (b : Built) → IsRight after b → IsRight false (behind_node b)
right_behind after b r = record { plain = r.plain; begun = r.begun; after_is = refl }

gap_is : (after : Bool) (b : Built) → b.after_atom ≡ after → with_gap b ≡ cond after (with_space b) b
gap_is after b e = ap (λ a. cond a (with_space b) b) e

right_gap : (after : Bool) (b : Built) → IsRight after b → IsRight after (with_gap b)
right_gap true b r = subst (IsRight true) (sym (gap_is true b r.after_is)) (right_space true b r)
right_gap false b r = subst (IsRight false) (sym (gap_is false b r.after_is)) r

right_atom : (after : Bool) (b : Built) (t : List ℕ) → IsRight after b → IsRight true (with_atom b t)
right_atom after b t r =
    let q = right_text after (with_gap b) t (right_gap after b r) in record { plain = q.plain; begun = q.begun; after_is = refl }

-- the content of what is made so far and of the pieces to come
abbrev goes_on : Duplicates → Holder → Built → List Piece → Made Content
goes_on side holder b pieces = rest_of side holder b (nodes_behind b.after_atom pieces)

behind_same : (side : Duplicates) (holder : Holder) (c : Built) (after : Bool) (pieces : List Piece) → c.after_atom ≡ after → rest_of side holder c (nodes_behind after pieces) ≡ goes_on side holder c pieces
behind_same side holder c after pieces e = ap (λ a. rest_of side holder c (nodes_behind a pieces)) (sym e)

node_moves : (side : Duplicates) (holder : Holder) (after : Bool) (b : Built) (o : Option Tree) (pieces : List Piece) → IsRight after b
    → goes_on side holder b (put_node o pieces) ≡ made_then (with_node side holder b o) (λ c. goes_on side holder c pieces)
node_moves side holder after b None pieces r = refl
node_moves side holder after b (Some x) pieces r =
    let q = right_behind after b r in
    ap (rest_of side holder b) (nodes_behind-node b.after_atom x pieces)
    ∙ opened_moves side holder false (behind_node b) x (nodes pieces) q
    ∙ made_then-same (with_opened side holder (behind_node b) x) _ _ (λ c e. behind_same side holder c false pieces (right_opened side holder false (behind_node b) c x q e).after_is)

gap_moves : (side : Duplicates) (holder : Holder) (after : Bool) (b : Built) (t : List ℕ) (pieces : List Piece) → b.after_atom ≡ after
    → rest_of side holder b (nodes_behind after (put_atom t pieces)) ≡ rest_of side holder (with_gap b) (put_text t (nodes_behind true pieces))
gap_moves side holder false b t pieces e =
    ap (rest_of side holder b) (nodes_behind-other t pieces)
    ∙ ap (λ g. rest_of side holder g (put_text t (nodes_behind true pieces))) (sym (gap_is false b e))
gap_moves side holder true b t pieces e =
    ap (rest_of side holder b) (nodes_behind-atom t pieces)
    ∙ text_moves side holder b.attributes b.done b.pending (32 ∷ []) (put_text t (nodes_behind true pieces))
    ∙ ap (λ g. rest_of side holder g (put_text t (nodes_behind true pieces))) (sym (gap_is true b e))

atom_moves : (side : Duplicates) (holder : Holder) (b : Built) (t : List ℕ) (pieces : List Piece)
    → goes_on side holder b (put_atom t pieces) ≡ goes_on side holder (with_atom b t) pieces
atom_moves side holder b t pieces =
    let g = with_gap b in
    gap_moves side holder b.after_atom b t pieces refl ∙ text_moves side holder g.attributes g.done g.pending t (nodes_behind true pieces)

item_moves : (side : Duplicates) (holder : Holder) (after : Bool) (b : Built) (item : Item) (items : List Item) → IsRight after b
    → goes_on side holder b (pieces_of (item ∷ items)) ≡ made_then (with_item side holder b item) (λ c. goes_on side holder c (pieces_of items))
item_moves side holder after b (Node n) items r = node_moves side holder after b (subtree_of n) (pieces_of items) r
item_moves side holder after b (Atom a) items r = atom_moves side holder b (text_of a) (pieces_of items)

right_node : (side : Duplicates) (holder : Holder) (after : Bool) (b c : Built) (o : Option Tree) → IsRight after b → with_node side holder b o ≡ Gives c → IsRight c.after_atom c
right_node side holder after b c None r e = let q = given after b c r e in record { plain = q.plain; begun = q.begun; after_is = refl }
right_node side holder after b c (Some x) r e =
    let q = right_opened side holder false (behind_node b) c x (right_behind after b r) e in record { plain = q.plain; begun = q.begun; after_is = refl }

right_item : (side : Duplicates) (holder : Holder) (after : Bool) (b c : Built) (item : Item) → IsRight after b → with_item side holder b item ≡ Gives c → IsRight c.after_atom c
right_item side holder after b c (Node n) r e = right_node side holder after b c (subtree_of n) r e
right_item side holder after b c (Atom a) r e =
    let q = given true (with_atom b (text_of a)) c (right_atom after b (text_of a) r) e in record { plain = q.plain; begun = q.begun; after_is = refl }

items_move : (side : Duplicates) (holder : Holder) (items : List Item) (b : Built) → IsRight b.after_atom b
    → goes_on side holder b (pieces_of items) ≡ made_then (with_items side holder b items) (finished side)
items_move side holder [] b r = ap (rest_of side holder b) (nodes_behind-nil b.after_atom) ∙ at_end side holder b.after_atom b r
items_move side holder (item ∷ items) b r =
    item_moves side holder b.after_atom b item items r
    ∙ made_then-same (with_item side holder b item) _ _ (λ c e. items_move side holder items c (right_item side holder b.after_atom b c item r e))
    ∙ sym (made_then-chain (with_item side holder b item) (λ c. with_items side holder c items) (finished side))

-- one pass is the complex content
pub one_pass : (side : Duplicates) (holder : Holder) (items : List Item) → complex_content side holder items ≡ made_then (with_items side holder empty items) (finished side)
unfolding complex_content put_text
one_pass side holder items = items_move side holder items empty right_empty
