-- The steps of complex content, one tree at a time.
use Rattle.std.proofs.Common.{◌≡◌, ℕ, List, [], ◌∷◌, ◌++◌, map, Bool, true, false, Option, Some, None, refl, ap, sym, ◌∙◌, append_assoc}
use Rattle.std.proofs.lemmas.List.{append-nil}
use Rattle.xt_names.specs.Allowed.{is_empty_text}
use Rattle.xt_names.specs.declared.names.Name.{Name}
use Rattle.xt_tree.specs.TreeView.{trees}
use Rattle.xt_tree.specs.declared.trees.Tree.{Tree}
use Rattle.xt_tree.specs.declared.trees.Tree.TheVariants.{Doc, Elem, Text, Comment, Pi, Attr}
use Rattle.node_builder.specs.Complex.{Piece, words, whole, put_atom, put_node, piece_tree, opened, without_empty, merge_text, merged}
use Rattle.node_builder.specs.Building.{flushed}

pub flushed_none : (t : List ℕ) → is_empty_text t ≡ true → flushed t ≡ []
unfolding is_empty_text
flushed_none [] e = refl
flushed_none (c ∷ cs) e = cc

pub flushed_some : (t : List ℕ) → (is_empty_text t ≡ true → ⊥) → flushed t ≡ Text t ∷ []
unfolding is_empty_text
flushed_some [] e = absurd (e refl)
flushed_some (c ∷ cs) e = refl

-- a text before content, which goes where it is empty, and is one with a text after it
unfoldable pub put_text : List ℕ → List Tree → List Tree
put_text [] xs = xs
put_text (c ∷ cs) xs = merge_text (c ∷ cs) xs

both : (t u : List ℕ) (xs : List Tree) → merge_text (t ++ u) xs ≡ merge_text t (merge_text u xs)
both t u [] = refl
both t u (Text v ∷ xs) = ap (λ w. Text w ∷ xs) (append_assoc t u v)
both t u (Doc kids ∷ xs) = refl
both t u (Elem name attribvtes kids ∷ xs) = refl
both t u (Comment v ∷ xs) = refl
both t u (Pi target v ∷ xs) = refl
both t u (Attr name v ∷ xs) = refl

pub put_text-append : (t u : List ℕ) (xs : List Tree) → put_text (t ++ u) xs ≡ put_text t (put_text u xs)
unfolding put_text
put_text-append [] u xs = refl
put_text-append (c ∷ cs) [] xs = ap (λ w. merge_text (c ∷ w) xs) (append-nil cs)
put_text-append (c ∷ cs) (d ∷ ds) xs = both (c ∷ cs) (d ∷ ds) xs

pub put_text-nil : (t : List ℕ) → put_text t [] ≡ flushed t
unfolding put_text
put_text-nil [] = refl
put_text-nil (c ∷ cs) = refl

pub put_text-doc : (t : List ℕ) (kids : _) (xs : List Tree) → put_text t (Doc kids ∷ xs) ≡ flushed t ++ Doc kids ∷ xs
unfolding put_text
put_text-doc [] kids xs = refl
put_text-doc (c ∷ cs) kids xs = refl

pub put_text-elem : (t : List ℕ) (name : Name) (attributes : _) (kids : _) (xs : List Tree) → put_text t (Elem name attributes kids ∷ xs) ≡ flushed t ++ Elem name attributes kids ∷ xs
unfolding put_text
put_text-elem [] name attributes kids xs = refl
put_text-elem (c ∷ cs) name attributes kids xs = refl

pub put_text-comment : (t : List ℕ) (u : List ℕ) (xs : List Tree) → put_text t (Comment u ∷ xs) ≡ flushed t ++ Comment u ∷ xs
unfolding put_text
put_text-comment [] u xs = refl
put_text-comment (c ∷ cs) u xs = refl

pub put_text-pi : (t : List ℕ) (target u : List ℕ) (xs : List Tree) → put_text t (Pi target u ∷ xs) ≡ flushed t ++ Pi target u ∷ xs
unfolding put_text
put_text-pi [] target u xs = refl
put_text-pi (c ∷ cs) target u xs = refl

pub put_text-attr : (t : List ℕ) (name : Name) (u : List ℕ) (xs : List Tree) → put_text t (Attr name u ∷ xs) ≡ flushed t ++ Attr name u ∷ xs
unfolding put_text
put_text-attr [] name u xs = refl
put_text-attr (c ∷ cs) name u xs = refl

-- a tree before content
abbrev pub put_tree : Tree → List Tree → List Tree
put_tree (Doc kids) xs = Doc kids ∷ xs
put_tree (Elem name attributes kids) xs = Elem name attributes kids ∷ xs
put_tree (Text t) xs = put_text t xs
put_tree (Comment t) xs = Comment t ∷ xs
put_tree (Pi target t) xs = Pi target t ∷ xs
put_tree (Attr name t) xs = Attr name t ∷ xs

abbrev pub put_trees : List Tree → List Tree → List Tree
put_trees [] xs = xs
put_trees (y ∷ ys) xs = put_tree y (put_trees ys xs)

-- a node before content
abbrev pub put_opened : Tree → List Tree → List Tree
put_opened (Doc kids) xs = put_trees (trees kids) xs
put_opened (Elem name attributes kids) xs = Elem name attributes kids ∷ xs
put_opened (Text t) xs = put_text t xs
put_opened (Comment t) xs = Comment t ∷ xs
put_opened (Pi target t) xs = Pi target t ∷ xs
put_opened (Attr name t) xs = Attr name t ∷ xs

abbrev pub put_below : Option Tree → List Tree → List Tree
put_below None xs = xs
put_below (Some x) xs = put_opened x xs

-- the last two steps
abbrev pub tidy : List Tree → List Tree
tidy xs = merged (without_empty xs)

tidy-text : (t : List ℕ) (xs : List Tree) → tidy (Text t ∷ xs) ≡ put_text t (tidy xs)
unfolding put_text is_empty_text
tidy-text [] xs = refl
tidy-text (c ∷ cs) xs = refl

pub tidy-put : (y : Tree) (xs : List Tree) → tidy (y ∷ xs) ≡ put_tree y (tidy xs)
tidy-put (Doc kids) xs = refl
tidy-put (Elem name attributes kids) xs = refl
tidy-put (Text t) xs = tidy-text t xs
tidy-put (Comment t) xs = refl
tidy-put (Pi target t) xs = refl
tidy-put (Attr name t) xs = refl

tidy-append : (ys xs : List Tree) → tidy (ys ++ xs) ≡ put_trees ys (tidy xs)
tidy-append [] xs = refl
tidy-append (y ∷ ys) xs = tidy-put y (ys ++ xs) ∙ ap (put_tree y) (tidy-append ys xs)

-- all steps over pieces
abbrev pub nodes : List Piece → List Tree
nodes pieces = tidy (opened (map piece_tree pieces))

nodes-whole : (x : Tree) (pieces : List Piece) → nodes (whole x ∷ pieces) ≡ put_opened x (nodes pieces)
nodes-whole (Doc kids) pieces = tidy-append (trees kids) (opened (map piece_tree pieces))
nodes-whole (Elem name attributes kids) pieces = refl
nodes-whole (Text t) pieces = tidy-text t (opened (map piece_tree pieces))
nodes-whole (Comment t) pieces = refl
nodes-whole (Pi target t) pieces = refl
nodes-whole (Attr name t) pieces = refl

nodes-words : (t : List ℕ) (pieces : List Piece) → nodes (words t ∷ pieces) ≡ put_text t (nodes pieces)
nodes-words t pieces = tidy-text t (opened (map piece_tree pieces))

nodes-below : (o : Option Tree) (pieces : List Piece) → nodes (put_node o pieces) ≡ put_below o (nodes pieces)
nodes-below None pieces = refl
nodes-below (Some x) pieces = nodes-whole x pieces

-- what comes after an atom: a space, if that begins with words
pub spaced : List Piece → List Tree
spaced [] = []
spaced (words u ∷ pieces) = put_text (32 ∷ []) (nodes (words u ∷ pieces))
spaced (whole x ∷ pieces) = nodes (whole x ∷ pieces)

nodes-atom : (t : List ℕ) (pieces : List Piece) → nodes (put_atom t pieces) ≡ put_text t (spaced pieces)
unfolding spaced
nodes-atom t [] = nodes-words t []
nodes-atom t (whole x ∷ pieces) = nodes-words t (whole x ∷ pieces)
nodes-atom t (words u ∷ pieces) =
    nodes-words (t ++ 32 ∷ u) pieces ∙ put_text-append t ((32 ∷ []) ++ u) (nodes pieces)
    ∙ ap (put_text t) (put_text-append (32 ∷ []) u (nodes pieces) ∙ ap (put_text (32 ∷ [])) (sym (nodes-words u pieces)))

spaced-atom : (t : List ℕ) (pieces : List Piece) → spaced (put_atom t pieces) ≡ put_text (32 ∷ []) (nodes (put_atom t pieces))
unfolding spaced
spaced-atom t [] = refl
spaced-atom t (words u ∷ pieces) = refl
spaced-atom t (whole x ∷ pieces) = refl

-- the nodes of the pieces after an atom, or after something else
abbrev pub nodes_behind : Bool → List Piece → List Tree
nodes_behind false pieces = nodes pieces
nodes_behind true pieces = spaced pieces

pub nodes_behind-nil : (after : Bool) → nodes_behind after [] ≡ []
unfolding spaced
nodes_behind-nil true = refl
nodes_behind-nil false = refl

pub nodes_behind-none : (after : Bool) (pieces : List Piece) → nodes_behind after (put_node None pieces) ≡ nodes_behind after pieces
nodes_behind-none after pieces = refl

pub nodes_behind-node : (after : Bool) (x : Tree) (pieces : List Piece) → nodes_behind after (put_node (Some x) pieces) ≡ put_opened x (nodes pieces)
unfolding spaced
nodes_behind-node true x pieces = nodes-whole x pieces
nodes_behind-node false x pieces = nodes-whole x pieces

pub nodes_behind-other : (t : List ℕ) (pieces : List Piece) → nodes_behind false (put_atom t pieces) ≡ put_text t (nodes_behind true pieces)
nodes_behind-other t pieces = nodes-atom t pieces

pub nodes_behind-atom : (t : List ℕ) (pieces : List Piece) → nodes_behind true (put_atom t pieces) ≡ put_text (32 ∷ []) (put_text t (nodes_behind true pieces))
nodes_behind-atom t pieces = spaced-atom t pieces ∙ ap (put_text (32 ∷ [])) (nodes-atom t pieces)
