-- Content while it is made, against complex content.
use Rattle.std.proofs.Common.{◌≡◌, ℕ, List, [], ◌∷◌, ◌++◌, true, refl, ap, sym, ◌∙◌, append_assoc}
use Rattle.std.proofs.lemmas.List.{append-nil}
use Rattle.xt_names.specs.Allowed.{is_empty_text}
use Rattle.xt_names.specs.declared.names.Name.{Name}
use Rattle.xt_tree.specs.declared.trees.Tree.{Tree}
use Rattle.xt_tree.specs.declared.trees.Tree.TheVariants.{Doc, Elem, Text, Comment, Pi, Attr}
use Rattle.sheet_meaning.specs.Meaning.{put_text, complex_content}
use Rattle.xslt_run.specs.Content.{Built, empty, flushed, all_of, with_text, with_tree, with_item, with_items}

pub flushed_none : (t : List ℕ) → is_empty_text t ≡ true → flushed t ≡ []
unfolding is_empty_text
flushed_none [] e = refl
flushed_none (c ∷ cs) e = cc

pub flushed_some : (t : List ℕ) → (is_empty_text t ≡ true → ⊥) → flushed t ≡ Text t ∷ []
unfolding is_empty_text
flushed_some [] e = absurd (e refl)
flushed_some (c ∷ cs) e = refl

pub with_items-append : (b : Built) (xs ys : List Tree) → with_items b (xs ++ ys) ≡ with_items (with_items b xs) ys
with_items-append b [] ys = refl
with_items-append b (x ∷ xs) ys = with_items-append (with_item b x) xs ys

-- a text after another is one with it
pub put_text-append : (t u : List ℕ) (items : List Tree) → put_text (t ++ u) items ≡ put_text t (put_text u items)
put_text-append [] u items = refl
put_text-append (c ∷ cs) [] items = ap (λ v. put_text (c ∷ v) items) (append-nil cs)
put_text-append (c ∷ cs) (d ∷ ds) [] = refl
put_text-append (c ∷ cs) (d ∷ ds) (Text v ∷ items) = ap (λ w. Text (c ∷ w) ∷ items) (append_assoc cs (d ∷ ds) v)
put_text-append (c ∷ cs) (d ∷ ds) (Doc kids ∷ items) = refl
put_text-append (c ∷ cs) (d ∷ ds) (Elem name attributes kids ∷ items) = refl
put_text-append (c ∷ cs) (d ∷ ds) (Comment v ∷ items) = refl
put_text-append (c ∷ cs) (d ∷ ds) (Pi target v ∷ items) = refl
put_text-append (c ∷ cs) (d ∷ ds) (Attr name v ∷ items) = refl

flushed_is_put : (t : List ℕ) → flushed t ≡ put_text t []
flushed_is_put [] = refl
flushed_is_put (c ∷ cs) = refl

-- what comes before a tree that is no text
pub put_text-doc : (t : List ℕ) (kids : _) (items : List Tree) → put_text t (Doc kids ∷ items) ≡ flushed t ++ Doc kids ∷ items
put_text-doc [] kids items = refl
put_text-doc (c ∷ cs) kids items = refl

pub put_text-elem : (t : List ℕ) (name : Name) (attributes : _) (kids : _) (items : List Tree) → put_text t (Elem name attributes kids ∷ items) ≡ flushed t ++ Elem name attributes kids ∷ items
put_text-elem [] name attributes kids items = refl
put_text-elem (c ∷ cs) name attributes kids items = refl

pub put_text-comment : (t u : List ℕ) (items : List Tree) → put_text t (Comment u ∷ items) ≡ flushed t ++ Comment u ∷ items
put_text-comment [] u items = refl
put_text-comment (c ∷ cs) u items = refl

pub put_text-pi : (t target u : List ℕ) (items : List Tree) → put_text t (Pi target u ∷ items) ≡ flushed t ++ Pi target u ∷ items
put_text-pi [] target u items = refl
put_text-pi (c ∷ cs) target u items = refl

pub put_text-attr : (t : List ℕ) (name : Name) (u : List ℕ) (items : List Tree) → put_text t (Attr name u ∷ items) ≡ flushed t ++ Attr name u ∷ items
put_text-attr [] name u items = refl
put_text-attr (c ∷ cs) name u items = refl

behind : (done : List Tree) (t : List ℕ) (x : Tree) (rest items : List Tree) → put_text t (x ∷ items) ≡ flushed t ++ x ∷ items → rest ≡ ((done ++ flushed t) ++ x ∷ []) ++ items → rest ≡ done ++ put_text t (x ∷ items)
behind done t x rest items e r =
    r ∙ append_assoc (done ++ flushed t) (x ∷ []) items ∙ append_assoc done (flushed t) (x ∷ items) ∙ ap (λ ys. done ++ ys) (sym e)

-- the content in order is the complex content
pub all_of-with_items : (b : Built) (items : List Tree) → all_of (with_items b items) ≡ b.done ++ put_text b.pending (complex_content items)
all_of-with_items b [] = ap (λ ys. b.done ++ ys) (flushed_is_put b.pending)
all_of-with_items b (Text t ∷ items) =
    all_of-with_items (with_text b t) items ∙ ap (λ ys. b.done ++ ys) (put_text-append b.pending t (complex_content items))
all_of-with_items b (Doc kids ∷ items) =
    behind b.done b.pending (Doc kids) _ (complex_content items) (put_text-doc b.pending kids (complex_content items)) (all_of-with_items (with_tree b (Doc kids)) items)
all_of-with_items b (Elem name attributes kids ∷ items) =
    behind b.done b.pending (Elem name attributes kids) _ (complex_content items) (put_text-elem b.pending name attributes kids (complex_content items)) (all_of-with_items (with_tree b (Elem name attributes kids)) items)
all_of-with_items b (Comment t ∷ items) =
    behind b.done b.pending (Comment t) _ (complex_content items) (put_text-comment b.pending t (complex_content items)) (all_of-with_items (with_tree b (Comment t)) items)
all_of-with_items b (Pi target t ∷ items) =
    behind b.done b.pending (Pi target t) _ (complex_content items) (put_text-pi b.pending target t (complex_content items)) (all_of-with_items (with_tree b (Pi target t)) items)
all_of-with_items b (Attr name t ∷ items) =
    behind b.done b.pending (Attr name t) _ (complex_content items) (put_text-attr b.pending name t (complex_content items)) (all_of-with_items (with_tree b (Attr name t)) items)

pub all_of-empty : (items : List Tree) → all_of (with_items empty items) ≡ complex_content items
all_of-empty items = all_of-with_items empty items
