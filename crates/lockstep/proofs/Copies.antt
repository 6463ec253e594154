-- xsl:copy: the content is evaluated at an element or a document alone.
use Rattle.std.proofs.Common.{◌≡◌, ℕ, List, [], ◌∷◌, refl, sym, ap, ◌∙◌, subst}
use Rattle.std.specs.Prelude.{Bool, true, false, ◌||◌, codes, Some, Ok}
use Rattle.xt_names.specs.declared.codes.Code.{Code}
use Rattle.xt_names.specs.declared.names.Name.{Name}
use Rattle.xt_types.specs.declared.axes.Axis.TheVariants as axis
use Rattle.xt_types.specs.declared.node_tests.NameTest.TheVariants.{Any}
use Rattle.xt_types.specs.declared.node_tests.Test.{Test}
use Rattle.xt_types.specs.declared.node_tests.Test.TheVariants.{Doc, Elem}
use Rattle.xt_types.specs.declared.types.ItemType.TheVariants.{Kind}
use Rattle.xt_tree.specs.Place.{Place, subtree_of}
use Rattle.xt_tree.specs.declared.trees.Tree.{Tree}
use Rattle.xt_tree.specs.declared.trees.Tree.TheVariants as tree
use Rattle.xt_atoms.specs.declared.atoms.Atom.TheVariants as atom
use Rattle.xdm_items.specs.Matching.{matches_item}
use Rattle.node_tests.specs.Tests.{passes_test, passes_element, passes_name, tree_passes, is_document as passes_document}
use Rattle.xdm_items.specs.declared.items.Item.{Item}
use Rattle.xdm_items.specs.declared.items.Item.TheVariants.{Node, Atom}
use Rattle.xdm_items.specs.FunctionArguments.Answers.{of_truth}
use Rattle.function_table.specs.declared.builtins.Builtin.TheVariants as function
use Rattle.node_builder.specs.Trees.{element_of, document_of}
use Rattle.node_builder.specs.declared.kinds.Duplicates.TheVariants.{Refuse}
use Rattle.xt_syntax.specs.declared.exprs.Expr.{Expr}
use Rattle.xt_syntax.specs.declared.exprs.Clause.TheViews.{roll-Expr}
use Rattle.xt_syntax.specs.declared.exprs.Clause.TheOpen.{Call, Computed, DocC, ElemC, Or}
use Rattle.expr_meaning.specs.Outcomes.Outcome.{Ends, and_then, Every}
use Rattle.expr_meaning.specs.Outcomes.Follow.{Relation, IsCarrying}
use Rattle.expr_meaning.proofs.OutcomesLemmas.Steps.{then_same}
use Rattle.expr_meaning.specs.Env.{Env, Meaning, Program, bind, with_bound, look_up}
use Rattle.expr_meaning.specs.Logic.{choice_of, chosen, first_of, unless}
use Rattle.expr_meaning.specs.Making.{made, element_made as element_meaning}
use Rattle.expr_meaning.specs.Meaning.{outcome}
use Rattle.expr_laws.proofs.Rolled.{rolled_name}
use Rattle.meaning_laws.specs.SoundValues.Sound.{IsSound}
use Rattle.carried_exprs.specs.Sights.{item_name, nothing, the_item}
use Rattle.carry_laws.specs.Seen.{FocusIsSeen, Holds}
use Rattle.query_helpers.specs.CopyBody.{copy_function}
use Rattle.query_helpers.specs.LastBody.{last_function}
use Rattle.query_helpers.proofs.CopyGives.{name_of_node, sound_placed}
use Rattle.query_helpers.proofs.Gives.{mean, Gives, Tells, gives_call, gives_nothing, gives_variable}
use Rattle.query_helpers.proofs.Gives.{if_then, if_else, let_of, tells_kind, tells_truth}
use Rattle.query_helpers.proofs.LastGives.{node_name_called}
use Rattle.transform_meaning.specs.Making.{copied_focus, copied_item, copied_item_with, copied_with}
use Rattle.transform_meaning.specs.Making.{copied_tree}
use Rattle.transform_meaning.specs.Making.{copy_made, document_with, element_with}
use Rattle.translated_forms.specs.Forms.{arm_of, is_of_kind}
use Rattle.fn_lib.specs.Functions.{function_value, value_of as function_of}
use Rattle.xt_tree.specs.Sound.{is_sound_name}
use Rattle.carry_laws.proofs.Names.{error_called}
use Rattle.translated_forms.specs.Making.{content_if_used, copied, copy_of_item, copy_with_content}
use Rattle.translated_forms.specs.Making.{document_of as document_expr, is_document, is_element, last_of}
use Rattle.translated_forms.specs.Making.{own_name, the_content}
use Rattle.translated_forms.specs.Names.{content_name}
use Rattle.translated_forms.specs.Places.{Table, sight_of}
use Rattle.lockstep.specs.Helpers.{HelpersCarry}
use Rattle.lockstep.specs.Spots.{Spot, IsAt}
use Rattle.lockstep.proofs.Calls.{call_given, call_of_one}
use Rattle.lockstep.proofs.Choices.{arm_means, many_mean}
use Rattle.lockstep.proofs.Elements.{document_given, last_meets}
use Rattle.lockstep.proofs.Frame.{Meets}
use Rattle.lockstep.proofs.Makes.{sheets}
use Rattle.xt_names.specs.ExprNames.{library_name}

-- the kind of a node
told : (wanted : Test) (n : Place) (t : Tree) → subtree_of n ≡ Some t →
    matches_item (Kind wanted) (Node n) ≡ passes_test axis.Itself wanted t
unfolding matches_item tree_passes
told wanted n t e = rw (e) refl

no_kind : (wanted : Test) (a : _) → matches_item (Kind wanted) (Atom a) ≡ false
unfolding matches_item
no_kind wanted a = refl

module _ (q : Program) where
  -- `or` of two
  tells_either : (a b : Expr) (f : Env) (t u : Bool) → Tells q a f t → Tells q b f u →
      Tells q (roll-Expr (Or (a ∷ b ∷ []))) f (t || u)
  tells_either a b f t u h g =
      tells_truth q (roll-Expr (Or (a ∷ b ∷ []))) f (t || u) (λ k.
      mean q (Or (a ∷ b ∷ [])) f k
      ∙ ap (λ o. and_then (and_then o (unless true (first_of true (outcome q b ∷ []) f)))
      (λ v j. Ends (of_truth v) j)) (h k)
      ∙ by t k)
    where
      last : (v : Bool) (j : ℕ) → and_then (unless true (first_of true [] f) v j)
          (λ w i. Ends (of_truth w) i) ≡ Ends (of_truth v) j
      last true j = refl
      last false j = refl

      by : (s : Bool) (j : ℕ) → and_then (unless true (first_of true (outcome q b ∷ []) f) s j)
          (λ v i. Ends (of_truth v) i) ≡ Ends (of_truth (s || u)) j
      by true j = refl
      by false j =
          ap (λ o. and_then (and_then o (unless true (first_of true [] f))) (λ v i. Ends (of_truth v) i)) (g j)
          ∙ last u j

  module _ (b : Env) (y : Item) (held : Holds b.locals item_name (y ∷ [])) where
    there : Gives q the_item b (y ∷ [])
    there = gives_variable q item_name b (y ∷ []) held

    abbrev with_content : List Item → Env
    with_content xs = bind content_name xs b

    still : (xs : List Item) → Holds (with_bound ((content_name, xs) ∷ []) b.locals) item_name (y ∷ [])
    unfolding look_up
    still xs = held

    content_held : (xs : List Item) →
        Holds (with_bound ((content_name, xs) ∷ []) b.locals) content_name xs
    unfolding look_up
    content_held xs = refl

    item_there : (xs : List Item) → Gives q the_item (with_content xs) (y ∷ [])
    item_there xs = gives_variable q item_name (with_content xs) (y ∷ []) (still xs)

    content_there : (xs : List Item) → Gives q the_content (with_content xs) xs
    content_there xs = gives_variable q content_name (with_content xs) xs (content_held xs)

    abbrev IsKindOf : Test → Bool → Type 0
    IsKindOf wanted t = matches_item (Kind wanted) y ≡ t

    kind_here : (wanted : Test) (t : Bool) → IsKindOf wanted t → (f : Env) → Gives q the_item f (y ∷ []) →
        Tells q (is_of_kind the_item wanted) f t
    kind_here wanted t h f g k = tells_kind q the_item wanted f y g k ∙ ap (λ z. Ends z k) h

    used : (e : Expr) (s t : Bool) → IsKindOf (Elem Any) s → IsKindOf Doc t →
        Tells q (roll-Expr (Or (is_element ∷ is_document ∷ []))) b (s || t)
    used e s t h g =
        tells_either is_element is_document b s t (kind_here (Elem Any) s h b there)
        (kind_here Doc t g b there)

    abbrev ElementCopy : Expr
    ElementCopy = roll-Expr (ElemC own_name (last_of the_content))

    choice_is : (s t : Bool) → IsKindOf (Elem Any) s → IsKindOf Doc t → (xs : List Item) (k : ℕ) →
        outcome q copy_with_content (with_content xs) k
        ≡ chosen (outcome q ElementCopy) (choice_of ((outcome q is_document, outcome q (document_expr the_content)) ∷ [])
        (outcome q (copied the_item))) (with_content xs) s k
    choice_is s t h g xs k =
        many_mean q (arm_of (is_element, ElementCopy) ∷ arm_of (is_document, document_expr the_content) ∷ [])
        (copied the_item) (with_content xs) k
        ∙ ap (λ arms. choice_of arms (outcome q (copied the_item)) (with_content xs) k)
        (λ i. arm_means q is_element ElementCopy i ∷ arm_means q is_document (document_expr the_content) i ∷ [])
        ∙ ap (λ o. and_then o (chosen (outcome q ElementCopy)
        (choice_of ((outcome q is_document, outcome q (document_expr the_content)) ∷ [])
        (outcome q (copied the_item))) (with_content xs)))
        (kind_here (Elem Any) s h (with_content xs) (item_there xs) k)

    document_is : (t : Bool) → IsKindOf Doc t → (xs : List Item) (k : ℕ) →
        choice_of ((outcome q is_document, outcome q (document_expr the_content)) ∷ [])
        (outcome q (copied the_item)) (with_content xs) k
        ≡ chosen (outcome q (document_expr the_content)) (outcome q (copied the_item)) (with_content xs) t k
    document_is t g xs k =
        ap (λ o. and_then o (chosen (outcome q (document_expr the_content)) (outcome q (copied the_item))
        (with_content xs))) (kind_here Doc t g (with_content xs) (item_there xs) k)

    copy_is : (e : Expr) (k : ℕ) → outcome q (copy_of_item true e) b k
        ≡ and_then (outcome q (content_if_used e) b k) (λ xs. outcome q copy_with_content (with_content xs))
    unfolding copy_of_item
    copy_is e k = let_of q content_name (content_if_used e) copy_with_content b k

    -- an element
    element_copy : (e : Expr) → IsKindOf (Elem Any) true → IsKindOf Doc false → (k : ℕ) →
        outcome q (copy_of_item true e) b k
        ≡ and_then (outcome q e b k) (λ xs. outcome q ElementCopy (with_content xs))
    element_copy e h g k =
        copy_is e k
        ∙ ap (λ o. and_then o (λ xs. outcome q copy_with_content (with_content xs)))
        (if_then q (roll-Expr (Or (is_element ∷ is_document ∷ []))) e nothing b (used e true false h g) k)
        ∙ then_same (outcome q e b k) _ _ (λ xs j. choice_is true false h g xs j)

    -- a document
    document_copy : (e : Expr) → IsKindOf (Elem Any) false → IsKindOf Doc true → (k : ℕ) →
        outcome q (copy_of_item true e) b k
        ≡ and_then (outcome q e b k) (λ xs. outcome q (document_expr the_content) (with_content xs))
    document_copy e h g k =
        copy_is e k
        ∙ ap (λ o. and_then o (λ xs. outcome q copy_with_content (with_content xs)))
        (if_then q (roll-Expr (Or (is_element ∷ is_document ∷ []))) e nothing b (used e false true h g) k)
        ∙ then_same (outcome q e b k) _ _
        (λ xs j. choice_is false true h g xs j ∙ document_is true g xs j)

    -- any other item
    other_copy : (e : Expr) → IsKindOf (Elem Any) false → IsKindOf Doc false → (k : ℕ) →
        outcome q (copy_of_item true e) b k ≡ q.calls copy_function.name ((y ∷ []) ∷ []) k
    other_copy e h g k =
        copy_is e k
        ∙ ap (λ o. and_then o (λ xs. outcome q copy_with_content (with_content xs)))
        (if_else q (roll-Expr (Or (is_element ∷ is_document ∷ []))) e nothing b (used e false false h g) k
        ∙ gives_nothing q b k)
        ∙ choice_is false false h g [] k ∙ document_is false g [] k
        ∙ call_given q copy_function.name refl (the_item ∷ []) (with_content []) ((y ∷ []) ∷ [])
        (item_there [], tt) k

    -- the element that is made
    named_here : (name : Name) → function_value function.NodeName ((y ∷ []) ∷ []) ≡ Ok (Atom (atom.QName name) ∷ []) → (xs : List Item) (k : ℕ) →
        outcome q ElementCopy (with_content xs) k
        ≡ and_then (q.calls last_function.name (xs ∷ []) k) (λ ys. made (element_of Refuse name ys))
    named_here name h xs k =
        mean q (ElemC own_name (last_of the_content)) (with_content xs) k
        ∙ ap (λ m. element_meaning q m (outcome q (last_of the_content)) (with_content xs) k)
        (rolled_name q (Computed (roll-Expr (Call (library_name (codes "node-name")) (the_item ∷ [])))))
        ∙ rw (
          gives_call q (library_name (codes "node-name")) function.NodeName the_item (with_content xs)
              (y ∷ []) (Atom (atom.QName name) ∷ []) node_name_called (item_there xs) h k,
          call_of_one q last_function.name refl the_content (with_content xs) k,
          content_there xs k,
        ) refl

    document_there : (xs : List Item) (k : ℕ) →
        outcome q (document_expr the_content) (with_content xs) k ≡ made (document_of Refuse xs) k
    document_there xs k =
        mean q (DocC the_content) (with_content xs) k ∙ rw (content_there xs k) refl

module _ (like : Code → Code → Type 0) (lax : (a b : Code) → like a b) (rel : Relation)
    (carries : IsCarrying like rel) (t : Table) (q : Program) (helpers : HelpersCarry rel q) where
  abbrev here : Spot → Meaning → Expr → Type 0
  here x m e = Meets like lax rel carries t x m (outcome q e)

  module _ (x : Spot) (m : Meaning) (e : Expr) (meets : here x m e) (a b : Env) (at : IsAt t x a b)
      (y : Item) (sound : IsSound y) (held : Holds b.locals item_name (y ∷ [])) (k : ℕ) where
    leaf_done : matches_item (Kind (Elem Any)) y ≡ false → matches_item (Kind Doc) y ≡ false →
        rel (List Item) (Every IsSound) (copied_item y k) (outcome q (copy_of_item true e) b k)
    leaf_done h g = rw (other_copy q b y held e h g k) (helpers.copy y sound k)

    element_copied : (name : Name) → matches_item (Kind (Elem Any)) y ≡ true →
        matches_item (Kind Doc) y ≡ false →
        function_value function.NodeName ((y ∷ []) ∷ []) ≡ Ok (Atom (atom.QName name) ∷ []) →
        is_sound_name name ≡ true → rel (List Item) (Every IsSound) (element_with name m a k)
        (outcome q (copy_of_item true e) b k)
    element_copied name h g value good =
        rw (element_copy q b y held e h g k)
        (carries.next _ _ (Every IsSound) (Every IsSound) (m a k) (outcome q e b k) _ _ (meets a b at k)
        (λ xs j all. rw (named_here q b y held name value xs j)
        (last_meets like lax rel carries t q helpers name (λ s. good) xs all j)))

    document_copied : matches_item (Kind (Elem Any)) y ≡ false → matches_item (Kind Doc) y ≡ true →
        rel (List Item) (Every IsSound) (document_with m a k) (outcome q (copy_of_item true e) b k)
    document_copied h g =
        rw (document_copy q b y held e h g k)
        (carries.next _ _ (Every IsSound) (Every IsSound) (m a k) (outcome q e b k) _ _ (meets a b at k)
        (λ xs j all. rw (document_there q b y held xs j) (document_given like lax rel carries t xs all j)))

  node_copied : (x : Spot) (m : Meaning) (e : Expr) → here x m e → (a b : Env) → IsAt t x a b →
      (n : Place) → IsSound (Node n) → Holds b.locals item_name (Node n ∷ []) → (k : ℕ) → (u : Tree) →
      subtree_of n ≡ Some u → rel (List Item) (Every IsSound) (copied_with (Some u) m a k)
      (outcome q (copy_of_item true e) b k)
  unfolding passes_test passes_element passes_name passes_document
  node_copied x m e h a b at n sound held k (tree.Doc kids) is =
      document_copied x m e h a b at (Node n) sound held k (told (Elem Any) n (tree.Doc kids) is)
      (told Doc n (tree.Doc kids) is)
  node_copied x m e h a b at n sound held k (tree.Elem name attributes kids) is =
      element_copied x m e h a b at (Node n) sound held k name
      (told (Elem Any) n (tree.Elem name attributes kids) is)
      (told Doc n (tree.Elem name attributes kids) is)
      (name_of_node n (tree.Elem name attributes kids) name is refl)
      ((sheets like lax rel carries t).named n sound name attributes kids is tt)
  node_copied x m e h a b at n sound held k (tree.Text v) is =
      subst (λ o. rel (List Item) (Every IsSound) (copied_tree o k) (outcome q (copy_of_item true e) b k)) is
      (leaf_done x m e h a b at (Node n) sound held k (told (Elem Any) n (tree.Text v) is)
      (told Doc n (tree.Text v) is))
  node_copied x m e h a b at n sound held k (tree.Comment v) is =
      subst (λ o. rel (List Item) (Every IsSound) (copied_tree o k) (outcome q (copy_of_item true e) b k)) is
      (leaf_done x m e h a b at (Node n) sound held k (told (Elem Any) n (tree.Comment v) is)
      (told Doc n (tree.Comment v) is))
  node_copied x m e h a b at n sound held k (tree.Pi target v) is =
      subst (λ o. rel (List Item) (Every IsSound) (copied_tree o k) (outcome q (copy_of_item true e) b k)) is
      (leaf_done x m e h a b at (Node n) sound held k (told (Elem Any) n (tree.Pi target v) is)
      (told Doc n (tree.Pi target v) is))
  node_copied x m e h a b at n sound held k (tree.Attr name v) is =
      subst (λ o. rel (List Item) (Every IsSound) (copied_tree o k) (outcome q (copy_of_item true e) b k)) is
      (leaf_done x m e h a b at (Node n) sound held k (told (Elem Any) n (tree.Attr name v) is)
      (told Doc n (tree.Attr name v) is))

  item_copied : (x : Spot) (m : Meaning) (e : Expr) → here x m e → (a b : Env) → IsAt t x a b →
      (y : Item) → IsSound y → Holds b.locals item_name (y ∷ []) → (k : ℕ) →
      rel (List Item) (Every IsSound) (copied_item_with y m a k) (outcome q (copy_of_item true e) b k)
  item_copied x m e h a b at (Atom v) sound held k =
      leaf_done x m e h a b at (Atom v) sound held k (no_kind (Elem Any) v) (no_kind Doc v)
  item_copied x m e h a b at (Node n) sound held k =
      let placed = sound_placed (Node n) sound in
      subst (λ o. rel (List Item) (Every IsSound) (copied_with o m a k) (outcome q (copy_of_item true e) b k))
      (sym placed.1) (node_copied x m e h a b at n sound held k placed.0 placed.1)

  -- .. and where there is no focus it fails
  copied_at : (x : Spot) (m : Meaning) (e : Expr) → here x m e → (a b : Env) → IsAt t x a b →
      (d : Bool) → FocusIsSeen IsSound (sight_of d) a b → (k : ℕ) →
      rel (List Item) (Every IsSound) (copied_focus a.focus m a k) (outcome q (copy_of_item d e) b k)
  unfolding copy_of_item function_value function_of
  copied_at x m e h a b at false seen k =
      subst (λ o. rel (List Item) (Every IsSound) (copied_focus o m a k)
      (outcome q (copy_of_item false e) b k)) (sym seen.0)
      (rw (mean q (Call (library_name (codes "error")) []) b k, error_called)
      (carries.errors _ _ _ _ (lax _ _)))
  copied_at x m e h a b at true seen k =
      subst (λ o. rel (List Item) (Every IsSound) (copied_focus o m a k)
      (outcome q (copy_of_item true e) b k)) (sym seen.1)
      (item_copied x m e h a b at seen.0.value seen.2 seen.3 k)

  pub copy_done : (x : Spot) (m : Meaning) (e : Expr) → here x m e →
      here x (copy_made m) (copy_of_item x.place.has_focus e)
  copy_done x m e h a b at k = copied_at x m e h a b at x.place.has_focus at.seen.focus k
