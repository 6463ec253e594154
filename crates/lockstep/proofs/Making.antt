-- Instructions that make nodes do so in the query.
use Rattle.std.proofs.Common.{◌≡◌, ℕ, List, [], ◌∷◌, refl, sym, subst}
use Rattle.std.specs.Prelude.{Some}
use Rattle.xt_names.specs.declared.codes.Code.{Code}
use Rattle.xt_names.specs.declared.names.Name.{Name}
use Rattle.xt_tree.specs.declared.trees.Tree.TheVariants as tree
use Rattle.xdm_items.specs.declared.items.Item.{Item}
use Rattle.xdm_items.specs.FunctionArguments.Answers.{of_text}
use Rattle.node_builder.specs.Made.{Gives}
use Rattle.node_builder.specs.Trees.{comment_of, pi_of}
use Rattle.expr_meaning.specs.Outcomes.Outcome.{Outcome, Every}
use Rattle.expr_meaning.specs.Outcomes.Follow.{Relation, IsCarrying}
use Rattle.expr_meaning.specs.Env.{Env, Meaning, Program, bind_all, with_bound, look_up}
use Rattle.expr_meaning.proofs.OutcomesLemmas.Relations.{each_carried}
use Rattle.expr_meaning.specs.Making.{made, text_node, spaced_text}
use Rattle.expr_meaning.specs.Meaning.{meanings, steps, outcome}
use Rattle.expr_meaning.specs.Names.{element_name_at, attribute_name_at, target_at}
use Rattle.xt_syntax.specs.declared.exprs.Expr.{Expr}
use Rattle.xt_syntax.specs.declared.exprs.NameSource.{NameSource}
use Rattle.xt_syntax.specs.declared.exprs.Clause.TheViews.{roll-Expr}
use Rattle.xt_syntax.specs.declared.exprs.Clause.TheOpen.{ElemC, AttrC, DocC, TextC, CommentC, PiC}
use Rattle.xt_syntax.specs.Layers.{name_gives}
use Rattle.expr_laws.specs.Carrier.{IsName, IsAttributeName, IsTarget}
use Rattle.meaning_laws.specs.SoundValues.Sound.{IsSound}
use Rattle.query_helpers.specs.CopyBody.{copy_function}
use Rattle.query_helpers.proofs.Gives.{mean, for_of, gives_variable}
use Rattle.transform_meaning.specs.Making.{new_text}
use Rattle.transform_meaning.specs.Making.{value_made, element_made, attribute_made}
use Rattle.transform_meaning.specs.Making.{comment_made, pi_made, document_with, copy_of, copied_item}
use Rattle.transform_meaning.specs.Names.{NameMeaning}
use Rattle.transform_meaning.specs.Texts.{TextMeaning}
use Rattle.transform_laws.proofs.Making.{made_meets}
use Rattle.translated_forms.specs.Making.{copied}
use Rattle.translated_forms.specs.Names.{node_name}
use Rattle.translated_forms.specs.Forms.{for_in}
use Rattle.translated_forms.specs.Places.{Table}
use Rattle.carried_exprs.specs.Sights.{variable_of}
use Rattle.lockstep.specs.Helpers.{HelpersCarry}
use Rattle.lockstep.specs.Spots.{Spot, IsAt}
use Rattle.lockstep.proofs.Calls.{call_given}
use Rattle.lockstep.proofs.Elements.{ContentMeets, document_given}
use Rattle.lockstep.proofs.Frame.{frame, Meets}
use Rattle.lockstep.proofs.Makes.{makes}
use Rattle.lockstep.proofs.Texts.{TextMeets, text_then, spaced_string}

held : (f : Env) (y : Item) →
    look_up (with_bound ((node_name, y ∷ []) ∷ []) f.locals) node_name ≡ Some (y ∷ [])
unfolding look_up
held f y = refl

module _ (like : Code → Code → Type 0) (lax : (a b : Code) → like a b) (rel : Relation)
    (carries : IsCarrying like rel) (t : Table) (q : Program) where
  abbrev pub here : Spot → Meaning → Expr → Type 0
  here x m e = Meets like lax rel carries t x m (outcome q e)

  abbrev pub text_here : Spot → TextMeaning → Expr → Type 0
  text_here x m e = TextMeets like lax rel carries t q x m e

  -- what is made of a text, and of the string that is it
  of_string : {B : Type 0} (P : B → Type 0) (m : List ℕ → ℕ → Outcome B) (v : List ℕ) (k : ℕ) →
      rel B P (m v k) (m v k) → rel B P (m v k) (m (spaced_text (of_text v)) k)
  of_string P m v k h = subst (λ w. rel _ P (m v k) (m w k)) (sym (spaced_string v)) h

  -- xsl:value-of and literal text
  pub value_done : (x : Spot) (m : TextMeaning) (e : Expr) → text_here x m e →
      here x (value_made m) (roll-Expr (TextC e))
  value_done x m e h a b at k =
      rw (mean q (TextC e) b k)
      (text_then like lax rel carries t q (List Item) (Every IsSound) (m a k) (outcome q e b k)
      new_text text_node (h a b at k) (λ v j known.
      of_string (Every IsSound) (λ w. made (Gives (tree.Text w))) v j
      (made_meets (frame like lax rel carries t) (Gives (tree.Text v)) j
      ((makes like lax rel carries t).text v (λ s. known) j))))

  -- xsl:comment
  pub comment_done : (x : Spot) (m : TextMeaning) (e : Expr) → text_here x m e →
      here x (comment_made m) (roll-Expr (CommentC e))
  comment_done x m e h a b at k =
      rw (mean q (CommentC e) b k)
      (text_then like lax rel carries t q (List Item) (Every IsSound) (m a k) (outcome q e b k) _ _
      (h a b at k) (λ v j known.
      of_string (Every IsSound) (λ w. made (comment_of w)) v j
      (made_meets (frame like lax rel carries t) (comment_of v) j
      ((makes like lax rel carries t).comment v (λ s. known) j))))

  -- names of elements and attributes, and targets
  abbrev pub ElementNamed : Spot → NameMeaning → NameSource → Type 0
  ElementNamed x m n =
      (a b : Env) → IsAt t x a b → (k : ℕ) →
      rel Name (IsName (frame like lax rel carries t)) (m a k)
      (element_name_at q (name_gives meanings (steps q) n) b k)

  abbrev pub AttributeNamed : Spot → NameMeaning → NameSource → Type 0
  AttributeNamed x m n =
      (a b : Env) → IsAt t x a b → (k : ℕ) →
      rel Name (IsAttributeName (frame like lax rel carries t)) (m a k)
      (attribute_name_at q (name_gives meanings (steps q) n) b k)

  abbrev pub TargetNamed : Spot → TextMeaning → NameSource → Type 0
  TargetNamed x m n =
      (a b : Env) → IsAt t x a b → (k : ℕ) →
      rel (List ℕ) IsTarget (m a k) (target_at (name_gives meanings (steps q) n) b k)

  -- xsl:element, and literal elements
  pub element_done : (x : Spot) (m : NameMeaning) (n : NameSource) → ElementNamed x m n →
      (c : Meaning) (e : Expr) → ContentMeets like lax rel carries t q x c e →
      here x (element_made m c) (roll-Expr (ElemC n e))
  element_done x m n h c e g a b at k =
      rw (mean q (ElemC n e) b k)
      (carries.next _ _ (IsName (frame like lax rel carries t)) (Every IsSound) (m a k)
      (element_name_at q (name_gives meanings (steps q) n) b k) _ _ (h a b at k)
      (λ name j known. g name known a b at j))

  -- xsl:attribute
  pub attribute_done : (x : Spot) (m : NameMeaning) (n : NameSource) → AttributeNamed x m n →
      (v : TextMeaning) (e : Expr) → text_here x v e →
      here x (attribute_made m v) (roll-Expr (AttrC n e))
  attribute_done x m n h v e g a b at k =
      rw (mean q (AttrC n e) b k)
      (carries.next _ _ (IsAttributeName (frame like lax rel carries t)) (Every IsSound) (m a k)
      (attribute_name_at q (name_gives meanings (steps q) n) b k) _ _ (h a b at k) (λ name j known.
      text_then like lax rel carries t q (List Item) (Every IsSound) (v a j) (outcome q e b j) _ _
      (g a b at j) (λ w i xml.
      of_string (Every IsSound) (λ u. made (Gives (tree.Attr name u))) w i
      (made_meets (frame like lax rel carries t) (Gives (tree.Attr name w)) i
      ((makes like lax rel carries t).attribute name w known (λ s. xml) i)))))

  -- xsl:processing-instruction
  pub pi_done : (x : Spot) (m : TextMeaning) (n : NameSource) → TargetNamed x m n →
      (v : TextMeaning) (e : Expr) → text_here x v e → here x (pi_made m v) (roll-Expr (PiC n e))
  pi_done x m n h v e g a b at k =
      rw (mean q (PiC n e) b k)
      (carries.next _ _ IsTarget (Every IsSound) (m a k)
      (target_at (name_gives meanings (steps q) n) b k) _ _ (h a b at k) (λ target j known.
      text_then like lax rel carries t q (List Item) (Every IsSound) (v a j) (outcome q e b j) _ _
      (g a b at j) (λ w i xml.
      of_string (Every IsSound) (λ u. made (pi_of target u)) w i
      (made_meets (frame like lax rel carries t) (pi_of target w) i
      ((makes like lax rel carries t).pi target w known (λ s. xml) i)))))

  -- xsl:document, and content as a value
  pub document_done : (x : Spot) (m : Meaning) (e : Expr) → here x m e →
      here x (document_with m) (roll-Expr (DocC e))
  document_done x m e h a b at k =
      rw (mean q (DocC e) b k)
      (carries.next _ _ (Every IsSound) (Every IsSound) (m a k) (outcome q e b k) _ _ (h a b at k)
      (λ xs j g. document_given like lax rel carries t xs g j))

  -- xsl:copy-of
  module _ (helpers : HelpersCarry rel q) where
    copy_meets : (f : Env) (y : Item) (k : ℕ) → IsSound y →
        rel (List Item) (Every IsSound) (copied_item y k)
        (outcome q (copied (variable_of node_name)) (bind_all ((node_name, y ∷ []) ∷ []) f) k)
    copy_meets f y k g =
        rw (call_given q copy_function.name refl (variable_of node_name ∷ [])
        (bind_all ((node_name, y ∷ []) ∷ []) f) ((y ∷ []) ∷ [])
        (gives_variable q node_name (bind_all ((node_name, y ∷ []) ∷ []) f) (y ∷ []) (held f y), tt) k)
        (helpers.copy y g k)

    pub copies_done : (x : Spot) (m : Meaning) (e : Expr) → here x m e →
        here x (copy_of m) (for_in node_name e (copied (variable_of node_name)))
    copies_done x m e h a b at k =
        rw (for_of q node_name e (copied (variable_of node_name)) b k)
        (carries.next _ _ (Every IsSound) (Every IsSound) (m a k) (outcome q e b k) _ _ (h a b at k)
        (λ xs j g. each_carried like rel carries IsSound IsSound copied_item _ (copy_meets b) xs g j))
