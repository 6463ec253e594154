-- Elements and documents of a stylesheet, and those of its query.
use Rattle.std.proofs.Common.{◌≡◌, ◌^◌, ℕ, List, [], ◌∷◌, ◌++◌, length, refl, sym, ap, ◌∙◌, subst}
use Rattle.std.specs.Prelude.{Bool, true, false, flat_map, if◌then◌else◌, nat_eq, nat_lt, Ok, Err}
use Rattle.std.specs.Prelude.{Option, Some, None}
use Rattle.std.specs.List.{list_any}
use Rattle.xt_names.specs.declared.codes.Code.{Code}
use Rattle.xt_names.specs.declared.codes.Code.TheVariants.{Dynamic}
use Rattle.xt_names.specs.declared.codes.DynamicCode.TheVariants.{FOAR0002, XTLM0001}
use Rattle.xt_names.specs.declared.names.Name.{Name}
use Rattle.xt_tree.specs.Place.{subtree_of}
use Rattle.xt_tree.specs.Sound.{names_differ}
use Rattle.xt_tree.specs.declared.attributes.Attribute.{Attribute}
use Rattle.xt_tree.specs.declared.trees.Tree.{Tree}
use Rattle.xt_tree.specs.declared.trees.Tree.TheVariants as tree
use Rattle.xdm_items.specs.declared.items.Item.{Item}
use Rattle.xdm_items.specs.declared.items.Item.TheVariants.{Node, Atom}
use Rattle.node_builder.specs.Complex.{complex_content, content_nodes, is_attribute, misplaced, taken}
use Rattle.node_builder.specs.Complex.{distinct}
use Rattle.node_builder.specs.declared.contents.Content.{Content}
use Rattle.node_builder.specs.Made.{Made, Gives, Fails as Refuses, made_then}
use Rattle.node_builder.specs.Trees.{numbered, element_of, document_of}
use Rattle.node_builder.specs.declared.kinds.Duplicates.TheVariants.{KeepLast, Refuse}
use Rattle.node_builder.specs.declared.kinds.Holder.TheVariants.{Element, Document}
use Rattle.expr_meaning.specs.Outcomes.Outcome.{Outcome, and_then, step_outcome, OnEnds, Every}
use Rattle.expr_meaning.specs.Outcomes.Follow.{Relation, IsCarrying}
use Rattle.expr_meaning.proofs.OutcomesLemmas.Steps.{then_assoc, then_known}
use Rattle.expr_meaning.specs.Env.{Env, Meaning, Program}
use Rattle.expr_meaning.specs.Making.{made, made_outcome}
use Rattle.expr_meaning.specs.Meaning.{outcome}
use Rattle.xt_syntax.specs.declared.exprs.Expr.{Expr}
use Rattle.expr_laws.specs.Carrier.{IsName}
use Rattle.meaning_laws.specs.SoundValues.Sound.{IsSound}
use Rattle.query_helpers.specs.Last.{attributes_in, attribute_of, attribute_below, put_attribute, SameMade}
use Rattle.query_helpers.specs.Last.{IsPlaced, last_of as kept_of}
use Rattle.query_helpers.specs.LastBody.{last_function}
use Rattle.query_helpers.proofs.CopyGives.{sound_placed}
use Rattle.query_helpers.proofs.LastContent.{last_content}
use Rattle.transform_meaning.specs.Making.{attribute_in, attribute_in_tree, element_items, new_element}
use Rattle.transform_meaning.specs.Making.{new_document}
use Rattle.transform_laws.proofs.Making.{made_meets}
use Rattle.translated_forms.specs.Making.{last_of}
use Rattle.translated_forms.specs.Places.{Table}
use Rattle.lockstep.specs.Helpers.{HelpersCarry, kept_items}
use Rattle.lockstep.specs.Spots.{Spot, IsAt}
use Rattle.lockstep.proofs.Calls.{call_of_one}
use Rattle.lockstep.proofs.Frame.{frame, Meets}
use Rattle.lockstep.proofs.Makes.{makes, sheets}

-- the attributes among items
put_below : (o : Option Tree) (us : List Attribute) →
    attribute_in_tree o ++ us ≡ put_attribute (attribute_below o) us
put_below None us = refl
put_below (Some (tree.Doc kids)) us = refl
put_below (Some (tree.Elem name attributes kids)) us = refl
put_below (Some (tree.Text t)) us = refl
put_below (Some (tree.Comment t)) us = refl
put_below (Some (tree.Pi target t)) us = refl
put_below (Some (tree.Attr name t)) us = refl

put_first : (x : Item) (us : List Attribute) → attribute_in x ++ us ≡ put_attribute (attribute_of x) us
put_first (Node n) us = put_below (subtree_of n) us
put_first (Atom a) us = refl

pub attributes_same : (xs : List Item) → flat_map attribute_in xs ≡ attributes_in xs
attributes_same [] = refl
attributes_same (x ∷ xs) =
    put_first x (flat_map attribute_in xs) ∙ ap (put_attribute (attribute_of x)) (attributes_same xs)

pub all_placed : (xs : List Item) → Every IsSound xs → Every IsPlaced xs
all_placed [] h = tt
all_placed (x ∷ xs) h = (sound_placed x h.0, all_placed xs h.1)

abbrev pub NamesDiffer : List Item → Type 0
NamesDiffer xs = names_differ (flat_map attribute_in xs) ≡ true

-- the content of documents
document_content : (xs : List Item) →
    SameMade (complex_content KeepLast Document xs) (complex_content Refuse Document xs)
unfolding complex_content taken
document_content xs = by (list_any is_attribute (content_nodes xs))
  where
    by : (b : Bool) → SameMade {A = Content}
        (if b then Refuses (misplaced KeepLast Document)
        else made_then (distinct KeepLast []) (λ kept. Gives (record { attributes = kept; kids = content_nodes xs })))
        (if b then Refuses (misplaced Refuse Document)
        else made_then (distinct Refuse []) (λ kept. Gives (record { attributes = kept; kids = content_nodes xs })))
    by true = tt
    by false = refl

-- an element of what is kept
step_split : (name : Name) (xs : List Item) (k : ℕ) → new_element name xs k
    ≡ and_then (step_outcome (kept_items xs) k) (λ ys. made (element_of KeepLast name xs))
unfolding element_items
step_split name xs k = by (names_differ (flat_map attribute_in xs)) (nat_lt (length xs) (2 ^ 63))
  where
    by : (b d : Bool) →
        and_then (step_outcome (if b then Ok xs else (if d then Ok xs else Err (Dynamic FOAR0002))) k)
        (λ ys. made (element_of KeepLast name ys))
        ≡ and_then (step_outcome (if b then Ok (kept_of xs)
        else (if d then Ok (kept_of xs) else Err (Dynamic FOAR0002))) k)
        (λ ys. made (element_of KeepLast name xs))
    by true d = refl
    by false true = refl
    by false false = refl

kept_known : (xs : List Item) (k : ℕ) → OnEnds (λ ys. ys ≡ kept_of xs) (step_outcome (kept_items xs) k)
kept_known xs k = by (names_differ (flat_map attribute_in xs)) (nat_lt (length xs) (2 ^ 63))
  where
    by : (b d : Bool) → OnEnds (λ ys. ys ≡ kept_of xs) (step_outcome (if b then Ok (kept_of xs)
        else (if d then Ok (kept_of xs) else Err (Dynamic FOAR0002))) k)
    by true d = refl
    by false true = refl
    by false false = tt

-- where the names differ nothing is counted
whole_element : (name : Name) (xs : List Item) → NamesDiffer xs → (k : ℕ) →
    new_element name xs k ≡ made (element_of KeepLast name xs) k
unfolding element_items
whole_element name xs h k = rw (h) refl

-- .. and all is kept
all_kept : (xs : List Item) → NamesDiffer xs → kept_of xs ≡ xs
all_kept xs h = rw (sym (attributes_same xs), h) refl

module _ (like : Code → Code → Type 0) (lax : (a b : Code) → like a b) (rel : Relation)
    (carries : IsCarrying like rel) (t : Table) where
  -- what is made of the same content, or of none
  numbered_meets : (a : Made Tree) (code : Code) (k : ℕ) →
      rel (List Item) (Every IsSound) (made (Refuses code) k) (made (Refuses code) k)
  unfolding numbered
  numbered_meets a code k = by (nat_eq k 0xFFFF_FFFF_FFFF_FFFF)
    where
      by : (b : Bool) → rel (List Item) (Every IsSound)
          (made_outcome k (if b then Refuses (Dynamic XTLM0001) else Refuses code))
          (made_outcome k (if b then Refuses (Dynamic XTLM0001) else Refuses code))
      by true = carries.fails _ _ _
      by false = carries.fails _ _ _

  refused_meets : (c d : Code) (k : ℕ) →
      rel (List Item) (Every IsSound) (made (Refuses c) k) (made (Refuses d) k)
  unfolding numbered
  refused_meets c d k = by (nat_eq k 0xFFFF_FFFF_FFFF_FFFF)
    where
      by : (b : Bool) → rel (List Item) (Every IsSound)
          (made_outcome k (if b then Refuses (Dynamic XTLM0001) else Refuses c))
          (made_outcome k (if b then Refuses (Dynamic XTLM0001) else Refuses d))
      by true = carries.fails _ _ _
      by false = carries.errors _ _ _ _ (lax c d)

  pub same_content : {A : Type 0} (f : A → Made Tree) (a b : Made A) → SameMade a b → (k : ℕ) →
      OnEnds (Every IsSound) (made (made_then a f) k) →
      rel (List Item) (Every IsSound) (made (made_then a f) k) (made (made_then b f) k)
  same_content f (Gives v) (Gives w) h k known =
      subst (λ z. rel (List Item) (Every IsSound) (made (f v) k) (made (f z) k)) h
      (made_meets (frame like lax rel carries t) (f v) k known)
  same_content f (Gives v) (Refuses d) h k known = absurd h
  same_content f (Refuses c) (Gives w) h k known = absurd h
  same_content f (Refuses c) (Refuses d) h k known = refused_meets c d k

  pub document_given : (xs : List Item) → Every IsSound xs → (k : ℕ) →
      rel (List Item) (Every IsSound) (new_document xs k) (made (document_of Refuse xs) k)
  unfolding document_of
  document_given xs g k =
      same_content _ (complex_content KeepLast Document xs) (complex_content Refuse Document xs)
      (document_content xs) k ((sheets like lax rel carries t).document xs g k)

  abbrev pub IsGoodName : Name → Type 0
  IsGoodName n = IsName (frame like lax rel carries t) n

  kept_element : (name : Name) → IsGoodName name → (xs : List Item) → Every IsSound xs → (k : ℕ) →
      rel (List Item) (Every IsSound) (made (element_of KeepLast name xs) k)
      (made (element_of Refuse name (kept_of xs)) k)
  unfolding element_of
  kept_element name n xs g k =
      same_content _ (complex_content KeepLast Element xs) (complex_content Refuse Element (kept_of xs))
      (last_content xs (all_placed xs g)) k ((sheets like lax rel carries t).element name xs n g k)

  module _ (q : Program) where
    -- what an element of the stylesheet makes of the content of one, and of that of the other
    abbrev pub ContentMeets : Spot → Meaning → Expr → Type 0
    ContentMeets x m e =
        (name : Name) → IsGoodName name → (a b : Env) → IsAt t x a b → (k : ℕ) →
        rel (List Item) (Every IsSound) (and_then (m a k) (new_element name))
        (and_then (outcome q e b k) (λ xs. made (element_of Refuse name xs)))

    -- where the stylesheet's names differ
    differ_or : Name → Bool → List Item → ℕ → Outcome (List Item)
    differ_or name true xs = made (element_of KeepLast name xs)
    differ_or name false xs = made (element_of Refuse name xs)

    abbrev plain_element : Name → List Item → ℕ → Outcome (List Item)
    plain_element name xs = differ_or name (names_differ (flat_map attribute_in xs)) xs

    plain_meets : (name : Name) → IsGoodName name → (xs : List Item) → Every IsSound xs → (k : ℕ) →
        rel (List Item) (Every IsSound) (plain_element name xs k) (made (element_of Refuse name xs) k)
    unfolding differ_or
    plain_meets name n xs g k = by (names_differ (flat_map attribute_in xs)) refl
      where
        by : (b : Bool) → names_differ (flat_map attribute_in xs) ≡ b →
            rel (List Item) (Every IsSound) (differ_or name b xs k) (made (element_of Refuse name xs) k)
        by true e =
            subst (λ ys. rel (List Item) (Every IsSound) (made (element_of KeepLast name xs) k)
            (made (element_of Refuse name ys) k)) (all_kept xs e) (kept_element name n xs g k)
        by false e =
            made_meets (frame like lax rel carries t) (element_of Refuse name xs) k
            ((makes like lax rel carries t).element name xs n g k)

    plain_same : (name : Name) (xs : List Item) (k : ℕ) → NamesDiffer xs →
        new_element name xs k ≡ plain_element name xs k
    unfolding differ_or
    plain_same name xs k h = whole_element name xs h k ∙ sym (ap (λ b. differ_or name b xs k) h)

    pub content_plain : (x : Spot) (m : Meaning) (e : Expr) →
        Meets like lax rel carries t x m (outcome q e) →
        ((a : Env) (k : ℕ) → OnEnds NamesDiffer (m a k)) → ContentMeets x m e
    content_plain x m e h differ name n a b at k =
        subst (λ o. rel (List Item) (Every IsSound) o
        (and_then (outcome q e b k) (λ xs. made (element_of Refuse name xs))))
        (sym (then_known NamesDiffer (m a k) (new_element name) (plain_element name) (differ a k)
        (λ xs j d. plain_same name xs j d)))
        (carries.next _ _ (Every IsSound) (Every IsSound) (m a k) (outcome q e b k) _ _ (h a b at k)
        (λ xs j g. plain_meets name n xs g j))

    module _ (helpers : HelpersCarry rel q) where
      pub last_meets : (name : Name) → IsGoodName name → (xs : List Item) → Every IsSound xs → (k : ℕ) →
          rel (List Item) (Every IsSound) (new_element name xs k)
          (and_then (q.calls last_function.name (xs ∷ []) k) (λ ys. made (element_of Refuse name ys)))
      last_meets name n xs g k =
          rw (step_split name xs k)
          (carries.next _ _ (λ ys. ys ≡ kept_of xs) (Every IsSound) (step_outcome (kept_items xs) k)
          (q.calls last_function.name (xs ∷ []) k) _ _
          (carries.also _ (Every IsSound) (λ ys. ys ≡ kept_of xs) _ _ (helpers.last xs g k)
          (kept_known xs k))
          (λ ys j is. subst (λ zs. rel (List Item) (Every IsSound) (made (element_of KeepLast name xs) j)
          (made (element_of Refuse name zs) j)) (sym is) (kept_element name n xs g j)))

      pub content_last : (x : Spot) (m : Meaning) (e : Expr) →
          Meets like lax rel carries t x m (outcome q e) → ContentMeets x m (last_of e)
      content_last x m e h name n a b at k =
          rw (
            call_of_one q last_function.name refl e b k,
            then_assoc (outcome q e b k) (λ xs. q.calls last_function.name (xs ∷ []))
                (λ xs. made (element_of Refuse name xs)),
          )
          (carries.next _ _ (Every IsSound) (Every IsSound) (m a k) (outcome q e b k) _ _ (h a b at k)
          (λ xs j g. last_meets name n xs g j))
