-- The content of elements: nothing is left out of it where it makes nodes alone.
use Rattle.std.proofs.Common.{◌≡◌, List, [], ◌∷◌, refl, ap}
use Rattle.std.specs.Prelude.{Bool, true, false, flat_map}
use Rattle.xt_names.specs.declared.codes.Code.{Code}
use Rattle.xt_tree.specs.Sound.{names_differ}
use Rattle.xdm_items.specs.declared.items.Item.{Item}
use Rattle.xdm_items.specs.declared.items.Item.TheVariants.{Node, Atom}
use Rattle.expr_meaning.specs.Outcomes.Outcome.{Outcome, Ends, Fails, Deep, OnEnds, Every}
use Rattle.expr_meaning.specs.Outcomes.Follow.{Relation, IsCarrying}
use Rattle.expr_meaning.specs.Env.{Program}
use Rattle.expr_meaning.specs.Meaning.{outcome}
use Rattle.transform_meaning.specs.Bindings.{Doing, body_of}
use Rattle.transform_meaning.specs.Making.{attribute_in}
use Rattle.transform_laws.proofs.Lists.{Pairs}
use Rattle.translated_forms.specs.Bodies.{Part, body_expr, sequence_of, body_of as body_of_parts}
use Rattle.translated_forms.specs.Making.{element_content, kept_last}
use Rattle.translated_forms.specs.Places.{Table}
use Rattle.lockstep.specs.Helpers.{HelpersCarry}
use Rattle.lockstep.specs.Spots.{Spot}
use Rattle.lockstep.proofs.Elements.{ContentMeets, NamesDiffer, content_last, content_plain}
use Rattle.lockstep.proofs.Frame.{Meets}
use Rattle.lockstep.proofs.Parts.{IsContentNode, PartMeets, body_done, nodes_done}

pub no_attributes : (xs : List Item) → Every IsContentNode xs → flat_map attribute_in xs ≡ []
no_attributes [] h = refl
no_attributes (Node n ∷ xs) h = rw (h.0, no_attributes xs h.1) refl
no_attributes (Atom a ∷ xs) h = absurd h.0

nodes_differ : (xs : List Item) → Every IsContentNode xs → NamesDiffer xs
nodes_differ xs h = ap names_differ (no_attributes xs h)

pub on_ends : (P R : List Item → Type 0) → ((xs : List Item) → P xs → R xs) → (o : Outcome (List Item)) →
    OnEnds P o → OnEnds R o
on_ends P R f (Ends xs k) h = f xs h
on_ends P R f (Fails code) h = tt
on_ends P R f Deep h = tt

module _ (like : Code → Code → Type 0) (lax : (a b : Code) → like a b) (rel : Relation)
    (carries : IsCarrying like rel) (t : Table) (q : Program) (helpers : HelpersCarry rel q) where
  pub element_content_done : (x : Spot) (ds : List Doing) (ps : List Part) →
      Pairs (PartMeets like lax rel carries t q x) ds ps →
      ContentMeets like lax rel carries t q x (body_of ds) (element_content (body_of_parts ps))
  unfolding sequence_of
  element_content_done x ds ps h = by (body_of_parts ps).are_nodes refl
    where
      meets : Meets like lax rel carries t x (body_of ds) (outcome q (body_expr (body_of_parts ps)))
      meets = body_done like lax rel carries t q x ds ps h

      by : (b : Bool) → (body_of_parts ps).are_nodes ≡ b →
          ContentMeets like lax rel carries t q x (body_of ds)
          (kept_last b (body_expr (body_of_parts ps)))
      by true e =
          content_plain like lax rel carries t q x (body_of ds) (body_expr (body_of_parts ps)) meets
          (λ a k. on_ends (Every IsContentNode) NamesDiffer nodes_differ (body_of ds a k)
          (nodes_done like lax rel carries t q x ds ps h e a k))
      by false e =
          content_last like lax rel carries t q helpers x (body_of ds) (body_expr (body_of_parts ps)) meets
