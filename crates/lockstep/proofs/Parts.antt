-- Instructions and the parts of the query that they become.
use Rattle.std.proofs.Common.{◌≡◌, ℕ, List, [], ◌∷◌, refl, ap, ◌∙◌, subst, map}
use Rattle.std.proofs.lemmas.Bool.{and_parts}
use Rattle.std.specs.Prelude.{true}
use Rattle.xt_names.specs.declared.codes.Code.{Code}
use Rattle.xdm_items.specs.declared.items.Item.{Item}
use Rattle.xdm_items.specs.declared.items.Item.TheVariants.{Node, Atom}
use Rattle.xt_syntax.specs.declared.exprs.Expr.{Expr}
use Rattle.expr_meaning.specs.Outcomes.Outcome.{OnEnds, Every}
use Rattle.expr_meaning.specs.Outcomes.Follow.{Relation, IsCarrying}
use Rattle.expr_meaning.proofs.OutcomesLemmas.Relations.{every_append}
use Rattle.expr_meaning.proofs.OutcomesLemmas.Steps.{then_on, then_same}
use Rattle.expr_meaning.specs.Env.{Env, Meaning, Program, bind}
use Rattle.expr_meaning.specs.Meaning.{outcome}
use Rattle.expr_meaning.specs.Values.{comma_of}
use Rattle.meaning_laws.specs.SoundValues.Sound.{IsSound}
use Rattle.carry_laws.proofs.Places.{IsOwn}
use Rattle.transform_meaning.specs.Bindings.{Doing, Binds, Makes, body_of}
use Rattle.transform_meaning.specs.Making.{attribute_in}
use Rattle.transform_laws.proofs.Lists.{Pairs}
use Rattle.translated_forms.specs.Bodies.{Part, binds, makes, items_of, items_or_flow}
use Rattle.translated_forms.specs.Bodies.{body_of as body_of_parts, sequence_of, part_before}
use Rattle.translated_forms.specs.Forms.{comma, flow}
use Rattle.translated_forms.specs.Places.{Table}
use Rattle.lockstep.specs.Spots.{Spot}
use Rattle.lockstep.proofs.Frame.{Meets, at_behind}
use Rattle.lockstep.proofs.Lets.{comma_is, Lets, let_of, lets_then, flow_lets}
use Rattle.query_helpers.proofs.Flows.{one_each}

-- nodes that are no attributes
abbrev pub IsContentNode : Item → Type 0
IsContentNode (Node n) = attribute_in (Node n) ≡ []
IsContentNode (Atom a) = ⊥

abbrev pub MakesNodes : Meaning → Type 0
MakesNodes m = (e : Env) (k : ℕ) → OnEnds (Every IsContentNode) (m e k)

module _ (like : Code → Code → Type 0) (lax : (a b : Code) → like a b) (rel : Relation)
    (carries : IsCarrying like rel) (t : Table) (q : Program) where
  -- an instruction that binds a variable does so in the query, and one that makes items makes them
  abbrev pub PartMeets : Spot → Doing → Part → Type 0
  PartMeets x (Binds name m) (binds v e) =
      (name ≡ v) × IsOwn v × Meets like lax rel carries t x m (outcome q e)
  PartMeets x (Binds name m) (makes nodes e) = ⊥
  PartMeets x (Makes m) (binds v e) = ⊥
  PartMeets x (Makes m) (makes nodes e) =
      Meets like lax rel carries t x m (outcome q e) × (nodes ≡ true → MakesNodes m)

  -- the variables that are bound first
  abbrev bindings : List Part → Lets q
  bindings [] = []
  bindings (binds v e ∷ ps) = (v, e) ∷ bindings ps
  bindings (makes nodes e ∷ ps) = []

  lets_are : (ps : List Part) → (body_of_parts ps).lets ≡ map (let_of q) (bindings ps)
  unfolding part_before
  lets_are [] = refl
  lets_are (binds v e ∷ ps) = ap (λ cs. let_of q (v, e) ∷ cs) (lets_are ps)
  lets_are (makes nodes e ∷ ps) = refl

  same_rest : (items : List Expr) (cs : Lets q) (g : Env) (j : ℕ) →
      lets_then q cs (outcome q (comma items)) g j
      ≡ lets_then q cs (comma_of (map (outcome q) items)) g j
  same_rest items [] g j = comma_is q items g j
  same_rest items (c ∷ cs) g j =
      then_same (outcome q c.1 g j) _ _ (λ xs l. same_rest items cs (bind c.0 xs g) l)

  -- the items after variables
  behind_is : (bs : Lets q) (items : List Expr) (f : Env) (k : ℕ) →
      comma_of (map (outcome q) (items_or_flow (map (let_of q) bs) items)) f k
      ≡ lets_then q bs (comma_of (map (outcome q) items)) f k
  unfolding items_or_flow
  behind_is [] items f k = refl
  behind_is (b ∷ bs) items f k =
      one_each (outcome q (flow (map (let_of q) (b ∷ bs)) (comma items)) f k)
      ∙ flow_lets q (b ∷ bs) (comma items) f k
      ∙ same_rest items (b ∷ bs) f k

  abbrev pub all_items : List Part → Meaning
  all_items ps = comma_of (map (outcome q) (items_of (body_of_parts ps)))

  items_are : (ps : List Part) (f : Env) (k : ℕ) → all_items ps f k
      ≡ lets_then q (bindings ps) (comma_of (map (outcome q) (body_of_parts ps).items)) f k
  items_are ps f k =
      ap (λ cs. comma_of (map (outcome q) (items_or_flow cs (body_of_parts ps).items)) f k) (lets_are ps)
      ∙ behind_is (bindings ps) (body_of_parts ps).items f k

  -- a sequence constructor
  pub items_done : (x : Spot) (ds : List Doing) (ps : List Part) → Pairs (PartMeets x) ds ps →
      Meets like lax rel carries t x (body_of ds) (all_items ps)
  unfolding part_before items_or_flow
  items_done x [] [] h a b at k = carries.ends _ _ _ _ tt
  items_done x [] (p ∷ ps) h a b at k = absurd h
  items_done x (d ∷ ds) [] h a b at k = absurd h
  items_done x (Binds name m ∷ ds) (makes nodes e ∷ ps) h a b at k = absurd h.0
  items_done x (Makes m ∷ ds) (binds v e ∷ ps) h a b at k = absurd h.0
  items_done x (Makes m ∷ ds) (makes nodes e ∷ ps) h a b at k =
      carries.next _ _ (Every IsSound) (Every IsSound) (m a k) (outcome q e b k) _ _
      (h.0.0 a b at k) (λ xs j g.
      carries.next _ _ (Every IsSound) (Every IsSound) (body_of ds a j) (all_items ps b j) _ _
      (items_done x ds ps h.1 a b at j)
      (λ ys i d. carries.ends _ _ _ _ (every_append IsSound xs ys g d)))
  items_done x (Binds name m ∷ ds) (binds v e ∷ ps) h a b at k =
      rw (h.0.0, items_are (binds v e ∷ ps) b k)
      (carries.next _ _ (Every IsSound) (Every IsSound) (m a k) (outcome q e b k) _ _
      (h.0.2 a b at k) (λ xs j g.
      subst (λ o. rel (List Item) (Every IsSound) (body_of ds (bind v xs a) j) o)
      (items_are ps (bind v xs b) j)
      (items_done x ds ps h.1 (bind v xs a) (bind v xs b) (at_behind t x a b at ((v, xs) ∷ []) ((h.0.1, g), tt)) j)))

  pub body_done : (x : Spot) (ds : List Doing) (ps : List Part) → Pairs (PartMeets x) ds ps →
      Meets like lax rel carries t x (body_of ds) (outcome q (sequence_of ps))
  unfolding sequence_of
  body_done x ds ps h a b at k =
      rw (comma_is q (items_of (body_of_parts ps)) b k) (items_done x ds ps h a b at k)

  -- .. that makes nodes alone
  pub nodes_done : (x : Spot) (ds : List Doing) (ps : List Part) → Pairs (PartMeets x) ds ps →
      (body_of_parts ps).are_nodes ≡ true → MakesNodes (body_of ds)
  unfolding part_before
  nodes_done x [] [] h are e k = tt
  nodes_done x [] (p ∷ ps) h are e k = absurd h
  nodes_done x (d ∷ ds) [] h are e k = absurd h
  nodes_done x (Binds name m ∷ ds) (makes nodes v ∷ ps) h are e k = absurd h.0
  nodes_done x (Makes m ∷ ds) (binds v w ∷ ps) h are e k = absurd h.0
  nodes_done x (Binds name m ∷ ds) (binds v w ∷ ps) h are e k = absurd cc
  nodes_done x (Makes m ∷ ds) (makes nodes v ∷ ps) h are e k =
      let both = and_parts nodes (body_of_parts ps).are_nodes are in
      then_on (Every IsContentNode) (Every IsContentNode) (m e k) _ (h.0.1 both.0 e k)
      (λ xs j g. then_on (Every IsContentNode) (Every IsContentNode) (body_of ds e j) _
      (nodes_done x ds ps h.1 both.1 e j) (λ ys i d. every_append IsContentNode xs ys g d))
