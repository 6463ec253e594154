-- Expressions that decide are carried where their parts are.
use Rattle.std.proofs.Common.{◌≡◌, ℕ, List, [], ◌∷◌}
use Rattle.std.specs.Prelude.{Bool, true, false, not, if◌then◌else◌, Option, Some, None}
use Rattle.std.specs.Prelude.{Ok, Err}
use Rattle.std.specs.Bool.{beq}
use Rattle.xt_types.specs.declared.types.SeqType.{SeqType}
use Rattle.xdm_items.specs.declared.items.Item.{Item}
use Rattle.xdm_items.specs.Matching.{matches_type}
use Rattle.xdm_items.specs.Conversion.{matched}
use Rattle.xdm_items.specs.Truth.{truth_of}
use Rattle.xt_atoms.specs.Casts.{wrong_type}
use Rattle.expr_meaning.specs.Outcomes.Outcome.{Outcome, Ends, step_outcome, Every, Anything}
use Rattle.expr_meaning.specs.Env.{Env, Meaning, bind}
use Rattle.expr_meaning.specs.Logic.{truth_at, unless, first_of, as_items, or_of, and_of}
use Rattle.expr_meaning.specs.Logic.{either_of, choice_of, Bound, typed, item_decides, quantified}
use Rattle.expr_meaning.specs.Logic.{quantifier_of}
use Rattle.expr_laws.specs.Carrier.{Carrier, Meet, AllMeet, OnValue}
use Rattle.expr_laws.proofs.Steps.{same_step, any_step, by_truth}

-- arms whose parts are related
abbrev pub ArmsMeet : (c : Carrier) → c.Sight → List (Meaning × Meaning) → List (Meaning × Meaning) → Type 0
ArmsMeet c sight [] [] = Unit {0}
ArmsMeet c sight [] (b ∷ bs) = ⊥
ArmsMeet c sight (a ∷ more) [] = ⊥
ArmsMeet c sight (a ∷ more) (b ∷ bs) =
    (Meet c sight a.0 b.0 × Meet c sight a.1 b.1) × ArmsMeet c sight more bs

-- variables with the same name, which is their own, and type, whose sources are related
abbrev pub BoundMeet : (c : Carrier) → c.Sight → Bound → Bound → Type 0
BoundMeet c sight a b =
    (a.var ≡ b.var) × (a.kind ≡ b.kind) × c.own_variable a.var × Meet c sight a.source b.source

abbrev pub AllBoundMeet : (c : Carrier) → c.Sight → List Bound → List Bound → Type 0
AllBoundMeet c sight [] [] = Unit {0}
AllBoundMeet c sight [] (b ∷ bs) = ⊥
AllBoundMeet c sight (a ∷ more) [] = ⊥
AllBoundMeet c sight (a ∷ more) (b ∷ bs) = BoundMeet c sight a b × AllBoundMeet c sight more bs

-- a list that has the type has what is known of it
pub typed_known : (good : Item → Type 0) (kind : Option SeqType) (xs : List Item) →
    Every good xs → OnValue (Every good) (typed kind xs)
unfolding matched matches_type
typed_known good None xs h = h
typed_known good (Some type) xs h = by (matches_type type xs)
  where
    by : (b : Bool) → OnValue (Every good) (if b then Ok xs else Err wrong_type)
    by true = h
    by false = tt

module _ (c : Carrier) (sight : c.Sight) where
  pub truth_meets : (m n : Meaning) → Meet c sight m n → (e f : Env) → c.at sight e f → (k : ℕ) →
      c.rel Bool Anything (truth_at m e k) (truth_at n f k)
  truth_meets m n h e f s k =
      c.carries.next _ _ (Every c.good) Anything (m e k) (n f k) _ _ (h e f s k)
      (λ xs j g. any_step c (truth_of xs) j)

  pub unless_meets : (d t : Bool) (o p : ℕ → Outcome Bool) →
      ((i : ℕ) → c.rel Bool Anything (o i) (p i)) → (j : ℕ) →
      c.rel Bool Anything (unless d o t j) (unless d p t j)
  unless_meets d t o p h j =
      by_truth c Anything (beq t d) (Ends t j) (Ends t j) (o j) (p j)
      (c.carries.ends _ _ _ _ tt) (h j)

  pub first_meets : (d : Bool) (ms ns : List Meaning) → AllMeet c sight ms ns → (e f : Env) →
      c.at sight e f → (k : ℕ) → c.rel Bool Anything (first_of d ms e k) (first_of d ns f k)
  first_meets d [] [] h e f s k = c.carries.ends _ _ _ _ tt
  first_meets d [] (n ∷ ns) h e f s k = absurd h
  first_meets d (m ∷ ms) [] h e f s k = absurd h
  first_meets d (m ∷ ms) (n ∷ ns) h e f s k =
      c.carries.next _ _ Anything Anything (truth_at m e k) (truth_at n f k) _ _
      (truth_meets m n h.0 e f s k) (λ t j u.
      unless_meets d t (first_of d ms e) (first_of d ns f)
      (λ i. first_meets d ms ns h.1 e f s i) j)

  pub items_meet : (o p : Outcome Bool) → c.rel Bool Anything o p →
      c.rel (List Item) (Every c.good) (as_items o) (as_items p)
  items_meet o p h =
      c.carries.next _ _ Anything (Every c.good) o p _ _ h
      (λ t j u. c.carries.ends _ _ _ _ (c.kept.truth t))

  pub or_meets : (ms ns : List Meaning) → AllMeet c sight ms ns → Meet c sight (or_of ms) (or_of ns)
  or_meets ms ns h e f s k =
      items_meet (first_of true ms e k) (first_of true ns f k) (first_meets true ms ns h e f s k)

  pub and_meets : (ms ns : List Meaning) → AllMeet c sight ms ns → Meet c sight (and_of ms) (and_of ns)
  and_meets ms ns h e f s k =
      items_meet (first_of false ms e k) (first_of false ns f k)
      (first_meets false ms ns h e f s k)

  pub either_meets : (t a b u x y : Meaning) → Meet c sight t u → Meet c sight a x → Meet c sight b y →
      Meet c sight (either_of t a b) (either_of u x y)
  either_meets t a b u x y ht ha hb e f s k =
      c.carries.next _ _ Anything (Every c.good) (truth_at t e k) (truth_at u f k) _ _
      (truth_meets t u ht e f s k) (λ v j w.
      by_truth c (Every c.good) v (a e j) (x f j) (b e j) (y f j) (ha e f s j) (hb e f s j))

  pub choice_meets : (a b : List (Meaning × Meaning)) → ArmsMeet c sight a b → (x y : Meaning) →
      Meet c sight x y → Meet c sight (choice_of a x) (choice_of b y)
  choice_meets [] [] h x y o = o
  choice_meets [] (b ∷ bs) h x y o = absurd h
  choice_meets (a ∷ more) [] h x y o = absurd h
  choice_meets (a ∷ more) (b ∷ bs) h x y o =
      either_meets a.0 a.1 (choice_of more x) b.0 b.1 (choice_of bs y) h.0.0 h.0.1
      (choice_meets more bs h.1 x y o)

  abbrev TruthMeet : (Env → ℕ → Outcome Bool) → (Env → ℕ → Outcome Bool) → Type 0
  TruthMeet t u = (e f : Env) → c.at sight e f → (k : ℕ) → c.rel Bool Anything (t e k) (u f k)

  item_meets : (d : Bool) (a b : Bound) → a.var ≡ b.var → a.kind ≡ b.kind → c.own_variable a.var →
      (t u : Env → ℕ → Outcome Bool) → TruthMeet t u → (e f : Env) → c.at sight e f →
      (xs : List Item) → Every c.good xs → (k : ℕ) →
      c.rel Bool Anything (item_decides d a t e xs k) (item_decides d b u f xs k)
  item_meets d a b v w o t u h e f s [] g k = c.carries.ends _ _ _ _ tt
  item_meets d a b v w o t u h e f s (x ∷ xs) g k =
      rw (← v, ← w)
      (c.carries.next _ _ (Every c.good) Anything (step_outcome (typed a.kind (x ∷ [])) k)
      (step_outcome (typed a.kind (x ∷ [])) k) _ _
      (same_step c (Every c.good) (typed a.kind (x ∷ []))
      (typed_known c.good a.kind (x ∷ []) (g.0, tt)) k) (λ ys j gy.
      c.carries.next _ _ Anything Anything (t (bind a.var ys e) j) (u (bind a.var ys f) j) _ _
      (h (bind a.var ys e) (bind a.var ys f)
      (c.bound sight e f s ((a.var, ys) ∷ []) ((o, gy), tt)) j)
      (λ r i q. unless_meets d r (item_decides d a t e xs) (item_decides d b u f xs)
      (λ l. item_meets d a b v w o t u h e f s xs g.1 l) i)))

  quantified_meets : (d : Bool) (cs bs : List Bound) → AllBoundMeet c sight cs bs →
      (m n : Meaning) → Meet c sight m n → TruthMeet (quantified d cs m) (quantified d bs n)
  quantified_meets d [] [] h m n t e f s k = truth_meets m n t e f s k
  quantified_meets d [] (b ∷ bs) h m n t e f s k = absurd h
  quantified_meets d (a ∷ more) [] h m n t e f s k = absurd h
  quantified_meets d (a ∷ more) (b ∷ bs) h m n t e f s k =
      c.carries.next _ _ (Every c.good) Anything (a.source e k) (b.source f k) _ _
      (h.0.3 e f s k) (λ xs j g.
      item_meets d a b h.0.0 h.0.1 h.0.2 (quantified d more m) (quantified d bs n)
      (quantified_meets d more bs h.1 m n t) e f s xs g j)

  pub quantifier_meets : (every : Bool) (cs bs : List Bound) → AllBoundMeet c sight cs bs →
      (m n : Meaning) → Meet c sight m n → Meet c sight (quantifier_of every cs m) (quantifier_of every bs n)
  quantifier_meets every cs bs h m n t e f s k =
      items_meet (quantified (not every) cs m e k) (quantified (not every) bs n f k)
      (quantified_meets (not every) cs bs h m n t e f s k)
