-- Expressions whose operands are evaluated first are carried where their operands are.
use Rattle.std.proofs.Common.{◌≡◌, ℕ, List, [], ◌∷◌, subst}
use Rattle.std.specs.Prelude.{Option, Some, None, Result, Ok}
use Rattle.xt_names.specs.declared.codes.Code.{Code}
use Rattle.xt_names.specs.declared.names.ExprName.{ExprName}
use Rattle.xdm_items.specs.declared.items.Item.{Item}
use Rattle.expr_meaning.specs.Outcomes.Outcome.{step_outcome, Every}
use Rattle.expr_meaning.proofs.OutcomesLemmas.Relations.{every_append}
use Rattle.expr_meaning.specs.SortMeaning.Sorted.{Placed}
use Rattle.expr_meaning.specs.Env.{Env, Meaning, Program, variable_value}
use Rattle.expr_meaning.specs.Values.{just, variable, of_focus, context, comma_of, unary, binary}
use Rattle.expr_laws.specs.Carrier.{Carrier, SeesFocus, Meet, AllMeet, OnValue, Keeps}
use Rattle.expr_laws.specs.Carrier.{KeepsBoth}
use Rattle.expr_laws.specs.Carrier.{ProgramsMeet}
use Rattle.expr_laws.proofs.Steps.{same_step}

module _ (c : Carrier) (sight : c.Sight) where
  pub just_meets : (xs : List Item) → Every c.good xs → Meet c sight (just xs) (just xs)
  just_meets xs g e f s k = c.carries.ends _ _ _ _ g

  pub variable_meets : (p q : Program) → ProgramsMeet c p q → (name : ExprName) →
      c.own_variable name → Meet c sight (variable p name) (variable q name)
  variable_meets p q h name o e f s k =
      subst (λ v. c.rel (List Item) (Every c.good) (step_outcome (variable_value p e name) k)
      (step_outcome v k)) (h.variables sight e f s name o)
      (same_step c (Every c.good) (variable_value p e name) (h.variable sight e f s name o) k)

  -- a step at the focus, which is the same on both sides
  pub focus_known : {B : Type 0} (P : B → Type 0) (value : Placed Item → Result B Code) →
      ((p : Placed Item) → c.good p.value → OnValue P (value p)) → (o : Option (Placed Item)) →
      ((p : Placed Item) → o ≡ Some p → c.good p.value) → OnValue P (of_focus value o)
  focus_known P value h None g = tt
  focus_known P value h (Some p) g = h p (g p (λ i. Some p))

  pub focus_meets : SeesFocus c sight → {B : Type 0} (P : B → Type 0)
      (value : Placed Item → Result B Code) →
      ((p : Placed Item) → c.good p.value → OnValue P (value p)) → (e f : Env) → c.at sight e f →
      (k : ℕ) →
      c.rel B P (step_outcome (of_focus value e.focus) k) (step_outcome
      (of_focus value f.focus) k)
  focus_meets sees P value h e f s k =
      subst (λ o. c.rel _ P (step_outcome (of_focus value e.focus) k)
      (step_outcome (of_focus value o) k)) (sees.same e f s)
      (same_step c P (of_focus value e.focus)
      (focus_known P value h e.focus (sees.item e f s)) k)

  pub context_meets : SeesFocus c sight → Meet c sight context context
  context_meets sees e f s k =
      focus_meets sees (Every c.good) (λ p. Ok (p.value ∷ [])) (λ p g. (g, tt)) e f s k

  pub comma_meets : (ms ns : List Meaning) → AllMeet c sight ms ns →
      Meet c sight (comma_of ms) (comma_of ns)
  comma_meets [] [] h e f s k = c.carries.ends _ _ _ _ tt
  comma_meets [] (n ∷ ns) h e f s k = absurd h
  comma_meets (m ∷ ms) [] h e f s k = absurd h
  comma_meets (m ∷ ms) (n ∷ ns) h e f s k =
      c.carries.next _ _ (Every c.good) (Every c.good) (m e k) (n f k) _ _ (h.0 e f s k)
      (λ xs j g.
      c.carries.next _ _ (Every c.good) (Every c.good) (comma_of ms e j) (comma_of ns f j) _ _
      (comma_meets ms ns h.1 e f s j)
      (λ ys i d. c.carries.ends _ _ _ _ (every_append c.good xs ys g d)))

  pub unary_meets : (value : List Item → Result (List Item) Code) → Keeps c.good value →
      (a b : Meaning) → Meet c sight a b → Meet c sight (unary value a) (unary value b)
  unary_meets value w a b h e f s k =
      c.carries.next _ _ (Every c.good) (Every c.good) (a e k) (b f k) _ _ (h e f s k)
      (λ xs j g. same_step c (Every c.good) (value xs) (w xs g) j)

  pub binary_meets : (value : List Item → List Item → Result (List Item) Code) →
      KeepsBoth c.good value → (a b x y : Meaning) → Meet c sight a x → Meet c sight b y →
      Meet c sight (binary value a b) (binary value x y)
  binary_meets value w a b x y h i e f s k =
      c.carries.next _ _ (Every c.good) (Every c.good) (a e k) (x f k) _ _ (h e f s k)
      (λ xs j g.
      c.carries.next _ _ (Every c.good) (Every c.good) (b e j) (y f j) _ _ (i e f s j)
      (λ ys l d. same_step c (Every c.good) (value xs ys) (w xs ys g d) l))
