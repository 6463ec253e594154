-- Paths, steps and predicates are carried where their parts are.
use Rattle.std.proofs.Common.{ℕ, List, [], ◌∷◌}
use Rattle.std.specs.Prelude.{Bool, true, false, if◌then◌else◌, Ok, Err}
use Rattle.std.specs.List.{list_all}
use Rattle.xt_names.specs.declared.codes.Code.TheVariants.{Dynamic}
use Rattle.xt_names.specs.declared.codes.DynamicCode.TheVariants.{XPTY0018, XPTY0019}
use Rattle.xt_types.specs.declared.axes.Axis.{Axis}
use Rattle.xt_types.specs.declared.node_tests.Test.{Test}
use Rattle.xdm_items.specs.declared.items.Item.{Item}
use Rattle.xdm_items.specs.FunctionArguments.Arguments.{and_then as result_then}
use Rattle.lazy_seq.specs.Orders.{in_document_order}
use Rattle.operator_values.specs.Nodes.{is_node}
use Rattle.expr_meaning.specs.Outcomes.Outcome.{step_outcome, Every, Anything}
use Rattle.expr_meaning.proofs.OutcomesLemmas.Relations.{each_carried, step_carried}
use Rattle.expr_meaning.specs.SortMeaning.Sorted.{Placed, places}
use Rattle.expr_meaning.proofs.SortMeaning.Carried.{every_places}
use Rattle.expr_meaning.specs.Env.{Env, Meaning, at_focus}
use Rattle.expr_meaning.specs.Paths.{document_root, root_of, kept_at, alone_if, kept_item, kept}
use Rattle.expr_meaning.specs.Paths.{kept_in_turn, filter_of, step_items, step_of}
use Rattle.expr_meaning.specs.Paths.{is_atom, path_value, path_places, slash_of}
use Rattle.expr_laws.specs.Carrier.{Carrier, SeesFocus, Meet, AllMeet, OnValue}
use Rattle.expr_laws.proofs.Steps.{same_step, any_step}
use Rattle.expr_laws.proofs.Values.{focus_meets}

module _ (c : Carrier) (sight : c.Sight) where
  pub root_meets : SeesFocus c sight → Meet c sight root_of root_of
  root_meets sees e f s k =
      focus_meets c sight sees (Every c.good) (λ p. document_root p.value) (λ p g. c.kept.root p.value g)
      e f s k

  alone_meets : (x : Item) → c.good x → (b : Bool) (k : ℕ) →
      c.rel (List Item) (Every c.good) (alone_if x b k) (alone_if x b k)
  alone_meets x g true k = c.carries.ends _ _ _ _ (g, tt)
  alone_meets x g false k = c.carries.ends _ _ _ _ tt

  kept_item_meets : (m n : Meaning) → Meet c c.inner m n → (e f : Env) → c.at sight e f → (p : Placed Item)
      (k : ℕ) → c.good p.value →
      c.rel (List Item) (Every c.good) (kept_item m e p k) (kept_item n f p k)
  kept_item_meets m n h e f s p k g =
      c.carries.next _ _ (Every c.good) (Every c.good) (m (at_focus e p) k) (n (at_focus f p) k)
      _ _ (h (at_focus e p) (at_focus f p) (c.focused sight e f s p g) k) (λ ys j d.
      c.carries.next _ _ Anything (Every c.good) (step_outcome (kept_at p.place ys) j)
      (step_outcome (kept_at p.place ys) j) _ _ (any_step c (kept_at p.place ys) j)
      (λ b i u. alone_meets p.value g b i))

  pub kept_meets : (m n : Meaning) → Meet c c.inner m n → (e f : Env) → c.at sight e f → (xs : List Item) →
      Every c.good xs → (k : ℕ) →
      c.rel (List Item) (Every c.good) (kept m e xs k) (kept n f xs k)
  kept_meets m n h e f s xs g k =
      c.carries.next _ _ (Every (λ p. c.good p.value)) (Every c.good) (step_outcome (places xs) k)
      (step_outcome (places xs) k) _ _
      (step_carried c.like c.rel c.carries _ (places xs) k (every_places c.good xs k g)) (λ fs j all.
      each_carried c.like c.rel c.carries (λ p. c.good p.value) c.good (kept_item m e)
      (kept_item n f) (λ p i d. kept_item_meets m n h e f s p i d) fs all j)

  pub in_turn_meets : (ms ns : List Meaning) → AllMeet c c.inner ms ns → (e f : Env) → c.at sight e f →
      (xs : List Item) → Every c.good xs → (k : ℕ) →
      c.rel (List Item) (Every c.good) (kept_in_turn ms e xs k) (kept_in_turn ns f xs k)
  in_turn_meets [] [] h e f s xs g k = c.carries.ends _ _ _ _ g
  in_turn_meets [] (n ∷ ns) h e f s xs g k = absurd h
  in_turn_meets (m ∷ ms) [] h e f s xs g k = absurd h
  in_turn_meets (m ∷ ms) (n ∷ ns) h e f s xs g k =
      c.carries.next _ _ (Every c.good) (Every c.good) (kept m e xs k) (kept n f xs k) _ _
      (kept_meets m n h.0 e f s xs g k)
      (λ ys j d. in_turn_meets ms ns h.1 e f s ys d j)

  pub filter_meets : (a b : Meaning) → Meet c sight a b → (ms ns : List Meaning) → AllMeet c c.inner ms ns →
      Meet c sight (filter_of a ms) (filter_of b ns)
  filter_meets a b h ms ns i e f s k =
      c.carries.next _ _ (Every c.good) (Every c.good) (a e k) (b f k) _ _ (h e f s k)
      (λ xs j g. in_turn_meets ms ns i e f s xs g j)

  pub step_meets : SeesFocus c sight → (axis : Axis) (test : Test) (ms ns : List Meaning) →
      AllMeet c c.inner ms ns →
      Meet c sight (step_of axis test ms) (step_of axis test ns)
  step_meets sees axis test ms ns h e f s k =
      c.carries.next _ _ (Every c.good) (Every c.good) _ _ _ _
      (focus_meets c sight sees (Every c.good) (λ p. step_items axis test p.value)
      (λ p g. c.kept.step axis test p.value g) e f s k) (λ xs j g.
      c.carries.next _ _ (Every c.good) (Every c.good) (kept_in_turn ms e xs j)
      (kept_in_turn ns f xs j) _ _ (in_turn_meets ms ns h e f s xs g j)
      (λ ys i d. c.carries.ends _ _ _ _ (c.kept.ordered ys d)))

  value_known : (xs : List Item) → Every c.good xs → (b d : Bool) →
      OnValue (Every c.good) (if b then Ok (in_document_order xs)
      else if d then Ok xs else Err (Dynamic XPTY0018))
  value_known xs g true d = c.kept.ordered xs g
  value_known xs g false true = g
  value_known xs g false false = tt

  spots_by : (xs : List Item) → Every c.good xs → (b : Bool) (k : ℕ) →
      c.rel (List (Placed Item)) (Every (λ p. c.good p.value))
      (step_outcome (result_then (if b then Ok xs else Err (Dynamic XPTY0019)) places) k)
      (step_outcome (result_then (if b then Ok xs else Err (Dynamic XPTY0019)) places) k)
  spots_by xs g true k =
      step_carried c.like c.rel c.carries _ (places xs) k (every_places c.good xs k g)
  spots_by xs g false k = c.carries.fails _ _ _

  spots_meet : (xs : List Item) → Every c.good xs → (k : ℕ) →
      c.rel (List (Placed Item)) (Every (λ p. c.good p.value))
      (step_outcome (path_places xs) k) (step_outcome (path_places xs) k)
  spots_meet xs g k = spots_by xs g (list_all is_node xs) k

  pub slash_meets : (a b x y : Meaning) → Meet c sight a x → Meet c c.inner b y →
      Meet c sight (slash_of a b) (slash_of x y)
  slash_meets a b x y h i e f s k =
      c.carries.next _ _ (Every c.good) (Every c.good) (a e k) (x f k) _ _ (h e f s k)
      (λ xs j g.
      c.carries.next _ _ (Every (λ p. c.good p.value)) (Every c.good) _ _ _ _
      (spots_meet xs g j) (λ fs l all.
      c.carries.next _ _ (Every c.good) (Every c.good) _ _ _ _
      (each_carried c.like c.rel c.carries (λ p. c.good p.value) c.good
      (λ p. b (at_focus e p)) (λ p. y (at_focus f p))
      (λ p m d. i (at_focus e p) (at_focus f p) (c.focused sight e f s p d) m) fs all l)
      (λ ys n d. same_step c (Every c.good) (path_value ys)
      (value_known ys d (list_all is_node ys) (list_all is_atom ys)) n)))
