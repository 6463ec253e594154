-- The instructions of a FLWOR give no attribute where those of its body give none.
use Rattle.std.proofs.Common.{◌≡◌, ℕ, List, [], ◌∷◌, refl, sym, subst, map}
use Rattle.std.specs.Prelude.{Bool, true, Option, Some, None}
use Rattle.xt_names.specs.declared.names.Binding.{Binding as Namespace}
use Rattle.xt_names.specs.declared.names.ExprName.{ExprName}
use Rattle.xt_atoms.specs.Casts.{wrong_type}
use Rattle.xdm_items.specs.declared.items.Item.{Item}
use Rattle.xt_syntax.specs.declared.exprs.Expr.{Expr}
use Rattle.xt_syntax.specs.declared.exprs.Bind.{Bind}
use Rattle.xt_syntax.specs.declared.exprs.Order.{Order}
use Rattle.xt_syntax.specs.declared.exprs.Clause.TheViews.{out-Bind}
use Rattle.xt_syntax.specs.Layers.{order_gives}
use Rattle.xt_sheets.specs.declared.sheets.Sheet.{Sheet}
use Rattle.xt_sheets.specs.declared.instrs.Instr.TheOpen.{If, ForEach}
use Rattle.expr_meaning.specs.Outcomes.Outcome.{Outcome, Ends, and_then, Every, OnEnds, for_each}
use Rattle.expr_meaning.specs.Outcomes.Follow.{any_code}
use Rattle.expr_meaning.proofs.OutcomesLemmas.Relations.{every_append}
use Rattle.expr_meaning.proofs.OutcomesLemmas.Steps.{then_on}
use Rattle.expr_meaning.specs.SortMeaning.Sorted.{Column, Placed, all_moved, sorted_places}
use Rattle.expr_meaning.proofs.SortMeaning.Carried.{places_carried}
use Rattle.expr_meaning.specs.Env.{Env, Program, bind, bind_all}
use Rattle.expr_meaning.specs.Flow.{columns_at}
use Rattle.expr_meaning.specs.Logic.{either_of}
use Rattle.expr_meaning.specs.Meaning.{meanings, steps, outcome}
use Rattle.meaning_laws.proofs.SoundFunctions.Kept.{values_kept}
use Rattle.meaning_laws.specs.SoundValues.Sound.{IsSound}
use Rattle.meaning_laws.proofs.SoundValues.Arguments.{AllSound}
use Rattle.transform_meaning.specs.Bindings.{nothing}
use Rattle.transform_meaning.specs.Dispatch.{Doors}
use Rattle.transform_meaning.specs.Instrs.{meanings as instr_meanings, steps as instr_steps}
use Rattle.transform_meaning.specs.Instrs.{body_does, sorts_mean}
use Rattle.transform_meaning.specs.Places.{at_item, in_turn}
use Rattle.transform_meaning.specs.Sorting.{mixed, sort_columns}
use Rattle.transform_laws.proofs.Rolled.{TheInstr, InstrForm, instr_rolled}
use Rattle.way_back.specs.Same.{same}
use Rattle.way_back.specs.Leaves.{is_leaf_at, has_local}
use Rattle.way_back.specs.Forms.{variable, dot, sort_of, where_instr, loop_instr, orders_fit}
use Rattle.way_back.specs.Places.{IsSame, ProgramsSame}
use Rattle.way_back.proofs.Bodies.{one_body}
use Rattle.way_back.proofs.Choices.{leaf_meets}
use Rattle.way_back.proofs.Flows.{variable_is}
use Rattle.way_back.proofs.Loops.{columns_meet, dot_is, item_same, tuple}
use Rattle.way_back.proofs.Places.{bound_same}
use Rattle.way_back.proofs.Plain.{AllPlain, IsPlain, either_plain}
use Rattle.way_back.proofs.Same.{same_carries}

module _ (sheet : Sheet) (doors : Doors) (q : Program)
    (programs : ProgramsSame same IsSound doors.program q) (scope : List Namespace) where
  -- wherever the stylesheet is looked at beside its query
  abbrev pub Plainly : Bool → List TheInstr → Type 0
  Plainly s body =
      (a f : Env) → IsSame IsSound s a f → (k : ℕ) → OnEnds AllPlain (body_does sheet doors body a k)

  leaf_sound : (s : Bool) (e : Expr) → is_leaf_at e s ≡ true → (a f : Env) → IsSame IsSound s a f →
      (k : ℕ) → OnEnds AllSound (outcome doors.program e a k)
  leaf_sound s e h a f at k =
      (leaf_meets IsSound values_kept sheet doors q programs (λ i. refl) (λ t xml. xml) s e h a f at k).2

  pub where_plain : (s : Bool) (test : Option Expr) (body : List TheInstr) → Plainly s body →
      Plainly s (where_instr scope test body)
  where_plain s None body h = h
  where_plain s (Some test) body h = λ a f at k.
      subst (OnEnds AllPlain)
      (sym (one_body IsSound values_kept sheet doors (If test body)
      (either_of (outcome doors.program test) (body_does sheet doors body) nothing)
      (instr_rolled instr_meanings (instr_steps sheet doors) (If test body)) a k))
      (either_plain (outcome doors.program test) (body_does sheet doors body) nothing a k
      (λ j. h a f at j) (λ j. tt))

  pub let_plain : (s : Bool) (x : ExprName) → has_local x ≡ true → (e : Expr) → is_leaf_at e s ≡ true →
      (rest : List TheInstr) → Plainly s rest → Plainly s (variable x e ∷ rest)
  let_plain s x own e leaf rest h a f at k =
      rw (variable_is sheet doors x e)
      (then_on AllSound AllPlain (and_then (outcome doors.program e a k) (λ xs j. Ends xs j)) _
      (then_on AllSound AllSound (outcome doors.program e a k) _ (leaf_sound s e leaf a f at k)
      (λ xs j g. g))
      (λ xs j g. h (bind x xs a) (bind x xs f)
      (bound_same IsSound s a f at ((x, xs) ∷ []) ((own, g), tt)) j))

  module _ (s : Bool) (x : ExprName) (own : has_local x ≡ true) (a f : Env) (at : IsSame IsSound s a f)
      (body : List TheInstr) (h : Plainly true body) where
    abbrev turn : Placed Item → ℕ → Outcome (List Item)
    turn t = body_does sheet doors (variable x dot ∷ body) (in_turn a t)

    turn_plain : (t : Placed Item) → IsSound t.value → (k : ℕ) → OnEnds AllPlain (turn t k)
    turn_plain t g k =
        rw (variable_is sheet doors x dot, dot_is doors.program (in_turn a t) t k refl)
        (h (bind x (t.value ∷ []) (in_turn a t))
        (bind_all (tuple IsSound values_kept sheet doors q programs (λ i. refl) (λ u xml. xml) s x own [] a f
        at t) f)
        (item_same IsSound values_kept sheet doors q programs (λ i. refl) (λ u xml. xml) s x own [] a f at
        (in_turn a t) refl t t refl g) k)

    turns_plain : (ts : List (Placed Item)) → Every (λ t. IsSound t.value) ts → (k : ℕ) →
        OnEnds AllPlain (for_each turn ts k)
    turns_plain [] g k = tt
    turns_plain (t ∷ ts) g k =
        then_on AllPlain AllPlain (turn t k) _ (turn_plain t g.0 k) (λ ys j b.
        then_on AllPlain AllPlain (for_each turn ts j) _ (turns_plain ts g.1 j)
        (λ zs i c. every_append IsPlain ys zs b c))

    abbrev sorts : List Order → List (Column (Placed Item))
    sorts orders = sort_columns (at_item a) (sorts_mean doors.program (map (sort_of x) orders))

    sorted_sound : (orders : List Order) → orders_fit orders true ≡ true → (xs : List Item) →
        AllSound xs → (k : ℕ) →
        OnEnds (Every (λ t. IsSound t.value)) (sorted_places mixed (sorts orders) xs k)
    sorted_sound orders fit xs g k =
        (places_carried any_code same same_carries IsSound mixed wrong_type tt (sorts orders)
        (all_moved (tuple IsSound values_kept sheet doors q programs (λ i. refl) (λ u xml. xml) s x own [] a
        f at) (columns_at (λ b. bind_all b f) (map (order_gives meanings (steps q)) orders)))
        (columns_meet IsSound values_kept sheet doors q programs (λ i. refl) (λ u xml. xml) s x own [] a f at
        orders fit) xs g k).2

  pub loop_plain : (s : Bool) (b : Bind) → has_local (out-Bind b).var ≡ true →
      is_leaf_at (out-Bind b).source s ≡ true → (orders : List Order) → orders_fit orders true ≡ true →
      (body : List TheInstr) → Plainly true body → Plainly s (loop_instr scope (out-Bind b) orders body)
  loop_plain s b own leaf orders fit body h a f at k =
      subst (OnEnds AllPlain)
      (sym (one_body IsSound values_kept sheet doors loop _
      (instr_rolled instr_meanings (instr_steps sheet doors) loop) a k))
      (then_on AllSound AllPlain (outcome doors.program (out-Bind b).source a k) _
      (leaf_sound s (out-Bind b).source leaf a f at k) (λ xs j g.
      then_on (Every (λ t. IsSound t.value)) AllPlain
      (sorted_places mixed (sorts s (out-Bind b).var own a f at body h orders) xs j) _
      (sorted_sound s (out-Bind b).var own a f at body h orders fit xs g j)
      (λ ts i all. turns_plain s (out-Bind b).var own a f at body h ts all i)))
    where
      loop : InstrForm
      loop = ForEach (out-Bind b).source (map (sort_of (out-Bind b).var) orders)
          (variable (out-Bind b).var dot ∷ body)
