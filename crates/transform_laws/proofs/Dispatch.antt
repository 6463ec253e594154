-- The ways to templates are carried where their parts are.
use Rattle.std.proofs.Common.{◌≡◌, ℕ, List, [], ◌∷◌, refl, subst}
use Rattle.std.specs.Prelude.{Bool, true, false, if◌then◌else◌, Option, Some, None, Ok, Err}
use Rattle.std.specs.List.{list_all}
use Rattle.xt_names.specs.declared.codes.Code.TheVariants.{SheetDynamic}
use Rattle.xt_names.specs.declared.codes.SheetDynamicCode.TheVariants.{XTTE0520}
use Rattle.xt_tree.specs.Place.{Place, subtree_of}
use Rattle.xt_tree.specs.declared.trees.Tree.{Tree}
use Rattle.xt_tree.specs.declared.trees.Tree.TheVariants as tree
use Rattle.xdm_items.specs.declared.items.Item.{Item}
use Rattle.xdm_items.specs.declared.items.Item.TheVariants.{Node, Atom}
use Rattle.xt_sheets.specs.declared.sheets.Rule.{Rule}
use Rattle.xt_sheets.specs.declared.values.ModeUse.{ModeUse}
use Rattle.xt_sheets.specs.declared.values.ModeUse.TheVariants.{Number, Current}
use Rattle.operator_values.specs.Nodes.{is_node}
use Rattle.rule_order.specs.Rules.{best_of_all}
use Rattle.expr_meaning.specs.Outcomes.Outcome.{and_then, for_each, step_outcome, Anything, Every}
use Rattle.expr_meaning.proofs.OutcomesLemmas.Relations.{each_carried, step_carried}
use Rattle.expr_meaning.specs.SortMeaning.Sorted.{Placed, places as places_of}
use Rattle.expr_meaning.proofs.SortMeaning.Carried.{every_places}
use Rattle.expr_meaning.specs.Env.{Binding, Env, Meaning, State}
use Rattle.expr_laws.specs.Carrier.{AreGood, Carrier, IsMade, OnValue}
use Rattle.expr_laws.proofs.Steps.{any_step, same_step}
use Rattle.transform_meaning.specs.Bindings.{BoundMeaning, own_value}
use Rattle.transform_meaning.specs.Dispatch.{Doors, Passed, current_rule, overridden_of}
use Rattle.transform_meaning.specs.Dispatch.{apply_of, built_in_below, built_in_of, call_of}
use Rattle.transform_meaning.specs.Dispatch.{child_items, children_entered, children_of_focus}
use Rattle.transform_meaning.specs.Dispatch.{children_of_item, entered_at, for_focus, for_item}
use Rattle.transform_meaning.specs.Dispatch.{mode_of, only_nodes, passed_behind, passed_of}
use Rattle.transform_meaning.specs.Dispatch.{selection_of, with_param}
use Rattle.transform_meaning.specs.Places.{entry}
use Rattle.transform_meaning.specs.Sorting.{SortMeaning, in_sort_order}
use Rattle.transform_laws.specs.Meets.{AreSheetPlaces, AtPlaces, DoorsMeet, IsGoodFocus}
use Rattle.transform_laws.specs.Meets.{MeaningsMeet, SheetsMake}
use Rattle.transform_laws.proofs.Bindings.{BoundMeets, own_meets}
use Rattle.transform_laws.proofs.Lists.{IfBoth, Pairs}
use Rattle.transform_laws.proofs.Making.{new_text_meets}
use Rattle.transform_laws.proofs.Sorting.{SortMeets, sort_meets}

pub record IsGoodPassed (c : Carrier) (passed : Passed) : Type 0 where
  pub ordinary : AreGood c.good passed.ordinary
  pub tunnel : AreGood c.good passed.tunnel

module _ (c : Carrier) (places : AreSheetPlaces c) where
  with_known : (p : BoundMeaning) (xs : List Item) → Every c.good xs → (passed : Passed) →
      IsGoodPassed c passed → IsGoodPassed c (with_param p xs passed)
  with_known p xs g passed h = by p.tunnel
    where
      by : (t : Bool) → IsGoodPassed c (if t
          then record { ordinary = passed.ordinary; tunnel = (p.name, xs) ∷ passed.tunnel }
          else record { ordinary = (p.name, xs) ∷ passed.ordinary; tunnel = passed.tunnel })
      by true = record { ordinary = h.ordinary; tunnel = (g, h.tunnel) }
      by false = record { ordinary = (g, h.ordinary); tunnel = h.tunnel }

  with_same : (p q : BoundMeaning) → BoundMeets c p q → (xs : List Item) (passed : Passed) →
      with_param p xs passed ≡ with_param q xs passed
  with_same p q h xs passed = λ i.
      (if h.tunnel i
      then record { ordinary = passed.ordinary; tunnel = (h.name i, xs) ∷ passed.tunnel }
      else record { ordinary = (h.name i, xs) ∷ passed.ordinary; tunnel = passed.tunnel })

  behind_meets : (passed : Passed) → IsGoodPassed c passed → (ps qs : List BoundMeaning) →
      Pairs (BoundMeets c) ps qs → (e f : Env) → AtPlaces c e f → (k : ℕ) →
      c.rel Passed (IsGoodPassed c) (passed_behind passed ps e k) (passed_behind passed qs f k)
  behind_meets passed g [] [] h e f s k = c.carries.ends _ (IsGoodPassed c) passed k g
  behind_meets passed g [] (q ∷ qs) h e f s k = absurd h
  behind_meets passed g (p ∷ ps) [] h e f s k = absurd h
  behind_meets passed g (p ∷ ps) (q ∷ qs) h e f s k =
      c.carries.next _ _ (Every c.good) (IsGoodPassed c) (own_value p.value e k)
      (own_value q.value f k) _ _ (own_meets c p.value q.value h.0.value e f s k) (λ xs j d.
      subst (λ w. c.rel Passed (IsGoodPassed c) (passed_behind (with_param p xs passed) ps e j)
      (passed_behind w qs f j)) (with_same p q h.0 xs passed)
      (behind_meets (with_param p xs passed) (with_known p xs d passed g) ps qs h.1 e f s j))

  pub passed_meets : (ps qs : List BoundMeaning) → Pairs (BoundMeets c) ps qs → (e f : Env) →
      AtPlaces c e f → (k : ℕ) →
      c.rel Passed (IsGoodPassed c) (passed_of ps e k) (passed_of qs f k)
  passed_meets ps qs h e f s k =
      subst (λ w. c.rel Passed (IsGoodPassed c) (passed_of ps e k)
      (passed_behind (record { ordinary = []; tunnel = w.tunnel }) qs f k))
      (places.alike.state c.inner e f s)
      (behind_meets (record { ordinary = []; tunnel = e.state.tunnel })
      (record { ordinary = tt; tunnel = places.tunnel e f s }) ps qs h e f s k)

  focus_good : (e f : Env) → AtPlaces c e f → IsGoodFocus c.good e.focus
  focus_good e f s p i = (places.alike.focus c.inner).item e f s p i

  -- what two places share
  same_view : (e f : Env) → AtPlaces c e f →
      (let v : Option (Placed Item) × State = (e.focus, e.state) in v) ≡ (f.focus, f.state)
  same_view e f s = λ i.
      ((places.alike.focus c.inner).same e f s i, places.alike.state c.inner e f s i)

  pub one_good : (p : Placed Item) → c.good p.value → IsGoodFocus c.good (Some p)
  one_good p g q e = subst (λ o. IfGoodFocus o) e g
    where
      IfGoodFocus : Option (Placed Item) → Type 0
      IfGoodFocus None = Unit {0}
      IfGoodFocus (Some q) = c.good q.value

  module _ (rules : List Rule) (d b : Doors) (doors : DoorsMeet c d b) where
    pub entered_meets : (mode : ℕ) (passed : Passed) → IsGoodPassed c passed → (p : Placed Item)
        (k : ℕ) → c.good p.value →
        c.rel (List Item) (Every c.good) (entered_at rules d mode passed p k)
        (entered_at rules b mode passed p k)
    entered_meets mode passed g p k h =
        doors.enter passed.ordinary g.ordinary _ _
        (places.entry (Some p) (one_good p h) (for_item (best_of_all rules mode) p.value) mode
        passed.tunnel g.tunnel) k

    all_entered : (mode : ℕ) (passed : Passed) → IsGoodPassed c passed →
        (ps : List (Placed Item)) → Every (λ p. c.good p.value) ps → (k : ℕ) →
        c.rel (List Item) (Every c.good) (for_each (entered_at rules d mode passed) ps k)
        (for_each (entered_at rules b mode passed) ps k)
    all_entered mode passed g ps h k =
        each_carried c.like c.rel c.carries (λ p. c.good p.value) c.good _ _
        (λ p j z. entered_meets mode passed g p j z) ps h k

  module _ (sheets : SheetsMake c) where
    children_known : (o : Option (Placed Item)) → IsGoodFocus c.good o →
        OnValue (Every c.good) (children_of_focus o)
    children_known None g = tt
    children_known (Some p) g = by p.value (g p refl)
      where
        by : (x : Item) → c.good x → OnValue (Every c.good) (children_of_item x)
        by (Node n) h = sheets.children n h
        by (Atom a) h = tt

  only_known : (xs : List Item) → Every c.good xs → OnValue (Every c.good) (only_nodes xs)
  only_known xs g = by (list_all is_node xs)
    where
      by : (b : Bool) → OnValue (Every c.good)
          (if b then Ok xs else Err (SheetDynamic XTTE0520))
      by true = g
      by false = tt

  selection_meets : SheetsMake c → (a b : Option Meaning) → IfBoth (MeaningsMeet c) a b →
      MeaningsMeet c (selection_of a) (selection_of b)
  selection_meets sheets None None h e f s k =
      subst (λ o. c.rel (List Item) (Every c.good) (step_outcome (children_of_focus e.focus) k)
      (step_outcome (children_of_focus o) k)) ((places.alike.focus c.inner).same e f s)
      (same_step c (Every c.good) (children_of_focus e.focus)
      (children_known sheets e.focus (focus_good e f s)) k)
  selection_meets sheets None (Some n) h e f s k = absurd h
  selection_meets sheets (Some m) None h e f s k = absurd h
  selection_meets sheets (Some m) (Some n) h e f s k =
      c.carries.next _ _ (Every c.good) (Every c.good) (m e k) (n f k) _ _ (h e f s k)
      (λ xs j g. same_step c (Every c.good) (only_nodes xs) (only_known xs g) j)

  mode_same : (mode : ModeUse) (e f : Env) → AtPlaces c e f → mode_of mode e ≡ mode_of mode f
  mode_same (Number mode) e f s = refl
  mode_same Current e f s = λ i. (places.alike.state c.inner e f s i).mode

  module _ (sheets : SheetsMake c) (d b : Doors) (doors : DoorsMeet c d b) where
    pub apply_meets : (rules : List Rule) (x y : Option Meaning) → IfBoth (MeaningsMeet c) x y →
        (mode : ModeUse) (ss ts : List SortMeaning) → Pairs (SortMeets c) ss ts →
        (ps qs : List BoundMeaning) → Pairs (BoundMeets c) ps qs →
        MeaningsMeet c (apply_of rules d x mode ss ps) (apply_of rules b y mode ts qs)
    apply_meets rules x y h mode ss ts g ps qs i e f s k =
        c.carries.next _ _ (Every c.good) (Every c.good) (selection_of x e k)
        (selection_of y f k) _ _ (selection_meets sheets x y h e f s k) (λ xs j gx.
        c.carries.next _ _ (Every (λ p. c.good p.value)) (Every c.good) (in_sort_order ss e xs j)
        (in_sort_order ts f xs j) _ _ (sort_meets c places ss ts g e f s xs gx j) (λ ns l gn.
        c.carries.next _ _ (IsGoodPassed c) (Every c.good) (passed_of ps e l) (passed_of qs f l)
        _ _ (passed_meets ps qs i e f s l) (λ passed m gp.
        subst (λ w. c.rel (List Item) (Every c.good)
        (for_each (entered_at rules d (mode_of mode e) passed) ns m)
        (for_each (entered_at rules b w passed) ns m)) (mode_same mode e f s)
        (all_entered rules d b doors (mode_of mode e) passed gp ns gn m))))

    -- another rule for the focus as it stands
    pub overridden_meets : (find : ℕ → ℕ → Place → Option ℕ) (ps qs : List BoundMeaning) →
        Pairs (BoundMeets c) ps qs →
        MeaningsMeet c (overridden_of find d ps) (overridden_of find b qs)
    overridden_meets find ps qs h e f s k =
        subst (λ w. c.rel (List Item) (Every c.good) (overridden_of find d ps e k)
        (and_then (step_outcome (current_rule w.1.rule) k) (λ rule j.
        and_then (passed_of qs f j) (λ passed. b.enter passed.ordinary
        (entry w.0 (for_focus (find rule w.1.mode) w.0) w.1.mode passed.tunnel)))))
        (same_view e f s)
        (c.carries.next _ _ Anything (Every c.good) (step_outcome (current_rule e.state.rule) k)
        (step_outcome (current_rule e.state.rule) k) _ _ (any_step c (current_rule e.state.rule) k)
        (λ rule j u.
        c.carries.next _ _ (IsGoodPassed c) (Every c.good) (passed_of ps e j) (passed_of qs f j)
        _ _ (passed_meets ps qs h e f s j) (λ passed i g.
        doors.enter passed.ordinary g.ordinary _ _
        (places.entry e.focus (focus_good e f s) (for_focus (find rule e.state.mode) e.focus)
        e.state.mode passed.tunnel g.tunnel) i)))

    pub call_meets : (place : ℕ) (ps qs : List BoundMeaning) → Pairs (BoundMeets c) ps qs →
        MeaningsMeet c (call_of d place ps) (call_of b place qs)
    call_meets place ps qs h e f s k =
        c.carries.next _ _ (IsGoodPassed c) (Every c.good) (passed_of ps e k) (passed_of qs f k)
        _ _ (passed_meets ps qs h e f s k) (λ passed j g.
        subst (λ w. c.rel (List Item) (Every c.good)
        (d.named place passed.ordinary (entry e.focus e.state.rule e.state.mode passed.tunnel) j)
        (b.named place passed.ordinary (entry w.0 w.1.rule w.1.mode passed.tunnel) j))
        (same_view e f s)
        (doors.named place passed.ordinary g.ordinary _ _
        (places.entry e.focus (focus_good e f s) e.state.rule e.state.mode passed.tunnel g.tunnel)
        j))

    -- the built-in rules
    children_meet : (rules : List Rule) (passed : List Binding) → AreGood c.good passed →
        (n : Place) → c.good (Node n) →
        MeaningsMeet c (children_entered rules d passed n) (children_entered rules b passed n)
    children_meet rules passed g n h e f s k =
        c.carries.next _ _ (Every (λ p. c.good p.value)) (Every c.good)
        (step_outcome (places_of (child_items n)) k) (step_outcome (places_of (child_items n)) k)
        _ _ (step_carried c.like c.rel c.carries _ (places_of (child_items n)) k
        (every_places c.good (child_items n) k (sheets.children n h))) (λ ps j all.
        subst (λ w. c.rel (List Item) (Every c.good)
        (for_each (entered_at rules d e.state.mode
        (record { ordinary = passed; tunnel = e.state.tunnel })) ps j)
        (for_each (entered_at rules b w.mode (record { ordinary = passed; tunnel = w.tunnel })) ps
        j)) (places.alike.state c.inner e f s)
        (all_entered rules d b doors e.state.mode
        (record { ordinary = passed; tunnel = e.state.tunnel })
        (record { ordinary = g; tunnel = places.tunnel e f s }) ps all j))

    below_meets : IsMade c → (rules : List Rule) (passed : List Binding) →
        AreGood c.good passed → (n : Place) → c.good (Node n) → (o : Option Tree) →
        subtree_of n ≡ o →
        MeaningsMeet c (built_in_below rules d passed n o) (built_in_below rules b passed n o)
    below_meets makes rules passed g n h None i e f s k = c.carries.ends _ _ _ _ tt
    below_meets makes rules passed g n h (Some (tree.Doc kids)) i e f s k =
        children_meet rules passed g n h e f s k
    below_meets makes rules passed g n h (Some (tree.Elem name attributes kids)) i e f s k =
        children_meet rules passed g n h e f s k
    below_meets makes rules passed g n h (Some (tree.Text t)) i e f s k =
        new_text_meets c makes sheets t (sheets.text_in n h t i) k
    below_meets makes rules passed g n h (Some (tree.Comment t)) i e f s k =
        c.carries.ends _ _ _ _ tt
    below_meets makes rules passed g n h (Some (tree.Pi target t)) i e f s k =
        c.carries.ends _ _ _ _ tt
    below_meets makes rules passed g n h (Some (tree.Attr name t)) i e f s k =
        new_text_meets c makes sheets t (sheets.value_in n h name t i) k

    pub built_in_meets : IsMade c → (rules : List Rule) (passed : List Binding) →
        AreGood c.good passed → (o : Option Item) → ((x : Item) → o ≡ Some x → c.good x) →
        MeaningsMeet c (built_in_of rules d passed o) (built_in_of rules b passed o)
    built_in_meets makes rules passed g None h e f s k = c.carries.ends _ _ _ _ tt
    built_in_meets makes rules passed g (Some (Atom a)) h e f s k = c.carries.ends _ _ _ _ tt
    built_in_meets makes rules passed g (Some (Node n)) h e f s k =
        below_meets makes rules passed g n (h (Node n) refl) (subtree_of n) refl e f s k
