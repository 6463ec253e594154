-- The items that have the key of a group, as the query finds them.
use Rattle.std.proofs.Common.{◌≡◌, ◌^◌, ℕ, List, [], ◌∷◌, ◌++◌, length, refl, ap, sym, ◌∙◌, map, flat_map, subst}
use Rattle.std.specs.Prelude.{Bool, true, false, Some, nat_lt}
use Rattle.std.specs.List.{list_any}
use Rattle.xt_names.specs.declared.codes.Code.{Code}
use Rattle.xt_atoms.specs.declared.atoms.Atom.{Atom as AtomValue}
use Rattle.xdm_items.specs.Values.{atomized}
use Rattle.xdm_items.specs.declared.items.Item.{Item}
use Rattle.xdm_items.specs.declared.items.Item.TheVariants.{Atom}
use Rattle.xt_syntax.specs.declared.exprs.Clause.{Clause}
use Rattle.xt_syntax.specs.declared.exprs.Expr.{Expr}
use Rattle.xt_syntax.specs.declared.exprs.Clause.TheOpen.{Flwor}
use Rattle.xt_syntax.specs.declared.exprs.Clause.TheViews.{roll-Flwor}
use Rattle.xt_syntax.specs.Layers.{clause_gives}
use Rattle.order_group.specs.Groups.{atoms_of, has_key}
use Rattle.expr_meaning.specs.Outcomes.Outcome.{Outcome, Ends, and_then, step_outcome, for_each, Every, Anything}
use Rattle.expr_meaning.specs.Outcomes.Follow.{Relation, IsCarrying}
use Rattle.expr_meaning.proofs.OutcomesLemmas.Steps.{then_assoc}
use Rattle.expr_meaning.specs.SortMeaning.Sorted.{Placed, places, placed, values}
use Rattle.expr_meaning.proofs.SortMeaning.Sorting.{values_placed}
use Rattle.expr_meaning.specs.Env.{Env, Meaning, Program, look_up}
use Rattle.expr_meaning.specs.Logic.{truth_at}
use Rattle.expr_meaning.specs.Meaning.{meanings, steps, outcome}
use Rattle.expr_laws.proofs.Rolled.{rolled_flwor}
use Rattle.expr_laws.proofs.Texts.{FlworForm}
use Rattle.meaning_laws.specs.SoundValues.Sound.{IsSound}
use Rattle.carried_exprs.specs.Sights.{item_name, position_name, the_item, value_name}
use Rattle.query_helpers.proofs.Gives.{mean, gives_variable}
use Rattle.transform_meaning.specs.Places.{at_item}
use Rattle.translated_forms.specs.Forms.{flow_where}
use Rattle.translated_forms.specs.Groups.{members_by, has_key as has_key_test}
use Rattle.translated_forms.specs.Loops.{in_turn, the_items}
use Rattle.translated_forms.specs.Names.{items_name}
use Rattle.lockstep_loops.proofs.FlowGives.{flow_from}
use Rattle.lockstep_loops.proofs.LoopForms.{turn_env, at_gives, item_at_turn}
use Rattle.lockstep_loops.proofs.Sized.{InListOf, sized_from}
use Rattle.lockstep_loops.proofs.Needed.{IsGiven}
use Rattle.lockstep_loops.proofs.Chosen.{at_where, has_key_tells, is_key, kept_only}
use Rattle.lockstep_loops.proofs.GroupRows.{RowOf, RowsOf, key_told, members_of}

abbrev value_alone : Placed Item → List Item
value_alone p = p.value ∷ []

flat_kept : (b : Bool) (p : Placed Item) → flat_map value_alone (kept_only b p) ≡ kept_only b p.value
flat_kept true p = refl
flat_kept false p = refl

module _ (q : Program) where
  flow_tests : (clauses : List Clause) (tested body : Expr) (f : Env) (k : ℕ) →
      outcome q (flow_where clauses tested body) f k
      ≡ flow_from (map (clause_gives meanings (steps q)) clauses) (Some (outcome q tested)) []
      (outcome q body) [] f k
  flow_tests clauses tested body f k =
      let form : FlworForm = record {
        clauses = clauses;
        test = Some tested;
        orders = [];
        stable = false;
        body = body;
      } in
      mean q (Flwor (roll-Flwor form)) f k ∙ ap (λ (m : Meaning). m f k) (rolled_flwor q form)

  abbrev pub chosen_at : Expr → Env → Placed Item → ℕ → Outcome (List Item)
  chosen_at key f p k =
      and_then (truth_at (outcome q (has_key_test key)) (turn_env f p) k)
      (λ b j. Ends (flat_map value_alone (kept_only b p)) j)

  members_does : (key : Expr) (f : Env) (k : ℕ) → outcome q (members_by key) f k
      ≡ and_then (outcome q the_items f k) (λ xs j. and_then (step_outcome (places xs) j)
      (for_each (chosen_at key f)))
  members_does key f k =
      flow_tests (in_turn the_items ∷ []) (has_key_test key) the_item f k
      ∙ ap (λ c. flow_from (c ∷ []) (Some (outcome q (has_key_test key))) [] (outcome q the_item) [] f k)
      (at_gives q item_name position_name the_items)
      ∙ at_where item_name position_name (outcome q the_items) (outcome q (has_key_test key))
      (outcome q the_item) value_alone [] f (λ p j. item_at_turn q f p j) k

module _ (like : Code → Code → Type 0) (rel : Relation) (carries : IsCarrying like rel)
    (q : Program) (key : Meaning) (inner : Expr) (e f : Env) (xs : List Item)
    (near : (p : Placed Item) → InListOf IsSound (length xs) p → (k : ℕ) →
    rel (List Item) (Every IsSound) (key (at_item e p) k) (outcome q inner (turn_env f p) k))
    (a : AtomValue) (held : (p : Placed Item) → look_up (turn_env f p).locals value_name ≡ Some (Atom a ∷ []))
  where
    one_chosen : (p : Placed Item) (row : List Item) → InListOf IsSound (length xs) p → RowOf key e p row →
        (k : ℕ) → rel (List Item) Anything (Ends (kept_only (has_key a (atoms_of row)) p.value) k)
        (chosen_at q inner f p k)
    one_chosen p row is (ys, still, same) k =
        subst (λ o. rel (List Item) Anything o (chosen_at q inner f p k))
        (ap (λ b. Ends (flat_map value_alone (kept_only b p)) k) (key_told a ys)
        ∙ ap (λ l. Ends l k) (flat_kept (has_key a (atoms_of (atomized ys))) p)
        ∙ ap (λ r. Ends (kept_only (has_key a (atoms_of r)) p.value) k) (sym same))
        (subst (rel (List Item) Anything (Ends (go ys) k))
        (sym (ap (λ o. and_then o (λ b j. Ends (flat_map value_alone (kept_only b p)) j))
        (has_key_tells q inner (turn_env f p) a (held p) k)
        ∙ then_assoc (outcome q inner (turn_env f p) k) _ _))
        (subst (λ o. rel (List Item) Anything (and_then o (λ zs j. Ends (go zs) j))
        (and_then (outcome q inner (turn_env f p) k) (λ zs j. Ends (go zs) j))) (still k)
        (carries.next _ _ (Every IsSound) Anything (key (at_item e p) k)
        (outcome q inner (turn_env f p) k) _ _ (near p is k)
        (λ zs j good. carries.ends (List Item) Anything (go zs) j tt))))
      where
        go : List Item → List Item
        go zs = flat_map value_alone (kept_only (list_any (is_key a) (atomized zs)) p)

    all_chosen : (fs : List (Placed Item)) (rows : List (List Item)) →
        Every (InListOf IsSound (length xs)) fs → RowsOf key e fs rows → (k : ℕ) →
        rel (List Item) Anything (Ends (members_of a (values fs) (map atoms_of rows)) k)
        (for_each (chosen_at q inner f) fs k)
    all_chosen [] [] all h k = carries.ends (List Item) Anything [] k tt
    all_chosen [] (row ∷ rows) all h k = absurd h
    all_chosen (p ∷ fs) [] all h k = absurd h
    all_chosen (p ∷ fs) (row ∷ rows) all h k =
        let others = members_of a (values fs) (map atoms_of rows) in
        carries.next (List Item) (List Item) Anything Anything
        (Ends (kept_only (has_key a (atoms_of row)) p.value) k) (chosen_at q inner f p k)
        (λ ys j. and_then (Ends others j) (λ zs i. Ends (ys ++ zs) i)) _
        (one_chosen p row all.0 h.0 k) (λ ys j u.
        carries.next (List Item) (List Item) Anything Anything (Ends others j)
        (for_each (chosen_at q inner f) fs j) (λ zs i. Ends (ys ++ zs) i) _
        (all_chosen fs rows all.1 h.1 j)
        (λ zs i w. carries.ends (List Item) Anything (ys ++ zs) i tt))

    -- the members of the group
    pub members_given : (rows : List (List Item)) → Every IsSound xs → RowsOf key e (placed xs) rows →
        nat_lt (length xs) (2 ^ 63) ≡ true → look_up f.locals items_name ≡ Some xs →
        IsGiven like rel carries q (members_by inner) f (members_of a xs (map atoms_of rows))
    members_given rows good h few items k =
        let ms = members_of a xs (map atoms_of rows) in
        subst (rel (List Item) (λ ys. ys ≡ ms) (Ends ms k))
        (sym (members_does q inner f k
        ∙ rw (gives_variable q items_name f xs items k, few) refl))
        (carries.also (List Item) Anything (λ ys. ys ≡ ms) (Ends ms k) _
        (subst (λ vs. rel (List Item) Anything (Ends (members_of a vs (map atoms_of rows)) k)
        (for_each (chosen_at q inner f) (placed xs) k)) (values_placed 1 (length xs) xs)
        (all_chosen (placed xs) rows (sized_from IsSound 1 (length xs) (length xs) refl xs good) h k)) refl)
