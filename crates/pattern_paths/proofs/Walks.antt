-- Paths from the node that a variable holds, and bindings that walk as they do, in every program.
use Rattle.std.proofs.Common.{◌≡◌, ℕ, suc, ◌<◌, ◌^◌, List, [], ◌∷◌, ◌++◌, map, length, refl, ap}
use Rattle.std.proofs.Common.{sym, ◌∙◌}
use Rattle.std.proofs.Common.{Bool, true, false, arith}
use Rattle.std.proofs.lemmas.List.{map-append}
use Rattle.std.specs.Prelude.{◌||◌, codes, Some, None}
use Rattle.std.specs.List.{list_any}
use Rattle.xt_tree.specs.Place.{Place}
use Rattle.xdm_items.specs.declared.items.Item.{Item}
use Rattle.xdm_items.specs.declared.items.Item.TheVariants.{Node}
use Rattle.xdm_items.specs.Truth.{truth_of, truth_of_atom}
use Rattle.function_table.specs.Find.{found, found_in, is_in_fn}
use Rattle.function_table.specs.Table.{joined}
use Rattle.function_table.specs.declared.builtins.Builtin.TheVariants as function
use Rattle.fn_lib.specs.Functions.{function_value, value_of}
use Rattle.node_axes.specs.StepWalks.Nodes.{Focus, Nodes, in_tree_order, nodes_of_each}
use Rattle.node_axes.specs.StepWalks.Within.{AreWithin}
use Rattle.node_axes.proofs.StepWalks.NodeLemmas.{Stays, each_any, each_within, same_in_order}
use Rattle.node_axes.proofs.StepWalks.NodeLemmas.{tree_order_within}
use Rattle.xt_syntax.specs.declared.exprs.Expr.{Expr}
use Rattle.xt_syntax.specs.declared.exprs.Clause.TheViews.{roll-Expr}
use Rattle.xt_syntax.specs.declared.exprs.Clause.TheOpen.{Call, Quant, Slash, Var}
use Rattle.xt_syntax.specs.Layers.{bind_gives}
use Rattle.expr_meaning.specs.Outcomes.Outcome.{Ends, and_then, step_outcome, for_each}
use Rattle.expr_meaning.specs.SortMeaning.Sorted.{placed_from}
use Rattle.expr_meaning.specs.Env.{Env, Meaning, Program, at_focus, bind, look_up, or_global}
use Rattle.expr_meaning.specs.Calls.{called, library}
use Rattle.expr_meaning.specs.Logic.{Bound, as_items, item_decides, quantified, truth_at, unless}
use Rattle.expr_meaning.specs.Meaning.{meanings, outcome, steps}
use Rattle.expr_meaning.specs.Paths.{path_places, path_value}
use Rattle.expr_laws.proofs.Rolled.{rolled, rolled_bind}
use Rattle.expr_laws.proofs.Texts.{BindForm}
use Rattle.walk_laws.specs.NodeOrders.Counted.{IsCountable, AreCountable}
use Rattle.walk_laws.proofs.NodeOrders.Counts.{all_countable, order_short}
use Rattle.walk_laws.proofs.NodeOrders.Orders.{in_order_of_tree}
use Rattle.walk_laws.specs.QuietValues.Given.{at_node}
use Rattle.carried_exprs.specs.Sights.{item_name, the_item, library_call}
use Rattle.pattern_paths.specs.Matching.{path_along, bound_step, some_along}
use Rattle.pattern_paths.proofs.Beside.{itself_within}
use Rattle.pattern_paths.proofs.Reach.{reach}
use Rattle.walk_laws.proofs.QuietValues.Slashes.{nodes_placed, nodes_as_path}
use Rattle.walk_laws.proofs.QuietValues.Truths.{nodes_true}
use Rattle.pattern_paths.proofs.Among.{has_any}
use Rattle.std.proofs.Math.Bool.{or-false}
use Rattle.xt_names.specs.ExprNames.{library_name}

-- lists of nodes

-- a step that leads to these nodes, in every place of a run

abbrev pub Leads : Program → Expr → Nodes → Type 0
Leads p e g =
    (env : Env) (f : Focus) → IsCountable f.node → (k : ℕ) →
    outcome p e (at_node env f) k ≡ Ends (map Node (g f.node)) k

abbrev pub AllLead : Program → List Expr → List Nodes → Type 0
AllLead p [] [] = Unit {0}
AllLead p [] (g ∷ gs) = ⊥
AllLead p (e ∷ es) [] = ⊥
AllLead p (e ∷ es) (g ∷ gs) = Leads p e g × Stays g × AllLead p es gs

abbrev further : Place → Nodes → List Place → List Place
further n g ns = in_tree_order n (nodes_of_each g ns)

module _ (p : Program) where
  -- from each node one step further
  each_further : (e : Expr) (g : Nodes) → Leads p e g → (env : Env) (size at : ℕ) (ns : List Place)
      →
      AreCountable ns → (k : ℕ) →
      for_each (λ f. outcome p e (at_focus env f)) (placed_from at size (map Node ns)) k
      ≡ Ends (map Node (nodes_of_each g ns)) k
  unfolding nodes_of_each
  each_further e g l env size at [] c k = refl
  each_further e g l env size at (n ∷ ns) c k =
      ap (λ o. and_then o (λ ys j. and_then
      (for_each (λ f. outcome p e (at_focus env f)) (placed_from (suc at) size (map Node ns)) j)
      (λ zs i. Ends (ys ++ zs) i)))
      (l env (record { node = n; position = at; size = size }) c.0 k)
      ∙ ap (λ o. and_then o (λ zs i. Ends (map Node (g n) ++ zs) i))
      (each_further e g l env size (suc at) ns c.1 k)
      ∙ ap (λ ys. Ends ys k) (sym (map-append Node (g n) (nodes_of_each g ns)))

  -- nodes of the tree of n, and what leads to them
  record Found (a : Expr) (env : Env) (n : Place) (ns : List Place) : Type 0 where
    gives : (k : ℕ) → outcome p a env k ≡ Ends (map Node ns) k
    within : AreWithin n ns
    few : length ns < 2 ^ 63

  step_further : (a e : Expr) (g : Nodes) → Leads p e g → Stays g → (env : Env) (n : Place) →
      IsCountable n →
      (ns : List Place) → Found a env n ns → Found (roll-Expr (Slash a e)) env n (further n g ns)
  step_further a e g l s env n c ns f =
      let zs = nodes_of_each g ns in
      record {
        gives = λ k.
            ap (λ (m : Meaning). m env k) (rolled p (Slash a e))
            ∙ ap (λ o. and_then o (λ xs j.
            and_then (step_outcome (path_places xs) j) (λ fs i.
            and_then (for_each (λ q. outcome p e (at_focus env q)) fs i)
            (λ ys z. step_outcome (path_value ys) z)))) (f.gives k)
            ∙ ap (λ o. and_then o (λ fs i.
            and_then (for_each (λ q. outcome p e (at_focus env q)) fs i)
            (λ ys z. step_outcome (path_value ys) z))) (nodes_placed ns f.few k)
            ∙ ap (λ o. and_then o (λ ys z. step_outcome (path_value ys) z))
            (each_further e g l env (length (map Node ns)) 1 ns (all_countable n ns c f.within) k)
            ∙ ap (λ r. step_outcome r k) (nodes_as_path zs)
            ∙ ap (λ ys. Ends ys k) (in_order_of_tree n zs (each_within n g ns s f.within));
        within = tree_order_within n zs;
        few = (let x = order_short n zs in let y = c.few in omega (arith, x, y));
      }

  -- some node is reached
  further_any : (P : Place → Bool) (g : Nodes) → Stays g → (n : Place) (ns : List Place) →
      AreWithin n ns →
      list_any P (further n g ns) ≡ list_any (λ m. list_any P (g m)) ns
  further_any P g s n ns w = same_in_order n (nodes_of_each g ns) (each_within n g ns s w) P
      ∙ each_any P g ns

  -- a path is true where it leads somewhere
  path_tells : (a : Expr) (es : List Expr) (gs : List Nodes) → AllLead p es gs →
      (env : Env) (n : Place) →
      IsCountable n → (ns : List Place) → Found a env n ns → (k : ℕ) →
      truth_at (outcome p (path_along a es)) env k ≡ Ends (list_any (reach gs) ns) k
  path_tells a [] [] l env n c ns f k =
      ap (λ o. and_then o (λ xs j. step_outcome (truth_of xs) j)) (f.gives k)
      ∙ ap (λ r. step_outcome r k) (nodes_true ns) ∙ ap (λ b. Ends b k) (has_any ns)
  path_tells a [] (g ∷ gs) l env n c ns f k = absurd l
  path_tells a (e ∷ es) [] l env n c ns f k = absurd l
  path_tells a (e ∷ es) (g ∷ gs) l env n c ns f k =
      path_tells (roll-Expr (Slash a e)) es gs l.2 env n c (further n g ns)
      (step_further a e g l.0 l.1 env n c ns f) k
      ∙ ap (λ b. Ends b k) (further_any (reach gs) g l.1 n ns f.within)

  -- the node that the variable holds

  pub item_given : (env : Env) (n : Place) → look_up env.locals item_name ≡ Some (Node n ∷ []) →
      (k : ℕ) →
      outcome p the_item env k ≡ Ends (Node n ∷ []) k
  item_given env n h k =
      ap (λ (m : Meaning). m env k) (rolled p (Var item_name))
      ∙ ap (λ o. step_outcome (or_global o (look_up p.globals item_name)) k) h

  item_found : (env : Env) (n : Place) → IsCountable n → look_up env.locals item_name
      ≡ Some (Node n ∷ []) →
      Found the_item env n (n ∷ [])
  item_found env n c h = record {
    gives = item_given env n h;
    within = (itself_within n c.exists, tt);
    few = omega arith;
  }

  pub path_from_item : (es : List Expr) (gs : List Nodes) → AllLead p es gs →
      (env : Env) (n : Place) →
      IsCountable n → look_up env.locals item_name ≡ Some (Node n ∷ []) → (k : ℕ) →
      truth_at (outcome p (path_along the_item es)) env k ≡ Ends (reach gs n) k
  path_from_item es gs l env n c h k =
      path_tells the_item es gs l env n c (n ∷ []) (item_found env n c h) k
      ∙ ap (λ b. Ends b k) (or-false (reach gs n))

  -- true()

  true_called : called (library_name (codes "true")) 0 ≡ library function.True
  unfolding called found found_in joined is_in_fn
  true_called = refl

  true_tells : (env : Env) (k : ℕ) →
      truth_at (outcome p (library_call (codes "true") [])) env k ≡ Ends true k
  unfolding function_value value_of truth_of truth_of_atom
  true_tells env k =
      ap (λ (m : Meaning). truth_at m env k) (rolled p (Call (library_name (codes "true")) []))
      ∙ rw true_called refl

  -- bindings

  abbrev the_true : Meaning
  the_true = outcome p (library_call (codes "true") [])

  abbrev bound : Expr → Bound
  bound e = bind_gives meanings (steps p) (bound_step e)

  abbrev pub bound_of : Expr → Bound
  bound_of e = record {
    var = item_name;
    kind = None;
    source = outcome p
        (roll-Expr (Slash the_item e));
  }

  pub bound_is : (e : Expr) → bound e ≡ bound_of e
  bound_is e =
      (let b : BindForm = record {
        var = item_name;
        kind = None;
        source = roll-Expr
            (Slash the_item e);
      } in
      rolled_bind p b)

  item_bound : (env : Env) (xs : List Item) → look_up (bind item_name xs env).locals item_name
      ≡ Some xs
  unfolding look_up
  item_bound env xs = refl

  abbrev Tells : List Bound → List Nodes → Type 0
  Tells bs gs =
      (env : Env) (n : Place) → IsCountable n → look_up env.locals item_name ≡ Some (Node n ∷ []) →
      (k : ℕ) →
      quantified true bs the_true env k ≡ Ends (reach gs n) k

  -- one item after another
  decided : (e : Expr) (bs : List Bound) (gs : List Nodes) → Tells bs gs →
      (env : Env) (ns : List Place) →
      AreCountable ns → (k : ℕ) →
      item_decides true (bound_of e) (quantified true bs the_true) env (map Node ns) k
      ≡ Ends (list_any (reach gs) ns) k
  decided e bs gs t env [] c k = refl
  decided e bs gs t env (n ∷ ns) c k =
      ap (λ o. and_then o (unless true
      (item_decides true (bound_of e) (quantified true bs the_true) env (map Node ns))))
      (t (bind item_name (Node n ∷ []) env) n c.0 (item_bound env (Node n ∷ [])) k)
      ∙ by (reach gs n) (decided e bs gs t env ns c.1 k)
    where
      by : (b : Bool) →
          item_decides true (bound_of e) (quantified true bs the_true) env (map Node ns) k
          ≡ Ends (list_any (reach gs) ns) k →
          unless true (item_decides true (bound_of e) (quantified true bs the_true) env
          (map Node ns)) b k
          ≡ Ends (b || list_any (reach gs) ns) k
      by true h = refl
      by false h = h

  source_given : (e : Expr) (g : Nodes) → Leads p e g → Stays g → (env : Env) (n : Place) →
      IsCountable n →
      look_up env.locals item_name ≡ Some (Node n ∷ []) → Found (roll-Expr (Slash the_item e)) env
      n (further n g (n ∷ []))
  source_given e g l s env n c h = step_further the_item e g l s env n c (n ∷ [])
      (item_found env n c h)

  bindings_tell : (es : List Expr) (gs : List Nodes) → AllLead p es gs →
      Tells (map (bind_gives meanings (steps p)) (map bound_step es)) gs
  bindings_tell [] [] l env n c h k = true_tells env k
  bindings_tell [] (g ∷ gs) l env n c h k = absurd l
  bindings_tell (e ∷ es) [] l env n c h k = absurd l
  bindings_tell (e ∷ es) (g ∷ gs) l env n c h k =
      let rest = map (bind_gives meanings (steps p)) (map bound_step es) in
      let f = source_given e g l.0 l.1 env n c h in
      let ns = further n g (n ∷ []) in
      ap (λ b. quantified true (b ∷ rest) the_true env k) (bound_is e)
      ∙ ap (λ o. and_then o (item_decides true (bound_of e) (quantified true rest the_true) env))
      (f.gives k)
      ∙ decided e rest gs (bindings_tell es gs l.2) env ns (all_countable n ns c f.within) k
      ∙ ap (λ b. Ends b k) (further_any (reach gs) g l.1 n (n ∷ []) (itself_within n c.exists, tt)
      ∙ or-false (list_any (reach gs) (g n)))

  truth_told : (b : Bool) (k : ℕ) →
      and_then (as_items (Ends b k)) (λ xs j. step_outcome (truth_of xs) j) ≡ Ends b k
  unfolding truth_of truth_of_atom
  truth_told b k = refl

  pub some_from_item : (es : List Expr) (gs : List Nodes) → AllLead p es gs →
      (env : Env) (n : Place) →
      IsCountable n → look_up env.locals item_name ≡ Some (Node n ∷ []) → (k : ℕ) →
      truth_at (outcome p (some_along es)) env k ≡ Ends (reach gs n) k
  some_from_item es gs l env n c h k =
      ap (λ (m : Meaning). truth_at m env k)
      (rolled p (Quant false (map bound_step es) (library_call (codes "true") [])))
      ∙ ap (λ o. and_then (as_items o) (λ xs j. step_outcome (truth_of xs) j))
      (bindings_tell es gs l env n c h k)
      ∙ truth_told (reach gs n) k
