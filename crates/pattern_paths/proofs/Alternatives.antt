-- Alternatives of a pattern, and patterns at an atom.
use Rattle.std.proofs.Common.{◌≡◌, ℕ, List, [], ◌∷◌, ◌++◌, map, length, reverse, refl, ap, ◌∙◌}
use Rattle.std.proofs.Common.{Bool, true, false}
use Rattle.std.proofs.lemmas.List.{reverse-append}
use Rattle.std.specs.Prelude.{◌||◌, nat_le, if◌then◌else◌, codes, Some}
use Rattle.std.specs.List.{list_any}
use Rattle.xt_names.specs.declared.codes.Code.{Code}
use Rattle.xt_names.specs.declared.codes.Code.TheVariants.{Dynamic}
use Rattle.xt_names.specs.declared.codes.DynamicCode.TheVariants.{XPTY0019}
use Rattle.xt_types.specs.declared.axes.Axis.TheVariants as axis
use Rattle.xt_tree.specs.Place.{Place}
use Rattle.xt_atoms.specs.declared.atoms.Atom.{Atom as AtomValue}
use Rattle.xdm_items.specs.declared.items.Item.TheVariants.{Node, Atom}
use Rattle.xdm_items.specs.Truth.{truth_of, truth_of_atom}
use Rattle.function_table.specs.Find.{found, found_in, is_in_fn}
use Rattle.function_table.specs.Table.{joined}
use Rattle.function_table.specs.declared.builtins.Builtin.TheVariants as function
use Rattle.fn_lib.specs.Functions.{function_value, value_of}
use Rattle.operator_values.specs.Nodes.{is_node}
use Rattle.xt_syntax.specs.declared.exprs.Expr.{Expr}
use Rattle.xt_syntax.specs.declared.exprs.Clause.TheViews.{roll-Expr}
use Rattle.xt_syntax.specs.declared.exprs.Clause.TheOpen.{Call, Or, Quant, Slash, Var}
use Rattle.xt_syntax.specs.declared.patterns.Pattern.{Pattern}
use Rattle.xt_syntax.specs.declared.patterns.PatternStep.{PatternStep}
use Rattle.xt_syntax.specs.Layers.{bind_gives}
use Rattle.expr_meaning.specs.Outcomes.Outcome.{Ends, Fails, Every, and_then, step_outcome, for_each}
use Rattle.expr_meaning.specs.Env.{Env, Meaning, Program, at_focus, look_up, or_global}
use Rattle.expr_meaning.specs.Calls.{called, library}
use Rattle.expr_meaning.specs.Logic.{as_items, first_of, quantified, truth_at, unless}
use Rattle.expr_meaning.specs.Logic.{item_decides, Bound}
use Rattle.expr_meaning.specs.Meaning.{meanings, outcome, steps}
use Rattle.expr_meaning.specs.Paths.{path_places, path_value}
use Rattle.expr_laws.proofs.Rolled.{rolled}
use Rattle.meaning_laws.specs.SoundValues.Sound.{IsSound}
use Rattle.match_patterns.specs.Patterns.{pattern_matches}
use Rattle.carried_exprs.specs.Sights.{item_name, the_item, library_call}
use Rattle.pattern_paths.specs.Upwards.{never, towards, upward_from}
use Rattle.pattern_paths.specs.Matching.{any_match_test, bound_step, from_item, has_step}
use Rattle.pattern_paths.specs.Matching.{is_whole_pattern}
use Rattle.pattern_paths.specs.Matching.{longest_path, match_test, path_along, some_along}
use Rattle.pattern_paths.specs.Properties.{IsUsable}
use Rattle.pattern_paths.proofs.Law.{match_law}
use Rattle.pattern_paths.proofs.Walks.{bound_is, bound_of}
use Rattle.xt_names.specs.ExprNames.{library_name}

module _ (q : Program) (env : Env) where
  -- false()

  false_called : called (library_name (codes "false")) 0 ≡ library function.False
  unfolding called found found_in joined is_in_fn
  false_called = refl

  never_tells : (k : ℕ) → truth_at (outcome q never) env k ≡ Ends false k
  unfolding function_value value_of truth_of truth_of_atom
  never_tells k =
      ap (λ (m : Meaning). truth_at m env k) (rolled q (Call (library_name (codes "false")) []))
      ∙ rw false_called refl

  module _ (n : Place) (sound : IsSound (Node n)) (held : look_up env.locals item_name
      ≡ Some (Node n ∷ [])) where
    abbrev matches_here : Pattern → Bool
    matches_here p = pattern_matches p n

    one_tells : (p : Pattern) → IsUsable p → (k : ℕ) →
        truth_at (outcome q (match_test p)) env k ≡ Ends (matches_here p) k
    one_tells p u k = match_law q p env n k sound held u.allowed u.whole

    first_tells : (ps : List Pattern) → Every IsUsable ps → (k : ℕ) →
        first_of true (map (outcome q) (map match_test ps)) env k ≡ Ends (list_any matches_here ps)
        k
    first_tells [] u k = refl
    first_tells (p ∷ ps) u k =
        let rest = first_of true (map (outcome q) (map match_test ps)) env in
        ap (λ o. and_then o (unless true rest)) (one_tells p u.0 k)
        ∙ by (matches_here p) (first_tells ps u.1 k)
      where
        by : (b : Bool) →
            first_of true (map (outcome q) (map match_test ps)) env k
            ≡ Ends (list_any matches_here ps) k →
            unless true (first_of true (map (outcome q) (map match_test ps)) env) b k
            ≡ Ends (b || list_any matches_here ps) k
        by true h = refl
        by false h = h

    truth_told : (b : Bool) (k : ℕ) →
        and_then (as_items (Ends b k)) (λ xs j. step_outcome (truth_of xs) j) ≡ Ends b k
    unfolding truth_of truth_of_atom
    truth_told b k = refl

    or_false : (b : Bool) → b ≡ (b || false)
    or_false true = refl
    or_false false = refl

    pub alternatives_tell : (ps : List Pattern) → Every IsUsable ps → (k : ℕ) →
        truth_at (outcome q (any_match_test ps)) env k
        ≡ Ends (list_any (λ p. pattern_matches p n) ps) k
    alternatives_tell [] u k = never_tells k
    alternatives_tell (p ∷ []) u k = one_tells p u.0 k
        ∙ ap (λ b. Ends b k) (or_false (matches_here p))
    alternatives_tell (p ∷ r ∷ more) u k =
        ap (λ (m : Meaning). truth_at m env k)
        (rolled q (Or (match_test p ∷ match_test r ∷ map match_test more)))
        ∙ ap (λ o. and_then (as_items o) (λ xs j. step_outcome (truth_of xs) j))
        (first_tells (p ∷ r ∷ more) u k)
        ∙ truth_told (list_any matches_here (p ∷ r ∷ more)) k

  -- an atom is no node from which a path begins

  abbrev no_node : Code
  no_node = Dynamic XPTY0019

  module _ (a : AtomValue) (held : look_up env.locals item_name ≡ Some (Atom a ∷ [])) where
    item_atom : (k : ℕ) → outcome q the_item env k ≡ Ends (Atom a ∷ []) k
    item_atom k =
        ap (λ (m : Meaning). m env k) (rolled q (Var item_name))
        ∙ ap (λ o. step_outcome (or_global o (look_up q.globals item_name)) k) held

    no_places : (k : ℕ) → step_outcome (path_places (Atom a ∷ [])) k ≡ Fails no_node
    unfolding is_node
    no_places k = refl

    slash_fails : (e : Expr) (k : ℕ) → outcome q (roll-Expr (Slash the_item e)) env k
        ≡ Fails no_node
    slash_fails e k =
        ap (λ (m : Meaning). m env k) (rolled q (Slash the_item e))
        ∙ ap (λ o. and_then o (λ xs j.
        and_then (step_outcome (path_places xs) j) (λ fs i.
        and_then (for_each (λ f. outcome q e (at_focus env f)) fs i)
        (λ ys z. step_outcome (path_value ys) z)))) (item_atom k)
        ∙ ap (λ o. and_then o (λ fs i.
        and_then (for_each (λ f. outcome q e (at_focus env f)) fs i)
        (λ ys z. step_outcome (path_value ys) z))) (no_places k)

    path_fails : (b : Expr) → ((k : ℕ) → outcome q b env k ≡ Fails no_node) →
        (es : List Expr) (k : ℕ) →
        outcome q (path_along b es) env k ≡ Fails no_node
    path_fails b h [] k = h k
    path_fails b h (e ∷ es) k =
        path_fails (roll-Expr (Slash b e)) (λ j.
        ap (λ (m : Meaning). m env j) (rolled q (Slash b e))
        ∙ ap (λ o. and_then o (λ xs j.
        and_then (step_outcome (path_places xs) j) (λ fs i.
        and_then (for_each (λ f. outcome q e (at_focus env f)) fs i)
        (λ ys z. step_outcome (path_value ys) z)))) (h j)) es k

    abbrev the_true : Meaning
    the_true = outcome q (library_call (codes "true") [])

    some_fails : (e : Expr) (es : List Expr) (k : ℕ) → outcome q (some_along (e ∷ es)) env k
        ≡ Fails no_node
    some_fails e es k =
        let rest = map (bind_gives meanings (steps q)) (map bound_step es) in
        ap (λ (m : Meaning). m env k)
        (rolled q (Quant false (map bound_step (e ∷ es)) (library_call (codes "true") [])))
        ∙ ap (λ (b : Bound). as_items (quantified true (b ∷ rest) the_true env k)) (bound_is q e)
        ∙ ap (λ o. as_items (and_then o
        (item_decides true (bound_of q e) (quantified true rest the_true) env)))
        (slash_fails e k)

    from_item_fails : (e : Expr) (es : List Expr) (k : ℕ) → outcome q (from_item (e ∷ es)) env k
        ≡ Fails no_node
    from_item_fails e es k = by (nat_le (length (e ∷ es)) longest_path)
      where
        by : (b : Bool) →
            outcome q (if b then path_along the_item (e ∷ es) else some_along (e ∷ es)) env k
            ≡ Fails no_node
        by true = path_fails (roll-Expr (Slash the_item e)) (slash_fails e) es k
        by false = some_fails e es k

    upward_fails : (rooted : Bool) (more : List PatternStep) → (rooted || has_step more) ≡ true →
        (k : ℕ) →
        outcome q (from_item (upward_from rooted axis.Itself more)) env k ≡ Fails no_node
    upward_fails true [] h k = from_item_fails _ [] k
    upward_fails false [] h k = absurd cc
    upward_fails rooted (s ∷ before) h k = from_item_fails _
        (upward_from rooted (towards s.deep) before) k

    some_behind : (xs : List PatternStep) (s : PatternStep) → has_step (xs ++ s ∷ []) ≡ true
    some_behind [] s = refl
    some_behind (x ∷ xs) s = refl

    turned : (rooted : Bool) (more : List PatternStep) → (rooted || has_step more) ≡ true →
        (rooted || has_step (reverse more)) ≡ true
    turned true more h = refl
    turned false [] h = h
    turned false (s ∷ more) h = ap has_step (reverse-append (s ∷ []) more)
        ∙ some_behind (reverse more) s

    pub atom_fails : (p : Pattern) → is_whole_pattern p ≡ true → (k : ℕ) →
        outcome q (match_test p) env k ≡ Fails no_node
    atom_fails p h k = upward_fails p.rooted (reverse p.steps) (turned p.rooted p.steps h) k
