-- What the declarations of a key give a node is in the query what it is in the stylesheet.
use Rattle.std.proofs.Common.{◌≡◌, ℕ, List, [], ◌∷◌, ◌++◌, map, refl, sym, ap, subst, ◌∙◌}
use Rattle.std.specs.Prelude.{Bool, true, false, if◌then◌else◌, codes, Result, Ok, Err}
use Rattle.std.specs.List.{list_all}
use Rattle.xt_names.specs.declared.codes.Code.{Code}
use Rattle.xt_tree.specs.Place.{Place}
use Rattle.xt_syntax.specs.declared.exprs.Expr.{Expr}
use Rattle.xt_syntax.specs.declared.exprs.Clause.TheViews.{roll-Expr}
use Rattle.xt_syntax.specs.declared.exprs.Clause.TheOpen.{Call, Comma, Slash}
use Rattle.xdm_items.specs.Values.{atomized}
use Rattle.xdm_items.specs.declared.items.Item.{Item}
use Rattle.xdm_items.specs.declared.items.Item.TheVariants.{Node, Atom}
use Rattle.function_table.specs.Find.{found, found_in, is_in_fn}
use Rattle.function_table.specs.Table.{joined}
use Rattle.function_table.specs.declared.builtins.Builtin.TheVariants as function
use Rattle.fn_lib.specs.Functions.{function_value, value_of}
use Rattle.operator_values.specs.Nodes.{is_node}
use Rattle.operator_values.specs.Operands.{atom_of}
use Rattle.xdm_items.specs.FunctionArguments.Arguments.{and_then as result_then}
use Rattle.xt_sheets.specs.declared.sheets.KeyRule.{KeyRule}
use Rattle.key_index.specs.declared.indexes.KeyPair.{KeyPair}
use Rattle.doc_set.specs.Sets.{DocumentSet}
use Rattle.match_patterns.specs.Patterns.{pattern_matches}
use Rattle.expr_meaning.specs.Outcomes.Outcome.{Outcome, Ends, and_then, step_outcome}
use Rattle.expr_meaning.specs.Calls.{called, library, listed as listed_value, lists_of}
use Rattle.expr_meaning.specs.Env.{Env, Meaning, Program, at_focus}
use Rattle.expr_meaning.specs.Meaning.{outcome}
use Rattle.expr_meaning.specs.Paths.{is_atom, path_value, slash_of}
use Rattle.expr_meaning.specs.Values.{comma_of}
use Rattle.meaning_laws.specs.SoundValues.Sound.{IsSound}
use Rattle.carried_exprs.specs.Sights.{item_name, library_call, nothing, the_item}
use Rattle.transform_meaning.specs.Keys.{each_value, pairs_by, pairs_for, use_value}
use Rattle.transform_meaning.specs.Places.{alone}
use Rattle.query_helpers.proofs.Gives.{Gives, Tells, gives_call, gives_nothing, gives_variable}
use Rattle.query_helpers.proofs.Gives.{if_else, if_then, mean}
use Rattle.key_functions.specs.KeyBody.{KeyParts, listed, own_values, values_by}
use Rattle.key_functions.specs.Keys.{AreDeclared, IsDeclared, IsFailure, IsKeyPlace, SameAs}
use Rattle.key_functions.proofs.Found.{then_then, then_as_well}
use Rattle.key_functions.proofs.Same.{alone_is, each_mapped, failed_then, same_then}
use Rattle.xt_names.specs.Lists.{stable_order}
use Rattle.xt_names.specs.ExprNames.{library_name}

data_called : called (library_name (codes "data")) 1 ≡ library function.Data
unfolding called found found_in joined is_in_fn
data_called = refl

data_value : (xs : List Item) → function_value function.Data (xs ∷ []) ≡ Ok (atomized xs)
unfolding function_value value_of
data_value xs = refl

-- a path from one node
path_alone : (o : Outcome (List Item)) (g : List Item → ℕ → Outcome (List Item)) →
    and_then (and_then o (λ ys j. and_then (Ends [] j) (λ zs i. Ends (ys ++ zs) i))) g
    ≡ and_then o g
path_alone o g = ap (λ p. and_then p g) (alone_is o)

pub slash_one : (a b : Meaning) (env : Env) (n : Place) (k : ℕ) → a env k ≡ Ends (Node n ∷ []) k →
    slash_of a b env k
    ≡ and_then (b (at_focus env (alone (Node n))) k) (λ ys j. step_outcome (path_value ys) j)
unfolding is_node
slash_one a b env n k is = rw is (path_alone (b (at_focus env (alone (Node n))) k) _)

-- atoms go through a path as they come
all_atoms : (xs : List Item) → list_all is_atom (atomized xs) ≡ true
unfolding atomized
all_atoms [] = refl
all_atoms (Node n ∷ xs) = all_atoms xs
all_atoms (Atom a ∷ xs) = all_atoms xs

atoms_path : (xs : List Item) → path_value (atomized xs) ≡ Ok (atomized xs)
unfolding atomized is_node stable_order
atoms_path [] = refl
atoms_path (Node n ∷ xs) = rw (all_atoms xs) refl
atoms_path (Atom a ∷ xs) = rw (all_atoms xs) refl

abbrev pub pair_item : KeyPair → Item
pair_item p = Atom p.value

pairs_are : (n : Place) (xs : List Item) → map pair_item (pairs_for n xs) ≡ atomized xs
unfolding atomized
pairs_are n [] = refl
pairs_are n (Node m ∷ xs) = ap (λ (z : List Item). Atom (atom_of (Node m)) ∷ z) (pairs_are n xs)
pairs_are n (Atom a ∷ xs) = ap (λ (z : List Item). Atom a ∷ z) (pairs_are n xs)

module _ (q : Program) (documents : DocumentSet) (env : Env) (n : Place)
    (sound : IsSound (Node n)) (place : IsKeyPlace env n) where
  pub item_given : Gives q the_item env (Node n ∷ [])
  item_given = gives_variable q item_name env (Node n ∷ []) place.item

  abbrev inside : Env
  inside = at_focus env (alone (Node n))

  inside_place : IsKeyPlace inside n
  inside_place = record { item = place.item; own = place.own }

  -- `$x:item/data(e)`
  abbrev data_of : Expr → Expr
  data_of e = library_call (codes "data") (e ∷ [])

  data_fails : (e : Expr) (k : ℕ) → IsFailure (outcome q e inside k) →
      IsFailure (outcome q (data_of e) inside k)
  data_fails e k h =
      subst IsFailure (sym (mean q (Call (library_name (codes "data")) (e ∷ [])) inside k))
      (failed_then (lists_of (outcome q e ∷ []) inside k) _
      (failed_then (listed_value inside (outcome q e) k) _ (failed_then (outcome q e inside k) _ h)))

  from_item : (d : Expr) (k : ℕ) → outcome q (roll-Expr (Slash the_item d)) env k
      ≡ and_then (outcome q d inside k) (λ ys j. step_outcome (path_value ys) j)
  from_item d k =
      mean q (Slash the_item d) env k
      ∙ slash_one (outcome q the_item) (outcome q d) env n k (item_given k)

  data_same : (e : Expr) (r : Result (List Item) Code) →
      ((k : ℕ) → SameAs r (outcome q e inside k) k) → (k : ℕ) →
      SameAs (result_then r (λ xs. Ok (atomized xs)))
      (outcome q (roll-Expr (Slash the_item (data_of e))) env k) k
  data_same e (Ok xs) h k =
      from_item (data_of e) k
      ∙ ap (λ o. and_then o (λ ys j. step_outcome (path_value ys) j))
      (gives_call q (library_name (codes "data")) function.Data e inside xs (atomized xs) data_called
      h (data_value xs) k)
      ∙ ap (λ v. step_outcome v k) (atoms_path xs)
  data_same e (Err code) h k =
      subst IsFailure (sym (from_item (data_of e) k))
      (failed_then (outcome q (data_of e) inside k) _ (data_fails e k (h k)))

  -- one declaration
  abbrev given : KeyRule → Result (List Item) Code
  given d = result_then (pairs_by documents n d) (λ ps. Ok (map pair_item ps))

  value_is : (r : Result (List Item) Code) →
      result_then r (λ xs. Ok (atomized xs))
      ≡ result_then (result_then r (λ xs. Ok (pairs_for n xs))) (λ ps. Ok (map pair_item ps))
  value_is r =
      then_as_well r atomized (λ xs. map pair_item (pairs_for n xs)) (λ xs. sym (pairs_are n xs))
      ∙ sym (then_then r (pairs_for n) (map pair_item))

  abbrev path_of : KeyParts → Expr
  path_of c = roll-Expr (Slash the_item (data_of c.value))

  by_same : (d : KeyRule) (c : KeyParts) → IsDeclared q documents d c → (k : ℕ) →
      SameAs (given d) (outcome q (values_by c) env k) k
  by_same d c h k = by (pattern_matches d.pattern n) (h.test env n sound place)
    where
      by : (b : Bool) → Tells q c.test env b → SameAs (result_then (if b
          then result_then (use_value documents d.key n) (λ xs. Ok (pairs_for n xs)) else Ok [])
          (λ ps. Ok (map pair_item ps))) (outcome q (values_by c) env k) k
      by true t =
          subst (λ r. SameAs r (outcome q (values_by c) env k) k)
          (value_is (use_value documents d.key n))
          (subst (λ o. SameAs (result_then (use_value documents d.key n) (λ xs. Ok (atomized xs))) o k)
          (sym (if_then q c.test (path_of c) nothing env t k))
          (data_same c.value (use_value documents d.key n)
          (h.value inside n sound inside_place refl) k))
      by false t = if_else q c.test (path_of c) nothing env t k ∙ gives_nothing q env k

  -- all of them
  all_same : (ds : List KeyRule) (cs : List KeyParts) → AreDeclared q documents ds cs → (k : ℕ) →
      SameAs (each_value given ds) (comma_of (map (outcome q) (map values_by cs)) env k) k
  all_same [] [] h k = refl
  all_same [] (c ∷ cs) h k = absurd h
  all_same (d ∷ ds) [] h k = absurd h
  all_same (d ∷ ds) (c ∷ cs) h k =
      same_then (given d) (λ ys. result_then (each_value given ds) (λ zs. Ok (ys ++ zs)))
      (outcome q (values_by c) env k)
      (λ ys j. and_then (comma_of (map (outcome q) (map values_by cs)) env j)
      (λ zs i. Ends (ys ++ zs) i)) k (by_same d c h.0 k) (λ ys.
      same_then (each_value given ds) (λ zs. Ok (ys ++ zs))
      (comma_of (map (outcome q) (map values_by cs)) env k) (λ zs i. Ends (ys ++ zs) i) k
      (all_same ds cs h.1 k) (λ zs. refl))

  listed_is : (es : List Expr) (k : ℕ) →
      outcome q (listed es) env k ≡ comma_of (map (outcome q) es) env k
  listed_is [] k = mean q (Comma []) env k
  listed_is (e ∷ []) k = sym (alone_is (outcome q e env k))
  listed_is (e ∷ f ∷ more) k = mean q (Comma (e ∷ f ∷ more)) env k

  pub values_same : (ds : List KeyRule) (cs : List KeyParts) → AreDeclared q documents ds cs →
      (k : ℕ) →
      SameAs (result_then (each_value (pairs_by documents n) ds) (λ ps. Ok (map pair_item ps)))
      (outcome q (own_values cs) env k) k
  values_same ds cs h k =
      subst (λ r. SameAs r (outcome q (own_values cs) env k) k)
      (sym (each_mapped (pairs_by documents n) pair_item ds))
      (subst (λ o. SameAs (each_value given ds) o k) (sym (listed_is (map values_by cs) k))
      (all_same ds cs h k))
