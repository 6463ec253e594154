-- What key() finds are nodes of the tree.
use Rattle.std.proofs.Common.{◌≡◌, ◌++◌, ℕ, List, [], ◌∷◌, map, refl}
use Rattle.std.specs.Prelude.{Bool, true, false, filter, if◌then◌else◌, Result, Ok, Err}
use Rattle.std.specs.Prelude.{Option, Some, None, slice_get}
use Rattle.std.specs.Option.{option_map_or}
use Rattle.xt_names.specs.declared.codes.Code.{Code}
use Rattle.xt_tree.specs.Place.{Place}
use Rattle.xt_tree.specs.declared.trees.Tree.{Tree}
use Rattle.xt_atoms.specs.declared.atoms.Atom.{Atom as AtomValue}
use Rattle.xdm_items.specs.declared.items.Item.{Item}
use Rattle.xdm_items.specs.declared.items.Item.TheVariants.{Node, Atom}
use Rattle.xt_sheets.specs.declared.sheets.KeyRule.{KeyRule}
use Rattle.doc_set.specs.Sets.{DocumentSet}
use Rattle.order_group.specs.Groups.{atoms_of, has_key}
use Rattle.key_index.specs.Keys.{key_nodes, put_pairs}
use Rattle.key_index.specs.Nodes.{put_node, stands_last}
use Rattle.key_index.specs.declared.indexes.KeyPair.{KeyPair}
use Rattle.node_builder.specs.Answers.{root_place as new_root}
use Rattle.match_patterns.specs.Patterns.{pattern_matches}
use Rattle.xdm_items.specs.FunctionArguments.Arguments.{and_then as result_then}
use Rattle.expr_meaning.specs.Outcomes.Outcome.{Every}
use Rattle.expr_meaning.proofs.OutcomesLemmas.Relations.{every_append}
use Rattle.expr_laws.specs.Carrier.{Carrier, OnValue}
use Rattle.expr_laws.proofs.Steps.{same_step}
use Rattle.transform_meaning.specs.Keys.{all_nodes, declarations, each_value, found_in}
use Rattle.transform_meaning.specs.Keys.{given_trees, key_pairs, keys_of, known_root}
use Rattle.transform_meaning.specs.Keys.{pairs_by, pairs_for, use_value}
use Rattle.transform_laws.specs.Meets.{SheetsMake}
use Rattle.transform_laws.proofs.Lists.{kept_known}

both_known : {A : Type 0} (P : A → Type 0) (r q : Result (List A) Code) → OnValue (Every P) r →
    OnValue (Every P) q →
    OnValue (Every P) (result_then r (λ ys. result_then q (λ zs. Ok (ys ++ zs))))
both_known P (Ok ys) (Ok zs) h g = every_append P ys zs h g
both_known P (Ok ys) (Err code) h g = tt
both_known P (Err code) q h g = tt

each_known : {A B : Type 0} (P : A → Type 0) (Q : B → Type 0) (f : A → Result (List B) Code) →
    ((x : A) → P x → OnValue (Every Q) (f x)) → (xs : List A) → Every P xs →
    OnValue (Every Q) (each_value f xs)
each_known P Q f h [] g = tt
each_known P Q f h (x ∷ xs) g =
    both_known Q (f x) (each_value f xs) (h x g.0) (each_known P Q f h xs g.1)

module _ (good : Item → Type 0) where
  abbrev GoodPair : KeyPair → Type 0
  GoodPair p = good (Node p.node)

  for_known : (n : Place) → good (Node n) → (xs : List Item) → Every GoodPair (pairs_for n xs)
  for_known n g [] = tt
  for_known n g (x ∷ xs) = (g, for_known n g xs)

  used_known : (n : Place) → good (Node n) → (r : Result (List Item) Code) →
      OnValue (Every GoodPair) (result_then r (λ xs. Ok (pairs_for n xs)))
  used_known n g (Ok xs) = for_known n g xs
  used_known n g (Err code) = tt

  by_known : (documents : DocumentSet) (n : Place) → good (Node n) → (d : KeyRule) →
      OnValue (Every GoodPair) (pairs_by documents n d)
  by_known documents n g d = by (pattern_matches d.pattern n)
    where
      by : (b : Bool) → OnValue (Every GoodPair)
          (if b then result_then (use_value documents d.key n) (λ xs. Ok (pairs_for n xs)) else Ok [])
      by true = used_known n g (use_value documents d.key n)
      by false = tt

  anything_of : (ds : List KeyRule) → Every (λ d. Unit {0}) ds
  anything_of [] = tt
  anything_of (d ∷ ds) = (tt, anything_of ds)

  pairs_known : (documents : DocumentSet) (ds : List KeyRule) (root : Place) →
      Every (λ n. good (Node n)) (all_nodes root) →
      OnValue (Every GoodPair) (key_pairs documents ds root)
  unfolding key_pairs
  pairs_known documents ds root h =
      each_known (λ n. good (Node n)) GoodPair (λ n. each_value (pairs_by documents n) ds)
      (λ n g. each_known (λ d. Unit {0}) GoodPair (pairs_by documents n)
      (λ d u. by_known documents n g d) ds (anything_of ds)) (all_nodes root) h

  put_known : (items : List Item) (n : Place) → Every good items → good (Node n) →
      Every good (put_node items n)
  put_known items n h g = by (stands_last items n)
    where
      by : (b : Bool) → Every good (if b then items else items ++ Node n ∷ [])
      by true = h
      by false = every_append good items (Node n ∷ []) h (g, tt)

  all_put : (items : List Item) (pairs : List KeyPair) → Every good items →
      Every GoodPair pairs → Every good (put_pairs items pairs)
  all_put items [] h g = h
  all_put items (p ∷ pairs) h g =
      all_put (put_node items p.node) pairs (put_known items p.node h g.0) g.1

  found_known : (r : Result (List KeyPair) Code) (values : List Item) →
      OnValue (Every GoodPair) r →
      OnValue (Every good) (result_then r (λ pairs. Ok (key_nodes pairs values)))
  found_known (Ok pairs) values h =
      all_put [] (filter (λ p. has_key p.value (atoms_of values)) pairs) tt
      (kept_known GoodPair (λ p. has_key p.value (atoms_of values)) pairs h)
  found_known (Err code) values h = tt

  -- trees that are given have the property at their numbers
  abbrev AreGoodTrees : List Tree → Type 0
  AreGoodTrees trees =
      (i : ℕ) (t : Tree) → slice_get trees i ≡ Some t → good (Node (new_root i t))

  root_known : (trees : List Tree) → AreGoodTrees trees → (root : Place) → good (Node root) →
      good (Node (known_root trees root))
  root_known trees h root g = by (slice_get trees root.number) refl
    where
      by : (o : Option Tree) → slice_get trees root.number ≡ o →
          good (Node (option_map_or (new_root root.number) o root))
      by None e = g
      by (Some t) e = h root.number t e

module _ (c : Carrier) (sheets : SheetsMake c) where
  found_meets : (documents : DocumentSet) (keys : List KeyRule) (name : List ℕ)
      (values : List AtomValue) (root : Place) → c.good (Node root) → (k : ℕ) →
      c.rel (List Item) (Every c.good) (found_in documents keys name values root k)
      (found_in documents keys name values root k)
  found_meets documents keys name values root g k =
      let pairs = key_pairs documents (declarations keys name) root in
      same_step c (Every c.good) (result_then pairs (λ ps. Ok (key_nodes ps (map Atom values))))
      (found_known c.good pairs (map Atom values)
      (pairs_known c.good documents (declarations keys name) root (sheets.nodes root g))) k

  pub keys_meet : (document : Tree) (documents : DocumentSet) →
      AreGoodTrees c.good (given_trees document documents) → (keys : List KeyRule)
      (name : List ℕ) (values : List AtomValue) (root : Place) → c.good (Node root) → (k : ℕ) →
      c.rel (List Item) (Every c.good) (keys_of document documents keys name values root k)
      (keys_of document documents keys name values root k)
  keys_meet document documents h keys name values root g =
      let trees = given_trees document documents in
      found_meets documents keys name values (known_root trees root)
      (root_known c.good trees h root g)
