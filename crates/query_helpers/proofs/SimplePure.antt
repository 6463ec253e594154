-- Simple content as the function `simple` computes it.
use Rattle.std.proofs.Common.{◌≡◌, ◌-◌, ◌≤◌, ℕ, zero, suc, List, [], ◌∷◌, ◌++◌, length, refl, ap, sym, ◌∙◌}
use Rattle.std.proofs.Common.{take, drop, arith, append_assoc}
use Rattle.std.proofs.lemmas.List.{append-nil}
use Rattle.std.specs.Prelude.{Bool, true, false, not, ◌&&◌, ◌||◌, if◌then◌else◌, Option, Some, None, pos}
use Rattle.std.specs.List.{list_any}
use Rattle.xt_names.specs.Allowed.{is_empty_text}
use Rattle.xt_types.specs.declared.axes.Axis.TheVariants as axis
use Rattle.xt_types.specs.declared.node_tests.Test.TheVariants.{Text as TextTest}
use Rattle.xt_types.specs.declared.types.ItemType.TheVariants.{Kind}
use Rattle.xt_atoms.specs.AtomTexts.{text_of}
use Rattle.xt_tree.specs.Place.{subtree_of}
use Rattle.xt_tree.specs.declared.trees.Tree.{Tree}
use Rattle.xt_tree.specs.declared.trees.Tree.TheVariants.{Doc, Elem, Text, Comment, Pi, Attr}
use Rattle.node_tests.specs.Tests.{tree_passes, passes_test, is_text}
use Rattle.xdm_items.specs.declared.items.Item.{Item}
use Rattle.xdm_items.specs.declared.items.Item.TheVariants.{Node, Atom}
use Rattle.xdm_items.specs.Matching.{matches_item}
use Rattle.xdm_items.specs.Values.{string_value_of, string_value_below}
use Rattle.xdm_items.specs.FunctionArguments.Answers.{of_text}
use Rattle.item_functions.specs.SequenceFunctions.Positions.{from_start_so_many}
use Rattle.text_functions.specs.Joins.{joined as joined_texts, separated}
use Rattle.node_builder.specs.Simple.{run, value, part_of, part_below, simple_content}
use Rattle.node_builder.specs.Line.{Line, no_line, run_gap, value_gap, with_part, with_each}
use Rattle.node_builder.proofs.LineLemmas.{one_line}
use Rattle.query_helpers.proofs.Gives.{joined, joined_from}
use Rattle.query_helpers.proofs.Positions.{one_first, one_later}

abbrev pub is_text_item : Item → Bool
is_text_item x = matches_item (Kind TextTest) x

abbrev pub kept_of : Item → List Item
kept_of x =
    if is_text_item x then (if not (is_empty_text (string_value_of x)) then x ∷ [] else [])
    else x ∷ []

abbrev pub kept : List Item → List Item
kept xs = joined kept_of xs

pub kept_anywhere : (i : ℕ) (xs : List Item) → joined_from (λ j x. kept_of x) i xs ≡ kept xs
kept_anywhere i [] = refl
kept_anywhere i (x ∷ xs) = ap (λ ys. kept_of x ++ ys) (kept_anywhere (suc i) xs)

pub kept_short : (xs : List Item) → length (kept xs) ≤ length xs
kept_short [] = omega arith
kept_short (x ∷ xs) = by (is_text_item x) (not (is_empty_text (string_value_of x))) (kept_short xs)
  where
    by : (b c : Bool) → length (kept xs) ≤ length xs →
        length ((if b then (if c then x ∷ [] else []) else x ∷ []) ++ kept xs) ≤ suc (length xs)
    by true true h = omega arith
    by true false h = omega arith
    by false c h = omega arith

module _ (separator : List ℕ) where
  -- the separator, where an item stands before, unless both are text nodes
  abbrev pub parted : Item → Item → Bool
  parted x b = not (is_text_item x && is_text_item b)

  abbrev pub gap_behind : Option Item → Item → List ℕ
  gap_behind None x = []
  gap_behind (Some b) x = if parted x b then separator else []

  abbrev pub spelled : Option Item → List Item → List ℕ
  spelled before [] = []
  spelled before (x ∷ xs) = (gap_behind before x ++ string_value_of x) ++ spelled (Some x) xs

  -- the same by places
  abbrev pub gap_at : List Item → ℕ → Item → List ℕ
  gap_at ks i x =
      if list_any (parted x) (from_start_so_many ks (pos (i - 1)) (pos 1)) then separator else []

  abbrev pub text_at : List Item → ℕ → Item → List Item
  text_at ks i x = of_text (gap_at ks i x ++ string_value_of x)

  abbrev IsBefore : Option Item → ℕ → List Item → List Item → Type 0
  IsBefore None j xs all = j ≡ 0
  IsBefore (Some b) j xs all = (i : ℕ) × (j ≡ suc i) × (drop i all ≡ b ∷ xs)

  or_false : (b : Bool) → (b || false) ≡ b
  or_false true = refl
  or_false false = refl

  gap_is : (before : Option Item) (x : Item) (xs all : List Item) (j : ℕ) →
      IsBefore before j (x ∷ xs) all → gap_at all (suc j) x ≡ gap_behind before x
  gap_is None x xs all j h =
      let e : suc j - 1 ≡ 0 = omega arith in
      ap (λ n. if list_any (parted x) (from_start_so_many all (pos n) (pos 1)) then separator else []) e
      ∙ ap (λ ys. if list_any (parted x) ys then separator else []) (one_first all)
  gap_is (Some b) x xs all j h =
      let e : suc j - 1 ≡ suc h.0 = let g = h.1 in omega arith in
      ap (λ n. if list_any (parted x) (from_start_so_many all (pos n) (pos 1)) then separator else []) e
      ∙ ap (λ ys. if list_any (parted x) ys then separator else [])
      (one_later h.0 all ∙ ap (take 1) h.2)
      ∙ ap (λ c. if c then separator else []) (or_false (parted x b))

  drop_next : (j : ℕ) (all : List Item) (x : Item) (xs : List Item) → drop j all ≡ x ∷ xs →
      drop (suc j) all ≡ xs
  drop_next zero [] x xs h = absurd cc
  drop_next zero (y ∷ ys) x xs h = cc
  drop_next (suc j) [] x xs h = absurd cc
  drop_next (suc j) (y ∷ ys) x xs h = drop_next j ys x xs h

  abbrev texts_of : Option Item → List Item → List Item
  texts_of before [] = []
  texts_of before (x ∷ xs) = of_text (gap_behind before x ++ string_value_of x) ++ texts_of (Some x) xs

  places_texts : (all xs : List Item) (j : ℕ) (before : Option Item) → drop j all ≡ xs →
      IsBefore before j xs all → joined_from (text_at all) (suc j) xs ≡ texts_of before xs
  places_texts all [] j before d h = refl
  places_texts all (x ∷ xs) j before d h =
      ap (λ g. of_text (g ++ string_value_of x) ++ joined_from (text_at all) (suc (suc j)) xs)
      (gap_is before x xs all j h)
      ∙ ap (λ ys. of_text (gap_behind before x ++ string_value_of x) ++ ys)
      (places_texts all xs (suc j) (Some x) (drop_next j all x xs d) (j, refl, d))

  separated_spelled : (before : Option Item) (xs : List Item) →
      separated [] (texts_of before xs) ≡ spelled before xs
  unfolding separated text_of
  separated_spelled before [] = refl
  separated_spelled before (x ∷ xs) =
      ap (λ t. (gap_behind before x ++ string_value_of x) ++ t) (separated_spelled (Some x) xs)

  joined_spelled : (before : Option Item) (xs : List Item) →
      joined_texts [] (texts_of before xs) ≡ spelled before xs
  unfolding joined_texts text_of
  joined_spelled before [] = refl
  joined_spelled before (x ∷ xs) =
      ap (λ t. (gap_behind before x ++ string_value_of x) ++ t) (separated_spelled (Some x) xs)

  pub run_joined : (ks : List Item) →
      joined_texts [] (joined_from (text_at ks) 1 ks) ≡ spelled None ks
  run_joined ks = ap (joined_texts []) (places_texts ks ks 0 None refl refl) ∙ joined_spelled None ks

  -- one pass
  part_by : (o : Option Tree) → part_below o ≡ (if tree_passes axis.Itself TextTest o
      then run (string_value_below o) else value (string_value_below o))
  unfolding tree_passes passes_test is_text
  part_by None = refl
  part_by (Some (Doc kids)) = refl
  part_by (Some (Elem name us kids)) = refl
  part_by (Some (Text t)) = refl
  part_by (Some (Comment t)) = refl
  part_by (Some (Pi target t)) = refl
  part_by (Some (Attr name t)) = refl

  part_is : (x : Item) → part_of x
      ≡ (if is_text_item x then run (string_value_of x) else value (string_value_of x))
  unfolding matches_item
  part_is (Node n) = part_by (subtree_of n)
  part_is (Atom a) = refl

  -- what a line puts before a text node and before another item, once this item stands before
  abbrev run_behind : Option Item → List ℕ
  run_behind None = []
  run_behind (Some b) = if is_text_item b then [] else separator

  abbrev value_behind : Option Item → List ℕ
  value_behind None = []
  value_behind (Some b) = separator

  abbrev EndIs : Option Item → Line → Type 0
  EndIs before l =
      (run_gap separator l.ending ≡ run_behind before)
      × (value_gap separator l.ending ≡ value_behind before)

  run_is : (before : Option Item) (x : Item) → is_text_item x ≡ true →
      run_behind before ≡ gap_behind before x
  run_is None x t = refl
  run_is (Some b) x t =
      by (is_text_item b) ∙ ap (λ c. if not (c && is_text_item b) then separator else []) (sym t)
    where
      by : (c : Bool) → (if c then [] else separator) ≡ (if not (true && c) then separator else [])
      by true = refl
      by false = refl

  value_is : (before : Option Item) (x : Item) → is_text_item x ≡ false →
      value_behind before ≡ gap_behind before x
  value_is None x t = refl
  value_is (Some b) x t = ap (λ c. if not (c && is_text_item b) then separator else []) (sym t)

  one_more : (t g u : List ℕ) (rest : List ℕ) → ((t ++ g) ++ u) ++ rest ≡ t ++ ((g ++ u) ++ rest)
  one_more t g u rest =
      ap (λ v. v ++ rest) (append_assoc t g u) ∙ append_assoc t (g ++ u) rest

  empty_line : (l : Line) (t : List ℕ) → is_empty_text t ≡ true → with_part separator l (run t) ≡ l
  empty_line l t h = rw h refl

  run_line : (l : Line) (t : List ℕ) → is_empty_text t ≡ false →
      ((with_part separator l (run t)).text ≡ (l.text ++ run_gap separator l.ending) ++ t)
      × (run_gap separator (with_part separator l (run t)).ending ≡ [])
      × (value_gap separator (with_part separator l (run t)).ending ≡ separator)
  run_line l t h = rw h (refl, refl, refl)

  line_is : (xs : List Item) (l : Line) (before : Option Item) → EndIs before l →
      (with_each separator l xs).text ≡ l.text ++ spelled before (kept xs)
  line_is [] l before h = sym (append-nil l.text)
  line_is (x ∷ xs) l before h =
      ap (λ p. (with_each separator (with_part separator l p) xs).text) (part_is x)
      ∙ by (is_text_item x) refl (is_empty_text (string_value_of x)) refl (line_is xs)
    where
      by : (b : Bool) → is_text_item x ≡ b → (c : Bool) → is_empty_text (string_value_of x) ≡ c →
          ((m : Line) (y : Option Item) → EndIs y m →
          (with_each separator m xs).text ≡ m.text ++ spelled y (kept xs)) →
          (with_each separator (with_part separator l
          (if b then run (string_value_of x) else value (string_value_of x))) xs).text
          ≡ l.text ++ spelled before
          ((if b then (if not (is_empty_text (string_value_of x)) then x ∷ [] else []) else x ∷ []) ++ kept xs)
      by true t true f go =
          ap (λ m. (with_each separator m xs).text) (empty_line l (string_value_of x) f)
          ∙ go l before h
          ∙ ap (λ d. l.text ++ spelled before ((if not d then x ∷ [] else []) ++ kept xs)) (sym f)
      by true t false f go =
          let r = run_line l (string_value_of x) f in
          go (with_part separator l (run (string_value_of x))) (Some x)
          (r.1 ∙ ap (λ c. if c then [] else separator) (sym t), r.2)
          ∙ ap (λ u. u ++ spelled (Some x) (kept xs)) r.0
          ∙ ap (λ g. ((l.text ++ g) ++ string_value_of x) ++ spelled (Some x) (kept xs))
          (h.0 ∙ run_is before x t)
          ∙ one_more l.text (gap_behind before x) (string_value_of x) (spelled (Some x) (kept xs))
          ∙ ap (λ d. l.text ++ spelled before ((if not d then x ∷ [] else []) ++ kept xs)) (sym f)
      by false t c f go =
          go (with_part separator l (value (string_value_of x))) (Some x)
          (ap (λ d. if d then [] else separator) (sym t), refl)
          ∙ ap (λ g. ((l.text ++ g) ++ string_value_of x) ++ spelled (Some x) (kept xs))
          (h.1 ∙ value_is before x t)
          ∙ one_more l.text (gap_behind before x) (string_value_of x) (spelled (Some x) (kept xs))

  pub simple_spelled : (xs : List Item) → simple_content separator xs ≡ spelled None (kept xs)
  simple_spelled xs = sym (one_line separator xs) ∙ line_is xs no_line None (refl, refl)

  -- where there is no text node
  no_text : (x : Item) (xs : List Item) → list_any is_text_item (x ∷ xs) ≡ false →
      (is_text_item x ≡ false) × (list_any is_text_item xs ≡ false)
  no_text x xs h = by (is_text_item x) h
    where
      by : (b : Bool) → (b || list_any is_text_item xs) ≡ false →
          (b ≡ false) × (list_any is_text_item xs ≡ false)
      by true e = absurd cc
      by false e = (refl, e)

  all_kept : (xs : List Item) → list_any is_text_item xs ≡ false → kept xs ≡ xs
  all_kept [] h = refl
  all_kept (x ∷ xs) h =
      let p = no_text x xs h in
      ap (λ b. (if b then (if not (is_empty_text (string_value_of x)) then x ∷ [] else []) else x ∷ []) ++ kept xs) p.0
      ∙ ap (λ ys. x ∷ ys) (all_kept xs p.1)

  abbrev pub strings : List Item → List Item
  strings xs = joined (λ x. of_text (string_value_of x)) xs

  separated_behind : (b : Item) (xs : List Item) → list_any is_text_item xs ≡ false →
      separated separator (strings xs) ≡ spelled (Some b) xs
  unfolding separated text_of
  separated_behind b [] h = refl
  separated_behind b (x ∷ xs) h =
      let p = no_text x xs h in
      ap (λ t. separator ++ string_value_of x ++ t) (separated_behind x xs p.1)
      ∙ ap (λ c. ((if not (c && is_text_item b) then separator else []) ++ string_value_of x) ++ spelled (Some x) xs) (sym p.0)

  pub plain_spelled : (xs : List Item) → list_any is_text_item xs ≡ false →
      joined_texts separator (strings xs) ≡ spelled None (kept xs)
  unfolding joined_texts text_of
  plain_spelled [] h = refl
  plain_spelled (x ∷ xs) h =
      let p = no_text x xs h in
      ap (λ t. string_value_of x ++ t) (separated_behind x xs p.1)
      ∙ ap (spelled None) (sym (all_kept (x ∷ xs) h))
