-- What the function `last` computes is what is kept.
use Rattle.std.proofs.Common.{◌≡◌, ◌-◌, ◌≤◌, ℕ, zero, suc, List, [], ◌∷◌, ◌++◌, length, refl, ap, sym, ◌∙◌}
use Rattle.std.proofs.Common.{subst, map, take, drop, filter, arith}
use Rattle.std.proofs.lemmas.Bool.{and_parts}
use Rattle.std.proofs.lemmas.Slice.Eq.{bytes_eq-Decides}
use Rattle.std.proofs.lemmas.List.{append-nil, length-map}
use Rattle.std.specs.Prelude.{Bool, true, false, not, ◌&&◌, ◌||◌, if◌then◌else◌, cond, Option, Some, None}
use Rattle.std.specs.Prelude.{is_some, codes, pos}
use Rattle.std.specs.List.{list_any}
use Rattle.std.specs.Str.{bytes_eq}
use Rattle.xt_names.specs.Allowed.{is_empty_text}
use Rattle.xt_types.specs.declared.node_tests.NameTest.TheVariants.{Any}
use Rattle.xt_types.specs.declared.node_tests.Test.TheVariants.{Attr as AttrTest, Node as NodeTest}
use Rattle.xt_types.specs.declared.types.ItemType.TheVariants.{Kind}
use Rattle.xt_types.specs.declared.axes.Axis.TheVariants as axis
use Rattle.xt_atoms.specs.declared.atoms.Atom.{Atom as AtomValue}
use Rattle.xt_atoms.specs.declared.atoms.Atom.TheVariants as atom
use Rattle.xt_atoms.specs.Keys.{key_same}
use Rattle.xt_atoms.specs.AtomTexts.{text_of}
use Rattle.xt_tree.specs.Place.{subtree_of}
use Rattle.xt_tree.specs.Sound.{names_differ}
use Rattle.xt_tree.specs.declared.attributes.Attribute.{Attribute}
use Rattle.xt_tree.specs.declared.trees.Tree.{Tree}
use Rattle.xt_tree.specs.declared.trees.Tree.TheVariants.{Doc, Elem, Text, Comment, Pi, Attr}
use Rattle.node_tests.specs.Tests.{tree_passes, passes_test, passes_attribute, passes_name}
use Rattle.xdm_items.specs.declared.items.Item.{Item}
use Rattle.xdm_items.specs.declared.items.Item.TheVariants.{Node, Atom}
use Rattle.xdm_items.specs.Matching.{matches_item}
use Rattle.xdm_items.specs.Values.{string_value_of}
use Rattle.order_group.specs.Groups.{first_seen}
use Rattle.item_functions.specs.NodeFunctions.Deep.{deep_equal, same_items}
use Rattle.xdm_items.specs.FunctionArguments.Answers.{of_text}
use Rattle.item_functions.specs.SequenceFunctions.Positions.{from_start_so_many}
use Rattle.query_helpers.proofs.Positions.{near_first, near_later}
use Rattle.text_functions.specs.Joins.{joined as joined_texts, separated}
use Rattle.expr_meaning.specs.Outcomes.Outcome.{Every}
use Rattle.query_helpers.specs.Last.{attribute_below, attribute_of, put_attribute, attributes_in}
use Rattle.query_helpers.specs.Last.{is_named_in, begins_with_word, is_lost}
use Rattle.query_helpers.specs.Last.{attribute_stays, kept_behind, IsPlaced}
use Rattle.query_helpers.proofs.Gives.{joined, joined_from}
use Rattle.xt_names.proofs.BoolLemmas.{is_false}
use Rattle.std.proofs.Math.Bool.{and-true, and-false}
use Rattle.xt_names.specs.Names.{same_name}
use Rattle.xt_atoms.specs.Comparisons.{same_name as same_name_of_atoms}

abbrev pub names_of : List Attribute → List AtomValue
names_of [] = []
names_of (a ∷ us) = atom.QName a.name ∷ names_of us

abbrev pub differs_from : Attribute → AtomValue → Bool
differs_from a b = not (key_same (atom.QName a.name) b)

-- where all names differ each is seen first
unnamed_kept : (us : List Attribute) (a : Attribute) → is_named_in us a ≡ false →
    filter (differs_from a) (names_of us) ≡ names_of us
unfolding key_same same_name_of_atoms
unnamed_kept [] a h = refl
unnamed_kept (u ∷ us) a h = by (same_name a.name u.name) h (unnamed_kept us a)
  where
    by : (b : Bool) → (b || is_named_in us a) ≡ false → (is_named_in us a ≡ false →
        filter (differs_from a) (names_of us) ≡ names_of us) →
        cond (not b) (atom.QName u.name ∷ filter (differs_from a) (names_of us))
        (filter (differs_from a) (names_of us)) ≡ atom.QName u.name ∷ names_of us
    by true e g = absurd cc
    by false e g = ap (λ l. atom.QName u.name ∷ l) (g e)

pub all_seen : (us : List Attribute) → names_differ us ≡ true → first_seen (names_of us) ≡ names_of us
all_seen [] h = refl
all_seen (u ∷ us) h =
    let p = and_parts (not (is_named_in us u)) (names_differ us) h in
    ap (λ l. atom.QName u.name ∷ filter (differs_from u) l) (all_seen us p.1)
    ∙ ap (λ l. atom.QName u.name ∷ l) (unnamed_kept us u (is_false (is_named_in us u) p.0))

-- a filter keeps no more
filter_short : {X : Type 0} (t : X → Bool) (xs : List X) → length (filter t xs) ≤ length xs
filter_short t [] = omega arith
filter_short t (x ∷ xs) = by (t x) (filter_short t xs)
  where
    by : (b : Bool) → length (filter t xs) ≤ length xs →
        length (cond b (x ∷ filter t xs) (filter t xs)) ≤ suc (length xs)
    by true h = omega arith
    by false h = omega arith

seen_short : (ks : List AtomValue) → length (first_seen ks) ≤ length ks
seen_short [] = omega arith
seen_short (k ∷ ks) =
    let h = seen_short ks in
    let g = filter_short (λ b. not (key_same k b)) (first_seen ks) in omega arith

none_named : (us : List Attribute) (a : Attribute) →
    length (filter (differs_from a) (names_of us)) ≡ length (names_of us) → is_named_in us a ≡ false
unfolding key_same same_name_of_atoms
none_named [] a h = refl
none_named (u ∷ us) a h =
    by (same_name a.name u.name) h (none_named us a) (filter_short (differs_from a) (names_of us))
  where
    by : (b : Bool) → length (cond (not b) (atom.QName u.name ∷ filter (differs_from a) (names_of us))
        (filter (differs_from a) (names_of us))) ≡ suc (length (names_of us)) →
        (length (filter (differs_from a) (names_of us)) ≡ length (names_of us) →
        is_named_in us a ≡ false) → length (filter (differs_from a) (names_of us)) ≤ length (names_of us) →
        (b || is_named_in us a) ≡ false
    by true e g s = absurd (omega arith)
    by false e g s = g (omega arith)

pub seen_differ : (us : List Attribute) →
    length (first_seen (names_of us)) ≡ length (names_of us) → names_differ us ≡ true
seen_differ [] h = refl
seen_differ (u ∷ us) h =
    let s = seen_short (names_of us) in
    let f = filter_short (differs_from u) (first_seen (names_of us)) in
    let e : length (first_seen (names_of us)) ≡ length (names_of us) = omega arith in
    let d = seen_differ us e in
    let l : length (filter (differs_from u) (names_of us)) ≡ length (names_of us) =
    ap (λ ks. length (filter (differs_from u) ks)) (sym (all_seen us d)) ∙ (omega arith) in
    rw (none_named us u l, d) refl

-- the test for that
bytes_eq-refl : (x : List ℕ) → bytes_eq x x ≡ true
bytes_eq-refl x = (bytes_eq-Decides x x).1 refl

deep_long : (xs ys : List Item) → deep_equal xs ys ≡ true → length xs ≡ length ys
deep_long [] [] h = refl
deep_long [] (y ∷ ys) h = absurd cc
deep_long (x ∷ xs) [] h = absurd cc
deep_long (x ∷ xs) (y ∷ ys) h =
    let p = and_parts (same_items x y) (deep_equal xs ys) h in ap suc (deep_long xs ys p.1)

deep_same : (us : List Attribute) → deep_equal (map Atom (names_of us)) (map Atom (names_of us)) ≡ true
unfolding key_same same_name_of_atoms
deep_same [] = refl
deep_same (u ∷ us) = rw (bytes_eq-refl u.name.uri, bytes_eq-refl u.name.local) (deep_same us)

pub deep_differ : (us : List Attribute) →
    deep_equal (map Atom (names_of us)) (map Atom (first_seen (names_of us))) ≡ names_differ us
deep_differ us = by (names_differ us) refl
  where
    length-names : length (map Atom (names_of us)) ≡ length (map Atom (first_seen (names_of us))) →
        length (first_seen (names_of us)) ≡ length (names_of us)
    length-names h =
        sym (sym (length-map (names_of us) Atom) ∙ h ∙ length-map (first_seen (names_of us)) Atom)

    not_deep : names_differ us ≡ false → (d : Bool) →
        deep_equal (map Atom (names_of us)) (map Atom (first_seen (names_of us))) ≡ d → d ≡ false
    not_deep e false f = refl
    not_deep e true f =
        let d = seen_differ us (length-names (deep_long (map Atom (names_of us))
        (map Atom (first_seen (names_of us))) f)) in absurd cc

    by : (b : Bool) → names_differ us ≡ b →
        deep_equal (map Atom (names_of us)) (map Atom (first_seen (names_of us))) ≡ b
    by true e = rw (all_seen us e) (deep_same us)
    by false e =
        not_deep e (deep_equal (map Atom (names_of us)) (map Atom (first_seen (names_of us)))) refl

-- kinds of items
abbrev pub is_attribute_item : Item → Bool
is_attribute_item x = matches_item (Kind (AttrTest Any)) x

abbrev pub is_node_item : Item → Bool
is_node_item x = matches_item (Kind NodeTest) x

attribute_passes : (o : Option Tree) → tree_passes axis.Itself (AttrTest Any) o ≡ is_some (attribute_below o)
unfolding tree_passes passes_test passes_attribute passes_name
attribute_passes None = refl
attribute_passes (Some (Doc kids)) = refl
attribute_passes (Some (Elem name us kids)) = refl
attribute_passes (Some (Text t)) = refl
attribute_passes (Some (Comment t)) = refl
attribute_passes (Some (Pi target t)) = refl
attribute_passes (Some (Attr name t)) = refl

pub attribute_told : (x : Item) → is_attribute_item x ≡ is_some (attribute_of x)
unfolding matches_item
attribute_told (Node n) = attribute_passes (subtree_of n)
attribute_told (Atom a) = refl

pub placed_is_node : (n : _) → IsPlaced (Node n) → is_node_item (Node n) ≡ true
unfolding matches_item tree_passes passes_test
placed_is_node n p = rw p.1 refl

-- whether an attribute with the name comes
abbrev pub same_as : Attribute → Option Attribute → Bool
same_as a None = false
same_as a (Some b) = same_name a.name b.name

abbrev pub is_again : Attribute → Item → Bool
is_again a y = is_attribute_item y && same_as a (attribute_of y)

pub again_is : (a : Attribute) (ys : List Item) →
    list_any (is_again a) ys ≡ is_named_in (attributes_in ys) a
again_is a [] = refl
again_is a (y ∷ ys) =
    ap (λ b. (b && same_as a (attribute_of y)) || list_any (is_again a) ys) (attribute_told y)
    ∙ ap (λ r. (is_some (attribute_of y) && same_as a (attribute_of y)) || r) (again_is a ys)
    ∙ by (attribute_of y)
  where
    by : (o : Option Attribute) → ((is_some o && same_as a o) || is_named_in (attributes_in ys) a)
        ≡ is_named_in (put_attribute o (attributes_in ys)) a
    by None = refl
    by (Some b) = refl

-- the texts of the atoms at a place and beside it
abbrev pub word_of : Item → List Item
word_of y = if is_node_item y then [] else of_text (string_value_of y)

abbrev pub words_in : List Item → List ℕ
words_in ys = joined_texts (codes ",") (joined word_of ys)

abbrev pub again_behind : Option Attribute → List Item → Bool
again_behind None ys = false
again_behind (Some a) ys = list_any (is_again a) ys

abbrev pub attribute_at : List Item → ℕ → Item → List Item
attribute_at xs i x = if again_behind (attribute_of x) (drop i xs) then [] else x ∷ []

abbrev pub word_at : List Item → ℕ → Item → List Item
word_at xs i x =
    if not (is_empty_text (words_in (from_start_so_many xs (pos (i - 1)) (pos 3)))) then x ∷ [] else []

-- what is kept of the item at a place
abbrev pub kept_at : List Item → ℕ → Item → List Item
kept_at xs i x =
    if is_attribute_item x then attribute_at xs i x
    else if is_node_item x then x ∷ [] else word_at xs i x

-- where in the whole list the others stand
abbrev IsBefore : Option Item → ℕ → List Item → List Item → Type 0
IsBefore None j xs all = j ≡ 0
IsBefore (Some b) j xs all = (i : ℕ) × (j ≡ suc i) × (drop i all ≡ b ∷ xs) × IsPlaced b

drop_next : (j : ℕ) (all : List Item) (x : Item) (xs : List Item) → drop j all ≡ x ∷ xs →
    drop (suc j) all ≡ xs
drop_next zero [] x xs h = absurd cc
drop_next zero (y ∷ ys) x xs h = cc
drop_next (suc j) [] x xs h = absurd cc
drop_next (suc j) (y ∷ ys) x xs h = drop_next j ys x xs h

empty_word : (t u : List ℕ) (c : ℕ) → is_empty_text (t ++ c ∷ u) ≡ false
unfolding is_empty_text
empty_word [] u c = refl
empty_word (d ∷ t) u c = refl

no_word : (n : _) → IsPlaced (Node n) → word_of (Node n) ≡ []
no_word n p = rw (placed_is_node n p) refl

-- an atom with what comes after it
words_alone : (a : AtomValue) (xs : List Item) → Every IsPlaced xs →
    is_empty_text (words_in (Atom a ∷ take 1 xs))
    ≡ (is_empty_text (text_of a) && not (begins_with_word xs))
unfolding joined_texts separated matches_item text_of
words_alone a [] p =
    ap is_empty_text (append-nil (text_of a)) ∙ sym (and-true (is_empty_text (text_of a)))
words_alone a (Node n ∷ xs) p =
    rw (no_word n p.0)
    (ap is_empty_text (append-nil (text_of a)) ∙ sym (and-true (is_empty_text (text_of a))))
words_alone a (Atom b ∷ xs) p =
    empty_word (text_of a) (text_of b ++ []) 44 ∙ sym (and-false (is_empty_text (text_of a)))

words_behind : (b a : AtomValue) (xs : List Item) →
    is_empty_text (words_in (Atom b ∷ Atom a ∷ take 1 xs)) ≡ false
unfolding joined_texts separated matches_item text_of
words_behind b a xs = empty_word (text_of b) _ 44

words_lost : (before : Option Item) (a : AtomValue) (xs : List Item) (j : ℕ) (all : List Item) →
    Every IsPlaced xs → drop j all ≡ Atom a ∷ xs → IsBefore before j (Atom a ∷ xs) all →
    is_empty_text (words_in (from_start_so_many all (pos (suc j - 1)) (pos 3)))
    ≡ is_lost before (text_of a) xs
words_lost None a xs j all p d h =
    let e : suc j - 1 ≡ 0 = omega arith in
    let w : drop 0 all ≡ Atom a ∷ xs = subst (λ n. drop n all ≡ Atom a ∷ xs) h d in
    ap (λ n. is_empty_text (words_in (from_start_so_many all (pos n) (pos 3)))) e
    ∙ ap (λ ys. is_empty_text (words_in ys)) (near_first all ∙ ap (take 2) w)
    ∙ words_alone a xs p
words_lost (Some (Node n)) a xs j all p d h =
    let e : suc j - 1 ≡ suc h.0 = let g = h.1 in omega arith in
    ap (λ m. is_empty_text (words_in (from_start_so_many all (pos m) (pos 3)))) e
    ∙ ap (λ ys. is_empty_text (words_in ys)) (near_later h.0 all ∙ ap (take 3) h.2)
    ∙ ap (λ ws. is_empty_text (joined_texts (codes ",") (ws ++ joined word_of (Atom a ∷ take 1 xs))))
    (no_word n h.3)
    ∙ words_alone a xs p
words_lost (Some (Atom b)) a xs j all p d h =
    let e : suc j - 1 ≡ suc h.0 = let g = h.1 in omega arith in
    ap (λ m. is_empty_text (words_in (from_start_so_many all (pos m) (pos 3)))) e
    ∙ ap (λ ys. is_empty_text (words_in ys)) (near_later h.0 all ∙ ap (take 3) h.2)
    ∙ words_behind b a xs ∙ sym (and-false (is_empty_text (text_of a)))

-- a node at its place
node_kept : (n : _) (xs all : List Item) (j : ℕ) (rest : List Item) → IsPlaced (Node n) →
    drop (suc j) all ≡ xs →
    kept_at all (suc j) (Node n) ++ rest
    ≡ (if attribute_stays (attribute_below (subtree_of n)) xs then Node n ∷ rest else rest)
node_kept n xs all j rest p d =
    ap (λ b. (if b then attribute_at all (suc j) (Node n)
    else if is_node_item (Node n) then Node n ∷ [] else word_at all (suc j) (Node n)) ++ rest)
    (attribute_told (Node n))
    ∙ ap (λ ys. (if is_some (attribute_of (Node n))
    then (if again_behind (attribute_of (Node n)) ys then [] else Node n ∷ [])
    else if is_node_item (Node n) then Node n ∷ [] else word_at all (suc j) (Node n)) ++ rest) d
    ∙ ap (λ b. (if is_some (attribute_of (Node n))
    then (if again_behind (attribute_of (Node n)) xs then [] else Node n ∷ [])
    else if b then Node n ∷ [] else word_at all (suc j) (Node n)) ++ rest) (placed_is_node n p)
    ∙ by (attribute_below (subtree_of n))
  where
    chosen : (v : Bool) → (if v then [] else Node n ∷ []) ++ rest ≡ (if not v then Node n ∷ rest else rest)
    chosen true = refl
    chosen false = refl

    by : (o : Option Attribute) → (if is_some o
        then (if again_behind o xs then [] else Node n ∷ [])
        else Node n ∷ []) ++ rest ≡ (if attribute_stays o xs then Node n ∷ rest else rest)
    by None = refl
    by (Some a) =
        ap (λ v. (if v then [] else Node n ∷ []) ++ rest) (again_is a xs)
        ∙ chosen (is_named_in (attributes_in xs) a)

word_kept : (before : Option Item) (a : AtomValue) (xs all : List Item) (j : ℕ) (rest : List Item) →
    Every IsPlaced xs → drop j all ≡ Atom a ∷ xs → IsBefore before j (Atom a ∷ xs) all →
    kept_at all (suc j) (Atom a) ++ rest
    ≡ (if not (is_lost before (text_of a) xs) then Atom a ∷ rest else rest)
unfolding matches_item
word_kept before a xs all j rest p d h =
    ap (λ b. (if not b then Atom a ∷ [] else []) ++ rest) (words_lost before a xs j all p d h)
    ∙ by (is_lost before (text_of a) xs)
  where
    by : (v : Bool) → (if not v then Atom a ∷ [] else []) ++ rest ≡ (if not v then Atom a ∷ rest else rest)
    by true = refl
    by false = refl

pub kept_places : (all xs : List Item) (j : ℕ) (before : Option Item) → Every IsPlaced xs →
    drop j all ≡ xs → IsBefore before j xs all →
    joined_from (kept_at all) (suc j) xs ≡ kept_behind before xs
kept_places all [] j before p d h = refl
kept_places all (Node n ∷ xs) j before p d h =
    let next = drop_next j all (Node n) xs d in
    ap (λ ys. kept_at all (suc j) (Node n) ++ ys)
    (kept_places all xs (suc j) (Some (Node n)) p.1 next (j, refl, d, p.0))
    ∙ node_kept n xs all j (kept_behind (Some (Node n)) xs) p.0 next
kept_places all (Atom a ∷ xs) j before p d h =
    let next = drop_next j all (Atom a) xs d in
    ap (λ ys. kept_at all (suc j) (Atom a) ++ ys)
    (kept_places all xs (suc j) (Some (Atom a)) p.1 next (j, refl, d, tt))
    ∙ word_kept before a xs all j (kept_behind (Some (Atom a)) xs) p.1 d h

pub kept_whole : (all : List Item) → Every IsPlaced all →
    joined_from (kept_at all) 1 all ≡ kept_behind None all
kept_whole all p = kept_places all all 0 None p refl refl
