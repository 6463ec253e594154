-- The last attribute of each name, from the end on.
use Rattle.std.proofs.Common.{◌≡◌, ℕ, List, [], ◌∷◌, ◌++◌, Bool, true, false, not, ◌&&◌, ◌||◌, cond, refl, ap, sym, ◌∙◌, append_assoc, reverse}
use Rattle.std.proofs.lemmas.List.{append-nil, reverse-append}
use Rattle.std.proofs.lemmas.List.Folds.{list_any-append}
use Rattle.std.proofs.lemmas.Bool.{and_parts}
use Rattle.std.proofs.lemmas.Bool.Decides.{Decides-like, same_from_decides}
use Rattle.std.proofs.lemmas.Slice.Eq.{bytes_eq-Decides}
use Rattle.std.specs.List.{list_any}
use Rattle.std.specs.Str.{bytes_eq}
use Rattle.std.specs.HashSet.{HashSet}
use Rattle.xt_names.specs.declared.names.Name.{Name}
use Rattle.xt_tree.specs.Sound.{names_differ}
use Rattle.xt_tree.specs.declared.attributes.Attribute.{Attribute}
use Rattle.node_builder.specs.Made.{Gives}
use Rattle.node_builder.specs.Complex.{last_of_each, distinct}
use Rattle.node_builder.specs.Kept.{kept_one}
use Rattle.node_builder.specs.declared.kinds.Duplicates.{Duplicates}
use Rattle.node_builder.specs.declared.kinds.Duplicates.TheVariants.{KeepLast, Refuse}
use Rattle.xt_names.specs.Names.{has_key, same_name}

bytes_eq-sym : (x y : List ℕ) → bytes_eq x y ≡ bytes_eq y x
bytes_eq-sym x y =
    same_from_decides (bytes_eq x y) (bytes_eq y x) (bytes_eq-Decides x y)
    (Decides-like (bytes_eq y x) (λ (h : y ≡ x). sym h) (λ (h : x ≡ y). sym h) (bytes_eq-Decides y x))

pub same_name-sym : (a b : Name) → same_name a b ≡ same_name b a
same_name-sym a b = ap (λ p. p && bytes_eq a.local b.local) (bytes_eq-sym a.uri b.uri) ∙ ap (λ p. bytes_eq b.uri a.uri && p) (bytes_eq-sym a.local b.local)

-- where all names differ, all are kept
pub all_kept : (attributes : List Attribute) → names_differ attributes ≡ true → last_of_each attributes ≡ attributes
all_kept [] e = refl
all_kept (a ∷ rest) e =
    let p = and_parts (not (list_any (λ b. same_name a.name b.name) rest)) (names_differ rest) e in
    kept_first a rest (last_of_each rest) (list_any (λ b. same_name a.name b.name) rest) p.0 (all_kept rest p.1) where
      kept_first : (x : Attribute) (xs ys : List Attribute) (test : Bool) → not test ≡ true → ys ≡ xs → cond test ys (x ∷ ys) ≡ x ∷ xs
      kept_first x xs ys true f g = absurd cc
      kept_first x xs ys false f g = ap (λ zs. x ∷ zs) g

pub distinct_all : (side : Duplicates) (attributes seen : List Attribute) (result : Bool) → result ≡ names_differ seen → result ≡ true → seen ≡ attributes → distinct side attributes ≡ Gives attributes
distinct_all KeepLast attributes seen result e f s = ap Gives (all_kept attributes (rw s at (sym e ∙ f)))
distinct_all Refuse attributes seen result e f s = rw (rw s at (sym e ∙ f)) refl

-- those that are kept where the names of a table come later
abbrev pub kept_before : {S : Type 0} → HashSet Name S → List Attribute → List Attribute
kept_before seen [] = []
kept_before seen (a ∷ rest) = cond (has_key seen a.name || list_any (λ b. same_name a.name b.name) rest) (kept_before seen rest) (a ∷ kept_before seen rest)

shuffle : (s t u : Bool) → (s || (t || (u || false))) ≡ (cond u true s || t)
shuffle true t true = refl
shuffle true t false = refl
shuffle false true true = refl
shuffle false true false = refl
shuffle false false true = refl
shuffle false false false = refl

same_test : {S : Type 0} (seen new : HashSet Name S) (a x : Attribute) (rest : List Attribute) → has_key new x.name ≡ cond (same_name a.name x.name) true (has_key seen x.name)
    → (has_key seen x.name || list_any (λ b. same_name x.name b.name) (rest ++ a ∷ [])) ≡ (has_key new x.name || list_any (λ b. same_name x.name b.name) rest)
same_test seen new a x rest e =
    rw (list_any-append (λ (b : Attribute). same_name x.name b.name) rest (a ∷ []), e, same_name-sym a.name x.name)
    (shuffle (has_key seen x.name) (list_any (λ b. same_name x.name b.name) rest) (same_name x.name a.name))

last_test : (h : Bool) (a : Attribute) → cond (h || false) [] (a ∷ []) ≡ kept_one (not h) a
last_test true a = refl
last_test false a = refl

cond-append : (test : Bool) (x : Attribute) (xs ys : List Attribute) → cond test (xs ++ ys) (x ∷ (xs ++ ys)) ≡ cond test xs (x ∷ xs) ++ ys
cond-append true x xs ys = refl
cond-append false x xs ys = refl

pub kept_before-push : {S : Type 0} (seen new : HashSet Name S) (a : Attribute) (rest : List Attribute)
    → ((key : Name) → has_key new key ≡ cond (same_name a.name key) true (has_key seen key))
    → kept_before seen (rest ++ a ∷ []) ≡ kept_before new rest ++ kept_one (not (has_key seen a.name)) a
kept_before-push seen new a [] h = last_test (has_key seen a.name) a
kept_before-push seen new a (x ∷ rest) h =
    let ih = kept_before-push seen new a rest h in
    rw (same_test seen new a x rest (h x.name), ih)
    (cond-append (has_key new x.name || list_any (λ b. same_name x.name b.name) rest) x (kept_before new rest) (kept_one (not (has_key seen a.name)) a))

pub kept_before-start : {S : Type 0} (seen : HashSet Name S) (attributes : List Attribute) → seen.keys ≡ [] → kept_before seen attributes ≡ last_of_each attributes
kept_before-start seen [] e = refl
kept_before-start seen (a ∷ rest) e = rw (e, kept_before-start seen rest e) refl

-- one turn of the loop
pub kept_turn : {S : Type 0} (seen new : HashSet Name S) (a : Attribute) (is_new : Bool) (old left kept more whole : List Attribute) → old ≡ left ++ a ∷ [] → is_new ≡ not (has_key seen a.name)
    → ((key : Name) → has_key new key ≡ cond (same_name a.name key) true (has_key seen key)) → more ≡ kept ++ kept_one is_new a → kept_before seen old ++ reverse kept ≡ whole → kept_before new left ++ reverse more ≡ whole
kept_turn seen new a is_new old left kept more whole o n h m w =
    ap (λ xs. kept_before new left ++ reverse xs) m ∙ ap (λ xs. kept_before new left ++ xs) (reverse-append kept (kept_one is_new a) ∙ ap (λ xs. xs ++ reverse kept) (reverse_one is_new a))
    ∙ sym (append_assoc (kept_before new left) (kept_one is_new a) (reverse kept)) ∙ ap (λ b. (kept_before new left ++ kept_one b a) ++ reverse kept) n
    ∙ ap (λ xs. xs ++ reverse kept) (sym (ap (kept_before seen) o ∙ kept_before-push seen new a left h)) ∙ w where
      reverse_one : (b : Bool) (x : Attribute) → reverse (kept_one b x) ≡ kept_one b x
      reverse_one true x = refl
      reverse_one false x = refl

pub kept_start : {S : Type 0} (seen : HashSet Name S) (left kept attributes : List Attribute) → seen.keys ≡ [] → left ≡ attributes → kept ≡ [] → kept_before seen left ++ reverse kept ≡ last_of_each attributes
kept_start seen left kept attributes e l k =
    ap (λ xs. kept_before seen left ++ reverse xs) k ∙ append-nil (kept_before seen left) ∙ ap (kept_before seen) l ∙ kept_before-start seen attributes e
