-- The documents that doc() finds, one by one.
use Rattle.std.proofs.Common.{◌≡◌, ℕ, suc, ◌+◌, ◌<◌, ◌≤◌, List, [], ◌∷◌, ◌++◌, length, get_or, drop, min}
use Rattle.std.proofs.Common.{Bool, true, false, not, ◌&&◌, ◌||◌, Option, None, Some, option_map, is_some, position}
use Rattle.std.proofs.Common.{refl, sym, ap, subst, ◌∙◌, arith, append_assoc, cond, nat_le}
use Rattle.std.proofs.lemmas.Bool.{leb-true, leb-false}
use Rattle.std.proofs.lemmas.List.{append-nil}
use Rattle.std.proofs.lemmas.Cmp.{nat_list_eq_equiv}
use Rattle.std.proofs.Math.ListN.{drop_of_length-le}
use Rattle.std.specs.List.{list_any}
use Rattle.std.specs.Str.{bytes_eq}
use Rattle.order_group.proofs.AtomKeys.TableLemmas.{position_next}
use Rattle.xt_names.proofs.ListLemmas.{drop_at}
use Rattle.xt_types.specs.declared.node_tests.SpaceRule.{SpaceRule}
use Rattle.xt_tree.specs.declared.trees.Tree.{Tree}
use Rattle.doc_set.specs.WhiteSpace.Stripped.{stripped}
use Rattle.doc_set.specs.Sets.{DocumentSet, names_of, is_named}
use Rattle.command_words.specs.Texts.{are_different}
use Rattle.driver.specs.QueryRuns.Queries.{set_of}

both : (a b : Bool) → a && b ≡ true → (a ≡ true) × (b ≡ true)
both true b e = (refl, e)
both false b e = absurd cc

neither : (a b : Bool) → not (a || b) ≡ true → (a ≡ false) × (not b ≡ true)
neither true b e = absurd cc
neither false b e = (refl, e)

-- a name that comes after a text is not the text
absent_behind : (t name : List ℕ) (before behind : List (List ℕ))
    → not (list_any (bytes_eq t) (before ++ name ∷ behind)) ≡ true → bytes_eq t name ≡ false
absent_behind t name [] behind e = (neither (bytes_eq t name) (list_any (bytes_eq t) behind) e).0
absent_behind t name (b ∷ before) behind e =
    absent_behind t name before behind (neither (bytes_eq t b) (list_any (bytes_eq t) (before ++ name ∷ behind)) e).1

moved : (o : Option ℕ) → is_some o ≡ false → is_some (option_map suc o) ≡ false
moved None e = refl
moved (Some n) e = absurd cc

-- .. so it is none of those before it
pub new_name : (set : DocumentSet) (name : List ℕ) (behind : List (List ℕ))
    → are_different (names_of set ++ name ∷ behind) ≡ true → is_named name set ≡ false
new_name [] name behind e = refl
new_name (d ∷ set) name behind e =
    let parts = both (not (list_any (bytes_eq d.0) (names_of set ++ name ∷ behind))) (are_different (names_of set ++ name ∷ behind)) e in
    let other : bytes_eq name d.0 ≡ false = nat_list_eq_equiv.symm name d.0 ∙ absent_behind d.0 name (names_of set) behind parts.0 in
    ap is_some (position_next (bytes_eq name) d.0 (names_of set))
    ∙ ap (λ b. is_some (cond b (Some 0) (option_map suc (position (bytes_eq name) (names_of set))))) other
    ∙ moved (position (bytes_eq name) (names_of set)) (new_name set name behind parts.1)

names_after : (set : DocumentSet) (name : List ℕ) (tree : Tree)
    → names_of (set ++ (name, tree) ∷ []) ≡ names_of set ++ name ∷ []
names_after [] name tree = refl
names_after (d ∷ set) name tree = ap (λ ns. d.0 ∷ ns) (names_after set name tree)

-- one more document: what is still to come stays different from what there is
pub different_turn : (set : DocumentSet) (names : List (List ℕ)) (i : ℕ) (name : List ℕ) (tree : Tree)
    → i < length names → name ≡ get_or names i name
    → are_different (names_of set ++ drop i names) ≡ true
    → are_different (names_of (set ++ (name, tree) ∷ []) ++ drop (i + 1) names) ≡ true
different_turn set names i name tree h e d =
    let parted : names_of set ++ drop i names ≡ names_of (set ++ (name, tree) ∷ []) ++ drop (i + 1) names =
    ap (λ ns. names_of set ++ ns) (drop_at names i name h e)
    ∙ sym (append_assoc (names_of set) (name ∷ []) (drop (i + 1) names))
    ∙ ap (λ ns. ns ++ drop (i + 1) names) (sym (names_after set name tree)) in
    subst (λ (ns : List (List ℕ)). are_different ns ≡ true) parted d

pub new_turn : (set : DocumentSet) (names : List (List ℕ)) (i : ℕ) (name : List ℕ)
    → i < length names → name ≡ get_or names i name
    → are_different (names_of set ++ drop i names) ≡ true
    → is_named name set ≡ false
new_turn set names i name h e d =
    new_name set name (drop (i + 1) names)
    (subst (λ (ns : List (List ℕ)). are_different (names_of set ++ ns) ≡ true) (drop_at names i name h e) d)

pub set_turn : (rules : List SpaceRule) (set whole : DocumentSet) (names : List (List ℕ)) (trees : List Tree) (i : ℕ) (name : List ℕ) (tree : Tree)
    → i < length names → i < length trees → name ≡ get_or names i name → tree ≡ get_or trees i tree
    → set ++ set_of rules (drop i names) (drop i trees) ≡ whole
    → (set ++ (name, stripped rules tree) ∷ []) ++ set_of rules (drop (i + 1) names) (drop (i + 1) trees) ≡ whole
set_turn rules set whole names trees i name tree h k e f s =
    append_assoc set ((name, stripped rules tree) ∷ []) (set_of rules (drop (i + 1) names) (drop (i + 1) trees))
    ∙ sym (ap (λ ns. set ++ set_of rules ns (drop i trees)) (drop_at names i name h e)
    ∙ ap (λ ts. set ++ set_of rules (name ∷ drop (i + 1) names) ts) (drop_at trees i tree k f))
    ∙ s

set_none : (rules : List SpaceRule) (names : List (List ℕ)) → set_of rules names [] ≡ []
set_none rules [] = refl
set_none rules (n ∷ ns) = refl

-- the names or the trees are over
over : (rules : List SpaceRule) (names : List (List ℕ)) (trees : List Tree) (i : ℕ) (b : Bool)
    → nat_le (length names) i ≡ b → i ≡ min (length names) (length trees)
    → set_of rules (drop i names) (drop i trees) ≡ []
over rules names trees i true t m =
    let few : length names ≤ i = leb-true (length names) i t in
    ap (λ ns. set_of rules ns (drop i trees)) (drop_of_length-le names few)
over rules names trees i false t m =
    let more : i < length names = leb-false (length names) i t in
    let few : length trees ≤ i = omega (arith, m) in
    ap (set_of rules (drop i names)) (drop_of_length-le trees few) ∙ set_none rules (drop i names)

pub set_end : (rules : List SpaceRule) (set whole : DocumentSet) (names : List (List ℕ)) (trees : List Tree) (i : ℕ)
    → i ≡ min (length names) (length trees)
    → set ++ set_of rules (drop i names) (drop i trees) ≡ whole → set ≡ whole
set_end rules set whole names trees i m s =
    sym (append-nil set) ∙ sym (ap (λ more. set ++ more) (over rules names trees i (nat_le (length names) i) refl m)) ∙ s
