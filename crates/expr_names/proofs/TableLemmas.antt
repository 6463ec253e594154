-- Tables of names.
use Rattle.std.proofs.Common.{◌≡◌, ℕ, ◌<◌, ◌+◌, length, get_or, drop, ◌∙◌, List, [], ◌∷◌, Bool, true, false, not, ◌&&◌, cond, ap, refl}
use Rattle.std.specs.List.{list_all, list_any}
use Rattle.std.specs.HashSet.{HashSet}
use Rattle.xt_names.specs.declared.names.Name.{Name}
use Rattle.expr_names.specs.Doubles.{names_differ}
use Rattle.xt_names.proofs.BoolLemmas.{differ_shuffle}
use Rattle.xt_names.proofs.ListLemmas.{all_new, drop_at}
use Rattle.xt_names.specs.Names.{same_name, has_key}

nothing_seen : {S : Type 0} (seen : HashSet Name S) (names : List Name) → seen.keys ≡ [] → list_all (λ a. not (has_key seen a)) names ≡ true
nothing_seen seen [] e = refl
nothing_seen seen (a ∷ rest) e = rw (e, nothing_seen seen rest e)

-- are the names all new to the table, and different
abbrev pub are_new : {S : Type 0} → HashSet Name S → List Name → Bool
are_new seen names = list_all (λ a. not (has_key seen a)) names && names_differ names

pub are_new-more : {S : Type 0} (seen new : HashSet Name S) (a : Name) (rest : List Name)
    → not (has_key seen a) ≡ true → ((key : Name) → has_key new key ≡ cond (same_name a key) true (has_key seen key))
    → are_new seen (a ∷ rest) ≡ are_new new rest
are_new-more seen new a rest e h =
    rw (e, all_new (λ b. has_key new b) (λ b. same_name a b) (λ b. has_key seen b) rest (λ b. h b))
    (differ_shuffle (list_any (λ b. same_name a b) rest) (list_all (λ b. not (has_key seen b)) rest) (names_differ rest))

pub are_new-none : {S : Type 0} (seen : HashSet Name S) (a : Name) (rest : List Name) → not (has_key seen a) ≡ false → are_new seen (a ∷ rest) ≡ false
are_new-none seen a rest e = rw e

pub are_new-start : {S : Type 0} (seen : HashSet Name S) (names : List Name) → seen.keys ≡ [] → are_new seen names ≡ names_differ names
are_new-start seen names e = rw (nothing_seen seen names e)

-- one turn of the loop that fills the table
pub are_new-turn : {S : Type 0} (seen new : HashSet Name S) (names : List Name) (i : ℕ) (a : Name) → i < length names → a ≡ get_or names i a
    → not (has_key seen a) ≡ true → ((key : Name) → has_key new key ≡ cond (same_name a key) true (has_key seen key))
    → are_new seen (drop i names) ≡ are_new new (drop (i + 1) names)
are_new-turn seen new names i a h e n k = ap (are_new seen) (drop_at names i a h e) ∙ are_new-more seen new a (drop (i + 1) names) n k
