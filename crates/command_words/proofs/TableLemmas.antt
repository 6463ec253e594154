-- Tables of texts.
use Rattle.std.proofs.Common.{◌≡◌, ℕ, ◌<◌, ◌+◌, length, get_or, drop, ◌∙◌, List, [], ◌∷◌, Bool, true}
use Rattle.std.proofs.Common.{false, not, ◌&&◌, cond, ap, refl, bytes_eq}
use Rattle.std.specs.List.{list_all, list_any}
use Rattle.std.specs.HashSet.{HashSet, contains}
use Rattle.command_words.specs.Texts.{are_different}
use Rattle.xt_names.proofs.BoolLemmas.{differ_step as step, differ_shuffle}
use Rattle.xt_names.proofs.ListLemmas.{drop_at}

-- the table has this text
abbrev pub has_text : {S : Type 0} → HashSet (List ℕ) S → List ℕ → Bool
has_text seen text = contains bytes_eq seen text

nothing_seen : {S : Type 0} (seen : HashSet (List ℕ) S) (texts : List (List ℕ)) → seen.keys ≡ []
    → list_all (λ a. not (has_text seen a)) texts ≡ true
nothing_seen seen [] e = refl
nothing_seen seen (a ∷ rest) e = rw (e, nothing_seen seen rest e)

-- a table with one more text
all_new : (f g h : List ℕ → Bool) (xs : List (List ℕ)) → ((x : List ℕ) → f x ≡ cond (g x) true (h x))
    → list_all (λ x. not (f x)) xs ≡ (not (list_any g xs) && list_all (λ x. not (h x)) xs)
all_new f g h [] e = refl
all_new f g h (x ∷ xs) e =
    let ih = all_new f g h xs e in
    rw (e x, ih) (step (g x) (h x) (list_any g xs) (list_all (λ y. not (h y)) xs))

-- are the texts all new to the table, and different
abbrev pub are_new : {S : Type 0} → HashSet (List ℕ) S → List (List ℕ) → Bool
are_new seen texts = list_all (λ a. not (has_text seen a)) texts && are_different texts

are_new-more : {S : Type 0} (seen new : HashSet (List ℕ) S) (a : List ℕ) (rest : List (List ℕ))
    → not (has_text seen a) ≡ true
    → ((key : List ℕ) → has_text new key ≡ cond (bytes_eq a key) true (has_text seen key))
    → are_new seen (a ∷ rest) ≡ are_new new rest
are_new-more seen new a rest e h =
    rw (e, all_new (λ b. has_text new b) (λ b. bytes_eq a b) (λ b. has_text seen b) rest (λ b. h b))
    (differ_shuffle (list_any (λ b. bytes_eq a b) rest) (list_all (λ b. not (has_text seen b)) rest) (are_different rest))

are_new-none : {S : Type 0} (seen : HashSet (List ℕ) S) (a : List ℕ) (rest : List (List ℕ))
    → not (has_text seen a) ≡ false → are_new seen (a ∷ rest) ≡ false
are_new-none seen a rest e = rw e

pub are_new-start : {S : Type 0} (seen : HashSet (List ℕ) S) (texts : List (List ℕ))
    → seen.keys ≡ [] → are_new seen texts ≡ are_different texts
are_new-start seen texts e = rw (nothing_seen seen texts e)

-- one turn of the loop that fills the table
pub are_new-turn : {S : Type 0} (seen new : HashSet (List ℕ) S) (texts : List (List ℕ)) (i : ℕ) (a : List ℕ)
    → i < length texts → a ≡ get_or texts i a → not (has_text seen a) ≡ true
    → ((key : List ℕ) → has_text new key ≡ cond (bytes_eq a key) true (has_text seen key))
    → are_new seen (drop i texts) ≡ are_new new (drop (i + 1) texts)
are_new-turn seen new texts i a h e n k =
    ap (are_new seen) (drop_at texts i a h e) ∙ are_new-more seen new a (drop (i + 1) texts) n k

-- the text is there
pub are_new-end : {S : Type 0} (seen : HashSet (List ℕ) S) (texts : List (List ℕ)) (i : ℕ) (a : List ℕ)
    → i < length texts → a ≡ get_or texts i a → not (has_text seen a) ≡ false
    → are_new seen (drop i texts) ≡ false
are_new-end seen texts i a h e n =
    ap (are_new seen) (drop_at texts i a h e) ∙ are_new-none seen a (drop (i + 1) texts) n
