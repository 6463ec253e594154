-- Groups that begin at marked places.
use Rattle.std.proofs.Common.{◌≡◌, ℕ, zero, suc, ◌+◌, ◌<◌, add-one, not, map, drop, get_or, Bool, true, false, List, [], ◌∷◌, ◌++◌, length, Some, slice_get, slice_set, if◌then◌else◌, refl, ap, sym, ◌∙◌, arith}
use Rattle.std.proofs.lemmas.List.{append-nil, append_assoc}
use Rattle.order_group.specs.Groups.{Mark, changes, plain_mark}
use Rattle.order_group.specs.Steps.{extended, first_group, with_mark, continued}
use Rattle.xt_atoms.specs.Keys.{key_same}
use Rattle.xt_atoms.specs.declared.atoms.Atom.{Atom}
use Rattle.order_group.specs.declared.groups.Group.{Group}
use Rattle.xt_names.proofs.ListLemmas.{drop_at}

pub continued_end : (gs : List Group) (n : ℕ) → continued gs n [] ≡ gs
continued_end [] n = refl
continued_end (g ∷ []) n = ap (λ members. record { key = g.key; members = members } ∷ []) (append-nil g.members)
continued_end (g ∷ h ∷ gs) n = ap (◌∷◌ g) (continued_end (h ∷ gs) n)

continued_begun : (gs : List Group) (m : Mark) (n : ℕ) (ms : List Mark) → m.begins ≡ true → continued (gs ++ first_group m n ∷ []) (suc n) ms ≡ continued gs n (m ∷ ms)
continued_begun [] m n ms b = rw b refl
continued_begun (g ∷ []) m n ms b = rw (b, append-nil) refl
continued_begun (g ∷ h ∷ gs) m n ms b = ap (◌∷◌ g) (continued_begun (h ∷ gs) m n ms b)

continued_extended : (gs : List Group) (m : Mark) (n : ℕ) (ms : List Mark) → m.begins ≡ false → continued (extended gs n) (suc n) ms ≡ continued gs n (m ∷ ms)
continued_extended [] m n ms b = rw b refl
continued_extended (g ∷ []) m n ms b = rw (b, append_assoc) refl
continued_extended (g ∷ h ∷ []) m n ms b = ap (◌∷◌ g) (continued_extended (h ∷ []) m n ms b)
continued_extended (g ∷ h ∷ i ∷ gs) m n ms b = ap (◌∷◌ g) (continued_extended (h ∷ i ∷ gs) m n ms b)

pub continued_mark : (gs : List Group) (m : Mark) (n : ℕ) (ms : List Mark) → continued (with_mark gs m n) (n + 1) ms ≡ continued gs n (m ∷ ms)
continued_mark gs m n ms = rw add-one (by m.begins refl)
  where
    by : (b : Bool) → m.begins ≡ b → continued (if b then gs ++ first_group m n ∷ [] else extended gs n) (suc n) ms ≡ continued gs n (m ∷ ms)
    by true e = continued_begun gs m n ms e
    by false e = continued_extended gs m n ms e

-- a turn of the loops
pub turn_changes : (gs new : List Group) (n i : ℕ) (a b : Atom) (rest : List Atom) → i < length rest → b ≡ get_or rest i b → new ≡ with_mark gs (record { begins = not (key_same a b); key = Some b }) n → continued new (n + 1) (changes b (drop (i + 1) rest)) ≡ continued gs n (changes a (drop i rest))
turn_changes gs new n i a b rest h e made =
    ap (λ gs. continued gs (n + 1) (changes b (drop (i + 1) rest))) made
    ∙ continued_mark gs (record { begins = not (key_same a b); key = Some b }) n (changes b (drop (i + 1) rest))
    ∙ ap (λ l. continued gs n (changes a l)) (sym (drop_at rest i b h e))

pub turn_starts : (gs new : List Group) (n i : ℕ) (b : Bool) (rest : List Bool) → i < length rest → b ≡ get_or rest i b → new ≡ with_mark gs (plain_mark b) n → continued new (n + 1) (map plain_mark (drop (i + 1) rest)) ≡ continued gs n (map plain_mark (drop i rest))
turn_starts gs new n i b rest h e made =
    ap (λ gs. continued gs (n + 1) (map plain_mark (drop (i + 1) rest))) made
    ∙ continued_mark gs (plain_mark b) n (map plain_mark (drop (i + 1) rest))
    ∙ ap (λ l. continued gs n (map plain_mark l)) (sym (drop_at rest i b h e))

-- the last group is extended in its place
pub extended_set : (gs : List Group) (n i : ℕ) (g : Group) → suc i ≡ length gs → slice_get gs i ≡ Some g → extended gs n ≡ slice_set gs i (record { key = g.key; members = g.members ++ n ∷ [] })
extended_set [] n i g e at = absurd (omega arith)
extended_set (x ∷ []) n zero g e at = let same : x ≡ g = cc in ap (λ (y : Group). record { key = y.key; members = y.members ++ n ∷ [] } ∷ []) same
extended_set (x ∷ []) n (suc i) g e at = absurd (omega arith)
extended_set (x ∷ y ∷ gs) n zero g e at = absurd (omega arith)
extended_set (x ∷ y ∷ gs) n (suc i) g e at = ap (◌∷◌ x) (extended_set (y ∷ gs) n i g (omega arith) at)
