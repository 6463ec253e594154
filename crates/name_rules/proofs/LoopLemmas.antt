-- What is found in one part after the other.
use Rattle.std.proofs.Common.{◌≡◌, ℕ, ◌+◌, ◌<◌, length, get_or, drop, map, List, ◌++◌, Option, refl}
use Rattle.xt_names.specs.declared.codes.Code.{Code}
use Rattle.xt_names.specs.declared.names.ExprName.{ExprName}
use Rattle.name_rules.specs.Broken.{Rule, Binder, all_in, binders_in, behind}
use Rattle.name_rules.specs.Faults.{first, earlier}
use Rattle.name_rules.specs.Scopes.{with_names}
use Rattle.name_rules.proofs.FaultLemmas.{first_of_two, earlier_of_more}
use Rattle.xt_names.proofs.ListLemmas.{drop_at}

pub two_found : (found a b : Option Code) (xs ys whole : List Code) → found ≡ earlier a b → a ≡ first xs → b ≡ first ys → whole ≡ xs ++ ys → found ≡ first whole
two_found found a b xs ys whole e p q w = rw (e, p, q, w, first_of_two xs ys)

pub four_found : (found rest last a b c d : Option Code) (ws xs ys zs whole : List Code)
    → found ≡ earlier a rest → rest ≡ earlier b last → last ≡ earlier c d
    → a ≡ first ws → b ≡ first xs → c ≡ first ys → d ≡ first zs → whole ≡ ws ++ (xs ++ (ys ++ zs)) → found ≡ first whole
four_found found rest last a b c d ws xs ys zs whole e1 e2 e3 p q r s w =
    let l = two_found last c d ys zs (ys ++ zs) e3 r s refl in
    let m = two_found rest b last xs (ys ++ zs) (xs ++ (ys ++ zs)) e2 q l refl in
    two_found found a rest ws (xs ++ (ys ++ zs)) whole e1 p m w

-- one turn of a loop over parts
pub turn_in : {A : Type 0} (f : A → Rule) (all : List A) (i : ℕ) (x : A) (scope : List ExprName) (fault found next whole : Option Code)
    → i < length all → x ≡ get_or all i x → found ≡ first (f x scope) → next ≡ earlier fault found
    → earlier fault (first (all_in (map f (drop i all)) scope)) ≡ whole
    → earlier next (first (all_in (map f (drop (i + 1) all)) scope)) ≡ whole
turn_in f all i x scope fault found next whole h e p n inv =
    let k = rw (drop_at all i x h e) at inv in
    rw (n, p, earlier_of_more fault (f x scope) (all_in (map f (drop (i + 1) all)) scope)) k

-- one turn of a loop over what binds variables
pub turn_of_binders : {A : Type 0} (f : A → Binder) (all : List A) (i : ℕ) (x : A) (scope inner : List ExprName) (fault found next whole : Option Code)
    → i < length all → x ≡ get_or all i x → found ≡ first ((f x).source scope) → next ≡ earlier fault found → inner ≡ with_names scope (f x).names
    → earlier fault (first (binders_in (map f (drop i all)) scope)) ≡ whole
    → earlier next (first (binders_in (map f (drop (i + 1) all)) inner)) ≡ whole
turn_of_binders f all i x scope inner fault found next whole h e p n s inv =
    let k = rw (drop_at all i x h e) at inv in
    rw (n, p, s, earlier_of_more fault ((f x).source scope) (binders_in (map f (drop (i + 1) all)) (with_names scope (f x).names))) k

pub turn_of_names : {A : Type 0} (f : A → Binder) (all : List A) (i : ℕ) (x : A) (scope inner whole : List ExprName)
    → i < length all → x ≡ get_or all i x → inner ≡ with_names scope (f x).names
    → behind (map f (drop i all)) scope ≡ whole → behind (map f (drop (i + 1) all)) inner ≡ whole
turn_of_names f all i x scope inner whole h e s inv =
    let k = rw (drop_at all i x h e) at inv in
    rw s k
