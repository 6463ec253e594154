-- Each of a list of declarations or parameters that can be printed can be.
use Rattle.std.proofs.Common.{◌≡◌, ◌<◌, ℕ, zero, suc, List, [], ◌∷◌, Bool, true, map, length}
use Rattle.std.proofs.Common.{get_or, ap, ◌∙◌, arith}
use Rattle.std.specs.List.{list_all}
use Rattle.std.proofs.lemmas.Bool.{and_parts}
use Rattle.printed_laws.specs.QueryRaws.Prologs.{DeclaredForm}
use Rattle.printed_laws.specs.QueryRaws.Queries.{all_can}

pub all_at : {A : Type 0} (f : A → Bool) (xs : List A) (i : ℕ) (x : A) → list_all f xs ≡ true
    → i < length xs → x ≡ get_or xs i x → f x ≡ true
all_at f [] i x c h e = absurd (omega arith)
all_at f (y ∷ ys) zero x c h e = ap f e ∙ (and_parts (f y) (list_all f ys) c).0
all_at f (y ∷ ys) (suc i) x c h e =
    all_at f ys i x (and_parts (f y) (list_all f ys) c).1 (omega arith) e

pub form_at : {A : Type 0} (f : A → DeclaredForm) (xs : List A) (i : ℕ) (x : A)
    → all_can (map f xs) ≡ true → i < length xs → x ≡ get_or xs i x → (f x).can ≡ true
form_at f [] i x c h e = absurd (omega arith)
form_at f (y ∷ ys) zero x c h e =
    ap (λ z. (f z).can) e ∙ (and_parts (f y).can (all_can (map f ys)) c).0
form_at f (y ∷ ys) (suc i) x c h e =
    form_at f ys i x (and_parts (f y).can (all_can (map f ys)) c).1 (omega arith) e
