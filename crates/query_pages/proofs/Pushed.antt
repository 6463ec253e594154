-- A token that is put onto a page comes before the others.
use Rattle.std.proofs.Common.{◌≡◌, List, [], ◌∷◌, ◌++◌, map, ap}
use Rattle.std.proofs.lemmas.List.{reverse-append}
use Rattle.query_pages.specs.declared.placed.Placed.{Placed}
use Rattle.query_pages.specs.Placed.{tokens_of}

pub pushed : (xs : List Placed) (x : Placed) → tokens_of (xs ++ x ∷ []) ≡ x.token ∷ tokens_of xs
pushed xs x = ap (λ ys. map (λ y. y.token) ys) (reverse-append xs (x ∷ []))
