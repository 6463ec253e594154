-- Names that a test finds the same are the same.
use Rattle.std.proofs.Common.{◌≡◌, ℕ, List, true, ap₂}
use Rattle.std.proofs.lemmas.Bool.{and_parts}
use Rattle.std.proofs.lemmas.Slice.Eq.{bytes_eq-Decides}
use Rattle.std.specs.Str.{bytes_eq}
use Rattle.xt_names.specs.ExprNames.{same_name}
use Rattle.xt_names.specs.declared.names.ExprName.{ExprName}

pub same_names : (a b : ExprName) → same_name a b ≡ true → a ≡ b
same_names a b e =
    let h = and_parts (bytes_eq a.uri b.uri) (bytes_eq a.local b.local) e in
    let make : List ℕ → List ℕ → ExprName = λ u n. record { uri = u; local = n } in
    ap₂ make ((bytes_eq-Decides a.uri b.uri).0 h.0) ((bytes_eq-Decides a.local b.local).0 h.1)
