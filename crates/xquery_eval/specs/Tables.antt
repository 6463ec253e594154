-- The table of the functions of a query (XQuery 1.0, 4.15).
use Rattle.std.specs.Prelude.{◌≡◌, ℕ, suc, List, [], ◌∷◌, length, Option, Some, None, Bool}
use Rattle.std.specs.Prelude.{if◌then◌else◌}
use Rattle.indexmap.specs.IndexMap.{IndexMap, get}
use Rattle.name_rules.specs.Scopes.{same_signature, signature}
use Rattle.name_rules.specs.declared.functions.Signature.{Signature}
use Rattle.xt_syntax.specs.declared.queries.QueryFunction.{QueryFunction}

abbrev pub signature_of : QueryFunction → Signature
signature_of f = signature f.name (length f.params)

abbrev pub has_signature : Signature → QueryFunction → Bool
has_signature s f = same_signature (signature_of f) s

-- the place of what has the first signature, or where it was found so far
abbrev pub first_place : Signature → ℕ → Option ℕ → Signature → Option ℕ
first_place first place found s = if same_signature first s then Some place else found

-- the place of the first function that has the signature, where the list begins at a place
abbrev pub place_from : Signature → ℕ → List QueryFunction → Option ℕ
place_from s n [] = None
place_from s n (f ∷ fs) = if has_signature s f then Some n else place_from s (suc n) fs

-- under each signature stands the place of the first function that has it
abbrev pub IsTableOf : {S : Type 0} → List QueryFunction → IndexMap Signature ℕ S → Type 0
IsTableOf fs places = (s : Signature) → get same_signature places s ≡ place_from s 0 fs
