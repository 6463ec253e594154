-- Names at the front of a text.
use Rattle.std.proofs.Common.{◌≡◌, ℕ, List, [], true, Some, None, refl}
use Rattle.std.proofs.lemmas.Str.{chars-nil}
use Rattle.std.specs.Str.{chars}
use Rattle.query_pieces.specs.Fronts.{run_of, rest_of, begins, local_at, name_at}
use Rattle.xt_names.specs.Characters.{starts_name, is_name_char}

pub name_alone : (old mid new first : List ℕ) → begins starts_name old ≡ true
    → first ≡ run_of is_name_char old → mid ≡ rest_of is_name_char old → local_at mid ≡ None
    → new ≡ mid
    → name_at old ≡ Some (record { prefix = chars []; local = first; rest = new })
name_alone old mid new first b f m l n =
    let none : local_at (rest_of is_name_char old) ≡ None = rw m at l in
    rw (b, none, ← f, ← m, ← n, chars-nil) refl
