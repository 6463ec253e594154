-- What is at the front of a text, and what is left after it.
use Rattle.std.specs.Prelude.{ℕ, List, [], ◌∷◌, Bool, false, ◌==◌, ◌&&◌, Option, Some, None}
use Rattle.std.specs.Prelude.{if◌then◌else◌}
use Rattle.xt_names.specs.Characters.{is_space, starts_name, is_name_char}

-- the characters of the class that come first
abbrev pub run_of : (ℕ → Bool) → List ℕ → List ℕ
run_of p [] = []
run_of p (c ∷ ts) = if p c then c ∷ run_of p ts else []

-- .. and what is left after them
abbrev pub rest_of : (ℕ → Bool) → List ℕ → List ℕ
rest_of p [] = []
rest_of p (c ∷ ts) = if p c then rest_of p ts else c ∷ ts

-- a character of the class comes first
abbrev pub begins : (ℕ → Bool) → List ℕ → Bool
begins p [] = false
begins p (c ∷ ts) = p c

-- what is left after the character, if it comes first
abbrev pub eaten : ℕ → List ℕ → Option (List ℕ)
eaten c [] = None
eaten c (d ∷ ts) = if d == c then Some ts else None

-- S? (XML 1.0, 2.3)
abbrev pub spaces : List ℕ → List ℕ
spaces ts = rest_of is_space ts

pub record NameAt : Type 0 where
  pub prefix : List ℕ
  pub local : List ℕ
  pub rest : List ℕ

-- what is left after a colon that a name directly follows
abbrev pub local_at : List ℕ → Option (List ℕ)
local_at [] = None
local_at (c ∷ ts) = if c == 58 && begins starts_name ts then Some ts else None

abbrev pub name_with : List ℕ → List ℕ → Option (List ℕ) → NameAt
name_with first rest None = record { prefix = []; local = first; rest = rest }
name_with first rest (Some ts) =
    record { prefix = first; local = run_of is_name_char ts; rest = rest_of is_name_char ts }

-- QName ::= (NCName ':')? NCName, as far as it goes (Namespaces in XML 1.0, 4)
abbrev pub name_at : List ℕ → Option NameAt
name_at ts =
    if begins starts_name ts
    then Some (name_with (run_of is_name_char ts) (rest_of is_name_char ts)
    (local_at (rest_of is_name_char ts)))
    else None
