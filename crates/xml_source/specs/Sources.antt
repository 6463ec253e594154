-- What comes next in a text.
use Rattle.std.specs.Prelude.{◌≡◌, ℕ, List, [], ◌∷◌, ◌++◌, ◌⊎◌}
use Rattle.doc_grammar.specs.Lexemes.{NCName}
use Rattle.xt_names.specs.Characters.{NotNext, starts_name, Ends}

-- the character comes next
abbrev pub NextIs : ℕ → List ℕ → Type 0
NextIs c [] = ⊥
NextIs c (d ∷ ts) = d ≡ c

-- a text was to come, and this much of it did
pub record DiffersAt (whole old new : List ℕ) : Type 0 where
  pub read : List ℕ
  pub next : ℕ
  pub more : List ℕ
  pub is_whole : whole ≡ read ++ next ∷ more
  pub is_old : old ≡ read ++ new
  pub not_next : NotNext next new

-- no qualified name is read: none begins, or nothing that goes on after the colon
abbrev pub NoName : List ℕ → List ℕ → Type 0
NoName old new =
    ((new ≡ old) × Ends starts_name old) ⊎ ((prefix : List ℕ) × NCName old prefix (58 ∷ new) × Ends starts_name new)
