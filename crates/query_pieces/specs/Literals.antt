-- What literals in queries say (XQuery 1.0, 2.3.1, 3.1.1 and A.2.3).
use Rattle.std.specs.Prelude.{◌≡◌, ℕ, List, [], ◌∷◌, Bool, true, not, ◌&&◌, ◌==◌, Some}
use Rattle.query_pieces.specs.References.{reference_at}

-- stands for itself in a literal: begins neither a reference nor a line end
unfoldable pub is_said : ℕ → Bool
is_said c = not (c == 38) && not (c == 13)

-- What the text of a literal without its quotes says: a reference is its character, and each line
-- end is one line feed.
pub data Says : List ℕ → List ℕ → Type 0 where
  over : Says [] []
  itself : {c : ℕ} {ts said : List ℕ} → is_said c ≡ true → Says ts said → Says (c ∷ ts) (c ∷ said)
  reference : {c : ℕ} {ts rest said : List ℕ} → reference_at ts ≡ Some (c, rest)
      → Says rest said → Says (38 ∷ ts) (c ∷ said)
  line : {ts said : List ℕ} → Says ts said → Says (13 ∷ 10 ∷ ts) (10 ∷ said)
  return : {ts said : List ℕ} → ((more : List ℕ) → ts ≡ 10 ∷ more → ⊥)
      → Says ts said → Says (13 ∷ ts) (10 ∷ said)

-- The front of the text says the character, whatever follows it: what the text says is that and
-- what
-- is left says.
pub record Turns (text : List ℕ) (c : ℕ) (rest : List ℕ) : Type 0 where
  pub on : (said : List ℕ) → Says rest said → Says text (c ∷ said)
  pub back : (said : List ℕ) → Says text said → (more : List ℕ) × Says rest more
