-- What may be between tokens: white space and comments (XPath 2.0, 2.6 and A.2.4.1).
use Rattle.std.specs.Prelude.{◌≡◌, ℕ, List, [], ◌∷◌, Bool, true, false, ◌&&◌, ◌==◌}
use Rattle.xt_names.specs.Characters.{Ends, is_space, is_char}

-- the two characters come first
abbrev pub begins_with : ℕ → ℕ → List ℕ → Bool
begins_with a b [] = false
begins_with a b (c ∷ []) = false
begins_with a b (c ∷ d ∷ ts) = c == a && d == b

-- Comment ::= "(:" (CommentContents | Comment)* ":)", from after its `(:` up to after its `:)`
pub data Comment : List ℕ → List ℕ → Type 0 where
  over : {ts : List ℕ} → Comment (58 ∷ 41 ∷ ts) ts
  nested : {ts mid rest : List ℕ} → Comment ts mid → Comment mid rest → Comment (40 ∷ 58 ∷ ts) rest
  passes : {c : ℕ} {ts rest : List ℕ} → is_char c ≡ true → begins_with 58 41 (c ∷ ts) ≡ false
      → begins_with 40 58 (c ∷ ts) ≡ false → Comment ts rest → Comment (c ∷ ts) rest

-- White space and comments. The first truth value says whether a digit stands directly before them,
-- the second whether one stands directly before what follows: none does but where nothing is passed
-- over.
pub data Gap : Bool → List ℕ → Bool → List ℕ → Type 0 where
  none : {behind : Bool} {ts : List ℕ} → Gap behind ts behind ts
  space : {behind after : Bool} {c : ℕ} {ts rest : List ℕ} → is_space c ≡ true
      → Gap false ts after rest → Gap behind (c ∷ ts) after rest
  comment : {behind after : Bool} {ts mid rest : List ℕ} → Comment ts mid
      → Gap false mid after rest → Gap behind (40 ∷ 58 ∷ ts) after rest

-- neither white space nor a whole comment comes first
pub record Stops (ts : List ℕ) : Type 0 where
  pub no_space : Ends is_space ts
  pub no_comment : (inside rest : List ℕ) → ts ≡ 40 ∷ 58 ∷ inside → Comment inside rest → ⊥
