-- Characters that are written as they are.
use Rattle.std.specs.Prelude.{◌≡◌, ℕ, List, ◌++◌, Bool, not, ◌||◌, ◌==◌}
use Rattle.std.specs.List.{flat_map}
use Rattle.std.specs.Str.{chars}
use Rattle.doc_writer.specs.Escapes.{is_control}

unfoldable pub is_plain_in_text : ℕ → Bool
is_plain_in_text c = not (c == 38 || c == 60 || c == 62 || c == 0xD || is_control c)

unfoldable pub is_plain_in_value : ℕ → Bool
is_plain_in_value c = not (c == 38 || c == 60 || c == 34 || c == 0x9 || c == 0xA || c == 0xD || is_control c)

-- a text and what is after its first characters, which are written as they are
pub record BeginsPlain (written : ℕ → List ℕ) (whole rest : List ℕ) : Type 0 where
  -- the bytes of those characters
  pub front : List ℕ
  pub run : List ℕ
  pub is_whole : whole ≡ front ++ rest
  pub characters : chars whole ≡ run ++ chars rest
  pub plain : flat_map written run ≡ run
