-- Texts of the table, in the code and as definitions see them.
use Rattle.std.specs.Prelude.{ℕ, List, map, Bool, nat_lt}
use Rattle.std.specs.List.{list_any, list_all}
use Rattle.std.specs.Str.{bytes_eq}
use Rattle.sheet_table.specs.declared.elements.Entry.{Entry}
use Rattle.sheet_table.specs.declared.elements.XslElement.{XslElement}

abbrev pub is_ascii : List ℕ → Bool
is_ascii t = list_all (λ b. nat_lt b 128) t

abbrev pub are_ascii : List (List ℕ) → Bool
are_ascii names = list_all is_ascii names

abbrev pub is_one_of : List ℕ → List (List ℕ) → Bool
is_one_of text names = list_any (λ n. bytes_eq text n) names

-- a local name with its element
pub record Named : Type 0 where
  pub name : List ℕ
  pub element : XslElement

abbrev pub named : List ℕ → XslElement → Named
named name element = record { name = name; element = element }

abbrev pub entries_as : List Entry → List Named
entries_as entries = map (λ e. named e.0.now e.1) entries

abbrev pub are_ascii_entries : List Entry → Bool
are_ascii_entries entries = list_all (λ e. is_ascii e.0.now) entries
