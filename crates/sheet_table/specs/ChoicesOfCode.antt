-- The values in the code.
use Rattle.std.specs.Prelude.{List, map, Bool, ◌&&◌}
use Rattle.std.specs.List.{list_all}
use Rattle.sheet_table.specs.Texts.{is_ascii, are_ascii}
use Rattle.sheet_table.specs.Choices as table
use Rattle.sheet_table.specs.declared.choices.Choice.{Choice}

abbrev pub choice_as : Choice → table.Choice
choice_as c = table.choice c.0.now (map (λ n. n.now) c.1.now) c.2

abbrev pub choices_as : List Choice → List table.Choice
choices_as cs = map choice_as cs

-- each text has ASCII characters alone
abbrev pub is_ascii_choice : Choice → Bool
is_ascii_choice c = is_ascii c.0.now && are_ascii (map (λ n. n.now) c.1.now)

abbrev pub are_ascii_choices : List Choice → Bool
are_ascii_choices cs = list_all is_ascii_choice cs
