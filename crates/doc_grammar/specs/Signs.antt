-- The characters that stand for something in markup, by their names.
use Rattle.std.specs.Prelude.{ℕ}

-- `!`
abbrev pub exclamation : ℕ
exclamation = 33

-- `"`
abbrev pub double_quote : ℕ
double_quote = 34

-- `#`
abbrev pub number_sign : ℕ
number_sign = 35

-- `&`
abbrev pub ampersand : ℕ
ampersand = 38

-- `'`
abbrev pub single_quote : ℕ
single_quote = 39

-- `-`
abbrev pub hyphen : ℕ
hyphen = 45

-- `/`
abbrev pub slash : ℕ
slash = 47

-- `;`
abbrev pub semicolon : ℕ
semicolon = 59

-- `<`
abbrev pub less_than : ℕ
less_than = 60

-- `>`
abbrev pub greater_than : ℕ
greater_than = 62

-- `?`
abbrev pub question : ℕ
question = 63

-- `]`
abbrev pub right_bracket : ℕ
right_bracket = 93
