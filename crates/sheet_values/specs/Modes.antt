-- Modes (XSLT 2.0, 6.5). The default mode is the name of no characters, which no text writes.
use Rattle.std.specs.Prelude.{ℕ, List, [], ◌∷◌, ◌++◌, map, Bool, false, not, codes}
use Rattle.std.specs.Prelude.{if◌then◌else◌}
use Rattle.std.specs.Str.{bytes_eq}
use Rattle.xt_names.specs.declared.names.Binding.{Binding}
use Rattle.xt_names.specs.declared.names.ExprName.{ExprName}
use Rattle.xt_names.specs.declared.names.Name.{Name}
use Rattle.xt_names.specs.declared.codes.Code.{Code}
use Rattle.xt_names.specs.declared.codes.Code.TheVariants.{SheetStatic}
use Rattle.xt_names.specs.declared.codes.SheetStaticCode.{SheetStaticCode}
use Rattle.xt_names.specs.declared.codes.SheetStaticCode.TheVariants.{XTSE0020, XTSE0550}
use Rattle.expr_names.specs.Doubles.{names_differ}
use Rattle.query_options.specs.Words.{words_of}
use Rattle.sheet_values.specs.Rules.{broken, each}
use Rattle.sheet_values.specs.Names.{declared_faults, qname_value}
use Rattle.sheet_values.specs.declared.modes.Modes.{Modes}
use Rattle.sheet_values.specs.declared.modes.Modes.TheVariants.{All, Names}
use Rattle.sheet_values.specs.declared.modes.ModeChoice.{ModeChoice}
use Rattle.sheet_values.specs.declared.modes.ModeChoice.TheVariants.{Current, Named}

abbrev pub default_mode : ExprName
default_mode = record { uri = []; local = [] }

abbrev pub is_default : List ℕ → Bool
is_default word = bytes_eq word (codes "#default")

-- the mode that a word of a list means: `#default` or a name
abbrev pub mode_meant : List Binding → List ℕ → ExprName
mode_meant bound word = if is_default word then default_mode else qname_value bound word

abbrev pub mode_broken : SheetStaticCode → List Binding → List ℕ → List Code
mode_broken code bound word = if is_default word then [] else declared_faults code bound word

abbrev pub plain_name : ExprName → Name
plain_name n = record { prefix = []; uri = n.uri; local = n.local }

-- no two modes of a list are one
abbrev pub modes_differ : List ExprName → Bool
modes_differ ns = names_differ (map plain_name ns)

abbrev pub modes_in : List Binding → List (List ℕ) → List ExprName
modes_in bound words = map (mode_meant bound) words

-- a list has a mode, each of its words means one, and no two mean the same
abbrev pub named_broken : List Binding → List (List ℕ) → List Code
named_broken bound words =
    each (mode_broken XTSE0550 bound) words
    ++ broken XTSE0550 (not (modes_differ (modes_in bound words)))

abbrev pub is_all : List ℕ → Bool
is_all word = bytes_eq word (codes "#all")

-- `#all` stands alone
abbrev pub are_all : List (List ℕ) → Bool
are_all [] = false
are_all (w ∷ []) = is_all w
are_all (w ∷ v ∷ ws) = false

abbrev pub words_broken : List Binding → List (List ℕ) → List Code
words_broken bound [] = SheetStatic XTSE0550 ∷ []
words_broken bound (w ∷ ws) = if are_all (w ∷ ws) then [] else named_broken bound (w ∷ ws)

abbrev pub words_meant : List Binding → List (List ℕ) → Modes
words_meant bound words = if are_all words then All else Names (modes_in bound words)

-- the list of modes of a template
abbrev pub mode_list_faults : List Binding → List ℕ → List Code
mode_list_faults bound text = words_broken bound (words_of text)

abbrev pub mode_list_value : List Binding → List ℕ → Modes
mode_list_value bound text = words_meant bound (words_of text)

abbrev pub is_current : List ℕ → Bool
is_current word = bytes_eq word (codes "#current")

abbrev pub word_broken : List Binding → List ℕ → List Code
word_broken bound word = if is_current word then [] else mode_broken XTSE0020 bound word

abbrev pub word_meant : List Binding → List ℕ → ModeChoice
word_meant bound word = if is_current word then Current else Named (mode_meant bound word)

-- one word, with white space around it
abbrev pub one_broken : List Binding → List (List ℕ) → List Code
one_broken bound [] = SheetStatic XTSE0020 ∷ []
one_broken bound (w ∷ []) = word_broken bound w
one_broken bound (w ∷ v ∷ ws) = SheetStatic XTSE0020 ∷ []

abbrev pub one_meant : List Binding → List (List ℕ) → ModeChoice
one_meant bound [] = Current
one_meant bound (w ∷ []) = word_meant bound w
one_meant bound (w ∷ v ∷ ws) = Current

-- the mode of xsl:apply-templates
abbrev pub mode_choice_faults : List Binding → List ℕ → List Code
mode_choice_faults bound text = one_broken bound (words_of text)

abbrev pub mode_choice_value : List Binding → List ℕ → ModeChoice
mode_choice_value bound text = one_meant bound (words_of text)
