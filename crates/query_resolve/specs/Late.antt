-- Variables, functions and options, one after another (XQuery 1.0, 4.14 to 4.16).
use Rattle.std.specs.Prelude.{List, [], ◌∷◌, ◌++◌}
use Rattle.xt_names.specs.declared.codes.Code.{Code}
use Rattle.closed_queries.specs.declared.prolog_rules.declarations.Declaration.{Declaration}
use Rattle.closed_queries.specs.declared.prolog_rules.declarations.Declaration.TheVariants as declaration
use Rattle.expr_resolve.specs.declared.setting.Setting.{Setting}
use Rattle.query_grammar.specs.declared.declared.Declared.{Declared}
use Rattle.query_grammar.specs.declared.declared.Declared.TheVariants as declared
use Rattle.query_options.specs.Options.{no_options, option_broken, with_option}
use Rattle.query_options.specs.declared.options.Options.{Options}
use Rattle.query_resolve.specs.declared.late.Late.{Late}
use Rattle.query_resolve.specs.Declarations.{variable_broken, variable_meant, function_broken}
use Rattle.query_resolve.specs.Declarations.{function_meant}

-- the variable or function that is declared, where it is one
unfoldable pub declaration_in : Setting → Declared → List Declaration
declaration_in s (declared.Variable v value) = declaration.Variable (variable_meant s v value) ∷ []
declaration_in s (declared.Function name params kind body) =
    declaration.Function (function_meant s name params kind body) ∷ []
declaration_in s _ = []

-- the options with this declaration, where it is one
unfoldable pub options_behind : Setting → Options → Declared → Options
options_behind s o (declared.Setting name text) = with_option s.prefixes.bound o name text
options_behind s o _ = o

-- the rules that a declaration breaks in how it is written, after these options
unfoldable pub late_broken : Setting → Options → Declared → List Code
late_broken s o (declared.Setting name text) = option_broken s.prefixes.bound o name text
late_broken s o (declared.Variable v value) = variable_broken s v value
late_broken s o (declared.Function name params kind body) = function_broken s name params kind body
late_broken s o _ = []

abbrev pub late_behind : Setting → Late → Declared → Late
late_behind s l d = record {
  declarations = l.declarations ++ declaration_in s d;
  options = options_behind s l.options d;
}

-- the variables and functions that are declared, in order
abbrev pub declarations_of : Setting → List Declared → List Declaration
declarations_of s [] = []
declarations_of s (d ∷ ds) = declaration_in s d ++ declarations_of s ds

-- the options after all declarations
abbrev pub all_options : Setting → Options → List Declared → Options
all_options s o [] = o
all_options s o (d ∷ ds) = all_options s (options_behind s o d) ds

-- what all declarations mean
abbrev pub late_meant : Setting → List Declared → Late
late_meant s ds = record {
  declarations = declarations_of s ds;
  options = all_options s no_options ds;
}

-- the rules that they break, in reading order
abbrev pub all_broken : Setting → Options → List Declared → List Code
all_broken s o [] = []
all_broken s o (d ∷ ds) = late_broken s o d ++ all_broken s (options_behind s o d) ds
