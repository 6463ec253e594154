-- What a query means, as relations of what is written (XQuery 1.0, 2.2.4 and 4).
use Rattle.std.specs.Prelude.{◌≡◌, List, [], ◌∷◌, Option, Result, Ok, Err}
use Rattle.xt_names.specs.declared.codes.Code.{Code}
use Rattle.xt_syntax.specs.declared.queries.Query.{Query}
use Rattle.xt_syntax.specs.declared.queries.QueryVar.{QueryVar}
use Rattle.xt_syntax.specs.declared.queries.QueryFunction.{QueryFunction}
use Rattle.expr_names.specs.declared.fault.ResolveFault.{ResolveFault}
use Rattle.expr_names.specs.declared.fault.ResolveFault.TheVariants.{Static, Memory}
use Rattle.closed_queries.specs.PrologRules.Declarations.{query_broken}
use Rattle.closed_queries.specs.PrologRules.Setters.{nothing_seen, setters_broken}
use Rattle.expr_keys.specs.declared.tokens.Token.{Token}
use Rattle.expr_terms.specs.declared.raws.Raw.{Raw}
use Rattle.expr_resolve.specs.declared.setting.Setting.{Setting}
use Rattle.expr_resolve.specs.Folds.{broken_of, expr_meant}
use Rattle.query_grammar.specs.declared.declared.Declared.{Declared}
use Rattle.query_grammar.specs.declared.declared.Declared.TheVariants as declared
use Rattle.query_grammar.specs.declared.declared.RawQuery.{RawQuery}
use Rattle.query_grammar.specs.declared.declared.Typed.{Typed}
use Rattle.query_options.specs.Options.{no_options}
use Rattle.query_options.specs.declared.options.Options.{Options}
use Rattle.query_resolve.specs.QueryPrologs.Setters.{setters_of, version_broken}
use Rattle.query_resolve.specs.QueryPrologs.Prefixes.{declared_bindings, element_default}
use Rattle.query_resolve.specs.Declarations.{variable_meant, function_meant}
use Rattle.query_resolve.specs.Late.{declaration_in, options_behind, late_broken, all_options}
use Rattle.query_resolve.specs.Queries.{setting_of, late_of}

-- it is one of the codes
pub data Among (c : Code) : List Code → Type 0 where
  here : {cs : List Code} → Among c (c ∷ cs)
  there : {d : Code} {cs : List Code} → Among c cs → Among c (d ∷ cs)

-- one of the declarations breaks the rule of this code, after the options before it
pub data BrokenIn (s : Setting) (c : Code) : Options → List Declared → Type 0 where
  by_first : {o : Options} {d : Declared} {ds : List Declared} → Among c (late_broken s o d)
      → BrokenIn s c o (d ∷ ds)
  by_later : {o : Options} {d : Declared} {ds : List Declared}
      → BrokenIn s c (options_behind s o d) ds
      → BrokenIn s c o (d ∷ ds)

-- the query breaks the rule of this code
pub data Broken (raw : RawQuery) (c : Code) : Type 0 where
  by_version : Among c (version_broken raw.declared) → Broken raw c
  by_setter : Among c (setters_broken nothing_seen (setters_of raw.declared)) → Broken raw c
  by_declaration : BrokenIn (setting_of raw) c no_options raw.declared → Broken raw c
  by_body : Among c (broken_of (setting_of raw) raw.body) → Broken raw c
  -- a name is not declared where it stands, or is declared twice
  by_name : Among c (query_broken (late_of raw).declarations (expr_meant (setting_of raw) raw.body))
      → Broken raw c

-- the variables and the functions that are declared, in order
pub data Declares (s : Setting) : List Declared → List QueryVar → List QueryFunction → Type 0 where
  nothing : Declares s [] [] []
  variable : {v : Typed} {value : Option Raw} {ds : List Declared} {vs : List QueryVar}
      {fs : List QueryFunction} → Declares s ds vs fs
      → Declares s (declared.Variable v value ∷ ds) (variable_meant s v value ∷ vs) fs
  function : {name : Token} {params : List Typed} {kind : Option Raw} {body : Raw}
      {ds : List Declared} {vs : List QueryVar} {fs : List QueryFunction} → Declares s ds vs fs
      → Declares s (declared.Function name params kind body ∷ ds) vs
      (function_meant s name params kind body ∷ fs)
  other : {d : Declared} {ds : List Declared} {vs : List QueryVar} {fs : List QueryFunction}
      → declaration_in s d ≡ [] → Declares s ds vs fs → Declares s (d ∷ ds) vs fs

-- the query means this one, and breaks no rule
pub record Meant (raw : RawQuery) (q : Query) : Type 0 where
  pub unbroken : (c : Code) → Broken raw c → ⊥
  pub prefixes : q.prefixes ≡ declared_bindings (setters_of raw.declared)
  pub default : q.element_default ≡ element_default (setters_of raw.declared)
  pub declares : Declares (setting_of raw) raw.declared q.variables q.functions
  pub body : q.body ≡ expr_meant (setting_of raw) raw.body
  pub space : q.space ≡ (all_options (setting_of raw) no_options raw.declared).rules
  pub omit : q.omit ≡ (all_options (setting_of raw) no_options raw.declared).omit

-- what the answer of the call says of the query
abbrev pub Resolved : Result Query ResolveFault → RawQuery → Type 0
Resolved (Ok q) raw = Meant raw q
Resolved (Err (Static c)) raw = Broken raw c
Resolved (Err (Memory e)) raw = Unit {0}
