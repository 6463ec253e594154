-- What is known where a text of a stylesheet stands, as the parsers take it (XSLT 2.0, 5.4.1).
use Rattle.std.specs.Prelude.{List, [], true, codes}
use Rattle.xt_names.specs.declared.names.Binding.{Binding}
use Rattle.xt_syntax.specs.declared.prefixes.Prefixes.{Prefixes}
use Rattle.pattern_syntax.specs.ExprResolve.declared.setting.Setting.{Setting}

-- names of elements and types without prefix have no uri, functions have that of XPath's functions
abbrev pub prefixes_at : List Binding → Prefixes
prefixes_at bound = record {
  bound = bound;
  element_default = [];
  function_default = codes "http://www.w3.org/2005/xpath-functions";
}

-- no boundary white space is in an expression
abbrev pub setting_at : List Binding → Setting
setting_at bound = record { prefixes = prefixes_at bound; strip = true }
