-- What a closed stylesheet asks of each of its declarations for itself (XSLT 2.0, 3.6).
use Rattle.std.specs.Prelude.{Bool, ◌&&◌, nat_le}
use Rattle.closed_sheets.specs.Instrs.{is_good_bound}
use Rattle.closed_sheets.specs.Sheets.{is_good_sheet_template, is_good_function, is_good_key}
use Rattle.closed_sheets.specs.Values.{is_good_pattern}
use Rattle.closed_sheets.specs.SheetForms.SheetNest.{global_nest_of, template_nest_of, function_nest_of}
use Rattle.sheet_closure.specs.StandingParts.Patterns.{is_alternative}
use Rattle.sheet_closure.specs.StandingParts.Sheets.{global_stands, template_stands, function_stands, key_stands}
use Rattle.sheet_closure.specs.Closed.{is_space_test}
use Rattle.sheet_closure.specs.Declared.{has_uri}
use Rattle.closed_queries.specs.Texts.{is_sound_name_test}
use Rattle.xt_types.specs.declared.node_tests.SpaceRule.{SpaceRule}
use Rattle.assembly_laws.specs.Laws.{Asked}

-- it is good, may be there, and nests at most 40 levels; a function has a uri
abbrev pub closed_part : Asked
closed_part = record {
  of_global = λ g. is_good_bound g.bound && (global_stands g && nat_le (global_nest_of g) 40);
  of_template = λ t. is_good_sheet_template t
      && (template_stands t && nat_le (template_nest_of t) 40);
  of_pattern = λ p. is_good_pattern p && is_alternative p;
  of_function = λ f. is_good_function f
      && (function_stands f && (has_uri f && nat_le (function_nest_of f) 40));
  of_key = λ k. is_good_key k && key_stands k;
}

-- a rule on white space
abbrev pub closed_space : SpaceRule → Bool
closed_space r = is_sound_name_test r.test && is_space_test r.test
