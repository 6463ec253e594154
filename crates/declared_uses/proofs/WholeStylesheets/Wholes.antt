-- Stylesheets that are not refused keep their names, and their globals stand in order.
use Rattle.std.proofs.Common.{◌≡◌, List, [], length, Bool, true, false, refl}
use Rattle.std.proofs.lemmas.Bool.{ltb-false}
use Rattle.std.specs.List.{range_with_len}
use Rattle.xt_names.specs.declared.codes.SheetStaticCode.TheVariants.{XTDE0640}
use Rattle.xt_names.specs.declared.names.ExprName.{ExprName}
use Rattle.xt_syntax.specs.declared.exprs.Expr.{Expr}
use Rattle.xt_syntax.specs.declared.patterns.Pattern.{Pattern}
use Rattle.sheet_modules.specs.declared.sheet_levels.levels.SheetLevel.{SheetLevel}
use Rattle.sheet_rules.specs.declared.sheet_declarations.lists.Declaration.{Declaration}
use Rattle.sheet_rules.specs.SheetDeclarations.Counts.{counted_of}
use Rattle.sheet_rules.specs.WideRules.Doubles.{code_if}
use Rattle.sheet_rules.specs.Rules.{broken_rules}
use Rattle.sheet_assembly.specs.Named.{each_by, global_if}
use Rattle.sheet_assembly.specs.Sheets.{Parts, sheet_of}
use Rattle.declared_uses.specs.SheetClosure.Declared.{keeps_names}
use Rattle.declared_uses.specs.SheetClosure.Numbers.{has_order}
use Rattle.loaded_sheets.specs.Wholes.{declared_sheet, evaluation_order, is_circular, wide_broken}
use Rattle.loaded_sheets.specs.Wholes.{called_parameters, wide_faults, in_order}
use Rattle.loaded_sheets.proofs.Globals.{all_there, few_globals}
use Rattle.loaded_sheets.proofs.WideLemmas.{together_told}
use Rattle.declared_uses.specs.Numbers.{have_numbers}
use Rattle.declared_uses.specs.Orders.{AreAllInOrder, HasEachGlobal}
use Rattle.declared_uses.proofs.Uses.{names_kept}
use Rattle.declared_uses.proofs.OrderedGlobals.Behind.{globals_behind}
use Rattle.xt_names.proofs.ListLemmas.{front_nil, back_nil}

not_round : (b : Bool) → code_if b XTDE0640 ≡ [] → b ≡ false
not_round true h = absurd cc
not_round false h = refl

module _ (ds : List (Declaration Expr Pattern)) (modes called : List ExprName)
    (levels : List SheetLevel) where
  abbrev parts : Parts
  parts = record {
    declarations = ds;
    modes = modes;
    called = called;
    levels = levels;
    order = range_with_len 0 (length ds);
  }

  each_global : HasEachGlobal parts
  each_global =
      all_there (each_by global_if (counted_of ds) ds) (length ds) (few_globals (counted_of ds) ds)

  module _ (h : wide_faults ds called (declared_sheet ds modes called levels) ≡ []) where
    none_broken : broken_rules ds called
        (called_parameters (length called) (sheet_of parts).templates) ≡ []
    unfolding declared_sheet wide_broken
    none_broken =
        front_nil
        (broken_rules ds called (called_parameters (length called) (sheet_of parts).templates))
        (code_if (is_circular (sheet_of parts)) XTDE0640)
        (together_told ds called (declared_sheet ds modes called levels) h)

    all_in_order : AreAllInOrder (sheet_of parts)
    unfolding declared_sheet wide_broken is_circular evaluation_order
    all_in_order =
        ltb-false (length (evaluation_order (sheet_of parts))) (length (sheet_of parts).globals)
        (not_round (is_circular (sheet_of parts))
        (back_nil
        (broken_rules ds called (called_parameters (length called) (sheet_of parts).templates))
        (code_if (is_circular (sheet_of parts)) XTDE0640)
        (together_told ds called (declared_sheet ds modes called levels) h)))

    pub names_whole : have_numbers modes called ds ≡ true
        → keeps_names (in_order (declared_sheet ds modes called levels)) ≡ true
    unfolding declared_sheet in_order evaluation_order
    names_whole n =
        names_kept parts (called_parameters (length called) (sheet_of parts).templates) each_global
        all_in_order n none_broken

    pub order_whole : has_order (in_order (declared_sheet ds modes called levels)) ≡ true
    unfolding declared_sheet in_order evaluation_order
    order_whole = globals_behind parts each_global all_in_order
