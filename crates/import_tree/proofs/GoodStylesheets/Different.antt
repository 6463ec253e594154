-- The globals and the functions of a loaded stylesheet have different names.
use Rattle.std.proofs.Common.{◌≡◌, ◌≤◌, suc, ◌+◌, List, [], ◌∷◌, ◌++◌, map, length}
use Rattle.std.proofs.Common.{Bool, true, false, refl, sym, subst, arith}
use Rattle.std.proofs.lemmas.Bool.{and_from}
use Rattle.std.specs.List.{range_with_len}
use Rattle.xt_syntax.specs.declared.exprs.Expr.{Expr}
use Rattle.xt_syntax.specs.declared.patterns.Pattern.{Pattern}
use Rattle.xt_sheets.specs.declared.sheets.Global.{Global}
use Rattle.name_rules.specs.Scopes.{names_differ}
use Rattle.global_needs.specs.Needs.{needs}
use Rattle.global_order.specs.Order.{order_of}
use Rattle.global_order.proofs.OrderLemmas.{order-in_order}
use Rattle.sheet_modules.specs.declared.modules.Part.{Part}
use Rattle.sheet_modules.specs.declared.modules.Part.TheVariants as part
use Rattle.sheet_rules.specs.declared.sheet_declarations.lists.Declaration.{Declaration}
use Rattle.sheet_rules.specs.SheetDeclarations.Counts.{counted_of}
use Rattle.sheet_assembly.specs.Named.{each_by, global_if, global_in, ordered, is_marked, behind}
use Rattle.sheet_closure.specs.Declared.{global_name, has_different_names}
use Rattle.module_loading.specs.declared.loaded.LoadedSheet.{LoadedSheet}
use Rattle.loaded_sheets.specs.Sheets.{declarations_in, declared_in, sheet_value}
use Rattle.loaded_sheets.specs.Wholes.{declared_sheet, evaluation_order, in_order}
use Rattle.assembly_laws.specs.Laws.{FunctionsDiffer, GlobalsDiffer}
use Rattle.declared_uses.proofs.OrderedGlobals.Names.{from_place}

one_at_most : (b : Bool) (p : Part Expr Pattern) (rest : List Global)
    → length (global_in b p ++ rest) ≤ suc (length rest)
one_at_most true (part.Global g) rest = omega arith
one_at_most true _ rest = omega arith
one_at_most false _ rest = omega arith

few : (marks : List Bool) (ds : List (Declaration Expr Pattern))
    → length (each_by global_if marks ds) ≤ length ds
few marks [] = omega arith
few marks (d ∷ ds) =
    let h = one_at_most (is_marked marks) d.part (each_by global_if (behind marks) ds) in
    let k = few (behind marks) ds in
    omega (arith, h, k)

all_in_place : (ds : List (Declaration Expr Pattern))
    → ordered (each_by global_if (counted_of ds) ds) (range_with_len 0 (length ds))
    ≡ each_by global_if (counted_of ds) ds
all_in_place ds =
    let h = few (counted_of ds) ds in
    from_place (each_by global_if (counted_of ds) ds) (length ds) 0 (omega (arith, h))

pub names_apart : FunctionsDiffer → GlobalsDiffer → (l : LoadedSheet)
    → has_different_names (sheet_value l) ≡ true
unfolding has_different_names sheet_value in_order declared_sheet evaluation_order
names_apart functions_new globals_new l =
    let ds = declarations_in l in
    let g = needs (declared_in l) in
    and_from
    (names_differ (map global_name (ordered (declared_in l).globals (order_of g)))) _
    (subst (λ (gs : List Global). names_differ (map global_name (ordered gs (order_of g))) ≡ true)
    (sym (all_in_place ds))
    (globals_new ds g (order_of g) (order-in_order g (order_of g) refl)))
    (functions_new ds)
