-- What recursion over instructions gives is what its step gives over what it gives of the parts.
use Rattle.std.proofs.Common.{◌≡◌}
use Rattle.xt_syntax.specs.declared.exprs.Expr.{Expr}
use Rattle.xt_syntax.specs.declared.patterns.Pattern.{Pattern}
use Rattle.xt_sheets.specs.declared.instrs.Instr.{Instr}
use Rattle.xt_sheets.specs.declared.instrs.Value.{Value}
use Rattle.xt_sheets.specs.declared.instrs.Bound.{Bound}
use Rattle.xt_sheets.specs.declared.instrs.When.{When}
use Rattle.xt_sheets.specs.declared.instrs.Instr.TheFolds.{fold-roll-Instr, fold-roll-Value}
use Rattle.xt_sheets.specs.declared.instrs.Instr.TheFolds.{fold-roll-Bound, fold-roll-When}
use Rattle.xt_sheets.specs.declared.instrs.Instr.TheFolds.{map-Instr, map-Value, map-Bound, map-When}
use Rattle.xt_sheets.specs.declared.instrs.Instr.TheViews.{roll-Instr, roll-Value, roll-Bound}
use Rattle.xt_sheets.specs.declared.instrs.Instr.TheViews.{roll-When}
use Rattle.xt_sheets.specs.declared.instrs.Instr.TheOpen.{Instr-F, Value-F, Bound-F, When-F}
use Rattle.xt_sheets.specs.Layers.{Kinds, Steps, InstrLayer, ValueLayer, BoundLayer, WhenLayer}
use Rattle.xt_sheets.specs.Layers.{instr_gives, value_gives, bound_gives, when_gives}

abbrev pub TheInstr : Type 0
TheInstr = Instr Expr Pattern

abbrev pub TheValue : Type 0
TheValue = Value Expr Pattern

abbrev pub TheBound : Type 0
TheBound = Bound Expr Pattern

abbrev pub TheWhen : Type 0
TheWhen = When Expr Pattern

abbrev pub InstrForm : Type 0
InstrForm = Instr-F Expr Pattern TheInstr TheValue TheBound TheWhen

abbrev pub ValueForm : Type 0
ValueForm = Value-F Expr Pattern TheInstr TheValue TheBound TheWhen

abbrev pub BoundForm : Type 0
BoundForm = Bound-F Expr Pattern TheInstr TheValue TheBound TheWhen

abbrev pub WhenForm : Type 0
WhenForm = When-F Expr Pattern TheInstr TheValue TheBound TheWhen

module _ (k : Kinds) (s : Steps Expr Pattern k) where
  abbrev pub instr_mapped : InstrForm → InstrLayer Expr Pattern k
  instr_mapped =
      map-Instr Expr Pattern TheInstr TheValue TheBound TheWhen k.Instrs k.Values k.Bounds k.Whens
      (instr_gives k s) (value_gives k s) (bound_gives k s) (when_gives k s)

  abbrev pub value_mapped : ValueForm → ValueLayer Expr Pattern k
  value_mapped =
      map-Value Expr Pattern TheInstr TheValue TheBound TheWhen k.Instrs k.Values k.Bounds k.Whens
      (instr_gives k s) (value_gives k s) (bound_gives k s) (when_gives k s)

  abbrev pub bound_mapped : BoundForm → BoundLayer Expr Pattern k
  bound_mapped =
      map-Bound Expr Pattern TheInstr TheValue TheBound TheWhen k.Instrs k.Values k.Bounds k.Whens
      (instr_gives k s) (value_gives k s) (bound_gives k s) (when_gives k s)

  abbrev pub when_mapped : WhenForm → WhenLayer Expr Pattern k
  when_mapped =
      map-When Expr Pattern TheInstr TheValue TheBound TheWhen k.Instrs k.Values k.Bounds k.Whens
      (instr_gives k s) (value_gives k s) (bound_gives k s) (when_gives k s)

  pub instr_rolled : (x : InstrForm) →
      instr_gives k s (roll-Instr Expr Pattern x) ≡ s.of_instr (instr_mapped x)
  instr_rolled x = fold-roll-Instr _ _ _ _ _ _ _ _ _ _ x

  pub value_rolled : (x : ValueForm) →
      value_gives k s (roll-Value Expr Pattern x) ≡ s.of_value (value_mapped x)
  value_rolled x = fold-roll-Value _ _ _ _ _ _ _ _ _ _ x

  pub bound_rolled : (x : BoundForm) →
      bound_gives k s (roll-Bound Expr Pattern x) ≡ s.of_bound (bound_mapped x)
  bound_rolled x = fold-roll-Bound _ _ _ _ _ _ _ _ _ _ x

  pub when_rolled : (x : WhenForm) →
      when_gives k s (roll-When Expr Pattern x) ≡ s.of_when (when_mapped x)
  when_rolled x = fold-roll-When _ _ _ _ _ _ _ _ _ _ x
