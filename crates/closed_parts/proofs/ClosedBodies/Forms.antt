-- What makes a form of instruction one that a closed stylesheet may have, that may stand where it
-- does and that nests so deep: what makes its parts so.
use Rattle.std.proofs.Common.{◌≡◌, ℕ, suc, ◌+◌, ◌≤◌, List, Bool, true, ap, ◌∙◌, arith}
use Rattle.xt_syntax.specs.declared.exprs.Expr.{Expr}
use Rattle.xt_syntax.specs.declared.patterns.Pattern.{Pattern}
use Rattle.xt_sheets.specs.Layers.{Kinds, Steps, InstrLayer, instr_gives, value_gives, bound_gives}
use Rattle.xt_sheets.specs.Layers.{when_gives}
use Rattle.xt_sheets.specs.declared.instrs.Bound.{Bound}
use Rattle.xt_sheets.specs.declared.instrs.Instr.{Instr}
use Rattle.xt_sheets.specs.declared.instrs.Instr.TheFolds.{fold-roll-Instr, map-Instr}
use Rattle.xt_sheets.specs.declared.instrs.Instr.TheOpen.{Instr-F}
use Rattle.xt_sheets.specs.declared.instrs.Instr.TheViews.{roll-Instr}
use Rattle.xt_sheets.specs.declared.instrs.Value.{Value}
use Rattle.xt_sheets.specs.declared.instrs.When.{When}
use Rattle.closed_sheets.specs.Instrs.{goods, good_steps, instr_good, is_good_instr}
use Rattle.closed_sheets.specs.SheetForms.InstrNest.{nests, nest_steps, within, is_binding, nested_of}
use Rattle.sheet_closure.specs.StandingParts.Bodies.{standings, stand_steps, instr_stand, instr_stands}

abbrev pub Instrs : Type 0
Instrs = List (Instr Expr Pattern)

abbrev pub Bounds : Type 0
Bounds = List (Bound Expr Pattern)

-- a form of instruction
abbrev pub Form : Type 0
Form = Instr-F Expr Pattern (Instr Expr Pattern) (Value Expr Pattern) (Bound Expr Pattern)
    (When Expr Pattern)

abbrev pub mapped : (k : Kinds) → Steps Expr Pattern k → Form → InstrLayer Expr Pattern k
mapped k s x =
    map-Instr Expr Pattern (Instr Expr Pattern) (Value Expr Pattern) (Bound Expr Pattern)
    (When Expr Pattern) k.Instrs k.Values k.Bounds k.Whens (instr_gives k s) (value_gives k s)
    (bound_gives k s) (when_gives k s) x

instr_rolled : (k : Kinds) (s : Steps Expr Pattern k) (x : Form)
    → instr_gives k s (roll-Instr Expr Pattern x) ≡ s.of_instr (mapped k s x)
instr_rolled k s x = fold-roll-Instr _ _ _ _ _ _ _ _ _ _ x

-- an instruction that has at most one level more than may be within it
pub record ClosedInstr (grouped : Bool) (room : ℕ) (binds : Bool) (i : Instr Expr Pattern)
    : Type 0 where
  pub good : is_good_instr i ≡ true
  pub stands : instr_stands i grouped ≡ true
  pub nests : (nested_of i).levels ≤ suc room
  pub bound : (nested_of i).binds ≡ binds

pub rolled : (grouped : Bool) (room : ℕ) (b : Bool) (x : Form)
    → instr_good (mapped goods good_steps x) ≡ true
    → instr_stand (mapped standings stand_steps x) grouped ≡ true
    → within (mapped nests nest_steps x) ≤ room → is_binding (mapped nests nest_steps x) ≡ b
    → ClosedInstr grouped room b (roll-Instr Expr Pattern x)
rolled grouped room b x g s n e =
    let k = instr_rolled nests nest_steps x in
    let levels : (nested_of (roll-Instr Expr Pattern x)).levels
    ≡ 1 + within (mapped nests nest_steps x) = ap (λ y. y.levels) k in
    record {
      good = instr_rolled goods good_steps x ∙ g;
      stands = ap (λ f. f grouped) (instr_rolled standings stand_steps x) ∙ s;
      nests = omega (arith, levels, n);
      bound = ap (λ y. y.binds) k ∙ e;
    }
