-- An expression in which variables, and then all other forms from within, are rewritten by what is in
-- sight: a sight says what binds around them.
use Rattle.std.specs.Prelude.{List, [], ◌∷◌, map, Bool, true, ◌&&◌, Option, Some, None}
use Rattle.xt_names.specs.declared.names.ExprName.{ExprName}
use Rattle.xt_syntax.specs.declared.exprs.Expr.{Expr}
use Rattle.xt_syntax.specs.declared.exprs.Arm.{Arm}
use Rattle.xt_syntax.specs.declared.exprs.Clause.{Clause}
use Rattle.xt_syntax.specs.declared.exprs.Order.{Order}
use Rattle.xt_syntax.specs.declared.exprs.Flwor.{Flwor as FlworOf}
use Rattle.xt_syntax.specs.declared.exprs.Bind.{Bind}
use Rattle.xt_syntax.specs.declared.exprs.NameSource.{NameSource}
use Rattle.xt_syntax.specs.declared.exprs.DirectAttr.{DirectAttr}
use Rattle.xt_syntax.specs.declared.exprs.Part.{Part}
use Rattle.xt_syntax.specs.declared.exprs.Clause.TheOpen.{Int, Str, Var, Context, Root, Comma, Or}
use Rattle.xt_syntax.specs.declared.exprs.Clause.TheOpen.{And, If, Flwor, Quant, General, Value, Is}
use Rattle.xt_syntax.specs.declared.exprs.Clause.TheOpen.{Before, After, Range, Arith, Minus, Plus}
use Rattle.xt_syntax.specs.declared.exprs.Clause.TheOpen.{Union, Intersect, Except, InstanceOf}
use Rattle.xt_syntax.specs.declared.exprs.Clause.TheOpen.{Treat, Castable, Cast, Slash, Step}
use Rattle.xt_syntax.specs.declared.exprs.Clause.TheOpen.{Filter, Call, ElemC, AttrC, DocC, TextC}
use Rattle.xt_syntax.specs.declared.exprs.Clause.TheOpen.{CommentC, PiC, Direct, For, Let, Fixed}
use Rattle.xt_syntax.specs.declared.exprs.Clause.TheOpen.{Computed, Chars, Enclosed, Child}
use Rattle.xt_syntax.specs.declared.exprs.Clause.TheViews.{roll-Expr, roll-Arm, roll-Clause, roll-Order}
use Rattle.xt_syntax.specs.declared.exprs.Clause.TheViews.{roll-Flwor, roll-Bind, roll-NameSource}
use Rattle.xt_syntax.specs.declared.exprs.Clause.TheViews.{roll-DirectAttr, roll-Part}
use Rattle.xt_syntax.specs.declared.exprs.Clause.TheFolds.{map-Expr}
use Rattle.xt_syntax.specs.Layers.{Kinds, Steps, ExprLayer, ClauseLayer, NameLayer, PartLayer}
use Rattle.xt_syntax.specs.Layers.{FlworLayer, expr_gives, clause_gives, flwor_gives}
use Rattle.rewrite_rules.specs.Forms.{ExprForm}

module _ (S : Type 0) (after : ExprName → S → S) where
  -- a binding: its variable, and itself at a sight
  abbrev pub PlacedBind : Type 0
  PlacedBind = ExprName × (S → Bind)

  -- a clause: itself at a sight, and the sight after it
  abbrev pub PlacedClause : Type 0
  PlacedClause = (S → Clause) × (S → S)

  abbrev pub placed : Kinds
  placed = record {
    Clauses = PlacedClause;
    Exprs = S → Expr;
    Names = S → NameSource;
    Parts = S → Part;
    Arms = S → Arm;
    Binds = PlacedBind;
    Attrs = S → DirectAttr;
    Flwors = S → FlworOf;
    Orders = S → Order;
  }

  abbrev pub behind_binds : List PlacedBind → S → S
  behind_binds [] s = s
  behind_binds (b ∷ bs) s = behind_binds bs (after b.0 s)

  abbrev pub binds_at : List PlacedBind → S → List Bind
  binds_at [] s = []
  binds_at (b ∷ bs) s = b.1 s ∷ binds_at bs (after b.0 s)

  abbrev pub behind_clauses : List PlacedClause → S → S
  behind_clauses [] s = s
  behind_clauses (c ∷ cs) s = behind_clauses cs (c.1 s)

  abbrev pub clauses_at : List PlacedClause → S → List Clause
  clauses_at [] s = []
  clauses_at (c ∷ cs) s = c.0 s ∷ clauses_at cs (c.1 s)

  abbrev pub option_at : Option (S → Expr) → S → Option Expr
  option_at None s = None
  option_at (Some e) s = Some (e s)

  abbrev pub form_at : ExprLayer placed → S → ExprForm
  form_at (Quant every binds test) s = Quant every (binds_at binds s) (test (behind_binds binds s))
  form_at x s = map-Expr placed.Clauses placed.Exprs placed.Names placed.Parts placed.Arms placed.Binds
      placed.Attrs placed.Flwors placed.Orders Clause Expr NameSource Part Arm Bind DirectAttr FlworOf Order
      (λ c. c.0 s) (λ e. e s) (λ n. n s) (λ p. p s) (λ a. a s) (λ b. b.1 s) (λ a. a s) (λ f. f s)
      (λ o. o s) x

  abbrev pub clause_at : ClauseLayer placed → PlacedClause
  clause_at (For b None) = (λ s. roll-Clause (For (b.1 s) None), after b.0)
  clause_at (For b (Some place)) = (λ s. roll-Clause (For (b.1 s) (Some place)), λ s. after place (after b.0 s))
  clause_at (Let b) = (λ s. roll-Clause (Let (b.1 s)), after b.0)

  abbrev pub name_at : NameLayer placed → S → NameSource
  name_at (Fixed name) s = roll-NameSource (Fixed name)
  name_at (Computed e) s = roll-NameSource (Computed (e s))

  abbrev pub part_at : PartLayer placed → S → Part
  part_at (Chars text) s = roll-Part (Chars text)
  part_at (Enclosed e) s = roll-Part (Enclosed (e s))
  part_at (Child e) s = roll-Part (Child (e s))

  abbrev pub flwor_at : FlworLayer placed → S → FlworOf
  flwor_at f s = roll-Flwor (record {
    clauses = clauses_at f.clauses s;
    test = option_at f.test (behind_clauses f.clauses s);
    orders = map (λ o. o (behind_clauses f.clauses s)) f.orders;
    stable = f.stable;
    body = f.body (behind_clauses f.clauses s);
  })

  module _ (variable_at : S → ExprName → Expr) (fix : S → Expr → Expr) where
    abbrev pub expr_at : ExprLayer placed → S → Expr
    expr_at (Var name) s = variable_at s name
    expr_at x s = fix s (roll-Expr (form_at x s))

    abbrev pub moved_steps : Steps placed
    moved_steps = record {
      of_expr = expr_at;
      of_clause = clause_at;
      of_name = name_at;
      of_part = part_at;
      of_arm = λ a s. roll-Arm (record { test = a.test s; then = a.then s });
      of_bind = λ b. (b.var, λ s. roll-Bind (record { var = b.var; kind = b.kind; source = b.source s }));
      of_attr = λ a s. roll-DirectAttr (record { name = a.name; parts = map (λ p. p s) a.parts });
      of_flwor = flwor_at;
      of_order = λ o s. roll-Order (record { key = o.key s; descending = o.descending });
    }

    -- the expression at a sight
    abbrev pub moved : Expr → S → Expr
    moved = expr_gives placed moved_steps

    abbrev pub moved_flwor : FlworOf → S → FlworOf
    moved_flwor = flwor_gives placed moved_steps

    abbrev pub moved_clause : Clause → PlacedClause
    moved_clause = clause_gives placed moved_steps

  -- whether each variable is allowed at its sight
  abbrev pub fits : Kinds
  fits = record {
    Clauses = (S → Bool) × (S → S);
    Exprs = S → Bool;
    Names = S → Bool;
    Parts = S → Bool;
    Arms = S → Bool;
    Binds = ExprName × (S → Bool);
    Attrs = S → Bool;
    Flwors = S → Bool;
    Orders = S → Bool;
  }

  abbrev pub all_fit : List (S → Bool) → S → Bool
  all_fit [] s = true
  all_fit (t ∷ ts) s = t s && all_fit ts s

  abbrev pub binds_fit : List (ExprName × (S → Bool)) → (S → Bool) → S → Bool
  binds_fit [] rest s = rest s
  binds_fit (b ∷ bs) rest s = b.1 s && binds_fit bs rest (after b.0 s)

  abbrev pub clauses_fit : List ((S → Bool) × (S → S)) → (S → Bool) → S → Bool
  clauses_fit [] rest s = rest s
  clauses_fit (c ∷ cs) rest s = c.0 s && clauses_fit cs rest (c.1 s)

  abbrev pub option_fits : Option (S → Bool) → S → Bool
  option_fits None s = true
  option_fits (Some t) s = t s

  module _ (good : S → ExprName → Bool) where
    abbrev pub expr_fits : ExprLayer fits → S → Bool
    expr_fits (Int n) s = true
    expr_fits (Str text) s = true
    expr_fits (Var name) s = good s name
    expr_fits Context s = true
    expr_fits Root s = true
    expr_fits (Comma all) s = all_fit all s
    expr_fits (Or all) s = all_fit all s
    expr_fits (And all) s = all_fit all s
    expr_fits (If arms other) s = all_fit arms s && other s
    expr_fits (Flwor parts) s = parts s
    expr_fits (Quant every binds test) s = binds_fit binds test s
    expr_fits (General op a b) s = a s && b s
    expr_fits (Value op a b) s = a s && b s
    expr_fits (Is a b) s = a s && b s
    expr_fits (Before a b) s = a s && b s
    expr_fits (After a b) s = a s && b s
    expr_fits (Range a b) s = a s && b s
    expr_fits (Arith op a b) s = a s && b s
    expr_fits (Minus a) s = a s
    expr_fits (Plus a) s = a s
    expr_fits (Union a b) s = a s && b s
    expr_fits (Intersect a b) s = a s && b s
    expr_fits (Except a b) s = a s && b s
    expr_fits (InstanceOf a kind) s = a s
    expr_fits (Treat a kind) s = a s
    expr_fits (Castable a kind empty) s = a s
    expr_fits (Cast a kind empty) s = a s
    expr_fits (Slash a b) s = a s && b s
    expr_fits (Step axis wanted tests) s = all_fit tests s
    expr_fits (Filter of tests) s = of s && all_fit tests s
    expr_fits (Call name args) s = all_fit args s
    expr_fits (ElemC name content) s = name s && content s
    expr_fits (AttrC name content) s = name s && content s
    expr_fits (DocC content) s = content s
    expr_fits (TextC content) s = content s
    expr_fits (CommentC content) s = content s
    expr_fits (PiC name content) s = name s && content s
    expr_fits (Direct name attrs parts) s = all_fit attrs s && all_fit parts s

    abbrev pub clause_fits : ClauseLayer fits → (S → Bool) × (S → S)
    clause_fits (For b None) = (b.1, after b.0)
    clause_fits (For b (Some place)) = (b.1, λ s. after place (after b.0 s))
    clause_fits (Let b) = (b.1, after b.0)

    abbrev pub name_fits : NameLayer fits → S → Bool
    name_fits (Fixed name) s = true
    name_fits (Computed e) s = e s

    abbrev pub part_fits : PartLayer fits → S → Bool
    part_fits (Chars text) s = true
    part_fits (Enclosed e) s = e s
    part_fits (Child e) s = e s

    abbrev pub flwor_fits : FlworLayer fits → S → Bool
    flwor_fits f =
        clauses_fit f.clauses (λ s. option_fits f.test s && (all_fit f.orders s && f.body s))

    abbrev pub fits_steps : Steps fits
    fits_steps = record {
      of_expr = expr_fits;
      of_clause = clause_fits;
      of_name = name_fits;
      of_part = part_fits;
      of_arm = λ a s. a.test s && a.then s;
      of_bind = λ b. (b.var, b.source);
      of_attr = λ a s. all_fit a.parts s;
      of_flwor = flwor_fits;
      of_order = λ o s. o.key s;
    }

    abbrev pub expr_fit : Expr → S → Bool
    expr_fit = expr_gives fits fits_steps
