-- Every expression gives in every program what its quiet form gives.
use Rattle.std.proofs.Common.{◌≡◌, List, [], ◌∷◌, map, refl}
use Rattle.xt_syntax.specs.declared.exprs.Expr.{Expr}
use Rattle.xt_syntax.specs.declared.exprs.Arm.{Arm}
use Rattle.xt_syntax.specs.declared.exprs.Clause.{Clause}
use Rattle.xt_syntax.specs.declared.exprs.Order.{Order}
use Rattle.xt_syntax.specs.declared.exprs.Flwor.{Flwor as FlworOf}
use Rattle.xt_syntax.specs.declared.exprs.Bind.{Bind}
use Rattle.xt_syntax.specs.declared.exprs.NameSource.{NameSource}
use Rattle.xt_syntax.specs.declared.exprs.DirectAttr.{DirectAttr}
use Rattle.xt_syntax.specs.declared.exprs.Part.{Part}
use Rattle.xt_syntax.specs.declared.exprs.Clause.TheOpen.{Expr-F, Int, Str, Or, And, General, Slash}
use Rattle.xt_syntax.specs.declared.exprs.Clause.TheOpen.{Step, Call}
use Rattle.xt_syntax.specs.declared.exprs.Clause.TheViews.{roll-Expr}
use Rattle.xt_syntax.specs.declared.exprs.Clause.TheFolds.{fold-roll-Expr, map-Expr, ind-Expr}
use Rattle.xt_syntax.specs.Layers.{Kinds, ExprLayer, clause_gives, name_gives, part_gives, arm_gives}
use Rattle.xt_syntax.specs.Layers.{bind_gives, attr_gives, flwor_gives, order_gives}
use Rattle.quiet_meaning.specs.Quietly.{quietly_of}
use Rattle.quiet_meaning.proofs.FormLemmas.{gives_quietly, rolled_quietly}
use Rattle.quiet_meaning.proofs.PathLemmas.{stays}
use Rattle.expr_meaning.specs.Env.{Program, Meaning}
use Rattle.expr_meaning.specs.Meaning.{meanings, expr_means, steps, outcome}
use Rattle.walk_laws.specs.QuietValues.Given.{given_at}
use Rattle.walk_laws.proofs.QuietValues.Truths.{Agrees, AllAgree, other_agrees, or_agrees, and_agrees}
use Rattle.walk_laws.proofs.QuietValues.Compared.{compared_agrees}
use Rattle.walk_laws.proofs.QuietValues.Steps.{step_agrees}
use Rattle.walk_laws.proofs.QuietValues.Slashes.{slash_agrees, path_short}
use Rattle.walk_laws.proofs.QuietValues.Calls.{AllShort, call_agrees}

abbrev Layer : Type 0
Layer = Expr-F Clause Expr NameSource Part Arm Bind DirectAttr FlworOf Order

all_short : (es : List Expr) → AllShort (map quietly_of es)
all_short [] = tt
all_short (e ∷ es) = (path_short e, all_short es)

module _ (p : Program) where
  abbrev pub IsAsGiven : Expr → Type 0
  IsAsGiven e = Agrees (quietly_of e) (outcome p e)

  abbrev known : Kinds
  known = record {
    Clauses = Clause × Unit {0};
    Exprs = (e : Expr) × IsAsGiven e;
    Names = NameSource × Unit {0};
    Parts = Part × Unit {0};
    Arms = Arm × Unit {0};
    Binds = Bind × Unit {0};
    Attrs = DirectAttr × Unit {0};
    Flwors = FlworOf × Unit {0};
    Orders = Order × Unit {0};
  }

  abbrev plain : ExprLayer known → Layer
  plain = map-Expr known.Clauses known.Exprs known.Names known.Parts known.Arms known.Binds
      known.Attrs known.Flwors known.Orders
      Clause Expr NameSource Part Arm Bind DirectAttr FlworOf Order
      (λ y. y.0) (λ y. y.0) (λ y. y.0) (λ y. y.0) (λ y. y.0) (λ y. y.0) (λ y. y.0) (λ y. y.0)
      (λ y. y.0)

  abbrev means : Layer → Meaning
  means x = expr_means p (map-Expr Clause Expr NameSource Part Arm Bind DirectAttr FlworOf Order
      meanings.Clauses meanings.Exprs meanings.Names meanings.Parts meanings.Arms meanings.Binds
      meanings.Attrs meanings.Flwors meanings.Orders
      (clause_gives meanings (steps p)) (outcome p) (name_gives meanings (steps p))
      (part_gives meanings (steps p)) (arm_gives meanings (steps p))
      (bind_gives meanings (steps p)) (attr_gives meanings (steps p))
      (flwor_gives meanings (steps p)) (order_gives meanings (steps p)) x)

  rolled : (x : Layer) → outcome p (roll-Expr x) ≡ means x
  rolled x = fold-roll-Expr _ _ _ _ _ _ _ _ _ _ _ _ _ _ _ _ _ _ x

  all_agree : (ys : List known.Exprs) →
      AllAgree (map quietly_of (map (λ y. y.0) ys)) (map (outcome p) (map (λ y. y.0) ys))
  all_agree [] = tt
  all_agree (y ∷ ys) = (y.1, all_agree ys)

  form_agrees : (y : ExprLayer known) → Agrees (gives_quietly (plain y)) (means (plain y))
  unfolding given_at
  form_agrees (Int n) = λ h env f c k. refl
  form_agrees (Str t) = λ h env f c k. refl
  form_agrees (Or all) = or_agrees _ _ (all_agree all)
  form_agrees (And all) = and_agrees _ _ (all_agree all)
  form_agrees (General op a b) =
      compared_agrees op _ _ (outcome p a.0) (outcome p b.0) a.1 b.1
  form_agrees (Slash a b) =
      slash_agrees _ _ (outcome p a.0) (outcome p b.0) a.1 b.1 (stays a.0) (stays b.0) (path_short a.0)
  form_agrees (Step along wanted tests) = step_agrees along wanted _ _ (all_agree tests)
  form_agrees (Call name args) =
      call_agrees p name _ _ (all_agree args) (all_short (map (λ y. y.0) args))
  form_agrees y = other_agrees (means (plain y))

  expr_step : (x : Layer) (y : ExprLayer known) → plain y ≡ x → IsAsGiven (roll-Expr x)
  expr_step x y is = rw (← is, rolled_quietly (plain y), rolled (plain y)) (form_agrees y)

  pub as_given : (e : Expr) → IsAsGiven e
  as_given = ind-Expr (λ _. Unit {0}) IsAsGiven (λ _. Unit {0}) (λ _. Unit {0}) (λ _. Unit {0})
      (λ _. Unit {0}) (λ _. Unit {0}) (λ _. Unit {0}) (λ _. Unit {0})
      (λ x y is. tt) expr_step (λ x y is. tt) (λ x y is. tt) (λ x y is. tt) (λ x y is. tt)
      (λ x y is. tt) (λ x y is. tt) (λ x y is. tt)
