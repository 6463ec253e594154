-- The content of each element, in the query whose loops are counted, gives attributes with different
-- names.
use Rattle.std.specs.Prelude.{◌≡◌, ℕ, zero, suc, List, Bool, true, false, flat_map, ◌||◌}
use Rattle.xt_tree.specs.Sound.{names_differ}
use Rattle.xdm_items.specs.declared.items.Item.{Item}
use Rattle.xt_syntax.specs.declared.exprs.Expr.{Expr}
use Rattle.xt_syntax.specs.declared.exprs.Clause.TheOpen.{Comma, If, Flwor, ElemC}
use Rattle.xt_syntax.specs.declared.exprs.Clause.TheViews.{out-Expr, out-Flwor, out-Arm}
use Rattle.expr_meaning.specs.Outcomes.Outcome.{Every, OnEnds}
use Rattle.expr_meaning.specs.Env.{Env, Program}
use Rattle.expr_meaning.specs.Meaning.{outcome}
use Rattle.transform_meaning.specs.Making.{attribute_in}
use Rattle.meaning_laws.specs.SoundValues.Sound.{IsSound}
use Rattle.way_back.specs.Leaves.{is_leaf}
use Rattle.way_back.specs.Places.{IsSame}
use Rattle.way_back.specs.Forms.{ExprForm, counted_at, has_for}

abbrev pub NamesDiffer : List Item → Type 0
NamesDiffer xs = names_differ (flat_map attribute_in xs) ≡ true

module _ (q : Program) where
  -- wherever the query is looked at beside its stylesheet; where the first is true it reads no focus
  abbrev pub Differ : Bool → Expr → Type 0
  Differ free e =
      (a f : Env) → IsSame IsSound free a f → (k : ℕ) → OnEnds NamesDiffer (outcome q e f k)

  abbrev pub FormDiffers : (Bool → Expr → Type 0) → (Expr → Expr) → Bool → ExprForm → Type 0
  FormDiffers go counted free (Comma all) = Every (go free) all
  FormDiffers go counted free (If arms other) =
      Every (λ a. go free (out-Arm a).then) arms × go free other
  FormDiffers go counted free (Flwor f) =
      go (free || has_for (out-Flwor f).clauses) (out-Flwor f).body
  FormDiffers go counted free (ElemC name content) = Differ free (counted content) × go free content
  FormDiffers go counted free x = Unit {0}

  abbrev pub UnlessLeaf : Bool → Type 0 → Type 0
  UnlessLeaf true A = Unit {0}
  UnlessLeaf false A = A

  unfoldable pub ContentsDiffer : ℕ → Bool → Expr → Type 0
  ContentsDiffer zero free e = Unit {0}
  ContentsDiffer (suc n) free e =
      UnlessLeaf (is_leaf e) (FormDiffers (ContentsDiffer n) (counted_at n) free (out-Expr e))
