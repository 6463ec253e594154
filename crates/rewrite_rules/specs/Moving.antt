-- Places in a run that are looked at through a sight, which changes where a variable is bound.
use Rattle.std.specs.Prelude.{◌≡◌, List}
use Rattle.xt_names.specs.declared.names.ExprName.{ExprName}
use Rattle.xdm_items.specs.declared.items.Item.{Item}
use Rattle.expr_meaning.specs.SortMeaning.Sorted.{Placed}
use Rattle.expr_meaning.specs.Env.{Env, bind, at_focus}

pub record Moving (S : Type 0) : Type 1 where
  pub after : ExprName → S → S
  pub at : S → Env → Env → Type 0
  pub bound : (s : S) (e f : Env) → at s e f → (v : ExprName) (xs : List Item) →
      at (after v s) (bind v xs e) (bind v xs f)
  pub focused : (s : S) (e f : Env) → at s e f → (p : Placed Item) →
      at s (at_focus e p) (at_focus f p)
  pub focus : (s : S) (e f : Env) → at s e f → e.focus ≡ f.focus
  pub state : (s : S) (e f : Env) → at s e f → e.state ≡ f.state
