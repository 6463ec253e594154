-- What is known of the variables at a place, while a variable is taken out of an expression.
use Rattle.std.specs.Prelude.{◌≡◌, ℕ, ℤ, List, [], ◌∷◌, Bool, true, false, not, Option, Some, None}
use Rattle.std.specs.Prelude.{if◌then◌else◌}
use Rattle.xt_names.specs.declared.names.ExprName.{ExprName}
use Rattle.xt_atoms.specs.declared.atoms.Atom.TheVariants as atom
use Rattle.xdm_items.specs.declared.items.Item.{Item}
use Rattle.xdm_items.specs.declared.items.Item.TheVariants.{Atom}
use Rattle.xt_syntax.specs.declared.exprs.Expr.{Expr}
use Rattle.xt_syntax.specs.declared.exprs.Flwor.{Flwor as FlworOf}
use Rattle.xt_syntax.specs.declared.exprs.Clause.TheOpen.{Int, Str, Var}
use Rattle.xt_syntax.specs.declared.exprs.Clause.TheViews.{roll-Expr}
use Rattle.xt_syntax.specs.Layers.{flwor_gives}
use Rattle.expr_meaning.specs.Env.{Env, look_up}
use Rattle.rewrite_rules.specs.Forms.{ExprForm}
use Rattle.rewrite_rules.specs.Law.{Binds}
use Rattle.rewrite_rules.specs.Moved.{moved, moved_flwor, fits, fits_steps}
use Rattle.xt_names.specs.ExprNames.{same_name}

-- what a variable can be replaced by
pub data Small : Type 0 where
  integer : ℤ → Small
  string : List ℕ → Small
  variable : ExprName → Small

abbrev pub small_form : ExprForm → Option Small
small_form (Int n) = Some (integer n)
small_form (Str text) = Some (string text)
small_form (Var name) = Some (variable name)
small_form x = None

abbrev pub expr_of : Small → Expr
expr_of (integer n) = roll-Expr (Int n)
expr_of (string text) = roll-Expr (Str text)
expr_of (variable name) = roll-Expr (Var name)

abbrev pub is_variable : ExprName → Small → Bool
is_variable u (integer n) = false
is_variable u (string text) = false
is_variable u (variable w) = same_name u w

-- Nothing is taken out, and these names are local; nothing is taken out any more; a variable is not
-- bound any more; a variable is not bound any more, and is replaced.
pub data Sight : Type 0 where
  plain : List ExprName → Sight
  keep : Sight
  lose : ExprName → Sight
  put : ExprName → Small → Sight

-- where a variable of this name is bound
abbrev pub after : ExprName → Sight → Sight
after u (plain names) = plain (u ∷ names)
after u keep = keep
after u (lose v) = if same_name u v then keep else lose v
after u (put v r) = if same_name u v then keep else if is_variable u r then lose v else put v r

-- a variable that is not bound any more is not read
abbrev pub may_read : Sight → ExprName → Bool
may_read (plain names) n = true
may_read keep n = true
may_read (lose v) n = not (same_name v n)
may_read (put v r) n = true

abbrev pub replaced : Sight → ExprName → Expr
replaced (plain names) n = roll-Expr (Var n)
replaced keep n = roll-Expr (Var n)
replaced (lose v) n = roll-Expr (Var n)
replaced (put v r) n = if same_name v n then expr_of r else roll-Expr (Var n)

abbrev pub as_it_is : Sight → Expr → Expr
as_it_is s e = e

-- the expression with the variable replaced
abbrev pub changed : Expr → Sight → Expr
changed = moved Sight after replaced as_it_is

abbrev pub changed_flwor : FlworOf → Sight → FlworOf
changed_flwor = moved_flwor Sight after replaced as_it_is

-- whether the variable can be taken out
abbrev pub flwor_allows : FlworOf → Sight → Bool
flwor_allows = flwor_gives (fits Sight after) (fits_steps Sight after may_read)

-- the two places at a sight: what the variables have, but for one of them
pub record Sees (P : ExprName → Type 0) (e f : Env) : Type 0 where
  pub locals : (n : ExprName) → P n → look_up e.locals n ≡ look_up f.locals n
  pub focus : e.focus ≡ f.focus
  pub state : e.state ≡ f.state

abbrev pub Gives : Small → Env → List Item → Type 0
Gives (integer n) f xs = xs ≡ Atom (atom.Int n) ∷ []
Gives (string text) f xs = xs ≡ Atom (atom.Str text) ∷ []
Gives (variable w) f xs = look_up f.locals w ≡ Some xs

abbrev pub SeesAt : Sight → Env → Env → Type 0
SeesAt (plain names) e f = (e ≡ f) × Binds names e
SeesAt keep e f = Sees (λ n. Unit {0}) e f
SeesAt (lose v) e f = Sees (λ n. same_name v n ≡ false) e f
SeesAt (put v r) e f =
    Sees (λ n. same_name v n ≡ false) e f
    × ((xs : List Item) × (look_up e.locals v ≡ Some xs) × Gives r f xs)
