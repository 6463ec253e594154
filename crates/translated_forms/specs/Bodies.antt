-- Sequence constructors (XSLT 2.0, 5.7): a variable is bound for the instructions after it.
use Rattle.std.specs.Prelude.{List, [], ◌∷◌, Bool, true, false, ◌&&◌}
use Rattle.xt_names.specs.declared.names.ExprName.{ExprName}
use Rattle.xt_syntax.specs.declared.exprs.Clause.{Clause}
use Rattle.xt_syntax.specs.declared.exprs.Expr.{Expr}
use Rattle.translated_forms.specs.Forms.{comma, flow, let_clause}

-- What an instruction is: it binds a variable, or it makes items. `is_node` says that these are one
-- new node, and no attribute.
pub data Part : Type 0 where
  binds : (name : ExprName) (value : Expr) → Part
  makes : (is_node : Bool) (items : Expr) → Part

-- what is bound first, and the items after it; whether nothing is bound and all are such nodes
pub record Body : Type 0 where
  pub lets : List Clause
  pub items : List Expr
  pub are_nodes : Bool

-- the items after a binding are one item, a flow
unfoldable pub items_or_flow : List Clause → List Expr → List Expr
items_or_flow [] items = items
items_or_flow (c ∷ cs) items = flow (c ∷ cs) (comma items) ∷ []

abbrev pub items_of : Body → List Expr
items_of b = items_or_flow b.lets b.items

unfoldable pub part_before : Part → Body → Body
part_before (binds name value) rest = record {
  lets = let_clause name value ∷ rest.lets;
  items = rest.items;
  are_nodes = false;
}
part_before (makes is_node e) rest = record {
  lets = [];
  items = e ∷ items_of rest;
  are_nodes = is_node && rest.are_nodes;
}

abbrev pub empty_body : Body
empty_body = record { lets = []; items = []; are_nodes = true }

-- variables that follow one another share one `let`
abbrev pub body_of : List Part → Body
body_of [] = empty_body
body_of (p ∷ ps) = part_before p (body_of ps)

abbrev pub body_expr : Body → Expr
body_expr b = comma (items_of b)

-- the expression of a sequence constructor
unfoldable pub sequence_of : List Part → Expr
sequence_of parts = body_expr (body_of parts)
