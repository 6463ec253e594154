-- Sequences of which nothing is walked yet (XPath 2.0, 2.3.1).
use Rattle.std.specs.Prelude.{◌≡◌, ℕ, ◌<◌, ◌^◌, map, length, Bool, true, false, Option, Some, None}
use Rattle.xt_tree.specs.Place.{has_place}
use Rattle.xdm_items.specs.declared.items.Item.TheVariants.{Node}
use Rattle.xt_syntax.specs.declared.exprs.Expr.{Expr}
use Rattle.node_walks.specs.Moves.{given}
use Rattle.lazy_seq.specs.Flow.{Flow}
use Rattle.expr_meaning.specs.Outcomes.Outcome.{Ends}
use Rattle.expr_meaning.specs.Env.{Env, Program}
use Rattle.expr_meaning.specs.Meaning.{outcome}
use Rattle.walk_laws.specs.WayLaws.Ways.{Way, is_walked, has_walk, way_nodes, way_of}

-- The sequence is the value of the expression in every program; no tree is made, and its items can
-- be counted.
pub record IsValue (s : Flow) (e : Expr) (env : Env) : Type 0 where
  pub value : (p : Program) (k : ℕ) → outcome p e env k ≡ Ends (given s.moves) k
  pub few : length (given s.moves) < 2 ^ 63

-- there is a sequence exactly where a walk answers the expression, and then it is its value
abbrev pub AnswersWalk : Option Flow → Expr → Env → Type 0
AnswersWalk None e env = has_walk (way_of e env.focus) ≡ false
AnswersWalk (Some s) e env = (has_walk (way_of e env.focus) ≡ true) × IsValue s e env

-- .. the nodes that the way leads to
pub record IsAlong (s : Flow) (w : Way) : Type 0 where
  pub walked : is_walked w ≡ true
  pub exists : has_place w.from ≡ true
  pub nodes : given s.moves ≡ map Node (way_nodes w)

abbrev pub AnswersWay : Option Flow → Option Way → Type 0
AnswersWay None o = has_walk o ≡ false
AnswersWay (Some s) None = ⊥
AnswersWay (Some s) (Some w) = IsAlong s w
