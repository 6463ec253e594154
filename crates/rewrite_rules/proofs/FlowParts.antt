-- Two FLWOR expressions of which one does what the other does, by their parts.
use Rattle.std.proofs.Common.{map}
use Rattle.expr_meaning.specs.Env.{Env, Program}
use Rattle.expr_meaning.specs.Meaning.{outcome}
use Rattle.expr_meaning.specs.Flow.{Tuples, flow_of}
use Rattle.expr_laws.proofs.Flow.{OrdersMeet}
use Rattle.rewrite_rules.specs.Forms.{FlworForm}
use Rattle.rewrite_rules.specs.Moving.{Moving}
use Rattle.rewrite_rules.proofs.Alongside.{beside}
use Rattle.rewrite_rules.proofs.FlowMoves.{Met, TestsMeet, TuplesMove}
use Rattle.rewrite_rules.proofs.FlowsSame.{clause_meaning, order_meaning, test_meaning}

-- their clauses lead to a sight at which tests, orders and bodies are the same
pub record FlowMoved (S : Type 0) (m : Moving S) (p : Program) (s : S) (f g : FlworForm) : Type 0 where
  pub end : S
  pub test : TestsMeet S m end (test_meaning p f.test) (test_meaning p g.test)
  pub orders : OrdersMeet (beside S m end) tt (map (order_meaning p) f.orders) (map (order_meaning p) g.orders)
  pub body : Met S m end (outcome p f.body) (outcome p g.body)
  pub clauses : (e h : Env) (t u : Tuples) → TuplesMove S m end e h end t u →
      TuplesMove S m end e h s (flow_of (map (clause_meaning p) f.clauses) t)
      (flow_of (map (clause_meaning p) g.clauses) u)
