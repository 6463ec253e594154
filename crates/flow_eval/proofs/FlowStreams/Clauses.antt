-- Clauses and expressions as what they bind.
use Rattle.std.proofs.Common.{◌≡◌, ℕ, ℤ, List, [], ◌∷◌, refl, ap, sym, ◌∙◌, subst, map, rules}
use Rattle.std.specs.Prelude.{Option, Some, None, Ok, option_map}
use Rattle.xt_names.specs.declared.names.ExprName.{ExprName}
use Rattle.xt_atoms.specs.declared.atoms.Atom.TheVariants as atom
use Rattle.xdm_items.specs.declared.items.Item.TheVariants.{Atom}
use Rattle.xt_syntax.specs.declared.exprs.Expr.{Expr}
use Rattle.xt_syntax.specs.declared.exprs.Bind.{Bind}
use Rattle.xt_syntax.specs.declared.exprs.Clause.{Clause}
use Rattle.xt_syntax.specs.declared.exprs.Flwor.{Flwor}
use Rattle.xt_syntax.specs.declared.exprs.Expr.TheVariants.{Int, Str, Range, rolls-Int, rolls-Str}
use Rattle.xt_syntax.specs.declared.exprs.Expr.TheVariants.{rolls-Range}
use Rattle.xt_syntax.specs.declared.exprs.Clause.TheVariants.{For, Let, rolls-For, rolls-Let}
use Rattle.xt_syntax.specs.declared.exprs.Clause.TheViews.{out-Bind, out-Flwor, the_lemmas}
use Rattle.xt_syntax.specs.declared.exprs.Clause.TheFolds.{fold-roll-Expr, fold_out-Flwor}
use Rattle.expr_meaning.specs.LazySeq.Integers.{integers}
use Rattle.xt_atoms.specs.Arithmetic.{integer_operand}
use Rattle.expr_meaning.specs.OperatorValues.Operands.{optional_atom}
use Rattle.expr_meaning.specs.OperatorValues.Numbers.{range_value, optional_number}
use Rattle.expr_meaning.specs.Outcomes.Outcome.{Ends, step_outcome}
use Rattle.expr_meaning.specs.Env.{Env, Meaning, Program}
use Rattle.expr_meaning.specs.Logic.{Bound}
use Rattle.expr_meaning.specs.Values.{just, binary}
use Rattle.expr_meaning.specs.Flow.{flwor_of}
use Rattle.expr_meaning.specs.Meaning.{outcome}
use Rattle.eval_steps.specs.Parts.{bind_outcome, clause_outcome, order_outcome, flwor_outcome}
use Rattle.eval_steps.proofs.Forms.{for_means, let_means, bind_means}
use Rattle.flow_eval.specs.FlowStreams.Streams.{Binder, each_of, all_of, binder_of, as_clause, AreStreamed}
use Rattle.flow_eval.specs.FlowStreams.Streams.{
  BehindStill,
  IsStill,
  IsStillBound,
  IsStillBinder,
  IsStillClause,
  Streams,
}
use Rattle.flow_eval.specs.FlowStreams.Streams.{IsInteger, IsStreamed, stream_of}
use Rattle.flow_eval.proofs.FlowStreams.StreamLemmas.{flwor_streamed}

pub for_binds : (p : Program) (b : Bind) (at : Option ExprName)
    → binder_of p (For b at) ≡ each_of (bind_outcome p b) at
for_binds p b at = search (rules, the_lemmas)

pub let_binds : (p : Program) (b : Bind) → binder_of p (Let b) ≡ all_of (bind_outcome p b)
let_binds p b = search (rules, the_lemmas)

for_alike : (p : Program) (b : Bind) (at : Option ExprName)
    → clause_outcome p (For b at) ≡ as_clause (binder_of p (For b at))
for_alike p b at = for_means p b at ∙ sym (ap as_clause (for_binds p b at))

let_alike : (p : Program) (b : Bind) → clause_outcome p (Let b) ≡ as_clause (binder_of p (Let b))
let_alike p b = let_means p b ∙ sym (ap as_clause (let_binds p b))

-- no clauses, and one more
pub none_streamed : (p : Program) → AreStreamed [] p
none_streamed p = record { streams = tt; same = refl }

pub none_still : (p : Program) → BehindStill [] p
none_still p = record { still = tt; same = refl }

pub let_streamed : (p : Program) (b : Bind) (rest : List Clause) → AreStreamed rest p
    → AreStreamed (Let b ∷ rest) p
let_streamed p b rest s = record {
  streams = subst (λ x. Streams (x ∷ map (binder_of p) rest)) (sym (let_binds p b)) s.streams;
  same = λ i. let_alike p b i ∷ s.same i;
}

pub for_streamed : (p : Program) (b : Bind) (at : Option ExprName) (rest : List Clause)
    → (out-Bind b).kind ≡ None → BehindStill rest p → AreStreamed (For b at ∷ rest) p
for_streamed p b at rest untyped s = record {
  streams = subst (λ x. Streams (x ∷ map (binder_of p) rest)) (sym (for_binds p b at))
      (ap (λ (x : Bound). x.kind) (bind_means p b) ∙ untyped, s.still);
  same = λ i. for_alike p b at i ∷ s.same i;
}

pub let_still : (p : Program) (b : Bind) → IsStillBound (bind_outcome p b) → IsStillClause (Let b)
    p
let_still p b still = record {
  still = subst IsStillBinder (sym (let_binds p b)) still;
  same = let_alike p b;
}

pub for_still : (p : Program) (b : Bind) → IsStillBound (bind_outcome p b)
    → IsStillClause (For b None) p
for_still p b still = record {
  still = subst IsStillBinder (sym (for_binds p b None)) still;
  same = for_alike p b None;
}

pub more_still : (p : Program) (c : Clause) (rest : List Clause) → IsStillClause c p
    → BehindStill rest p → BehindStill (c ∷ rest) p
more_still p c rest still s = record {
  still = (still.still, s.still);
  same = λ i. still.same i ∷ s.same i;
}

pub still_bound : (p : Program) (b : Bind) → (out-Bind b).kind ≡ None
    → IsStill (outcome p (out-Bind b).source) → IsStillBound (bind_outcome p b)
still_bound p b untyped still = (
  ap (λ (x : Bound). x.kind) (bind_means p b) ∙ untyped,
  subst IsStill (sym (ap (λ (x : Bound). x.source) (bind_means p b))) still,
)

int_means : (p : Program) (n : ℤ) → outcome p (Int n) ≡ just (Atom (atom.Int n) ∷ [])
int_means p n =
    ap (outcome p) (sym (rolls-Int n))
    ∙ fold-roll-Expr _ _ _ _ _ _ _ _ _ _ _ _ _ _ _ _ _ _ _

str_means : (p : Program) (t : List ℕ) → outcome p (Str t) ≡ just (Atom (atom.Str t) ∷ [])
str_means p t =
    ap (outcome p) (sym (rolls-Str t))
    ∙ fold-roll-Expr _ _ _ _ _ _ _ _ _ _ _ _ _ _ _ _ _ _ _

range_means : (p : Program) (a b : Expr)
    → outcome p (Range a b) ≡ binary range_value (outcome p a) (outcome p b)
range_means p a b =
    ap (outcome p) (sym (rolls-Range a b))
    ∙ fold-roll-Expr _ _ _ _ _ _ _ _ _ _ _ _ _ _ _ _ _ _ _

pub int_still : (p : Program) (n : ℤ) → IsStill (outcome p (Int n))
int_still p n = (Atom (atom.Int n) ∷ [], λ env k. ap (λ m. m env k) (int_means p n))

pub str_still : (p : Program) (t : List ℕ) → IsStill (outcome p (Str t))
str_still p t = (Atom (atom.Str t) ∷ [], λ env k. ap (λ m. m env k) (str_means p t))

range_is : (m n : ℤ)
    → range_value (Atom (atom.Int m) ∷ []) (Atom (atom.Int n) ∷ []) ≡ Ok (integers m n)
unfolding range_value optional_number optional_atom integer_operand
range_is m n = refl

pub range_still : (p : Program) (a b : Expr) → IsInteger a → IsInteger b
    → IsStill (outcome p (Range a b))
range_still p a b m n = (
  integers m.0 n.0,
  λ env k. ap (λ v. v env k) (range_means p a b ∙ ap
      (λ x. binary range_value (outcome p a) (outcome p x)) n.1 ∙ ap
      (λ x. binary range_value (outcome p x) (outcome p (Int n.0))) m.1 ∙ ap
      (λ y. binary range_value (outcome p (Int m.0)) y) (int_means p n.0) ∙ ap
      (λ x. binary range_value x (just (Atom (atom.Int n.0) ∷ []))) (int_means p m.0))
      ∙ ap (λ r. step_outcome r k) (range_is m.0 n.0),
)

pub flwor_means : (p : Program) (f : Flwor) → flwor_outcome p f
    ≡ flwor_of (map (clause_outcome p) (out-Flwor f).clauses)
    (option_map (outcome p) (out-Flwor f).test) (map (order_outcome p) (out-Flwor f).orders)
    (outcome p (out-Flwor f).body)
flwor_means p f = search (rules, the_lemmas, fold_out-Flwor)

-- no test, no keys, and such clauses
pub all_streamed : (f : Flwor) → (out-Flwor f).test ≡ None → (out-Flwor f).orders ≡ []
    → ((p : Program) → AreStreamed (out-Flwor f).clauses p) → IsStreamed f
all_streamed f no_test no_orders s p env k =
    ap (λ m. m env k) (flwor_means p f
    ∙ ap (λ t. flwor_of (map (clause_outcome p) (out-Flwor f).clauses) (option_map (outcome p) t)
    (map (order_outcome p) (out-Flwor f).orders) (outcome p (out-Flwor f).body)) no_test
    ∙ ap (λ os. flwor_of (map (clause_outcome p) (out-Flwor f).clauses) None
    (map (order_outcome p) os) (outcome p (out-Flwor f).body)) no_orders
    ∙ ap (λ cs. flwor_of cs None [] (outcome p (out-Flwor f).body)) (s p).same)
    ∙ flwor_streamed (map (binder_of p) (out-Flwor f).clauses) (s p).streams
    (outcome p (out-Flwor f).body) env k
