-- What does not mention the size is the same where no variable holds it.
use Rattle.std.proofs.Common.{◌≡◌, List, [], ◌∷◌, refl, sym, ◌∙◌, map}
use Rattle.std.specs.Prelude.{false}
use Rattle.xt_names.specs.declared.names.ExprName.{ExprName}
use Rattle.xt_atoms.specs.Casts.{wrong_type}
use Rattle.xdm_items.specs.declared.items.Item.{Item}
use Rattle.xt_syntax.specs.declared.exprs.Expr.{Expr}
use Rattle.xt_syntax.specs.Layers.{order_gives}
use Rattle.xt_sheets.specs.declared.values.Sort.{Sort}
use Rattle.expr_meaning.specs.Outcomes.Outcome.{and_then, step_outcome}
use Rattle.expr_meaning.specs.SortMeaning.Sorted.{key_cell}
use Rattle.expr_meaning.specs.Env.{Binding, Env, Program, bind_all, look_up}
use Rattle.expr_meaning.specs.Flow.{columns_at}
use Rattle.expr_meaning.specs.Meaning.{meanings, steps}
use Rattle.expr_laws.proofs.Rolled.{rolled_order}
use Rattle.expr_laws.proofs.Texts.{OrderForm}
use Rattle.translated_forms.specs.Mentions.{mentions, in_order, in_orders}
use Rattle.translated_forms.specs.Loops.{sort_orders, typed_key, sort_order}
use Rattle.translated_forms.specs.Texts.{Carry}
use Rattle.lockstep_loops.specs.Beside.{Beside}
use Rattle.lockstep_loops.proofs.Apart.{one_name, beside_behind}
use Rattle.lockstep_loops.proofs.MentionsRolled.{order_rolled}
use Rattle.lockstep_loops.proofs.Unmentioned.{no_first, no_second, unmentioned}

-- a binding is not seen by other names
pub hidden : (v : ExprName) (xs : List Item) (f : Env) →
    Beside (v ∷ []) f (bind_all ((v, xs) ∷ []) f)
unfolding look_up
hidden v xs f = record {
  locals = λ name h. rw (one_name v name h) refl;
  focus = refl;
  state = refl;
}

-- .. after others
pub hidden_behind : (v : ExprName) (xs : List Item) (bs : List Binding) (f : Env) →
    Beside (v ∷ []) (bind_all bs f) (bind_all bs (bind_all ((v, xs) ∷ []) f))
hidden_behind v xs bs f =
    beside_behind (v ∷ []) f (bind_all ((v, xs) ∷ []) f) (hidden v xs f) bs

module _ (q : Program) (v : ExprName) (carry : Carry) where
  pub columns_same : {A : Type 0} (m n : A → Env) → ((x : A) → Beside (v ∷ []) (m x) (n x)) →
      (sorts : List (Sort Expr)) → in_orders v (sort_orders carry sorts) ≡ false →
      columns_at m (map (order_gives meanings (steps q)) (sort_orders carry sorts))
      ≡ columns_at n (map (order_gives meanings (steps q)) (sort_orders carry sorts))
  columns_same m n b [] h = refl
  columns_same {A = A} m n b (s ∷ sorts) h =
      let key : Expr = typed_key s.number (carry s.key) in
      let form : OrderForm = record { key = key; descending = s.descending } in
      let other = in_orders v (sort_orders carry sorts) in
      let free : mentions v key ≡ false =
      sym (order_rolled v form) ∙ no_first (in_order v (sort_order carry s)) other h in
      let more = columns_same m n b sorts (no_second (in_order v (sort_order carry s)) other h) in
      rw (rolled_order q form)
      (λ i. record {
        key = λ x k. and_then (unmentioned v q key free (m x) (n x) (b x) k i)
            (λ xs j. step_outcome (key_cell wrong_type xs) j);
        descending = s.descending;
      } ∷ more i)
