-- The productions of operators, types, lists and bindings, by what their parts mean.
use Rattle.std.proofs.Common.{◌≡◌, List, [], ◌∷◌, ◌++◌, Bool, true, Some, None, refl}
use Rattle.std.proofs.Common.{sym, subst}
use Rattle.xt_syntax.specs.declared.exprs.Expr.{Expr}
use Rattle.xt_syntax.specs.declared.exprs.Clause.{Clause}
use Rattle.xt_syntax.specs.declared.exprs.Order.{Order}
use Rattle.expr_terms.specs.Productions.{body}
use Rattle.expr_keys.specs.declared.keys.Key.TheVariants as key
use Rattle.expr_keys.specs.declared.productions.Class.TheVariants as class
use Rattle.expr_keys.specs.declared.productions.Level.{Level}
use Rattle.expr_keys.specs.declared.productions.Level.TheVariants as level
use Rattle.expr_keys.specs.declared.productions.Nonterminal.TheVariants as nonterminal
use Rattle.expr_keys.specs.declared.productions.Production.{Production}
use Rattle.expr_keys.specs.declared.productions.Production.TheVariants as production
use Rattle.expr_keys.specs.declared.productions.Symbol.TheVariants.{Tok as tok, One as one}
use Rattle.expr_keys.specs.declared.productions.Symbol.TheVariants.{Maybe as maybe, Many as many}
use Rattle.expr_rules.specs.declared.expr_meant.meant.Meant.{Meant}
use Rattle.expr_rules.specs.declared.expr_meant.meant.Meant.TheVariants as meant
use Rattle.expr_rules.specs.ExprMeant.Parts.{expr_of, exprs_of, expr_or, expr_in, key_of}
use Rattle.expr_rules.specs.Known.{name_of}
use Rattle.expr_rules.specs.Rules.{own_broken, end_broken}
use Rattle.expr_control.specs.Bindings.{kind_or, place_or, clause_and, clauses_in, clauses_and}
use Rattle.expr_control.specs.Bindings.{all_clauses, where_or, where_in, order_and, orders_in}
use Rattle.expr_control.specs.Bindings.{orders_or, all_orders, stable_or, is_stable}
use Rattle.expr_control.specs.Lists.{bind_and, binds_of}
use Rattle.expr_control.specs.Operators.{joined, left_chain, chained, operated, single_of}
use Rattle.expr_control.specs.Table.{control_value}
use Rattle.expr_resolve.specs.declared.setting.Setting.{Setting}
use Rattle.expr_resolve.specs.Tables.{family_of, value_in, act, end as end_rules}
use Rattle.sound_expressions.specs.SoundForms.Sound.{SoundPrefixes}
use Rattle.sound_expressions.proofs.SoundForms.FormLemmas.{Fine, Form, form_comma, form_or, form_and}
use Rattle.sound_expressions.proofs.SoundForms.FormLemmas.{form_flwor, form_quant, fine_for, fine_let, AllBinds}
use Rattle.sound_expressions.proofs.SoundForms.FormLemmas.{AllClauses, AllOrders, FineTest, IsOrdered}
use Rattle.sound_expressions.proofs.ExprRegular.Claims.{IsExpr, expr_is, IsForm, form_is, AreClauses, clauses_are}
use Rattle.sound_expressions.proofs.ExprRegular.Claims.{IsClause, clause_is, IsBind, bind_is, IsSequence}
use Rattle.sound_expressions.proofs.ExprRegular.Claims.{sequence_is, IsPlace, place_is, IsWhere, where_is}
use Rattle.sound_expressions.proofs.ExprRegular.Claims.{AreOrders, orders_are, IsOrder, order_is, IsTail}
use Rattle.sound_expressions.proofs.ExprRegular.Claims.{tail_operand, tail_type, tail_single, IsType, type_sequence}
use Rattle.sound_expressions.proofs.ExprRegular.Claims.{IsItem, item_any, IsSingle, single_is}
use Rattle.sound_expressions.proofs.ExprRegular.Claims.{Filled, end, taken, next, without, with, stop, again, bare}
use Rattle.sound_expressions.proofs.ExprRegular.Claims.{given}
use Rattle.sound_expressions.proofs.ExprRegular.Lists.{All, many_are, expr_fine, exprs_fine, tails_fine}
use Rattle.sound_expressions.proofs.ExprRegular.ControlForms.{empty_good, item_good, sequence_good, kind_regular}
use Rattle.sound_expressions.proofs.ExprRegular.ControlForms.{kind_sound, no_kind, single_good, joined_form}
use Rattle.sound_expressions.proofs.ExprRegular.ControlForms.{chain_form, signed_form, name_good, bind_good}
use Rattle.sound_expressions.proofs.ExprRegular.ControlForms.{no_place, place_good, typed_place_good}
use Rattle.sound_expressions.proofs.ExprRegular.ControlForms.{clauses_append}

one_clause : (m : Meant) (cs : List Clause) → IsClause m → AllClauses cs
    → AllClauses (clause_and m cs)
unfolding clause_and
one_clause _ cs (clause_is f) g = (f, g)

one_order : (m : Meant) (os : List Order) → IsOrder m → AllOrders os → AllOrders (order_and m os)
unfolding order_and
one_order _ os (order_is f) g = (f, g)

clauses_so : (ms : List Meant) → All IsClause ms → AllClauses (clauses_in ms)
clauses_so [] a = tt
clauses_so (m ∷ ms) a = one_clause m (clauses_in ms) a.0 (clauses_so ms a.1)

orders_so : (ms : List Meant) → All IsOrder ms → AllOrders (orders_in ms)
orders_so [] a = tt
orders_so (m ∷ ms) a = one_order m (orders_in ms) a.0 (orders_so ms a.1)

chain_made : (l : Level) (e : Expr) (n : Meant) (ms : List Meant) → Fine e → IsTail n
    → All IsTail ms → Form (left_chain l (meant.Expr e ∷ n ∷ ms))
unfolding expr_of
chain_made l e n ms f g h = chain_form l (joined l e n) ms (joined_form l e n f g) h

-- what comes after the first clause
record Returns (ms : List Meant) : Type 0 where
  clauses : AllClauses (all_clauses ms)
  test : FineTest (where_in ms)
  orders : AllOrders (all_orders ms)
  ordered : IsOrdered (all_orders ms) (is_stable ms)
  body : Fine (expr_in ms)

module _ (s : Setting) (u : SoundPrefixes s.prefixes) where
  abbrev pub Meaning : Production → List Meant → Type 0
  Meaning p ms = Filled s p true (body p) ms

  pub listing_made : {m n : Meant} {ms : List Meant} → Meaning production.ExprList (m ∷ n ∷ ms)
      → IsForm (act s production.ExprList (m ∷ n ∷ ms))
  unfolding family_of value_in control_value
  listing_made {m = m} {n = n} {ms = ms} (next g o (again h p q)) =
      form_is (form_comma (expr_of m) (expr_of n) (exprs_of ms)
      (exprs_fine (m ∷ n ∷ ms) (g, (h, many_are q))))
  listing_made (next g o (stop x)) = elim x [ ]

  returns : {p : Production} {b : Bool} {ms : List Meant} → Filled s p b
      (many nonterminal.NextClause ∷ maybe nonterminal.WhereClause ∷ maybe nonterminal.OrderByClause
      ∷ tok (class.Key key.ReturnWord) ∷ one nonterminal.ExprSingle ∷ []) ms → Returns ms
  unfolding clauses_and where_or orders_or stable_or expr_or
  returns (again (clauses_are {c = c} {cs = cs} f) o q) =
      let r = returns q in
      record {
        clauses = clauses_append (c ∷ cs) _ f r.clauses;
        test = r.test;
        orders = r.orders;
        ordered = r.ordered;
        body = r.body;
      }
  returns (stop (without (without (taken _ a b c (next (expr_is f) o end))))) =
      record { clauses = tt; test = tt; orders = tt; ordered = refl; body = f }
  returns (stop (with (where_is w) p (without (taken _ a b c (next (expr_is f) o end))))) =
      record { clauses = tt; test = w; orders = tt; ordered = refl; body = f }
  returns (stop (without (with (orders_are k) r (taken _ a b c (next (expr_is f) o end))))) =
      record { clauses = tt; test = tt; orders = k; ordered = tt; body = f }
  returns (stop (with (where_is w) p (with (orders_are k) r (taken _ a b c (next (expr_is f) o end))))) =
      record { clauses = tt; test = w; orders = k; ordered = tt; body = f }

  pub flwor_made : {ms : List Meant} → Meaning production.FlworExpr ms
      → IsForm (act s production.FlworExpr ms)
  unfolding family_of value_in control_value clauses_and where_or orders_or stable_or expr_or
  flwor_made (next {ms = ms} (clauses_are {c = c} {cs = cs} f) o q) =
      let r = returns q in
      form_is (form_flwor c (cs ++ all_clauses ms) (where_in ms) (all_orders ms) (is_stable ms)
      (expr_in ms) (clauses_append (c ∷ cs) (all_clauses ms) f r.clauses) r.test r.orders r.ordered
      r.body)

  satisfied : {p : Production} {b : Bool} {ms : List Meant} → Filled s p b
      (many nonterminal.CommaQuantifiedBinding ∷ tok (class.Key key.SatisfiesWord) ∷ one nonterminal.ExprSingle ∷ [])
      ms → AllBinds (binds_of ms) × Fine (expr_in ms)
  unfolding bind_and expr_or
  satisfied (again (bind_is f) o q) = let r = satisfied q in ((f, r.0), r.1)
  satisfied (stop (taken _ a b c (next (expr_is f) o end))) = (tt, f)

  pub quantified_made : {ms : List Meant} → Meaning production.QuantifiedExpr ms
      → IsForm (act s production.QuantifiedExpr ms)
  unfolding family_of value_in control_value bind_and expr_or
  quantified_made (taken t a b c (next {ms = ms} (bind_is {b = v} f) o q)) =
      let r = satisfied q in
      form_is (form_quant _ v (binds_of ms) (expr_in ms) (f, r.0) r.1)

  pub for_clause_made : {ms : List Meant} → Meaning production.ForClause ms
      → AreClauses (act s production.ForClause ms)
  unfolding family_of value_in control_value clause_and
  for_clause_made (taken _ a b c (next {ms = ms} (clause_is f) o q)) =
      clauses_are (f, clauses_so ms (many_are q))

  pub let_clause_made : {ms : List Meant} → Meaning production.LetClause ms
      → AreClauses (act s production.LetClause ms)
  unfolding family_of value_in control_value clause_and
  let_clause_made (taken _ a b c (next {ms = ms} (clause_is f) o q)) =
      clauses_are (f, clauses_so ms (many_are q))

  pub bind_made : {ms : List Meant} → Meaning production.ForIn ms
      → end_rules s production.ForIn ms ≡ [] → IsClause (act s production.ForIn ms)
  unfolding family_of value_in control_value kind_or place_or expr_or end_broken
  bind_made (taken _ a b c (taken t d e f (without (without (taken _ g h i (next (expr_is k) o end)))))) r =
      let n = name_good s.prefixes.bound t u.bound d e in
      clause_is (fine_for _ None (bind_good _ None _ n no_kind.0 no_kind.1 k) (no_place _))
  bind_made (taken _ a b c (taken t d e f (with (sequence_is {k = w} x) p (without (taken _ g h i (next (expr_is k) o end)))))) r =
      let n = name_good s.prefixes.bound t u.bound d e in
      clause_is (fine_for _ None (bind_good _ (Some w) _ n (kind_regular w x) (kind_sound w x) k)
      (no_place _))
  bind_made (taken _ a b c (taken t d e f (without (with (place_is {n = v} y) p (taken _ g h i (next (expr_is {e = z} k) o end)))))) r =
      let n = name_good s.prefixes.bound t u.bound d e in
      clause_is (fine_for _ (Some v) (bind_good _ None _ n no_kind.0 no_kind.1 k)
      (place_good (name_of s.prefixes.bound [] (meant.Token t)) v z _ y r))
  bind_made (taken _ a b c (taken t d e f (with (sequence_is {k = w} x) p (with (place_is {n = v} y) j
      (taken _ g h i (next (expr_is {e = z} k) o end)))))) r =
      let n = name_good s.prefixes.bound t u.bound d e in
      clause_is (fine_for _ (Some v) (bind_good _ (Some w) _ n (kind_regular w x) (kind_sound w x) k)
      (typed_place_good (name_of s.prefixes.bound [] (meant.Token t)) v w z _ y r))

  pub let_bind_made : {ms : List Meant} → Meaning production.LetAssign ms
      → IsClause (act s production.LetAssign ms)
  unfolding family_of value_in control_value kind_or expr_or
  let_bind_made (taken _ a b c (taken t d e f (without (taken _ g h i (next (expr_is k) o end))))) =
      let n = name_good s.prefixes.bound t u.bound d e in
      clause_is (fine_let _ (bind_good _ None _ n no_kind.0 no_kind.1 k))
  let_bind_made (taken _ a b c (taken t d e f (with (sequence_is {k = w} x) p (taken _ g h i (next (expr_is k) o end))))) =
      let n = name_good s.prefixes.bound t u.bound d e in
      clause_is (fine_let _ (bind_good _ (Some w) _ n (kind_regular w x) (kind_sound w x) k))

  pub quant_bind_made : {ms : List Meant} → Meaning production.QuantifiedIn ms
      → IsBind (act s production.QuantifiedIn ms)
  unfolding family_of value_in control_value kind_or expr_or
  quant_bind_made (taken _ a b c (taken t d e f (without (taken _ g h i (next (expr_is k) o end))))) =
      let n = name_good s.prefixes.bound t u.bound d e in
      bind_is (bind_good _ None _ n no_kind.0 no_kind.1 k)
  quant_bind_made (taken _ a b c (taken t d e f (with (sequence_is {k = w} x) p (taken _ g h i (next (expr_is k) o end))))) =
      let n = name_good s.prefixes.bound t u.bound d e in
      bind_is (bind_good _ (Some w) _ n (kind_regular w x) (kind_sound w x) k)

  pub typed_made : {ms : List Meant} → Meaning production.AsType ms
      → IsSequence (act s production.AsType ms)
  unfolding family_of value_in control_value
  typed_made (taken _ a b c (next {m = m} g o end)) =
      sequence_is (sequence_good s.prefixes.bound m g)

  pub placed_made : {ms : List Meant} → Meaning production.AtVariable ms
      → IsPlace (act s production.AtVariable ms)
  unfolding family_of value_in control_value
  placed_made (taken _ a b c (taken _ d e f (taken t g h i end))) =
      place_is (name_good s.prefixes.bound t u.bound g h)

  pub where_made : {ms : List Meant} → Meaning production.WhereTest ms
      → IsWhere (act s production.WhereTest ms)
  unfolding family_of value_in control_value expr_or
  where_made (taken _ a b c (next (expr_is f) o end)) = where_is f

  pub ordered_made : {ms : List Meant} → Meaning production.OrderBy ms
      → AreOrders (act s production.OrderBy ms)
  unfolding family_of value_in control_value order_and
  ordered_made (taken _ a b c (taken _ d e f (next {ms = ms} (order_is g) o q))) =
      orders_are (g, orders_so ms (many_are q))

  pub stable_made : {ms : List Meant} → Meaning production.StableOrderBy ms
      → AreOrders (act s production.StableOrderBy ms)
  unfolding family_of value_in control_value order_and
  stable_made (taken _ x y z (taken _ a b c (taken _ d e f (next {ms = ms} (order_is g) o q)))) =
      orders_are (g, orders_so ms (many_are q))

  pub key_spec_made : {ms : List Meant} → Meaning production.OrderKey ms
      → IsOrder (act s production.OrderKey ms)
  unfolding family_of value_in control_value expr_of
  key_spec_made (next (expr_is f) o q) = order_is f

  pub ors_made : {m n : Meant} {ms : List Meant}
      → Meaning (production.OperatorChain level.Or) (m ∷ n ∷ ms)
      → IsForm (act s (production.OperatorChain level.Or) (m ∷ n ∷ ms))
  unfolding family_of value_in control_value chained
  ors_made {m = m} {n = n} {ms = ms} (next g o (again h p q)) =
      form_is (form_or (expr_of m) (expr_of n) (exprs_of ms)
      (expr_fine m g, tails_fine (n ∷ ms) (h, many_are q)))
  ors_made (next g o (stop x)) = elim x [ ]

  pub ands_made : {m n : Meant} {ms : List Meant}
      → Meaning (production.OperatorChain level.And) (m ∷ n ∷ ms)
      → IsForm (act s (production.OperatorChain level.And) (m ∷ n ∷ ms))
  unfolding family_of value_in control_value chained
  ands_made {m = m} {n = n} {ms = ms} (next g o (again h p q)) =
      form_is (form_and (expr_of m) (expr_of n) (exprs_of ms)
      (expr_fine m g, tails_fine (n ∷ ms) (h, many_are q)))
  ands_made (next g o (stop x)) = elim x [ ]

  -- the other levels
  abbrev pub IsLeft : Level → Type 0
  IsLeft l = (m n : Meant) (ms : List Meant) → IsExpr m → IsTail n → All IsTail ms
      → IsForm (act s (production.OperatorChain l) (m ∷ n ∷ ms))

  lefts : (l : Level) → ((ms : List Meant) → chained l ms ≡ left_chain l ms) → (m n : Meant)
      (ms : List Meant) → IsExpr m → IsTail n → All IsTail ms
      → IsForm (act s (production.OperatorChain l) (m ∷ n ∷ ms))
  unfolding family_of value_in control_value
  lefts l e _ n ms (expr_is {e = x} f) g h =
      subst (λ z. IsForm (meant.Expr z)) (sym (e (meant.Expr x ∷ n ∷ ms)))
      (form_is (chain_made l x n ms f g h))

  compares_left : IsLeft level.Comparison
  unfolding chained
  compares_left = lefts level.Comparison (λ ms. refl)

  ranges_left : IsLeft level.Range
  unfolding chained
  ranges_left = lefts level.Range (λ ms. refl)

  instances_left : IsLeft level.InstanceOf
  unfolding chained
  instances_left = lefts level.InstanceOf (λ ms. refl)

  treats_left : IsLeft level.Treat
  unfolding chained
  treats_left = lefts level.Treat (λ ms. refl)

  castables_left : IsLeft level.Castable
  unfolding chained
  castables_left = lefts level.Castable (λ ms. refl)

  casts_left : IsLeft level.Cast
  unfolding chained
  casts_left = lefts level.Cast (λ ms. refl)

  adds_left : IsLeft level.Additive
  unfolding chained
  adds_left = lefts level.Additive (λ ms. refl)

  multiplies_left : IsLeft level.Multiplicative
  unfolding chained
  multiplies_left = lefts level.Multiplicative (λ ms. refl)

  unions_left : IsLeft level.Union
  unfolding chained
  unions_left = lefts level.Union (λ ms. refl)

  crosses_left : IsLeft level.Intersect
  unfolding chained
  crosses_left = lefts level.Intersect (λ ms. refl)

  pub compares_made : {m n : Meant} → Meaning (production.OperatorChain level.Comparison) (m ∷ n ∷ [])
      → IsForm (act s (production.OperatorChain level.Comparison) (m ∷ n ∷ []))
  compares_made {m = m} {n = n} (next g o (with h p end)) = compares_left m n [] g h tt
  compares_made (next g o (without x)) = elim x [ ]

  pub ranges_made : {m n : Meant} → Meaning (production.OperatorChain level.Range) (m ∷ n ∷ [])
      → IsForm (act s (production.OperatorChain level.Range) (m ∷ n ∷ []))
  ranges_made {m = m} {n = n} (next g o (with h p end)) = ranges_left m n [] g h tt
  ranges_made (next g o (without x)) = elim x [ ]

  pub instances_made : {m n : Meant} → Meaning (production.OperatorChain level.InstanceOf) (m ∷ n ∷ [])
      → IsForm (act s (production.OperatorChain level.InstanceOf) (m ∷ n ∷ []))
  instances_made {m = m} {n = n} (next g o (with h p end)) = instances_left m n [] g h tt
  instances_made (next g o (without x)) = elim x [ ]

  pub treats_made : {m n : Meant} → Meaning (production.OperatorChain level.Treat) (m ∷ n ∷ [])
      → IsForm (act s (production.OperatorChain level.Treat) (m ∷ n ∷ []))
  treats_made {m = m} {n = n} (next g o (with h p end)) = treats_left m n [] g h tt
  treats_made (next g o (without x)) = elim x [ ]

  pub castables_made : {m n : Meant} → Meaning (production.OperatorChain level.Castable) (m ∷ n ∷ [])
      → IsForm (act s (production.OperatorChain level.Castable) (m ∷ n ∷ []))
  castables_made {m = m} {n = n} (next g o (with h p end)) = castables_left m n [] g h tt
  castables_made (next g o (without x)) = elim x [ ]

  pub casts_made : {m n : Meant} → Meaning (production.OperatorChain level.Cast) (m ∷ n ∷ [])
      → IsForm (act s (production.OperatorChain level.Cast) (m ∷ n ∷ []))
  casts_made {m = m} {n = n} (next g o (with h p end)) = casts_left m n [] g h tt
  casts_made (next g o (without x)) = elim x [ ]

  pub adds_made : {m n : Meant} {ms : List Meant}
      → Meaning (production.OperatorChain level.Additive) (m ∷ n ∷ ms)
      → IsForm (act s (production.OperatorChain level.Additive) (m ∷ n ∷ ms))
  adds_made {m = m} {n = n} {ms = ms} (next g o (again h p q)) =
      adds_left m n ms g h (many_are q)
  adds_made (next g o (stop x)) = elim x [ ]

  pub multiplies_made : {m n : Meant} {ms : List Meant}
      → Meaning (production.OperatorChain level.Multiplicative) (m ∷ n ∷ ms)
      → IsForm (act s (production.OperatorChain level.Multiplicative) (m ∷ n ∷ ms))
  multiplies_made {m = m} {n = n} {ms = ms} (next g o (again h p q)) =
      multiplies_left m n ms g h (many_are q)
  multiplies_made (next g o (stop x)) = elim x [ ]

  pub unions_made : {m n : Meant} {ms : List Meant}
      → Meaning (production.OperatorChain level.Union) (m ∷ n ∷ ms)
      → IsForm (act s (production.OperatorChain level.Union) (m ∷ n ∷ ms))
  unions_made {m = m} {n = n} {ms = ms} (next g o (again h p q)) =
      unions_left m n ms g h (many_are q)
  unions_made (next g o (stop x)) = elim x [ ]

  pub crosses_made : {m n : Meant} {ms : List Meant}
      → Meaning (production.OperatorChain level.Intersect) (m ∷ n ∷ ms)
      → IsForm (act s (production.OperatorChain level.Intersect) (m ∷ n ∷ ms))
  crosses_made {m = m} {n = n} {ms = ms} (next g o (again h p q)) =
      crosses_left m n ms g h (many_are q)
  crosses_made (next g o (stop x)) = elim x [ ]

  pub operated_made : (l : Level) {ms : List Meant} → Meaning (production.OperatorTail l) ms
      → IsTail (act s (production.OperatorTail l) ms)
  unfolding family_of value_in control_value operated single_of expr_or
  operated_made level.InstanceOf (taken _ a b c (taken _ d e f (next {m = m} g o end))) =
      tail_type (sequence_good s.prefixes.bound m g)
  operated_made level.Treat (taken _ a b c (taken _ d e f (next {m = m} g o end))) =
      tail_type (sequence_good s.prefixes.bound m g)
  operated_made level.Castable (taken _ a b c (taken _ d e f (next (single_is g) o end))) =
      tail_single g
  operated_made level.Cast (taken _ a b c (taken _ d e f (next (single_is g) o end))) = tail_single g
  operated_made level.Or (taken _ a b c (next (expr_is g) o end)) = tail_operand g
  operated_made level.And (taken _ a b c (next (expr_is g) o end)) = tail_operand g
  operated_made level.Comparison (taken _ a b c (next (expr_is g) o end)) = tail_operand g
  operated_made level.Range (taken _ a b c (next (expr_is g) o end)) = tail_operand g
  operated_made level.Additive (taken _ a b c (next (expr_is g) o end)) = tail_operand g
  operated_made level.Multiplicative (taken _ a b c (next (expr_is g) o end)) = tail_operand g
  operated_made level.Union (taken _ a b c (next (expr_is g) o end)) = tail_operand g
  operated_made level.Intersect (taken _ a b c (next (expr_is g) o end)) = tail_operand g

  pub signed_made : {ms : List Meant} → Meaning production.Signed ms
      → IsForm (act s production.Signed ms)
  unfolding family_of value_in control_value expr_or
  signed_made (taken t a b c (next (expr_is {e = e} f) o end)) =
      form_is (signed_form (key_of (meant.Token t)) e f)

  pub empty_type_made : IsType (act s production.EmptyType [])
  unfolding family_of value_in control_value
  empty_type_made = type_sequence empty_good

  pub items_made : {m n : Meant} → Meaning production.ItemsType (m ∷ n ∷ [])
      → IsType (act s production.ItemsType (m ∷ n ∷ []))
  unfolding family_of value_in control_value
  items_made {m = m} (next g o (given h p end)) =
      type_sequence (item_good s.prefixes.bound m _ g)
  items_made (next g o (bare x)) = elim x [ ]

  pub any_item_made : IsItem (act s production.AnyItem [])
  unfolding family_of value_in control_value
  any_item_made = item_any

  pub one_type_made : {ms : List Meant} → Meaning production.SingleAtomicType ms
      → IsSingle (act s production.SingleAtomicType ms)
  unfolding family_of value_in control_value own_broken
  one_type_made (taken t a b c (without end)) = single_is (single_good s.prefixes.bound t c)
  one_type_made (taken t a b c (with g o end)) = single_is (single_good s.prefixes.bound t c)
