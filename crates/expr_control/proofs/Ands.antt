-- What a part gives comes in front of what the others give.
use Rattle.std.proofs.Common.{◌≡◌, ℕ, List, [], ◌∷◌, ◌++◌, ◌+◌, ◌<◌, suc, length, drop, get_or, drop-cons, add-one, append_assoc, refl, ap, sym, ◌∙◌}
use Rattle.std.proofs.lemmas.List.{append-nil}
use Rattle.xt_syntax.specs.declared.exprs.Bind.{Bind}
use Rattle.xt_syntax.specs.declared.exprs.Clause.{Clause}
use Rattle.xt_syntax.specs.declared.exprs.Order.{Order}
use Rattle.expr_rules.specs.declared.expr_meant.meant.Meant.{Meant}
use Rattle.expr_rules.specs.declared.expr_meant.meant.Meant.TheVariants as meant
use Rattle.expr_control.specs.Lists.{bind_and}
use Rattle.expr_control.specs.Bindings.{order_and, clause_and, clauses_and}

pub bind_more : (m : Meant) (bs : List Bind) → bind_and m [] ++ bs ≡ bind_and m bs
unfolding bind_and
bind_more (meant.Bind b) bs = refl
bind_more _ bs = refl

pub order_more : (m : Meant) (os : List Order) → order_and m [] ++ os ≡ order_and m os
unfolding order_and
order_more (meant.Order o) os = refl
order_more _ os = refl

pub clause_more : (m : Meant) (cs : List Clause) → clause_and m [] ++ cs ≡ clause_and m cs
unfolding clause_and
clause_more (meant.Clause c) cs = refl
clause_more _ cs = refl

pub clauses_more : (m : Meant) (more : List Clause) → clauses_and m [] ++ more ≡ clauses_and m more
unfolding clauses_and
clauses_more (meant.Clauses cs) more = rw (append-nil cs) refl
clauses_more _ more = refl

-- a loop that adds what each part gives
pub one_more : {A : Type 0} (add : Meant → List A → List A) (all : List Meant → List A) → ((m : Meant) (xs : List A) → add m [] ++ xs ≡ add m xs) → ((m : Meant) (ms : List Meant) → all (m ∷ ms) ≡ add m (all ms)) → (ms : List Meant) (made more : List A) (i : ℕ) (m d : Meant) → made ++ all (drop i ms) ≡ all ms → i < length ms → m ≡ get_or ms i d → more ≡ made ++ add m [] → more ++ all (drop (i + 1) ms) ≡ all ms
one_more add all in_front step ms made more i m d inv lt is e =
    let at : drop i ms ≡ m ∷ drop (suc i) ms = drop-cons ms i d lt ∙ ap (λ x. x ∷ drop (suc i) ms) (sym is) in
    let rest : add m [] ++ all (drop (suc i) ms) ≡ all (drop i ms) = in_front m (all (drop (suc i) ms)) ∙ sym (step m (drop (suc i) ms)) ∙ ap all (sym at) in
    rw (add-one, e) (append_assoc made (add m []) (all (drop (suc i) ms)) ∙ ap (λ xs. made ++ xs) rest ∙ inv)
