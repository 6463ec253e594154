-- What a part gives comes in front of what the others give.
use Rattle.std.proofs.Common.{◌≡◌, ℕ, List, [], ◌∷◌, ◌++◌, ◌+◌, ◌<◌, suc, length, drop, get_or, drop-cons, add-one, append_assoc, refl, ap, sym, ◌∙◌}
use Rattle.xt_syntax.specs.declared.exprs.DirectAttr.{DirectAttr}
use Rattle.expr_rules.specs.declared.expr_meant.meant.Meant.{Meant}
use Rattle.expr_rules.specs.declared.expr_meant.meant.Meant.TheVariants as meant
use Rattle.expr_primaries.specs.ExprElements.Direct.{attr_and}

pub attr_more : (m : Meant) (others : List DirectAttr) → attr_and m [] ++ others ≡ attr_and m others
unfolding attr_and
attr_more (meant.Attribute a) others = refl
attr_more _ others = refl

-- a loop that adds what each part gives
pub one_more : {A : Type 0} (add : Meant → List A → List A) (all : List Meant → List A) → ((m : Meant) (xs : List A) → add m [] ++ xs ≡ add m xs) → ((m : Meant) (ms : List Meant) → all (m ∷ ms) ≡ add m (all ms)) → (ms : List Meant) (made more : List A) (i : ℕ) (m d : Meant) → made ++ all (drop i ms) ≡ all ms → i < length ms → m ≡ get_or ms i d → more ≡ made ++ add m [] → more ++ all (drop (i + 1) ms) ≡ all ms
one_more add all in_front step ms made more i m d inv lt is e =
    let at : drop i ms ≡ m ∷ drop (suc i) ms = drop-cons ms i d lt ∙ ap (λ x. x ∷ drop (suc i) ms) (sym is) in
    let rest : add m [] ++ all (drop (suc i) ms) ≡ all (drop i ms) = in_front m (all (drop (suc i) ms)) ∙ sym (step m (drop (suc i) ms)) ∙ ap all (sym at) in
    rw (add-one, e) (append_assoc made (add m []) (all (drop (suc i) ms)) ∙ ap (λ xs. made ++ xs) rest ∙ inv)
