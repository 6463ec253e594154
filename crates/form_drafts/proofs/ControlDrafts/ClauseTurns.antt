-- Clauses of FLWOR expressions whose tokens are put from the last one on.
use Rattle.std.proofs.Common.{◌≡◌, ◌<◌, ◌≤◌, ℕ, ◌-◌, zero, suc, Bool, false, List, [], ◌∷◌, length}
use Rattle.std.proofs.Common.{drop, map, get_or, refl, ap, ap₂, sym, ◌∙◌, arith}
use Rattle.xt_syntax.specs.declared.exprs.Clause.{Clause}
use Rattle.xt_syntax.specs.declared.prefixes.Prefixes.{Prefixes}
use Rattle.expr_keys.specs.declared.tokens.Token.{Token}
use Rattle.expr_raws.specs.ControlRaws.Bindings.{clause_tokens, clauses_tokens}
use Rattle.expr_drafts.specs.ExprPlaces.Forms.{clause_form}
use Rattle.expr_drafts.proofs.Turns.{from_place}
use Rattle.form_drafts.specs.ControlDrafts.Clauses.{joins_at}

joins_next : (p : Prefixes) (cs : List Clause) (i : ℕ) (d : Clause) → i < length cs
    → joins_at p cs (suc i) ≡ (clause_form p (get_or cs i d)).loops
joins_next p [] i d h = absurd (omega arith)
joins_next p (c ∷ cs) zero d h = refl
joins_next p (c ∷ cs) (suc i) d h = joins_next p cs i d (omega arith)

pub joins_before : (p : Prefixes) (cs : List Clause) (i : ℕ) (d : Clause) → 0 < i → i ≤ length cs
    → joins_at p cs i ≡ (clause_form p (get_or cs (i - 1) d)).loops
joins_before p cs i d o h =
    let lt : i - 1 < length cs = omega arith in
    let s : i ≡ suc (i - 1) = omega arith in
    ap (joins_at p cs) s ∙ joins_next p cs (i - 1) d lt

-- a clause more
pub clause_turn : (p : Prefixes) (cs : List Clause) (i : ℕ) (c d : Clause)
    (page new ts : List Token) → 0 < i → i ≤ length cs → c ≡ get_or cs (i - 1) d
    → page ≡ clauses_tokens (joins_at p cs i) (map (clause_form p) (drop i cs)) ts
    → new ≡ clause_tokens (joins_at p cs (i - 1)) (clause_form p c) page
    → new ≡ clauses_tokens (joins_at p cs (i - 1)) (map (clause_form p) (drop (i - 1) cs)) ts
clause_turn p cs i c d page new ts o h e q n =
    let j : joins_at p cs i ≡ (clause_form p (get_or cs (i - 1) d)).loops =
    joins_before p cs i d o h in
    n ∙ (ap₂ (λ (x : Clause) (us : List Token). clause_tokens (joins_at p cs (i - 1)) (clause_form p x) us) e
    (q ∙ ap (λ (b : Bool). clauses_tokens b (map (clause_form p) (drop i cs)) ts) j)
    ∙ sym (from_place (λ (ys : List Clause). clauses_tokens (joins_at p cs (i - 1)) (map (clause_form p) ys) ts)
    cs i d o h))

-- all clauses
pub finish_clauses : (p : Prefixes) (cs : List Clause) (i : ℕ) (page ts : List Token) → i ≤ 0
    → page ≡ clauses_tokens (joins_at p cs i) (map (clause_form p) (drop i cs)) ts
    → page ≡ clauses_tokens false (map (clause_form p) cs) ts
finish_clauses p cs i page ts h e =
    let z : i ≡ 0 = omega arith in
    e ∙ ap (λ (n : ℕ). clauses_tokens (joins_at p cs n) (map (clause_form p) (drop n cs)) ts) z
