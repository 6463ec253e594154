-- What is at a place is at each looser one.
use Rattle.std.proofs.Common.{◌≡◌, ℕ, zero, suc, ◌+◌, ◌-◌, ◌≤◌, nat_le, List, [], ◌∷◌, Bool, true}
use Rattle.std.proofs.Common.{refl, subst, arith}
use Rattle.std.proofs.lemmas.Bool.{leb-true}
use Rattle.expr_keys.specs.declared.tokens.Token.{Token}
use Rattle.expr_keys.specs.declared.productions.Language.{Language}
use Rattle.expr_keys.specs.declared.productions.Language.TheVariants as language
use Rattle.expr_keys.specs.declared.productions.Level.TheVariants as level
use Rattle.expr_keys.specs.declared.productions.Nonterminal.{Nonterminal}
use Rattle.expr_keys.specs.declared.productions.Nonterminal.TheVariants as place
use Rattle.expr_keys.specs.declared.productions.Production.TheVariants as production
use Rattle.expr_terms.specs.declared.raws.Raw.{Raw}
use Rattle.expr_grammar.specs.Grammar.{Derives, by, Seq, end, next, without, stop}

abbrev pub X : Language
X = language.Xquery

abbrev pub Rise : Nonterminal → Nonterminal → Type 0
Rise m n = (ts : List Token) (v : Raw) (rest : List Token) → Derives X m ts v rest
    → Derives X n ts v rest

abbrev pub nth : ℕ → Nonterminal → List Nonterminal → Nonterminal
nth zero m ns = m
nth (suc k) m [] = m
nth (suc k) m (n ∷ ns) = nth k n ns

abbrev pub looser : List Nonterminal
looser = place.StepExpr ∷ place.PathExpr ∷ place.UnaryExpr ∷ place.Level level.Cast
    ∷ place.Level level.Castable ∷ place.Level level.Treat ∷ place.Level level.InstanceOf
    ∷ place.Level level.Intersect ∷ place.Level level.Union ∷ place.Level level.Multiplicative
    ∷ place.Level level.Additive ∷ place.Level level.Range ∷ place.Level level.Comparison
    ∷ place.Level level.And ∷ place.Level level.Or ∷ place.ExprSingle ∷ place.Expr ∷ []

-- the nonterminal of a place
abbrev pub spot : ℕ → Nonterminal
spot k = nth k place.PrimaryExpr looser

abbrev Rises : Nonterminal → List Nonterminal → Type 0
Rises m [] = Unit {0}
Rises m (n ∷ ns) = Rise m n × Rises n ns

same : (m : Nonterminal) → Rise m m
same m ts v rest d = d

up : (k : ℕ) (m : Nonterminal) (ns : List Nonterminal) → Rises m ns
    → Rise (nth k m ns) (nth (suc k) m ns)
up zero m [] r = same m
up zero m (n ∷ ns) r = r.0
up (suc k) m [] r = same m
up (suc k) m (n ∷ ns) r = up k n ns r.1

to_step : Rise place.PrimaryExpr place.StepExpr
to_step ts v rest d = by production.FilterStep refl refl (next d (stop end))

to_path : Rise place.StepExpr place.PathExpr
to_path ts v rest d =
    let r : Derives X place.RelativePathExpr ts v rest =
    by production.Steps refl refl (next d (stop end)) in
    by production.Unrooted refl refl (next r end)

to_unary : Rise place.PathExpr place.UnaryExpr
to_unary ts v rest d = by production.Unsigned refl refl (next d end)

to_casts : Rise place.UnaryExpr (place.Level level.Cast)
to_casts ts v rest d = by (production.OperatorChain level.Cast) refl refl (next d (without end))

to_castables : Rise (place.Level level.Cast) (place.Level level.Castable)
to_castables ts v rest d = by (production.OperatorChain level.Castable) refl refl (next d (without end))

to_treats : Rise (place.Level level.Castable) (place.Level level.Treat)
to_treats ts v rest d = by (production.OperatorChain level.Treat) refl refl (next d (without end))

to_instances : Rise (place.Level level.Treat) (place.Level level.InstanceOf)
to_instances ts v rest d = by (production.OperatorChain level.InstanceOf) refl refl (next d (without end))

to_crosses : Rise (place.Level level.InstanceOf) (place.Level level.Intersect)
to_crosses ts v rest d = by (production.OperatorChain level.Intersect) refl refl (next d (stop end))

to_unions : Rise (place.Level level.Intersect) (place.Level level.Union)
to_unions ts v rest d = by (production.OperatorChain level.Union) refl refl (next d (stop end))

to_multiplies : Rise (place.Level level.Union) (place.Level level.Multiplicative)
to_multiplies ts v rest d = by (production.OperatorChain level.Multiplicative) refl refl (next d (stop end))

to_adds : Rise (place.Level level.Multiplicative) (place.Level level.Additive)
to_adds ts v rest d = by (production.OperatorChain level.Additive) refl refl (next d (stop end))

to_ranges : Rise (place.Level level.Additive) (place.Level level.Range)
to_ranges ts v rest d = by (production.OperatorChain level.Range) refl refl (next d (without end))

to_compares : Rise (place.Level level.Range) (place.Level level.Comparison)
to_compares ts v rest d = by (production.OperatorChain level.Comparison) refl refl (next d (without end))

to_ands : Rise (place.Level level.Comparison) (place.Level level.And)
to_ands ts v rest d = by (production.OperatorChain level.And) refl refl (next d (stop end))

to_ors : Rise (place.Level level.And) (place.Level level.Or)
to_ors ts v rest d = by (production.OperatorChain level.Or) refl refl (next d (stop end))

to_single : Rise (place.Level level.Or) place.ExprSingle
to_single ts v rest d = by production.OperatorExpr refl refl (next d end)

to_list : Rise place.ExprSingle place.Expr
to_list ts v rest d = by production.ExprList refl refl (next d (stop end))

all_rise : Rises place.PrimaryExpr looser
all_rise = (
  to_step,
  (
    to_path,
    (
      to_unary,
      (
        to_casts,
        (
          to_castables,
          (
            to_treats,
            (
              to_instances,
              (
                to_crosses,
                (
                  to_unions,
                  (
                    to_multiplies,
                    (
                      to_adds,
                      (
                        to_ranges,
                        (
                          to_compares,
                          (
                            to_ands,
                            (to_ors, (to_single, (to_list, tt))),
                          ),
                        ),
                      ),
                    ),
                  ),
                ),
              ),
            ),
          ),
        ),
      ),
    ),
  ),
)

lift : (k m : ℕ) → Rise (spot m) (spot (k + m))
lift zero m ts v rest d =
    let e : m ≡ zero + m = omega arith in subst (λ n. Derives X (spot n) ts v rest) e d
lift (suc k) m ts v rest d =
    let e : suc (k + m) ≡ suc k + m = omega arith in
    subst (λ n. Derives X (spot n) ts v rest) e
    (up (k + m) place.PrimaryExpr looser all_rise ts v rest (lift k m ts v rest d))

pub climb : (m n : ℕ) → nat_le m n ≡ true → Rise (spot m) (spot n)
climb m n e ts v rest d =
    let h : m ≤ n = leb-true m n e in
    let same : (n - m) + m ≡ n = omega arith in
    subst (λ k. Derives X (spot k) ts v rest) same (lift (n - m) m ts v rest d)
