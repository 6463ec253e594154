-- A test has no level.
use Rattle.std.proofs.Common.{◌≡◌, ℕ, max, List, [], ◌∷◌, ap}
use Rattle.std.proofs.Common.{◌∙◌, arith}
use Rattle.expr_keys.specs.declared.tokens.Token.{Token}
use Rattle.expr_keys.specs.declared.productions.Language.{Language}
use Rattle.expr_keys.specs.declared.productions.Production.{Production}
use Rattle.expr_keys.specs.declared.productions.Production.TheVariants as production
use Rattle.expr_keys.specs.declared.productions.Nonterminal.TheVariants.{NodeTest as node_test}
use Rattle.expr_keys.specs.declared.productions.Nonterminal.TheVariants.{KindTest as kind_test}
use Rattle.expr_keys.specs.declared.productions.Nonterminal.TheVariants.{PiArgument as pi_argument}
use Rattle.expr_keys.specs.declared.productions.Nonterminal.TheVariants.{NamedArgument as named_argument}
use Rattle.expr_terms.specs.declared.raws.Raw.{Raw}
use Rattle.expr_terms.specs.declared.raws.Raw.TheVariants.{Leaf as leaf, outs-Leaf}
use Rattle.expr_terms.specs.declared.raws.Raw.TheFolds.{map-Raw}
use Rattle.expr_terms.specs.Productions.{body, head}
use Rattle.expr_terms.specs.Raws.{build}
use Rattle.expr_terms.specs.Nest.{Levels, levels_step, levels_of, raw_nest_of}
use Rattle.expr_grammar.specs.Grammar.{Derives, by, Seq, end, taken, next, without, with}
use Rattle.expr_grammar.proofs.ExprNest.Levels.{levels-out, nest-node}

pub leaf_flat : (t : Token) → raw_nest_of (leaf t) ≡ 0
leaf_flat t = ap (λ x. x.nest) (levels-out (leaf t)
    ∙ ap (λ f. levels_step (map-Raw Raw Levels levels_of f)) (outs-Leaf t))

one_flat : (p : Production) (n : ℕ) (v : Raw) → raw_nest_of v ≡ 0 → n ≡ max 0 (raw_nest_of v)
    → n ≡ 0
one_flat p n v e f = omega arith

two_flat : (n : ℕ) (v w : Raw) → raw_nest_of v ≡ 0 → raw_nest_of w ≡ 0
    → n ≡ max (max 0 (raw_nest_of v)) (raw_nest_of w) → n ≡ 0
two_flat n v w e f g = omega arith

target_flat : {l : Language} (p : Production) {ts rest : List Token} {vs : List Raw}
    → head p ≡ pi_argument → Seq l (body p) ts vs rest → raw_nest_of (build p vs) ≡ 0
target_flat production.PiNamed e (taken {t = t} f end) = leaf_flat t
target_flat _ e q = absurd cc

argument_flat : {l : Language} (p : Production) {ts rest : List Token} {vs : List Raw}
    → head p ≡ named_argument → Seq l (body p) ts vs rest → raw_nest_of (build p vs) ≡ 0
argument_flat production.KindNamed e (taken {t = t} f end) = leaf_flat t
argument_flat _ e q = absurd cc

kind_flat : {l : Language} (p : Production) {ts rest : List Token} {vs : List Raw}
    → head p ≡ kind_test → Seq l (body p) ts vs rest → raw_nest_of (build p vs) ≡ 0
kind_flat production.PlainKind e (taken {t = t} f (taken g (taken h end))) = one_flat
    production.PlainKind _ (leaf t) (leaf_flat t) (nest-node production.PlainKind (leaf t ∷ []))
kind_flat production.PiKind e (taken f (taken g (without (taken h end)))) = nest-node
    production.PiKind []
kind_flat production.PiKind e (taken f (taken g (with {v = v} (by p s i q) (taken h end)))) =
    one_flat production.PiKind _ v (target_flat p i q) (nest-node production.PiKind (v ∷ []))
kind_flat production.NamedKind e (taken {t = t} f (taken g (without (taken h end)))) = one_flat
    production.NamedKind _ (leaf t) (leaf_flat t) (nest-node production.NamedKind (leaf t ∷ []))
kind_flat production.NamedKind e (taken {t = t} f (taken g (with {v = v} (by p s i q) (taken h
    end)))) = two_flat _ (leaf t) v (leaf_flat t) (argument_flat p i q) (nest-node
    production.NamedKind (leaf t ∷ v ∷ []))
kind_flat _ e q = absurd cc

test_flat : {l : Language} (p : Production) {ts rest : List Token} {vs : List Raw}
    → head p ≡ node_test → Seq l (body p) ts vs rest → raw_nest_of (build p vs) ≡ 0
test_flat production.NameTested e (taken {t = t} f end) = leaf_flat t
test_flat production.KindTested e (next (by p s i q) end) = kind_flat p i q
test_flat _ e q = absurd cc

pub tests_flat : (l : Language) (ts rest : List Token) (v : Raw) → Derives l node_test ts v rest
    → raw_nest_of v ≡ 0
tests_flat l ts rest _ (by p s e q) = test_flat p e q
