-- How many levels fewer than its tokens weigh a nonterminal nests, where one more is allowed.
use Rattle.std.proofs.Common.{◌≡◌, ℕ, ◌+◌, Bool, true, ◌&&◌, nat_le, List, [], ◌∷◌, refl}
use Rattle.expr_keys.specs.declared.productions.Level.TheVariants.{Additive as additive_level}
use Rattle.expr_length.specs.Terms.{Level, or_level, and_level, comparison_level, range_level, multiplicative_level, union_level, intersect_level}
use Rattle.expr_length.specs.Terms.{instance_of_level, treat_level, castable_level, cast_level, operator_tail, Nonterminal}
use Rattle.expr_length.specs.Terms.{after_root, step_more, predicate, node_test, kind_test}
use Rattle.expr_length.specs.Terms.{pi_argument, named_argument, dir_elem_closing, Symbol, tok, one, maybe}
use Rattle.expr_length.specs.Terms.{many, longest, Production}
use Rattle.expr_terms.specs.Productions.{body, head}
use Rattle.expr_length.proofs.Spare.{shortest, least, adds, floor}

abbrev pub spare : Nonterminal → ℕ
spare after_root = 0
spare step_more = 2
spare predicate = 2
spare node_test = 2
spare kind_test = 2
spare pi_argument = 2
spare named_argument = 2
spare dir_elem_closing = 2
spare _ = 1

-- each part has so many tokens around it that it nests `m` less than those of the whole weigh,
-- behind `d` tokens at least
abbrev pub fits : ℕ → ℕ → List Symbol → Bool
fits m d [] = true
fits m d (tok c ∷ ss) = fits m (1 + d) ss
fits m d (one n ∷ ss) = nat_le m (spare n + (d + least ss)) && fits m (1 + d) ss
fits m d (maybe n ∷ ss) = nat_le m (spare n + (d + least ss)) && fits m d ss
fits m d (many n ∷ ss) = nat_le m (spare n + (d + least ss)) && fits m d ss
fits m d (longest n ∷ ss) = nat_le m (spare n + (d + least ss)) && fits m d ss

abbrev pub margin : Production → ℕ
margin p = adds p + spare (head p)

abbrev pub fine : Production → Bool
fine p =
    fits (margin p) 0 (body p)
    && (nat_le (margin p + floor p) (1 + least (body p)) && nat_le (shortest (head p)) (least (body p)))

pub fine_operated : (l : Level) → fine (operator_tail l) ≡ true
fine_operated or_level = refl
fine_operated and_level = refl
fine_operated comparison_level = refl
fine_operated range_level = refl
fine_operated additive_level = refl
fine_operated multiplicative_level = refl
fine_operated union_level = refl
fine_operated intersect_level = refl
fine_operated instance_of_level = refl
fine_operated treat_level = refl
fine_operated castable_level = refl
fine_operated cast_level = refl
