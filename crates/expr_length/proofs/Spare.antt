-- How many levels fewer than it has tokens a nonterminal nests, where one more is allowed for `//` at the front.
use Rattle.std.proofs.Common.{◌≡◌, ℕ, ◌+◌, Bool, true, cond, ◌&&◌, nat_le, List, [], ◌∷◌, refl}
use Rattle.expr_keys.specs.declared.productions.Level.TheVariants.{Additive as additive_level}
use Rattle.expr_length.specs.Terms.{Level, or_level, and_level, comparison_level, range_level, multiplicative_level, union_level, intersect_level, instance_of_level, treat_level, castable_level, cast_level, operator_tail, Nonterminal, comma_expr_single, tail, relative_path_expr, step_expr, primary_expr, dir_elem_constructor, step_more, predicate, node_test, kind_test, pi_argument, named_argument, dir_elem_closing, Symbol, tok, one, maybe, many, longest, Production, expr_list, if_expr, else_expr, flwor_expr, quantified_expr, operator_chain, signed, rooted, axis_step, attribute_step, test_step, parent_step, filter_step, number, literal, variable, parens, context, call, computed, constructed, pi_constructed, enclosing, direct_element, child_element}
use Rattle.expr_terms.specs.Productions.{body, head}
use Rattle.expr_terms.specs.Nest.{is_left_level}

abbrev pub spare : Nonterminal → ℕ
spare comma_expr_single = 1
spare (tail l) = 1
spare relative_path_expr = 1
spare step_expr = 1
spare primary_expr = 1
spare dir_elem_constructor = 1
spare step_more = 2
spare predicate = 2
spare node_test = 2
spare kind_test = 2
spare pi_argument = 2
spare named_argument = 2
spare dir_elem_closing = 2
spare _ = 0

-- the least number of tokens of a nonterminal
abbrev pub shortest : Nonterminal → ℕ
shortest step_more = 2
shortest (tail l) = 2
shortest _ = 1

-- .. and of parts, where each nonterminal is counted as one
abbrev pub least : List Symbol → ℕ
least [] = 0
least (tok c ∷ ss) = 1 + least ss
least (one n ∷ ss) = 1 + least ss
least (maybe n ∷ ss) = least ss
least (many n ∷ ss) = least ss
least (longest n ∷ ss) = least ss

-- each part has so many tokens around it that it nests `m` less than the whole has tokens, behind `d` tokens at least
abbrev pub fits : ℕ → ℕ → List Symbol → Bool
fits m d [] = true
fits m d (tok c ∷ ss) = fits m (1 + d) ss
fits m d (one n ∷ ss) = nat_le m (spare n + (d + least ss)) && fits m (1 + d) ss
fits m d (maybe n ∷ ss) = nat_le m (spare n + (d + least ss)) && fits m d ss
fits m d (many n ∷ ss) = nat_le m (spare n + (d + least ss)) && fits m d ss
fits m d (longest n ∷ ss) = nat_le m (spare n + (d + least ss)) && fits m d ss

-- a level of its own
abbrev pub adds : Production → ℕ
adds expr_list = 1
adds if_expr = 1
adds else_expr = 1
adds flwor_expr = 1
adds quantified_expr = 1
adds (operator_chain l) = cond (is_left_level l) 0 1
adds signed = 1
adds axis_step = 1
adds attribute_step = 1
adds test_step = 1
adds parent_step = 1
adds filter_step = 1
adds number = 1
adds literal = 1
adds variable = 1
adds context = 1
adds call = 1
adds computed = 1
adds constructed = 1
adds pi_constructed = 1
adds enclosing = 1
adds direct_element = 1
adds child_element = 1
adds _ = 0

-- the least that the parts count
abbrev pub floor : Production → ℕ
floor parens = 1
floor rooted = 1
floor constructed = 1
floor pi_constructed = 1
floor _ = 0

abbrev pub margin : Production → ℕ
margin p = adds p + spare (head p)

abbrev pub fine : Production → Bool
fine p = fits (margin p) 0 (body p) && (nat_le (margin p + floor p) (1 + least (body p)) && nat_le (shortest (head p)) (least (body p)))

pub fine_operated : (l : Level) → fine (operator_tail l) ≡ true
fine_operated or_level = refl
fine_operated and_level = refl
fine_operated comparison_level = refl
fine_operated range_level = refl
fine_operated additive_level = refl
fine_operated multiplicative_level = refl
fine_operated union_level = refl
fine_operated intersect_level = refl
fine_operated instance_of_level = refl
fine_operated treat_level = refl
fine_operated castable_level = refl
fine_operated cast_level = refl
