-- Keys are told apart by their codes.
use Rattle.std.proofs.Common.{◌≡◌, ℕ, refl, sym, ◌∙◌, ap, true, cond, ◌≤◌, arith, nat_lt}
use Rattle.std.proofs.lemmas.Bool.{eqb-true, eq-eqb}
use Rattle.expr_grammar.specs.Keys.{Key, open_paren, close_paren, open_bracket, close_bracket, open_brace, close_brace, comma, dot, dots, slash, slashes, at_sign, colons, bar, plus, minus, star, equal, not_equal, less, less_equal, greater, greater_equal, before, after, dollar, question, semicolon, assign, if_word, then_word, else_word, for_word, in_word, return_word, some_word, every_word, satisfies_word, let_word, at_word, where_word, order_word, by_word, stable_word, ascending_word, descending_word, empty_word, least_word, as_word, of_word, instance_word, treat_word, castable_word, cast_word, to_word, union_word, intersect_word, except_word, idiv_word, mod_word, and_word, or_word, is_word, eq_word, ne_word, lt_word, le_word, gt_word, ge_word, document_word, ancestor_word, ancestor_or_self_word, child_word, descendant_word, descendant_or_self_word, following_word, following_sibling_word, namespace_word, parent_word, preceding_word, preceding_sibling_word, self_word, attribute_word, comment_word, document_node_word, element_word, empty_sequence_word, item_word, node_word, pi_word, schema_attribute_word, schema_element_word, text_word, typeswitch_word}
use Rattle.expr_keys.specs.Keys.{code, binding_power_of_key, same_key}

abbrev key_of : ℕ → Key
key_of n = cond (nat_lt n 47) (cond (nat_lt n 23) (cond (nat_lt n 11) (cond (nat_lt n 5) (cond (nat_lt n 2) (cond (nat_lt n 1) (open_paren) (close_paren)) (cond (nat_lt n 3) (open_bracket) (cond (nat_lt n 4) (close_bracket) (open_brace)))) (cond (nat_lt n 8) (cond (nat_lt n 6) (close_brace) (cond (nat_lt n 7) (comma) (dot))) (cond (nat_lt n 9) (dots) (cond (nat_lt n 10) (slash) (slashes))))) (cond (nat_lt n 17) (cond (nat_lt n 14) (cond (nat_lt n 12) (at_sign) (cond (nat_lt n 13) (colons) (bar))) (cond (nat_lt n 15) (plus) (cond (nat_lt n 16) (minus) (star)))) (cond (nat_lt n 20) (cond (nat_lt n 18) (equal) (cond (nat_lt n 19) (not_equal) (less))) (cond (nat_lt n 21) (less_equal) (cond (nat_lt n 22) (greater) (greater_equal)))))) (cond (nat_lt n 35) (cond (nat_lt n 29) (cond (nat_lt n 26) (cond (nat_lt n 24) (before) (cond (nat_lt n 25) (after) (dollar))) (cond (nat_lt n 27) (question) (cond (nat_lt n 28) (semicolon) (assign)))) (cond (nat_lt n 32) (cond (nat_lt n 30) (if_word) (cond (nat_lt n 31) (then_word) (else_word))) (cond (nat_lt n 33) (for_word) (cond (nat_lt n 34) (in_word) (return_word))))) (cond (nat_lt n 41) (cond (nat_lt n 38) (cond (nat_lt n 36) (some_word) (cond (nat_lt n 37) (every_word) (satisfies_word))) (cond (nat_lt n 39) (let_word) (cond (nat_lt n 40) (at_word) (where_word)))) (cond (nat_lt n 44) (cond (nat_lt n 42) (order_word) (cond (nat_lt n 43) (by_word) (stable_word))) (cond (nat_lt n 45) (ascending_word) (cond (nat_lt n 46) (descending_word) (empty_word))))))) (cond (nat_lt n 70) (cond (nat_lt n 58) (cond (nat_lt n 52) (cond (nat_lt n 49) (cond (nat_lt n 48) (least_word) (as_word)) (cond (nat_lt n 50) (of_word) (cond (nat_lt n 51) (instance_word) (treat_word)))) (cond (nat_lt n 55) (cond (nat_lt n 53) (castable_word) (cond (nat_lt n 54) (cast_word) (to_word))) (cond (nat_lt n 56) (union_word) (cond (nat_lt n 57) (intersect_word) (except_word))))) (cond (nat_lt n 64) (cond (nat_lt n 61) (cond (nat_lt n 59) (idiv_word) (cond (nat_lt n 60) (mod_word) (and_word))) (cond (nat_lt n 62) (or_word) (cond (nat_lt n 63) (is_word) (eq_word)))) (cond (nat_lt n 67) (cond (nat_lt n 65) (ne_word) (cond (nat_lt n 66) (lt_word) (le_word))) (cond (nat_lt n 68) (gt_word) (cond (nat_lt n 69) (ge_word) (document_word)))))) (cond (nat_lt n 82) (cond (nat_lt n 76) (cond (nat_lt n 73) (cond (nat_lt n 71) (ancestor_word) (cond (nat_lt n 72) (ancestor_or_self_word) (child_word))) (cond (nat_lt n 74) (descendant_word) (cond (nat_lt n 75) (descendant_or_self_word) (following_word)))) (cond (nat_lt n 79) (cond (nat_lt n 77) (following_sibling_word) (cond (nat_lt n 78) (namespace_word) (parent_word))) (cond (nat_lt n 80) (preceding_word) (cond (nat_lt n 81) (preceding_sibling_word) (self_word))))) (cond (nat_lt n 88) (cond (nat_lt n 85) (cond (nat_lt n 83) (attribute_word) (cond (nat_lt n 84) (comment_word) (document_node_word))) (cond (nat_lt n 86) (element_word) (cond (nat_lt n 87) (empty_sequence_word) (item_word)))) (cond (nat_lt n 91) (cond (nat_lt n 89) (node_word) (cond (nat_lt n 90) (pi_word) (schema_attribute_word))) (cond (nat_lt n 92) (schema_element_word) (cond (nat_lt n 93) (text_word) (typeswitch_word)))))))

key_of_code : (k : Key) → key_of (code k) ≡ k
key_of_code open_paren = refl
key_of_code _ = refl

pub same : (a b : Key) → same_key a b ≡ true → a ≡ b
same a b e = sym (key_of_code a) ∙ ap key_of (eqb-true (code a) (code b) e) ∙ key_of_code b

pub same_self : (a : Key) → same_key a a ≡ true
same_self a = eq-eqb (code a) (code a) refl

pub place_top : (k : Key) → binding_power_of_key k ≤ 30
place_top open_paren = omega arith
place_top _ = omega arith
