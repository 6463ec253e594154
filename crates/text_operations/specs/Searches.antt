-- Texts within texts (XQuery 1.0 and XPath 2.0 Functions and Operators, 7.5).
use Rattle.std.specs.Prelude.{ℕ, ◌+◌, List, [], ◌∷◌, length, drop, nat_eq, Option, Some, None, option_map, if◌then◌else◌}
use Rattle.std.specs.List.{starts_with}

-- what comes before the first occurrence of the part; the empty part occurs at the start
unfoldable pub text_before : List ℕ → List ℕ → Option (List ℕ)
text_before part [] = if starts_with nat_eq [] part then Some [] else None
text_before part (c ∷ cs) = if starts_with nat_eq (c ∷ cs) part then Some [] else option_map (λ front. c ∷ front) (text_before part cs)

-- what comes after it
abbrev pub text_after : List ℕ → List ℕ → Option (List ℕ)
text_after part text = option_map (λ front. drop (length front + length part) text) (text_before part text)
