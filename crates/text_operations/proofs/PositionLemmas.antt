-- Texts without their first characters.
use Rattle.std.proofs.Common.{◌≡◌, ℕ, ◌+◌, ◌-◌, ◌≤◌, length, take, drop, List, [], ◌∷◌, ◌++◌, sym, ap, subst, ◌∙◌, arith, length-append}
use Rattle.std.proofs.lemmas.List.{take-append-drop, drop-drop, nil_from_length, append_cancel_right, length-drop}
use Rattle.text_operations.proofs.SearchLemmas.{front_utf8}
use Rattle.std.proofs.Math.ListN.{drop_of_length-le}
use Rattle.std.proofs.Math.Seq.{take-append_seam}
use Rattle.std.proofs.lemmas.Str.{chars-append, chars-nil, chars_past_char, IsCharBoundary-at_seam}
use Rattle.std.specs.Char.{encode_utf8}
use Rattle.std.specs.Str.{chars, IsUtf8, IsCharBoundary}

-- nothing is skipped yet
pub kept-zero : (bs rest : List ℕ) → rest ≡ bs → chars rest ≡ drop 0 (chars bs)
kept-zero bs rest e = ap chars e

-- one more character is skipped
pub kept-more : (bs rest new : List ℕ) (n c : ℕ) → IsUtf8 rest → rest ≡ encode_utf8 c ++ new → chars rest ≡ drop n (chars bs) → chars new ≡ drop (n + 1) (chars bs)
kept-more bs rest new n c u e h =
    let cons : drop n (chars bs) ≡ c ∷ chars new = sym h ∙ chars_past_char rest new c u e in
    sym (ap (drop 1) cons) ∙ drop-drop 1 n (chars bs)

-- all is skipped before the count
pub kept-end : (bs rest : List ℕ) (n count : ℕ) → length rest ≡ 0 → n ≤ count → chars rest ≡ drop n (chars bs) → chars rest ≡ drop count (chars bs)
kept-end bs rest n count z l h =
    let none : chars rest ≡ [] = ap chars (nil_from_length rest z) ∙ chars-nil in
    let short : length (drop n (chars bs)) ≡ 0 = ap length (sym h ∙ none) in
    none ∙ sym (drop_of_length-le (chars bs) {i = count} (omega (arith, length-drop n (chars bs))))

-- a text is its first characters and the rest
pub front_is : (bs front rest : List ℕ) (n : ℕ) → IsUtf8 bs → IsUtf8 rest → bs ≡ front ++ rest → chars rest ≡ drop n (chars bs) → chars front ≡ take n (chars bs)
front_is bs front rest n u v e h =
    let own = front_utf8 bs front rest u v e in
    let parts : chars bs ≡ chars front ++ drop n (chars bs) = ap chars e ∙ chars-append front rest own ∙ ap (λ (l : List ℕ). chars front ++ l) h in
    append_cancel_right (chars front) (take n (chars bs)) (drop n (chars bs)) (sym parts ∙ sym (take-append-drop n (chars bs)))

-- the front as a part of the text
pub front_of_length : (bs front rest : List ℕ) → bs ≡ front ++ rest → take (length bs - length rest) bs ≡ front
front_of_length bs front rest e =
    let sum = ap length e ∙ length-append front rest in
    let n : length bs - length rest ≡ length front = omega arith in
    rw n (ap (take (length front)) e ∙ take-append_seam front rest)

pub front_boundary : (bs front rest : List ℕ) → IsUtf8 rest → bs ≡ front ++ rest → IsCharBoundary bs (length bs - length rest)
front_boundary bs front rest u e =
    let sum = ap length e ∙ length-append front rest in
    let n : length front ≡ length bs - length rest = omega arith in
    subst (IsCharBoundary bs) n (IsCharBoundary-at_seam bs front rest e u)

-- as many are skipped as are to be
pub kept-all : (bs rest : List ℕ) (n count : ℕ) → n ≤ count → count ≤ n → chars rest ≡ drop n (chars bs) → chars rest ≡ drop count (chars bs)
kept-all bs rest n count l m h = let same : n ≡ count = omega arith in rw (← same) h
