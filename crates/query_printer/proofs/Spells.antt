-- A text of the tokens of a printable query spells it.
use Rattle.std.proofs.Common.{◌≡◌, ◌≤◌, ℕ, List, true, ◌&&◌, subst, sym}
use Rattle.std.proofs.lemmas.Bool.{and_parts, leb-true}
use Rattle.xt_syntax.specs.declared.queries.Query.{Query}
use Rattle.closed_queries.specs.Closed.{is_closed}
use Rattle.token_laws.specs.WrittenTokens.Fit.{are_fit}
use Rattle.query_pages.specs.Laid.{IsTextOf}
use Rattle.printed_laws.specs.QueryRaws.Queries.{query_tokens, can_print}
use Rattle.printed_laws.specs.XquerySyntax.Spelled.{SpellsWithin}
use Rattle.xt_names.specs.Allowed.{is_empty_text}
use Rattle.printed_laws.specs.PrintedQueries.Keeps.{is_kept, has_own_prefixes, keeps_declarations}
use Rattle.printed_laws.specs.PrintedReads.Nests.{query_nest_of}
use Rattle.printed_laws.proofs.PrintedReads.TextsWithin.{text_within}
use Rattle.query_printer.specs.Printable.{is_printable, nests_within, deepest}

pub printable_can : (q : Query) → is_printable q ≡ true → can_print q ≡ true
printable_can q c =
    let h = and_parts (is_kept q) (is_closed q && (are_fit (query_tokens q) && nests_within q)) c in
    (and_parts (can_print q)
    (is_empty_text q.element_default && (has_own_prefixes q && keeps_declarations q)) h.0).0

pub text_spells : (q : Query) (text : List ℕ) → is_printable q ≡ true
    → IsTextOf (query_tokens q) text → SpellsWithin deepest text q
text_spells q text c t =
    let h = and_parts (is_kept q) (is_closed q && (are_fit (query_tokens q) && nests_within q)) c in
    let i = and_parts (is_closed q) (are_fit (query_tokens q) && nests_within q) h.1 in
    let j = and_parts (are_fit (query_tokens q)) (nests_within q) i.1 in
    let n : query_nest_of q ≤ deepest = leb-true (query_nest_of q) deepest j.1 in
    subst (λ (x : List ℕ). SpellsWithin deepest x q) (sym t.same)
    (text_within deepest t.layout q t.spaced h.0 i.0 j.0 n)
