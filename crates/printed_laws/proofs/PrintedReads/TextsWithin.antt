-- The text of a query that is printed spells it within each limit that it is within.
use Rattle.std.proofs.Common.{◌≡◌, ◌≤◌, ℕ, true, ◌&&◌, arith}
use Rattle.std.proofs.lemmas.Bool.{and_parts}
use Rattle.xt_names.specs.Allowed.{is_empty_text}
use Rattle.xt_syntax.specs.declared.queries.Query.{Query}
use Rattle.closed_queries.specs.Closed.{is_closed}
use Rattle.query_pages.specs.TokenTexts.Texts.{Layout, IsLayout, text_of}
use Rattle.query_pages.proofs.TokenTexts.Split.{text_splits}
use Rattle.token_laws.specs.WrittenTokens.Fit.{are_fit}
use Rattle.query_texts.specs.Texts.{spelled, query_nest}
use Rattle.xquery_syntax.specs.Spelled.{SpellsWithin}
use Rattle.printed_laws.specs.QueryRaws.Queries.{raw_query, query_tokens, can_print}
use Rattle.printed_laws.proofs.QueryRaws.Spell.{query_spelled}
use Rattle.printed_laws.specs.PrintedQueries.Keeps.{has_own_prefixes, keeps_declarations, is_kept}
use Rattle.printed_laws.proofs.PrintedQueries.Queries.{query_means}
use Rattle.printed_laws.proofs.PrintedTexts.Written.{query_written}
use Rattle.printed_laws.proofs.PrintedTexts.Shaped.{query_shaped}
use Rattle.printed_laws.specs.PrintedReads.Nests.{query_nest_of}
use Rattle.printed_laws.proofs.PrintedReads.Nested.{query_within}

pub text_within : (k : ℕ) (g : Layout) (q : Query) → IsLayout g → is_kept q ≡ true
    → is_closed q ≡ true → are_fit (query_tokens q) ≡ true → query_nest_of q ≤ k
    → SpellsWithin k (text_of g (query_tokens q)) q
text_within k g q l c d f n =
    let h = and_parts (can_print q)
    (is_empty_text q.element_default && (has_own_prefixes q && keeps_declarations q)) c in
    let m : query_nest (raw_query q) ≤ query_nest_of q = query_within q h.0 in
    record {
      raw = raw_query q;
      is_written = record {
        spelled = spelled (text_splits g l (query_tokens q) (query_written q h.0 f))
            (query_spelled q h.0);
        shaped = query_shaped q h.0 d;
      };
      nests = omega arith;
      means = query_means q c;
      closed = d;
    }
