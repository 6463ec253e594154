-- The answer of the reading is the one that is right.
use Rattle.std.proofs.Common.{◌≡◌, ◌<◌, ℕ, Bool, true, false, nat_le, if◌then◌else◌, List}
use Rattle.std.proofs.Common.{Option, Some, None, Result, Ok, Err, refl, sym, subst, ◌∙◌}
use Rattle.std.proofs.lemmas.Bool.{leb-true, leb-false}
use Rattle.std.proofs.lemmas.Option.{none-some}
use Rattle.xt_syntax.specs.declared.queries.Query.{Query}
use Rattle.xt_syntax.specs.declared.prefixes.ParseFault.{ParseFault}
use Rattle.xt_syntax.specs.declared.prefixes.ParseFault.TheVariants.{Syntax, Static, TooDeep}
use Rattle.xt_syntax.specs.declared.prefixes.ParseFault.TheVariants.{Memory}
use Rattle.query_grammar.specs.declared.declared.RawQuery.{RawQuery}
use Rattle.query_texts.specs.Texts.{SpellsText, query_nest}
use Rattle.query_texts.specs.declared.readings.QueryReading.TheVariants as reading
use Rattle.xquery_syntax.specs.Answers.{Answer, value, syntax, static, too_deep, answer}
use Rattle.xquery_syntax.specs.Answers.{Gives}
use Rattle.xquery_syntax.specs.Spelled.{Parsed, IsSettled}
use Rattle.xquery_syntax.proofs.ParsedLemmas.{parsed_answer, parsed_nothing, parsed_deep, result_of}
use Rattle.xquery_syntax.proofs.ParsedLemmas.{answered_once}
use Rattle.query_readings.specs.Readings.{raw_query, answer_in, query_reading}
use Rattle.query_readings.proofs.WrittenLemmas.{read_spelled, spelled_read}

-- from the reading to the relation
by_syntax : (k : ℕ) (text : List ℕ) (r : Result Query ParseFault)
    → ((raw : RawQuery) → SpellsText text raw → ⊥) → Gives r syntax → Parsed r k text
by_syntax k text (Ok q) h g = absurd cc
by_syntax k text (Err Syntax) h g = parsed_nothing k text h
by_syntax k text (Err (Static c)) h g = absurd cc
by_syntax k text (Err TooDeep) h g = absurd cc
by_syntax k text (Err (Memory e)) h g = tt

by_deep : (k : ℕ) (text : List ℕ) (raw : RawQuery) (r : Result Query ParseFault)
    → SpellsText text raw → k < query_nest raw → Gives r too_deep → Parsed r k text
by_deep k text raw (Ok q) s n g = absurd cc
by_deep k text raw (Err Syntax) s n g = absurd cc
by_deep k text raw (Err (Static c)) s n g = absurd cc
by_deep k text raw (Err TooDeep) s n g = parsed_deep k text reading.TooDeep refl (raw, (s, n))
by_deep k text raw (Err (Memory e)) s n g = tt

by_nest : (k : ℕ) (text : List ℕ) (raw : RawQuery) (r : Result Query ParseFault)
    → SpellsText text raw → (b : Bool) → nat_le (query_nest raw) k ≡ b
    → Gives r (if b then answer raw else too_deep) → Parsed r k text
by_nest k text raw r s true e g =
    parsed_answer k text raw r (reading.Value raw) refl (s, leb-true _ _ e) g
by_nest k text raw r s false e g = by_deep k text raw r s (leb-false _ _ e) g

not_spelled : (text : List ℕ) → raw_query text ≡ None → (raw : RawQuery) → SpellsText text raw → ⊥
not_spelled text e raw s = none-some raw (sym e ∙ spelled_read text raw s)

by_query : (k : ℕ) (text : List ℕ) (r : Result Query ParseFault) (o : Option RawQuery)
    → raw_query text ≡ o → Gives r (answer_in k o) → Parsed r k text
by_query k text r None e g = by_syntax k text r (not_spelled text e) g
by_query k text r (Some raw) e g =
    by_nest k text raw r (read_spelled text raw e) (nat_le (query_nest raw) k) refl g

pub gives_parsed : (k : ℕ) (text : List ℕ) (r : Result Query ParseFault)
    → Gives r (query_reading k text) → Parsed r k text
gives_parsed k text r g = by_query k text r (raw_query text) refl g

gives_itself : (a : Answer) → Gives (result_of a) a
gives_itself (value q) = refl
gives_itself syntax = refl
gives_itself (static c) = refl
gives_itself too_deep = refl

is_settled : (a : Answer) → IsSettled (result_of a)
is_settled (value q) = tt
is_settled syntax = tt
is_settled (static c) = tt
is_settled too_deep = tt

same_gives : (k : ℕ) (text : List ℕ) (a : Answer) (r : Result Query ParseFault) → IsSettled r
    → Parsed r k text → Parsed (result_of a) k text → Gives r a
same_gives k text a r s x y =
    let same : r ≡ result_of a = answered_once k text r (result_of a) x y s (is_settled a) in
    subst (λ z. Gives z a) (sym same) (gives_itself a)

given : (k : ℕ) (text : List ℕ) (a : Answer) (r : Result Query ParseFault)
    → Parsed r k text → Parsed (result_of a) k text → Gives r a
given k text a (Ok q) x y = same_gives k text a (Ok q) tt x y
given k text a (Err Syntax) x y = same_gives k text a (Err Syntax) tt x y
given k text a (Err (Static c)) x y = same_gives k text a (Err (Static c)) tt x y
given k text a (Err TooDeep) x y = same_gives k text a (Err TooDeep) tt x y
given k text a (Err (Memory e)) x y = tt

pub parsed_gives : (k : ℕ) (text : List ℕ) (r : Result Query ParseFault) → Parsed r k text
    → Gives r (query_reading k text)
parsed_gives k text r x =
    given k text (query_reading k text) r x
    (gives_parsed k text (result_of (query_reading k text)) (gives_itself (query_reading k text)))

pub ruleset parsing = (parsed_gives)
