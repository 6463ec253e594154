-- What the answer says of the text, and that no other one is right.
use Rattle.std.proofs.Common.{◌≡◌, ◌≤◌, ◌<◌, ℕ, Bool, true, false, if◌then◌else◌, List, [], ◌∷◌, Option}
use Rattle.std.proofs.Common.{Some, None, Result, Ok, Err, refl, sym, ap, subst, ◌∙◌, arith}
use Rattle.std.proofs.lemmas.Bool.{le-leb, lt-leb}
use Rattle.xt_names.specs.declared.codes.Code.{Code}
use Rattle.xt_syntax.specs.declared.queries.Query.{Query}
use Rattle.xt_syntax.specs.declared.prefixes.ParseFault.{ParseFault}
use Rattle.xt_syntax.specs.declared.prefixes.ParseFault.TheVariants.{Syntax, Static, TooDeep}
use Rattle.xt_syntax.specs.declared.prefixes.ParseFault.TheVariants.{Memory}
use Rattle.closed_queries.specs.Closed.{is_closed}
use Rattle.expr_names.specs.Answers.{first}
use Rattle.query_grammar.specs.declared.declared.RawQuery.{RawQuery}
use Rattle.query_texts.specs.Texts.{SpellsText, query_nest, ReadAs}
use Rattle.query_texts.specs.declared.readings.QueryReading.{QueryReading}
use Rattle.query_texts.specs.declared.readings.QueryReading.TheVariants as reading
use Rattle.query_texts.proofs.OneLemmas.{text_one}
use Rattle.query_resolve.specs.Meaning.{Meant}
use Rattle.query_resolve.specs.Queries.{rules_broken, query_meant, resolved, value_or}
use Rattle.query_resolve.specs.Queries as meaning
use Rattle.query_resolve.proofs.MeaningLemmas.{meant_resolved, resolved_meant, means_one}
use Rattle.xquery_syntax.specs.QueryLaws.Shapes.{is_shaped_query}
use Rattle.xquery_syntax.proofs.QueryLaws.Closed.{text_closed}
use Rattle.xquery_syntax.proofs.QueryLaws.Depth.{text_nest}
use Rattle.xquery_syntax.specs.Answers.{Answer, value, syntax, static, too_deep}
use Rattle.xquery_syntax.specs.Answers.{meant_answer, answer, answer_within, Gives}
use Rattle.xquery_syntax.specs.Spelled.{IsWritten, Spells, SpellsWithin, BreaksFirst, Misspelt}
use Rattle.xquery_syntax.specs.Spelled.{unwritten, misshapen, Parsed, IsSettled}

-- an answer by the case that it is
parsed_syntax : (k : ℕ) (text : List ℕ) (r : Result Query ParseFault) → Misspelt k text
    → Gives r syntax → Parsed r k text
parsed_syntax k text (Ok q) m g = absurd cc
parsed_syntax k text (Err Syntax) m g = m
parsed_syntax k text (Err (Static c)) m g = absurd cc
parsed_syntax k text (Err TooDeep) m g = absurd cc
parsed_syntax k text (Err (Memory e)) m g = tt

same_value : {a b : Query} → value a ≡ value b → a ≡ b
same_value e = cc

same_static : {a b : Code} → static a ≡ static b → a ≡ b
same_static e = cc

parsed_value : (k : ℕ) (text : List ℕ) (q : Query) (r : Result Query ParseFault)
    → SpellsWithin k text q → Gives r (value q) → Parsed r k text
parsed_value k text q (Ok p) m g = subst (SpellsWithin k text) (same_value g) m
parsed_value k text q (Err Syntax) m g = absurd cc
parsed_value k text q (Err (Static c)) m g = absurd cc
parsed_value k text q (Err TooDeep) m g = absurd cc
parsed_value k text q (Err (Memory e)) m g = tt

parsed_static : (k : ℕ) (text : List ℕ) (d : Code) (r : Result Query ParseFault)
    → BreaksFirst k text d → Gives r (static d) → Parsed r k text
parsed_static k text d (Ok p) m g = absurd cc
parsed_static k text d (Err Syntax) m g = absurd cc
parsed_static k text d (Err (Static c)) m g = subst (BreaksFirst k text) (same_static g) m
parsed_static k text d (Err TooDeep) m g = absurd cc
parsed_static k text d (Err (Memory e)) m g = tt

first_static : (o : Option Code) (q : Query) (c : Code) → value_or o q ≡ meaning.static c
    → o ≡ Some c
first_static None q c e = absurd cc
first_static (Some d) q c e = cc

-- a query that is meant breaks no rule, and so is closed
none_first : (cs : List Code) (p q : Query) → value_or (first cs) p ≡ meaning.value q
    → (cs ≡ []) × (p ≡ q)
none_first [] p q e = (refl, cc)
none_first (c ∷ cs) p q e = absurd cc

meant_closed : (text : List ℕ) (raw : RawQuery) (q : Query) → IsWritten text raw
    → resolved raw ≡ meaning.value q → is_closed q ≡ true
meant_closed text raw q w e =
    let n = none_first (rules_broken raw) (query_meant raw) q e in
    subst (λ (p : Query). is_closed p ≡ true) n.1 (text_closed text raw w.spelled w.shaped n.0)

parsed_meant : (k : ℕ) (text : List ℕ) (raw : RawQuery) (r : Result Query ParseFault)
    → IsWritten text raw → query_nest raw ≤ k → (a : meaning.Answer) → resolved raw ≡ a
    → Gives r (meant_answer a) → Parsed r k text
parsed_meant k text raw r w n (meaning.value q) e g =
    parsed_value k text q r (record {
      raw = raw;
      is_written = w;
      nests = n;
      means = resolved_meant raw q e;
      closed = meant_closed text raw q w e;
    }) g
parsed_meant k text raw r w n (meaning.static c) e g =
    parsed_static k text c r (record {
      raw = raw;
      is_written = w;
      nests = n;
      broken = first_static (first (rules_broken raw)) (query_meant raw) c e;
    }) g

parsed_shape : (k : ℕ) (text : List ℕ) (raw : RawQuery) (r : Result Query ParseFault)
    → SpellsText text raw → query_nest raw ≤ k → (b : Bool) → is_shaped_query raw ≡ b
    → Gives r (if b then meant_answer (resolved raw) else syntax) → Parsed r k text
parsed_shape k text raw r s n true e g =
    parsed_meant k text raw r (record { spelled = s; shaped = e }) n (resolved raw) refl g
parsed_shape k text raw r s n false e g = parsed_syntax k text r (misshapen raw s n e) g

pub parsed_answer : (k : ℕ) (text : List ℕ) (raw : RawQuery) (r : Result Query ParseFault)
    (f : QueryReading) → f ≡ reading.Value raw → ReadAs text k f → Gives r (answer raw)
    → Parsed r k text
parsed_answer k text raw r f e h g =
    let m = rw e at h in parsed_shape k text raw r m.0 m.1 (is_shaped_query raw) refl g

pub parsed_nothing : (k : ℕ) (text : List ℕ) → ReadAs text k reading.Nothing
    → Parsed (Err Syntax) k text
parsed_nothing k text h = unwritten h

pub parsed_deep : (k : ℕ) (text : List ℕ) (f : QueryReading) → f ≡ reading.TooDeep → ReadAs text k f
    → Parsed (Err TooDeep) k text
parsed_deep k text f e h =
    let m = rw e at h in
    let n = text_nest text m.0 m.1.0 in
    let d = m.1.1 in
    record { raw = m.0; spelled = m.1.0; nests = d; long = omega (arith, n, d) }

pub ruleset parsing = (parsed_answer, parsed_nothing, parsed_deep)

-- a text spells one query
pub spelled_once : (text : List ℕ) (a b : Query) → Spells text a → Spells text b → a ≡ b
spelled_once text a b x y =
    let same : x.raw ≡ y.raw =
    text_one text x.raw y.raw x.is_written.spelled y.is_written.spelled in
    means_one y.raw a b (subst (λ (raw : RawQuery). Meant raw a) same x.means) y.means

-- what is said of a text is what the query gives that it spells
within_is : (k : ℕ) (raw : RawQuery) → query_nest raw ≤ k → answer_within k raw ≡ answer raw
within_is k raw n = rw (le-leb _ _ n) refl

deep_is : (k : ℕ) (raw : RawQuery) → k < query_nest raw → answer_within k raw ≡ too_deep
deep_is k raw n = rw (lt-leb _ _ n) refl

shaped_is : (raw : RawQuery) → is_shaped_query raw ≡ true
    → answer raw ≡ meant_answer (resolved raw)
shaped_is raw e = rw e refl

meant_is : (raw : RawQuery) (q : Query) → is_shaped_query raw ≡ true → Meant raw q
    → answer raw ≡ value q
meant_is raw q e m = shaped_is raw e ∙ ap meant_answer (meant_resolved raw q m)

broken_is : (raw : RawQuery) (c : Code) → first (rules_broken raw) ≡ Some c
    → meant_answer (resolved raw) ≡ static c
broken_is raw c e = rw e refl

misshapen_is : (raw : RawQuery) → is_shaped_query raw ≡ false → answer raw ≡ syntax
misshapen_is raw e = rw e refl

-- .. whichever of its raw values is taken
spelled_is : (k : ℕ) (text : List ℕ) (raw other : RawQuery) (a : Answer) → SpellsText text raw
    → SpellsText text other → answer_within k other ≡ a → answer_within k raw ≡ a
spelled_is k text raw other a s t e = ap (answer_within k) (text_one text raw other s t) ∙ e

misspelt_is : (k : ℕ) (text : List ℕ) (raw : RawQuery) → SpellsText text raw → Misspelt k text
    → answer_within k raw ≡ syntax
misspelt_is k text raw s (unwritten h) = absurd (h raw s)
misspelt_is k text raw s (misshapen other t n e) =
    spelled_is k text raw other _ s t (within_is k other n ∙ misshapen_is other e)

gives_within : (k : ℕ) (text : List ℕ) (raw : RawQuery) (r : Result Query ParseFault)
    → SpellsText text raw → Parsed r k text → Gives r (answer_within k raw)
gives_within k text raw (Ok q) s x =
    spelled_is k text raw x.raw _ s x.is_written.spelled (within_is k x.raw x.nests
    ∙ meant_is x.raw q x.is_written.shaped x.means)
gives_within k text raw (Err Syntax) s x = misspelt_is k text raw s x
gives_within k text raw (Err (Static c)) s x =
    spelled_is k text raw x.raw _ s x.is_written.spelled (within_is k x.raw x.nests
    ∙ shaped_is x.raw x.is_written.shaped ∙ broken_is x.raw c x.broken)
gives_within k text raw (Err TooDeep) s x =
    spelled_is k text raw x.raw _ s x.spelled (deep_is k x.raw x.nests)
gives_within k text raw (Err (Memory e)) s x = tt

-- the call that gives an answer
abbrev pub result_of : Answer → Result Query ParseFault
result_of (value q) = Ok q
result_of syntax = Err Syntax
result_of (static c) = Err (Static c)
result_of too_deep = Err TooDeep

gives_is : (r : Result Query ParseFault) (a : Answer) → IsSettled r → Gives r a → r ≡ result_of a
gives_is (Ok q) a s g = rw g refl
gives_is (Err Syntax) a s g = rw g refl
gives_is (Err (Static c)) a s g = rw g refl
gives_is (Err TooDeep) a s g = rw g refl
gives_is (Err (Memory e)) a s g = absurd s

same_by : (k : ℕ) (text : List ℕ) (raw : RawQuery) (a b : Result Query ParseFault)
    → SpellsText text raw → Parsed a k text → Parsed b k text → IsSettled a → IsSettled b → a ≡ b
same_by k text raw a b s x y p q =
    let e = gives_is a (answer_within k raw) p (gives_within k text raw a s x) in
    let f = gives_is b (answer_within k raw) q (gives_within k text raw b s y) in
    e ∙ sym f

-- where nothing is spelled
nothing_is : (k : ℕ) (text : List ℕ) (r : Result Query ParseFault)
    → ((raw : RawQuery) → SpellsText text raw → ⊥) → Parsed r k text → IsSettled r → Err Syntax ≡ r
nothing_is k text (Ok q) h x p = absurd (h x.raw x.is_written.spelled)
nothing_is k text (Err Syntax) h x p = refl
nothing_is k text (Err (Static c)) h x p = absurd (h x.raw x.is_written.spelled)
nothing_is k text (Err TooDeep) h x p = absurd (h x.raw x.spelled)
nothing_is k text (Err (Memory e)) h x p = absurd p

same_misspelt : (k : ℕ) (text : List ℕ) (b : Result Query ParseFault) → Misspelt k text
    → Parsed b k text → IsSettled b → Err Syntax ≡ b
same_misspelt k text b (unwritten h) y q = nothing_is k text b h y q
same_misspelt k text b (misshapen raw s n e) y q =
    same_by k text raw (Err Syntax) b s (misshapen raw s n e) y tt q

pub answered_once : (k : ℕ) (text : List ℕ) (a b : Result Query ParseFault) → Parsed a k text
    → Parsed b k text → IsSettled a → IsSettled b → a ≡ b
answered_once k text (Ok v) b x y p q = same_by k text x.raw (Ok v) b x.is_written.spelled x y p q
answered_once k text (Err Syntax) b x y p q = same_misspelt k text b x y q
answered_once k text (Err (Static c)) b x y p q =
    same_by k text x.raw (Err (Static c)) b x.is_written.spelled x y p q
answered_once k text (Err TooDeep) b x y p q =
    same_by k text x.raw (Err TooDeep) b x.spelled x y p q
answered_once k text (Err (Memory e)) b x y p q = absurd p
