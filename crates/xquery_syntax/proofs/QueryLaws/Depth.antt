-- A query nests no deeper than its text has characters.
use Rattle.std.proofs.Common.{◌≡◌, ◌≤◌, ℕ, ◌+◌, max, List, [], ◌∷◌, ◌++◌, length, Bool, true, Option}
use Rattle.std.proofs.Common.{Some, None, refl, arith}
use Rattle.std.proofs.lemmas.Bool.{and_parts}
use Rattle.expr_length.specs.Weights.{weigh, weight}
use Rattle.expr_length.proofs.Weighted.{spelled_within, single_within}
use Rattle.expr_terms.specs.Nest.{raw_nest_of}
use Rattle.expr_terms.specs.declared.raws.Raw.{Raw}
use Rattle.expr_keys.specs.declared.tokens.Token.{Token}
use Rattle.piece_laws.proofs.Splitting.{splits_sound, splits_weight}
use Rattle.query_grammar.specs.Prolog.{Cut, here, there, IsBehind, short, outside, valued, defined}
use Rattle.query_grammar.specs.Prolog.{IsDeclaration, opened, IsQuery, body, declares, SpellsQuery}
use Rattle.query_grammar.specs.Prolog.{ordered}
use Rattle.query_grammar.specs.declared.declared.Declared.{Declared}
use Rattle.query_grammar.specs.declared.declared.Opening.{Opening}
use Rattle.query_grammar.specs.declared.declared.RawQuery.{RawQuery}
use Rattle.query_pieces.specs.Points.{start}
use Rattle.query_reader.specs.QuerySteps.Stands.{nest_in}
use Rattle.query_texts.specs.Texts.{SpellsText, spelled, declared_nest, query_nest}
use Rattle.sound_expressions.specs.SoundForms.Sound.{is_sound_token, are_sound}
use Rattle.xquery_syntax.proofs.QueryLaws.Told.{cut_sound, short_is}

cut_weight : {t : Token} {rest all us : List Token} → Cut t rest all us
    → weight us + weight rest ≤ weight all
cut_weight here = omega arith
cut_weight (there c) = let h = cut_weight c in omega (arith, h)

behind_nest : {o : Opening} {us : List Token} {d : Declared} → IsBehind o us d
    → are_sound us ≡ true → nest_in d ≤ weight us
behind_nest (short {o = o} {us = us} {d = d} e) h =
    let n = (short_is o us d h e).nest in omega (arith, n)
behind_nest (outside c t e) h = omega arith
behind_nest (valued {ts = ts} {w = w} c t d) h =
    let n : raw_nest_of w ≤ weight ts = single_within d in
    let a = cut_weight c in
    omega (arith, n, a)
behind_nest (defined {ts = ts} {w = w} c g e s) h =
    let n : raw_nest_of w ≤ weight ts = spelled_within s in
    let a = cut_weight c in
    let b = cut_weight e in
    omega (arith, n, a, b)

declaration_nest : {us : List Token} {d : Declared} → IsDeclaration us d → are_sound us ≡ true
    → nest_in d ≤ weight us
declaration_nest (opened {a = a} {b = b} {us = us} e q) h =
    let x = and_parts (is_sound_token a) (are_sound (b ∷ us)) h in
    let n = behind_nest q (and_parts (is_sound_token b) (are_sound us) x.1).1 in
    omega (arith, n)

query_within : {ts : List Token} {ds : List Declared} {v : Raw} → IsQuery ts ds v
    → are_sound ts ≡ true → max (declared_nest ds) (raw_nest_of v) ≤ weight ts
query_within (body s) h = let n = spelled_within s in omega (arith, n)
query_within (declares c d q) h =
    let r = cut_sound c h in
    let n = declaration_nest d r.0 in
    let m = query_within q r.1 in
    let a = cut_weight c in
    omega (arith, n, m, a)

spelled_nest : {ts : List Token} {raw : RawQuery} → SpellsQuery ts raw → are_sound ts ≡ true
    → query_nest raw ≤ weight ts
spelled_nest (ordered o q) h = query_within q h

pub text_nest : (text : List ℕ) (raw : RawQuery) → SpellsText text raw
    → query_nest raw ≤ length text
text_nest text raw (spelled {ts = ts} s q) =
    let n = spelled_nest q (splits_sound (start text) ts s) in
    let m : weight ts ≤ length text = splits_weight (start text) ts s in
    omega (arith, n, m)
