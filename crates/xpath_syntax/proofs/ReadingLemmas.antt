-- What the reading says of the tokens.
use Rattle.std.proofs.Common.{◌≡◌, ◌≤◌, ◌<◌, ℕ, Bool, true, false, cond, nat_le, List, [], ◌∷◌, ◌++◌, Option, Some, None, Result, Ok, Err, refl, sym, subst, ap, ◌∙◌, ◌+◌, length, option_map, option_and_then, arith}
use Rattle.std.proofs.lemmas.Bool.{le-leb, leb-true, leb-false}
use Rattle.std.proofs.lemmas.Option.{none-some, same_Some}
use Rattle.xt_names.specs.declared.codes.Code.{Code}
use Rattle.xt_syntax.specs.declared.exprs.Expr.{Expr}
use Rattle.xt_syntax.specs.declared.prefixes.ParseFault.{ParseFault}
use Rattle.xt_syntax.specs.declared.prefixes.ParseFault.TheVariants.{Syntax, Static, TooDeep, Memory}
use Rattle.expr_keys.specs.declared.tokens.Token.{Token}
use Rattle.expr_terms.specs.declared.raws.Raw.{Raw}
use Rattle.expr_keys.specs.declared.productions.Language.TheVariants.{Xpath as xpath}
use Rattle.expr_terms.specs.Nest.{raw_nest_of}
use Rattle.expr_tokens.specs.Terms.{Written, term_of, terms_of}
use Rattle.expr_length.proofs.Within.{spelled_within}
use Rattle.expr_grammar.specs.Machine.{read_whole}
use Rattle.expr_grammar.proofs.Run.{runs_spells, spells_runs}
use Rattle.expr_reader.specs.declared.readings.Reading.TheVariants as read
use Rattle.expr_reader.specs.Answers.{within}
use Rattle.expr_names.specs.Answers.{first}
use Rattle.expr_resolve.specs.declared.setting.Setting.{Setting}
use Rattle.expr_resolve.specs.Folds.{broken_of, expr_meant}
use Rattle.xpath_syntax.specs.Readings.{value, syntax, static, too_deep, value_or, resolved, answer_of, reading_in, reading, Gives}
use Rattle.xpath_syntax.specs.Spelled.{IsWritten, Spells, SpellsWithin, Breaks, IsTooDeep, Parsed}

pub resolved-none : (s : Setting) (raw : Raw) (e : Expr) → broken_of s raw ≡ [] → e ≡ expr_meant s raw → resolved s raw ≡ value e
resolved-none s raw e b m = rw b (ap value (sym m))

pub resolved-some : (s : Setting) (raw : Raw) (c : Code) → first (broken_of s raw) ≡ Some c → resolved s raw ≡ static c
resolved-some s raw c b = rw b refl

pub ruleset resolving = (resolved-none, resolved-some)

none_broken : (cs : List Code) → first cs ≡ None → cs ≡ []
none_broken [] e = refl
none_broken (c ∷ cs) e = absurd cc

written : (ts : List Written) (us : List Token) (raw : Raw) → terms_of ts ≡ Some us → read_whole xpath us ≡ Some raw → IsWritten ts raw
written ts us raw e f = record { terms = us; are = e; spelled = runs_spells f }

-- .. what is written is what is read
pub only_one : (ts : List Written) (us : List Token) (raw : Raw) → terms_of ts ≡ Some us → IsWritten ts raw → read_whole xpath us ≡ Some raw
only_one ts us raw e w =
    let same : us ≡ w.terms = same_Some _ _ (sym e ∙ w.are) in
    rw same (spells_runs w.spelled)

not_written : (ts : List Written) → terms_of ts ≡ None → (raw : Raw) → IsWritten ts raw → ⊥
not_written ts e raw w = none-some _ (sym e ∙ w.are)

not_read : (ts : List Written) (us : List Token) → terms_of ts ≡ Some us → read_whole xpath us ≡ None → (raw : Raw) → IsWritten ts raw → ⊥
not_read ts us e f raw w = none-some _ (sym f ∙ only_one ts us raw e w)

-- each token of a text is one of the grammar
one_longer : {A : Type 0} (x : A) (o : Option (List A)) (us : List A) → option_map (λ xs. x ∷ xs) o ≡ Some us → (xs : List A) × ((o ≡ Some xs) × (length us ≡ 1 + length xs))
one_longer x None us e = absurd (none-some _ e)
one_longer x (Some xs) us e = let l : length us ≡ length (x ∷ xs) = ap length (sym (same_Some _ _ e)) in (xs, (refl, omega arith))

pub terms_length : (ts : List Written) (us : List Token) → terms_of ts ≡ Some us → length us ≡ length ts
unfolding terms_of
terms_length [] us e = ap length (sym (same_Some _ _ e))
terms_length (t ∷ ts) us e = let g : length us ≡ 1 + length ts = go (term_of t.kind t.characters) e (λ xs f. terms_length ts xs f) in omega arith
  where
    go : (o : Option Token) → option_and_then (λ u. option_map (λ us. u ∷ us) (terms_of ts)) o ≡ Some us → ((xs : List Token) → terms_of ts ≡ Some xs → length xs ≡ length ts) → length us ≡ 1 + length ts
    go None e rec = absurd (none-some _ e)
    go (Some u) e rec =
        let m = one_longer u (terms_of ts) us e in
        let a : length us ≡ 1 + length m.0 = m.1.1 in
        let b : length m.0 ≡ length ts = rec m.0 m.1.0 in
        omega arith

too_deep_text : (k : ℕ) (ts : List Written) (raw : Raw) → IsWritten ts raw → k < raw_nest_of raw → IsTooDeep k ts
too_deep_text k ts raw w n =
    let a : raw_nest_of raw ≤ 1 + length w.terms = spelled_within w.spelled in
    let b : length w.terms ≡ length ts = terms_length ts w.terms w.are in
    record { raw = raw; is_written = w; nests = n; long = omega arith }

-- an answer by the case that it is
parsed_syntax : (s : Setting) (k : ℕ) (ts : List Written) (r : Result Expr ParseFault) → ((raw : Raw) → IsWritten ts raw → ⊥) → Gives r syntax → Parsed r s k ts
parsed_syntax s k ts (Ok e) h g = absurd cc
parsed_syntax s k ts (Err Syntax) h g = h
parsed_syntax s k ts (Err (Static c)) h g = absurd cc
parsed_syntax s k ts (Err TooDeep) h g = absurd cc
parsed_syntax s k ts (Err (Memory e)) h g = tt

parsed_deep : (s : Setting) (k : ℕ) (ts : List Written) (r : Result Expr ParseFault) → IsTooDeep k ts → Gives r too_deep → Parsed r s k ts
parsed_deep s k ts (Ok e) h g = absurd cc
parsed_deep s k ts (Err Syntax) h g = absurd cc
parsed_deep s k ts (Err (Static c)) h g = absurd cc
parsed_deep s k ts (Err TooDeep) h g = h
parsed_deep s k ts (Err (Memory e)) h g = tt

same_value : {a b : Expr} → value a ≡ value b → a ≡ b
same_value e = cc

same_static : {a b : Code} → static a ≡ static b → a ≡ b
same_static e = cc

parsed_value : (s : Setting) (k : ℕ) (ts : List Written) (raw : Raw) (r : Result Expr ParseFault) → IsWritten ts raw → raw_nest_of raw ≤ k → broken_of s raw ≡ [] → Gives r (value (expr_meant s raw)) → Parsed r s k ts
parsed_value s k ts raw (Ok e) w n b g = record { raw = raw; is_written = w; nests = n; unbroken = b; means = sym (same_value g) }
parsed_value s k ts raw (Err Syntax) w n b g = absurd cc
parsed_value s k ts raw (Err (Static c)) w n b g = absurd cc
parsed_value s k ts raw (Err TooDeep) w n b g = absurd cc
parsed_value s k ts raw (Err (Memory e)) w n b g = tt

parsed_static : (s : Setting) (k : ℕ) (ts : List Written) (raw : Raw) (d : Code) (r : Result Expr ParseFault) → IsWritten ts raw → raw_nest_of raw ≤ k → first (broken_of s raw) ≡ Some d → Gives r (static d) → Parsed r s k ts
parsed_static s k ts raw d (Ok e) w n b g = absurd cc
parsed_static s k ts raw d (Err Syntax) w n b g = absurd cc
parsed_static s k ts raw d (Err (Static c)) w n b g = record { raw = raw; is_written = w; nests = n; broken = b ∙ ap Some (same_static g) }
parsed_static s k ts raw d (Err TooDeep) w n b g = absurd cc
parsed_static s k ts raw d (Err (Memory e)) w n b g = tt

parsed_resolved : (s : Setting) (k : ℕ) (ts : List Written) (raw : Raw) (r : Result Expr ParseFault) → IsWritten ts raw → raw_nest_of raw ≤ k → (o : Option Code) → first (broken_of s raw) ≡ o → Gives r (value_or o (expr_meant s raw)) → Parsed r s k ts
parsed_resolved s k ts raw r w n None b g = parsed_value s k ts raw r w n (none_broken _ b) g
parsed_resolved s k ts raw r w n (Some c) b g = parsed_static s k ts raw c r w n b g

parsed_within : (s : Setting) (k : ℕ) (ts : List Written) (raw : Raw) (r : Result Expr ParseFault) → IsWritten ts raw → (b : Bool) → nat_le (raw_nest_of raw) k ≡ b → Gives r (answer_of s (cond b (read.Value raw) read.TooDeep)) → Parsed r s k ts
parsed_within s k ts raw r w true e g = parsed_resolved s k ts raw r w (leb-true _ _ e) (first (broken_of s raw)) refl g
parsed_within s k ts raw r w false e g = parsed_deep s k ts r (too_deep_text k ts raw w (leb-false _ _ e)) g

parsed_read : (s : Setting) (k : ℕ) (ts : List Written) (us : List Token) (r : Result Expr ParseFault) → terms_of ts ≡ Some us → (o : Option Raw) → read_whole xpath us ≡ o → Gives r (answer_of s (within k o)) → Parsed r s k ts
parsed_read s k ts us r e None f g = parsed_syntax s k ts r (not_read ts us e f) g
parsed_read s k ts us r e (Some raw) f g = parsed_within s k ts raw r (written ts us raw e f) (nat_le (raw_nest_of raw) k) refl g

parsed_terms : (s : Setting) (k : ℕ) (ts : List Written) (r : Result Expr ParseFault) (o : Option (List Token)) → terms_of ts ≡ o → Gives r (reading_in s k o) → Parsed r s k ts
parsed_terms s k ts r None e g = parsed_syntax s k ts r (not_written ts e) g
parsed_terms s k ts r (Some us) e g = parsed_read s k ts us r e (read_whole xpath us) refl g

pub parsed : (s : Setting) (k : ℕ) (ts : List Written) (r : Result Expr ParseFault) → Gives r (reading s k ts) → Parsed r s k ts
parsed s k ts r g = parsed_terms s k ts r (terms_of ts) refl g

pub reads : (s : Setting) (k : ℕ) (ts : List Written) (r : Result Expr ParseFault) (o : Option (List Token)) → o ≡ terms_of ts → Gives r (reading_in s k o) → Gives r (reading s k ts)
reads s k ts r o e g = subst (λ x. Gives r (reading_in s k x)) e g

pub ruleset answers = (parsed, reads)

-- the laws
read_written : (s : Setting) (k : ℕ) (ts : List Written) (raw : Raw) → IsWritten ts raw → raw_nest_of raw ≤ k → reading s k ts ≡ resolved s raw
read_written s k ts raw w n =
    let f : read_whole xpath w.terms ≡ Some raw = spells_runs w.spelled in
    let h : nat_le (raw_nest_of raw) k ≡ true = le-leb _ _ n in
    ap (reading_in s k) w.are ∙ ap (λ o. answer_of s (within k o)) f ∙ ap (λ b. answer_of s (cond b (read.Value raw) read.TooDeep)) h

pub spelled_reads : (s : Setting) (k : ℕ) (ts : List Written) (a : Expr) → SpellsWithin s k ts a → reading s k ts ≡ value a
spelled_reads s k ts a w = read_written s k ts w.raw w.is_written w.nests ∙ resolved-none s w.raw a w.unbroken w.means

pub reads_spelled : (s : Setting) (k : ℕ) (ts : List Written) (a : Expr) → reading s k ts ≡ value a → SpellsWithin s k ts a
reads_spelled s k ts a e = parsed s k ts (Ok a) e

same_raw : (ts : List Written) (v w : Raw) → IsWritten ts v → IsWritten ts w → v ≡ w
same_raw ts v w a b =
    let f : read_whole xpath a.terms ≡ Some v = spells_runs a.spelled in
    let g : read_whole xpath a.terms ≡ Some w = only_one ts a.terms w a.are b in
    same_Some _ _ (sym f ∙ g)

pub spells_once : (s : Setting) (ts : List Written) (a b : Expr) → Spells s ts a → Spells s ts b → a ≡ b
spells_once s ts a b x y = x.means ∙ ap (expr_meant s) (same_raw ts x.raw y.raw x.is_written y.is_written) ∙ sym y.means

nothing_in : (before behind : List Code) (c : Code) → [] ≡ before ++ c ∷ behind → ⊥
nothing_in [] behind c e = absurd cc
nothing_in (d ∷ before) behind c e = absurd cc

pub spells_unbroken : (s : Setting) (ts : List Written) (a : Expr) (c : Code) → Spells s ts a → Breaks s ts c → ⊥
spells_unbroken s ts a c x y = nothing_in y.before y.behind c (sym x.unbroken ∙ ap (broken_of s) (same_raw ts x.raw y.raw x.is_written y.is_written) ∙ y.broken)
