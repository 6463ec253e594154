-- What the tokens of a text are read as is what the text is read as.
use Rattle.std.proofs.Common.{◌≡◌, ◌≤◌, ℕ, Bool, true, false, cond, nat_le, List, Option, Some, None, Result, refl, sym, subst, ap, ◌∙◌, option_and_then}
use Rattle.std.proofs.lemmas.Bool.{le-leb, leb-true}
use Rattle.std.proofs.lemmas.Option.{same_Some}
use Rattle.xt_syntax.specs.declared.exprs.Expr.{Expr}
use Rattle.xt_syntax.specs.declared.prefixes.ParseFault.{ParseFault}
use Rattle.expr_keys.specs.declared.tokens.Token.{Token}
use Rattle.expr_terms.specs.declared.raws.Raw.{Raw}
use Rattle.expr_terms.specs.Nest.{raw_nest_of}
use Rattle.expr_keys.specs.declared.productions.Language.TheVariants.{Xpath as xpath}
use Rattle.expr_tokens.specs.Terms.{Written, terms_of}
use Rattle.expr_grammar.specs.Machine.{read_whole, read_type}
use Rattle.expr_grammar.proofs.Run.{spells_runs, runs_spells, spells_type_runs, runs_spells_type}
use Rattle.expr_reader.specs.declared.readings.Reading.{Reading}
use Rattle.expr_reader.specs.declared.readings.Reading.TheVariants as read
use Rattle.expr_reader.specs.Answers.{within}
use Rattle.expr_resolve.specs.declared.setting.Setting.{Setting}
use Rattle.expr_tokens.specs.TextTokens.Lexed.{lexed}
use Rattle.xpath_syntax.specs.Readings.{value, syntax, answer_of, reading_in, reading, Gives}
use Rattle.xpath_syntax.specs.Spelled as tokens
use Rattle.xpath_syntax.proofs.ReadingLemmas.{spelled_reads, reads_spelled, spells_once}
use Rattle.xpath_syntax.specs.ExprReadings.Readings.{terms_in, read_within, type_within, raw_reading, type_reading, expr_reading}
use Rattle.xpath_syntax.specs.ExprReadings.Spelled.{IsRead, IsTypeRead, Spells, SpellsWithin}

answer_in : (s : Setting) (k : ℕ) (o : Option (List Token)) → answer_of s (read_within k o) ≡ reading_in s k o
answer_in s k None = refl
answer_in s k (Some us) = refl

-- a text with these tokens is read as they are
pub read_tokens : (s : Setting) (k : ℕ) (text : List ℕ) (ts : List Written) → lexed text ≡ Some ts → expr_reading s k text ≡ reading s k ts
unfolding raw_reading
read_tokens s k text ts e = ap (λ o. answer_of s (read_within k (option_and_then terms_of o))) e ∙ answer_in s k (terms_of ts)

pub read_nothing : (s : Setting) (k : ℕ) (text : List ℕ) → lexed text ≡ None → expr_reading s k text ≡ syntax
unfolding raw_reading
read_nothing s k text e = ap (λ o. answer_of s (read_within k (option_and_then terms_of o))) e

pub gives_tokens : (s : Setting) (k : ℕ) (text : List ℕ) (ts : List Written) (r : Result Expr ParseFault) → Some ts ≡ lexed text → Gives r (reading s k ts) → Gives r (expr_reading s k text)
gives_tokens s k text ts r e g = subst (Gives r) (sym (read_tokens s k text ts (sym e))) g

pub gives_nothing : (s : Setting) (k : ℕ) (text : List ℕ) → None ≡ lexed text → expr_reading s k text ≡ syntax
gives_nothing s k text e = read_nothing s k text (sym e)

pub ruleset parsing = (gives_tokens, gives_nothing)

-- the tokens of the grammar
pub terms_some : (text : List ℕ) (ts : List Written) (o : Option (List Token)) → Some ts ≡ lexed text → o ≡ terms_of ts → o ≡ terms_in text
terms_some text ts o e f = f ∙ ap (option_and_then terms_of) e

pub terms_none : (text : List ℕ) → None ≡ lexed text → None ≡ terms_in text
terms_none text e = ap (option_and_then terms_of) e

pub ruleset terms_found = (terms_some, terms_none)

pub raw_some : (k : ℕ) (text : List ℕ) (us : List Token) (r : Reading) → Some us ≡ terms_in text → r ≡ within k (read_whole xpath us) → r ≡ raw_reading k text
unfolding raw_reading
raw_some k text us r e f = f ∙ ap (read_within k) e

pub raw_none : (k : ℕ) (text : List ℕ) → None ≡ terms_in text → read.Nothing ≡ raw_reading k text
unfolding raw_reading
raw_none k text e = ap (read_within k) e

pub type_some : (k : ℕ) (text : List ℕ) (us : List Token) (r : Reading) → Some us ≡ terms_in text → r ≡ within k (read_type xpath us) → r ≡ type_reading k text
unfolding type_reading
type_some k text us r e f = f ∙ ap (type_within k) e

pub type_none : (k : ℕ) (text : List ℕ) → None ≡ terms_in text → read.Nothing ≡ type_reading k text
unfolding type_reading
type_none k text e = ap (type_within k) e

pub ruleset raws = (raw_some, raw_none, type_some, type_none)

-- the laws
pub text_reads : (s : Setting) (k : ℕ) (text : List ℕ) (a : Expr) → SpellsWithin s k text a → expr_reading s k text ≡ value a
text_reads s k text a w = read_tokens s k text w.written w.are ∙ spelled_reads s k w.written a w.spelled

no_value : {P : Type 0} {a : Expr} → syntax ≡ value a → P
no_value e = cc

spelled_in : (s : Setting) (k : ℕ) (text : List ℕ) (a : Expr) (o : Option (List Written)) → lexed text ≡ o → expr_reading s k text ≡ value a → SpellsWithin s k text a
spelled_in s k text a None e f = no_value (sym (read_nothing s k text e) ∙ f)
spelled_in s k text a (Some ts) e f = record { written = ts; are = e; spelled = reads_spelled s k ts a (sym (read_tokens s k text ts e) ∙ f) }

pub text_spelled : (s : Setting) (k : ℕ) (text : List ℕ) (a : Expr) → expr_reading s k text ≡ value a → SpellsWithin s k text a
text_spelled s k text a f = spelled_in s k text a (lexed text) refl f

pub text_once : (s : Setting) (text : List ℕ) (a b : Expr) → Spells s text a → Spells s text b → a ≡ b
text_once s text a b x y =
    let same : x.written ≡ y.written = same_Some _ _ (sym x.are ∙ y.are) in
    spells_once s y.written a b (subst (λ ts. tokens.Spells s ts a) same x.spelled) y.spelled

-- what is read is what is spelled
pub read_value : (k : ℕ) (text : List ℕ) (raw : Raw) → IsRead text raw → raw_nest_of raw ≤ k → raw_reading k text ≡ read.Value raw
unfolding raw_reading
read_value k text raw w n =
    let t : terms_in text ≡ Some w.spelled.terms = ap (option_and_then terms_of) w.are ∙ w.spelled.are in
    let f : read_whole xpath w.spelled.terms ≡ Some raw = spells_runs w.spelled.spelled in
    let h : nat_le (raw_nest_of raw) k ≡ true = le-leb _ _ n in
    ap (read_within k) t ∙ ap (within k) f ∙ ap (λ b. cond b (read.Value raw) read.TooDeep) h

pub type_value : (k : ℕ) (text : List ℕ) (raw : Raw) → IsTypeRead text raw → raw_nest_of raw ≤ k → type_reading k text ≡ read.Value raw
unfolding type_reading
type_value k text raw w n =
    let t : terms_in text ≡ Some w.terms = ap (option_and_then terms_of) w.are ∙ w.so in
    let f : read_type xpath w.terms ≡ Some raw = spells_type_runs w.spelled in
    let h : nat_le (raw_nest_of raw) k ≡ true = le-leb _ _ n in
    ap (type_within k) t ∙ ap (within k) f ∙ ap (λ b. cond b (read.Value raw) read.TooDeep) h

-- a value, and that it is within the limit
record Kept (k : ℕ) (o : Option Raw) (raw : Raw) : Type 0 where
  is : o ≡ Some raw
  nests : raw_nest_of raw ≤ k

same_value : {v w : Raw} → read.Value v ≡ read.Value w → v ≡ w
same_value e = cc

kept_by : (k : ℕ) (v raw : Raw) (b : Bool) → nat_le (raw_nest_of v) k ≡ b → cond b (read.Value v) read.TooDeep ≡ read.Value raw → Kept k (Some v) raw
kept_by k v raw true e f =
    let same : v ≡ raw = same_value f in
    record { is = ap Some same; nests = subst (λ x. raw_nest_of x ≤ k) same (leb-true _ _ e) }
kept_by k v raw false e f = absurd cc

kept : (k : ℕ) (o : Option Raw) (raw : Raw) → within k o ≡ read.Value raw → Kept k o raw
kept k None raw f = absurd cc
kept k (Some v) raw f = kept_by k v raw (nat_le (raw_nest_of v) k) refl f

read_terms : (k : ℕ) (text : List ℕ) (raw : Raw) (ts : List Written) (o : Option (List Token)) → lexed text ≡ Some ts → terms_of ts ≡ o → read_within k o ≡ read.Value raw
    → IsRead text raw × (raw_nest_of raw ≤ k)
read_terms k text raw ts None e f g = absurd cc
read_terms k text raw ts (Some us) e f g =
    let w = kept k (read_whole xpath us) raw g in
    (record { written = ts; are = e; spelled = record { terms = us; are = f; spelled = runs_spells w.is } }, w.nests)

read_lexed : (k : ℕ) (text : List ℕ) (raw : Raw) (o : Option (List Written)) → lexed text ≡ o → read_within k (option_and_then terms_of o) ≡ read.Value raw
    → IsRead text raw × (raw_nest_of raw ≤ k)
read_lexed k text raw None e g = absurd cc
read_lexed k text raw (Some ts) e g = read_terms k text raw ts (terms_of ts) e refl g

pub value_read : (k : ℕ) (text : List ℕ) (raw : Raw) → raw_reading k text ≡ read.Value raw → IsRead text raw × (raw_nest_of raw ≤ k)
unfolding raw_reading
value_read k text raw g = read_lexed k text raw (lexed text) refl g

type_terms : (k : ℕ) (text : List ℕ) (raw : Raw) (ts : List Written) (o : Option (List Token)) → lexed text ≡ Some ts → terms_of ts ≡ o → type_within k o ≡ read.Value raw
    → IsTypeRead text raw × (raw_nest_of raw ≤ k)
type_terms k text raw ts None e f g = absurd cc
type_terms k text raw ts (Some us) e f g =
    let w = kept k (read_type xpath us) raw g in
    (record { written = ts; are = e; terms = us; so = f; spelled = runs_spells_type w.is }, w.nests)

type_lexed : (k : ℕ) (text : List ℕ) (raw : Raw) (o : Option (List Written)) → lexed text ≡ o → type_within k (option_and_then terms_of o) ≡ read.Value raw
    → IsTypeRead text raw × (raw_nest_of raw ≤ k)
type_lexed k text raw None e g = absurd cc
type_lexed k text raw (Some ts) e g = type_terms k text raw ts (terms_of ts) e refl g

pub value_type : (k : ℕ) (text : List ℕ) (raw : Raw) → type_reading k text ≡ read.Value raw → IsTypeRead text raw × (raw_nest_of raw ≤ k)
unfolding type_reading
value_type k text raw g = type_lexed k text raw (lexed text) refl g
