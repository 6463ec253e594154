-- The tokens of a text are those that the function gives.
use Rattle.std.proofs.Common.{◌≡◌, ℕ, List, length, Option, Some, None, Result, Ok, Err, sym, ap, subst, ◌∙◌}
use Rattle.std.specs.Str.{chars, IsUtf8}
use Rattle.xt_syntax.specs.declared.patterns.Pattern.{Pattern}
use Rattle.xt_syntax.specs.declared.prefixes.ParseFault.{ParseFault}
use Rattle.xt_syntax.specs.declared.prefixes.ParseFault.TheVariants.{Syntax, Static, TooDeep, Memory}
use Rattle.expr_tokens.specs.Terms.{Written}
use Rattle.expr_resolve.specs.declared.setting.Setting.{Setting}
use Rattle.expr_tokens.specs.TextTokens.Lexed.{lexed}
use Rattle.expr_tokens.proofs.TextTokens.LexedLemmas.{tokens_lexed, faults_not_lexed}
use Rattle.pattern_syntax.specs.Readings.{value, pattern_reading, IsLexed, Gives, IsAnswered, GivesText}
use Rattle.pattern_syntax.specs.Spelled.{SpellsWithin}
use Rattle.pattern_syntax.proofs.ReadingLemmas.{spelled_reads, reads_spelled}
use Rattle.pattern_syntax.specs.PatternReadings.Readings.{text_reading}
use Rattle.pattern_syntax.proofs.PatternReadings.WholeLemmas.{lexes}

tokens_are : (text : List ℕ) (o : Option (List Written)) → IsLexed text o → lexed (chars text) ≡ o
tokens_are text None l = faults_not_lexed (length text) (chars text) l.0 l.1
tokens_are text (Some ts) l = tokens_lexed (length text) (chars text) l.0 l.1.0 ∙ ap Some (sym l.1.1)

answered : (s : Setting) (k : ℕ) (text : List ℕ) (r : Result (List Pattern) ParseFault) → IsAnswered r s k text → Gives r (text_reading s k (chars text))
unfolding text_reading
answered s k text r (o, (l, g)) = subst (λ x. Gives r (pattern_reading s k x)) (sym (tokens_are text o l)) g

pub read_so : (s : Setting) (k : ℕ) (text : List ℕ) (r : Result (List Pattern) ParseFault) → GivesText r s k text → Gives r (text_reading s k (chars text))
read_so s k text (Ok ps) g = answered s k text (Ok ps) g
read_so s k text (Err Syntax) g = answered s k text (Err Syntax) g
read_so s k text (Err (Static c)) g = answered s k text (Err (Static c)) g
read_so s k text (Err TooDeep) g = answered s k text (Err TooDeep) g
read_so s k text (Err (Memory e)) g = tt

pub ruleset parsing = (read_so)

-- the laws
pub text_reads : (s : Setting) (k : ℕ) (text : List ℕ) (ps : List Pattern) → SpellsWithin s k text ps → text_reading s k (chars text) ≡ value ps
unfolding text_reading
text_reads s k text ps w =
    let l = w.is_read.lexed in
    ap (pattern_reading s k) (tokens_are text (Some w.is_read.tokens) l) ∙ spelled_reads s k text (Some w.is_read.tokens) ps l w

pub text_spells : (s : Setting) (k : ℕ) (text : List ℕ) (ps : List Pattern) → IsUtf8 text → text_reading s k (chars text) ≡ value ps → SpellsWithin s k text ps
unfolding text_reading
text_spells s k text ps u e = reads_spelled s k text (lexed (chars text)) ps (lexes text u) e
