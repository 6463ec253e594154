-- Readings of comments, sections and instructions, piece by piece.
use Rattle.std.proofs.Common.{◌≡◌, ℕ, List, [], ◌∷◌, ◌++◌, Bool, true, false, not, ◌==◌, if◌then◌else◌, MatchBool, Result, Ok, Err, IfOk, codes, refl, sym, ap, ◌∙◌, eq-eqb, append-nil, append_assoc}
use Rattle.std.proofs.lemmas.Bool.{ne_eqb, and_parts}
use Rattle.std.specs.List.{list_all}
use Rattle.std.specs.Str.{chars}
use Rattle.xt_tree.specs.declared.trees.Tree.{Tree}
use Rattle.xt_tree.specs.declared.trees.Tree.TheVariants.{Pi}
use Rattle.doc_grammar.specs.Lexemes.{Spaces}
use Rattle.doc_grammar.specs.Lexemes as lexemes
use Rattle.doc_grammar.specs.Lexing.{Lex, makes, fails, on_char, dash, comment, comment_dash, comment_dashes, section_open, section, section_bracket, section_brackets, target_mark, target_space, instruction, instruction_mark, lex_step}
use Rattle.xml_source.specs.Asides.{LexEnd, made, stopped, lex_reads, target_reads}
use Rattle.xml_source.specs.Classes.{is_char_but}
use Rattle.xml_source.specs.Sources.{DiffersAt}
use Rattle.xml_source.proofs.SpellLemmas.{Spaced, ascii}
use Rattle.xt_names.proofs.BoolLemmas.{is_false}
use Rattle.xt_names.specs.Characters.{is_space, is_char, Ends, NotNext}

-- runs

-- where each character but one is text
abbrev pub Collects : ℕ → (List ℕ → Lex) → Type 0
Collects d lex = (read : List ℕ) (c : ℕ) → (c == d) ≡ false → lex_step (lex read) c ≡ on_char c (lex (read ++ c ∷ []))

pub comment_collects : Collects 45 comment
comment_collects read c h = rw h refl

pub section_collects : Collects 93 section
section_collects read c h = rw h refl

pub instruction_collects : (target : List ℕ) → Collects 63 (instruction target)
instruction_collects target read c h = rw h refl

char_but_parts : (d c : ℕ) → is_char_but d c ≡ true → (is_char c ≡ true) × ((c == d) ≡ false)
unfolding is_char_but
char_but_parts d c h = let parts = and_parts (is_char c) (not (c == d)) h in (parts.0, is_false (c == d) parts.1)

no_char_but : (d c : ℕ) → is_char_but d c ≡ false → (c == d) ≡ false → is_char c ≡ false
unfolding is_char_but
no_char_but d c h n = go (is_char c) refl where
  go : (b : Bool) → is_char c ≡ b → is_char c ≡ false
  go true e = let yes : is_char_but d c ≡ true = rw (e, n) refl in cc
  go false e = e

run : (d : ℕ) (lex : List ℕ → Lex) → Collects d lex → (read xs ts : List ℕ) → list_all (is_char_but d) xs ≡ true → lex_reads (xs ++ ts) (lex read) ≡ lex_reads ts (lex (read ++ xs))
run d lex collects read [] ts a = ap (λ (r : List ℕ). lex_reads ts (lex r)) (sym (append-nil read))
run d lex collects read (x ∷ xs) ts a =
    let parts = and_parts (is_char_but d x) (list_all (is_char_but d) xs) a in
    let char = char_but_parts d x parts.0 in
    rw (collects read x char.1, char.0)
    (run d lex collects (read ++ x ∷ []) xs ts parts.1 ∙ ap (λ (r : List ℕ). lex_reads ts (lex r)) (append_assoc read (x ∷ []) xs))

pub run_then : (d : ℕ) (lex : List ℕ → Lex) → Collects d lex → (read xs ts : List ℕ) {old read' : List ℕ} {end : LexEnd} → old ≡ xs ++ ts → list_all (is_char_but d) xs ≡ true → read' ≡ read ++ xs → lex_reads ts (lex read') ≡ end → lex_reads old (lex read) ≡ end
run_then d lex collects read xs ts o a r k = rw o (run d lex collects read xs ts a ∙ (rw r at k))

pub run_stops : (d : ℕ) (lex : List ℕ → Lex) → Collects d lex → (read ts : List ℕ) {new : List ℕ} → Ends (is_char_but d) ts → (new ≡ ts) × NotNext d ts → lex_reads ts (lex read) ≡ stopped new
run_stops d lex collects read ts e n = rw n.0 (go ts e n.1) where
  go : (ts : List ℕ) → Ends (is_char_but d) ts → NotNext d ts → lex_reads ts (lex read) ≡ stopped ts
  go [] e n = refl
  go (c ∷ cs) e n =
      let differs : (c == d) ≡ false = ne_eqb c d (λ same. n (sym same)) in
      rw (collects read c differs, no_char_but d c e differs) refl

-- the character that ends a node comes, or the reading stops
pub closes : (d : ℕ) (lex : Lex) (n : Tree) → ((c : ℕ) → lex_step lex c ≡ (if c == d then makes n else fails)) → (b : Bool) (ts new : List ℕ) {start : LexEnd} → start ≡ lex_reads ts lex → MatchBool b (ts ≡ d ∷ new) ((new ≡ ts) × NotNext d ts) → MatchBool b (start ≡ made n new) (start ≡ stopped new)
closes d lex n steps true ts new s h = s ∙ rw (h, steps d, eq-eqb d d refl) refl
closes d lex n steps false ts new s h = s ∙ rw h.0 (go ts h.1) where
  go : (ts : List ℕ) → NotNext d ts → lex_reads ts lex ≡ stopped ts
  go [] n = refl
  go (c ∷ cs) n = rw (steps c, ne_eqb c d (λ same. n (sym same))) refl

-- comments

pub dash_stops : (ts : List ℕ) {new : List ℕ} → (new ≡ ts) × NotNext 45 ts → lex_reads ts dash ≡ stopped new
dash_stops ts n = rw n.0 (go ts n.1) where
  go : (ts : List ℕ) → NotNext 45 ts → lex_reads ts dash ≡ stopped ts
  go [] n = refl
  go (c ∷ cs) n = rw (ne_eqb c 45 (λ same. n (sym same))) refl

pub dash_then : {old new text : List ℕ} → old ≡ 45 ∷ new → text ≡ [] → lex_reads old dash ≡ lex_reads new (comment text)
dash_then o t = rw (o, t) refl

pub comment_dash_then : {old new : List ℕ} (read : List ℕ) → old ≡ 45 ∷ new → lex_reads old (comment read) ≡ lex_reads new (comment_dash read)
comment_dash_then read o = rw o refl

pub comment_dashes_then : {old new : List ℕ} (read : List ℕ) → old ≡ 45 ∷ new → lex_reads old (comment_dash read) ≡ lex_reads new (comment_dashes read)
comment_dashes_then read o = rw o refl

-- a dash alone is text
pub dash_is_text : (read ts : List ℕ) {new read' : List ℕ} → (new ≡ ts) × NotNext 45 ts → read' ≡ read ++ 45 ∷ [] → lex_reads ts (comment_dash read) ≡ lex_reads new (comment read')
dash_is_text read ts n r = rw (n.0, r) (go ts n.1) where
  go : (ts : List ℕ) → NotNext 45 ts → lex_reads ts (comment_dash read) ≡ lex_reads ts (comment (read ++ 45 ∷ []))
  go [] n = refl
  go (c ∷ cs) n = rw (ne_eqb c 45 (λ same. n (sym same)), append_assoc read (45 ∷ []) (c ∷ [])) refl

-- sections

open_whole : (c : ℕ) (cs ts : List ℕ) → lex_reads (c ∷ (cs ++ ts)) (section_open (c ∷ cs)) ≡ lex_reads ts (section [])
open_whole c [] ts = rw (eq-eqb c c refl) refl
open_whole c (d ∷ ds) ts = rw (eq-eqb c c refl) (open_whole d ds ts)

open_none : (next : ℕ) (more new : List ℕ) → NotNext next new → lex_reads new (section_open (next ∷ more)) ≡ stopped new
open_none next more [] n = refl
open_none next [] (c ∷ cs) n = rw (ne_eqb c next (λ same. n (sym same))) refl
open_none next (d ∷ ds) (c ∷ cs) n = rw (ne_eqb c next (λ same. n (sym same))) refl

open_part : (read : List ℕ) (next : ℕ) (more new : List ℕ) → NotNext next new → lex_reads (read ++ new) (section_open (read ++ next ∷ more)) ≡ stopped new
open_part [] next more new n = open_none next more new n
open_part (c ∷ []) next more new n = rw (eq-eqb c c refl) (open_none next more new n)
open_part (c ∷ d ∷ ds) next more new n = rw (eq-eqb c c refl) (open_part (d ∷ ds) next more new n)

pub open_then : (new : List ℕ) {old : List ℕ} → old ≡ chars (codes "CDATA[") ++ new → lex_reads old (section_open (codes "CDATA[")) ≡ lex_reads new (section [])
open_then new o = rw (o, ascii (codes "CDATA[") refl) (open_whole 67 (codes "DATA[") new)

pub open_stops : {old new : List ℕ} → DiffersAt (chars (codes "CDATA[")) old new → lex_reads old (section_open (codes "CDATA[")) ≡ stopped new
open_stops {new = new} d = rw (d.is_old, sym (ascii (codes "CDATA[") refl) ∙ d.is_whole) (open_part d.read d.next d.more new d.not_next)

pub section_bracket_then : {old new : List ℕ} (read : List ℕ) → old ≡ 93 ∷ new → lex_reads old (section read) ≡ lex_reads new (section_bracket read)
section_bracket_then read o = rw o refl

pub section_brackets_then : {old new : List ℕ} (read : List ℕ) → old ≡ 93 ∷ new → lex_reads old (section_bracket read) ≡ lex_reads new (section_brackets read)
section_brackets_then read o = rw o refl

-- instructions

pub target_mark_then : {old new : List ℕ} (target : List ℕ) → old ≡ 63 ∷ new → target_reads old target ≡ lex_reads new (target_mark target)
unfolding is_space
target_mark_then target o = rw o refl

pub target_stops : (old : List ℕ) (target : List ℕ) {mid new : List ℕ} → (mid ≡ old) × NotNext 63 old → new ≡ mid → Ends is_space new → target_reads old target ≡ stopped new
target_stops old target n m e = let same = m ∙ n.0 in rw same (go old n.1 (rw same at e)) where
  go : (ts : List ℕ) → NotNext 63 ts → Ends is_space ts → target_reads ts target ≡ stopped ts
  go [] n e = refl
  go (c ∷ cs) n e = rw (e, ne_eqb c 63 (λ same. n (sym same))) refl

target_spaces : (target : List ℕ) {ts new : List ℕ} → Spaces ts new → lex_reads ts (target_space target) ≡ lex_reads new (target_space target)
target_spaces target lexemes.no_space = refl
target_spaces target (lexemes.a_space h s) = rw h (target_spaces target s)

behind_spaces : (target ts : List ℕ) → Ends is_space ts → lex_reads ts (target_space target) ≡ lex_reads ts (instruction target [])
behind_spaces target [] e = refl
behind_spaces target (c ∷ cs) e = rw e refl

pub target_space_then : (target : List ℕ) {old mid new text : List ℕ} → mid ≡ old → Spaced mid new → Ends is_space new → text ≡ [] → target_reads old target ≡ lex_reads new (instruction target text)
target_space_then target {new = new} m s e t =
    rw (sym m ∙ s.2, s.3, t) (target_spaces target s.4 ∙ behind_spaces target new e)

pub mark_then : {old new : List ℕ} (target read : List ℕ) → old ≡ 63 ∷ new → lex_reads old (instruction target read) ≡ lex_reads new (instruction_mark target read)
mark_then target read o = rw o refl

pub instruction_closes : {old new : List ℕ} (target read : List ℕ) → old ≡ 62 ∷ new → lex_reads old (instruction_mark target read) ≡ made (Pi target read) new
instruction_closes target read o = rw o refl

-- a mark that `>` is not after is text
pub mark_is_text : (target read ts : List ℕ) {new read' : List ℕ} → (new ≡ ts) × NotNext 62 ts → read' ≡ read ++ 63 ∷ [] → lex_reads ts (instruction_mark target read) ≡ lex_reads new (instruction target read')
mark_is_text target read ts n r = rw (n.0, r) (go ts n.1) where
  go : (ts : List ℕ) → NotNext 62 ts → lex_reads ts (instruction_mark target read) ≡ lex_reads ts (instruction target (read ++ 63 ∷ []))
  go [] n = refl
  go (c ∷ cs) n = rw (ne_eqb c 62 (λ same. n (sym same)), append_assoc read (63 ∷ []) (c ∷ [])) refl

pub target_text : (E : Type 0) (r : Result Bool E) (old mid text text' new : List ℕ) → ((target : List ℕ) → target_reads old target ≡ lex_reads mid (instruction target text))
    → IfOk r (λ b. (target : List ℕ) → MatchBool b (lex_reads mid (instruction target text) ≡ made (Pi target text') new) (lex_reads mid (instruction target text) ≡ stopped new))
    → IfOk r (λ b. (target : List ℕ) → MatchBool b (target_reads old target ≡ made (Pi target text') new) (target_reads old target ≡ stopped new))
target_text E (Err e) old mid text text' new g h = tt
target_text E (Ok true) old mid text text' new g h = λ target. g target ∙ h target
target_text E (Ok false) old mid text text' new g h = λ target. g target ∙ h target

-- what three pieces add to a text
pub added : (first more run last text text' text'' : List ℕ) → text ≡ first ++ more → text' ≡ text ++ run → text'' ≡ text' ++ last → text'' ≡ first ++ ((more ++ run) ++ last)
added first more run last text text' text'' a b c = rw (c, b, a) (simp append_assoc)
