-- The kind of a token follows from its characters, so at most one token is the longest.
use Rattle.std.proofs.Common.{◌≡◌, ℕ, List, [], ◌∷◌, ◌++◌, Bool, true, false, ◌==◌, if◌then◌else◌, refl, sym, ap, ◌∙◌, arith}
use Rattle.std.proofs.lemmas.Bool.{and_parts}
use Rattle.std.specs.List.{list_all}
use Rattle.xt_names.specs.Classes.{is_ncname_text, begins_name, is_in_ranges, ncname_char_ranges}
use Rattle.xpath_lex.specs.Classes.{is_digit}
use Rattle.xpath_lex.specs.Tokens.{IsToken, integer, literal, word, qword, any_local, any_prefix, single, double, Longest}
use Rattle.xpath_lex.specs.declared.lexing.TokenKind.{TokenKind}
use Rattle.xpath_lex.specs.declared.lexing.TokenKind.TheVariants.{Integer, Literal, Word, QWord, AnyLocal, AnyPrefix, Symbol}
use Rattle.xpath_lex.proofs.CharacterFacts.{name_digit, name_quote, quote_digit, single_digit, single_quote, single_name, double_digit, double_quote, double_name, double_star, star_digit, star_quote, star_name}
use Rattle.xpath_lex.proofs.RunLemmas.{same_front}
use Rattle.xt_names.specs.Characters.{starts_name, is_name_char, is_quote}
use Rattle.xt_names.proofs.CharacterLemmas.{colon_name, is_other, name_starts}

-- a name without a colon: its first character, and all of them
pub record NameParts (x : List ℕ) : Type 0 where
  pub first : ℕ
  pub others : List ℕ
  pub is : x ≡ first ∷ others
  pub starts : starts_name first ≡ true
  pub follow : list_all is_name_char others ≡ true

pub name_parts : (x : List ℕ) → is_ncname_text x ≡ true → NameParts x
unfolding is_ncname_text begins_name starts_name is_name_char
name_parts [] h = absurd (cc)
name_parts (c ∷ cs) h =
    let parts = and_parts (begins_name (c ∷ cs)) (list_all (is_in_ranges ncname_char_ranges) (c ∷ cs)) h in
    record { first = c; others = cs; is = refl; starts = parts.0; follow = (and_parts (is_in_ranges ncname_char_ranges c) _ parts.1).1 }

pub name_made : (c : ℕ) (cs : List ℕ) → starts_name c ≡ true → list_all is_name_char cs ≡ true → is_ncname_text (c ∷ cs) ≡ true
unfolding is_ncname_text begins_name starts_name is_name_char
name_made c cs s a = rw (s, name_starts c s, a) refl

pub all_name : (x : List ℕ) → is_ncname_text x ≡ true → list_all is_name_char x ≡ true
all_name x h = let n = name_parts x h in rw n.is (rw (name_starts n.first n.starts, n.follow) refl)

-- the kind of a token that begins a name, by what comes after its first colon
abbrev behind_colon : List ℕ → TokenKind
behind_colon [] = QWord
behind_colon (c ∷ cs) = if c == 42 then AnyLocal else QWord

abbrev named_kind : List ℕ → TokenKind
named_kind [] = Word
named_kind (c ∷ cs) = if c == 58 then behind_colon cs else named_kind cs

abbrev star_kind : List ℕ → TokenKind
star_kind [] = Symbol
star_kind (c ∷ cs) = AnyPrefix

abbrev kind_of : List ℕ → TokenKind
kind_of [] = Symbol
kind_of (c ∷ cs) =
    if is_digit c then Integer else if is_quote c then Literal else if starts_name c then named_kind cs
    else if c == 42 then star_kind cs else Symbol

name_colon : (c : ℕ) → is_name_char c ≡ true → (c == 58) ≡ false
name_colon c h = is_other is_name_char c 58 h colon_name

named_word : (cs : List ℕ) → list_all is_name_char cs ≡ true → named_kind cs ≡ Word
named_word [] a = refl
named_word (c ∷ cs) a = let parts = and_parts (is_name_char c) _ a in rw (name_colon c parts.0) (named_word cs parts.1)

named_colon : (cs z : List ℕ) → list_all is_name_char cs ≡ true → named_kind (cs ++ 58 ∷ z) ≡ behind_colon z
named_colon [] z a = refl
named_colon (c ∷ cs) z a = let parts = and_parts (is_name_char c) _ a in rw (name_colon c parts.0) (named_colon cs z parts.1)

-- names begin with no digit and no quote
named : (c : ℕ) (cs : List ℕ) → starts_name c ≡ true → kind_of (c ∷ cs) ≡ named_kind cs
named c cs s = rw (name_digit c s, name_quote c s, s) refl

single_kind : (c : ℕ) (b : Bool) → (if b then star_kind [] else Symbol) ≡ Symbol
single_kind c true = refl
single_kind c false = refl

pub kind_is : (k : TokenKind) (run : List ℕ) → IsToken k run → k ≡ kind_of run
kind_is Integer _ (integer {c = c} {cs = cs} a) = rw (and_parts (is_digit c) _ a).0 refl
kind_is Literal _ (literal {c = c} q s) = rw (quote_digit c q, q) refl
kind_is Word x (word h) = let n = name_parts x h in rw n.is (sym (named n.first n.others n.starts ∙ named_word n.others n.follow))
kind_is QWord _ (qword x y h g) =
    let n = name_parts x h in
    let m = name_parts y g in
    let behind : behind_colon y ≡ QWord = rw (m.is, is_other starts_name m.first 42 m.starts star_name) refl in
    let whole : kind_of (x ++ 58 ∷ y) ≡ QWord = rw n.is (named n.first (n.others ++ 58 ∷ y) n.starts ∙ named_colon n.others y n.follow ∙ behind) in sym whole
kind_is AnyLocal _ (any_local x h) =
    let n = name_parts x h in
    let whole : kind_of (x ++ 58 ∷ 42 ∷ []) ≡ AnyLocal = rw n.is (named n.first (n.others ++ 58 ∷ 42 ∷ []) n.starts ∙ named_colon n.others (42 ∷ []) n.follow) in sym whole
kind_is AnyPrefix _ (any_prefix h) = rw (star_digit, star_quote, star_name) refl
kind_is Symbol _ (single {c = c} s) = rw (single_digit c s, single_quote c s, single_name c s) (sym (single_kind c (c == 42)))
kind_is Symbol _ (double {c = c} {d = d} s) = rw (double_digit c d s, double_quote c d s, double_name c d s, double_star c d s) refl

pub longest_one : (b : Bool) (ts : List ℕ) (k l : TokenKind) (run other rest more : List ℕ) → Longest b ts k run rest → Longest b ts l other more → (k ≡ l) × (run ≡ other) × (rest ≡ more)
longest_one b ts k l run other rest more x y =
    let le = x.longest l other more y.begins in
    let ge = y.longest k run rest x.begins in
    let same = same_front run other rest more (sym x.begins.parts ∙ y.begins.parts) (omega (arith, le, ge)) in
    (kind_is k run x.begins.is_token ∙ ap kind_of same.0 ∙ sym (kind_is l other y.begins.is_token), same.0, same.1)
