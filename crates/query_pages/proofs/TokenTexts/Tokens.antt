-- Each token of expressions is the longest where white space follows, and is read back.
use Rattle.std.proofs.Common.{◌≡◌, ℕ, pos, negsuc, List, [], ◌∷◌, ◌++◌, Bool, true, false, not}
use Rattle.std.proofs.Common.{Option, Some, None, is_some, refl, sym, nat_le, ◌≤◌, arith, ◌<◌}
use Rattle.std.proofs.Common.{append_assoc, subst, decimal, ◌^◌}
use Rattle.std.proofs.lemmas.Bool.{and_parts, leb-true}
use Rattle.std.specs.List.{list_all}
use Rattle.xt_names.specs.Classes.{is_ncname_text}
use Rattle.xpath_lex.specs.Classes.{is_digit}
use Rattle.xpath_lex.specs.Runs.{IsMark}
use Rattle.xpath_lex.specs.Tokens.{Longest}
use Rattle.xpath_lex.specs.declared.lexing.TokenKind.{TokenKind}
use Rattle.xpath_lex.specs.declared.lexing.TokenKind.TheVariants as kind
use Rattle.xpath_lex.proofs.CharacterFacts.{star_digit, star_quote, star_name}
use Rattle.xpath_lex.proofs.NameLemmas.{star_longest, local_longest}
use Rattle.xpath_lex.proofs.PartLemmas.{no_point}
use Rattle.xpath_lex.proofs.SymbolLemmas.{prefix_longest}
use Rattle.expr_keys.specs.Keys.{key_text, is_worded}
use Rattle.expr_keys.specs.declared.keys.Key.{Key}
use Rattle.expr_keys.specs.declared.keys.Key.TheVariants as key
use Rattle.expr_keys.specs.declared.tokens.Token.{Token}
use Rattle.expr_keys.specs.declared.tokens.Token.TheVariants as token
use Rattle.expr_tokens.specs.Words.{key_of_word}
use Rattle.expr_tokens.proofs.KeyLemmas.{word_found, symbol_found}
use Rattle.query_pieces.specs.declared.contexts.Change.{Change}
use Rattle.query_pieces.specs.declared.contexts.Change.TheVariants.{Stays as stays}
use Rattle.query_pieces.specs.declared.contexts.Change.TheVariants.{Enters as enters}
use Rattle.query_pieces.specs.declared.contexts.Context.TheVariants.{Enclosed as enclosed}
use Rattle.query_pieces.specs.Points.{change_of}
use Rattle.query_pieces.specs.Spellings.{Spells, literal, others}
use Rattle.query_pages.specs.TokenTexts.Spellings.{token_text}
use Rattle.query_pages.specs.TokenTexts.Texts.{token_change}
use Rattle.query_pages.specs.TokenTexts.Written.{is_token, is_named}
use Rattle.query_pages.proofs.TokenTexts.Spaces.{Spaced, ends_so, space_digit}
use Rattle.query_pages.proofs.TokenTexts.Numbers.{all_digits, reads_back, some_digits, longest_digits}
use Rattle.query_pages.proofs.TokenTexts.Names.{qname_back, any_local_back, any_prefix_back}
use Rattle.query_pages.proofs.TokenTexts.Keys.{word_named, symbol_is, symbol_longest, word_ends}
use Rattle.query_pages.proofs.TokenTexts.Literals.{literal_longest, literal_says}
use Rattle.xt_names.specs.Characters.{is_name_char, is_char, is_space, NotNext}
use Rattle.xt_names.proofs.BoolLemmas.{no}
use Rattle.xt_names.proofs.CharacterLemmas.{space_name}

pub record Reading (t : Token) : Type 0 where
  pub kind : TokenKind
  pub longest : (rest : List ℕ) → Spaced rest
      → Longest false (token_text t ++ rest) kind (token_text t) rest
  pub spells : Spells kind (token_text t) t

-- what is open stays so, or a brace opens one more
pub data Goes : Change → Type 0 where
  on : Goes stays
  within : Goes (enters enclosed)

-- the closing brace, the front of an element, and tokens after which an expression goes on
pub data Sort : Token → Type 0 where
  brace : Sort (token.Key key.CloseBrace)
  front : {p n : List ℕ} → is_named p n ≡ true → Sort (token.StartTagOpen p n)
  plain : {t : Token} → Reading t → token_change t ≡ change_of t → Goes (change_of t) → Sort t

key_reading : (k : Key) → Reading (token.Key k)
key_reading k = go (is_worded k) refl
  where
    go : (b : Bool) → is_worded k ≡ b → Reading (token.Key k)
    go true e = record {
      kind = kind.Word;
      longest = λ rest s. word_ends (key_text k) rest (word_named k e) s;
      spells = others refl (rw (word_found k e) refl);
    }
    go false e = record {
      kind = kind.Symbol;
      longest = λ rest s. symbol_longest (key_text k) rest (symbol_is k e) s;
      spells = others refl (rw (symbol_found k e) refl);
    }

key_sort : (k : Key) → Sort (token.Key k)
key_sort key.CloseBrace = brace
key_sort key.OpenBrace = plain (key_reading key.OpenBrace) refl within
key_sort key.OpenParen = plain (key_reading key.OpenParen) refl on
key_sort k = plain (key_reading k) refl on

none_if : {A : Type 0} (o : Option A) → not (is_some o) ≡ true → o ≡ None
none_if None e = refl
none_if (Some x) e = absurd (cc)

name_reading : (n : List ℕ) → is_token (token.Name n) ≡ true → Reading (token.Name n)
name_reading n e =
    let h = and_parts (is_ncname_text n) (not (is_some (key_of_word n))) e in
    record {
      kind = kind.Word;
      longest = λ rest s. word_ends n rest h.0 s;
      spells = others refl (rw (none_if (key_of_word n) h.1) refl);
    }

qname_reading : (p n : List ℕ) → is_token (token.Qname p n) ≡ true → Reading (token.Qname p n)
qname_reading p n e =
    let h = and_parts (is_ncname_text p) (is_ncname_text n) e in
    record {
      kind = kind.QWord;
      longest = λ rest s. subst (λ ts. Longest false ts kind.QWord (p ++ 58 ∷ n) rest)
          (sym (append_assoc p (58 ∷ n) rest))
          (local_longest p n rest h.0 h.1 (ends_so is_name_char space_name rest s));
      spells = others refl (qname_back p n h.0);
    }

any_local_reading : (p : List ℕ) → is_ncname_text p ≡ true → Reading (token.AnyLocal p)
any_local_reading p h = record {
  kind = kind.AnyLocal;
  longest = λ rest s. subst (λ ts. Longest false ts kind.AnyLocal (p ++ 58 ∷ 42 ∷ []) rest)
      (sym (append_assoc p (58 ∷ 42 ∷ []) rest)) (star_longest p rest h);
  spells = others refl (any_local_back p h);
}

star_mark : IsMark 42
star_mark = record { digit = star_digit; quote = star_quote; name = star_name }

any_prefix_reading : (n : List ℕ) → is_ncname_text n ≡ true → Reading (token.AnyPrefix n)
any_prefix_reading n h = record {
  kind = kind.AnyPrefix;
  longest = λ rest s. prefix_longest false n rest star_mark h (ends_so is_name_char space_name
      rest s);
  spells = others refl (any_prefix_back n);
}

point_space : is_space 46 ≡ false
unfolding is_space
point_space = refl

point_spaced : (rest : List ℕ) → Spaced rest → NotNext 46 rest
point_spaced [] s = tt
point_spaced (c ∷ cs) s = λ e. no (rw (← e) at s) point_space

digits_reading : (n : ℕ) → nat_le n 9223372036854775807 ≡ true → Reading (token.Digits (pos n))
digits_reading n e =
    let h : n ≤ 9223372036854775807 = leb-true n 9223372036854775807 e in
    let small : n < 2 ^ 64 = omega arith in
    record {
      kind = kind.Integer;
      longest = λ rest s. longest_digits (decimal n) rest (some_digits n small)
          (all_digits n small) (ends_so is_digit space_digit rest s)
          (no_point rest (point_spaced rest s));
      spells = others refl (rw (reads_back n h) refl);
    }

quoted_reading : (cs : List ℕ) → list_all is_char cs ≡ true → Reading (token.Quoted cs)
quoted_reading cs h = record {
  kind = kind.Literal;
  longest = λ rest s. literal_longest cs rest h s;
  spells = literal refl (literal_says cs) refl;
}

pub sort_of : (t : Token) → is_token t ≡ true → Sort t
sort_of (token.Key k) e = key_sort k
sort_of (token.Name n) e = plain (name_reading n e) refl on
sort_of (token.Qname p n) e = plain (qname_reading p n e) refl on
sort_of (token.AnyLocal p) e = plain (any_local_reading p e) refl on
sort_of (token.AnyPrefix n) e = plain (any_prefix_reading n e) refl on
sort_of (token.Digits (pos n)) e = plain (digits_reading n e) refl on
sort_of (token.Digits (negsuc n)) e = absurd (cc)
sort_of (token.Quoted cs) e = plain (quoted_reading cs e) refl on
sort_of (token.StartTagOpen p n) e = front e
sort_of _ e = absurd (cc)
