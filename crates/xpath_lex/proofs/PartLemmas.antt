-- What the code takes is the longest token.
use Rattle.std.proofs.Common.{◌≡◌, ℕ, List, [], ◌∷◌, ◌++◌, Bool, true, false, ◌==◌, ◌&&◌, MatchBool, MatchOption, Option, Some, None, slice_get, refl, sym, ap, ◌∙◌}
use Rattle.std.proofs.lemmas.Bool.{and_parts, eqb-true, false_from_ne_true}
use Rattle.std.specs.List.{list_all}
use Rattle.xt_names.specs.Classes.{is_ncname_text}
use Rattle.xpath_lex.specs.Classes.{is_digit, is_single, is_double}
use Rattle.xpath_lex.specs.Runs.{IsMark, bars, is_inside, literal_rest}
use Rattle.xpath_lex.specs.Tokens.{Decimal, more, point, Barred, comment, name, decimal, Longest, NoneBegins}
use Rattle.xpath_lex.specs.declared.lexing.TokenKind.{TokenKind}
use Rattle.xpath_lex.specs.declared.lexing.TokenKind.TheVariants.{Integer, Literal, Word, QWord, AnyLocal, AnyPrefix, Symbol}
use Rattle.xpath_lex.proofs.RunLemmas.{first_same, rest_same}
use Rattle.xpath_lex.proofs.KindLemmas.{name_made}
use Rattle.xpath_lex.proofs.NameLemmas.{NoFraction, no_local, digits_longest, word_longest, star_longest, local_longest}
use Rattle.xpath_lex.proofs.QuoteLemmas.{LongestQuoted, NoneQuoted, Outcome, kept, ends, outcome, rest_run, rest_stays, rest_closes, rest_goes_on, rest_done}
use Rattle.xpath_lex.proofs.ReadingLemmas.{some_token}
use Rattle.xpath_lex.proofs.SymbolLemmas.{quote_longest, quote_none, prefix_longest, double_longest, single_longest, mark_none}
use Rattle.xt_names.specs.Characters.{starts_name, is_name_char, is_quote, Ends, NotNext}
use Rattle.xt_names.proofs.BoolLemmas.{no, one_of}
use Rattle.xt_names.proofs.CharacterLemmas.{name_starts}

-- a character of the class comes first
abbrev pub FirstIs : (ℕ → Bool) → List ℕ → Type 0
FirstIs p old = (c : ℕ) × (ts : List ℕ) × (old ≡ c ∷ ts) × (p c ≡ true)

-- a run of the class was taken
abbrev pub RunTaken : (ℕ → Bool) → List ℕ → List ℕ → Type 0
RunTaken p old new = (run : List ℕ) × (old ≡ run ++ new) × (list_all p run ≡ true)

-- the first character, by a look at it
pub first_of : (ts : List ℕ) (c : ℕ) (o : Option ℕ) → o ≡ slice_get ts 0 → o ≡ Some c → (rest : List ℕ) × (ts ≡ c ∷ rest)
first_of [] c o e f = cc
first_of (x ∷ xs) c o e f = let same : x ≡ c = cc in (xs, ap (λ y. y ∷ xs) same)

pub nothing_first : (ts : List ℕ) (o : Option ℕ) → o ≡ slice_get ts 0 → o ≡ None → ts ≡ []
nothing_first [] o e f = refl
nothing_first (x ∷ xs) o e f = cc

pub first_is : (p : ℕ → Bool) (ts : List ℕ) (c : ℕ) (o : Option ℕ) (r : Bool) → o ≡ slice_get ts 0 → o ≡ Some c → r ≡ p c → r ≡ true → FirstIs p ts
first_is p ts c o r e f g h = let first = first_of ts c o e f in (c, first.0, first.1, sym g ∙ h)

-- the character that is there is taken
pub eat_first : (b : Bool) (c : ℕ) (old new ts : List ℕ) → MatchBool b (old ≡ c ∷ new) ((new ≡ old) × NotNext c old) → old ≡ c ∷ ts → new ≡ ts
eat_first true c old new ts m e = rest_same (sym m ∙ e)
eat_first false c old new ts m e = let n : NotNext c (c ∷ ts) = rw e at m.1 in absurd (n refl)

-- numbers

no_run : {P : Type 0} (p : ℕ → Bool) (old new : List ℕ) → FirstIs p old → old ≡ new → Ends p new → P
no_run p old new (c, ts, e, h) s n = let at : Ends p (c ∷ ts) = rw (← s, e) at n in no h at

pub number_taken : (old new : List ℕ) → FirstIs is_digit old → RunTaken is_digit old new → Ends is_digit new → NoFraction new → (b : Bool) → (run : List ℕ) × Longest b old Integer run new
number_taken old new f ([], e, a) n g b = no_run is_digit old new f e n
number_taken old new f (x ∷ xs, e, a) n g b = (x ∷ xs, rw e (digits_longest b x xs new a n g))

decimal_run : (run : List ℕ) (d : ℕ) (ts : List ℕ) → list_all is_digit run ≡ true → is_digit d ≡ true → Decimal (run ++ 46 ∷ d ∷ ts)
decimal_run [] d ts a h = point h
decimal_run (x ∷ xs) d ts a h = let parts = and_parts (is_digit x) _ a in more parts.0 (decimal_run xs d ts parts.1 h)

pub number_none : (old mid after : List ℕ) → RunTaken is_digit old mid → mid ≡ 46 ∷ after → FirstIs is_digit after → (b : Bool) → NoneBegins b old
number_none old mid after (run, e, a) p (d, ts, f, h) b = λ k x rest g.
    (let whole : old ≡ run ++ 46 ∷ d ∷ ts = e ∙ ap (λ v. run ++ v) (p ∙ ap (λ v. 46 ∷ v) f) in
    let stands : Decimal old = rw whole (decimal_run run d ts a h) in g.allowed (decimal stands))

pub no_point : (new : List ℕ) → NotNext 46 new → NoFraction new
no_point [] n = λ d rest e. cc
no_point (x ∷ xs) n = λ d rest e. absurd (n (sym (first_same e)))

pub no_digit_behind : (new after : List ℕ) → new ≡ 46 ∷ after → Ends is_digit after → NoFraction new
no_digit_behind new after e n = λ d rest f. (let same : after ≡ d ∷ rest = rest_same (sym e ∙ f) in rw same at n)

-- names

pub name_taken : (old new : List ℕ) → FirstIs starts_name old → RunTaken is_name_char old new → Ends is_name_char new → (word : List ℕ) × (old ≡ word ++ new) × (is_ncname_text word ≡ true)
name_taken old new f ([], e, a) n = let g : FirstIs is_name_char old = (f.0, f.1, f.2, name_starts f.0 f.3) in no_run is_name_char old new g e n
name_taken old new (c, ts, s, h) (x ∷ xs, e, a) n =
    let first : x ≡ c = first_same (sym e ∙ s) in
    (x ∷ xs, e, name_made x xs (rw first h) (and_parts (is_name_char x) _ a).1)

pub word_taken : (old mid new : List ℕ) → (word : List ℕ) × (old ≡ word ++ mid) × (is_ncname_text word ≡ true) → Ends is_name_char mid → new ≡ mid
    → ((z : List ℕ) → mid ≡ 58 ∷ z → Ends starts_name z) → ((z : List ℕ) → mid ≡ 58 ∷ 42 ∷ z → ⊥) → (run : List ℕ) × Longest false old Word run new
word_taken old mid new (word, e, h) n s f g = rw (e, s) (word, word_longest word mid h n f g)

pub star_taken : (old mid new : List ℕ) → (word : List ℕ) × (old ≡ word ++ mid) × (is_ncname_text word ≡ true) → mid ≡ 58 ∷ 42 ∷ new → (run : List ℕ) × Longest false old AnyLocal run new
star_taken old mid new (word, e, h) s = rw (e, s) (word ++ 58 ∷ 42 ∷ [], star_longest word new h)

pub local_taken : (old mid new : List ℕ) → (word : List ℕ) × (old ≡ word ++ mid) × (is_ncname_text word ≡ true)
    → ((word : List ℕ) × (mid ≡ 58 ∷ (word ++ new)) × (is_ncname_text word ≡ true) × Ends is_name_char new) → (run : List ℕ) × Longest false old QWord run new
local_taken old mid new (word, e, h) (local, s, g, n) = rw (e, s) (word ++ 58 ∷ local, local_longest word local new h g n)

pub local_found : (old mid new : List ℕ) → old ≡ 58 ∷ mid → ((word : List ℕ) × (mid ≡ word ++ new) × (is_ncname_text word ≡ true)) → Ends is_name_char new
    → (word : List ℕ) × (old ≡ 58 ∷ (word ++ new)) × (is_ncname_text word ≡ true) × Ends is_name_char new
local_found old mid new e (word, s, h) n = (word, e ∙ ap (λ v. 58 ∷ v) s, h, n)

-- literals

pub quote_is : (q : ℕ) → is_quote q ≡ true → (q ≡ 34 → ⊥) → q ≡ 39
unfolding is_quote
quote_is q h n = one_of (q ≡ 39) (q == 34) (q == 39) (λ e. absurd (n (eqb-true q 34 e))) (λ e. eqb-true q 39 e) h

outcome_none : (q : ℕ) (ts : List ℕ) (r : Option (List ℕ)) → Outcome q ts None r → r ≡ None → NoneQuoted q ts
outcome_none q ts _ (kept n) e = n
outcome_none q ts _ (ends l) e = cc

outcome_some : (q : ℕ) (ts rest : List ℕ) (r : Option (List ℕ)) → Outcome q ts None r → r ≡ Some rest → LongestQuoted q ts rest
outcome_some q ts rest _ (kept n) e = cc
outcome_some q ts rest _ (ends {rest = x} l) e = let same : x ≡ rest = cc in rw same at l

pub literal_taken : (q : ℕ) (old ts rest : List ℕ) → old ≡ q ∷ ts → is_quote q ≡ true → Some rest ≡ literal_rest q false ts None → (b : Bool) → (run : List ℕ) × Longest b old Literal run rest
literal_taken q old ts rest e h s b =
    let l = outcome_some q ts rest _ (outcome q ts None) (sym s) in rw e (q ∷ l.run, quote_longest b q ts rest h l)

pub literal_none : (q : ℕ) (old ts : List ℕ) → old ≡ q ∷ ts → is_quote q ≡ true → None ≡ literal_rest q false ts None → (b : Bool) → NoneBegins b old
literal_none q old ts e h s b = rw e (quote_none b q ts h (outcome_none q ts _ (outcome q ts None) (sym s)))

pub end_here : (q : ℕ) (whole old now : List ℕ) (best : Option (List ℕ)) → literal_rest q false old best ≡ literal_rest q false whole None → RunTaken (is_inside q) old now → Ends (is_inside q) now → NotNext q now
    → best ≡ literal_rest q false whole None
end_here q whole old now best e (run, s, a) n m =
    sym (rest_stays q now best n m) ∙ sym (rest_run q run now best a) ∙ ap (λ x. literal_rest q false x best) (sym s) ∙ e

quote_here : (q : ℕ) (whole old mid now : List ℕ) (best : Option (List ℕ)) → literal_rest q false old best ≡ literal_rest q false whole None → RunTaken (is_inside q) old mid → mid ≡ q ∷ now
    → literal_rest q true now (Some now) ≡ literal_rest q false whole None
quote_here q whole old mid now best e (run, s, a) f =
    sym (rest_closes q now best) ∙ ap (λ x. literal_rest q false x best) (sym f) ∙ sym (rest_run q run mid best a) ∙ ap (λ x. literal_rest q false x best) (sym s) ∙ e

pub end_behind : (q : ℕ) (whole old mid now : List ℕ) (best : Option (List ℕ)) → literal_rest q false old best ≡ literal_rest q false whole None → RunTaken (is_inside q) old mid → mid ≡ q ∷ now → NotNext q now
    → Some now ≡ literal_rest q false whole None
end_behind q whole old mid now best e t f n = sym (rest_done q now (Some now) n) ∙ quote_here q whole old mid now best e t f

pub end_later : (q : ℕ) (whole old mid now next : List ℕ) (best : Option (List ℕ)) → literal_rest q false old best ≡ literal_rest q false whole None → RunTaken (is_inside q) old mid → mid ≡ q ∷ now → now ≡ q ∷ next
    → literal_rest q false next (Some now) ≡ literal_rest q false whole None
end_later q whole old mid now next best e t f g =
    sym (rest_goes_on q next (Some now)) ∙ ap (λ x. literal_rest q true x (Some now)) (sym g) ∙ quote_here q whole old mid now best e t f

-- symbols

bars_barred : (b : Bool) (c d : ℕ) (ts : List ℕ) → bars c d ≡ true → Barred b (c ∷ d ∷ ts)
unfolding bars
bars_barred b c d ts h =
    one_of (Barred b (c ∷ d ∷ ts)) (c == 40 && d == 58) (c == 46 && is_digit d)
    (λ e. (let parts = and_parts (c == 40) (d == 58) e in rw (eqb-true c 40 parts.0, eqb-true d 58 parts.1) comment))
    (λ e. (let parts = and_parts (c == 46) (is_digit d) e in rw (eqb-true c 46 parts.0) (decimal (point parts.1)))) h

pub bars_none : (c d : ℕ) (old ts less : List ℕ) → old ≡ c ∷ ts → ts ≡ d ∷ less → bars c d ≡ true → (b : Bool) → NoneBegins b old
bars_none c d old ts less e f h b = λ k x rest g. g.allowed (rw (e, f) (bars_barred b c d less h))

no_comment : (c d : ℕ) → bars c d ≡ false → c ≡ 40 → d ≡ 58 → ⊥
unfolding bars
no_comment c d h e f = no (rw (e, f) refl) h

no_fraction : (c d : ℕ) → bars c d ≡ false → c ≡ 46 → is_digit d ≡ false
unfolding bars
no_fraction c d h e = false_from_ne_true (is_digit d) (λ g. no (rw (e, g) refl) h)

pub prefix_taken : (c : ℕ) (old ts new : List ℕ) → old ≡ c ∷ ts → IsMark c → c ≡ 42 → ((word : List ℕ) × (ts ≡ 58 ∷ (word ++ new)) × (is_ncname_text word ≡ true) × Ends is_name_char new)
    → (b : Bool) → (run : List ℕ) × Longest b old AnyPrefix run new
prefix_taken c old ts new e m s (word, f, h, n) b = rw (e, s, f) (42 ∷ 58 ∷ word, prefix_longest b word new (rw s at m) h n)

pub double_taken : (c d : ℕ) (old ts new : List ℕ) → old ≡ c ∷ ts → ts ≡ d ∷ new → IsMark c → bars c d ≡ false → is_double c d ≡ true → (b : Bool) → (run : List ℕ) × Longest b old Symbol run new
double_taken c d old ts new e f m n h b = rw (e, f) (c ∷ d ∷ [], double_longest b c d new m h (no_comment c d n) (no_fraction c d n))

-- what comes next makes no token with the character
abbrev pub Alone : ℕ → List ℕ → Type 0
Alone c ts = (d : ℕ) (less : List ℕ) → ts ≡ d ∷ less → (bars c d ≡ false) × (is_double c d ≡ false)

pub alone_at_end : (c : ℕ) (ts : List ℕ) (o : Option ℕ) → o ≡ slice_get ts 0 → ((d : ℕ) → o ≡ Some d → ⊥) → Alone c ts
alone_at_end c [] o e n = λ d less f. cc
alone_at_end c (x ∷ xs) o e n = absurd (n x e)

pub alone_before : (c d : ℕ) (ts : List ℕ) (o : Option ℕ) (r s : Bool) → o ≡ slice_get ts 0 → o ≡ Some d → r ≡ bars c d → r ≡ false → s ≡ is_double c d → s ≡ false → Alone c ts
alone_before c d ts o r s e f g h k l =
    let first = first_of ts d o e f in
    λ x less i. (let same : d ≡ x = first_same (sym first.1 ∙ i) in (rw (← same) (sym g ∙ h), rw (← same) (sym k ∙ l)))

pub single_taken : (c : ℕ) (old ts new : List ℕ) → old ≡ c ∷ ts → new ≡ ts → IsMark c → Alone c ts → (c ≡ 42 → (z : List ℕ) → ts ≡ 58 ∷ z → Ends starts_name z) → is_single c ≡ true
    → (b : Bool) → (run : List ℕ) × Longest b old Symbol run new
single_taken c old ts new e s m a f h b =
    rw (e, s) (
      c ∷ [],
      single_longest b c ts m h (λ z g i. no_comment c 58 (a 58 z i).0 g refl) (λ d z g i. no_fraction c d (a d z i).0 g)
          (λ x less g i n. no_local x less (f g (x ++ less) i) n) (λ d less i n. no n (a d less i).1),
    )

pub single_none : (c : ℕ) (old ts : List ℕ) → old ≡ c ∷ ts → IsMark c → Alone c ts → (c ≡ 42 → (z : List ℕ) → ts ≡ 58 ∷ z → Ends starts_name z) → is_single c ≡ false
    → (b : Bool) → NoneBegins b old
single_none c old ts e m a f h b =
    rw e (mark_none b c ts m h (λ x less g i n. no_local x less (f g (x ++ less) i) n) (λ d less i n. no n (a d less i).1))

-- nothing is left
pub none_empty : (b : Bool) (ts : List ℕ) → ts ≡ [] → NoneBegins b ts
none_empty b ts e = λ k run rest g. some_token run rest g.is_token (sym g.parts ∙ e)

-- no name begins directly after a digit
pub none_behind : (ts : List ℕ) → FirstIs starts_name ts → NoneBegins true ts
none_behind ts (c, rest, e, h) = λ k run less g. g.allowed (rw e (name h))

-- an answer that has no kind
pub none_taken : (r : Option TokenKind) (old new : List ℕ) → r ≡ None → ((b : Bool) → NoneBegins b old) → (b : Bool) → MatchOption r (NoneBegins b old) (λ kind. (run : List ℕ) × Longest b old kind run new)
none_taken None old new e f b = f b
none_taken (Some k) old new e f b = cc
