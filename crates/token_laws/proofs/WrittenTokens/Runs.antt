-- Runs of characters can be written where they stand.
use Rattle.std.proofs.Common.{◌≡◌, ℕ, List, [], ◌∷◌, ◌++◌, map, Bool, true, false, ◌&&◌, ◌||◌}
use Rattle.std.proofs.Common.{◌==◌}
use Rattle.std.proofs.Common.{not, cond, refl, sym, ◌∙◌, ap, subst}
use Rattle.std.proofs.lemmas.Bool.{and_parts, and_from}
use Rattle.std.specs.List.{list_all}
use Rattle.expr_keys.specs.declared.tokens.Token.{Token}
use Rattle.expr_keys.specs.declared.tokens.Token.TheVariants as token
use Rattle.query_pieces.specs.declared.contexts.Context.{Context}
use Rattle.query_pieces.specs.declared.contexts.Context.TheVariants as context
use Rattle.query_pieces.specs.declared.contexts.Quote.TheVariants.{Double as double}
use Rattle.query_pieces.specs.Elements.{is_content, is_value}
use Rattle.query_pages.specs.TokenTexts.Spellings as texts
use Rattle.query_pages.specs.TokenTexts.Written as written
use Rattle.query_pages.specs.TokenTexts.Written.{joins, is_chars, is_piece, is_written_in}
use Rattle.expr_raws.specs.ElementRaws.Runs.{is_markup, is_itself, is_doubled, Run, run}
use Rattle.expr_raws.specs.ElementRaws.Runs.{starts_itself, is_plain, with_char, runs, run_token}
use Rattle.expr_raws.specs.ElementRaws.Runs.{run_tokens}
use Rattle.expr_raws.specs.ElementRaws.Runs.{has_way, can_run}
use Rattle.token_laws.proofs.WrittenTokens.Says.{W}
use Rattle.xt_names.specs.Characters.{is_char, is_referred}

-- where the characters stand
abbrev pub spot : Bool → Context
spot true = context.Attribute double
spot false = context.Content

five : (a b c d e : Bool) → (a || (b || (c || (d || (e || false))))) ≡ (a || b || c || d || e)
five true b c d e = refl
five false true c d e = refl
five false false true d e = refl
five false false false true e = refl
five false false false false true = refl
five false false false false false = refl

eight : (a b c d e f g h : Bool)
    → (a || (b || (c || (d || (e || (f || (g || (h || false))))))))
    ≡ (a || b || c || d || e || f || g || h)
eight true b c d e f g h = refl
eight false true c d e f g h = refl
eight false false true d e f g h = refl
eight false false false true e f g h = refl
eight false false false false true f g h = refl
eight false false false false false true g h = refl
eight false false false false false false true h = refl
eight false false false false false false false true = refl
eight false false false false false false false false = refl

-- the characters that stand for themselves are those of the grammar
itself_same : (x : Bool) (c : ℕ) → is_itself x c ≡ written.is_itself (spot x) c
unfolding is_content is_value
itself_same true c = ap (λ b. is_char c && not b) (eight (c == 34) (c == 60) (c == 38) (c == 123)
    (c == 125) (c == 9) (c == 10) (c == 13))
itself_same false c =
    ap (λ b. is_char c && not b) (five (c == 60) (c == 38) (c == 123) (c == 125) (c == 13))

doubled_same : (x : Bool) (c : ℕ) → is_doubled x c ≡ texts.is_doubled (spot x) c
doubled_same true c = refl
doubled_same false c = refl

none_of_five : (a b c d e : Bool) → not (a || (b || (c || (d || (e || false))))) ≡ true
    → (c || d) ≡ false
none_of_five a b false false e h = refl
none_of_five true b c d e h = absurd (cc)
none_of_five false true c d e h = absurd (cc)
none_of_five false false true d e h = absurd (cc)
none_of_five false false false true e h = absurd (cc)

none_of_eight : (a b c d e f g i : Bool)
    → not (a || (b || (c || (d || (e || (f || (g || (i || false)))))))) ≡ true
    → (a || (d || e)) ≡ false
none_of_eight false b c false false f g i h = refl
none_of_eight true b c d e f g i h = absurd (cc)
none_of_eight false true c d e f g i h = absurd (cc)
none_of_eight false false true d e f g i h = absurd (cc)
none_of_eight false false false true e f g i h = absurd (cc)
none_of_eight false false false false true f g i h = absurd (cc)

-- .. and none of them is doubled
not_doubled : (x : Bool) (c : ℕ) → is_itself x c ≡ true → is_doubled x c ≡ false
not_doubled true c e = none_of_eight (c == 34) (c == 60) (c == 38) (c == 123) (c == 125) (c == 9)
    (c == 10) (c == 13) (and_parts (is_char c) (not (is_markup true c)) e).1
not_doubled false c e = none_of_five (c == 60) (c == 38) (c == 123) (c == 125) (c == 13)
    (and_parts (is_char c) (not (is_markup false c)) e).1

-- a piece of characters
chars_in : (x : Bool) (cs : List Context) (ds : List ℕ) (b : Bool) (ts : List Token)
    → is_chars (spot x) ds b ts ≡ true → W (spot x ∷ cs) ts
    → W (spot x ∷ cs) (token.Chars ds b ∷ ts)
chars_in true cs ds b ts e w = and_from (is_chars (spot true) ds b ts)
    (is_written_in (spot true ∷ cs) ts) e w
chars_in false cs ds b ts e w = and_from (is_chars (spot false) ds b ts)
    (is_written_in (spot false ∷ cs) ts) e w

chars_parts : (x : Bool) (cs : List Context) (ds : List ℕ) (b : Bool) (ts : List Token)
    → W (spot x ∷ cs) (token.Chars ds b ∷ ts)
    → (is_chars (spot x) ds b ts ≡ true) × W (spot x ∷ cs) ts
chars_parts true cs ds b ts w =
    and_parts (is_chars (spot true) ds b ts) (is_written_in (spot true ∷ cs) ts) w
chars_parts false cs ds b ts w =
    and_parts (is_chars (spot false) ds b ts) (is_written_in (spot false ∷ cs) ts) w

or_at : (a b : Bool) → a ≡ true → (a || b) ≡ true
or_at true b e = refl
or_at false b e = absurd (cc)

or_behind : (a b : Bool) → a ≡ false → (a || b) ≡ true → b ≡ true
or_behind true b e h = absurd (cc)
or_behind false b e h = h

or_so : (a b : Bool) → b ≡ true → (a || b) ≡ true
or_so true b e = refl
or_so false b e = e

-- one that stands for itself, before what does not join it
lone_chars : (x : Bool) (c : ℕ) (ts : List Token) → is_itself x c ≡ true
    → joins (spot x) ts ≡ false → is_chars (spot x) (c ∷ []) true ts ≡ true
lone_chars x c ts e j =
    or_so (texts.is_doubled (spot x) c) (written.is_itself (spot x) c && not (joins (spot x) ts))
    (and_from (written.is_itself (spot x) c) (not (joins (spot x) ts)) (sym (itself_same x c) ∙ e)
    (ap not j))

-- .. and before a run that it joins
more_chars : (x : Bool) (c : ℕ) (ds : List ℕ) (ts : List Token) → is_itself x c ≡ true
    → starts_itself x ds ≡ true → is_chars (spot x) ds true ts ≡ true
    → is_chars (spot x) (c ∷ ds) true ts ≡ true
more_chars x c [] ts e s h = absurd (cc)
more_chars x c (d ∷ []) ts e s h =
    let own : ℕ → Bool = λ y. written.is_itself (spot x) y in
    let u = and_parts (own d) (not (joins (spot x) ts)) (or_behind (texts.is_doubled (spot x) d)
    (own d && not (joins (spot x) ts)) (sym (doubled_same x d) ∙ not_doubled x d s) h) in
    and_from (list_all own (c ∷ d ∷ [])) (not (joins (spot x) ts))
    (and_from (own c) (own d && true) (sym (itself_same x c) ∙ e) (and_from
    (own d) true u.0 refl)) u.1
more_chars x c (d ∷ f ∷ ds) ts e s h =
    let own : ℕ → Bool = λ y. written.is_itself (spot x) y in
    let u = and_parts (list_all own (d ∷ f ∷ ds)) (not (joins (spot x) ts)) h in
    and_from (list_all own (c ∷ d ∷ f ∷ ds)) (not (joins (spot x) ts))
    (and_from (own c) (list_all own (d ∷ f ∷ ds)) (sym (itself_same x c) ∙ e) u.0) u.1

-- a run that is not of characters that stand for themselves joins nothing
apart : (x : Bool) (ds : List ℕ) (b : Bool) (ts : List Token)
    → (b && starts_itself x ds) ≡ false → joins (spot x) (token.Chars ds b ∷ ts) ≡ false
apart x [] true ts e = refl
apart x [] false ts e = refl
apart x (d ∷ ds) true ts e = sym (itself_same x d) ∙ e
apart x (d ∷ ds) false ts e = refl

abbrev told : List Run → List Token
told rs = map (λ r. run_token r) rs

with_char_in : (x : Bool) (cs : List Context) (c : ℕ) (rs : List Run) (ts : List Token)
    → is_itself x c ≡ true → joins (spot x) ts ≡ false → W (spot x ∷ cs) (told rs ++ ts)
    → W (spot x ∷ cs) (told (with_char x c rs) ++ ts)
with_char_in x cs c [] ts e j w = chars_in x cs (c ∷ []) true ts (lone_chars x c ts e j) w
with_char_in x cs c (r ∷ rs) ts e j w = go (is_plain x r) refl
  where
    goes : r.literal ≡ true → starts_itself x r.characters ≡ true
        → W (spot x ∷ cs) (token.Chars (c ∷ r.characters) true ∷ (told rs ++ ts))
    goes l s =
        let u = chars_parts x cs r.characters r.literal (told rs ++ ts) w in
        chars_in x cs (c ∷ r.characters) true (told rs ++ ts)
        (more_chars x c r.characters (told rs ++ ts) e s
        (subst (λ b. is_chars (spot x) r.characters b (told rs ++ ts) ≡ true) l u.0)) u.1

    go : (b : Bool) → is_plain x r ≡ b → W (spot x ∷ cs)
        (told (cond b (run (c ∷ r.characters) true ∷ rs) (run (c ∷ []) true ∷ r ∷ rs)) ++ ts)
    go true p =
        let u = and_parts r.literal (starts_itself x r.characters) p in goes u.0 u.1
    go false p = chars_in x cs (c ∷ []) true (told (r ∷ rs) ++ ts)
        (lone_chars x c (told (r ∷ rs) ++ ts) e
        (apart x r.characters r.literal (told rs ++ ts) p)) w

-- one that does not stand for itself
other_chars : (x : Bool) (c : ℕ) (ts : List Token) → is_itself x c ≡ false → has_way x c ≡ true
    → is_chars (spot x) (c ∷ []) (is_doubled x c) ts ≡ true
other_chars x c ts e h = go (is_doubled x c) refl
  where
    go : (b : Bool) → is_doubled x c ≡ b → is_chars (spot x) (c ∷ []) b ts ≡ true
    go true d = or_at (texts.is_doubled (spot x) c)
        (written.is_itself (spot x) c && not (joins (spot x) ts)) (sym (doubled_same x c) ∙ d)
    go false d = or_behind (is_doubled x c) (is_referred c) d
        (or_behind (is_itself x c) (is_doubled x c || is_referred c) e h)

pub runs_in : (x : Bool) (cs : List Context) (ds : List ℕ) (ts : List Token)
    → list_all (has_way x) ds ≡ true → joins (spot x) ts ≡ false → W (spot x ∷ cs) ts
    → W (spot x ∷ cs) (run_tokens x ds ++ ts)
runs_in x cs [] ts h j w = w
runs_in x cs (c ∷ ds) ts h j w = go (is_itself x c) refl
    (runs_in x cs ds ts (and_parts (has_way x c) (list_all (has_way x) ds) h).1 j w)
  where
    go : (b : Bool) → is_itself x c ≡ b → W (spot x ∷ cs) (told (runs x ds) ++ ts)
        → W (spot x ∷ cs) (told (cond b (with_char x c (runs x ds))
        (run (c ∷ []) (is_doubled x c) ∷ runs x ds)) ++ ts)
    go true e more = with_char_in x cs c (runs x ds) ts e j more
    go false e more = chars_in x cs (c ∷ []) (is_doubled x c) (told (runs x ds) ++ ts)
        (other_chars x c (told (runs x ds) ++ ts) e
        (and_parts (has_way x c) (list_all (has_way x) ds) h).0) more

-- some characters are told by some run, so that what comes after them is what is left
pub can_parts : (x : Bool) (ds : List ℕ) → can_run x ds ≡ true → list_all (has_way x) ds ≡ true
can_parts x [] e = absurd (cc)
can_parts x (d ∷ ds) e = e
