-- Each piece is read back in its context.
use Rattle.std.proofs.Common.{◌≡◌, ℕ, List, [], ◌∷◌, ◌++◌, Bool, true, false, not, ◌==◌, ◌||◌, ◌&&◌}
use Rattle.std.proofs.Common.{Some, None, refl, sym, ap, subst, append_assoc}
use Rattle.std.proofs.lemmas.Bool.{and_parts, eqb-true, false_from_ne_true}
use Rattle.std.specs.List.{list_all, list_any}
use Rattle.xt_names.specs.Classes.{is_ncname_text, is_in_ranges}
use Rattle.xpath_lex.specs.Classes.{is_digit}
use Rattle.xpath_lex.proofs.KindLemmas.{name_parts}
use Rattle.expr_keys.specs.declared.tokens.Token.{Token}
use Rattle.expr_keys.specs.declared.tokens.Token.TheVariants as token
use Rattle.query_pieces.specs.declared.contexts.Quote.TheVariants.{Double as double}
use Rattle.query_pieces.specs.declared.contexts.Context.{Context}
use Rattle.query_pieces.specs.declared.contexts.Context.TheVariants.{Tag as tag, Content as content}
use Rattle.query_pieces.specs.declared.contexts.Context.TheVariants.{Attribute as attribute}
use Rattle.query_pieces.specs.Fronts.{eaten, spaces}
use Rattle.query_pieces.specs.References.{digit, value}
use Rattle.query_pieces.specs.Elements.{is_content, is_value, content_piece}
use Rattle.query_pieces.specs.Elements.{tag_piece, piece_at}
use Rattle.query_pieces.proofs.FrontLemmas.{run_is}
use Rattle.query_pages.specs.TokenTexts.Spellings.{name_text, reference_text, is_doubled, piece_text}
use Rattle.query_pages.specs.TokenTexts.Texts.{piece_change}
use Rattle.query_pages.specs.TokenTexts.Written.{is_named, is_itself, joins, is_chars}
use Rattle.query_pages.proofs.TokenTexts.Names.{NameEnds, name_back}
use Rattle.query_pages.proofs.TokenTexts.Spaces.{space_start}
use Rattle.xt_names.proofs.BoolLemmas.{either, no, one_of, not_true}
use Rattle.xt_names.specs.Characters.{is_space, is_char, is_name_char, starts_name, Ends, is_referred}

-- the first character of a name
pub record Front (ts : List ℕ) : Type 0 where
  pub first : ℕ
  pub more : List ℕ
  pub is : ts ≡ first ∷ more
  pub starts : starts_name first ≡ true

pub name_front : (p n rest : List ℕ) → is_named p n ≡ true → Front (name_text p n ++ rest)
name_front [] n rest h =
    let a = name_parts n h in
    record {
      first = a.first;
      more = a.others ++ rest;
      is = ap (λ x. x ++ rest) a.is;
      starts = a.starts;
    }
name_front (c ∷ cs) n rest h =
    let a = name_parts (c ∷ cs) (and_parts (is_ncname_text (c ∷ cs)) (is_ncname_text n) h).0 in
    record {
      first = a.first;
      more = (a.others ++ 58 ∷ n) ++ rest;
      is = ap (λ x. (x ++ 58 ∷ n) ++ rest) a.is;
      starts = a.starts;
    }

not_start : (d : ℕ) → starts_name d ≡ false → (ts : List ℕ) → Front ts → eaten d ts ≡ None
not_start d n ts f = rw f.is (rw (false_from_ne_true (f.first == d) (λ e. no f.starts
    (rw (eqb-true f.first d e) n))) refl)

no_spaces : (ts : List ℕ) → Front ts → spaces ts ≡ ts
no_spaces ts f = rw f.is (rw (false_from_ne_true (is_space f.first) (λ e. no f.starts
    (space_start f.first e))) refl)

bracket_start : starts_name 62 ≡ false
unfolding starts_name is_in_ranges
bracket_start = refl

slash_start : starts_name 47 ≡ false
unfolding starts_name is_in_ranges
slash_start = refl

pub ends_at : (c : ℕ) (rest : List ℕ) → is_name_char c ≡ false → (c == 58) ≡ false
    → NameEnds (c ∷ rest)
ends_at c rest h n = record { ends = h; no_local = rw n refl }

pub equal_ends : (rest : List ℕ) → NameEnds (61 ∷ rest)
unfolding is_name_char is_in_ranges
equal_ends rest = ends_at 61 rest refl refl

pub bracket_ends : (rest : List ℕ) → NameEnds (62 ∷ rest)
unfolding is_name_char is_in_ranges
bracket_ends rest = ends_at 62 rest refl refl

pub slash_ends : (rest : List ℕ) → NameEnds (47 ∷ rest)
unfolding is_name_char is_in_ranges
slash_ends rest = ends_at 47 rest refl refl

pub space_ends : (rest : List ℕ) → NameEnds (32 ∷ rest)
unfolding is_name_char is_in_ranges
space_ends rest = ends_at 32 rest refl refl

abbrev Reads : Context → Token → List ℕ → Type 0
Reads x t rest = piece_at x (piece_text x t ++ rest)
    ≡ Some (record { token = t; change = piece_change t; rest = rest })

-- tags

pub tag_end_read : (rest : List ℕ) → Reads tag token.TagEnd rest
unfolding is_space
tag_end_read rest = refl

pub empty_end_read : (rest : List ℕ) → Reads tag token.EmptyEnd rest
unfolding is_space
empty_end_read rest = refl

equal_spaces : (rest : List ℕ) → spaces (61 ∷ rest) ≡ 61 ∷ rest
unfolding is_space
equal_spaces rest = refl

quote_spaces : (rest : List ℕ) → spaces (34 ∷ rest) ≡ 34 ∷ rest
unfolding is_space
quote_spaces rest = refl

space_spaces : (ts : List ℕ) → spaces (32 ∷ ts) ≡ spaces ts
unfolding is_space
space_spaces ts = refl

space_is : is_space 32 ≡ true
unfolding is_space
space_is = refl

pub attribute_read : (p n rest : List ℕ) → is_named p n ≡ true
    → Reads tag (token.Attribute p n) rest
attribute_read p n rest h =
    let ts : List ℕ = name_text p n ++ 61 ∷ 34 ∷ rest in
    let f = name_front p n (61 ∷ 34 ∷ rest) h in
    let back = name_back p n (61 ∷ 34 ∷ rest) h (equal_ends (34 ∷ rest)) in
    let at : tag_piece (32 ∷ ts) ≡ Some (record {
      token = token.Attribute p n;
      change = piece_change (token.Attribute p n);
      rest = rest;
    }) =
    rw (
      space_spaces ts,
      no_spaces ts f,
      not_start 62 bracket_start ts f,
      not_start 47 slash_start ts f,
      space_is,
      back,
      equal_spaces (34 ∷ rest),
      quote_spaces rest,
    ) refl
    in
    subst (λ us. tag_piece (32 ∷ us) ≡ Some (record {
      token = token.Attribute p n;
      change = piece_change (token.Attribute p n);
      rest = rest;
    }))
    (sym (append_assoc (name_text p n) (61 ∷ 34 ∷ []) rest)) at

-- content

pub inner_read : (p n rest : List ℕ) → is_named p n ≡ true → NameEnds rest
    → Reads content (token.ChildTagOpen p n) rest
unfolding is_content is_char is_in_ranges
inner_read p n rest h e =
    let ts : List ℕ = name_text p n ++ rest in
    rw (not_start 47 slash_start ts (name_front p n rest h), name_back p n rest h e) refl

bracket_spaces : (rest : List ℕ) → spaces (62 ∷ rest) ≡ 62 ∷ rest
unfolding is_space
bracket_spaces rest = refl

pub shut_read : (p n rest : List ℕ) → is_named p n ≡ true → Reads content (token.EndTag p n) rest
unfolding is_content is_char is_in_ranges
shut_read p n rest h =
    let back = name_back p n (62 ∷ rest) h (bracket_ends rest) in
    let at : content_piece (60 ∷ 47 ∷ (name_text p n ++ 62 ∷ rest)) ≡ Some (record {
      token = token.EndTag p n;
      change = piece_change (token.EndTag p n);
      rest = rest;
    }) =
    rw (back, bracket_spaces rest) refl in
    subst (λ us. content_piece (60 ∷ 47 ∷ us) ≡ Some (record {
      token = token.EndTag p n;
      change = piece_change (token.EndTag p n);
      rest = rest;
    }))
    (sym (append_assoc (name_text p n) (62 ∷ []) rest)) at

pub content_enter : (rest : List ℕ) → eaten 123 rest ≡ None → Reads content token.EnclosedOpen rest
unfolding is_content is_char is_in_ranges
content_enter rest e = rw e refl

abbrev Runs : Context → (ℕ → Bool) → Type 0
Runs x p = (c : ℕ) (cs rest : List ℕ) → list_all p (c ∷ cs) ≡ true → Ends p rest
    → piece_at x ((c ∷ cs) ++ rest) ≡ Some (record {
      token = token.Chars (c ∷ cs) true;
      change = piece_change (token.Chars (c ∷ cs) true);
      rest = rest;
    })

content_run : Runs content is_content
content_run c cs rest a e =
    let r = run_is is_content (c ∷ cs) rest ((c ∷ cs) ++ rest) refl a e in rw (← r.0, ← r.1) refl

value_run : Runs (attribute double) (is_value double)
value_run c cs rest a e =
    let r = run_is (is_value double) (c ∷ cs) rest ((c ∷ cs) ++ rest) refl a e in
    rw (← r.0, ← r.1) refl

abbrev Doubles : Context → ℕ → Type 0
Doubles x c = (rest : List ℕ) → piece_at x (c ∷ c ∷ rest) ≡ Some (record {
  token = token.Chars (c ∷ []) true;
  change = piece_change (token.Chars (c ∷ []) true);
  rest = rest;
})

content_doubles : (c : ℕ) → is_doubled content c ≡ true → Doubles content c
unfolding is_content is_char is_in_ranges
content_doubles c h rest = one_of (piece_at content (c ∷ c ∷ rest) ≡ Some (record {
  token = token.Chars (c ∷ []) true;
  change = piece_change (token.Chars (c ∷ []) true);
  rest = rest;
})) (c == 123) (c == 125) (λ e. rw (eqb-true c 123 e) refl)
    (λ e. rw (eqb-true c 125 e) refl) h

value_doubles : (c : ℕ) → is_doubled (attribute double) c ≡ true → Doubles (attribute double) c
unfolding is_value is_char is_in_ranges is_space
value_doubles c h rest = one_of (piece_at (attribute double) (c ∷ c ∷ rest) ≡ Some (record {
  token = token.Chars (c ∷ []) true;
  change = piece_change (token.Chars (c ∷ []) true);
  rest = rest;
})) (c == 34) (c == 123 || c == 125) (λ e. rw (eqb-true c 34 e) refl)
    (λ i. one_of (piece_at (attribute double) (c ∷ c ∷ rest) ≡ Some (record {
      token = token.Chars (c ∷ []) true;
      change = piece_change (token.Chars (c ∷ []) true);
      rest = rest;
    })) (c == 123) (c == 125) (λ e. rw (eqb-true c 123 e) refl)
    (λ e. rw (eqb-true c 125 e) refl) i) h

-- by cases on the characters that references are written for
pub refers : (P : ℕ → Type 0) → P 38 → P 60 → P 62 → P 34 → P 39 → P 9 → P 10 → P 13
    → P 32 → (c : ℕ) → is_referred c ≡ true → P c
refers P a b d e f i j k l c h =
    at 38 a (60 ∷ 62 ∷ 34 ∷ 39 ∷ 9 ∷ 10 ∷ 13 ∷ 32 ∷ [])
    (at 60 b (62 ∷ 34 ∷ 39 ∷ 9 ∷ 10 ∷ 13 ∷ 32 ∷ [])
    (at 62 d (34 ∷ 39 ∷ 9 ∷ 10 ∷ 13 ∷ 32 ∷ []) (at 34 e (39 ∷ 9 ∷ 10 ∷ 13 ∷ 32 ∷ [])
    (at 39 f (9 ∷ 10 ∷ 13 ∷ 32 ∷ []) (at 9 i (10 ∷ 13 ∷ 32 ∷ []) (at 10 j (13 ∷ 32 ∷ [])
    (at 13 k (32 ∷ []) (at 32 l [] (λ g. absurd (cc)))))))))) h
  where
    at : (d : ℕ) → P d → (ds : List ℕ) → (list_any (λ x. c == x) ds ≡ true → P c)
        → list_any (λ x. c == x) (d ∷ ds) ≡ true → P c
    at d p ds more h = one_of (P c) (c == d) (list_any (λ x. c == x) ds)
        (λ e. subst P (sym (eqb-true c d e)) p) more h

abbrev Refers : Context → ℕ → Type 0
Refers x c = (rest : List ℕ) → piece_at x (reference_text c ++ rest) ≡ Some (record {
  token = token.Chars (c ∷ []) false;
  change = piece_change (token.Chars (c ∷ []) false);
  rest = rest;
})

content_refers : (c : ℕ) → is_referred c ≡ true → Refers content c
unfolding is_content is_char is_name_char is_digit digit value is_in_ranges
content_refers = refers (Refers content) (λ r. refl) (λ r. refl) (λ r. refl) (λ r. refl)
    (λ r. refl) (λ r. refl) (λ r. refl) (λ r. refl) (λ r. refl)

value_refers : (c : ℕ) → is_referred c ≡ true → Refers (attribute double) c
unfolding is_value is_char is_name_char is_digit digit value is_in_ranges is_space
value_refers = refers (Refers (attribute double)) (λ r. refl) (λ r. refl) (λ r. refl) (λ r. refl)
    (λ r. refl) (λ r. refl) (λ r. refl) (λ r. refl) (λ r. refl)

pub value_enter : (rest : List ℕ) → eaten 123 rest ≡ None
    → Reads (attribute double) token.EnclosedOpen rest
unfolding is_value is_char is_in_ranges is_space
value_enter rest e = rw e refl

pub unquote_read : (rest : List ℕ) → eaten 34 rest ≡ None
    → Reads (attribute double) token.AttributeEnd rest
unfolding is_value is_char is_in_ranges is_space
unquote_read rest e = rw e refl

module _ (x : Context) (runs : Runs x (is_itself x))
    (doubles : (c : ℕ) → is_doubled x c ≡ true → Doubles x c)
    (referred : (c : ℕ) → is_referred c ≡ true → Refers x c) where
  joined : (cs rest : List ℕ) (b : Bool) (ts : List Token) → is_chars x cs b ts ≡ true
      → (joins x ts ≡ false → Ends (is_itself x) rest) → Reads x (token.Chars cs b) rest
  joined [] rest b ts h e = absurd (cc)
  joined (c ∷ []) rest false ts h e = referred c h rest
  joined (c ∷ d ∷ cs) rest false ts h e = absurd (cc)
  joined (c ∷ []) rest true ts h e = either (is_doubled x c)
      (λ b. rw b (doubles c b rest))
      (λ b. (let i : (is_itself x c && not (joins x ts)) ≡ true = rw b at h in
      let j = and_parts (is_itself x c) (not (joins x ts)) i in
      rw b (runs c [] rest (rw j.0 refl) (e (not_true j.1)))))
  joined (c ∷ d ∷ cs) rest true ts h e =
      let j = and_parts (list_all (is_itself x) (c ∷ d ∷ cs)) (not (joins x ts)) h in
      runs c (d ∷ cs) rest j.0 (e (not_true j.1))

pub content_chars : (cs rest : List ℕ) (b : Bool) (ts : List Token)
    → is_chars content cs b ts ≡ true
    → (joins content ts ≡ false → Ends is_content rest) → Reads content (token.Chars cs b) rest
content_chars = joined content content_run content_doubles content_refers

pub value_chars : (cs rest : List ℕ) (b : Bool) (ts : List Token)
    → is_chars (attribute double) cs b ts ≡ true
    → (joins (attribute double) ts ≡ false → Ends (is_value double) rest)
    → Reads (attribute double) (token.Chars cs b) rest
value_chars = joined (attribute double) value_run value_doubles value_refers
