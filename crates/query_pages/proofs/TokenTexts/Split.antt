-- The text of tokens is split into them.
use Rattle.std.proofs.Common.{◌≡◌, ℕ, List, [], ◌∷◌, ◌++◌, Bool, true, false, cond, ◌&&◌}
use Rattle.std.proofs.Common.{◌==◌, Some, None, refl, sym, ap, subst, codes}
use Rattle.std.proofs.lemmas.Bool.{and_parts, eqb-true, false_from_ne_true}
use Rattle.std.specs.List.{list_all}
use Rattle.std.specs.Str.{bytes_eq}
use Rattle.xt_names.specs.Classes.{is_in_ranges}
use Rattle.xpath_lex.specs.Gaps.{none}
use Rattle.xpath_lex.specs.Tokens.{Longest}
use Rattle.xpath_lex.specs.declared.lexing.TokenKind.TheVariants.{Symbol}
use Rattle.expr_keys.specs.declared.keys.Key.TheVariants as key
use Rattle.expr_keys.specs.declared.tokens.Token.{Token}
use Rattle.expr_keys.specs.declared.tokens.Token.TheVariants as token
use Rattle.query_pieces.specs.declared.contexts.Quote.TheVariants.{Double as double}
use Rattle.query_pieces.specs.declared.contexts.Context.{Context}
use Rattle.query_pieces.specs.declared.contexts.Context.TheVariants.{Enclosed as enclosed}
use Rattle.query_pieces.specs.declared.contexts.Context.TheVariants.{Tag as tag}
use Rattle.query_pieces.specs.declared.contexts.Context.TheVariants.{Attribute as attribute}
use Rattle.query_pieces.specs.declared.contexts.Context.TheVariants.{Content as content}
use Rattle.query_pieces.specs.declared.contexts.Before.{Before}
use Rattle.query_pieces.specs.declared.contexts.Before.TheVariants.{Integer as integer}
use Rattle.query_pieces.specs.declared.contexts.Before.TheVariants.{Slash as slash_key}
use Rattle.query_pieces.specs.declared.contexts.Before.TheVariants.{Other as other}
use Rattle.query_pieces.specs.declared.contexts.Change.{Change}
use Rattle.query_pieces.specs.Points.{Point, start, in_expression, changed, change_of, before_of}
use Rattle.query_pieces.specs.Fronts.{begins, eaten}
use Rattle.query_pieces.specs.Spellings.{others}
use Rattle.query_pieces.specs.Elements.{is_content, is_value, piece_at}
use Rattle.query_pieces.specs.Readings.{touches, may_open, opens, IsNext, spelled, opened}
use Rattle.query_pieces.specs.Readings.{parted, Splits, over, reads}
use Rattle.query_pages.specs.TokenTexts.Spellings.{name_text, token_text, reference_text, is_doubled}
use Rattle.query_pages.specs.TokenTexts.Spellings.{piece_text}
use Rattle.query_pages.specs.TokenTexts.Texts.{Layout, is_gap, IsLayout, piece_change, innermost}
use Rattle.query_pages.specs.TokenTexts.Texts.{behind_token, behind_piece, text_in, text_of}
use Rattle.query_pages.specs.TokenTexts.Written.{is_token, joins, is_piece}
use Rattle.query_pages.specs.TokenTexts.Written.{is_written_in, is_written}
use Rattle.query_pages.proofs.TokenTexts.Spaces.{Spaced, space_start, placed, comes}
use Rattle.query_pages.proofs.TokenTexts.Names.{NameEnds, name_back}
use Rattle.query_pages.proofs.TokenTexts.Keys.{brace_longest, less_longest}
use Rattle.query_pages.proofs.TokenTexts.Tokens.{Goes, on, within, Sort, brace, front}
use Rattle.query_pages.proofs.TokenTexts.Tokens.{plain, sort_of}
use Rattle.query_pages.proofs.TokenTexts.Pieces.{name_front, bracket_ends, slash_ends, space_ends}
use Rattle.query_pages.proofs.TokenTexts.Pieces.{tag_end_read, empty_end_read, attribute_read, inner_read}
use Rattle.query_pages.proofs.TokenTexts.Pieces.{shut_read, content_enter, value_enter, unquote_read}
use Rattle.query_pages.proofs.TokenTexts.Pieces.{content_chars, value_chars, refers}
use Rattle.xt_names.specs.Characters.{is_space, is_char, starts_name, Ends, is_referred}
use Rattle.xt_names.proofs.BoolLemmas.{no}

gap_spaced : (gap rest : List ℕ) → is_gap gap ≡ true → Spaced (gap ++ rest)
gap_spaced [] rest e = absurd (cc)
gap_spaced (c ∷ cs) rest e = (and_parts (is_space c) (list_all is_space cs) e).0

gap_all : (gap : List ℕ) → is_gap gap ≡ true → list_all is_space gap ≡ true
gap_all [] e = refl
gap_all (c ∷ cs) e = e

not_begun : (rest : List ℕ) → Spaced rest → begins starts_name rest ≡ false
not_begun [] s = refl
not_begun (c ∷ cs) s = space_start c s

untouched : (b : Before) (rest : List ℕ) → begins starts_name rest ≡ false
    → touches b rest ≡ false
untouched integer rest e = e
untouched slash_key rest e = refl
untouched other rest e = refl

not_brace : (rest : List ℕ) → Spaced rest → eaten 123 rest ≡ None
unfolding is_space
not_brace [] s = refl
not_brace (c ∷ cs) s =
    rw (false_from_ne_true (c == 123) (λ e. no (rw (eqb-true c 123 e) at s) refl)) refl

opens_not : (operand : Bool) (b : Before) (run rest : List ℕ) → begins starts_name rest ≡ false
    → opens operand b run rest ≡ false
opens_not operand b run rest e = rw e (go (may_open operand b) (bytes_eq run (codes "<")))
  where
    go : (x y : Bool) → (x && (y && false)) ≡ false
    go true true = refl
    go true false = refl
    go false y = refl

may : (b : Before) → may_open true b ≡ true
may integer = refl
may slash_key = refl
may other = refl

brace_apart : (b : Before) (rest : List ℕ) → opens false b (125 ∷ []) rest ≡ false
brace_apart integer rest = refl
brace_apart slash_key rest = refl
brace_apart other rest = refl

abbrev point : List Context → Before → List ℕ → Point
point cs b rest = record { contexts = cs; before = b; rest = rest }

abbrev OnTag : List Context → Type 0
OnTag (tag ∷ cs) = Unit {0}
OnTag _ = ⊥

-- values of attributes stand in tags
abbrev Nested : List Context → Type 0
Nested [] = Unit {0}
Nested (attribute q ∷ cs) = OnTag cs × Nested cs
Nested (c ∷ cs) = Nested cs

nested_piece : (c : Context) (cs : List Context) (t : Token) (ts : List Token)
    → in_expression (c ∷ cs) ≡ false → is_piece c t ts ≡ true → Nested (c ∷ cs)
    → Nested (behind_piece (c ∷ cs) t)
nested_piece tag cs (token.Attribute p n) ts i e h = (tt, h)
nested_piece tag cs token.TagEnd ts i e h = h
nested_piece tag cs token.EmptyEnd ts i e h = h
nested_piece (attribute double) cs (token.Chars ds b) ts i e h = h
nested_piece (attribute double) cs token.EnclosedOpen ts i e h = h
nested_piece (attribute double) cs token.AttributeEnd ts i e h = h.1
nested_piece content cs (token.Chars ds b) ts i e h = h
nested_piece content cs token.EnclosedOpen ts i e h = h
nested_piece content cs (token.ChildTagOpen p n) ts i e h = h
nested_piece content cs (token.EndTag p n) ts i e h = h
nested_piece _ cs t ts i e h = absurd (cc)

nested_goes : (c : Change) → Goes c → (cs : List Context) → Nested cs → Nested (changed c cs)
nested_goes _ on cs h = h
nested_goes _ within cs h = h

nested_outside : (cs : List Context) → in_expression cs ≡ true → Nested cs
    → Nested (behind_token cs (token.Key key.CloseBrace))
nested_outside [] i h = tt
nested_outside (enclosed ∷ cs) i h = h
nested_outside (_ ∷ cs) i h = absurd (cc)

inside_goes : (c : Change) → Goes c → (cs : List Context) → in_expression cs ≡ true
    → in_expression (changed c cs) ≡ true
inside_goes _ on cs i = i
inside_goes _ within cs i = refl

module _ (g : Layout) (layout : IsLayout g) where
  spaced_in : (cs : List Context) (ts : List Token) → in_expression cs ≡ true
      → Spaced (text_in g cs ts)
  spaced_in cs [] e = tt
  spaced_in cs (t ∷ ts) e = rw e (gap_spaced (g (t ∷ ts)) _ (layout (t ∷ ts)))

  -- what may follow in a tag
  tag_ends : (cs : List Context) (ts : List Token) → is_written_in (tag ∷ cs) ts ≡ true
      → NameEnds (text_in g (tag ∷ cs) ts)
  tag_ends cs [] e = absurd (cc)
  tag_ends cs (token.Attribute p n ∷ ts) e = space_ends _
  tag_ends cs (token.TagEnd ∷ ts) e = bracket_ends _
  tag_ends cs (token.EmptyEnd ∷ ts) e = slash_ends _
  tag_ends cs (_ ∷ ts) e = absurd (cc)

  no_quote : (cs : List Context) (ts : List Token) → is_written_in (tag ∷ cs) ts ≡ true
      → eaten 34 (text_in g (tag ∷ cs) ts) ≡ None
  no_quote cs [] e = absurd (cc)
  no_quote cs (token.Attribute p n ∷ ts) e = refl
  no_quote cs (token.TagEnd ∷ ts) e = refl
  no_quote cs (token.EmptyEnd ∷ ts) e = refl
  no_quote cs (_ ∷ ts) e = absurd (cc)

  run_ends : (p : ℕ → Bool) (c : ℕ) (cs rest : List ℕ) (b : Bool) → p c ≡ false
      → Ends p (cond b (c ∷ c ∷ []) (c ∷ []) ++ rest)
  run_ends p c cs rest true e = e
  run_ends p c cs rest false e = e

  reference_ends : (p : ℕ → Bool) → p 38 ≡ false → (c : ℕ) → is_referred c ≡ true
      → (rest : List ℕ) → Ends p (reference_text c ++ rest)
  reference_ends p e c h rest = refers (λ d. Ends p (reference_text d ++ rest)) e e e e e e e e e c h

  content_ends : (cs : List Context) (ts : List Token) → is_written_in (content ∷ cs) ts ≡ true
      → joins content ts ≡ false → Ends is_content (text_in g (content ∷ cs) ts)
  unfolding is_content is_char is_in_ranges
  content_ends cs [] e j = tt
  content_ends cs (token.Chars [] b ∷ ts) e j = absurd (cc)
  content_ends cs (token.Chars (c ∷ []) true ∷ ts) e j =
      run_ends is_content c [] _ (is_doubled content c) j
  content_ends cs (token.Chars (c ∷ d ∷ ds) true ∷ ts) e j = j
  content_ends cs (token.Chars (c ∷ []) false ∷ ts) e j =
      reference_ends is_content refl c (and_parts (is_referred c) _ e).0 _
  content_ends cs (token.Chars (c ∷ d ∷ ds) false ∷ ts) e j = absurd (cc)
  content_ends cs (token.EnclosedOpen ∷ ts) e j = refl
  content_ends cs (token.ChildTagOpen p n ∷ ts) e j = refl
  content_ends cs (token.EndTag p n ∷ ts) e j = refl
  content_ends cs (_ ∷ ts) e j = absurd (cc)

  value_ends : (cs : List Context) (ts : List Token)
      → is_written_in (attribute double ∷ cs) ts ≡ true
      → joins (attribute double) ts ≡ false
      → Ends (is_value double) (text_in g (attribute double ∷ cs) ts)
  unfolding is_value is_char is_in_ranges
  value_ends cs [] e j = tt
  value_ends cs (token.Chars [] b ∷ ts) e j = absurd (cc)
  value_ends cs (token.Chars (c ∷ []) true ∷ ts) e j =
      run_ends (is_value double) c [] _ (is_doubled (attribute double) c) j
  value_ends cs (token.Chars (c ∷ d ∷ ds) true ∷ ts) e j = j
  value_ends cs (token.Chars (c ∷ []) false ∷ ts) e j =
      reference_ends (is_value double) refl c (and_parts (is_referred c) _ e).0 _
  value_ends cs (token.Chars (c ∷ d ∷ ds) false ∷ ts) e j = absurd (cc)
  value_ends cs (token.EnclosedOpen ∷ ts) e j = refl
  value_ends cs (token.AttributeEnd ∷ ts) e j = refl
  value_ends cs (_ ∷ ts) e j = absurd (cc)

  -- a piece is read where it stands
  piece_read : (c : Context) (cs : List Context) (t : Token) (ts : List Token)
      → in_expression (c ∷ cs) ≡ false → Nested (c ∷ cs) → is_piece c t ts ≡ true
      → is_written_in (behind_piece (c ∷ cs) t) ts ≡ true
      → piece_at c (piece_text c t ++ text_in g (behind_piece (c ∷ cs) t) ts)
      ≡ Some (record {
        token = t;
        change = piece_change t;
        rest = text_in g (behind_piece (c ∷ cs) t) ts;
      })
  piece_read tag cs (token.Attribute p n) ts i h e w = attribute_read p n _ e
  piece_read tag cs token.TagEnd ts i h e w = tag_end_read _
  piece_read tag cs token.EmptyEnd ts i h e w = empty_end_read _
  piece_read (attribute double) cs (token.Chars ds b) ts i h e w =
      value_chars ds _ b ts e (λ j. value_ends cs ts w j)
  piece_read (attribute double) cs token.EnclosedOpen ts i h e w =
      value_enter _ (not_brace _ (spaced_in (enclosed ∷ attribute double ∷ cs) ts refl))
  piece_read (attribute double) (tag ∷ cs) token.AttributeEnd ts i h e w =
      unquote_read _ (no_quote cs ts w)
  piece_read (attribute double) cs token.AttributeEnd ts i h e w = absurd h.0
  piece_read content cs (token.Chars ds b) ts i h e w =
      content_chars ds _ b ts e (λ j. content_ends cs ts w j)
  piece_read content cs token.EnclosedOpen ts i h e w =
      content_enter _ (not_brace _ (spaced_in (enclosed ∷ content ∷ cs) ts refl))
  piece_read content cs (token.ChildTagOpen p n) ts i h e w =
      inner_read p n _ e (tag_ends (content ∷ cs) ts w)
  piece_read content cs (token.EndTag p n) ts i h e w = shut_read p n _ e
  piece_read _ cs t ts i h e w = absurd (cc)

  -- what is left where a token was read
  step : (cs : List Context) (b : Before) (gap : List ℕ) (t : Token) (ts : List Token)
      → in_expression cs ≡ true → list_all is_space gap ≡ true
      → touches b (gap ++ (token_text t ++ text_in g (behind_token cs t) ts)) ≡ false
      → Sort t → is_written_in (behind_token cs t) ts ≡ true
      → Splits (point (behind_token cs t) (before_of t) (text_in g (behind_token cs t) ts)) ts
      → Splits (point cs b (gap ++ (token_text t ++ text_in g (behind_token cs t) ts))) (t ∷ ts)
  step cs b gap _ ts i a u brace w more =
      let rest : List ℕ = text_in g (behind_token cs (token.Key key.CloseBrace)) ts in
      let next : IsNext (point cs b (gap ++ (125 ∷ rest))) (placed Symbol gap (125 ∷ [])) rest =
      record {
        inside = i;
        apart = u;
        token = comes Symbol gap (125 ∷ []) rest a (brace_longest rest);
      } in
      reads {operand = false} (spelled next (brace_apart b rest) (others refl refl) refl) more
  step cs b gap _ ts i a u (front {p = p} {n = n} h) w more =
      let rest : List ℕ = text_in g (tag ∷ cs) ts in
      let name : List ℕ = name_text p n ++ rest in
      let f = name_front p n rest h in
      let longest = subst (λ us. Longest false (60 ∷ us) Symbol (60 ∷ []) us) (sym f.is)
      (less_longest f.first f.more f.starts) in
      let next : IsNext (point cs b (gap ++ (60 ∷ name))) (placed Symbol gap (60 ∷ [])) name =
      record { inside = i; apart = u; token = comes Symbol gap (60 ∷ []) name a longest } in
      let starts : begins starts_name name ≡ true = rw f.is f.starts in
      reads {operand = true} (opened next (rw (may b, starts) refl)
      (name_back p n rest h (tag_ends cs ts w)) refl refl) more
  step cs b gap t ts i a u (plain r same goes) w more =
      let rest : List ℕ = text_in g (behind_token cs t) ts in
      let inside : in_expression (behind_token cs t) ≡ true =
      rw same (inside_goes (change_of t) goes cs i) in
      let spaced : Spaced rest = spaced_in (behind_token cs t) ts inside in
      let next : IsNext (point cs b (gap ++ (token_text t ++ rest)))
      (placed r.kind gap (token_text t)) rest =
      record {
        inside = i;
        apart = u;
        token = comes r.kind gap (token_text t) rest a (r.longest rest spaced);
      } in
      reads {operand = false} (spelled next (opens_not false b (token_text t) rest
      (not_begun rest spaced)) r.spells
      (ap (λ c. point (changed c cs) (before_of t) rest) same)) more

  nested_token : (cs : List Context) (t : Token) → Sort t → in_expression cs ≡ true → Nested cs
      → Nested (behind_token cs t)
  nested_token cs _ brace i h = nested_outside cs i h
  nested_token cs _ (front k) i h = h
  nested_token cs t (plain r same goes) i h = rw same (nested_goes (change_of t) goes cs h)

  splits : (ts : List Token) (cs : List Context) (b : Before) → Nested cs
      → is_written_in cs ts ≡ true → Splits (point cs b (text_in g cs ts)) ts
  splits [] [] b h e = over (record { outermost = refl; over = (false, none) })
  splits [] (c ∷ cs) b h e = absurd (cc)
  splits (t ∷ ts) cs b h e = go (in_expression cs) refl e
      (λ n w. splits ts (behind_token cs t) (before_of t) n w)
      (λ n w. splits ts (behind_piece cs t) (before_of t) n w)
    where
      go : (x : Bool) → in_expression cs ≡ x
          → cond x (is_token t && is_written_in (behind_token cs t) ts)
          (is_piece (innermost cs) t ts && is_written_in (behind_piece cs t) ts) ≡ true
          → (Nested (behind_token cs t) → is_written_in (behind_token cs t) ts ≡ true
          → Splits (point (behind_token cs t) (before_of t) (text_in g (behind_token cs t) ts))
          ts)
          → (Nested (behind_piece cs t) → is_written_in (behind_piece cs t) ts ≡ true
          → Splits (point (behind_piece cs t) (before_of t) (text_in g (behind_piece cs t) ts))
          ts)
          → Splits (point cs b (cond x (g (t ∷ ts) ++ (token_text t ++ text_in g
          (behind_token cs t) ts)) (piece_text (innermost cs) t ++ text_in g
          (behind_piece cs t) ts))) (t ∷ ts)
      go true i e more unused =
          let k = and_parts (is_token t) (is_written_in (behind_token cs t) ts) e in
          let gap : List ℕ = g (t ∷ ts) in
          let rest : List ℕ = token_text t ++ text_in g (behind_token cs t) ts in
          let s = gap_spaced gap rest (layout (t ∷ ts)) in
          let sort = sort_of t k.0 in
          step cs b gap t ts i (gap_all gap (layout (t ∷ ts)))
          (untouched b (gap ++ rest) (not_begun (gap ++ rest) s)) sort k.1
          (more (nested_token cs t sort i h) k.1)
      go false i e unused more = pieces cs i h e more
        where
          pieces : (cs : List Context) → in_expression cs ≡ false → Nested cs
              → (is_piece (innermost cs) t ts && is_written_in (behind_piece cs t) ts) ≡ true
              → (Nested (behind_piece cs t) → is_written_in (behind_piece cs t) ts ≡ true
              → Splits (point (behind_piece cs t) (before_of t)
              (text_in g (behind_piece cs t) ts)) ts)
              → Splits (point cs b (piece_text (innermost cs) t ++ text_in g
              (behind_piece cs t) ts)) (t ∷ ts)
          pieces [] i h e more = absurd (cc)
          pieces (c ∷ cs) i h e more =
              let k = and_parts (is_piece c t ts)
              (is_written_in (behind_piece (c ∷ cs) t) ts) e in
              reads {operand = false} (parted refl (piece_read c cs t ts i h k.0 k.1) refl refl)
              (more (nested_piece c cs t ts i k.0 h) k.1)

  pub text_splits : (ts : List Token) → is_written ts ≡ true
      → Splits (start (text_of g ts)) ts
  text_splits [] e = splits [] [] other tt e
  text_splits (t ∷ ts) e =
      let k = and_parts (is_token t) (is_written_in (behind_token [] t) ts) e in
      let sort = sort_of t k.0 in
      step [] other [] t ts refl refl refl sort k.1
      (splits ts (behind_token [] t) (before_of t) (nested_token [] t sort refl tt) k.1)
