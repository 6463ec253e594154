-- What the productions of constructors mean.
use Rattle.std.proofs.Common.{◌≡◌, ℕ, List, [], ◌∷◌, ◌++◌, map, Bool, true, false, not, cond, ◌&&◌}
use Rattle.std.proofs.Common.{◌||◌, Some, codes, refl, ap, subst, ◌∙◌}
use Rattle.std.proofs.lemmas.Bool.{and_parts}
use Rattle.std.specs.Str.{bytes_eq}
use Rattle.xt_names.specs.Allowed.{is_empty_text, xml_uri}
use Rattle.xt_names.specs.Classes.{is_xml_text}
use Rattle.xt_names.specs.declared.names.Binding.{Binding}
use Rattle.xt_forms.specs.Regular.{chars_apart, every_part_regular}
use Rattle.xt_forms.specs.Regular.{has_no_child, part_facts_of, name_facts_of}
use Rattle.xt_syntax.specs.declared.exprs.Expr.{Expr}
use Rattle.xt_syntax.specs.declared.exprs.Expr.TheVariants as expr
use Rattle.xt_syntax.specs.declared.exprs.NameSource.{NameSource}
use Rattle.xt_syntax.specs.declared.exprs.NameSource.TheVariants as source
use Rattle.xt_syntax.specs.declared.exprs.Part.{Part}
use Rattle.xt_syntax.specs.declared.exprs.Part.TheVariants as part
use Rattle.closed_queries.specs.Texts.{is_sound_name, is_sound_attribute_name}
use Rattle.closed_queries.specs.ExprTexts.{is_sound_part}
use Rattle.expr_names.specs.Names.{uri_in, undeclared_in, node_name}
use Rattle.expr_names.specs.declared.written.Written.{Written}
use Rattle.expr_keys.specs.Classes.{fits, fits_piece}
use Rattle.expr_keys.specs.Tokens.{fits_name, fits_word}
use Rattle.expr_keys.specs.declared.keys.Key.{Key}
use Rattle.expr_keys.specs.declared.keys.Key.TheVariants as key
use Rattle.expr_keys.specs.declared.tokens.Token.{Token}
use Rattle.expr_keys.specs.declared.tokens.Token.TheVariants as token
use Rattle.expr_keys.specs.declared.productions.Class.TheVariants as class
use Rattle.expr_rules.specs.declared.expr_meant.meant.Meant.{Meant}
use Rattle.expr_rules.specs.declared.expr_meant.meant.Meant.TheVariants as meant
use Rattle.expr_rules.specs.ExprMeant.Names.{written_in, written_of}
use Rattle.expr_rules.specs.ExprMeant.Parts.{key_in}
use Rattle.expr_rules.specs.Known.{node_name_of}
use Rattle.expr_rules.specs.ExprShapes.Shapes.{tag_in, declares_nothing}
use Rattle.expr_resolve.specs.ExprPrimaries.ExprElements.Computed.{named_by, fixed_name, enclosing_by}
use Rattle.expr_resolve.specs.ExprPrimaries.ExprElements.Space.{run_part, joined_from, piece_in, piece_of, parts_of}
use Rattle.expr_resolve.specs.ExprPrimaries.ExprElements.Space.{is_white_text}
use Rattle.expr_resolve.specs.ExprPrimaries.declared.expr_elements.space.Piece.{Piece}
use Rattle.expr_resolve.specs.ExprPrimaries.declared.expr_elements.space.Piece.TheVariants.{Run, Whole}
use Rattle.sound_expressions.specs.SoundForms.Sound.{is_sound_token, SoundUri, SoundBindings}
use Rattle.sound_expressions.proofs.SoundForms.NameLemmas.{IsWritten, name_written, word_written, word_bare}
use Rattle.sound_expressions.proofs.SoundForms.NameLemmas.{attribute_written}
use Rattle.sound_expressions.proofs.SoundForms.NameLemmas.{node_name_good, bare_good, declared_uri, no_uri}
use Rattle.sound_expressions.proofs.SoundForms.FormLemmas.{Fine, Form, FineName, fine_fixed, fixed_bare}
use Rattle.sound_expressions.proofs.SoundForms.FormLemmas.{fine_computed, computed_bare, form_element}
use Rattle.sound_expressions.proofs.SoundForms.FormLemmas.{form_attribute, form_pi, form_document, form_text}
use Rattle.sound_expressions.proofs.SoundForms.FormLemmas.{form_comment, FineParts, FineAttr, FinePart}
use Rattle.sound_expressions.proofs.SoundForms.FormLemmas.{run_is}
use Rattle.sound_expressions.proofs.ExprRegular.Claims.{IsPiece, piece_token, piece_whole, IsAttrPiece, value_token}
use Rattle.sound_expressions.proofs.ExprRegular.Claims.{value_whole}
use Rattle.sound_expressions.proofs.ExprRegular.Lists.{All}
use Rattle.xt_names.proofs.ClassLemmas.{append_text, no_text}

-- computed constructors
pub named_form : (k : Key) (n : NameSource) (e : Expr) → FineName n
    → (name_facts_of n).is_bare ≡ true → Fine e → Form (named_by k n e)
unfolding named_by
named_form key.ElementWord n e f b g = form_element n e f g
named_form key.AttributeWord n e f b g = form_attribute n e f g
named_form _ n e f b g = form_pi n e f b g

pub computed_form : (k : Key) (a e : Expr) → Fine a → Fine e
    → Form (named_by k (source.Computed a) e)
computed_form k a e f g = named_form k (source.Computed a) e (fine_computed a f) (computed_bare a) g

pub fixed_form : (bound : List Binding) (default : List ℕ) (t n : Token) (e : Expr)
    → SoundBindings bound → SoundUri default → bytes_eq default xml_uri ≡ false
    → fits class.NamedKind t ≡ true → fits_name n ≡ true → is_sound_token n ≡ true
    → undeclared_in bound (written_in n) ≡ [] → Fine e
    → Form (named_by (key_in t) (source.Fixed (fixed_name bound default (key_in t) (meant.Token n))) e)
unfolding named_by fixed_name key_in written_of
fixed_form bound default (token.Key key.ElementWord) n e u d x k f s b g =
    form_element _ e (fine_fixed _ (node_name_good bound default (written_in n) u d x
    (name_written n f s) b)) g
fixed_form bound default (token.Key key.AttributeWord) n e u d x k f s b g =
    form_attribute _ e (fine_fixed _ (node_name_good bound [] (written_in n) u no_uri refl
    (name_written n f s) b)) g
fixed_form bound default (token.Key _) n e u d x k f s b g = absurd cc
fixed_form bound default _ n e u d x k f s b g = absurd cc

bare_declared : (bound : List Binding) (w : Written) → w.prefix ≡ [] → undeclared_in bound w ≡ []
unfolding undeclared_in is_empty_text
bare_declared bound w e = rw e refl

pub pi_form : (bound : List Binding) (t : Token) (e : Expr) → SoundBindings bound
    → fits_word t ≡ true → is_sound_token t ≡ true → Fine e
    → Form (expr.PiC (source.Fixed (node_name bound [] (written_in t))) e)
pi_form bound t e u f s g =
    let b = word_bare t f in
    form_pi _ e (fine_fixed _ (node_name_good bound [] (written_in t) u no_uri refl
    (word_written t f s) (bare_declared bound (written_in t) b)))
    (fixed_bare _ (bare_good bound (written_in t) b)) g

pub enclosing_form : (k : Key) (e : Expr) → Fine e → Form (enclosing_by k e)
unfolding enclosing_by
enclosing_form key.DocumentWord e f = form_document e f
enclosing_form key.TextWord e f = form_text e f
enclosing_form _ e f = form_comment e f

-- the content of direct elements
abbrev pub GoodPiece : Piece → Type 0
GoodPiece (Run text literal) = is_xml_text text ≡ true
GoodPiece (Whole p) = FinePart p

abbrev pub AllPieces : List Piece → Type 0
AllPieces [] = Unit {0}
AllPieces (p ∷ ps) = GoodPiece p × AllPieces ps

no_parts : FineParts []
no_parts = record { regular = refl; sound = refl }

run_alone : (text : List ℕ) → is_empty_text text ≡ false → is_xml_text text ≡ true
    → FineParts (part.Chars text ∷ [])
run_alone text e x =
    let r = run_is text in
    let g : (part_facts_of (part.Chars text)).regular ≡ true = r.regular ∙ ap not e in
    let h : is_sound_part (part.Chars text) ≡ true = r.sound ∙ x in
    record { regular = rw (g) refl; sound = rw (h) refl }

-- a part that is no run comes after others
whole_then : (w : Part) (ps : List Part) → FinePart w → FineParts ps → FineParts (w ∷ ps)
whole_then w ps f g =
    let i = and_parts (every_part_regular (map part_facts_of ps))
    (chars_apart false (map part_facts_of ps)) g.regular in
    record {
      regular = rw (f.regular, f.no_chars, i.0, i.1) refl;
      sound = rw (f.sound, g.sound) refl;
    }

run_then : (text : List ℕ) (w : Part) (ps : List Part) → is_empty_text text ≡ false
    → is_xml_text text ≡ true → FinePart w → FineParts ps
    → FineParts (part.Chars text ∷ w ∷ ps)
run_then text w ps e x f g =
    let r = run_is text in
    let k : (part_facts_of (part.Chars text)).regular ≡ true = r.regular ∙ ap not e in
    let h : is_sound_part (part.Chars text) ≡ true = r.sound ∙ x in
    let i = and_parts (every_part_regular (map part_facts_of ps))
    (chars_apart false (map part_facts_of ps)) g.regular in
    record {
      regular = rw (k, r.chars, f.regular, f.no_chars, i.0, i.1) refl;
      sound = rw (h, f.sound, g.sound) refl;
    }

either_false : (a b : Bool) → (a || b) ≡ false → a ≡ false
either_false true b e = absurd cc
either_false false b e = refl

run_parts : (strip : Bool) (text : List ℕ) (blank : Bool) → is_xml_text text ≡ true
    → FineParts (run_part strip text blank)
unfolding run_part
run_parts strip text blank x = go (is_empty_text text || (strip && blank)) refl
  where
    go : (b : Bool) → (is_empty_text text || (strip && blank)) ≡ b
        → FineParts (cond b [] (part.Chars text ∷ []))
    go true e = no_parts
    go false e = run_alone text (either_false (is_empty_text text) (strip && blank) e) x

run_before : (strip : Bool) (text : List ℕ) (blank : Bool) (w : Part) (ps : List Part)
    → is_xml_text text ≡ true → FinePart w → FineParts ps
    → FineParts (run_part strip text blank ++ w ∷ ps)
unfolding run_part
run_before strip text blank w ps x f g = go (is_empty_text text || (strip && blank)) refl
  where
    go : (b : Bool) → (is_empty_text text || (strip && blank)) ≡ b
        → FineParts (cond b [] (part.Chars text ∷ []) ++ w ∷ ps)
    go true e = whole_then w ps f g
    go false e =
        run_then text w ps (either_false (is_empty_text text) (strip && blank) e) x f g

joined_parts : (strip : Bool) (text : List ℕ) (blank : Bool) (ps : List Piece)
    → is_xml_text text ≡ true → AllPieces ps → FineParts (joined_from strip text blank ps)
joined_parts strip text blank [] x a = run_parts strip text blank x
joined_parts strip text blank (Run more literal ∷ ps) x a =
    joined_parts strip (text ++ more) (blank && (literal && is_white_text more)) ps
    (append_text text more x a.0) a.1
joined_parts strip text blank (Whole w ∷ ps) x a =
    run_before strip text blank w (joined_from strip [] true ps) x a.0
    (joined_parts strip [] true ps no_text a.1)

token_piece : (t : Token) → is_sound_token t ≡ true → GoodPiece (piece_in t)
unfolding piece_in is_xml_text
token_piece (token.Chars cs b) s = s
token_piece _ s = refl

piece_good : (m : Meant) → IsPiece m → GoodPiece (piece_of m)
unfolding piece_of
piece_good _ (piece_token {t = t} s) = token_piece t s
piece_good _ (piece_whole f) = f

pieces_good : (ms : List Meant) → All IsPiece ms → AllPieces (map piece_of ms)
pieces_good [] a = tt
pieces_good (m ∷ ms) a = (piece_good m a.0, pieces_good ms a.1)

pub content_good : (strip : Bool) (ms : List Meant) → All IsPiece ms
    → FineParts (parts_of strip ms)
content_good strip ms a = joined_parts strip [] true (map piece_of ms) no_text (pieces_good ms a)

pub nothing_good : FineParts []
nothing_good = no_parts

-- .. and of attributes, which have no elements
abbrev ChildlessPiece : Piece → Type 0
ChildlessPiece (Run text literal) = Unit {0}
ChildlessPiece (Whole p) = (part_facts_of p).is_child ≡ false

abbrev AllChildless : List Piece → Type 0
AllChildless [] = Unit {0}
AllChildless (p ∷ ps) = ChildlessPiece p × AllChildless ps

run_childless : (strip : Bool) (text : List ℕ) (blank : Bool) (ps : List Part)
    → has_no_child (map part_facts_of ps) ≡ true
    → has_no_child (map part_facts_of (run_part strip text blank ++ ps)) ≡ true
unfolding run_part
run_childless strip text blank ps h = go (is_empty_text text || (strip && blank))
  where
    go : (b : Bool) → has_no_child (map part_facts_of
        (cond b [] (part.Chars text ∷ []) ++ ps)) ≡ true
    go true = h
    go false = rw ((run_is text).child, h) refl

joined_childless : (strip : Bool) (text : List ℕ) (blank : Bool) (ps : List Piece)
    → AllChildless ps → has_no_child (map part_facts_of (joined_from strip text blank ps)) ≡ true
joined_childless strip text blank [] a =
    subst (λ (qs : List Part). has_no_child (map part_facts_of qs) ≡ true)
    (append_none (run_part strip text blank)) (run_childless strip text blank [] refl)
  where
    append_none : (qs : List Part) → qs ++ [] ≡ qs
    append_none [] = refl
    append_none (q ∷ qs) = ap (λ rs. q ∷ rs) (append_none qs)
joined_childless strip text blank (Run more literal ∷ ps) a =
    joined_childless strip (text ++ more) (blank && (literal && is_white_text more)) ps a.1
joined_childless strip text blank (Whole w ∷ ps) a =
    run_childless strip text blank (w ∷ joined_from strip [] true ps)
    (rw (a.0, joined_childless strip [] true ps a.1) refl)

value_piece : (m : Meant) → IsAttrPiece m → GoodPiece (piece_of m) × ChildlessPiece (piece_of m)
unfolding piece_of piece_in
value_piece _ (value_token {t = t} s) = (token_piece t s, childless t)
  where
    childless : (t : Token) → ChildlessPiece (piece_in t)
    childless (token.Chars cs b) = tt
    childless _ = tt
value_piece _ (value_whole f c) = (f, c)

value_pieces : (ms : List Meant) → All IsAttrPiece ms
    → AllPieces (map piece_of ms) × AllChildless (map piece_of ms)
value_pieces [] a = (tt, tt)
value_pieces (m ∷ ms) a =
    let h = value_piece m a.0 in
    let r = value_pieces ms a.1 in
    ((h.0, r.0), (h.1, r.1))

-- the name of an attribute
tag_free : (p n : List ℕ) → declares_nothing (Some (record { prefix = p; local = n })) ≡ true
    → (is_empty_text p && bytes_eq n (codes "xmlns")) ≡ false
unfolding declares_nothing
tag_free p n e =
    not_true _ (and_parts (not (bytes_eq p (codes "xmlns"))) _ e).1
  where
    not_true : (a : Bool) → not a ≡ true → a ≡ false
    not_true true e = absurd cc
    not_true false e = refl

attribute_named : (bound : List Binding) (p n : List ℕ)
    → undeclared_in bound (record { prefix = p; local = n }) ≡ []
    → (is_empty_text p && bytes_eq n (codes "xmlns")) ≡ false
    → (is_empty_text (uri_in bound [] (record { prefix = p; local = n }))
    && bytes_eq n (codes "xmlns")) ≡ false
unfolding undeclared_in uri_in is_empty_text
attribute_named bound [] n u e = e
attribute_named bound (c ∷ cs) n u e = rw (declared_uri bound (c ∷ cs) u) refl

pub attribute_good : (bound : List Binding) (t : Token) (ms : List Meant) → SoundBindings bound
    → fits_piece class.Attribute t ≡ true → is_sound_token t ≡ true
    → undeclared_in bound (written_in t) ≡ [] → declares_nothing (tag_in t) ≡ true
    → All IsAttrPiece ms
    → FineAttr (record { name = node_name bound [] (written_in t); parts = parts_of false ms })
unfolding written_in tag_in is_sound_attribute_name
attribute_good bound (token.Attribute p n) ms u f s e d a =
    let w = attribute_written (token.Attribute p n) f s in
    let g = node_name_good bound [] (record { prefix = p; local = n }) u no_uri refl w e in
    let x = attribute_named bound p n e (tag_free p n d) in
    let v = value_pieces ms a in
    record {
      name = rw (g, x) refl;
      parts = joined_parts false [] true (map piece_of ms) no_text v.0;
      childless = joined_childless false [] true (map piece_of ms) v.1;
    }
attribute_good bound _ ms u f s e d a = absurd cc

pub tag_good : (bound : List Binding) (default : List ℕ) (t : Token) → SoundBindings bound
    → SoundUri default → bytes_eq default xml_uri ≡ false → IsWritten (written_in t)
    → undeclared_in bound (written_in t) ≡ []
    → is_sound_name (node_name_of bound default (meant.Token t)) ≡ true
unfolding written_of
tag_good bound default t u d x w e = node_name_good bound default (written_in t) u d x w e
