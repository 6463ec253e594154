-- The productions of constructors, by what their parts mean.
use Rattle.std.proofs.Common.{◌≡◌, List, [], ◌∷◌, Bool, true}
use Rattle.xt_syntax.specs.declared.exprs.Expr.TheVariants as expr
use Rattle.expr_terms.specs.Productions.{body}
use Rattle.expr_keys.specs.declared.tokens.Token.{Token}
use Rattle.expr_keys.specs.declared.productions.Class.TheVariants as class
use Rattle.expr_keys.specs.declared.productions.Nonterminal.TheVariants as nonterminal
use Rattle.expr_keys.specs.declared.productions.Production.{Production}
use Rattle.expr_keys.specs.declared.productions.Production.TheVariants as production
use Rattle.expr_keys.specs.declared.productions.Symbol.TheVariants.{Tok as tok, One as one}
use Rattle.expr_keys.specs.declared.productions.Symbol.TheVariants.{Many as many}
use Rattle.expr_rules.specs.declared.expr_meant.meant.Meant.{Meant}
use Rattle.expr_rules.specs.declared.expr_meant.meant.Meant.TheVariants as meant
use Rattle.expr_rules.specs.ExprMeant.Names.{written_of}
use Rattle.expr_rules.specs.ExprMeant.Parts.{expr_of, expr_or, key_of}
use Rattle.expr_rules.specs.Rules.{own_broken}
use Rattle.expr_resolve.specs.ExprPrimaries.ExprElements.Direct.{attrs_in, attr_and, content_in, content_or}
use Rattle.expr_resolve.specs.ExprPrimaries.ExprElements.Table.{element_value}
use Rattle.expr_resolve.specs.declared.setting.Setting.{Setting}
use Rattle.expr_resolve.specs.Tables.{family_of, value_in, act}
use Rattle.expr_rules.specs.ExprShapes.Shapes.{tag_in, declares_nothing}
use Rattle.sound_expressions.specs.SoundForms.Sound.{SoundPrefixes}
use Rattle.sound_expressions.proofs.SoundForms.NameLemmas.{outer_written, inner_written}
use Rattle.sound_expressions.proofs.SoundForms.FormLemmas.{form_empty, form_direct, direct_is, fine_enclosed}
use Rattle.sound_expressions.proofs.SoundForms.FormLemmas.{enclosed_childless, fine_child, AllAttrs, FineParts}
use Rattle.sound_expressions.proofs.ExprRegular.Claims.{expr_is, IsForm, form_is, IsContent, content_is}
use Rattle.sound_expressions.proofs.ExprRegular.Claims.{IsAttr, attr_is, IsPiece, piece_token, piece_whole}
use Rattle.sound_expressions.proofs.ExprRegular.Claims.{IsAttrPiece, value_whole}
use Rattle.sound_expressions.proofs.ExprRegular.Claims.{Filled, end, taken, next, without, with, stop, again}
use Rattle.sound_expressions.proofs.ExprRegular.Lists.{All}
use Rattle.sound_expressions.proofs.ExprRegular.ElementForms.{computed_form, fixed_form, pi_form, enclosing_form}
use Rattle.sound_expressions.proofs.ExprRegular.ElementForms.{content_good, nothing_good, attribute_good, tag_good}

module _ (s : Setting) (u : SoundPrefixes s.prefixes) where
  abbrev pub Meaning : Production → List Meant → Type 0
  Meaning p ms = Filled s p true (body p) ms

  pub computed_made : {ms : List Meant} → Meaning production.Computed ms
      → IsForm (act s production.Computed ms)
  unfolding family_of value_in element_value expr_of expr_or
  computed_made (taken t a b c (taken _ d e f (next (expr_is {e = x} g) o (taken _ h i j (taken _ k l m (without (taken _ n p q end))))))) =
      form_is (computed_form (key_of (meant.Token t)) x (expr.Comma []) g form_empty.fine)
  computed_made (taken t a b c (taken _ d e f (next (expr_is {e = x} g) o (taken _ h i j (taken _ k l m
      (with (expr_is {e = y} z) r (taken _ n p q end))))))) =
      form_is (computed_form (key_of (meant.Token t)) x y g z)

  pub constructed_made : {ms : List Meant} → Meaning production.Constructed ms
      → IsForm (act s production.Constructed ms)
  unfolding family_of value_in element_value expr_or key_of written_of own_broken
  constructed_made (taken t a b c (taken n d e f (taken _ h i j (without (taken _ k l m end))))) =
      form_is (fixed_form s.prefixes.bound s.prefixes.element_default t n (expr.Comma []) u.bound
      u.element u.no_xml a d e f form_empty.fine)
  constructed_made (taken t a b c (taken n d e f (taken _ h i j (with (expr_is {e = y} z) r (taken _ k l m end))))) =
      form_is (fixed_form s.prefixes.bound s.prefixes.element_default t n y u.bound u.element
      u.no_xml a d e f z)

  pub pi_constructed_made : {ms : List Meant} → Meaning production.PiConstructed ms
      → IsForm (act s production.PiConstructed ms)
  unfolding family_of value_in element_value expr_or written_of
  pi_constructed_made (taken _ a b c (taken n d e f (taken _ h i j (without (taken _ k l m end))))) =
      form_is (pi_form s.prefixes.bound n (expr.Comma []) u.bound d e form_empty.fine)
  pi_constructed_made (taken _ a b c (taken n d e f (taken _ h i j (with (expr_is {e = y} z) r (taken _ k l m end))))) =
      form_is (pi_form s.prefixes.bound n y u.bound d e z)

  pub enclosing_made : {ms : List Meant} → Meaning production.Enclosing ms
      → IsForm (act s production.Enclosing ms)
  unfolding family_of value_in element_value expr_or
  enclosing_made (taken t a b c (taken _ d e f (next (expr_is {e = x} g) o (taken _ h i j end)))) =
      form_is (enclosing_form (key_of (meant.Token t)) x g)

  -- what comes after the front of a tag
  tags : {p : Production} {b : Bool} {ms : List Meant} → Filled s p b
      (many nonterminal.DirAttribute ∷ one nonterminal.DirElemClosing ∷ []) ms
      → AllAttrs (attrs_in ms) × FineParts (content_in ms)
  unfolding attr_and content_or
  tags (again (attr_is f) o q) = let r = tags q in ((f, r.0), r.1)
  tags (stop (next (content_is f) o end)) = (tt, f)

  pub element_made : {ms : List Meant} → Meaning production.DirectElement ms
      → IsForm (act s production.DirectElement ms)
  unfolding family_of value_in element_value own_broken written_of
  element_made (taken t {ms = ms} a b c q) =
      let r = tags q in
      form_is (form_direct _ (attrs_in ms) (content_in ms) (tag_good s.prefixes.bound
      s.prefixes.element_default t u.bound u.element u.no_xml (outer_written t a b) c) r.0 r.1)

  pub child_made : {ms : List Meant} → Meaning production.ChildElement ms
      → IsPiece (act s production.ChildElement ms)
  unfolding family_of value_in element_value own_broken written_of
  child_made (taken t {ms = ms} a b c q) =
      let r = tags q in
      let f = form_direct _ (attrs_in ms) (content_in ms) (tag_good s.prefixes.bound
      s.prefixes.element_default t u.bound u.element u.no_xml (inner_written t a b) c) r.0 r.1 in
      piece_whole (fine_child _ f.fine (direct_is _ (attrs_in ms) (content_in ms)))

  items : {p : Production} {b : Bool} {ms : List Meant} → Filled s p b
      (many nonterminal.DirElemContent ∷ tok class.EndTag ∷ []) ms → All IsPiece ms
  items (again g o q) = (g, items q)
  items (stop (taken _ a b c end)) = (piece_token b, tt)

  pub full_made : {ms : List Meant} → Meaning production.ElementContent ms
      → IsContent (act s production.ElementContent ms)
  unfolding family_of value_in element_value
  full_made {ms = ms} (taken _ a b c q) = content_is (content_good s.strip ms (items q))

  pub no_content_made : IsContent (act s production.EmptyElement [])
  unfolding family_of value_in element_value
  no_content_made = content_is nothing_good

  pieces : {p : Production} {b : Bool} {ms : List Meant} → Filled s p b
      (many nonterminal.AttrValueContent ∷ tok class.AttributeEnd ∷ []) ms → All IsAttrPiece ms
  pieces (again g o q) = (g, pieces q)
  pieces (stop (taken _ a b c end)) = tt

  pub paired_made : {t : Token} {ms : List Meant}
      → Meaning production.AttributeValue (meant.Token t ∷ ms) → declares_nothing (tag_in t) ≡ true
      → IsAttr (act s production.AttributeValue (meant.Token t ∷ ms))
  unfolding family_of value_in element_value own_broken written_of
  paired_made {ms = ms} (taken t a b c q) d =
      attr_is (attribute_good s.prefixes.bound t ms u.bound a b c d (pieces q))

  pub part_enclosed_made : {ms : List Meant} → Meaning production.PartEnclosed ms
      → IsAttrPiece (act s production.PartEnclosed ms)
  unfolding family_of value_in element_value expr_or
  part_enclosed_made (taken _ a b c (next (expr_is {e = e} f) o (taken _ g h i end))) =
      value_whole (fine_enclosed e f) (enclosed_childless e)

  pub item_enclosed_made : {ms : List Meant} → Meaning production.ItemEnclosed ms
      → IsPiece (act s production.ItemEnclosed ms)
  unfolding family_of value_in element_value expr_or
  item_enclosed_made (taken _ a b c (next (expr_is {e = e} f) o (taken _ g h i end))) =
      piece_whole (fine_enclosed e f)
