-- Attribute value templates that break no rule are those of a closed stylesheet.
use Rattle.std.proofs.Common.{◌≡◌, ℕ, List, [], ◌∷◌, map, true, refl}
use Rattle.std.proofs.lemmas.Bool.{and_from}
use Rattle.xt_names.specs.Classes.{is_xml_text}
use Rattle.closed_sheets.specs.Values.{is_good_part, is_good_template}
use Rattle.sheet_language.specs.Language.{sheet_reading}
use Rattle.sheet_values.specs.declared.sheet_texts.places.StaticContext.{StaticContext}
use Rattle.sheet_values.specs.SheetTexts.Templates.{piece_faults, piece_value, template_faults}
use Rattle.sheet_values.specs.Rules.{each}
use Rattle.sheet_values.specs.Templates.{pieces_of}
use Rattle.sheet_values.specs.declared.templates.Piece.{Piece}
use Rattle.sheet_values.specs.declared.templates.Piece.TheVariants.{Chars, Code, LoneOpen}
use Rattle.sheet_values.specs.declared.templates.Piece.TheVariants.{LoneClose}
use Rattle.sound_expressions.specs.SoundForms.Sound.{SoundBindings}
use Rattle.sheet_closure.specs.StandingParts.Values.{part_stands, template_stands}
use Rattle.closed_texts.proofs.ClosedExpressions.Expressions.{expr_closed}
use Rattle.closed_texts.proofs.ClosedExpressions.Pieces.{IsFine, AreFine, all_fine}
use Rattle.xt_names.proofs.ListLemmas.{front_nil, back_nil}

module _ (p : StaticContext) (u : SoundBindings p.bound) where
  record ClosedPart (q : Piece) : Type 0 where
    good : is_good_part (piece_value sheet_reading p q) ≡ true
    stands : part_stands p.in_group (piece_value sheet_reading p q) ≡ true

  part_closed : (q : Piece) → IsFine q → piece_faults sheet_reading p q ≡ [] → ClosedPart q
  unfolding is_good_part part_stands
  part_closed (Chars text) h f = record { good = h; stands = refl }
  part_closed (Code text) h f =
      let c = expr_closed p text u f in record { good = c.good; stands = c.stands }
  part_closed LoneOpen h f = absurd cc
  part_closed LoneClose h f = absurd cc

  pub record ClosedTemplate (qs : List Piece) : Type 0 where
    pub good : is_good_template (map (piece_value sheet_reading p) qs) ≡ true
    pub stands : template_stands p.in_group (map (piece_value sheet_reading p) qs) ≡ true

  parts_closed : (qs : List Piece) → AreFine qs → each (piece_faults sheet_reading p) qs ≡ []
      → ClosedTemplate qs
  parts_closed [] h f = record { good = refl; stands = refl }
  parts_closed (q ∷ qs) h f =
      let first = part_closed q h.0 (front_nil (piece_faults sheet_reading p q) _ f) in
      let others = parts_closed qs h.1 (back_nil (piece_faults sheet_reading p q) _ f) in
      record {
        good = and_from (is_good_part (piece_value sheet_reading p q)) _ first.good others.good;
        stands = and_from (part_stands p.in_group (piece_value sheet_reading p q)) _ first.stands
            others.stands;
      }

  pub template_closed : (text : List ℕ) → is_xml_text text ≡ true
      → template_faults sheet_reading p text ≡ [] → ClosedTemplate (pieces_of text)
  template_closed text h f = parts_closed (pieces_of text) (all_fine text h) f
