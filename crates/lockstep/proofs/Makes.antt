-- What instructions make and read is sound.
use Rattle.xt_names.specs.declared.codes.Code.{Code}
use Rattle.expr_meaning.specs.Outcomes.Follow.{Relation, IsCarrying}
use Rattle.expr_laws.specs.Carrier.{IsMade}
use Rattle.sound_transforms.proofs.Carried.{sheets as sound_sheets, made as sound_made}
use Rattle.translated_forms.specs.Places.{Table}
use Rattle.transform_laws.specs.Meets.{SheetsMake}
use Rattle.lockstep.proofs.Frame.{frame}

module _ (like : Code → Code → Type 0) (lax : (a b : Code) → like a b) (rel : Relation)
    (carries : IsCarrying like rel) (t : Table) where
  pub makes : IsMade (frame like lax rel carries t)
  makes = record {
    integer = sound_made.integer;
    string = sound_made.string;
    spaced = sound_made.spaced;
    joined = sound_made.joined;
    literal_text = sound_made.literal_text;
    literal_attribute = sound_made.literal_attribute;
    element = sound_made.element;
    document = sound_made.document;
    attribute = sound_made.attribute;
    text = sound_made.text;
    comment = sound_made.comment;
    pi = sound_made.pi;
  }

  pub sheets : SheetsMake (frame like lax rel carries t)
  sheets = record {
    element = sound_sheets.element;
    document = sound_sheets.document;
    copy = sound_sheets.copy;
    named = sound_sheets.named;
    simple = sound_sheets.simple;
    text_in = sound_sheets.text_in;
    value_in = sound_sheets.value_in;
    children = sound_sheets.children;
    nodes = sound_sheets.nodes;
    atom = sound_sheets.atom;
    converted = sound_sheets.converted;
    element_name = sound_sheets.element_name;
    attribute_name = sound_sheets.attribute_name;
  }
