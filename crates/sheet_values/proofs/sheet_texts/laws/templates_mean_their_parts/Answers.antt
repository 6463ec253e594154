use Rattle.sheet_values.proofs.SheetTexts.TemplateMeanings.{characters_stand, expressions_are_parts}
use Rattle.sheet_values.proofs.sheet_texts.laws.templates_mean_their_parts.Goals as goal

pub returns : goal.returns
returns g c = record {
  characters = characters_stand (g.R.Reader.reads c.args.reader.now);
  expressions = expressions_are_parts (g.R.Reader.reads c.args.reader.now);
}
