-- Places in a run of a stylesheet, and runs, all of whose values are sound.
use Rattle.std.specs.Prelude.{◌≡◌, true}
use Rattle.xt_tree.specs.Sound.{is_sound_tree}
use Rattle.closed_sheets.specs.Sheets.{has_good_parts}
use Rattle.doc_set.specs.Sets.{are_sound_documents}
use Rattle.expr_meaning.specs.Env.{Env}
use Rattle.expr_laws.specs.Carrier.{AreGood}
use Rattle.meaning_laws.specs.SoundValues.Sound.{IsSound}
use Rattle.meaning_laws.specs.SoundRuns.Sound.{IsSoundEnv, are_xml_values}
use Rattle.transform_meaning.specs.Templates.{Run}

-- all that an instruction can read there
pub record IsSoundPlace (e : Env) : Type 0 where
  pub env : IsSoundEnv e
  pub tunnel : AreGood IsSound e.state.tunnel

-- a stylesheet with good parts, as every closed one has, and what it is run on
pub record IsSoundRun (run : Run) : Type 0 where
  pub parts : has_good_parts run.sheet ≡ true
  pub document : is_sound_tree run.document ≡ true
  pub documents : are_sound_documents run.documents ≡ true
  pub given : are_xml_values run.given ≡ true
