-- What a step of the code does to a reading.
use Rattle.std.specs.Prelude.{◌≡◌, ℕ, List, ⊤}
use Rattle.doc_grammar.specs.Scopes.{opened}
use Rattle.doc_grammar.specs.Machine.{State, Stop, names, deep, entity, subset, encoding, other, End, stops, run}
use Rattle.xml_source.specs.declared.steps.Stop as code
use Rattle.xml_source.specs.declared.steps.Stop.TheVariants.{Names, Deep, Entity, Subset, Encoding, Other}
use Rattle.xml_source.specs.declared.steps.Step.{Step}
use Rattle.xml_source.specs.declared.steps.Step.TheVariants.{On, Stopped}

-- a reading by the rules on names
abbrev pub reads : List ℕ → State → End
reads ts s = run opened ts s

abbrev pub stop_of : code.Stop → Stop
stop_of Names = names
stop_of Deep = deep
stop_of Entity = entity
stop_of Subset = subset
stop_of Encoding = encoding
stop_of Other = other

-- a reading stops before the rest, for no reason of its own
abbrev pub Fails : End → List ℕ → Type 0
Fails e rest = e ≡ stops other rest

-- a reading goes on with the source in the state, or stops before the source
abbrev pub Ran : End → List ℕ → State → Step → Type 0
Ran e source s On = e ≡ reads source s
Ran e source s (Stopped why) = e ≡ stops (stop_of why) source

-- what holds where the reader goes on
abbrev pub OnStep : Step → Type 0 → Type 0
OnStep On P = P
OnStep (Stopped why) P = ⊤
