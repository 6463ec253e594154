-- Simple content while it is made, in one pass over the items.
use Rattle.std.specs.Prelude.{ℕ, List, [], ◌∷◌, ◌++◌, if◌then◌else◌}
use Rattle.xt_names.specs.Allowed.{is_empty_text}
use Rattle.xdm_items.specs.declared.items.Item.{Item}
use Rattle.node_builder.specs.Simple.{Part, run, value, part_of}
use Rattle.node_builder.specs.declared.simple_contents.End.{End}
use Rattle.node_builder.specs.declared.simple_contents.End.TheVariants.{Nothing, Value, Run}
use Rattle.node_builder.specs.declared.simple_contents.LineBuilder.{LineBuilder}

-- the text so far, and what it ends with
pub record Line : Type 0 where
  pub text : List ℕ
  pub ending : End

abbrev pub line : LineBuilder → Line
line b = record { text = b.text; ending = b.ending }

abbrev pub no_line : Line
no_line = record { text = []; ending = Nothing }

-- what comes before a text node: the separator, unless it goes on with a text node
abbrev pub run_gap : List ℕ → End → List ℕ
run_gap separator Nothing = []
run_gap separator Value = separator
run_gap separator Run = []

-- what comes before the text of any other item
abbrev pub value_gap : List ℕ → End → List ℕ
value_gap separator Nothing = []
value_gap separator Value = separator
value_gap separator Run = separator

abbrev pub with_part : List ℕ → Line → Part → Line
with_part separator l (run t) = if is_empty_text t then l else record { text = (l.text ++ run_gap separator l.ending) ++ t; ending = Run }
with_part separator l (value t) = record { text = (l.text ++ value_gap separator l.ending) ++ t; ending = Value }

abbrev pub with_each : List ℕ → Line → List Item → Line
with_each separator l [] = l
with_each separator l (item ∷ items) = with_each separator (with_part separator l (part_of item)) items
