-- The table of rules.
use Rattle.std.specs.Prelude.{ℕ, List, [], ◌∷◌, if◌then◌else◌, Option, Some, None}
use Rattle.std.specs.Option.{option_or}
use Rattle.std.specs.Str.{bytes_eq}
use Rattle.std.specs.HashMap.{get}
use Rattle.xt_names.specs.Allowed.{is_empty_text}
use Rattle.xt_tree.specs.declared.trees.Tree.{Tree}
use Rattle.xt_tree.specs.declared.trees.Tree.TheVariants.{Doc, Elem, Text, Comment, Pi, Attr}
use Rattle.xt_tree.specs.Forest.{Forest}
use Rattle.sheet_meaning.specs.Rules.{Template, template_of}
use Rattle.xslt_run.specs.declared.rules.Rules.{Rules}

-- the content of the last template with this pattern
abbrev pub last_with : List Template → List ℕ → Option Forest
last_with [] pattern = None
last_with (t ∷ rest) pattern = option_or (last_with rest pattern) (if bytes_eq t.pattern pattern then Some t.content else None)

-- the template that a tree is
abbrev pub templates_in : Tree → List Template
templates_in (Doc kids) = []
templates_in (Elem name attributes kids) = template_of attributes kids
templates_in (Text t) = []
templates_in (Comment t) = []
templates_in (Pi target t) = []
templates_in (Attr name t) = []

-- what the table says of a node
abbrev pub rule_for : Rules → Tree → Option Forest
rule_for rules (Doc kids) = rules.root
rule_for rules (Elem name attributes kids) = if is_empty_text name.uri then get bytes_eq rules.named name.local else None
rule_for rules (Text t) = None
rule_for rules (Comment t) = None
rule_for rules (Pi target t) = None
rule_for rules (Attr name t) = None
