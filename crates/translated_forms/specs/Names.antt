-- The names that a translation makes up: variables in a namespace of its own, and functions in the
-- namespace of local functions. A name that ends in a number differs from those with other numbers.
use Rattle.std.specs.Prelude.{ℕ, List, ◌++◌, codes, decimal}
use Rattle.xt_names.specs.declared.names.ExprName.{ExprName}
use Rattle.carried_exprs.specs.Sights.{made_name, local_uri}

-- what is gone over, and how many items it has
abbrev pub items_name : ExprName
items_name = made_name (codes "items")

abbrev pub count_name : ExprName
count_name = made_name (codes "count")

-- an atom, a node, the text of a name, and content, within one form
abbrev pub atom_name : ExprName
atom_name = made_name (codes "atom")

abbrev pub node_name : ExprName
node_name = made_name (codes "node")

abbrev pub text_name : ExprName
text_name = made_name (codes "name")

abbrev pub content_name : ExprName
content_name = made_name (codes "content")

-- the keys of groups, one of them, the indexes at which groups start, an index, one at which a group
-- starts, and that of the next group
abbrev pub keys_name : ExprName
keys_name = made_name (codes "keys")

abbrev pub starts_name : ExprName
starts_name = made_name (codes "starts")

abbrev pub index_name : ExprName
index_name = made_name (codes "index")

abbrev pub start_name : ExprName
start_name = made_name (codes "start")

abbrev pub next_name : ExprName
next_name = made_name (codes "next")

-- a function of the translation
abbrev pub local_name : List ℕ → ExprName
local_name local = record { uri = local_uri; local = local }

-- `stem-n`
abbrev pub numbered : List ℕ → ℕ → List ℕ
numbered stem n = stem ++ (codes "-" ++ decimal n)

-- templates are applied in a mode
abbrev pub mode_function : ℕ → ExprName
mode_function mode = local_name (numbered (codes "m") mode)

-- the template of a rule in a mode, and what next-match and apply-imports do from there
abbrev pub of_rule : List ℕ → ℕ → ℕ → ExprName
of_rule stem place mode = local_name (numbered (numbered stem place) mode)

abbrev pub rule_function : ℕ → ℕ → ExprName
rule_function place mode = of_rule (codes "t") place mode

abbrev pub next_function : ℕ → ℕ → ExprName
next_function place mode = of_rule (codes "nx") place mode

abbrev pub imports_function : ℕ → ℕ → ExprName
imports_function place mode = of_rule (codes "im") place mode

-- a named template, and the nodes of a key
abbrev pub named_function : ℕ → ExprName
named_function number = local_name (numbered (codes "c") number)

abbrev pub key_function : ℕ → ExprName
key_function number = local_name (numbered (codes "key") number)

-- what is passed as a parameter: its value, and whether it is passed
abbrev pub passed_name : List ℕ → ℕ → ExprName
passed_name local number = made_name (numbered local number)

abbrev pub flag_name : List ℕ → ℕ → ExprName
flag_name local number = made_name (numbered (codes "has-" ++ local) number)

-- .. and the value between its evaluation and the call
abbrev pub given_name : List ℕ → ℕ → ExprName
given_name local number = made_name (numbered (codes "with-" ++ local) number)
