-- What `for`, `let` and what goes with them mean (XPath 2.0, 3.7; XQuery 1.0, 3.8).
use Rattle.std.specs.Prelude.{List, [], ◌∷◌, ◌++◌, Bool, true, false, Option, Some, None}
use Rattle.xt_names.specs.declared.names.Binding.{Binding}
use Rattle.xt_names.specs.declared.names.ExprName.{ExprName}
use Rattle.xt_types.specs.declared.types.SeqType.{SeqType}
use Rattle.xt_syntax.specs.declared.exprs.Expr.{Expr}
use Rattle.xt_syntax.specs.declared.exprs.Expr.TheVariants as expr
use Rattle.xt_syntax.specs.declared.exprs.Bind.{Bind}
use Rattle.xt_syntax.specs.declared.exprs.Clause.{Clause}
use Rattle.xt_syntax.specs.declared.exprs.Clause.TheVariants as clause
use Rattle.xt_syntax.specs.declared.exprs.Order.{Order}
use Rattle.xt_syntax.specs.declared.exprs.Clause.TheViews.{roll-Flwor}
use Rattle.expr_keys.specs.declared.keys.Key.{Key}
use Rattle.expr_keys.specs.declared.keys.Key.TheVariants.{DescendingWord as descending_word}
use Rattle.expr_rules.specs.declared.expr_meant.meant.Meant.{Meant}
use Rattle.expr_rules.specs.declared.expr_meant.meant.Meant.TheVariants as meant
use Rattle.expr_rules.specs.ExprMeant.Parts.{expr_of, expr_in, key_of}
use Rattle.expr_rules.specs.Known.{name_of}

unfoldable pub kind_or : Meant → Option SeqType → Option SeqType
kind_or (meant.Sequence kind) other = Some kind
kind_or _ other = other

-- the first part that is a type
abbrev pub kind_in : List Meant → Option SeqType
kind_in [] = None
kind_in (m ∷ ms) = kind_or m (kind_in ms)

unfoldable pub place_or : Meant → Option ExprName → Option ExprName
place_or (meant.Place name) other = Some name
place_or _ other = other

-- the variable behind `at`
abbrev pub place_in : List Meant → Option ExprName
place_in [] = None
place_in (m ∷ ms) = place_or m (place_in ms)

-- $v as T in a, of which the name is the first part
abbrev pub bind_of : List Binding → Meant → List Meant → Bind
bind_of bound m ms = record { var = name_of bound [] m; kind = kind_in ms; source = expr_in ms }

-- a variable of `for`
abbrev pub for_bind : List Binding → List Meant → Meant
for_bind bound [] = meant.Mark
for_bind bound (m ∷ ms) = meant.Clause (clause.For (bind_of bound m ms) (place_in ms))

-- .. of `let`
abbrev pub let_bind : List Binding → List Meant → Meant
let_bind bound [] = meant.Mark
let_bind bound (m ∷ ms) = meant.Clause (clause.Let (bind_of bound m ms))

-- .. of `some` and `every`
abbrev pub quant_bind : List Binding → List Meant → Meant
quant_bind bound [] = meant.Mark
quant_bind bound (m ∷ ms) = meant.Bind (bind_of bound m ms)

-- the variable behind `at`
abbrev pub placed : List Binding → List Meant → Meant
placed bound [] = meant.Mark
placed bound (m ∷ ms) = meant.Place (name_of bound [] m)

unfoldable pub clause_and : Meant → List Clause → List Clause
clause_and (meant.Clause c) cs = c ∷ cs
clause_and _ cs = cs

-- the variables of one `for` or `let`
abbrev pub clauses_in : List Meant → List Clause
clauses_in [] = []
clauses_in (m ∷ ms) = clause_and m (clauses_in ms)

unfoldable pub clauses_and : Meant → List Clause → List Clause
clauses_and (meant.Clauses cs) more = cs ++ more
clauses_and _ more = more

-- .. of all of them
abbrev pub all_clauses : List Meant → List Clause
all_clauses [] = []
all_clauses (m ∷ ms) = clauses_and m (all_clauses ms)

unfoldable pub where_or : Meant → Option Expr → Option Expr
where_or (meant.Where e) other = Some e
where_or _ other = other

abbrev pub where_in : List Meant → Option Expr
where_in [] = None
where_in (m ∷ ms) = where_or m (where_in ms)

unfoldable pub order_and : Meant → List Order → List Order
order_and (meant.Order o) os = o ∷ os
order_and _ os = os

-- the keys of `order by`
abbrev pub orders_in : List Meant → List Order
orders_in [] = []
orders_in (m ∷ ms) = order_and m (orders_in ms)

unfoldable pub orders_or : Meant → List Order → List Order
orders_or (meant.Orders stable os) other = os
orders_or _ other = other

abbrev pub all_orders : List Meant → List Order
all_orders [] = []
all_orders (m ∷ ms) = orders_or m (all_orders ms)

unfoldable pub stable_or : Meant → Bool → Bool
stable_or (meant.Orders stable os) other = stable
stable_or _ other = other

abbrev pub is_stable : List Meant → Bool
is_stable [] = false
is_stable (m ∷ ms) = stable_or m (is_stable ms)

unfoldable pub is_descending : Key → Bool
is_descending descending_word = true
is_descending _ = false

abbrev pub descends : List Meant → Bool
descends [] = false
descends (m ∷ ms) = is_descending (key_of m)

-- a key of `order by`: what it is, `ascending` or `descending`, `empty least`
abbrev pub key_spec : List Meant → Meant
key_spec [] = meant.Mark
key_spec (m ∷ ms) = meant.Order (record { key = expr_of m; descending = descends ms })

-- clauses, `where`, `order by` and what is returned
abbrev pub flwor : List Meant → Expr
flwor ms = expr.Flwor (roll-Flwor (record { clauses = all_clauses ms; test = where_in ms; orders = all_orders ms; stable = is_stable ms; body = expr_in ms }))
