-- `let` clauses that go: of a value that is still and is not read, and of a literal or a local variable.
use Rattle.std.specs.Prelude.{List, [], ◌∷◌, length, Bool, true, false, ◌&&◌, Option, Some, None}
use Rattle.std.specs.Prelude.{if◌then◌else◌}
use Rattle.std.specs.List.{list_any}
use Rattle.xt_names.specs.declared.names.ExprName.{ExprName}
use Rattle.function_table.specs.declared.builtins.Builtin.{Builtin}
use Rattle.function_table.specs.declared.builtins.Builtin.TheVariants as function
use Rattle.xt_types.specs.declared.types.SeqType.{SeqType}
use Rattle.xt_syntax.specs.declared.exprs.Expr.{Expr}
use Rattle.xt_syntax.specs.declared.exprs.Clause.{Clause}
use Rattle.xt_syntax.specs.declared.exprs.Order.{Order}
use Rattle.xt_syntax.specs.declared.exprs.Clause.TheOpen.{Int, Str, Var, Comma, Call, Flwor, For, Let}
use Rattle.xt_syntax.specs.declared.exprs.Clause.TheViews.{out-Expr, out-Bind, out-Clause, out-Flwor}
use Rattle.xt_syntax.specs.declared.exprs.Clause.TheViews.{roll-Expr, roll-Flwor}
use Rattle.xt_syntax.specs.Layers.{Kinds, Steps, ExprLayer, expr_gives}
use Rattle.expr_meaning.specs.Calls.{Called, library, document, current, current_group, current_key}
use Rattle.expr_meaning.specs.Calls.{key, declared, called}
use Rattle.rewrite_rules.specs.Forms.{ExprForm, ClauseForm, FlworForm}
use Rattle.rewrite_rules.specs.Sights.{Small, integer, string, variable, small_form, lose, put}
use Rattle.rewrite_rules.specs.Sights.{changed_flwor, flwor_allows}
use Rattle.xt_names.specs.ExprNames.{same_name}

abbrev pub is_one_of : List ExprName → ExprName → Bool
is_one_of names name = list_any (λ n. same_name n name) names

abbrev pub truths : Kinds
truths = record {
  Clauses = Bool;
  Exprs = Bool;
  Names = Bool;
  Parts = Bool;
  Arms = Bool;
  Binds = Bool;
  Attrs = Bool;
  Flwors = Bool;
  Orders = Bool;
}

abbrev pub every_one : List Bool → Bool
every_one [] = true
every_one (b ∷ bs) = b && every_one bs

-- a call of true(), false(), empty(e) and exists(e)
abbrev pub is_constant : Builtin → Bool
is_constant function.True = true
is_constant function.False = true
is_constant f = false

abbrev pub is_count : Builtin → Bool → Bool
is_count function.Empty b = b
is_count function.Exists b = b
is_count f b = false

abbrev pub still_call : Called → List Bool → Bool
still_call (library f) [] = is_constant f
still_call (library f) (b ∷ []) = is_count f b
still_call (library f) (a ∷ b ∷ more) = false
still_call document args = false
still_call current args = false
still_call current_group args = false
still_call current_key args = false
still_call key args = false
still_call declared args = false

-- an expression that ends with the same list wherever these names are bound
abbrev pub still_form : List ExprName → ExprLayer truths → Bool
still_form names (Int n) = true
still_form names (Str text) = true
still_form names (Var name) = is_one_of names name
still_form names (Comma all) = every_one all
still_form names (Call name args) = still_call (called name (length args)) args
still_form names x = false

abbrev pub still_steps : List ExprName → Steps truths
still_steps names = record {
  of_expr = still_form names;
  of_clause = λ c. false;
  of_name = λ n. false;
  of_part = λ p. false;
  of_arm = λ a. false;
  of_bind = λ b. false;
  of_attr = λ a. false;
  of_flwor = λ f. false;
  of_order = λ o. false;
}

abbrev pub is_still : List ExprName → Expr → Bool
is_still names = expr_gives truths (still_steps names)

-- the names that a clause binds, before others
abbrev pub behind_form : ClauseForm → List ExprName → List ExprName
behind_form (For b None) names = (out-Bind b).var ∷ names
behind_form (For b (Some place)) names = place ∷ (out-Bind b).var ∷ names
behind_form (Let b) names = (out-Bind b).var ∷ names

-- what comes after a clause
abbrev pub rest_of : FlworForm → List Clause → FlworForm
rest_of f cs = record {
  clauses = cs;
  test = f.test;
  orders = f.orders;
  stable = f.stable;
  body = f.body;
}

abbrev pub with_clause : Clause → FlworForm → FlworForm
with_clause c f = rest_of f (c ∷ f.clauses)

abbrev pub before : Clause → Option FlworForm → Option FlworForm
before c None = None
before c (Some f) = Some (with_clause c f)

abbrev pub first_or : Option FlworForm → Option FlworForm → Option FlworForm
first_or (Some f) later = Some f
first_or None later = later

-- what is left of a clause and what comes after it
abbrev pub Taken : Type 0
Taken = List ExprName → ClauseForm → FlworForm → Option FlworForm

-- without the first clause that goes
abbrev pub without_clause : Taken → List ExprName → List Clause → FlworForm → Option FlworForm
without_clause taken names [] f = None
without_clause taken names (c ∷ cs) f =
    first_or (taken names (out-Clause c) (rest_of f cs))
    (before c (without_clause taken (behind_form (out-Clause c) names) cs f))

-- a `let` of a value that is still, which is not read
abbrev pub unread : List ExprName → ExprName → Option SeqType → Expr → FlworForm → Option FlworForm
unread names v None e f =
    if is_still names e && flwor_allows (roll-Flwor f) (lose v) then Some f else None
unread names v (Some kind) e f = None

abbrev pub unread_clause : Taken
unread_clause names (Let b) f = unread names (out-Bind b).var (out-Bind b).kind (out-Bind b).source f
unread_clause names (For b place) f = None

-- a `let` of a literal or of a local variable, which is put in place of its own
abbrev pub is_local_small : List ExprName → Small → Bool
is_local_small names (integer n) = true
is_local_small names (string text) = true
is_local_small names (variable w) = is_one_of names w

abbrev pub put_in : List ExprName → ExprName → Option Small → FlworForm → Option FlworForm
put_in names v None f = None
put_in names v (Some r) f =
    if is_local_small names r && flwor_allows (roll-Flwor f) (put v r)
    then Some (out-Flwor (changed_flwor (roll-Flwor f) (put v r))) else None

abbrev pub copied : List ExprName → ExprName → Option SeqType → Expr → FlworForm → Option FlworForm
copied names v None e f = put_in names v (small_form (out-Expr e)) f
copied names v (Some kind) e f = None

abbrev pub copied_clause : Taken
copied_clause names (Let b) f = copied names (out-Bind b).var (out-Bind b).kind (out-Bind b).source f
copied_clause names (For b place) f = None

-- What is left: the body where there are no clauses, no `where` and no order. Without clauses there is
-- neither `where` nor an order.
abbrev pub bare_body : Option Expr → List Order → Expr → Option Expr
bare_body None [] body = Some body
bare_body None (o ∷ os) body = None
bare_body (Some test) os body = None

abbrev pub left_of : FlworForm → List Clause → Option Expr
left_of f [] = bare_body f.test f.orders f.body
left_of f (c ∷ cs) = Some (roll-Expr (Flwor (roll-Flwor f)))

abbrev pub left : Option FlworForm → Option Expr
left None = None
left (Some f) = left_of f f.clauses

abbrev pub taken_form : Taken → List ExprName → ExprForm → Option Expr
taken_form taken names (Flwor f) =
    left (without_clause taken names (out-Flwor f).clauses (out-Flwor f))
taken_form taken names x = None

abbrev pub rule_1 : List ExprName → Expr → Option Expr
rule_1 bound e = taken_form unread_clause bound (out-Expr e)

abbrev pub rule_7 : List ExprName → Expr → Option Expr
rule_7 bound e = taken_form copied_clause bound (out-Expr e)
