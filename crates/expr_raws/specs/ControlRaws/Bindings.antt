-- Quantifiers, and what binds variables, as raw values (XPath 2.0, 3.7 and 3.9; XQuery 1.0, 3.8).
use Rattle.std.specs.Prelude.{Bool, true, false, ◌&&◌, ◌||◌, not, List, [], ◌∷◌, ◌++◌, map}
use Rattle.std.specs.Prelude.{Option, Some, None, if◌then◌else◌}
use Rattle.std.specs.List.{list_all}
use Rattle.xt_names.specs.declared.names.ExprName.{ExprName}
use Rattle.xt_types.specs.declared.types.SeqType.{SeqType}
use Rattle.xt_syntax.specs.declared.prefixes.Prefixes.{Prefixes}
use Rattle.expr_keys.specs.declared.keys.Key.{Key}
use Rattle.expr_keys.specs.declared.keys.Key.TheVariants as key
use Rattle.expr_keys.specs.declared.tokens.Token.{Token}
use Rattle.expr_keys.specs.declared.tokens.Token.TheVariants as token
use Rattle.expr_keys.specs.declared.productions.Production.{Production}
use Rattle.expr_keys.specs.declared.productions.Production.TheVariants as production
use Rattle.expr_terms.specs.declared.raws.Raw.{Raw}
use Rattle.expr_terms.specs.declared.raws.Raw.TheVariants.{Node as node}
use Rattle.expr_raws.specs.PathRaws.Forms.{Form, single, at, said, ends_unmarked, key_leaf}
use Rattle.expr_raws.specs.PathRaws.Names.{name_token}
use Rattle.expr_raws.specs.PathRaws.Paths.{with_token, leaf_test}
use Rattle.expr_raws.specs.ControlRaws.Types.{sequence_form}

-- the name of a variable
abbrev pub variable_name : Prefixes → ExprName → Form
variable_name p n = with_token (name_token p.bound [] n) leaf_test

-- the type behind `as`, if there is one
abbrev pub typing : Prefixes → Option SeqType → Option Form
typing p None = None
typing p (Some t) = Some (sequence_form p t)

-- the variable behind `at`, if there is one
abbrev pub placing : Prefixes → Option ExprName → Option Form
placing p None = None
placing p (Some n) = Some (variable_name p n)

-- what is left out can be printed
abbrev pub may : Option Form → Bool
may None = true
may (Some f) = f.can

abbrev pub has_some : {A : Type 0} → List A → Bool
has_some [] = false
has_some (x ∷ xs) = true

-- as T
abbrev pub typed : Option Form → List Raw
typed None = []
typed (Some f) = node production.AsType (f.raw ∷ []) ∷ []

-- at $p
abbrev pub placed : Option Form → List Raw
placed None = []
placed (Some f) = node production.AtVariable (f.raw ∷ []) ∷ []

-- $v as T, and what it is bound to
pub record BindForm : Type 0 where
  pub name : Form
  pub kind : Option Form
  pub source : Form

abbrev pub binding : Prefixes → ExprName → Option SeqType → Form → BindForm
binding p v k a = record { name = variable_name p v; kind = typing p k; source = a }

abbrev pub bind_can : BindForm → Bool
bind_can b = b.name.can && (may b.kind && b.source.can)

-- by the production, with what comes after the type
abbrev pub bound_by : Production → List Raw → BindForm → Raw
bound_by p more b = node p (b.name.raw ∷ (typed b.kind ++ (more ++ at single b.source ∷ [])))

-- the tokens of a variable with its type, with what comes after the type, with the word before
-- what it is bound to
abbrev pub typing_tokens : Option Form → List Token → List Token
typing_tokens None rest = rest
typing_tokens (Some f) rest = token.Key key.AsWord ∷ f.tokens rest

abbrev pub placing_tokens : Option Form → List Token → List Token
placing_tokens None rest = rest
placing_tokens (Some f) rest = token.Key key.AtWord ∷ token.Key key.Dollar ∷ f.tokens rest

abbrev pub bind_tokens : Option Form → Key → BindForm → List Token → List Token
bind_tokens o k b rest = token.Key key.Dollar ∷ b.name.tokens (typing_tokens b.kind
    (placing_tokens o (token.Key k ∷ said single b.source rest)))

-- .. with commas between them
abbrev pub binds_tokens : List BindForm → List Token → List Token
binds_tokens [] rest = rest
binds_tokens (b ∷ []) rest = bind_tokens None key.InWord b rest
binds_tokens (b ∷ c ∷ bs) rest =
    bind_tokens None key.InWord b (token.Key key.Comma ∷ binds_tokens (c ∷ bs) rest)

abbrev pub quantifier : Bool → Key
quantifier true = key.EveryWord
quantifier false = key.SomeWord

abbrev pub quant_bind : BindForm → Raw
quant_bind b = bound_by production.QuantifiedIn [] b

abbrev pub binds_can : List BindForm → Bool
binds_can bs = list_all (λ b. bind_can b) bs

-- some $v in a, .. satisfies b, or the same with `every`
abbrev pub quantified : Bool → List BindForm → Form → Form
quantified every bs a = record {
  raw = node production.QuantifiedExpr (key_leaf (quantifier every)
      ∷ (map (λ b. quant_bind b) bs ++ at single a ∷ []));
  tokens = λ rest. token.Key (quantifier every)
      ∷ binds_tokens bs (token.Key key.SatisfiesWord ∷ said single a rest);
  place = single;
  unmarked = ends_unmarked single a;
  can = has_some bs && (binds_can bs && a.can);
}

-- a variable of `for` or `let`
pub record ClauseForm : Type 0 where
  pub loops : Bool
  pub raw : Raw
  pub tokens : List Token → List Token
  pub can : Bool

abbrev pub for_clause : BindForm → Option Form → ClauseForm
for_clause b o = record {
  loops = true;
  raw = bound_by production.ForIn (placed o) b;
  tokens = bind_tokens o key.InWord b;
  can = bind_can b && may o;
}

abbrev pub let_clause : BindForm → ClauseForm
let_clause b = record {
  loops = false;
  raw = bound_by production.LetAssign [] b;
  tokens = bind_tokens None key.Assign b;
  can = bind_can b;
}

-- the variables of one `for`, or that of one `let`
pub data Group : Type 0 where
  looping : List Raw → Group
  letting : Raw → Group

-- Variables of `for` that follow one another come after one `for`.
abbrev pub with_for : Raw → List Group → List Group
with_for v [] = looping (v ∷ []) ∷ []
with_for v (looping vs ∷ gs) = looping (v ∷ vs) ∷ gs
with_for v (letting w ∷ gs) = looping (v ∷ []) ∷ letting w ∷ gs

abbrev pub with_clause : ClauseForm → List Group → List Group
with_clause c gs = if c.loops then with_for c.raw gs else letting c.raw ∷ gs

abbrev pub groups : List ClauseForm → List Group
groups [] = []
groups (c ∷ cs) = with_clause c (groups cs)

abbrev pub group_raw : Group → Raw
group_raw (looping vs) = node production.ForClause vs
group_raw (letting v) = node production.LetClause (v ∷ [])

-- the tokens of clauses, where the one before them is of `for` or not
abbrev pub clause_tokens : Bool → ClauseForm → List Token → List Token
clause_tokens loops c rest =
    if c.loops then (if loops then token.Key key.Comma ∷ c.tokens rest
    else token.Key key.ForWord ∷ c.tokens rest) else token.Key key.LetWord ∷ c.tokens rest

abbrev pub clauses_tokens : Bool → List ClauseForm → List Token → List Token
clauses_tokens loops [] rest = rest
clauses_tokens loops (c ∷ cs) rest = clause_tokens loops c (clauses_tokens c.loops cs rest)

abbrev pub clauses_can : List ClauseForm → Bool
clauses_can cs = list_all (λ c. c.can) cs

-- where a
abbrev pub wheres : Option Form → List Raw
wheres None = []
wheres (Some f) = node production.WhereTest (at single f ∷ []) ∷ []

abbrev pub where_tokens : Option Form → List Token → List Token
where_tokens None rest = rest
where_tokens (Some f) rest = token.Key key.WhereWord ∷ said single f rest

-- a key of `order by`
pub record OrderForm : Type 0 where
  pub key : Form
  pub descending : Bool

abbrev pub ways : Bool → List Raw
ways true = key_leaf key.DescendingWord ∷ []
ways false = []

abbrev pub order_raw : OrderForm → Raw
order_raw o = node production.OrderKey (at single o.key ∷ ways o.descending)

abbrev pub orders_can : List OrderForm → Bool
orders_can os = list_all (λ o. o.key.can) os

abbrev pub ordering : Bool → Production
ordering true = production.StableOrderBy
ordering false = production.OrderBy

-- order by a, ..
abbrev pub ordered : Bool → List OrderForm → List Raw
ordered stable [] = []
ordered stable (o ∷ os) = node (ordering stable) (map (λ x. order_raw x) (o ∷ os)) ∷ []

abbrev pub way_tokens : Bool → List Token → List Token
way_tokens true rest = token.Key key.DescendingWord ∷ rest
way_tokens false rest = rest

abbrev pub keys_tokens : List OrderForm → List Token → List Token
keys_tokens [] rest = rest
keys_tokens (o ∷ []) rest = said single o.key (way_tokens o.descending rest)
keys_tokens (o ∷ q ∷ os) rest = said single o.key (way_tokens o.descending
    (token.Key key.Comma ∷ keys_tokens (q ∷ os) rest))

abbrev pub stable_tokens : Bool → List Token → List Token
stable_tokens true rest = token.Key key.StableWord ∷ rest
stable_tokens false rest = rest

abbrev pub order_tokens : Bool → List OrderForm → List Token → List Token
order_tokens stable [] rest = rest
order_tokens stable (o ∷ os) rest = stable_tokens stable
    (token.Key key.OrderWord ∷ token.Key key.ByWord ∷ keys_tokens (o ∷ os) rest)

-- clauses, `where`, `order by` and what is returned
abbrev pub flowing : List ClauseForm → Option Form → List OrderForm → Bool → Form → Form
flowing cs t os stable a = record {
  raw = node production.FlworExpr (map (λ g. group_raw g) (groups cs)
      ++ (wheres t ++ (ordered stable os ++ at single a ∷ [])));
  tokens = λ rest. clauses_tokens false cs (where_tokens t (order_tokens stable os
      (token.Key key.ReturnWord ∷ said single a rest)));
  place = single;
  unmarked = ends_unmarked single a;
  can = has_some cs && (clauses_can cs && (may t && (orders_can os
      && ((not stable || has_some os) && a.can))));
}
