-- The profile of the queries that become stylesheets: its rules in order, but for the last, on names
-- and their prefixes.
use Rattle.std.specs.Prelude.{ℕ, zero, suc, ◌+◌, List, [], ◌∷◌, map, Bool, true, false, not}
use Rattle.std.specs.Prelude.{◌&&◌, if◌then◌else◌, max, nat_le, Option, Some, None}
use Rattle.std.specs.List.{list_all}
use Rattle.xt_syntax.specs.declared.exprs.Expr.{Expr}
use Rattle.xt_syntax.specs.declared.exprs.Clause.TheOpen.{Comma, If, Flwor, ElemC, AttrC, DocC}
use Rattle.xt_syntax.specs.declared.exprs.Clause.TheOpen.{For, Let}
use Rattle.xt_syntax.specs.declared.exprs.Clause.TheViews.{out-Expr, out-Flwor, out-Arm, out-Clause}
use Rattle.xt_syntax.specs.declared.exprs.Clause.TheViews.{out-Bind, out-Order}
use Rattle.xt_syntax.specs.declared.queries.Query.{Query}
use Rattle.xt_forms.specs.Nest.{nest_of}
use Rattle.way_back.specs.Contents.{stands_at, outside}
use Rattle.way_back.specs.Forms.{ExprForm, ClauseForm, FlworForm, is_back_at}
use Rattle.way_back.specs.Leaves.{is_leaf, is_missing, is_none_of}
use Rattle.xt_names.specs.Lists.{greatest}

-- the content of the document that a body makes
abbrev pub content_in : ExprForm → Option Expr
content_in (DocC content) = Some content
content_in x = None

abbrev pub content_of : Query → Option Expr
content_of q = content_in (out-Expr q.body)

abbrev pub on_content : (Expr → Bool) → Query → Bool
on_content test q = by_content (content_of q) test
  where
    by_content : Option Expr → (Expr → Bool) → Bool
    by_content None test = false
    by_content (Some content) test = test content

-- so many levels are enough for each query that is read
abbrev pub levels : ℕ
levels = 400

-- the content, and the bodies of the functions
abbrev pub on_bodies : (Expr → Bool) → Query → Bool
on_bodies test q = on_content test q && list_all (λ f. test f.body) q.functions

-- Counts

abbrev pub let_count : ClauseForm → ℕ
let_count (For b place) = 0
let_count (Let b) = 1

abbrev pub for_count : ClauseForm → ℕ
for_count (For b place) = 2
for_count (Let b) = 0

abbrev pub sum_of : List ℕ → ℕ
sum_of [] = 0
sum_of (n ∷ ns) = n + sum_of ns

abbrev pub where_count : Option Expr → ℕ
where_count None = 0
where_count (Some test) = 1

abbrev pub flwor_count : (Expr → ℕ) → FlworForm → ℕ
flwor_count go f =
    1 + (sum_of (map (λ c. let_count (out-Clause c) + for_count (out-Clause c)) f.clauses)
    + (where_count f.test + go f.body))

abbrev pub form_count : (Expr → ℕ) → ExprForm → ℕ
form_count go (Comma all) = greatest (map go all)
form_count go (If arms other) = 1 + max (greatest (map (λ a. go (out-Arm a).then) arms)) (go other)
form_count go (Flwor f) = flwor_count go (out-Flwor f)
form_count go (ElemC name content) = 1 + go content
form_count go x = 1

unfoldable pub count_at : ℕ → Expr → ℕ
count_at zero e = 0
count_at (suc n) e = if is_leaf e then 1 else form_count (count_at n) (out-Expr e)

-- leaves
abbrev pub clause_leaf : (Expr → Bool) → ClauseForm → Bool
clause_leaf test (For b place) = test (out-Bind b).source
clause_leaf test (Let b) = test (out-Bind b).source

abbrev pub if_expr : (Expr → Bool) → Option Expr → Bool
if_expr test None = true
if_expr test (Some e) = test e

abbrev pub form_leaves : (Expr → Bool) → (Expr → Bool) → ExprForm → Bool
form_leaves test go (Comma all) = list_all go all
form_leaves test go (If arms other) =
    list_all (λ a. test (out-Arm a).test && go (out-Arm a).then) arms && go other
form_leaves test go (Flwor f) =
    list_all (λ c. clause_leaf test (out-Clause c)) (out-Flwor f).clauses
    && (if_expr test (out-Flwor f).test
    && (list_all (λ o. test (out-Order o).key) (out-Flwor f).orders && go (out-Flwor f).body))
form_leaves test go (ElemC name content) = go content
form_leaves test go (AttrC name value) = test value
form_leaves test go x = true

-- each leaf passes the test
unfoldable pub all_leaves_at : (Expr → Bool) → ℕ → Expr → Bool
all_leaves_at test zero e = false
all_leaves_at test (suc n) e =
    if is_leaf e then test e else form_leaves test (all_leaves_at test n) (out-Expr e)

-- The rules

-- the body is a document whose content is a back form
abbrev pub makes_document : Query → Bool
makes_document q = on_content (is_back_at levels false false) q

-- every variable is external, and nothing is said of white space and output
abbrev pub has_plain_prolog : Query → Bool
has_plain_prolog q =
    list_all (λ v. is_missing v.value) q.variables && (is_none_of q.space && not q.omit)

-- every function body is a back form, and what loops do reads no focus
abbrev pub keeps_focus : Query → Bool
keeps_focus q = on_bodies (is_back_at levels true false) q

-- what gives attributes is at the front of the content of an element
abbrev pub places_attributes : Query → Bool
places_attributes q = on_bodies (stands_at q.functions levels outside) q

-- leaves nest at most 38, and so many levels of instructions are left
abbrev pub is_flat : Query → Bool
is_flat q =
    on_bodies (λ e. all_leaves_at (λ l. nat_le (nest_of l) 38) levels e && nat_le (count_at levels e) 38) q
