-- The namespaces that a query declares. The names of nodes keep their prefixes, first come first
-- served; any other uri gets a prefix of its own.
use Rattle.std.specs.Prelude.{ℕ, zero, suc, List, [], ◌∷◌, ◌++◌, length, Bool, not, ◌&&◌, ◌||◌}
use Rattle.std.specs.Prelude.{codes, decimal, if◌then◌else◌}
use Rattle.std.specs.List.{list_any}
use Rattle.std.specs.Str.{bytes_eq}
use Rattle.xt_names.specs.Allowed.{is_empty_text, xml_uri}
use Rattle.xt_names.specs.declared.names.Binding.{Binding}
use Rattle.xt_names.specs.declared.names.Name.{Name}
use Rattle.carried_exprs.specs.Sights.{made_uri, local_uri}
use Rattle.xt_names.specs.ExprNames.{binding}

-- the namespaces that every query has
abbrev pub predeclared : List Binding
predeclared =
    binding (codes "xml") xml_uri
    ∷ binding (codes "xs") (codes "http://www.w3.org/2001/XMLSchema")
    ∷ binding (codes "xsi") (codes "http://www.w3.org/2001/XMLSchema-instance")
    ∷ binding (codes "fn") (codes "http://www.w3.org/2005/xpath-functions")
    ∷ binding (codes "local") local_uri ∷ []

abbrev pub has_prefix : List Binding → List ℕ → Bool
has_prefix bs prefix = list_any (λ b. bytes_eq b.prefix prefix) bs

abbrev pub has_uri : List Binding → List ℕ → Bool
has_uri bs uri = list_any (λ b. bytes_eq b.uri uri) bs

abbrev pub is_taken : List Binding → List ℕ → Bool
is_taken bs prefix = has_prefix bs prefix || has_prefix predeclared prefix

-- the prefix of a name of a node, where it has one that is not taken
abbrev pub may_keep : List Binding → Name → Bool
may_keep bs n = not (is_empty_text n.prefix) && not (is_taken bs n.prefix)

abbrev pub with_prefix : List Binding → Name → List Binding
with_prefix bs n = if may_keep bs n then bs ++ binding n.prefix n.uri ∷ [] else bs

abbrev pub kept_prefixes : List Binding → List Name → List Binding
kept_prefixes bs [] = bs
kept_prefixes bs (n ∷ names) = kept_prefixes (with_prefix bs n) names

-- the first of `stem1`, `stem2`, .. that is not taken: at most as many are tried as are taken
abbrev pub free_from : ℕ → ℕ → List ℕ → List Binding → List ℕ
free_from zero n stem bs = stem ++ decimal n
free_from (suc left) n stem bs =
    if has_prefix bs (stem ++ decimal n) then free_from left (suc n) stem bs
    else stem ++ decimal n

abbrev pub free_prefix : List ℕ → List Binding → List ℕ
free_prefix stem bs = free_from (length bs) 1 stem bs

-- the namespace of the names that are made up
abbrev pub made_prefix : List Binding → List ℕ
made_prefix bs =
    if has_prefix bs (codes "x") then free_prefix (codes "x") bs else codes "x"

abbrev pub with_made : List Binding → List Binding
with_made bs =
    if has_uri bs made_uri then bs else bs ++ binding (made_prefix bs) made_uri ∷ []

-- any other uri that has none
abbrev pub has_none : List Binding → List ℕ → Bool
has_none bs uri = not (is_empty_text uri) && not (has_uri bs uri || has_uri predeclared uri)

abbrev pub with_uri : List Binding → List ℕ → List Binding
with_uri bs uri =
    if has_none bs uri then bs ++ binding (free_prefix (codes "n") bs) uri ∷ [] else bs

abbrev pub with_uris : List Binding → List (List ℕ) → List Binding
with_uris bs [] = bs
with_uris bs (uri ∷ uris) = with_uris (with_uri bs uri) uris
