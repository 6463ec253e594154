-- The functions that every expression may call, with the least and the greatest number of their arguments (XQuery 1.0 and
-- XPath 2.0 Functions and Operators), by the first letters of their names.
use Rattle.std.specs.Prelude.{ℕ, List, [], ◌∷◌, ◌++◌, ◌==◌, codes, if◌then◌else◌}
use Rattle.function_table.specs.declared.builtins.Builtin.{Builtin}
use Rattle.function_table.specs.declared.builtins.Builtin.TheVariants as function

-- one function: its local name and how many arguments it takes
pub record Row : Type 0 where
  pub name : List ℕ
  pub builtin : Builtin
  pub least : ℕ
  pub greatest : ℕ

abbrev pub row : List ℕ → Builtin → ℕ → ℕ → Row
row name builtin least greatest = record { name = name; builtin = builtin; least = least; greatest = greatest }

-- as many as 64 bits count
abbrev pub any_number : ℕ
any_number = 0xffff_ffff_ffff_ffff

abbrev pub of_a : List Row
of_a =
    row (codes "abs") function.Abs 1 1
    ∷ []

abbrev pub of_b : List Row
of_b =
    row (codes "boolean") function.Boolean 1 1
    ∷ []

abbrev pub of_c : List Row
of_c =
    row (codes "codepoint-equal") function.CodepointEqual 2 2
    ∷ row (codes "codepoints-to-string") function.CodepointsToString 1 1
    ∷ row (codes "compare") function.Compare 2 2
    ∷ row (codes "concat") function.Concat 2 any_number
    ∷ row (codes "contains") function.Contains 2 2
    ∷ row (codes "count") function.Count 1 1
    ∷ []

abbrev pub of_d : List Row
of_d =
    row (codes "data") function.Data 1 1
    ∷ row (codes "deep-equal") function.DeepEqual 2 2
    ∷ row (codes "distinct-values") function.DistinctValues 1 1
    ∷ []

abbrev pub of_e : List Row
of_e =
    row (codes "empty") function.Empty 1 1
    ∷ row (codes "ends-with") function.EndsWith 2 2
    ∷ row (codes "error") function.Error 0 0
    ∷ row (codes "exactly-one") function.ExactlyOne 1 1
    ∷ row (codes "exists") function.Exists 1 1
    ∷ []

abbrev pub of_f : List Row
of_f =
    row (codes "false") function.False 0 0
    ∷ []

abbrev pub of_i : List Row
of_i =
    row (codes "index-of") function.IndexOf 2 2
    ∷ row (codes "insert-before") function.InsertBefore 3 3
    ∷ []

abbrev pub of_l : List Row
of_l =
    row (codes "last") function.Last 0 0
    ∷ row (codes "local-name") function.LocalName 0 1
    ∷ row (codes "local-name-from-QName") function.LocalNameFromQName 1 1
    ∷ []

abbrev pub of_m : List Row
of_m =
    row (codes "max") function.Max 1 1
    ∷ row (codes "min") function.Min 1 1
    ∷ []

abbrev pub of_n : List Row
of_n =
    row (codes "name") function.Name 0 1
    ∷ row (codes "namespace-uri") function.NamespaceUri 0 1
    ∷ row (codes "namespace-uri-from-QName") function.NamespaceUriFromQName 1 1
    ∷ row (codes "node-name") function.NodeName 1 1
    ∷ row (codes "normalize-space") function.NormalizeSpace 0 1
    ∷ row (codes "not") function.Not 1 1
    ∷ []

abbrev pub of_o : List Row
of_o =
    row (codes "one-or-more") function.OneOrMore 1 1
    ∷ []

abbrev pub of_p : List Row
of_p =
    row (codes "position") function.Position 0 0
    ∷ row (codes "prefix-from-QName") function.PrefixFromQName 1 1
    ∷ []

abbrev pub of_capital_q : List Row
of_capital_q =
    row (codes "QName") function.QName 2 2
    ∷ []

abbrev pub of_r : List Row
of_r =
    row (codes "remove") function.Remove 2 2
    ∷ row (codes "reverse") function.Reverse 1 1
    ∷ row (codes "root") function.Root 0 1
    ∷ []

abbrev pub of_s : List Row
of_s =
    row (codes "starts-with") function.StartsWith 2 2
    ∷ row (codes "string") function.String 0 1
    ∷ row (codes "string-join") function.StringJoin 2 2
    ∷ row (codes "string-length") function.StringLength 0 1
    ∷ row (codes "string-to-codepoints") function.StringToCodepoints 1 1
    ∷ row (codes "subsequence") function.Subsequence 2 3
    ∷ row (codes "substring") function.Substring 2 3
    ∷ row (codes "substring-after") function.SubstringAfter 2 2
    ∷ row (codes "substring-before") function.SubstringBefore 2 2
    ∷ row (codes "sum") function.Sum 1 2
    ∷ []

abbrev pub of_t : List Row
of_t =
    row (codes "translate") function.Translate 3 3
    ∷ row (codes "true") function.True 0 0
    ∷ []

abbrev pub of_u : List Row
of_u =
    row (codes "unordered") function.Unordered 1 1
    ∷ []

abbrev pub of_z : List Row
of_z =
    row (codes "zero-or-one") function.ZeroOrOne 1 1
    ∷ []

-- each first letter with its functions
abbrev pub groups : List (ℕ × List Row)
groups =
    (97, of_a)
    ∷ (98, of_b)
    ∷ (99, of_c)
    ∷ (100, of_d)
    ∷ (101, of_e)
    ∷ (102, of_f)
    ∷ (105, of_i)
    ∷ (108, of_l)
    ∷ (109, of_m)
    ∷ (110, of_n)
    ∷ (111, of_o)
    ∷ (112, of_p)
    ∷ (81, of_capital_q)
    ∷ (114, of_r)
    ∷ (115, of_s)
    ∷ (116, of_t)
    ∷ (117, of_u)
    ∷ (122, of_z)
    ∷ []

unfoldable pub joined : List (ℕ × List Row) → List Row
joined [] = []
joined (group ∷ rest) = group.1 ++ joined rest

-- the functions of all letters
abbrev pub table : List Row
table = joined groups

-- the functions of one letter
unfoldable pub rows_under : ℕ → List (ℕ × List Row) → List Row
rows_under c [] = []
rows_under c (group ∷ rest) = if c == group.0 then group.1 ++ rows_under c rest else rows_under c rest
