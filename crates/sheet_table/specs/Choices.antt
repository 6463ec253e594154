-- The values that attributes take, where they take few (XSLT 2.0, appendix D): a line an attribute.
use Rattle.std.specs.Prelude.{ℕ, List, [], ◌∷◌, codes}
use Rattle.xt_names.specs.declared.codes.SheetStaticCode.{SheetStaticCode}
use Rattle.xt_names.specs.declared.codes.SheetStaticCode.TheVariants.{XTSE0020, XTUN0001}
use Rattle.sheet_table.specs.declared.elements.XslElement.{XslElement}
use Rattle.sheet_table.specs.declared.elements.XslElement.TheVariants.{Stylesheet, Output, Param, WithParam, Sort}

-- an attribute, the values that it takes, and the code of any other value
pub record Choice : Type 0 where
  pub name : List ℕ
  pub values : List (List ℕ)
  pub code : SheetStaticCode

abbrev pub choice : List ℕ → List (List ℕ) → SheetStaticCode → Choice
choice name values code = record { name = name; values = values; code = code }

abbrev pub yes_or_no : List (List ℕ)
yes_or_no = codes "yes" ∷ codes "no" ∷ []

-- each letter in either case
abbrev pub utf_8 : List (List ℕ)
utf_8 =
    codes "UTF-8"
    ∷ codes "UTf-8"
    ∷ codes "UtF-8"
    ∷ codes "Utf-8"
    ∷ codes "uTF-8"
    ∷ codes "uTf-8"
    ∷ codes "utF-8"
    ∷ codes "utf-8"
    ∷ []

abbrev pub of_output : List Choice
of_output =
    choice (codes "method") (codes "xml" ∷ []) XTUN0001
    ∷ choice (codes "version") (codes "1.0" ∷ []) XTUN0001
    ∷ choice (codes "encoding") utf_8 XTUN0001
    ∷ choice (codes "indent") yes_or_no XTSE0020
    ∷ choice (codes "omit-xml-declaration") yes_or_no XTSE0020
    ∷ []

abbrev pub of_param : List Choice
of_param =
    choice (codes "required") yes_or_no XTSE0020
    ∷ choice (codes "tunnel") yes_or_no XTSE0020
    ∷ []

abbrev pub of_sort : List Choice
of_sort =
    choice (codes "order") (codes "ascending" ∷ codes "descending" ∷ []) XTSE0020
    ∷ choice (codes "data-type") (codes "text" ∷ codes "number" ∷ []) XTSE0020
    ∷ []

abbrev pub choices_of : XslElement → List Choice
choices_of Stylesheet = choice (codes "version") (codes "2.0" ∷ []) XTUN0001 ∷ []
choices_of Output = of_output
choices_of Param = of_param
choices_of WithParam = choice (codes "tunnel") yes_or_no XTSE0020 ∷ []
choices_of Sort = of_sort
choices_of e = []
