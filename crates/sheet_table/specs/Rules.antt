-- What the table forbids in the attributes of an element. Codes stand in the order in which the
-- rules are met.
use Rattle.std.specs.Prelude.{ℕ, List, [], ◌∷◌, ◌++◌, Bool, not, ◌&&◌, ◌||◌, if◌then◌else◌, Option, Some, None, codes}
use Rattle.std.specs.Str.{bytes_eq}
use Rattle.xt_names.specs.Allowed.{is_empty_text, xml_uri}
use Rattle.xt_names.specs.declared.codes.Code.{Code}
use Rattle.xt_names.specs.declared.codes.Code.TheVariants.{SheetStatic}
use Rattle.xt_names.specs.declared.codes.SheetStaticCode.{SheetStaticCode}
use Rattle.xt_names.specs.declared.codes.SheetStaticCode.TheVariants.{XTSE0010, XTSE0090, XTUN0001}
use Rattle.xt_tree.specs.declared.attributes.Attribute.{Attribute}
use Rattle.sheet_table.specs.declared.elements.XslElement.{XslElement}
use Rattle.sheet_table.specs.Attributes.{attribute, has}
use Rattle.sheet_table.specs.Texts.{is_one_of}
use Rattle.sheet_table.specs.Rows.{Row, row_of, left_out_everywhere}
use Rattle.sheet_table.specs.Choices.{Choice, choices_of}
use Rattle.xt_names.specs.Names.{is_in_xslt}

-- a rule: its code where it is broken
abbrev pub broken : SheetStaticCode → Bool → List Code
broken code b = if b then SheetStatic code ∷ [] else []

-- the codes of each item, in order
abbrev pub each : {A : Type 0} → (A → List Code) → List A → List Code
each f [] = []
each f (x ∷ xs) = f x ++ each f xs

-- `xml:space="preserve"`
unfoldable pub preserves_space : Attribute → Bool
preserves_space a =
    bytes_eq a.name.uri xml_uri && bytes_eq a.name.local (codes "space") && bytes_eq a.value (codes "preserve")

unfoldable pub is_expected : Row → List ℕ → Bool
is_expected r local = is_one_of local r.needed || is_one_of local r.allowed

unfoldable pub is_left_out : Row → List ℕ → Bool
is_left_out r local = is_one_of local r.left_out || is_one_of local left_out_everywhere

-- an attribute without uri that is not expected
unfoldable pub unexpected : Row → List ℕ → SheetStaticCode
unexpected r local = if is_left_out r local then XTUN0001 else XTSE0090

-- one attribute: none of XSLT stands on an element of XSLT, and one of another namespace may (3.3)
unfoldable pub name_faults : Row → Attribute → List Code
name_faults r a =
    if is_in_xslt a.name then SheetStatic XTSE0090 ∷ []
    else if preserves_space a then SheetStatic XTUN0001 ∷ []
    else if not (is_empty_text a.name.uri) || is_expected r a.name.local then []
    else SheetStatic (unexpected r a.name.local) ∷ []

-- the attributes that must stand
abbrev pub missing_faults : List Attribute → List ℕ → List Code
missing_faults attributes local = broken XTSE0010 (not (has attributes local))

-- the values of attributes that take few
unfoldable pub value_faults : Choice → Option (List ℕ) → List Code
value_faults c None = []
value_faults c (Some value) = broken c.code (not (is_one_of value c.values))

unfoldable pub choice_faults : List Attribute → Choice → List Code
choice_faults attributes c = value_faults c (attribute attributes c.name)

-- all attributes of an element of XSLT
unfoldable pub attribute_faults : XslElement → List Attribute → List Code
attribute_faults e attributes =
    each (name_faults (row_of e)) attributes
    ++ (each (missing_faults attributes) ((row_of e).needed)
    ++ each (choice_faults attributes) (choices_of e))

-- one attribute of a literal element: of those of XSLT the product knows one, which does nothing (11.1)
unfoldable pub literal_faults : Attribute → List Code
literal_faults a =
    if is_in_xslt a.name then broken XTUN0001 (not (bytes_eq a.name.local (codes "exclude-result-prefixes")))
    else broken XTUN0001 (preserves_space a)

abbrev pub literal_attribute_faults : List Attribute → List Code
literal_attribute_faults attributes = each literal_faults attributes
