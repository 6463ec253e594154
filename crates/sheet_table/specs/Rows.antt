-- The attributes of the elements of a stylesheet, a line an element (XSLT 2.0, appendix D).
use Rattle.std.specs.Prelude.{ℕ, List, [], ◌∷◌, codes}
use Rattle.sheet_table.specs.declared.elements.XslElement.{XslElement}
use Rattle.sheet_table.specs.declared.elements.XslElement.TheVariants.{Stylesheet, Import, Include, Template, Function, Key, StripSpace, PreserveSpace, Output, Param, Variable, WithParam, ApplyTemplates, ApplyImports, NextMatch, CallTemplate, ForEach, ForEachGroup, PerformSort, Sort, If, Choose, When, Otherwise, ValueOf, Text, Element, Attribute, Comment, ProcessingInstruction, Document, Copy, CopyOf, Sequence}

-- the attributes that must stand on an element, those that may, and those that are left out
pub record Row : Type 0 where
  pub needed : List (List ℕ)
  pub allowed : List (List ℕ)
  pub left_out : List (List ℕ)

abbrev pub row : List (List ℕ) → List (List ℕ) → List (List ℕ) → Row
row needed allowed left_out = record { needed = needed; allowed = allowed; left_out = left_out }

abbrev pub row_of : XslElement → Row
row_of Stylesheet = row (codes "version" ∷ []) (codes "id" ∷ codes "exclude-result-prefixes" ∷ []) (codes "default-validation" ∷ codes "input-type-annotations" ∷ [])
row_of Import = row (codes "href" ∷ []) [] []
row_of Include = row (codes "href" ∷ []) [] []
row_of Template = row [] (codes "match" ∷ codes "name" ∷ codes "priority" ∷ codes "mode" ∷ codes "as" ∷ []) []
row_of Function = row (codes "name" ∷ []) (codes "as" ∷ []) (codes "override" ∷ [])
row_of Key = row (codes "name" ∷ codes "match" ∷ codes "use" ∷ []) [] (codes "collation" ∷ [])
row_of StripSpace = row (codes "elements" ∷ []) [] []
row_of PreserveSpace = row (codes "elements" ∷ []) [] []
row_of Output = row [] (codes "method" ∷ codes "version" ∷ codes "encoding" ∷ codes "indent" ∷ codes "omit-xml-declaration" ∷ []) (codes "name" ∷ codes "byte-order-mark" ∷ codes "cdata-section-elements" ∷ codes "doctype-public" ∷ codes "doctype-system" ∷ codes "escape-uri-attributes" ∷ codes "include-content-type" ∷ codes "media-type" ∷ codes "normalization-form" ∷ codes "standalone" ∷ codes "undeclare-prefixes" ∷ codes "use-character-maps" ∷ [])
row_of Param = row (codes "name" ∷ []) (codes "select" ∷ codes "as" ∷ codes "required" ∷ codes "tunnel" ∷ []) []
row_of Variable = row (codes "name" ∷ []) (codes "select" ∷ codes "as" ∷ []) []
row_of WithParam = row (codes "name" ∷ []) (codes "select" ∷ codes "as" ∷ codes "tunnel" ∷ []) []
row_of ApplyTemplates = row [] (codes "select" ∷ codes "mode" ∷ []) []
row_of ApplyImports = row [] [] []
row_of NextMatch = row [] [] []
row_of CallTemplate = row (codes "name" ∷ []) [] []
row_of ForEach = row (codes "select" ∷ []) [] []
row_of ForEachGroup = row (codes "select" ∷ []) (codes "group-by" ∷ codes "group-adjacent" ∷ codes "group-starting-with" ∷ []) (codes "group-ending-with" ∷ codes "collation" ∷ [])
row_of PerformSort = row [] (codes "select" ∷ []) []
row_of Sort = row [] (codes "select" ∷ codes "order" ∷ codes "data-type" ∷ []) (codes "lang" ∷ codes "collation" ∷ codes "stable" ∷ codes "case-order" ∷ [])
row_of If = row (codes "test" ∷ []) [] []
row_of Choose = row [] [] []
row_of When = row (codes "test" ∷ []) [] []
row_of Otherwise = row [] [] []
row_of ValueOf = row [] (codes "select" ∷ codes "separator" ∷ []) (codes "disable-output-escaping" ∷ [])
row_of Text = row [] [] (codes "disable-output-escaping" ∷ [])
row_of Element = row (codes "name" ∷ []) [] (codes "type" ∷ codes "validation" ∷ codes "namespace" ∷ codes "inherit-namespaces" ∷ codes "use-attribute-sets" ∷ [])
row_of Attribute = row (codes "name" ∷ []) (codes "select" ∷ codes "separator" ∷ []) (codes "type" ∷ codes "validation" ∷ codes "namespace" ∷ [])
row_of Comment = row [] (codes "select" ∷ []) []
row_of ProcessingInstruction = row (codes "name" ∷ []) (codes "select" ∷ []) []
row_of Document = row [] [] (codes "type" ∷ codes "validation" ∷ [])
row_of Copy = row [] [] (codes "type" ∷ codes "validation" ∷ codes "inherit-namespaces" ∷ codes "use-attribute-sets" ∷ codes "copy-namespaces" ∷ [])
row_of CopyOf = row (codes "select" ∷ []) [] (codes "type" ∷ codes "validation" ∷ codes "copy-namespaces" ∷ [])
row_of Sequence = row (codes "select" ∷ []) [] []

-- the attributes that are left out on every element (3.5)
abbrev pub left_out_everywhere : List (List ℕ)
left_out_everywhere =
    codes "use-when"
    ∷ codes "xpath-default-namespace"
    ∷ codes "default-collation"
    ∷ codes "extension-element-prefixes"
    ∷ codes "version"
    ∷ codes "exclude-result-prefixes"
    ∷ []
