-- The elements of a stylesheet by their names (XSLT 2.0, appendix D).
use Rattle.std.specs.Prelude.{ℕ, List, [], ◌∷◌, Bool, ◌&&◌, Option, Some, None, if◌then◌else◌, codes}
use Rattle.std.specs.Str.{bytes_eq}
use Rattle.xt_names.specs.declared.names.Name.{Name}
use Rattle.xt_names.specs.declared.codes.SheetStaticCode.{SheetStaticCode}
use Rattle.xt_names.specs.declared.codes.SheetStaticCode.TheVariants.{XTSE0010, XTUN0001}
use Rattle.sheet_table.specs.declared.elements.XslElement.{XslElement}
use Rattle.sheet_table.specs.declared.elements.XslElement.TheVariants as element
use Rattle.sheet_table.specs.Texts.{Named, named, is_one_of}
use Rattle.xt_names.specs.Names.{is_in_xslt}

-- the elements that the product reads
abbrev pub elements : List Named
elements =
    named (codes "template") element.Template
    ∷ named (codes "value-of") element.ValueOf
    ∷ named (codes "apply-templates") element.ApplyTemplates
    ∷ named (codes "if") element.If
    ∷ named (codes "for-each") element.ForEach
    ∷ named (codes "choose") element.Choose
    ∷ named (codes "when") element.When
    ∷ named (codes "otherwise") element.Otherwise
    ∷ named (codes "variable") element.Variable
    ∷ named (codes "with-param") element.WithParam
    ∷ named (codes "call-template") element.CallTemplate
    ∷ named (codes "param") element.Param
    ∷ named (codes "text") element.Text
    ∷ named (codes "attribute") element.Attribute
    ∷ named (codes "element") element.Element
    ∷ named (codes "copy-of") element.CopyOf
    ∷ named (codes "copy") element.Copy
    ∷ named (codes "sequence") element.Sequence
    ∷ named (codes "sort") element.Sort
    ∷ named (codes "key") element.Key
    ∷ named (codes "function") element.Function
    ∷ named (codes "for-each-group") element.ForEachGroup
    ∷ named (codes "stylesheet") element.Stylesheet
    ∷ named (codes "transform") element.Stylesheet
    ∷ named (codes "import") element.Import
    ∷ named (codes "include") element.Include
    ∷ named (codes "output") element.Output
    ∷ named (codes "strip-space") element.StripSpace
    ∷ named (codes "preserve-space") element.PreserveSpace
    ∷ named (codes "apply-imports") element.ApplyImports
    ∷ named (codes "next-match") element.NextMatch
    ∷ named (codes "perform-sort") element.PerformSort
    ∷ named (codes "comment") element.Comment
    ∷ named (codes "processing-instruction") element.ProcessingInstruction
    ∷ named (codes "document") element.Document
    ∷ []

abbrev pub element_in : List Named → List ℕ → Option XslElement
element_in [] local = None
element_in (e ∷ es) local = if bytes_eq local e.name then Some e.element else element_in es local

unfoldable pub element_named : List ℕ → Option XslElement
element_named local = element_in elements local

-- the element of XSLT that has the name
abbrev pub xsl_element : Name → Option XslElement
xsl_element name = if is_in_xslt name then element_named name.local else None

-- the elements of the standard that are left out
abbrev pub left_out_elements : List (List ℕ)
left_out_elements =
    codes "analyze-string"
    ∷ codes "attribute-set"
    ∷ codes "character-map"
    ∷ codes "decimal-format"
    ∷ codes "fallback"
    ∷ codes "import-schema"
    ∷ codes "message"
    ∷ codes "namespace"
    ∷ codes "namespace-alias"
    ∷ codes "number"
    ∷ codes "result-document"
    ∷ []

unfoldable pub is_left_out_element : Name → Bool
is_left_out_element name = is_in_xslt name && is_one_of name.local left_out_elements

-- the code of an element that stands where it may not
unfoldable pub misplaced : Name → SheetStaticCode
misplaced name = if is_left_out_element name then XTUN0001 else XTSE0010
