-- What the elements of a stylesheet hold, a line an element (XSLT 2.0, appendix D).
use Rattle.std.specs.Prelude.{Bool, true, false, Option, Some, None}
use Rattle.sheet_table.specs.declared.contents.Content.{Content}
use Rattle.sheet_table.specs.declared.contents.Content.TheVariants as content
use Rattle.sheet_table.specs.declared.elements.XslElement.{XslElement}
use Rattle.sheet_table.specs.declared.elements.XslElement.TheVariants as element

abbrev pub content_of : XslElement → Content
content_of element.Stylesheet = content.Declarations
content_of element.Import = content.Nothing
content_of element.Include = content.Nothing
content_of element.Template = content.Params
content_of element.Function = content.Params
content_of element.Key = content.Nothing
content_of element.StripSpace = content.Nothing
content_of element.PreserveSpace = content.Nothing
content_of element.Output = content.Nothing
content_of element.Param = content.Body
content_of element.Variable = content.Body
content_of element.WithParam = content.Body
content_of element.ApplyTemplates = content.SortsAndPassed
content_of element.ApplyImports = content.Passed
content_of element.NextMatch = content.Passed
content_of element.CallTemplate = content.Passed
content_of element.ForEach = content.Sorts
content_of element.ForEachGroup = content.Sorts
content_of element.PerformSort = content.Sorts
content_of element.Sort = content.Nothing
content_of element.If = content.Body
content_of element.Choose = content.Whens
content_of element.When = content.Body
content_of element.Otherwise = content.Body
content_of element.ValueOf = content.Body
content_of element.Text = content.Characters
content_of element.Element = content.Body
content_of element.Attribute = content.Body
content_of element.Comment = content.Body
content_of element.ProcessingInstruction = content.Body
content_of element.Document = content.Body
content_of element.Copy = content.Body
content_of element.CopyOf = content.Nothing
content_of element.Sequence = content.Nothing

-- the child may be at the front of such content, before what else it holds
abbrev pub leads : Content → Option XslElement → Bool
leads content.Params (Some element.Param) = true
leads content.Sorts (Some element.Sort) = true
leads content.Passed (Some element.WithParam) = true
leads content.SortsAndPassed (Some element.Sort) = true
leads content.SortsAndPassed (Some element.WithParam) = true
leads content.Whens (Some element.When) = true
leads c child = false

-- a sequence constructor comes after that front
abbrev pub holds_body : Content → Bool
holds_body content.Body = true
holds_body content.Params = true
holds_body content.Sorts = true
holds_body c = false
