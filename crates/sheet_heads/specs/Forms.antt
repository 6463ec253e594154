-- What elements are where instructions stand, a line an element (XSLT 2.0, appendix D).
use Rattle.sheet_table.specs.declared.elements.XslElement.{XslElement}
use Rattle.sheet_table.specs.declared.elements.XslElement.TheVariants as element
use Rattle.sheet_heads.specs.declared.forms.Form.{Form}
use Rattle.sheet_heads.specs.declared.forms.Form.TheVariants.{Leaf, Bodied, Choice}
use Rattle.sheet_heads.specs.declared.forms.Form.TheVariants.{Binding, Call, Other}

abbrev pub form_of : XslElement → Form
form_of element.Text = Leaf
form_of element.CopyOf = Leaf
form_of element.Sequence = Leaf
form_of element.ForEach = Bodied
form_of element.ForEachGroup = Bodied
form_of element.PerformSort = Bodied
form_of element.If = Bodied
form_of element.ValueOf = Bodied
form_of element.Element = Bodied
form_of element.Attribute = Bodied
form_of element.Comment = Bodied
form_of element.ProcessingInstruction = Bodied
form_of element.Document = Bodied
form_of element.Copy = Bodied
form_of element.Choose = Choice
form_of element.Variable = Binding
form_of element.ApplyTemplates = Call
form_of element.ApplyImports = Call
form_of element.NextMatch = Call
form_of element.CallTemplate = Call
form_of e = Other
