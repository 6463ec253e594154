-- The names that have numbers in a module, in the order in which they first appear: the modes of
-- templates and of xsl:apply-templates (XSLT 2.0, 6.5), and the templates that are called (10.1). A
-- text that breaks a rule names nothing, and so does what is passed over.
use Rattle.std.specs.Prelude.{ℕ, List, [], ◌∷◌, ◌++◌, map, Bool, false, if◌then◌else◌}
use Rattle.std.specs.Prelude.{Option, Some, None, codes}
use Rattle.xt_names.specs.declared.names.Binding.{Binding}
use Rattle.xt_names.specs.declared.names.ExprName.{ExprName}
use Rattle.xt_names.specs.declared.codes.Code.{Code}
use Rattle.xt_tree.specs.declared.attributes.Attribute.{Attribute}
use Rattle.sheet_table.specs.declared.elements.XslElement.{XslElement}
use Rattle.sheet_table.specs.declared.elements.XslElement.TheVariants as element
use Rattle.sheet_table.specs.Attributes.{attribute}
use Rattle.sheet_table.specs.Elements.{xsl_element}
use Rattle.sheet_table.specs.declared.sheet_nodes.nodes.Node.{Node}
use Rattle.sheet_table.specs.declared.sheet_nodes.nodes.Node.TheViews.{out-Node}
use Rattle.sheet_table.specs.declared.sheet_nodes.nodes.Node.TheFolds.{fold-Node}
use Rattle.sheet_table.specs.declared.sheet_nodes.nodes.Node.TheOpen.{Node-F, Elem, Chars}
use Rattle.sheet_values.specs.Names.{qname_faults, qname_value}
use Rattle.sheet_values.specs.Modes.{mode_list_faults, mode_list_value}
use Rattle.sheet_values.specs.Modes.{mode_choice_faults, mode_choice_value}
use Rattle.sheet_values.specs.declared.modes.Modes.{Modes}
use Rattle.sheet_values.specs.declared.modes.Modes.TheVariants as modes
use Rattle.sheet_values.specs.declared.modes.ModeChoice.{ModeChoice}
use Rattle.sheet_values.specs.declared.modes.ModeChoice.TheVariants as choice
use Rattle.sheet_values.specs.SheetTexts.Names.{with_name}
use Rattle.module_loading.specs.declared.module_reader.mentions.Mention.{Mention}
use Rattle.module_loading.specs.declared.module_reader.mentions.Mention.TheVariants as mention
use Rattle.xt_names.specs.Names.{is_in_xslt}

-- the value, where no rule is broken
abbrev pub kept : {A : Type 0} → List Code → A → Option A
kept [] a = Some a
kept (c ∷ cs) a = None

abbrev pub listed : Option Modes → List ExprName
listed None = []
listed (Some modes.All) = []
listed (Some (modes.Names names)) = names

abbrev pub chosen : Option ModeChoice → List ExprName
chosen None = []
chosen (Some choice.Current) = []
chosen (Some (choice.Named name)) = name ∷ []

abbrev pub named : Option ExprName → List ExprName
named None = []
named (Some name) = name ∷ []

-- `mode` of xsl:template
abbrev pub listed_modes : List Binding → Option (List ℕ) → List ExprName
listed_modes bound None = []
listed_modes bound (Some text) = listed (kept (mode_list_faults bound text) (mode_list_value bound text))

-- `mode` of xsl:apply-templates
abbrev pub chosen_mode : List Binding → Option (List ℕ) → List ExprName
chosen_mode bound None = []
chosen_mode bound (Some text) = chosen (kept (mode_choice_faults bound text) (mode_choice_value bound text))

-- `name` of xsl:call-template
abbrev pub called_name : List Binding → Option (List ℕ) → List ExprName
called_name bound None = []
called_name bound (Some text) = named (kept (qname_faults bound text) (qname_value bound text))

-- the names that an element names itself
abbrev pub own_names : Mention → Option XslElement → List Binding → List Attribute → List ExprName
own_names mention.Modes (Some element.Template) bound attributes =
    listed_modes bound (attribute attributes (codes "mode"))
own_names mention.Modes (Some element.ApplyTemplates) bound attributes =
    chosen_mode bound (attribute attributes (codes "mode"))
own_names mention.Called (Some element.CallTemplate) bound attributes =
    called_name bound (attribute attributes (codes "name"))
own_names m e bound attributes = []

-- the names with others at the end, where they are not there
abbrev pub with_names : List ExprName → List ExprName → List ExprName
with_names table [] = table
with_names table (n ∷ ns) = with_names (with_name table n) ns

-- what is named where these bindings are in force, put at the end of names
abbrev pub Walk : Type 0
Walk = List Binding → List ExprName → List ExprName

abbrev pub one_by_one : List Walk → Walk
one_by_one [] bound table = table
one_by_one (w ∷ ws) bound table = one_by_one ws bound (w bound table)

-- an element names what it names itself, and then what its content names
abbrev pub step : Mention → Node-F Walk → Walk
step m (Elem own name attributes kids) bound table =
    one_by_one kids (own ++ bound)
    (with_names table (own_names m (xsl_element name) (own ++ bound) attributes))
step m (Chars t) bound table = table

abbrev pub walk : Mention → Node → Walk
walk m = fold-Node Walk (step m)

abbrev pub walks : Mention → List Node → Walk
walks m nodes = one_by_one (map (walk m) nodes)

-- declarations are the elements of XSLT at the top
abbrev pub is_declaration_in : Node-F Node → Bool
is_declaration_in (Elem own name attributes kids) = is_in_xslt name
is_declaration_in (Chars t) = false

unfoldable pub is_declaration : Node → Bool
is_declaration n = is_declaration_in (out-Node n)

abbrev pub top_walk : Mention → List Node → Walk
top_walk m [] bound table = table
top_walk m (n ∷ ns) bound table =
    top_walk m ns bound (if is_declaration n then walk m n bound table else table)
