-- Instructions that make nodes (XSLT 2.0, 11). Each is one constructor of the query, so that each
-- node takes its number in turn.
use Rattle.std.specs.Prelude.{ℕ, map, List, [], ◌∷◌, ◌++◌, Bool, true, false, ◌&&◌, codes}
use Rattle.std.specs.Prelude.{Option, Some, None}
use Rattle.xt_names.specs.declared.names.Binding.{Binding}
use Rattle.xt_names.specs.declared.names.ExprName.{ExprName}
use Rattle.xt_names.specs.declared.names.Name.{Name}
use Rattle.xt_types.specs.declared.node_tests.NameTest.TheVariants.{Any}
use Rattle.xt_types.specs.declared.node_tests.Test.TheVariants.{Doc, Elem}
use Rattle.xt_syntax.specs.declared.exprs.Expr.{Expr}
use Rattle.xt_syntax.specs.declared.exprs.NameSource.{NameSource}
use Rattle.xt_syntax.specs.declared.exprs.Clause.TheViews.{roll-Expr}
use Rattle.xt_syntax.specs.declared.exprs.Clause.TheOpen.{Or, ElemC, AttrC, DocC, TextC, CommentC}
use Rattle.xt_syntax.specs.declared.exprs.Clause.TheOpen.{PiC}
use Rattle.xt_sheets.specs.declared.values.LiteralAttr.{LiteralAttr}
use Rattle.name_rules.specs.Scopes.{names_differ}
use Rattle.carried_exprs.specs.Sights.{variable_of, the_item, nothing, library_call}
use Rattle.translated_forms.specs.Names.{content_name, node_name as node_variable}
use Rattle.translated_forms.specs.Forms.{comma, let_in, for_in, arm_of, if_of, if_many}
use Rattle.translated_forms.specs.Forms.{is_of_kind, text_literal, local_call, failing}
use Rattle.translated_forms.specs.Texts.{Carry, template_text}
use Rattle.translated_forms.specs.NodeNames.{name_source, computed}
use Rattle.translated_forms.specs.Bodies.{Body, Part, makes, items_of, body_expr}

-- literal text, and xsl:value-of
abbrev pub text_node : Expr → Part
text_node text = makes true (roll-Expr (TextC text))

abbrev pub chars_made : List ℕ → Part
chars_made t = text_node (text_literal t)

-- a constructor with a name, which fails where the name is always wrong
abbrev pub element_with : Option NameSource → Expr → Expr
element_with None body = failing
element_with (Some name) body = roll-Expr (ElemC name body)

abbrev pub attribute_with : Option NameSource → Expr → Expr
attribute_with None text = failing
attribute_with (Some name) text = roll-Expr (AttrC name text)

abbrev pub pi_with : Option NameSource → Expr → Expr
pi_with None text = failing
pi_with (Some name) text = roll-Expr (PiC name text)

-- Of attributes with one name the last is kept. No name occurs twice where the attributes have
-- different names and each other part is one node that is none.
abbrev pub last_of : Expr → Expr
last_of e = local_call (codes "last") (e ∷ [])

abbrev pub kept_last : Bool → Expr → Expr
kept_last true e = e
kept_last false e = last_of e

abbrev pub expr_name : Name → ExprName
expr_name n = record { uri = n.uri; local = n.local }

abbrev pub attribute_name : LiteralAttr Expr → ExprName
attribute_name a = expr_name a.name

abbrev pub literal_attribute : List Binding → Carry → LiteralAttr Expr → Expr
literal_attribute prefixes carry a =
    roll-Expr (AttrC (name_source prefixes a.name) (template_text carry a.value))

-- the content of a literal element: its attributes and then its parts
abbrev pub literal_content : List Binding → Carry → List (LiteralAttr Expr) → Body → Expr
literal_content prefixes carry attributes body =
    kept_last (names_differ (map attribute_name attributes) && body.are_nodes)
    (comma (map (literal_attribute prefixes carry) attributes ++ items_of body))

abbrev pub literal_made : List Binding → Carry → Name → List (LiteralAttr Expr) → Body → Part
literal_made prefixes carry name attributes body =
    makes true (roll-Expr (ElemC (name_source prefixes name)
    (literal_content prefixes carry attributes body)))

-- the content of an element
abbrev pub element_content : Body → Expr
element_content body = kept_last body.are_nodes (body_expr body)

-- xsl:element, xsl:attribute, xsl:comment, xsl:processing-instruction and xsl:document
abbrev pub element_made : Option NameSource → Body → Part
element_made name body = makes true (element_with name (element_content body))

abbrev pub attribute_made : Option NameSource → Expr → Part
attribute_made name text = makes false (attribute_with name text)

abbrev pub comment_made : Expr → Part
comment_made text = makes true (roll-Expr (CommentC text))

abbrev pub pi_made : Option NameSource → Expr → Part
pi_made name text = makes true (pi_with name text)

abbrev pub document_of : Expr → Expr
document_of content = roll-Expr (DocC content)

abbrev pub document_made : Expr → Part
document_made content = makes true (document_of content)

-- xsl:copy: the content is evaluated at an element or a document alone
abbrev pub is_element : Expr
is_element = is_of_kind the_item (Elem Any)

abbrev pub is_document : Expr
is_document = is_of_kind the_item Doc

abbrev pub the_content : Expr
the_content = variable_of content_name

abbrev pub own_name : NameSource
own_name = computed (library_call (codes "node-name") (the_item ∷ []))

abbrev pub copied : Expr → Expr
copied e = local_call (codes "copy") (e ∷ [])

abbrev pub copy_with_content : Expr
copy_with_content =
    if_many (arm_of (is_element, roll-Expr (ElemC own_name (last_of the_content)))
    ∷ arm_of (is_document, document_of the_content) ∷ []) (copied the_item)

abbrev pub content_if_used : Expr → Expr
content_if_used content =
    if_of (roll-Expr (Or (is_element ∷ is_document ∷ []))) content nothing

unfoldable pub copy_of_item : Bool → Expr → Expr
copy_of_item false body = failing
copy_of_item true body = let_in content_name (content_if_used body) copy_with_content

abbrev pub copy_made : Bool → Expr → Part
copy_made has_focus content = makes false (copy_of_item has_focus content)

-- xsl:copy-of: each node takes a number
abbrev pub copies_made : Expr → Part
copies_made e = makes false (for_in node_variable e (copied (variable_of node_variable)))
