-- The parts of a stylesheet of the first form, each by itself.
use Rattle.std.specs.Prelude.{ℕ, ◌-◌, List, Bool, true, false, not, ◌&&◌, nat_lt, if◌then◌else◌}
use Rattle.xt_names.specs.Allowed.{is_empty_text}
use Rattle.xt_names.specs.declared.names.Name.{Name}
use Rattle.xt_tree.specs.declared.attributes.Attribute.{Attribute}
use Rattle.xt_tree.specs.declared.trees.Tree.{Tree}
use Rattle.xt_tree.specs.declared.trees.Tree.TheVariants.{Doc, Elem, Text, Comment, Pi, Attr}
use Rattle.xt_tree.specs.Forest.{Forest}
use Rattle.xt_tree.specs.White.{is_white_text}
use Rattle.sheet_meaning.specs.First.{is_named_apply_templates, is_no_attribute, is_blank, is_content, is_template, is_stylesheet}
use Rattle.xt_names.specs.Names.{is_in_xslt}

abbrev pub is_blank_part : Tree → Bool
is_blank_part (Doc kids) = false
is_blank_part (Elem name attributes kids) = false
is_blank_part (Text t) = is_white_text t
is_blank_part (Comment t) = false
is_blank_part (Pi target t) = false
is_blank_part (Attr name t) = false

abbrev pub is_apply_templates : Name → List Attribute → Forest → Bool
is_apply_templates name attributes kids = is_named_apply_templates name && is_no_attribute attributes && is_blank kids

abbrev pub is_literal : ℕ → Name → List Attribute → Forest → Bool
is_literal room name attributes kids =
    is_empty_text name.uri && is_no_attribute attributes && nat_lt 0 room && is_content (room - 1) kids

abbrev pub is_instruction : ℕ → Tree → Bool
is_instruction room (Doc kids) = false
is_instruction room (Elem name attributes kids) =
    if is_in_xslt name then is_apply_templates name attributes kids else is_literal room name attributes kids
is_instruction room (Text t) = true
is_instruction room (Comment t) = false
is_instruction room (Pi target t) = false
is_instruction room (Attr name t) = false

abbrev pub is_declaration : Tree → Bool
is_declaration (Doc kids) = false
is_declaration (Elem name attributes kids) = is_template name attributes kids
is_declaration (Text t) = is_white_text t
is_declaration (Comment t) = true
is_declaration (Pi target t) = true
is_declaration (Attr name t) = false

abbrev pub is_root_part : Bool → Tree → Bool
is_root_part seen (Doc kids) = false
is_root_part seen (Elem name attributes kids) = not seen && is_stylesheet name attributes kids
is_root_part seen (Text t) = is_white_text t
is_root_part seen (Comment t) = true
is_root_part seen (Pi target t) = true
is_root_part seen (Attr name t) = false
