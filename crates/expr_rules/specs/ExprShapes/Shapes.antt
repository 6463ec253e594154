-- What the grammar leaves to its values: a direct element ends with the name that it begins with, and has no attribute `xmlns` (XQuery 1.0, 3.7.1).
use Rattle.std.specs.Prelude.{List, [], ◌∷◌, Bool, true, not, ◌&&◌, Option, Some, None, codes}
use Rattle.std.specs.List.{list_all}
use Rattle.std.specs.Str.{bytes_eq}
use Rattle.xt_names.specs.Allowed.{is_empty_text}
use Rattle.expr_keys.specs.declared.tokens.Token.{Token}
use Rattle.expr_keys.specs.declared.tokens.Token.TheVariants as token
use Rattle.expr_keys.specs.declared.productions.Production.{Production}
use Rattle.expr_keys.specs.declared.productions.Production.TheVariants as production
use Rattle.expr_terms.specs.declared.raws.Raw.{Raw}
use Rattle.expr_terms.specs.declared.raws.Raw.TheFolds.{fold-Raw}
use Rattle.expr_terms.specs.declared.raws.Raw.TheOpen.{Raw-F, Leaf, Node}
use Rattle.expr_rules.specs.declared.expr_shapes.shapes.Tag.{Tag}
use Rattle.expr_rules.specs.declared.expr_shapes.shapes.Shape.{Shape}

-- the name of a tag or an attribute
unfoldable pub tag_in : Token → Option Tag
tag_in (token.StartTagOpen prefix local) = Some (record { prefix = prefix; local = local })
tag_in (token.ChildTagOpen prefix local) = Some (record { prefix = prefix; local = local })
tag_in (token.EndTag prefix local) = Some (record { prefix = prefix; local = local })
tag_in (token.Attribute prefix local) = Some (record { prefix = prefix; local = local })
tag_in _ = None

abbrev pub is_good : Shape → Bool
is_good s = s.good

abbrev pub last_tag : List Shape → Option Tag
last_tag [] = None
last_tag (s ∷ []) = s.tag
last_tag (s ∷ t ∷ ss) = last_tag (t ∷ ss)

abbrev pub first_tag : List Shape → Option Tag
first_tag [] = None
first_tag (s ∷ ss) = s.tag

-- content passes on the name of its end tag
unfoldable pub passed_tag : Production → List Shape → Option Tag
passed_tag production.ElementContent ss = last_tag ss
passed_tag _ ss = None

-- letter by letter the same, where there is an end tag
unfoldable pub ends_alike : Option Tag → Option Tag → Bool
ends_alike (Some a) (Some b) = bytes_eq a.prefix b.prefix && bytes_eq a.local b.local
ends_alike _ None = true
ends_alike None _ = true

unfoldable pub declares_nothing : Option Tag → Bool
declares_nothing (Some a) = not (bytes_eq a.prefix (codes "xmlns")) && not (is_empty_text a.prefix && bytes_eq a.local (codes "xmlns"))
declares_nothing None = true

unfoldable pub own_shape : Production → List Shape → Bool
own_shape production.DirectElement ss = ends_alike (first_tag ss) (last_tag ss)
own_shape production.ChildElement ss = ends_alike (first_tag ss) (last_tag ss)
own_shape production.AttributeValue ss = declares_nothing (first_tag ss)
own_shape _ ss = true

abbrev pub shape_layer : Raw-F Shape → Shape
shape_layer (Leaf t) = record { good = true; tag = tag_in t }
shape_layer (Node p ss) = record { good = list_all is_good ss && own_shape p ss; tag = passed_tag p ss }

abbrev pub shape_of : Raw → Shape
shape_of = fold-Raw Shape shape_layer

abbrev pub is_shaped : Raw → Bool
is_shaped raw = (shape_of raw).good
