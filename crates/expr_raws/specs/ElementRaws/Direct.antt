-- Direct elements as raw values, and their pieces (XQuery 1.0, 3.7.1).
use Rattle.std.specs.Prelude.{ℕ, Bool, true, false, ◌&&◌, not, List, [], ◌∷◌, ◌++◌, map}
use Rattle.std.specs.List.{list_all}
use Rattle.xt_names.specs.declared.names.Name.{Name}
use Rattle.xt_syntax.specs.declared.prefixes.Prefixes.{Prefixes}
use Rattle.expr_keys.specs.declared.keys.Key.TheVariants as key
use Rattle.expr_keys.specs.declared.tokens.Token.{Token}
use Rattle.expr_keys.specs.declared.tokens.Token.TheVariants as token
use Rattle.expr_keys.specs.declared.productions.Production.{Production}
use Rattle.expr_keys.specs.declared.productions.Production.TheVariants as production
use Rattle.expr_terms.specs.declared.raws.Raw.{Raw}
use Rattle.expr_terms.specs.declared.raws.Raw.TheVariants.{Leaf as leaf, Node as node}
use Rattle.expr_terms.specs.declared.raws.Raw.TheViews.{out-Raw}
use Rattle.expr_terms.specs.declared.raws.Raw.TheOpen.{Raw-F, Leaf, Node}
use Rattle.expr_raws.specs.PathRaws.Forms.{Form, primary, list, at, said}
use Rattle.expr_raws.specs.ElementRaws.Makers.{gives_name}
use Rattle.expr_raws.specs.ElementRaws.Runs.{run_tokens, can_run}

-- a part of content, or of the value of an attribute
pub data PartForm : Type 0 where
  characters : List ℕ → PartForm
  enclosed : Form → PartForm
  child : Form → PartForm

-- the places of parts
abbrev pub value : Bool
value = true

abbrev pub content : Bool
content = false

-- { a }
abbrev pub enclosure : Bool → Production
enclosure true = production.PartEnclosed
enclosure false = production.ItemEnclosed

-- An element within the content of another one: that element with another first token.
abbrev pub inner : Token → Token
inner (token.StartTagOpen p n) = token.ChildTagOpen p n
inner t = t

abbrev pub is_outer : Token → Bool
is_outer (token.StartTagOpen p n) = true
is_outer _ = false

abbrev pub child_leaf : Raw-F Raw → Raw
child_leaf (Leaf t) = leaf (inner t)
child_leaf (Node p vs) = node p vs

abbrev pub child_parts : List Raw → List Raw
child_parts [] = []
child_parts (v ∷ vs) = child_leaf (out-Raw v) ∷ vs

abbrev pub child_raw : Raw-F Raw → Raw
child_raw (Leaf t) = leaf t
child_raw (Node p vs) = node production.ChildElement (child_parts vs)

abbrev pub child_tokens : List Token → List Token
child_tokens [] = []
child_tokens (t ∷ ts) = inner t ∷ ts

abbrev pub is_outer_leaf : Raw-F Raw → Bool
is_outer_leaf (Leaf t) = is_outer t
is_outer_leaf (Node p vs) = false

abbrev pub starts_outer : List Raw → Bool
starts_outer [] = false
starts_outer (v ∷ vs) = is_outer_leaf (out-Raw v)

abbrev pub is_element : Raw-F Raw → Bool
is_element (Node production.DirectElement vs) = starts_outer vs
is_element _ = false

abbrev pub part_raws : Bool → PartForm → List Raw
part_raws x (characters cs) = map (λ t. leaf t) (run_tokens x cs)
part_raws x (enclosed f) = node (enclosure x) (at list f ∷ []) ∷ []
part_raws x (child f) = child_raw (out-Raw f.raw) ∷ []

abbrev pub parts_raws : Bool → List PartForm → List Raw
parts_raws x [] = []
parts_raws x (p ∷ ps) = part_raws x p ++ parts_raws x ps

abbrev pub part_tokens : Bool → PartForm → List Token → List Token
part_tokens x (characters cs) rest = run_tokens x cs ++ rest
part_tokens x (enclosed f) rest = token.EnclosedOpen ∷ said list f (token.Key key.CloseBrace ∷ rest)
part_tokens x (child f) rest = child_tokens (f.tokens rest)

abbrev pub parts_tokens : Bool → List PartForm → List Token → List Token
parts_tokens x [] rest = rest
parts_tokens x (p ∷ ps) rest = part_tokens x p (parts_tokens x ps rest)

abbrev pub is_characters : PartForm → Bool
is_characters (characters cs) = true
is_characters _ = false

abbrev pub starts_characters : List PartForm → Bool
starts_characters [] = false
starts_characters (p ∷ ps) = is_characters p

-- an attribute has no elements in it
abbrev pub part_can : Bool → PartForm → Bool
part_can x (characters cs) = can_run x cs
part_can x (enclosed f) = f.can
part_can true (child f) = false
part_can false (child f) = f.can && is_element (out-Raw f.raw)

-- characters do not stand beside characters
abbrev pub parts_can : Bool → List PartForm → Bool
parts_can x [] = true
parts_can x (p ∷ ps) =
    part_can x p && (not (is_characters p && starts_characters ps) && parts_can x ps)

-- an attribute
pub record AttrForm : Type 0 where
  pub name : Name
  pub parts : List PartForm

abbrev pub attr_token : Name → Token
attr_token n = token.Attribute n.prefix n.local

abbrev pub attr_raw : AttrForm → Raw
attr_raw a = node production.AttributeValue (leaf (attr_token a.name) ∷ parts_raws value a.parts)

abbrev pub attrs_tokens : List AttrForm → List Token → List Token
attrs_tokens [] rest = rest
attrs_tokens (a ∷ attrs) rest =
    attr_token a.name ∷ parts_tokens value a.parts (token.AttributeEnd ∷ attrs_tokens attrs rest)

abbrev pub attr_can : Prefixes → AttrForm → Bool
attr_can p a = gives_name p.bound [] a.name (attr_token a.name) && parts_can value a.parts

abbrev pub attrs_can : Prefixes → List AttrForm → Bool
attrs_can p attrs = list_all (attr_can p) attrs

abbrev pub front_token : Name → Token
front_token n = token.StartTagOpen n.prefix n.local

abbrev pub shut_token : Name → Token
shut_token n = token.EndTag n.prefix n.local

-- />, or >, the content and the end tag
abbrev pub closing : Name → List PartForm → Raw
closing n [] = node production.EmptyElement []
closing n (p ∷ ps) =
    node production.ElementContent (parts_raws content (p ∷ ps) ++ leaf (shut_token n) ∷ [])

abbrev pub closing_tokens : Name → List PartForm → List Token → List Token
closing_tokens n [] rest = token.EmptyEnd ∷ rest
closing_tokens n (p ∷ ps) rest =
    token.TagEnd ∷ parts_tokens content (p ∷ ps) (shut_token n ∷ rest)

-- <n a="..">..</n>; its name without a prefix has the default uri
abbrev pub direct : Prefixes → Name → List AttrForm → List PartForm → Form
direct p n attrs ps = record {
  raw = node production.DirectElement (leaf (front_token n) ∷ (map (λ a. attr_raw a) attrs
      ++ closing n ps ∷ []));
  tokens = λ rest. front_token n ∷ attrs_tokens attrs (closing_tokens n ps rest);
  place = primary;
  unmarked = false;
  can = gives_name p.bound p.element_default n (front_token n)
      && (attrs_can p attrs && parts_can content ps);
}
