-- The trees that constructors make.
use Rattle.std.specs.Prelude.{ℕ, List, [], ◌∷◌, ◌&&◌, ◌||◌, Bool, true, false, nat_le, nat_eq, if◌then◌else◌}
use Rattle.xt_names.specs.Marks.{has_pair, ends_with, is_white}
use Rattle.xt_names.specs.declared.codes.Code.TheVariants.{Dynamic}
use Rattle.xt_names.specs.declared.codes.DynamicCode.TheVariants.{XTLM0001, XTLM0002, XQDY0026, XQDY0072}
use Rattle.xt_names.specs.declared.names.Name.{Name}
use Rattle.xt_tree.specs.TreeView.{forest_of, tree_height, tree_size}
use Rattle.xt_tree.specs.declared.trees.Tree.{Tree}
use Rattle.xt_tree.specs.declared.trees.Tree.TheVariants.{Doc, Elem, Comment, Pi}
use Rattle.xdm_items.specs.declared.items.Item.{Item}
use Rattle.node_builder.specs.Made.{Made, Gives, Fails, made_then}
use Rattle.node_builder.specs.Complex.{complex_content}
use Rattle.node_builder.specs.declared.kinds.Duplicates.{Duplicates}
use Rattle.node_builder.specs.declared.kinds.Holder.TheVariants.{Element, Document}

-- at most 2,000 levels, and at most 2^63-1 nodes and attributes
abbrev pub is_within_limits : Tree → Bool
is_within_limits t = nat_le (tree_height t) 2000 && nat_le (tree_size t) 0x7FFF_FFFF_FFFF_FFFF

-- a tree that is made, or the error past the limits
unfoldable pub limited : Tree → Made Tree
limited t = if is_within_limits t then Gives t else Fails (Dynamic XTLM0002)

-- the tree with the next number, or the error where all numbers are used up
unfoldable pub numbered : ℕ → Made Tree → Made Tree
numbered next made = if nat_eq next 0xFFFF_FFFF_FFFF_FFFF then Fails (Dynamic XTLM0001) else made_then made limited

unfoldable pub element_of : Duplicates → Name → List Item → Made Tree
element_of side name items = made_then (complex_content side Element items) (λ content. Gives (Elem name content.attributes (forest_of content.kids)))

unfoldable pub document_of : Duplicates → List Item → Made Tree
document_of side items = made_then (complex_content side Document items) (λ content. Gives (Doc (forest_of content.kids)))

-- a comment holds no `--` and does not end with `-`, which is 45
unfoldable pub comment_of : List ℕ → Made Tree
comment_of t = if has_pair 45 45 t || ends_with 45 t then Fails (Dynamic XQDY0072) else Gives (Comment t)

-- the text without the white space at its front
abbrev pub without_white : List ℕ → List ℕ
without_white [] = []
without_white (c ∷ cs) = if is_white c then without_white cs else c ∷ cs

-- a processing instruction holds no `?>`, which is 63 and 62
unfoldable pub pi_of : List ℕ → List ℕ → Made Tree
pi_of target t = if has_pair 63 62 (without_white t) then Fails (Dynamic XQDY0026) else Gives (Pi target (without_white t))

-- the character, if it is kept
abbrev pub kept_char : Bool → ℕ → List ℕ
kept_char true c = c ∷ []
kept_char false c = []
