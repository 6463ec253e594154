-- The names of nodes.
use Rattle.std.proofs.Common.{◌≡◌, ℕ, List, [], refl, Bool, ap, sym}
use Rattle.std.specs.Prelude.{Option, Some, None, option_and_then}
use Rattle.std.specs.Str.{chars}
use Rattle.std.proofs.lemmas.Str.{chars-nil}
use Rattle.xt_names.specs.declared.names.Name.{Name}
use Rattle.xt_tree.specs.declared.trees.Tree.{Tree}
use Rattle.xt_tree.specs.declared.trees.Tree.TheVariants as tree
use Rattle.xt_tree.specs.Kinds.{name_of, target_of}
use Rattle.xt_tree.specs.Place.{Place, subtree_of}
use Rattle.quiet_meaning.specs.Values.{name_below, name_text, written_name}
use Rattle.quiet_eval.specs.Subjects.{or_empty}

pub named : (whole : Bool) (o : Option Tree) (name : Name) → Some name ≡ option_and_then name_of o → written_name whole name ≡ name_below whole o
unfolding name_below
named whole None name h = absurd cc
named whole (Some (tree.Doc kids)) name h = absurd cc
named whole (Some (tree.Elem n attributes kids)) name h = let e : name ≡ n = cc in ap (written_name whole) e
named whole (Some (tree.Text t)) name h = absurd cc
named whole (Some (tree.Comment t)) name h = absurd cc
named whole (Some (tree.Pi target t)) name h = absurd cc
named whole (Some (tree.Attr n t)) name h = let e : name ≡ n = cc in ap (written_name whole) e

pub nameless : (whole : Bool) (o : Option Tree) → None ≡ option_and_then name_of o → or_empty (option_and_then target_of o) ≡ name_below whole o
unfolding name_below
nameless whole None h = refl
nameless whole (Some (tree.Doc kids)) h = refl
nameless whole (Some (tree.Elem n attributes kids)) h = absurd cc
nameless whole (Some (tree.Text t)) h = refl
nameless whole (Some (tree.Comment t)) h = refl
nameless whole (Some (tree.Pi target t)) h = refl
nameless whole (Some (tree.Attr n t)) h = absurd cc

pub no_text : (o : Option (List ℕ)) → None ≡ o → or_empty o ≡ chars []
no_text None h = sym chars-nil
no_text (Some t) h = absurd cc

pub named_text : (whole : Bool) (n : Place) (name : Name) → Some name ≡ option_and_then name_of (subtree_of n) → name_text whole n ≡ written_name whole name
unfolding name_text
named_text whole n name h = sym (named whole (subtree_of n) name h)

pub nameless_text : (whole : Bool) (n : Place) → None ≡ option_and_then name_of (subtree_of n) → name_text whole n ≡ or_empty (option_and_then target_of (subtree_of n))
unfolding name_text
nameless_text whole n h = sym (nameless whole (subtree_of n) h)
