-- Comparisons with an integer, a literal or last().
use Rattle.std.proofs.Common.{◌≡◌, ℕ, ℤ, pos, List, [], ◌∷◌, map, refl, ap}
use Rattle.std.specs.Prelude.{Bool, true, false, ◌||◌, Option, Some, None, Result, Ok}
use Rattle.xt_names.specs.declared.codes.Code.{Code}
use Rattle.xt_names.specs.declared.kinds.CompareOp.{CompareOp}
use Rattle.xt_tree.specs.declared.trees.Tree.{Tree}
use Rattle.xt_tree.specs.declared.trees.Tree.TheVariants as tree
use Rattle.xt_tree.specs.Place.{Place, subtree_of}
use Rattle.xt_atoms.specs.declared.atoms.Atom.TheVariants as atom
use Rattle.xt_atoms.specs.Comparisons.{general_comparison, value_comparison}
use Rattle.xdm_items.specs.Values.{typed_value_below}
use Rattle.xdm_items.specs.declared.items.Item.TheVariants.{Node}
use Rattle.xdm_items.specs.FunctionArguments.Answers.{of_integer, of_text, of_truth}
use Rattle.expr_meaning.specs.OperatorValues.Comparisons.{or_next, some_compare, truth_list, general_value}
use Rattle.expr_meaning.specs.OperatorValues.Operands.{atom_of}
use Rattle.node_axes.specs.StepWalks.Nodes.{Focus}
use Rattle.quiet_meaning.specs.Values.{compares, some_compares, is_true}
use Rattle.quiet_meaning.specs.Quietly.{Quietly, integer, literal, position, last, text_of, count_of}
use Rattle.quiet_meaning.specs.Quietly.{attribute, step, path}
use Rattle.quiet_meaning.specs.Quietly.{compared, compared_with_integer, compared_with_literal}
use Rattle.quiet_meaning.specs.Quietly.{compared_with_last}
use Rattle.expr_meaning.specs.Env.{Meaning}
use Rattle.expr_meaning.specs.Values.{binary}
use Rattle.walk_laws.specs.QuietValues.Given.{given_at, has_value}
use Rattle.walk_laws.proofs.QuietValues.Truths.{Agrees}

-- one atom with one
pub alone : (r : Result Bool Code) (b : Bool) → r ≡ Ok b →
    truth_list (or_next (or_next r (Ok false)) (Ok false)) ≡ Ok (of_truth b)
alone r true e = rw e refl
alone r false e = rw e refl

integers_compare : (op : CompareOp) (a b : ℤ) →
    general_comparison op (atom.Int a) (atom.Int b) ≡ Ok (compares op (atom.Int a) (atom.Int b))
unfolding general_comparison value_comparison compares is_true
integers_compare op a b = refl

pub texts_compare : (op : CompareOp) (a b : List ℕ) →
    general_comparison op (atom.Str a) (atom.Str b) ≡ Ok (compares op (atom.Str a) (atom.Str b))
unfolding general_comparison value_comparison compares is_true
texts_compare op a b = refl

-- the typed value of a node is a text, so that it compares with a text
node_compares : (op : CompareOp) (t : List ℕ) (o : Option Tree) →
    general_comparison op (typed_value_below o) (atom.Str t)
    ≡ Ok (compares op (typed_value_below o) (atom.Str t))
unfolding general_comparison value_comparison compares is_true
node_compares op t None = refl
node_compares op t (Some (tree.Doc kids)) = refl
node_compares op t (Some (tree.Elem name attributes kids)) = refl
node_compares op t (Some (tree.Text s)) = refl
node_compares op t (Some (tree.Comment s)) = refl
node_compares op t (Some (tree.Pi target s)) = refl
node_compares op t (Some (tree.Attr name s)) = refl

or_found : (r : Result Bool Code) (b d : Bool) (rest : Result Bool Code) → r ≡ Ok b → rest ≡ Ok d →
    or_next (or_next r (Ok false)) rest ≡ Ok (b || d)
or_found r true d rest e h = rw e refl
or_found r false d rest e h = rw e h

nodes_compare : (op : CompareOp) (t : List ℕ) (ns : List Place) →
    some_compare op (map atom_of (map Node ns)) (atom.Str t ∷ [])
    ≡ Ok (some_compares op (atom.Str t) ns)
unfolding some_compares
nodes_compare op t [] = refl
nodes_compare op t (n ∷ ns) =
    or_found _ (compares op (typed_value_below (subtree_of n)) (atom.Str t)) _ _
    (node_compares op t (subtree_of n)) (nodes_compare op t ns)

-- of two operands whose comparison is quiet
pub record IsCompared (op : CompareOp) (a b : Quietly) (f : Focus) : Type 0 where
  pub left : has_value a ≡ true
  pub right : has_value b ≡ true
  pub value : general_value op (given_at a f) (given_at b f) ≡ Ok (given_at (compared op a b) f)

integer_value : (op : CompareOp) (a b : ℤ) →
    general_value op (of_integer a) (of_integer b)
    ≡ Ok (of_truth (compares op (atom.Int a) (atom.Int b)))
unfolding general_value
integer_value op a b = alone _ _ (integers_compare op a b)

pub text_value : (op : CompareOp) (a b : List ℕ) →
    general_value op (of_text a) (of_text b)
    ≡ Ok (of_truth (compares op (atom.Str a) (atom.Str b)))
unfolding general_value
text_value op a b = alone _ _ (texts_compare op a b)

nodes_value : (op : CompareOp) (t : List ℕ) (ns : List Place) →
    general_value op (map Node ns) (of_text t) ≡ Ok (of_truth (some_compares op (atom.Str t) ns))
unfolding general_value
nodes_value op t ns = ap truth_list (nodes_compare op t ns)

with_integer : (op : CompareOp) (n : ℤ) (a : Quietly) (f : Focus) →
    has_value (compared_with_integer op n a) ≡ true →
    (has_value a ≡ true) × (general_value op (given_at a f) (of_integer n)
    ≡ Ok (given_at (compared_with_integer op n a) f))
unfolding has_value compared_with_integer given_at
with_integer op n position f h = (refl, integer_value op (pos f.position) n)
with_integer op n last f h = (refl, integer_value op (pos f.size) n)
with_integer op n (count_of g) f h = (refl, integer_value op _ n)
with_integer op n (attribute g) f h = absurd cc
with_integer op n a f h = absurd cc

with_literal : (op : CompareOp) (t : List ℕ) (a : Quietly) (f : Focus) →
    has_value (compared_with_literal op t a) ≡ true →
    (has_value a ≡ true) × (general_value op (given_at a f) (of_text t)
    ≡ Ok (given_at (compared_with_literal op t a) f))
unfolding has_value compared_with_literal given_at
with_literal op t (text_of g) f h = (refl, text_value op (g f.node) t)
with_literal op t (attribute g) f h = (refl, nodes_value op t (g f.node))
with_literal op t (step g) f h = (refl, nodes_value op t (g f.node))
with_literal op t (path g) f h = (refl, nodes_value op t (g f.node))
with_literal op t a f h = absurd cc

with_last : (op : CompareOp) (a : Quietly) (f : Focus) →
    has_value (compared_with_last op a) ≡ true →
    (has_value a ≡ true) × (general_value op (given_at a f) (of_integer (pos f.size))
    ≡ Ok (given_at (compared_with_last op a) f))
unfolding has_value compared_with_last given_at
with_last op position f h = (refl, integer_value op (pos f.position) (pos f.size))
with_last op a f h = absurd cc

is_compared : (op : CompareOp) (a b : Quietly) (f : Focus) → has_value (compared op a b) ≡ true →
    IsCompared op a b f
unfolding has_value compared given_at
is_compared op a (integer n) f h =
    let e = with_integer op n a f h in record { left = e.0; right = refl; value = e.1 }
is_compared op a (literal t) f h =
    let e = with_literal op t a f h in record { left = e.0; right = refl; value = e.1 }
is_compared op a last f h =
    let e = with_last op a f h in record { left = e.0; right = refl; value = e.1 }
is_compared op a b f h = absurd cc

pub compared_agrees : (op : CompareOp) (a b : Quietly) (m n : Meaning) → Agrees a m → Agrees b n →
    Agrees (compared op a b) (binary (general_value op) m n)
compared_agrees op a b m n x y h env f c k =
    let e = is_compared op a b f h in
    rw (x e.left env f c k, y e.right env f c k, e.value) refl
