-- Equal texts.
use Rattle.std.proofs.Common.{◌≡◌, ℕ, List, Bool, not, refl, ap, ◌∙◌}
use Rattle.std.specs.Cmp.Lexicographic.{texts_ties}
use Rattle.std.specs.Ordering.{is_eq, is_ne}
use Rattle.std.specs.Str.{bytes_eq}
use Rattle.xt_atoms.specs.Comparisons.{holds, text_order}
use Rattle.std.specs.declared.cmp.Ordering.{Ordering}
use Rattle.std.specs.declared.cmp.Ordering.TheVariants.{Less, Equal, Greater}
use Rattle.xt_names.specs.declared.kinds.CompareOp.{CompareOp}
use Rattle.xt_names.specs.declared.kinds.CompareOp.TheVariants.{Eq, Ne}

same_is_equal : (a b : List ℕ) → bytes_eq a b ≡ is_eq (text_order a b)
unfolding text_order
same_is_equal a b = texts_ties a b

not_equal : (o : Ordering) → not (is_eq o) ≡ is_ne o
not_equal Less = refl
not_equal Equal = refl
not_equal Greater = refl

pub equal_holds : (op : CompareOp) (a b : List ℕ) (r : Bool) → op ≡ Eq → r ≡ bytes_eq a b → r ≡ holds op (text_order a b)
unfolding holds
equal_holds op a b r e h = rw e (h ∙ same_is_equal a b)

pub unequal_holds : (op : CompareOp) (a b : List ℕ) (r : Bool) → op ≡ Ne → r ≡ not (bytes_eq a b) → r ≡ holds op (text_order a b)
unfolding holds
unequal_holds op a b r e h = rw e (h ∙ ap not (same_is_equal a b) ∙ not_equal (text_order a b))
