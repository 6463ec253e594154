-- Operands, one after another.
use Rattle.std.proofs.Common.{◌≡◌, ℕ, ◌<◌, ◌≤◌, ◌+◌, length, drop, get_or, List, [], ◌∷◌, ◌++◌, Result, Ok, Err, refl, sym, ap, ◌∙◌, append_assoc, append-nil}
use Rattle.std.proofs.Math.ListN.{drop_of_length-le}
use Rattle.xt_names.proofs.ListLemmas.{drop_at}
use Rattle.xt_names.specs.declared.codes.Code.{Code}
use Rattle.xt_atoms.specs.Casts.{Answers}
use Rattle.xt_atoms.specs.declared.atoms.Atom.{Atom as AtomValue}
use Rattle.xt_atoms.specs.declared.faults.ValueFault.{ValueFault}
use Rattle.xt_atoms.specs.declared.faults.ValueFault.TheVariants.{Error, Memory}
use Rattle.xdm_items.specs.declared.items.Item.{Item}
use Rattle.item_functions.specs.NumberFunctions.Extremes.{operand, operands, with_operand}

-- the atoms that are made already, and then those of a result
pub onto : List AtomValue → Result (List AtomValue) Code → Result (List AtomValue) Code
onto made (Ok atoms) = Ok (made ++ atoms)
onto made (Err code) = Err code

abbrev to_ok : List AtomValue → Result (List AtomValue) Code
to_ok atoms = Ok atoms

nothing_made : (r : Result (List AtomValue) Code) → onto [] r ≡ r
unfolding onto
nothing_made (Ok atoms) = refl
nothing_made (Err code) = refl

pub begins : (items : List Item) (made : List AtomValue) → made ≡ [] → onto made (operands items) ≡ operands items
begins items made e = ap (λ (l : List AtomValue). onto l (operands items)) e ∙ nothing_made (operands items)

onto_more : (made : List AtomValue) (a : AtomValue) (r : Result (List AtomValue) Code) → onto made (with_operand (Ok a) r) ≡ onto (made ++ a ∷ []) r
unfolding onto
onto_more made a (Ok atoms) = ap to_ok (sym (append_assoc made (a ∷ []) atoms))
onto_more made a (Err code) = refl

left_at : (items : List Item) (i : ℕ) (item : Item) → i < length items → item ≡ get_or items i item → operands (drop i items) ≡ with_operand (operand item) (operands (drop (i + 1) items))
unfolding operands
left_at items i item h e = ap operands (drop_at items i item h e)

pub goes_on : (items : List Item) (i : ℕ) (item : Item) (made new : List AtomValue) (a : AtomValue) → i < length items → item ≡ get_or items i item
    → operand item ≡ Ok a → new ≡ made ++ a ∷ [] → onto new (operands (drop (i + 1) items)) ≡ onto made (operands (drop i items))
goes_on items i item made new a h e k p =
    let rest : Result (List AtomValue) Code = operands (drop (i + 1) items) in
    ap (λ (l : List AtomValue). onto l rest) p ∙ sym (onto_more made a rest) ∙ sym (ap (onto made) (left_at items i item h e ∙ ap (λ (o : Result AtomValue Code). with_operand o rest) k))

failed : (items : List Item) (i : ℕ) (item : Item) (made : List AtomValue) (code : Code) → i < length items → item ≡ get_or items i item
    → operand item ≡ Err code → onto made (operands (drop i items)) ≡ Err code
unfolding onto
failed items i item made code h e k = ap (onto made) (left_at items i item h e ∙ ap (λ (o : Result AtomValue Code). with_operand o (operands (drop (i + 1) items))) k)

pub breaks_off : (items : List Item) (i : ℕ) (item : Item) (made : List AtomValue) (fault : ValueFault) → i < length items → item ≡ get_or items i item
    → Answers (operand item) (Err fault) → onto made (operands (drop i items)) ≡ operands items → Answers (operands items) (Err fault)
breaks_off items i item made (Error code) h e k whole = sym whole ∙ failed items i item made code h e k
breaks_off items i item made (Memory m) h e k whole = tt

all_made : (made : List AtomValue) → onto made (Ok []) ≡ Ok made
unfolding onto
all_made made = ap to_ok (append-nil made)

none_left : operands [] ≡ Ok []
unfolding operands
none_left = refl

pub ends : (items : List Item) (i : ℕ) (made : List AtomValue) → length items ≤ i → onto made (operands (drop i items)) ≡ operands items → operands items ≡ Ok made
ends items i made h whole =
    sym whole ∙ ap (λ (l : List Item). onto made (operands l)) (drop_of_length-le items {i = i} h) ∙ ap (onto made) none_left ∙ all_made made
