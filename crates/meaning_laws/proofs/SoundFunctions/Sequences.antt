-- Functions on sequences, numbers and names give sound values of sound values.
use Rattle.std.proofs.Common.{ℕ, suc, ℤ, pos, ◌+ℤ◌, List, [], ◌∷◌, ◌++◌, map, refl}
use Rattle.std.proofs.Common.{◌≡◌, length, take, drop, ◌&&◌, codes, ◌^◌}
use Rattle.std.proofs.lemmas.Bool.{and_from}
use Rattle.std.specs.Prelude.{Bool, true, false, not, Option, Some, None, Result, Ok, Err, nat_lt}
use Rattle.std.specs.Prelude.{if◌then◌else◌, option_map, option_and_then, nat_le, ◌==◌, int_lt}
use Rattle.std.specs.Ordering.{int_eq}
use Rattle.xt_names.specs.Allowed.{is_allowed_name, is_empty_text}
use Rattle.xt_names.specs.Classes.{is_xml_text, is_ncname_text}
use Rattle.xt_names.specs.declared.codes.Code.{Code}
use Rattle.xt_names.specs.declared.codes.Code.TheVariants.{Dynamic}
use Rattle.xt_names.specs.declared.codes.DynamicCode.TheVariants.{FOAR0002, FORG0003, FORG0004}
use Rattle.xt_names.specs.declared.codes.DynamicCode.TheVariants.{FORG0005}
use Rattle.xt_names.specs.declared.kinds.CompareOp.{CompareOp}
use Rattle.xt_names.specs.declared.names.Name.{Name}
use Rattle.xt_tree.specs.Place.{Place}
use Rattle.xt_tree.specs.Sound.{is_sound_name}
use Rattle.xt_atoms.specs.Casts.{with_value, spelled_value}
use Rattle.xt_atoms.specs.Keys.{key_same}
use Rattle.xt_atoms.specs.Lexical.{integer_of}
use Rattle.xt_atoms.specs.declared.atoms.Atom.{Atom as AtomValue}
use Rattle.xt_atoms.specs.declared.atoms.Atom.TheVariants as atom
use Rattle.xdm_items.specs.Truth.{truth_of}
use Rattle.xdm_items.specs.declared.items.Item.{Item}
use Rattle.xdm_items.specs.declared.items.Item.TheVariants.{Node, Atom}
use Rattle.order_group.specs.Groups.{atoms_of, first_seen}
use Rattle.xdm_items.specs.FunctionArguments.Answers.{of_text, of_optional_text}
use Rattle.xdm_items.specs.FunctionArguments.Arguments.{and_then, text_or_empty_argument, text_argument}
use Rattle.xdm_items.specs.FunctionArguments.Arguments.{integer_argument, atom_arguments, atom_argument}
use Rattle.xdm_items.specs.FunctionArguments.Arguments.{optional_atom_argument, optional_integer_argument}
use Rattle.xdm_items.specs.FunctionArguments.Arguments.{optional_node_argument, optional_name_argument}
use Rattle.text_operations.specs.Searches.{text_before, text_after}
use Rattle.item_functions.specs.SequenceFunctions.Cardinality.{counted, zero_or_one, one_or_more, exactly_one}
use Rattle.item_functions.specs.SequenceFunctions.Positions.{items_at, from_start, from_start_so_many, removed}
use Rattle.item_functions.specs.SequenceFunctions.Positions.{before, inserted_before, is_value, positions_of}
use Rattle.item_functions.specs.SequenceFunctions.Positions.{index_of}
use Rattle.item_functions.specs.SequenceFunctions.Values.{distinct_values}
use Rattle.item_functions.specs.NumberFunctions.Extremes.{operand, with_operand, operands, have_order, is_better}
use Rattle.item_functions.specs.NumberFunctions.Extremes.{best, best_of, best_in_order, with_atoms, extreme}
use Rattle.item_functions.specs.NumberFunctions.Sums.{sum_of as integer_sum, absolute, wrong_kind}
use Rattle.item_functions.specs.NodeFunctions.Roots.{root_of as root_place}
use Rattle.item_functions.specs.Outcomes.{as_integer, as_truth, of_optional_atom, of_optional_node}
use Rattle.item_functions.specs.OnSequences.{count_of, empty_of, exists_of, distinct_values_of}
use Rattle.item_functions.specs.OnSequences.{index_of_of, insert_before_of, remove_of}
use Rattle.item_functions.specs.OnSequences.{subsequence_of, subsequence_for_of, deep_equal_of}
use Rattle.item_functions.specs.OnValues.{sum_or, sum_of, sum_with_of, extreme_of, absolute_of}
use Rattle.item_functions.specs.OnValues.{abs_of, boolean_of, not_of, root_of}
use Rattle.text_functions.specs.NameFunctions.NodeNames.{place_name, argument_name, lexical, local_text, uri_text}
use Rattle.text_functions.specs.NameFunctions.NodeNames.{of_optional_name, name_of, local_name_of}
use Rattle.text_functions.specs.NameFunctions.NodeNames.{namespace_uri_of, node_name_of}
use Rattle.text_functions.specs.NameFunctions.QNames.{allowed_name, prefixed_name, name_of_parts, spelled_name}
use Rattle.text_functions.specs.NameFunctions.QNames.{named, qname_of, own_prefix, prefix_part, local_part}
use Rattle.text_functions.specs.NameFunctions.QNames.{uri_part, prefix_from_qname_of, local_name_from_qname_of}
use Rattle.text_functions.specs.NameFunctions.QNames.{namespace_uri_from_qname_of}
use Rattle.expr_meaning.specs.Outcomes.Outcome.{Every}
use Rattle.expr_meaning.proofs.OutcomesLemmas.Relations.{every_append}
use Rattle.expr_laws.specs.Carrier.{OnValue}
use Rattle.meaning_laws.specs.SoundValues.Sound.{IsSound}
use Rattle.meaning_laws.proofs.SoundValues.Lists.{OnSome, every_take, every_drop, every_filter}
use Rattle.meaning_laws.proofs.SoundValues.Texts.{IsXml, no_text}
use Rattle.meaning_laws.proofs.SoundValues.Trees.{IsName, IsSoundAtom, name_texts, atom_text}
use Rattle.meaning_laws.proofs.SoundValues.Trees.{place_named, tree_part}
use Rattle.meaning_laws.proofs.SoundValues.Arguments.{AllSound, IsSoundPlace, then_known, then_any}
use Rattle.meaning_laws.proofs.SoundValues.Arguments.{text_or_empty_given, optional_atom_given, atoms_given}
use Rattle.meaning_laws.proofs.SoundValues.Arguments.{optional_name_given, optional_node_given}
use Rattle.meaning_laws.proofs.SoundFunctions.Functions.{IsGood}

-- numbers and truth values, whatever they are made of
number_listed : (r : Result ℤ Code) → IsGood (as_integer r)
number_listed (Ok n) = (refl, tt)
number_listed (Err code) = tt

truth_listed : (r : Result Bool Code) → IsGood (as_truth r)
truth_listed (Ok t) = (refl, tt)
truth_listed (Err code) = tt

-- how many items
pub count_known : (a : List Item) → IsGood (count_of a)
unfolding count_of
count_known a = number_listed (counted a)

pub empty_known : (a : List Item) → IsGood (empty_of a)
unfolding empty_of
empty_known a = (refl, tt)

pub exists_known : (a : List Item) → IsGood (exists_of a)
unfolding exists_of
exists_known a = (refl, tt)

pub deep_known : (a b : List Item) → IsGood (deep_equal_of a b)
unfolding deep_equal_of
deep_known a b = (refl, tt)

if_so : (b : Bool) (a : List Item) (code : Code) → AllSound a →
    IsGood (if b then Ok a else Err code)
if_so true a code h = h
if_so false a code h = tt

pub at_most_known : (a : List Item) → AllSound a → IsGood (zero_or_one a)
unfolding zero_or_one
at_most_known a h = if_so (nat_le (length a) 1) a (Dynamic FORG0003) h

pub at_least_known : (a : List Item) → AllSound a → IsGood (one_or_more a)
unfolding one_or_more
at_least_known a h = if_so (nat_lt 0 (length a)) a (Dynamic FORG0004) h

pub exactly_known : (a : List Item) → AllSound a → IsGood (exactly_one a)
unfolding exactly_one
exactly_known a h = if_so (length a == 1) a (Dynamic FORG0005) h

-- items by their positions
items_kept : (passes : ℤ → Bool) (n : ℕ) (xs : List Item) → AllSound xs →
    AllSound (items_at passes n xs)
items_kept passes n [] h = tt
items_kept passes n (x ∷ xs) h = by (passes (pos n)) (items_kept passes (suc n) xs h.1)
  where
    by : (b : Bool) → AllSound (items_at passes (suc n) xs) → AllSound
        (if b then x ∷ items_at passes (suc n) xs else items_at passes (suc n) xs)
    by true more = (h.0, more)
    by false more = more

pub remove_known : (a b : List Item) → AllSound a → IsGood (remove_of a b)
unfolding remove_of removed
remove_known a b h =
    then_any AllSound (integer_argument b) _ (λ p. items_kept (λ q. not (int_eq q p)) 1 a h)

pub subsequence_known : (a b : List Item) → AllSound a → IsGood (subsequence_of a b)
unfolding subsequence_of from_start
subsequence_known a b h =
    then_any AllSound (integer_argument b) _ (λ s. items_kept (λ p. not (int_lt p s)) 1 a h)

pub subsequence_for_known : (a b c : List Item) → AllSound a → IsGood (subsequence_for_of a b c)
unfolding subsequence_for_of from_start_so_many
subsequence_for_known a b c h =
    then_any AllSound (integer_argument b) _ (λ s. then_any AllSound (integer_argument c) _ (λ l.
    items_kept (λ p. not (int_lt p s) && int_lt p (s +ℤ l)) 1 a h))

inserted_known : (a : List Item) (p : ℤ) (c : List Item) → AllSound a → AllSound c →
    AllSound (inserted_before a p c)
unfolding inserted_before
inserted_known a p c h k =
    every_append IsSound (take (before p) a ++ c) (drop (before p) a)
    (every_append IsSound (take (before p) a) c (every_take IsSound (before p) a h) k)
    (every_drop IsSound (before p) a h)

pub insert_known : (a b c : List Item) → AllSound a → AllSound c →
    IsGood (insert_before_of a b c)
unfolding insert_before_of
insert_known a b c h k =
    then_any AllSound (integer_argument b) _ (λ p. inserted_known a p c h k)

positions_known : (v : AtomValue) (n : ℕ) (xs : List Item) → AllSound (positions_of v n xs)
positions_known v n [] = tt
positions_known v n (x ∷ xs) = by (is_value v x) (positions_known v (suc n) xs)
  where
    by : (b : Bool) → AllSound (positions_of v (suc n) xs) → AllSound
        (if b then Atom (atom.Int (pos n)) ∷ positions_of v (suc n) xs
        else positions_of v (suc n) xs)
    by true more = (refl, more)
    by false more = more

places_known : (xs : List Item) (v : AtomValue) → IsGood (index_of xs v)
unfolding index_of
places_known xs v =
    if_so (nat_lt (length xs) (2 ^ 63)) (positions_of v 1 xs) (Dynamic FOAR0002)
    (positions_known v 1 xs)

pub index_known : (a b : List Item) → IsGood (index_of_of a b)
unfolding index_of_of
index_known a b =
    then_any AllSound (atom_arguments a) _ (λ xs. then_any AllSound (atom_argument b) _ (λ v.
    places_known xs v))

-- different values
atoms_known : (xs : List Item) → AllSound xs → Every IsSoundAtom (atoms_of xs)
atoms_known [] h = tt
atoms_known (Atom a ∷ xs) h = (h.0, atoms_known xs h.1)
atoms_known (Node n ∷ xs) h = atoms_known xs h.1

first_known : (ks : List AtomValue) → Every IsSoundAtom ks → Every IsSoundAtom (first_seen ks)
first_known [] h = tt
first_known (a ∷ more) h = (
  h.0,
  every_filter IsSoundAtom (λ b. not (key_same a b)) (first_seen more) (first_known more h.1),
)

listed : (ks : List AtomValue) → Every IsSoundAtom ks → AllSound (map Atom ks)
listed [] h = tt
listed (a ∷ more) h = (h.0, listed more h.1)

distinct : (xs : List Item) → AllSound xs → AllSound (distinct_values xs)
unfolding distinct_values
distinct xs h = listed (first_seen (atoms_of xs)) (first_known (atoms_of xs) (atoms_known xs h))

pub distinct_known : (a : List Item) → AllSound a → IsGood (distinct_values_of a)
unfolding distinct_values_of
distinct_known a h = then_known AllSound AllSound (atom_arguments a) _ (atoms_given a h) distinct

-- sums, greatest and least values
optional_listed : (o : Option AtomValue) → OnSome IsSoundAtom o → AllSound (of_optional_atom o)
optional_listed None h = tt
optional_listed (Some a) h = (h, tt)

pub sum_known : (a : List Item) → IsGood (sum_of a)
unfolding sum_of
sum_known a = then_any AllSound (atom_arguments a) _ (λ xs. number_listed (integer_sum xs))

or_zero : (xs : List Item) (o : Option AtomValue) → OnSome IsSoundAtom o → IsGood (sum_or xs o)
or_zero [] o h = optional_listed o h
or_zero (x ∷ xs) o h = number_listed (integer_sum (x ∷ xs))

pub sum_with_known : (a b : List Item) → AllSound b → IsGood (sum_with_of a b)
unfolding sum_with_of
sum_with_known a b h =
    then_any AllSound (atom_arguments a) _ (λ xs.
    then_known (OnSome IsSoundAtom) AllSound (optional_atom_argument b) _ (optional_atom_given b h)
    (or_zero xs))

spelled : (o : Option ℤ) → OnValue IsSoundAtom (with_value atom.Int (spelled_value o))
spelled None = tt
spelled (Some n) = refl

operand_known : (x : Item) → IsSound x → OnValue IsSoundAtom (operand x)
unfolding operand
operand_known (Atom (atom.Str t)) h = h
operand_known (Atom (atom.Untyped t)) h = spelled (integer_of t)
operand_known (Atom (atom.Int n)) h = h
operand_known (Atom (atom.Bool t)) h = h
operand_known (Atom (atom.QName n)) h = h
operand_known (Node n) h = tt

put_operand : (r : Result AtomValue Code) (q : Result (List AtomValue) Code) →
    OnValue IsSoundAtom r → OnValue (Every IsSoundAtom) q →
    OnValue (Every IsSoundAtom) (with_operand r q)
put_operand (Ok a) (Ok ks) h g = (h, g)
put_operand (Ok a) (Err code) h g = tt
put_operand (Err code) q h g = tt

operands_known : (xs : List Item) → AllSound xs → OnValue (Every IsSoundAtom) (operands xs)
unfolding operands
operands_known [] h = tt
operands_known (x ∷ xs) h =
    put_operand (operand x) (operands xs) (operand_known x h.0) (operands_known xs h.1)

best_known : (op : CompareOp) (a : AtomValue) (ks : List AtomValue) → IsSoundAtom a →
    Every IsSoundAtom ks → IsSoundAtom (best op a ks)
best_known op a [] p h = p
best_known op a (b ∷ ks) p h =
    by (is_better op a b) (best_known op b ks h.0 h.1) (best_known op a ks p h.1)
  where
    by : (c : Bool) → IsSoundAtom (best op b ks) → IsSoundAtom (best op a ks) →
        IsSoundAtom (if c then best op b ks else best op a ks)
    by true f g = f
    by false f g = g

best_of_known : (op : CompareOp) (ks : List AtomValue) → Every IsSoundAtom ks →
    OnSome IsSoundAtom (best_of op ks)
best_of_known op [] h = tt
best_of_known op (a ∷ ks) h = best_known op a ks h.0 h.1

in_order_known : (op : CompareOp) (ks : List AtomValue) → Every IsSoundAtom ks →
    OnValue (OnSome IsSoundAtom) (best_in_order op ks)
in_order_known op ks h = by (have_order ks)
  where
    by : (b : Bool) →
        OnValue (OnSome IsSoundAtom) (if b then Ok (best_of op ks) else Err wrong_kind)
    by true = best_of_known op ks h
    by false = tt

with_atoms_known : (op : CompareOp) (r : Result (List AtomValue) Code) →
    OnValue (Every IsSoundAtom) r → OnValue (OnSome IsSoundAtom) (with_atoms r (best_in_order op))
with_atoms_known op (Ok ks) h = in_order_known op ks h
with_atoms_known op (Err code) h = tt

extreme_known : (op : CompareOp) (xs : List Item) → AllSound xs →
    OnValue (OnSome IsSoundAtom) (extreme op xs)
unfolding extreme
extreme_known op xs h = with_atoms_known op (operands xs) (operands_known xs h)

pub extremes_known : (op : CompareOp) (a : List Item) → AllSound a → IsGood (extreme_of op a)
unfolding extreme_of
extremes_known op a h =
    then_known AllSound AllSound (atom_arguments a) _ (atoms_given a h) (λ xs g.
    then_known (OnSome IsSoundAtom) AllSound (extreme op xs) _ (extreme_known op xs g)
    optional_listed)

absolute_known : (o : Option ℤ) → IsGood (absolute_of o)
absolute_known None = tt
absolute_known (Some n) = number_listed (absolute n)

pub abs_known : (a : List Item) → IsGood (abs_of a)
unfolding abs_of
abs_known a = then_any AllSound (optional_integer_argument a) absolute_of absolute_known

pub boolean_known : (a : List Item) → IsGood (boolean_of a)
unfolding boolean_of
boolean_known a = truth_listed (truth_of a)

pub not_known : (a : List Item) → IsGood (not_of a)
unfolding not_of
not_known a = then_any AllSound (truth_of a) _ (λ t. (refl, tt))

-- roots
root_listed : (o : Option Place) → OnSome IsSoundPlace o →
    AllSound (of_optional_node (option_map root_place o))
root_listed None h = tt
root_listed (Some n) h = (and_from _ _ (tree_part n h) refl, tt)

pub root_known : (a : List Item) → AllSound a → IsGood (root_of a)
unfolding root_of
root_known a h =
    then_known (OnSome IsSoundPlace) AllSound (optional_node_argument a) _ (optional_node_given a h)
    root_listed

-- names of nodes
node_named : (o : Option Place) → OnSome IsSoundPlace o →
    OnSome IsName (option_and_then place_name o)
node_named None h = tt
node_named (Some n) h = place_named n (tree_part n h)

argument_named : (a : List Item) → AllSound a → OnValue (OnSome IsName) (argument_name a)
unfolding argument_name
argument_named a h =
    then_known (OnSome IsSoundPlace) (OnSome IsName) (optional_node_argument a) _
    (optional_node_given a h) node_named

of_name : (a : List Item) → AllSound a → (f : Option Name → List Item) →
    ((o : Option Name) → OnSome IsName o → AllSound (f o)) →
    IsGood (and_then (argument_name a) (λ n. Ok (f n)))
of_name a h f g = then_known (OnSome IsName) AllSound (argument_name a) _ (argument_named a h) g

lexical_known : (o : Option Name) → OnSome IsName o → AllSound (of_text (lexical o))
lexical_known None h = (no_text, tt)
lexical_known (Some n) h = (atom_text (atom.QName n) h, tt)

local_known : (o : Option Name) → OnSome IsName o → AllSound (of_text (local_text o))
local_known None h = (no_text, tt)
local_known (Some n) h = ((name_texts n h).local, tt)

uri_known : (o : Option Name) → OnSome IsName o → AllSound (of_text (uri_text o))
uri_known None h = (no_text, tt)
uri_known (Some n) h = ((name_texts n h).uri, tt)

name_listed : (o : Option Name) → OnSome IsName o → AllSound (of_optional_name o)
name_listed None h = tt
name_listed (Some n) h = (h, tt)

pub name_known : (a : List Item) → AllSound a → IsGood (name_of a)
unfolding name_of
name_known a h = of_name a h (λ o. of_text (lexical o)) lexical_known

pub local_name_known : (a : List Item) → AllSound a → IsGood (local_name_of a)
unfolding local_name_of
local_name_known a h = of_name a h (λ o. of_text (local_text o)) local_known

pub uri_name_known : (a : List Item) → AllSound a → IsGood (namespace_uri_of a)
unfolding namespace_uri_of
uri_name_known a h = of_name a h (λ o. of_text (uri_text o)) uri_known

pub node_name_known : (a : List Item) → AllSound a → IsGood (node_name_of a)
unfolding node_name_of
node_name_known a h = of_name a h of_optional_name name_listed

-- QNames
allowed_known : (prefix uri local : List ℕ) → IsXml uri →
    OnSome IsName (allowed_name prefix uri local)
unfolding is_sound_name
allowed_known prefix uri local h = by (is_allowed_name prefix uri local) refl
  where
    by : (b : Bool) → is_allowed_name prefix uri local ≡ b → OnSome IsName
        (if b then Some (record { prefix = prefix; uri = uri; local = local }) else None)
    by true e = and_from (is_allowed_name prefix uri local) (is_xml_text uri) e h
    by false e = tt

prefixed_known : (prefix uri local : List ℕ) → IsXml uri →
    OnSome IsName (prefixed_name prefix uri local)
prefixed_known prefix uri local h =
    by (is_ncname_text prefix) (allowed_known prefix uri local h)
  where
    by : (b : Bool) → OnSome IsName (allowed_name prefix uri local) →
        OnSome IsName (if b then allowed_name prefix uri local else None)
    by true g = g
    by false g = tt

parts_known : (uri text : List ℕ) (p l : Option (List ℕ)) → IsXml uri →
    OnSome IsName (name_of_parts uri text p l)
parts_known uri text (Some prefix) (Some local) h = prefixed_known prefix uri local h
parts_known uri text (Some prefix) None h = tt
parts_known uri text None l h = allowed_known [] uri text h

spelled_known : (uri text : List ℕ) → IsXml uri → OnSome IsName (spelled_name uri text)
unfolding spelled_name
spelled_known uri text h =
    parts_known uri text (text_before (codes ":") text) (text_after (codes ":") text) h

named_known : (o : Option Name) → OnSome IsName o → IsGood (named o)
named_known None h = tt
named_known (Some n) h = (h, tt)

pub qname_known : (a b : List Item) → AllSound a → IsGood (qname_of a b)
unfolding qname_of
qname_known a b h =
    then_known IsXml AllSound (text_or_empty_argument a) _ (text_or_empty_given a h) (λ u g.
    then_any AllSound (text_argument b) _
    (λ t. named_known (spelled_name u t) (spelled_known u t g)))

of_part : (a : List Item) → AllSound a → (f : Option Name → Option (List ℕ)) →
    ((o : Option Name) → OnSome IsName o → OnSome IsXml (f o)) →
    IsGood (and_then (optional_name_argument a) (λ n. Ok (of_optional_text (f n))))
of_part a h f g =
    then_known (OnSome IsName) AllSound (optional_name_argument a) _ (optional_name_given a h)
    (λ o k. by (f o) (g o k))
  where
    by : (o : Option (List ℕ)) → OnSome IsXml o → AllSound (of_optional_text o)
    by None k = tt
    by (Some t) k = (k, tt)

own_known : (n : Name) → IsName n → OnSome IsXml (own_prefix n)
own_known n h = by (is_empty_text n.prefix)
  where
    by : (b : Bool) → OnSome IsXml (if b then None else Some n.prefix)
    by true = tt
    by false = (name_texts n h).prefix

prefix_known : (o : Option Name) → OnSome IsName o → OnSome IsXml (prefix_part o)
prefix_known None h = tt
prefix_known (Some n) h = own_known n h

local_part_known : (o : Option Name) → OnSome IsName o → OnSome IsXml (local_part o)
local_part_known None h = tt
local_part_known (Some n) h = (name_texts n h).local

uri_part_known : (o : Option Name) → OnSome IsName o → OnSome IsXml (uri_part o)
uri_part_known None h = tt
uri_part_known (Some n) h = (name_texts n h).uri

pub prefix_from_known : (a : List Item) → AllSound a → IsGood (prefix_from_qname_of a)
unfolding prefix_from_qname_of
prefix_from_known a h = of_part a h prefix_part prefix_known

pub local_from_known : (a : List Item) → AllSound a → IsGood (local_name_from_qname_of a)
unfolding local_name_from_qname_of
local_from_known a h = of_part a h local_part local_part_known

pub uri_from_known : (a : List Item) → AllSound a → IsGood (namespace_uri_from_qname_of a)
unfolding namespace_uri_from_qname_of
uri_from_known a h = of_part a h uri_part uri_part_known
