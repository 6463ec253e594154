-- All operators and functions give sound values of sound values.
use Rattle.std.proofs.Common.{◌≡◌, List, [], ◌∷◌, length, refl}
use Rattle.std.specs.Prelude.{Bool, true, false, Option, Some, None, Result, nat_lt}
use Rattle.std.specs.Prelude.{if◌then◌else◌}
use Rattle.xt_names.specs.declared.codes.Code.{Code}
use Rattle.xt_names.specs.declared.kinds.CompareOp.TheVariants.{Gt, Lt}
use Rattle.xdm_items.specs.declared.items.Item.{Item}
use Rattle.function_table.specs.declared.builtins.Builtin.{Builtin}
use Rattle.function_table.specs.declared.builtins.Builtin.TheVariants as function
use Rattle.text_functions.specs.TextFunctions.{substring_of, substring_for_of}
use Rattle.item_functions.specs.OnSequences.{subsequence_of, subsequence_for_of}
use Rattle.item_functions.specs.OnValues.{sum_of, sum_with_of}
use Rattle.fn_lib.specs.Functions.{value_of, function_value}
use Rattle.fn_lib.specs.Values.{argument}
use Rattle.expr_meaning.specs.SortMeaning.Sorted.{Placed}
use Rattle.expr_meaning.specs.Outcomes.Outcome.{Every}
use Rattle.expr_meaning.specs.Calls.{read_of_focus, from_focus, with_focus, library_value}
use Rattle.expr_laws.specs.Carrier.{OnValue, IsKept}
use Rattle.meaning_laws.specs.SoundValues.Sound.{IsSound}
use Rattle.meaning_laws.proofs.SoundValues.Lists.{OnSome, every_reverse, argument_known}
use Rattle.meaning_laws.proofs.SoundValues.Trees.{all_atomized, value_text}
use Rattle.meaning_laws.proofs.SoundValues.Arguments.{AllSound, then_known}
use Rattle.meaning_laws.proofs.SoundFunctions.Operators as operator
use Rattle.meaning_laws.proofs.SoundFunctions.Functions as text
use Rattle.meaning_laws.proofs.SoundFunctions.Functions.{IsGood}
use Rattle.meaning_laws.proofs.SoundFunctions.Sequences as sequence

by_count : (b : Bool) (r q : Result (List Item) Code) → IsGood r → IsGood q →
    IsGood (if b then r else q)
by_count true r q h g = h
by_count false r q h g = g

value_known : (f : Builtin) (args : List (List Item)) (a b c : List Item) → Every AllSound args →
    AllSound a → AllSound b → AllSound c → IsGood (value_of f args a b c)
unfolding value_of
value_known function.Abs args a b c h x y z = sequence.abs_known a
value_known function.Boolean args a b c h x y z = sequence.boolean_known a
value_known function.CodepointEqual args a b c h x y z = text.equal_known a b
value_known function.CodepointsToString args a b c h x y z = text.codepoints_known a
value_known function.Compare args a b c h x y z = text.compare_known a b
value_known function.Concat args a b c h x y z = text.concat_known args h
value_known function.Contains args a b c h x y z = text.contains_known a b x y
value_known function.Count args a b c h x y z = sequence.count_known a
value_known function.Data args a b c h x y z = all_atomized a x
value_known function.DeepEqual args a b c h x y z = sequence.deep_known a b
value_known function.DistinctValues args a b c h x y z = sequence.distinct_known a x
value_known function.Empty args a b c h x y z = sequence.empty_known a
value_known function.EndsWith args a b c h x y z = text.ends_known a b x y
value_known function.Error args a b c h x y z = tt
value_known function.ExactlyOne args a b c h x y z = sequence.exactly_known a x
value_known function.Exists args a b c h x y z = sequence.exists_known a
value_known function.False args a b c h x y z = (refl, tt)
value_known function.IndexOf args a b c h x y z = sequence.index_known a b
value_known function.InsertBefore args a b c h x y z = sequence.insert_known a b c x z
value_known function.Last args a b c h x y z = x
value_known function.LocalName args a b c h x y z = sequence.local_name_known a x
value_known function.LocalNameFromQName args a b c h x y z = sequence.local_from_known a x
value_known function.Max args a b c h x y z = sequence.extremes_known Gt a x
value_known function.Min args a b c h x y z = sequence.extremes_known Lt a x
value_known function.Name args a b c h x y z = sequence.name_known a x
value_known function.NamespaceUri args a b c h x y z = sequence.uri_name_known a x
value_known function.NamespaceUriFromQName args a b c h x y z = sequence.uri_from_known a x
value_known function.NodeName args a b c h x y z = sequence.node_name_known a x
value_known function.NormalizeSpace args a b c h x y z = text.normalize_known a x
value_known function.Not args a b c h x y z = sequence.not_known a
value_known function.OneOrMore args a b c h x y z = sequence.at_least_known a x
value_known function.Position args a b c h x y z = x
value_known function.PrefixFromQName args a b c h x y z = sequence.prefix_from_known a x
value_known function.QName args a b c h x y z = sequence.qname_known a b x
value_known function.Remove args a b c h x y z = sequence.remove_known a b x
value_known function.Reverse args a b c h x y z = every_reverse IsSound a x
value_known function.Root args a b c h x y z = sequence.root_known a x
value_known function.StartsWith args a b c h x y z = text.starts_known a b x y
value_known function.String args a b c h x y z = text.string_known a x
value_known function.StringJoin args a b c h x y z = text.join_known a b x y
value_known function.StringLength args a b c h x y z = text.length_known a x
value_known function.StringToCodepoints args a b c h x y z = text.to_codepoints_known a x
value_known function.Subsequence args a b c h x y z =
    by_count (nat_lt (length args) 3) (subsequence_of a b) (subsequence_for_of a b c)
    (sequence.subsequence_known a b x) (sequence.subsequence_for_known a b c x)
value_known function.Substring args a b c h x y z =
    by_count (nat_lt (length args) 3) (substring_of a b) (substring_for_of a b c)
    (text.substring_known a b x) (text.substring_for_known a b c x)
value_known function.SubstringAfter args a b c h x y z = text.after_known a b x y
value_known function.SubstringBefore args a b c h x y z = text.before_known a b x y
value_known function.Sum args a b c h x y z =
    by_count (nat_lt (length args) 2) (sum_of a) (sum_with_of a b) (sequence.sum_known a)
    (sequence.sum_with_known a b y)
value_known function.Translate args a b c h x y z = text.translate_known a b c x y z
value_known function.True args a b c h x y z = (refl, tt)
value_known function.Unordered args a b c h x y z = x
value_known function.ZeroOrOne args a b c h x y z = sequence.at_most_known a x

function_known : (f : Builtin) (args : List (List Item)) → Every AllSound args →
    IsGood (function_value f args)
unfolding function_value
function_known f args h =
    value_known f args (argument args 0) (argument args 1) (argument args 2) h
    (argument_known IsSound args 0 h) (argument_known IsSound args 1 h)
    (argument_known IsSound args 2 h)

-- what a function reads of the focus
abbrev IsReader : (Placed Item → List Item) → Type 0
IsReader read = (p : Placed Item) → IsSound p.value → AllSound (read p)

reader_known : (f : Builtin) → OnSome IsReader (read_of_focus f)
reader_known function.Position = λ p h. (refl, tt)
reader_known function.Last = λ p h. (refl, tt)
reader_known function.StringLength = λ p h. (value_text p.value h, tt)
reader_known function.NormalizeSpace = λ p h. (value_text p.value h, tt)
reader_known function.String = λ p h. (h, tt)
reader_known function.Name = λ p h. (h, tt)
reader_known function.LocalName = λ p h. (h, tt)
reader_known function.NamespaceUri = λ p h. (h, tt)
reader_known function.Root = λ p h. (h, tt)
reader_known _ = tt

from_known : (o : Option (Placed Item → List Item)) → OnSome IsReader o →
    (focus : Option (Placed Item)) →
    ((p : Placed Item) → focus ≡ Some p → IsSound p.value) →
    OnValue (Every AllSound) (from_focus o focus)
from_known None r focus h = tt
from_known (Some read) r None h = tt
from_known (Some read) r (Some p) h = (r p (h p refl), tt)

with_known : (f : Builtin) (focus : Option (Placed Item)) →
    ((p : Placed Item) → focus ≡ Some p → IsSound p.value) → (args : List (List Item)) →
    Every AllSound args → OnValue (Every AllSound) (with_focus f focus args)
with_known f focus h [] g = from_known (read_of_focus f) (reader_known f) focus h
with_known f focus h (xs ∷ args) g = g

library_known : (f : Builtin) (focus : Option (Placed Item)) →
    ((p : Placed Item) → focus ≡ Some p → IsSound p.value) → (args : List (List Item)) →
    Every AllSound args → IsGood (library_value f focus args)
library_known f focus h args g =
    then_known (Every AllSound) AllSound (with_focus f focus args) (function_value f)
    (with_known f focus h args g) (function_known f)

pub values_kept : IsKept IsSound
values_kept = record {
  truth = λ t. (refl, tt);
  integer = λ n. (refl, tt);
  general = λ op xs ys g h. operator.general_made op xs ys;
  single = λ op xs ys g h. operator.single_made op xs ys;
  is = λ xs ys g h. operator.is_made xs ys;
  before = λ xs ys g h. operator.before_made xs ys;
  after = λ xs ys g h. operator.after_made xs ys;
  range = λ xs ys g h. operator.range_made xs ys;
  arithmetic = λ op xs ys g h. operator.arithmetic_made op xs ys;
  negated = λ xs g. operator.negated_made xs;
  signed = λ xs g. operator.signed_made xs;
  union = operator.union_kept;
  intersect = operator.intersect_kept;
  except = operator.except_kept;
  instance = λ type xs g. operator.instance_made type xs;
  treated = operator.treated_kept;
  castable = λ type empty xs g. operator.castable_made type empty xs;
  cast = operator.cast_kept;
  root = operator.root_kept;
  step = operator.step_kept;
  ordered = operator.order_kept;
  library = library_known;
}
