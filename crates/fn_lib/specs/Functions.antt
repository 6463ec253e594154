-- What each function answers (XQuery 1.0 and XPath 2.0 Functions and Operators). What a function
-- reads of the focus is its first argument: the position, the size, the string value of the focus
-- item for `string-length` and `normalize-space`, and else the focus item itself.
use Rattle.std.specs.Prelude.{List, length, reverse, true, false, Ok}
use Rattle.xt_names.specs.declared.kinds.CompareOp.TheVariants.{Gt, Lt}
use Rattle.xdm_items.specs.Values.{atomized}
use Rattle.xdm_items.specs.declared.items.Item.{Item}
use Rattle.function_table.specs.declared.builtins.Builtin.{Builtin}
use Rattle.function_table.specs.declared.builtins.Builtin.TheVariants as function
use Rattle.xdm_items.specs.FunctionArguments.Answers.{of_truth}
use Rattle.text_functions.specs.TextFunctions.{codepoint_equal_of, codepoints_to_string_of, compare_of, concat_of, contains_of, ends_with_of, normalize_space_of, starts_with_of, string_of, string_join_of, string_length_of, string_to_codepoints_of, substring_after_of, substring_before_of, translate_of}
use Rattle.item_functions.specs.SequenceFunctions.Cardinality.{exactly_one, one_or_more, zero_or_one}
use Rattle.item_functions.specs.Outcomes.{Outcome}
use Rattle.item_functions.specs.OnSequences.{count_of, deep_equal_of, distinct_values_of, empty_of, exists_of, index_of_of, insert_before_of, remove_of}
use Rattle.item_functions.specs.OnValues.{abs_of, boolean_of, extreme_of, not_of, root_of}
use Rattle.text_functions.specs.NameFunctions.NodeNames.{name_of, local_name_of, namespace_uri_of, node_name_of}
use Rattle.text_functions.specs.NameFunctions.QNames.{qname_of, prefix_from_qname_of, local_name_from_qname_of, namespace_uri_from_qname_of}
use Rattle.fn_lib.specs.Values.{argument, error_value, subsequence_value, substring_value, sum_value}

-- one line a function: its value of all arguments, and of the first three
unfoldable pub value_of : Builtin → List (List Item) → List Item → List Item → List Item → Outcome
value_of function.Abs args a b c = abs_of a
value_of function.Boolean args a b c = boolean_of a
value_of function.CodepointEqual args a b c = codepoint_equal_of a b
value_of function.CodepointsToString args a b c = codepoints_to_string_of a
value_of function.Compare args a b c = compare_of a b
value_of function.Concat args a b c = concat_of args
value_of function.Contains args a b c = contains_of a b
value_of function.Count args a b c = count_of a
value_of function.Data args a b c = Ok (atomized a)
value_of function.DeepEqual args a b c = deep_equal_of a b
value_of function.DistinctValues args a b c = distinct_values_of a
value_of function.Empty args a b c = empty_of a
value_of function.EndsWith args a b c = ends_with_of a b
value_of function.Error args a b c = error_value
value_of function.ExactlyOne args a b c = exactly_one a
value_of function.Exists args a b c = exists_of a
value_of function.False args a b c = Ok (of_truth false)
value_of function.IndexOf args a b c = index_of_of a b
value_of function.InsertBefore args a b c = insert_before_of a b c
value_of function.Last args a b c = Ok a
value_of function.LocalName args a b c = local_name_of a
value_of function.LocalNameFromQName args a b c = local_name_from_qname_of a
value_of function.Max args a b c = extreme_of Gt a
value_of function.Min args a b c = extreme_of Lt a
value_of function.Name args a b c = name_of a
value_of function.NamespaceUri args a b c = namespace_uri_of a
value_of function.NamespaceUriFromQName args a b c = namespace_uri_from_qname_of a
value_of function.NodeName args a b c = node_name_of a
value_of function.NormalizeSpace args a b c = normalize_space_of a
value_of function.Not args a b c = not_of a
value_of function.OneOrMore args a b c = one_or_more a
value_of function.Position args a b c = Ok a
value_of function.PrefixFromQName args a b c = prefix_from_qname_of a
value_of function.QName args a b c = qname_of a b
value_of function.Remove args a b c = remove_of a b
value_of function.Reverse args a b c = Ok (reverse a)
value_of function.Root args a b c = root_of a
value_of function.StartsWith args a b c = starts_with_of a b
value_of function.String args a b c = string_of a
value_of function.StringJoin args a b c = string_join_of a b
value_of function.StringLength args a b c = string_length_of a
value_of function.StringToCodepoints args a b c = string_to_codepoints_of a
value_of function.Subsequence args a b c = subsequence_value (length args) a b c
value_of function.Substring args a b c = substring_value (length args) a b c
value_of function.SubstringAfter args a b c = substring_after_of a b
value_of function.SubstringBefore args a b c = substring_before_of a b
value_of function.Sum args a b c = sum_value (length args) a b
value_of function.Translate args a b c = translate_of a b c
value_of function.True args a b c = Ok (of_truth true)
value_of function.Unordered args a b c = Ok a
value_of function.ZeroOrOne args a b c = zero_or_one a

-- the value of a call; an argument that is not there counts as the empty list
unfoldable pub function_value : Builtin → List (List Item) → Outcome
function_value f args = value_of f args (argument args 0) (argument args 1) (argument args 2)
