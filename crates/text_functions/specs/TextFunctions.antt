-- Functions on strings (XQuery 1.0 and XPath 2.0 Functions and Operators, 2.3, 7.2 to 7.5).
use Rattle.std.specs.Prelude.{ℕ, ◌+◌, ℤ, pos, negsuc, ◌+ℤ◌, List, [], ◌∷◌, length, take, drop, map, nat_eq, Option, Some, None, is_some, unwrap_or, Result, Ok, Err, if◌then◌else◌}
use Rattle.std.specs.declared.cmp.Ordering.{Ordering}
use Rattle.std.specs.declared.cmp.Ordering.TheVariants.{Less, Equal, Greater}
use Rattle.std.specs.List.{starts_with, ends_with}
use Rattle.std.specs.Str.{bytes_eq}
use Rattle.xt_names.specs.Classes.{is_in_ranges, xml_char_ranges}
use Rattle.xt_names.specs.declared.codes.Code.{Code}
use Rattle.xt_names.specs.declared.codes.Code.TheVariants.{Dynamic}
use Rattle.xt_names.specs.declared.codes.DynamicCode.TheVariants.{FOCH0001}
use Rattle.xt_atoms.specs.Casts.{wrong_type}
use Rattle.xt_atoms.specs.Comparisons.{text_order}
use Rattle.xt_atoms.specs.declared.atoms.Atom.TheVariants as atom
use Rattle.xdm_items.specs.Values.{string_value_of}
use Rattle.xdm_items.specs.declared.items.Item.{Item}
use Rattle.xdm_items.specs.declared.items.Item.TheVariants.{Atom}
use Rattle.xdm_items.specs.FunctionArguments.Answers.{of_text, of_integer, of_truth}
use Rattle.xdm_items.specs.FunctionArguments.Arguments.{and_then, text_argument, text_or_empty_argument, optional_text_argument, integer_argument, text_arguments, integer_arguments}
use Rattle.text_operations.specs.Positions.{count_before}
use Rattle.text_operations.specs.Searches.{text_before, text_after}
use Rattle.text_operations.specs.Spaces.{normalized}
use Rattle.text_operations.specs.Translations.{translated}
use Rattle.text_functions.specs.Joins.{argument_text, in_turn, joined}

abbrev pub Answer : Type 0
Answer = Result (List Item) Code

-- the value of functions of one text, of two and of three
abbrev pub with_text : List Item → (List ℕ → Answer) → Answer
with_text a f = and_then (text_or_empty_argument a) f

abbrev pub with_texts : List Item → List Item → (List ℕ → List ℕ → Answer) → Answer
with_texts a b f = and_then (text_or_empty_argument a) (λ s. and_then (text_or_empty_argument b) (λ t. f s t))

-- string: the string value of one item (2.3)
unfoldable pub string_of : List Item → Answer
string_of [] = Ok (of_text [])
string_of (item ∷ []) = Ok (of_text (string_value_of item))
string_of (item ∷ other ∷ rest) = Err wrong_type

-- codepoints-to-string: each must be a character of XML (7.2.1)
abbrev pub no_character : Code
no_character = Dynamic FOCH0001

abbrev pub character : ℕ → Result ℕ Code
character n = if is_in_ranges xml_char_ranges n then Ok n else Err no_character

abbrev pub xml_character : ℤ → Result ℕ Code
xml_character (pos n) = character n
xml_character (negsuc n) = Err no_character

-- after the conversion each item is an integer
abbrev pub character_of : Item → Result ℕ Code
character_of (Atom (atom.Int number)) = xml_character number
character_of _ = Err wrong_type

abbrev pub one_character : Item → Result (List ℕ) Code
one_character item = and_then (character_of item) (λ c. Ok (c ∷ []))

unfoldable pub codepoints_to_string_of : List Item → Answer
codepoints_to_string_of a = and_then (integer_arguments a) (λ numbers. and_then (in_turn one_character numbers) (λ text. Ok (of_text text)))

-- string-to-codepoints (7.2.2)
abbrev pub as_integer : ℕ → Item
as_integer n = Atom (atom.Int (pos n))

unfoldable pub string_to_codepoints_of : List Item → Answer
string_to_codepoints_of a = with_text a (λ text. Ok (map as_integer text))

-- compare: by code points, and empty where one is (7.3.2)
abbrev pub order_number : Ordering → ℤ
order_number Less = negsuc 0
order_number Equal = pos 0
order_number Greater = pos 1

abbrev pub with_optional_texts : List Item → List Item → (List ℕ → List ℕ → List Item) → Answer
with_optional_texts a b f = and_then (optional_text_argument a) (λ s. and_then (optional_text_argument b) (λ t. Ok (of_both s t f)))
  where
    of_both : Option (List ℕ) → Option (List ℕ) → (List ℕ → List ℕ → List Item) → List Item
    of_both (Some s) (Some t) g = g s t
    of_both None t g = []
    of_both (Some s) None g = []

unfoldable pub compare_of : List Item → List Item → Answer
compare_of a b = with_optional_texts a b (λ s t. of_integer (order_number (text_order s t)))

-- codepoint-equal (7.3.3)
unfoldable pub codepoint_equal_of : List Item → List Item → Answer
codepoint_equal_of a b = with_optional_texts a b (λ s t. of_truth (bytes_eq s t))

-- concat (7.4.1)
unfoldable pub concat_of : List (List Item) → Answer
concat_of arguments = and_then (in_turn argument_text arguments) (λ text. Ok (of_text text))

-- string-join (7.4.2)
unfoldable pub string_join_of : List Item → List Item → Answer
string_join_of a b = and_then (text_arguments a) (λ texts. and_then (text_argument b) (λ separator. Ok (of_text (joined separator texts))))

-- substring: the characters at the positions from the start on (7.4.3)
unfoldable pub substring_of : List Item → List Item → Answer
substring_of a b = with_text a (λ text. and_then (integer_argument b) (λ start. Ok (of_text (drop (count_before start) text))))

-- the same below the sum of the start and the length, which has no limit
unfoldable pub substring_for_of : List Item → List Item → List Item → Answer
substring_for_of a b c =
    with_text a (λ text. and_then (integer_argument b) (λ start. and_then (integer_argument c) (λ length.
    Ok (of_text (drop (count_before start) (take (count_before (start +ℤ length)) text))))))

-- string-length (7.4.4)
unfoldable pub string_length_of : List Item → Answer
string_length_of a = with_text a (λ text. Ok (of_integer (pos (length text))))

-- normalize-space (7.4.5)
unfoldable pub normalize_space_of : List Item → Answer
normalize_space_of a = with_text a (λ text. Ok (of_text (normalized text)))

-- translate (7.4.9)
unfoldable pub translate_of : List Item → List Item → List Item → Answer
translate_of a b c = with_text a (λ text. and_then (text_argument b) (λ from. and_then (text_argument c) (λ to. Ok (of_text (translated from to text)))))

-- contains, starts-with and ends-with (7.5.1 to 7.5.3)
unfoldable pub contains_of : List Item → List Item → Answer
contains_of a b = with_texts a b (λ text part. Ok (of_truth (is_some (text_before part text))))

unfoldable pub starts_with_of : List Item → List Item → Answer
starts_with_of a b = with_texts a b (λ text part. Ok (of_truth (starts_with nat_eq text part)))

unfoldable pub ends_with_of : List Item → List Item → Answer
ends_with_of a b = with_texts a b (λ text part. Ok (of_truth (ends_with nat_eq text part)))

-- substring-before and substring-after: the empty text where the part does not occur (7.5.4 and 7.5.5)
unfoldable pub substring_before_of : List Item → List Item → Answer
substring_before_of a b = with_texts a b (λ text part. Ok (of_text (unwrap_or (text_before part text) [])))

unfoldable pub substring_after_of : List Item → List Item → Answer
substring_after_of a b = with_texts a b (λ text part. Ok (of_text (unwrap_or (text_after part text) [])))
