-- What the words of a command line ask for.
use Rattle.std.specs.Prelude.{◌==◌, ℕ, ◌+◌, ◌*◌, ◌-◌, List, [], ◌∷◌, length, map, Bool, ◌&&◌}
use Rattle.std.specs.Prelude.{Option, None, Some, option_map, option_and_then, codes, nat_le, nat_lt}
use Rattle.std.specs.Prelude.{if◌then◌else◌}
use Rattle.std.specs.List.{list_all, position_or_len, before_first, after_first}
use Rattle.std.specs.Str.{bytes_eq, chars, all_ascii_digits}
use Rattle.xt_names.specs.Classes.{is_ncname_text, is_xml_text}
use Rattle.command_words.specs.Words.{Words}
use Rattle.command_words.specs.Apart.{Told, told_apart}
use Rattle.command_words.specs.Texts.{are_different}
use Rattle.command_words.specs.declared.parameters.Parameter as code_parameter
use Rattle.command_words.specs.declared.requests.Inputs as code_inputs
use Rattle.command_words.specs.declared.requests.Request as code
use Rattle.command_words.specs.declared.requests.Request.TheVariants as code_variants

-- a parameter: its name, and its text
abbrev pub Given : Type 0
Given = List ℕ × List ℕ

-- on what a stylesheet or a query runs: the file of the document, how many calls may be open at
-- once, the files of further documents, and the parameters
pub record Inputs : Type 0 where
  pub document : List ℕ
  pub depth : ℕ
  pub documents : List (List ℕ)
  pub parameters : List Given

-- a request; a file's name is bytes where it is loaded first, and a text where doc() finds it
pub data Asked : Type 0 where
  Transform : (sheet : List ℕ) (inputs : Inputs) → Asked
  Query : (query : List ℕ) (inputs : Inputs) → Asked

-- on what a request runs
abbrev pub inputs_asked : Asked → Inputs
inputs_asked (Transform sheet inputs) = inputs
inputs_asked (Query query inputs) = inputs

-- the number that digits spell, after the number so far; the code of `0` is 48
abbrev pub number_on : ℕ → List ℕ → ℕ
number_on n [] = n
number_on n (c ∷ cs) = number_on (10 * n + (c - 48)) cs

abbrev pub number_of : List ℕ → ℕ
number_of digits = number_on 0 digits

-- ASCII digits that spell a number from 1 to the greatest that is allowed
abbrev pub is_depth : ℕ → List ℕ → Bool
is_depth greatest word =
    all_ascii_digits word && (nat_le 1 (number_of word) && nat_le (number_of word) greatest)

-- the depth: the usual one where none is said; it may be said once
abbrev pub depth_of : ℕ → ℕ → List (List ℕ) → Option ℕ
depth_of greatest usual [] = Some usual
depth_of greatest usual (word ∷ []) =
    if is_depth greatest word then Some (number_of word) else None
depth_of greatest usual (word ∷ other ∷ more) = None

-- the further documents: at most 16, each named once
abbrev pub documents_of : List (List ℕ) → Option (List (List ℕ))
documents_of files =
    if nat_le (length files) 16 && are_different (map chars files)
    then Some (map chars files) else None

-- the code of `=` is 61
abbrev pub is_equals : ℕ → Bool
is_equals b = b == 61

abbrev pub has_equals : List ℕ → Bool
has_equals word = nat_lt (position_or_len is_equals word) (length word)

-- the texts before and after the first `=`
abbrev pub name_in : List ℕ → List ℕ
name_in word = chars (before_first is_equals word)

abbrev pub value_in : List ℕ → List ℕ
value_in word = chars (after_first is_equals word)

-- NAME=VALUE: an NCName, and characters of XML
abbrev pub is_parameter : List ℕ → Bool
is_parameter word =
    has_equals word && (is_ncname_text (name_in word) && is_xml_text (value_in word))

abbrev pub given_in : List ℕ → Given
given_in word = (name_in word, value_in word)

-- the parameters: no name is given twice
abbrev pub parameters_of : List (List ℕ) → Option (List Given)
parameters_of words =
    if list_all is_parameter words && are_different (map name_in words)
    then Some (map given_in words) else None

abbrev pub inputs_of : List ℕ → Option ℕ → Option (List (List ℕ)) → Option (List Given)
    → Option Inputs
inputs_of document (Some depth) (Some documents) (Some parameters) = Some (record {
  document = document;
  depth = depth;
  documents = documents;
  parameters = parameters;
})
inputs_of document _ _ _ = None

-- the program and its inputs: the first two operands are files, and each further one is a parameter
abbrev pub run_of_operands : ℕ → ℕ → Told → List (List ℕ) → Option (List ℕ × Inputs)
run_of_operands greatest usual t (program ∷ document ∷ more) =
    option_map (λ inputs. (program, inputs))
    (inputs_of document (depth_of greatest usual t.depths) (documents_of t.files)
    (parameters_of more))
run_of_operands greatest usual t _ = None

abbrev pub run_of : ℕ → ℕ → Told → Option (List ℕ × Inputs)
run_of greatest usual t = run_of_operands greatest usual t t.operands

abbrev pub transform_of : Words → Option Asked
transform_of words =
    option_map (λ r. Transform r.0 r.1) (option_and_then (run_of 300 100) (told_apart words))

abbrev pub query_of : Words → Option Asked
query_of words =
    option_map (λ r. Query r.0 r.1) (option_and_then (run_of 602 202) (told_apart words))

-- the request of the words after the program's name: the first is the command
abbrev pub request_of : Words → Option Asked
request_of [] = None
request_of (command ∷ words) =
    if bytes_eq command (codes "transform") then transform_of words
    else if bytes_eq command (codes "query") then query_of words else None

-- what values of the program's types stand for
abbrev pub given_of : code_parameter.Parameter → Given
given_of p = (p.name, p.value)

abbrev pub inputs_in : code_inputs.Inputs → Inputs
inputs_in i = record {
  document = i.document.now;
  depth = i.depth;
  documents = i.documents;
  parameters = map given_of i.parameters;
}

abbrev pub asked : code.Request → Asked
asked (code_variants.Transform sheet inputs) = Transform sheet.now (inputs_in inputs)
asked (code_variants.Query query inputs) = Query query.now (inputs_in inputs)
