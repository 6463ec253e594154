-- The functions of the library give sound values of sound values.
use Rattle.std.proofs.Common.{ℕ, pos, negsuc, ◌+ℤ◌, List, [], ◌∷◌, ◌++◌, map, refl}
use Rattle.std.proofs.Common.{◌≡◌, take}
use Rattle.std.specs.Prelude.{Bool, true, false, Option, Some, None, Result, Ok, Err}
use Rattle.std.specs.Prelude.{if◌then◌else◌}
use Rattle.xt_names.specs.Classes.{is_in_ranges, xml_char_ranges}
use Rattle.xt_names.specs.declared.codes.Code.{Code}
use Rattle.xt_atoms.specs.declared.atoms.Atom.{Atom as AtomValue}
use Rattle.xt_atoms.specs.declared.atoms.Atom.TheVariants as atom
use Rattle.xdm_items.specs.Values.{string_value_of}
use Rattle.xdm_items.specs.declared.items.Item.{Item}
use Rattle.xdm_items.specs.declared.items.Item.TheVariants.{Node, Atom}
use Rattle.xdm_items.specs.FunctionArguments.Answers.{of_text}
use Rattle.xdm_items.specs.FunctionArguments.Arguments.{and_then, text_or_empty_argument, text_argument}
use Rattle.xdm_items.specs.FunctionArguments.Arguments.{optional_text_argument, integer_argument}
use Rattle.xdm_items.specs.FunctionArguments.Arguments.{integer_arguments, text_arguments}
use Rattle.xdm_items.specs.FunctionArguments.Arguments.{optional_atom_argument}
use Rattle.text_operations.specs.Positions.{count_before}
use Rattle.text_functions.specs.Joins.{separated, joined, text_or_empty, argument_text, in_front}
use Rattle.text_functions.specs.Joins.{in_turn}
use Rattle.text_functions.specs.TextFunctions.{with_text, with_texts, string_of, character}
use Rattle.text_functions.specs.TextFunctions.{no_character, character_of}
use Rattle.text_functions.specs.TextFunctions.{one_character, codepoints_to_string_of, as_integer}
use Rattle.text_functions.specs.TextFunctions.{string_to_codepoints_of, with_optional_texts}
use Rattle.text_functions.specs.TextFunctions.{compare_of, codepoint_equal_of, concat_of}
use Rattle.text_functions.specs.TextFunctions.{string_join_of, substring_of, substring_for_of}
use Rattle.text_functions.specs.TextFunctions.{string_length_of, normalize_space_of, translate_of}
use Rattle.text_functions.specs.TextFunctions.{contains_of, starts_with_of, ends_with_of}
use Rattle.text_functions.specs.TextFunctions.{substring_before_of, substring_after_of}
use Rattle.expr_meaning.specs.Outcomes.Outcome.{Every}
use Rattle.expr_laws.specs.Carrier.{OnValue}
use Rattle.meaning_laws.proofs.SoundValues.Lists.{OnSome}
use Rattle.meaning_laws.proofs.SoundValues.Texts.{IsXml, IsChar, no_text, xml_append, xml_take, xml_drop}
use Rattle.meaning_laws.proofs.SoundValues.Texts.{text_of_chars, xml_normalized, xml_translated, xml_before}
use Rattle.meaning_laws.proofs.SoundValues.Texts.{xml_after}
use Rattle.meaning_laws.proofs.SoundValues.Trees.{IsSoundAtom, atom_text, value_text}
use Rattle.meaning_laws.proofs.SoundValues.Arguments.{AllSound, then_known, then_any, text_given}
use Rattle.meaning_laws.proofs.SoundValues.Arguments.{text_or_empty_given, optional_atom_given, texts_given}

abbrev pub IsGood : Result (List Item) Code → Type 0
IsGood r = OnValue AllSound r

-- one text, and two
with_known : (a : List Item) → AllSound a → (f : List ℕ → Result (List Item) Code) →
    ((t : List ℕ) → IsXml t → IsGood (f t)) → IsGood (with_text a f)
with_known a h f g =
    then_known IsXml AllSound (text_or_empty_argument a) f (text_or_empty_given a h) g

with_two : (a b : List Item) → AllSound a → AllSound b →
    (f : List ℕ → List ℕ → Result (List Item) Code) →
    ((s t : List ℕ) → IsXml s → IsXml t → IsGood (f s t)) → IsGood (with_texts a b f)
with_two a b h k f g =
    then_known IsXml AllSound (text_or_empty_argument a) _ (text_or_empty_given a h) (λ s p.
    then_known IsXml AllSound (text_or_empty_argument b) _ (text_or_empty_given b k) (λ t q.
    g s t p q))

pub string_known : (a : List Item) → AllSound a → IsGood (string_of a)
unfolding string_of
string_known [] h = (no_text, tt)
string_known (x ∷ []) h = (value_text x h.0, tt)
string_known (x ∷ y ∷ rest) h = tt

-- texts in turn
front_known : (r q : Result (List ℕ) Code) → OnValue IsXml r → OnValue IsXml q →
    OnValue IsXml (in_front r q)
front_known (Ok t) (Ok u) h g = xml_append t u h g
front_known (Ok t) (Err code) h g = tt
front_known (Err code) q h g = tt

turn_known : {X : Type 0} (P : X → Type 0) (f : X → Result (List ℕ) Code) →
    ((x : X) → P x → OnValue IsXml (f x)) → (xs : List X) → Every P xs →
    OnValue IsXml (in_turn f xs)
unfolding in_turn
turn_known P f g [] h = no_text
turn_known P f g (x ∷ xs) h = front_known (f x) (in_turn f xs) (g x h.0) (turn_known P f g xs h.1)

text_listed : (r : Result (List ℕ) Code) → OnValue IsXml r →
    IsGood (and_then r (λ text. Ok (of_text text)))
text_listed (Ok t) h = (h, tt)
text_listed (Err code) h = tt

-- a number becomes a character of XML, or it is refused
number_known : (n : ℕ) → OnValue IsChar (character n)
number_known n = by (is_in_ranges xml_char_ranges n) refl
  where
    by : (b : Bool) → is_in_ranges xml_char_ranges n ≡ b →
        OnValue IsChar (if b then Ok n else Err no_character)
    by true e = e
    by false e = tt

character_known : (x : Item) → OnValue IsChar (character_of x)
character_known (Atom (atom.Int (pos n))) = number_known n
character_known (Atom (atom.Int (negsuc n))) = tt
character_known (Atom (atom.Str t)) = tt
character_known (Atom (atom.Untyped t)) = tt
character_known (Atom (atom.Bool t)) = tt
character_known (Atom (atom.QName n)) = tt
character_known (Node n) = tt

one_known : (x : Item) → OnValue IsXml (one_character x)
one_known x =
    then_known IsChar IsXml (character_of x) _ (character_known x)
    (λ c h. text_of_chars (c ∷ []) (h, tt))

all_known : (xs : List Item) → OnValue IsXml (in_turn one_character xs)
unfolding in_turn
all_known [] = no_text
all_known (x ∷ xs) =
    front_known (one_character x) (in_turn one_character xs) (one_known x) (all_known xs)

pub codepoints_known : (a : List Item) → IsGood (codepoints_to_string_of a)
unfolding codepoints_to_string_of
codepoints_known a =
    then_any AllSound (integer_arguments a) _ (λ numbers.
    text_listed (in_turn one_character numbers) (all_known numbers))

as_integers : (t : List ℕ) → AllSound (map as_integer t)
as_integers [] = tt
as_integers (c ∷ cs) = (refl, as_integers cs)

pub to_codepoints_known : (a : List Item) → AllSound a → IsGood (string_to_codepoints_of a)
unfolding string_to_codepoints_of
to_codepoints_known a h = with_known a h _ (λ t g. as_integers t)

-- two texts, each of which may be none
either_none : (h : Option (List ℕ) → Option (List ℕ) → List Item) →
    ((t : Option (List ℕ)) → AllSound (h None t)) → ((s : List ℕ) → AllSound (h (Some s) None)) →
    ((s t : List ℕ) → AllSound (h (Some s) (Some t))) → (s t : Option (List ℕ)) → AllSound (h s t)
either_none h none one two None t = none t
either_none h none one two (Some s) None = one s
either_none h none one two (Some s) (Some t) = two s t

two_given : (r q : Result (Option (List ℕ)) Code)
    (h : Option (List ℕ) → Option (List ℕ) → List Item) →
    ((s t : Option (List ℕ)) → AllSound (h s t)) →
    IsGood (and_then r (λ s. and_then q (λ t. Ok (h s t))))
two_given r q h g = then_any AllSound r _ (λ s. then_any AllSound q _ (λ t. g s t))

optional_both : (a b : List Item) (f : List ℕ → List ℕ → List Item) →
    ((s t : List ℕ) → AllSound (f s t)) → IsGood (with_optional_texts a b f)
optional_both a b f g =
    two_given (optional_text_argument a) (optional_text_argument b) _
    (either_none _ (λ t. tt) (λ s. tt) g)

pub compare_known : (a b : List Item) → IsGood (compare_of a b)
unfolding compare_of
compare_known a b = optional_both a b _ (λ s t. (refl, tt))

pub equal_known : (a b : List Item) → IsGood (codepoint_equal_of a b)
unfolding codepoint_equal_of
equal_known a b = optional_both a b _ (λ s t. (refl, tt))

or_empty_text : (o : Option AtomValue) → OnSome IsSoundAtom o → IsXml (text_or_empty o)
or_empty_text None h = no_text
or_empty_text (Some a) h = atom_text a h

argument_texts : (a : List Item) → AllSound a → OnValue IsXml (argument_text a)
argument_texts a h =
    then_known (OnSome IsSoundAtom) IsXml (optional_atom_argument a) _ (optional_atom_given a h)
    or_empty_text

pub concat_known : (args : List (List Item)) → Every AllSound args → IsGood (concat_of args)
unfolding concat_of
concat_known args h =
    text_listed (in_turn argument_text args)
    (turn_known AllSound argument_text argument_texts args h)

separated_known : (s : List ℕ) (xs : List Item) → IsXml s → AllSound xs → IsXml (separated s xs)
unfolding separated
separated_known s [] g h = no_text
separated_known s (x ∷ xs) g h =
    xml_append (s ++ string_value_of x) (separated s xs)
    (xml_append s (string_value_of x) g (value_text x h.0)) (separated_known s xs g h.1)

joined_known : (s : List ℕ) (xs : List Item) → IsXml s → AllSound xs → IsXml (joined s xs)
unfolding joined
joined_known s [] g h = no_text
joined_known s (x ∷ xs) g h =
    xml_append (string_value_of x) (separated s xs) (value_text x h.0)
    (separated_known s xs g h.1)

pub join_known : (a b : List Item) → AllSound a → AllSound b → IsGood (string_join_of a b)
unfolding string_join_of
join_known a b h k =
    then_known AllSound AllSound (text_arguments a) _ (texts_given a h) (λ ts g.
    then_known IsXml AllSound (text_argument b) _ (text_given b k) (λ s f.
    (joined_known s ts f g, tt)))

pub substring_known : (a b : List Item) → AllSound a → IsGood (substring_of a b)
unfolding substring_of
substring_known a b h =
    with_known a h _ (λ t g. then_any AllSound (integer_argument b) _ (λ start.
    (xml_drop (count_before start) t g, tt)))

pub substring_for_known : (a b c : List Item) → AllSound a → IsGood (substring_for_of a b c)
unfolding substring_for_of
substring_for_known a b c h =
    with_known a h _ (λ t g. then_any AllSound (integer_argument b) _ (λ start.
    then_any AllSound (integer_argument c) _ (λ long. (
      xml_drop (count_before start) (take (count_before (start +ℤ long)) t)
          (xml_take (count_before (start +ℤ long)) t g),
      tt,
    ))))

pub length_known : (a : List Item) → AllSound a → IsGood (string_length_of a)
unfolding string_length_of
length_known a h = with_known a h _ (λ t g. (refl, tt))

pub normalize_known : (a : List Item) → AllSound a → IsGood (normalize_space_of a)
unfolding normalize_space_of
normalize_known a h = with_known a h _ (λ t g. (xml_normalized t g, tt))

pub translate_known : (a b c : List Item) → AllSound a → AllSound b → AllSound c →
    IsGood (translate_of a b c)
unfolding translate_of
translate_known a b c h k l =
    with_known a h _ (λ t g.
    then_any AllSound (text_argument b) _ (λ from.
    then_known IsXml AllSound (text_argument c) _ (text_given c l) (λ to e.
    (xml_translated from to t e g, tt))))

pub contains_known : (a b : List Item) → AllSound a → AllSound b → IsGood (contains_of a b)
unfolding contains_of
contains_known a b h k = with_two a b h k _ (λ s t g f. (refl, tt))

pub starts_known : (a b : List Item) → AllSound a → AllSound b → IsGood (starts_with_of a b)
unfolding starts_with_of
starts_known a b h k = with_two a b h k _ (λ s t g f. (refl, tt))

pub ends_known : (a b : List Item) → AllSound a → AllSound b → IsGood (ends_with_of a b)
unfolding ends_with_of
ends_known a b h k = with_two a b h k _ (λ s t g f. (refl, tt))

pub before_known : (a b : List Item) → AllSound a → AllSound b → IsGood (substring_before_of a b)
unfolding substring_before_of
before_known a b h k = with_two a b h k _ (λ s t g f. (xml_before t s g, tt))

pub after_known : (a b : List Item) → AllSound a → AllSound b → IsGood (substring_after_of a b)
unfolding substring_after_of
after_known a b h k = with_two a b h k _ (λ s t g f. (xml_after t s g, tt))
