-- Texts one after another (XQuery 1.0 and XPath 2.0 Functions and Operators, 7.4.1 and 7.4.2).
use Rattle.std.specs.Prelude.{◌≡◌, ℕ, ◌==◌, if◌then◌else◌, List, [], ◌∷◌, ◌++◌, Option, Some, None, Result, Ok, Err}
use Rattle.xt_names.specs.declared.codes.Code.{Code}
use Rattle.xt_atoms.specs.AtomTexts.{text_of}
use Rattle.xt_atoms.specs.declared.atoms.Atom.{Atom as AtomValue}
use Rattle.xt_atoms.specs.declared.faults.ValueFault.{ValueFault}
use Rattle.xt_atoms.specs.declared.faults.ValueFault.TheVariants.{Error, Memory}
use Rattle.xdm_items.specs.Values.{string_value_of}
use Rattle.xdm_items.specs.declared.items.Item.{Item}
use Rattle.xdm_items.specs.FunctionArguments.Arguments.{and_then, optional_atom_argument}

-- the string values of the items, each with the separator in front
unfoldable pub separated : List ℕ → List Item → List ℕ
separated separator [] = []
separated separator (item ∷ items) = separator ++ string_value_of item ++ separated separator items

-- the same without the first separator
unfoldable pub joined : List ℕ → List Item → List ℕ
joined separator [] = []
joined separator (item ∷ items) = string_value_of item ++ separated separator items

-- the text of an atom, and the empty text where there is none
abbrev pub text_or_empty : Option AtomValue → List ℕ
text_or_empty None = []
text_or_empty (Some a) = text_of a

-- the text of one argument
abbrev pub argument_text : List Item → Result (List ℕ) Code
argument_text argument = and_then (optional_atom_argument argument) (λ a. Ok (text_or_empty a))

abbrev pub in_front : Result (List ℕ) Code → Result (List ℕ) Code → Result (List ℕ) Code
in_front (Ok text) (Ok rest) = Ok (text ++ rest)
in_front (Ok text) (Err code) = Err code
in_front (Err code) rest = Err code

-- the texts that each gives in turn; the first error decides
unfoldable pub in_turn : {X : Type 0} → (X → Result (List ℕ) Code) → List X → Result (List ℕ) Code
in_turn f [] = Ok []
in_turn f (x ∷ xs) = in_front (f x) (in_turn f xs)

-- what one more item adds at its place, from 0
abbrev pub added : List ℕ → ℕ → Item → List ℕ
added separator place item = if place == 0 then string_value_of item else separator ++ string_value_of item

-- a call puts the text at the end, or answers this error, unless memory runs out
abbrev pub Puts : Result (List ℕ) Code → List ℕ → List ℕ → Result (Unit {0}) ValueFault → Type 0
Puts o old new (Ok u) = (text : List ℕ) × (o ≡ Ok text) × (new ≡ old ++ text)
Puts o old new (Err (Error code)) = o ≡ Err code
Puts o old new (Err (Memory e)) = Unit {0}
