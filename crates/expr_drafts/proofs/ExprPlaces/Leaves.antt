-- Names and types: how tightly what they stand in binds, and that it ends in no type.
use Rattle.std.proofs.Common.{◌≡◌, ◌+◌, ◌<◌, ℕ, zero, suc, Bool, false, List, [], ◌∷◌, length}
use Rattle.std.proofs.Common.{get_or, map, Option, Some, None, refl, arith}
use Rattle.xt_names.specs.declared.kinds.AtomType.{AtomType}
use Rattle.xt_names.specs.declared.names.ExprName.{ExprName}
use Rattle.xt_syntax.specs.declared.prefixes.Prefixes.{Prefixes}
use Rattle.expr_keys.specs.declared.keys.Key.{Key}
use Rattle.expr_keys.specs.declared.keys.Key.TheVariants as key
use Rattle.expr_keys.specs.declared.tokens.Token.{Token}
use Rattle.expr_keys.specs.declared.productions.Level.{Level}
use Rattle.expr_raws.specs.PathRaws.Forms.{Form, below, single, ends_unmarked}
use Rattle.expr_raws.specs.PathRaws.Paths.{with_token, variable, variable_with, call, call_with}
use Rattle.expr_raws.specs.ControlRaws.Operators.{listed, many, last_unmarked}
use Rattle.expr_raws.specs.ControlRaws.Types.{single_form, single_with}
use Rattle.expr_raws.specs.ElementRaws.Makers.{NameForm, fixed, computed, element, attribute, instruction}
use Rattle.expr_raws.specs.ElementRaws.Makers.{given, given_pi}
use Rattle.expr_drafts.specs.ExprPlaces.Forms.{last_of_more}

-- what stands in the place of a token that may be missing
record Primary (f : Form) : Type 0 where
  place : f.place ≡ 0
  unmarked : f.unmarked ≡ false

with_primary : (o : Option Token) (f : Token → Form) → ((t : Token) → Primary (f t))
    → Primary (with_token o f)
with_primary None f h = record { place = refl; unmarked = refl }
with_primary (Some t) f h = h t

variable_is : (p : Prefixes) (n : ExprName) → Primary (variable p n)
variable_is p n = with_primary _ variable_with (λ t. record { place = refl; unmarked = refl })

call_is : (p : Prefixes) (n : ExprName) (fs : List Form) → Primary (call p n fs)
call_is p n fs = with_primary _ (call_with n fs) (λ t. record { place = refl; unmarked = refl })

element_is : (p : Prefixes) (n : NameForm) (c : Form) → Primary (element p n c)
element_is p (fixed n) c = with_primary _ (given key.ElementWord c)
    (λ t. record { place = refl; unmarked = refl })
element_is p (computed f) c = record { place = refl; unmarked = refl }

attribute_is : (p : Prefixes) (n : NameForm) (c : Form) → Primary (attribute p n c)
attribute_is p (fixed n) c = with_primary _ (given key.AttributeWord c)
    (λ t. record { place = refl; unmarked = refl })
attribute_is p (computed f) c = record { place = refl; unmarked = refl }

instruction_is : (p : Prefixes) (n : NameForm) (c : Form) → Primary (instruction p n c)
instruction_is p (fixed n) c = with_primary _ (given_pi c)
    (λ t. record { place = refl; unmarked = refl })
instruction_is p (computed f) c = record { place = refl; unmarked = refl }

single_is : (p : Prefixes) (k : AtomType) (empty : Bool) → Primary (single_form p k empty)
single_is p k empty = with_primary _ (single_with empty)
    (λ t. record { place = refl; unmarked = refl })

pub variable_place : (p : Prefixes) (n : ExprName) → (variable p n).place ≡ 0
variable_place p n = (variable_is p n).place

pub call_place : (p : Prefixes) (n : ExprName) (fs : List Form) → (call p n fs).place ≡ 0
call_place p n fs = (call_is p n fs).place

pub element_place : (p : Prefixes) (n : NameForm) (c : Form) → (element p n c).place ≡ 0
element_place p n c = (element_is p n c).place

pub attribute_place : (p : Prefixes) (n : NameForm) (c : Form) → (attribute p n c).place ≡ 0
attribute_place p n c = (attribute_is p n c).place

pub instruction_place : (p : Prefixes) (n : NameForm) (c : Form)
    → (instruction p n c).place ≡ 0
instruction_place p n c = (instruction_is p n c).place

pub ruleset places = (
  variable_place,
  call_place,
  element_place,
  attribute_place,
  instruction_place,
)

pub variable_unmarked : (p : Prefixes) (n : ExprName) → (variable p n).unmarked ≡ false
variable_unmarked p n = (variable_is p n).unmarked

pub call_unmarked : (p : Prefixes) (n : ExprName) (fs : List Form)
    → (call p n fs).unmarked ≡ false
call_unmarked p n fs = (call_is p n fs).unmarked

pub element_unmarked : (p : Prefixes) (n : NameForm) (c : Form)
    → (element p n c).unmarked ≡ false
element_unmarked p n c = (element_is p n c).unmarked

pub attribute_unmarked : (p : Prefixes) (n : NameForm) (c : Form)
    → (attribute p n c).unmarked ≡ false
attribute_unmarked p n c = (attribute_is p n c).unmarked

pub instruction_unmarked : (p : Prefixes) (n : NameForm) (c : Form)
    → (instruction p n c).unmarked ≡ false
instruction_unmarked p n c = (instruction_is p n c).unmarked

pub single_unmarked : (p : Prefixes) (k : AtomType) (empty : Bool)
    → (single_form p k empty).unmarked ≡ false
single_unmarked p k empty = (single_is p k empty).unmarked

more_last : (n : ℕ) (a b : Form) (fs : List Form)
    → last_unmarked n (b ∷ fs) ≡ last_of_more n (a ∷ b ∷ fs)
more_last n a b [] = refl
more_last n a b (c ∷ fs) = more_last n b c fs

pub listed_unmarked : (fs : List Form) → (listed fs).unmarked ≡ last_of_more single fs
listed_unmarked [] = refl
listed_unmarked (a ∷ []) = refl
listed_unmarked (a ∷ b ∷ fs) = more_last single a b fs

pub many_unmarked : (l : Level) (k : Key) (fs : List Form)
    → (many l k fs).unmarked ≡ last_of_more (below l) fs
many_unmarked l k [] = refl
many_unmarked l k (a ∷ []) = refl
many_unmarked l k (a ∷ b ∷ fs) = more_last (below l) a b fs

-- the last of two or more
pub last_at : {A : Type 0} (f : A → Form) (n i : ℕ) (xs : List A) (d : A) → i + 1 ≡ length xs
    → 0 < i → last_of_more n (map f xs) ≡ ends_unmarked n (f (get_or xs i d))
last_at f n i [] d e o = absurd (omega arith)
last_at f n i (a ∷ []) d e o = absurd (omega arith)
last_at f n zero (a ∷ b ∷ xs) d e o = absurd (omega arith)
last_at f n (suc zero) (a ∷ b ∷ []) d e o = refl
last_at f n (suc (suc i)) (a ∷ b ∷ []) d e o = absurd (omega arith)
last_at f n (suc zero) (a ∷ b ∷ c ∷ xs) d e o = absurd (omega arith)
last_at f n (suc (suc i)) (a ∷ b ∷ c ∷ xs) d e o =
    last_at f n (suc i) (b ∷ c ∷ xs) d (omega arith) (omega arith)

pub ruleset unmarked = (
  variable_unmarked,
  call_unmarked,
  element_unmarked,
  attribute_unmarked,
  instruction_unmarked,
  single_unmarked,
  listed_unmarked,
  many_unmarked,
)
