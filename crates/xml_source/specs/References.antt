-- A reading of a reference alone.
use Rattle.std.specs.Prelude.{⊤, ℕ, Option, None, List, [], ◌∷◌, Bool, ◌||◌, ◌==◌, if◌then◌else◌}
use Rattle.doc_grammar.specs.Characters.{Base, decimal, hexadecimal, digit}
use Rattle.doc_grammar.specs.Lexing.{Ref, RefStep, on, stands_for, fails, hash, hash_x, ref_step}
use Rattle.doc_grammar.specs.Machine.{Stop, entity, other, stop_in_ref}
use Rattle.xml_source.specs.declared.references.Base as code
use Rattle.xml_source.specs.declared.references.Base.TheVariants.{Decimal, Hexadecimal}
use Rattle.xt_names.specs.Characters.{is_name_char, NotNext}

-- it stands for a character, and this is after it; or it stops before the rest
pub data RefEnd : Type 0 where
  finds : ℕ → List ℕ → RefEnd
  stops : Stop → List ℕ → RefEnd

abbrev pub ref_goes : (Ref → RefEnd) → List ℕ → RefEnd → RefStep → RefEnd
ref_goes go rest stop (on r) = go r
ref_goes go rest stop (stands_for v) = finds v rest
ref_goes go rest stop fails = stop

abbrev pub ref_reads : List ℕ → Ref → RefEnd
ref_reads [] r = stops other []
ref_reads (c ∷ cs) r = ref_goes (ref_reads cs) cs (stops (stop_in_ref r c) (c ∷ cs)) (ref_step r c)

-- a reference by name stops here for that, if a character of the class comes next
abbrev pub stop_by : (ℕ → Bool) → List ℕ → Stop
stop_by p [] = other
stop_by p (c ∷ cs) = if p c then entity else other

-- a character that goes on with a name, or ends a reference
unfoldable pub is_in_entity : ℕ → Bool
is_in_entity c = is_name_char c || c == 59

abbrev pub base_view : code.Base → Base
base_view Decimal = decimal
base_view Hexadecimal = hexadecimal

-- where the first digit of a number is expected
abbrev pub before_digits : Base → Ref
before_digits decimal = hash
before_digits hexadecimal = hash_x

-- the value of the digit that comes next
abbrev pub next_digit : Base → List ℕ → Option ℕ
next_digit b [] = None
next_digit b (c ∷ cs) = digit b c

-- digits of the base begin here: after `&#` an `x` would make them hexadecimal
abbrev pub BeginsDigits : Base → List ℕ → Type 0
BeginsDigits decimal ts = NotNext 120 ts
BeginsDigits hexadecimal ts = ⊤
