-- Characters and string values.
use Rattle.std.proofs.Common.{◌≡◌, ◌<◌, ℕ, List, [], Bool, false, ◌&&◌, nat_le, Option, Some, None, option_map, Result, Ok, Err, IfOk, refl, ap, ◌∙◌, arith, inl, inr}
use Rattle.std.proofs.lemmas.Bool.{lt-leb}
use Rattle.std.proofs.Math.Bool.{and-false}
use Rattle.std.specs.Char.{OutOfScalarRange}
use Rattle.xt_names.specs.Classes.{is_in_ranges, xml_char_ranges}
use Rattle.xt_tree.specs.TreeView as tree_view
use Rattle.xt_tree.specs.declared.trees.Tree.{Tree}
use Rattle.xdm_items.specs.Values.{string_value_below}
use Rattle.std.proofs.lemmas.Str.{chars-nil}
use Rattle.std.specs.Str.{chars}

-- the string value of a node
pub node_string : {E : Type 0} (r : Result (List ℕ) E) (o : Option Tree) → IfOk r (λ t. option_map tree_view.string_value_of o ≡ Some t) → IfOk r (λ t. t ≡ string_value_below o)
node_string (Ok t) None h = cc
node_string (Ok t) (Some x) h = cc
node_string (Err e) o h = tt

above : (n lo hi : ℕ) → hi < n → (nat_le lo n && nat_le n hi) ≡ false
above n lo hi h = ap (λ (b : Bool). nat_le lo n && b) (lt-leb n hi h) ∙ and-false (nat_le lo n)

below : (n lo hi : ℕ) → n < lo → (nat_le lo n && nat_le n hi) ≡ false
below n lo hi h = ap (λ (b : Bool). b && nat_le n hi) (lt-leb lo n h)

-- what is no Unicode scalar value is no character of XML
pub no_xml_character : (n : ℕ) → OutOfScalarRange n → is_in_ranges xml_char_ranges n ≡ false
unfolding is_in_ranges
no_xml_character n (inl h) =
    let low = h.0 in
    let high = h.1 in
    rw (above n 0x9 0x9 (omega arith), above n 0xA 0xA (omega arith), above n 0xD 0xD (omega arith), above n 0x20 0xD7FF (omega arith), below n 0xE000 0xFFFD (omega arith), below n 0x1_0000 0x10_FFFF (omega arith)) refl
no_xml_character n (inr h) =
    rw (above n 0x9 0x9 (omega arith), above n 0xA 0xA (omega arith), above n 0xD 0xD (omega arith), above n 0x20 0xD7FF (omega arith), above n 0xE000 0xFFFD (omega arith), above n 0x1_0000 0x10_FFFF (omega arith)) refl

pub no_chars : chars [] ≡ []
no_chars = chars-nil
