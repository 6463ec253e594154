-- Keys are equal where atoms are the same key.
use Rattle.std.proofs.Common.{◌≡◌, Bool, refl, sym, ◌∙◌}
use Rattle.std.specs.Cmp.{IsEquivalence}
use Rattle.xt_atoms.specs.Keys.{key_same}
use Rattle.xt_atoms.specs.Comparisons.{same_name}
use Rattle.xt_atoms.specs.declared.atoms.Atom.{Atom}
use Rattle.xt_atoms.specs.declared.atoms.Atom.TheVariants as atom
use Rattle.order_group.specs.AtomKeys.Keys.{key_of}
use Rattle.order_group.specs.declared.atom_keys.keys.AtomKey.{AtomKey}
use Rattle.order_group.specs.contracts.atom_keys.keys.AtomKeyPartialEq.TheImpl as derived
use Rattle.order_group.specs.contracts.atom_keys.keys.AtomKeyEq.TheImpl.Laws.{laws-law}

-- the equality of keys
abbrev pub key_eq : AtomKey → AtomKey → Bool
key_eq = (derived.ghosts).eq

pub keys_agree : (a b : Atom) → key_eq (key_of a) (key_of b) ≡ key_same a b
unfolding key_of key_same same_name
keys_agree (atom.Str a) (atom.Str b) = refl
keys_agree (atom.Str a) (atom.Untyped b) = refl
keys_agree (atom.Untyped a) (atom.Str b) = refl
keys_agree (atom.Untyped a) (atom.Untyped b) = refl
keys_agree (atom.Int a) (atom.Int b) = refl
keys_agree (atom.Bool a) (atom.Bool b) = refl
keys_agree (atom.QName a) (atom.QName b) = refl
keys_agree (atom.Str a) (atom.Int b) = refl
keys_agree (atom.Str a) (atom.Bool b) = refl
keys_agree (atom.Str a) (atom.QName b) = refl
keys_agree (atom.Untyped a) (atom.Int b) = refl
keys_agree (atom.Untyped a) (atom.Bool b) = refl
keys_agree (atom.Untyped a) (atom.QName b) = refl
keys_agree (atom.Int a) (atom.Str b) = refl
keys_agree (atom.Int a) (atom.Untyped b) = refl
keys_agree (atom.Int a) (atom.Bool b) = refl
keys_agree (atom.Int a) (atom.QName b) = refl
keys_agree (atom.Bool a) (atom.Str b) = refl
keys_agree (atom.Bool a) (atom.Untyped b) = refl
keys_agree (atom.Bool a) (atom.Int b) = refl
keys_agree (atom.Bool a) (atom.QName b) = refl
keys_agree (atom.QName a) (atom.Str b) = refl
keys_agree (atom.QName a) (atom.Untyped b) = refl
keys_agree (atom.QName a) (atom.Int b) = refl
keys_agree (atom.QName a) (atom.Bool b) = refl

-- to be the same key is an equivalence
pub same_key_laws : IsEquivalence key_same
same_key_laws = record {
  refl = λ a. sym (keys_agree a a) ∙ laws-law.refl (key_of a);
  symm = λ a b. sym (keys_agree a b) ∙ laws-law.symm (key_of a) (key_of b) ∙ keys_agree b a;
  congr = λ a b c h. sym (keys_agree a c) ∙ laws-law.congr (key_of a) (key_of b) (key_of c) (keys_agree a b ∙ h) ∙ keys_agree b c;
}
