-- Names that are found the same are the same, and what is in a set with one more of them.
use Rattle.std.proofs.Common.{◌≡◌, ℕ, List, Bool, true, false, ◌||◌, refl, ap, ◌∙◌, nat_eq}
use Rattle.std.proofs.lemmas.Bool.{and_parts}
use Rattle.std.proofs.lemmas.Bool.Decides.{Decides-eqb}
use Rattle.xt_names.specs.declared.names.ExprName.{ExprName}
use Rattle.name_rules.specs.declared.functions.Signature.{Signature}
use Rattle.name_rules.specs.Scopes.{same_signature, signature}
use Rattle.xt_names.proofs.NameLemmas.{same_names}
use Rattle.xt_names.specs.ExprNames.{same_name}

abbrev named : List ℕ → List ℕ → ExprName
named uri local = record { uri = uri; local = local }

pub same_signature_is : (a b : Signature) → same_signature a b ≡ true → a ≡ b
same_signature_is a b h =
    let t = and_parts (same_name a.name b.name) (nat_eq a.arity b.arity) h in
    let n : a.name ≡ b.name = same_names a.name b.name t.0 in
    let k : a.arity ≡ b.arity = (Decides-eqb a.arity b.arity).0 t.1 in
    ap (λ (name : ExprName). signature name a.arity) n ∙ ap (λ (arity : ℕ). signature b.name arity) k

-- in a set with one more: one of the set, or the one more
pub swap_or : (p q : Bool) → (p || (q || false)) ≡ (q || p)
swap_or true true = refl
swap_or true false = refl
swap_or false true = refl
swap_or false false = refl

pub absorbed : (p q : Bool) → (q ≡ true → p ≡ true) → p ≡ (q || p)
absorbed true true h = refl
absorbed true false h = refl
absorbed false true h = h refl
absorbed false false h = refl
