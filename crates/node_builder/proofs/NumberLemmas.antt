-- Trees with their numbers.
use Rattle.std.proofs.Common.{◌≡◌, ℕ, ◌+◌, true, false, refl, ap, sym, ◌∙◌, subst}
use Rattle.std.proofs.lemmas.Bool.{ne_eqb}
use Rattle.std.specs.Prelude.{Result, Ok, Err}
use Rattle.xt_names.specs.declared.codes.Code.TheVariants.{Dynamic}
use Rattle.xt_names.specs.declared.codes.DynamicCode.TheVariants.{XTLM0001, XTLM0002}
use Rattle.xt_tree.specs.Place.{Place}
use Rattle.xt_tree.specs.declared.trees.Tree.{Tree}
use Rattle.node_builder.specs.Made.{Made, Gives, Fails, made_then}
use Rattle.node_builder.specs.Trees.{numbered, limited, is_within_limits}
use Rattle.node_builder.specs.Answers.{IsFaultOf, Makes, IsNewRoot, IsRefused, root_place}
use Rattle.node_builder.specs.declared.faults.BuildFault.{BuildFault}
use Rattle.node_builder.specs.declared.faults.BuildFault.TheVariants.{Error}
use Rattle.node_builder.proofs.Passes.{fault_first, fault_along}

pub used_up : (next new : ℕ) (o : Made Tree) → next ≡ 0xFFFF_FFFF_FFFF_FFFF → new ≡ next → IsRefused next new (Error (Dynamic XTLM0001)) (numbered next o)
unfolding numbered
used_up next new o e n = record { cause = rw e refl; kept = n }

with_number : (next : ℕ) (o : Made Tree) → (next ≡ 0xFFFF_FFFF_FFFF_FFFF → ⊥) → numbered next o ≡ made_then o limited
unfolding numbered
with_number next o e = rw (ne_eqb next 0xFFFF_FFFF_FFFF_FFFF e) refl

past_limits : (t : Tree) → is_within_limits t ≡ false → limited t ≡ Fails (Dynamic XTLM0002)
unfolding limited
past_limits t e = rw e refl

within_limits : (t : Tree) → is_within_limits t ≡ true → limited t ≡ Gives t
unfolding limited
within_limits t e = rw e refl

-- what is made, with a number
made_numbered : (next : ℕ) (made : Result Tree BuildFault) (o : Made Tree) (t : Tree) → (next ≡ 0xFFFF_FFFF_FFFF_FFFF → ⊥) → made ≡ Ok t → Makes made o → numbered next o ≡ limited t
made_numbered next made o t e m h =
    let g : o ≡ Gives t = subst (λ r. Makes r o) m h in with_number next o e ∙ ap (λ p. made_then p limited) g

-- nothing is made
pub not_made : (f : BuildFault) (next new : ℕ) (made : Result Tree BuildFault) (o : Made Tree) → (next ≡ 0xFFFF_FFFF_FFFF_FFFF → ⊥) → made ≡ Err f → new ≡ next → Makes made o → IsRefused next new f (numbered next o)
not_made f next new made o e m n h =
    let g : IsFaultOf f o = subst (λ r. Makes r o) m h in
    record { cause = fault_along f (numbered next o) _ (with_number next o e) (fault_first f o limited g); kept = n }

pub too_large : (next new : ℕ) (made : Result Tree BuildFault) (o : Made Tree) (t : Tree) → (next ≡ 0xFFFF_FFFF_FFFF_FFFF → ⊥) → made ≡ Ok t → new ≡ next → is_within_limits t ≡ false → Makes made o
    → IsRefused next new (Error (Dynamic XTLM0002)) (numbered next o)
too_large next new made o t e m n p h = record { cause = made_numbered next made o t e m h ∙ past_limits t p; kept = n }

pub new_root : (next new : ℕ) (made : Result Tree BuildFault) (o : Made Tree) (t : Tree) (node : Place) → (next ≡ 0xFFFF_FFFF_FFFF_FFFF → ⊥) → made ≡ Ok t → is_within_limits t ≡ true → node ≡ root_place next t → new ≡ next + 1 → Makes made o
    → IsNewRoot next new node (numbered next o)
new_root next new made o t node e m p r n h =
    let tree_is : node.tree ≡ t = ap (λ q. q.tree) r in
    record { made = made_numbered next made o t e m h ∙ within_limits t p ∙ ap Gives (sym tree_is); root = r ∙ ap (root_place next) (sym tree_is); raised = n }
