-- The best rule is the last that matches.
use Rattle.std.proofs.Common.{◌≡◌, List, [], ◌∷◌, Bool, true, false, refl, ap}
use Rattle.std.specs.Prelude.{Option, Some, None, if◌then◌else◌, All}
use Rattle.std.specs.Option.{option_or}
use Rattle.std.proofs.lemmas.List.Elements.{All-nil, All-cons}
use Rattle.xt_tree.specs.declared.trees.Tree.{Tree}
use Rattle.xt_tree.specs.Forest.{Forest}
use Rattle.sheet_meaning.specs.Rules.{Template, pattern_matches, best_rule, IsBestRule}

none_yet : (t : Template) (ts : List Template) (node : Tree) (b : Bool) → pattern_matches t.pattern node ≡ b → All (λ u. pattern_matches u.pattern node ≡ false) ts → IsBestRule (t ∷ ts) node (if b then Some t.content else None)
none_yet t ts node true e rest = record { before = []; chosen = t; after = ts; parts = refl; content_is = refl; matches = e; none_after = rest }
none_yet t ts node false e rest = All-cons (λ u. pattern_matches u.pattern node ≡ false) t ts e rest

one_more : (t : Template) (ts : List Template) (node : Tree) (best other : Option Forest) → IsBestRule ts node best → ((best ≡ None) → IsBestRule (t ∷ ts) node other) → IsBestRule (t ∷ ts) node (option_or best other)
one_more t ts node None other h k = k refl
one_more t ts node (Some content) other h k =
    record { before = t ∷ h.before; chosen = h.chosen; after = h.after; parts = ap (λ us. t ∷ us) h.parts; content_is = h.content_is; matches = h.matches; none_after = h.none_after }

pub best_is_last : (ts : List Template) (node : Tree) → IsBestRule ts node (best_rule ts node)
best_is_last [] node = All-nil _
best_is_last (t ∷ ts) node =
    let h = best_is_last ts node in
    one_more t ts node (best_rule ts node) _ h (λ e. none_yet t ts node (pattern_matches t.pattern node) refl (let P : Option Forest → Type 0 = λ o. IsBestRule ts node o in rw e at h))
