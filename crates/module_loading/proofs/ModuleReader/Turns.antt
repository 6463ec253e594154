-- One more child of the root.
use Rattle.std.proofs.Common.{◌≡◌, ◌≤◌, ◌-◌, Bool, false, List, [], ◌∷◌, ◌++◌, length, take, drop}
use Rattle.std.proofs.Common.{get_or, Result, Ok, sym, ap, ◌∙◌, append_assoc}
use Rattle.xt_names.specs.declared.codes.Code.{Code}
use Rattle.expr_names.specs.Answers.{Answers}
use Rattle.expr_names.specs.declared.fault.ResolveFault.{ResolveFault}
use Rattle.sheet_table.specs.declared.sheet_nodes.nodes.Node.{Node}
use Rattle.sheet_values.specs.declared.sheet_texts.places.StaticContext.{StaticContext}
use Rattle.sheet_values.specs.SheetTexts.Readings.{Reading}
use Rattle.sheet_modules.specs.declared.modules.Part.{Part}
use Rattle.sheet_parts.specs.Tops.{top_value}
use Rattle.module_loading.specs.ModuleReader.Modules.{is_late, placed_faults, tops_faults, tops_value}
use Rattle.xt_names.proofs.ListLemmas.{first_of}

module _ {E P : Type 0} (r : Reading E P) (p : StaticContext) where
  pub turn_faults : (late next : Bool) (n : Node) (left nodes : List Node)
      (one : Result (Part E P) ResolveFault) (made new : List (Part E P))
      → 1 ≤ length left → n ≡ get_or left 0 n → next ≡ is_late late n
      → Answers one (placed_faults r p late n) (top_value r p n)
      → ((faults : List Code) (a : Part E P) → Answers one faults a
      → Answers (Ok new) faults (made ++ a ∷ []))
      → tops_faults r p late left ≡ tops_faults r p false nodes
      → tops_faults r p next (take (length left - 1) (drop 1 left)) ≡ tops_faults r p false nodes
  turn_faults late next n left nodes one made new some is then_late answers more h =
      let rest : List Node = take (length left - 1) (drop 1 left) in
      let none = (more (placed_faults r p late n) (top_value r p n) answers).0 in
      ap (λ (b : Bool). tops_faults r p b rest) then_late
      ∙ (ap (λ (cs : List Code). cs ++ tops_faults r p (is_late late n) rest) (sym none)
      ∙ (ap (tops_faults r p late) (sym (first_of left n some is)) ∙ h))

  pub turn_value : (late : Bool) (n : Node) (left nodes : List Node)
      (one : Result (Part E P) ResolveFault) (made new : List (Part E P))
      → 1 ≤ length left → n ≡ get_or left 0 n
      → Answers one (placed_faults r p late n) (top_value r p n)
      → ((faults : List Code) (a : Part E P) → Answers one faults a
      → Answers (Ok new) faults (made ++ a ∷ []))
      → made ++ tops_value r p left ≡ tops_value r p nodes
      → new ++ tops_value r p (take (length left - 1) (drop 1 left)) ≡ tops_value r p nodes
  turn_value late n left nodes one made new some is answers more h =
      let rest : List Node = take (length left - 1) (drop 1 left) in
      let same = (more (placed_faults r p late n) (top_value r p n) answers).1 in
      ap (λ (xs : List (Part E P)). xs ++ tops_value r p rest) same
      ∙ (append_assoc made (top_value r p n ∷ []) (tops_value r p rest)
      ∙ (ap (λ (ns : List Node). made ++ tops_value r p ns) (sym (first_of left n some is)) ∙ h))
