-- Content by its parts, and sequences by their first instruction.
use Rattle.std.proofs.Common.{◌≡◌, ℕ, zero, suc, ◌+◌, ◌≤◌, List, [], ◌∷◌, map, Bool, true, false}
use Rattle.std.proofs.Common.{cond, not, refl, sym, subst, arith}
use Rattle.std.proofs.lemmas.Bool.{and_parts, and_from}
use Rattle.std.specs.List.{list_all}
use Rattle.xt_names.specs.declared.names.Binding.{Binding}
use Rattle.xt_syntax.specs.declared.exprs.Expr.{Expr}
use Rattle.xt_syntax.specs.declared.patterns.Pattern.{Pattern}
use Rattle.xt_tree.specs.declared.attributes.Attribute.{Attribute}
use Rattle.xt_sheets.specs.declared.instrs.Instr.{Instr}
use Rattle.closed_sheets.specs.Instrs.{is_good_instr}
use Rattle.closed_sheets.specs.Values.{is_good_binding}
use Rattle.sheet_bodies.specs.Bodies.{is_none, inner, body_value}
use Rattle.closed_sheets.specs.SheetForms.InstrNest.{Nested, nested_of, behind as levels_behind, most_behind}
use Rattle.closed_sheets.specs.SheetForms.InstrNest.{body_nest_of}
use Rattle.sheet_heads.specs.Bodied.{own_value}
use Rattle.closed_parts.specs.SheetLanguage.Language.{sheet_reading as reading}
use Rattle.sheet_table.specs.SheetNodes.Parts.{leading, behind}
use Rattle.sheet_table.specs.declared.sheet_nodes.nodes.Node.{Node}
use Rattle.sheet_table.specs.declared.elements.XslElement.{XslElement}
use Rattle.sheet_table.specs.declared.elements.XslElement.TheVariants as element
use Rattle.sheet_values.specs.SheetTexts.Places.{within, grouped}
use Rattle.sheet_values.specs.declared.sheet_texts.places.StaticContext.{StaticContext}
use Rattle.sheet_closure.specs.StandingParts.Bodies.{instr_stands}
use Rattle.closed_parts.specs.SoundNodes.Sound.{are_sound_nodes, is_sound_node}
use Rattle.closed_parts.proofs.ClosedHeads.Values.{GoodPlace}
use Rattle.closed_parts.proofs.ClosedBodies.Forms.{Instrs, ClosedInstr}
use Rattle.closed_parts.proofs.ClosedBodies.Heads.{ClosedBody, inside}
use Rattle.closed_parts.proofs.ClosedHeads.Nodes.{good_within}

-- the nodes at the front, and those after them
pub leading_sound : (test : Node → Bool) (ns : List Node) → are_sound_nodes ns ≡ true
    → are_sound_nodes (leading test ns) ≡ true
leading_sound test [] h = refl
leading_sound test (n ∷ ns) h =
    let k = and_parts (is_sound_node n) (are_sound_nodes ns) h in
    go (test n) k.0 (leading_sound test ns k.1)
  where
    go : (b : Bool) → is_sound_node n ≡ true → are_sound_nodes (leading test ns) ≡ true
        → are_sound_nodes (cond b (n ∷ leading test ns) []) ≡ true
    go true a others = and_from (is_sound_node n) _ a others
    go false a others = refl

pub behind_sound : (test : Node → Bool) (ns : List Node) → are_sound_nodes ns ≡ true
    → are_sound_nodes (behind test ns) ≡ true
behind_sound test [] h = refl
behind_sound test (n ∷ ns) h =
    go (test n) (behind_sound test ns (and_parts (is_sound_node n) (are_sound_nodes ns) h).1)
  where
    go : (b : Bool) → are_sound_nodes (behind test ns) ≡ true
        → are_sound_nodes (cond b (behind test ns) (n ∷ ns)) ≡ true
    go true others = others
    go false others = h

-- a place within an element
pub good_inner : (p : StaticContext) (own : List Binding) → GoodPlace p
    → list_all is_good_binding own ≡ true → GoodPlace (within p own)
good_inner p own g h = record { bound = good_within p own g.bound h }

pub inner_good : (e : XslElement) (p : StaticContext) → GoodPlace p → GoodPlace (inner e p)
inner_good element.ForEachGroup p g = record { bound = g.bound }
inner_good _ p g = g

pub same_inside : (e : XslElement) (p : StaticContext) (attributes : List Attribute) (sorts : List Node)
    → (inner e p).in_group ≡ inside (own_value reading p e attributes sorts) p.in_group
same_inside element.ForEachGroup p attributes sorts = refl
same_inside _ p attributes sorts = refl

pub no_value : (room : ℕ) (p : StaticContext) (ns : List Node) → not (is_none ns) ≡ false
    → body_value reading room p ns ≡ []
unfolding body_value
no_value zero p [] h = refl
no_value (suc room) p [] h = refl
no_value room p (n ∷ ns) h = absurd cc

-- a variable adds a level to what comes after it
one_more : (before : ℕ) (xs : List Nested)
    → most_behind (1 + before) xs ≤ 1 + most_behind before xs
one_more before [] = omega arith
one_more before (x ∷ xs) =
    let h = next x.binds (one_more (1 + before) xs) (one_more before xs) in
    omega (arith, h)
  where
    next : (b : Bool) → most_behind (1 + (1 + before)) xs ≤ 1 + most_behind (1 + before) xs
        → most_behind (1 + before) xs ≤ 1 + most_behind before xs
        → most_behind (levels_behind b (1 + before)) xs
        ≤ 1 + most_behind (levels_behind b before) xs
    next true h k = h
    next false h k = k

pub no_instrs : (grouped : Bool) (room : ℕ) → ClosedBody grouped room []
no_instrs grouped room = record { good = refl; stands = refl; nests = omega arith }

pub and_instr : (grouped : Bool) (room : ℕ) (b : Bool) (i : Instr Expr Pattern) (others : Instrs)
    → ClosedInstr grouped room b i → ClosedBody grouped (cond b room (suc room)) others
    → ClosedBody grouped (suc room) (i ∷ others)
and_instr grouped room b i others c d =
    record {
      good = and_from (is_good_instr i) _ c.good d.good;
      stands = and_from (instr_stands i grouped) _ c.stands d.stands;
      nests = deep b c.bound d.nests;
    }
  where
    deep : (b : Bool) → (nested_of i).binds ≡ b → body_nest_of others ≤ cond b room (suc room)
        → body_nest_of (i ∷ others) ≤ suc room
    deep true e h =
        let k = one_more 0 (map nested_of others) in
        let n = c.nests in
        let x : most_behind (levels_behind (nested_of i).binds 0) (map nested_of others)
        ≤ suc room =
        subst (λ y. most_behind (levels_behind y 0) (map nested_of others) ≤ suc room) (sym e)
        (omega (arith, k, h)) in
        omega (arith, n, x)
    deep false e h =
        let n = c.nests in
        let x : most_behind (levels_behind (nested_of i).binds 0) (map nested_of others)
        ≤ suc room =
        subst (λ y. most_behind (levels_behind y 0) (map nested_of others) ≤ suc room) (sym e) h in
        omega (arith, n, x)
