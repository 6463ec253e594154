-- One pass over the items gives the simple content.
use Rattle.std.proofs.Common.{◌≡◌, ℕ, List, [], ◌∷◌, ◌++◌, map, refl, ap, sym, ◌∙◌, subst, append_assoc, length, drop, ◌≤◌}
use Rattle.std.proofs.lemmas.List.{append-nil, drop_all}
use Rattle.std.specs.Prelude.{Result, IfOk}
use Rattle.std.specs.declared.alloc.AllocError.{AllocError}
use Rattle.xt_names.specs.Allowed.{is_empty_text}
use Rattle.xdm_items.specs.declared.items.Item.{Item}
use Rattle.node_builder.specs.Simple.{Part, run, value, part_of, without_empty_runs, merge_run, merged_runs, part_text, joined_behind, joined_with, simple_content}
use Rattle.node_builder.specs.Line.{Line, no_line, run_gap, value_gap, with_part, with_each}
use Rattle.node_builder.specs.declared.simple_contents.End.{End}
use Rattle.node_builder.specs.declared.simple_contents.End.TheVariants.{Nothing, Value, Run}

-- the first two steps
abbrev tidy : List Part → List Part
tidy parts = merged_runs (without_empty_runs parts)

abbrev behind : List ℕ → List Part → List ℕ
behind separator parts = joined_behind separator (map part_text parts)

-- what parts give after such an end
abbrev rest : List ℕ → End → List Part → List ℕ
rest separator ending [] = []
rest separator ending (run u ∷ parts) = run_gap separator ending ++ (u ++ behind separator parts)
rest separator ending (value t ∷ parts) = value_gap separator ending ++ (t ++ behind separator parts)

rest-run : (separator : List ℕ) (ending : End) (t : List ℕ) (parts : List Part) → rest separator ending (merge_run t parts) ≡ run_gap separator ending ++ (t ++ rest separator Run parts)
rest-run separator ending t [] = refl
rest-run separator ending t (run u ∷ parts) = ap (λ w. run_gap separator ending ++ w) (append_assoc t u (behind separator parts))
rest-run separator ending t (value u ∷ parts) = refl

rest-value : (separator : List ℕ) (parts : List Part) → rest separator Value parts ≡ behind separator parts
rest-value separator [] = refl
rest-value separator (run u ∷ parts) = refl
rest-value separator (value t ∷ parts) = refl

rest-start : (separator : List ℕ) (parts : List Part) → rest separator Nothing parts ≡ joined_with separator (map part_text parts)
rest-start separator [] = refl
rest-start separator (run u ∷ parts) = refl
rest-start separator (value t ∷ parts) = refl

-- the text with the parts to come
abbrev whole : List ℕ → Line → List Part → List ℕ
whole separator l parts = l.text ++ rest separator l.ending (tidy parts)

regroup : (a b c d : List ℕ) → a ++ (b ++ (c ++ d)) ≡ ((a ++ b) ++ c) ++ d
regroup a b c d = sym (append_assoc (a ++ b) c d ∙ append_assoc a b (c ++ d))

part_moves : (separator : List ℕ) (l : Line) (part : Part) (parts : List Part) → whole separator l (part ∷ parts) ≡ whole separator (with_part separator l part) parts
unfolding is_empty_text
part_moves separator l (run []) parts = refl
part_moves separator l (run (c ∷ cs)) parts =
    ap (λ w. l.text ++ w) (rest-run separator l.ending (c ∷ cs) (tidy parts)) ∙ regroup l.text (run_gap separator l.ending) (c ∷ cs) (rest separator Run (tidy parts))
part_moves separator l (value t) parts =
    ap (λ w. l.text ++ (value_gap separator l.ending ++ (t ++ w))) (sym (rest-value separator (tidy parts)))
    ∙ regroup l.text (value_gap separator l.ending) t (rest separator Value (tidy parts))

all_move : (separator : List ℕ) (l : Line) (items : List Item) → whole separator l (map part_of items) ≡ (with_each separator l items).text
all_move separator l [] = append-nil l.text
all_move separator l (item ∷ items) = part_moves separator l (part_of item) (map part_of items) ∙ all_move separator (with_part separator l (part_of item)) items

pub one_line : (separator : List ℕ) (items : List Item) → (with_each separator no_line items).text ≡ simple_content separator items
unfolding simple_content
one_line separator items = sym (all_move separator no_line items) ∙ rest-start separator (tidy (map part_of items))

if_along : (r : Result (List ℕ) AllocError) (x y : List ℕ) → x ≡ y → IfOk r (λ t. t ≡ x) → IfOk r (λ t. t ≡ y)
if_along r x y e h = rw (← e) h

pub line_done : (separator : List ℕ) (b : Line) (items ys : List Item) (i : ℕ) (r : Result (List ℕ) AllocError) → with_each separator b (drop i items) ≡ with_each separator no_line items
    → ys ≡ items → length ys ≤ i → IfOk r (λ t. t ≡ b.text) → IfOk r (λ t. t ≡ simple_content separator items)
line_done separator b items ys i r inv same le h =
    let whole_line : b ≡ with_each separator no_line items = ap (with_each separator b) (sym (drop_all i items (subst (λ zs. length zs ≤ i) same le))) ∙ inv in
    if_along r b.text (simple_content separator items) (ap (λ l. l.text) whole_line ∙ one_line separator items) h
