-- What an instruction reads, and how that changes on the way (XSLT 2.0, 5.4.3). Wherever an
-- instruction moves the focus, the new item is the current item of the expressions within.
use Rattle.std.specs.Prelude.{ℕ, List, [], Option, Some, None, option_map, slice_get}
use Rattle.xdm_items.specs.declared.items.Item.{Item}
use Rattle.expr_meaning.specs.SortMeaning.Sorted.{Placed}
use Rattle.expr_meaning.specs.Env.{Binding, Env, Group}

-- an item by itself
abbrev pub alone : Item → Placed Item
alone x = record { value = x; place = 1; size = 1 }

-- an item at a place among so many
abbrev pub among : ℕ → ℕ → Item → Placed Item
among place size x = record { value = x; place = place; size = size }

abbrev pub item_in : Option (Placed Item) → Option Item
item_in focus = option_map (λ f. f.value) focus

-- at an item of a list that is sorted or grouped
abbrev pub at_item : Env → Placed Item → Env
at_item env f =
    record env { focus = Some f; state = record env.state { current = Some f.value } }

-- at an item of xsl:for-each, which has no current rule (6.7)
abbrev pub in_turn : Env → Placed Item → Env
in_turn env f =
    record env { focus = Some f; state = record env.state { current = Some f.value; rule = None } }

-- the first item of a group, in the place of the group
abbrev pub first_in : Placed Group → Option (Placed Item)
first_in g =
    option_map (λ x. record { value = x; place = g.place; size = g.size })
    (slice_get g.value.members 0)

-- at a group of xsl:for-each-group, which is the current one (14.3)
abbrev pub in_group : Env → Placed Group → Env
in_group env g = record env {
  focus = first_in g;
  state = record env.state {
    current = item_in (first_in g);
    rule = None;
    group = Some g.value;
  };
}

-- where a template begins: without variables and groups
abbrev pub entry : Option (Placed Item) → Option ℕ → ℕ → List Binding → Env
entry focus rule mode tunnel = record {
  locals = [];
  focus = focus;
  state = record {
    current = item_in focus;
    rule = rule;
    mode = mode;
    group = None;
    tunnel = tunnel;
  };
}

-- where a run begins, and `use` of a key: at an item by itself, in the default mode
abbrev pub outset : Item → Env
outset x = entry (Some (alone x)) None 0 []
