-- The tokens that a draft stands for, which is filled from its end.
use Rattle.std.specs.Prelude.{ℕ, Option, Some, None, List, [], ◌∷◌, reverse, if◌then◌else◌}
use Rattle.expr_keys.specs.declared.tokens.Token.{Token}
use Rattle.query_pages.specs.Inner.{with_inner}
use Rattle.expr_raws.specs.PathRaws.Forms.{Form, said}
use Rattle.expr_raws.specs.Raws.{form_of}
use Rattle.expr_drafts.specs.declared.drafts.Part.{Part}
use Rattle.expr_drafts.specs.declared.drafts.Item.{Item}
use Rattle.expr_drafts.specs.declared.drafts.Item.TheVariants as item

-- those of a form where no looser one stands than that, if there is a limit
abbrev pub limited : Option ℕ → Form → List Token → List Token
limited None f rest = f.tokens rest
limited (Some n) f rest = said n f rest

-- those of an expression in its place
abbrev pub said_tokens : Part → List Token → List Token
said_tokens x rest = limited x.place (form_of x.prefixes.now x.e.now) rest

-- .. or as those of an element within the content of another
abbrev pub part_tokens : Part → List Token → List Token
part_tokens x rest = if x.inner then with_inner (said_tokens x rest) else said_tokens x rest

abbrev pub item_tokens : Item → List Token → List Token
item_tokens (item.Token g t) rest = t ∷ rest
item_tokens (item.Part x) rest = part_tokens x rest

abbrev pub all_tokens : List Item → List Token
all_tokens [] = []
all_tokens (x ∷ xs) = item_tokens x (all_tokens xs)

-- where the last item is the first
abbrev pub written : List Item → List Token
written xs = all_tokens (reverse xs)
