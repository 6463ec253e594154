use Rattle.std.proofs.Common.{◌≡◌, drop, true, nat_lt}
use Rattle.std.specs.List.{list_all, list_any}
use Rattle.std.specs.Str.{bytes_eq}
use Rattle.xt_forms.proofs.named_texts.is_one_of.Given as goal

abbrev pub invariant-loop-name : goal.invariant-loop-name
invariant-loop-name l =
    (list_any (λ name. bytes_eq l.local name.now) (drop l.name-index l.names) ≡ list_any (λ name. bytes_eq l.local name.now) l.names)
    × (list_all (λ name. list_all (λ b. nat_lt b 128) name.now) (drop l.name-index l.names) ≡ true)
