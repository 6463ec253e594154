use Rattle.std.proofs.Common.{◌≡◌, map, drop, IsTrue}
use Rattle.std.specs.Str.{chars}
use Rattle.sheet_table.specs.Texts.{is_one_of, are_ascii}
use Rattle.sheet_table.proofs.texts.is_one_of.Given as goal

abbrev pub invariant-loop-name : goal.invariant-loop-name
invariant-loop-name l = record {
  same : is_one_of (chars l.text) (map (λ n. n.now) l.names) ≡ is_one_of (chars l.text) (map (λ n. n.now) (drop l.name-index l.names));
  ascii : IsTrue (are_ascii (map (λ n. n.now) (drop l.name-index l.names)));
}
