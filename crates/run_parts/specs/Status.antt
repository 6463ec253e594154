-- The number and the note line of each status, and what the parts of a run do to the sinks.
use Rattle.std.specs.Prelude.{ℕ, List, [], ◌++◌, codes, ◌⊎◌}
use Rattle.std.specs.Fmt.{decimal}
use Rattle.std.specs.Str.{encode_utf8_all}
use Rattle.xt_names.specs.Codes.{code_text}
use Rattle.xt_io.specs.Files.{Rose}
use Rattle.xt_io.specs.Sink.{SinkState, Puts, PutsPrefix}
use Rattle.doc_grammar.specs.declared.spots.Spot.{Spot}
use Rattle.doc_grammar.specs.declared.spots.Spot.TheVariants as spot_variants
use Rattle.run_parts.specs.declared.status.ProfileRule.{ProfileRule}
use Rattle.run_parts.specs.declared.status.ProfileRule.TheVariants.{P1, P2, P3, P4, P5, P6, P7, P8}
use Rattle.run_parts.specs.declared.status.Status.{Status}
use Rattle.run_parts.specs.declared.status.Status.TheVariants.{Done, Usage, Load, TooLong, Malformed}
use Rattle.run_parts.specs.declared.status.Status.TheVariants.{Static}
use Rattle.run_parts.specs.declared.status.Status.TheVariants.{Outside, Dynamic, Deep, Write, Memory}
use Rattle.run_parts.specs.declared.status.Status.TheVariants.{NoPlace}

abbrev pub status_number : Status → ℕ
status_number Done = 0
status_number Usage = 1
status_number (Load file) = 2
status_number (TooLong file n) = 3
status_number (Malformed file spot) = 4
status_number (Static code) = 5
status_number (Outside rule) = 6
status_number (Dynamic code) = 7
status_number (Deep depth) = 8
status_number Write = 9
status_number Memory = 10
status_number NoPlace = 11

abbrev pub rule_text : ProfileRule → List ℕ
rule_text P1 = codes "P1"
rule_text P2 = codes "P2"
rule_text P3 = codes "P3"
rule_text P4 = codes "P4"
rule_text P5 = codes "P5"
rule_text P6 = codes "P6"
rule_text P7 = codes "P7"
rule_text P8 = codes "P8"

-- where a text stops being a document: the offset of the byte, from 0, or what is not allowed
abbrev pub spot_text : Spot → List ℕ
spot_text (spot_variants.At offset) = decimal offset
spot_text spot_variants.Subset = codes "subset"
spot_text spot_variants.Encoding = codes "encoding"
spot_text spot_variants.Entity = codes "entity"
spot_text spot_variants.Deep = codes "deep"

abbrev pub malformed_text : List ℕ → Spot → List ℕ
malformed_text file spot =
    codes "malformed " ++ (file ++ (codes " " ++ (spot_text spot ++ codes "\n")))

-- what is said of a status, with a line feed at its end
abbrev pub note_line : Status → List ℕ
note_line Done = []
note_line Usage = codes "usage\n"
note_line (Load file) = codes "load " ++ (encode_utf8_all file ++ codes "\n")
note_line (TooLong file n) =
    codes "long " ++ (encode_utf8_all file ++ (codes " " ++ (decimal n ++ codes "\n")))
note_line (Malformed file spot) = malformed_text (encode_utf8_all file) spot
note_line (Static code) = codes "static " ++ (code_text code ++ codes "\n")
note_line (Outside rule) = codes "outside " ++ (rule_text rule ++ codes "\n")
note_line (Dynamic code) = codes "dynamic " ++ (code_text code ++ codes "\n")
note_line (Deep depth) = codes "deep " ++ (decimal depth ++ codes "\n")
note_line Write = codes "write\n"
note_line Memory = codes "memory\n"
note_line NoPlace = codes "noplace\n"

-- what is said of a status: its line, or a prefix of it where the notes failed
abbrev pub Tells : SinkState → SinkState → Status → Type 0
Tells notes notes' status =
    Puts notes notes' (note_line status)
    ⊎ (PutsPrefix notes notes' (note_line status) × Rose notes.faults notes'.faults)

-- what a write of a text answers
abbrev pub Writes : SinkState → SinkState → List ℕ → Status → Type 0
Writes out out' text Done = Puts out out' text
Writes out out' text Write = PutsPrefix out out' text × Rose out.faults out'.faults
Writes out out' text Memory = PutsPrefix out out' text
Writes out out' text _ = ⊥
