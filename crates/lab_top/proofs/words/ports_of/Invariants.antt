use Rattle.std.proofs.Common.{◌≡◌, Some, drop, fold, map, string_bytes}
use Rattle.lab_top.specs.Words.{no_ports, with_port}
use Rattle.lab_top.proofs.words.ports_of.Given as goal

-- the words that are left ask for the rest
abbrev pub invariant-loop-word : goal.invariant-loop-word
invariant-loop-word l =
    fold with_port l.ports (map string_bytes (drop l.word-index l.words))
    ≡ fold with_port (Some no_ports) (map string_bytes l.words)
