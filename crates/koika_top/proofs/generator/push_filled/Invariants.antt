use Rattle.std.proofs.Common.{◌≡◌, ◌++◌, take}
use Rattle.koika_top.specs.Generator.{filled}
use Rattle.koika_top.proofs.generator.push_filled.Given as goal

abbrev pub invariant-loop-byte : goal.invariant-loop-byte
invariant-loop-byte l = l.text ≡ l.initial.text ++ filled (take l.byte-index l.template) l.stage
