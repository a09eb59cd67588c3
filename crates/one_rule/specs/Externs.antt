-- What externs keep, and which host functions serve a design.
use Rattle.std.specs.Prelude.{List, All, Contains}
use Rattle.typed_core.specs.Evaluation as core
use Rattle.kw_bits.specs.declared.host.HostSpec.{HostSpec}
use Rattle.one_rule.specs.declared.externs.kept.Externs.{Externs}

-- the tables and the host functions that are kept
abbrev pub kept : Externs → core.Externs
kept externs = record { tables = externs.tables; hosts = externs.hosts }

-- each of the host functions is one of those that are offered
abbrev pub AreOffered : List HostSpec → List HostSpec → Type 0
AreOffered wanted offered = All (Contains offered) wanted
