-- Why reading ends, and the fault that is answered there. This serves private functions alone.
use Rattle.std.specs.Prelude.{◌≡◌, drop}
use Rattle.kw_base.specs.Fault.{fault_at}
use Rattle.kw_base.specs.declared.fault.Fault.{Fault}
use Rattle.koika_parse.specs.Faults.{place_behind}
use Rattle.koika_parse.specs.declared.cursor.Cursor.{Cursor}
use Rattle.koika_parse.specs.declared.source.Source.{Source}
use Rattle.kw_bits.specs.declared.failure.Failure.{Failure}
use Rattle.kw_bits.specs.declared.failure.Failure.TheVariants as failures
use Rattle.koika_parse.specs.declared.stop.Unread.{Unread}
use Rattle.koika_parse.specs.declared.stop.Unread.TheVariants as unread

-- the next token is why, or memory ran out
abbrev pub Stop : Type 0
Stop = Failure Unread

-- 11 or 12 at the next token or at the end of the text, and none where memory ran out
abbrev pub IsFaultOf : Source → Cursor → Stop → Fault → Type 0
IsFaultOf source cursor (failures.Why unread.Unexpected) fault = fault ≡ fault_at 11 (place_behind source.text.now (drop cursor.at source.tokens.now))
IsFaultOf source cursor (failures.Why unread.TooDeep) fault = fault ≡ fault_at 12 (place_behind source.text.now (drop cursor.at source.tokens.now))
IsFaultOf source cursor failures.NoMemory fault = ⊥
