-- What private functions alone cite of this crate's `InMemory`.
use Rattle.kw_bits.specs.Faults.{one_more}
use Rattle.kw_io.specs.InMemory.{Calls}

-- after a call that failed
abbrev pub after_failure : Calls → Calls
after_failure calls = record calls { made = one_more calls.made; failed = one_more calls.failed }
