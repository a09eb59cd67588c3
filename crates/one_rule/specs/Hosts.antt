-- Host functions as the lists of their values. The arguments in braces stand for the functions that a stored one can hold.
use Rattle.std.specs.Prelude.{List, map}
use Rattle.host_fn.specs.Stored.{spec_of}
use Rattle.host_fn.specs.declared.stored.HostFn.{HostFn}
use Rattle.kw_bits.specs.declared.host.HostSpec.{HostSpec}

-- stored host functions as a design declares them
abbrev pub host_specs : {X Y : Type 0} {one : _} {two : _} → List (HostFn X Y one two) → List HostSpec
host_specs functions = map spec_of functions
