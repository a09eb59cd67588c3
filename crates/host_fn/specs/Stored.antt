-- What contracts see of a stored host function. The arguments in braces stand for the functions that it can hold.
use Rattle.host_fn.specs.declared.stored.HostFn.{HostFn}
use Rattle.host_fn.specs.declared.stored.StoredFunction.{StoredFunction}
use Rattle.host_fn.specs.declared.stored.StoredFunction.TheVariants.{Unary, Binary}
use Rattle.kw_bits.specs.declared.host.HostSpec.{HostSpec}

-- a function of either arity has the kind and the width that are beside it
abbrev pub function_of : {X Y : Type 0} {one : _} {two : _} → StoredFunction X Y one two → HostSpec
function_of (Unary f) = record { kind = f.kind; in_width = f.in_width }
function_of (Binary f) = record { kind = f.kind; in_width = f.in_width }

-- a stored host function as a design declares it
abbrev pub spec_of : {X Y : Type 0} {one : _} {two : _} → HostFn X Y one two → HostSpec
spec_of f = function_of f.function
