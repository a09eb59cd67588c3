-- What a call that returns a fault says of it.
use Rattle.std.proofs.Common.{◌≡◌, Result, Ok, Err, sym, subst}
use Rattle.kw_base.specs.Fault.{IfFault}
use Rattle.kw_base.specs.declared.fault.Fault.{Fault}
use Rattle.kw_base.specs.declared.fault.Refusal.{Refusal}
use Rattle.kw_base.specs.declared.fault.Refusal.TheVariants as refusals

-- the call returns this fault
pub refused : (X : Type 0) (e : Refusal) (fault : Fault) (P : Fault → Type 0) → e ≡ refusals.Fault fault → P fault → IfFault {X = X} (Err e) P
refused X e fault P is holds = subst (λ (r : Refusal). IfFault {X = X} (Err r) P) (sym is) holds

-- what is said of a part's fault is said of the whole's
pub passes : (X Y : Type 0) (e : Refusal) (P Q : Fault → Type 0) → IfFault {X = X} (Err e) P → ((fault : Fault) → P fault → Q fault) → IfFault {X = Y} (Err e) Q
passes X Y (refusals.Fault fault) P Q holds leads = leads fault holds
passes X Y refusals.NoMemory P Q holds leads = tt

-- the same of a call whose result is returned as it is
pub passes_on : {X : Type 0} (r : Result X Refusal) (P Q : Fault → Type 0) → IfFault r P → ((fault : Fault) → P fault → Q fault) → IfFault r Q
passes_on (Ok x) P Q holds leads = tt
passes_on {X} (Err e) P Q holds leads = passes X X e P Q holds leads
