-- What private functions alone cite of this crate's `Outcomes`.
use Rattle.std.specs.Prelude.{◌≡◌, ⊤, Result, Ok, Err, Some, None}
use Rattle.kw_bits.specs.declared.failure.Failure.{Failure}
use Rattle.kw_bits.specs.declared.failure.Failure.TheVariants as failures
use Rattle.koika_check.specs.declared.stop.Wrong.{Wrong}
use Rattle.koika_check.specs.Outcomes.{CheckResult, Condition, found, Gives, Fails}

-- why checking ends: what is wrong, or no memory
abbrev pub Stop : Type 0
Stop = Failure Wrong

-- A call answers what an outcome says, where its values stand for those of outcomes as `is` says: a value for a
-- result, the fault for a fault. Being out of memory is free.
abbrev pub Tells : {X Y : Type 0} → (Y → X → Type 0) → CheckResult X → Result Y Stop → Type 0
Tells is outcome (Err failures.NoMemory) = ⊤
Tells is (Gives value) (Ok y) = is y value
Tells is (Fails fault) (Ok y) = ⊥
Tells is (Gives value) (Err (failures.Why found)) = ⊥
Tells is (Fails fault) (Err (failures.Why found)) = found ≡ fault

-- a call goes on where the condition holds, and answers its fault where it doesn't
abbrev pub Passes : {X : Type 0} → Condition → Result X Stop → Type 0
Passes None (Ok x) = ⊤
Passes (Some fault) (Err (failures.Why found)) = found ≡ fault
Passes condition answer = ⊥

-- an outcome is this fault; being out of memory is free
abbrev pub Ends : {X : Type 0} → CheckResult X → Stop → Type 0
Ends outcome failures.NoMemory = ⊤
Ends outcome (failures.Why fault) = outcome ≡ Fails fault

-- a call answers what an outcome says, as above, told by the answer
abbrev pub Answers : {X Y : Type 0} → (Y → X → Type 0) → CheckResult X → Result Y Stop → Type 0
Answers {X} is outcome (Ok y) = (value : X) × (outcome ≡ Gives value) × is y value
Answers is outcome (Err stop) = Ends outcome stop
