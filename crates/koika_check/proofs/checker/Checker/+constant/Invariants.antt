use Rattle.std.proofs.Common.{◌≡◌, length, take}
use Rattle.koika_check.specs.inner.Checking.{AreKnown, AreKnownFields, Yields, scope_of}
use Rattle.koika_check.specs.Constants.{constant_of}
use Rattle.koika_check.specs.inner.Constants.{constant_field_of}
use Rattle.koika_check.specs.Outcomes.{in_turn}
use Rattle.koika_check.proofs.checker.Checker.+constant.Given as goal

abbrev pub invariant-constant_fields-loop-index : goal.invariant-constant_fields-loop-index
invariant-constant_fields-loop-index l =
    (length l.given ≡ l.index) ×
    Yields (AreKnownFields (scope_of l.fn.self) l.fn.number) l.fn.self (in_turn (λ f. constant_field_of f l.fn.self.design) (take l.index l.fields)) l.self (record { given = l.given; values = l.values })

abbrev pub invariant-constants-loop-element : goal.invariant-constants-loop-element
invariant-constants-loop-element l =
    Yields (AreKnown (scope_of l.fn.self)) l.fn.self (in_turn (λ e. constant_of e l.fn.self.design) (take l.element-index l.elements)) l.self (record { parts = l.parts; values = l.values })
