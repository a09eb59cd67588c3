-- What the slow run of a text knows of values, which of them are there, and which forms compute one. It serves the slow
-- run's functions, `named_constant` and `written_constant` among them, and private functions of `btor2_net`.
use Rattle.std.specs.Option.{IsSomeAnd}
use Rattle.std.specs.Prelude.{◌≡◌, ℕ, Bool, true, false, Option}
use Rattle.kw_bits.specs.BitVector.{BitVector}
use Rattle.btor2_model.specs.declared.rule.FormRule.TheVariants as forms
use Rattle.btor2_model.specs.declared.rule.FormRule.{FormRule}

-- a value of this width is there
abbrev pub HasValue : Option BitVector → ℕ → Type 0
HasValue found width = IsSomeAnd found (λ value. value.width ≡ width)

-- the form is a constant that its keyword names
abbrev pub is_constant : FormRule → Bool
is_constant forms.Constant = true
is_constant other = false
