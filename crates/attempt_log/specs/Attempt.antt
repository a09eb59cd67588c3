-- What an attempt says, and which jobs can be done: a rule of a design in a cycle, on inputs and registers that fit. It
-- says nothing of where the registers come from.
use Rattle.std.specs.Prelude.{◌≡◌, ℕ, ◌<◌, List, length}
use Rattle.kw_bits.specs.BitVector.{BitVector}
use Rattle.typed_core.specs.Evaluation as core
use Rattle.typed_core.specs.Fits.{EventsFit}
use Rattle.typed_core.specs.Valid.{externs_of}
use Rattle.typed_core.specs.Widths.{HaveWidths, input_widths, register_widths}
use Rattle.typed_core.specs.declared.design.Parts.{Parts}
use Rattle.typed_core.specs.declared.outcome.Alone.{Alone}
use Rattle.attempt_log.specs.Trace.{IsTrace}

-- a rule in a cycle with these inputs, and what it gave
pub record Attempted : Type 0 where
  pub design : Parts
  pub cycle : ℕ
  pub rule : ℕ
  pub inputs : List BitVector
  pub run : Alone

-- the design has the rule, the inputs fit it, and what the rule gave is a trace of it, whose events fit its registers
pub record IsAttempt (a : Attempted) : Type 0 where
  pub rule : a.rule < length a.design.rules
  pub inputs : HaveWidths (input_widths a.design) a.inputs
  pub trace : IsTrace a.design a.rule a.inputs a.run
  pub events : EventsFit (register_widths a.design) a.run.events

-- externs, a rule's number, inputs and registers fit the design
pub record FitDesign (design : Parts) (kept : core.Externs) (number : ℕ) (given regs : List BitVector) : Type 0 where
  pub externs : kept ≡ externs_of design
  pub rule : number < length design.rules
  pub inputs : HaveWidths (input_widths design) given
  pub registers : HaveWidths (register_widths design) regs
