-- What holds of every trace and verdict: an attempt that is committed or skipped shows what its rule does, run whole,
-- on the present registers, whatever registers the attempt was made on. This is why validated attempts may stand for
-- rules that run one at a time (Kung and Robinson, TODS 1981; Bourgeat et al., PLDI 2020).
use Rattle.std.specs.Prelude.{◌≡◌, ◌≢◌, ℕ, true, false, List}
use Rattle.kw_bits.specs.BitVector.{BitVector}
use Rattle.typed_core.specs.Fits.{EventsFit}
use Rattle.typed_core.specs.Same.{SameDesign}
use Rattle.typed_core.specs.Valid.{IsValid}
use Rattle.typed_core.specs.Widths.{HaveWidths, input_widths, register_widths}
use Rattle.typed_core.specs.declared.design.Parts.{Parts}
use Rattle.typed_core.specs.declared.outcome.Alone.{Alone}
use Rattle.one_rule.specs.Cycle.{fires, system_of}
use Rattle.attempt_log.specs.Trace.{IsTrace}
use Rattle.one_rule.specs.declared.cycle.Fired.{Fired}
use Rattle.attempt_log.specs.Verdict.{verdict}
use Rattle.attempt_log.specs.declared.cause.Cause.{Cause}
use Rattle.attempt_log.specs.declared.cause.StaleRead.{StaleRead}
use Rattle.attempt_log.specs.declared.cause.Verdict.TheVariants.{Commit, Skip, Stale}

-- ---- traces

-- what a rule gives alone is a trace of it, on all registers that fit
abbrev pub AloneIsTrace : Type 0
AloneIsTrace = (design : Parts) (rule : ℕ) (inputs regs : List BitVector) → IsValid design → HaveWidths (input_widths design) inputs → HaveWidths (register_widths design) regs → IsTrace design rule inputs ((system_of design).alone rule inputs regs)

-- the events of a trace are at ports of the design's registers, with values of their widths
abbrev pub TracesFit : Type 0
TracesFit = (design : Parts) (rule : ℕ) (inputs : List BitVector) (run : Alone) → IsValid design → HaveWidths (input_widths design) inputs → IsTrace design rule inputs run → EventsFit (register_widths design) run.events

-- designs that are equal by value have the same traces
abbrev pub EqualDesignsTraceAlike : Type 0
EqualDesignsTraceAlike = (d e : Parts) (rule : ℕ) (inputs : List BitVector) (run : Alone) → SameDesign d e → IsTrace d rule inputs run → IsTrace e rule inputs run

-- ---- verdicts

-- an attempt that is committed is what its rule gives alone on the registers as they are, and the rule fires
abbrev pub CommitsFire : Type 0
CommitsFire = (design : Parts) (rule : ℕ) (inputs regs : List BitVector) (fired : List Fired) (run : Alone) → IsTrace design rule inputs run → verdict regs fired run ≡ Commit
    → ((system_of design).alone rule inputs regs ≡ run) × (fires fired run ≡ true)

-- the rule of one that is skipped doesn't fire on the registers as they are
abbrev pub SkipsDoNotFire : Type 0
SkipsDoNotFire = (design : Parts) (rule : ℕ) (inputs regs : List BitVector) (fired : List Fired) (run : Alone) (cause : Cause) → IsTrace design rule inputs run → verdict regs fired run ≡ Skip cause
    → fires fired ((system_of design).alone rule inputs regs) ≡ false

-- an attempt that was made on these very registers is never stale
abbrev pub NeverStale : Type 0
NeverStale = (design : Parts) (rule : ℕ) (inputs regs : List BitVector) (fired : List Fired) (read : StaleRead) → verdict regs fired ((system_of design).alone rule inputs regs) ≢ Stale read

-- a stale read would answer another value
abbrev pub StaleReadsDiffer : Type 0
StaleReadsDiffer = (regs : List BitVector) (fired : List Fired) (run : Alone) (read : StaleRead) → verdict regs fired run ≡ Stale read → read.held ≢ read.now

-- the same of an attempt that was made on other registers, whichever fit
abbrev pub MadeOnAnyRegisters : Type 0
MadeOnAnyRegisters = (design : Parts) (rule : ℕ) (inputs made_on regs : List BitVector) (fired : List Fired) → IsValid design → HaveWidths (input_widths design) inputs → HaveWidths (register_widths design) made_on
    → let made = (system_of design).alone rule inputs made_on in let now = (system_of design).alone rule inputs regs in
    (verdict regs fired made ≡ Commit → (now ≡ made) × (fires fired now ≡ true)) × ((cause : Cause) → verdict regs fired made ≡ Skip cause → fires fired now ≡ false)
