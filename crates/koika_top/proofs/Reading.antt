-- What a program made of a source is an answer to it.
use Rattle.std.proofs.Common.{ℕ, inr, List, Result, Ok, Err}
use Rattle.std.specs.Prelude.{IfOk}
use Rattle.kw_base.specs.Fault.{IfFault}
use Rattle.kw_base.specs.declared.fault.Refusal.{Refusal}
use Rattle.kw_base.specs.declared.fault.Refusal.TheVariants as refusals
use Rattle.kw_bits.specs.declared.host.HostSpec.{HostSpec}
use Rattle.front_end.specs.Sources.{IsUnread, IsUnspelled}
use Rattle.front_end.specs.inner.Steps.{Makes}
use Rattle.koika_top.specs.Aiger.{AnswersAiger, HasNoAig, ShowsAig}
use Rattle.koika_top.specs.Compile.{AnswersCompile, ShowsCircuit}
use Rattle.koika_top.specs.Reads.{AnswersCheck, AnswersPrint, ShowsTree, TellsCounts}
use Rattle.koika_top.specs.Recheck.{AnswersRecheck, IsUncertified, ShowsChecked}

pub makes-check : (hosts : List HostSpec) (source : List ℕ) (r : Result (List ℕ) Refusal) → IfOk r (TellsCounts hosts source) → IfFault r (IsUnspelled hosts source) → Makes (AnswersCheck hosts source) r
makes-check hosts source (Ok text) told fault = told
makes-check hosts source (Err (refusals.Fault f)) told fault = inr fault
makes-check hosts source (Err refusals.NoMemory) told fault = tt

pub makes-print : (source : List ℕ) (r : Result (List ℕ) Refusal) → IfOk r (ShowsTree source) → IfFault r (IsUnread source) → Makes (AnswersPrint source) r
makes-print source (Ok text) told fault = told
makes-print source (Err (refusals.Fault f)) told fault = inr fault
makes-print source (Err refusals.NoMemory) told fault = tt

pub makes-compile : (hosts : List HostSpec) (source : List ℕ) (r : Result (List ℕ) Refusal) → IfOk r (ShowsCircuit hosts source) → IfFault r (IsUnspelled hosts source) → Makes (AnswersCompile hosts source) r
makes-compile hosts source (Ok text) made refused = made
makes-compile hosts source (Err (refusals.Fault fault)) made refused = inr refused
makes-compile hosts source (Err refusals.NoMemory) made refused = tt

pub makes-aiger : (hosts : List HostSpec) (source : List ℕ) (r : Result (List ℕ) Refusal) → IfOk r (ShowsAig hosts source) → IfFault r (HasNoAig hosts source) → Makes (AnswersAiger hosts source) r
makes-aiger hosts source (Ok text) made refused = made
makes-aiger hosts source (Err (refusals.Fault fault)) made refused = inr refused
makes-aiger hosts source (Err refusals.NoMemory) made refused = tt

pub makes-recheck : (hosts : List HostSpec) (cycles : ℕ) (source : List ℕ) (r : Result (List ℕ) Refusal) → IfOk r (ShowsChecked hosts cycles source) → IfFault r (IsUncertified hosts cycles source) → Makes (AnswersRecheck hosts cycles source) r
makes-recheck hosts cycles source (Ok text) made refused = made
makes-recheck hosts cycles source (Err (refusals.Fault fault)) made refused = refused
makes-recheck hosts cycles source (Err refusals.NoMemory) made refused = tt
