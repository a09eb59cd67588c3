use Rattle.std.proofs.Common.{Err, ap, inl, inr, refl}
use Rattle.one_rule.specs.Hosts.{host_specs}
use Rattle.front_end.specs.declared.answer.Answer.TheVariants.{Refused}
use Rattle.koika_top.proofs.Answering.{tells-one}
use Rattle.front_end.proofs.Promises.{nothing-left}
use Rattle.koika_top.proofs.Promises.{tells-long, tells-read}
use Rattle.front_end.proofs.Told.{keeps-known}
use Rattle.koika_top.proofs.program.Host.answer_source.Goals as goal

pub returns-in-Ok-clause-tells : goal.returns-in-Ok-clause-tells
returns-in-Ok-clause-tells g c =
    tells-read (host_specs c.args.self.now.hosts.now) c.args.command _ _ _ _ _ c.in-Ok.ensures.all (rw (← c.deref.ensures.value) c.answer_bytes.ensures)

pub returns-in-Ok-clause-whole : goal.returns-in-Ok-clause-whole
returns-in-Ok-clause-whole g c done = nothing-left _ _ _ c.in-Ok.ensures.all

pub returns-in-Err-TooLong-clause-tells : goal.returns-in-Err-TooLong-clause-tells
returns-in-Err-TooLong-clause-tells g c =
    tells-long (host_specs c.args.self.now.hosts.now) c.args.command _ c.requires.reads c.fault_of_source-fault.ensures _ _ _ (rw c.longest_source.ensures at c.in-Err-TooLong.ensures.longer (ap (λ e. Err e) c.in-Err-TooLong.field-0-is)) (tells-one (Refused _) _ _ c.write_refusal.ensures)

pub returns-in-Err-Fault-clause-tells : goal.returns-in-Err-Fault-clause-tells
returns-in-Err-Fault-clause-tells g c = inr (keeps-known _, inl refl)

pub returns-in-Err-NoMemory-clause-tells : goal.returns-in-Err-NoMemory-clause-tells
returns-in-Err-NoMemory-clause-tells g c = inr (keeps-known _, inr refl)
