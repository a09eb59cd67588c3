use Rattle.one_rule.specs.Hosts.{host_specs}
use Rattle.front_end.specs.Streams.{stream}
use Rattle.stream_run.proofs.Promises.{kept-done, stopped-fault, stopped-memory, stopped-read, stopped-write}
use Rattle.stream_run.proofs.session.answer.Goals as goal

pub returns-in-Ok : goal.returns-in-Ok
returns-in-Ok g c =
    kept-done (host_specs c.args.hosts.now) (stream g.S.Source.left g.S.Source.faults c.args.source.now c.answer_source.new.source)
    (stream g.K.Sink.written g.K.Sink.faults c.args.sink.now c.answer_source.new.sink) _ c.in-Ok.ensures.finishes c.in-Ok.ensures.whole

pub returns-in-Err-Fault : goal.returns-in-Err-Fault
returns-in-Err-Fault g c =
    stopped-fault (host_specs c.args.hosts.now) (stream g.S.Source.left g.S.Source.faults c.args.source.now c.answer_source.new.source) (g.K.Sink.written c.args.sink.now) (g.K.Sink.faults c.args.sink.now)
    c.in-Err-Fault.field-0 _ (stream g.K.Sink.written g.K.Sink.faults c.answer_source.new.sink c.write_fault.new.sink) c.write_fault.result c.status_by.result c.in-Err-Fault.field-0-is
    c.in-Err-Fault.ensures.finishes c.write_fault.ensures c.in-Err-Fault.ensures.never_falls c.status_by.ensures

pub returns-in-Err-ReadFault : goal.returns-in-Err-ReadFault
returns-in-Err-ReadFault g c =
    stopped-read (host_specs c.args.hosts.now) (stream g.S.Source.left g.S.Source.faults c.args.source.now c.answer_source.new.source)
    (stream g.K.Sink.written g.K.Sink.faults c.args.sink.now c.answer_source.new.sink) c.in-Err-ReadFault.field-0 c.in-Err-ReadFault.field-0-is c.in-Err-ReadFault.ensures.finishes c.in-Err-ReadFault.ensures.read_fault

pub returns-in-Err-WriteFault : goal.returns-in-Err-WriteFault
returns-in-Err-WriteFault g c =
    stopped-write (host_specs c.args.hosts.now) (stream g.S.Source.left g.S.Source.faults c.args.source.now c.answer_source.new.source)
    (stream g.K.Sink.written g.K.Sink.faults c.args.sink.now c.answer_source.new.sink) c.in-Err-WriteFault.field-0 c.in-Err-WriteFault.field-0-is c.in-Err-WriteFault.ensures.finishes c.in-Err-WriteFault.ensures.write_fault

pub returns-in-Err-NoMemory : goal.returns-in-Err-NoMemory
returns-in-Err-NoMemory g c =
    stopped-memory (host_specs c.args.hosts.now) (stream g.S.Source.left g.S.Source.faults c.args.source.now c.answer_source.new.source)
    (stream g.K.Sink.written g.K.Sink.faults c.args.sink.now c.answer_source.new.sink) c.in-Err-NoMemory.field-0 c.in-Err-NoMemory.field-0-is c.in-Err-NoMemory.ensures.finishes
