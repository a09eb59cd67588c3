use Rattle.one_rule.specs.Hosts.{host_specs}
use Rattle.koika_top.specs.Answer.{Answers}
use Rattle.koika_top.specs.declared.words.Command.TheVariants.{Aiger, Check, Compile, Gen, Print, Recheck}
use Rattle.koika_top.proofs.Reading.{makes-aiger, makes-check, makes-compile, makes-print, makes-recheck}
use Rattle.koika_top.proofs.Answering.{tells-made}
use Rattle.koika_top.proofs.program.Host.answer_bytes.Goals as goal

pub returns-in-Check : goal.returns-in-Check
returns-in-Check g c =
    rw c.in-Check.is
    (tells-made (Answers (host_specs c.args.self.now.hosts.now) Check c.args.source.now) c.check_source.result
    (makes-check (host_specs c.args.self.now.hosts.now) c.args.source.now c.check_source.result c.check_source.ensures.text c.check_source.ensures.refused) _ _ c.write_made.ensures)

pub returns-in-Print : goal.returns-in-Print
returns-in-Print g c =
    rw c.in-Print.is
    (tells-made (Answers (host_specs c.args.self.now.hosts.now) Print c.args.source.now) c.print_source.result
    (makes-print c.args.source.now c.print_source.result c.print_source.ensures.text c.print_source.ensures.refused) _ _ c.write_made-in-Print.ensures)

pub returns-in-Gen : goal.returns-in-Gen
returns-in-Gen g c =
    rw c.in-Gen.is (tells-made (Answers (host_specs c.args.self.now.hosts.now) (Gen c.in-Gen.stages) c.args.source.now) c.generate.result c.generate.ensures _ _ c.write_made-in-Gen.ensures)

pub returns-in-Compile : goal.returns-in-Compile
returns-in-Compile g c =
    rw c.in-Compile.is
    (tells-made (Answers (host_specs c.args.self.now.hosts.now) Compile c.args.source.now) c.compile_source.result
    (makes-compile (host_specs c.args.self.now.hosts.now) c.args.source.now c.compile_source.result c.compile_source.ensures.text c.compile_source.ensures.refused) _ _ c.write_made-in-Compile.ensures)

pub returns-in-Aiger : goal.returns-in-Aiger
returns-in-Aiger g c =
    rw c.in-Aiger.is
    (tells-made (Answers (host_specs c.args.self.now.hosts.now) Aiger c.args.source.now) c.convert_source.result
    (makes-aiger (host_specs c.args.self.now.hosts.now) c.args.source.now c.convert_source.result c.convert_source.ensures.text c.convert_source.ensures.refused) _ _ c.write_made-in-Aiger.ensures)

pub returns-in-Recheck : goal.returns-in-Recheck
returns-in-Recheck g c =
    rw c.in-Recheck.is
    (tells-made (Answers (host_specs c.args.self.now.hosts.now) (Recheck c.in-Recheck.cycles) c.args.source.now) c.recheck_source.result
    (makes-recheck (host_specs c.args.self.now.hosts.now) c.in-Recheck.cycles c.args.source.now c.recheck_source.result c.recheck_source.ensures.text c.recheck_source.ensures.refused) _ _ c.write_made-in-Recheck.ensures)
