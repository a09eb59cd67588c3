use Rattle.circuit_eval.proofs.Programs.{of_two}
use Rattle.circuit_eval.proofs.program.step_of_two.Goals as goal

pub width-requires : goal.width-requires
width-requires c =
    let h = c.requires.has in (of_two c.args.net.now h.0 c.args.a c.args.b c.args.operator c.requires.net h.1).first.within

pub width-requires-in-Sub : goal.width-requires-in-Sub
width-requires-in-Sub c =
    let h = c.requires.has in (of_two c.args.net.now h.0 c.args.a c.args.b c.args.operator c.requires.net h.1).first.within

pub width-requires-in-Mul : goal.width-requires-in-Mul
width-requires-in-Mul c =
    let h = c.requires.has in (of_two c.args.net.now h.0 c.args.a c.args.b c.args.operator c.requires.net h.1).first.within

pub width-requires-in-Concat : goal.width-requires-in-Concat
width-requires-in-Concat c =
    let h = c.requires.has in (of_two c.args.net.now h.0 c.args.a c.args.b c.args.operator c.requires.net h.1).first.within

pub width-requires-in-Concat-2 : goal.width-requires-in-Concat-2
width-requires-in-Concat-2 c =
    let h = c.requires.has in (of_two c.args.net.now h.0 c.args.a c.args.b c.args.operator c.requires.net h.1).second.within

pub width-requires-then-width-le64 : goal.width-requires-then-width-le64
width-requires-then-width-le64 c =
    let h = c.requires.has in (of_two c.args.net.now h.0 c.args.a c.args.b c.args.operator c.requires.net h.1).second.within
