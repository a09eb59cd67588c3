use Rattle.std.proofs.Common.{◌&&◌, ◌||◌}
use Rattle.aig_blast.specs.Graphs.{xor}
use Rattle.aig_blast.proofs.Gates.{Makes-given, Makes-kept, Makes-by}
use Rattle.aig_blast.proofs.graph.Graph.full_adder.Goals as goal

pub returns-clause-sum : goal.returns-clause-sum
returns-clause-sum c =
    let half = c.in_ok-half.ensures in
    let carry = Makes-given c.args.carry half.keeps c.requires.carry in
    Makes-kept (Makes-kept (Makes-kept (Makes-by xor half carry c.in_ok-sum.ensures) c.in_ok-both.ensures.keeps) c.in_ok-passed.ensures.keeps) c.in_ok-carried.ensures.keeps

pub returns-clause-carry : goal.returns-clause-carry
returns-clause-carry c =
    let half = Makes-kept c.in_ok-half.ensures c.in_ok-sum.ensures.keeps in
    let a = Makes-given c.args.a half.keeps c.requires.a in
    let b = Makes-given c.args.b half.keeps c.requires.b in
    let both = Makes-by (λ x y. x && y) a b c.in_ok-both.ensures in
    let carry = Makes-given c.args.carry both.keeps c.requires.carry in
    let passed = Makes-by (λ x y. x && y) carry (Makes-kept half c.in_ok-both.ensures.keeps) c.in_ok-passed.ensures in
    Makes-by (λ x y. x || y) (Makes-kept both c.in_ok-passed.ensures.keeps) passed c.in_ok-carried.ensures
