use Rattle.std.proofs.Common.{refl}
use Rattle.koika_check.proofs.Parameters.{empty-settled}
use Rattle.koika_check.proofs.checker.Checker.new.Goals as goal

pub returns-clause-settled : goal.returns-clause-settled
returns-clause-settled c =
    empty-settled _ (rw (c.new.ensures, c.new-2.ensures, c.new-3.ensures, c.new-4.ensures, c.new-5.ensures, c.new-6.ensures, c.new-7.ensures, c.new-8.ensures, c.new-9.ensures, c.new-10.ensures) refl)
    c.new-15.ensures c.new-16.ensures c.new-17.ensures c.new-18.ensures c.new-19.ensures c.new-14.ensures.none c.new-13.ensures.none
    c.new-11.ensures.kept c.new-11.ensures.none c.new-12.ensures.kept c.new-12.ensures.none c.new-14.ensures.kept c.new-13.ensures.kept c.requires

pub returns-clause-design : goal.returns-clause-design
returns-clause-design c = rw (c.new.ensures, c.new-2.ensures, c.new-3.ensures, c.new-4.ensures, c.new-5.ensures, c.new-6.ensures, c.new-7.ensures, c.new-8.ensures, c.new-9.ensures, c.new-10.ensures) refl
