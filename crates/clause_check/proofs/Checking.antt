-- A refutation checked line by line.
use Rattle.std.proofs.Common.{◌≡◌, ℕ, true, cond, List, [], Option, Some, None, Result, Ok, Err, ap, ap₂, ◌∙◌}
use Rattle.std.specs.Result.{OnOk}
use Rattle.kw_base.specs.Fault.{IfFault}
use Rattle.kw_base.specs.declared.fault.Refusal.{Refusal}
use Rattle.kw_base.specs.Texts.{lines_of}
use Rattle.clause_check.specs.Clauses.{Cnf}
use Rattle.clause_check.specs.Lines.{tokens_of}
use Rattle.clause_check.specs.Refutations.{Progress, after_line, after_step, begin, fault_from, fault_in, fault_of}
use Rattle.clause_check.specs.Steps.{Step, step_of}
use Rattle.clause_check.specs.inner.Progresses.{IsFaultOf}
use Rattle.clause_check.proofs.Refusals.{passes_on}

-- a line makes what it says
pub line_makes : (variables : ℕ) (line : List ℕ) (p : Progress) (o : Option Step) → step_of variables (tokens_of line) ≡ o → after_line variables line p ≡ after_step o p
unfolding after_line
line_makes variables line p o is = ap (λ s. after_step s p) is

-- a call that returns as the line's step does
pub makes_ok : (r : Result (Unit {0}) Refusal) (x y : Result Progress ℕ) (q : Progress) → x ≡ y → OnOk r (y ≡ Ok q) → OnOk r (x ≡ Ok q)
makes_ok (Ok done) x y q same is = same ∙ is
makes_ok (Err e) x y q same is = is

pub makes_fault : (r : Result (Unit {0}) Refusal) (line : ℕ) (x y : Result Progress ℕ) → x ≡ y → IfFault r (IsFaultOf line y) → IfFault r (IsFaultOf line x)
makes_fault r line x y same is = passes_on r (IsFaultOf line y) (IsFaultOf line x) is (λ fault of. (of.0, of.1, same ∙ of.2))

-- before the first line
pub first_line_same : (formula : Cnf) (variables : ℕ) (p : Progress) (first_line : ℕ) (text : List ℕ) → variables ≡ formula.variables → p ≡ begin formula.clauses
    → fault_from variables p first_line (lines_of text) ≡ fault_of formula first_line text
unfolding fault_of
first_line_same formula variables p first_line text same begun = ap₂ (λ (v : ℕ) (q : Progress). fault_from v q first_line (lines_of text)) same begun

-- after the last one
pub ends_refuted : (variables : ℕ) (p : Progress) (number : ℕ) (lines : List (List ℕ)) → lines ≡ [] → p.is_refuted ≡ true → fault_from variables p number lines ≡ None
ends_refuted variables p number lines none is = ap (fault_from variables p number) none ∙ ap (λ t. cond t None (Some (fault_in 95 number))) is
