-- A journal is good or has one first fault, and never both.
use Rattle.std.proofs.Common.{◌≡◌, ℕ, List, [], ◌∷◌, ◌++◌, length, refl, sym, ap, ap₂, ◌∙◌, subst, inl, inr}
use Rattle.std.specs.Prelude.{map, slice_index_or}
use Rattle.std.specs.List.{AllByRecursion}
use Rattle.kw_bits.specs.BitVector.{BitVector}
use Rattle.kw_base.specs.declared.fault.Fault.{Fault}
use Rattle.typed_core.specs.declared.design.Parts.{Parts}
use Rattle.one_rule.specs.Stimulus.{InputVectors}
use Rattle.attempt_log.specs.declared.entry.Entry.{Entry}
use Rattle.attempt_log.specs.declared.entry.Entry.TheVariants as entry
use Rattle.board_core.specs.Board.{Board, Opening, opened, run_events, step}
use Rattle.board_core.specs.History.{IsLegal, SubmitsFor, event_of, events_of, told_by, told_of}
use Rattle.board_core.specs.Laws.{IsTraced}
use Rattle.board_core.proofs.Histories.{head_or, tail_of}
use Rattle.journal_check.specs.CheckingLaws.{OneFirstFault, NeverGoodAndFaulty}
use Rattle.journal_check.specs.Checking.{AreGood, IsFaultFrom, IsFaultOf, IsFaultOfEntries, IsFirstWrong, IsGoodBatch, IsWrongEntry, at_line, left_by, opening_of}
use Rattle.journal_check.specs.declared.journal.Batch.{Batch}

-- ---- an entry of a legal history isn't wrong

-- it may be submitted, and its answer is the board's
record IsRight (o : Opening) (board : Board) (e : Entry) : Type 0 where
  attempt : SubmitsFor o (event_of o.design e)
  answer : told_by e ≡ told_of (step o board (event_of o.design e)).answer

right_at : (o : Opening) (board : Board) (before : List Entry) (e : Entry) (rest : List Entry) → AllByRecursion (SubmitsFor o) (events_of o (before ++ e ∷ rest)) → map told_by (before ++ e ∷ rest) ≡ map told_of (run_events o board (events_of o (before ++ e ∷ rest))).answers
    → IsRight o (run_events o board (events_of o before)).board e
right_at o board [] e rest all same = record { attempt = all.0; answer = ap (head_or (told_by e)) same }
right_at o board (x ∷ before) e rest all same = right_at o (step o board (event_of o.design x)).board before e rest all.1 (ap tail_of same)

traced_by : (o : Opening) (e : Entry) → SubmitsFor o (event_of o.design e) → IsTraced o e
traced_by o (entry.Submit worker cycle rule inputs events outcome answer) is = (is.attempt.rule, is.is_for.inputs, is.attempt.trace)
traced_by o (entry.Settle worker answer) is = tt

not_wrong : (o : Opening) (before : List Entry) (e : Entry) (rest : List Entry) (number : ℕ) → IsLegal o (before ++ e ∷ rest) → IsWrongEntry o before e number → ⊥
not_wrong o before e rest number legal wrong =
    let right = right_at o (opened o) before e rest legal.attempts legal.answers in
    elim wrong [ inl w ↦ w.1 (traced_by o e right.attempt) | inr w ↦ w.2 right.answer ]

legal_first : (o : Opening) (batch : Batch) (fault : Fault) → IsLegal o batch.entries → IsFirstWrong o batch fault → ⊥
legal_first o batch fault legal first =
    not_wrong o first.before first.entry first.rest first.number (subst (IsLegal o) first.entries legal) first.wrong

-- ---- good and faulty

good_batch : (n from : ℕ) (o : Opening) (batch : Batch) (fault : Fault) → IsGoodBatch n from o batch → IsFaultOf n from o batch fault → ⊥
good_batch n from o batch fault good wrong = elim wrong [ inl undue ↦ undue.0 good.due | inr due ↦ of_entries due.1 ]
  where
    of_entries : IsFaultOfEntries o batch fault → ⊥
    of_entries w = elim w [ inl first ↦ legal_first o batch fault good.legal first | inr left ↦ left.1 good.closes ]

never_good_and_faulty : (design : Parts) (stimulus : InputVectors) (n line from : ℕ) (regs : List BitVector) (batches : List Batch) (fault : Fault) → AreGood design stimulus n from regs batches → IsFaultFrom design stimulus n line from regs batches fault → ⊥
never_good_and_faulty design stimulus n line from regs [] fault good wrong = wrong.0 good
never_good_and_faulty design stimulus n line from regs (batch ∷ batches) fault good wrong =
    let o = opening_of design stimulus regs batch in
    elim wrong [
      | inl here ↦ good_batch n from o batch fault good.0 here
      | inr later ↦ never_good_and_faulty design stimulus n line batch.to (left_by o batch.entries) batches fault good.1 later.1
    ]

-- ---- one first fault

-- of two places in a list they are the same, or one is before the other
data Places (xs : List Entry) (e : Entry) (ys : List Entry) (f : Entry) : Type 0 where
  Same : xs ≡ ys → e ≡ f → Places xs e ys f
  Before : (t : List Entry) → ys ≡ xs ++ e ∷ t → Places xs e ys f
  After : (t : List Entry) → xs ≡ ys ++ f ∷ t → Places xs e ys f

further : (x y : Entry) (xs : List Entry) (e : Entry) (ys : List Entry) (f : Entry) → x ≡ y → Places xs e ys f → Places (x ∷ xs) e (y ∷ ys) f
further x y xs e ys f same (Same is one) = Same (ap₂ (λ (z : Entry) (zs : List Entry). z ∷ zs) same is) one
further x y xs e ys f same (Before t is) = Before t (ap₂ (λ (z : Entry) (zs : List Entry). z ∷ zs) (sym same) is)
further x y xs e ys f same (After t is) = After t (ap₂ (λ (z : Entry) (zs : List Entry). z ∷ zs) same is)

places : (xs : List Entry) (e : Entry) (r ys : List Entry) (f : Entry) (s : List Entry) → xs ++ e ∷ r ≡ ys ++ f ∷ s → Places xs e ys f
places [] e r [] f s is = Same refl cc
places [] e r (y ∷ ys) f s is = let head : y ≡ e = cc in Before ys (ap (λ (z : Entry). z ∷ ys) head)
places (x ∷ xs) e r [] f s is = let head : x ≡ f = cc in After xs (ap (λ (z : Entry). z ∷ xs) head)
places (x ∷ xs) e r (y ∷ ys) f s is =
    let head : x ≡ y = cc in
    let tail : xs ++ e ∷ r ≡ ys ++ f ∷ s = cc in
    further x y xs e ys f head (places xs e r ys f s tail)

one_number : (o : Opening) (log : List Entry) (e : Entry) (a b : ℕ) → IsWrongEntry o log e a → IsWrongEntry o log e b → a ≡ b
one_number o log e a b (inl p) (inl q) = p.0 ∙ sym q.0
one_number o log e a b (inl p) (inr q) = absurd (p.1 q.1)
one_number o log e a b (inr p) (inl q) = absurd (q.1 p.1)
one_number o log e a b (inr p) (inr q) = p.0 ∙ sym q.0

one_first : (o : Opening) (batch : Batch) (a b : Fault) → IsFirstWrong o batch a → IsFirstWrong o batch b → a ≡ b
one_first o batch a b p q = by (places p.before p.entry p.rest q.before q.entry q.rest (sym p.entries ∙ q.entries))
  where
    by : Places p.before p.entry q.before q.entry → a ≡ b
    by (Same is one) =
        let number : p.number ≡ q.number = one_number o q.before q.entry p.number q.number (subst (λ (log : List Entry). IsWrongEntry o log q.entry p.number) is (subst (λ (e : Entry). IsWrongEntry o p.before e p.number) one p.wrong)) q.wrong in
        p.fault_is ∙ ap₂ (λ (m : ℕ) (log : List Entry). at_line m (slice_index_or batch.lines (length log) 0)) number is ∙ sym q.fault_is
    by (Before t is) = absurd (not_wrong o p.before p.entry t p.number (subst (IsLegal o) is q.legal) p.wrong)
    by (After t is) = absurd (not_wrong o q.before q.entry t q.number (subst (IsLegal o) is p.legal) q.wrong)

one_of_entries : (o : Opening) (batch : Batch) (a b : Fault) → IsFaultOfEntries o batch a → IsFaultOfEntries o batch b → a ≡ b
one_of_entries o batch a b (inl p) (inl q) = one_first o batch a b p q
one_of_entries o batch a b (inl p) (inr q) = absurd (legal_first o batch a q.0 p)
one_of_entries o batch a b (inr p) (inl q) = absurd (legal_first o batch b p.0 q)
one_of_entries o batch a b (inr p) (inr q) = p.2 ∙ sym q.2

one_of_batch : (n from : ℕ) (o : Opening) (batch : Batch) (a b : Fault) → IsFaultOf n from o batch a → IsFaultOf n from o batch b → a ≡ b
one_of_batch n from o batch a b (inl p) (inl q) = p.1 ∙ sym q.1
one_of_batch n from o batch a b (inl p) (inr q) = absurd (p.0 q.0)
one_of_batch n from o batch a b (inr p) (inl q) = absurd (q.0 p.0)
one_of_batch n from o batch a b (inr p) (inr q) = one_of_entries o batch a b p.1 q.1

one_fault : (design : Parts) (stimulus : InputVectors) (n line from : ℕ) (regs : List BitVector) (batches : List Batch) (a b : Fault) → IsFaultFrom design stimulus n line from regs batches a → IsFaultFrom design stimulus n line from regs batches b → a ≡ b
one_fault design stimulus n line from regs [] a b p q = p.1 ∙ sym q.1
one_fault design stimulus n line from regs (batch ∷ batches) a b (inl p) (inl q) = one_of_batch n from (opening_of design stimulus regs batch) batch a b p q
one_fault design stimulus n line from regs (batch ∷ batches) a b (inl p) (inr q) = absurd (good_batch n from (opening_of design stimulus regs batch) batch a q.0 p)
one_fault design stimulus n line from regs (batch ∷ batches) a b (inr p) (inl q) = absurd (good_batch n from (opening_of design stimulus regs batch) batch b p.0 q)
one_fault design stimulus n line from regs (batch ∷ batches) a b (inr p) (inr q) =
    one_fault design stimulus n line batch.to (left_by (opening_of design stimulus regs batch) batch.entries) batches a b p.1 q.1

pub good_excludes_faults : NeverGoodAndFaulty
good_excludes_faults design stimulus n journal fault good wrong =
    never_good_and_faulty design stimulus n journal.line 0 _ journal.batches fault good wrong

pub one_first_fault : OneFirstFault
one_first_fault design stimulus n journal a b p q = one_fault design stimulus n journal.line 0 _ journal.batches a b p q
