-- What was done at a board grows by one call at a time.
use Rattle.std.proofs.Common.{◌≡◌, ◌<◌, ◌≤◌, ℕ, List, [], ◌∷◌, ◌++◌, refl, sym, ◌∙◌, subst, arith}
use Rattle.std.specs.Prelude.{IfOk, Result, Ok, Err}
use Rattle.attempt_log.specs.Attempt.{Attempted, IsAttempt}
use Rattle.kw_bits.specs.BitVector.{BitVector}
use Rattle.typed_core.specs.declared.access.Event.{Event}
use Rattle.typed_core.specs.declared.outcome.Outcome.{Outcome}
use Rattle.attempt_log.specs.Entries.{settle_entry, submit_entry, taken_of, worker_of}
use Rattle.attempt_log.specs.Setting.{IsFor}
use Rattle.attempt_log.specs.declared.entry.Entry.{Entry}
use Rattle.attempt_log.specs.declared.entry.Entry.TheVariants as entry
use Rattle.attempt_log.specs.declared.entry.Taken.{Taken}
use Rattle.attempt_log.specs.declared.entry.Settled.{Settled}
use Rattle.attempt_log.specs.declared.entry.Submitted.{Submitted}
use Rattle.attempt_log.specs.declared.job.Job.{Job}
use Rattle.attempt_log.specs.declared.job.JobAnswer.TheVariants as jobs
use Rattle.board_core.specs.Board.{Board, Opening, setting_of, settle, submit}
use Rattle.board_core.specs.Candidates.{Chooses}
use Rattle.board_core.specs.History.{GoesOn, IsLegal, board_after}
use Rattle.board_core.specs.Kept.{Does, Kept, StandsFor}
use Rattle.board_core.specs.declared.event.BoardAnswer.TheVariants as answer
use Rattle.board_core.proofs.Histories.{legal_goes_on}
use Rattle.board_lock.specs.Histories.{Each, InRun, IsCycle, IsPast, Leaves}
use Rattle.board_lock.proofs.Histories.{took_settle, took_submit}
use Rattle.board_lock.proofs.Ranges.{all_of, chosen_in, each_of, every-append, every-map, settle_in}
use Rattle.koika_top.specs.Histories.{AreBy}
use Rattle.koika_top.specs.inner.Histories.{IsRecord, IsWhole}

each-more : (P : Entry → Type 0) (entries : List Entry) (e : Entry) → Each P entries → P e → Each P (entries ++ e ∷ [])
each-more P entries e all one = each_of P (entries ++ e ∷ []) (every-append P entries (e ∷ []) (all_of P entries all) (one, tt))

-- an entry with which the board goes on
grown : (worker : ℕ) (entries : List Entry) (old new : Kept) (e : Entry) → IsRecord worker entries old → new.opening ≡ old.opening → GoesOn old.opening entries e → Leaves old.opening (entries ++ e ∷ []) new
    → worker_of e ≤ worker → InRun old.opening e → IsRecord worker (entries ++ e ∷ []) new
grown worker entries old new e so_far same goes leaves by in_run =
    record {
      legal = subst (λ (o : Opening). IsLegal o (entries ++ e ∷ [])) (sym same) (legal_goes_on old.opening entries e so_far.legal goes).0;
      leaves = subst (λ (o : Opening). Leaves o (entries ++ e ∷ []) new) (sym same) leaves;
      by = each-more (λ (x : Entry). worker_of x ≤ worker) entries e so_far.by by;
      in_run = subst (λ (o : Opening). Each (InRun o) (entries ++ e ∷ [])) (sym same) (each-more (InRun old.opening) entries e so_far.in_run in_run);
    }

pub settled : (worker : ℕ) (entries : List Entry) (old new : Kept) (told : Settled) → IsRecord worker entries old → Does settle old (answer.Settle told) new → new.opening ≡ old.opening
    → IsRecord worker (entries ++ settle_entry worker told ∷ []) new
settled worker entries old new told so_far does same =
    let took = took_settle old.opening entries old new worker told so_far.leaves so_far.legal does same in
    grown worker entries old new (settle_entry worker told) so_far same took.0 took.1 (omega arith) (settle_in old.opening worker told)

pub submitted : (worker : ℕ) (entries : List Entry) (old new : Kept) (a : Attempted) (told : Submitted) → IsRecord worker entries old → IsAttempt a → IsFor (setting_of old.opening) a → IsCycle old.opening a.cycle
    → Does (λ o board. submit o board a) old (answer.Submit told) new → new.opening ≡ old.opening → IsRecord worker (entries ++ submit_entry worker a told ∷ []) new
submitted worker entries old new a told so_far attempt fits in_run does same =
    let took = took_submit old.opening entries old new worker a a told so_far.leaves so_far.legal attempt fits does same refl in
    grown worker entries old new (submit_entry worker a told) so_far same took.0 took.1 (omega arith) (λ _. in_run)

-- what is noted of an attempt is its entry
pub noted : (entries new : List Entry) (worker : ℕ) (a : Attempted) (told : Submitted) (cycle rule : ℕ) (inputs : List BitVector) (events : List Event) (outcome : Outcome) (taken : Taken)
    → new ≡ entries ++ entry.Submit worker cycle rule inputs events outcome taken ∷ [] → cycle ≡ a.cycle → rule ≡ a.rule → inputs ≡ a.inputs → events ≡ a.run.events → outcome ≡ a.run.outcome → taken ≡ taken_of told
    → new ≡ entries ++ submit_entry worker a told ∷ []
noted entries new worker a told cycle rule inputs events outcome taken is c r x e o t =
    is ∙ (λ i. entries ++ entry.Submit worker (c i) (r i) (x i) (e i) (o i) (t i) ∷ [])

-- the job of the head is for a cycle that the board runs
pub head_in_run : (worker : ℕ) (entries : List Entry) (core : Kept) (job : Job) → IsRecord worker entries core → ((board : Board) → StandsFor core board → Chooses core.opening board 0 (jobs.Job job)) → IsCycle core.opening job.cycle
head_in_run worker entries core job so_far chooses = chosen_in core.opening entries 0 job (chooses (board_after core.opening entries) so_far.leaves.stands)

-- past the last cycle it is all
pub whole : (worker : ℕ) (entries : List Entry) (core : Kept) (o : Opening) → IsRecord worker entries core → core.opening.to < core.cycle → core.opening ≡ o → IsWhole worker o entries
whole worker entries core o so_far past same =
    subst (λ (p : Opening). IsWhole worker p entries) same
    (record {
      legal = so_far.legal;
      closes = omega (arith, past, so_far.leaves.stands.cycle);
      by = so_far.by;
      in_run = so_far.in_run;
    })

-- what workers did who are fewer, from the opening on
pub begun : (workers : ℕ) (entries seen : List Entry) (o : Opening) (core : Kept) → entries ≡ seen → Leaves o seen core → IsLegal o seen → Each (λ (e : Entry). worker_of e < workers) entries → Each (InRun o) entries → IsRecord workers entries core
begun workers entries seen o core is leaves legal below in_run =
    record {
      legal = subst (λ (p : Opening). IsLegal p entries) (sym leaves.opening) (subst (IsLegal o) (sym is) legal);
      leaves = subst (λ (p : Opening). Leaves p entries core) (sym leaves.opening) (subst (λ (h : List Entry). Leaves o h core) (sym is) leaves);
      by = each_of (λ (e : Entry). worker_of e ≤ workers) entries (every-map (λ (e : Entry). worker_of e < workers) (λ (e : Entry). worker_of e ≤ workers) entries (λ e less. omega (arith, less)) (all_of (λ (e : Entry). worker_of e < workers) entries below));
      in_run = subst (λ (p : Opening). Each (InRun p) entries) (sym leaves.opening) in_run;
    }

-- what follows from what a call returns
pub if_ok : {X E : Type 0} (r : Result X E) (P Q : X → Type 0) → ((x : X) → P x → Q x) → IfOk r P → IfOk r Q
if_ok (Ok x) P Q f h = f x h
if_ok (Err e) P Q f h = tt

-- what was done in all, part by part
pub whole_of : {X E : Type 0} (r : Result X E) (entries : X → List Entry) (worker : ℕ) (o p : Opening) → o ≡ p → IfOk r (λ x. IsLegal o (entries x)) → IfOk r (λ x. IsPast o (entries x)) → IfOk r (λ x. AreBy worker (entries x))
    → IfOk r (λ x. Each (InRun o) (entries x)) → IfOk r (λ x. IsWhole worker p (entries x))
whole_of (Ok x) entries worker o p same legal closes by in_run = subst (λ (q : Opening). IsWhole worker q (entries x)) same (record { legal = legal; closes = closes; by = by; in_run = in_run })
whole_of (Err e) entries worker o p same legal closes by in_run = tt
