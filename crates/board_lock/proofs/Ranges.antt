-- The jobs of a board are for cycles of its run.
use Rattle.std.proofs.Common.{◌≡◌, ℕ, zero, suc, ◌+◌, ◌-◌, ◌<◌, ◌≤◌, Bool, true, false, true≢false, cond, eq-eqb, ne_eqb, List, [], ◌∷◌, ◌++◌, Option, Some, None, refl, sym, ap, ◌∙◌, subst, arith}
use Rattle.std.specs.Prelude.{◌==◌, IfOk, OnErr, Ok, Err, Result, filter, flat_map, map, min, slice_get}
use Rattle.std.specs.List.{AllByRecursion, enumerate_from, range_with_len}
use mathlib.Core.Logic.{dite}
use native.Mathlib.Decide.{ℕ_discrete}
use Rattle.typed_core.specs.declared.design.Next.{Next}
use Rattle.typed_core.specs.declared.design.Next.TheVariants as next
use Rattle.typed_core.specs.declared.design.Node.{Node}
use Rattle.attempt_log.specs.declared.entry.Entry.{Entry}
use Rattle.attempt_log.specs.declared.job.Job.{Job}
use Rattle.attempt_log.specs.declared.job.JobAnswer.{JobAnswer}
use Rattle.attempt_log.specs.declared.job.JobAnswer.TheVariants as answer
use Rattle.attempt_log.specs.declared.seat.Task.{Task}
use Rattle.attempt_log.specs.Attempt.{Attempted}
use Rattle.attempt_log.specs.Entries.{settle_entry, submit_entry, worker_of}
use Rattle.attempt_log.specs.Seats.{last_task}
use Rattle.attempt_log.specs.Setting.{task_of}
use Rattle.attempt_log.specs.declared.entry.Settled.{Settled}
use Rattle.attempt_log.specs.declared.entry.Submitted.{Submitted}
use Rattle.kw_bits.specs.declared.memory.NoMemory.{NoMemory}
use Rattle.board_core.specs.Board.{Board, Opening, head, opened}
use Rattle.board_core.specs.Candidates.{Chooses, candidates, cycles, first, further, is_further, pair_at, pair_of, pairs}
use Rattle.board_lock.specs.Histories.{Each, InRun, IsCycle, by}
use Rattle.board_lock.specs.Plays.{grown}
use Rattle.board_lock.specs.declared.view.Part.{Part}
use Rattle.board_core.specs.History.{board_after, events_of}
use Rattle.board_lock.proofs.Histories.{run_cycle}

-- ---- every element of a list

module _ {A : Type 0} (P : A → Type 0) where
  pub every-append : (xs ys : List A) → AllByRecursion P xs → AllByRecursion P ys → AllByRecursion P (xs ++ ys)
  every-append [] ys a b = b
  every-append (x ∷ xs) ys a b = (a.0, every-append xs ys a.1 b)

  every-filter : (f : A → Bool) (xs : List A) → AllByRecursion P xs → AllByRecursion P (filter f xs)
  every-filter f [] a = tt
  every-filter f (x ∷ xs) a = pick (f x) (every-filter f xs a.1)
    where
      pick : (b : Bool) → AllByRecursion P (filter f xs) → AllByRecursion P (cond b (x ∷ filter f xs) (filter f xs))
      pick true h = (a.0, h)
      pick false h = h

  pub at_every : (xs : List A) (i : ℕ) (x : A) → AllByRecursion P xs → slice_get xs i ≡ Some x → P x
  at_every [] i x a e = absurd (omega (arith, ap is e))
    where
      is : Option A → ℕ
      is None = 0
      is (Some y) = 1
  at_every (y ∷ ys) zero x a e = subst P (ap inside e) a.0
    where
      inside : Option A → A
      inside None = y
      inside (Some z) = z
  at_every (y ∷ ys) (suc i) x a e = at_every ys i x a.1 e

-- ---- candidates

-- the list comes first, so that its type is known
abbrev Every : {A : Type 0} → List A → (A → Type 0) → Type 0
Every xs P = AllByRecursion P xs

pairs_in : (o : Opening) (cycle n : ℕ) (nodes : List Node) → IsCycle o cycle → Every (map (pair_of cycle) (enumerate_from n nodes)) (λ c. IsCycle o c.cycle)
pairs_in o cycle n [] is = tt
pairs_in o cycle n (node ∷ nodes) is = (is, pairs_in o cycle (n + 1) nodes is)

pair_in : (o : Opening) (cycle : ℕ) (at : Next) (node : Option Node) → IsCycle o cycle → Every (pair_at cycle at node) (λ c. IsCycle o c.cycle)
pair_in o cycle next.End _ is = tt
pair_in o cycle (next.Node n) None is = tt
pair_in o cycle (next.Node n) (Some node) is = (is, tt)

further_in : (o : Opening) (b : Board) (start len : ℕ) → o.from < start → start + len ≤ o.to + 1 → Every (flat_map (further o b) (range_with_len start len)) (λ c. IsCycle o c.cycle)
further_in o b start zero low high = tt
further_in o b start (suc len) low high =
    every-append _ (further o b start) (flat_map (further o b) (range_with_len (start + 1) len))
    (every-filter _ (is_further b) (pairs o.design.nodes start) (pairs_in o start 0 o.design.nodes (low, omega (arith, high))))
    (further_in o b (start + 1) len (omega (arith, low)) (omega (arith, high)))

candidates_in : (o : Opening) (b : Board) → o.from < b.cycle → b.cycle ≤ o.to → Every (candidates o b) (λ c. IsCycle o c.cycle)
candidates_in o b low high =
    every-append _ (first o b) (flat_map (further o b) (cycles o b))
    (every-filter _ _ (pair_at b.cycle b.walk.at (head o b)) (pair_in o b.cycle b.walk.at (head o b) (low, high)))
    (further_in o b b.cycle (min o.window (o.to + 1 - b.cycle)) low (omega (arith, high)))

-- a job that is chosen on the board of a history is for a cycle of the run
pub chosen_in : (o : Opening) (log : List Entry) (pick : ℕ) (job : Job) → Chooses o (board_after o log) pick (answer.Job job) → IsCycle o job.cycle
chosen_in o log pick job c =
    let b : Board = board_after o log in
    let begun = run_cycle o (opened o) (events_of o log) in
    subst (IsCycle o) (sym c.3.cycle) (at_every _ (candidates o b) _ c.1 (candidates_in o b (omega (arith, begun)) c.0) c.2.1)

-- the last job of a seat is for a cycle of the run
abbrev IsTask : Opening → Option Task → Type 0
IsTask o task = (t : Task) → task ≡ Some t → IsCycle o t.cycle

pub task_in : (o : Opening) (log : List Entry) (pick : ℕ) (r : Result JobAnswer NoMemory) (old new : Option Task) → IsTask o old → IfOk r (Chooses o (board_after o log) pick) → IfOk r (λ told. new ≡ last_task old told) → OnErr r (new ≡ old) → IsTask o new
task_in o log pick (Err e) old new is choice next same t here = is t (sym same ∙ here)
task_in o log pick (Ok (answer.Job j)) old new is choice next same t here = subst (IsCycle o) (ap cycle (sym next ∙ here)) (chosen_in o log pick j choice)
  where
    cycle : Option Task → ℕ
    cycle None = 0
    cycle (Some x) = x.cycle
task_in o log pick (Ok answer.Idle) old new is choice next same t here = is t (sym next ∙ here)
task_in o log pick (Ok answer.Finished) old new is choice next same t here = is t (sym next ∙ here)

-- the attempt at it, as an entry
pub submit_in : (o : Opening) (worker : ℕ) (a : Attempted) (r : Submitted) (task : Option Task) → IsTask o task → task ≡ Some (task_of a) → InRun o (submit_entry worker a r)
submit_in o worker a r task is same _ = is (task_of a) same

pub settle_in : (o : Opening) (worker : ℕ) (r : Settled) → InRun o (settle_entry worker r)
settle_in o worker r e = absurd (true≢false (sym e))

-- ---- entries one by one

pub all_of : (P : Entry → Type 0) (xs : List Entry) → Each P xs → AllByRecursion P xs
all_of P [] h = tt
all_of P (x ∷ xs) h = (h 0 x refl, all_of P xs (λ i e there. h (suc i) e there))

pub each_of : (P : Entry → Type 0) (xs : List Entry) → AllByRecursion P xs → Each P xs
each_of P xs all i e there = at_every P xs i e all there

pub grown_in : (old new : Opening) (p q : Part) (e : Entry) → new ≡ old → q ≡ grown p e → Each (InRun old) p.own → InRun old e → Each (InRun new) q.own
grown_in old new p q e same more all one =
    each_of (InRun new) q.own (subst (λ (z : Opening × Part). AllByRecursion (InRun z.0) z.1.own) (λ i. (sym same i, sym more i)) (every-append (InRun old) p.own (e ∷ []) (all_of (InRun old) p.own all) (one, tt)))

-- ---- entries by worker

pub every_by : (P : Entry → Type 0) (h : List Entry) → ((n : ℕ) → AllByRecursion P (by n h)) → AllByRecursion P h
every_by P [] all = tt
every_by P (e ∷ es) all = (here (all (worker_of e)), every_by P es (λ n. rest (worker_of e == n) (by n es) (all n)))
  where
    here : AllByRecursion P (by (worker_of e) (e ∷ es)) → P e
    here a = (subst (λ (b : Bool). AllByRecursion P (cond b (e ∷ by (worker_of e) es) (by (worker_of e) es))) (eq-eqb (worker_of e) (worker_of e) refl) a).0

    rest : (b : Bool) (xs : List Entry) → AllByRecursion P (cond b (e ∷ xs) xs) → AllByRecursion P xs
    rest true xs a = a.1
    rest false xs a = a

pub by_all : (n : ℕ) (h : List Entry) → AllByRecursion (λ (e : Entry). worker_of e ≡ n) (by n h)
by_all n [] = tt
by_all n (e ∷ es) = dite (ℕ_discrete (worker_of e) n)
    (λ is. subst (λ (b : Bool). AllByRecursion (λ (x : Entry). worker_of x ≡ n) (cond b (e ∷ by n es) (by n es))) (sym (eq-eqb (worker_of e) n is)) (is, by_all n es))
    (λ ne. subst (λ (b : Bool). AllByRecursion (λ (x : Entry). worker_of x ≡ n) (cond b (e ∷ by n es) (by n es))) (sym (ne_eqb (worker_of e) n ne)) (by_all n es))

pub every-map : {A : Type 0} (P Q : A → Type 0) (xs : List A) → ((x : A) → P x → Q x) → AllByRecursion P xs → AllByRecursion Q xs
every-map P Q [] f a = tt
every-map P Q (x ∷ xs) f a = (f x a.0, every-map P Q xs f a.1)
