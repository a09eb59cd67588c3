-- Each step of the lock keeps its rule.
use Rattle.std.proofs.Common.{◌≡◌, ℕ, zero, suc, ◌+◌, ◌%◌, ◌^◌, ◌<◌, ◌≤◌, ◌≢◌, Bool, true, false, true≢false, cond, eqb, eq-eqb, ne_eqb, List, [], ◌∷◌, ◌++◌, length, get_or, set, sym, refl, ap, ◌∙◌, subst, ⊎_elim, arith, Option, Some, length-set, length-append, append_assoc, append-nil, get_or-set_same, get_or-set_other}
use mathlib.Core.Logic.{dite}
use mathlib.Core.Option.{some, none, some-injective, some-ne-none}
use mathlib.Core.Option as home
use native.Mathlib.Decide.{ℕ_discrete}
use lib.ListN.{get_elem?}
use lib.Seq.{set-get_or}
use Rattle.atomic_table.specs.Table.{State, Me, step, keeps, takes, gives, stepped, Allows}
use Rattle.atomic_table.proofs.Lists.{at_set, set_here, set_else, set_again, one_turn}
use Rattle.attempt_log.specs.declared.entry.Entry.{Entry}
use Rattle.board_core.specs.Board.{Opening}
use Rattle.board_core.specs.History.{IsLegal}
use Rattle.board_core.specs.Kept.{Kept}
use Rattle.board_lock.specs.Histories.{Leaves, StartsWith, by}
use Rattle.attempt_log.specs.Entries.{worker_of}
use Rattle.board_lock.specs.inner.Rule.{total, has_ticket, any_ticket, is_holding, Knows, Fits, ticket_of, any_of, live_of, owner_of, number_of, RoleFits, AllOutside, Rule}
use Rattle.board_lock.specs.Plays.{at_stage, having_seen, held, grown, knowing, IsWorker, drew, looked, added, gave, gave_seen}
use Rattle.board_lock.specs.declared.view.Part.{Part}
use Rattle.board_lock.proofs.Own.{by_same, by_other, starts_later, starts_through}
use Rattle.board_lock.specs.declared.view.View.{View}
use Rattle.board_lock.specs.declared.view.Stage.{Stage}
use Rattle.board_lock.specs.declared.view.Stage.TheVariants.{Outside, Waiting, Holding}
use Rattle.board_lock.proofs.Sums.{total-set, term_le, terms_le, total-zero, total-le}

abbrev pub St : Type 0
St = State (Option Kept) View

pub lies : (views : List View) (id : ℕ) (v : View) → get_elem? views id ≡ some v → id < length views
lies [] id v e = absurd (some-ne-none v (sym e))
lies (x ∷ xs) zero v e = omega arith
lies (x ∷ xs) (suc id) v e = omega (arith, lies xs id v e)

-- fewer than 2^32 tickets are out
bound : (start : Opening) (s : St) (k : Rule start s) → k.drawn < k.served + 2 ^ 32
bound start s k = omega (arith, k.waiting, k.few, k.lives, total-le any_of live_of s.views k.idle)

pub yes : (n m : ℕ) → m ≡ n → ◌≡◌ {A = ℕ} (cond (eqb m n) 1 0) 1
yes n m e = ap (λ b. cond b 1 0) (eq-eqb m n e)

pub no : (n m : ℕ) → m ≢ n → ◌≡◌ {A = ℕ} (cond (eqb m n) 1 0) 0
no n m ne = ap (λ b. cond b 1 0) (ne_eqb m n ne)

-- the views after a step of one seat
pub fits_set : (P : View → Type 0) (views : List View) (id : ℕ) (w : View) → P w → ((j : ℕ) (v : View) → j ≢ id → get_elem? views j ≡ some v → P v) → (j : ℕ) (v : View) → get_elem? (set views id w) j ≡ some v → P v
fits_set P views id w mine others j v e =
    ⊎_elim (λ (t : (j ≡ id) × (w ≡ v)). subst P t.1 mine) (λ (t : (j ≢ id) × (get_elem? views j ≡ some v)). others j v t.0 t.1) (at_set views id j w v e)

pub was_outside : (views : List View) (id : ℕ) (v w : View) → get_elem? views id ≡ some v → is_holding v.stage ≡ false → AllOutside (set views id w) → AllOutside views
was_outside views id v w at mine all j u e = dite (ℕ_discrete j id)
    (λ same. let here : some v ≡ some u = sym at ∙ (ap (get_elem? views) (sym same) ∙ e) in ap (λ (x : View). is_holding x.stage) (sym (some-injective v u here)) ∙ mine)
    (λ ne. all j u (set_else views id j w ne ∙ e))

was_out : (views : List View) (id : ℕ) (w : View) (homes : List (home.Option (Option Kept)))
    → ((j : ℕ) (v : View) → get_elem? views j ≡ some v → is_holding v.stage ≡ true → get_elem? homes 0 ≡ some none)
    → (is_holding w.stage ≡ true → get_elem? homes 0 ≡ some none)
    → (j : ℕ) (v : View) → get_elem? (set views id w) j ≡ some v → is_holding v.stage ≡ true → get_elem? homes 0 ≡ some none
was_out views id w homes others mine = fits_set (λ (v : View). is_holding v.stage ≡ true → get_elem? homes 0 ≡ some none) views id w mine (λ j v _ e. others j v e)

no_ticket_yet : (start : Opening) (s : St) (k : Rule start s) → total (ticket_of k.drawn) s.views ≡ 0
no_ticket_yet start s k = total-zero (ticket_of k.drawn) s.views (λ j v e. one v.stage (k.fits j v e).2)
  where
    one : (g : Stage) → Knows k.served k.drawn k.log g → has_ticket k.drawn g ≡ 0
    one Outside h = refl
    one (Waiting n) h = no k.drawn n (λ e. omega (arith, h.1))
    one (Holding n log) h = no k.drawn n (λ e. omega (arith, h.1))

-- the rule of the others when a ticket is drawn
later : (served drawn : ℕ) (log : List Entry) (g : Stage) → Knows served drawn log g → Knows served (drawn + 1) log g
later served drawn log Outside h = tt
later served drawn log (Waiting n) h = (h.0, omega (arith, h.1))
later served drawn log (Holding n l) h = (h.0, omega (arith, h.1), h.2)

live_here : (p : Part) → p.works ≡ true → 1 ≤ cond p.works 1 0 + cond p.owns 1 0
live_here p e = subst (λ b. 1 ≤ cond b 1 0 + cond p.owns 1 0) (sym e) (omega arith)

pub draws : (start : Opening) (slots id : ℕ) (m : Me (Option Kept) View) → m.0.stage ≡ Outside → m.0.part.works ≡ true → Allows (Rule start) slots id m 0 (λ n. (n + 1) % 2 ^ 64) (drew (step slots 0 1 0 none) m)
draws start slots id m outside working s k wide at small =
    let w : View = at_stage m.0 (Waiting k.drawn) in
    let v : View = m.0 in
    let n : ℕ = (get_or s.words 0 0 + 1) % 2 ^ 64 in
    let long = k.wide in (
      w,
      keeps,
      tt,
      record {
        log = k.log;
        drawn = k.drawn + 1;
        served = k.served;
        out = k.out;
        wide = length-set s.words 0 n ∙ k.wide;
        slots = k.slots;
        ticket = get_or-set_same s.words 0 n 0 (omega arith) ∙ omega (arith, k.ticket);
        serving = get_or-set_other s.words 0 1 n 0 (λ e. omega arith) ∙ k.serving;
        count = get_or-set_other s.words 0 2 n 0 (λ e. omega arith) ∙ k.count;
        waiting = omega (arith, total-set any_of s.views id v w at, ap any_ticket outside, k.waiting);
        few = k.few;
        lives = omega (arith, total-set live_of s.views id v w at, k.lives);
        idle = fits_set (λ (u : View). any_of u ≤ live_of u) s.views id w (live_here v.part working) (λ j u _ e. k.idle j u e);
        owners = omega (arith, total-set owner_of s.views id v w at, k.owners);
        numbers = λ i. omega (arith, total-set (number_of i) s.views id v w at, k.numbers i);
        roles = fits_set (λ (u : View). RoleFits k.out k.log u.seen u.part) s.views id w (k.roles id v at) (λ j u _ e. k.roles j u e);
        once = λ i. dite (ℕ_discrete k.drawn i)
            (λ e. let none-yet : total (ticket_of i) s.views ≡ 0 = ap (λ (x : ℕ). total (ticket_of x) s.views) (sym e) ∙ no_ticket_yet start s k in omega (arith, total-set (ticket_of i) s.views id v w at, none-yet, yes i k.drawn e))
            (λ ne. omega (arith, total-set (ticket_of i) s.views id v w at, k.once i, no i k.drawn ne));
        legal = k.legal;
        fits = fits_set (Fits start k.served (k.drawn + 1) k.log) s.views id w
            ((k.fits id v at).0, (k.fits id v at).1, (omega (arith, k.waiting), omega arith))
            (λ j u _ e. ((k.fits j u e).0, (k.fits j u e).1, later k.served k.drawn k.log u.stage (k.fits j u e).2));
        home = λ all. k.home (was_outside s.views id v w at (ap is_holding outside) all);
        away = was_out s.views id w s.homes k.away (λ e. absurd (true≢false (sym e)));
      },
      (k.drawn, k.ticket, refl),
    )

-- the board is there only for the one whose turn it is
alone : (start : Opening) (s : St) (k : Rule start s) (n : ℕ) (i j : ℕ) (v u : View) → j ≢ i → get_elem? s.views i ≡ some v → get_elem? s.views j ≡ some u → has_ticket n v.stage ≡ 1 → has_ticket n u.stage ≡ 1 → ⊥
alone start s k n i j v u apart at there mine theirs = omega (arith, terms_le (ticket_of n) s.views i j v u apart at there, k.once n, mine, theirs)

-- who holds the board has the ticket that is served
holder : (served drawn : ℕ) (log : List Entry) (g : Stage) → Knows served drawn log g → is_holding g ≡ true → has_ticket served g ≡ 1
holder served drawn log Outside h e = absurd (true≢false (sym e))
holder served drawn log (Waiting n) h e = absurd (true≢false (sym e))
holder served drawn log (Holding n l) h e = yes served n h.0

not_holding : (b : Bool) → (b ≡ true → ⊥) → b ≡ false
not_holding true h = absurd (h refl)
not_holding false h = refl

pub same_view : (views : List View) (i j : ℕ) (v u : View) → j ≡ i → get_elem? views i ≡ some v → get_elem? views j ≡ some u → u ≡ v
same_view views i j v u same at there = some-injective u v (sym there ∙ (ap (get_elem? views) same ∙ at))

-- while one waits whose turn it is, nobody holds the board
nobody : (start : Opening) (s : St) (k : Rule start s) (id : ℕ) (v : View) → get_elem? s.views id ≡ some v → v.stage ≡ Waiting k.served → AllOutside s.views
nobody start s k id v at is j u e = not_holding (is_holding u.stage) (λ holds. dite (ℕ_discrete j id)
    (λ same. true≢false (sym holds ∙ (ap (λ (x : View). is_holding x.stage) (same_view s.views id j v u same at e) ∙ ap is_holding is)))
    (λ apart. alone start s k k.served id j v u apart at e (ap (has_ticket k.served) is ∙ yes k.served k.served refl) (holder k.served k.drawn k.log u.stage (k.fits j u e).2 holds)))

waits : (start : Opening) (s : St) (k : Rule start s) (id n : ℕ) (v : View) → get_elem? s.views id ≡ some v → v.stage ≡ Waiting n → (k.served ≤ n) × (n < k.drawn)
waits start s k id n v at is = subst (Knows k.served k.drawn k.log) is (k.fits id v at).2

-- a load that changes nothing
pub unmoved : (start : Opening) (s : St) (k : Rule start s) (i id : ℕ) (m : Me (Option Kept) View) → get_elem? s.views id ≡ some m.0 → Rule start (stepped s i (get_or s.words i 0) id m.1 m.0 keeps)
unmoved start s k i id m at =
    subst (λ (x : List ℕ × List View). Rule start record { words = x.0; homes = s.homes; views = x.1 }) (λ h. (sym (set-get_or s.words i 0) h, sym (set_again s.views id m.0 at) h)) k

-- the turn has come: the seat takes the slot
takes_turn : (start : Opening) (s : St) (k : Rule start s) (id : ℕ) (v : View) (c : List (ℕ × Option Kept)) (b : Kept) → get_elem? s.views id ≡ some v → v.stage ≡ Waiting k.served → k.served < k.drawn
    → Rule start (stepped s 1 (get_or s.words 1 0) id c (at_stage v (Holding k.served k.log)) (takes 0 (Some b)))
takes_turn start s k id v c b at is near =
    let w : View = at_stage v (Holding k.served k.log) in
    let still = set-get_or s.words 1 0 in
    let gone = set_here s.homes 0 none (omega (arith, k.slots)) in
    subst (λ (ws : List ℕ). Rule start record { words = ws; homes = set s.homes 0 none; views = set s.views id w }) (sym still) record {
      log = k.log;
      drawn = k.drawn;
      served = k.served;
      out = k.out;
      wide = k.wide;
      slots = length-set s.homes 0 none ∙ k.slots;
      ticket = k.ticket;
      serving = k.serving;
      count = k.count;
      waiting = omega (arith, total-set any_of s.views id v w at, ap any_ticket is, k.waiting);
      few = k.few;
      lives = omega (arith, total-set live_of s.views id v w at, k.lives);
      idle = fits_set (λ (u : View). any_of u ≤ live_of u) s.views id w (let a = k.idle id v at in omega (arith, a, ap any_ticket is)) (λ j u _ e. k.idle j u e);
      owners = omega (arith, total-set owner_of s.views id v w at, k.owners);
      numbers = λ i. omega (arith, total-set (number_of i) s.views id v w at, k.numbers i);
      roles = fits_set (λ (u : View). RoleFits k.out k.log u.seen u.part) s.views id w (k.roles id v at) (λ j u _ e. k.roles j u e);
      once = λ i. omega (arith, total-set (ticket_of i) s.views id v w at, ap (has_ticket i) is, k.once i);
      legal = k.legal;
      fits = fits_set (Fits start k.served k.drawn k.log) s.views id w ((k.fits id v at).0, (k.fits id v at).1, (refl, near, refl)) (λ j u _ e. k.fits j u e);
      home = λ all. absurd (true≢false (all id w (set_here s.views id w (lies s.views id v at))));
      away = λ j u _ _. gone;
    }

pub looks : (start : Opening) (slots id : ℕ) (m : Me (Option Kept) View) (n : ℕ) → m.0.stage ≡ Waiting n → Allows (Rule start) slots id m 1 (λ x. x) (looked (step slots 1 0 0 none) m)
looks start slots id m n is s k wide at small =
    let near = waits start s k id n m.0 at is in
    let few = bound start s k in
    dite (ℕ_discrete (get_or s.words 1 0) (n % 2 ^ 64))
    (λ turn. let now : k.served ≡ n = one_turn k.served n (2 ^ 64) near.0 (omega (arith, near.1)) (sym k.serving ∙ turn) in
    let mine : m.0.stage ≡ Waiting k.served = is ∙ ap Waiting (sym now) in
    let start_is = (k.fits id m.0 at).0 in
    let there = k.home (nobody start s k id m.0 at mine) in (
      at_stage m.0 (Holding k.served k.log),
      takes 0 (Some there.0),
      there.1,
      takes_turn start s k id m.0 m.1 there.0 at mine (omega (arith, near.1)),
      λ t same. let here : k.served ≡ t = injective k.served t (sym mine ∙ same) in (
        (λ _. (k.log, there.0, subst (λ (x : Opening). Leaves x k.log there.0) (sym start_is) there.2, (λ i. (at_stage m.0 (Holding (here i) k.log), (0, Some there.0) ∷ m.1)), subst (λ (x : Opening). IsLegal x k.log) (sym start_is) k.legal, (k.fits id m.0 at).1, λ yes. ((k.roles id m.0 at).works yes).made)),
        (λ miss. absurd (miss (turn ∙ ap (λ (x : ℕ). x % 2 ^ 64) (sym now ∙ here)))),
      ),
    ))
    (λ miss. (
      m.0,
      keeps,
      tt,
      unmoved start s k 1 id m at,
      λ t same. let here : n ≡ t = injective n t (sym is ∙ same) in
          ((λ turn. absurd (miss (turn ∙ ap (λ (x : ℕ). x % 2 ^ 64) (sym here)))), λ _. refl),
    ))
  where
    number : Stage → ℕ
    number Outside = 0
    number (Waiting x) = x
    number (Holding x l) = x

    injective : (a b : ℕ) → Waiting a ≡ Waiting b → a ≡ b
    injective a b e = ap number e

-- the seat that holds the board, and no other, has the ticket that is served
holds_it : (start : Opening) (s : St) (k : Rule start s) (id n : ℕ) (h : List Entry) (v : View) → get_elem? s.views id ≡ some v → v.stage ≡ Holding n h → (n ≡ k.served) × (n < k.drawn) × (h ≡ k.log)
holds_it start s k id n h v at is = subst (Knows k.served k.drawn k.log) is (k.fits id v at).2

-- what the others know stays so when an entry is added
still : (served drawn : ℕ) (log : List Entry) (e : Entry) (g : Stage) → is_holding g ≡ false → Knows served drawn log g → Knows served drawn (log ++ e ∷ []) g
still served drawn log e Outside off h = tt
still served drawn log e (Waiting n) off h = h
still served drawn log e (Holding n l) off h = absurd (true≢false off)

-- it stays so when the next one is served
passed : (served drawn : ℕ) (log : List Entry) (g : Stage) → (has_ticket served g ≡ 1 → ⊥) → Knows served drawn log g → Knows (served + 1) drawn log g
passed served drawn log Outside other h = tt
passed served drawn log (Waiting n) other h = (dite (ℕ_discrete n served) (λ e. absurd (other (yes served n e))) (λ ne. let l = h.0 in omega arith), h.1)
passed served drawn log (Holding n l) other h = absurd (other (yes served n h.0))

-- the others hold nothing
others_off : (start : Opening) (s : St) (k : Rule start s) (id j : ℕ) (v u : View) → get_elem? s.views id ≡ some v → has_ticket k.served v.stage ≡ 1 → j ≢ id → get_elem? s.views j ≡ some u → (has_ticket k.served u.stage ≡ 1 → ⊥)
others_off start s k id j v u at mine apart there theirs = alone start s k k.served id j v u apart at there mine theirs

-- the number of one worker's seat is no other's
pub other_number : (start : Opening) (s : St) (k : Rule start s) (id j : ℕ) (v u : View) → get_elem? s.views id ≡ some v → j ≢ id → get_elem? s.views j ≡ some u → v.part.works ≡ true → u.part.works ≡ true → v.part.worker ≢ u.part.worker
other_number start s k id j v u at apart there mine theirs same =
    omega (arith, terms_le (number_of v.part.worker) s.views id j v u apart at there, k.numbers v.part.worker, one v mine refl, one u theirs (sym same))
  where
    one : (x : View) → x.part.works ≡ true → x.part.worker ≡ v.part.worker → number_of v.part.worker x ≡ 1
    one x e is = ap (λ b. cond b (cond (eqb x.part.worker v.part.worker) 1 0) 0) e ∙ yes v.part.worker x.part.worker is

-- what the others know of histories stays so when a worker adds an entry
bystander : (start : Opening) (s : St) (k : Rule start s) (id j : ℕ) (v u : View) (e : Entry) → get_elem? s.views id ≡ some v → j ≢ id → get_elem? s.views j ≡ some u → IsWorker v.part → (worker_of e) ≡ v.part.worker → RoleFits k.out (k.log ++ e ∷ []) u.seen u.part
bystander start s k id j v u e at apart there worker of =
    let r = k.roles j u there in
    let below = ((k.roles id v at).works worker.0).below in
    let apart_from : (n : ℕ) → k.out ≤ n → (worker_of e) ≢ n = λ n above same. omega (arith, below, above, sym of ∙ same) in
    record {
      works = λ w. let f = r.works w in let ne : (worker_of e) ≢ u.part.worker = λ same. other_number start s k id j v u at apart there worker.0 w (sym of ∙ same) in let is = by_other u.part.worker k.log e ne in
          record { below = f.below; based = f.based; made = is ∙ f.made; up = f.up ∙ sym is };
      owns = λ o. let f = r.owns o in record {
        is_out = f.is_out;
        top = f.top;
        was = starts_later k.log u.part.was (e ∷ []) f.was;
        rest = λ n top. by_other n k.log e (apart_from n (let t = f.top in omega (arith, t, top))) ∙ f.rest n top;
        up = λ n above. f.up n above ∙ sym (by_other n k.log e (apart_from n above));
        dones = λ i d is. let g = f.dones i d is in
            record { above = g.above; seen = starts_later k.log d.seen (e ∷ []) g.seen; based = g.based; made = by_other d.worker k.log e (apart_from d.worker g.above) ∙ g.made };
      };
    }

-- the worker that adds it has one more entry of its own
adder : (start : Opening) (s : St) (k : Rule start s) (id : ℕ) (v : View) (h : List Entry) (e : Entry) → get_elem? s.views id ≡ some v → h ≡ k.log → IsWorker v.part → (worker_of e) ≡ v.part.worker → RoleFits k.out (k.log ++ e ∷ []) (h ++ e ∷ []) (grown v.part e)
adder start s k id v h e at here worker of =
    let f = (k.roles id v at).works worker.0 in
    let p : Part = v.part in
    let same : h ++ e ∷ [] ≡ k.log ++ e ∷ [] = ap (λ (l : List Entry). l ++ e ∷ []) here in
    record {
      works = λ _. record {
        below = f.below;
        based = subst (λ (l : List Entry). StartsWith l p.base) (sym same) (starts_later k.log p.base (e ∷ []) (starts_through k.log v.seen p.base (k.fits id v at).1 f.based));
        made = by_same p.worker k.log e of ∙ (ap (λ (l : List Entry). l ++ e ∷ []) f.made ∙ append_assoc (by p.worker p.base) p.own (e ∷ []));
        up = ap (by p.worker) same;
      };
      owns = λ o. absurd (true≢false (sym o ∙ worker.1));
    }

pub adds : (start : Opening) (slots id : ℕ) (m : Me (Option Kept) View) (n : ℕ) (h : List Entry) (e : Entry) → m.0.stage ≡ Holding n h → IsLegal m.0.opened (h ++ e ∷ []) → IsWorker m.0.part → (worker_of e) ≡ m.0.part.worker → Allows (Rule start) slots id m 2 (λ x. (x + 1) % 2 ^ 64) (added e (step slots 2 1 0 none) m)
adds start slots id m n h e is legal worker of s k wide at small =
    let v : View = m.0 in
    let own : (n ≡ k.served) × (n < k.drawn) × (h ≡ k.log) = holds_it start s k id n h v at is in
    let w : View = knowing v (h ++ e ∷ []) e (Holding n (h ++ e ∷ [])) in
    let log : List Entry = k.log ++ e ∷ [] in
    let same : h ++ e ∷ [] ≡ log = ap (λ (l : List Entry). l ++ e ∷ []) own.2 in
    let x : ℕ = (get_or s.words 2 0 + 1) % 2 ^ 64 in
    let long = k.wide in
    let mine : has_ticket k.served v.stage ≡ 1 = ap (has_ticket k.served) is ∙ yes k.served n own.0 in (
      w,
      keeps,
      tt,
      record {
        log = log;
        drawn = k.drawn;
        served = k.served;
        out = k.out;
        wide = length-set s.words 2 x ∙ k.wide;
        slots = k.slots;
        ticket = get_or-set_other s.words 2 0 x 0 (λ i. omega arith) ∙ k.ticket;
        serving = get_or-set_other s.words 2 1 x 0 (λ i. omega arith) ∙ k.serving;
        count = get_or-set_same s.words 2 x 0 (omega arith) ∙ omega (arith, k.count, length-append k.log (e ∷ []));
        waiting = omega (arith, total-set any_of s.views id v w at, ap any_ticket is, k.waiting);
        few = k.few;
        lives = omega (arith, total-set live_of s.views id v w at, k.lives);
        idle = fits_set (λ (u : View). any_of u ≤ live_of u) s.views id w (let a = k.idle id v at in omega (arith, a, ap any_ticket is)) (λ j u _ e. k.idle j u e);
        owners = omega (arith, total-set owner_of s.views id v w at, k.owners);
        numbers = λ i. omega (arith, total-set (number_of i) s.views id v w at, k.numbers i);
        roles = fits_set (λ (u : View). RoleFits k.out log u.seen u.part) s.views id w (adder start s k id v h e at own.2 worker of) (λ j u apart there. bystander start s k id j v u e at apart there worker of);
        once = λ i. omega (arith, total-set (ticket_of i) s.views id v w at, ap (has_ticket i) is, k.once i);
        legal = subst (λ (z : Opening × List Entry). IsLegal z.0 z.1) (λ i. ((k.fits id v at).0 i, same i)) legal;
        fits = fits_set (Fits start k.served k.drawn log) s.views id w
            ((k.fits id v at).0, ([], sym same ∙ sym (append-nil (h ++ e ∷ []))), (own.0, own.1, same))
            (λ j u apart there. let f = k.fits j u there in let off = not_holding (is_holding u.stage) (λ holds. others_off start s k id j v u at mine apart there (holder k.served k.drawn k.log u.stage f.2 holds)) in
            (f.0, (f.1.0 ++ e ∷ [], ap (λ (l : List Entry). l ++ e ∷ []) f.1.1 ∙ append_assoc u.seen f.1.0 (e ∷ [])), still k.served k.drawn k.log e u.stage off f.2));
        home = λ all. absurd (true≢false (all id w (set_here s.views id w (lies s.views id v at))));
        away = was_out s.views id w s.homes k.away (λ _. k.away id v at (ap is_holding is));
      },
      λ t l here. let n_is : n ≡ t = ap number (sym is ∙ here) in let l_is : h ≡ l = ap held (sym is ∙ here) in
          (k.count ∙ ap (λ (y : List Entry). length y % 2 ^ 64) (sym own.2 ∙ l_is), λ i. (knowing v (l_is i ++ e ∷ []) e (Holding (n_is i) (l_is i ++ e ∷ [])), m.1)),
    )
  where
    number : Stage → ℕ
    number Outside = 0
    number (Waiting y) = y
    number (Holding y l) = y

    held : Stage → List Entry
    held Outside = []
    held (Waiting y) = []
    held (Holding y l) = l

-- a seat outside, with this part, that has seen this
abbrev out_with : View → List Entry → View
out_with v seen = record { opened = v.opened; seen = seen; stage = Outside; part = v.part }

-- the board is put back by a seat that has then seen a beginning of the history, as its part in the work has it
put_back_by : (start : Opening) (s : St) (k : Rule start s) (id : ℕ) (v : View) (n : ℕ) (h seen : List Entry) (b : Kept) (more : List (ℕ × Option Kept)) → get_elem? s.views id ≡ some v → v.stage ≡ Holding n h → Leaves v.opened h b
    → StartsWith k.log seen → RoleFits k.out k.log seen v.part → Rule start (stepped s 1 ((get_or s.words 1 0 + 1) % 2 ^ 64) id ((0, Some b) ∷ more) (out_with v seen) gives)
put_back_by start s k id v n h seen b more at is stands from role =
    let own : (n ≡ k.served) × (n < k.drawn) × (h ≡ k.log) = holds_it start s k id n h v at is in
    let w : View = out_with v seen in
    let x : ℕ = (get_or s.words 1 0 + 1) % 2 ^ 64 in
    let long = k.wide in
    let near = own.1 in let now = own.0 in
    let mine : has_ticket k.served v.stage ≡ 1 = ap (has_ticket k.served) is ∙ yes k.served n own.0 in
    let here : get_elem? (set s.homes 0 (some (Some b))) 0 ≡ some (some (Some b)) = set_here s.homes 0 (some (Some b)) (omega (arith, k.slots)) in
    let part = term_le any_of s.views id v at in
    record {
      log = k.log;
      drawn = k.drawn;
      served = k.served + 1;
      out = k.out;
      wide = length-set s.words 1 x ∙ k.wide;
      slots = length-set s.homes 0 (some (Some b)) ∙ k.slots;
      ticket = get_or-set_other s.words 1 0 x 0 (λ i. omega arith) ∙ k.ticket;
      serving = get_or-set_same s.words 1 x 0 (omega arith) ∙ omega (arith, k.serving);
      count = get_or-set_other s.words 1 2 x 0 (λ i. omega arith) ∙ k.count;
      waiting = omega (arith, total-set any_of s.views id v w at, ap any_ticket is, k.waiting);
      few = k.few;
      lives = omega (arith, total-set live_of s.views id v w at, k.lives);
      idle = fits_set (λ (u : View). any_of u ≤ live_of u) s.views id w (omega arith) (λ j u _ e. k.idle j u e);
      owners = omega (arith, total-set owner_of s.views id v w at, k.owners);
      numbers = λ i. omega (arith, total-set (number_of i) s.views id v w at, k.numbers i);
      roles = fits_set (λ (u : View). RoleFits k.out k.log u.seen u.part) s.views id w role (λ j u _ e. k.roles j u e);
      once = λ i. omega (arith, total-set (ticket_of i) s.views id v w at, k.once i);
      legal = k.legal;
      fits = fits_set (Fits start (k.served + 1) k.drawn k.log) s.views id w ((k.fits id v at).0, from, tt)
          (λ j u apart there. let f = k.fits j u there in (f.0, f.1, passed k.served k.drawn k.log u.stage (others_off start s k id j v u at mine apart there) f.2));
      home = λ _. (b, here, subst (λ (z : Opening × List Entry). Leaves z.0 z.1 b) (λ i. ((k.fits id v at).0 i, own.2 i)) stands);
      away = fits_set (λ (u : View). is_holding u.stage ≡ true → get_elem? (set s.homes 0 (some (Some b))) 0 ≡ some none) s.views id w (λ off. absurd (true≢false (sym off)))
          (λ j u apart there holds. absurd (others_off start s k id j v u at mine apart there (holder k.served k.drawn k.log u.stage (k.fits j u there).2 holds)));
    }

next : (start : Opening) (slots id : ℕ) (v : View) (n : ℕ) (h : List Entry) (b : Kept) (more : List (ℕ × Option Kept)) → v.stage ≡ Holding n h → Leaves v.opened h b
    → Allows (Rule start) slots id (v, (0, Some b) ∷ more) 1 (λ x. (x + 1) % 2 ^ 64) (gave (step slots 1 1 0 none) (v, (0, Some b) ∷ more))
next start slots id v n h b more is stands s k wide at small =
    (at_stage v Outside, gives, tt, put_back_by start s k id v n h v.seen b more at is stands (k.fits id v at).1 (k.roles id v at), refl)

-- what a seat's part has of the history stays so where the whole of it was seen
sees_all : (out : ℕ) (log seen h : List Entry) (p : Part) → h ≡ log → StartsWith log seen → RoleFits out log seen p → RoleFits out log h p
sees_all out log seen h p here from r = record {
  works = λ w. let f = r.works w in record {
    below = f.below;
    based = subst (λ (l : List Entry). StartsWith l p.base) (sym here) (starts_through log seen p.base from f.based);
    made = f.made;
    up = ap (by p.worker) here;
  };
  owns = λ o. let f = r.owns o in record { is_out = f.is_out; top = f.top; was = f.was; rest = f.rest; up = λ n _. ap (by n) here; dones = f.dones };
}

next_seen : (start : Opening) (slots id : ℕ) (v : View) (n : ℕ) (h : List Entry) (b : Kept) (more : List (ℕ × Option Kept)) → v.stage ≡ Holding n h → Leaves v.opened h b
    → Allows (Rule start) slots id (v, (0, Some b) ∷ more) 1 (λ x. (x + 1) % 2 ^ 64) (gave_seen (step slots 1 1 0 none) (v, (0, Some b) ∷ more))
next_seen start slots id v n h b more is stands s k wide at small =
    let here : held v.stage ≡ k.log = ap held is ∙ (holds_it start s k id n h v at is).2 in
    (having_seen v, gives, tt, put_back_by start s k id v n h (held v.stage) b more at is stands ([], sym here ∙ sym (append-nil (held v.stage))) (sees_all k.out k.log v.seen (held v.stage) v.part here (k.fits id v at).1 (k.roles id v at)), refl)

pub serves_next : (start : Opening) (slots id : ℕ) (m : Me (Option Kept) View) (v : View) (n : ℕ) (h : List Entry) (b : Kept) (more : List (ℕ × Option Kept)) → m ≡ (v, (0, Some b) ∷ more) → v.stage ≡ Holding n h → Leaves v.opened h b
    → Allows (Rule start) slots id m 1 (λ x. (x + 1) % 2 ^ 64) (gave (step slots 1 1 0 none) m)
serves_next start slots id m v n h b more e is stands = subst (λ (x : Me (Option Kept) View). Allows (Rule start) slots id x 1 (λ y. (y + 1) % 2 ^ 64) (gave (step slots 1 1 0 none) x)) (sym e) (next start slots id v n h b more is stands)

pub sees_next : (start : Opening) (slots id : ℕ) (m : Me (Option Kept) View) (v : View) (n : ℕ) (h : List Entry) (b : Kept) (more : List (ℕ × Option Kept)) → m ≡ (v, (0, Some b) ∷ more) → v.stage ≡ Holding n h → Leaves v.opened h b
    → Allows (Rule start) slots id m 1 (λ x. (x + 1) % 2 ^ 64) (gave_seen (step slots 1 1 0 none) m)
sees_next start slots id m v n h b more e is stands = subst (λ (x : Me (Option Kept) View). Allows (Rule start) slots id x 1 (λ y. (y + 1) % 2 ^ 64) (gave_seen (step slots 1 1 0 none) x)) (sym e) (next_seen start slots id v n h b more is stands)
