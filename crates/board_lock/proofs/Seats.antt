-- A worker's seat is split off and joined.
use Rattle.std.proofs.Common.{◌≡◌, ℕ, zero, suc, ◌+◌, ◌-◌, ◌<◌, ◌≤◌, ◌≢◌, ◌⊎◌, Bool, true, false, true≢false, cond, eqb, eq-eqb, ne_eqb, List, [], ◌∷◌, ◌++◌, length, set, sym, refl, ap, ◌∙◌, subst, inl, inr, ⊎_elim, arith, Option, append-nil}
use Rattle.std.specs.Prelude.{nat_lt, if◌then◌else◌}
use Rattle.std.proofs.lemmas.Bool.{ltb-true, ltb-false}
use mathlib.Core.Logic.{dite}
use mathlib.Core.Option.{some, none, some-injective, some-ne-none}
use native.Mathlib.Decide.{ℕ_discrete}
use lib.ListN.{get_elem?}
use Rattle.atomic_table.specs.Table.{State, Me, step, keeps, Allows, Splits, Joins}
use Rattle.atomic_table.proofs.Lists.{at_set, at_snoc, at_longer, set_here, set_else}
use Rattle.attempt_log.specs.declared.entry.Entry.{Entry}
use Rattle.board_core.specs.Board.{Opening}
use Rattle.board_core.specs.History.{IsLegal}
use Rattle.board_core.specs.Kept.{Kept}
use Rattle.board_lock.specs.Histories.{StartsWith, by}
use Rattle.board_lock.specs.inner.Rule.{total, any_of, any_ticket, live_of, owner_of, number_of, ticket_of, is_holding, Fits, AllOutside, RoleFits, WorkerFits, OwnerFits, DoneFits, Rule}
use Rattle.board_lock.specs.Plays.{IsWorker, IsOwner, CanSplit, CanJoin, KnowsAll, left, newcomer, longer, done_of, joined, spent, learned}
use Rattle.board_lock.specs.declared.view.View.{View}
use Rattle.board_lock.specs.declared.view.Part.{Part}
use Rattle.board_lock.specs.declared.view.Done.{Done}
use Rattle.board_lock.proofs.Sums.{total-set, terms_le, total-zero, total-append}
use Rattle.board_lock.proofs.Own.{begins, seen_more, whole}
use Rattle.board_lock.proofs.Keeps.{unmoved, fits_set, was_outside, lies, yes, no, other_number, St}

snoc_all : (P : View → Type 0) (views : List View) (id : ℕ) (w new : View) → P w → P new → ((j : ℕ) (v : View) → j ≢ id → get_elem? views j ≡ some v → P v) → (j : ℕ) (v : View) → get_elem? (set views id w ++ new ∷ []) j ≡ some v → P v
snoc_all P views id w new mine its others j v e = ⊎_elim (fits_set P views id w mine others j v) (λ (t : new ≡ v). subst P t its) (at_snoc (set views id w) new v j e)

two_all : (P : View → Type 0) (views : List View) (id other : ℕ) (w sp : View) → P w → P sp → ((j : ℕ) (v : View) → j ≢ id → j ≢ other → get_elem? views j ≡ some v → P v) → (j : ℕ) (v : View) → get_elem? (set (set views id w) other sp) j ≡ some v → P v
two_all P views id other w sp mine its others j v e =
    ⊎_elim (λ (t : (j ≡ other) × (sp ≡ v)). subst P t.1 its)
    (λ (t : (j ≢ other) × (get_elem? (set views id w) j ≡ some v)). ⊎_elim (λ (r : (j ≡ id) × (w ≡ v)). subst P r.1 mine) (λ (r : (j ≢ id) × (get_elem? views j ≡ some v)). others j v r.0 t.0 r.1) (at_set views id j w v t.1))
    (at_set (set views id w) other j sp v e)

module _ (g : View → ℕ) where
  one_more : (views : List View) (id : ℕ) (v w new : View) → get_elem? views id ≡ some v → total g (set views id w ++ new ∷ []) + g v ≡ (total g views + g w) + g new
  one_more views id v w new at = omega (arith, total-append g (set views id w) (new ∷ []), total-set g views id v w at)

  one_spent : (views : List View) (id other : ℕ) (v w x sp : View) → get_elem? views id ≡ some v → get_elem? (set views id w) other ≡ some x → (total g (set (set views id w) other sp) + g x) + g v ≡ (total g views + g w) + g sp
  one_spent views id other v w x sp at there = omega (arith, total-set g (set views id w) other x sp there, total-set g views id v w at)

-- there is one seat of the board's own
sole : (start : Opening) (s : St) (k : Rule start s) (id j : ℕ) (v u : View) → get_elem? s.views id ≡ some v → j ≢ id → get_elem? s.views j ≡ some u → v.part.owns ≡ true → u.part.owns ≡ true → ⊥
sole start s k id j v u at apart there mine theirs = omega (arith, terms_le owner_of s.views id j v u apart at there, k.owners, one v mine, one u theirs)
  where
    one : (x : View) → x.part.owns ≡ true → owner_of x ≡ 1
    one x e = ap (λ b. cond b 1 0) e

-- a number that isn't out is no seat's
unused : (start : Opening) (s : St) (k : Rule start s) (n : ℕ) → k.out ≤ n → total (number_of n) s.views ≡ 0
unused start s k n above = total-zero (number_of n) s.views (λ j u e. pick u.part.works u.part.worker (λ is. ((k.roles j u e).works is).below))
  where
    pick : (b : Bool) (number : ℕ) → (b ≡ true → number < k.out) → ◌≡◌ {A = ℕ} (cond b (cond (eqb number n) 1 0) 0) 0
    pick true number h = no n number (λ e. let l = h refl in omega (arith, l, e, above))
    pick false number h = refl

Noted : List Entry → Part → List Entry → Type 0
Noted log p was = StartsWith log was × ((n : ℕ) → p.out + 1 ≤ n → by n log ≡ by n was)

-- what the board's own seat notes as seen when it gives out a number
noted : (out : ℕ) (log seen : List Entry) (p : Part) → OwnerFits out log seen p → StartsWith log seen → ((p.out ≡ 0) ⊎ (p.out ≡ p.top)) → Noted log p (cond (eqb p.out 0) seen p.was)
unfolding Noted
noted out log seen p f s can = let is_out = f.is_out in dite (ℕ_discrete p.out 0)
    (λ z. subst (λ (b : Bool). Noted log p (cond b seen p.was)) (sym (eq-eqb p.out 0 z)) (s, λ n above. sym (f.up n (omega (arith, z, is_out)))))
    (λ nz. subst (λ (b : Bool). Noted log p (cond b seen p.was)) (sym (ne_eqb p.out 0 nz)) (f.was, λ n above. f.rest n (⊎_elim (λ (z : p.out ≡ 0). absurd (nz z)) (λ (same : p.out ≡ p.top). omega (arith, same, above)) can)))

pub splits : (start : Opening) (id : ℕ) (v : View) → CanSplit v.part → Splits (Rule start) id v (left v) (newcomer v)
unfolding Noted
splits start id v can s k at =
    let p : Part = v.part in
    let w : View = left v in
    let new : View = newcomer v in
    let vs : List View = s.views in
    let f = (k.roles id v at).owns can.0.0 in
    let is_out : p.out ≡ k.out = f.is_out in
    let first = noted k.out k.log v.seen p f (k.fits id v at).1 can.1 in
    let mine : by p.out v.seen ≡ by p.out k.log = f.up p.out (omega (arith, is_out)) in
    let more : (g : View → ℕ) → total g (set vs id w ++ new ∷ []) + g v ≡ (total g vs + g w) + g new = λ g. one_more g vs id v w new at in
    record {
      log = k.log;
      drawn = k.drawn;
      served = k.served;
      out = k.out + 1;
      wide = k.wide;
      slots = k.slots;
      ticket = k.ticket;
      serving = k.serving;
      count = k.count;
      waiting = omega (arith, more any_of, k.waiting);
      few = omega (arith, can.2, is_out);
      lives = omega (arith, more live_of, k.lives);
      idle = snoc_all (λ (u : View). any_of u ≤ live_of u) vs id w new (k.idle id v at) (omega arith) (λ j u _ e. k.idle j u e);
      owners = omega (arith, more owner_of, k.owners);
      numbers = λ i. dite (ℕ_discrete p.out i)
          (λ e. omega (arith, more (number_of i), unused start s k i (omega (arith, e, is_out)), yes i p.out e))
          (λ ne. omega (arith, more (number_of i), k.numbers i, no i p.out ne));
      once = λ i. omega (arith, more (ticket_of i), k.once i);
      legal = k.legal;
      fits = snoc_all (Fits start k.served k.drawn k.log) vs id w new (k.fits id v at) ((k.fits id v at).0, (k.fits id v at).1, tt) (λ j u _ e. k.fits j u e);
      roles = snoc_all (λ (u : View). RoleFits (k.out + 1) k.log u.seen u.part) vs id w new
          (record {
            works = λ yes. absurd (true≢false (sym yes ∙ can.0.1));
            owns = λ _. record {
              is_out = ap (λ (x : ℕ). x + 1) is_out;
              top = omega (arith, is_out);
              was = first.0;
              rest = first.1;
              up = λ n above. f.up n (omega (arith, above));
              dones = λ i d e. absurd (some-ne-none d (sym e));
            };
          })
          (record {
            works = λ _. record {
              below = omega (arith, is_out);
              based = ([], sym (append-nil v.seen));
              made = sym mine ∙ sym (append-nil (by p.out v.seen));
              up = mine;
            };
            owns = λ o. absurd (true≢false (sym o));
          })
          (λ j u apart e. let r = k.roles j u e in record {
            works = λ yes. let h = r.works yes in let below = h.below in record { below = omega (arith, below); based = h.based; made = h.made; up = h.up };
            owns = λ o. absurd (sole start s k id j v u at apart e can.0.0 o);
          });
      home = λ all. let all' : AllOutside (set vs id w) = λ j u e. all j u (at_longer (set vs id w) (new ∷ []) j u e) in
          k.home (was_outside vs id v w at (all' id w (set_here vs id w (lies vs id v at))) all');
      away = snoc_all (λ (u : View). is_holding u.stage ≡ true → get_elem? s.homes 0 ≡ some none) vs id w new (k.away id v at) (λ off. absurd (true≢false (sym off))) (λ j u _ e. k.away j u e);
    }

longer_begins : (log a b : List Entry) → StartsWith log a → StartsWith log b → StartsWith log (longer a b)
longer_begins log a b s t = pick (nat_lt (length a) (length b))
  where
    pick : (c : Bool) → StartsWith log (if c then b else a)
    pick true = t
    pick false = s

up_longer : (n : ℕ) (log a b : List Entry) → StartsWith log a → StartsWith log b → ((by n a ≡ by n log) ⊎ (by n b ≡ by n log)) → by n (longer a b) ≡ by n log
up_longer n log a b s t either = pick (nat_lt (length a) (length b)) refl
  where
    pick : (c : Bool) → nat_lt (length a) (length b) ≡ c → by n (if c then b else a) ≡ by n log
    pick true e = let lt = ltb-true (length a) (length b) e in ⊎_elim (λ (x : by n a ≡ by n log). seen_more n log a b t (begins log a b s t (omega (arith, lt))) x) (λ (x : by n b ≡ by n log). x) either
    pick false e = let le = ltb-false (length a) (length b) e in ⊎_elim (λ (x : by n a ≡ by n log). x) (λ (x : by n b ≡ by n log). seen_more n log b a s (begins log b a t s le) x) either

live_worker : (p : Part) → IsWorker p → ◌≡◌ {A = ℕ} (cond p.works 1 0 + cond p.owns 1 0) 1
live_worker p h = λ i. cond (h.0 i) 1 0 + cond (h.1 i) 1 0

pub joins : (start : Opening) (id : ℕ) (v : View) (other : ℕ) (w : View) (begun : Opening) → CanJoin v.part w → begun ≡ v.opened → Joins (Rule start) id v other w (joined v w) (spent begun)
joins start id v other w begun can from s k at apart there =
    let p : Part = v.part in
    let both : View = joined v w in
    let sp : View = spent begun in
    let vs : List View = s.views in
    let w_at : get_elem? vs other ≡ some w = sym (set_else vs id other both apart) ∙ there in
    let f = (k.roles id v at).owns can.0.0 in
    let g = (k.roles other w w_at).works can.1.0 in
    let is_out : p.out ≡ k.out = f.is_out in
    let number : k.out ≡ w.part.worker + 1 = sym is_out ∙ can.3 in
    let less : (h : View → ℕ) → (total h (set (set vs id both) other sp) + h w) + h v ≡ (total h vs + h both) + h sp = λ h. one_spent h vs id other v both w sp at there in
    let off : is_holding w.stage ≡ false = ap is_holding can.2 in
    record {
      log = k.log;
      drawn = k.drawn;
      served = k.served;
      out = k.out - 1;
      wide = k.wide;
      slots = k.slots;
      ticket = k.ticket;
      serving = k.serving;
      count = k.count;
      waiting = omega (arith, less any_of, k.waiting, ap any_ticket can.2);
      few = omega (arith, k.few);
      lives = omega (arith, less live_of, k.lives, live_worker w.part can.1, number);
      idle = two_all (λ (u : View). any_of u ≤ live_of u) vs id other both sp (k.idle id v at) (omega arith) (λ j u _ _ e. k.idle j u e);
      owners = omega (arith, less owner_of, k.owners);
      numbers = λ i. omega (arith, less (number_of i), k.numbers i);
      once = λ i. omega (arith, less (ticket_of i), k.once i);
      legal = k.legal;
      fits = two_all (Fits start k.served k.drawn k.log) vs id other both sp
          ((k.fits id v at).0, longer_begins k.log v.seen w.seen (k.fits id v at).1 (k.fits other w w_at).1, (k.fits id v at).2)
          (from ∙ (k.fits id v at).0, (k.log, refl), tt)
          (λ j u _ _ e. k.fits j u e);
      roles = two_all (λ (u : View). RoleFits (k.out - 1) k.log u.seen u.part) vs id other both sp
          (record {
            works = λ yes. absurd (true≢false (sym yes ∙ can.0.1));
            owns = λ _. record {
              is_out = ap (λ (x : ℕ). x - 1) is_out;
              top = let t = f.top in omega (arith, t);
              was = f.was;
              rest = f.rest;
              up = λ n above. up_longer n k.log v.seen w.seen (k.fits id v at).1 (k.fits other w w_at).1 (dite (ℕ_discrete w.part.worker n)
                  (λ same. inr (subst (λ (x : ℕ). by x w.seen ≡ by x k.log) same g.up))
                  (λ ne. inl (f.up n (omega (arith, number, above, ne)))));
              dones = dones_more k.out k.log w p.dones (omega (arith, number)) (k.fits other w w_at).1 g f.dones;
            };
          })
          (record { works = λ yes. absurd (true≢false (sym yes)); owns = λ yes. absurd (true≢false (sym yes)) })
          (λ j u nid nother e. let r = k.roles j u e in record {
            works = λ yes. let h = r.works yes in let below = h.below in let ne = other_number start s k other j w u w_at nother e can.1.0 yes in
                record { below = omega (arith, below, number, ne); based = h.based; made = h.made; up = h.up };
            owns = λ o. absurd (sole start s k id j v u at nid e can.0.0 o);
          });
      home = λ all. let all' : AllOutside (set vs id both) = was_outside (set vs id both) other w sp there off all in
          k.home (was_outside vs id v both at (all' id both (set_here vs id both (lies vs id v at))) all');
      away = two_all (λ (u : View). is_holding u.stage ≡ true → get_elem? s.homes 0 ≡ some none) vs id other both sp (k.away id v at) (λ on. absurd (true≢false (sym on))) (λ j u _ _ e. k.away j u e);
    }
  where
    dones_more : (out : ℕ) (log : List Entry) (x : View) (dones : List Done) → out - 1 ≤ x.part.worker → StartsWith log x.seen → WorkerFits out log x.seen x.part
        → ((i : ℕ) (d : Done) → get_elem? dones i ≡ some d → DoneFits out log d) → (i : ℕ) (d : Done) → get_elem? (done_of x ∷ dones) i ≡ some d → DoneFits (out - 1) log d
    dones_more out log x dones above begun g old zero d e =
        subst (DoneFits (out - 1) log) (some-injective (done_of x) d e) (record { above = above; seen = begun; based = g.based; made = g.made })
    dones_more out log x dones above begun g old (suc i) d e = let h = old i d e in let a = h.above in record { above = omega (arith, a); seen = h.seen; based = h.based; made = h.made }

pub learns : (start : Opening) (slots id : ℕ) (m : Me (Option Kept) View) → Allows (Rule start) slots id m 1 (λ x. x) (learned (step slots 1 0 0 none) m)
learns start slots id m s k wide at small = (m.0, keeps, tt, unmoved start s k 1 id m at, (refl, λ own none-out. settles own none-out))
  where
    settles : IsOwner m.0.part → m.0.part.out ≡ 0 → KnowsAll m.0
    settles own none-out =
        let v : View = m.0 in
        let f = (k.roles id v at).owns own.0 in
        let is_out = f.is_out in
        let same : v.seen ≡ k.log = whole k.log v.seen (k.fits id v at).1 (λ n. f.up n (omega (arith, is_out, none-out))) in
        record {
          legal = subst (λ (z : Opening × List Entry). IsLegal z.0 z.1) (λ i. (sym (k.fits id v at).0 i, sym same i)) k.legal;
          was = subst (λ (l : List Entry). StartsWith l v.part.was) (sym same) f.was;
          rest = λ n top. ap (by n) same ∙ f.rest n top;
          dones = λ i d e. let g = f.dones i d e in (subst (λ (l : List Entry). StartsWith l d.seen) (sym same) g.seen, g.based, ap (by d.worker) same ∙ g.made);
        }
