-- Entries that come after others.
use Rattle.std.proofs.Common.{length, ◌≡◌, ℕ, suc, ◌+◌, ◌≤◌, ⊎_elim, inl, inr, Bool, true, false, true≢false, List, [], ◌∷◌, ◌++◌, Option, Some, None, sym, refl, ap, ◌∙◌, subst, arith, append_assoc, append-nil}
use Rattle.std.specs.Prelude.{option_map}
use Rattle.std.specs.List.{count_by}
use Rattle.std.proofs.lemmas.List.Sums.{sum_by-append}
use Rattle.kw_bits.specs.Faults.{last_count, one_more}
use Rattle.attempt_log.specs.declared.entry.Entry.{Entry}
use Rattle.attempt_log.specs.declared.entry.Entry.TheVariants.{Submit, Settle}
use Rattle.attempt_log.specs.Entries.{is_settle, is_settled, is_stored, is_submit}
use Rattle.attempt_log.specs.Seats.{Grown, one_more_if}
use Rattle.spec_worker.specs.Work.{Did, Gains, RoseBy}
use Rattle.spec_worker.specs.inner.Work.{HandsIn, Settles, once}

count-append : (p : Entry → Bool) (xs ys : List Entry) → count_by p (xs ++ ys) ≡ count_by p xs + count_by p ys
count-append p xs ys = sum_by-append (λ (e : Entry). once (p e)) xs ys

grown_none : (a b : Option (List Entry)) → b ≡ a → Grown a [] b
grown_none None b e = e
grown_none (Some x) b e = e ∙ ap (λ (l : List Entry). Some l) (sym (append-nil x))

grown_more : (a b c : Option (List Entry)) (m n : List Entry) → Grown a m b → Grown b n c → Grown a (m ++ n) c
grown_more None b c m n g h = h ∙ ap (option_map (λ (l : List Entry). l ++ n)) g
grown_more (Some x) b c m n g h = h ∙ (ap (option_map (λ (l : List Entry). l ++ n)) g ∙ ap (λ (l : List Entry). Some l) (append_assoc x m n))

rose_more : (a b c j k : ℕ) → RoseBy a j b → RoseBy b k c → RoseBy a (j + k) c
rose_more a b c j k r s last = let t = s last in let u = r (omega (arith, t, last)) in omega (arith, t, u)

pub rose_once : (a b : ℕ) → b ≡ one_more a → RoseBy a 1 b
rose_once a b e last = omega (arith, e, last)

pub asked_more : (a b c k : ℕ) → RoseBy a k b → c ≡ one_more b → RoseBy a (k + 1) c
asked_more a b c k r e = rose_more a b c k 1 r (rose_once b c e)

-- a count of 64 bits doesn't fall, and is one again
pub never_fell_if : (rises : Bool) (a b : ℕ) → b ≡ one_more_if rises a → a ≤ last_count → a ≤ b
never_fell_if true a b e within = omega (arith, e, within)
never_fell_if false a b e within = omega (arith, e)

pub counted_if : (rises : Bool) (a b : ℕ) → b ≡ one_more_if rises a → a ≤ last_count → b ≤ last_count
counted_if true a b e within = omega (arith, e)
counted_if false a b e within = omega (arith, e, within)

pub fell_never : (a b c : ℕ) → a ≤ b → b ≤ last_count → (b ≤ last_count → b ≤ c) → a ≤ c
fell_never a b c x within y = let z = y within in omega (arith, x, z)

did_more : (b : Bool) (g h i j k : ℕ) → Did false g j h → Did b h k i → Did b g (j + k) i
did_more b g h i j k x y =
    let first : RoseBy g j h = ⊎_elim (λ (r : RoseBy g j h). r) (λ (t : (false ≡ true) × RoseBy g (j + 1) h). absurd (true≢false (sym t.0))) x in
    ⊎_elim (λ (r : RoseBy h k i). inl (rose_more g h i j k first r)) (λ (t : (b ≡ true) × RoseBy h (k + 1) i). inr (t.0, subst (λ (n : ℕ). RoseBy g n i) (omega arith) (rose_more g h i j (k + 1) first t.1))) y

pub gains_none : (a b : Option (List Entry)) (g h : ℕ) (short : Bool) → b ≡ a → h ≡ g → Gains a g 0 0 0 b h short
gains_none a b g h short e same = record { more = []; grown = grown_none a b e; counted = (refl, refl, refl, omega arith); did = inl (λ _. omega (arith, same)) }

-- a job was given, and memory ran out
pub gains_short : (a b : Option (List Entry)) (g h : ℕ) → b ≡ a → h ≡ one_more g → Gains a g 0 0 0 b h true
gains_short a b g h e given = record { more = []; grown = grown_none a b e; counted = (refl, refl, refl, omega arith); did = inr (refl, λ last. omega (arith, given, last)) }

pub gains_more : (a b c : Option (List Entry)) (g h i s t u s' t' u' : ℕ) (short : Bool) → Gains a g s t u b h false → Gains b h s' t' u' c i short → Gains a g (s + s') (t + t') (u + u') c i short
gains_more a b c g h i s t u s' t' u' short x y =
    let l : List Entry = x.more in let m : List Entry = y.more in
    let p = x.counted in let q = y.counted in
    record {
      more = l ++ m;
      grown = grown_more a b c l m x.grown y.grown;
      counted = (count-append is_stored l m ∙ (λ k. p.0 k + q.0 k), count-append is_settled l m ∙ (λ k. p.1 k + q.1 k), count-append is_settle l m ∙ (λ k. p.2 k + q.2 k), (let a = p.3 in let d = q.3 in omega (arith, count-append is_submit l m, a, d)));
      did = subst (λ (n : ℕ). Did short g n i) (sym (count-append is_submit l m)) (did_more short g h i (count_by is_submit l) (count_by is_submit m) x.did y.did);
    }

-- a turn without a job
pub gains_idle : (a b c : Option (List Entry)) (g h i t : ℕ) → b ≡ a → h ≡ g → Settles b t c → i ≡ h → Gains a g 0 t 1 c i false
gains_idle a b c g h i t own given s same =
    let e : Entry = s.0 in
    let submit = ap once s.2 in let settle = ap once s.3 in let stored = ap once s.4 in let settled = s.5 in
    record {
      more = e ∷ [];
      grown = grown_more a b c [] (e ∷ []) (grown_none a b own) s.1;
      counted = (omega (arith, stored), omega (arith, settled), omega (arith, settle), omega (arith, submit));
      did = inl (λ _. omega (arith, submit, given, same));
    }

-- a turn with a job
pub gains_job : (a b c d : Option (List Entry)) (g h i j s t : ℕ) → b ≡ a → h ≡ one_more g → HandsIn b s c → i ≡ h → Settles c t d → j ≡ i → Gains a g s t 1 d j false
gains_job a b c d g h i j s t own given x one y two =
    let e : Entry = x.0 in let f : Entry = y.0 in
    let p1 = ap once x.2 in let p2 = ap once x.3 in let p3 = x.4 in let p4 = ap once x.5 in
    let q1 = ap once y.2 in let q2 = ap once y.3 in let q3 = ap once y.4 in let q4 = y.5 in
    record {
      more = e ∷ f ∷ [];
      grown = grown_more a b d [] (e ∷ f ∷ []) (grown_none a b own) (grown_more b c d (e ∷ []) (f ∷ []) x.1 y.1);
      counted = (omega (arith, p3, q3), omega (arith, p4, q4), omega (arith, p2, q2), omega (arith, p1, q1));
      did = inl (λ last. omega (arith, p1, q1, given, one, two, last));
    }

-- the same with what a turn tells
pub gains_as : (a c : Option (List Entry)) (g i s t u s' t' u' : ℕ) (b b' : Bool) → s' ≡ s → t' ≡ t → u' ≡ u → b' ≡ b → Gains a g s t u c i b → Gains a g s' t' u' c i b'
gains_as a c g i s t u s' t' u' b b' x y z short w =
    let k = w.counted in record { more = w.more; grown = w.grown; counted = (k.0 ∙ sym x, k.1 ∙ sym y, k.2 ∙ sym z, (let a = k.3 in omega (arith, z, a))); did = subst (λ (f : Bool). Did f g (count_by is_submit w.more) i) (sym short) w.did }

pub gains_then_none : (a b c : Option (List Entry)) (g h i s t u : ℕ) (short : Bool) → Gains a g s t u b h false → Gains b h 0 0 0 c i short → Gains a g s t u c i short
gains_then_none a b c g h i s t u short x y = gains_as a c g i (s + 0) (t + 0) (u + 0) s t u short short (omega arith) (omega arith) (omega arith) refl (gains_more a b c g h i s t u 0 0 0 short x y)

-- an entry is a submit or a settle
pub all_kinds : (es : List Entry) → length es ≡ count_by is_submit es + count_by is_settle es
all_kinds [] = refl
all_kinds (e ∷ es) =
    more (length es) (count_by is_submit es) (count_by is_settle es) (count_by is_submit (e ∷ [])) (count_by is_settle (e ∷ [])) (one e) (all_kinds es)
    ∙ (λ i. sym (count-append is_submit (e ∷ []) es) i + sym (count-append is_settle (e ∷ []) es) i)
  where
    more : (l a b x y : ℕ) → x + y ≡ 1 → l ≡ a + b → suc l ≡ (x + a) + (y + b)
    more l a b x y e h = omega (arith, e, h)

    one : (x : Entry) → count_by is_submit (x ∷ []) + count_by is_settle (x ∷ []) ≡ 1
    one (Submit worker cycle rule inputs events outcome answer) = refl
    one (Settle worker answer) = refl
