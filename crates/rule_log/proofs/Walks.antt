-- Walks over the registers that a log has touched.
use Rattle.std.proofs.Common.{◌≡◌, ◌≢◌, ◌⊎◌, ℕ, ◌+◌, ◌*◌, ◌<◌, ◌≤◌, Bool, true, false, List, [], ◌∷◌, ◌++◌, length, take, refl, sym, ap, ◌∙◌, subst, inl, inr, eqb-true, eq-eqb, arith, add-zero, cond, sum_by, All}
use Rattle.std.specs.Prelude.{◌==◌, ◌||◌, slice_index_or, slice_set, if◌then◌else◌}
use Rattle.std.specs.List.{count_by, list_any}
use Rattle.std.proofs.lemmas.Bool.{and_left, and_right, cases_Bool, cases_eq, ne_eqb, both_ways, or_cases, or_left, or_parts, or_right}
use Rattle.std.proofs.lemmas.List.{get_or-set_same, get_or-set_other, length-set, length_push, take_all}
use Rattle.std.proofs.lemmas.List.Elements.{All-from_recursion, recursion_from_All}
use Rattle.std.proofs.lemmas.List.Sums.{count_by-le-length, sum_by-set}
use Rattle.std.proofs.lemmas.List.Folds.{list_any-append, list_any_more}
use Rattle.kw_bits.specs.BitVector.{BitVector}
use Rattle.typed_core.specs.Valid.{IsPort}
use Rattle.typed_core.specs.declared.limits.TheConstants.{PORTS}
use Rattle.rule_log.specs.inner.OneRegister.{is_same_place}
use Rattle.rule_log.specs.StandsFor.{RegisterLog, is_set, written}
use Rattle.rule_log.specs.Flags.{is_some}
use Rattle.rule_log.specs.Touched.{IsSound, is_listed}
use Rattle.rule_log.proofs.Telling.{all_append}
use Rattle.rule_log.specs.declared.flags.PortFlags.{PortFlags}

-- one fact of the registers that are listed, and another of those that aren't
pub record Walked (Done Left : ℕ → Type 0) (listed : List ℕ) : Type 0 where
  pub done : (register : ℕ) → is_listed listed register ≡ true → Done register
  pub left : (register : ℕ) → is_listed listed register ≡ false → Left register

pub walked_none : (Done Left : ℕ → Type 0) → ((register : ℕ) → Left register) → (touched : List ℕ) → Walked Done Left (take 0 touched)
walked_none Done Left left touched = record { done = λ register h. absurd (both_ways false refl h); left = λ register h. left register }

-- a step changes one register, whether it was done before or not, and keeps the others
pub walked_more : (Done Left Done' Left' : ℕ → Type 0) (touched : List ℕ) (i d : ℕ) → i < length touched
    → (Left (slice_index_or touched i d) → Done' (slice_index_or touched i d)) → (Done (slice_index_or touched i d) → Done' (slice_index_or touched i d))
    → ((register : ℕ) → register ≢ slice_index_or touched i d → Done register → Done' register)
    → ((register : ℕ) → register ≢ slice_index_or touched i d → Left register → Left' register)
    → Walked Done Left (take i touched) → Walked Done' Left' (take (i + 1) touched)
walked_more Done Left Done' Left' touched i d within first again keep_done keep_left walked = record { done = done; left = left }
  where
    more : (register : ℕ) → is_listed (take (i + 1) touched) register ≡ (is_listed (take i touched) register || (slice_index_or touched i d == register))
    more register = list_any_more (λ (t : ℕ). t == register) touched i d within

    here : (register : ℕ) → slice_index_or touched i d ≡ register → Done' (slice_index_or touched i d) → Done' register
    here register e h = subst Done' e h

    done_at : (register : ℕ) → ((register ≡ slice_index_or touched i d) ⊎ (register ≡ slice_index_or touched i d → ⊥)) → ((is_listed (take i touched) register ≡ true) ⊎ (is_listed (take i touched) register ≡ false)) → is_listed (take (i + 1) touched) register ≡ true → Done' register
    done_at register (inl e) (inl was) h = here register (sym e) (again (subst Done e (walked.done register was)))
    done_at register (inl e) (inr wasnt) h = here register (sym e) (first (subst Left e (walked.left register wasnt)))
    done_at register (inr ne) (inl was) h = keep_done register ne (walked.done register was)
    done_at register (inr ne) (inr wasnt) h = absurd (wrong (or_cases (is_listed (take i touched) register) (slice_index_or touched i d == register) (sym (more register) ∙ h)))
      where
        wrong : (is_listed (take i touched) register ≡ true) ⊎ ((slice_index_or touched i d == register) ≡ true) → ⊥
        wrong (inl was) = both_ways (is_listed (take i touched) register) wasnt was
        wrong (inr is) = ne (sym (eqb-true (slice_index_or touched i d) register is))

    done : (register : ℕ) → is_listed (take (i + 1) touched) register ≡ true → Done' register
    done register h = done_at register (cases_eq register (slice_index_or touched i d)) (cases_Bool (is_listed (take i touched) register)) h

    left : (register : ℕ) → is_listed (take (i + 1) touched) register ≡ false → Left' register
    left register h =
        let parts = or_parts (is_listed (take i touched) register) (slice_index_or touched i d == register) (sym (more register) ∙ h) in
        keep_left register (λ e. both_ways (slice_index_or touched i d == register) parts.1 (eq-eqb (slice_index_or touched i d) register (sym e))) (walked.left register parts.0)

pub walked_all : (Done Left : ℕ → Type 0) (touched : List ℕ) (i : ℕ) → length touched ≤ i → Walked Done Left (take i touched) → Walked Done Left touched
walked_all Done Left touched i most walked = subst (Walked Done Left) (take_all i touched most) walked

-- ---- the values of one register

-- those below a port are taken from the rule log, where it has writes
pub record JoinedBelow (old rule now : RegisterLog) (port register : ℕ) : Type 0 where
  pub flags : now.flags ≡ old.flags
  pub done : (at : ℕ) → at < port → IsPort at → written now at register ≡ (if is_set rule true at register then written rule at register else written old at register)
  pub left : (at : ℕ) → port ≤ at → IsPort at → written now at register ≡ written old at register
  pub others : (at other : ℕ) → IsPort at → other ≢ register → written now at other ≡ written old at other

pub joined_more : (old rule now new : RegisterLog) (port register : ℕ) → IsPort port → JoinedBelow old rule now port register
    → new.flags ≡ now.flags
    → written new port register ≡ (if is_set rule true port register then written rule port register else written now port register)
    → ((at other : ℕ) → IsPort at → is_same_place at other port register ≡ false → written new at other ≡ written now at other)
    → JoinedBelow old rule new (port + 1) register
joined_more old rule now new port register p joined flags here elsewhere = record {
  flags = flags ∙ joined.flags;
  done = λ at below q. done at below q (cases_eq at port);
  left = λ at above q. elsewhere at register q (and_left (at == port) (register == register) (ne_eqb at port (λ e. more at above e))) ∙ joined.left at (omega arith) q;
  others = λ at other q ne. elsewhere at other q (and_right (at == port) (other == register) (ne_eqb other register ne)) ∙ joined.others at other q ne;
}
  where
    more : (at : ℕ) → port + 1 ≤ at → at ≡ port → ⊥
    more at above e = omega arith

    done : (at : ℕ) → at < port + 1 → IsPort at → (at ≡ port) ⊎ (at ≡ port → ⊥) → written new at register ≡ (if is_set rule true at register then written rule at register else written old at register)
    done at below q (inl e) =
        let mine : written new port register ≡ (if is_set rule true port register then written rule port register else written old port register) =
        here ∙ ap (λ (v : BitVector). if is_set rule true port register then written rule port register else v) (joined.left port (omega arith) p) in
        subst (λ (n : ℕ). written new n register ≡ (if is_set rule true n register then written rule n register else written old n register)) (sym e) mine
    done at below q (inr ne) =
        elsewhere at register q (and_left (at == port) (register == register) (ne_eqb at port ne)) ∙ joined.done at (omega arith) q

-- ---- what a log's parts keep to

fewer : (flags : List PortFlags) (register : ℕ) → register < length flags → is_some (slice_index_or flags register (record { 0 = 0 })) ≡ false → count_by is_some flags + 1 ≤ length flags
fewer flags register within none =
    let f : PortFlags → ℕ = λ x. cond (is_some x) 1 0 in
    let d : PortFlags = record { 0 = 0 } in
    let y : PortFlags = record { 0 = 1 } in
    let one_more : sum_by f (slice_set flags register y) + f (slice_index_or flags register d) ≡ sum_by f flags + 1 = sum_by-set f flags register y d within in
    let zero_here : f (slice_index_or flags register d) ≡ 0 = ap (λ (b : Bool). cond b 1 0) none in
    let most : sum_by f (slice_set flags register y) ≤ length (slice_set flags register y) = count_by-le-length is_some (slice_set flags register y) in
    omega (arith, length-set flags register y)

-- there is room for one more register while one has no flag
pub room_left : (flags : List PortFlags) (values : List BitVector) (touched : List ℕ) (room register : ℕ) → IsSound flags values touched room → register < length flags
    → is_some (slice_index_or flags register (record { 0 = 0 })) ≡ false → length touched + 1 ≤ room
room_left flags values touched room register s within none =
    omega (arith, s.no_more, s.room_for_all, fewer flags register within none)

module _ (flags : List PortFlags) (values : List BitVector) (touched : List ℕ) (room register : ℕ) (both : PortFlags) (s : IsSound flags values touched room) (within : register < length flags) where
  abbrev before : PortFlags
  before = slice_index_or flags register (record { 0 = 0 })

  counted : (more : ℕ) → cond (is_some both) 1 0 ≡ cond (is_some before) 1 0 + more → count_by is_some (slice_set flags register both) ≡ count_by is_some flags + more
  counted more e =
      let step = sum_by-set (λ (x : PortFlags). cond (is_some x) 1 0) flags register both (let d : PortFlags = record { 0 = 0 } in d) within in
      omega (arith, step)

  still_within : (more : List ℕ) → All (λ (t : ℕ). t < length flags) more → All (λ (t : ℕ). t < length (slice_set flags register both)) more
  still_within more h = subst (λ (n : ℕ). All (λ (t : ℕ). t < n) more) (sym (length-set flags register both)) h

  -- the flags of a register that is listed, or of one that still has none
  pub sound_same : is_some both ≡ is_some before → IsSound (slice_set flags register both) values touched room
  sound_same e = record {
    values_of_each = s.values_of_each ∙ ap (λ (n : ℕ). PORTS * n) (sym (length-set flags register both));
    few = omega (arith, s.few, length-set flags register both);
    room_for_all = omega (arith, s.room_for_all, length-set flags register both);
    no_more = omega (arith, s.no_more, counted 0 (ap (λ (b : Bool). cond b 1 0) e ∙ sym (add-zero (cond (is_some before) 1 0))));
    within = still_within touched s.within;
    listed = λ other h. s.listed other (same_some other (cases_eq other register) ∙ h);
  }
    where
      same_some : (other : ℕ) → (other ≡ register) ⊎ (other ≡ register → ⊥) → is_some (slice_index_or flags other (record { 0 = 0 })) ≡ is_some (slice_index_or (slice_set flags register both) other (record { 0 = 0 }))
      same_some other (inl q) =
          ap (λ (n : ℕ). is_some (slice_index_or flags n (record { 0 = 0 }))) q ∙ sym e
          ∙ ap (λ (x : PortFlags). is_some x) (sym (get_or-set_same flags register both (let d : PortFlags = record { 0 = 0 } in d) within))
          ∙ ap (λ (n : ℕ). is_some (slice_index_or (slice_set flags register both) n (record { 0 = 0 }))) (sym q)
      same_some other (inr ne) = ap (λ (x : PortFlags). is_some x) (sym (get_or-set_other flags register other both (let d : PortFlags = record { 0 = 0 } in d) ne))

  -- the first flags of a register, which is listed now
  pub sound_more : is_some before ≡ false → is_some both ≡ true → IsSound (slice_set flags register both) values (touched ++ register ∷ []) room
  sound_more none some = record {
    values_of_each = s.values_of_each ∙ ap (λ (n : ℕ). PORTS * n) (sym (length-set flags register both));
    few = omega (arith, s.few, length-set flags register both);
    room_for_all = omega (arith, s.room_for_all, length-set flags register both);
    no_more = omega (arith, s.no_more, length_push touched register, counted 1 (ap (λ (b : Bool). cond b 1 0) some ∙ ap (λ (b : Bool). cond b 1 0 + 1) (sym none)));
    within = still_within (touched ++ register ∷ []) (All-from_recursion (λ (t : ℕ). t < length flags) (touched ++ register ∷ []) (all_append (λ (t : ℕ). t < length flags) touched (register ∷ []) (recursion_from_All (λ (t : ℕ). t < length flags) touched s.within) (within, tt)));
    listed = λ other h. list_any-append (λ (t : ℕ). t == other) touched (register ∷ []) ∙ listed_now other h (cases_eq other register);
  }
    where
      listed_now : (other : ℕ) → is_some (slice_index_or (slice_set flags register both) other (record { 0 = 0 })) ≡ true → (other ≡ register) ⊎ (other ≡ register → ⊥)
          → (list_any (λ (t : ℕ). t == other) touched || ((register == other) || false)) ≡ true
      listed_now other h (inl q) =
          or_right (list_any (λ (t : ℕ). t == other) touched) ((register == other) || false) (or_left (register == other) false (eq-eqb register other (sym q)))
      listed_now other h (inr ne) =
          or_left (list_any (λ (t : ℕ). t == other) touched) ((register == other) || false)
          (s.listed other (ap (λ (x : PortFlags). is_some x) (sym (get_or-set_other flags register other both (let d : PortFlags = record { 0 = 0 } in d) ne)) ∙ h))
