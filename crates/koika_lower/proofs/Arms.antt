-- An `if` is lowered: conditions with bodies, and what stands behind them.
use Rattle.std.proofs.Common.{◌≡◌, ℕ, zero, suc, ◌^◌, ◌<◌, ◌≤◌, inl, inr, List, [], ◌∷◌, ◌++◌, length, map, replicate, Option, Some, None, IfSome, false, nat_eq, if◌then◌else◌, arith, refl, ap, sym, subst, ◌∙◌}
use Rattle.std.specs.List.{AllByRecursion}
use Rattle.std.proofs.lemmas.List.{length-append}
use Rattle.kw_bits.specs.BitVector.{BitVector}
use Rattle.koika_types.specs.Values.{packed}
use Rattle.koika_types.specs.declared.value.Value.{Value}
use Rattle.typed_core.specs.Evaluation.{Evaluation, Ports, choose, comes_to, evaluate, unit}
use Rattle.typed_core.specs.Fits.{PortsFit}
use Rattle.typed_core.specs.Valid.{ActionHasWidth}
use Rattle.typed_core.specs.Widths.{HaveWidths}
use Rattle.typed_core.specs.declared.outcome.Stopped.{Stopped}
use Rattle.koika_check.specs.Meaning.{Meaning, choose as choose_body, number_by}
use Rattle.koika_check.specs.Types.{bits}
use Rattle.koika_check.specs.Typing.{AreArms, IsType}
use Rattle.koika_check.specs.declared.checked.Checked.{Checked}
use Rattle.koika_check.specs.declared.typed.ValueType.{ValueType}
use Rattle.koika_lower.specs.inner.Applied.{IsChoice, IsChosen, arms_part, idle, values_of}
use Rattle.koika_lower.specs.Lowering.{typed_input_widths, register_widths}
use Rattle.koika_lower.specs.inner.Simulation.{Lowers, LowersAll, NamesFit, NamesStand, Sense, Simulates, Stands, declared_by, environment, width_if, world}
use Rattle.koika_lower.specs.declared.lowered.Bound.{Bound}
use Rattle.koika_lower.specs.declared.lowered.Lowered.{Lowered}
use Rattle.koika_lower.proofs.Constructs.{sim-core}
use Rattle.koika_lower.proofs.Simulations.{sim-bind, sim-value}
use Rattle.koika_lower.proofs.Widths.{width-bits}

-- what conditions and bodies come to
abbrev pub if_sense : List Sense → List Sense → Sense
if_sense conditions bodies s values = choose_body (map (λ (m : Sense). m s) conditions) (map (λ (m : Sense). m s) bodies) values

-- a bit that is 1, or else 0
sim-if : {V W : Type 0} (regs : List ℕ) (R : V → W → Type 0) (k j : ℕ) (m n : Evaluation V Stopped) (a b : Evaluation W Stopped) → j ≡ k → k < 2 → Simulates regs R m a → Simulates regs R n b →
    Simulates regs R (if nat_eq j 1 then m else n) (if nat_eq k 0 then b else a)
sim-if regs R zero j m n a b e below h g = subst (λ i. Simulates regs R (if nat_eq i 1 then m else n) b) (sym e) g
sim-if regs R (suc zero) j m n a b e below h g = subst (λ i. Simulates regs R (if nat_eq i 1 then m else n) a) (sym e) h
sim-if regs R (suc (suc k)) j m n a b e below h g = absurd (omega arith)

module _ (d : Checked) (n depth : ℕ) (names : List Bound) (types : List ValueType) (of : Option ValueType) where
  -- conditions, and bodies of a type
  abbrev pub AreConditions : List Sense → List Lowered → Type 0
  AreConditions senses ls = LowersAll d n depth false names types (replicate (length ls) (Some (bits 1))) senses ls

  abbrev pub AreBranches : List Sense → List Lowered → Type 0
  AreBranches senses ls = LowersAll d n depth false names types (replicate (length ls) of) senses ls

  module _ (inputs : List BitVector) (ports : Ports Stopped) (values : List Value) (locals : List BitVector)
      (w : HaveWidths (typed_input_widths d) inputs) (p : PortsFit (register_widths d) ports) (st : NamesStand d depth names types values locals) where
    abbrev senses_in : List Sense → List (Meaning Stopped)
    senses_in = map (λ (m : Sense). m (world d n inputs ports))

    abbrev actions_in : List Lowered → List (List BitVector → Evaluation BitVector Stopped)
    actions_in = values_of (environment d inputs) ports

    chosen-by : (v : Option Value) (x : BitVector) (m r : Evaluation (Option Value) Stopped) (a b : Evaluation BitVector Stopped) → Stands d (Some (bits 1)) v x →
        Simulates (register_widths d) (Stands d of) m a → Simulates (register_widths d) (Stands d of) r b →
        Simulates (register_widths d) (Stands d of) (if nat_eq (number_by v) 1 then m else r) (choose x a b)
    chosen-by None x m r a b is h g = absurd is
    chosen-by (Some v) x m r a b is h g =
        let wide : x.width ≡ 1 = is.2.1 ∙ width-bits d 1 in
        let low = is.2.0.in_range in
        let few : x.number < 2 = omega (arith, subst (λ k. x.number < 2 ^ k) wide low) in
        sim-if (register_widths d) (Stands d of) x.number (packed v).number m r a b (ap (λ (y : BitVector). y.number) is.1) few h g

    sim-arms : (cs bs tail : List Sense) (cls bls : List Lowered) (behind : List BitVector → Evaluation BitVector Stopped) → AreConditions cs cls → AreBranches bs bls → length cls ≡ length bls →
        Simulates (register_widths d) (Stands d of) (choose_body [] (senses_in tail) values) (behind locals) →
        Simulates (register_widths d) (Stands d of) (choose_body (senses_in cs) (senses_in (bs ++ tail)) values) (arms_part (actions_in cls) (actions_in bls) behind locals)
    sim-arms [] [] tail [] [] behind conditions branches count h = h
    sim-arms cs bs tail [] (b ∷ bls) behind conditions branches count h = absurd (omega arith)
    sim-arms cs bs tail (c ∷ cls) [] behind conditions branches count h = absurd (omega arith)
    sim-arms (c ∷ cs) bs tail [] [] behind conditions branches count h = absurd conditions
    sim-arms [] (b ∷ bs) tail [] [] behind conditions branches count h = absurd branches
    sim-arms [] bs tail (c ∷ cls) (b ∷ bls) behind conditions branches count h = absurd conditions
    sim-arms (c ∷ cs) [] tail (c' ∷ cls) (b' ∷ bls) behind conditions branches count h = absurd branches
    sim-arms (c ∷ cs) (b ∷ bs) tail (c' ∷ cls) (b' ∷ bls) behind conditions branches count h =
        sim-bind (register_widths d) (Stands d (Some (bits 1))) (Stands d of)
        (λ v. if nat_eq (number_by v) 1 then b (world d n inputs ports) values else choose_body (senses_in cs) (senses_in (bs ++ tail)) values)
        (λ x. choose x (evaluate (environment d inputs) ports b'.action locals) (arms_part (actions_in cls) (actions_in bls) behind locals))
        (λ v x is. chosen-by v x (b (world d n inputs ports) values) (choose_body (senses_in cs) (senses_in (bs ++ tail)) values)
        (evaluate (environment d inputs) ports b'.action locals) (arms_part (actions_in cls) (actions_in bls) behind locals) is
        (branches.0.means inputs ports values locals w p st) (sim-arms cs bs tail cls bls behind conditions.1 branches.1 (omega arith) h))
        (c (world d n inputs ports) values) (evaluate (environment d inputs) ports c'.action locals) (conditions.0.means inputs ports values locals w p st)

  -- ---- widths

  conditions-typed : (cs : List Sense) (cls : List Lowered) (widths : List ℕ) → NamesFit depth names widths → AreConditions cs cls →
      AllByRecursion (λ (c : Lowered). ActionHasWidth (declared_by d) c.action widths 1) cls
  conditions-typed cs [] widths f all = tt
  conditions-typed [] (c ∷ cls) widths f all = absurd all
  conditions-typed (m ∷ cs) (c ∷ cls) widths f all = (
    subst (λ w. ActionHasWidth (declared_by d) c.action widths w) (all.0.width ∙ width-bits d 1) (all.0.typed widths f),
    conditions-typed cs cls widths f all.1,
  )

  branches-typed : (bs : List Sense) (bls : List Lowered) (widths : List ℕ) → NamesFit depth names widths → AreBranches bs bls →
      AllByRecursion (λ (b : Lowered). ActionHasWidth (declared_by d) b.action widths (width_if d of)) bls
  branches-typed bs [] widths f all = tt
  branches-typed [] (b ∷ bls) widths f all = absurd all
  branches-typed (m ∷ bs) (b ∷ bls) widths f all = (subst (λ w. ActionHasWidth (declared_by d) b.action widths w) all.0.width (all.0.typed widths f), branches-typed bs bls widths f all.1)

  branches-wide : (bs : List Sense) (bls : List Lowered) → AreBranches bs bls → AllByRecursion (λ (b : Lowered). b.width ≡ width_if d of) bls
  branches-wide bs [] all = tt
  branches-wide [] (b ∷ bls) all = absurd all
  branches-wide (m ∷ bs) (b ∷ bls) all = (all.0.width, branches-wide bs bls all.1)

  -- ---- the whole

  -- what stands behind the conditions
  record IsLast (tail : List Sense) (behind : Lowered) : Type 0 where
    valid : IfSome of (IsType d)
    width : behind.width ≡ width_if d of
    typed : (widths : List ℕ) → NamesFit depth names widths → ActionHasWidth (declared_by d) behind.action widths (width_if d of)
    means : (inputs : List BitVector) (ports : Ports Stopped) (values : List Value) (locals : List BitVector) →
        HaveWidths (typed_input_widths d) inputs → PortsFit (register_widths d) ports → NamesStand d depth names types values locals →
        Simulates (register_widths d) (Stands d of) (choose_body [] (map (λ (m : Sense). m (world d n inputs ports)) tail) values) (evaluate (environment d inputs) ports behind.action locals)

  chosen-lowers : (cs bs tail : List Sense) (cls bls : List Lowered) (behind l : Lowered) → IsChosen cls bls behind l → length cls ≡ length bls →
      AreConditions cs cls → AreBranches bs bls → IsLast tail behind → Lowers d n depth names types of (if_sense cs (bs ++ tail)) l
  chosen-lowers cs bs tail cls bls behind l is count conditions branches last =
      let wide = is.typed count (width_if d of) (branches-wide bs bls branches) last.width in
      record {
        valid = last.valid;
        width = wide.0;
        typed = λ widths f. subst (λ w. ActionHasWidth (declared_by d) l.action widths w) (sym wide.0)
            (wide.1 (declared_by d) widths (conditions-typed cs cls widths f conditions) (branches-typed bs bls widths f branches) (last.typed widths f));
        means = λ inputs ports values locals w p st.
            sim-core (register_widths d) (Stands d of) (if_sense cs (bs ++ tail) (world d n inputs ports) values) (evaluate (environment d inputs) ports l.action locals)
            (arms_part (values_of (environment d inputs) ports cls) (values_of (environment d inputs) ports bls) (evaluate (environment d inputs) ports behind.action) locals)
            (is.means count (environment d inputs) ports locals)
            (sim-arms inputs ports values locals w p st cs bs tail cls bls (evaluate (environment d inputs) ports behind.action) conditions branches count (last.means inputs ports values locals w p st));
      }

  -- the last of the bodies
  record Split (bs : List Sense) (bls : List Lowered) : Type 0 where
    init : List Lowered
    last : Lowered
    are : bls ≡ init ++ last ∷ []
    first : List Sense
    sense : Sense
    same : bs ≡ first ++ sense ∷ []
    branches : AreBranches first init
    lowers : Lowers d n depth names types of sense last

  split : (bs : List Sense) (bls : List Lowered) → 1 ≤ length bls → AreBranches bs bls → Split bs bls
  split bs [] some all = absurd (omega arith)
  split [] (b ∷ bls) some all = absurd all
  split (m ∷ []) (b ∷ []) some all = record { init = []; last = b; are = refl; first = []; sense = m; same = refl; branches = tt; lowers = all.0 }
  split (m ∷ k ∷ bs) (b ∷ []) some all = absurd all.1
  split (m ∷ bs) (b ∷ c ∷ bls) some all =
      let rest = split bs (c ∷ bls) (omega arith) all.1 in
      record {
        init = b ∷ rest.init;
        last = rest.last;
        are = ap (λ xs. b ∷ xs) rest.are;
        first = m ∷ rest.first;
        sense = rest.sense;
        same = ap (λ xs. m ∷ xs) rest.same;
        branches = (all.0, rest.branches);
        lowers = rest.lowers;
      }

  pub if-lowers : (cs bs : List Sense) (cls bls : List Lowered) (l : Lowered) → IsChoice cls bls l → AreArms (length cls) (length bls) of → AreConditions cs cls → AreBranches bs bls →
      Lowers d n depth names types of (if_sense cs bs) l
  if-lowers cs bs cls bls l is (inl more) conditions branches =
      let parts = split bs bls (omega (arith, more)) branches in
      let count : length cls ≡ length parts.init = omega (arith, more, ap length parts.are, length-append parts.init (parts.last ∷ [])) in
      subst (λ (xs : List Sense). Lowers d n depth names types of (if_sense cs xs) l) (sym parts.same)
      (chosen-lowers cs parts.first (parts.sense ∷ []) cls parts.init parts.last l (is.more parts.init parts.last parts.are count) count conditions parts.branches
      (record {
        valid = parts.lowers.valid;
        width = parts.lowers.width;
        typed = λ widths f. subst (λ w. ActionHasWidth (declared_by d) parts.last.action widths w) parts.lowers.width (parts.lowers.typed widths f);
        means = λ inputs ports values locals w p st. parts.lowers.means inputs ports values locals w p st;
      }))
  if-lowers cs bs cls bls l is (inr (as_many, unit_type)) conditions branches =
      subst (λ (xs : List Sense). Lowers d n depth names types of (if_sense cs xs) l) (append-none bs)
      (chosen-lowers cs bs [] cls bls idle l (is.as_many (sym as_many)) (sym as_many) conditions branches
      (record {
        valid = subst (λ (o : Option ValueType). IfSome o (IsType d)) (sym unit_type) tt;
        width = sym (ap (width_if d) unit_type);
        typed = λ widths f. ap (width_if d) unit_type;
        means = λ inputs ports values locals w p st.
            subst (λ (o : Option ValueType). Simulates (register_widths d) (Stands d o) (comes_to None) (comes_to unit)) (sym unit_type)
            (sim-value (register_widths d) (Stands d None) None unit refl);
      }))
    where
      append-none : {X : Type 0} (xs : List X) → xs ++ [] ≡ xs
      append-none [] = refl
      append-none (x ∷ xs) = ap (λ ys. x ∷ ys) (append-none xs)
