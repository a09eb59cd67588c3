-- Expressions and steps are lowered, by their kinds.
use Rattle.std.proofs.Common.{◌≡◌, ℕ, suc, ◌+◌, List, [], ◌∷◌, length, map, replicate, Option, Some, Bool, false, if◌then◌else◌, refl, ap, sym, subst, ◌∙◌}
use Rattle.std.specs.List.{AllByRecursion}
use Rattle.std.proofs.lemmas.List.{length-map}
use Rattle.typed_core.specs.Evaluation.{◌>>=◌}
use Rattle.typed_core.specs.declared.action.Action.{Action}
use Rattle.typed_core.specs.declared.outcome.Stopped.{Stopped}
use Rattle.koika_check.specs.Meaning.{Meaning, RuleSetting, apply, choose, in_turn, meaning}
use Rattle.koika_check.specs.Types.{bits}
use Rattle.koika_check.specs.Typing.{AreArms, HasType, IsTypedDesign, Pairwise}
use Rattle.koika_check.specs.declared.checked.Checked.{Checked}
use Rattle.koika_check.specs.declared.typed.Operation.{Operation}
use Rattle.koika_check.specs.declared.typed.BlockStep.{BlockStep}
use Rattle.koika_check.specs.declared.typed.BlockStep.TheOpen as opened
use Rattle.koika_check.specs.declared.typed.BlockStep.TheVariants as step
use Rattle.koika_check.specs.declared.typed.Typed.{Typed}
use Rattle.koika_check.specs.declared.typed.Typed.TheVariants as typed
use Rattle.koika_check.specs.declared.typed.ValueType.{ValueType}
use Rattle.koika_lower.specs.inner.Actions.{IsLet}
use Rattle.koika_lower.specs.inner.Applied.{IsAfter, IsChoice, idle}
use Rattle.koika_lower.specs.inner.Expressions.{AreLowered, AreLoweredSteps, block_sense, sense_of}
use Rattle.koika_lower.specs.inner.Simulation.{AreNames, IsApplied, Lowers, LowersAll, Sense, apply_sense, rises}
use Rattle.koika_lower.specs.declared.lowered.Bound.{Bound}
use Rattle.koika_lower.specs.declared.lowered.Lowered.{Lowered}
use Rattle.koika_lower.proofs.Arms.{if-lowers, if_sense}
use Rattle.koika_lower.proofs.Atoms.{lowers-sense}
use Rattle.koika_lower.proofs.MeaningLayers.{meaning-Apply, meaning-Block, meaning-If}
use Rattle.koika_lower.proofs.Names.{names-bind}
use Rattle.koika_lower.proofs.Sides.{each-pairwise}
use Rattle.koika_lower.proofs.Steps.{do-lowers, do-typed, end-lowers, give-lowers, give-typed, let-lowers, let-typed}
use Rattle.koika_check.proofs.TypingLayers.{open-HasType}

-- what the expressions come to in a setting
senses-in : (s : RuleSetting Stopped) (es : List Typed) → map (λ (m : Sense). m s) (map sense_of es) ≡ map (meaning s) es
senses-in s [] = refl
senses-in s (e ∷ es) = ap (λ (ms : List (Meaning Stopped)). meaning s e ∷ ms) (senses-in s es)

pub some-pairs : (d : Checked) (n : ℕ) (types : List ValueType) (es : List Typed) (ts : List ValueType) → Pairwise (λ e t. HasType d n e types (Some t)) es ts →
    Pairwise (λ e of. HasType d n e types of) es (map Some ts)
some-pairs d n types [] [] h = tt
some-pairs d n types [] (t ∷ ts) h = absurd h
some-pairs d n types (e ∷ es) [] h = absurd h
some-pairs d n types (e ∷ es) (t ∷ ts) h = (h.0, some-pairs d n types es ts h.1)

pub lowers-count : (d : Checked) (n depth : ℕ) (rising : Bool) (names : List Bound) (types : List ValueType) (ofs : List (Option ValueType)) (senses : List Sense) (ls : List Lowered) →
    LowersAll d n depth rising names types ofs senses ls → length ls ≡ length senses
lowers-count d n depth rising names types [] [] [] h = refl
lowers-count d n depth rising names types [] [] (l ∷ ls) h = absurd h
lowers-count d n depth rising names types [] (m ∷ senses) ls h = absurd h
lowers-count d n depth rising names types (of ∷ ofs) [] ls h = absurd h
lowers-count d n depth rising names types (of ∷ ofs) (m ∷ senses) [] h = absurd h
lowers-count d n depth rising names types (of ∷ ofs) (m ∷ senses) (l ∷ ls) h = ap suc (lowers-count d n (if rising then depth + 1 else depth) rising names types ofs senses ls h.1)

module _ (d : Checked) (n depth : ℕ) (names : List Bound) where
  -- the lowered is that of the expression, wherever this is well typed
  abbrev pub IsLowered : Typed → Lowered → Type 0
  IsLowered e l = (types : List ValueType) (of : Option ValueType) → IsTypedDesign d → AreNames d depth names types → HasType d n e types of →
      Lowers d n depth names types of (λ s. meaning s e) l

  -- ---- expressions

  pub apply-lowered : (o : Operation) (operands : List Typed) (rising : Bool) (ls : List Lowered) (l : Lowered) → rising ≡ rises o → AreLowered d n depth rising names operands ls →
      ((types ts : List ValueType) (of : Option ValueType) (senses : List Sense) →
      IsApplied d n depth names types o ts of senses ls → Lowers d n depth names types of (apply_sense o senses) l) → IsLowered (typed.Apply o operands) l
  apply-lowered o operands rising ls l same all made types of design are h =
      let it = open-HasType d n (typed.Apply o operands) (opened.Apply o operands) (typed.rolls-Apply o operands) types of h in
      let ts : List ValueType = it.0 in
      lowers-sense d n depth names types of (apply_sense o (map sense_of operands)) (λ s. meaning s (typed.Apply o operands)) l
      (λ s. (λ i values. in_turn (senses-in s operands i) values >>= apply s o) ∙ sym (meaning-Apply s o operands))
      (made types ts of (map sense_of operands) (record {
        design = design;
        are = are;
        all = subst (λ (b : Bool). LowersAll d n depth b names types (map Some ts) (map sense_of operands) ls) same
            (all types (map Some ts) design are (some-pairs d n types operands ts it.1));
        applies = it.2;
      }))

  same-type : (es : List Typed) (ls : List Lowered) (types : List ValueType) (of : Option ValueType) → IsTypedDesign d → AreNames d depth names types →
      AreLowered d n depth false names es ls → AllByRecursion (λ e. HasType d n e types of) es →
      (length ls ≡ length es) × LowersAll d n depth false names types (replicate (length ls) of) (map sense_of es) ls
  same-type es ls types of design are all h =
      let each = all types (replicate (length es) of) design are (each-pairwise (λ (e : Typed) (o : Option ValueType). HasType d n e types o) of es h) in
      let count = lowers-count d n depth false names types (replicate (length es) of) (map sense_of es) ls each ∙ length-map es sense_of in
      (count, subst (λ k. LowersAll d n depth false names types (replicate k of) (map sense_of es) ls) (sym count) each)

  pub if-lowered : (conditions arms : List Typed) (tests branches : List Lowered) (l : Lowered) → AreLowered d n depth false names conditions tests →
      AreLowered d n depth false names arms branches → IsChoice tests branches l → IsLowered (typed.If conditions arms) l
  if-lowered conditions arms tests branches l first second is types of design are h =
      let it = open-HasType d n (typed.If conditions arms) (opened.If conditions arms) (typed.rolls-If conditions arms) types of h in
      let cs = same-type conditions tests types (Some (bits 1)) design are first it.0 in
      let bs = same-type arms branches types of design are second it.1 in
      lowers-sense d n depth names types of (if_sense (map sense_of conditions) (map sense_of arms)) (λ s. meaning s (typed.If conditions arms)) l
      (λ s. (λ i. choose (senses-in s conditions i) (senses-in s arms i)) ∙ sym (meaning-If s conditions arms))
      (if-lowers d n depth names types of (map sense_of conditions) (map sense_of arms) tests branches l is
      (subst (λ k. AreArms k (length branches) of) (sym cs.0) (subst (λ k. AreArms (length conditions) k of) (sym bs.0) it.2)) cs.1 bs.1)

  pub block-lowered : (steps : List BlockStep) (l : Lowered) → AreLoweredSteps d n depth names steps l → IsLowered (typed.Block steps) l
  block-lowered steps l made types of design are h =
      lowers-sense d n depth names types of (block_sense steps) (λ s. meaning s (typed.Block steps)) l (λ s. sym (meaning-Block s steps))
      (made types of design are (open-HasType d n (typed.Block steps) (opened.Block steps) (typed.rolls-Block steps) types of h))

  -- ---- steps

  pub end-lowered : AreLoweredSteps d n depth names [] idle
  end-lowered types of design are h = end-lowers d n depth names types of h

  pub do-lowered : (v : Typed) (rest : List BlockStep) (first second l : Lowered) → IsLowered v first → AreLoweredSteps d n depth names rest second → IsAfter first second l →
      AreLoweredSteps d n depth names (step.Do v ∷ rest) l
  do-lowered v rest first second l run body is types of design are h =
      let it = do-typed d n rest types of v h in
      do-lowers d n depth names types v it.0 rest of first second l is (run types it.0 design are it.1) (body types of design are it.2)

  pub give-lowered : (v : Typed) (rest : List BlockStep) (l : Lowered) → IsLowered v l → AreLoweredSteps d n depth names (step.Give v ∷ rest) l
  give-lowered v rest l made types of design are h =
      give-lowers d n depth names types v rest of l (made types of design are (give-typed d n rest types of v h))

  pub let-lowered : (v : Typed) (rest : List BlockStep) (first second : Lowered) (at : ℕ) (a : Action) → IsLowered v first → at ≡ depth + 1 →
      AreLoweredSteps d n at (record { level = depth; width = first.width } ∷ names) rest second → IsLet first.action second.action a →
      AreLoweredSteps d n depth names (step.Let v ∷ rest) (record { action = a; width = second.width })
  let-lowered v rest first second at a made place body is types of design are h =
      let it = let-typed d n rest types of v h in
      let value = made types (Some it.0) design are it.1 in
      let inner : AreLoweredSteps d n (depth + 1) (record { level = depth; width = first.width } ∷ names) rest second =
      subst (λ k. AreLoweredSteps d n k (record { level = depth; width = first.width } ∷ names) rest second) place body in
      let-lowers d n depth names types v it.0 rest of first second a are is value
      (inner (it.0 ∷ types) of design (names-bind d depth names types it.0 first.width value.width value.valid are) it.2)
