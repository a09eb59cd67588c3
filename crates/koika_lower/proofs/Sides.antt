-- Expressions side by side are lowered one by one.
use Rattle.std.proofs.Common.{◌≡◌, ℕ, zero, suc, ◌+◌, ◌<◌, List, [], ◌∷◌, ◌++◌, length, map, replicate, take, get_or, Option, Bool, true, false, if◌then◌else◌, arith, refl, ap, sym, subst, ◌∙◌}
use Rattle.std.specs.List.{AllByRecursion}
use Rattle.std.proofs.lemmas.List.{map-append, take_more}
use Rattle.koika_check.specs.Typing.{HasType, IsTypedDesign, Pairwise}
use Rattle.koika_check.specs.declared.checked.Checked.{Checked}
use Rattle.koika_check.specs.declared.typed.Typed.{Typed}
use Rattle.koika_check.specs.declared.typed.ValueType.{ValueType}
use Rattle.koika_lower.specs.inner.Expressions.{AreLowered, sense_of}
use Rattle.koika_lower.specs.inner.Simulation.{AreNames, Lowers, LowersAll, Sense}
use Rattle.koika_lower.specs.declared.lowered.Bound.{Bound}
use Rattle.koika_lower.specs.declared.lowered.Lowered.{Lowered}
use Rattle.koika_lower.proofs.Names.{names-deeper}

-- how many lets stand round the expression behind so many
abbrev pub depth_behind : Bool → (depth count : ℕ) → ℕ
depth_behind true depth count = depth + count
depth_behind false depth count = depth

behind-none : (rising : Bool) (depth : ℕ) → depth_behind rising depth 0 ≡ depth
behind-none true depth = omega arith
behind-none false depth = refl

behind-first : (rising : Bool) (depth count : ℕ) → depth_behind rising depth (suc count) ≡ depth_behind rising (if rising then depth + 1 else depth) count
behind-first true depth count = omega arith
behind-first false depth count = refl

pub behind-next : (rising : Bool) (depth count : ℕ) → depth_behind rising depth (count + 1) ≡ (if rising then depth_behind rising depth count + 1 else depth_behind rising depth count)
behind-next true depth count = omega arith
behind-next false depth count = refl

pub names-behind : (d : Checked) (rising : Bool) (depth count : ℕ) (names : List Bound) (types : List ValueType) → AreNames d depth names types → AreNames d
    (depth_behind rising depth count) names types
names-behind d false depth count names types are = are
names-behind d true depth zero names types are = subst (λ k. AreNames d k names types) (omega arith) are
names-behind d true depth (suc count) names types are =
    subst (λ k. AreNames d k names types) (omega arith) (names-deeper d (depth + count) names types (names-behind d true depth count names types are))

-- of one more at the end
pairs-end : {X Y : Type 0} (P : X → Y → Type 0) (xs : List X) (x : X) (ys : List Y) → Pairwise P (xs ++ x ∷ []) ys →
    (init : List Y) × (last : Y) × (ys ≡ init ++ last ∷ []) × Pairwise P xs init × P x last
pairs-end P [] x [] h = absurd h
pairs-end P [] x (y ∷ []) h = ([], y, refl, tt, h.0)
pairs-end P [] x (y ∷ z ∷ ys) h = absurd h.1
pairs-end P (w ∷ xs) x [] h = absurd h
pairs-end P (w ∷ xs) x (y ∷ ys) h =
    let rest = pairs-end P xs x ys h.1 in
    (y ∷ rest.0, rest.1, ap (λ zs. y ∷ zs) rest.2, (h.0, rest.3), rest.4)

-- where each is so of the same
pub each-pairwise : {X Y : Type 0} (P : X → Y → Type 0) (y : Y) (xs : List X) → AllByRecursion (λ x. P x y) xs → Pairwise P xs (replicate (length xs) y)
each-pairwise P y [] h = tt
each-pairwise P y (x ∷ xs) h = (h.0, each-pairwise P y xs h.1)

module _ (d : Checked) (n : ℕ) (names : List Bound) (types : List ValueType) (rising : Bool) where
  all-push : (depth : ℕ) (ofs : List (Option ValueType)) (senses : List Sense) (ls : List Lowered) (of : Option ValueType) (m : Sense) (l : Lowered) →
      LowersAll d n depth rising names types ofs senses ls → Lowers d n (depth_behind rising depth (length ls)) names types of m l →
      LowersAll d n depth rising names types (ofs ++ of ∷ []) (senses ++ m ∷ []) (ls ++ l ∷ [])
  all-push depth [] [] [] of m l all h = (subst (λ k. Lowers d n k names types of m l) (behind-none rising depth) h, tt)
  all-push depth [] [] (x ∷ ls) of m l all h = absurd all
  all-push depth [] (s ∷ senses) ls of m l all h = absurd all
  all-push depth (o ∷ ofs) [] ls of m l all h = absurd all
  all-push depth (o ∷ ofs) (s ∷ senses) [] of m l all h = absurd all
  all-push depth (o ∷ ofs) (s ∷ senses) (x ∷ ls) of m l all h = (
    all.0,
    all-push (if rising then depth + 1 else depth) ofs senses ls of m l all.1 (subst (λ k. Lowers d n k names types of m l) (behind-first rising depth (length ls)) h),
  )

-- none so far
pub lowered-none : (d : Checked) (n : ℕ) (depth : ℕ) (rising : Bool) (names : List Bound) → AreLowered d n depth rising names [] []
lowered-none d n depth rising names types [] design are h = tt
lowered-none d n depth rising names types (of ∷ ofs) design are h = absurd h

-- and one more
pub lowered-push : (d : Checked) (n : ℕ) (depth : ℕ) (rising : Bool) (names : List Bound) (es : List Typed) (i at : ℕ) (e : Typed) (ls : List Lowered) (l : Lowered) →
    i < length es → length ls ≡ i → at ≡ depth_behind rising depth i → AreLowered d n depth rising names (take i es) ls →
    ((types : List ValueType) (of : Option ValueType) → IsTypedDesign d → AreNames d at names types → HasType d n (get_or es i e) types of →
    Lowers d n at names types of (sense_of (get_or es i e)) l) →
    AreLowered d n depth rising names (take (i + 1) es) (ls ++ l ∷ [])
lowered-push d n depth rising names es i at e ls l below count place before this types ofs design are h =
    let more = take_more es i e below in
    let P : Typed → Option ValueType → Type 0 = λ x of. HasType d n x types of in
    let parts = pairs-end P (take i es) (get_or es i e) ofs (subst (λ (xs : List Typed). Pairwise P xs ofs) more h) in
    let here = this types parts.1 design (subst (λ k. AreNames d k names types) (sym place) (names-behind d rising depth i names types are)) parts.4 in
    let all = all-push d n names types rising depth parts.0 (map sense_of (take i es)) ls parts.1 (sense_of (get_or es i e)) l
    (before types parts.0 design are parts.3)
    (subst (λ k. Lowers d n k names types parts.1 (sense_of (get_or es i e)) l) (place ∙ ap (depth_behind rising depth) (sym count)) here) in
    subst (λ (os : List (Option ValueType)). LowersAll d n depth rising names types os (map sense_of (take (i + 1) es)) (ls ++ l ∷ [])) (sym parts.2)
    (subst (λ (ms : List Sense). LowersAll d n depth rising names types (parts.0 ++ parts.1 ∷ []) ms (ls ++ l ∷ []))
    (sym (ap (map sense_of) more ∙ map-append sense_of (take i es) (get_or es i e ∷ []))) all)
