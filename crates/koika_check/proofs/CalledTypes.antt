-- The types of what is called.
use Rattle.std.proofs.Common.{◌≡◌, ℕ, zero, suc, ◌/◌, ◌%◌, ◌<◌, ◌≤◌, List, [], ◌∷◌, length, map, min, drop, get_or, replicate, Option, Some, None, refl, ap, ap₂, sym, ◌∙◌, subst, arith}
use Rattle.std.specs.List.{All, slice_get}
use Rattle.std.proofs.lemmas.List.{drop-map, length-map}
use Rattle.std.proofs.lemmas.List.Elements.{All-cons, All-nil}
use Rattle.kw_bits.specs.Host.{TakesWidth, arity, out_width}
use Rattle.kw_bits.specs.declared.host.HostKind.{HostKind}
use Rattle.kw_bits.specs.declared.host.HostKind.TheVariants as kinds
use Rattle.koika_check.specs.inner.Checking.{AreTypes, IsChecker, IsSignature, IsType, IsWidth, arrays_of}
use Rattle.kw_base.specs.declared.fault_number.TheConstants.{UNKNOWN_NAME}
use Rattle.koika_syntax.specs.declared.tree.Name.{Name}
use Rattle.koika_check.specs.Constructs.{arguments_agree}
use Rattle.koika_check.specs.Outcomes.{Fails, found, wrong}
use Rattle.koika_check.specs.Scopes.{Called, at, called, called_function, called_host, called_table, or_else}
use Rattle.koika_check.specs.declared.checked.Checked.{Checked}
use Rattle.koika_check.specs.inner.Shapes.{type_of_shape}
use Rattle.koika_check.specs.Types.{TypedPart, bits}
use Rattle.koika_check.specs.declared.checked.CheckedFunction.{CheckedFunction}
use Rattle.koika_check.specs.declared.checker.Checker.{Checker}
use Rattle.koika_check.specs.declared.checker.Signature.{Signature}
use Rattle.koika_check.specs.declared.shapes.Shape.TheVariants as shape
use Rattle.koika_check.specs.declared.typed.ValueType.{ValueType}
use Rattle.koika_check.specs.Kinds.{number_named}
use Rattle.koika_check.specs.declared.things.Kind.TheVariants as kind
use Rattle.koika_check.proofs.PartTypes.{bits-type}

-- the item at an index
pub at-index : {X : Type 0} (xs : List X) (i : ℕ) → i < length xs → (x : X) × (slice_get xs i ≡ Some x) × (get_or xs i x ≡ x)
at-index [] i lt = absurd (omega (arith, lt))
at-index (x ∷ xs) zero lt = (x, refl, refl)
at-index (x ∷ xs) (suc i) lt = at-index xs i (omega (arith, lt))

-- what callers see of a function is what it has
pub signature-at : (c : Checker) → IsChecker c → (n : ℕ) (s : Signature) (f : CheckedFunction) → n < length c.design.functions → s ≡ get_or c.functions n s → get_or c.design.functions n f ≡ f → IsSignature c s f
signature-at c h n s f lt is fe =
    subst (IsSignature c s) fe (subst (λ t. IsSignature c t (get_or c.design.functions n f)) (sym is) (h.functions n s f (omega (arith, lt, h.each_function))))

-- so many parameters of one width
pub repeated-types : (c : Checker) (n w : ℕ) → IsWidth w → AreTypes c (replicate n (shape.Bits w)) (replicate n (bits w))
repeated-types c n w h = record { are = same n; each = all n }
  where
    same : (n : ℕ) → replicate n (bits w) ≡ map (type_of_shape (arrays_of c)) (replicate n (shape.Bits w))
    same zero = refl
    same (suc n) = ap (λ (ts : List ValueType). bits w ∷ ts) (same n)

    all : (n : ℕ) → All (IsType c) (replicate n (shape.Bits w))
    all zero = All-nil (IsType c)
    all (suc n) = All-cons (IsType c) (shape.Bits w) (replicate n (shape.Bits w)) (bits-type c w h.some h.most) (all n)

halved : (w : ℕ) → 1 ≤ w → w ≤ 12 → w % 2 ≡ 0 → IsWidth (w / 2)
halved w some most even = record { some = grind arith; most = grind arith }

-- a host function's arguments and its answer have widths of values
pub argument-width : (k : HostKind) (w : ℕ) → TakesWidth k w → IsWidth (w / arity k)
unfolding arity
argument-width kinds.Popcount w h = record { some = grind (arith, h.some_bit); most = grind (arith, h.no_wider) }
argument-width kinds.Parity w h = record { some = grind (arith, h.some_bit); most = grind (arith, h.no_wider) }
argument-width kinds.Reverse w h = record { some = grind (arith, h.some_bit); most = grind (arith, h.no_wider) }
argument-width kinds.LeadingZeros w h = record { some = grind (arith, h.some_bit); most = grind (arith, h.no_wider) }
argument-width kinds.Gray w h = record { some = grind (arith, h.some_bit); most = grind (arith, h.no_wider) }
argument-width kinds.Hamming w h = halved w h.some_bit h.no_wider h.equal_parts
argument-width kinds.Morton w h = halved w h.some_bit h.no_wider h.equal_parts
argument-width kinds.SatAdd w h = halved w h.some_bit h.no_wider h.equal_parts

pub answer-width : (k : HostKind) (w : ℕ) → TakesWidth k w → IsWidth (out_width k w)
unfolding arity out_width
answer-width kinds.Popcount w h = record { some = omega arith; most = omega arith }
answer-width kinds.Parity w h = record { some = omega arith; most = omega arith }
answer-width kinds.Reverse w h = record { some = h.some_bit; most = omega (arith, h.no_wider) }
answer-width kinds.LeadingZeros w h = record { some = omega arith; most = omega arith }
answer-width kinds.Gray w h = record { some = h.some_bit; most = omega (arith, h.no_wider) }
answer-width kinds.Hamming w h = record { some = omega arith; most = omega arith }
answer-width kinds.Morton w h = record { some = h.some_bit; most = omega (arith, h.no_wider) }
answer-width kinds.SatAdd w h = halved w h.some_bit h.no_wider h.equal_parts

-- ---- arguments

past-agree : (ts : List ValueType) (ps : List TypedPart) (i : ℕ) → min (length ts) (length ps) ≤ i → arguments_agree (drop i ts) (drop i ps) ≡ None
past-agree [] ps zero h = refl
past-agree [] ps (suc i) h = refl
past-agree (t ∷ ts) [] zero h = refl
past-agree (t ∷ ts) [] (suc i) h = nothing (drop i ts)
  where
    nothing : (ts : List ValueType) → arguments_agree ts [] ≡ None
    nothing [] = refl
    nothing (t ∷ ts) = refl
past-agree (t ∷ ts) (p ∷ ps) zero h = absurd (none (length ts) (length ps) h)
  where
    none : (a b : ℕ) → min (suc a) (suc b) ≤ 0 → ⊥
    none a b h = omega (arith, h)
past-agree (t ∷ ts) (p ∷ ps) (suc i) h = past-agree ts ps i (less (length ts) (length ps) i h)
  where
    less : (a b i : ℕ) → min (suc a) (suc b) ≤ suc i → min a b ≤ i
    less a b i h = grind (arith, h)

-- behind the last parameter or argument no argument is wrong
pub agree-past : {X Y : Type 0} (f : X → ValueType) (g : Y → TypedPart) (xs : List X) (ys : List Y) (i : ℕ) → min (length xs) (length ys) ≤ i → arguments_agree (map f (drop i xs)) (map g (drop i ys)) ≡ None
agree-past f g xs ys i h =
    ap₂ arguments_agree (sym (drop-map f i xs)) (sym (drop-map g i ys))
    ∙ past-agree (map f xs) (map g ys) i (subst (λ n. n ≤ i) (ap₂ min (sym (length-map xs f)) (sym (length-map ys g))) h)

-- ---- a name that calls nothing

abbrev otherwise : Checked → Name → Option Called
otherwise d n = or_else (called_table (number_named kind.Table d n.text) (at d.tables (number_named kind.Table d n.text))) (called_host (number_named kind.Host d n.text) (at d.hosts (number_named kind.Host d n.text)))

no_function : (d : Checked) (n : Name) → number_named kind.Function d n.text ≡ None → called d n ≡ found (otherwise d n) (wrong UNKNOWN_NAME n.place)
no_function d n f = ap (λ o. found (or_else (called_function o (at d.functions o)) (otherwise d n)) (wrong UNKNOWN_NAME n.place)) f

abbrev hosts_of : Checked → Name → Option Called
hosts_of d n = called_host (number_named kind.Host d n.text) (at d.hosts (number_named kind.Host d n.text))

no_table : (d : Checked) (n : Name) → number_named kind.Function d n.text ≡ None → number_named kind.Table d n.text ≡ None → called d n ≡ found (hosts_of d n) (wrong UNKNOWN_NAME n.place)
no_table d n f t = no_function d n f ∙ ap (λ o. found (or_else (called_table o (at d.tables o)) (hosts_of d n)) (wrong UNKNOWN_NAME n.place)) t

pub called-unknown : (d : Checked) (n : Name) → number_named kind.Function d n.text ≡ None → number_named kind.Table d n.text ≡ None → number_named kind.Host d n.text ≡ None → called d n ≡ Fails (wrong UNKNOWN_NAME n.place)
called-unknown d n f t h = no_table d n f t ∙ ap (λ o. found (called_host o (at d.hosts o)) (wrong UNKNOWN_NAME n.place)) h
