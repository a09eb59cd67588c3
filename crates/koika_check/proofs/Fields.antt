-- A checker while the fields of a struct are read.
use Rattle.std.proofs.Common.{◌≡◌, ℕ, ◌+◌, ◌<◌, ◌≤◌, ◌^◌, min, List, [], ◌∷◌, ◌++◌, length, map, sum_by, None, refl, ap, sym, ◌∙◌, subst, arith}
use Rattle.std.proofs.lemmas.List.{map-append}
use Rattle.std.proofs.lemmas.List.Sums.{sum_by-cons}
use Rattle.koika_check.specs.inner.Checking.{AreTypes, Grows, IsChecker, Stands}
use Rattle.koika_check.specs.Declarations.{names_of_fields}
use Rattle.koika_check.specs.inner.Listed.{AreFields, GrowsInParts, Keeps, Lists}
use Rattle.koika_check.specs.inner.Settled.{IsSettled}
use Rattle.koika_check.specs.inner.Things.{AreParts, thing, thing_named}
use Rattle.koika_check.specs.Types.{width_of}
use Rattle.koika_check.specs.declared.checked.Checked.{Checked}
use Rattle.koika_check.specs.declared.checked.CheckedField.{CheckedField}
use Rattle.koika_check.specs.declared.checker.Checker.{Checker}
use Rattle.koika_check.specs.declared.parts.Parts.{Parts}
use Rattle.koika_check.specs.declared.shapes.Shape.{Shape}
use Rattle.koika_check.specs.declared.structs.Fields.{Fields}
use Rattle.koika_check.specs.declared.checked.Struct.{Struct}
use Rattle.koika_check.specs.declared.things.Things.{Things}
use Rattle.koika_check.specs.declared.typed.ValueType.{ValueType}
use Rattle.koika_check.specs.declared.things.Kind.TheVariants as kind
use Rattle.koika_check.proofs.Added.{Declares, kept, types-push}
use Rattle.koika_check.proofs.AddedTypes.{added-struct}
use Rattle.koika_check.proofs.Declaring.{settled-grows}
use Rattle.koika_check.proofs.Growth.{grows-trans, types-grow}
use Rattle.koika_check.proofs.Extensions.{more-same}
use Rattle.koika_check.proofs.Listing.{enum-struct, other-number}

-- the parts of a struct that isn't declared yet
pub parts-kept : (a : Checker) → IsChecker a → (p : Parts) (k : ℕ) → AreParts p → Keeps a.parts p (thing kind.Struct k) → length a.design.structs ≤ k → k < 2 ^ 32 → IsChecker (record a { parts = p })
parts-kept a h p k are keeps le small = kept a _ (record { design = more-same a.design; shapes = refl }) h (record {
  things = h.things;
  names = h.names;
  parts = are;
  members = λ number lt name. keeps (thing kind.Enum number) name (enum-struct number k) ∙ h.members number lt name;
  named_fields = λ number lt name. keeps (thing kind.Struct number) name (other-number kind.Struct number k (omega (arith, lt, le, small)) small (λ q. omega (arith, q, lt, le))) ∙ h.named_fields number lt name;
  widths = h.widths;
  registers = h.registers;
  inputs = h.inputs;
  each_fields = h.each_fields;
  fields = h.fields;
  each_function = h.each_function;
  functions = h.functions;
  locals = h.locals;
  bound = h.bound;
  hosts = h.hosts;
  each_rule = h.each_rule;
  marks = h.marks;
})

pub grows-parts : (a : Checker) (p : Parts) (s : Checker) → Grows (record a { parts = p }) s → GrowsInParts a s
grows-parts a p s g = record {
  design = g.design;
  things = g.things;
  parts = refl;
  registers = g.registers;
  inputs = g.inputs;
  fields = g.fields;
  functions = g.functions;
  hosts = g.hosts;
  asserted = g.asserted;
  arrays = g.arrays;
}

pub in-parts-trans : (a b c : Checker) → GrowsInParts a b → GrowsInParts b c → GrowsInParts a c
in-parts-trans a b c g k = grows-trans a (record b { parts = a.parts }) (record c { parts = a.parts }) g (record {
  design = k.design;
  things = k.things;
  parts = refl;
  registers = k.registers;
  inputs = k.inputs;
  fields = k.fields;
  functions = k.functions;
  hosts = k.hosts;
  asserted = k.asserted;
  arrays = k.arrays;
})

-- types that stood before stand behind further parts and array types
types-in-parts : (a s : Checker) → GrowsInParts a s → (shapes : List Shape) (of : List ValueType) → AreTypes a shapes of → AreTypes s shapes of
types-in-parts a s g shapes of h =
    let there = types-grow a (record s { parts = a.parts }) g shapes of h in
    record { are = there.are; each = λ k d lt. let t = there.each k d lt in record { known = t.known; named = t.named; width = t.width } }

sum-push : (w : CheckedField → ℕ) (xs : List CheckedField) (x : CheckedField) → sum_by w (xs ++ x ∷ []) ≡ sum_by w xs + w x
sum-push w [] x = sum_by-cons w x [] ∙ omega arith
sum-push w (y ∷ xs) x = sum_by-cons w y (xs ++ x ∷ []) ∙ ap (λ n. w y + n) (sum-push w xs x) ∙ omega (arith, sum_by-cons w y xs)

-- one more field
pub fields-push : (a s : Checker) → GrowsInParts a s → (old new : Fields) → AreFields a old → (f : CheckedField) (shape : Shape) (width : ℕ) → Stands s shape f.of → width ≡ width_of s.design f.of →
    new.fields ≡ old.fields ++ f ∷ [] → new.shapes ≡ old.shapes ++ shape ∷ [] → new.width ≡ min (old.width + width) 129 → AreFields s new
fields-push a s g old new h f shape width stands w e1 e2 e3 = record {
  types = subst (λ (ss : List Shape). AreTypes s ss (map (λ (x : CheckedField). x.of) new.fields)) (sym e2)
      (subst (λ (ts : List ValueType). AreTypes s (old.shapes ++ shape ∷ []) ts) (sym (ap (map (λ (x : CheckedField). x.of)) e1 ∙ map-append (λ (x : CheckedField). x.of) old.fields (f ∷ [])))
      (types-push s old.shapes (map (λ (x : CheckedField). x.of) old.fields) shape f.of (types-in-parts a s g old.shapes (map (λ (x : CheckedField). x.of) old.fields) h.types) stands));
  width =
      let before : old.width ≡ min (sum_by (λ (x : CheckedField). width_of s.design x.of) old.fields) 129 = h.width ∙ ap (λ (d : Checked). min (sum_by (λ (x : CheckedField). width_of d x.of) old.fields) 129) (sym g.design) in
      let sum : sum_by (λ (x : CheckedField). width_of s.design x.of) new.fields ≡ sum_by (λ (x : CheckedField). width_of s.design x.of) old.fields + width_of s.design f.of =
      ap (sum_by (λ (x : CheckedField). width_of s.design x.of)) e1 ∙ sum-push (λ (x : CheckedField). width_of s.design x.of) old.fields f in
      e3 ∙ capped_sum old.width width (sum_by (λ (x : CheckedField). width_of s.design x.of) old.fields) before ∙ ap (λ n. min n 129) (omega (arith, sum, w));
}
  where
    capped_sum : (o w s : ℕ) → o ≡ min s 129 → min (o + w) 129 ≡ min (s + w) 129
    capped_sum o w s e = grind arith

types-back : (s : Checker) (p : Parts) (shapes : List Shape) (of : List ValueType) → AreTypes s shapes of → AreTypes (record s { parts = p }) shapes of
types-back s p shapes of h = record { are = h.are; each = λ k d lt. let t = h.each k d lt in record { known = t.known; named = t.named; width = t.width } }

-- one more struct, behind its fields
pub struct-settled : (a s : Checker) → IsSettled a → IsChecker s → GrowsInParts a s → s.locals ≡ a.locals → (x : Struct) (shapes : List Shape) (name : List ℕ) (t : Things) (k : ℕ) → k ≡ length s.design.structs → k < 2 ^ 32 →
    Keeps a.parts s.parts (thing kind.Struct k) → Lists s.parts (thing kind.Struct k) (names_of_fields x.fields) → x.name ≡ name → thing_named s.things name ≡ None → Declares s.things name (thing kind.Struct k) t →
    AreTypes s shapes (map (λ (f : CheckedField). f.of) x.fields) → x.width ≡ min (sum_by (λ (f : CheckedField). width_of s.design f.of) x.fields) 129 →
    IsSettled (record s { design = record s.design { structs = s.design.structs ++ x ∷ [] }; things = t; fields = s.fields ++ shapes ∷ [] })
struct-settled a s h hs g locals x shapes name t k ke small keeps lists is new declares types width =
    let b : Checker = record s { parts = a.parts } in
    let kb : IsChecker b = parts-kept s hs a.parts k h.checker.parts (λ other n ne. sym (keeps other n ne)) (omega (arith, ke)) small in
    let hb : IsSettled b = settled-grows a b h kb g locals in
    added-struct b hb x shapes name t s.parts is new (subst (λ n. Declares s.things name (thing kind.Struct n) t) ke declares) (subst (λ n. n < 2 ^ 32) ke small) hs.parts
    (subst (λ n. Keeps a.parts s.parts (thing kind.Struct n)) ke keeps) (subst (λ n. Lists s.parts (thing kind.Struct n) (names_of_fields x.fields)) ke lists) (types-back s a.parts shapes (map (λ (f : CheckedField). f.of) x.fields) types) width
