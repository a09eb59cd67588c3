-- Constants in order, as far as they were looked at.
use Rattle.std.proofs.Common.{◌≡◌, ℕ, ◌+◌, ◌<◌, List, [], ◌∷◌, ◌++◌, length, map, take, drop, get_or, Result, Ok, Err, refl, ap, ap₂, sym, ◌∙◌, subst}
use Rattle.std.proofs.lemmas.List.{map-append}
use Rattle.std.proofs.lemmas.List.Elements.{All-nil, All-push, All-weaker}
use Rattle.koika_syntax.specs.declared.tree.Constant.{Constant}
use Rattle.koika_syntax.specs.declared.tree.ConstantField.{ConstantField, out-ConstantField}
use Rattle.koika_syntax.specs.declared.tree.Name.{Name}
use Rattle.koika_types.specs.declared.value.Value.{Value}
use Rattle.koika_types.specs.declared.value.Value.TheVariants as value
use Rattle.koika_check.specs.inner.Checking.{Checks, IsMember, IsPartIn, StandsFor, AreGiven, AreKnown, AreKnownFields, IsChecker, IsGiven, IsKnown, IsPart, Yields, arrays_of, scope_of}
use Rattle.koika_check.specs.Composites.{array_of, fields_of, struct_of}
use Rattle.koika_check.specs.Composites as composites
use Rattle.koika_check.specs.Constants.{array_known, constant_of, known_member, struct_known}
use Rattle.koika_check.specs.inner.Constants.{constant_field_of}
use Rattle.koika_check.specs.Constants as constants
use Rattle.koika_check.specs.Outcomes.{Gives, CheckResult, ◌>>=◌, in_turn}
use Rattle.koika_check.specs.inner.Outcomes.{Ends, Stop, Tells}
use Rattle.koika_check.specs.inner.Shapes.{part_of}
use Rattle.koika_check.specs.Types.{TypedPart as TypedPart}
use Rattle.koika_check.specs.declared.agreement.Part.{Part}
use Rattle.koika_check.specs.declared.checked.Checked.{Checked}
use Rattle.koika_check.specs.declared.checker.Checker.{Checker}
use Rattle.koika_check.specs.declared.checker.Known.{Known}
use Rattle.koika_check.specs.declared.composites.Given.{Given}
use Rattle.koika_check.specs.declared.constants.KnownFields.{KnownFields}
use Rattle.koika_check.specs.declared.constants.Knowns.{Knowns}
use Rattle.koika_check.proofs.Compositions.{given-grow, given-push}
use Rattle.koika_check.proofs.ConstantParts.{constant-field}
use Rattle.koika_check.proofs.Growth.{grows-refl, grows-trans, part-grows, parts-grow}
use Rattle.koika_check.proofs.Telling.{tells-ok}
use Rattle.koika_check.proofs.Turns.{ends-behind, ends-bind, ends-same, ends-tells, turn-ends, turn-push}

-- ---- constants

pub known-none : (c : Checker) → IsChecker c → Yields (AreKnown (scope_of c)) c (in_turn (λ e. constant_of e c.design) []) c (record { parts = []; values = [] })
known-none c h = record { kept = h; grows = grows-refl c; value = []; gives = refl; means = record { scope_is = refl; parts = refl; types = All-nil (IsPart c); values = refl } }

pub known-more : (old mid new : Checker) (xs : List Constant) (i : ℕ) (x : Constant) (y : Knowns) (k : Known) → i < length xs → x ≡ get_or xs i x →
    Yields (AreKnown (scope_of old)) old (in_turn (λ e. constant_of e old.design) (take i xs)) mid y → Yields (IsKnown (scope_of mid)) mid (constant_of x mid.design) new k →
    Yields (AreKnown (scope_of old)) old (in_turn (λ e. constant_of e old.design) (take (i + 1) xs)) new (record { parts = y.parts ++ k.part ∷ []; values = y.values ++ k.value ∷ [] })
known-more old mid new xs i x y k lt is h now = record {
  kept = now.kept;
  grows = grows-trans old mid new h.grows now.grows;
  value = h.value ++ now.value ∷ [];
  gives = turn-push (λ e. constant_of e old.design) xs i x h.value now.value lt is h.gives (ap (constant_of x) (sym h.grows.design) ∙ now.gives);
  means = record {
    scope_is = now.means.scope_is ∙ h.means.scope_is;
    parts =
        map-append (λ (z : constants.Known). z.part) h.value (now.value ∷ [])
        ∙ ap₂ (λ (ps qs : List TypedPart). ps ++ qs) (h.means.parts ∙ sym (parts-grow mid new now.grows y.parts h.means.types)) (ap (λ (p : TypedPart). p ∷ []) now.means.part)
        ∙ sym (map-append (part_of (arrays_of new)) y.parts (k.part ∷ []));
    types = All-push (IsPart new) y.parts k.part (All-weaker (IsPart mid) (IsPart new) (part-grows mid new now.grows) y.parts h.means.types) now.means.type;
    values = map-append (λ (z : constants.Known). z.value) h.value (now.value ∷ []) ∙ ap₂ (λ (vs : List Value) (v : Value). vs ++ v ∷ []) h.means.values now.means.value;
  };
}

pub known-ends : (old mid : Checker) (xs : List Constant) (i : ℕ) (x : Constant) (y : Knowns) (e : Stop) → i < length xs → x ≡ get_or xs i x →
    Yields (AreKnown (scope_of old)) old (in_turn (λ e. constant_of e old.design) (take i xs)) mid y → Ends (constant_of x mid.design) e → Ends (in_turn (λ e. constant_of e old.design) xs) e
known-ends old mid xs i x y e lt is h k =
    turn-ends (λ e. constant_of e old.design) xs i x h.value e lt is h.gives (ends-same (constant_of x old.design) (constant_of x mid.design) e (ap (constant_of x) (sym h.grows.design)) k)

-- ---- fields of constants

pub fields-none : (c : Checker) (n : ℕ) → IsChecker c → Yields (AreKnownFields (scope_of c) n) c (in_turn (λ f. constant_field_of f c.design) []) c (record { given = []; values = [] })
fields-none c n h = record { kept = h; grows = grows-refl c; value = []; gives = refl; means = record { scope_is = refl; given = tt; values = refl } }

-- what a field comes to by its value
field_gives : (f : ConstantField) (d : Checked) (known : constants.Known) → constant_of (out-ConstantField f).value d ≡ Gives known → constant_field_of f d ≡ Gives (record { name = (out-ConstantField f).name; known = known })
field_gives f d known e = constant-field f d ∙ ap (λ o. o >>= λ k. Gives (named (out-ConstantField f).name k)) e
  where
    named : Name → constants.Known → constants.KnownField
    named n k = record { name = n; known = k }

pub fields-more : (old mid new : Checker) (n : ℕ) (xs : List ConstantField) (i : ℕ) (x : ConstantField) (y : KnownFields) (k : Known) (g : Given) → i < length xs → x ≡ get_or xs i x → length y.given ≡ i →
    Yields (AreKnownFields (scope_of old) n) old (in_turn (λ f. constant_field_of f old.design) (take i xs)) mid y → Yields (IsKnown (scope_of mid)) mid (constant_of (out-ConstantField x).value mid.design) new k →
    IsGiven new (fields_of new.design n) (drop i (fields_of new.design n)) g (record { name = (out-ConstantField x).name; part = part_of (arrays_of new) k.part }) →
    Yields (AreKnownFields (scope_of old) n) old (in_turn (λ f. constant_field_of f old.design) (take (i + 1) xs)) new (record { given = y.given ++ g ∷ []; values = y.values ++ k.value ∷ [] })
fields-more old mid new n xs i x y k g lt is long h now given =
    let one : constants.KnownField = record { name = (out-ConstantField x).name; known = now.value } in
    record {
      kept = now.kept;
      grows = grows-trans old mid new h.grows now.grows;
      value = h.value ++ one ∷ [];
      gives = turn-push (λ f. constant_field_of f old.design) xs i x h.value one lt is h.gives (field_gives x old.design now.value (ap (constant_of (out-ConstantField x).value) (sym h.grows.design) ∙ now.gives));
      means = record {
        scope_is = now.means.scope_is ∙ h.means.scope_is;
        given =
            subst (AreGiven new (fields_of new.design n) (fields_of new.design n) (y.given ++ g ∷ [])) (sym (map-append constants.given h.value (one ∷ [])))
            (given-push new (fields_of new.design n) (fields_of new.design n) y.given (map constants.given h.value) g (constants.given one)
            (subst (λ d. AreGiven new (fields_of d n) (fields_of d n) y.given (map constants.given h.value)) (sym now.grows.design) (given-grow mid new now.grows (fields_of mid.design n) (fields_of mid.design n) y.given (map constants.given h.value) h.means.given))
            (subst (λ j. IsGiven new (fields_of new.design n) (drop j (fields_of new.design n)) g (constants.given one)) (sym long)
            (subst (λ p. IsGiven new (fields_of new.design n) (drop i (fields_of new.design n)) g (record { name = (out-ConstantField x).name; part = p })) (sym now.means.part) given)));
        values = map-append (λ (z : constants.KnownField). z.known.value) h.value (one ∷ []) ∙ ap₂ (λ (vs : List Value) (v : Value). vs ++ v ∷ []) h.means.values now.means.value;
      };
    }

pub fields-ends : (old mid : Checker) (n : ℕ) (xs : List ConstantField) (i : ℕ) (x : ConstantField) (y : KnownFields) (e : Stop) → i < length xs → x ≡ get_or xs i x →
    Yields (AreKnownFields (scope_of old) n) old (in_turn (λ f. constant_field_of f old.design) (take i xs)) mid y → Ends (constant_of (out-ConstantField x).value mid.design) e → Ends (in_turn (λ f. constant_field_of f old.design) xs) e
fields-ends old mid n xs i x y e lt is h k =
    turn-ends (λ f. constant_field_of f old.design) xs i x h.value e lt is h.gives
    (ends-same (constant_field_of x old.design) (constant_of (out-ConstantField x).value old.design >>= λ k. Gives (record { name = (out-ConstantField x).name; known = k })) e (constant-field x old.design)
    (ends-bind (constant_of (out-ConstantField x).value old.design) (λ k. Gives (record { name = (out-ConstantField x).name; known = k })) e
    (ends-same (constant_of (out-ConstantField x).value old.design) (constant_of (out-ConstantField x).value mid.design) e (ap (constant_of (out-ConstantField x).value) (sym h.grows.design)) k)))

-- ---- whole structs and arrays

pub struct-ends : (old mid : Checker) (n place close : ℕ) (o : CheckResult (List constants.KnownField)) (y : KnownFields) (e : Stop) → (h : Yields (AreKnownFields (scope_of old) n) old o mid y) →
    Tells (StandsFor mid) (struct_of mid.design n place (map constants.given h.value) close) (Err e) → Ends (o >>= struct_known old.design n place close) e
struct-ends old mid n place close o y e h t =
    ends-behind o (struct_known old.design n place close) h.value e h.gives
    (ends-bind (struct_of old.design n place (map constants.given h.value) close) _ e
    (ends-same (struct_of old.design n place (map constants.given h.value) close) (struct_of mid.design n place (map constants.given h.value) close) e (ap (λ d. struct_of d n place (map constants.given h.value) close) (sym h.grows.design))
    (ends-tells (StandsFor mid) (struct_of mid.design n place (map constants.given h.value) close) e t)))

pub struct-gives : (old mid : Checker) (n place close : ℕ) (o : CheckResult (List constants.KnownField)) (y : KnownFields) (p : Part) → (h : Yields (AreKnownFields (scope_of old) n) old o mid y) →
    Tells (StandsFor mid) (struct_of mid.design n place (map constants.given h.value) close) (Ok p) → Yields (IsKnown (scope_of old)) old (o >>= struct_known old.design n place close) mid (record { part = p; value = value.Fields n y.values })
struct-gives old mid n place close o y p h t =
    let a = tells-ok (StandsFor mid) (struct_of mid.design n place (map constants.given h.value) close) p t in
    record {
      kept = h.kept;
      grows = h.grows;
      value = record { part = a.0; value = value.Fields n (map (λ (f : constants.KnownField). f.known.value) h.value) };
      gives =
          ap (λ r. r >>= struct_known old.design n place close) h.gives
          ∙ ap (λ d. struct_of d n place (map constants.given h.value) close >>= λ whole. Gives (known whole (value.Fields n (map (λ (f : constants.KnownField). f.known.value) h.value)))) (sym h.grows.design)
          ∙ ap (λ r. r >>= λ whole. Gives (known whole (value.Fields n (map (λ (f : constants.KnownField). f.known.value) h.value)))) a.1;
      means = record { scope_is = h.means.scope_is; part = a.2.0; type = a.2.1; value = ap (value.Fields n) h.means.values };
    }
  where
    known : TypedPart → Value → constants.Known
    known p v = record { part = p; value = v }

pub array-ends : (old mid : Checker) (place : ℕ) (o : CheckResult (List constants.Known)) (y : Knowns) (e : Stop) → Yields (AreKnown (scope_of old)) old o mid y →
    Ends (array_of mid.design place (map (part_of (arrays_of mid)) y.parts)) e → Ends (o >>= array_known old.design place) e
array-ends old mid place o y e h t =
    ends-behind o (array_known old.design place) h.value e h.gives
    (ends-bind (array_of old.design place (map (λ (k : constants.Known). k.part) h.value)) _ e
    (ends-same (array_of old.design place (map (λ (k : constants.Known). k.part) h.value)) (array_of mid.design place (map (part_of (arrays_of mid)) y.parts)) e (ap₂ (λ d ps. array_of d place ps) (sym h.grows.design) h.means.parts) t))

pub array-gives : (old mid new : Checker) (place : ℕ) (o : CheckResult (List constants.Known)) (y : Knowns) (p : Part) → Yields (AreKnown (scope_of old)) old o mid y →
    Yields (IsPartIn (scope_of mid)) mid (array_of mid.design place (map (part_of (arrays_of mid)) y.parts)) new p → Yields (IsKnown (scope_of old)) old (o >>= array_known old.design place) new (record { part = p; value = value.Items y.values })
array-gives old mid new place o y p h k = record {
  kept = k.kept;
  grows = grows-trans old mid new h.grows k.grows;
  value = record { part = k.value; value = value.Items (map (λ (f : constants.Known). f.value) h.value) };
  gives =
      ap (λ r. r >>= array_known old.design place) h.gives
      ∙ ap₂ (λ d ps. array_of d place ps >>= λ whole. Gives (known whole (value.Items (map (λ (f : constants.Known). f.value) h.value)))) (sym h.grows.design) h.means.parts
      ∙ ap (λ r. r >>= λ whole. Gives (known whole (value.Items (map (λ (f : constants.Known). f.value) h.value)))) k.gives;
  means = record { scope_is = k.means.scope_is ∙ h.means.scope_is; part = k.means.part; type = k.means.type; value = ap value.Items h.means.values };
}
  where
    known : TypedPart → Value → constants.Known
    known p v = record { part = p; value = v }

-- a literal, and a member
pub literal-gives : (c : Checker) → IsChecker c → (o : CheckResult constants.Known) (p : Part) (v : Value) (x : constants.Known) → o ≡ Gives x → StandsFor c p x.part → x.value ≡ v → Yields (IsKnown (scope_of c)) c o c (record { part = p; value = v })
literal-gives c h o p v x e stands is = record { kept = h; grows = grows-refl c; value = x; gives = e; means = record { scope_is = refl; part = stands.0; type = stands.1; value = is } }

pub member-known : (c : Checker) → IsChecker c → (place : ℕ) (o : CheckResult composites.MemberOf) (r : Result Known Stop) → Tells (IsMember c place) o r → Checks (IsKnown (scope_of c)) c (o >>= λ found. Gives (known_member place found)) c r
member-known c h place o (Ok y) t =
    let a = tells-ok (IsMember c place) o y t in
    record { kept = h; grows = grows-refl c; value = known_member place a.0; gives = ap (λ r. r >>= λ found. Gives (known_member place found)) a.1; means = record { scope_is = refl; part = a.2.part; type = a.2.type; value = a.2.value } }
member-known c h place o (Err e) t = ends-bind o (λ found. Gives (known_member place found)) e (ends-tells (IsMember c place) o e t)
