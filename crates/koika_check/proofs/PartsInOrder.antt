-- The parts of expressions, as far as they were looked at.
use Rattle.std.proofs.Common.{◌≡◌, ℕ, ◌+◌, ◌<◌, List, [], ◌∷◌, ◌++◌, length, map, take, drop, get_or, Option, Some, None, Ok, Err, refl, ap, ap₂, sym, ◌∙◌, subst}
use Rattle.std.specs.Option.{option_or}
use Rattle.std.proofs.lemmas.List.{map-append}
use Rattle.std.proofs.lemmas.List.Elements.{All-nil, All-push, All-weaker}
use Rattle.koika_syntax.specs.declared.tree.Arm.{Arm, out-Arm}
use Rattle.koika_syntax.specs.declared.tree.Expression.{Expression}
use Rattle.koika_syntax.specs.declared.tree.FieldValue.{FieldValue, out-FieldValue}
use Rattle.koika_syntax.specs.declared.tree.Name.{Name}
use Rattle.koika_check.specs.inner.Checking.{AreGiven, AreTyped, Grows, IsChecker, IsGiven, IsPart, IsPartIn, IsTyping, StandsFor, Yields, arrays_of, scope_of}
use Rattle.koika_check.specs.Composites.{array_of, fields_of, struct_of}
use Rattle.koika_check.specs.Constructs.{applied, array_in, given_of, types_of_parts, struct_in, typed_of, typing}
use Rattle.koika_check.specs.Constructs as constructs
use Rattle.koika_check.specs.Expressions.{block_in}
use Rattle.koika_check.specs.inner.Expressions.{arm_in, expression_in, field_value_in}
use Rattle.koika_check.specs.Outcomes.{Gives, CheckResult, ◌>>=◌, in_turn}
use Rattle.koika_check.specs.inner.Outcomes.{Ends, Stop, Tells}
use Rattle.koika_check.specs.Scopes.{Scope}
use Rattle.koika_check.specs.inner.Shapes.{part_of}
use Rattle.koika_check.specs.inner.TypedParts.{AreArms, AreTypedFields, In, place_of_first}
use Rattle.koika_check.specs.Types.{TypedPart as TypedPart}
use Rattle.koika_check.specs.declared.agreement.Part.{Part}
use Rattle.koika_check.specs.declared.checker.Checker.{Checker}
use Rattle.koika_check.specs.declared.checker.Typing.{Typing}
use Rattle.koika_check.specs.declared.checker.Typings.{Typings}
use Rattle.koika_check.specs.declared.composites.Given.{Given}
use Rattle.koika_check.specs.declared.expressions.Arms.{Arms}
use Rattle.koika_check.specs.declared.expressions.TypedFields.{TypedFields}
use Rattle.koika_check.specs.declared.typed.Operation.TheVariants as operation
use Rattle.koika_check.specs.declared.typed.Typed.{Typed}
use Rattle.koika_check.specs.declared.typed.Typed.TheVariants as typed
use Rattle.koika_check.proofs.BlockParts.{arm-parts, field-parts}
use Rattle.koika_check.proofs.Compositions.{given-grow, given-push}
use Rattle.koika_check.proofs.Growth.{grows-refl, grows-trans, part-grows, parts-grow, same-part}
use Rattle.koika_check.proofs.Telling.{tells-ok}
use Rattle.koika_check.proofs.Turns.{ends-behind, ends-bind, ends-same, ends-tells, turn-ends, turn-push}

-- ---- values

-- one more
abbrev pub and_one : Typings → Typing → Typings
and_one y k = record { parts = y.parts ++ k.part ∷ []; typed = y.typed ++ k.typed ∷ [] }

pub typed-grow : (a b : Checker) → Grows a b → (y : Typings) (xs : List constructs.Typing) → AreTyped a y xs → AreTyped b y xs
typed-grow a b g y xs h = record {
  parts = h.parts ∙ sym (parts-grow a b g y.parts h.types);
  types = All-weaker (IsPart a) (IsPart b) (part-grows a b g) y.parts h.types;
  typed = h.typed;
}

pub typed-push : (scope : Scope) (c : Checker) (y : Typings) (xs : List constructs.Typing) (k : Typing) (x : constructs.Typing) → AreTyped c y xs → IsTyping scope c k x → AreTyped c (and_one y k) (xs ++ x ∷ [])
typed-push scope c y xs k x h one = record {
  parts =
      map-append (λ (z : constructs.Typing). z.part) xs (x ∷ []) ∙ ap₂ (λ (ps : List TypedPart) (p : TypedPart). ps ++ p ∷ []) h.parts one.part
      ∙ sym (map-append (part_of (arrays_of c)) y.parts (k.part ∷ []));
  types = All-push (IsPart c) y.parts k.part h.types one.type;
  typed = map-append (λ (z : constructs.Typing). z.typed) xs (x ∷ []) ∙ ap₂ (λ (ts : List Typed) (t : Typed). ts ++ t ∷ []) h.typed one.typed;
}

pub typed-none : (c : Checker) → AreTyped c (record { parts = []; typed = [] }) []
typed-none c = record { parts = refl; types = All-nil (IsPart c); typed = refl }

pub values-none : (c : Checker) → IsChecker c → Yields (In AreTyped (scope_of c)) c (in_turn (λ e. expression_in e (scope_of c)) []) c (record { parts = []; typed = [] })
values-none c h = record { kept = h; grows = grows-refl c; value = []; gives = refl; means = record { scope_is = refl; means = typed-none c } }

pub values-more : (old mid new : Checker) (xs : List Expression) (i : ℕ) (x : Expression) (y : Typings) (k : Typing) → i < length xs → x ≡ get_or xs i x →
    Yields (In AreTyped (scope_of old)) old (in_turn (λ e. expression_in e (scope_of old)) (take i xs)) mid y → Yields (IsTyping (scope_of mid)) mid (expression_in x (scope_of mid)) new k →
    Yields (In AreTyped (scope_of old)) old (in_turn (λ e. expression_in e (scope_of old)) (take (i + 1) xs)) new (and_one y k)
values-more old mid new xs i x y k lt is h now = record {
  kept = now.kept;
  grows = grows-trans old mid new h.grows now.grows;
  value = h.value ++ now.value ∷ [];
  gives = turn-push (λ e. expression_in e (scope_of old)) xs i x h.value now.value lt is h.gives (ap (expression_in x) (sym h.means.scope_is) ∙ now.gives);
  means = record { scope_is = now.means.scope_is ∙ h.means.scope_is; means = typed-push (scope_of mid) new y h.value k now.value (typed-grow mid new now.grows y h.value h.means.means) now.means };
}

pub values-ends : (old mid : Checker) (xs : List Expression) (i : ℕ) (x : Expression) (y : Typings) (e : Stop) → i < length xs → x ≡ get_or xs i x →
    Yields (In AreTyped (scope_of old)) old (in_turn (λ e. expression_in e (scope_of old)) (take i xs)) mid y → Ends (expression_in x (scope_of mid)) e → Ends (in_turn (λ e. expression_in e (scope_of old)) xs) e
values-ends old mid xs i x y e lt is h k =
    turn-ends (λ e. expression_in e (scope_of old)) xs i x h.value e lt is h.gives (ends-same (expression_in x (scope_of old)) (expression_in x (scope_of mid)) e (ap (expression_in x) (sym h.means.scope_is)) k)

-- an array of values
pub array-ends : (old mid : Checker) (place : ℕ) (o : CheckResult (List constructs.Typing)) (y : Typings) (e : Stop) → Yields (In AreTyped (scope_of old)) old o mid y →
    Ends (array_of mid.design place (map (part_of (arrays_of mid)) y.parts)) e → Ends (o >>= array_in old.design place) e
array-ends old mid place o y e h t =
    ends-behind o (array_in old.design place) h.value e h.gives
    (ends-bind (array_of old.design place (types_of_parts h.value)) _ e
    (ends-same (array_of old.design place (types_of_parts h.value)) (array_of mid.design place (map (part_of (arrays_of mid)) y.parts)) e (ap₂ (λ d ps. array_of d place ps) (sym h.grows.design) h.means.means.parts) t))

-- a part with what was made of it
made-of : (scope : Scope) (c : Checker) (p : Part) (whole : TypedPart) (t u : Typed) → scope_of c ≡ scope → whole ≡ part_of (arrays_of c) p → IsPart c p → t ≡ u → (y : Typing) → y ≡ record { part = record { of = p.of; place = p.place }; typed = u } →
    IsTyping scope c y (typing whole.of whole.place t)
made-of scope c p whole t u s e h f y is =
    subst (λ z. IsTyping scope c z (typing whole.of whole.place t)) (sym is) (record { scope_is = s; part = e; type = h; typed = f })

pub array-gives : (old mid new : Checker) (place : ℕ) (o : CheckResult (List constructs.Typing)) (y : Typings) (p : Part) (z : Typing) → Yields (In AreTyped (scope_of old)) old o mid y →
    Yields (IsPartIn (scope_of mid)) mid (array_of mid.design place (map (part_of (arrays_of mid)) y.parts)) new p → z ≡ record { part = record { of = p.of; place = p.place }; typed = typed.Apply operation.Array y.typed } →
    Yields (IsTyping (scope_of old)) old (o >>= array_in old.design place) new z
array-gives old mid new place o y p z h k is = record {
  kept = k.kept;
  grows = grows-trans old mid new h.grows k.grows;
  value = applied k.value.of k.value.place operation.Array h.value;
  gives =
      ap (λ r. r >>= array_in old.design place) h.gives
      ∙ ap₂ (λ d ps. array_of d place ps >>= λ whole. Gives (applied whole.of whole.place operation.Array h.value)) (sym h.grows.design) h.means.means.parts
      ∙ ap (λ r. r >>= λ whole. Gives (applied whole.of whole.place operation.Array h.value)) k.gives;
  means = made-of (scope_of old) new p k.value _ _ (k.means.scope_is ∙ h.means.scope_is) k.means.part k.means.type (ap (typed.Apply operation.Array) h.means.means.typed) z is;
}

-- ---- fields

pub fields-none : (c : Checker) (n : ℕ) → IsChecker c → Yields (In (AreTypedFields n) (scope_of c)) c (in_turn (λ f. field_value_in f (scope_of c)) []) c (record { given = []; typed = [] })
fields-none c n h = record { kept = h; grows = grows-refl c; value = []; gives = refl; means = record { scope_is = refl; means = record { given = tt; typed = refl } } }

-- what a field comes to by its value
field_gives : (f : FieldValue) (s : Scope) (one : constructs.Typing) → expression_in (out-FieldValue f).value s ≡ Gives one → field_value_in f s ≡ Gives (record { name = (out-FieldValue f).name; typing = one })
field_gives f s one e = field-parts f s ∙ ap (λ o. o >>= λ k. Gives (named (out-FieldValue f).name k)) e
  where
    named : Name → constructs.Typing → constructs.FieldTyping
    named n k = record { name = n; typing = k }

pub fields-more : (old mid new : Checker) (n : ℕ) (xs : List FieldValue) (i : ℕ) (x : FieldValue) (y : TypedFields) (k : Typing) (g : Given) → i < length xs → x ≡ get_or xs i x → length y.given ≡ i →
    Yields (In (AreTypedFields n) (scope_of old)) old (in_turn (λ f. field_value_in f (scope_of old)) (take i xs)) mid y → Yields (IsTyping (scope_of mid)) mid (expression_in (out-FieldValue x).value (scope_of mid)) new k →
    IsGiven new (fields_of new.design n) (drop i (fields_of new.design n)) g (record { name = (out-FieldValue x).name; part = part_of (arrays_of new) k.part }) →
    Yields (In (AreTypedFields n) (scope_of old)) old (in_turn (λ f. field_value_in f (scope_of old)) (take (i + 1) xs)) new (record { given = y.given ++ g ∷ []; typed = y.typed ++ k.typed ∷ [] })
fields-more old mid new n xs i x y k g lt is long h now given =
    let one : constructs.FieldTyping = record { name = (out-FieldValue x).name; typing = now.value } in
    record {
      kept = now.kept;
      grows = grows-trans old mid new h.grows now.grows;
      value = h.value ++ one ∷ [];
      gives = turn-push (λ f. field_value_in f (scope_of old)) xs i x h.value one lt is h.gives (field_gives x (scope_of old) now.value (ap (expression_in (out-FieldValue x).value) (sym h.means.scope_is) ∙ now.gives));
      means = record {
        scope_is = now.means.scope_is ∙ h.means.scope_is;
        means = record {
          given =
              subst (AreGiven new (fields_of new.design n) (fields_of new.design n) (y.given ++ g ∷ [])) (sym (map-append given_of h.value (one ∷ [])))
              (given-push new (fields_of new.design n) (fields_of new.design n) y.given (map given_of h.value) g (given_of one)
              (subst (λ d. AreGiven new (fields_of d n) (fields_of d n) y.given (map given_of h.value)) (sym now.grows.design) (given-grow mid new now.grows (fields_of mid.design n) (fields_of mid.design n) y.given (map given_of h.value) h.means.means.given))
              (subst (λ j. IsGiven new (fields_of new.design n) (drop j (fields_of new.design n)) g (given_of one)) (sym long)
              (subst (λ p. IsGiven new (fields_of new.design n) (drop i (fields_of new.design n)) g (record { name = (out-FieldValue x).name; part = p })) (sym now.means.part) given)));
          typed =
              ap typed_of (map-append (λ (z : constructs.FieldTyping). z.typing) h.value (one ∷ []))
              ∙ map-append (λ (z : constructs.Typing). z.typed) (map (λ (z : constructs.FieldTyping). z.typing) h.value) (now.value ∷ [])
              ∙ ap₂ (λ (ts : List Typed) (t : Typed). ts ++ t ∷ []) h.means.means.typed now.means.typed;
        };
      };
    }

pub fields-ends : (old mid : Checker) (n : ℕ) (xs : List FieldValue) (i : ℕ) (x : FieldValue) (y : TypedFields) (e : Stop) → i < length xs → x ≡ get_or xs i x →
    Yields (In (AreTypedFields n) (scope_of old)) old (in_turn (λ f. field_value_in f (scope_of old)) (take i xs)) mid y → Ends (expression_in (out-FieldValue x).value (scope_of mid)) e →
    Ends (in_turn (λ f. field_value_in f (scope_of old)) xs) e
fields-ends old mid n xs i x y e lt is h k =
    turn-ends (λ f. field_value_in f (scope_of old)) xs i x h.value e lt is h.gives
    (ends-same (field_value_in x (scope_of old)) (expression_in (out-FieldValue x).value (scope_of old) >>= λ k. Gives (record { name = (out-FieldValue x).name; typing = k })) e (field-parts x (scope_of old))
    (ends-bind (expression_in (out-FieldValue x).value (scope_of old)) (λ k. Gives (record { name = (out-FieldValue x).name; typing = k })) e
    (ends-same (expression_in (out-FieldValue x).value (scope_of old)) (expression_in (out-FieldValue x).value (scope_of mid)) e (ap (expression_in (out-FieldValue x).value) (sym h.means.scope_is)) k)))

-- a struct of fields
pub struct-ends : (old mid : Checker) (n place close : ℕ) (o : CheckResult (List constructs.FieldTyping)) (y : TypedFields) (e : Stop) → (h : Yields (In (AreTypedFields n) (scope_of old)) old o mid y) →
    Tells (StandsFor mid) (struct_of mid.design n place (map given_of h.value) close) (Err e) → Ends (o >>= struct_in old.design n place close) e
struct-ends old mid n place close o y e h t =
    ends-behind o (struct_in old.design n place close) h.value e h.gives
    (ends-bind (struct_of old.design n place (map given_of h.value) close) _ e
    (ends-same (struct_of old.design n place (map given_of h.value) close) (struct_of mid.design n place (map given_of h.value) close) e (ap (λ d. struct_of d n place (map given_of h.value) close) (sym h.grows.design))
    (ends-tells (StandsFor mid) (struct_of mid.design n place (map given_of h.value) close) e t)))

pub struct-gives : (old mid : Checker) (n place close : ℕ) (o : CheckResult (List constructs.FieldTyping)) (y : TypedFields) (p : Part) (z : Typing) → (h : Yields (In (AreTypedFields n) (scope_of old)) old o mid y) →
    Tells (StandsFor mid) (struct_of mid.design n place (map given_of h.value) close) (Ok p) → z ≡ record { part = record { of = p.of; place = p.place }; typed = typed.Apply (operation.Struct n) y.typed } →
    Yields (IsTyping (scope_of old)) old (o >>= struct_in old.design n place close) mid z
struct-gives old mid n place close o y p z h t is =
    let a = tells-ok (StandsFor mid) (struct_of mid.design n place (map given_of h.value) close) p t in
    let values = map (λ (f : constructs.FieldTyping). f.typing) h.value in
    record {
      kept = h.kept;
      grows = h.grows;
      value = applied a.0.of a.0.place (operation.Struct n) values;
      gives =
          ap (λ r. r >>= struct_in old.design n place close) h.gives
          ∙ ap (λ d. struct_of d n place (map given_of h.value) close >>= λ whole. Gives (applied whole.of whole.place (operation.Struct n) values)) (sym h.grows.design)
          ∙ ap (λ r. r >>= λ whole. Gives (applied whole.of whole.place (operation.Struct n) values)) a.1;
      means = made-of (scope_of old) mid p a.0 _ _ h.means.scope_is a.2.0 a.2.1 (ap (typed.Apply (operation.Struct n)) h.means.means.typed) z is;
    }

-- ---- arms

pub arms-none : (c : Checker) → IsChecker c → Yields (In AreArms (scope_of c)) c (in_turn (λ a. arm_in a (scope_of c)) []) c (record { place = None; conditions = record { parts = []; typed = [] }; bodies = record { parts = []; typed = [] } })
arms-none c h = record { kept = h; grows = grows-refl c; value = []; gives = refl; means = record { scope_is = refl; means = record { place = refl; conditions = typed-none c; bodies = typed-none c } } }

first-push : (xs : List constructs.ArmTyping) (x : constructs.ArmTyping) → place_of_first (xs ++ x ∷ []) ≡ option_or (place_of_first xs) (Some x.place)
first-push [] x = refl
first-push (y ∷ xs) x = refl

-- what an arm comes to by its condition and its body
arm_gives : (a : Arm) (s t : Scope) (condition body : constructs.Typing) → expression_in (out-Arm a).condition s ≡ Gives condition → t ≡ s → block_in (out-Arm a).body t ≡ Gives body →
    arm_in a s ≡ Gives (record { place = (out-Arm a).place; condition = condition; body = body })
arm_gives a s t condition body e q f =
    arm-parts a s ∙ ap (λ o. o >>= λ c. block_in (out-Arm a).body s >>= λ b. Gives (arm (out-Arm a).place c b)) e
    ∙ ap (λ o. o >>= λ b. Gives (arm (out-Arm a).place condition b)) (ap (block_in (out-Arm a).body) (sym q) ∙ f)
  where
    arm : ℕ → constructs.Typing → constructs.Typing → constructs.ArmTyping
    arm p c b = record { place = p; condition = c; body = b }

pub arms-more : (old mid one new : Checker) (xs : List Arm) (i : ℕ) (x : Arm) (y : Arms) (c b : Typing) → i < length xs → x ≡ get_or xs i x →
    Yields (In AreArms (scope_of old)) old (in_turn (λ a. arm_in a (scope_of old)) (take i xs)) mid y → Yields (IsTyping (scope_of mid)) mid (expression_in (out-Arm x).condition (scope_of mid)) one c →
    Yields (IsTyping (scope_of one)) one (block_in (out-Arm x).body (scope_of one)) new b →
    Yields (In AreArms (scope_of old)) old (in_turn (λ a. arm_in a (scope_of old)) (take (i + 1) xs)) new (record { place = option_or y.place (Some (out-Arm x).place); conditions = and_one y.conditions c; bodies = and_one y.bodies b })
arms-more old mid one new xs i x y c b lt is h k l =
    let arm : constructs.ArmTyping = record { place = (out-Arm x).place; condition = k.value; body = l.value } in
    let grows = grows-trans mid one new k.grows l.grows in
    let condition : IsTyping (scope_of one) new c k.value = record {
      scope_is = l.means.scope_is;
      part = k.means.part ∙ sym (same-part one new l.grows c.part k.means.type);
      type = part-grows one new l.grows c.part k.means.type;
      typed = k.means.typed;
    } in
    record {
      kept = l.kept;
      grows = grows-trans old mid new h.grows grows;
      value = h.value ++ arm ∷ [];
      gives = turn-push (λ a. arm_in a (scope_of old)) xs i x h.value arm lt is h.gives
          (arm_gives x (scope_of old) (scope_of one) k.value l.value (ap (expression_in (out-Arm x).condition) (sym h.means.scope_is) ∙ k.gives) (k.means.scope_is ∙ h.means.scope_is) l.gives);
      means = record {
        scope_is = l.means.scope_is ∙ k.means.scope_is ∙ h.means.scope_is;
        means = record {
          place = first-push h.value arm ∙ ap (λ (o : Option ℕ). option_or o (Some (out-Arm x).place)) h.means.means.place;
          conditions = subst (AreTyped new (and_one y.conditions c)) (sym (map-append (λ (a : constructs.ArmTyping). a.condition) h.value (arm ∷ [])))
              (typed-push (scope_of one) new y.conditions _ c k.value (typed-grow mid new grows y.conditions _ h.means.means.conditions) condition);
          bodies = subst (AreTyped new (and_one y.bodies b)) (sym (map-append (λ (a : constructs.ArmTyping). a.body) h.value (arm ∷ [])))
              (typed-push (scope_of one) new y.bodies _ b l.value (typed-grow mid new grows y.bodies _ h.means.means.bodies) l.means);
        };
      };
    }

-- a condition that ends, and a body behind a condition
pub arms-ends : (old mid : Checker) (xs : List Arm) (i : ℕ) (x : Arm) (y : Arms) (e : Stop) → i < length xs → x ≡ get_or xs i x →
    Yields (In AreArms (scope_of old)) old (in_turn (λ a. arm_in a (scope_of old)) (take i xs)) mid y → Ends (expression_in (out-Arm x).condition (scope_of mid)) e → Ends (in_turn (λ a. arm_in a (scope_of old)) xs) e
arms-ends old mid xs i x y e lt is h k =
    let S = scope_of old in
    turn-ends (λ a. arm_in a S) xs i x h.value e lt is h.gives
    (ends-same (arm_in x S) _ e (arm-parts x S)
    (ends-bind (expression_in (out-Arm x).condition S) _ e
    (ends-same (expression_in (out-Arm x).condition S) (expression_in (out-Arm x).condition (scope_of mid)) e (ap (expression_in (out-Arm x).condition) (sym h.means.scope_is)) k)))

pub arms-ends-body : (old mid one : Checker) (xs : List Arm) (i : ℕ) (x : Arm) (y : Arms) (c : Typing) (e : Stop) → i < length xs → x ≡ get_or xs i x →
    Yields (In AreArms (scope_of old)) old (in_turn (λ a. arm_in a (scope_of old)) (take i xs)) mid y → Yields (IsTyping (scope_of mid)) mid (expression_in (out-Arm x).condition (scope_of mid)) one c →
    Ends (block_in (out-Arm x).body (scope_of one)) e → Ends (in_turn (λ a. arm_in a (scope_of old)) xs) e
arms-ends-body old mid one xs i x y c e lt is h k l =
    let S = scope_of old in
    turn-ends (λ a. arm_in a S) xs i x h.value e lt is h.gives
    (ends-same (arm_in x S) _ e (arm-parts x S)
    (ends-behind (expression_in (out-Arm x).condition S) (λ c. block_in (out-Arm x).body S >>= λ b. Gives (record { place = (out-Arm x).place; condition = c; body = b })) k.value e
    (ap (expression_in (out-Arm x).condition) (sym h.means.scope_is) ∙ k.gives)
    (ends-bind (block_in (out-Arm x).body S) _ e
    (ends-same (block_in (out-Arm x).body S) (block_in (out-Arm x).body (scope_of one)) e (ap (block_in (out-Arm x).body) (sym (k.means.scope_is ∙ h.means.scope_is))) l))))
