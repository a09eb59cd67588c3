-- Names that are declared or new, and what a checker that is settled is behind further types.
use Rattle.std.proofs.Common.{◌≡◌, ℕ, suc, cond, nat_le, nat_lt, ◌&&◌, arith, ◌<◌, ◌≤◌, ◌^◌, length, Bool, true, false, not, ◌||◌, nat_eq, get_or, set, List, [], ◌∷◌, ◌++◌, map, Ok, Option, Some, None, refl, ap, ap₂, sym, ◌∙◌, subst}
use Rattle.std.specs.Prelude.{is_some}
use Rattle.std.specs.List.{All, find, list_any}
use Rattle.std.proofs.lemmas.Bool.{eqb-false, eqb-true}
use Rattle.std.proofs.Math.Pow.{pow_mono}
use Rattle.std.proofs.lemmas.List.{get_or-set_other, get_or-set_same}
use Rattle.std.proofs.lemmas.List.Folds.{list_any-append}
use Rattle.kw_base.specs.declared.fault_number.TheConstants.{REPEATED_NAME, WRONG_ENTRY_COUNT, WRONG_WIDTH}
use Rattle.koika_syntax.specs.declared.tree.Constant.{Constant}
use Rattle.koika_syntax.specs.declared.tree.Literal.{Literal}
use Rattle.koika_syntax.specs.declared.tree.Name.{Name}
use Rattle.koika_syntax.specs.declared.tree.TypeExpression.{TypeExpression}
use Rattle.koika_syntax.specs.declared.tree.Width.{Width}
use Rattle.koika_types.specs.declared.value.Value.{Value}
use Rattle.koika_check.specs.inner.Checking.{Grows, IsChecker, IsDeclared, IsWidth, Stands, arrays_of, scope_of}
use Rattle.koika_check.specs.Constants.{Known, constant_of}
use Rattle.koika_check.specs.Declarations.{has_width, is_declared, new_name, register_known, register_of, register_typed, register_with, table_conditions}
use Rattle.koika_check.specs.inner.Locals.{inside_of, local_of, locals_of}
use Rattle.koika_check.specs.Outcomes.{Condition, Gives, CheckResult, ◌>>=◌, holds, smaller, smallest, where_all, wrong}
use Rattle.koika_check.specs.inner.Outcomes.{Tells}
use Rattle.koika_check.specs.inner.Settled.{IsSettled}
use Rattle.koika_check.specs.inner.Things.{number_if, position_of, thing}
use Rattle.koika_check.specs.Types.{each, is_width, type_of}
use Rattle.koika_check.specs.declared.checked.Checked.{Checked}
use Rattle.koika_check.specs.declared.checked.Register.{Register}
use Rattle.koika_check.specs.declared.stop.Wrong.{Wrong}
use Rattle.koika_check.specs.declared.checker.Checker.{Checker}
use Rattle.koika_check.specs.declared.locals.Bound.{Bound}
use Rattle.koika_check.specs.declared.parts.Parts.{Parts}
use Rattle.koika_check.specs.declared.things.Thing.{Thing}
use Rattle.koika_check.specs.declared.typed.ValueType.{ValueType}
use Rattle.koika_check.specs.declared.types.NamedType.{NamedType}
use Rattle.koika_check.specs.declared.things.Kind.{Kind}
use Rattle.koika_check.specs.declared.things.Kind.TheVariants as kind
use Rattle.koika_check.proofs.Checkers.{is-width}
use Rattle.koika_check.proofs.Declared.{each-kind}
use Rattle.koika_check.proofs.Growth.{stands-grows}
use Rattle.koika_check.proofs.Telling.{tells-ok}

-- a name is declared where it is declared as something
some_of : (Kind → Option ℕ) → Bool
some_of f =
    is_some (f kind.Enum) || is_some (f kind.Struct) || is_some (f kind.Register) || is_some (f kind.Input) ||
    is_some (f kind.Table) || is_some (f kind.Host) || is_some (f kind.Function) || is_some (f kind.Rule)

by_thing : (t : Option Thing) → some_of (λ k. number_if k t) ≡ is_some t
unfolding some_of
by_thing None = refl
by_thing (Some t) = each-kind (λ j. some_of (λ k. number_if k (Some (thing j t.number))) ≡ true) refl refl refl refl refl refl refl refl t.kind

pub declared-is : (d : Checked) (name : List ℕ) (t : Option Thing) → IsDeclared d name t → is_declared d name ≡ is_some t
unfolding some_of
declared-is d name t h = rw (← h kind.Enum, ← h kind.Struct, ← h kind.Register, ← h kind.Input, ← h kind.Table, ← h kind.Host, ← h kind.Function, ← h kind.Rule) (by_thing t)

pub new-name : (d : Checked) (n : Name) (t : Option Thing) (b : Bool) → IsDeclared d n.text t → is_some t ≡ b → new_name d n ≡ where_all (holds (not b) (wrong REPEATED_NAME n.place) ∷ []) n.text
new-name d n t b h e = ap (λ c. where_all (holds (not c) (wrong REPEATED_NAME n.place) ∷ []) n.text) (declared-is d n.text t h ∙ e)

-- where no name is bound, none is, whatever array types there are
none_bound : (arrays arrays' : List ValueType) (names : List (List ℕ)) (bs : List Bound) → map (local_of arrays names) bs ≡ [] → map (local_of arrays' names) bs ≡ []
none_bound arrays arrays' names [] e = refl
none_bound arrays arrays' names (b ∷ bs) e = absurd cc

abbrev pub Parts_of : Parts → Checked → Type 0
Parts_of p d = (number : ℕ) (name : List ℕ) → number < 2 ^ 32 → length d.enums ≤ number → position_of p (thing kind.Enum number) name ≡ None

abbrev pub Fields_of : Parts → Checked → Type 0
Fields_of p d = (number : ℕ) (name : List ℕ) → number < 2 ^ 32 → length d.structs ≤ number → position_of p (thing kind.Struct number) name ≡ None

pub settled-grows : (a b : Checker) → IsSettled a → IsChecker b → Grows a b → b.locals ≡ a.locals → IsSettled b
settled-grows a b h kept g e = record {
  checker = kept;
  unbound = ap (locals_of (arrays_of b)) e ∙ none_bound (arrays_of a) (arrays_of b) a.locals.names (inside_of [] a.locals.bound) h.unbound;
  no_members = subst (λ p. Parts_of p b.design) (sym g.parts) (subst (λ d. Parts_of a.parts d) (sym g.design) h.no_members);
  no_fields = subst (λ p. Fields_of p b.design) (sym g.parts) (subst (λ d. Fields_of a.parts d) (sym g.design) h.no_fields);
}

pub settled-scope : (a b : Checker) → IsSettled a → IsChecker b → Grows a b → scope_of b ≡ scope_of a → IsSettled b
settled-scope a b h kept g e = record {
  checker = kept;
  unbound = ap (λ s. s.locals) e ∙ h.unbound;
  no_members = subst (λ p. Parts_of p b.design) (sym g.parts) (subst (λ d. Parts_of a.parts d) (sym g.design) h.no_members);
  no_fields = subst (λ p. Fields_of p b.design) (sym g.parts) (subst (λ d. Fields_of a.parts d) (sym g.design) h.no_fields);
}

-- ---- types that are named

-- the type that was named before further types
pub known-stands : (b k : Checker) → Grows b k → (n : NamedType) (o : CheckResult ValueType) → Tells (λ (m : NamedType) (of : ValueType). (m.of ≡ of) × Stands b m.shape of) o (Ok n) → Stands k n.shape n.of
known-stands b k g n o h =
    let named = tells-ok (λ (m : NamedType) (of : ValueType). (m.of ≡ of) × Stands b m.shape of) o n h in
    stands-grows b k g n.shape n.of (named.2.0 ∙ named.2.1.0, named.2.1.1)

pub named-as : (b : Checker) (n : NamedType) (o : CheckResult ValueType) → Tells (λ (m : NamedType) (of : ValueType). (m.of ≡ of) × Stands b m.shape of) o (Ok n) → (of : ValueType) × (o ≡ Gives of) × (n.of ≡ of)
named-as b n o h =
    let named = tells-ok (λ (m : NamedType) (of : ValueType). (m.of ≡ of) × Stands b m.shape of) o n h in
    (named.0, named.1, named.2.0)

-- what is found among all is one of them
some_same : {X : Type 0} (a b : X) → ◌≡◌ {A = Option X} (Some a) (Some b) → a ≡ b
some_same a b e = cc

pub find-all : {X : Type 0} (P : X → Type 0) (p : X → Bool) (xs : List X) (x : X) → All P xs → find p xs ≡ Some x → P x
find-all P p [] x h e = absurd cc
find-all {X} P p (y ∷ ys) x h e = by_test (p y) refl (find-all P p ys x (λ k d lt. h (suc k) d (omega (arith, lt))))
  where
    by_test : (b : Bool) → p y ≡ b → (find p ys ≡ Some x → P x) → P x
    by_test true f inner =
        let here : ◌≡◌ {A = Option X} (Some y) (Some x) = sym (ap (λ b. cond b (Some y) (find p ys)) f) ∙ e in
        subst P (some_same y x here) (h 0 y (omega arith))
    by_test false f inner = inner (sym (ap (λ b. cond b (Some y) (find p ys)) f) ∙ e)

-- ---- tables

pub both_hold : (a b : Condition) → smaller a b ≡ None → (a ≡ None) × (b ≡ None)
both_hold None b e = (refl, e)
both_hold (Some f) None e = absurd cc
both_hold (Some f) (Some g) e = absurd (by_test (nat_lt g.number f.number) e)
  where
    by_test : (t : Bool) → cond t (Some g) (Some f) ≡ None → ⊥
    by_test true e = cc
    by_test false e = cc

pub test_holds : (b : Bool) (f : Wrong) → holds b f ≡ None → b ≡ true
test_holds true f e = refl
test_holds false f e = absurd cc

table_width : (w : ℕ) → (nat_le 1 w && nat_le w 12) ≡ true → IsWidth w
table_width w e = record { some = grind arith; most = grind arith }

abbrev last_two : Name → (input output : Width) → List Literal → List Condition
last_two n input output entries = each (has_width output.number.value) entries ∷ holds (nat_eq (length entries) (2 ^ input.number.value)) (wrong WRONG_ENTRY_COUNT n.place) ∷ []

pub table-widths : (n : Name) (input output : Width) (entries : List Literal) → smallest (table_conditions n input output entries) ≡ None → IsWidth input.number.value × IsWidth output.number.value
table-widths n input output entries e =
    let first = both_hold (holds (nat_le 1 input.number.value && nat_le input.number.value 12) (wrong WRONG_WIDTH input.place)) (smallest (holds (is_width output.number.value) (wrong WRONG_WIDTH output.place) ∷ last_two n input output entries)) e in
    let second = both_hold (holds (is_width output.number.value) (wrong WRONG_WIDTH output.place)) (smallest (last_two n input output entries)) first.1 in (
      table_width input.number.value (test_holds (nat_le 1 input.number.value && nat_le input.number.value 12) (wrong WRONG_WIDTH input.place) first.0),
      is-width output.number.value (test_holds (is_width output.number.value) (wrong WRONG_WIDTH output.place) second.0),
    )

pub not-power : (count w : ℕ) → count < 2 ^ 64 → 64 ≤ w → false ≡ nat_eq count (2 ^ w)
not-power count w lt le = sym (not_true (nat_eq count (2 ^ w)) (λ e. let more : 2 ^ 64 ≤ 2 ^ w = pow_mono le in omega (arith, more, eqb-true count (2 ^ w) e)))
  where
    not_true : (b : Bool) → (b ≡ true → ⊥) → b ≡ false
    not_true true h = absurd (h refl)
    not_true false h = refl

-- ---- declarations by their parts

pub named-gives : (d : Checked) (n : Name) {X : Type 0} (f : List ℕ → CheckResult X) (name : List ℕ) → new_name d n ≡ Gives name → name ≡ n.text → (new_name d n >>= f) ≡ f n.text
named-gives d n f name e q = ap (λ o. o >>= f) e ∙ ap f q

pub register-chain : (d : Checked) (n : Name) (w : TypeExpression) (first : Constant) (name : List ℕ) (t : ValueType) (x : Known) → new_name d n ≡ Gives name → name ≡ n.text → type_of d w ≡ Gives t → constant_of first d ≡ Gives x →
    register_with d n w first ≡ register_known d n.text t x
register-chain d n w first name t x e q f g =
    named-gives d n (register_of d w first) name e q ∙ ap (λ o. o >>= register_typed d first n.text) f ∙ ap (λ o. o >>= register_known d n.text t) g

pub register-is : (x : Register) (n : List ℕ) (t : ValueType) (w : ℕ) (f : Value) → x.name ≡ n → x.of ≡ t → x.width ≡ w → x.first ≡ f → x ≡ record { name = n; of = t; width = w; first = f }
register-is x n t w f a b c d =
    ap₂ (λ m u. let one : Register = record { name = m; of = u; width = x.width; first = x.first } in one) a b
    ∙ ap₂ (λ v g. let one : Register = record { name = n; of = t; width = v; first = g } in one) c d

-- ---- marks

pub marked : (marks : List Bool) (asserts : List ℕ) (rule : ℕ) → rule < length marks → ((k : ℕ) → get_or marks k false ≡ list_any (nat_eq k) asserts) →
    (k : ℕ) → get_or (set marks rule true) k false ≡ list_any (nat_eq k) (asserts ++ rule ∷ [])
marked marks asserts rule lt h k = by_test (nat_eq k rule) refl ∙ sym (list_any-append (nat_eq k) asserts (rule ∷ []))
  where
    or_true : (b : Bool) → true ≡ (b || true)
    or_true true = refl
    or_true false = refl

    or_false : (b : Bool) → b ≡ (b || false)
    or_false true = refl
    or_false false = refl

    by_test : (t : Bool) → nat_eq k rule ≡ t → get_or (set marks rule true) k false ≡ (list_any (nat_eq k) asserts || (nat_eq k rule || false))
    by_test true t =
        ap (λ i. get_or (set marks rule true) i false) (eqb-true k rule t) ∙ get_or-set_same marks rule true false lt
        ∙ or_true (list_any (nat_eq k) asserts) ∙ ap (λ b. list_any (nat_eq k) asserts || (b || false)) (sym t)
    by_test false t =
        get_or-set_other marks rule k true false (eqb-false k rule t) ∙ h k ∙ or_false (list_any (nat_eq k) asserts) ∙ ap (λ b. list_any (nat_eq k) asserts || (b || false)) (sym t)
