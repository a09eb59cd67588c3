-- What names are declared as, where one more is declared.
use Rattle.std.proofs.Common.{◌≡◌, ℕ, Bool, true, false, nat_eq, cond, List, [], ◌∷◌, ◌++◌, length, map, Option, Some, None, refl, ap, sym, ◌∙◌}
use Rattle.std.specs.Str.{bytes_eq}
use Rattle.std.proofs.lemmas.Bool.{eqb-true}
use Rattle.std.proofs.lemmas.List.{length-map, map-append}
use Rattle.kw_base.specs.Names.{number_of}
use Rattle.koika_types.specs.declared.declarations.EnumDecl.{EnumDecl}
use Rattle.koika_check.specs.inner.Checking.{IsDeclared, count_of}
use Rattle.koika_check.specs.Kinds.{names_of}
use Rattle.koika_check.specs.inner.Things.{number_if, place_of, same_kind, thing}
use Rattle.koika_check.specs.declared.checked.Checked.{Checked}
use Rattle.koika_check.specs.declared.checked.CheckedFunction.{CheckedFunction}
use Rattle.koika_check.specs.declared.checked.CheckedRule.{CheckedRule}
use Rattle.koika_check.specs.declared.checked.Host.{Host}
use Rattle.koika_check.specs.declared.checked.Input.{Input}
use Rattle.koika_check.specs.declared.checked.Register.{Register}
use Rattle.koika_check.specs.declared.checked.Struct.{Struct}
use Rattle.koika_check.specs.declared.checked.Table.{Table}
use Rattle.koika_check.specs.declared.things.Kind.{Kind}
use Rattle.koika_check.specs.declared.things.Kind.TheVariants as kind
use Rattle.koika_check.specs.declared.things.Thing.{Thing}
use Rattle.koika_check.proofs.Positions.{index, index-push, or_last, position-index, same-is}

-- ---- kinds

-- what holds of each kind holds of all
pub each-kind : (P : Kind → Type 0) → P kind.Enum → P kind.Struct → P kind.Register → P kind.Input → P kind.Table → P kind.Host → P kind.Function → P kind.Rule → (k : Kind) → P k
each-kind P e s r i t h f u kind.Enum = e
each-kind P e s r i t h f u kind.Struct = s
each-kind P e s r i t h f u kind.Register = r
each-kind P e s r i t h f u kind.Input = i
each-kind P e s r i t h f u kind.Table = t
each-kind P e s r i t h f u kind.Host = h
each-kind P e s r i t h f u kind.Function = f
each-kind P e s r i t h f u kind.Rule = u

-- the kind at a place
kind_at : ℕ → Kind
kind_at n =
    cond (nat_eq n 0) kind.Enum (cond (nat_eq n 1) kind.Struct (cond (nat_eq n 2) kind.Register (cond (nat_eq n 3) kind.Input
    (cond (nat_eq n 4) kind.Table (cond (nat_eq n 5) kind.Host (cond (nat_eq n 6) kind.Function kind.Rule))))))

at_place : (k : Kind) → kind_at (place_of k) ≡ k
unfolding kind_at
at_place = each-kind (λ k. kind_at (place_of k) ≡ k) refl refl refl refl refl refl refl refl

same-kind : (j k : Kind) → same_kind j k ≡ true → j ≡ k
same-kind j k e = sym (at_place j) ∙ ap kind_at (eqb-true (place_of j) (place_of k) e) ∙ at_place k

-- there are as many names of a kind as are declared
pub count-names : (d : Checked) (k : Kind) → length (names_of k d) ≡ count_of k d
count-names d = each-kind (λ k. length (names_of k d) ≡ count_of k d)
    (length-map d.enums (λ (x : EnumDecl). x.name)) (length-map d.structs (λ (x : Struct). x.name)) (length-map d.registers (λ (x : Register). x.name)) (length-map d.inputs (λ (x : Input). x.name))
    (length-map d.tables (λ (x : Table). x.name)) (length-map d.hosts (λ (x : Host). x.name)) (length-map d.functions (λ (x : CheckedFunction). x.name)) (length-map d.rules (λ (x : CheckedRule). x.name))

-- ---- names

-- one more name is the last, and no other
pub number-push : (names : List (List ℕ)) (name other : List ℕ) → number_of names name ≡ None →
    number_of (names ++ name ∷ []) other ≡ cond (bytes_eq other name) (Some (length names)) (number_of names other)
number-push names name other none =
    position-index (bytes_eq other) (names ++ name ∷ []) ∙ index-push (bytes_eq other) names name
    ∙ by_cases (bytes_eq other name) (index (bytes_eq other) names) refl (sym (position-index (bytes_eq other) names))
    ∙ ap (cond (bytes_eq other name) (Some (length names))) (sym (position-index (bytes_eq other) names))
  where
    none_some : (m : ℕ) → None ≡ Some m → ⊥
    none_some m e = cc

    by_cases : (b : Bool) (o : Option ℕ) → bytes_eq other name ≡ b → o ≡ number_of names other → or_last o b (length names) ≡ cond b (Some (length names)) o
    by_cases true None f e = refl
    by_cases false None f e = refl
    by_cases false (Some k) f e = refl
    by_cases true (Some k) f e = absurd (none_some k (sym none ∙ ap (number_of names) (sym (same-is other name f)) ∙ sym e))

-- what a name is declared as, behind one that wasn't declared before
abbrev pub with_thing : List ℕ → Thing → (before : List ℕ → Option Thing) → List ℕ → Option Thing
with_thing name t before other = cond (bytes_eq other name) (Some t) (before other)

-- a name is added to those of a kind
abbrev pub Adds_name : (old : Checked) (of : Kind) (name : List ℕ) (new : Checked) → Kind → Type 0
Adds_name old k name new j = names_of j new ≡ cond (same_kind j k) (names_of j old ++ name ∷ []) (names_of j old)

-- the names of what is declared of a kind, where one more is
pub name-push : {X : Type 0} (f : X → List ℕ) (xs : List X) (x : X) (name : List ℕ) → f x ≡ name → map f (xs ++ x ∷ []) ≡ map f xs ++ name ∷ []
name-push f xs x name is = map-append f xs (x ∷ []) ∙ ap (λ n. map f xs ++ n ∷ []) is

-- what the names are declared as, where one more is declared as the last of its kind
pub declared-push : (old new : Checked) (k : Kind) (name : List ℕ) (before after : List ℕ → Option Thing) → ((j : Kind) → Adds_name old k name new j) → before name ≡ None → ((other : List ℕ) → IsDeclared old other (before other)) →
    ((other : List ℕ) → after other ≡ with_thing name (thing k (count_of k old)) before other) → (other : List ℕ) → IsDeclared new other (after other)
declared-push old new k name before after adds none h declares other j =
    ap (number_if j) (declares other) ∙ by_test (same_kind j k) (bytes_eq other name) refl refl ∙ sym (ap (λ names. number_of names other) (adds j))
  where
    pushed : number_of (names_of j old ++ name ∷ []) other ≡ cond (bytes_eq other name) (Some (length (names_of j old))) (number_of (names_of j old) other)
    pushed = number-push (names_of j old) name other (sym (h name j) ∙ ap (number_if j) none)

    last : same_kind j k ≡ true → count_of k old ≡ length (names_of j old)
    last e = ap (λ i. count_of i old) (sym (same-kind j k e)) ∙ sym (count-names old j)

    by_test : (same found : Bool) → same_kind j k ≡ same → bytes_eq other name ≡ found →
        number_if j (cond found (Some (thing k (count_of k old))) (before other)) ≡ number_of (cond same (names_of j old ++ name ∷ []) (names_of j old)) other
    by_test true true e f =
        ap (λ s. cond s (Some (count_of k old)) None) e ∙ ap Some (last e) ∙ sym (pushed ∙ ap (λ b. cond b (Some (length (names_of j old))) (number_of (names_of j old) other)) f)
    by_test true false e f = h other j ∙ sym (pushed ∙ ap (λ b. cond b (Some (length (names_of j old))) (number_of (names_of j old) other)) f)
    by_test false true e f = ap (λ s. cond s (Some (count_of k old)) None) e ∙ sym (ap (number_if j) (ap before (same-is other name f) ∙ none)) ∙ h other j
    by_test false false e f = h other j
