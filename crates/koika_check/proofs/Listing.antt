-- The parts of declarations by their names, where one more is added.
use Rattle.std.proofs.Common.{◌≡◌, ◌≢◌, ℕ, ◌<◌, ◌^◌, Bool, true, false, not, cond, List, [], ◌∷◌, ◌++◌, length, take, drop, Option, Some, None, refl, ap, ap₂, sym, ◌∙◌}
use Rattle.std.specs.Prelude.{is_some}
use Rattle.std.specs.Int.{from_le_bytes, w32}
use Rattle.std.specs.Str.{bytes_eq}
use Rattle.std.proofs.lemmas.Nat.{from_le_bytes-to_le_bytes_4}
use Rattle.kw_base.specs.Names.{number_of}
use Rattle.kw_base.specs.declared.fault_number.TheConstants.{REPEATED_NAME}
use Rattle.koika_syntax.specs.declared.tree.Name.{Name}
use Rattle.koika_check.specs.Declarations.{other_name}
use Rattle.koika_check.specs.inner.Listed.{Keeps, Lists}
use Rattle.koika_check.specs.Outcomes.{holds, where_all, wrong}
use Rattle.koika_check.specs.inner.Things.{key_of_declaration, key_of_part, position_of, thing}
use Rattle.koika_check.specs.declared.parts.Parts.{Parts}
use Rattle.koika_check.specs.declared.things.Kind.{Kind}
use Rattle.koika_check.specs.declared.things.Thing.{Thing}
use Rattle.koika_check.specs.declared.things.Kind.TheVariants as kind
use Rattle.koika_check.proofs.Declared.{number-push}
use Rattle.koika_check.proofs.Positions.{same, same-is}
use Rattle.koika_check.proofs.Bindings.{not_true}

-- what stands behind, and in front of, a declaration's key
name_of : (t : Thing) (name : List ℕ) → drop 5 (key_of_part t name) ≡ name
name_of t name = refl

declaration_of : (t : Thing) (name : List ℕ) → take 5 (key_of_part t name) ≡ key_of_declaration t
declaration_of t name = refl

pub false_true : false ≡ true → ⊥
false_true e = cc

same_key : (t : Thing) (name name' : List ℕ) → bytes_eq (key_of_part t name) (key_of_part t name') ≡ bytes_eq name name'
same_key t name name' = by_test (bytes_eq name name') refl
  where
    by_test : (b : Bool) → bytes_eq name name' ≡ b → bytes_eq (key_of_part t name) (key_of_part t name') ≡ b
    by_test true e = ap (λ n. bytes_eq (key_of_part t name) (key_of_part t n)) (sym (same-is name name' e)) ∙ same (key_of_part t name)
    by_test false e = not_true (bytes_eq (key_of_part t name) (key_of_part t name')) (λ k.
        let names : name ≡ name' = sym (name_of t name) ∙ ap (drop 5) (same-is (key_of_part t name) (key_of_part t name') k) ∙ name_of t name' in
        false_true (sym e ∙ ap (bytes_eq name) (sym names) ∙ same name))

other_key : (t u : Thing) (name name' : List ℕ) → key_of_declaration u ≢ key_of_declaration t → bytes_eq (key_of_part u name) (key_of_part t name') ≡ false
other_key t u name name' ne = not_true (bytes_eq (key_of_part u name) (key_of_part t name')) (λ k.
    ne (sym (declaration_of u name) ∙ ap (take 5) (same-is (key_of_part u name) (key_of_part t name') k) ∙ declaration_of t name'))

-- two of a kind with other numbers have other keys
pub other-number : (k : Kind) (n m : ℕ) → n < 2 ^ 32 → m < 2 ^ 32 → n ≢ m → key_of_declaration (thing k n) ≢ key_of_declaration (thing k m)
other-number k n m ln lm ne e = ne (sym (from_le_bytes-to_le_bytes_4 n ln) ∙ ap (λ key. from_le_bytes w32 (drop 1 key)) e ∙ from_le_bytes-to_le_bytes_4 m lm)

head_of : List ℕ → ℕ
head_of [] = 0
head_of (x ∷ xs) = x

pub enum-struct : (n m : ℕ) → key_of_declaration (thing kind.Enum n) ≢ key_of_declaration (thing kind.Struct m)
unfolding head_of
enum-struct n m e = let tags : ◌≡◌ {A = ℕ} 0 1 = ap head_of e in cc

pub struct-enum : (n m : ℕ) → key_of_declaration (thing kind.Struct n) ≢ key_of_declaration (thing kind.Enum m)
unfolding head_of
struct-enum n m e = let tags : ◌≡◌ {A = ℕ} 1 0 = ap head_of e in cc

-- one more part: the others stay, and it is the last
abbrev pub Adds_part : Parts → Thing → List ℕ → ℕ → Bool → Parts → Type 0
Adds_part old of name position is_first new = (other : Thing) (part : List ℕ) → position_of new other part ≡
    cond is_first (cond (bytes_eq (key_of_part other part) (key_of_part of name)) (Some position) (position_of old other part)) (position_of old other part)

pub part-keeps : (old new : Parts) (of : Thing) (name : List ℕ) (position : ℕ) → Adds_part old of name position true new → Keeps old new of
part-keeps old new of name position h other part ne = h other part ∙ ap (λ b. cond b (Some position) (position_of old other part)) (other_key of other part name ne)

pub part-lists : (old new : Parts) (of : Thing) (name : List ℕ) (position : ℕ) (names : List (List ℕ)) → Adds_part old of name position true new → Lists old of names → length names ≡ position → position_of old of name ≡ None → Lists new of (names ++ name ∷ [])
part-lists old new of name position names h lists count none other =
    h of other ∙ ap₂ (λ b o. cond b (Some position) o) (same_key of other name) (lists other)
    ∙ ap (λ n. cond (bytes_eq other name) (Some n) (number_of names other)) (sym count)
    ∙ sym (number-push names name other (sym (lists name) ∙ none))

-- a name that is another's, or no other's
pub other-name : (names : List (List ℕ)) (n : Name) (b : Bool) → is_some (number_of names n.text) ≡ b → other_name names n ≡ where_all (holds (not b) (wrong REPEATED_NAME n.place) ∷ []) n.text
other-name names n b e = ap (λ c. where_all (holds (not c) (wrong REPEATED_NAME n.place) ∷ []) n.text) e

pub some-known : (o : Option ℕ) → (o ≡ None → ⊥) → is_some o ≡ true
some-known None h = absurd (h refl)
some-known (Some k) h = refl
