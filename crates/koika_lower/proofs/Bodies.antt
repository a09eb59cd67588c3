-- The body of a function is lowered where its parameters are bound.
use Rattle.std.proofs.Common.{◌≡◌, ℕ, zero, suc, ◌+◌, ◌<◌, ◌≤◌, List, [], ◌∷◌, length, drop, Option, Some, slice_get, get_or, add-one, drop-cons, arith, refl, ap, sym, subst, ◌∙◌}
use Rattle.std.proofs.lemmas.Option.{slice_get_read}
use Rattle.std.specs.Prelude.{reverse}
use Rattle.koika_check.specs.Meaning.{meaning}
use Rattle.koika_check.specs.Types.{width_of}
use Rattle.koika_check.specs.Typing.{HasType, IsFunction}
use Rattle.koika_check.specs.declared.checked.Checked.{Checked}
use Rattle.koika_check.specs.declared.checked.CheckedFunction.{CheckedFunction}
use Rattle.koika_check.specs.declared.typed.ValueType.{ValueType}
use Rattle.koika_lower.specs.inner.Simulation.{AreNames, IsBody, Lowers, parameter_names}
use Rattle.koika_lower.specs.declared.lowered.Bound.{Bound}
use Rattle.koika_lower.specs.declared.lowered.Lowered.{Lowered}
use Rattle.koika_lower.proofs.Calls.{params-are}
use Rattle.koika_lower.proofs.Operands.{onto, onto-reverse}

-- the item that is lent at an index
pub item-at : {X : Type 0} (items xs : List X) (i : ℕ) (x : X) → xs ≡ items → i < length xs → x ≡ get_or xs i x → slice_get items i ≡ Some x
item-at {X} items xs i x same within is = ap (λ (l : List X). slice_get l i) (sym same) ∙ slice_get_read xs (length xs) i x refl within is

-- no parameter is bound behind the last
all-bound : (d : Checked) (index : ℕ) (ts : List ValueType) (names all : List Bound) → length ts ≤ index → parameter_names d index (drop index ts) names ≡ all → names ≡ all
all-bound d index ts names all past e = ap (λ (l : List ValueType). parameter_names d index l names) (sym (none index ts past)) ∙ e
  where
    none : (k : ℕ) (l : List ValueType) → length l ≤ k → drop k l ≡ []
    none zero [] h = refl
    none zero (x ∷ l) h = absurd (omega arith)
    none (suc k) [] h = refl
    none (suc k) (x ∷ l) h = none k l (omega arith)

-- where its parameters are bound, a body's names are of their types
pub body-names : (d : Checked) (number index : ℕ) (f : CheckedFunction) (names : List Bound) → IsFunction d number f → index ≤ length f.parameters → length f.parameters ≤ index →
    parameter_names d index (drop index f.parameters) names ≡ parameter_names d 0 f.parameters [] → AreNames d index names (reverse f.parameters)
body-names d number index f names is within past bound =
    let all = all-bound d index f.parameters names (parameter_names d 0 f.parameters []) past bound in
    let end : index ≡ length f.parameters = omega arith in
    let are : AreNames d (length f.parameters) (parameter_names d 0 f.parameters []) (reverse f.parameters) =
    subst (λ ts. AreNames d (length f.parameters) (parameter_names d 0 f.parameters []) ts) (onto-reverse f.parameters)
    (subst (λ k. AreNames d k (parameter_names d 0 f.parameters []) (onto f.parameters [])) (omega arith) (params-are d 0 f.parameters [] [] tt is.parameters)) in
    subst (λ (bs : List Bound). AreNames d index bs (reverse f.parameters)) (sym all) (subst (λ k. AreNames d k (parameter_names d 0 f.parameters []) (reverse f.parameters)) (sym end) are)

-- a body whose parameters are bound
pub body-lowers : (d : Checked) (number index : ℕ) (f : CheckedFunction) (names : List Bound) (l : Lowered) → IsFunction d number f → index ≤ length f.parameters → length f.parameters ≤ index →
    parameter_names d index (drop index f.parameters) names ≡ parameter_names d 0 f.parameters [] →
    ((types : List ValueType) (t : Option ValueType) → AreNames d index names types → HasType d number f.body types t → Lowers d number index names types t (λ s. meaning s f.body) l) →
    IsBody d number f l
body-lowers d number index f names l is within past bound lowers =
    let all = all-bound d index f.parameters names (parameter_names d 0 f.parameters []) past bound in
    let end : index ≡ length f.parameters = omega arith in
    subst (λ (bs : List Bound). Lowers d number (length f.parameters) bs (reverse f.parameters) f.result (λ s. meaning s f.body) l) all
    (subst (λ k. Lowers d number k names (reverse f.parameters) f.result (λ s. meaning s f.body) l) end
    (lowers (reverse f.parameters) f.result (body-names d number index f names is within past bound) is.body))

-- the next parameter is bound
pub bind-next : (d : Checked) (index next : ℕ) (ts : List ValueType) (t : ValueType) (names all : List Bound) (width : ℕ) → index < length ts → t ≡ get_or ts index t → width ≡ width_of d t → next ≡ index + 1 →
    parameter_names d index (drop index ts) names ≡ all → parameter_names d next (drop next ts) (record { level = index; width = width } ∷ names) ≡ all
bind-next d index next ts t names all width within is wide more e =
    ap (λ k. parameter_names d k (drop k ts) (record { level = index; width = width } ∷ names)) more ∙
    ap (λ k. parameter_names d (index + 1) (drop k ts) (record { level = index; width = width } ∷ names)) (add-one index) ∙
    ap (λ w. parameter_names d (index + 1) (drop (suc index) ts) (record { level = index; width = w } ∷ names)) (wide ∙ ap (width_of d) is) ∙
    ap (λ (l : List ValueType). parameter_names d index l names) (sym (drop-cons ts index t within)) ∙ e
