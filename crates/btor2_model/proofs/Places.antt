-- An id that has no place in the list of low ids stands in the map.
use Rattle.std.proofs.Common.{◌≡◌, ℕ, ◌≤◌, nat_eq, cond, List, length, Option, None, Some, sym, ap, ◌∙◌, ⊎_elim, arith}
use Rattle.std.proofs.Math.Path.{fun_ext}
use Rattle.std.proofs.lemmas.Bool.Decides.{eqb_tells}
use Rattle.std.proofs.lemmas.Option.{slice_get_past}
use Rattle.std.specs.Prelude.{slice_get}
use Rattle.std.specs.Map.{update}
use Rattle.btor2_model.specs.Table.{at_place}

high-at : {V : Type 0} (low : List (Option V)) (before after : ℕ → Option V) (id q : ℕ) (value : V) → length low ≤ id → after ≡ update nat_eq before id (Some value)
    → at_place (slice_get low q) (after q) ≡ cond (nat_eq id q) (Some value) (at_place (slice_get low q) (before q))
high-at {V} low before after id q value past is = ⊎_elim
    (λ here.
    let none : slice_get low q ≡ None = slice_get_past low q (omega (arith, past, here.1)) in
    ap (λ o. at_place o (after q)) none ∙ ap (λ (f : ℕ → Option V). f q) is ∙ ap (λ b. cond b (Some value) (before q)) here.0
    ∙ sym (ap (λ b. cond b (Some value) (at_place (slice_get low q) (before q))) here.0))
    (λ apart.
    ap (at_place (slice_get low q)) (ap (λ (f : ℕ → Option V). f q) is ∙ ap (λ b. cond b (Some value) (before q)) apart.0)
    ∙ sym (ap (λ b. cond b (Some value) (at_place (slice_get low q) (before q))) apart.0))
    (eqb_tells id q)

pub high-insert : {V : Type 0} (low : List (Option V)) (before after : ℕ → Option V) (id : ℕ) (value : V) → length low ≤ id → after ≡ update nat_eq before id (Some value)
    → (λ q. at_place (slice_get low q) (after q)) ≡ update nat_eq (λ q. at_place (slice_get low q) (before q)) id (Some value)
high-insert {V} low before after id value past is = fun_ext (λ q. high-at low before after id q value past is)

-- a map that is unchanged leaves each id what it stands for
pub high-same : {V : Type 0} (low : List (Option V)) (before after : ℕ → Option V) → after ≡ before
    → ◌≡◌ {A = ℕ → Option V} (λ q. at_place (slice_get low q) (after q)) (λ q. at_place (slice_get low q) (before q))
high-same {V} low before after same = fun_ext (λ q. ap (at_place (slice_get low q)) (ap (λ (f : ℕ → Option V). f q) same))
