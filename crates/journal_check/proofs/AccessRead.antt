-- An access is read from its bytes.
use Rattle.std.proofs.Common.{◌≡◌, ℕ, ◌≤◌, ◌%◌, ◌==◌, List, [], ◌∷◌, length, drop, get_or, Option, Some, Err, sym, ap, ◌∙◌, arith}
use Rattle.typed_core.specs.declared.access.Access.{Access}
use Rattle.typed_core.specs.declared.design.Parts.{Parts}
use Rattle.journal_check.specs.Tokens.{number_named, register_names}
use Rattle.journal_check.specs.inner.Tokens.{◌>>=◌, Reads, access_read}
use Rattle.kw_bits.specs.declared.failure.Failure.{Failure}
use Rattle.journal_check.specs.declared.token.Malformed.{Malformed}
use Rattle.kw_bits.specs.declared.failure.Failure.TheVariants as failures

-- by its first bytes and the register of its name
pub access_is : (design : Parts) (token : List ℕ) (name : List ℕ) (port register : ℕ) → 3 ≤ length token → name ≡ drop 3 token → port ≡ get_or token 1 0 → number_named (register_names design) name ≡ Some register
    → access_read design token ≡ Some (record { write = get_or token 0 0 == 119; port = port % 4; register = register })
access_is design [] name port register long rest is found = absurd (omega (arith, long))
access_is design (kind ∷ []) name port register long rest is found = absurd (omega (arith, long))
access_is design (kind ∷ digit ∷ []) name port register long rest is found = absurd (omega (arith, long))
access_is design (kind ∷ digit ∷ colon ∷ behind) name port register long rest is found =
    ap (λ (found : Option ℕ). found >>= λ (r : ℕ). Some (record { write = kind == 119; port = digit % 4; register = r })) (ap (number_named (register_names design)) (sym rest) ∙ found)
    ∙ ap (λ (n : ℕ). Some (record { write = kind == 119; port = n % 4; register = register })) (sym is)

-- there is none without a register
pub no_access : (design : Parts) (token name : List ℕ) (flaw : Failure Malformed) → 3 ≤ length token → name ≡ drop 3 token → Reads {X = ℕ} (λ (number : ℕ). number) (Err flaw) (number_named (register_names design) name) → Reads {X = Access} (λ (access : Access). access) (Err flaw) (access_read design token)
no_access design token name failures.NoMemory long rest none = tt
no_access design [] name (failures.Why malformed) long rest none = absurd (omega (arith, long))
no_access design (kind ∷ []) name (failures.Why malformed) long rest none = absurd (omega (arith, long))
no_access design (kind ∷ digit ∷ []) name (failures.Why malformed) long rest none = absurd (omega (arith, long))
no_access design (kind ∷ digit ∷ colon ∷ behind) name (failures.Why malformed) long rest none =
    ap (λ (found : Option ℕ). found >>= λ (r : ℕ). Some (record { write = kind == 119; port = digit % 4; register = r })) (ap (number_named (register_names design)) (sym rest) ∙ none)
