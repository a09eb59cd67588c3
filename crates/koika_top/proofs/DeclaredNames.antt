-- The names of a typed design's registers and rules are words, and none is that of two registers or of two rules; so it is
-- for what the design is lowered to.
use Rattle.std.proofs.Common.{◌≡◌, ◌+◌, ◌<◌, ◌≤◌, ℕ, zero, suc, Bool, true, false, cond, List, [], ◌∷◌, ◌++◌, length, length-append, map, get_or, Option, Some, None, refl, sym, ap, subst, ◌∙◌, ⊎_elim, arith}
use Rattle.std.specs.Prelude.{All, ◌||◌, is_some, nat_lt, not, slice_get}
use Rattle.std.specs.List.{AllByRecursion, list_all}
use Rattle.std.specs.Str.{bytes_eq}
use Rattle.std.specs.List.{position_or_len}
use Rattle.std.proofs.Math.Seq.{get_or-append_seam}
use Rattle.std.proofs.lemmas.Bool.{cases_lt, false≢true, lt-leb, lt-ltb, ltb-false, ne_eqb}
use Rattle.std.proofs.lemmas.List.{get_or_append_left, length-map, map-append}
use Rattle.std.proofs.lemmas.List.Elements.{recursion_from_All}
use Rattle.std.proofs.lemmas.List.Quantifiers.{position-Some}
use Rattle.std.proofs.lemmas.List.Sums.{position_or_len_is, prefix_len-le-length}
use Rattle.std.proofs.lemmas.Slice.Eq.{bytes_eq-Decides}
use Rattle.kw_base.specs.Names.{number_of}
use Rattle.kw_base.specs.declared.fault_number.TheConstants.{REPEATED_NAME}
use Rattle.kw_bits.specs.declared.host.HostSpec.{HostSpec}
use Rattle.koika_syntax.specs.Grammar.{IsDeclaration, IsName}
use Rattle.koika_syntax.specs.Lexemes.{IsWord, continues_word}
use Rattle.koika_syntax.specs.declared.tree.Block.{Block}
use Rattle.koika_syntax.specs.declared.tree.Constant.{Constant}
use Rattle.koika_syntax.specs.declared.tree.Declaration.{Declaration}
use Rattle.koika_syntax.specs.declared.tree.Declaration.TheVariants as declarations
use Rattle.koika_syntax.specs.declared.tree.Name.{Name}
use Rattle.koika_syntax.specs.declared.tree.Tree.{Tree}
use Rattle.koika_syntax.specs.declared.tree.TypeExpression.{TypeExpression}
use Rattle.koika_syntax.proofs.LexemeKinds.{continues-from_begins}
use Rattle.typed_core.specs.declared.design.Parts.{Parts}
use Rattle.typed_core.specs.declared.design.RegDecl.{RegDecl}
use Rattle.typed_core.specs.declared.design.Rule.{Rule as CoreRule}
use Rattle.journal_check.specs.Printing.{name_of_register, name_of_rule}
use Rattle.journal_check.specs.Reading.{HasShownNames, IsShown, is_shown}
use Rattle.journal_check.specs.Tokens.{number_named, register_names, rule_names}
use Rattle.journal_check.proofs.BoardAnswers.{HasOwnNames}
use Rattle.koika_check.specs.Checks.{checked, scheduled}
use Rattle.koika_check.specs.Constants.{constant_of}
use Rattle.koika_check.specs.Declarations.{assert_with, declare, enum_with, function_with, host_with, input_with, is_declared, new_name, nothing, register_known, register_of, register_typed, register_with, rule_of, rule_typed, rule_with, struct_with, table_with}
use Rattle.koika_check.specs.Expressions.{block_in}
use Rattle.koika_check.specs.Outcomes.{Gives, holds, one_by_one, where_all, wrong}
use Rattle.koika_check.specs.Schedule.{scheduler_nodes}
use Rattle.koika_check.specs.Types.{type_of}
use Rattle.koika_check.specs.declared.checked.Checked.{Checked}
use Rattle.koika_check.specs.declared.checked.Register.{Register}
use Rattle.koika_check.specs.declared.checked.CheckedRule.{CheckedRule}
use Rattle.koika_check.specs.Kinds.{number_named as declared_named}
use Rattle.koika_check.specs.declared.things.Kind.TheVariants as kind
use Rattle.koika_lower.specs.Lowering.{IsLowered, register_of as lowered_register}
use Rattle.front_end.proofs.LoweredRuns.{twice}
use Rattle.front_end.proofs.WordNames.{GivesSuch, behind, behind-any, given, unless-such}
use Rattle.kw_base.proofs.Conjunction.{and-left, and-right}

-- ---- names one after another

-- each name is where it stands first
abbrev pub AreOwn : List (List ℕ) → Type 0
AreOwn names = (k : ℕ) → k < length names → number_of names (get_or names k []) ≡ Some k

none_before : (p : List ℕ → Bool) (xs : List (List ℕ)) (j : ℕ) → position_or_len p xs ≡ length xs → j < length xs → p (get_or xs j []) ≡ false
none_before p [] j all below = absurd (omega (arith, below))
none_before p (x ∷ xs) j all below = of (p x) refl j all below (none_before p xs)
  where
    of : (b : Bool) → p x ≡ b → (j : ℕ) → cond (not b) (1 + position_or_len p xs) 0 ≡ length (x ∷ xs) → j < length (x ∷ xs) → ((i : ℕ) → position_or_len p xs ≡ length xs → i < length xs → p (get_or xs i []) ≡ false) → p (get_or (x ∷ xs) j []) ≡ false
    of true is j all below rest = absurd (omega (arith, all))
    of false is zero all below rest = is
    of false is (suc j) all below rest = rest j (omega (arith, all)) (omega (arith, below))

not_found : (names : List (List ℕ)) (n : List ℕ) → number_of names n ≡ None → position_or_len (bytes_eq n) names ≡ length names
not_found names n none = of (nat_lt (position_or_len (bytes_eq n) names) (length names)) refl none
  where
    of : (b : Bool) → nat_lt (position_or_len (bytes_eq n) names) (length names) ≡ b → cond b (Some (position_or_len (bytes_eq n) names)) None ≡ None → position_or_len (bytes_eq n) names ≡ length names
    of true is e = absurd cc
    of false is e = let most : position_or_len (bytes_eq n) names ≤ length names = prefix_len-le-length _ names in omega (arith, ltb-false (position_or_len (bytes_eq n) names) (length names) is, most)

-- where a name stands first
stands_at : (names : List (List ℕ)) (n : List ℕ) (k : ℕ) → k < length names → bytes_eq n (get_or names k []) ≡ true → ((j : ℕ) → j < k → bytes_eq n (get_or names j []) ≡ false) → number_of names n ≡ Some k
stands_at names n k below here none =
    let place : position_or_len (bytes_eq n) names ≡ k = position_or_len_is (bytes_eq n) names k [] (omega (arith, below)) none (λ _. here) in
    ap (λ (i : ℕ). cond (nat_lt i (length names)) (Some i) None) place ∙ ap (λ (b : Bool). cond b (Some k) None) (lt-ltb k (length names) below)

-- one more that isn't there
own_push : (names : List (List ℕ)) (n : List ℕ) → AreOwn names → number_of names n ≡ None → AreOwn (names ++ n ∷ [])
own_push names n own none k below =
    ⊎_elim
    (λ less.
    let old = position-Some (bytes_eq (get_or names k [])) names k [] (own k less) in
    ap (number_of all) (at k less)
    ∙ stands_at all (get_or names k []) k below (ap (bytes_eq (get_or names k [])) (at k less) ∙ old.1) (λ j before. ap (bytes_eq (get_or names k [])) (at j (omega (arith, before, less))) ∙ old.2 j before))
    (λ past.
    let here : k ≡ length names = omega (arith, past, below, length-append names (n ∷ [])) in
    let last : get_or all k [] ≡ n = ap (λ (i : ℕ). get_or all i []) here ∙ get_or-append_seam names n [] [] in
    ap (number_of all) last
    ∙ stands_at all n k below (ap (bytes_eq n) last ∙ (bytes_eq-Decides n n).1 refl)
    (λ j before.
    let within : j < length names = omega (arith, before, here) in
    ap (bytes_eq n) (at j within) ∙ none_before (bytes_eq n) names j (not_found names n none) within))
    (cases_lt k (length names))
  where
    all : List (List ℕ)
    all = names ++ n ∷ []

    at : (j : ℕ) → j < length names → get_or all j [] ≡ get_or names j []
    at j less = get_or_append_left names (n ∷ []) [] j less

push : {X : Type 0} (P : X → Type 0) (xs : List X) (x : X) → AllByRecursion P xs → P x → AllByRecursion P (xs ++ x ∷ [])
push P [] x all one = (one, tt)
push P (y ∷ ys) x all one = (all.0, push P ys x all.1 one)

-- ---- words

-- a byte of a word is above the space
low-byte : (b : ℕ) → b ≤ 31 → continues_word b ≡ false
low-byte b low =
    let upper = lt-leb 65 b (omega (arith, low)) in
    let lower = lt-leb 97 b (omega (arith, low)) in
    let digit = lt-leb 48 b (omega (arith, low)) in
    let under = ne_eqb b 95 (λ e. absurd (omega (arith, low, e))) in
    rw (upper, lower, digit, under) refl

shown-byte : (b : ℕ) → continues_word b ≡ true → is_shown b ≡ true
shown-byte b goes = ⊎_elim (λ less. lt-ltb 31 b less) (λ low. absurd (false≢true (sym (low-byte b low) ∙ goes))) (cases_lt 31 b)

shown-bytes : (bytes : List ℕ) → list_all continues_word bytes ≡ true → list_all is_shown bytes ≡ true
shown-bytes [] all = refl
shown-bytes (b ∷ bytes) all =
    let here = shown-byte b (and-left (continues_word b) (list_all continues_word bytes) all) in
    let later = shown-bytes bytes (and-right (continues_word b) (list_all continues_word bytes) all) in
    rw (here, later) refl

shown-word : (bytes : List ℕ) → IsWord bytes → IsShown bytes
shown-word [] word = absurd word
shown-word (b ∷ bytes) word =
    let here = shown-byte b (continues-from_begins b word.0) in
    let later = shown-bytes bytes word.1 in
    rw (here, later) refl

-- ---- declarations

-- a name that is declared is the written one, and wasn't declared before
abbrev IsNew : Checked → Name → List ℕ → Type 0
IsNew d n name = (name ≡ n.text) × (is_declared d n.text ≡ false)

new-name : (d : Checked) (n : Name) → GivesSuch (IsNew d n) (new_name d n)
new-name d n = of (is_declared d n.text) refl
  where
    of : (b : Bool) → is_declared d n.text ≡ b → GivesSuch (IsNew d n) (where_all (holds (not b) (wrong REPEATED_NAME n.place) ∷ []) n.text)
    of true is = tt
    of false is = (refl, is)

new-register : (d : Checked) (n : Name) (written : TypeExpression) (first : Constant) → GivesSuch (λ (one : Register). IsNew d n one.name) (register_with d n written first)
new-register d n written first =
    behind (IsNew d n) (λ (one : Register). IsNew d n one.name) (new_name d n) (register_of d written first) (new-name d n) (λ name e.
    behind-any (λ (one : Register). IsNew d n one.name) (type_of d written) (register_typed d first name) (λ of.
    behind-any (λ (one : Register). IsNew d n one.name) (constant_of first d) (register_known d name of) (λ known.
    unless-such (λ (one : Register). IsNew d n one.name) _ _ e)))

new-rule : (d : Checked) (n : Name) (body : Block) → GivesSuch (λ (one : CheckedRule). IsNew d n one.name) (rule_with d n body)
new-rule d n body =
    behind (IsNew d n) (λ (one : CheckedRule). IsNew d n one.name) (new_name d n) (rule_of d body) (new-name d n) (λ name e.
    behind-any (λ (one : CheckedRule). IsNew d n one.name) (block_in body (record { design = d; locals = [] })) (rule_typed name) (λ typing.
    unless-such (λ (one : CheckedRule). IsNew d n one.name) _ _ e))

pick : (a b c e f g h r : Bool) → (a || b || c || e || f || g || h || r) ≡ false → (c ≡ false) × (r ≡ false)
pick false false false false false false false false is = (refl, refl)
pick true b c e f g h r is = absurd (false≢true (sym is))
pick false true c e f g h r is = absurd (false≢true (sym is))
pick false false true e f g h r is = absurd (false≢true (sym is))
pick false false false true f g h r is = absurd (false≢true (sym is))
pick false false false false true g h r is = absurd (false≢true (sym is))
pick false false false false false true h r is = absurd (false≢true (sym is))
pick false false false false false false true r is = absurd (false≢true (sym is))
pick false false false false false false false true is = absurd (false≢true (sym is))

none-there : (found : Option ℕ) → is_some found ≡ false → found ≡ None
none-there None is = refl
none-there (Some k) is = absurd (false≢true (sym is))

unseen : (d : Checked) (name : List ℕ) → is_declared d name ≡ false → (declared_named kind.Register d name ≡ None) × (declared_named kind.Rule d name ≡ None)
unseen d name is =
    let parts = pick (is_some (declared_named kind.Enum d name)) (is_some (declared_named kind.Struct d name)) (is_some (declared_named kind.Register d name)) (is_some (declared_named kind.Input d name)) (is_some (declared_named kind.Table d name)) (is_some (declared_named kind.Host d name)) (is_some (declared_named kind.Function d name)) (is_some (declared_named kind.Rule d name)) is in
    (none-there (declared_named kind.Register d name) parts.0, none-there (declared_named kind.Rule d name) parts.1)

abbrev registers_of : Checked → List (List ℕ)
registers_of d = map (λ (r : Register). r.name) d.registers

abbrev rules_of : Checked → List (List ℕ)
rules_of d = map (λ (r : CheckedRule). r.name) d.rules

-- names that are words, and each its own
pub record AreNames (names : List (List ℕ)) : Type 0 where
  pub words : AllByRecursion IsShown names
  pub own : AreOwn names

pub record HasDeclaredNames (d : Checked) : Type 0 where
  pub registers : AreNames (registers_of d)
  pub rules : AreNames (rules_of d)

-- one name more
names-push : {X : Type 0} (name_of : X → List ℕ) (xs : List X) (x : X) (n : Name) → IsName n → name_of x ≡ n.text → number_of (map name_of xs) n.text ≡ None → AreNames (map name_of xs) → AreNames (map name_of (xs ++ x ∷ []))
names-push name_of xs x n is e none h =
    subst AreNames (sym (map-append name_of xs (x ∷ []) ∙ ap (λ (name : List ℕ). map name_of xs ++ name ∷ []) e))
    (record { words = push IsShown (map name_of xs) n.text h.words (shown-word n.text is.0); own = own_push (map name_of xs) n.text h.own none })

declared : (hosts : List HostSpec) (x : Declaration) (d : Checked) → IsDeclaration x → HasDeclaredNames d → GivesSuch HasDeclaredNames (declare hosts x d)
declared hosts (declarations.Enum n width members) d is h = behind-any HasDeclaredNames (enum_with d n width members) _ (λ one. record { registers = h.registers; rules = h.rules })
declared hosts (declarations.Struct n fields) d is h = behind-any HasDeclaredNames (struct_with d n fields) _ (λ one. record { registers = h.registers; rules = h.rules })
declared hosts (declarations.Register n of first) d is h =
    behind (λ (one : Register). IsNew d n one.name) HasDeclaredNames (register_with d n of first) _ (new-register d n of first) (λ one e. record {
      registers = names-push (λ (r : Register). r.name) d.registers one n is.0 e.0 (unseen d n.text e.1).0 h.registers;
      rules = h.rules;
    })
declared hosts (declarations.Input n of) d is h = behind-any HasDeclaredNames (input_with d n of) _ (λ one. record { registers = h.registers; rules = h.rules })
declared hosts (declarations.Table n input output entries) d is h = behind-any HasDeclaredNames (table_with d n input output entries) _ (λ one. record { registers = h.registers; rules = h.rules })
declared hosts (declarations.Host n input output) d is h = behind-any HasDeclaredNames (host_with hosts d n input output) _ (λ one. record { registers = h.registers; rules = h.rules })
declared hosts (declarations.Function n parameters written body) d is h = behind-any HasDeclaredNames (function_with d n parameters written body) _ (λ one. record { registers = h.registers; rules = h.rules })
declared hosts (declarations.Rule n body) d is h =
    behind (λ (one : CheckedRule). IsNew d n one.name) HasDeclaredNames (rule_with d n body) _ (new-rule d n body) (λ one e. record {
      registers = h.registers;
      rules = names-push (λ (r : CheckedRule). r.name) d.rules one n is.0 e.0 (unseen d n.text e.1).1 h.rules;
    })
declared hosts (declarations.Assert n) d is h = behind-any HasDeclaredNames (assert_with d n) _ (λ one. record { registers = h.registers; rules = h.rules })

all-declared : (hosts : List HostSpec) (xs : List Declaration) (d : Checked) → AllByRecursion IsDeclaration xs → HasDeclaredNames d → GivesSuch HasDeclaredNames (one_by_one (declare hosts) xs d)
all-declared hosts [] d is h = h
all-declared hosts (x ∷ xs) d is h =
    behind HasDeclaredNames HasDeclaredNames (declare hosts x d) (one_by_one (declare hosts) xs) (declared hosts x d is.0 h) (λ next k. all-declared hosts xs next is.1 k)

-- nothing is named at first
none : HasDeclaredNames nothing
none =
    let empty : AreNames [] = record { words = tt; own = λ k below. absurd (omega (arith, below)) } in
    record { registers = empty; rules = empty }

pub declared-names : (hosts : List HostSpec) (tree : Tree) (d : Checked) → All IsDeclaration tree.declarations → checked hosts tree ≡ Gives d → HasDeclaredNames d
declared-names hosts tree d is e =
    given HasDeclaredNames (checked hosts tree) d
    (behind HasDeclaredNames HasDeclaredNames (one_by_one (declare hosts) tree.declarations nothing) (scheduled tree) (all-declared hosts tree.declarations nothing (recursion_from_All IsDeclaration tree.declarations is) none) (λ found h.
    behind-any HasDeclaredNames (scheduler_nodes tree.scheduler found [] 0) _ (λ nodes.
    unless-such HasDeclaredNames _ _ (record { registers = h.registers; rules = h.rules }))))
    e

-- ---- lowered designs

register_at : (decls : List RegDecl) (k : ℕ) → k < length decls → name_of_register (slice_get decls k) ≡ get_or (map (λ (decl : RegDecl). decl.name) decls) k []
register_at [] k below = absurd (omega (arith, below))
register_at (decl ∷ decls) zero below = refl
register_at (decl ∷ decls) (suc k) below = register_at decls k (omega (arith, below))

rule_at : (rules : List CoreRule) (k : ℕ) → k < length rules → name_of_rule (slice_get rules k) ≡ get_or (map (λ (rule : CoreRule). rule.name) rules) k []
rule_at [] k below = absurd (omega (arith, below))
rule_at (rule ∷ rules) zero below = refl
rule_at (rule ∷ rules) (suc k) below = rule_at rules k (omega (arith, below))

module _ (d : Checked) (core : Parts) (lowered : IsLowered d core) (names : HasDeclaredNames d) where
  registers-same : register_names core ≡ registers_of d
  registers-same = ap (map (λ (decl : RegDecl). decl.name)) lowered.registers ∙ twice lowered_register (λ (decl : RegDecl). decl.name) d.registers

  pub lowered-shown : HasShownNames core
  lowered-shown = record { registers = subst (AllByRecursion IsShown) (sym registers-same) names.registers.words; rules = subst (AllByRecursion IsShown) (sym lowered.names) names.rules.words }

  pub lowered-own : HasOwnNames core
  lowered-own =
      let registers = subst AreOwn (sym registers-same) names.registers.own in
      let rules = subst AreOwn (sym lowered.names) names.rules.own in
      record {
        registers = λ k below.
            ap (number_named (register_names core)) (register_at core.regs k below) ∙ registers k (subst (λ (n : ℕ). k < n) (sym (length-map core.regs (λ (decl : RegDecl). decl.name))) below);
        rules = λ k below.
            ap (number_named (rule_names core)) (rule_at core.rules k below) ∙ rules k (subst (λ (n : ℕ). k < n) (sym (length-map core.rules (λ (rule : CoreRule). rule.name))) below);
      }
