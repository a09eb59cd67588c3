-- The names of a circuit's module differ, and none is a reserved word or a wire's name.
use Rattle.std.proofs.Common.{◌≡◌, ◌≢◌, ℕ, zero, suc, ◌<◌, Bool, true, false, cond, ◌&&◌, ◌||◌, None, Some, List, [], ◌∷◌, ◌++◌, length, map, get_or, codes, inl, inr, arith, refl, sym, ap, ap₂, subst, ◌∙◌, append_assoc}
use Rattle.std.specs.Prelude.{All, AllPairs, Contains, IsTrue, bytes_eq}
use Rattle.std.specs.List.{list_all, list_any}
use Rattle.std.specs.Option.{option_to_list}
use Rattle.std.proofs.lemmas.List.{append_cancel_right, length-map, map-append}
use Rattle.std.proofs.lemmas.List.Elements.{All-map}
use Rattle.std.proofs.lemmas.List.Folds.{list_any-append, list_any_at}
use Rattle.std.proofs.lemmas.List.Kept.{AllPairs-cons}
use Rattle.std.proofs.lemmas.Simd.{map-map}
use Rattle.std.proofs.lemmas.Slice.Eq.{bytes_eq-Decides}
use Rattle.circuit_eval.specs.declared.circuit.InputWire.{InputWire}
use Rattle.circuit_eval.specs.declared.circuit.OutputWire.{OutputWire}
use Rattle.circuit_eval.specs.declared.circuit.StateWire.{StateWire}
use Rattle.circuit_eval.specs.declared.circuit.Wires.{Wires}
use Rattle.verilog_text.specs.Modules as modules
use Rattle.verilog_text.specs.Modules.{AreNamed, IsName, IsWord, begins_word, continues_word}
use Rattle.verilog_text.specs.Names.{is_reserved, is_taken, marked, own_name, reserved_text, written}
use Rattle.verilog_text.specs.Translations.{HasNames, names_of}
use Rattle.verilog_text.specs.declared.module.Output.{Output}
use Rattle.verilog_text.specs.declared.module.Port.{Port}
use Rattle.verilog_text.specs.declared.module.Register.{Register}
use Rattle.verilog_text.specs.declared.verilog.Options.{Options}
use Rattle.verilog_text.specs.declared.draft.Draft.{Draft}
use Rattle.verilog_text.specs.inner.Making.{has_name, input_of, module_with, output_of, register_of}

-- ---- words

-- a word has no `$`
no-dollar : (bytes : List ℕ) → IsTrue (list_all continues_word (bytes ++ 36 ∷ [])) → ⊥
no-dollar [] is = cc
no-dollar (b ∷ bytes) is = by (continues_word b) (no-dollar bytes) is
  where
    by : (x : Bool) → (IsTrue (list_all continues_word (bytes ++ 36 ∷ [])) → ⊥)
        → IsTrue (x && list_all continues_word (bytes ++ 36 ∷ [])) → ⊥
    by true rest is = rest is
    by false rest is = cc

unmarked : (word : List ℕ) → IsWord (word ++ 36 ∷ []) → ⊥
unmarked [] is = let first : IsTrue (begins_word 36) = is.0 in cc
unmarked (b ∷ bytes) is = no-dollar bytes is.1

-- marks aside, equal names are equal
marked-same : (x y : Bool) (a b : List ℕ) → IsWord a → IsWord b → marked x a ≡ marked y b → a ≡ b
marked-same true true a b p q e = append_cancel_right a b (36 ∷ []) e
marked-same false false a b p q e = e
marked-same true false a b p q e = absurd (unmarked a (subst IsWord (sym e) q))
marked-same false true a b p q e = absurd (unmarked b (subst IsWord e p))

-- a word isn't itself with a mark
never-marked : (a : List ℕ) → IsWord a → (a ++ 36 ∷ []) ≡ a → ⊥
never-marked a p e = unmarked a (subst IsWord (sym e) p)

named : (x : Bool) (name : List ℕ) → IsWord name → is_reserved name ≡ x → IsName (marked x name)
named true name word is = inr (name, word, refl)
named false name word is = inl (word, is)

own-named : (x : Bool) (name : List ℕ) → IsWord name → is_reserved name ≡ false → IsName (marked x name)
own-named true name word free = inr (name, word, refl)
own-named false name word free = inl (word, free)

-- ---- names that are taken

list_any-map : {X : Type 0} (f : X → List ℕ) (p : List ℕ → Bool) (xs : List X)
    → list_any p (map f xs) ≡ list_any (λ (x : X). p (f x)) xs
list_any-map f p [] = refl
list_any-map f p (x ∷ xs) = ap (λ (b : Bool). p (f x) || b) (list_any-map f p xs)

-- a circuit has a name where it is among its names
pub has_name-taken : (c : Wires) (name : List ℕ)
    → has_name c.inputs c.outputs c.states name ≡ is_taken (names_of c) name
unfolding is_taken
has_name-taken c name =
    let p : List ℕ → Bool = λ (other : List ℕ). bytes_eq other name in
    let inputs : List (List ℕ) = map (λ (wire : InputWire). wire.name) c.inputs in
    let outputs : List (List ℕ) = map (λ (wire : OutputWire). wire.name) c.outputs in
    let states : List (List ℕ) = map (λ (wire : StateWire). wire.name) c.states in
    let front : list_any p (inputs ++ outputs) ≡ (list_any p inputs || list_any p outputs) =
    list_any-append p inputs outputs in
    let all : list_any p (inputs ++ outputs ++ states) ≡ (list_any p (inputs ++ outputs) || list_any p states) =
    list_any-append p (inputs ++ outputs) states in
    sym (all ∙ ap (λ (b : Bool). b || list_any p states) front
    ∙ ap₂ (λ (a : Bool) (b : Bool). a || b || list_any p states)
    (list_any-map (λ (wire : InputWire). wire.name) p c.inputs)
    (list_any-map (λ (wire : OutputWire). wire.name) p c.outputs)
    ∙ ap (λ (b : Bool). list_any (λ (wire : InputWire). p wire.name) c.inputs || list_any
    (λ (wire : OutputWire). p wire.name) c.outputs || b)
    (list_any-map (λ (wire : StateWire). wire.name) p c.states))

taken : (names : List (List ℕ)) (name : List ℕ) → Contains names name → is_taken names name ≡ true
unfolding is_taken
taken names name has =
    list_any_at (λ (other : List ℕ). bytes_eq other name) names has.0 name has.1
    ((bytes_eq-Decides (get_or names has.0 name) name).1 has.2)

-- ---- a circuit

-- functions that are injective where this holds keep names apart
apart-map : (f : List ℕ → List ℕ) (P : List ℕ → Type 0) (xs : List (List ℕ))
    → ((a b : List ℕ) → P a → P b → f a ≡ f b → a ≡ b)
    → All P xs → AllPairs (λ a b. a ≢ b) xs → AllPairs (λ a b. a ≢ b) (map f xs)
apart-map f P xs back all apart i j d less within =
    let here : j < length xs = omega (arith, within, length-map xs f) in
    λ e.
    let front : get_or (map f xs) i d ≡ f (get_or xs i []) = get_or-map f xs i [] d (omega (arith, less, here)) in
    let last : get_or (map f xs) j d ≡ f (get_or xs j []) = get_or-map f xs j [] d here in
    apart i j [] less here
    (back (get_or xs i []) (get_or xs j []) (all i [] (omega (arith, less, here))) (all j [] here) (sym front ∙ e
    ∙ last))
  where
    get_or-map : (f : List ℕ → List ℕ) (xs : List (List ℕ)) (i : ℕ) (x d : List ℕ) → i < length xs
        → get_or (map f xs) i d ≡ f (get_or xs i x)
    get_or-map f [] i x d within = absurd (omega (arith, within))
    get_or-map f (y ∷ ys) zero x d within = refl
    get_or-map f (y ∷ ys) (suc i) x d within = get_or-map f ys i x d (omega (arith, within))

module _ (c : Wires) (names : HasNames c) where
  abbrev all : List (List ℕ)
  all = names_of c

  written-same : (a b : List ℕ) → IsWord a → IsWord b → written a ≡ written b → a ≡ b
  written-same a b p q e = marked-same (is_reserved a) (is_reserved b) a b p q e

  written-named : All IsName (map written all)
  written-named =
      All-map IsName written all
      (λ k d within. named (is_reserved (get_or all k d)) (get_or all k d) (names.words k d within) refl)

  written-apart : AllPairs (λ a b. a ≢ b) (map written all)
  written-apart = apart-map written IsWord all written-same names.words names.distinct

  -- a name of the module's own is none of the circuit's
  own-apart : (name : List ℕ) → IsWord name → is_reserved name ≡ false
      → All (λ n. own_name (names_of c) name ≢ n) (map written all)
  own-apart name word free =
      All-map (λ n. own_name (names_of c) name ≢ n) written all (λ k d within e.
      let other : List ℕ = get_or all k d in
      let same : name ≡ other =
      marked-same (is_taken (names_of c) name) (is_reserved other) name other word (names.words k d within) e in
      let there : is_taken (names_of c) name ≡ true =
      taken (names_of c) name (k, within, default all k d name within ∙ sym same) in
      never-marked name word
      (ap (λ x. marked x name) (sym there) ∙ e ∙ ap written (sym same) ∙ ap (λ x. marked x name) free))
    where
      default : (xs : List (List ℕ)) (k : ℕ) (d x : List ℕ) → k < length xs → get_or xs k x ≡ get_or xs k d
      default [] k d x within = absurd (omega (arith, within))
      default (y ∷ ys) zero d x within = refl
      default (y ∷ ys) (suc k) d x within = default ys k d x (omega (arith, within))

  -- names of the module's own differ in their first letter
  firsts-apart : (a b : ℕ) (xs ys : List ℕ) (x y : Bool) → (a ≡ b → ⊥) → marked x (a ∷ xs) ≡ marked y (b ∷ ys) → ⊥
  firsts-apart a b xs ys true true apart e = let same : a ≡ b = cc in apart same
  firsts-apart a b xs ys true false apart e = let same : a ≡ b = cc in apart same
  firsts-apart a b xs ys false true apart e = let same : a ≡ b = cc in apart same
  firsts-apart a b xs ys false false apart e = let same : a ≡ b = cc in apart same

  koika-free : is_reserved (codes "koika") ≡ false
  unfolding is_reserved reserved_text
  koika-free = refl

  clk-free : is_reserved (codes "clk") ≡ false
  unfolding is_reserved reserved_text
  clk-free = refl

  rst-free : is_reserved (codes "rst") ≡ false
  unfolding is_reserved reserved_text
  rst-free = refl

  koika-word : IsWord (codes "koika")
  koika-word = (refl, refl)

  clk-word : IsWord (codes "clk")
  clk-word = (refl, refl)

  rst-word : IsWord (codes "rst")
  rst-word = (refl, refl)

  empty-all : (P : List ℕ → Type 0) → All P []
  empty-all P k d within = absurd (omega (arith, within))

  cons-all : (P : List ℕ → Type 0) (x : List ℕ) (xs : List (List ℕ)) → P x → All P xs → All P (x ∷ xs)
  cons-all P x xs own rest zero d within = own
  cons-all P x xs own rest (suc k) d within = rest k d (omega (arith, within))

  koika-clk : own_name (names_of c) (codes "koika") ≢ own_name (names_of c) (codes "clk")
  koika-clk =
      firsts-apart 107 99 (codes "oika") (codes "lk") (is_taken (names_of c) (codes "koika"))
      (is_taken (names_of c) (codes "clk")) (λ e. omega (arith, e))

  koika-rst : own_name (names_of c) (codes "koika") ≢ own_name (names_of c) (codes "rst")
  koika-rst =
      firsts-apart 107 114 (codes "oika") (codes "st") (is_taken (names_of c) (codes "koika"))
      (is_taken (names_of c) (codes "rst")) (λ e. omega (arith, e))

  clk-rst : own_name (names_of c) (codes "clk") ≢ own_name (names_of c) (codes "rst")
  clk-rst =
      firsts-apart 99 114 (codes "lk") (codes "st") (is_taken (names_of c) (codes "clk"))
      (is_taken (names_of c) (codes "rst")) (λ e. omega (arith, e))

  -- the names of the module's own, before those of the circuit
  abbrev own : Bool → List (List ℕ)
  own reset =
      own_name (names_of c) (codes "koika") ∷ own_name (names_of c) (codes "clk") ∷ option_to_list
      (cond reset (Some (own_name (names_of c) (codes "rst"))) None)

  koika-named : IsName (own_name (names_of c) (codes "koika"))
  koika-named = own-named (is_taken (names_of c) (codes "koika")) (codes "koika") koika-word koika-free

  clk-named : IsName (own_name (names_of c) (codes "clk"))
  clk-named = own-named (is_taken (names_of c) (codes "clk")) (codes "clk") clk-word clk-free

  rst-named : IsName (own_name (names_of c) (codes "rst"))
  rst-named = own-named (is_taken (names_of c) (codes "rst")) (codes "rst") rst-word rst-free

  own-names : (reset : Bool) → All IsName (own reset ++ map written all)
  own-names true =
      let koika : List ℕ = own_name (names_of c) (codes "koika") in
      let clk : List ℕ = own_name (names_of c) (codes "clk") in
      let rst : List ℕ = own_name (names_of c) (codes "rst") in
      cons-all IsName koika (clk ∷ rst ∷ map written all) koika-named
      (cons-all IsName clk (rst ∷ map written all) clk-named
      (cons-all IsName rst (map written all) rst-named written-named))
  own-names false =
      let koika : List ℕ = own_name (names_of c) (codes "koika") in
      let clk : List ℕ = own_name (names_of c) (codes "clk") in
      cons-all IsName koika (clk ∷ map written all) koika-named
      (cons-all IsName clk (map written all) clk-named written-named)

  own-distinct : (reset : Bool) → AllPairs (λ a b. a ≢ b) (own reset ++ map written all)
  own-distinct true =
      let koika : List ℕ = own_name (names_of c) (codes "koika") in
      let clk : List ℕ = own_name (names_of c) (codes "clk") in
      let rst : List ℕ = own_name (names_of c) (codes "rst") in
      AllPairs-cons (λ a b. a ≢ b) koika (clk ∷ rst ∷ map written all)
      (cons-all (λ n. koika ≢ n) clk (rst ∷ map written all) koika-clk
      (cons-all (λ n. koika ≢ n) rst (map written all) koika-rst (own-apart (codes "koika") koika-word koika-free)))
      (AllPairs-cons (λ a b. a ≢ b) clk (rst ∷ map written all)
      (cons-all (λ n. clk ≢ n) rst (map written all) clk-rst (own-apart (codes "clk") clk-word clk-free))
      (AllPairs-cons (λ a b. a ≢ b) rst (map written all) (own-apart (codes "rst") rst-word rst-free) written-apart))
  own-distinct false =
      let koika : List ℕ = own_name (names_of c) (codes "koika") in
      let clk : List ℕ = own_name (names_of c) (codes "clk") in
      AllPairs-cons (λ a b. a ≢ b) koika (clk ∷ map written all)
      (cons-all (λ n. koika ≢ n) clk (map written all) koika-clk (own-apart (codes "koika") koika-word koika-free))
      (AllPairs-cons (λ a b. a ≢ b) clk (map written all) (own-apart (codes "clk") clk-word clk-free) written-apart)

  pub are-named : (draft : Draft) (options : Options) → AreNamed (module_with c draft options)
  unfolding module_with
  are-named draft options =
      let reset : Bool = options.reset in
      let own-ones : List (List ℕ) = own reset in
      let inputs : List (List ℕ) = map (λ (wire : InputWire). wire.name) c.inputs in
      let outputs : List (List ℕ) = map (λ (wire : OutputWire). wire.name) c.outputs in
      let states : List (List ℕ) = map (λ (wire : StateWire). wire.name) c.states in
      let front : map (λ (port : Port). port.name) (map input_of c.inputs) ≡ map written inputs =
      map-map (λ (port : Port). port.name) input_of c.inputs
      ∙ sym (map-map written (λ (wire : InputWire). wire.name) c.inputs) in
      let middle : map (λ (output : Output). output.name)
      (map (output_of draft.operands) c.outputs) ≡ map written outputs =
      map-map (λ (output : Output). output.name) (output_of draft.operands) c.outputs
      ∙ sym (map-map written (λ (wire : OutputWire). wire.name) c.outputs) in
      let last : map (λ (register : Register). register.name)
      (map (register_of options.registers draft.operands) c.states) ≡ map written states =
      map-map (λ (register : Register). register.name) (register_of options.registers draft.operands) c.states
      ∙ sym (map-map written (λ (wire : StateWire). wire.name) c.states) in
      let parts : own-ones ++ map written inputs ++ map written outputs ++ map written states ≡ own-ones
      ++ map written all =
      joined own-ones inputs outputs states in
      let whole : modules.names_of (module_with c draft options) ≡ own-ones ++ map written all =
      ap₂ (λ (xs : List (List ℕ)) (ys : List (List ℕ)). own-ones ++ xs ++ ys
      ++ map (λ (register : Register). register.name)
      (map (register_of options.registers draft.operands) c.states)) front middle
      ∙ ap (λ (zs : List (List ℕ)). own-ones ++ map written inputs ++ map written outputs ++ zs) last ∙ parts in
      record {
        names = subst (λ (ns : List (List ℕ)). All IsName ns) (sym whole) (own-names reset);
        distinct = subst (λ (ns : List (List ℕ)). AllPairs (λ a b. a ≢ b) ns) (sym whole) (own-distinct reset);
      }
    where
      joined : (ns xs ys zs : List (List ℕ))
          → ns ++ map written xs ++ map written ys ++ map written zs ≡ ns ++ map written (xs ++ ys ++ zs)
      joined ns xs ys zs =
          ap (λ (more : List (List ℕ)). more ++ map written zs) (append_assoc ns (map written xs) (map written ys)
          ∙ ap (λ (both : List (List ℕ)). ns ++ both) (sym (map-append written xs ys)))
          ∙ append_assoc ns (map written (xs ++ ys)) (map written zs)
          ∙ ap (λ (both : List (List ℕ)). ns ++ both) (sym (map-append written (xs ++ ys) zs))
