use Rattle.std.proofs.Common.{◌≢◌, ◌<◌, [], ◌∷◌, length, drop, refl, sym, ap, ◌∙◌, arith}
use Rattle.std.specs.Prelude.{slice_index}
use Rattle.std.proofs.lemmas.Bool.{false≢true}
use Rattle.std.proofs.lemmas.Bool.Decides.{Decides-eqb}
use Rattle.std.proofs.lemmas.Slice.Eq.{starts_is}
use Rattle.koika_syntax.specs.Symbols.{symbol_text}
use Rattle.koika_syntax.specs.inner.Symbols.{BeginsWith}
use Rattle.koika_syntax.specs.declared.symbol.Symbol.{Symbol}
use Rattle.koika_syntax.specs.declared.symbol.Symbol.TheVariants as symbols
use Rattle.koika_syntax.proofs.Fronts.{text_begins_symbol, text_faulty_byte}
use Rattle.koika_syntax.proofs.SymbolTable.{length-symbol_text-le3, length-le2, two_of_three, only_first, begins-first, begins-two, same_symbol}
use Rattle.koika_syntax.proofs.front.symbol.Goals as goal
use Rattle.koika_syntax.proofs.front.symbol.Goals.{else-eq-via-then-eq+else-starts_with, else-eq-via-else-eq, then-text-gt1+in_default, else-text-gt1}

pub returns-then-starts_with : goal.returns-then-starts_with
returns-then-starts_with c =
    let three = starts_is Decides-eqb c.args.text.now (62 ∷ 62 ∷ 62 ∷ []) c.starts_with.result c.starts_with.ensures.value in
    text_begins_symbol c.args.text.now c.requires.some_byte c.requires.no_blank c.requires.no_word c.requires.no_digit c.requires.no_comment symbols.GreaterGreaterGreater 3 refl (drop 3 c.args.text.now, three.0 c.if-starts_with.true) (λ other at. length-symbol_text-le3 other)

pub returns-in-Some : goal.returns-in-Some
returns-in-Some c =
    let found = c.in-Some.ensures.found in
    let no_three : ¬ BeginsWith c.args.text.now (62 ∷ 62 ∷ 62 ∷ []) =
    λ begins. elim c.else-eq.branch [
      | else-eq-via-then-eq+else-starts_with w ↦
          let three = starts_is Decides-eqb c.args.text.now (62 ∷ 62 ∷ 62 ∷ []) w.starts_with.result w.starts_with.ensures.value in
          false≢true (sym w.if-starts_with.false ∙ three.1 begins.0 begins.1)
      | else-eq-via-else-eq w ↦
          let same = same_symbol c.in-Some.symbol symbols.GreaterGreater (found ∙ sym (two_of_three c.args.text.now begins).1) in
          false≢true (rw same at (sym w.if-eq.false ∙ c.eq.ensures))
    ] in
    text_begins_symbol c.args.text.now c.requires.some_byte c.requires.no_blank c.requires.no_word c.requires.no_digit c.requires.no_comment c.in-Some.symbol 2 (ap length found) (begins-two c.args.text.now (symbol_text c.in-Some.symbol) c.if-text-gt1.true found) (length-le2 c.args.text.now no_three)

pub returns-in-Some-of_byte : goal.returns-in-Some-of_byte
returns-in-Some-of_byte c =
    let no_two : 1 < length c.args.text.now → (symbol : Symbol) → symbol_text symbol ≢ slice_index c.args.text.now 0 ∷ slice_index c.args.text.now 1 ∷ [] =
    λ more. elim c.if-text-gt1.branch [
      | then-text-gt1+in_default w ↦ w.in_default.ensures.absent
      | else-text-gt1 w ↦ absurd (omega (arith, more, w.if-text-gt1.false))
    ] in
    let only = only_first c.args.text.now no_two in
    let found = c.in-Some-of_byte.ensures.found in
    text_begins_symbol c.args.text.now c.requires.some_byte c.requires.no_blank c.requires.no_word c.requires.no_digit c.requires.no_comment c.in-Some-of_byte.symbol 1 (ap length found) (begins-first c.args.text.now (symbol_text c.in-Some-of_byte.symbol) c.requires.some_byte found) (λ other at. omega (arith, ap length (only other at)))

pub returns-in-None : goal.returns-in-None
returns-in-None c =
    let no_two : 1 < length c.args.text.now → (symbol : Symbol) → symbol_text symbol ≢ slice_index c.args.text.now 0 ∷ slice_index c.args.text.now 1 ∷ [] =
    λ more. elim c.if-text-gt1.branch [
      | then-text-gt1+in_default w ↦ w.in_default.ensures.absent
      | else-text-gt1 w ↦ absurd (omega (arith, more, w.if-text-gt1.false))
    ] in
    text_faulty_byte c.args.text.now c.requires.some_byte c.requires.no_blank c.requires.no_word c.requires.no_digit c.requires.no_comment
    (λ symbol begins. c.in-None.ensures.absent symbol (only_first c.args.text.now no_two symbol begins))
