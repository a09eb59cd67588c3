-- The value of a state, from what is kept of it.
use Rattle.std.proofs.Common.{◌≡◌, ℕ, ◌<◌, ◌≤◌, length, sym, subst, ◌∙◌, arith}
use Rattle.std.proofs.lemmas.Bool.{false≢true}
use Rattle.std.proofs.lemmas.List.{get_or_read}
use Rattle.kw_bits.specs.BitVector.{IsBits, IsBitVector}
use Rattle.net_graph.specs.Nets.{width_at}
use Rattle.net_graph.specs.Values.{no_bits}
use Rattle.circuit_eval.specs.Programs.{word_at}
use Rattle.circuit_eval.proofs.Kept.{count_now, fit_now, has_width, narrow_now, wide_now}
use Rattle.circuit_eval.proofs.state_words.StateWords.value.Goals as goal

pub returns-then-width-gt64 : goal.returns-then-width-gt64
returns-then-width-gt64 c =
    let ws = c.self.inside.widths.items in
    let count = count_now ws c.self.inside.words.items c.self.inside.wides.items c.args.self.now c.self.view_is c.self.invariant in
    let within : c.args.number < length ws = omega (arith, c.requires, count) in
    let width : c.index-width.result.now ≡ width_at ws c.args.number = get_or_read ws c.args.number c.index-width.result.now within c.index-width.ensures 0 in
    let wide : 64 < width_at ws c.args.number = omega (arith, width, c.if-width-gt64.true) in
    get_or_read c.self.inside.wides.items c.args.number c.index.result.now (c.self.invariant.wide c.args.number within wide) c.index.ensures no_bits
    ∙ sym (wide_now ws c.self.inside.words.items c.self.inside.wides.items c.args.self.now c.self.view_is c.self.invariant c.args.number c.requires wide)

pub unreachable-requires : goal.unreachable-requires
unreachable-requires c =
    let ws = c.self.inside.widths.items in
    let words = c.self.inside.words.items in
    let count = count_now ws words c.self.inside.wides.items c.args.self.now c.self.view_is c.self.invariant in
    let within : c.args.number < length ws = omega (arith, c.requires, count) in
    let inside : c.args.number < length words = omega (arith, within, c.self.invariant.each) in
    let width : c.index-width.result.now ≡ width_at ws c.args.number = get_or_read ws c.args.number c.index-width.result.now within c.index-width.ensures 0 in
    let word : c.index-2.result.now ≡ word_at words c.args.number = get_or_read words c.args.number c.index-2.result.now inside c.index-2.ensures 0 in
    let narrow : width_at ws c.args.number ≤ 64 = omega (arith, width, c.if-width-gt64.false) in
    let own = has_width c.args.self.now ws (fit_now ws words c.self.inside.wides.items c.args.self.now c.self.view_is c.self.invariant) c.args.number within in
    let bits : IsBitVector (width_at ws c.args.number) (word_at words c.args.number) =
    subst IsBits (narrow_now ws words c.self.inside.wides.items c.args.self.now c.self.view_is c.self.invariant c.args.number c.requires narrow) own.0 in
    false≢true (c.in-None.ensures.some.1 (subst (λ (w : ℕ). IsBitVector w c.index-2.result.now) (sym width) (subst (λ (n : ℕ). IsBitVector (width_at ws c.args.number) n) (sym word) bits)))

pub returns : goal.returns
returns c =
    let ws = c.self.inside.widths.items in
    let words = c.self.inside.words.items in
    let count = count_now ws words c.self.inside.wides.items c.args.self.now c.self.view_is c.self.invariant in
    let within : c.args.number < length ws = omega (arith, c.requires, count) in
    let inside : c.args.number < length words = omega (arith, within, c.self.invariant.each) in
    let width : c.index-width.result.now ≡ width_at ws c.args.number = get_or_read ws c.args.number c.index-width.result.now within c.index-width.ensures 0 in
    let word : c.index-2.result.now ≡ word_at words c.args.number = get_or_read words c.args.number c.index-2.result.now inside c.index-2.ensures 0 in
    let narrow : width_at ws c.args.number ≤ 64 = omega (arith, width, c.if-width-gt64.false) in
    let value_width : c.in-Some.value.width ≡ width_at ws c.args.number = c.in-Some.ensures.width ∙ width in
    let number : c.in-Some.value.number ≡ word_at words c.args.number = c.in-Some.ensures.number ∙ word in
    let same : c.in-Some.value ≡ record { width = width_at ws c.args.number; number = word_at words c.args.number } = (λ i. record { width = value_width i; number = number i }) in
    same ∙ sym (narrow_now ws words c.self.inside.wides.items c.args.self.now c.self.view_is c.self.invariant c.args.number c.requires narrow)
