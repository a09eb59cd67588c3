use Rattle.std.proofs.Common.{◌≡◌, ℕ, ◌<◌, List, [], length, sym, subst, ap, ◌∙◌, arith}
use Rattle.std.proofs.lemmas.List.{length-map}
use Rattle.net_graph.specs.Nets.{Stands}
use Rattle.net_graph.specs.Values.{op_value}
use Rattle.net_graph.specs.declared.node.NetOp.TheVariants.{Ite, Sext, Uext}
use Rattle.aig_blast.specs.inner.Nodes.{lengths, sources_of, words_bits}
use Rattle.aig_blast.specs.Words.{AreLits}
use Rattle.aig_blast.proofs.NodeWords.{ite-at, length-word_at, MakesBits-as, sext-at, uext-at, word-item}
use Rattle.aig_blast.proofs.nodes.node_word.Goals as goal

pub returns-in_ok-word-in-Uext : goal.returns-in_ok-word-in-Uext
returns-in_ok-word-in-Uext c =
    let g = c.args.graph.now in
    let words : List (List ℕ) = c.args.before.now in
    let a = c.in-Uext.a in
    let lits : List ℕ = c.as_slice-in-Uext.result.now in
    let stands : Stands (lengths words) (Uext a c.in-Uext.added) = subst (Stands (lengths words)) c.in-Uext.is c.requires.stands in
    let within : a < length words = omega (arith, stands.0, length-map words (λ (word : List ℕ). length word)) in
    let is = word-item words a lits c.index-before-a-in-Uext.result within c.as_slice-in-Uext.ensures c.index-before-a-in-Uext.is in
    let are : AreLits g lits = subst (AreLits g) (sym is) (c.requires.before a [] within).are_lits in
    MakesBits-as _ (λ i. uext-at i g words a c.in-Uext.added lits within is ∙ ap (op_value (sources_of i g c.args.inputs.now c.args.states.now) (words_bits i g words)) (sym c.in-Uext.is)) (c.in_ok-word-in-Uext.ensures g are)

pub returns-in_ok-word-in-Sext : goal.returns-in_ok-word-in-Sext
returns-in_ok-word-in-Sext c =
    let g = c.args.graph.now in
    let words : List (List ℕ) = c.args.before.now in
    let a = c.in-Sext.a in
    let lits : List ℕ = c.as_slice-in-Sext.result.now in
    let stands : Stands (lengths words) (Sext a c.in-Sext.added) = subst (Stands (lengths words)) c.in-Sext.is c.requires.stands in
    let within : a < length words = omega (arith, stands.0, length-map words (λ (word : List ℕ). length word)) in
    let is = word-item words a lits c.index-before-a-in-Sext.result within c.as_slice-in-Sext.ensures c.index-before-a-in-Sext.is in
    let are : AreLits g lits = subst (AreLits g) (sym is) (c.requires.before a [] within).are_lits in
    MakesBits-as _ (λ i. sext-at i g words a c.in-Sext.added lits within is ∙ ap (op_value (sources_of i g c.args.inputs.now c.args.states.now) (words_bits i g words)) (sym c.in-Sext.is)) (c.in_ok-word-in-Sext.ensures g are)

pub returns-in_ok-word-in-Ite : goal.returns-in_ok-word-in-Ite
returns-in_ok-word-in-Ite c =
    let g = c.args.graph.now in
    let words : List (List ℕ) = c.args.before.now in
    let n = c.in-Ite.condition in
    let a = c.in-Ite.a in
    let b = c.in-Ite.b in
    let all = length-map words (λ (word : List ℕ). length word) in
    let stands : Stands (lengths words) (Ite n a b) = subst (Stands (lengths words)) c.in-Ite.is c.requires.stands in
    let wn : n < length words = omega (arith, stands.0, all) in
    let wa : a < length words = omega (arith, stands.1, all) in
    let wb : b < length words = omega (arith, stands.2, all) in
    let is_n = word-item words n c.as_slice-in-Ite.result.now c.index-before-condition.result wn c.as_slice-in-Ite.ensures c.index-before-condition.is in
    let is_a = word-item words a c.as_slice-a-in-Ite.result.now c.index-before-a-in-Ite.result wa c.as_slice-a-in-Ite.ensures c.index-before-a-in-Ite.is in
    let is_b = word-item words b c.as_slice-b-in-Ite.result.now c.index-before-b-in-Ite.result wb c.as_slice-b-in-Ite.ensures c.index-before-b-in-Ite.is in
    let one : length c.as_slice-in-Ite.result.now ≡ 1 = ap length is_n ∙ sym (length-word_at words n) ∙ stands.3 in
    MakesBits-as _ (λ i. ite-at i g words n a b c.as_slice-in-Ite.result.now c.as_slice-a-in-Ite.result.now c.as_slice-b-in-Ite.result.now wn wa wb one is_n is_a is_b ∙ ap (op_value (sources_of i g c.args.inputs.now c.args.states.now) (words_bits i g words)) (sym c.in-Ite.is)) c.in_ok-word-in-Ite.ensures
