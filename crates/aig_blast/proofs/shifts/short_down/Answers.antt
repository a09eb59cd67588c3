use Rattle.std.proofs.Common.{◌≡◌, Bool, false, ◌||◌, List, [], length, replicate, take, drop, sym, ap, ap₂, ◌∙◌, rules}
use Rattle.std.proofs.lemmas.List.{length-replicate, take-map}
use Rattle.aig_blast.specs.Steps as step
use Rattle.aig_blast.specs.inner.Steps as inner_step
use Rattle.aig_blast.specs.Graphs.{value}
use Rattle.aig_blast.proofs.Gates.{Makes-given}
use Rattle.aig_blast.specs.Words.{word}
use Rattle.aig_blast.specs.inner.Words.{stages}
use Rattle.aig_blast.proofs.Making.{Makes-like, MakesWord-as, MakesWord-kept, MakesWord-given, width}
use Rattle.aig_blast.proofs.PartsOfWords.{MakesWord-replicate, MakesWord-by, MakesWord-at, MakesWord-width, MakesWord-drop, Makes-by_words, Makes-false}
use Rattle.aig_blast.proofs.Shifting.{length-down_after}
use Rattle.aig_blast.proofs.shifts.short_down.Goals as goal

pub choose-requires-clause-width : goal.choose-requires-clause-width
choose-requires-clause-width c =
    let g = c.args.graph.now in
    let a = c.args.a.now in
    let front = c.split_at.result.0.now in
    let nothing : c.in_ok-nothing.nothing.items ≡ replicate (length a) c.args.fill = search rules in
    ap length (c.deref.ensures.value ∙ nothing) ∙ length-replicate (length a) c.args.fill
    ∙ sym (ap length c.deref-2.ensures.value ∙ sym (MakesWord-width [] c.in_ok-low.ensures) ∙ length-down_after (value [] g c.args.fill) (word [] g a) (word [] g front) (length front) ∙ width [] g a)

pub returns : goal.returns
returns c =
    let g = c.args.graph.now in
    let a = c.args.a.now in
    let b = c.args.b.now in
    let m = stages (length a) in
    let front = c.split_at.result.0.now in
    let nothing : c.in_ok-nothing.nothing.items ≡ replicate (length a) c.args.fill = search rules in
    let front_is : front ≡ take m b = c.split_at.ensures.front ∙ ap (λ n. take n b) c.stages.ensures.stages in
    let front_word = λ (i : List Bool). ap (word i g) front_is ∙ sym (take-map (value i g) m b) in
    let low = MakesWord-as (λ i. inner_step.down_after (value i g c.args.fill) (word i g a) (take m (word i g b)) (length (take m (word i g b)))) (λ i. ap₂ (inner_step.down_after (value i g c.args.fill) (word i g a)) (front_word i) (sym (width i g front) ∙ ap length (front_word i))) c.in_ok-low.ensures in
    let back = MakesWord-drop m (c.split_at.ensures.back ∙ ap (λ n. drop n b) c.stages.ensures.stages) (MakesWord-given b low.keeps c.requires.b) in
    let past_by = Makes-by_words (λ x p q. step.joined_after (λ u v. u || v) x p (length c.split_at.result.1.now)) (Makes-false low.keeps) back back c.in_ok-past.ensures in
    let past = Makes-like (λ i. inner_step.some_one (drop m (word i g b))) (λ i. ap (step.joined_after (λ u v. u || v) false (drop m (word i g b))) (sym (MakesWord-width i back))) past_by in
    let zeros = MakesWord-at c.deref.ensures.value (MakesWord-replicate (length a) nothing (Makes-given c.args.fill past.keeps c.requires.fill)) in
    let still = MakesWord-at c.deref-2.ensures.value (MakesWord-kept low c.in_ok-past.ensures.keeps) in
    let made = MakesWord-by step.choose past zeros still c.in_ok-made.ensures in
    MakesWord-as _ (λ i. ap (λ n. step.choose (inner_step.some_one (drop m (word i g b))) (replicate n (value i g c.args.fill)) (inner_step.down_after (value i g c.args.fill) (word i g a) (take m (word i g b)) (length (take m (word i g b))))) (sym (width i g a))) made
