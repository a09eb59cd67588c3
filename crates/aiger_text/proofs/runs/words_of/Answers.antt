use Rattle.std.proofs.Common.{◌+◌, ◌++◌, List, ℕ, Option, ap, ◌∷◌, ◌∙◌}
use Rattle.std.proofs.lemmas.List.{nil_from_length}
use Rattle.aiger_text.specs.Runs.{words_from}
use Rattle.aiger_text.specs.inner.RunsSoFar.{run_of}
use Rattle.aiger_text.proofs.Running.{words_from-end, words_from-step, words_of_bits-first, words_of_bits-none}
use Rattle.aiger_text.proofs.runs.words_of.Goals as goal

pub returns-in_default : goal.returns-in_default
returns-in_default c = words_of_bits-none c.args.kind c.args.symbols.now c.new-words.result.items (nil_from_length c.args.symbols.now c.in_default.ensures.cases) c.new-words.ensures.items

pub loop-k-init : goal.loop-k-init
loop-k-init c = words_of_bits-first c.args.kind c.args.symbols.now c.in-Some.others.now c.in-Some.first.now (run_of c.in_ok-run.run') c.new-words.result.items c.in-Some.ensures.cases.0 c.in_ok-run.ensures c.new-words.ensures.items

pub loop-k-preserved : goal.loop-k-preserved
loop-k-preserved c =
    words_from-step c.args.kind (c.loop-k.k + 1) (c.loop-k.k + 1 + 1) (run_of c.loop-k.run) (run_of c.in_ok-run-2.run') c.in-Some.others.now c.loop-k.k c.index-others-k.result c.loop-k.words.items c.go_on.new.words.items _
    c.loop-k-test.true
    (λ (rest : List (Option (List ℕ))). c.in_ok-run-2.ensures rest ∙ ap (λ (s : Option (List ℕ)). c.loop-k.words.items ++ words_from c.args.kind (c.loop-k.k + 1) (run_of c.loop-k.run) (s ∷ rest)) c.index-others-k.is)
    c.loop-k.invariant

pub returns : goal.returns
returns c =
    words_from-end c.args.kind (c.loop-k.k + 1) (run_of c.loop-k.run) c.in-Some.others.now c.loop-k.k c.loop-k.words.items c.push.new.self.items _ c.loop-k-test.false c.in_ok-push.ensures.items c.loop-k.invariant
