-- Options are few words: each stands at most once. Words that ask for no workers make a command without any.
use Rattle.std.proofs.Common.{◌≡◌, ℕ, ◌+◌, ◌<◌, ◌≤◌, Bool, true, false, List, [], ◌∷◌, length, Option, Some, None, refl, sym, subst, arith, take, drop, ◌||◌, ◌&&◌, nat_le, true≢false}
use Rattle.std.specs.Prelude.{codes, IfSome, if◌then◌else◌}
use Rattle.std.specs.Str.{bytes_eq}
use Rattle.koika_top.specs.inner.Steps.{IsAlone, RunsBy}
use Rattle.koika_top.specs.Words.{aigsim_by, aigsim_of, alone_of, asked_for, asks_workers, btorsim_by, btorsim_of, command_of, engine_by, engine_of, gen_by, gen_of, is_of_workers, journal_by, no_options, options_of, recheck_by, recheck_of, sim_by, sim_of, with_cycles, with_engine, with_journal, with_summary, with_word, with_workers}
use Rattle.front_end.specs.GivenOnce.{asked_flag, given_once}
use Rattle.front_end.proofs.GivenFew.{Takes, either-takes, fewer, flag_few, flag_words, once-takes, value_few, value_words}
use Rattle.front_end.specs.NumberWords.{number_of_word}
use Rattle.koika_top.specs.declared.shown.Shown.{Shown}
use Rattle.koika_top.specs.declared.shown.Shown.TheVariants.{Report, Summary}
use Rattle.koika_top.specs.declared.engine_kind.EngineKind.{EngineKind}
use Rattle.koika_top.specs.declared.engine_kind.EngineKind.TheVariants.{Plain, Circuit, Workers}
use Rattle.koika_top.specs.declared.words.Command.{Command}
use Rattle.koika_top.specs.declared.words.Command.TheVariants.{Aiger, Check, Print, Compile, Gen}
use Rattle.koika_top.specs.declared.words.Options.{Options}

abbrev shown_words : Shown → ℕ
shown_words Report = 0
shown_words Summary = 1

abbrev pub words_of : Options → ℕ
words_of o = value_words o.cycles + value_words o.engine + value_words o.workers + shown_words o.shown + flag_words o.journal

shown_few : (s : Shown) → shown_words s ≤ 1
shown_few Report = omega arith
shown_few Summary = omega arith

with_cycles-takes : (word : List ℕ) (others : Option Options) (m : ℕ) → Takes words_of m others → Takes words_of (m + 2) (with_cycles word others)
with_cycles-takes word None m h = tt
with_cycles-takes word (Some o) m h =
    once-takes words_of o.cycles _ (number_of_word word) (m + 2) (λ n none. let few : m ≤ 0 + value_words o.engine + value_words o.workers + shown_words o.shown + flag_words o.journal = rw none at h in omega (arith, few))

with_engine-takes : (word : List ℕ) (others : Option Options) (m : ℕ) → Takes words_of m others → Takes words_of (m + 2) (with_engine word others)
with_engine-takes word None m h = tt
with_engine-takes word (Some o) m h =
    once-takes words_of o.engine _ (engine_of word) (m + 2) (λ kind none. let few : m ≤ value_words o.cycles + 0 + value_words o.workers + shown_words o.shown + flag_words o.journal = rw none at h in omega (arith, few))

with_workers-takes : (word : List ℕ) (others : Option Options) (m : ℕ) → Takes words_of m others → Takes words_of (m + 2) (with_workers word others)
with_workers-takes word None m h = tt
with_workers-takes word (Some o) m h =
    once-takes words_of o.workers _ (number_of_word word) (m + 2) (λ n none. let few : m ≤ value_words o.cycles + value_words o.engine + 0 + shown_words o.shown + flag_words o.journal = rw none at h in omega (arith, few))

with_summary-takes : (others : Option Options) (m : ℕ) → Takes words_of m others → Takes words_of (m + 1) (with_summary others)
with_summary-takes None m h = tt
with_summary-takes (Some o) m h = of o.shown refl
  where
    of : (s : Shown) → o.shown ≡ s → Takes words_of (m + 1) (given_once (asked_for s) (λ shown. record o { shown = shown }) (Some Summary))
    of Report is = let few : m ≤ value_words o.cycles + value_words o.engine + value_words o.workers + 0 + flag_words o.journal = rw is at h in omega (arith, few)
    of Summary is = tt

with_journal-takes : (others : Option Options) (m : ℕ) → Takes words_of m others → Takes words_of (m + 1) (with_journal others)
with_journal-takes None m h = tt
with_journal-takes (Some o) m h = of o.journal refl
  where
    of : (b : Bool) → o.journal ≡ b → Takes words_of (m + 1) (given_once (asked_flag b) (λ journal. record o { journal = journal }) (Some true))
    of false is = let few : m ≤ value_words o.cycles + value_words o.engine + value_words o.workers + shown_words o.shown + 0 = rw is at h in omega (arith, few)
    of true is = tt

with_word-takes : (word : List ℕ) (others : Option Options) (m : ℕ) → Takes words_of m others → Takes words_of (m + 1) (with_word word others)
with_word-takes word others m h =
    let one : m + 1 ≤ m + 2 = omega arith in
    either-takes words_of (bytes_eq word (codes "--summary")) _ _ (m + 1)
    (with_summary-takes others m h)
    (either-takes words_of (bytes_eq word (codes "--journal")) _ _ (m + 1)
    (with_journal-takes others m h)
    (either-takes words_of (bytes_eq (take 9 word) (codes "--cycles=")) _ _ (m + 1)
    (fewer words_of (with_cycles (drop 9 word) others) (m + 2) (m + 1) one (with_cycles-takes (drop 9 word) others m h))
    (either-takes words_of (bytes_eq (take 9 word) (codes "--engine=")) _ _ (m + 1)
    (fewer words_of (with_engine (drop 9 word) others) (m + 2) (m + 1) one (with_engine-takes (drop 9 word) others m h))
    (either-takes words_of (bytes_eq (take 10 word) (codes "--workers=")) _ None (m + 1)
    (fewer words_of (with_workers (drop 10 word) others) (m + 2) (m + 1) one (with_workers-takes (drop 10 word) others m h))
    tt))))

-- options take as many words as they are given by
pub options-take : (words : List (List ℕ)) → Takes words_of (length words) (options_of words)
options-take [] = omega arith
options-take (word ∷ []) = with_word-takes word (Some no_options) 0 (omega arith)
options-take (word ∷ value ∷ rest) =
    fewer words_of (options_of (word ∷ value ∷ rest)) (length rest + 2) (length (word ∷ value ∷ rest)) (omega arith)
    (either-takes words_of (bytes_eq word (codes "--cycles")) (with_cycles value (options_of rest)) _ (length rest + 2)
    (with_cycles-takes value (options_of rest) (length rest) (options-take rest))
    (either-takes words_of (bytes_eq word (codes "--engine")) (with_engine value (options_of rest)) _ (length rest + 2)
    (with_engine-takes value (options_of rest) (length rest) (options-take rest))
    (either-takes words_of (bytes_eq word (codes "--workers")) (with_workers value (options_of rest)) _ (length rest + 2)
    (with_workers-takes value (options_of rest) (length rest) (options-take rest))
    (fewer words_of (with_word word (options_of (value ∷ rest))) (length (value ∷ rest) + 1) (length rest + 2) (omega arith)
    (with_word-takes word (options_of (value ∷ rest)) (length (value ∷ rest)) (options-take (value ∷ rest)))))))

too_many : (options : Option Options) (n : ℕ) → 8 < n → Takes words_of n options → options ≡ None
too_many None n h t = refl
too_many (Some o) n h t = absurd (omega (arith, h, t, value_few o.cycles, value_few o.engine, value_few o.workers, shown_few o.shown, flag_few o.journal))

-- more than eight words are no options
pub options-few : (words : List (List ℕ)) → 8 < length words → options_of words ≡ None
options-few words h = too_many (options_of words) (length words) h (options-take words)

-- ---- words that ask for no workers

-- options that may be there have no workers
abbrev Without : Option Options → Type 0
Without None = Unit {0}
Without (Some o) = o.workers ≡ None

once-without : {X : Type 0} (earlier : Option X) (put : X → Options) (value : Option X) → ((v : X) → (put v).workers ≡ None) → Without (given_once earlier put value)
once-without None put None f = tt
once-without None put (Some v) f = f v
once-without (Some x) put value f = tt

with_cycles-without : (word : List ℕ) (others : Option Options) → Without others → Without (with_cycles word others)
with_cycles-without word None h = tt
with_cycles-without word (Some o) h = once-without o.cycles _ (number_of_word word) (λ n. h)

with_engine-without : (word : List ℕ) (others : Option Options) → Without others → Without (with_engine word others)
with_engine-without word None h = tt
with_engine-without word (Some o) h = once-without o.engine _ (engine_of word) (λ kind. h)

with_summary-without : (others : Option Options) → Without others → Without (with_summary others)
with_summary-without None h = tt
with_summary-without (Some o) h = once-without (asked_for o.shown) _ (Some Summary) (λ shown. h)

with_journal-without : (others : Option Options) → Without others → Without (with_journal others)
with_journal-without None h = tt
with_journal-without (Some o) h = once-without (asked_flag o.journal) _ (Some true) (λ journal. h)

either-without : (b : Bool) (x y : Option Options) → Without x → Without y → Without (if b then x else y)
either-without true x y h k = h
either-without false x y h k = k

other-without : (b : Bool) (x y : Option Options) → b ≡ false → Without y → Without (if b then x else y)
other-without true x y e k = absurd (true≢false e)
other-without false x y e k = k

neither : (a b : Bool) → (a || b) ≡ false → (a ≡ false) × (b ≡ false)
neither true b e = absurd (true≢false e)
neither false b e = (refl, e)

with_word-without : (word : List ℕ) (others : Option Options) → is_of_workers word ≡ false → Without others → Without (with_word word others)
with_word-without word others e h =
    either-without (bytes_eq word (codes "--summary")) _ _ (with_summary-without others h)
    (either-without (bytes_eq word (codes "--journal")) _ _ (with_journal-without others h)
    (either-without (bytes_eq (take 9 word) (codes "--cycles=")) _ _ (with_cycles-without (drop 9 word) others h)
    (either-without (bytes_eq (take 9 word) (codes "--engine=")) _ _ (with_engine-without (drop 9 word) others h)
    (other-without (bytes_eq (take 10 word) (codes "--workers=")) _ None (neither (bytes_eq word (codes "--workers")) (bytes_eq (take 10 word) (codes "--workers=")) e).1 tt))))

options-without : (words : List (List ℕ)) → asks_workers words ≡ false → Without (options_of words)
options-without [] e = refl
options-without (word ∷ []) e = with_word-without word (Some no_options) (neither (is_of_workers word) (asks_workers []) e).0 refl
options-without (word ∷ value ∷ rest) e =
    let first = neither (is_of_workers word) (asks_workers (value ∷ rest)) e in
    let later = neither (is_of_workers value) (asks_workers rest) first.1 in
    let own = neither (bytes_eq word (codes "--workers")) (bytes_eq (take 10 word) (codes "--workers=")) first.0 in
    either-without (bytes_eq word (codes "--cycles")) (with_cycles value (options_of rest)) _ (with_cycles-without value (options_of rest) (options-without rest later.1))
    (either-without (bytes_eq word (codes "--engine")) (with_engine value (options_of rest)) _ (with_engine-without value (options_of rest) (options-without rest later.1))
    (other-without (bytes_eq word (codes "--workers")) (with_workers value (options_of rest)) _ own.0
    (with_word-without word (options_of (value ∷ rest)) first.0 (options-without (value ∷ rest) first.1))))

abbrev Alone : Option Command → Type 0
Alone found = IfSome found (RunsBy IsAlone)

sim_by-alone : (cycles : Option ℕ) (shown : Shown) (engine : Option EngineKind) → Alone (sim_by cycles shown (engine_by engine None))
sim_by-alone None shown engine = tt
sim_by-alone (Some n) shown None = tt
sim_by-alone (Some n) shown (Some Plain) = tt
sim_by-alone (Some n) shown (Some Circuit) = tt
sim_by-alone (Some n) shown (Some (Workers count)) = tt

-- without workers there is no journal
journal_by-alone : (cycles : Option ℕ) (shown : Shown) (engine : Option EngineKind) → Alone (journal_by cycles shown engine None)
journal_by-alone None shown engine = tt
journal_by-alone (Some n) Report None = tt
journal_by-alone (Some n) Report (Some kind) = tt
journal_by-alone (Some n) Summary engine = tt

either-alone : (b : Bool) (x y : Option Command) → Alone x → Alone y → Alone (if b then x else y)
either-alone true x y h k = h
either-alone false x y h k = k

sim-alone : (options : Option Options) → Without options → Alone (sim_of options)
sim-alone None h = tt
sim-alone (Some o) h =
    subst (λ (workers : Option ℕ). Alone (if o.journal then journal_by o.cycles o.shown o.engine workers else sim_by o.cycles o.shown (engine_by o.engine workers))) (sym h)
    (either-alone o.journal _ _ (journal_by-alone o.cycles o.shown o.engine) (sim_by-alone o.cycles o.shown o.engine))

btorsim_by-alone : (cycles : Option ℕ) (shown : Shown) (engine : Option EngineKind) (workers : Option ℕ) → Alone (btorsim_by cycles shown engine workers)
btorsim_by-alone None shown engine workers = tt
btorsim_by-alone (Some n) shown None None = tt
btorsim_by-alone (Some n) shown None (Some count) = tt
btorsim_by-alone (Some n) shown (Some kind) workers = tt

btorsim-alone : (options : Option Options) → Alone (btorsim_of options)
btorsim-alone None = tt
btorsim-alone (Some o) = either-alone o.journal None _ tt (btorsim_by-alone o.cycles o.shown o.engine o.workers)

aigsim_by-alone : (cycles : Option ℕ) (shown : Shown) (engine : Option EngineKind) (workers : Option ℕ) → Alone (aigsim_by cycles shown engine workers)
aigsim_by-alone None shown engine workers = tt
aigsim_by-alone (Some n) shown None None = tt
aigsim_by-alone (Some n) shown None (Some count) = tt
aigsim_by-alone (Some n) shown (Some kind) workers = tt

aigsim-alone : (options : Option Options) → Alone (aigsim_of options)
aigsim-alone None = tt
aigsim-alone (Some o) = either-alone o.journal None _ tt (aigsim_by-alone o.cycles o.shown o.engine o.workers)

recheck_by-alone : (cycles : Option ℕ) (shown : Shown) (engine : Option EngineKind) (workers : Option ℕ) → Alone (recheck_by cycles shown engine workers)
recheck_by-alone None shown engine workers = tt
recheck_by-alone (Some n) Report None None = tt
recheck_by-alone (Some n) Report None (Some count) = tt
recheck_by-alone (Some n) Report (Some kind) workers = tt
recheck_by-alone (Some n) Summary engine workers = tt

recheck-alone : (options : Option Options) → Alone (recheck_of options)
recheck-alone None = tt
recheck-alone (Some o) = either-alone o.journal None _ tt (recheck_by-alone o.cycles o.shown o.engine o.workers)

gen_by-alone : (stages : Option ℕ) → Alone (gen_by stages)
gen_by-alone None = tt
gen_by-alone (Some n) = either-alone (nat_le 1 n && nat_le n 100) (Some (Gen n)) None tt tt

gen-alone : (words : List (List ℕ)) → Alone (gen_of words)
gen-alone [] = tt
gen-alone (word ∷ []) = gen_by-alone (number_of_word word)
gen-alone (word ∷ more ∷ words) = tt

word-alone : (command : Command) (words : List (List ℕ)) → RunsBy IsAlone command → Alone (alone_of command words)
word-alone command [] h = h
word-alone command (word ∷ words) h = tt

-- a command whose words ask for no workers is made without any
pub runs-alone : (words : List (List ℕ)) → asks_workers words ≡ false → Alone (command_of words)
runs-alone [] e = tt
runs-alone (word ∷ rest) e =
    let later = neither (is_of_workers word) (asks_workers rest) e in
    either-alone (bytes_eq word (codes "check")) _ _ (word-alone Check rest tt)
    (either-alone (bytes_eq word (codes "print")) _ _ (word-alone Print rest tt)
    (either-alone (bytes_eq word (codes "sim")) _ _ (sim-alone (options_of rest) (options-without rest later.1))
    (either-alone (bytes_eq word (codes "btorsim")) _ _ (btorsim-alone (options_of rest))
    (either-alone (bytes_eq word (codes "compile")) _ _ (word-alone Compile rest tt)
    (either-alone (bytes_eq word (codes "gen")) _ _ (gen-alone rest)
    (either-alone (bytes_eq word (codes "aiger")) _ _ (word-alone Aiger rest tt)
    (either-alone (bytes_eq word (codes "aigsim")) _ _ (aigsim-alone (options_of rest))
    (either-alone (bytes_eq word (codes "recheck")) _ None (recheck-alone (options_of rest)) tt))))))))
