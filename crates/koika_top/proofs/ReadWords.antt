-- What is found in valid words is what they give, in whatever order their options stand: the reader goes from one option to the
-- next, and behind each it has found what was given so far.
use Rattle.std.proofs.Common.{◌≡◌, ◌∙◌, ◌⊎◌, ℕ, ◌==◌, ◌&&◌, Bool, true, false, cond, List, [], ◌∷◌, ◌++◌, take, drop, length, Option, Some, None, is_some, refl, sym, ap, ap₂, subst, inl, inr, codes, nat_le, true≢false, append-nil}
use Rattle.std.specs.Prelude.{if◌then◌else◌, find, fold, option_and_then, option_map, slice_get, unwrap_or}
use Rattle.std.specs.Option.{option_or}
use Rattle.std.specs.Str.{bytes_eq}
use Rattle.std.proofs.lemmas.Bool.{eqb-true}
use Rattle.std.proofs.lemmas.List.{take-append-drop}
use Rattle.std.proofs.lemmas.List.Folds.{find-append}
use Rattle.std.proofs.lemmas.Option.{none-some}
use Rattle.std.proofs.lemmas.Slice.Eq.{bytes_eq-Decides}
use Rattle.clap.specs.Walk.{Held, Row, Rule, Text, Walk, at_row, finished, first_of, has_row, idle, more_values, nothing_held, one_of, reading_by, rule_of, row_text, settled_rows, walk, walk_from, walked, with_default, with_values, without}
use Rattle.clap.specs.Simple.{Shape, app_of, built, filled, is_simple, matches_of, with_rule}
use Rattle.clap.specs.Built.{AddsArg}
use Rattle.clap.specs.declared.builder.arg.Arg.{Arg}
use Rattle.clap.specs.declared.builder.command.Command.{Command}
use Rattle.clap.specs.declared.parser.matches.ValueSource.{ValueSource}
use Rattle.clap.specs.declared.parser.matches.ValueSource.TheVariants.{CommandLine, DefaultValue}
use Rattle.clap.specs.declared.builder.value_parser.Reading.{Reading}
use Rattle.clap.specs.Takes.{is_given, settle_passes, takes, turn_passes, walk_passes}
use Rattle.clap.proofs.OnLiterals.{clap_on_literals}
use Rattle.koika_top.specs.inner.Given.{Give, cycles_rule, engine_rule, flag_of, gen_app, journal_rule, run_app, stages_rule, summary_rule, workers_rule}
use Rattle.koika_top.specs.Words.{asked_for, engine_by, engine_of, gen_by, gen_of, journal_by, no_options, options_of, sim_by, sim_of, with_cycles, with_engine, with_journal, with_summary, with_word, with_workers}
use Rattle.front_end.specs.Given.{bare, flag_text, number_in}
use Rattle.front_end.specs.GivenOnce.{asked_flag, given_once}
use Rattle.front_end.proofs.GivenValues.{IsPlain, both-true, dash-first, first_as, flag-none, no_number, none-there, number-plain, once-is, some_is}
use Rattle.front_end.proofs.FoundRows.{Known, found-other, found-own, has-found, none-used, or-none, row_for, row_of_id, used_by, with_given, with_row-is}
use Rattle.front_end.specs.NumberWords.{number_of_word, value_of}
use Rattle.koika_top.specs.declared.engine_kind.EngineKind.{EngineKind}
use Rattle.koika_top.specs.declared.engine_kind.EngineKind.TheVariants.{Plain, Circuit}
use Rattle.koika_top.specs.declared.shown.Shown.{Shown}
use Rattle.koika_top.specs.declared.shown.Shown.TheVariants.{Report, Summary}
use Rattle.koika_top.specs.declared.words.Options.{Options}

-- ---- words, as options one after another

-- the options that have a value
data Key : Type 0 where
  of_cycles : Key
  of_engine : Key
  of_workers : Key

abbrev flag_word : Key → Text
flag_word of_cycles = codes "--cycles"
flag_word of_engine = codes "--engine"
flag_word of_workers = codes "--workers"

abbrev front_word : Key → Text
front_word of_cycles = codes "--cycles="
front_word of_engine = codes "--engine="
front_word of_workers = codes "--workers="

abbrev front_length : Key → ℕ
front_length of_cycles = 9
front_length of_engine = 9
front_length of_workers = 10

-- the options without a value
data Flag : Type 0 where
  of_summary : Flag
  of_journal : Flag

abbrev own_word : Flag → Text
own_word of_summary = codes "--summary"
own_word of_journal = codes "--journal"

-- an option and its value, an option with its value behind `=`, and an option without a value
data Step : Type 0 where
  next : Key → Text → Step
  equals : Key → Text → Step
  alone : Flag → Step

abbrev words_of : List Step → List Text
words_of [] = []
words_of (next key v ∷ steps) = flag_word key ∷ v ∷ words_of steps
words_of (equals key v ∷ steps) = (front_word key ++ v) ∷ words_of steps
words_of (alone f ∷ steps) = own_word f ∷ words_of steps

record PutsCycles (v : Text) (rest o : Options) : Type 0 where
  n : ℕ
  number : number_of_word v ≡ Some n
  fresh : rest.cycles ≡ None
  cycles : o.cycles ≡ Some n
  engine : o.engine ≡ rest.engine
  workers : o.workers ≡ rest.workers
  shown : o.shown ≡ rest.shown
  journal : o.journal ≡ rest.journal

record PutsEngine (v : Text) (rest o : Options) : Type 0 where
  kind : EngineKind
  named : engine_of v ≡ Some kind
  fresh : rest.engine ≡ None
  cycles : o.cycles ≡ rest.cycles
  engine : o.engine ≡ Some kind
  workers : o.workers ≡ rest.workers
  shown : o.shown ≡ rest.shown
  journal : o.journal ≡ rest.journal

record PutsWorkers (v : Text) (rest o : Options) : Type 0 where
  n : ℕ
  number : number_of_word v ≡ Some n
  fresh : rest.workers ≡ None
  cycles : o.cycles ≡ rest.cycles
  engine : o.engine ≡ rest.engine
  workers : o.workers ≡ Some n
  shown : o.shown ≡ rest.shown
  journal : o.journal ≡ rest.journal

abbrev Puts : Key → Text → Options → Options → Type 0
Puts of_cycles v rest o = PutsCycles v rest o
Puts of_engine v rest o = PutsEngine v rest o
Puts of_workers v rest o = PutsWorkers v rest o

record IsShown (rest o : Options) : Type 0 where
  fresh : rest.shown ≡ Report
  cycles : o.cycles ≡ rest.cycles
  engine : o.engine ≡ rest.engine
  workers : o.workers ≡ rest.workers
  shown : o.shown ≡ Summary
  journal : o.journal ≡ rest.journal

record IsJournaled (rest o : Options) : Type 0 where
  fresh : rest.journal ≡ false
  cycles : o.cycles ≡ rest.cycles
  engine : o.engine ≡ rest.engine
  workers : o.workers ≡ rest.workers
  shown : o.shown ≡ rest.shown
  journal : o.journal ≡ true

abbrev Sets : Flag → Options → Options → Type 0
Sets of_summary rest o = IsShown rest o
Sets of_journal rest o = IsJournaled rest o

-- steps give options
abbrev Gives : List Step → Options → Type 0
Gives [] o = o ≡ no_options
Gives (next key v ∷ steps) o = (rest : Options) × Gives steps rest × Puts key v rest o
Gives (equals key v ∷ steps) o = (rest : Options) × Gives steps rest × Puts key v rest o
Gives (alone f ∷ steps) o = (rest : Options) × Gives steps rest × Sets f rest o

-- options with one more, if they are valid
abbrev with_key : Key → Text → Option Options → Option Options
with_key of_cycles v others = with_cycles v others
with_key of_engine v others = with_engine v others
with_key of_workers v others = with_workers v others

with_key-is : (key : Key) (v : Text) (others : Option Options) (o : Options) → with_key key v others ≡ Some o → (rest : Options) × (others ≡ Some rest) × Puts key v rest o
with_key-is of_cycles v None o e = absurd (none-some o e)
with_key-is of_cycles v (Some rest) o e =
    let found = once-is rest.cycles (λ n. record rest { cycles = Some n }) (number_of_word v) o e in
    let put = sym found.3 in (
      rest,
      refl,
      record { n = found.0; number = found.2; fresh = found.1; cycles = ap (λ (p : Options). p.cycles) put; engine = ap (λ (p : Options). p.engine) put; workers = ap (λ (p : Options). p.workers) put; shown = ap (λ (p : Options). p.shown) put; journal = ap (λ (p : Options). p.journal) put },
    )
with_key-is of_engine v None o e = absurd (none-some o e)
with_key-is of_engine v (Some rest) o e =
    let found = once-is rest.engine (λ kind. record rest { engine = Some kind }) (engine_of v) o e in
    let put = sym found.3 in (
      rest,
      refl,
      record { kind = found.0; named = found.2; fresh = found.1; cycles = ap (λ (p : Options). p.cycles) put; engine = ap (λ (p : Options). p.engine) put; workers = ap (λ (p : Options). p.workers) put; shown = ap (λ (p : Options). p.shown) put; journal = ap (λ (p : Options). p.journal) put },
    )
with_key-is of_workers v None o e = absurd (none-some o e)
with_key-is of_workers v (Some rest) o e =
    let found = once-is rest.workers (λ n. record rest { workers = Some n }) (number_of_word v) o e in
    let put = sym found.3 in (
      rest,
      refl,
      record { n = found.0; number = found.2; fresh = found.1; cycles = ap (λ (p : Options). p.cycles) put; engine = ap (λ (p : Options). p.engine) put; workers = ap (λ (p : Options). p.workers) put; shown = ap (λ (p : Options). p.shown) put; journal = ap (λ (p : Options). p.journal) put },
    )

asked-none : (s : Shown) → asked_for s ≡ None → s ≡ Report
asked-none Report e = refl
asked-none Summary e = absurd cc

with_summary-is : (others : Option Options) (o : Options) → with_summary others ≡ Some o → (rest : Options) × (others ≡ Some rest) × IsShown rest o
with_summary-is None o e = absurd (none-some o e)
with_summary-is (Some rest) o e =
    let found = once-is (asked_for rest.shown) (λ shown. record rest { shown = shown }) (Some Summary) o e in
    let put = sym found.3 in (
      rest,
      refl,
      record {
        fresh = asked-none rest.shown found.1;
        cycles = ap (λ (p : Options). p.cycles) put;
        engine = ap (λ (p : Options). p.engine) put;
        workers = ap (λ (p : Options). p.workers) put;
        shown = ap (λ (p : Options). p.shown) put ∙ sym (some_is _ _ found.2);
        journal = ap (λ (p : Options). p.journal) put;
      },
    )

with_journal-is : (others : Option Options) (o : Options) → with_journal others ≡ Some o → (rest : Options) × (others ≡ Some rest) × IsJournaled rest o
with_journal-is None o e = absurd (none-some o e)
with_journal-is (Some rest) o e =
    let found = once-is (asked_flag rest.journal) (λ journal. record rest { journal = journal }) (Some true) o e in
    let put = sym found.3 in (
      rest,
      refl,
      record {
        fresh = flag-none rest.journal found.1;
        cycles = ap (λ (p : Options). p.cycles) put;
        engine = ap (λ (p : Options). p.engine) put;
        workers = ap (λ (p : Options). p.workers) put;
        shown = ap (λ (p : Options). p.shown) put;
        journal = ap (λ (p : Options). p.journal) put ∙ sym (some_is _ _ found.2);
      },
    )

abbrev with_flag : Flag → Option Options → Option Options
with_flag of_summary others = with_summary others
with_flag of_journal others = with_journal others

with_flag-is : (f : Flag) (others : Option Options) (o : Options) → with_flag f others ≡ Some o → (rest : Options) × (others ≡ Some rest) × Sets f rest o
with_flag-is of_summary others o e = with_summary-is others o e
with_flag-is of_journal others o e = with_journal-is others o e

abbrev Found : List Text → Options → Type 0
Found words o = (steps : List Step) × (words ≡ words_of steps) × Gives steps o

module _ (word : Text) (words : List Text) (o : Options) (later : (rest : Options) → options_of words ≡ Some rest → Found words rest) where
  -- a word that is an option with its value
  equals-is : (key : Key) → bytes_eq (take (front_length key) word) (front_word key) ≡ true → with_key key (drop (front_length key) word) (options_of words) ≡ Some o → Found (word ∷ words) o
  equals-is key begins e =
      let n = front_length key in
      let front : front_word key ++ drop n word ≡ take n word ++ drop n word = ap (λ front. front ++ drop n word) (sym ((bytes_eq-Decides (take n word) (front_word key)).0 begins)) in
      let put = with_key-is key (drop n word) (options_of words) o e in
      let found = later put.0 put.1 in
      (equals key (drop n word) ∷ found.0, ap₂ (λ w ws. w ∷ ws) (sym (front ∙ take-append-drop n word)) found.1, (put.0, found.2, put.2))

  flag-is : (f : Flag) → bytes_eq word (own_word f) ≡ true → with_flag f (options_of words) ≡ Some o → Found (word ∷ words) o
  flag-is f is e =
      let put = with_flag-is f (options_of words) o e in
      let found = later put.0 put.1 in
      (alone f ∷ found.0, ap₂ (λ w ws. w ∷ ws) ((bytes_eq-Decides word (own_word f)).0 is) found.1, (put.0, found.2, put.2))

  with_word-is : with_word word (options_of words) ≡ Some o → Found (word ∷ words) o
  with_word-is e = go (bytes_eq word (codes "--summary")) (bytes_eq word (codes "--journal")) (bytes_eq (take 9 word) (codes "--cycles=")) (bytes_eq (take 9 word) (codes "--engine=")) (bytes_eq (take 10 word) (codes "--workers=")) refl refl refl refl refl e
    where
      go : (a j b c d : Bool) → bytes_eq word (codes "--summary") ≡ a → bytes_eq word (codes "--journal") ≡ j → bytes_eq (take 9 word) (codes "--cycles=") ≡ b → bytes_eq (take 9 word) (codes "--engine=") ≡ c → bytes_eq (take 10 word) (codes "--workers=") ≡ d
          → (if a then with_summary (options_of words) else if j then with_journal (options_of words) else if b then with_cycles (drop 9 word) (options_of words) else if c then with_engine (drop 9 word) (options_of words) else if d then with_workers (drop 10 word) (options_of words) else None) ≡ Some o
          → Found (word ∷ words) o
      go true j b c d is noted first second third e = flag-is of_summary is e
      go false true b c d is noted first second third e = flag-is of_journal noted e
      go false false true c d is noted first second third e = equals-is of_cycles first e
      go false false false true d is noted first second third e = equals-is of_engine second e
      go false false false false true is noted first second third e = equals-is of_workers third e
      go false false false false false is noted first second third e = absurd (none-some o e)

module _ (word value : Text) (words : List Text) (o : Options) (later : (rest : Options) → options_of words ≡ Some rest → Found words rest) where
  -- a word that is an option, and its value behind it
  next-is : (key : Key) → word ≡ flag_word key → with_key key value (options_of words) ≡ Some o → Found (word ∷ value ∷ words) o
  next-is key is e =
      let put = with_key-is key value (options_of words) o e in
      let found = later put.0 put.1 in
      (next key value ∷ found.0, ap₂ (λ w ws. w ∷ value ∷ ws) is found.1, (put.0, found.2, put.2))

  with_first-is : ((rest : Options) → options_of (value ∷ words) ≡ Some rest → Found (value ∷ words) rest) → options_of (word ∷ value ∷ words) ≡ Some o → Found (word ∷ value ∷ words) o
  with_first-is behind e = go (bytes_eq word (codes "--cycles")) (bytes_eq word (codes "--engine")) (bytes_eq word (codes "--workers")) refl refl refl e
    where
      go : (a b c : Bool) → bytes_eq word (codes "--cycles") ≡ a → bytes_eq word (codes "--engine") ≡ b → bytes_eq word (codes "--workers") ≡ c
          → (if a then with_cycles value (options_of words) else if b then with_engine value (options_of words) else if c then with_workers value (options_of words) else with_word word (options_of (value ∷ words))) ≡ Some o
          → Found (word ∷ value ∷ words) o
      go true b c is first second e = next-is of_cycles ((bytes_eq-Decides word (codes "--cycles")).0 is) e
      go false true c is first second e = next-is of_engine ((bytes_eq-Decides word (codes "--engine")).0 first) e
      go false false true is first second e = next-is of_workers ((bytes_eq-Decides word (codes "--workers")).0 second) e
      go false false false is first second e = with_word-is word (value ∷ words) o behind e

steps_of : (words : List Text) (o : Options) → options_of words ≡ Some o → Found words o
steps_of [] o e = ([], refl, sym (some_is _ o e))
steps_of (word ∷ []) o e = with_word-is word [] o (λ rest h. steps_of [] rest h) e
steps_of (word ∷ value ∷ words) o e = with_first-is word value words o (λ rest h. steps_of words rest h) (λ rest h. steps_of (value ∷ words) rest h) e

-- ---- values begin with no hyphen

engine-plain : (v : Text) (kind : EngineKind) → engine_of v ≡ Some kind → IsPlain v
engine-plain v kind e = go (bytes_eq v (codes "plain")) (bytes_eq v (codes "circuit")) refl refl e
  where
    go : (a b : Bool) → bytes_eq v (codes "plain") ≡ a → bytes_eq v (codes "circuit") ≡ b → (if a then Some Plain else if b then Some Circuit else None) ≡ Some kind → IsPlain v
    go true b is other e = record { d = 112; ds = codes "lain"; is = (bytes_eq-Decides v (codes "plain")).0 is; dash = refl }
    go false true is other e = record { d = 99; ds = codes "ircuit"; is = (bytes_eq-Decides v (codes "circuit")).0 other; dash = refl }
    go false false is other e = absurd (none-some kind e)

value-plain : (key : Key) (v : Text) (rest o : Options) → Puts key v rest o → IsPlain v
value-plain of_cycles v rest o put = number-plain v put.n put.number
value-plain of_engine v rest o put = engine-plain v put.kind put.named
value-plain of_workers v rest o put = number-plain v put.n put.number

-- ---- rows

-- what may be found: values of the three options, and that a summary or a journal is wanted
data Slot : Type 0 where
  of_value : Key → Slot
  of_flag : Flag → Slot

abbrev id_of : Slot → Text
id_of (of_value of_cycles) = codes "cycles"
id_of (of_value of_engine) = codes "engine"
id_of (of_value of_workers) = codes "workers"
id_of (of_flag of_summary) = codes "summary"
id_of (of_flag of_journal) = codes "journal"

abbrev reading_of_slot : Slot → Reading
reading_of_slot (of_value of_cycles) = reading_by (filled cycles_rule)
reading_of_slot (of_value of_engine) = reading_by (filled engine_rule)
reading_of_slot (of_value of_workers) = reading_by (filled workers_rule)
reading_of_slot (of_flag of_summary) = reading_by (filled summary_rule)
reading_of_slot (of_flag of_journal) = reading_by (filled journal_rule)

module _ (rows : List Row) (values : Slot → Option (List Text)) (known : Known id_of reading_of_slot rows values) where
  -- rows with one more
  known-used : (slot : Slot) (given : List Text) → values slot ≡ None → Known id_of reading_of_slot (used_by id_of reading_of_slot slot given rows) (with_given id_of reading_of_slot slot given values)
  known-used (of_value of_cycles) given fresh (of_value of_cycles) = found-own id_of reading_of_slot rows values known (of_value of_cycles) given fresh refl
  known-used (of_value of_cycles) given fresh (of_value of_engine) = found-other id_of reading_of_slot rows values known (of_value of_cycles) (of_value of_engine) given fresh refl
  known-used (of_value of_cycles) given fresh (of_value of_workers) = found-other id_of reading_of_slot rows values known (of_value of_cycles) (of_value of_workers) given fresh refl
  known-used (of_value of_cycles) given fresh (of_flag of_summary) = found-other id_of reading_of_slot rows values known (of_value of_cycles) (of_flag of_summary) given fresh refl
  known-used (of_value of_cycles) given fresh (of_flag of_journal) = found-other id_of reading_of_slot rows values known (of_value of_cycles) (of_flag of_journal) given fresh refl
  known-used (of_value of_engine) given fresh (of_value of_cycles) = found-other id_of reading_of_slot rows values known (of_value of_engine) (of_value of_cycles) given fresh refl
  known-used (of_value of_engine) given fresh (of_value of_engine) = found-own id_of reading_of_slot rows values known (of_value of_engine) given fresh refl
  known-used (of_value of_engine) given fresh (of_value of_workers) = found-other id_of reading_of_slot rows values known (of_value of_engine) (of_value of_workers) given fresh refl
  known-used (of_value of_engine) given fresh (of_flag of_summary) = found-other id_of reading_of_slot rows values known (of_value of_engine) (of_flag of_summary) given fresh refl
  known-used (of_value of_engine) given fresh (of_flag of_journal) = found-other id_of reading_of_slot rows values known (of_value of_engine) (of_flag of_journal) given fresh refl
  known-used (of_value of_workers) given fresh (of_value of_cycles) = found-other id_of reading_of_slot rows values known (of_value of_workers) (of_value of_cycles) given fresh refl
  known-used (of_value of_workers) given fresh (of_value of_engine) = found-other id_of reading_of_slot rows values known (of_value of_workers) (of_value of_engine) given fresh refl
  known-used (of_value of_workers) given fresh (of_value of_workers) = found-own id_of reading_of_slot rows values known (of_value of_workers) given fresh refl
  known-used (of_value of_workers) given fresh (of_flag of_summary) = found-other id_of reading_of_slot rows values known (of_value of_workers) (of_flag of_summary) given fresh refl
  known-used (of_value of_workers) given fresh (of_flag of_journal) = found-other id_of reading_of_slot rows values known (of_value of_workers) (of_flag of_journal) given fresh refl
  known-used (of_flag of_summary) given fresh (of_value of_cycles) = found-other id_of reading_of_slot rows values known (of_flag of_summary) (of_value of_cycles) given fresh refl
  known-used (of_flag of_summary) given fresh (of_value of_engine) = found-other id_of reading_of_slot rows values known (of_flag of_summary) (of_value of_engine) given fresh refl
  known-used (of_flag of_summary) given fresh (of_value of_workers) = found-other id_of reading_of_slot rows values known (of_flag of_summary) (of_value of_workers) given fresh refl
  known-used (of_flag of_summary) given fresh (of_flag of_summary) = found-own id_of reading_of_slot rows values known (of_flag of_summary) given fresh refl
  known-used (of_flag of_summary) given fresh (of_flag of_journal) = found-other id_of reading_of_slot rows values known (of_flag of_summary) (of_flag of_journal) given fresh refl
  known-used (of_flag of_journal) given fresh (of_value of_cycles) = found-other id_of reading_of_slot rows values known (of_flag of_journal) (of_value of_cycles) given fresh refl
  known-used (of_flag of_journal) given fresh (of_value of_engine) = found-other id_of reading_of_slot rows values known (of_flag of_journal) (of_value of_engine) given fresh refl
  known-used (of_flag of_journal) given fresh (of_value of_workers) = found-other id_of reading_of_slot rows values known (of_flag of_journal) (of_value of_workers) given fresh refl
  known-used (of_flag of_journal) given fresh (of_flag of_summary) = found-other id_of reading_of_slot rows values known (of_flag of_journal) (of_flag of_summary) given fresh refl
  known-used (of_flag of_journal) given fresh (of_flag of_journal) = found-own id_of reading_of_slot rows values known (of_flag of_journal) given fresh refl

-- ---- the reader goes on by an option

abbrev run_shape : Text → Shape
run_shape name = (built (run_app name)).top

abbrev run_rules : List Rule
run_rules = (run_shape []).rules

abbrev held_with : List Row → Option (Text × List Text) → Held
held_with rows pending = record { rows = rows; pending = pending; skip = 0 }

-- where the reader stands between two options
abbrev between : List Row → Option (Text × List Text) → Walk
between rows pending = record { held = held_with rows pending; waiting = idle; position = 1; is_trailing = false; stopped = None }

-- it has these rows when what is pending is settled, and that passes
record Stands (values : Slot → Option (List Text)) (w : Walk) : Type 0 where
  rows : List Row
  pending : Option (Text × List Text)
  is : w ≡ between rows pending
  passes : settle_passes run_rules false (held_with rows pending) ≡ true
  known : Known id_of reading_of_slot (settled_rows run_rules pending rows) values

-- the words pass, and behind them the reader stands so
record Reads (name : Text) (values : Slot → Option (List Text)) (w : Walk) (words : List Text) : Type 0 where
  passes : walk_passes (run_shape name) [] w words ≡ true
  stands : Stands values (fold (walked run_rules []) w words)

module _ (name : Text) (rows : List Row) (pending : Option (Text × List Text)) (settles : settle_passes run_rules false (held_with rows pending) ≡ true) where
  abbrev so_far : List Row
  so_far = settled_rows run_rules pending rows

  module _ (v : Text) where
    equals_walked : (key : Key) → walked run_rules [] (between rows pending) (front_word key ++ v) ≡ between (used_by id_of reading_of_slot (of_value key) (v ∷ []) so_far) None
    unfolding clap_on_literals
    equals_walked of_cycles = refl
    equals_walked of_engine = refl
    equals_walked of_workers = refl

    equals_passes : (key : Key) → has_row (id_of (of_value key)) so_far ≡ false → turn_passes (run_shape name) [] (between rows pending) (front_word key ++ v) ≡ true
    unfolding clap_on_literals
    equals_passes of_cycles none = simp (settles, none)
    equals_passes of_engine none = simp (settles, none)
    equals_passes of_workers none = simp (settles, none)

  flag_walked : (f : Flag) → walked run_rules [] (between rows pending) (own_word f) ≡ between (used_by id_of reading_of_slot (of_flag f) (codes "true" ∷ []) so_far) None
  unfolding clap_on_literals
  flag_walked of_summary = refl
  flag_walked of_journal = refl

  flag_passes : (f : Flag) → has_row (id_of (of_flag f)) so_far ≡ false → turn_passes (run_shape name) [] (between rows pending) (own_word f) ≡ true
  unfolding clap_on_literals
  flag_passes of_summary none = simp (settles, none)
  flag_passes of_journal none = simp (settles, none)

  module _ (d : ℕ) (ds : Text) (dash : (d == 45) ≡ false) where
    next_walked : (key : Key) → walked run_rules [] (walked run_rules [] (between rows pending) (flag_word key)) (d ∷ ds) ≡ between so_far (Some (id_of (of_value key), (d ∷ ds) ∷ []))
    unfolding clap_on_literals
    next_walked of_cycles = simp dash
    next_walked of_engine = simp dash
    next_walked of_workers = simp dash

    next_passes : (key : Key) → (turn_passes (run_shape name) [] (between rows pending) (flag_word key) && turn_passes (run_shape name) [] (walked run_rules [] (between rows pending) (flag_word key)) (d ∷ ds)) ≡ true
    unfolding clap_on_literals
    next_passes of_cycles = simp (settles, dash)
    next_passes of_engine = simp (settles, dash)
    next_passes of_workers = simp (settles, dash)

  -- the value is used when it is settled
  next_settles : (key : Key) (v : Text) → has_row (id_of (of_value key)) so_far ≡ false → settle_passes run_rules false (held_with so_far (Some (id_of (of_value key), v ∷ []))) ≡ true
  next_settles of_cycles v none = simp none
  next_settles of_engine v none = simp none
  next_settles of_workers v none = simp none

  next_used : (key : Key) (v : Text) → settled_rows run_rules (Some (id_of (of_value key), v ∷ [])) so_far ≡ used_by id_of reading_of_slot (of_value key) (v ∷ []) so_far
  next_used of_cycles v = refl
  next_used of_engine v = refl
  next_used of_workers v = refl

module _ (name : Text) (values : Slot → Option (List Text)) where
  -- what a word leaves, where what is pending settles
  word-read : (w after : Walk) (word : Text) (words : List Text) (others : Slot → Option (List Text)) → walked run_rules [] w word ≡ after → turn_passes (run_shape name) [] w word ≡ true
      → Reads name others after words → Reads name others w (word ∷ words)
  unfolding clap_on_literals
  word-read w after word words others is passes reads = record {
    passes = rw passes (rw is reads.passes);
    stands = rw is reads.stands;
  }

  -- the words of an option, from where the reader stands
  module _ (steps : List Step) (w : Walk) (stands : Stands values w) where
    equals-read : (key : Key) (v : Text) (others : Slot → Option (List Text)) → values (of_value key) ≡ None
        → ((after : Walk) → Stands (with_given id_of reading_of_slot (of_value key) (v ∷ []) values) after → Reads name others after (words_of steps)) → Reads name others w (words_of (equals key v ∷ steps))
    equals-read key v others fresh later =
        let none = none-used id_of reading_of_slot (settled_rows run_rules stands.pending stands.rows) values stands.known (of_value key) fresh in
        let so_far = settled_rows run_rules stands.pending stands.rows in
        subst (λ (from : Walk). Reads name others from (words_of (equals key v ∷ steps))) (sym stands.is)
        (word-read (between stands.rows stands.pending) _ (front_word key ++ v) (words_of steps) others (equals_walked name stands.rows stands.pending stands.passes v key) (equals_passes name stands.rows stands.pending stands.passes v key none)
        (later _ (record { rows = used_by id_of reading_of_slot (of_value key) (v ∷ []) so_far; pending = None; is = refl; passes = refl; known = known-used so_far values stands.known (of_value key) (v ∷ []) fresh })))

    flag-read : (f : Flag) (others : Slot → Option (List Text)) → values (of_flag f) ≡ None
        → ((after : Walk) → Stands (with_given id_of reading_of_slot (of_flag f) (codes "true" ∷ []) values) after → Reads name others after (words_of steps)) → Reads name others w (words_of (alone f ∷ steps))
    flag-read f others fresh later =
        let none = none-used id_of reading_of_slot (settled_rows run_rules stands.pending stands.rows) values stands.known (of_flag f) fresh in
        let so_far = settled_rows run_rules stands.pending stands.rows in
        subst (λ (from : Walk). Reads name others from (words_of (alone f ∷ steps))) (sym stands.is)
        (word-read (between stands.rows stands.pending) _ (own_word f) (words_of steps) others (flag_walked name stands.rows stands.pending stands.passes f) (flag_passes name stands.rows stands.pending stands.passes f none)
        (later _ (record { rows = used_by id_of reading_of_slot (of_flag f) (codes "true" ∷ []) so_far; pending = None; is = refl; passes = refl; known = known-used so_far values stands.known (of_flag f) (codes "true" ∷ []) fresh })))

    next-read : (key : Key) (v : Text) (others : Slot → Option (List Text)) → IsPlain v → values (of_value key) ≡ None
        → ((after : Walk) → Stands (with_given id_of reading_of_slot (of_value key) (v ∷ []) values) after → Reads name others after (words_of steps)) → Reads name others w (words_of (next key v ∷ steps))
    next-read key v others plain fresh later =
        let none = none-used id_of reading_of_slot (settled_rows run_rules stands.pending stands.rows) values stands.known (of_value key) fresh in
        let so_far = settled_rows run_rules stands.pending stands.rows in
        let start = between stands.rows stands.pending in
        let text = plain.d ∷ plain.ds in
        let both = both-true _ _ (next_passes name stands.rows stands.pending stands.passes plain.d plain.ds plain.dash key) in
        let after : Stands (with_given id_of reading_of_slot (of_value key) (v ∷ []) values) (between so_far (Some (id_of (of_value key), text ∷ []))) =
        subst (λ (t : Text). Stands (with_given id_of reading_of_slot (of_value key) (v ∷ []) values) (between so_far (Some (id_of (of_value key), t ∷ [])))) plain.is
        (record {
          rows = so_far;
          pending = Some (id_of (of_value key), v ∷ []);
          is = refl;
          passes = next_settles name stands.rows stands.pending stands.passes key v none;
          known = subst (λ (rows : List Row). Known id_of reading_of_slot rows (with_given id_of reading_of_slot (of_value key) (v ∷ []) values)) (sym (next_used name stands.rows stands.pending stands.passes key v)) (known-used so_far values stands.known (of_value key) (v ∷ []) fresh);
        }) in
        subst (λ (from : Walk). Reads name others from (words_of (next key v ∷ steps))) (sym stands.is)
        (subst (λ (t : Text). Reads name others start (flag_word key ∷ t ∷ words_of steps)) (sym plain.is)
        (word-read start _ (flag_word key) (text ∷ words_of steps) others refl both.0
        (word-read _ _ text (words_of steps) others (next_walked name stands.rows stands.pending stands.passes plain.d plain.ds plain.dash key) both.1
        (later _ after))))

-- ---- all the options

-- the values that steps give, behind those that there are
abbrev all_values : List Step → (Slot → Option (List Text)) → Slot → Option (List Text)
all_values [] values = values
all_values (next key v ∷ steps) values = all_values steps (with_given id_of reading_of_slot (of_value key) (v ∷ []) values)
all_values (equals key v ∷ steps) values = all_values steps (with_given id_of reading_of_slot (of_value key) (v ∷ []) values)
all_values (alone f ∷ steps) values = all_values steps (with_given id_of reading_of_slot (of_flag f) (codes "true" ∷ []) values)

-- nothing is there yet of what options give
record AreFree (o : Options) (values : Slot → Option (List Text)) : Type 0 where
  cycles : is_some o.cycles ≡ true → values (of_value of_cycles) ≡ None
  engine : is_some o.engine ≡ true → values (of_value of_engine) ≡ None
  workers : is_some o.workers ≡ true → values (of_value of_workers) ≡ None
  shown : o.shown ≡ Summary → values (of_flag of_summary) ≡ None
  journal : o.journal ≡ true → values (of_flag of_journal) ≡ None

report-summary : (s : Shown) → s ≡ Report → s ≡ Summary → ⊥
report-summary s e f = let bad : Report ≡ Summary = sym e ∙ f in absurd cc

module _ (values : Slot → Option (List Text)) (rest o : Options) (free : AreFree o values) where
  key-fresh : (key : Key) (v : Text) → Puts key v rest o → values (of_value key) ≡ None
  key-fresh of_cycles v put = free.cycles (ap is_some put.cycles)
  key-fresh of_engine v put = free.engine (ap is_some put.engine)
  key-fresh of_workers v put = free.workers (ap is_some put.workers)

  key-free : (key : Key) (v : Text) → Puts key v rest o → AreFree rest (with_given id_of reading_of_slot (of_value key) (v ∷ []) values)
  key-free of_cycles v put = record {
    cycles = λ s. absurd (none-there rest.cycles put.fresh s);
    engine = λ s. free.engine (ap is_some put.engine ∙ s);
    workers = λ s. free.workers (ap is_some put.workers ∙ s);
    shown = λ s. free.shown (put.shown ∙ s);
    journal = λ s. free.journal (put.journal ∙ s);
  }
  key-free of_engine v put = record {
    cycles = λ s. free.cycles (ap is_some put.cycles ∙ s);
    engine = λ s. absurd (none-there rest.engine put.fresh s);
    workers = λ s. free.workers (ap is_some put.workers ∙ s);
    shown = λ s. free.shown (put.shown ∙ s);
    journal = λ s. free.journal (put.journal ∙ s);
  }
  key-free of_workers v put = record {
    cycles = λ s. free.cycles (ap is_some put.cycles ∙ s);
    engine = λ s. free.engine (ap is_some put.engine ∙ s);
    workers = λ s. absurd (none-there rest.workers put.fresh s);
    shown = λ s. free.shown (put.shown ∙ s);
    journal = λ s. free.journal (put.journal ∙ s);
  }

  flag-fresh : (f : Flag) → Sets f rest o → values (of_flag f) ≡ None
  flag-fresh of_summary put = free.shown put.shown
  flag-fresh of_journal put = free.journal put.journal

  flag-free : (f : Flag) → Sets f rest o → AreFree rest (with_given id_of reading_of_slot (of_flag f) (codes "true" ∷ []) values)
  flag-free of_summary put = record {
    cycles = λ s. free.cycles (ap is_some put.cycles ∙ s);
    engine = λ s. free.engine (ap is_some put.engine ∙ s);
    workers = λ s. free.workers (ap is_some put.workers ∙ s);
    shown = λ s. absurd (report-summary rest.shown put.fresh s);
    journal = λ s. free.journal (put.journal ∙ s);
  }
  flag-free of_journal put = record {
    cycles = λ s. free.cycles (ap is_some put.cycles ∙ s);
    engine = λ s. free.engine (ap is_some put.engine ∙ s);
    workers = λ s. free.workers (ap is_some put.workers ∙ s);
    shown = λ s. free.shown (put.shown ∙ s);
    journal = λ s. absurd (true≢false (sym s ∙ put.fresh));
  }

all-read : (name : Text) (steps : List Step) (o : Options) (values : Slot → Option (List Text)) (w : Walk) → Gives steps o → AreFree o values → Stands values w → Reads name (all_values steps values) w (words_of steps)
unfolding clap_on_literals
all-read name [] o values w gives free stands = record { passes = refl; stands = stands }
all-read name (next key v ∷ steps) o values w gives free stands =
    next-read name values steps w stands key v _ (value-plain key v gives.0 o gives.2) (key-fresh values gives.0 o free key v gives.2)
    (λ after stands'. all-read name steps gives.0 _ after gives.1 (key-free values gives.0 o free key v gives.2) stands')
all-read name (equals key v ∷ steps) o values w gives free stands =
    equals-read name values steps w stands key v _ (key-fresh values gives.0 o free key v gives.2)
    (λ after stands'. all-read name steps gives.0 _ after gives.1 (key-free values gives.0 o free key v gives.2) stands')
all-read name (alone f ∷ steps) o values w gives free stands =
    flag-read name values steps w stands f _ (flag-fresh values gives.0 o free f gives.2)
    (λ after stands'. all-read name steps gives.0 _ after gives.1 (flag-free values gives.0 o free f gives.2) stands')

-- ---- what they are read as

abbrev flag_values : Shown → Option (List Text) → Option (List Text)
flag_values Report given = given
flag_values Summary given = Some (codes "true" ∷ [])

abbrev journal_values : Bool → Option (List Text) → Option (List Text)
journal_values false given = given
journal_values true given = Some (codes "true" ∷ [])

-- values are read as options, where those that the options don't give were there before
record AreReadAs (o : Options) (before values : Slot → Option (List Text)) : Type 0 where
  cycles : first_as number_of_word (values (of_value of_cycles)) ≡ option_or o.cycles (first_as number_of_word (before (of_value of_cycles)))
  engine : first_as engine_of (values (of_value of_engine)) ≡ option_or o.engine (first_as engine_of (before (of_value of_engine)))
  workers : first_as number_of_word (values (of_value of_workers)) ≡ option_or o.workers (first_as number_of_word (before (of_value of_workers)))
  shown : values (of_flag of_summary) ≡ flag_values o.shown (before (of_flag of_summary))
  journal : values (of_flag of_journal) ≡ journal_values o.journal (before (of_flag of_journal))

module _ (rest o : Options) (before values : Slot → Option (List Text)) where
  key-read : (key : Key) (v : Text) → Puts key v rest o → AreReadAs rest (with_given id_of reading_of_slot (of_value key) (v ∷ []) before) values → AreReadAs o before values
  key-read of_cycles v put read = record {
    cycles = read.cycles ∙ ap₂ option_or put.fresh put.number ∙ ap (λ (own : Option ℕ). option_or own (first_as number_of_word (before (of_value of_cycles)))) (sym put.cycles);
    engine = read.engine ∙ ap (λ (own : Option EngineKind). option_or own (first_as engine_of (before (of_value of_engine)))) (sym put.engine);
    workers = read.workers ∙ ap (λ (own : Option ℕ). option_or own (first_as number_of_word (before (of_value of_workers)))) (sym put.workers);
    shown = read.shown ∙ ap (λ (own : Shown). flag_values own (before (of_flag of_summary))) (sym put.shown);
    journal = read.journal ∙ ap (λ (own : Bool). journal_values own (before (of_flag of_journal))) (sym put.journal);
  }
  key-read of_engine v put read = record {
    cycles = read.cycles ∙ ap (λ (own : Option ℕ). option_or own (first_as number_of_word (before (of_value of_cycles)))) (sym put.cycles);
    engine = read.engine ∙ ap₂ option_or put.fresh put.named ∙ ap (λ (own : Option EngineKind). option_or own (first_as engine_of (before (of_value of_engine)))) (sym put.engine);
    workers = read.workers ∙ ap (λ (own : Option ℕ). option_or own (first_as number_of_word (before (of_value of_workers)))) (sym put.workers);
    shown = read.shown ∙ ap (λ (own : Shown). flag_values own (before (of_flag of_summary))) (sym put.shown);
    journal = read.journal ∙ ap (λ (own : Bool). journal_values own (before (of_flag of_journal))) (sym put.journal);
  }
  key-read of_workers v put read = record {
    cycles = read.cycles ∙ ap (λ (own : Option ℕ). option_or own (first_as number_of_word (before (of_value of_cycles)))) (sym put.cycles);
    engine = read.engine ∙ ap (λ (own : Option EngineKind). option_or own (first_as engine_of (before (of_value of_engine)))) (sym put.engine);
    workers = read.workers ∙ ap₂ option_or put.fresh put.number ∙ ap (λ (own : Option ℕ). option_or own (first_as number_of_word (before (of_value of_workers)))) (sym put.workers);
    shown = read.shown ∙ ap (λ (own : Shown). flag_values own (before (of_flag of_summary))) (sym put.shown);
    journal = read.journal ∙ ap (λ (own : Bool). journal_values own (before (of_flag of_journal))) (sym put.journal);
  }

  flag-read-as : (f : Flag) → Sets f rest o → AreReadAs rest (with_given id_of reading_of_slot (of_flag f) (codes "true" ∷ []) before) values → AreReadAs o before values
  flag-read-as of_summary put read = record {
    cycles = read.cycles ∙ ap (λ (own : Option ℕ). option_or own (first_as number_of_word (before (of_value of_cycles)))) (sym put.cycles);
    engine = read.engine ∙ ap (λ (own : Option EngineKind). option_or own (first_as engine_of (before (of_value of_engine)))) (sym put.engine);
    workers = read.workers ∙ ap (λ (own : Option ℕ). option_or own (first_as number_of_word (before (of_value of_workers)))) (sym put.workers);
    shown = read.shown ∙ ap (λ (own : Shown). flag_values own (Some (codes "true" ∷ []))) put.fresh ∙ ap (λ (own : Shown). flag_values own (before (of_flag of_summary))) (sym put.shown);
    journal = read.journal ∙ ap (λ (own : Bool). journal_values own (before (of_flag of_journal))) (sym put.journal);
  }
  flag-read-as of_journal put read = record {
    cycles = read.cycles ∙ ap (λ (own : Option ℕ). option_or own (first_as number_of_word (before (of_value of_cycles)))) (sym put.cycles);
    engine = read.engine ∙ ap (λ (own : Option EngineKind). option_or own (first_as engine_of (before (of_value of_engine)))) (sym put.engine);
    workers = read.workers ∙ ap (λ (own : Option ℕ). option_or own (first_as number_of_word (before (of_value of_workers)))) (sym put.workers);
    shown = read.shown ∙ ap (λ (own : Shown). flag_values own (before (of_flag of_summary))) (sym put.shown);
    journal = read.journal ∙ ap (λ (own : Bool). journal_values own (Some (codes "true" ∷ []))) put.fresh ∙ ap (λ (own : Bool). journal_values own (before (of_flag of_journal))) (sym put.journal);
  }

all-read-as : (steps : List Step) (o : Options) (before : Slot → Option (List Text)) → Gives steps o → AreReadAs o before (all_values steps before)
all-read-as [] o before gives = record {
  cycles = ap (λ (p : Options). option_or p.cycles (first_as number_of_word (before (of_value of_cycles)))) (sym gives);
  engine = ap (λ (p : Options). option_or p.engine (first_as engine_of (before (of_value of_engine)))) (sym gives);
  workers = ap (λ (p : Options). option_or p.workers (first_as number_of_word (before (of_value of_workers)))) (sym gives);
  shown = ap (λ (p : Options). flag_values p.shown (before (of_flag of_summary))) (sym gives);
  journal = ap (λ (p : Options). journal_values p.journal (before (of_flag of_journal))) (sym gives);
}
all-read-as (next key v ∷ steps) o before gives = key-read gives.0 o before _ key v gives.2 (all-read-as steps gives.0 (with_given id_of reading_of_slot (of_value key) (v ∷ []) before) gives.1)
all-read-as (equals key v ∷ steps) o before gives = key-read gives.0 o before _ key v gives.2 (all-read-as steps gives.0 (with_given id_of reading_of_slot (of_value key) (v ∷ []) before) gives.1)
all-read-as (alone f ∷ steps) o before gives = flag-read-as gives.0 o before _ f gives.2 (all-read-as steps gives.0 (with_given id_of reading_of_slot (of_flag f) (codes "true" ∷ []) before) gives.1)

gen_taken : (d : ℕ) (ds : Text) → (d == 45) ≡ false → (takes gen_app ((d ∷ ds) ∷ []) ≡ true) × (first_of (codes "stages") (matches_of gen_app ((d ∷ ds) ∷ [])) ≡ Some (d ∷ ds))
unfolding clap_on_literals
gen_taken d ds dash = (simp dash, simp dash)

pub run_is_simple : (name : Text) → is_simple (run_app name) ≡ true
run_is_simple name = refl

pub gen_is_simple : is_simple gen_app ≡ true
gen_is_simple = refl

-- ---- what is built

pub run_app-is : (name : Text) (b first second third fourth whole : Command) (cycles engine workers summary journal : Arg) → app_of b ≡ bare name → AddsArg b cycles first → AddsArg first engine second → AddsArg second workers third → AddsArg third summary fourth
    → AddsArg fourth journal whole → rule_of cycles ≡ cycles_rule → rule_of engine ≡ engine_rule → rule_of workers ≡ workers_rule → rule_of summary ≡ summary_rule → rule_of journal ≡ journal_rule
    → cycles.global ≡ false → engine.global ≡ false → workers.global ≡ false → summary.global ≡ false → journal.global ≡ false → app_of whole ≡ run_app name
run_app-is name b first second third fourth whole cycles engine count shows notes begun one two three four five cycles_is engine_is workers_is summary_is journal_is here there beside behind last =
    five.shape last ∙ ap₂ with_rule (four.shape behind ∙ ap₂ with_rule (three.shape beside ∙ ap₂ with_rule (two.shape there ∙ ap₂ with_rule (one.shape here ∙ ap₂ with_rule begun cycles_is) engine_is) workers_is) summary_is) journal_is

pub gen_app-is : (b whole : Command) (stages : Arg) → app_of b ≡ bare (codes "gen") → AddsArg b stages whole → rule_of stages ≡ stages_rule → stages.global ≡ false → app_of whole ≡ gen_app
gen_app-is b whole stages begun one stages_is here = one.shape here ∙ ap₂ with_rule begun stages_is

-- what a flag says of the summary is what was found of it
pub shown_by_flag : (one : Option Text) (flag : Bool) (o s : Shown) → one ≡ Some (flag_of o) → (one ≡ Some (codes "true") → flag ≡ true) → (one ≡ Some (codes "false") → flag ≡ false)
    → ((flag ≡ true) × (s ≡ Summary)) ⊎ ((flag ≡ false) × (s ≡ Report)) → s ≡ o
shown_by_flag one flag Report s e on off (inl (t, is)) = absurd (true≢false (sym t ∙ off e))
shown_by_flag one flag Report s e on off (inr (f, is)) = is
shown_by_flag one flag Summary s e on off (inl (t, is)) = is
shown_by_flag one flag Summary s e on off (inr (f, is)) = absurd (true≢false (sym (on e) ∙ f))

-- what it says of the journal
pub journal_by_flag : (one : Option Text) (flag o : Bool) → one ≡ Some (flag_text o) → (one ≡ Some (codes "true") → flag ≡ true) → (one ≡ Some (codes "false") → flag ≡ false) → flag ≡ o
journal_by_flag one flag false e on off = off e
journal_by_flag one flag true e on off = on e

-- options are what they have
pub options_same : (a b : Options) → a.cycles ≡ b.cycles → a.engine ≡ b.engine → a.workers ≡ b.workers → a.shown ≡ b.shown → a.journal ≡ b.journal → a ≡ b
options_same a b cycles engine count shown journal = rw cycles (rw engine (rw count (rw shown (rw journal refl))))

-- ---- what is found

-- the words are taken, and what is found gives the options
pub record IsRead (name : Text) (words : List Text) (o : Options) : Type 0 where
  pub taken : takes (run_app name) words ≡ true
  pub gives : Give (matches_of (run_app name) words) o

-- without a value of its own, an option has none
module _ (rows : List Row) where
  plain-default : (rule : Rule) → rule.defaults ≡ [] → with_default rows rule ≡ rows
  plain-default rule none = rw none (go (has_row rule.id rows))
    where
      go : (b : Bool) → (if b then rows else rows) ≡ rows
      go true = refl
      go false = refl

abbrev flag_filled : Flag → Rule
flag_filled of_summary = filled summary_rule
flag_filled of_journal = filled journal_rule

abbrev default_row : Flag → Row
default_row f = record { id = id_of (of_flag f); values = codes "false" ∷ []; count = None; source = Some DefaultValue; reading = reading_of_slot (of_flag f) }

-- the rows with what a flag says by default, where it isn't given
record Defaults (f : Flag) (rows final : List Row) (given : Bool) : Type 0 where
  others : (slot : Slot) → bytes_eq (id_of (of_flag f)) (id_of slot) ≡ false → row_of_id (id_of slot) final ≡ row_of_id (id_of slot) rows
  own : one_of (id_of (of_flag f)) final ≡ Some (flag_text given)

module _ (rows : List Row) where
  default-none : (f : Flag) → row_of_id (id_of (of_flag f)) rows ≡ None → with_default rows (flag_filled f) ≡ rows ++ (default_row f ∷ [])
  default-none of_summary none =
      rw (has-found (codes "summary") rows ∙ ap is_some none) (with_row-is (codes "summary") (reading_of_slot (of_flag of_summary)) DefaultValue (codes "false" ∷ []) rows none)
  default-none of_journal none =
      rw (has-found (codes "journal") rows ∙ ap is_some none) (with_row-is (codes "journal") (reading_of_slot (of_flag of_journal)) DefaultValue (codes "false" ∷ []) rows none)

  default-some : (f : Flag) (r : Row) → row_of_id (id_of (of_flag f)) rows ≡ Some r → with_default rows (flag_filled f) ≡ rows
  default-some of_summary r there = rw (has-found (codes "summary") rows ∙ ap is_some there) refl
  default-some of_journal r there = rw (has-found (codes "journal") rows ∙ ap is_some there) refl

  own-id : (f : Flag) → row_of_id (id_of (of_flag f)) (default_row f ∷ []) ≡ Some (default_row f)
  own-id of_summary = refl
  own-id of_journal = refl

  own-text : (f : Flag) → row_text (default_row f) ≡ Some (codes "false")
  own-text of_summary = refl
  own-text of_journal = refl

  given-text : (f : Flag) → row_text (row_for id_of reading_of_slot (of_flag f) (codes "true" ∷ [])) ≡ Some (codes "true")
  given-text of_summary = refl
  given-text of_journal = refl

  defaulted : (f : Flag) (given : Bool) → row_of_id (id_of (of_flag f)) rows ≡ option_map (row_for id_of reading_of_slot (of_flag f)) (journal_values given None) → Defaults f rows (with_default rows (flag_filled f)) given
  defaulted f false none =
      let is = default-none f none in
      let found : (id : Text) → row_of_id id (with_default rows (flag_filled f)) ≡ option_or (row_of_id id rows) (row_of_id id (default_row f ∷ [])) =
      λ id. ap (row_of_id id) is ∙ find-append (λ (r : Row). bytes_eq r.id id) rows (default_row f ∷ []) in
      record {
        others = λ slot differ. found (id_of slot) ∙ ap (λ (b : Bool). option_or (row_of_id (id_of slot) rows) (cond b (Some (default_row f)) None)) differ ∙ or-none (row_of_id (id_of slot) rows);
        own = ap (option_and_then row_text) (found (id_of (of_flag f)) ∙ ap₂ option_or none (own-id f)) ∙ own-text f;
      }
  defaulted f true there =
      let is = default-some f _ there in
      record {
        others = λ slot differ. ap (row_of_id (id_of slot)) is;
        own = ap (one_of (id_of (of_flag f))) is ∙ ap (option_and_then row_text) there ∙ given-text f;
      }

-- the rows after all words have the rows of these options, and whether a summary and a journal are wanted
record IsFinished (rows final : List Row) (shown : Shown) (journal : Bool) : Type 0 where
  values : (key : Key) → row_of_id (id_of (of_value key)) final ≡ row_of_id (id_of (of_value key)) rows
  flag : one_of (codes "summary") final ≡ Some (flag_of shown)
  noted : one_of (codes "journal") final ≡ Some (flag_text journal)

abbrev is_summary : Shown → Bool
is_summary Report = false
is_summary Summary = true

shown-text : (s : Shown) → flag_text (is_summary s) ≡ flag_of s
shown-text Report = refl
shown-text Summary = refl

shown-values : (s : Shown) → flag_values s None ≡ journal_values (is_summary s) None
shown-values Report = refl
shown-values Summary = refl

abbrev all_defaults : List Row → List Row
all_defaults rows = with_default (with_default rows (flag_filled of_summary)) (flag_filled of_journal)

module _ (rows : List Row) (values : Slot → Option (List Text)) (known : Known id_of reading_of_slot rows values) where
  finish : (shown : Shown) (journal : Bool) → values (of_flag of_summary) ≡ flag_values shown None → values (of_flag of_journal) ≡ journal_values journal None → IsFinished rows (all_defaults rows) shown journal
  finish shown journal told noted =
      let first = defaulted rows of_summary (is_summary shown) (known (of_flag of_summary) ∙ ap (option_map (row_for id_of reading_of_slot (of_flag of_summary))) (told ∙ shown-values shown)) in
      let second = defaulted (with_default rows (flag_filled of_summary)) of_journal journal
      (first.others (of_flag of_journal) refl ∙ known (of_flag of_journal) ∙ ap (option_map (row_for id_of reading_of_slot (of_flag of_journal))) noted) in
      record {
        values = λ key. second.others (of_value key) (not-journal key) ∙ first.others (of_value key) (not-summary key);
        flag = ap (option_and_then row_text) (second.others (of_flag of_summary) refl) ∙ first.own ∙ ap (λ (t : Text). Some t) (shown-text shown);
        noted = second.own;
      }
    where
      not-journal : (key : Key) → bytes_eq (codes "journal") (id_of (of_value key)) ≡ false
      not-journal of_cycles = refl
      not-journal of_engine = refl
      not-journal of_workers = refl

      not-summary : (key : Key) → bytes_eq (codes "summary") (id_of (of_value key)) ≡ false
      not-summary of_cycles = refl
      not-summary of_engine = refl
      not-summary of_workers = refl

  finished-is : (pending : Option (Text × List Text)) (before : List Row) → settled_rows run_rules pending before ≡ rows → finished run_rules (held_with before pending) ≡ all_defaults rows
  finished-is pending before is =
      rw is
      (ap (λ (first : List Row). all_defaults (with_default (with_default first (filled engine_rule)) (filled workers_rule))) (plain-default rows (filled cycles_rule) refl)
      ∙ ap (λ (second : List Row). all_defaults (with_default second (filled workers_rule))) (plain-default rows (filled engine_rule) refl)
      ∙ ap (λ (third : List Row). all_defaults third) (plain-default rows (filled workers_rule) refl))

-- what is read of a row is read of its values
read-through : {X : Type 0} (read : Text → Option X) (slot : Slot) (found : Option (List Text)) → option_and_then read (option_and_then (λ (r : Row). slice_get r.values 0) (option_map (row_for id_of reading_of_slot slot) found)) ≡ first_as read found
read-through read slot None = refl
read-through read slot (Some texts) = refl

-- a row that the words gave
given-through : (found : Option (List Text)) (n : ℕ) → first_as number_of_word found ≡ Some n → (final : List Row) → row_of_id (codes "cycles") final ≡ option_map (row_for id_of reading_of_slot (of_value of_cycles)) found → is_given (codes "cycles") final ≡ true
given-through None n e final is = absurd (none-some n e)
given-through (Some texts) n e final is = rw is refl

abbrev nothing : Slot → Option (List Text)
nothing slot = None

all-free : (o : Options) → AreFree o nothing
all-free o = record { cycles = λ s. refl; engine = λ s. refl; workers = λ s. refl; shown = λ s. refl; journal = λ s. refl }

none-known : Known id_of reading_of_slot [] nothing
none-known (of_value of_cycles) = refl
none-known (of_value of_engine) = refl
none-known (of_value of_workers) = refl
none-known (of_flag of_summary) = refl
none-known (of_flag of_journal) = refl

first-stands : Stands nothing (walk_from nothing_held)
first-stands = record { rows = []; pending = None; is = refl; passes = refl; known = none-known }

module _ (name : Text) (words : List Text) (o : Options) (values : Slot → Option (List Text)) (reads : Reads name values (walk_from nothing_held) words) (told : AreReadAs o nothing values) (n : ℕ) (cycles : o.cycles ≡ Some n) where
  abbrev so : List Row
  so = settled_rows run_rules reads.stands.pending reads.stands.rows

  abbrev final : List Row
  final = all_defaults so

  end : finished run_rules (walk run_rules [] nothing_held words).held ≡ final
  end = ap (λ (w : Walk). finished run_rules w.held) reads.stands.is ∙ finished-is so values reads.stands.known reads.stands.pending reads.stands.rows refl

  is-finished : IsFinished so final o.shown o.journal
  is-finished = finish so values reads.stands.known o.shown o.journal told.shown told.journal

  row-is : (key : Key) → row_of_id (id_of (of_value key)) final ≡ option_map (row_for id_of reading_of_slot (of_value key)) (values (of_value key))
  row-is key = is-finished.values key ∙ reads.stands.known (of_value key)

  own-cycles : first_as number_of_word (values (of_value of_cycles)) ≡ o.cycles
  own-cycles = told.cycles ∙ or-none o.cycles

  given : is_given (codes "cycles") (finished run_rules (held_with reads.stands.rows reads.stands.pending)) ≡ true
  given =
      ap (is_given (codes "cycles")) (finished-is so values reads.stands.known reads.stands.pending reads.stands.rows refl)
      ∙ given-through (values (of_value of_cycles)) n (own-cycles ∙ cycles) final (row-is of_cycles)

  are-taken : takes (run_app name) words ≡ true
  unfolding clap_on_literals
  are-taken = rw reads.passes (rw reads.stands.is (simp (reads.stands.passes, given)))

  are-read : IsRead name words o
  are-read = record {
    taken = are-taken;
    gives = subst (λ (rows : List Row). Give rows o) (sym end) (record {
      cycles = ap (λ found. option_and_then number_of_word (option_and_then (λ (r : Row). slice_get r.values 0) found)) (row-is of_cycles) ∙ read-through number_of_word (of_value of_cycles) (values (of_value of_cycles)) ∙ own-cycles;
      engine = ap (λ found. option_and_then engine_of (option_and_then (λ (r : Row). slice_get r.values 0) found)) (row-is of_engine) ∙ read-through engine_of (of_value of_engine) (values (of_value of_engine)) ∙ told.engine ∙ or-none o.engine;
      workers = ap (λ found. option_and_then number_of_word (option_and_then (λ (r : Row). slice_get r.values 0) found)) (row-is of_workers) ∙ read-through number_of_word (of_value of_workers) (values (of_value of_workers)) ∙ told.workers ∙ or-none o.workers;
      shown = is-finished.flag;
      journal = is-finished.noted;
    });
  }

-- the cycles are there
cycles-there : (journal : Bool) (c : Option ℕ) (shown : Shown) (engine : Option EngineKind) (workers : Option ℕ)
    → is_some (if journal then journal_by c shown engine workers else sim_by c shown (engine_by engine workers)) ≡ true → (n : ℕ) × (c ≡ Some n)
cycles-there true None shown engine workers e = absurd (true≢false (sym e))
cycles-there false None shown engine workers e = absurd (true≢false (sym e))
cycles-there journal (Some n) shown engine workers e = (n, refl)

-- valid words are read as the options that they give
pub words_are_read : (name : Text) (words : List Text) → is_some (sim_of (options_of words)) ≡ true
    → (o : Options) × (options_of words ≡ Some o) × IsRead name words o
words_are_read name words valid = go (options_of words) refl valid
  where
    go : (found : Option Options) → options_of words ≡ found → is_some (sim_of found) ≡ true → (o : Options) × (options_of words ≡ Some o) × IsRead name words o
    go None is valid = absurd (true≢false (sym valid))
    go (Some o) is valid =
        let found = steps_of words o is in
        let there = cycles-there o.journal o.cycles o.shown o.engine o.workers valid in
        let reads = all-read name found.0 o nothing (walk_from nothing_held) found.2 (all-free o) first-stands in
        (o, is, subst (λ ws. IsRead name ws o) (sym found.1) (are-read name (words_of found.0) o _ reads (all-read-as found.0 o nothing found.2) there.0 there.1))

-- the word of `gen`, if it is valid, is taken and found
pub stages_are_read : (words : List Text) → is_some (gen_of words) ≡ true
    → (takes gen_app words ≡ true) × (gen_of words ≡ gen_by (number_in (codes "stages") (matches_of gen_app words)))
stages_are_read [] valid = absurd (true≢false (sym valid))
stages_are_read (word ∷ []) valid = go word (number_of_word word) refl valid
  where
    go : (word : Text) (m : Option ℕ) → number_of_word word ≡ m → is_some (gen_by m) ≡ true
        → (takes gen_app (word ∷ []) ≡ true) × (gen_by (number_of_word word) ≡ gen_by (number_in (codes "stages") (matches_of gen_app (word ∷ []))))
    go word None is valid = absurd (true≢false (sym valid))
    go [] (Some n) is valid = absurd (no_number n is)
    go (d ∷ ds) (Some n) is valid =
        let found = gen_taken d ds (dash-first d ds n is) in
        (found.0, ap (λ o. gen_by (option_and_then number_of_word o)) (sym found.1))
stages_are_read (word ∷ more ∷ words) valid = absurd (true≢false (sym valid))
